use Rattle.star_schema.{specs.Dictionary.dictionary_of, proofs.Dictionaries.IsDictionary-dictionary_of, proofs.TextIndexes.{nat_lt-high_in, nat_lt-low_in, nat_cmp-indexes}}
use Rattle.star_schema.proofs.law.codes_compare_as_texts.Goals as goal

pub returns : goal.returns
returns c = record {
  codes = λ texts a b m n at_m at_n. nat_cmp-indexes (dictionary_of texts)
      (IsDictionary-dictionary_of texts).sorted m n a b at_m at_n;
  low = λ texts text bound code h. nat_lt-low_in (dictionary_of texts)
      (IsDictionary-dictionary_of texts).sorted code text bound h;
  high = λ texts text bound code h. nat_lt-high_in (dictionary_of texts)
      (IsDictionary-dictionary_of texts).sorted code text bound h;
}
