use Rattle.std.proofs.Common.{sym}
use Rattle.star_schema.{specs.Dictionary.dictionary_of, proofs.TextIndexes.{has_code, high_in-index, low_in-index}, proofs.Dictionaries.IsDictionary-dictionary_of}
use Rattle.star_schema.proofs.law.texts_have_one_code.Goals as goal

pub returns : goal.returns
returns c = record {
  some = has_code;
  one = λ texts text code h. sym
      (low_in-index (dictionary_of texts) (IsDictionary-dictionary_of texts).sorted code text h);
  next = λ texts text code h. high_in-index (dictionary_of texts)
      (IsDictionary-dictionary_of texts).sorted code text h;
}
