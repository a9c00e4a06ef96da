use Rattle.std.proofs.Common.{length, refl}
use Rattle.star_column.{specs.Private.Words.{numbers_in, word_bits}, proofs.Numbers.{coded_column, width_of_column}}
use Rattle.star_column.proofs.text.TextColumn.encode.Goals as goal

pub invariant_of-result : goal.invariant_of-result
invariant_of-result c =
    let sorted = c.in_ok-dictionary.ensures.sorted in (
      (coded_column c.in_ok-dictionary.dictionary (numbers_in c.in_ok-dictionary.codes)
          c.args.texts.now
          c.in_ok-dictionary.ensures.texts c.in_ok-dictionary.ensures.repeated sorted c.requires
          (numbers_in c.in_ok-dictionary.codes) refl).0,
      width_of_column c.in_ok-dictionary.dictionary (numbers_in c.in_ok-dictionary.codes)
          c.args.texts.now
          c.in_ok-dictionary.ensures.texts c.in_ok-dictionary.ensures.repeated sorted c.requires
          (numbers_in c.in_ok-dictionary.codes) refl
          (word_bits c.in_ok-dictionary.codes) (length c.in_ok-dictionary.dictionary) refl
          c.in_ok-dictionary.ensures.width,
    )
