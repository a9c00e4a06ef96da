use Rattle.std.{proofs.Common.{◌∙◌, ap, subst, sym}, proofs.lemmas.List.map-id, specs.List.All}
use Rattle.star_interval.specs.{Interval.range_of, Range.Holds}
use Rattle.star_column.specs.Private.Words.{numbers_above, numbers_in}
use Rattle.star_column.proofs.words.Words.gather.Goals as goal

pub gather-requires-clause-held : goal.gather-requires-clause-held
gather-requires-clause-held c =
    subst (λ numbers. All (Holds (range_of c.args.bounds))
    (numbers_above c.args.bounds.low numbers))
    (ap numbers_in c.in-Bits8.is ∙ sym c.as_slice.ensures.value
    ∙ sym (map-id c.as_slice.result.now)) c.requires.held

pub gather-requires-in-Bits16-clause-held : goal.gather-requires-in-Bits16-clause-held
gather-requires-in-Bits16-clause-held c =
    subst (λ numbers. All (Holds (range_of c.args.bounds))
    (numbers_above c.args.bounds.low numbers))
    (ap numbers_in c.in-Bits16.is ∙ sym c.as_slice-in-Bits16.ensures.value
    ∙ sym (map-id c.as_slice-in-Bits16.result.now)) c.requires.held

pub gather-requires-in-Bits32-clause-held : goal.gather-requires-in-Bits32-clause-held
gather-requires-in-Bits32-clause-held c =
    subst (λ numbers. All (Holds (range_of c.args.bounds))
    (numbers_above c.args.bounds.low numbers))
    (ap numbers_in c.in-Bits32.is ∙ sym c.as_slice-in-Bits32.ensures.value
    ∙ sym (map-id c.as_slice-in-Bits32.result.now)) c.requires.held

pub gather-requires-in-Bits64-clause-held : goal.gather-requires-in-Bits64-clause-held
gather-requires-in-Bits64-clause-held c =
    subst (λ numbers. All (Holds (range_of c.args.bounds))
    (numbers_above c.args.bounds.low numbers))
    (ap numbers_in c.in-Bits64.is ∙ sym c.as_slice-in-Bits64.ensures.value
    ∙ sym (map-id c.as_slice-in-Bits64.result.now)) c.requires.held
