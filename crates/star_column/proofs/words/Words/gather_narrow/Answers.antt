use Rattle.std.{proofs.Common.{◌∙◌, ◌<◌, ◌^◌, ap, subst, sym}, specs.List.All, proofs.lemmas.List.map-id}
use Rattle.star_column.specs.Private.Words.{numbers_in}
use Rattle.star_column.proofs.words.Words.gather_narrow.Goals as goal

pub gather_narrow-requires-clause-narrow : goal.gather_narrow-requires-clause-narrow
gather_narrow-requires-clause-narrow c =
    subst (All (λ number. number < 2 ^ 32))
    (ap numbers_in c.in-Bits8.is ∙ sym c.as_slice.ensures.value
    ∙ sym (map-id c.as_slice.result.now)) c.requires.narrow

pub gather_narrow-requires-in-Bits16-clause-narrow :
    goal.gather_narrow-requires-in-Bits16-clause-narrow
gather_narrow-requires-in-Bits16-clause-narrow c =
    subst (All (λ number. number < 2 ^ 32))
    (ap numbers_in c.in-Bits16.is ∙ sym c.as_slice-in-Bits16.ensures.value
    ∙ sym (map-id c.as_slice-in-Bits16.result.now)) c.requires.narrow

pub gather_narrow-requires-in-Bits32-clause-narrow :
    goal.gather_narrow-requires-in-Bits32-clause-narrow
gather_narrow-requires-in-Bits32-clause-narrow c =
    subst (All (λ number. number < 2 ^ 32))
    (ap numbers_in c.in-Bits32.is ∙ sym c.as_slice-in-Bits32.ensures.value
    ∙ sym (map-id c.as_slice-in-Bits32.result.now)) c.requires.narrow

pub gather_narrow-requires-in-Bits64-clause-narrow :
    goal.gather_narrow-requires-in-Bits64-clause-narrow
gather_narrow-requires-in-Bits64-clause-narrow c =
    subst (All (λ number. number < 2 ^ 32))
    (ap numbers_in c.in-Bits64.is ∙ sym c.as_slice-in-Bits64.ensures.value
    ∙ sym (map-id c.as_slice-in-Bits64.result.now)) c.requires.narrow
