use Rattle.std.proofs.{Common.{◌∙◌, ap, chars, flat_map, rules}, lemmas.List.nil_from_length, lemmas.Str.{IsUtf8-past_char, chars-nil, chars_past_char}}
use Rattle.star_service.{specs.Names.{printed_letter, printed_name}, proofs.NameLemmas.{all_written, one_more}}
use Rattle.star_service.proofs.names.ShownDisplay.fmt.Goals as goal

pub letters-preserved : goal.letters-preserved
letters-preserved g c =
    let step = c.in-Some.ensures.steps.0 in
    let valid = c.letters.invariant.0 in (
      IsUtf8-past_char _ _ _ valid step,
      λ plain. one_more _ _ _ _ _ _ _ _ (c.letters.invariant.1 plain) (search rules)
          (ap (flat_map printed_letter) (chars_past_char _ _ _ valid step)),
    )

pub returns-clause-writes : goal.returns-clause-writes
unfolding printed_name
returns-clause-writes g c =
    λ plain _. all_written _ _ _ _ _ (c.letters.invariant.1 plain)
    (ap (λ rest. flat_map printed_letter (chars rest))
    (nil_from_length _ c.in_default.ensures.steps.0.0)
    ∙ ap (flat_map printed_letter) chars-nil)

pub returns-clause-styled : goal.returns-clause-styled
returns-clause-styled g c = tt
