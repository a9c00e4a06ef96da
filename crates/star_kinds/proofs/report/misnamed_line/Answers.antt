use Rattle.std.{proofs.Common.{◌<◌, ◌+◌, length, map, sym, ap, subst, ◌∙◌}, specs.Option.option_or}
use Rattle.star_program.specs.ShowLines.{first_unshown}
use Rattle.star_kinds.proofs.Lines.{both_lines, reported, not_empty}
use Rattle.star_kinds.proofs.report.misnamed_line.Goals as goal

pub returns-in-Some-bad_show : goal.returns-in-Some-bad_show
returns-in-Some-bad_show c =
    let some = subst (λ ss. 0 < length ss) c.as_slice-shows.ensures
    (not_empty _ _ c.is_empty.ensures c.if-not-is_empty.true) in
    let shown = ap (λ ss. first_unshown c.in-Some.declared.now 1 (map (λ show. show.column) ss))
    (sym c.as_slice-shows.ensures) ∙ sym c.bad_show.ensures ∙ c.in-Some-bad_show.is in
    reported c.in-Some.declared.now c.args.parts.now _ c.in-Some.ensures.group
    c.in-Some.ensures.there some
    (both_lines c.in-Some.declared.now c.args.parts.now
    ∙ ap (λ o. option_or o (first_unshown c.in-Some.declared.now (length c.args.parts.now.shows + 1)
    (map (λ sort. sort.column) c.args.parts.now.sorts))) shown)

pub returns-in-None : goal.returns-in-None
returns-in-None c =
    let some = subst (λ ss. 0 < length ss) c.as_slice-shows.ensures
    (not_empty _ _ c.is_empty.ensures c.if-not-is_empty.true) in
    let shown = ap (λ ss. first_unshown c.in-Some.declared.now 1 (map (λ show. show.column) ss))
    (sym c.as_slice-shows.ensures) ∙ sym c.bad_show.ensures ∙ c.in-None.is in
    let sorted = ap (λ ss. first_unshown c.in-Some.declared.now (length ss + 1)
    (map (λ sort. sort.column) c.args.parts.now.sorts)) (sym c.as_slice-shows.ensures)
    ∙ ap (λ ss. first_unshown c.in-Some.declared.now (length c.as_slice-shows.result.now + 1)
    (map (λ sort. sort.column) ss)) (sym c.as_slice.ensures)
    ∙ sym c.bad_sort.ensures in
    reported c.in-Some.declared.now c.args.parts.now _ c.in-Some.ensures.group
    c.in-Some.ensures.there some
    (both_lines c.in-Some.declared.now c.args.parts.now
    ∙ ap (λ o. option_or o (first_unshown c.in-Some.declared.now (length c.args.parts.now.shows + 1)
    (map (λ sort. sort.column) c.args.parts.now.sorts))) shown
    ∙ sorted)
