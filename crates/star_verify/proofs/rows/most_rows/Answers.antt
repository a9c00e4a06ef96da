use Rattle.std.proofs.Common.{◌≡◌, ◌∙◌, ◌+◌, ◌*◌, ◌<◌, ℕ, [], ap, arith, inl, length, refl, subst, sym, zero-add}
use Rattle.star_verify.proofs.{Common.{IsTally, IsTallyAt, Plain, all_key_shares, each_values, get_or_past, most_of, rows_of_groupings, slice_index_or, world_of}, RowLemmas.{all_rows, empty_list, one_row}}
use Rattle.star_verify.proofs.rows.most_rows.Goals as goal

pub returns-in_default : goal.returns-in_default
returns-in_default c = λ kept.
    let parts = c.args.parts.now in
    one_row (world_of c.args.catalogue.now) parts
    (ap (λ d. d.keys) (get_or_past parts.groups parts.report
    (record { shape = Plain; keys = []; aggregates = [] }) c.in_default.ensures.none))

pub returns-in-empty : goal.returns-in-empty
returns-in-empty c = λ kept.
    one_row (world_of c.args.catalogue.now) c.args.parts.now
    (sym (c.as_slice.ensures ∙ ap (λ d. d.keys) c.in-Some.ensures.group)
    ∙ empty_list c.as_slice.result.now c.in-empty.len_below)

pub returns-in_default-as_slice : goal.returns-in_default-as_slice
returns-in_default-as_slice c = λ kept.
    let parts = c.args.parts.now in
    let g = parts.report in
    let w = world_of c.args.catalogue.now in
    let shares = all_key_shares w parts g in
    let declared = c.as_slice.ensures ∙ ap (λ d. d.keys) c.in-Some.ensures.group in
    let tallied : (k : ℕ) → k < length c.as_slice.result.now
    → IsTallyAt c.args.keys.now (8 * g + k) (shares (0 + k)) =
    λ k lt. subst (λ p. IsTallyAt c.args.keys.now (8 * g + k) (shares p)) (sym (zero-add k))
    (kept g c.in-Some.ensures.there k (omega (arith, lt, ap length declared))) in
    let first = kept g c.in-Some.ensures.there 0
    (omega (arith, c.in_default-as_slice.len_at_least, ap length declared)) in
    let tally = c.tally_at.result in
    let many : tally.many ≡ most_of (shares 0) =
    (subst (λ t. IsTally t (shares 0))
    (subst (λ p. slice_index_or c.args.keys.now p tally ≡ tally)
    (let z : 8 * g ≡ 8 * g + 0 = omega arith in z) (c.tally_at.ensures tally))
    (first tally)).many in
    c.rows_behind.ensures.rows shares 0 1 tallied (inl refl)
    ∙ all_rows tally.many c.in-Some.declared.now.shape
    (each_values w shares 0 c.as_slice.result.now)
    ∙ (λ i. rows_of_groupings (c.in-Some.ensures.group i).shape (many i)
    (each_values w shares 0 (declared i)))
