use Rattle.star_group.proofs.{Common.{◌<◌, ◌++◌, ◌∷◌, [], ◌∙◌, Bool, List, ap, arith, length, set, filter, key_view, is_row_key, KeyPart, All}, BaseKeyLemmas.next_hidden}
use Rattle.star_group.proofs.eager.row_keys.double.Goals as goal

pub loop-number-preserved : goal.loop-number-preserved
loop-number-preserved c =
    let P : List KeyPart → Bool = λ key. is_row_key c.args.shape c.args.key_count (key_view key) in
    let number = c.loop-number.number in
    let within : number < length c.args.row_keys.now.items =
    omega (arith, c.loop-number-test.true, c.len-number-end.ensures) in
    c.in_ok-push_row_key.ensures
    ∙ ap (λ k. c.loop-number.row_keys.items ++ filter P (k ∷ [])) c.with_all_at-key.ensures.parts
    ∙ ap (λ k. c.loop-number.row_keys.items ++ filter P (set k c.args.index All ∷ []))
    c.index.ensures
    ∙ next_hidden P c.args.index number c.args.row_keys.now.items c.loop-number.row_keys.items _
    within c.loop-number.invariant
