-- A quote is the sum of the turns of the scans of a program.
use Rattle.std.proofs.Common.{◌≡◌, ◌∙◌, ◌+◌, ◌*◌, ◌++◌, ℕ, List, [], ◌∷◌, ap, arith, refl, sym, zero-add}
use Rattle.star_safety.proofs.Common.{Act, Code, Context, Each, Enclosing, Parts, Scan, Standing, Stop, Then, World, after_op, after_scan, at_end, at_first, code_size, in_scan, instructions_of, quote, rows_together, standing, sum_by, sum_by-append, sum_by-cons, turns_met, turns_of}

together : (first b c d e : ℕ) → b ≡ d → c ≡ e → first + b + c ≡ first + (d + e)
together first b c d e h k = omega (arith, h, k)

turns_are_summed : (w : World) (parts : Parts) (round : List Enclosing) (x : Context) (at : ℕ)
    (c : Code) → turns_met w.size (rows_together w round) c
    ≡ sum_by (turns_of w) (standing w parts round x at c)
turns_are_summed w parts round x at Stop = refl
turns_are_summed w parts round x at (Then op rest) =
    let here : Standing = record { number = at; round = round; context = x; item = Act op } in
    let behind = standing w parts round (after_op w parts x op) (at + 1) rest in
    turns_are_summed w parts round (after_op w parts x op) (at + 1) rest
    ∙ sym (zero-add (sum_by (turns_of w) behind)) ∙ sym (sum_by-cons (turns_of w) here behind)
turns_are_summed w parts round x at (Each table r body rest) =
    let inner = in_scan w x table r in
    let within : List Enclosing = record { number = at; table = table } ∷ round in
    let here : Standing = record { number = at; round = round; context = x; item = Scan table r } in
    let inside = standing w parts within inner (at + 1) body in
    let behind = standing w parts round (after_scan x (at_end w parts inner body))
    (at + 1 + code_size body) rest in
    let rows = rows_together w round * w.size table in
    together rows _ _ _ _ (turns_are_summed w parts within inner (at + 1) body)
    (turns_are_summed w parts round (after_scan x (at_end w parts inner body))
    (at + 1 + code_size body) rest)
    ∙ ap (λ n. rows + n) (sym (sum_by-append (turns_of w) inside behind))
    ∙ sym (sum_by-cons (turns_of w) here (inside ++ behind))

pub quote_is_the_sum : (w : World) (parts : Parts)
    → quote w.size parts ≡ sum_by (turns_of w) (instructions_of w parts)
quote_is_the_sum w parts = turns_are_summed w parts [] at_first 1 parts.body
