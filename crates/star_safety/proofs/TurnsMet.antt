-- Each instruction in a scan is met no more often than turns are quoted.
use Rattle.std.proofs.Common.{◌≡◌, ℕ, ◌+◌, ◌*◌, ◌≤◌, true, false, List, [], ◌∷◌, refl, arith}
use Rattle.star_safety.proofs.Common.{All, All-append, All-cons, All-nil, Code, Context, Each, Enclosing, IsMetWithinQuote, Parts, Stop, Then, World, after_op, after_scan, at_end, at_first, code_size, in_scan, instructions_of, quote, standing, turns_met}

-- of a context
record Meets (most : ℕ) (x : Context) : Type 0 where
  in_scans : x.inside ≡ true → x.met ≤ most
  outside : x.inside ≡ false → x.met ≡ 1

module _ (w : World) (parts : Parts) where
  each_met : (c : Code) (round : List Enclosing) (x : Context) (at : ℕ)
      → Meets (quote w.size parts) x → turns_met w.size x.met c ≤ quote w.size parts
      → All (IsMetWithinQuote w parts) (standing w parts round x at c)
  each_met Stop round x at m h = All-cons (IsMetWithinQuote w parts) _ []
      (record { in_scans = m.in_scans; outside = m.outside }) (All-nil (IsMetWithinQuote w parts))
  each_met (Then op rest) round x at m h = All-cons (IsMetWithinQuote w parts) _ _
      (record { in_scans = m.in_scans; outside = m.outside })
      (each_met rest round (after_op w parts x op) (at + 1)
      (record { in_scans = m.in_scans; outside = m.outside }) h)
  each_met (Each table r body rest) round x at m h =
      let inner = in_scan w x table r in
      let new : Enclosing = record { number = at; table = table } in
      let later = after_scan x (at_end w parts inner body) in
      let turns : x.met * w.size table + turns_met w.size (x.met * w.size table) body
      + turns_met w.size x.met rest ≤ quote w.size parts = h in
      All-cons (IsMetWithinQuote w parts) _ _
      (record { in_scans = m.in_scans; outside = m.outside })
      (All-append (IsMetWithinQuote w parts) (standing w parts (new ∷ round) inner (at + 1) body)
      (standing w parts round later (at + 1 + code_size body) rest)
      (each_met body (new ∷ round) inner (at + 1)
      (record { in_scans = λ e. omega (arith, turns); outside = λ e. absurd (cc) })
      (omega (arith, turns)))
      (each_met rest round later (at + 1 + code_size body)
      (record { in_scans = m.in_scans; outside = m.outside }) (omega (arith, turns))))

pub all_met : (w : World) (parts : Parts) → All (IsMetWithinQuote w parts) (instructions_of w parts)
all_met w parts = each_met w parts parts.body [] at_first 1
    (record { in_scans = λ e. absurd (cc); outside = λ e. refl }) (omega arith)
