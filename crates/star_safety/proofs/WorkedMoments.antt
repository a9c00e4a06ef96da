-- What a moment asks of registers and of what comes next, and what it refuses, by computation.
use Rattle.std.proofs.Common.{None, Some, [], ap, arith, false, pos, refl, true, ℕ, ℤ, ◌<◌, ◌^◌, ◌∷◌, ◌≡◌, ◌≤◌, w64, ◌↔◌}
use Rattle.star_safety.proofs.{Common.{AllKnown, AllNameI64, AreI64, CNation, CRegion, Code, Count, Date, Each, Effect, Ended, EndsTurn, EndsWithin, FitsAt, FitsSigned, FitsValue, Flag, Holds, IsAccepted, IsAdmissible, IsLoaded, IsMet, IsMoment, IsWithinLimits, Known, KnownFlag, KnownPlace, KnownRow, KnownText, Lineorder, LoQuantity, Moment, NamesI64, None, Number, Parts, Place, Registers, Row, State, Stop, Sum, SumsFit, Text, Then, TotalLies, World, act, after_scan, at_end, at_first, behind, behind_scan, column_of, empty_state, first_moment, in_scan, in_turn, itself, known_number, loaded_known, moment, no_registers, no_shares, only, picked, plain, pos, quote, sample, sum_of, with_entry}, Words.{acts, const, keep, over, put, read}}

-- ---- a register

-- from 1 to 5
abbrev few : Known
few = known_number (record { low = pos 1; high = pos 5 })

-- a loaded number is one of its column in some row
loaded : (z : ℤ) → FitsValue sample (loaded_known sample LoQuantity false) (Number z)
    ≡ (Holds (sample.bounds LoQuantity) z
    × ((row : ℕ) × (row < 5) × (z ≡ sample.number LoQuantity row)))
unfolding column_of
loaded z = refl

-- a row of the table itself, a code of the column, and one position more than there are codes: the
-- sample has five lines, and each of its columns one text; a position is no text, and a flag no
-- number; something stands exactly where something is known
others : (n : ℕ)
    → (FitsValue sample (KnownRow Lineorder) (Row Date n) ≡ ((Lineorder ≡ Date) × (n < 5)))
    × (FitsValue sample (KnownText CRegion) (Text CNation n) ≡ ((CRegion ≡ CNation) × (n < 1)))
    × (FitsValue sample (KnownPlace CRegion) (Place CNation n) ≡ ((CRegion ≡ CNation) × (n ≤ 1)))
    × (FitsValue sample (KnownText CRegion) (Place CRegion n) ≡ ⊥)
    × ((z : ℤ) → FitsValue sample few (Number z)
    ≡ (Holds (record { low = pos 1; high = pos 5 }) z × Unit {0}))
    × (FitsValue sample few (Flag true) ≡ ⊥) × (FitsAt sample None (Some (Flag true)) ≡ ⊥)
    × (FitsAt sample (Some KnownFlag) None ≡ ⊥)
    × (FitsAt sample (Some KnownFlag) (Some (Flag true)) ≡ Unit {0})
others n = (refl, refl, refl, refl, λ z. refl, refl, refl, refl, refl)

-- ---- the moments of a run

-- a scan of the dates whose turns each make a number, and a number behind it
abbrev each_date : Parts
each_date = over [] (Each Date 0 (acts (const 1 (pos 7) ∷ []) Stop)
    (acts (const 2 (pos 9) ∷ []) Stop))

abbrev visits : ℕ → State
visits n = record empty_state { visits = n }

-- the second turn begins with its own row alone, and is counted
second_turn : IsMet sample each_date (moment (in_scan sample at_first Date 0)
    (acts (const 1 (pos 7) ∷ []) Stop) 2 (with_entry no_registers 0 (Row Date 1)) (visits 2))
second_turn =
    in_turn at_first Date 0 (acts (const 1 (pos 7) ∷ []) Stop) (acts (const 2 (pos 9) ∷ []) Stop) 1
    no_registers
    empty_state (visits 1) 1 itself (omega arith) (omega arith) refl

-- behind the scan the registers are those before it, and its turns are counted
behind_its_scan : IsMet sample each_date (moment
    (after_scan at_first (at_end sample each_date (in_scan sample at_first Date 0)
    (acts (const 1 (pos 7) ∷ []) Stop)))
    (acts (const 2 (pos 9) ∷ []) Stop) 3 no_registers (visits 3))
behind_its_scan =
    behind_scan at_first Date 0 (acts (const 1 (pos 7) ∷ []) Stop)
    (acts (const 2 (pos 9) ∷ []) Stop) 1 no_registers
    empty_state (visits 3) itself (omega arith) refl

-- behind an instruction that traps nothing is met
abbrev flagless : Parts
flagless = over [] (acts (keep 0 ∷ []) Stop)

acted : Moment → Effect
acted m = acted_by m.left
  where
    acted_by : Code → Effect
    acted_by (Then op rest) = act sample flagless m.context.inside m.registers m.store op
    acted_by _ = EndsTurn m.store

nothing_behind_a_trap : (m : Moment) → IsMet sample flagless m → m ≡ first_moment flagless
unfolding acted
nothing_behind_a_trap m itself = refl
nothing_behind_a_trap m (behind x op rest at before after s t earlier goes) =
    let was : moment x (Then op rest) at before s ≡ first_moment flagless =
    nothing_behind_a_trap (moment x (Then op rest) at before s) earlier in
    let acts_so : act sample flagless x.inside before s op ≡ acted (first_moment flagless) =
    ap acted was in
    let bad : ⊥ = cc in absurd bad
nothing_behind_a_trap m (in_turn x table r body rest at registers s t row earlier declared lt
    turned) =
    let was : moment x (Each table r body rest) at registers s ≡ first_moment flagless =
    nothing_behind_a_trap (moment x (Each table r body rest) at registers s) earlier in
    let code : Each table r body rest ≡ flagless.body = ap (λ k. k.left) was in
    let bad : ⊥ = cc in absurd bad
nothing_behind_a_trap m (behind_scan x table r body rest at registers s t earlier declared turned) =
    let was : moment x (Each table r body rest) at registers s ≡ first_moment flagless =
    nothing_behind_a_trap (moment x (Each table r body rest) at registers s) earlier in
    let code : Each table r body rest ≡ flagless.body = ap (λ k. k.left) was in
    let bad : ⊥ = cc in absurd bad

-- ---- bounds

-- of constants and defaults, in scans and after them
all_of_64_bits : (x y z : ℤ) → (NamesI64 (const 0 x) ≡ FitsSigned w64 x)
    × (NamesI64 (read 0 0 0 x) ≡ FitsSigned w64 x) × (NamesI64 (keep 0) ≡ Unit {0})
    × (AllNameI64 (Each Date 1 (acts (const 2 x ∷ []) Stop)
    (acts (read 3 0 0 y ∷ const 4 z ∷ []) Stop))
    ≡ ((NamesI64 (const 0 x) × Unit {0})
    × (NamesI64 (const 0 y) × (NamesI64 (const 0 z) × Unit {0}))))
all_of_64_bits x y z = (refl, refl, refl, refl)

no_wider_column : AreI64 (record sample { bounds = λ c. only (pos (2 ^ 63)) }) (over [] Stop) → ⊥
unfolding column_of
no_wider_column h = let p = (h.bounds LoQuantity refl).1.sfits in omega (arith, p)

-- ---- what adds up

-- of 4, 2 and 3 the first and the last
some_sum : (sum_of (picked (true ∷ false ∷ true ∷ []) (pos 4 ∷ pos 2 ∷ pos 3 ∷ [])) ≡ pos 7)
    × TotalLies (Some (only (pos 0))) None
some_sum = (refl, tt)

-- two puts of a number
abbrev two_puts : ℤ → Parts
two_puts z = over (plain (Sum ∷ []) ∷ [])
    (acts (const 0 z ∷ put 0 [] (0 ∷ []) ∷ put 0 [] (0 ∷ []) ∷ []) Stop)

-- twice the greatest number of 128 bits leaves them, and a count of 2 ^ 63 rows leaves 64
no_greater_sum : SumsFit sample (two_puts (pos 170141183460469231731687303715884105727)) → ⊥
no_greater_sum h = let p = (h.sums 0 0 (omega arith) refl).1.sfits in omega (arith, p)

no_greater_count : SumsFit (record sample { size = λ t. 9223372036854775808 })
    (over (plain (Count ∷ []) ∷ []) (Each Lineorder 0 (acts (put 0 [] [] ∷ []) Stop) Stop)) → ⊥
no_greater_count h = let p = h.counts 0 0 in omega (arith, p)

-- no turn begins where none is quoted
no_more_turns : (known : AllKnown) (regs : Registers)
    → IsMoment sample (two_puts (pos 1)) no_shares known regs
    (record empty_state { visits = 1 }) → ⊥
no_more_turns known regs h = let p = h.visits in omega (arith, p)

-- a run may visit as many rows as are asked for
visits_within : EndsWithin 1 (Ended (record empty_state { visits = 1 }))
visits_within = omega arith

-- ---- acceptance: 10^15 visits may be quoted, and no more

accepted : (w : World) (parts : Parts) → IsAccepted w parts ↔ (IsLoaded w × IsWithinLimits parts
    × IsAdmissible w parts × (quote w.size parts ≤ 10 ^ 15))
accepted w parts = (
  λ a. (a.loaded, a.limits, a.admissible, a.cheap),
  λ h. record { loaded = h.0; limits = h.1; admissible = h.2; cheap = h.3 },
)
