-- The bounds of each column that a refusal tells fit 64 bits.
use Rattle.std.proofs.{Common.{◌≡◌, ℕ, zero, suc, ◌+◌, Bool, true, false, List, [], ◌∷◌, Option, Some, None, sym, ap, subst, ◌∙◌, arith}, lemmas.Grind.common_steps}
use Rattle.star_safety.proofs.{Common.{Aggregate, All, All-nil, AllByRecursion, AllKnown, AreI64, Assign, COLUMNS, Code, ColumnId, Context, Count, Each, Fault, Faulty, FitsI64, IfSome, Keep, Known, KnownFlag, KnownNumber, KnownPlace, KnownRow, KnownText, Op, Operator, Overflow, Parts, Put, Reach, Reached, Read, Reason, Refused, Stop, TableId, Then, World, after_op, after_scan, aligned, answer_known, at_end, at_first, at_position, code_size, column_same, filter, first_reason, first_refusal, fits_i64, group_at, in_scan, is_text, joined_reach, kind_reason, loaded_known, map, no_reach, none_open, not, op_reason, open_with, option_map, option_or, overflow_of, put_known, put_share, range_reason, reach_at, reach_of, reached, refuses, result_known, scan_reason, slice_index_or, source_reason, with_bounds, with_entry, ℤ}, Forward.first_standing, ToldBounds.refused_instruction}

-- ---- what numbers are computed from

-- columns of numbers alone
abbrev AreNumbers : Reach → Type 0
AreNumbers reach = (c : ColumnId) → reach c ≡ true → is_text c ≡ false

record Reaches (x : Context) : Type 0 where
  known : (r : ℕ) → AreNumbers (reach_at (x.known r))
  puts : (g a : ℕ) → AreNumbers (reach_of (x.so_far g a))

none_numbers : AreNumbers no_reach
none_numbers c e = absurd (cc)

joined_numbers : (a b : Reach) → AreNumbers a → AreNumbers b → AreNumbers (joined_reach a b)
joined_numbers a b p q c e = grind (arith, common_steps, is_text)

loaded_numbers : (w : World) (c : ColumnId) (b : Bool) → is_text c ≡ b
    → AreNumbers (reach_at (Some (loaded_known w c b)))
loaded_numbers w c true e d reaches = none_numbers d reaches
loaded_numbers w c false e d reaches = ap is_text (sym (column_same c d reaches)) ∙ e

answer_numbers : (o : Operator) (l r : Option Known) → AreNumbers (reach_at l)
    → AreNumbers (reach_at r) → AreNumbers (reach_at (Some (answer_known o l r)))
answer_numbers o l r p q = grind (arith, common_steps, joined_numbers, reach_at, none_numbers)

result_numbers : (w : World) (parts : Parts) (x : Context) (op : Op) → Reaches x
    → AreNumbers (reach_at (Some (result_known w parts x op)))
result_numbers w parts x op h =
    grind (arith, common_steps, loaded_numbers, is_text, answer_numbers, none_numbers)

-- ---- what is put

mapped_numbers : (known : AllKnown) (vs : List ℕ) → ((r : ℕ) → AreNumbers (reach_at (known r)))
    → AllByRecursion (λ k. AreNumbers (reach_at k)) (map known vs)
mapped_numbers known [] all = tt
mapped_numbers known (v ∷ vs) all = (all v, mapped_numbers known vs all)

aligned_numbers : (gs : List Aggregate) (one : Option Known) (ks : List (Option Known))
    → AreNumbers (reach_at one) → AllByRecursion (λ k. AreNumbers (reach_at k)) ks
    → AllByRecursion (λ k. AreNumbers (reach_at k)) (aligned one gs ks)
aligned_numbers [] one ks first all = tt
aligned_numbers (Count ∷ gs) one ks first all = (first, aligned_numbers gs one ks first all)
aligned_numbers (_ ∷ gs) one (k ∷ ks) first all = (all.0, aligned_numbers gs one ks first all.1)
aligned_numbers (_ ∷ gs) one [] first all = tt

at_numbers : (ks : List (Option Known)) (a : ℕ) → AllByRecursion (λ k. AreNumbers (reach_at k)) ks
    → AreNumbers (reach_at (slice_index_or ks a None))
at_numbers [] a all = none_numbers
at_numbers (k ∷ ks) zero all = all.0
at_numbers (k ∷ ks) (suc a) all = at_numbers ks a all.1

share_numbers : (parts : Parts) (x : Context) (g : ℕ) (vs : List ℕ) (a : ℕ) → Reaches x
    → AreNumbers (put_share parts x g vs a).reach
share_numbers parts x g vs a h = at_numbers (put_known (group_at parts g) x.known vs) a
    (aligned_numbers (group_at parts g).aggregates _ (map x.known vs) none_numbers
    (mapped_numbers x.known vs h.known))

-- ---- from instruction to instruction

entry_numbers : (known : AllKnown) (t : ℕ) (k : Known) → AreNumbers (reach_at (Some k))
    → ((r : ℕ) → AreNumbers (reach_at (known r)))
    → (r : ℕ) → AreNumbers (reach_at (with_entry known t k r))
entry_numbers known t k here all r = grind (arith, common_steps, reach_at)

after_reaches : (w : World) (parts : Parts) (x : Context) (op : Op) → Reaches x
    → Reaches (after_op w parts x op)
after_reaches w parts x op h =
    grind (arith, common_steps, entry_numbers, result_numbers, joined_numbers, share_numbers)

inside_reaches : (w : World) (x : Context) (table : TableId) (r : ℕ) → Reaches x
    → Reaches (in_scan w x table r)
inside_reaches w x table r h = grind (arith, common_steps, entry_numbers, none_numbers)

end_reaches : (w : World) (parts : Parts) (c : Code) (x : Context) → Reaches x
    → Reaches (at_end w parts x c)
end_reaches w parts Stop x h = h
end_reaches w parts (Then op rest) x h =
    end_reaches w parts rest (after_op w parts x op) (after_reaches w parts x op h)
end_reaches w parts (Each table r body rest) x h =
    let inner = in_scan w x table r in
    let ended = end_reaches w parts body inner (inside_reaches w x table r h) in
    end_reaches w parts rest (after_scan x (at_end w parts inner body))
    (record { known = h.known; puts = ended.puts })

-- ---- what a reason tells

abbrev Fit : List Reached → Type 0
Fit columns = All (λ column. FitsI64 (record { low = column.low; high = column.high })) columns

abbrev Tells : Reason → Type 0
Tells (Overflow low high columns) = Fit columns
Tells _ = Unit {0}

-- where a reason is found, it does so
abbrev Found : Option Reason → Type 0
Found reason = IfSome reason Tells

either_of : {A : Type 0} (P : A → Type 0) (a b : Option A) → IfSome a P → IfSome b P
    → IfSome (option_or a b) P
either_of P None b p q = q
either_of P (Some v) b p q = p

refused_found : (b : Bool) (reason : Reason) → Tells reason → Found (refuses b reason)
refused_found true reason tells = tells
refused_found false reason tells = tt

faulty_found : (fault : Option Fault) → Found (option_map Faulty fault)
faulty_found None = tt
faulty_found (Some fault) = tt

source_found : (pending : ℕ → Bool) (x : Context) (op : Op) → Found (source_reason pending x op)
source_found pending x op = grind (arith, common_steps, refused_found)

placed_found : (at : ℕ) (reason : Option Reason) → Found reason
    → IfSome (at_position at reason) (λ refused. Tells refused.1)
placed_found at None h = tt
placed_found at (Some reason) h = h

module _ (w : World) (parts : Parts)
    (bounds : (c : ColumnId) → is_text c ≡ false → FitsI64 (w.bounds c)) where
  some_fit : (reach : Reach) (cs : List ColumnId) → AreNumbers reach
      → Fit (map (with_bounds w) (filter reach cs))
  some_fit reach [] h =
      All-nil (λ (column : Reached). FitsI64 (record { low = column.low; high = column.high }))
  some_fit reach (c ∷ cs) h = grind (arith, common_steps, with_bounds, some_fit reach cs h)

  reached_fit : (reach : Reach) → AreNumbers reach → Fit (reached w reach)
  unfolding reached
  reached_fit reach h = some_fit reach COLUMNS h

  overflow_found : (k : Known) → AreNumbers (reach_at (Some k)) → Found (overflow_of w k)
  overflow_found (KnownNumber r reach origin) h =
      refused_found (not (fits_i64 r)) (Overflow r.low r.high (reached w reach))
      (reached_fit reach h)
  overflow_found (KnownText c) h = tt
  overflow_found (KnownPlace c) h = tt
  overflow_found (KnownRow t) h = tt
  overflow_found KnownFlag h = tt

  range_found : (x : Context) (op : Op) → Reaches x → Found (range_reason w parts x op)
  range_found x (Put g ks vs) h = tt
  range_found x (Assign t (Read g a n)) h =
      refused_found _ (Overflow _ _ (reached w (reach_of (x.so_far g a))))
      (reached_fit (reach_of (x.so_far g a)) (h.puts g a))
  range_found x (Assign t o) h =
      overflow_found (result_known w parts x (Assign t o)) (result_numbers w parts x (Assign t o) h)
  range_found x (Keep f) h = tt

  op_found : (pending : ℕ → Bool) (x : Context) (op : Op) → Reaches x
      → Found (op_reason w parts pending x op)
  op_found pending x op h = either_of Tells (kind_reason parts x op)
      (option_or (source_reason pending x op) (range_reason w parts x op)) (faulty_found _)
      (either_of Tells (source_reason pending x op) (range_reason w parts x op)
      (source_found pending x op) (range_found x op h))

  first_found : (c : Code) (pending : ℕ → Bool) (at : ℕ) (x : Context) → Reaches x
      → IfSome (first_reason w parts pending x at c) (λ refused. Tells refused.1)
  first_found Stop pending at x h = tt
  first_found (Then op rest) pending at x h = either_of (λ refused. Tells refused.1)
      (at_position at (op_reason w parts (open_with pending rest) x op))
      (first_reason w parts pending (after_op w parts x op) (at + 1) rest)
      (placed_found at _ (op_found (open_with pending rest) x op h))
      (first_found rest pending (at + 1) (after_op w parts x op) (after_reaches w parts x op h))
  first_found (Each table r body rest) pending at x h =
      let inner = in_scan w x table r in
      let inside = open_with pending (Each table r body rest) in
      let later = after_scan x (at_end w parts inner body) in
      let within = inside_reaches w x table r h in
      either_of (λ refused. Tells refused.1) (at_position at (scan_reason parts x r)) _
      (placed_found at (scan_reason parts x r) (faulty_found _))
      (either_of (λ refused. Tells refused.1) (first_reason w parts inside inner (at + 1) body)
      (first_reason w parts pending later (at + 1 + code_size body) rest)
      (first_found body inside (at + 1) inner within)
      (first_found rest pending (at + 1 + code_size body) later
      (record { known = h.known; puts = (end_reaches w parts body inner within).puts })))

pub told_columns_fit : (w : World) (most : ℕ) (parts : Parts) (at : ℕ) (low high : ℤ)
    (columns : List Reached) → AreI64 w parts
    → first_refusal w most parts ≡ Some (Refused (at, Overflow low high columns)) → Fit columns
told_columns_fit w most parts at low high columns are e =
    subst (λ o. IfSome o (λ refused. Tells refused.1))
    (first_standing w parts ∙ (refused_instruction w most parts (at, Overflow low high columns)
    e).1)
    (first_found w parts are.bounds parts.body none_open 1 at_first
    (record { known = λ q. none_numbers; puts = λ g a. none_numbers }))
