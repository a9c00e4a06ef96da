-- One instruction of an admissible program.
use Rattle.std.proofs.{Common.{◌≡◌, ℕ, zero, suc, ◌<◌, Bool, true, false, List, [], ◌∷◌, Option, Some, None, refl, subst, arith}, lemmas.Grind.common_steps, lemmas.Int.ints}
use Rattle.star_safety.proofs.{Common.{Add, Aggregate, Agrees, AllKnown, Assign, Binary, ColumnId, Const, Context, Count, Edge, Effect, EndsTurn, Fault, Faulty, Find, FitsAt, FitsValue, Flag, FromColumn, GoesOn, GroupDecl, Holds, IsLoaded, IsRowNumberOf, Keep, KeepsValues, Known, KnownFlag, KnownPlace, KnownRow, Less, Load, Mul, Not, Number, Op, Operator, Parts, Place, Put, Read, Reason, Registers, Share, State, Sub, TableId, TrapKind, Traps, Update, Value, Within, World, Wrong, act, after_op, aligned, answer_known, answer_of, binary_fault, both_fault, corner_range, differences_held, does, edge_of, effect_of, fault_of, fits_i64, flag_read, group_at, if◌then◌else◌, is_i64, is_number_kind, is_row_of, is_some_table, is_text, keeps, kind_fault, kind_reason, kinds_in, kinds_known, known_arithmetic, known_kind, known_number, loaded, loaded_known, map, nat_eq, not, number_read, numbers_fault, numbers_for, only, op_reason, operand_fault, operands_fault, option_map, option_or, or_none, origin_at, overflow_of, overflows, own_groups, place_fault, pos, products_held, put_known, puts, puts_update, range_at, range_reason, read_range, references, refers_to, refuses, register_kind, result_trap, row_read, sets, sets_answer, sets_found, slice_index_or, source_reason, sums_held, table_of, table_same, target_again, target_fault, target_of, total_over, unless, unless_none, unless_trap, unwrap_or, update_of, with_entry, ℤ, ◌*ℤ◌, ◌+ℤ◌, ◌-ℤ◌}, Tally.{Tally, no_tally, plus, Tallies, no_tallies, plus_all, tally_of}, Gains.{put_tally, op_gain}, Numbers.{holds_itself, fits_held}, TallyOrder.{AtMost, at_most_plus}, Tallied.{IsTallied, tallied_more, tallied_put, no_overflow, read_holds, tallies_fit, tallies_fit_less}}
use Rattle.star_program.specs.declared.fault.TrapKind.TheVariants.{Overflow}

-- ---- no fault, and no reason

pub both_none : {A : Type 0} (a b : Option A) → a ≡ None → b ≡ None → option_or a b ≡ None
both_none None b p q = q
both_none (Some x) b p q = absurd (cc)

pub unmapped_none : {A B : Type 0} (f : A → B) (o : Option A) → option_map f o ≡ None → o ≡ None
unmapped_none f None e = refl
unmapped_none f (Some x) e = absurd (cc)

pub refuses_none : (b : Bool) (x : Reason) → refuses b x ≡ None → b ≡ false
refuses_none true x e = absurd (cc)
refuses_none false x e = refl

pub not_refuses_none : (b : Bool) (x : Reason) → refuses (not b) x ≡ None → b ≡ true
not_refuses_none true x e = refl
not_refuses_none false x e = absurd (cc)

-- ---- what is known fits what is there

same_kind : (w : World) (k : Option Known) (v : Option Value) → FitsAt w k v
    → option_map known_kind k ≡ option_map register_kind v
same_kind w k v h = grind (arith, common_steps, known_kind)

kinds_same : (w : World) (known : AllKnown) (regs : Registers) → Agrees w known regs
    → kinds_known known ≡ kinds_in regs
kinds_same w known regs h = λ i r. same_kind w (known r) (regs r) (h r) i

same_fault : (w : World) (parts : Parts) (inside : Bool) (twice : Option Fault) (known : AllKnown)
    (regs : Registers) (op : Op) → Agrees w known regs
    → fault_of parts inside twice (kinds_known known) op ≡ None
    → fault_of parts inside None (kinds_in regs) op ≡ None
same_fault w parts inside twice known regs op h e =
    let p = or_none (place_fault parts inside op) _ e in
    let q = or_none (target_fault parts.registers (target_of op)) _ p.1 in
    let r = or_none twice (operands_fault parts (kinds_known known) op) q.1 in
    both_none (place_fault parts inside op) _ p.0
    (both_none (target_fault parts.registers (target_of op)) _ q.0
    (subst (λ kinds. operands_fault parts kinds op ≡ None) (kinds_same w known regs h) r.1))

fits_entry : (w : World) (b : Bool) (k : Known) (v : Value) (k' : Option Known) (v' : Option Value)
    → FitsValue w k v → FitsAt w k' v'
    → FitsAt w (if b then Some k else k') (if b then Some v else v')
fits_entry w true k v k' v' p q = p
fits_entry w false k v k' v' p q = q

pub agrees_entry : (w : World) (known : AllKnown) (regs : Registers) (t : ℕ) (k : Known) (v : Value)
    → Agrees w known regs → FitsValue w k v → Agrees w (with_entry known t k) (with_entry regs t v)
agrees_entry w known regs t k v h p = λ r. fits_entry w (nat_eq r t) k v (known r) (regs r) p (h r)

-- ---- operands

number_fits : (w : World) (k : Option Known) (v : Option Value)
    → kind_fault is_number_kind (option_map known_kind k) ≡ None → FitsAt w k v
    → Holds (range_at k) (number_read v) × FromColumn w (origin_at k) (number_read v)
number_fits w k v e h = grind (arith, common_steps)

number_at : (w : World) (count r : ℕ) (known : AllKnown) (regs : Registers)
    → operand_fault count (kinds_known known) is_number_kind r ≡ None → Agrees w known regs
    → Holds (range_at (known r)) (number_read (regs r))
    × FromColumn w (origin_at (known r)) (number_read (regs r))
number_at w count r known regs e h = number_fits w (known r) (regs r) (or_none _ _ e).1 (h r)

row_fits : (w : World) (t : TableId) (k : Option Known) (v : Option Value)
    → is_row_of t (option_map known_kind k) ≡ true → FitsAt w k v → row_read v < w.size t
row_fits w t k v e h = grind (arith, common_steps, table_same)

-- ---- the numbers of a put

abbrev AllHold : List (Option Known) → List ℤ → Type 0
AllHold [] [] = Unit {0}
AllHold (k ∷ ks) (v ∷ vs) = Holds (range_at k) v × AllHold ks vs
AllHold _ _ = ⊥

put_numbers : (w : World) (count : ℕ) (known : AllKnown) (regs : Registers) (vs : List ℕ)
    → numbers_fault count (kinds_known known) vs ≡ None → Agrees w known regs
    → AllHold (map known vs) (map (λ r. number_read (regs r)) vs)
put_numbers w count known regs [] e h = tt
put_numbers w count known regs (r ∷ rs) e h =
    let p = or_none (operand_fault count (kinds_known known) is_number_kind r)
    (numbers_fault count (kinds_known known) rs) e in
    ((number_at w count r known regs p.0 h).0, put_numbers w count known regs rs p.1 h)

all_aligned : (gs : List Aggregate) (ks : List (Option Known)) (vs : List ℤ) → AllHold ks vs
    → AllHold (aligned (Some (known_number (only (pos 1)))) gs ks) (aligned (pos 1) gs vs)
all_aligned [] ks vs h = tt
all_aligned (Count ∷ gs) ks vs h = (holds_itself (pos 1), all_aligned gs ks vs h)
all_aligned (_ ∷ gs) [] [] h = tt
all_aligned (_ ∷ gs) (k ∷ ks) (v ∷ vs) h = (h.0, all_aligned gs ks vs h.1)
all_aligned (_ ∷ gs) [] (v ∷ vs) h = absurd h
all_aligned (_ ∷ gs) (k ∷ ks) [] h = absurd h

held_at : (ks : List (Option Known)) (vs : List ℤ) (a : ℕ) → AllHold ks vs
    → Holds (range_at (slice_index_or ks a None)) (slice_index_or vs a (pos 0))
held_at [] [] a h = holds_itself (pos 0)
held_at (k ∷ ks) (v ∷ vs) zero h = h.0
held_at (k ∷ ks) (v ∷ vs) (suc a) h = held_at ks vs a h.1
held_at [] (v ∷ vs) a h = absurd h
held_at (k ∷ ks) [] a h = absurd h

-- ---- one instruction

abbrev pub AreTallied : Tallies → State → Type 0
AreTallied y s = (g a : ℕ) → IsTallied (y g a) (numbers_for a (s.updates_of g))

-- what an instruction may lead to: what is known then fits, and it has begun no turn
abbrev pub IsGood : World → AllKnown → Tallies → ℕ → Effect → Type 0
IsGood w known y visits (GoesOn regs s) = Agrees w known regs × AreTallied y s × (s.visits ≡ visits)
IsGood w known y visits (EndsTurn s) = AreTallied y s × (s.visits ≡ visits)
IsGood w known y visits (Traps trap) = ⊥

good_unless : (w : World) (known : AllKnown) (y : Tallies) (visits : ℕ) (o : Option Fault)
    (own : Option TrapKind) (e : Effect) → o ≡ None → IsGood w known y visits (unless_trap own e)
    → IsGood w known y visits (unless_trap (option_or (option_map Wrong o) own) e)
good_unless w known y visits None own e p h = h
good_unless w known y visits (Some fault) own e p h = absurd (cc)

module _ (w : World) (catalogue : IsLoaded w) (parts : Parts) (x : Context) (y : Tallies)
    (regs : Registers) (s : State) (agrees : Agrees w x.known regs) (tallied : AreTallied y s) where
  still : AreTallied (plus_all y no_tallies) s
  still g a = tallied_more (y g a) (plus (y g a) no_tally) (numbers_for a (s.updates_of g))
      (at_most_plus (y g a) no_tally) (tallied g a)

  good_sets : (t : ℕ) (k : Known) (v : Value) → FitsValue w k v
      → IsGood w (with_entry x.known t k) (plus_all y no_tallies) s.visits (sets regs s t v)
  good_sets t k v p = (agrees_entry w x.known regs t k v agrees p, still, refl)

  good_number : (b : Bool) (t : ℕ) (k : Known) (z : ℤ) → b ≡ true → FitsValue w k (Number z)
      → IsGood w (with_entry x.known t k) (plus_all y no_tallies) s.visits
      (unless_trap (unless b Overflow) (sets regs s t (Number z)))
  good_number true t k z e p = good_sets t k (Number z) p
  good_number false t k z e p = absurd (cc)

  -- arithmetic
  good_result : (operation : ℤ → ℤ → ℤ) → KeepsValues operation (corner_range operation)
      → (t a b : ℕ) → both_fault parts.registers (kinds_known x.known) is_number_kind a b ≡ None
      → overflow_of w (known_arithmetic operation (x.known a) (x.known b)) ≡ None
      → IsGood w (with_entry x.known t (known_arithmetic operation (x.known a) (x.known b)))
      (plus_all y no_tallies) s.visits
      (sets_answer regs s t (Number (operation (number_read (regs a)) (number_read (regs b)))))
  good_result operation keeps t a b p e =
      let q = or_none (operand_fault parts.registers (kinds_known x.known) is_number_kind a)
      (operand_fault parts.registers (kinds_known x.known) is_number_kind b) p in
      let held = keeps (range_at (x.known a)) (range_at (x.known b)) (number_read (regs a))
      (number_read (regs b)) (number_at w parts.registers a x.known regs q.0 agrees).0
      (number_at w parts.registers b x.known regs q.1 agrees).0 in
      let z = operation (number_read (regs a)) (number_read (regs b)) in
      let r = corner_range operation (range_at (x.known a)) (range_at (x.known b)) in
      good_number (is_i64 z) t (known_arithmetic operation (x.known a) (x.known b)) z
      (fits_held r z (not_refuses_none (fits_i64 r) _ e) held) (held, tt)

  good_answer : (o : Operator) (t a b : ℕ)
      → binary_fault parts.registers (kinds_known x.known) o a b ≡ None
      → overflow_of w (answer_known o (x.known a) (x.known b)) ≡ None
      → IsGood w (with_entry x.known t (answer_known o (x.known a) (x.known b)))
      (plus_all y no_tallies) s.visits (sets_answer regs s t (answer_of o (regs a) (regs b)))
  good_answer Add t a b e r = good_result ◌+ℤ◌ sums_held t a b e r
  good_answer Sub t a b e r = good_result ◌-ℤ◌ differences_held t a b e r
  good_answer Mul t a b e r = good_result ◌*ℤ◌ products_held t a b e r
  good_answer Less t a b e r = good_sets t KnownFlag (Flag _) tt
  good_answer _ t a b e r = good_sets t KnownFlag (Flag _) tt

  good_loaded : (b : Bool) (t : ℕ) (c : ColumnId) (n : ℕ) → is_text c ≡ b → n < w.size (table_of c)
      → IsGood w (with_entry x.known t (loaded_known w c b)) (plus_all y no_tallies) s.visits
      (sets regs s t (loaded w c n b))
  good_loaded b t c n e h = grind (arith, common_steps, good_sets, loaded_known)

  good_found : (t : ℕ) (table : TableId) (o : Option ℕ) → IsRowNumberOf w table o
      → IsGood w (with_entry x.known t (KnownRow table)) (plus_all y no_tallies) s.visits
      (sets_found regs s t table o)
  good_found t table o h = grind (arith, common_steps, agrees_entry, still)

  is_found : (table : TableId) (o : Option ColumnId) (z : ℤ) → refers_to table o ≡ true
      → FromColumn w o z → IsRowNumberOf w table (w.find table z)
  is_found table o z e h = grind (arith, common_steps, ints, references, is_some_table, table_same)

  good_keeps : (b : Bool) → IsGood w x.known (plus_all y no_tallies) s.visits (keeps regs s b)
  good_keeps true = (agrees, still, refl)
  good_keeps false = (still, refl)

  good_put : (g : ℕ) (ks vs : List ℕ) (m : ℕ → Tally)
      → numbers_fault parts.registers (kinds_known x.known) vs ≡ None
      → ((a : ℕ) → AtMost (plus (y g a) (put_tally (group_at parts g) x.known vs a)) (m a))
      → tallies_fit (group_at parts g).aggregates 0 m ≡ true
      → IsGood w x.known (plus_all y (op_gain parts x (Put g ks vs))) s.visits
      (puts_update (group_at parts g) regs s g (update_of (group_at parts g) regs ks vs))
  good_put g ks vs m e room fit = go (overflows d.shape d.aggregates (s.updates_of g) u) quiet
    where
      d : GroupDecl
      d = group_at parts g

      u : Update
      u = update_of (group_at parts g) regs ks vs

      held : (a : ℕ)
          → Holds (range_at (slice_index_or (put_known (group_at parts g) x.known vs) a None))
          (slice_index_or (update_of (group_at parts g) regs ks vs).values a (pos 0))
      held a = held_at _ _ a
          (all_aligned (group_at parts g).aggregates (map x.known vs)
          (map (λ r. number_read (regs r)) vs)
          (put_numbers w parts.registers x.known regs vs e agrees))

      put_entry : (b : Bool) (h a : ℕ)
          → IsTallied (plus (y h a)
          (if b then put_tally (group_at parts g) x.known vs a else no_tally))
          (numbers_for a
          (if b then update_of (group_at parts g) regs ks vs ∷ s.updates_of h else s.updates_of h))
      put_entry true h a =
          tallied_put (y h a) _ _ (numbers_for a (s.updates_of h)) (tallied h a) (held a)
      put_entry false h a = still h a

      quiet : overflows (group_at parts g).shape (group_at parts g).aggregates (s.updates_of g)
          (update_of (group_at parts g) regs ks vs) ≡ false
      quiet = no_overflow (group_at parts g).aggregates
          (λ a. plus (y g a) (put_tally (group_at parts g) x.known vs a))
          (update_of (group_at parts g) regs ks vs ∷ s.updates_of g)
          (own_groups (group_at parts g).shape (update_of (group_at parts g) regs ks vs).keys)
          (λ a. put_entry true g a)
          (tallies_fit_less (group_at parts g).aggregates 0
          (λ a. plus (y g a) (put_tally (group_at parts g) x.known vs a)) m room fit)

      go : (b : Bool) → b ≡ false
          → IsGood w x.known (plus_all y (op_gain parts x (Put g ks vs))) s.visits
          (puts regs s g (update_of (group_at parts g) regs ks vs) b)
      go true p = absurd (cc)
      go false p = (agrees, (λ h a. put_entry (nat_eq h g) h a), refl)

  good_read : (t g i : ℕ) (so_far : List Share) (d : GroupDecl) (n : ℤ)
      → AtMost (y g i) (tally_of so_far)
      → fits_i64 (read_range (slice_index_or d.aggregates i Count) so_far (only n)) ≡ true
      → IsGood w (with_entry x.known t
      (known_number (read_range (slice_index_or d.aggregates i Count) so_far (only n))))
      (plus_all y no_tallies) s.visits
      (sets_answer regs s t (Number (unwrap_or (total_over d.aggregates i (s.updates_of g)) n)))
  good_read t g i so_far d n h fits =
      let r = read_range (slice_index_or d.aggregates i Count) so_far (only n) in
      let z = unwrap_or (total_over d.aggregates i (s.updates_of g)) n in
      let held = read_holds (slice_index_or d.aggregates i Count) so_far n
      (numbers_for i (s.updates_of g))
      (tallied_more (y g i) (tally_of so_far) (numbers_for i (s.updates_of g)) h (tallied g i)) in
      good_number (is_i64 z) t (known_number r) z (fits_held r z fits held) (held, tt)

  does_good : (pending : ℕ → Bool) (op : Op) (m : Tallies)
      → operands_fault parts (kinds_known x.known) op ≡ None → source_reason pending x op ≡ None
      → range_reason w parts x op ≡ None
      → ((g a : ℕ) → pending g ≡ false → AtMost (y g a) (tally_of (x.so_far g a)))
      → ((g a : ℕ) → AtMost (plus (y g a) (op_gain parts x op g a)) (m g a))
      → ((g : ℕ) → tallies_fit (group_at parts g).aggregates 0 (m g) ≡ true)
      → IsGood w (after_op w parts x op).known (plus_all y (op_gain parts x op)) s.visits
      (does w parts regs s op)
  does_good pending (Assign t (Const z)) m e from r closed room fit =
      good_sets t (known_number (only z)) (Number z) (holds_itself z, tt)
  does_good pending (Assign t (Edge g c b)) m e from r closed room fit =
      good_sets t (KnownPlace c) (Place c (edge_of w g c b)) (refl, catalogue.counted g c b)
  does_good pending (Assign t (Load c q)) m e from r closed room fit =
      grind (arith, common_steps, good_loaded, row_fits, unless_none, or_none)
  does_good pending (Assign t (Find table k)) m e from r closed room fit =
      good_found t table (w.find table (number_read (regs k)))
      (is_found table (origin_at (x.known k)) (number_read (regs k)) (not_refuses_none _ _ from)
      (number_at w parts.registers k x.known regs e agrees).1)
  does_good pending (Assign t (Binary o a b)) m e from r closed room fit = good_answer o t a b e r
  does_good pending (Assign t (Within q a b)) m e from r closed room fit =
      good_sets t KnownFlag (Flag _) tt
  does_good pending (Assign t (Not a)) m e from r closed room fit =
      good_sets t KnownFlag (Flag _) tt
  does_good pending (Assign t (Read g i d)) m e from r closed room fit =
      good_read t g i (x.so_far g i) (group_at parts g) d
      (closed g i (refuses_none (pending g) _ from)) (not_refuses_none _ _ r)
  does_good pending (Keep k) m e from r closed room fit = good_keeps (flag_read (regs k))
  does_good pending (Put g ks vs) m e from r closed room fit =
      grind (arith, common_steps, good_put, or_none, group_at, put_tally, no_tally)

-- one instruction of an admissible program
pub act_good : (w : World) → IsLoaded w
    → (parts : Parts) (x : Context) (y : Tallies) (regs : Registers) (s : State)
    → Agrees w x.known regs → AreTallied y s → (pending : ℕ → Bool) (op : Op) (m : Tallies)
    → op_reason w parts pending x op ≡ None
    → ((g a : ℕ) → pending g ≡ false → AtMost (y g a) (tally_of (x.so_far g a)))
    → ((g a : ℕ) → AtMost (plus (y g a) (op_gain parts x op g a)) (m g a))
    → ((g : ℕ) → tallies_fit (group_at parts g).aggregates 0 (m g) ≡ true)
    → IsGood w (after_op w parts x op).known (plus_all y (op_gain parts x op)) s.visits
    (act w parts x.inside regs s op)
act_good w catalogue parts x y regs s agrees tallied pending op m e closed room fit =
    let again = target_again x.written (target_of op) in
    let p = or_none (kind_reason parts x op) _ e in
    let known = or_none (source_reason pending x op) (range_reason w parts x op) p.1 in
    let q = unmapped_none Faulty (fault_of parts x.inside again (kinds_known x.known) op) p.0 in
    let a = or_none (place_fault parts x.inside op) _ q in
    let b = or_none (target_fault parts.registers (target_of op)) _ a.1 in
    let c = or_none again (operands_fault parts (kinds_known x.known) op) b.1 in
    good_unless w (after_op w parts x op).known (plus_all y (op_gain parts x op)) s.visits
    (fault_of parts x.inside None (kinds_in regs) op) (result_trap w parts regs s op)
    (effect_of w parts regs s op) (same_fault w parts x.inside again x.known regs op agrees q)
    (does_good w catalogue parts x y regs s agrees tallied pending op m c.1 known.0 known.1 closed
    room fit)
