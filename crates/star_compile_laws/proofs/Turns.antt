-- A turn of a compiled program, and its scan.
use Rattle.std.{proofs.Common.{◌≡◌, ℕ, zero, suc, ◌+◌, ◌<◌, Bool, true, false, List, [], ◌∷◌, Option, Some, None, length, add-zero, refl, sym, ap, subst, ◌∙◌, arith}, proofs.lemmas.Bool.and_parts, proofs.lemmas.List.Sums.sum_by-cons, specs.Prelude.{pos, ◌&&◌, not, nat_lt, map, filter, if◌then◌else◌, unwrap_or}, specs.List.{list_all, sum_by}, specs.Ordering.{is_le, is_lt}, proofs.lemmas.Grind.common_steps}
use mathlib.Core.List.{reverse_aux}
use Rattle.star_schema.specs.{declared.table.TableId.TableId, declared.table.TableId.TheVariants.Lineorder, declared.column.ColumnId.ColumnId, Schema.kind_of, Schema.table_of}
use Rattle.star_schema.specs.declared.column.Kind.TheVariants as kind
use Rattle.star_schema.specs.Tables as held
use Rattle.star_query.specs.{declared.token.Fold.TheVariants.{Sum, Min, Max}, Tree.{Expression, Measure, add, column, constant, count, fold, mul, sub}}
use Rattle.star_plan.specs.{Meaning.{Joined, joined_value, holds, all_hold, number_with, measured, aggregate_of, Plan, RowCondition, value_number}, Names.same_kind, Sound.{in_scope, IsSoundPlan}}
use Rattle.star_program.specs.declared.key.KeyValue.TheVariants as key
use Rattle.star_program.specs.{declared.fault.TrapKind.TrapKind, declared.op.Op.TheVariants.{Assign, Keep, Put}, declared.op.Operation.Operation, declared.op.Operation.TheVariants.Find, declared.program.Parts.Parts, declared.value.Value.Value, declared.value.Value.TheVariants.{Flag, Number, Row}, Code.{Code, Stop, Then}, World.{World, is_text}, Puts.{Update, aligned}, Private.Doing.keeps, Values.{Registers, with_entry, number_read, flag_read, key_read, row_read}, Effects.{Effect, State, answer_of, compared, loaded, mark_of, marked, result_of, trap_of, unless_trap, with_update}, Run.{End, Ended, follow, after, begin, turns, scans, meaning}}
use Rattle.star_program.specs.declared.op.Operator.TheVariants as operator
use Rattle.star_compile_laws.{specs.Compiled.{body_code, compiled, foreign_of, turn_code}, specs.Answers.{coded, update_of_row}, specs.Counts.{lookups_in, turn_lookups}, proofs.Contents.{AllHold, Content, Makes, OfColumn, OfCondition, OfExpression, OfLimit, OfRow, OfTest, adds, both, column_tested, constant_made, denies, edge, either, fails, finds, is_after, is_before, is_within, limits, loads, multiplies, number, numbers_put, operator_of, subtracts}, proofs.Entries.{entry_other, entry_same, one_if}, proofs.Forms.{comparison_says, form_value, limit_value}, proofs.Joins.holds_numbers, proofs.Limits.tested_in_scope, proofs.TurnRows.{Shows, IsTurn, numbers, place_in}, proofs.Pieces.{IsKept, Law, Stays, conjuncts_grade, expression_grade, made, of_turn, values_grade}}

-- the updates of each group, with that of the row where it is selected
abbrev pub put_if : World → Plan → Joined → Bool → (ℕ → List Update) → ℕ → List Update
put_if w p row true us = with_update us 0 (update_of_row w p row)
put_if w p row false us = us

-- what a turn leaves: the update of the row where it is selected, and `lookups` look-ups in all
abbrev pub turned : World → Plan → Joined → Bool → State → (lookups : ℕ) → State
turned w p row selected s lookups = record s {
  updates_of = put_if w p row selected s.updates_of;
  lookups = lookups;
  updates = s.updates + one_if selected;
}

-- an effect that ends a run is not a trap
untrapped : (o : Option TrapKind) (x : Effect) (n : ℕ) (next : Registers → State → End) (e : State)
    → follow n (unless_trap o x) next ≡ Ended e → follow n x next ≡ Ended e
untrapped None x n next e h = h
untrapped (Some trap) x n next e h = absurd (cc)

record Point : Type 0 where
  number : ℕ
  regs : Registers
  state : State

abbrev all_so : List Bool → Bool
all_so [] = true
all_so (b ∷ bs) = b && all_so bs

module _ (w : World) (may : ℕ → Bool) (at : TableId → ℕ) (p : Plan) (row : Joined)
    (turn : IsTurn w p.joins at row) (sound : IsSoundPlan p) (e : State) where
  abbrev f : Parts
  f = compiled p

  -- ---- what registers hold

  abbrev here : ColumnId → Value
  here c = loaded w c (at (table_of c)) (is_text c)

  abbrev value_of : Content → Value
  value_of (OfRow t) = Row t (at t)
  value_of (OfColumn c) = here c
  value_of (OfLimit c l) = limit_value w c l
  value_of (OfTest c x) = form_value w c (here c) x
  value_of (OfCondition d) = Flag (holds d row)
  value_of (OfExpression a) = Number (number_with (λ c. joined_value c row) a)

  abbrev Holds : ℕ → Point → ℕ → Content → Type 0
  Holds n a r x = (r < n) × (a.regs r ≡ Some (value_of x))

  -- a run from here that ends has put the row where the conjuncts that follow hold
  abbrev law : Law p
  law = record {
    Sound = Unit {0};
    Spelled = ⊥;
    Grade = List Bool;
    Point = Point;
    Holds = Holds;
    Fact = λ flags n a code. meaning w f may code a.number true a.regs a.state ≡ Ended e
        → e ≡ turned w p row (all_so flags) a.state (a.state.lookups + lookups_in code flags);
    node = λ a flags. flags;
    conjunct = λ d flags. holds d row ∷ flags;
    last = [];
  }

  number_of : (c : ColumnId) (i : ℕ) (b : Bool) → b ≡ false
      → number_read (Some (loaded w c i b)) ≡ w.number c i
  number_of c i true h = absurd (cc)
  number_of c i false h = refl

  result : (n : ℕ) (a : Point) (o : Operation) (x : Content)
      → Makes p.joins (Unit {0}) ⊥ (Holds n a) o x → result_of w f a.regs a.state o ≡ value_of x
  result n a _ _ (loads c t row of at_row) =
      λ i. loaded w c ((ap row_read at_row.1 ∙ ap at (sym (of tt))) i) (is_text c)
  result n a _ _ (finds t key joined at_key) =
      let c = foreign_of p.joins t in
      let fk = turn.keys t (joined tt) in
      let found : w.find t (number_read (a.regs key)) ≡ Some (at t) =
      ap (λ x. w.find t (number_read x)) at_key.1
      ∙ ap (w.find t) (number_of c (at (table_of c)) (is_text c) fk.1
      ∙ ap (λ q. w.number c (at q)) fk.0)
      ∙ turn.found t (joined tt) in
      ap (λ o. Row t (unwrap_or o 0)) found
  result n a _ _ (limits c (number z) is) = refl
  result n a _ _ (limits c (edge k text) is) = refl
  result n a _ _ (is_before o c l x m is at_x at_m) =
      λ i. answer_of (operator_of o) (at_x.1 i) (at_m.1 i)
  result n a _ _ (is_after o c l x m is at_x at_m) =
      λ i. answer_of (operator_of o) (at_m.1 i) (at_x.1 i)
  result n a _ _ (is_within c l u x m q is also at_x at_m at_q) =
      λ i. Flag (is_le (compared (at_m.1 i) (at_x.1 i)) && is_lt (compared (at_x.1 i) (at_q.1 i)))
  result n a _ _ (fails c f x at_x) = λ i. Flag (not (flag_read (at_x.1 i)))
  result n a _ _ (denies d x at_x) = λ i. Flag (not (flag_read (at_x.1 i)))
  result n a _ _ (either c d x y at_x at_y) = λ i. answer_of operator.Or (at_x.1 i) (at_y.1 i)
  result n a _ _ (both c d x y at_x at_y) = λ i. answer_of operator.And (at_x.1 i) (at_y.1 i)
  result n a _ _ (constant_made z said) = refl
  result n a _ _ (adds c d x y at_x at_y) = λ i. answer_of operator.Add (at_x.1 i) (at_y.1 i)
  result n a _ _ (subtracts c d x y at_x at_y) = λ i. answer_of operator.Sub (at_x.1 i) (at_y.1 i)
  result n a _ _ (multiplies c d x y at_x at_y) = λ i. answer_of operator.Mul (at_x.1 i) (at_y.1 i)

  -- ---- instructions

  -- a find is a look-up, and no other operation is
  counted : (o : Operation) (t : ℕ) (b : Bool) (rest : Code) (flags : List Bool)
      (regs : Registers) (s : State)
      → (let s' = marked (mark_of f regs (Assign t o)) s in
      e ≡ turned w p row b s' (s'.lookups + lookups_in rest flags))
      → e ≡ turned w p row b s (s.lookups + lookups_in (Then (Assign t o) rest) flags)
  counted (Find table key) t b rest flags regs s h = h ∙ ap (turned w p row b s) (omega arith)
  counted _ t b rest flags regs s h = h

  made_is : (x : Content) (flags : List Bool) → made law.node x flags ≡ flags
  made_is (OfExpression a) flags = refl
  made_is _ flags = refl

  step : (flags : List Bool) (n : ℕ) (a : Point) (o : Operation) (x : Content) (rest : Code)
      → Makes p.joins (Unit {0}) ⊥ (Holds n a) o x
      → ((b : Point) → Stays law n a (n + 1) b → Holds (n + 1) b n x
      → law.Fact flags (n + 1) b rest)
      → law.Fact (made law.node x flags) n a (Then (Assign n o) rest)
  step flags n a o x rest makes next =
      subst (λ g. law.Fact g n a (Then (Assign n o) rest)) (sym (made_is x flags))
      (λ h. let v = value_of x in
      let s = marked (mark_of f a.regs (Assign n o)) a.state in
      let goes = untrapped (trap_of w f true a.regs a.state (Assign n o)) _ a.number
      (meaning w f may rest (a.number + 1) true) e h in
      counted o n (all_so flags) rest flags a.regs a.state
      (next (record { number = a.number + 1; regs = with_entry a.regs n v; state = s })
      (λ r y at. (omega (arith, at.0), entry_other a.regs n r v at.0 ∙ at.1))
      (omega arith, entry_same a.regs n v)
      (subst (λ v. meaning w f may rest (a.number + 1) true (with_entry a.regs n v) s ≡ Ended e)
      (result n a o x makes) goes)))

  kept_by : (b : Bool) (flags : List Bool) (a : Point) (r : ℕ) (rest : Code)
      → (meaning w f may rest (a.number + 1) true a.regs a.state ≡ Ended e
      → e ≡ turned w p row (all_so flags) a.state (a.state.lookups + lookups_in rest flags))
      → follow a.number (keeps a.regs a.state b) (meaning w f may rest (a.number + 1) true)
      ≡ Ended e → e ≡ turned w p row (b && all_so flags) a.state
      (a.state.lookups + lookups_in (Then (Keep r) rest) (b ∷ flags))
  kept_by it flags a r rest next h = grind (arith, common_steps, add-zero)

  keep : (flags : List Bool) (n : ℕ) (a : Point) (d : RowCondition) (r : ℕ) (rest : Code)
      → Holds n a r (OfCondition d) → ((b : Point) → Stays law n a n b → law.Fact flags n b rest)
      → law.Fact (holds d row ∷ flags) n a (Then (Keep r) rest)
  keep flags n a d r rest at next h =
      let go = meaning w f may rest (a.number + 1) true in
      kept_by (holds d row) flags a r rest
      (next (record { number = a.number + 1; regs = a.regs; state = a.state }) (λ q y at. at))
      (subst (λ o. follow a.number (keeps a.regs a.state (flag_read o)) go ≡ Ended e) at.1
      (untrapped (trap_of w f true a.regs a.state (Keep r)) _ a.number go e h))

  -- ---- the put

  key_shown : (c : ColumnId) (v : held.Value) (b : Bool) → is_text c ≡ b
      → Shows w c (at (table_of c)) v
      → key_read (Some (loaded w c (at (table_of c)) b)) ≡ coded w c v
  key_shown c (held.Number z) false q shows = ap key.Number shows.1
  key_shown c (held.Text v) true q shows = ap key.Code shows.1.index
  key_shown c (held.Number z) true q shows = let a : true ≡ false = sym q ∙ shows.0 in absurd (cc)
  key_shown c (held.Text v) false q shows = let a : true ≡ false = sym shows.0 ∙ q in absurd (cc)

  keys_stand : (n : ℕ) (a : Point) (cs : List ColumnId)
      → list_all (λ c. in_scope p.joins (table_of c)) cs ≡ true
      → (ks : List ℕ) → AllHold (Holds n a) (map OfColumn cs) ks
      → map (λ r. key_read (a.regs r)) ks ≡ map (λ c. coded w c (joined_value c row)) cs
  keys_stand n a [] ok [] q = refl
  keys_stand n a (c ∷ cs) ok (r ∷ rs) q =
      let oks =
      and_parts (in_scope p.joins (table_of c)) (list_all (λ c. in_scope p.joins (table_of c)) cs)
      ok in
      λ i. (ap key_read q.0.1 ∙ key_shown c (joined_value c row) (is_text c) refl
      (turn.shows c oks.0)) i
      ∷ keys_stand n a cs oks.1 rs q.1 i
  keys_stand n a [] ok (r ∷ rs) q = absurd q
  keys_stand n a (c ∷ cs) ok [] q = absurd q

  values_stand : (n : ℕ) (a : Point) (ms : List (Measure ColumnId)) (vs : List ℕ)
      → AllHold (Holds n a) (numbers_put ms) vs
      → aligned (pos 1) (map aggregate_of ms) (map (λ r. number_read (a.regs r)) vs)
      ≡ map (measured (λ c. joined_value c row)) ms
  values_stand n a [] [] q = refl
  values_stand n a [] (r ∷ rs) q = absurd q
  values_stand n a (count ∷ ms) vs q = ap (λ xs. pos 1 ∷ xs) (values_stand n a ms vs q)
  values_stand n a (fold Sum x ∷ ms) (r ∷ rs) q =
      λ i. number_read (q.0.1 i) ∷ values_stand n a ms rs q.1 i
  values_stand n a (fold Min x ∷ ms) (r ∷ rs) q =
      λ i. number_read (q.0.1 i) ∷ values_stand n a ms rs q.1 i
  values_stand n a (fold Max x ∷ ms) (r ∷ rs) q =
      λ i. number_read (q.0.1 i) ∷ values_stand n a ms rs q.1 i
  values_stand n a (fold g x ∷ ms) [] q = absurd q

  put : (n : ℕ) (a : Point) (ks vs : List ℕ) → AllHold (Holds n a) (map OfColumn p.keys) ks
      → AllHold (Holds n a) (numbers_put p.measures) vs → law.Fact [] n a (Then (Put 0 ks vs) Stop)
  put n a ks vs at_k at_v h =
      grind (arith, common_steps, untrapped, keys_stand, values_stand, add-zero)

  -- ---- a turn

  shown_number : (c : ColumnId) (i : ℕ) (v : held.Value) (b : Bool) → is_text c ≡ b → b ≡ false
      → Shows w c i v → loaded w c i b ≡ Number (value_number v)
  shown_number c i v it p q shows = grind (arith, common_steps)

  kept : IsKept law
  kept = record {
    step = step;
    column = λ flags n a c r code ok h next.
        (let oks = and_parts (in_scope p.joins (table_of c)) (same_kind (kind_of c) kind.Number)
        (ok tt) in
        next (
          h.0,
          h.1 ∙ ap Some (shown_number c (at (table_of c)) (joined_value c row) (is_text c)
              refl (holds_numbers c oks.1) (turn.shows c oks.0)),
        ));
    compared = λ n a t r ok h. (let c = column_tested t in (
      h.0,
      h.1 ∙ ap Some (comparison_says w p.joins t (at (table_of c)) row (ok tt)
          (turn.shows c (tested_in_scope p.joins t (ok tt)))),
    ));
    keep = keep;
    put = put;
  }

  flags_free : (a : Expression ColumnId) (flags : List Bool) → expression_grade law a flags ≡ flags
  flags_free (column c) flags = refl
  flags_free (constant z) flags = refl
  flags_free (add a b) flags = flags_free a _ ∙ flags_free b flags
  flags_free (sub a b) flags = flags_free a _ ∙ flags_free b flags
  flags_free (mul a b) flags = flags_free a _ ∙ flags_free b flags

  no_flags : (ms : List (Measure ColumnId)) → values_grade law ms [] ≡ []
  no_flags [] = refl
  no_flags (count ∷ ms) = no_flags ms
  no_flags (fold f a ∷ ms) = flags_free a (values_grade law ms []) ∙ no_flags ms

  flags_of : (ds : List RowCondition)
      → conjuncts_grade law ds (values_grade law p.measures []) ≡ map (λ d. holds d row) ds
  flags_of [] = no_flags p.measures
  flags_of (d ∷ ds) = ap (λ flags. holds d row ∷ flags) (flags_of ds)

  all_so_is : (ds : List RowCondition) → all_so (map (λ d. holds d row) ds) ≡ all_hold ds row
  all_so_is [] = refl
  all_so_is (d ∷ ds) = ap (λ b. holds d row && b) (all_so_is ds)

  pub turn_runs : (n : ℕ) (regs : Registers) (s : State)
      → regs 0 ≡ Some (Row Lineorder (at Lineorder))
      → meaning w f may (turn_code p) n true regs s ≡ Ended e
      → e ≡ turned w p row (all_hold p.conjuncts row) s (s.lookups + turn_lookups p row)
  turn_runs n regs s fact h =
      subst (λ b. e ≡ turned w p row b s (s.lookups + turn_lookups p row)) (all_so_is p.conjuncts)
      (subst (λ flags. e ≡ turned w p row (all_so flags) s
      (s.lookups + lookups_in (turn_code p) flags)) (flags_of p.conjuncts)
      (of_turn law kept (λ z. sound) (λ z. absurd z)
      (record { number = n; regs = regs; state = s }) (omega arith, fact) h))

-- ---- the scan

-- a run came to its end with the updates of some rows, in their order, and with `visited` visits
-- and `looked` look-ups
pub record Scanned (us : List Update) (visited looked : ℕ) (s e : State) : Type 0 where
  pub put : e.updates_of 0 ≡ reverse_aux us (s.updates_of 0)
  pub visits : e.visits ≡ s.visits + visited
  pub lookups : e.lookups ≡ s.lookups + looked
  pub updates : e.updates ≡ s.updates + length us

module _ (w : World) (may : ℕ → Bool) (p : Plan) (sound : IsSoundPlan p) (row : ℕ → Joined)
    (turn : (i : ℕ) → i < w.size Lineorder → IsTurn w p.joins (place_in w p.joins i) (row i)) where
  abbrev pub updates_of_rows : List ℕ → List Update
  updates_of_rows is =
      map (λ i. update_of_row w p (row i)) (filter (λ i. all_hold p.conjuncts (row i)) is)

  after_ends : (x : End) (next : State → End) (e : State) → after x next ≡ Ended e → (s : State)
      × (x ≡ Ended s) × (next s ≡ Ended e)
  after_ends it next e h = grind (arith, common_steps)

  begin_ends : (b : Bool) (s : State) (go : State → End) (e : State) → begin b s go ≡ Ended e
      → go (record s { visits = s.visits + 1 }) ≡ Ended e
  begin_ends true s go e h = h
  begin_ends false s go e h = absurd (cc)

  one_put : (b : Bool) (i : ℕ) (us : ℕ → List Update) (is : List ℕ)
      → reverse_aux (map (λ i. update_of_row w p (row i)) (if b then i ∷ is else is)) (us 0)
      ≡ reverse_aux (map (λ i. update_of_row w p (row i)) is) (put_if w p (row i) b us 0)
  one_put true i us is = refl
  one_put false i us is = refl

  -- one row more is selected, or not
  one_length : (b : Bool) (i : ℕ) (is : List ℕ) (each : ℕ → Update) (n : ℕ)
      → n + one_if b + length (map each is) ≡ n + length (map each (if b then i ∷ is else is))
  one_length true i is each n = omega arith
  one_length false i is each n = omega arith

  -- the look-ups of the turn of a row
  abbrev pub looked_up : ℕ → ℕ
  looked_up i = turn_lookups p (row i)

  turns_run : (go : ℕ → State → End) → ((i : ℕ) → i < w.size Lineorder → (s e : State) → go i s
      ≡ Ended e
      → e ≡ turned w p (row i) (all_hold p.conjuncts (row i)) s (s.lookups + looked_up i))
      → (k i : ℕ) → i + k ≡ w.size Lineorder → (s e : State) → turns may k i go s ≡ Ended e
      → Scanned (updates_of_rows (numbers k i)) k (sum_by looked_up (numbers k i)) s e
  turns_run go each zero i q s e h = grind (arith, common_steps, put, add-zero)
  turns_run go each (suc k) i q s e h =
      let begun : State = record s { visits = s.visits + 1 } in
      let a = after_ends (begin (may s.visits) s (go i)) (turns may k (i + 1) go) e h in
      let t = each i (omega arith) begun a.0 (begin_ends (may s.visits) s (go i) a.0 a.1) in
      let r = turns_run go each k (i + 1) (omega arith) a.0 e a.2 in
      let selected = all_hold p.conjuncts (row i) in
      let later = filter (λ i. all_hold p.conjuncts (row i)) (numbers k (i + 1)) in
      record {
        put = r.put
            ∙ ap (λ z. reverse_aux (updates_of_rows (numbers k (i + 1))) (z.updates_of 0)) t
            ∙ sym (one_put selected i s.updates_of later);
        visits = (let x = r.visits in let y = ap (λ z. z.visits) t in omega arith);
        lookups =
            (let x = r.lookups in let y = ap (λ z. z.lookups) t in
            omega (arith, x, y, sum_by-cons looked_up i (numbers k (i + 1))));
        updates = r.updates
            ∙ ap (λ z. z.updates + length (updates_of_rows (numbers k (i + 1)))) t
            ∙ one_length selected i later (λ i. update_of_row w p (row i)) s.updates;
      }

  scan_ends : (b : Bool) (n : ℕ) (go : Unit {0} → End) (e : State) → scans n b go ≡ Ended e
      → go tt ≡ Ended e
  scan_ends true n go e h = h
  scan_ends false n go e h = absurd (cc)

  pub scan_runs : (n : ℕ) (inside : Bool) (regs : Registers) (s e : State)
      → meaning w (compiled p) may (body_code p) n inside regs s ≡ Ended e
      → Scanned (updates_of_rows (numbers (w.size Lineorder) 0)) (w.size Lineorder)
      (sum_by looked_up (numbers (w.size Lineorder) 0)) s e
  scan_runs n inside regs s e h =
      let go : ℕ → State → End =
      λ i. meaning w (compiled p) may (turn_code p) (n + 1) true
      (with_entry regs 0 (Row Lineorder i)) in
      let a =
      after_ends (turns may (w.size Lineorder) 0 go s) (λ s. Ended s) e
      (scan_ends (nat_lt 0 (compiled p).registers) n
      (λ _. after (turns may (w.size Lineorder) 0 go s) (λ s. Ended s)) e h) in
      let same : a.0 ≡ e = (let q = a.2 in cc) in
      turns_run go (λ i below s e h. turn_runs w may (place_in w p.joins i) p (row i)
      (turn i below) sound e (n + 1) (with_entry regs 0 (Row Lineorder i)) s refl h)
      (w.size Lineorder) 0 (omega arith) s e (a.1 ∙ ap Ended same)
