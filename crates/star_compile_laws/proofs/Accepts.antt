-- What refuses the instructions of a compiled program: the first range that leaves 64 bits, or
-- nothing.
use Rattle.std.{proofs.Common.{◌≡◌, ℕ, ◌+◌, ◌*◌, ◌≤◌, ◌<◌, Bool, true, false, List, [], ◌∷◌, length, map, Option, Some, None, refl, sym, ap, subst, ◌∙◌, arith}, proofs.lemmas.Bool.{and_parts, eq-eqb, lt-ltb, ne_eqb, or_from, true≢false}, specs.Prelude.{pos, ◌&&◌, ◌||◌, not, nat_eq, nat_lt, if◌then◌else◌}, specs.List.list_all, specs.Option.{option_map, option_or}, proofs.lemmas.Grind.common_steps}
use Rattle.star_schema.{specs.declared.table.TableId.TheVariants.Lineorder, specs.declared.column.ColumnId.ColumnId, specs.Schema.{kind_of, table_of}, proofs.Same.column_itself}
use Rattle.star_schema.specs.declared.column.Kind.TheVariants as kind
use Rattle.star_interval.specs.Range.{fits_i64}
use Rattle.star_query.specs.Tree.{Expression, Measure, add, column, constant, count, fold, mul, sub}
use Rattle.star_plan.specs.{Fits.expression_range, Fits.measure_fits, Fits.nodes_fit, Meaning.aggregate_of, Meaning.Plan, Meaning.RowCondition, Names.same_kind, Sound.IsSoundPlan, Sound.in_scope}
use Rattle.star_program.specs.{declared.fault.Fault.TheVariants.{BadRegister, WrittenTwice}, declared.op.Op.TheVariants.{Assign, Keep, Put}, declared.op.Operation.Operation, declared.op.Operation.TheVariants.Read, declared.program.Parts.Parts, Code.{Code, Stop, Then}, Values.with_entry, World.{World, is_column, is_text}, Faults.{fault_of, fits_key, is_flag_kind, keys_fault, numbers_fault, operand_fault, unless, value_count}}
use Rattle.star_program.specs.declared.group.GroupKey.TheVariants as key
use Rattle.star_safety.{specs.declared.reason.Reason.Reason, specs.declared.reason.Reason.TheVariants.{Faulty, Overflow}, specs.Contexts.{Context, after_op, at_first}, specs.Private.Forward.{first_reason, none_open, open_with}, specs.Standing.at_position, specs.Ranges.{AllKnown, Known, KnownFlag, KnownNumber, KnownRow, kinds_known, known_kind, loaded_known}, specs.Refusals.{op_reason, overflow_of, reached, refuses, target_again}, proofs.Instructions.both_none}
use Rattle.star_compile_laws.{specs.Compiled.{body_code, compiled, key_of_group, register_count, turn_code}, specs.Wide.{Computed, computed, first_wide, given, too_wide, turn_wide}, proofs.Contents.{AllHold, Content, Makes, OfColumn, OfCondition, numbers_put}, proofs.Entries.{entry_other, entry_same}, proofs.Joins.holds_numbers, proofs.Pieces.{IsKept, Law, Stays, conjuncts_grade, expression_grade, made, of_turn, values_grade}, proofs.Suits.{Agree, AgreeAt, AreColumnsI64, Point, Suits, at_of, fits, fits_zero, in_turn, number_known, operand, suits}}
use Rattle.star_compile_laws.proofs.Suits as known

pub or_none_right : {A : Type 0} (o : Option A) → option_or o None ≡ o
or_none_right None = refl
or_none_right (Some x) = refl

entry_agrees : (b : Bool) (v : Known) (n m : Computed) (o : Option Known) → AgreeAt (Some v) n
    → AgreeAt o m → AgreeAt (if b then Some v else o) (if b then n else m)
entry_agrees true v n m o new old = new
entry_agrees false v n m o new old = old

overflow_is : (w : World) (v : Known) (n : Computed) → AgreeAt (Some v) n → (b : Bool)
    → fits v ≡ b → overflow_of w v ≡ (if b then None else Some (too_wide w.bounds n))
unfolding reached
overflow_is w (KnownNumber r reach origin) n agree b e =
    (λ i. refuses (not (e i)) (Overflow (agree.range i).low (agree.range i).high
    (reached w (agree.columns i))))
    ∙ by b
  where
    by : (b : Bool) → refuses (not b) (too_wide w.bounds n)
        ≡ (if b then None else Some (too_wide w.bounds n))
    by true = refl
    by false = refl
overflow_is w _ n agree true e = refl
overflow_is w _ n agree false e = absurd (true≢false (sym fits_zero ∙ e))

-- nothing refuses it but the first range that is too wide; and if nothing does, what follows fits;
-- where that is asked for, nothing refuses what fits
pub record Judged (Asked : Type 0) (b : Bool) (o wide : Option (ℕ × Reason)) : Type 0 where
  pub first : o ≡ wide
  pub fit : o ≡ None → b ≡ true
  pub none : Asked → b ≡ true → o ≡ None

module _ (w : World) (p : Plan) (sound : IsSoundPlan p) (met : ℕ) (pending : ℕ → Bool) where
  abbrev f : Parts
  f = compiled p

  abbrev Asked : Type 0
  Asked = AreColumnsI64 w p

  abbrev column_known : ColumnId → Known
  column_known c = loaded_known w c (is_text c)

  abbrev Is : Content → Known → Type 0
  Is = known.Is w p met

  abbrev Holds : ℕ → Point → ℕ → Content → Type 0
  Holds = known.Holds w p met

  abbrev context : Point → Context
  context a = in_turn met a.known a.written

  abbrev node : Expression ColumnId → Bool → Bool
  node = known.node w p met

  abbrev answer : Point → Code → Option (ℕ × Reason)
  answer a code = first_reason w f pending (context a) a.at code

  abbrev wide : Point → Code → Option (ℕ × Reason)
  wide a code = first_wide w.bounds a.computed a.at code

  -- registers from the next one on are not written yet, and there are enough of them
  record Ready (n : ℕ) (a : Point) (code : Code) : Type 0 where
    fresh : (q : ℕ) → n ≤ q → a.written q ≡ false
    agree : Agree a.known a.computed
    room : n + register_count code ≤ f.registers

  abbrev law : Law p
  law = record {
    Sound = Unit {0};
    Spelled = Asked;
    Grade = Bool;
    Point = Point;
    Holds = Holds;
    Fact = λ b n a code. Ready n a code → Judged Asked b (answer a code) (wide a code);
    node = node;
    conjunct = λ d b. b;
    last = true;
  }

  -- ---- instructions

  same_grade : (x : Content) (v : Known) → Is x v → fits v ≡ true → (b : Bool) → made node x b ≡ b
  same_grade it v is e b = grind (arith, common_steps)

  -- only its range can refuse an operation
  reason_is : (n : ℕ) (a : Point) (o : Operation) (x : Content) (suit : Suits w p met n a o x)
      (later : ℕ → Bool) → a.written n ≡ false → n < f.registers
      → op_reason w f later (context a) (Assign n o) ≡ overflow_of w suit.v
  reason_is n a (Read g b z) x suit later fresh below = let wrong = suit.plain in absurd (cc)
  reason_is n a o x suit later fresh below =
      let again : target_again a.written (Some n) ≡ None =
      ap (λ b. unless (not b) WrittenTwice) fresh in
      let fault : fault_of f true (target_again a.written (Some n)) (kinds_known a.known)
      (Assign n o) ≡ None =
      both_none _ _ (ap (λ b. unless b BadRegister) (lt-ltb n f.registers below))
      (both_none _ _ again suit.operands) in
      λ i. option_or (option_map Faulty (fault i))
      (option_or (suit.source later n i) (overflow_of w (suit.makes i)))

  step : (g : Bool) (n : ℕ) (a : Point) (o : Operation) (x : Content) (rest : Code)
      → Makes p.joins (Unit {0}) Asked (Holds n a) o x
      → ((b : Point) → Stays law n a (n + 1) b → Holds (n + 1) b n x → law.Fact g (n + 1) b rest)
      → law.Fact (made node x g) n a (Then (Assign n o) rest)
  step g n a o x rest makes next ready = by (fits suit.v) refl
    where
      room : n + (1 + register_count rest) ≤ f.registers
      room = ready.room

      suit : Suits w p met n a o x
      suit = suits w p met sound n a o x (omega (arith, room)) ready.agree makes

      number' : Computed
      number' = computed w.bounds a.computed o

      after' : Point
      after' = record {
        at = a.at + 1;
        known = with_entry a.known n suit.v;
        written = λ r. a.written r || nat_eq n r;
        computed = λ r. if nat_eq r n then number' else a.computed r;
      }

      over : (b : Bool) → fits suit.v ≡ b
          → op_reason w f (open_with pending rest) (context a) (Assign n o)
          ≡ (if b then None else Some (too_wide w.bounds number'))
      over b e = reason_is n a o x suit (open_with pending rest) (ready.fresh n (omega arith))
          (omega (arith, room))
          ∙ overflow_is w suit.v number' suit.agree b e

      wide_is : (b : Bool) → fits suit.v ≡ b → wide a (Then (Assign n o) rest)
          ≡ (if b then wide after' rest else Some (a.at, too_wide w.bounds number'))
      wide_is b e = ap (λ c. if c then wide after' rest else Some (a.at, too_wide w.bounds number'))
          (ap fits_i64 (sym suit.agree.range) ∙ e)

      by : (b : Bool) → fits suit.v ≡ b
          → Judged Asked (made node x g) (answer a (Then (Assign n o) rest))
          (wide a (Then (Assign n o) rest))
      by true e =
          let later = next after' (λ r y h. (
            omega (arith, h.0),
            h.1,
            entry_other a.known n r suit.v h.0 ∙ h.2,
            h.3,
            h.4,
          )) (omega arith, suit.v, entry_same a.known n suit.v, suit.is, e)
          (record {
            fresh = λ q h. or_from (a.written q) (nat_eq n q) (ready.fresh q (omega arith))
                (ne_eqb n q (omega arith));
            agree = λ r. entry_agrees (nat_eq r n) suit.v number' (a.computed r) (a.known r)
                suit.agree (ready.agree r);
            room = omega (arith, room);
          }) in
          let goes : answer a (Then (Assign n o) rest) ≡ answer after' rest =
          λ i. option_or (at_position a.at (over true e i)) (first_reason w f pending
          (in_turn met (with_entry a.known n (suit.makes i)) after'.written) (a.at + 1) rest) in
          let grade = same_grade x suit.v suit.is e g in record {
            first = goes ∙ later.first ∙ sym (wide_is true e);
            fit = λ none. grade ∙ later.fit (sym goes ∙ none);
            none = λ s h. goes ∙ later.none s (sym grade ∙ h);
          }
      by false e =
          let goes : answer a (Then (Assign n o) rest)
          ≡ Some (a.at, too_wide w.bounds number') =
          ap (λ r. option_or (at_position a.at r) (first_reason w f pending
          (after_op w f (context a) (Assign n o)) (a.at + 1) rest)) (over false e) in record {
            first = goes ∙ sym (wide_is false e);
            fit = λ none. (let wrong = sym goes ∙ none in absurd (cc));
            none = λ s h. absurd (true≢false (sym (suit.sure g s h) ∙ e));
          }

  keep : (g : Bool) (n : ℕ) (a : Point) (d : RowCondition) (r : ℕ) (rest : Code)
      → Holds n a r (OfCondition d) → ((b : Point) → Stays law n a n b → law.Fact g n b rest)
      → law.Fact g n a (Then (Keep r) rest)
  keep g n a d r rest at next ready =
      let room = ready.room in
      let fault : operand_fault f.registers (kinds_known a.known) is_flag_kind r ≡ None =
      operand w p met n a is_flag_kind r KnownFlag (omega (arith, room))
      (at_of w p met n a r (OfCondition d) KnownFlag at at.3) refl in
      let later = next (record {
        at = a.at + 1;
        known = a.known;
        written = λ q. a.written q || false;
        computed = a.computed;
      }) (λ q y h. h) (record {
        fresh = λ q h. or_from (a.written q) false (ready.fresh q h) refl;
        agree = ready.agree;
        room = omega (arith, room);
      }) in
      subst (λ o. Judged Asked g o (wide a (Then (Keep r) rest)))
      (λ i. option_or (at_position a.at (option_or (option_map Faulty (sym fault i)) None))
      (first_reason w f pending (in_turn met a.known (λ q. a.written q || false)) (a.at + 1) rest))
      later

  -- ---- the put

  key_fits : (c : ColumnId) (b : Bool)
      → fits_key (if b then key.Text c else key.Number) (known_kind (loaded_known w c b)) ≡ true
  key_fits c true = column_itself c
  key_fits c false = refl

  keys_fit : (n : ℕ) (a : Point) → n ≤ f.registers → (cs : List ColumnId) (ks : List ℕ)
      → AllHold (Holds n a) (map OfColumn cs) ks
      → (keys_fault f.registers (kinds_known a.known) (map key_of_group cs) ks ≡ None)
      × (length ks ≡ length (map key_of_group cs))
  keys_fit n a room [] [] h = (refl, refl)
  keys_fit n a room (c ∷ cs) (r ∷ rs) h =
      grind (arith, common_steps, both_none, operand, at_of, key_fits, keys_fit n a room cs rs h.1)
  keys_fit n a room [] (r ∷ rs) h = absurd h
  keys_fit n a room (c ∷ cs) [] h = absurd h

  numbers_fit : (n : ℕ) (a : Point) → n ≤ f.registers → (ms : List (Measure ColumnId))
      (vs : List ℕ) → AllHold (Holds n a) (numbers_put ms) vs
      → (numbers_fault f.registers (kinds_known a.known) vs ≡ None)
      × (length vs ≡ value_count (map aggregate_of ms))
  numbers_fit n a room [] [] h = (refl, refl)
  numbers_fit n a room [] (r ∷ rs) h = absurd h
  numbers_fit n a room (count ∷ ms) vs h = numbers_fit n a room ms vs h
  numbers_fit n a room (fold g x ∷ ms) [] h = absurd h
  numbers_fit n a room (fold g x ∷ ms) (r ∷ rs) h =
      grind (arith, common_steps, room, both_none, operand, at_of, numbers_fit n a room ms rs h.1)

  put : (n : ℕ) (a : Point) (ks vs : List ℕ) → AllHold (Holds n a) (map OfColumn p.keys) ks
      → AllHold (Holds n a) (numbers_put p.measures) vs
      → law.Fact true n a (Then (Put 0 ks vs) Stop)
  put n a ks vs at_k at_v ready =
      grind (arith, common_steps, keys_fit, numbers_fit, eq-eqb, both_none)

  kept : IsKept law
  kept = record {
    step = step;
    column = λ g n a c r code ok h next ready.
        (let oks = and_parts (in_scope p.joins (table_of c)) (same_kind (kind_of c) kind.Number)
        (ok tt) in
        let is = h.3 ∙ number_known w p met c (is_text c) (holds_numbers c oks.1) in
        subst (λ b. Judged Asked (b && g) (answer a code) (wide a code))
        (sym (sym (ap fits is) ∙ h.4))
        (next (h.0, h.1, h.2, (is_column c, Some c, is), h.4) ready));
    compared = λ n a t r ok h. h;
    keep = keep;
    put = put;
  }

  -- ---- a turn

  together_is : (x y z g : Bool) → (x && (y && (z && g))) ≡ ((x && (y && z)) && g)
  together_is it y z g = grind (arith, common_steps)

  two : (x y t : Expression ColumnId) (g : Bool)
      → ((h : Bool) → expression_grade law x h ≡ (nodes_fit w.bounds x && h))
      → ((h : Bool) → expression_grade law y h ≡ (nodes_fit w.bounds y && h))
      → expression_grade law x
      (expression_grade law y (fits_i64 (expression_range w.bounds t) && g))
      ≡ ((nodes_fit w.bounds x && (nodes_fit w.bounds y
      && fits_i64 (expression_range w.bounds t))) && g)
  two x y t g first second = grind (arith, common_steps, expression_grade, together_is)

  nodes_are : (x : Expression ColumnId) (g : Bool)
      → expression_grade law x g ≡ (nodes_fit w.bounds x && g)
  nodes_are (column c) g = refl
  nodes_are (constant z) g = refl
  nodes_are (add x y) g = two x y (add x y) g (nodes_are x) (nodes_are y)
  nodes_are (sub x y) g = two x y (sub x y) g (nodes_are x) (nodes_are y)
  nodes_are (mul x y) g = two x y (mul x y) g (nodes_are x) (nodes_are y)

  measures_are : (ms : List (Measure ColumnId))
      → values_grade law ms true ≡ list_all (measure_fits w.bounds) ms
  measures_are [] = refl
  measures_are (count ∷ ms) = measures_are ms
  measures_are (fold g x ∷ ms) =
      nodes_are x (values_grade law ms true) ∙ ap (λ b. nodes_fit w.bounds x && b) (measures_are ms)

  grade_is : (ds : List RowCondition) → conjuncts_grade law ds (values_grade law p.measures true)
      ≡ list_all (measure_fits w.bounds) p.measures
  grade_is [] = measures_are p.measures
  grade_is (d ∷ ds) = grade_is ds

-- ---- the whole program

first_agrees : (b : Bool) → AgreeAt (if b then Some (KnownRow Lineorder) else None) (given (pos 0))
first_agrees true = record { range = refl; columns = refl }
first_agrees false = record { range = refl; columns = refl }

some_room : (m : ℕ) → nat_lt 0 (1 + m + 0) ≡ true
some_room m = grind arith

-- the first of its instructions that is refused
pub program_judged : (w : World) (p : Plan) → IsSoundPlan p
    → Judged (AreColumnsI64 w p) (list_all (measure_fits w.bounds) p.measures)
    (first_reason w (compiled p) none_open at_first 1 (compiled p).body) (turn_wide w.bounds p)
program_judged w p sound =
    let met = 1 * w.size Lineorder in
    let pending = open_with none_open (body_code p) in
    let known : AllKnown = with_entry (λ _. None) 0 (KnownRow Lineorder) in
    let written = λ (q : ℕ). false || nat_eq 0 q in
    let inside = first_reason w (compiled p) pending (in_turn met known written) 2 (turn_code p) in
    let alone : first_reason w (compiled p) none_open at_first 1 (compiled p).body ≡ inside =
    (λ j. option_or (at_position 1 (option_map Faulty
    (option_or (unless (some_room (register_count (turn_code p)) j) BadRegister) None)))
    (option_or inside None))
    ∙ or_none_right inside in
    let start : Point =
    record { at = 2; known = known; written = written; computed = λ r. given (pos 0) } in
    subst (λ o. Judged (AreColumnsI64 w p) (list_all (measure_fits w.bounds) p.measures) o
    (turn_wide w.bounds p)) (sym alone)
    (subst (λ b. Judged (AreColumnsI64 w p) b inside (turn_wide w.bounds p))
    (grade_is w p sound met pending p.conjuncts)
    (of_turn (law w p sound met pending) (kept w p sound met pending) (λ z. sound) (λ s. s.1) start
    (omega arith, KnownRow Lineorder, refl, refl, fits_zero)
    (record {
      fresh = λ q h. ne_eqb 0 q (omega arith);
      agree = λ r. first_agrees (nat_eq r 0);
      room = omega arith;
    })))
