-- What a verifier knows of the registers of a turn, and how it judges the operations that write
-- them.
use Rattle.std.{proofs.Common.{◌≡◌, ℕ, ◌≤◌, ◌<◌, Bool, true, false, Option, Some, None, refl, sym, ap, ◌∙◌, arith}, proofs.lemmas.Bool.{and_from, and_parts, lt-ltb}, specs.Prelude.{ℤ, pos, ◌+ℤ◌, ◌-ℤ◌, ◌*ℤ◌, ◌&&◌, not, if◌then◌else◌}, specs.Option.option_map, proofs.lemmas.Grind.common_steps, proofs.lemmas.Int.ints}
use Rattle.star_schema.{specs.declared.column.ColumnId.ColumnId, specs.Columns.AreBoundsI64, specs.Schema.{is_table, kind_of, table_of}, proofs.Same.{column_itself, table_itself}}
use Rattle.star_schema.specs.declared.column.Kind.TheVariants as kind
use Rattle.star_interval.{specs.Range.{Range, corner_range, fits_i64, is_i64, only}, proofs.Ranges.fits_i64_fits}
use Rattle.star_query.specs.Tree as condition
use Rattle.star_query.specs.Tree.{Expression, add, constant, mul, sub}
use Rattle.star_plan.specs.{Fits.expression_range, Meaning.Plan, Sound.IsSoundPlan, Spelled.IsSpelledPlan}
use Rattle.star_program.specs.{declared.fault.Fault.TheVariants.BadColumn, declared.op.Op.TheVariants.Assign, declared.op.Operation.Operation, declared.op.Operator.Operator, declared.program.Parts.Parts, declared.value.Kind.Kind, declared.op.Operation.TheVariants.{Binary, Const, Not, Read, Within}, Faults.{Kinds, binary_fault, both_fault, compare_fault, compares_with, is_flag_kind, is_number_kind, is_ordered, is_row_kind, is_row_of, operand_fault, operation_fault, unless}, World.{World, is_column, is_text}}
use Rattle.star_program.specs.declared.op.Operator.TheVariants as operator
use Rattle.star_safety.{specs.declared.reason.Reason.TheVariants.NotAForeignKey, specs.Contexts.{Context, operation_known}, specs.Refusals.{is_some_table, refers_to, refuses, source_reason}, specs.Tallies.no_shares, specs.Ranges.{AllKnown, Known, KnownFlag, KnownNumber, KnownPlace, KnownRow, Reach, answer_known, joined_reach, kinds_known, known_arithmetic, known_kind, known_number, loaded_known, no_reach, origin_at, range_at, reach_at}, proofs.Instructions.both_none}
use Rattle.star_compile_laws.{specs.Compiled.{compiled, foreign_of}, specs.Wide.{Computed, computed, given, together}, proofs.ForeignKeys.are_foreign, proofs.Pieces.made, proofs.Contents.{Comparing, Content, Limit, Makes, after, before, negated, OfColumn, OfCondition, OfExpression, OfLimit, OfRow, OfTest, adds, at_most, both, constant_made, denies, edge, either, equal, fails, finds, is_after, is_before, is_within, less, limits, loads, multiplies, number, of_texts, operator_of, subtracts, within}}

-- the bounds of columns are of 64 bits, and so are the constants
abbrev pub AreColumnsI64 : World → Plan → Type 0
AreColumnsI64 w p = AreBoundsI64 w.bounds × IsSpelledPlan p

number_kind : (c : ColumnId) → is_text c ≡ false → kind_of c ≡ kind.Number
number_kind c e = grind (arith, common_steps)

-- ---- ranges

-- a number's range lies in 64 bits; what is no number counts as 0
abbrev pub fits : Known → Bool
fits v = fits_i64 (range_at (Some v))

pub fits_zero : fits_i64 (only (pos 0)) ≡ true
unfolding is_i64
fits_zero = refl

-- what the verifier knows is what is computed of numbers alone
pub record AgreeAt (o : Option Known) (n : Computed) : Type 0 where
  pub range : range_at o ≡ n.range
  pub columns : reach_at o ≡ n.columns

abbrev pub Agree : AllKnown → (ℕ → Computed) → Type 0
Agree known computed = (r : ℕ) → AgreeAt (known r) (computed r)

-- ---- operations

abbrev pub is_read : Operation → Bool
is_read (Read g a n) = true
is_read _ = false

-- of what compares: what it takes, and that it makes a flag and no number
comparing : (o : Comparing)
    → ((registers : ℕ) (kinds : Kinds) (l r : ℕ)
    → binary_fault registers kinds (operator_of o) l r ≡ compare_fault registers kinds l r)
    × ((l r : Option Known) → answer_known (operator_of o) l r ≡ KnownFlag)
    × ((bounds : ColumnId → Range) (known : ℕ → Computed) (l r : ℕ)
    → given (pos 0) ≡ computed bounds known (Binary (operator_of o) l r))
comparing less = (λ registers kinds l r. refl, λ l r. refl, λ bounds known l r. refl)
comparing at_most = (λ registers kinds l r. refl, λ l r. refl, λ bounds known l r. refl)
comparing equal = (λ registers kinds l r. refl, λ l r. refl, λ bounds known l r. refl)

pub record Point : Type 0 where
  pub at : ℕ
  pub known : AllKnown
  pub written : ℕ → Bool
  pub computed : ℕ → Computed

-- in a scan whose turns are met `met` times, where nothing was put
abbrev pub in_turn : ℕ → AllKnown → (ℕ → Bool) → Context
in_turn met known written = record {
  inside = true;
  met = met;
  known = known;
  written = written;
  so_far = no_shares;
  keys_so_far = no_shares;
}

module _ (w : World) (p : Plan) (met : ℕ) where
  abbrev pub f : Parts
  f = compiled p

  abbrev pub Asked : Type 0
  Asked = AreColumnsI64 w p

  abbrev pub column_known : ColumnId → Known
  column_known c = loaded_known w c (is_text c)

  abbrev limit_known : ColumnId → Limit → Known
  limit_known c (number a) = known_number (only a)
  limit_known c (edge e t) = KnownPlace c

  -- ---- what is known of registers

  abbrev pub Is : Content → Known → Type 0
  Is (OfRow t) v = v ≡ KnownRow t
  Is (OfColumn c) v = v ≡ column_known c
  Is (OfLimit c l) v = v ≡ limit_known c l
  Is (OfTest c x) v = v ≡ KnownFlag
  Is (OfCondition d) v = v ≡ KnownFlag
  Is (OfExpression a) v = (reach : Reach) × (o : Option ColumnId)
      × (v ≡ KnownNumber (expression_range w.bounds a) reach o)

  abbrev pub Holds : ℕ → Point → ℕ → Content → Type 0
  Holds n a r x = (r < n) × (v : Known) × (a.known r ≡ Some v) × Is x v × (fits v ≡ true)

  abbrev pub context : Point → Context
  context a = in_turn met a.known a.written

  -- an expression's own range
  abbrev pub node : Expression ColumnId → Bool → Bool
  node x b = fits_i64 (expression_range w.bounds x) && b

  -- ---- operands

  abbrev pub Has : ℕ → Point → ℕ → Known → Type 0
  Has n a r v = (r < n) × (a.known r ≡ Some v)

  pub operand : (n : ℕ) (a : Point) (takes : Kind → Bool) (r : ℕ) (v : Known) → n ≤ f.registers
      → Has n a r v → takes (known_kind v) ≡ true
      → operand_fault f.registers (kinds_known a.known) takes r ≡ None
  operand n a takes r v room at ok = grind (arith, common_steps, both_none, lt-ltb)

  compares : (n : ℕ) (a : Point) (x r : ℕ) (u v : Known) → n ≤ f.registers → Has n a x u
      → Has n a r v → compares_with (Some (known_kind u)) (known_kind v) ≡ true
      → operand_fault f.registers (kinds_known a.known) (compares_with (kinds_known a.known x)) r
      ≡ None
  compares n a x r u v room at_x at_r ok = grind (arith, common_steps, operand)

  ordered_column : (c : ColumnId) (b : Bool) → is_ordered (known_kind (loaded_known w c b)) ≡ true
  ordered_column c true = refl
  ordered_column c false = refl

  ordered_limit : (c : ColumnId) (l : Limit) → is_ordered (known_kind (limit_known c l)) ≡ true
  ordered_limit c (number a) = refl
  ordered_limit c (edge e t) = refl

  -- a column and a limit for it compare either way
  column_first : (c : ColumnId) (b : Bool) (l : Limit) → b ≡ of_texts l
      → compares_with (Some (known_kind (loaded_known w c b))) (known_kind (limit_known c l)) ≡ true
  column_first c false (number a) e = refl
  column_first c true (edge k t) e = column_itself c
  column_first c true (number a) e = absurd (cc)
  column_first c false (edge k t) e = absurd (cc)

  limit_first : (c : ColumnId) (b : Bool) (l : Limit) → b ≡ of_texts l
      → compares_with (Some (known_kind (limit_known c l))) (known_kind (loaded_known w c b)) ≡ true
  limit_first c false (number a) e = refl
  limit_first c true (edge k t) e = column_itself c
  limit_first c true (number a) e = absurd (cc)
  limit_first c false (edge k t) e = absurd (cc)

  pub at_of : (n : ℕ) (a : Point) (r : ℕ) (x : Content) (v : Known) (h : Holds n a r x) → h.1 ≡ v
      → Has n a r v
  at_of n a r x v h e = (h.0, h.2 ∙ ap Some e)

  -- ---- how an operation is judged

  pub record Suits (n : ℕ) (a : Point) (o : Operation) (x : Content) : Type 0 where
    pub v : Known
    pub is : Is x v
    pub plain : is_read o ≡ false
    pub operands : operation_fault f.registers (kinds_known a.known) o ≡ None
    pub source : (later : ℕ → Bool) (t : ℕ) → source_reason later (context a) (Assign t o) ≡ None
    pub makes : operation_known w f (context a) o ≡ v
    pub agree : AgreeAt (Some v) (computed w.bounds a.computed o)
    pub sure : (b : Bool) → Asked → made node x b ≡ true → fits v ≡ true

  -- what makes a flag
  flag_suits : (n : ℕ) (a : Point) (o : Operation) (x : Content) → Is x KnownFlag
      → is_read o ≡ false → operation_fault f.registers (kinds_known a.known) o ≡ None
      → ((later : ℕ → Bool) (t : ℕ) → source_reason later (context a) (Assign t o) ≡ None)
      → operation_known w f (context a) o ≡ KnownFlag
      → given (pos 0) ≡ computed w.bounds a.computed o → Suits n a o x
  flag_suits n a o x is plain operands source makes none = grind (arith, common_steps, fits_zero)

  compares_suit : (n : ℕ) (a : Point) (o : Comparing) (x : Content) (l r : ℕ) (u v : Known)
      → n ≤ f.registers → Is x KnownFlag → Has n a l u → Has n a r v
      → is_ordered (known_kind u) ≡ true → compares_with (Some (known_kind u)) (known_kind v) ≡ true
      → Suits n a (Binary (operator_of o) l r) x
  compares_suit n a o x l r u v room is at_l at_r ordered ok =
      flag_suits n a (Binary (operator_of o) l r) x is refl
      ((comparing o).0 f.registers (kinds_known a.known) l r
      ∙ both_none _ _ (operand n a is_ordered l u room at_l ordered)
      (compares n a l r u v room at_l at_r ok)) (λ g t. refl)
      ((comparing o).1 (a.known l) (a.known r)) ((comparing o).2 w.bounds a.computed l r)

  two_flags : (n : ℕ) (a : Point) (l r : ℕ) → n ≤ f.registers → Has n a l KnownFlag
      → Has n a r KnownFlag → both_fault f.registers (kinds_known a.known) is_flag_kind l r ≡ None
  two_flags n a l r room at_l at_r = grind (arith, common_steps, both_none, operand)

  not_suits : (n : ℕ) (a : Point) (x : Content) (r : ℕ) → n ≤ f.registers → Is x KnownFlag
      → Has n a r KnownFlag → Suits n a (Not r) x
  not_suits n a x r room is at =
      flag_suits n a (Not r) x is refl (operand n a is_flag_kind r KnownFlag room at refl)
      (λ g t. refl) refl refl

  number_suits : (n : ℕ) (a : Point) (z : ℤ) (x : Content) → Is x (known_number (only z))
      → ((b : Bool) → Asked → made node x b ≡ true → fits_i64 (only z) ≡ true)
      → Suits n a (Const z) x
  number_suits n a z x is sure = grind (arith, common_steps, ints)

  -- arithmetic on two numbers
  computes_suit : (n : ℕ) (a : Point) (o : Operator) (z : ℤ → ℤ → ℤ) (x y t : Expression ColumnId)
      (l r : ℕ) → n ≤ f.registers → Agree a.known a.computed → expression_range w.bounds t
      ≡ corner_range z (expression_range w.bounds x) (expression_range w.bounds y)
      → operation_fault f.registers (kinds_known a.known) (Binary o l r)
      ≡ both_fault f.registers (kinds_known a.known) is_number_kind l r
      → answer_known o (a.known l) (a.known r) ≡ known_arithmetic z (a.known l) (a.known r)
      → together z (a.computed l) (a.computed r) ≡ computed w.bounds a.computed (Binary o l r)
      → Holds n a l (OfExpression x) → Holds n a r (OfExpression y)
      → Suits n a (Binary o l r) (OfExpression t)
  computes_suit n a o z x y t l r room agree is takes makes computes at_l at_r =
      let u = at_of n a l (OfExpression x) _ at_l at_l.3.2 in
      let v = at_of n a r (OfExpression y) _ at_r at_r.3.2 in
      let reach = joined_reach at_l.3.0 at_r.3.0 in
      let range = expression_range w.bounds t in
      let known : known_arithmetic z (a.known l) (a.known r) ≡ KnownNumber range reach None =
      (λ i. known_arithmetic z (u.1 i) (v.1 i)) ∙ ap (λ q. KnownNumber q reach None) (sym is) in
      record {
        v = KnownNumber range reach None;
        is = (reach, None, refl);
        plain = refl;
        operands = takes ∙ both_none _ _ (operand n a is_number_kind l _ room u refl)
            (operand n a is_number_kind r _ room v refl);
        source = λ g t. refl;
        makes = makes ∙ known;
        agree = record {
          range = ap (λ k. range_at (Some k)) (sym known)
              ∙ (λ i. corner_range z ((agree l).range i) ((agree r).range i))
              ∙ ap (λ n. n.range) computes;
          columns = ap (λ k. reach_at (Some k)) (sym known)
              ∙ (λ i. joined_reach ((agree l).columns i) ((agree r).columns i))
              ∙ ap (λ n. n.columns) computes;
        };
        sure = λ b s e. (and_parts (fits_i64 range) b e).0;
      }

  -- a column's bounds, where they are asked for
  column_sure : Asked → (c : ColumnId) (b : Bool) → is_text c ≡ b → fits (loaded_known w c b) ≡ true
  column_sure s c true e = fits_zero
  column_sure s c false e = (fits_i64_fits (w.bounds c)).1 (s.0 c (number_kind c e))

  loaded_agrees : (c : ColumnId) (b : Bool) → AgreeAt (Some (loaded_known w c b))
      (if b then given (pos 0) else record { range = w.bounds c; columns = is_column c })
  loaded_agrees c true = record { range = refl; columns = refl }
  loaded_agrees c false = record { range = refl; columns = refl }

  pub number_known : (c : ColumnId) (b : Bool) → b ≡ false
      → loaded_known w c b ≡ KnownNumber (w.bounds c) (is_column c) (Some c)
  number_known c true e = absurd (cc)
  number_known c false e = refl

  pub suits : IsSoundPlan p → (n : ℕ) (a : Point) (o : Operation) (x : Content) → n ≤ f.registers
      → Agree a.known a.computed → Makes p.joins (Unit {0}) Asked (Holds n a) o x → Suits n a o x
  suits sound n a _ _ room agree (loads c t row of at) =
      let h = at_of n a row (OfRow t) (KnownRow t) at at.3 in
      record {
        v = column_known c;
        is = refl;
        plain = refl;
        operands = both_none _ _ (operand n a is_row_kind row (KnownRow t) room h refl)
            (ap (λ o. unless (is_row_of (table_of c) (option_map known_kind o)) BadColumn) h.1
            ∙ ap (λ q. unless (is_table t q) BadColumn) (of tt)
            ∙ ap (λ b. unless b BadColumn) (table_itself t));
        source = λ g t. refl;
        makes = refl;
        agree = loaded_agrees c (is_text c);
        sure = λ b s e. column_sure s c (is_text c) refl;
      }
  suits sound n a _ _ room agree (finds t key joined at) =
      let foreign = are_foreign p.joins sound.joins in
      let c = foreign_of p.joins t in
      let v = KnownNumber (w.bounds c) (is_column c) (Some c) in
      let h = at_of n a key (OfColumn c) v at
      (at.3 ∙ number_known c (is_text c) (foreign.number t (joined tt))) in
      record {
        v = KnownRow t;
        is = refl;
        plain = refl;
        operands = operand n a is_number_kind key v room h refl;
        source = λ g q. ap (λ o. refuses (not (refers_to t (origin_at o))) NotAForeignKey) h.1
            ∙ ap (λ o. refuses (not (is_some_table t o)) NotAForeignKey)
            (foreign.references t (joined tt))
            ∙ ap (λ b. refuses (not b) NotAForeignKey) (table_itself t);
        makes = refl;
        agree = record { range = refl; columns = refl };
        sure = λ b s e. fits_zero;
      }
  suits sound n a _ _ room agree (limits c (number z) is) =
      number_suits n a z (OfLimit c (number z)) refl
      (λ b s e. and_from (is_i64 z) (is_i64 z) (is.said s) (is.said s))
  suits sound n a _ _ room agree (limits c (edge e t) is) = record {
    v = KnownPlace c;
    is = refl;
    plain = refl;
    operands = ap (λ b. unless b BadColumn) (is.kind tt);
    source = λ g t. refl;
    makes = refl;
    agree = record { range = refl; columns = refl };
    sure = λ b s e. fits_zero;
  }
  suits sound n a _ _ room agree (is_before o c l x m is at_x at_m) =
      compares_suit n a o (OfTest c (before o l)) x m (column_known c) (limit_known c l) room refl
      (at_of n a x (OfColumn c) _ at_x at_x.3) (at_of n a m (OfLimit c l) _ at_m at_m.3)
      (ordered_column c (is_text c)) (column_first c (is_text c) l (is.kind tt))
  suits sound n a _ _ room agree (is_after o c l x m is at_x at_m) =
      compares_suit n a o (OfTest c (after o l)) m x (limit_known c l) (column_known c) room refl
      (at_of n a m (OfLimit c l) _ at_m at_m.3) (at_of n a x (OfColumn c) _ at_x at_x.3)
      (ordered_limit c l) (limit_first c (is_text c) l (is.kind tt))
  suits sound n a _ _ room agree (is_within c l u x m q is also at_x at_m at_q) =
      let at = at_of n a x (OfColumn c) (column_known c) at_x at_x.3 in
      flag_suits n a (Within x m q) (OfTest c (within l u)) refl refl
      (both_none _ _
      (both_none _ _
      (operand n a is_ordered x (column_known c) room at (ordered_column c (is_text c)))
      (compares n a x m (column_known c) (limit_known c l) room at
      (at_of n a m (OfLimit c l) _ at_m at_m.3) (column_first c (is_text c) l (is.kind tt))))
      (compares n a x q (column_known c) (limit_known c u) room at
      (at_of n a q (OfLimit c u) _ at_q at_q.3) (column_first c (is_text c) u (also.kind tt))))
      (λ g t. refl) refl refl
  suits sound n a _ _ room agree (fails c x r at) =
      not_suits n a (OfTest c (negated x)) r room refl (at_of n a r (OfTest c x) _ at at.3)
  suits sound n a _ _ room agree (denies d r at) =
      not_suits n a (OfCondition (condition.not d)) r room refl
      (at_of n a r (OfCondition d) _ at at.3)
  suits sound n a _ _ room agree (either c d l r at_l at_r) =
      flag_suits n a (Binary operator.Or l r) (OfCondition (condition.or c d)) refl refl
      (two_flags n a l r room (at_of n a l (OfCondition c) _ at_l at_l.3)
      (at_of n a r (OfCondition d) _ at_r at_r.3)) (λ g t. refl) refl refl
  suits sound n a _ _ room agree (both c d l r at_l at_r) =
      flag_suits n a (Binary operator.And l r) (OfCondition (condition.and c d)) refl refl
      (two_flags n a l r room (at_of n a l (OfCondition c) _ at_l at_l.3)
      (at_of n a r (OfCondition d) _ at_r at_r.3)) (λ g t. refl) refl refl
  suits sound n a _ _ room agree (constant_made z few) =
      number_suits n a z (OfExpression (constant z)) (no_reach, None, refl)
      (λ b s e. (and_parts (fits_i64 (only z)) b e).0)
  suits sound n a _ _ room agree (adds x y l r at_l at_r) =
      computes_suit n a operator.Add ◌+ℤ◌ x y (add x y) l r room agree refl refl refl refl at_l at_r
  suits sound n a _ _ room agree (subtracts x y l r at_l at_r) =
      computes_suit n a operator.Sub ◌-ℤ◌ x y (sub x y) l r room agree refl refl refl refl at_l at_r
  suits sound n a _ _ room agree (multiplies x y l r at_l at_r) =
      computes_suit n a operator.Mul ◌*ℤ◌ x y (mul x y) l r room agree refl refl refl refl at_l at_r
