-- A law of a turn by one induction over the pieces of a compiled program: it holds of a piece where
-- it holds of what follows the piece, at each point that the piece can come to.
use Rattle.std.{proofs.Common.{◌≡◌, ℕ, ◌+◌, Bool, true, false, List, [], ◌∷◌, Option, Some, None, map, refl, subst, arith}, proofs.lemmas.Bool.and_parts, proofs.lemmas.Grind.common_steps, specs.Prelude.{◌&&◌, ◌||◌}, specs.List.list_all}
use Rattle.star_schema.{specs.declared.table.TableId.TableId, specs.declared.table.TableId.TheVariants.Lineorder, specs.declared.column.ColumnId.ColumnId, specs.Schema.{is_table, kind_of, table_of}, specs.Tables.Value, proofs.Same.{column_same, table_same}}
use Rattle.star_query.specs.Tree.{Comparison, Expression, Measure, column, constant, add, sub, mul, or, and, not, test, count, fold}
use Rattle.star_plan.specs.{Sound.{IsSoundPlan, column_is_sound, comparison_is_sound, condition_is_sound, expression_is_sound, in_scope, joins_table, measure_is_sound}, declared.tree.Join.Join, Meaning.{Plan, RowCondition}, Names.same_kind, Spelled.{IsSpelledPlan, condition_is_spelled, expression_is_spelled, measure_is_spelled}}
use Rattle.star_program.specs.{declared.op.Operation.TheVariants.{Binary, Const, Find, Load, Not, Within}, declared.op.Op.TheVariants.{Assign, Keep, Put}, declared.op.Operation.Operation, declared.op.Operator.Operator, Code.{Code, Stop, Then}, World.is_column}
use Rattle.star_compile_laws.{specs.Compiled.{Env, Rest, one_before, beside, binary_code, column_code, column_from, condition_code, conjuncts_code, env_first, expression_code, fact_code, foreign_of, keys_code, load_code, register_in, one_more, place_code, row_code, turn_code, values_code, with_found, with_loaded, write}, proofs.Contents.{AllHold, Content, Form, IsLimit, Limit, Makes, OfColumn, OfCondition, OfExpression, OfLimit, OfRow, OfTest, adds, after, all_kept, before, both, column_tested, comparison_code, comparison_form, constant_made, denies, either, fails, finds, form_code, has_form, is_after, is_before, is_within, limit_of, limits, loads, multiplies, negated, numbers_put, operator_of, subtracts, tested_code, within}, proofs.Entries.entry_added, proofs.ForeignKeys.{AreForeign, are_foreign}, proofs.Limits.{IsForm, form_is_fit, tested_in_scope}}
use Rattle.star_schema.specs.declared.column.Kind.TheVariants as kind
use Rattle.star_program.specs.declared.op.Operator.TheVariants as operator

-- the end of a turn
abbrev end_of_turn : List ℕ → Env → List ℕ → Code
end_of_turn keys env values = Then (Put 0 keys values) Stop

-- a law of code: a fact of some code at a point of a turn, where the registers below the next one
-- hold something
pub record Law (p : Plan) : Type 1 where
  -- whether the plan is sound, and whether it is spelled
  pub Sound : Type 0
  pub Spelled : Type 0
  -- what the fact depends on besides: a number, or what the conjuncts come to
  pub Grade : Type 0
  pub Point : Type 0
  pub Holds : ℕ → Point → ℕ → Content → Type 0
  pub Fact : Grade → ℕ → Point → Code → Type 0
  -- how it grows by a node of an expression and by a conjunct, and what it is at the put
  pub node : Expression ColumnId → Grade → Grade
  pub conjunct : RowCondition → Grade → Grade
  pub last : Grade

-- the grade before an instruction, by what it makes
abbrev pub made : {G : Type 0} → (Expression ColumnId → G → G) → Content → G → G
made node (OfExpression a) g = node a g
made node _ g = g

module _ {p : Plan} (law : Law p) where
  -- at the next point registers hold what they held before
  abbrev pub Stays : ℕ → law.Point → ℕ → law.Point → Type 0
  Stays n a m b = (r : ℕ) (x : Content) → law.Holds n a r x → law.Holds m b r x

  -- each instruction keeps the law
  pub record IsKept : Type 0 where
    pub step : (g : law.Grade) (n : ℕ) (a : law.Point) (o : Operation) (x : Content) (rest : Code)
        → Makes p.joins law.Sound law.Spelled (law.Holds n a) o x
        → ((b : law.Point) → Stays n a (n + 1) b → law.Holds (n + 1) b n x
        → law.Fact g (n + 1) b rest) → law.Fact (made law.node x g) n a (Then (Assign n o) rest)
    pub column : (g : law.Grade) (n : ℕ) (a : law.Point) (c : ColumnId) (r : ℕ) (code : Code)
        → (law.Sound → column_is_sound p.joins kind.Number c ≡ true) → law.Holds n a r (OfColumn c)
        → (law.Holds n a r (OfExpression (column c)) → law.Fact g n a code)
        → law.Fact (law.node (column c) g) n a code
    pub compared : (n : ℕ) (a : law.Point) (t : Comparison ColumnId Value) (r : ℕ)
        → (law.Sound → comparison_is_sound p.joins t ≡ true)
        → law.Holds n a r (OfTest (column_tested t) (comparison_form t))
        → law.Holds n a r (OfCondition (test t))
    pub keep : (g : law.Grade) (n : ℕ) (a : law.Point) (d : RowCondition) (r : ℕ) (rest : Code)
        → law.Holds n a r (OfCondition d) → ((b : law.Point) → Stays n a n b → law.Fact g n b rest)
        → law.Fact (law.conjunct d g) n a (Then (Keep r) rest)
    pub put : (n : ℕ) (a : law.Point) (ks vs : List ℕ)
        → AllHold (law.Holds n a) (map OfColumn p.keys) ks
        → AllHold (law.Holds n a) (numbers_put p.measures) vs
        → law.Fact law.last n a (Then (Put 0 ks vs) Stop)

  abbrev pub expression_grade : Expression ColumnId → law.Grade → law.Grade
  expression_grade (column c) g = law.node (column c) g
  expression_grade (constant z) g = law.node (constant z) g
  expression_grade (add a b) g = expression_grade a (expression_grade b (law.node (add a b) g))
  expression_grade (sub a b) g = expression_grade a (expression_grade b (law.node (sub a b) g))
  expression_grade (mul a b) g = expression_grade a (expression_grade b (law.node (mul a b) g))

  abbrev pub values_grade : List (Measure ColumnId) → law.Grade → law.Grade
  values_grade [] g = g
  values_grade (count ∷ ms) g = values_grade ms g
  values_grade (fold f a ∷ ms) g = expression_grade a (values_grade ms g)

  abbrev pub conjuncts_grade : List RowCondition → law.Grade → law.Grade
  conjuncts_grade [] g = g
  conjuncts_grade (d ∷ ds) g = law.conjunct d (conjuncts_grade ds g)

  module _ (it : IsKept) (sound : law.Sound → IsSoundPlan p)
      (spelled : law.Spelled → IsSpelledPlan p) where
    abbrev js : List Join
    js = p.joins

    foreign : law.Sound → AreForeign js
    foreign s = are_foreign js (sound s).joins

    -- a point, with what is known there of the columns that are loaded and the rows that are found
    record Position : Type 0 where
      env : Env
      point : law.Point
      fact : law.Holds env.next point 0 (OfRow Lineorder)
      columns : (c : ColumnId) (r : ℕ) → register_in is_column env.loaded c ≡ Some r
          → law.Holds env.next point r (OfColumn c)
      rows : (t : TableId) (r : ℕ) → register_in is_table env.found t ≡ Some r
          → law.Holds env.next point r (OfRow t)

    abbrev At : Content → Position → ℕ → Type 0
    At x a r = law.Holds a.env.next a.point r x

    abbrev Fact : law.Grade → Position → Code → Type 0
    Fact g a code = law.Fact g a.env.next a.point code

    abbrev MakesAt : Position → Operation → Content → Type 0
    MakesAt a o x = Makes js law.Sound law.Spelled (law.Holds a.env.next a.point) o x

    abbrev Onward : Position → Position → Type 0
    Onward a b = (r : ℕ) (x : Content) → At x a r → At x b r

    -- the law holds of what follows, whatever result of this kind it is given
    abbrev Follows : {A : Type 0} → law.Grade → Position → (Position → A → Type 0)
        → (Env → A → Code) → Type 0
    Follows {A} g a Says k = (b : Position) (r : A) → Onward a b → Says b r → Fact g b (k b.env r)

    -- and so of a piece before it
    abbrev Carries : {A : Type 0} → (law.Grade → law.Grade) → (Position → A → Type 0)
        → (Env → (Env → A → Code) → Code) → Type 0
    Carries {A} f Says piece = (g : law.Grade) (a : Position) (k : Env → A → Code)
        → Follows g a Says k
        → Fact (f g) a (piece a.env k)

    later : {A : Type 0} (g : law.Grade) (a b : Position) (Says : Position → A → Type 0)
        (k : Env → A → Code) → Onward a b → Follows g a Says k → Follows g b Says k
    later g a b Says k on h c r more says = h c r (λ q x at. more q x (on q x at)) says

    -- ---- instructions

    abbrev moved : (a : Position) (n : ℕ) (q : law.Point) → Stays a.env.next a.point n q → Position
    moved a n q stays = record {
      env = record a.env { next = n };
      point = q;
      fact = stays 0 (OfRow Lineorder) a.fact;
      columns = λ c r e. stays r (OfColumn c) (a.columns c r e);
      rows = λ t r e. stays r (OfRow t) (a.rows t r e);
    }

    of_write : (o : Operation) (x : Content) (g : law.Grade) (a : Position) (k : Rest ℕ)
        → MakesAt a o x → Follows g a (At x) k → Fact (made law.node x g) a (write o a.env k)
    of_write o x g a k makes h =
        it.step g a.env.next a.point o x (k (one_more a.env) a.env.next) makes
        (λ q stays new. h (moved a (a.env.next + 1) q stays) a.env.next stays new)

    of_load : (c : ColumnId) (t : TableId) (row : ℕ) → (law.Sound → table_of c ≡ t)
        → (g : law.Grade) (a : Position) (k : Rest ℕ) → At (OfRow t) a row
        → Follows g a (At (OfColumn c)) k → Fact g a (load_code c row a.env k)
    of_load c t row of g a k at h =
        let n = a.env.next in
        it.step g n a.point (Load c row) (OfColumn c) (k (with_loaded a.env c) n)
        (loads c t row of at)
        (λ q stays new. h (record {
          env = with_loaded a.env c;
          point = q;
          fact = stays 0 (OfRow Lineorder) a.fact;
          columns = entry_added is_column column_same a.env.loaded c n
              (λ d r. law.Holds (n + 1) q r (OfColumn d)) new
              (λ d r e. stays r (OfColumn d) (a.columns d r e));
          rows = λ t r e. stays r (OfRow t) (a.rows t r e);
        }) n stays new)

    of_find : (t : TableId) → (law.Sound → joins_table js t ≡ true) → (key : ℕ) (g : law.Grade)
        (a : Position) (k : Rest ℕ) → At (OfColumn (foreign_of js t)) a key
        → Follows g a (At (OfRow t)) k → Fact g a
        (Then (Assign a.env.next (Find t key)) (k (with_found a.env t) a.env.next))
    of_find t joined key g a k at h =
        let n = a.env.next in
        it.step g n a.point (Find t key) (OfRow t) (k (with_found a.env t) n)
        (finds t key joined at)
        (λ q stays new. h (record {
          env = with_found a.env t;
          point = q;
          fact = stays 0 (OfRow Lineorder) a.fact;
          columns = λ c r e. stays r (OfColumn c) (a.columns c r e);
          rows = entry_added is_table table_same a.env.found t n
              (λ d r. law.Holds (n + 1) q r (OfRow d)) new
              (λ d r e. stays r (OfRow d) (a.rows d r e));
        }) n stays new)

    -- ---- columns

    of_fact : (c : ColumnId) → (law.Sound → table_of c ≡ Lineorder) → (g : law.Grade) (a : Position)
        (k : Rest ℕ) (o : Option ℕ) → register_in is_column a.env.loaded c ≡ o
        → Follows g a (At (OfColumn c)) k → Fact g a (fact_code c a.env k o)
    of_fact c of g a k (Some r) e h = h a r (λ q x at. at) (a.columns c r e)
    of_fact c of g a k None e h = of_load c Lineorder 0 of g a k a.fact h

    of_row : (t : TableId) → (law.Sound → joins_table js t ≡ true) → (g : law.Grade) (a : Position)
        (k : Rest ℕ) (o : Option ℕ) → register_in is_table a.env.found t ≡ o
        → Follows g a (At (OfRow t)) k → Fact g a (row_code js t a.env k o)
    of_row t joined g a k (Some r) e h = h a r (λ q x at. at) (a.rows t r e)
    of_row t joined g a k None e h =
        let c = foreign_of js t in
        of_fact c (λ s. (foreign s).fact t (joined s)) g a
        (λ e r. Then (Assign e.next (Find t r)) (k (with_found e t) e.next))
        (register_in is_column a.env.loaded c) refl
        (λ b r on at. of_find t joined r g b k at (later g a b (At (OfRow t)) k on h))

    of_place : (c : ColumnId) (g : law.Grade) (a : Position) (k : Rest ℕ) (b : Bool)
        → is_table (table_of c) Lineorder ≡ b
        → (law.Sound → (b || joins_table js (table_of c)) ≡ true)
        → Follows g a (At (OfColumn c)) k → Fact g a (place_code js c a.env k b)
    of_place c g a k true e joined h =
        of_load c Lineorder 0 (λ s. table_same (table_of c) Lineorder e) g a k a.fact h
    of_place c g a k false e joined h = of_row (table_of c) joined g a (λ e r. load_code c r e k)
        (register_in is_table a.env.found (table_of c)) refl
        (λ b r on at. of_load c (table_of c) r (λ s. refl) g b k at
        (later g a b (At (OfColumn c)) k on h))

    of_column_from : (c : ColumnId) → (law.Sound → in_scope js (table_of c) ≡ true)
        → (g : law.Grade) (a : Position) (k : Rest ℕ) (o : Option ℕ)
        → register_in is_column a.env.loaded c ≡ o
        → Follows g a (At (OfColumn c)) k → Fact g a (column_from js c a.env k o)
    of_column_from c ok g a k it e h = grind (arith, common_steps, of_place)

    of_column : (c : ColumnId) → (law.Sound → in_scope js (table_of c) ≡ true)
        → Carries (λ g. g) (At (OfColumn c)) (column_code js c)
    of_column c ok g a k h = of_column_from c ok g a k (register_in is_column a.env.loaded c) refl h

    -- ---- pieces of two parts

    of_two : (x y z : Content) (left right : Env → Rest ℕ → Code) (o : Operator)
        (f f' : law.Grade → law.Grade) → Carries f (At x) left → Carries f' (At y) right
        → ((a : Position) (l r : ℕ) → At x a l → At y a r → MakesAt a (Binary o l r) z)
        → Carries (λ g. f (f' (made law.node z g))) (At z) (binary_code left right o)
    of_two x y z left right o f f' first second makes g a k h =
        first (f' (made law.node z g)) a (λ e x. right e (λ e y. write (Binary o x y) e k))
        (λ b l on at_l. second (made law.node z g) b (λ e y. write (Binary o l y) e k)
        (λ c r more at_r. of_write (Binary o l r) z g c k (makes c l r (more l x at_l) at_r)
        (later g a c (At z) k (λ q x at. more q x (on q x at)) h)))

    abbrev AllAt : List Content → Position → List ℕ → Type 0
    AllAt xs a rs = AllHold (law.Holds a.env.next a.point) xs rs

    of_before : (x : Content) (xs : List Content) (first : Env → Rest ℕ → Code)
        (others : Env → Rest (List ℕ) → Code) (f f' : law.Grade → law.Grade)
        → Carries f (At x) first → Carries f' (AllAt xs) others
        → Carries (λ g. f (f' g)) (AllAt (x ∷ xs)) (one_before first others)
    of_before x xs first others f f' one more g a k h =
        one (f' g) a (λ e r. others e (λ e rs. k e (r ∷ rs)))
        (λ b r on at. more g b (λ e rs. k e (r ∷ rs))
        (λ c rs onward all. h c (r ∷ rs) (λ q y at. onward q y (on q y at))
        (onward r x at, all)))

    -- ---- conditions

    of_beside : (c : ColumnId) (l : Limit) (used : ℕ → Operation) (f : Form)
        → IsLimit law.Sound law.Spelled c l → (g : law.Grade) (a : Position) (k : Rest ℕ)
        → ((b : Position) (m : ℕ) → Onward a b → At (OfLimit c l) b m
        → MakesAt b (used m) (OfTest c f))
        → Follows g a (At (OfTest c f)) k → Fact g a (beside (limit_of c l) used a.env k)
    of_beside c l used f fits g a k makes h =
        of_write (limit_of c l) (OfLimit c l) g a (λ e n. write (used n) e k) (limits c l fits)
        (λ b m on at. of_write (used m) (OfTest c f) g b k (makes b m on at)
        (later g a b (At (OfTest c f)) k on h))

    of_form : (c : ColumnId) (f : Form) (x : ℕ) → IsForm law.Sound law.Spelled c f
        → (g : law.Grade) (a : Position) (k : Rest ℕ)
        → At (OfColumn c) a x → Follows g a (At (OfTest c f)) k → Fact g a (form_code c x f a.env k)
    of_form c (before o l) x fits g a k at h =
        of_beside c l (λ n. Binary (operator_of o) x n) (before o l) fits g a k
        (λ b m on at_m. is_before o c l x m fits (on x (OfColumn c) at) at_m) h
    of_form c (after o l) x fits g a k at h =
        of_beside c l (λ n. Binary (operator_of o) n x) (after o l) fits g a k
        (λ b m on at_m. is_after o c l x m fits (on x (OfColumn c) at) at_m) h
    of_form c (within l u) x fits g a k at h = of_write (limit_of c l) (OfLimit c l) g a
        (λ e m. beside (limit_of c u) (λ n. Within x m n) e k) (limits c l fits.0)
        (λ b m on at_m. of_beside c u (λ n. Within x m n) (within l u) fits.1 g b k
        (λ d n more at_n. is_within c l u x m n fits.0 fits.1
        (more x (OfColumn c) (on x (OfColumn c) at)) (more m (OfLimit c l) at_m) at_n)
        (later g a b (At (OfTest c (within l u))) k on h))
    of_form c (negated f) x fits g a k at h = of_form c f x fits g a (λ e y. write (Not y) e k) at
        (λ b y on at_y. of_write (Not y) (OfTest c (negated f)) g b k (fails c f y at_y)
        (later g a b (At (OfTest c (negated f))) k on h))

    of_comparison : (t : Comparison ColumnId Value) (x : ℕ)
        → (law.Sound → comparison_is_sound js t ≡ true)
        → (law.Spelled → condition_is_spelled (test t) ≡ true) → (g : law.Grade) (a : Position)
        (k : Rest ℕ) → At (OfColumn (column_tested t)) a x
        → Follows g a (At (OfCondition (test t))) k → Fact g a (comparison_code x t a.env k)
    of_comparison t x ok said g a k at h = subst (Fact g a) (has_form x t a.env k)
        (of_form (column_tested t) (comparison_form t) x
        (form_is_fit law.Sound law.Spelled js t ok said) g a k at
        (λ b r on at_r. h b r on (it.compared b.env.next b.point t r ok at_r)))

    halves : {S : Type 0} (x y : Bool) → (S → (x && y) ≡ true) → (S → x ≡ true) × (S → y ≡ true)
    halves x y h = (λ s. (and_parts x y (h s)).0, λ s. (and_parts x y (h s)).1)

    of_condition : (d : RowCondition) → (law.Sound → condition_is_sound js d ≡ true)
        → (law.Spelled → condition_is_spelled d ≡ true)
        → Carries (λ g. g) (At (OfCondition d)) (condition_code js d)
    of_condition (or a b) ok said =
        let oks = halves (condition_is_sound js a) (condition_is_sound js b) ok in
        let says = halves (condition_is_spelled a) (condition_is_spelled b) said in
        of_two (OfCondition a) (OfCondition b) (OfCondition (or a b)) (condition_code js a)
        (condition_code js b) operator.Or (λ g. g) (λ g. g) (of_condition a oks.0 says.0)
        (of_condition b oks.1 says.1) (λ q l r at_l at_r. either a b l r at_l at_r)
    of_condition (and a b) ok said =
        let oks = halves (condition_is_sound js a) (condition_is_sound js b) ok in
        let says = halves (condition_is_spelled a) (condition_is_spelled b) said in
        of_two (OfCondition a) (OfCondition b) (OfCondition (and a b)) (condition_code js a)
        (condition_code js b) operator.And (λ g. g) (λ g. g) (of_condition a oks.0 says.0)
        (of_condition b oks.1 says.1) (λ q l r at_l at_r. both a b l r at_l at_r)
    of_condition (not d) ok said = λ g a k h.
        of_condition d ok said g a (λ e x. write (Not x) e k)
        (λ b x on at. of_write (Not x) (OfCondition (not d)) g b k (denies d x at)
        (later g a b (At (OfCondition (not d))) k on h))
    of_condition (test t) ok said = λ g a k h.
        subst (Fact g a) (tested_code js t a.env k)
        (of_column (column_tested t) (λ s. tested_in_scope js t (ok s)) g a
        (λ e x. comparison_code x t e k)
        (λ b x on at. of_comparison t x ok said g b k at
        (later g a b (At (OfCondition (test t))) k on h)))

    of_conjuncts : (ds : List RowCondition)
        → (law.Sound → list_all (condition_is_sound js) ds ≡ true)
        → (law.Spelled → list_all condition_is_spelled ds ≡ true) → (g : law.Grade) (a : Position)
        (k : Env → Code) → ((b : Position) → Onward a b → Fact g b (k b.env))
        → Fact (conjuncts_grade ds g) a (conjuncts_code js ds a.env k)
    of_conjuncts [] ok said g a k h = h a (λ r x at. at)
    of_conjuncts (d ∷ ds) ok said g a k h =
        let oks = halves (condition_is_sound js d) (list_all (condition_is_sound js) ds) ok in
        let says = halves (condition_is_spelled d) (list_all condition_is_spelled ds) said in
        of_condition d oks.0 says.0 (conjuncts_grade (d ∷ ds) g) a
        (λ e x. Then (Keep x) (conjuncts_code js ds e k))
        (λ b r on at. it.keep (conjuncts_grade ds g) b.env.next b.point d r
        (conjuncts_code js ds b.env k) at
        (λ q stays. of_conjuncts ds oks.1 says.1 g (moved b b.env.next q stays) k
        (λ c more. h c (λ q x at. more q x (stays q x (on q x at))))))

    -- ---- keys and values

    of_keys : (cs : List ColumnId)
        → (law.Sound → list_all (λ c. in_scope js (table_of c)) cs ≡ true)
        → Carries (λ g. g) (AllAt (map OfColumn cs)) (keys_code js cs)
    of_keys [] ok = λ g a k h. h a [] (λ q x at. at) tt
    of_keys (c ∷ cs) ok =
        let oks = halves (in_scope js (table_of c)) (list_all (λ c. in_scope js (table_of c)) cs)
        ok in
        of_before (OfColumn c) (map OfColumn cs) (column_code js c) (keys_code js cs) (λ g. g)
        (λ g. g) (of_column c oks.0) (of_keys cs oks.1)

    of_expression : (e : Expression ColumnId) → (law.Sound → expression_is_sound js e ≡ true)
        → (law.Spelled → expression_is_spelled e ≡ true)
        → Carries (expression_grade e) (At (OfExpression e)) (expression_code js e)
    of_expression (column c) ok said = λ g a k h.
        of_column c
        (λ s. (and_parts (in_scope js (table_of c)) (same_kind (kind_of c) kind.Number) (ok s)).0)
        (law.node (column c) g) a k
        (λ b r on at. it.column g b.env.next b.point c r (k b.env r) ok at (h b r on))
    of_expression (constant z) ok said = λ g a k h.
        of_write (Const z) (OfExpression (constant z)) g a k (constant_made z said) h
    of_expression (add a b) ok said =
        let oks = halves (expression_is_sound js a) (expression_is_sound js b) ok in
        let says = halves (expression_is_spelled a) (expression_is_spelled b) said in
        of_two (OfExpression a) (OfExpression b) (OfExpression (add a b)) (expression_code js a)
        (expression_code js b) operator.Add (expression_grade a) (expression_grade b)
        (of_expression a oks.0 says.0) (of_expression b oks.1 says.1)
        (λ q l r at_l at_r. adds a b l r at_l at_r)
    of_expression (sub a b) ok said =
        let oks = halves (expression_is_sound js a) (expression_is_sound js b) ok in
        let says = halves (expression_is_spelled a) (expression_is_spelled b) said in
        of_two (OfExpression a) (OfExpression b) (OfExpression (sub a b)) (expression_code js a)
        (expression_code js b) operator.Sub (expression_grade a) (expression_grade b)
        (of_expression a oks.0 says.0) (of_expression b oks.1 says.1)
        (λ q l r at_l at_r. subtracts a b l r at_l at_r)
    of_expression (mul a b) ok said =
        let oks = halves (expression_is_sound js a) (expression_is_sound js b) ok in
        let says = halves (expression_is_spelled a) (expression_is_spelled b) said in
        of_two (OfExpression a) (OfExpression b) (OfExpression (mul a b)) (expression_code js a)
        (expression_code js b) operator.Mul (expression_grade a) (expression_grade b)
        (of_expression a oks.0 says.0) (of_expression b oks.1 says.1)
        (λ q l r at_l at_r. multiplies a b l r at_l at_r)

    of_values : (ms : List (Measure ColumnId))
        → (law.Sound → list_all (measure_is_sound js) ms ≡ true)
        → (law.Spelled → list_all measure_is_spelled ms ≡ true)
        → Carries (values_grade ms) (AllAt (numbers_put ms)) (values_code js ms)
    of_values [] ok said = λ g a k h. h a [] (λ q x at. at) tt
    of_values (count ∷ ms) ok said = of_values ms ok said
    of_values (fold f e ∷ ms) ok said =
        let oks = halves (expression_is_sound js e) (list_all (measure_is_sound js) ms) ok in
        let says = halves (expression_is_spelled e) (list_all measure_is_spelled ms) said in
        of_before (OfExpression e) (numbers_put ms) (expression_code js e) (values_code js ms)
        (expression_grade e) (values_grade ms) (of_expression e oks.0 says.0)
        (of_values ms oks.1 says.1)

    -- the law holds of a turn
    pub of_turn : (a : law.Point) → law.Holds 1 a 0 (OfRow Lineorder)
        → law.Fact (conjuncts_grade p.conjuncts (values_grade p.measures law.last)) 1 a
        (turn_code p)
    of_turn a fact =
        let values = λ (e : Env) (ks : List ℕ). values_code js p.measures e (end_of_turn ks) in
        let keys = λ (e : Env). keys_code js p.keys e values in
        let g = values_grade p.measures law.last in
        of_conjuncts p.conjuncts (λ s. (sound s).conjuncts) (λ s. (spelled s).conjuncts) g
        (record {
          env = env_first;
          point = a;
          fact = fact;
          columns = λ c r e. absurd (cc);
          rows = λ t r e. absurd (cc);
        }) keys
        (λ b on. of_keys p.keys (λ s. (sound s).keys) g b values
        (λ c ks more at_k. of_values p.measures (λ s. (sound s).measures)
        (λ s. (spelled s).measures) law.last c (end_of_turn ks)
        (λ d vs again at_v. it.put d.env.next d.point ks vs
        (all_kept (law.Holds c.env.next c.point) (law.Holds d.env.next d.point) again
        (map OfColumn p.keys) ks at_k) at_v)))
