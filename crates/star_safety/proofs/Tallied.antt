-- Tallies hold what numbers add up to.
use Rattle.std.proofs.{Common.{◌≡◌, ℕ, suc, ◌+◌, ◌^◌, ◌≤◌, ◌<◌, Bool, true, false, List, [], ◌∷◌, length, Option, Some, None, refl, sym, ap, subst, ◌∙◌, arith}, lemmas.Grind.common_steps}
use Rattle.star_safety.proofs.{Common.{Aggregate, Count, Holds, KeyValue, Max, Min, Range, Share, Sum, TotalLies, Update, aggregate, aggregate_range, and_from, and_parts, belongs, clamps, cond, count_small, holds_within, hull_with, int_max, int_min, ints, is_i128, joined, joined_with, key_value_cmp, le-leb, leaves, leb-true, list_any, lt-ltb, ltb-true, members, nat_le, nat_lt, negsuc, not, numbers_for, only, or_from, pos, read_range, some_leaves, sum_of, unwrap_or, ℤ, ◌&&◌, ◌+ℤ◌}, Tally.{Tally, once, joined_range, plus, tally_of, tally_sum, tally_range, sum_fits, range_is}, Numbers.{holds_itself, holds_hull_left, holds_hull_right, fits_in, up_grows}, TallyOrder.{LiesIn, lies_in_right, AtMost}}
use borrow.Author.Differences.{up, down, sum_is_lem}

-- ---- sums, by the sign of their numbers

abbrev pub sum_up : List ℤ → ℕ
sum_up [] = 0
sum_up (v ∷ vs) = up v + sum_up vs

abbrev pub sum_down : List ℤ → ℕ
sum_down [] = 0
sum_down (v ∷ vs) = down v + sum_down vs

sum_is : (vs : List ℤ) → up (sum_of vs) + sum_down vs ≡ down (sum_of vs) + sum_up vs
sum_is [] = refl
sum_is (v ∷ vs) = omega (arith, sum_is vs, sum_is_lem v (sum_of vs))

parted : (z : ℤ) (n m : ℕ) → up z + m ≡ down z + n → (up z ≤ n) × (down z ≤ m)
parted (pos k) n m e = omega arith
parted (negsuc k) n m e = omega arith

-- a sum lies between the sums of its negative and of its positive numbers
sum_between : (vs : List ℤ) → (up (sum_of vs) ≤ sum_up vs) × (down (sum_of vs) ≤ sum_down vs)
sum_between vs = parted (sum_of vs) (sum_up vs) (sum_down vs) (sum_is vs)

-- ---- numbers and their tally

abbrev pub InRange : Option Range → ℤ → Type 0
InRange None z = ⊥
InRange (Some r) z = Holds r z

abbrev pub AllInRange : Option Range → List ℤ → Type 0
AllInRange o [] = Unit {0}
AllInRange o (v ∷ vs) = InRange o v × AllInRange o vs

-- the numbers add up to no more than the tally says
pub record IsTallied (t : Tally) (vs : List ℤ) : Type 0 where
  pub above : sum_up vs ≤ t.above
  pub below : sum_down vs ≤ t.below
  pub many : length vs ≤ t.many
  pub each : AllInRange t.each vs

in_wider : (s t : Option Range) (z : ℤ) → LiesIn s t → InRange s z → InRange t z
in_wider None t z p h = absurd h
in_wider (Some r) None z p h = absurd p
in_wider (Some r) (Some s) z p h = holds_within r s z p h

all_in_wider : (s t : Option Range) (vs : List ℤ) → LiesIn s t → AllInRange s vs → AllInRange t vs
all_in_wider s t [] p h = tt
all_in_wider s t (v ∷ vs) p h = (in_wider s t v p h.0, all_in_wider s t vs p h.1)

pub tallied_more : (t u : Tally) (vs : List ℤ) → AtMost t u → IsTallied t vs → IsTallied u vs
tallied_more t u vs p w = grind (arith, common_steps, ints, all_in_wider)

-- with one number more
pub tallied_put : (t : Tally) (r : Range) (v : ℤ) (vs : List ℤ) → IsTallied t vs
    → Holds r v → IsTallied (plus t (once r)) (v ∷ vs)
tallied_put t r v vs w h =
    grind (arith, common_steps, ints, up_grows, in_wider, joined_range, lies_in_right, all_in_wider)

-- ---- what fits

abbrev pub counted_fits : Aggregate → Tally → Bool
counted_fits Sum t = sum_fits t
counted_fits Count t = nat_lt t.many (2 ^ 63)
counted_fits _ t = true

-- each SUM and each COUNT, from the aggregate at a position on
abbrev pub tallies_fit : List Aggregate → ℕ → (ℕ → Tally) → Bool
tallies_fit [] a t = true
tallies_fit (g ∷ gs) a t = counted_fits g (t a) && tallies_fit gs (suc a) t

tally_fit : (g : Aggregate) (t : Tally) → sum_fits t ≡ true → t.many < 2 ^ 63
    → counted_fits g t ≡ true
tally_fit g t e h = grind (arith, common_steps, lt-ltb)

-- where all sums fit and the counts are few
pub all_tallies_fit : (gs : List Aggregate) (a : ℕ) (t : ℕ → Tally)
    → ((k : ℕ) → sum_fits (t k) ≡ true) → ((k : ℕ) → (t k).many < 2 ^ 63)
    → tallies_fit gs a t ≡ true
all_tallies_fit [] a t e h = refl
all_tallies_fit (g ∷ gs) a t e h =
    and_from (counted_fits g (t a)) (tallies_fit gs (suc a) t) (tally_fit g (t a) (e a) (h a))
    (all_tallies_fit gs (suc a) t e h)

pub sum_ends : (t : Tally) → sum_fits t ≡ true → (t.below ≤ 2 ^ 127) × (t.above < 2 ^ 127)
sum_ends t e =
    let p = and_parts (nat_le t.below (2 ^ 127)) (nat_lt t.above (2 ^ 127)) e in
    (leb-true t.below (2 ^ 127) p.0, ltb-true t.above (2 ^ 127) p.1)

sum_fits_less : (t u : Tally) → AtMost t u → sum_fits u ≡ true → sum_fits t ≡ true
sum_fits_less t u p e = grind (arith, common_steps, sum_ends, and_from, le-leb, lt-ltb)

counted_less : (g : Aggregate) (t u : Tally) → AtMost t u → counted_fits g u ≡ true
    → counted_fits g t ≡ true
counted_less g t u p e = grind (arith, common_steps, sum_fits_less, lt-ltb, ltb-true)

pub tallies_fit_less : (gs : List Aggregate) (a : ℕ) (t u : ℕ → Tally)
    → ((k : ℕ) → AtMost (t k) (u k)) → tallies_fit gs a u ≡ true → tallies_fit gs a t ≡ true
tallies_fit_less [] a t u p e = refl
tallies_fit_less (g ∷ gs) a t u p e =
    let q = and_parts (counted_fits g (u a)) (tallies_fit gs (suc a) u) e in
    and_from (counted_fits g (t a)) (tallies_fit gs (suc a) t)
    (counted_less g (t a) (u a) (p a) q.0) (tallies_fit_less gs (suc a) t u p q.1)

-- ---- aggregates

joined_sum : (v : ℤ) (vs : List ℤ) → joined (λ x y. x +ℤ y) (v ∷ vs) ≡ Some (sum_of (v ∷ vs))
joined_sum v [] = let e : v ≡ v +ℤ pos 0 = omega (arith, ints) in ap Some e
joined_sum v (w ∷ ws) = ap (joined_with (λ x y. x +ℤ y) v) (joined_sum w ws)

sum_fits_128 : (t : Tally) (vs : List ℤ) → IsTallied t vs → sum_fits t ≡ true
    → is_i128 (sum_of vs) ≡ true
sum_fits_128 t vs w e = grind (arith, common_steps, ints, sum_ends, sum_between, fits_in, sum_of)

stays : (g : Aggregate) (t : Tally) (vs : List ℤ) → IsTallied t vs → counted_fits g t ≡ true
    → leaves g (aggregate g vs) ≡ false
stays Sum t [] w e = refl
stays Sum t (v ∷ vs) w e = ap (leaves Sum) (joined_sum v vs) ∙ ap not (sum_fits_128 t (v ∷ vs) w e)
stays Count t vs w e =
    ap not (count_small (length vs) (omega (arith, w.many, ltb-true t.many (2 ^ 63) e)))
stays Min t vs w e = refl
stays Max t vs w e = refl

all_stay : (gs : List Aggregate) (a : ℕ) (t : ℕ → Tally) (us : List Update)
    → ((k : ℕ) → IsTallied (t k) (numbers_for k us)) → tallies_fit gs a t ≡ true
    → some_leaves gs a us ≡ false
all_stay [] a t us w e = refl
all_stay (g ∷ gs) a t us w e =
    let p = and_parts (counted_fits g (t a)) (tallies_fit gs (suc a) t) e in
    or_from (leaves g (aggregate g (numbers_for a us))) (some_leaves gs (suc a) us)
    (stays g (t a) (numbers_for a us) (w a) p.0) (all_stay gs (suc a) t us w p.1)

-- ---- the members of a group are some of the updates

pub record IsNoMore (o : Option Range) (ws vs : List ℤ) : Type 0 where
  pub above : sum_up ws ≤ sum_up vs
  pub below : sum_down ws ≤ sum_down vs
  pub many : length ws ≤ length vs
  pub each : AllInRange o vs → AllInRange o ws

one_more : (b : Bool) (o : Option Range) (a : ℕ) (u : Update) (us ms : List Update)
    → IsNoMore o (numbers_for a ms) (numbers_for a us)
    → IsNoMore o (numbers_for a (cond b (u ∷ ms) ms)) (numbers_for a (u ∷ us))
one_more b o a u us ms p = grind (arith, common_steps)

fewer : (o : Option Range) (a : ℕ) (m : List (Option KeyValue)) (us : List Update)
    → IsNoMore o (numbers_for a (members key_value_cmp m us)) (numbers_for a us)
fewer o a m [] =
    record { above = omega arith; below = omega arith; many = omega arith; each = λ h. h }
fewer o a m (u ∷ us) =
    one_more (belongs key_value_cmp m u.keys) o a u us (members key_value_cmp m us) (fewer o a m us)

pub tallied_members : (t : Tally) (a : ℕ) (m : List (Option KeyValue)) (us : List Update)
    → IsTallied t (numbers_for a us) → IsTallied t (numbers_for a (members key_value_cmp m us))
tallied_members t a m us w =
    let p = fewer t.each a m us in
    record {
      above = omega (arith, p.above, w.above);
      below = omega (arith, p.below, w.below);
      many = omega (arith, p.many, w.many);
      each = p.each w.each;
    }

-- no SUM and no COUNT of a group leaves its bits where the tallies fit
pub no_overflow : (gs : List Aggregate) (t : ℕ → Tally) (us : List Update)
    (ms : List (List (Option KeyValue))) → ((k : ℕ) → IsTallied (t k) (numbers_for k us))
    → tallies_fit gs 0 t ≡ true
    → list_any (λ keys. some_leaves gs 0 (members key_value_cmp keys us)) ms ≡ false
no_overflow gs t us [] w e = refl
no_overflow gs t us (m ∷ ms) w e = or_from (some_leaves gs 0 (members key_value_cmp m us))
    (list_any (λ keys. some_leaves gs 0 (members key_value_cmp keys us)) ms)
    (all_stay gs 0 t (members key_value_cmp m us) (λ k. tallied_members (t k) k m us (w k)) e)
    (no_overflow gs t us ms w e)

-- ---- a read

of_two : (r : Range) (f : ℤ → ℤ → ℤ) → ((x y : ℤ) → Holds r x → Holds r y → Holds r (f x y))
    → (v : ℤ) → Holds r v → (o : Option ℤ) → TotalLies (Some r) o
    → TotalLies (Some r) (joined_with f v o)
of_two r f keeps v h None p = h
of_two r f keeps v h (Some z) p = keeps v z h p

joined_lies : (r : Range) (f : ℤ → ℤ → ℤ) → ((x y : ℤ) → Holds r x → Holds r y → Holds r (f x y))
    → (vs : List ℤ) → AllInRange (Some r) vs → TotalLies (Some r) (joined f vs)
joined_lies r f keeps [] h = tt
joined_lies r f keeps (v ∷ vs) h =
    of_two r f keeps v h.0 (joined f vs) (joined_lies r f keeps vs h.1)

extreme_lies : (f : ℤ → ℤ → ℤ) → ((r : Range) (x y : ℤ) → Holds r x → Holds r y → Holds r (f x y))
    → (o : Option Range) (vs : List ℤ) → AllInRange o vs → TotalLies o (joined f vs)
extreme_lies f keeps None [] h = tt
extreme_lies f keeps None (v ∷ vs) h = absurd h.0
extreme_lies f keeps (Some r) vs h = joined_lies r f (keeps r) vs h

min_keeps : (r : Range) (x y : ℤ) → Holds r x → Holds r y → Holds r (int_min x y)
min_keeps r x y p q =
    record { from = omega (arith, ints, clamps); to = omega (arith, ints, clamps) }

max_keeps : (r : Range) (x y : ℤ) → Holds r x → Holds r y → Holds r (int_max x y)
max_keeps r x y p q =
    record { from = omega (arith, ints, clamps); to = omega (arith, ints, clamps) }

pub sums_lie : (t : Tally) (vs : List ℤ) → sum_up vs ≤ t.above → sum_down vs ≤ t.below
    → Holds (tally_sum t) (sum_of vs)
sums_lie t vs p q =
    let s = sum_between vs in
    record { from = omega (arith, ints, s.0, s.1, q); to = omega (arith, ints, s.0, s.1, p) }

-- an aggregate of tallied numbers lies in its range, where it is there
pub aggregate_lies : (g : Aggregate) (t : Tally) (vs : List ℤ) → IsTallied t vs
    → TotalLies (tally_range g t) (aggregate g vs)
aggregate_lies Sum t [] w = tt
aggregate_lies Sum t (v ∷ vs) w = subst (TotalLies (Some (tally_sum t))) (sym (joined_sum v vs))
    (sums_lie t (v ∷ vs) w.above w.below)
aggregate_lies Count t vs w =
    record { from = omega (arith, ints); to = omega (arith, ints, w.many) }
aggregate_lies Min t vs w = extreme_lies int_min min_keeps t.each vs w.each
aggregate_lies Max t vs w = extreme_lies int_max max_keeps t.each vs w.each

read_lies : (o : Option Range) (z : Option ℤ) (default : ℤ) → TotalLies o z
    → Holds (hull_with o (only default)) (unwrap_or z default)
read_lies None None default h = holds_itself default
read_lies None (Some z) default h = absurd h
read_lies (Some r) None default h = holds_hull_right r (only default) default (holds_itself default)
read_lies (Some r) (Some z) default h = holds_hull_left r (only default) z h

-- an aggregate of what puts gave lies in its range, where it is there
pub shares_lie : (g : Aggregate) (ss : List Share) (vs : List ℤ) → IsTallied (tally_of ss) vs
    → TotalLies (aggregate_range g ss) (aggregate g vs)
shares_lie g ss vs w = subst (λ o. TotalLies o (aggregate g vs)) (sym (range_is g ss))
    (aggregate_lies g (tally_of ss) vs w)

pub read_holds : (g : Aggregate) (ss : List Share) (default : ℤ) (vs : List ℤ)
    → IsTallied (tally_of ss) vs
    → Holds (read_range g ss (only default)) (unwrap_or (aggregate g vs) default)
read_holds g ss default vs w =
    read_lies (aggregate_range g ss) (aggregate g vs) default (shares_lie g ss vs w)
