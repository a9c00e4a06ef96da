-- Which scans stand round which instructions, by their numbers.
use Rattle.std.proofs.{Common.{◌≡◌, ℕ, ◌+◌, ◌≤◌, ◌<◌, Bool, true, false, List, [], ◌∷◌, ◌++◌, length, get_or, Option, Some, None, refl, ap, ◌∙◌, arith, append-nil}, lemmas.Grind.common_steps}
use Rattle.star_safety.proofs.Common.{AllByRecursion, Any-from_list_any, Code, Context, Each, Enclosing, Parts, Standing, Stop, Then, World, after_op, after_scan, and_right, at_end, code_size, eq-eqb, eqb-true, filter, filter-append, has_scan, if◌then◌else◌, in_scan, is_in_scope, last_or, last_writer, list_all, list_all_at, list_any, list_any_at, nat_eq, ne_eqb, or_right, scope_of, standing, writes_to, ◌&&◌, ◌||◌}

-- ---- scans by their numbers

-- each of some scans has a number below this one
abbrev pub AreBelow : ℕ → List Enclosing → Type 0
AreBelow n ss = AllByRecursion (λ s. s.number < n) ss

pub below_more : (m n : ℕ) (ss : List Enclosing) → m ≤ n → AreBelow m ss → AreBelow n ss
below_more m n [] more h = tt
below_more m n (s ∷ ss) more h =
    (let less = h.0 in omega (arith, more, less), below_more m n ss more h.1)

apart : (a b : ℕ) → a < b → nat_eq a b ≡ false
apart a b less = ne_eqb a b (λ e. omega (arith, e, less))

apart_back : (a b : ℕ) → a < b → nat_eq b a ≡ false
apart_back a b less = ne_eqb b a (λ e. omega (arith, e, less))

pub none_above : (n : ℕ) (ss : List Enclosing) → AreBelow n ss → has_scan ss n ≡ false
none_above n [] h = refl
none_above n (s ∷ ss) h = ap (λ b. b || has_scan ss n) (apart s.number n h.0) ∙ none_above n ss h.1

-- among the scans with one more of a later number
same_with : (new : Enclosing) (scans : List Enclosing) (n : ℕ) → n < new.number
    → has_scan (new ∷ scans) n ≡ has_scan scans n
same_with new scans n less = ap (λ b. b || has_scan scans n) (apart_back n new.number less)

pub all_with : (new : Enclosing) (scans ss : List Enclosing) → AreBelow new.number ss
    → list_all (λ s. has_scan (new ∷ scans) s.number) ss
    ≡ list_all (λ s. has_scan scans s.number) ss
all_with new scans [] h = refl
all_with new scans (s ∷ ss) h = ap (λ b. b && list_all (λ t. has_scan (new ∷ scans) t.number) ss)
    (same_with new scans s.number h.0)
    ∙ ap (λ b. has_scan scans s.number && b) (all_with new scans ss h.1)

pub any_with : (new : Enclosing) (scans ss : List Enclosing) → AreBelow new.number ss
    → list_any (λ s. has_scan (new ∷ scans) s.number) ss
    ≡ list_any (λ s. has_scan scans s.number) ss
any_with new scans [] h = refl
any_with new scans (s ∷ ss) h = ap (λ b. b || list_any (λ t. has_scan (new ∷ scans) t.number) ss)
    (same_with new scans s.number h.0)
    ∙ ap (λ b. has_scan scans s.number || b) (any_with new scans ss h.1)

all_in : (scans ss : List Enclosing) → ((n : ℕ) → has_scan ss n ≡ true → has_scan scans n ≡ true)
    → list_all (λ s. has_scan scans s.number) ss ≡ true
all_in scans [] among = refl
all_in scans (s ∷ ss) among = ap (λ b. b && list_all (λ t. has_scan scans t.number) ss)
    (among s.number (ap (λ b. b || has_scan ss s.number) (eq-eqb s.number s.number refl)))
    ∙ all_in scans ss (λ n h. among n (or_right (nat_eq s.number n) (has_scan ss n) h))

-- all scans are among themselves
pub all_there : (scans : List Enclosing) → list_all (λ s. has_scan scans s.number) scans ≡ true
all_there scans = all_in scans scans (λ n h. h)

-- one of some scans has the number, and is among others exactly where the number is
has_one : (scans ss : List Enclosing) (n : ℕ) → has_scan ss n ≡ true
    → (k : ℕ) × (s : Enclosing) × (k < length ss)
    × (has_scan scans (get_or ss k s).number ≡ has_scan scans n)
has_one scans ss n has =
    let one = Any-from_list_any (λ s. nat_eq s.number n) ss has in (
      one.0,
      one.1,
      one.2,
      ap (λ s. has_scan scans s.number) one.3
          ∙ ap (has_scan scans) (eqb-true one.1.number n one.4),
    )

-- one of them is missing
pub not_all : (scans ss : List Enclosing) (n : ℕ) → has_scan scans n ≡ false → has_scan ss n ≡ true
    → list_all (λ s. has_scan scans s.number) ss ≡ false
not_all scans ss n none has =
    let one = has_one scans ss n has in
    list_all_at (λ s. has_scan scans s.number) ss one.0 one.1 one.2 (one.3 ∙ none)

-- one of them is there
pub any_has : (scans ss : List Enclosing) (n : ℕ) → has_scan scans n ≡ true → has_scan ss n ≡ true
    → list_any (λ s. has_scan scans s.number) ss ≡ true
any_has scans ss n there has =
    let one = has_one scans ss n has in
    list_any_at (λ s. has_scan scans s.number) ss one.0 one.1 one.2 (one.3 ∙ there)

-- ---- each of some instructions

abbrev pub EachOf : (Standing → Type 0) → List Standing → Type 0
EachOf P is = AllByRecursion P is

pub each_both : (P : Standing → Type 0) (xs ys : List Standing) → EachOf P xs → EachOf P ys
    → EachOf P (xs ++ ys)
each_both P [] ys h k = k
each_both P (x ∷ xs) ys h k = (h.0, each_both P xs ys h.1 k)

pub each_so : (P Q : Standing → Type 0) (xs : List Standing) → ((i : Standing) → P i → Q i)
    → EachOf P xs → EachOf Q xs
each_so P Q [] so h = tt
each_so P Q (x ∷ xs) so h = (so x h.0, each_so P Q xs so h.1)

pub same_filter : (p q : Standing → Bool) (is : List Standing) → EachOf (λ i. p i ≡ q i) is
    → filter p is ≡ filter q is
same_filter p q [] h = refl
same_filter p q (i ∷ is) h = ap (λ b. if b then i ∷ filter p is else filter p is) h.0
    ∙ ap (λ js. if q i then i ∷ js else js) (same_filter p q is h.1)

pub same_any : (p q : Standing → Bool) (is : List Standing) → EachOf (λ i. p i ≡ q i) is
    → list_any p is ≡ list_any q is
same_any p q [] h = refl
same_any p q (i ∷ is) h =
    ap (λ b. b || list_any p is) h.0 ∙ ap (λ b. q i || b) (same_any p q is h.1)

-- ---- where the instructions of some code stand

-- in each scan that stands round the code
pub stand_in : (w : World) (parts : Parts) (c : Code) (round : List Enclosing) (x : Context)
    (at n : ℕ) → has_scan round n ≡ true
    → EachOf (λ i. has_scan i.round n ≡ true) (standing w parts round x at c)
stand_in w parts Stop round x at n h = (h, tt)
stand_in w parts (Then op rest) round x at n h =
    (h, stand_in w parts rest round (after_op w parts x op) (at + 1) n h)
stand_in w parts (Each table r body rest) round x at n h =
    let inner = in_scan w x table r in
    let new : Enclosing = record { number = at; table = table } in (
      h,
      each_both _ (standing w parts (new ∷ round) inner (at + 1) body) _
          (stand_in w parts body (new ∷ round) inner (at + 1) n
          (or_right (nat_eq at n) (has_scan round n) h))
          (stand_in w parts rest round (after_scan x (at_end w parts inner body))
          (at + 1 + code_size body) n h),
    )

-- and the registers that they write are in scope there alone
pub scoped_in : (w : World) (parts : Parts) (c : Code) (round : List Enclosing) (x : Context)
    (at n : ℕ) → has_scan round n ≡ true
    → EachOf (λ i. has_scan (scope_of i) n ≡ true) (standing w parts round x at c)
scoped_in w parts c round x at n h = grind (arith, common_steps, each_so, stand_in, or_right)

-- ---- the last that writes a register in scope

pub last_or_both : (o : Option Standing) (xs ys : List Standing) → last_or o (xs ++ ys)
    ≡ last_or (last_or o xs) ys
last_or_both o [] ys = refl
last_or_both o (x ∷ xs) ys = last_or_both (Some x) xs ys

last_or_one : (b : Bool) (o : Option Standing) (i : Standing) → last_or o (if b then i ∷ [] else [])
    ≡ (if b then Some i else o)
last_or_one true o i = refl
last_or_one false o i = refl

-- with one more instruction it is this one or the one before
pub last_then : (scans : List Enclosing) (r : ℕ) (is : List Standing) (i : Standing)
    → last_writer scans r (is ++ i ∷ [])
    ≡ (if writes_to r i && is_in_scope scans i then Some i else last_writer scans r is)
last_then scans r is i =
    ap (last_or None) (filter-append (λ j. writes_to r j && is_in_scope scans j) is (i ∷ []))
    ∙ last_or_both None (filter (λ j. writes_to r j && is_in_scope scans j) is)
    (if writes_to r i && is_in_scope scans i then i ∷ [] else [])
    ∙ last_or_one (writes_to r i && is_in_scope scans i) (last_writer scans r is) i

no_writer : (scans : List Enclosing) (r : ℕ) (is : List Standing)
    → EachOf (λ i. is_in_scope scans i ≡ false) is
    → filter (λ j. writes_to r j && is_in_scope scans j) is ≡ []
no_writer scans r [] h = refl
no_writer scans r (i ∷ is) h = grind (arith, common_steps, and_right, no_writer scans r is h.1)

-- what is out of scope changes nothing
pub last_past : (scans : List Enclosing) (r : ℕ) (xs ys : List Standing)
    → EachOf (λ i. is_in_scope scans i ≡ false) ys
    → last_writer scans r (xs ++ ys) ≡ last_writer scans r xs
last_past scans r xs ys h = grind (arith, common_steps, filter-append, no_writer, append-nil)

-- nor do scans of later numbers
pub last_within : (new : Enclosing) (scans : List Enclosing) (r : ℕ) (is : List Standing)
    → EachOf (λ i. AreBelow new.number (scope_of i)) is
    → last_writer (new ∷ scans) r is ≡ last_writer scans r is
last_within new scans r is h = ap (last_or None)
    (same_filter (λ j. writes_to r j && is_in_scope (new ∷ scans) j)
    (λ j. writes_to r j && is_in_scope scans j) is
    (each_so _ _ is (λ i b. ap (λ t. writes_to r i && t) (all_with new scans (scope_of i) b)) h))
