-- Counts of parts.
use Rattle.std.{proofs.Common.{◌≡◌, ℕ, ◌+◌, ◌<◌, ◌≤◌, Bool, true, false, List, [], ◌∷◌, length, refl, sym, subst, arith}, proofs.lemmas.Bool.{ltb-true, ltb-false}, proofs.lemmas.List.length-map, specs.Prelude.{nat_lt, if◌then◌else◌}, specs.Char.to_ascii_lowercase}
use Rattle.star_query.specs.{declared.counts.Part.TheVariants.{Item, Aggregate, GroupColumn, SortKey, Comparison, Operand}, Private.Machine.{count_of_part, bump, plus, is_over, is_long}, declared.counts.Part.Part, declared.counts.Counts.Counts, Symbols.{Symbol, name, lowered}, Maxima.limit, Derives.{same_part, among, IsShortName}}

pub not_below : (a b : ℕ) → b ≤ a → nat_lt a b ≡ false
not_below a b le = grind arith

-- which way a test went
pub by_bool : {X : Type 0} (b : Bool) → (b ≡ true → X) → (b ≡ false → X) → X
by_bool true f g = f refl
by_bool false f g = g refl

number-bump : (q p : Part) (n : Counts)
    → count_of_part (bump q n) p ≡ count_of_part n p + (if same_part p q then 1 else 0)
number-bump it it2 n = grind arith

pub number-plus : (ps : List Part) (n : Counts) (p : Part)
    → count_of_part (plus n ps) p ≡ count_of_part n p + among p ps
number-plus [] n p = omega arith
number-plus (q ∷ ps) n p = omega (arith, number-plus ps (bump q n) p, number-bump q p n)

pub not_over : (n : Counts) (ps : List Part) → ((p : Part) → count_of_part n p ≤ limit p)
    → is_over n ps ≡ false
not_over n [] fits = refl
not_over n (p ∷ ps) fits =
    rw (not_below (limit p) (count_of_part n p) (fits p)) (not_over n ps fits)

pub over_some : (n : Counts) (ps : List Part) → is_over n ps ≡ true
    → (p : Part) × (limit p < count_of_part n p)
over_some n [] e = cc
over_some n (p ∷ ps) e =
    by_bool (nat_lt (limit p) (count_of_part n p)) (λ here. (p, ltb-true _ _ here))
    (λ other. over_some n ps (rw other at e))

same-part : (p q : Part) → same_part p q ≡ true → p ≡ q
same-part it it2 e = grind arith

not_over_at : (n : Counts) (ps : List Part) (p : Part) → is_over n ps ≡ false → 0 < among p ps
    → count_of_part n p ≤ limit p
not_over_at n [] p e some = absurd (omega arith)
not_over_at n (q ∷ ps) p e some =
    by_bool (nat_lt (limit q) (count_of_part n q))
    (λ over. let h : false ≡ true = sym (rw over at e) in cc)
    (λ within. by_bool (same_part p q)
    (λ same. subst (λ r. count_of_part n r ≤ limit r) (sym (same-part p q same))
    (ltb-false _ _ within)) (λ other. let more : 0 < 0 + among p ps = rw other at some in
    not_over_at n ps p (rw within at e) (omega arith)))

pub fits_after : (n : Counts) (ps : List Part) → ((p : Part) → count_of_part n p ≤ limit p)
    → is_over (plus n ps) ps ≡ false → (p : Part) → count_of_part (plus n ps) p ≤ limit p
fits_after n ps fits e p = grind (arith, by_bool, not_over_at, ltb-true, ltb-false, number-plus)

pub short_name : (x : Symbol) → is_long x ≡ false → IsShortName x
short_name (name t p) e = ltb-false _ _ e
short_name _ e = tt

pub not_long : (x : Symbol) → IsShortName x → is_long x ≡ false
not_long (name t p) e = not_below 64 (length t) e
not_long _ e = refl

-- a word in lower case is as long
pub long_word : (word : List ℕ) → 64 < length word → nat_lt 64 (length (lowered word)) ≡ true
long_word word e = let same : length (lowered word) ≡ length word =
    length-map word to_ascii_lowercase in grind (arith, same)

number-bump-self : (p : Part) (n : Counts) → count_of_part (bump p n) p ≡ count_of_part n p + 1
number-bump-self Item n = refl
number-bump-self _ n = refl

pub one_too_many : (p : Part) (n : Counts) → limit p ≤ count_of_part n p
    → is_over (plus n (p ∷ [])) (p ∷ []) ≡ true
one_too_many p n e = grind (arith, number-bump-self)

pub one_allowed : (p : Part) (n : Counts) → count_of_part n p < limit p
    → is_over (plus n (p ∷ [])) (p ∷ []) ≡ false
one_allowed p n e = grind (arith, number-bump-self, not_below)
