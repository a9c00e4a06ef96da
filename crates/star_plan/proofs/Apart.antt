-- No element twice, where each is asked beside those before it.
use Rattle.std.{proofs.Common.{◌≡◌, Bool, true, false, if◌then◌else◌, List, [], ◌∷◌, ◌++◌, Option, Some, None, refl, arith}, specs.List.{AllByRecursion, IsDistinct, list_any}, specs.Option.{is_none, option_or}, proofs.lemmas.Bool.{or_from, or_parts}, proofs.lemmas.List.Folds.list_any-append}
use Rattle.star_common.proofs.Firsts.{or_none}
use Rattle.star_plan.specs.{First.first_after, WellNamed.IsThere}

pub some_to : {A : Type 0} (b : Bool) (x : A) → (if b then Some x else None) ≡ None → b ≡ false
some_to true x e = absurd (cc)
some_to false x e = refl

pub some_from : {A : Type 0} (b : Bool) (x : A) → b ≡ false → (if b then Some x else None) ≡ None
some_from true x e = absurd (cc)
some_from false x e = refl

pub none_or : {A : Type 0} (a b : Option A) → a ≡ None → b ≡ None → option_or a b ≡ None
none_or None b e h = h
none_or (Some x) b e h = absurd (cc)

-- where there is something, and a test fails
pub found_known : {A F : Type 0} (o : Option A) (b : Bool) (x y : F)
    → (if is_none o then Some x else if b then Some y else None) ≡ None → IsThere o × (b ≡ false)
found_known None b x y e = absurd (cc)
found_known (Some a) b x y e = ((a, refl), some_to b y e)

pub found_none : {A F : Type 0} (o : Option A) (b : Bool) (x y : F) → IsThere o → b ≡ false
    → (if is_none o then Some x else if b then Some y else None) ≡ None
found_none None b x y there e = absurd (let wrong = there.1 in cc)
found_none (Some a) b x y there e = some_from b y e

-- ---- each element

pub each : {X : Type 0} (P Q : X → Type 0) → ((x : X) → P x → Q x) → (xs : List X)
    → AllByRecursion P xs → AllByRecursion Q xs
each P Q f [] all = tt
each P Q f (x ∷ xs) all = (f x all.0, each P Q f xs all.1)

pub each_two : {X : Type 0} (P Q R : X → Type 0) → ((x : X) → P x → Q x → R x) → (xs : List X)
    → AllByRecursion P xs → AllByRecursion Q xs → AllByRecursion R xs
each_two P Q R f [] all some = tt
each_two P Q R f (x ∷ xs) all some = (f x all.0 some.0, each_two P Q R f xs all.1 some.1)

pub each_after : {X A : Type 0} (f : List X → X → Option A) (P : X → Type 0)
    → ((before : List X) (x : X) → f before x ≡ None → P x)
    → (before xs : List X) → first_after f before xs ≡ None → AllByRecursion P xs
each_after f P known before [] e = tt
each_after f P known before (x ∷ xs) e =
    let parts = or_none (f before x) (first_after f (before ++ x ∷ []) xs) e in
    (known before x parts.0, each_after f P known (before ++ x ∷ []) xs parts.1)

-- ---- none twice

-- none of those before is the same
abbrev pub IsFresh : {X : Type 0} → (X → X → Bool) → List X → X → Type 0
IsFresh same before x = list_any (λ y. same y x) before ≡ false

fresh_parts : {X : Type 0} (same : X → X → Bool) (before : List X) (x y : X)
    → IsFresh same (before ++ x ∷ []) y → (IsFresh same before y) × (same x y ≡ false)
fresh_parts same before x y e = grind (arith, or_parts, list_any-append)

fresh_from : {X : Type 0} (same : X → X → Bool) (before : List X) (x y : X) → IsFresh same before y
    → same x y ≡ false → IsFresh same (before ++ x ∷ []) y
fresh_from same before x y e h = grind (arith, list_any-append, or_from)

-- each is none of those before, nor another of these
pub record AreApart {X : Type 0} (same : X → X → Bool) (before xs : List X) : Type 0 where
  pub fresh : AllByRecursion (IsFresh same before) xs
  pub apart : IsDistinct same xs

pub apart_more : {X : Type 0} (same : X → X → Bool) (before : List X) (x : X) (xs : List X)
    → IsFresh same before x → AreApart same (before ++ x ∷ []) xs → AreApart same before (x ∷ xs)
unfolding IsDistinct
apart_more same before x xs here rest =
    let later : AllByRecursion (λ y. (IsFresh same before y) × (same x y ≡ false)) xs =
    each (IsFresh same (before ++ x ∷ [])) (λ y. (IsFresh same before y) × (same x y ≡ false))
    (λ y e. fresh_parts same before x y e) xs rest.fresh in
    record {
      fresh = (here, each _ (IsFresh same before) (λ y both. both.0) xs later);
      apart = (each _ (λ y. same x y ≡ false) (λ y both. both.1) xs later, rest.apart);
    }

pub apart_rest : {X : Type 0} (same : X → X → Bool) (before : List X) (x : X) (xs : List X)
    → AreApart same before (x ∷ xs) → AreApart same (before ++ x ∷ []) xs
unfolding IsDistinct
apart_rest same before x xs all =
    record {
      fresh = each_two (IsFresh same before) (λ y. same x y ≡ false)
          (IsFresh same (before ++ x ∷ [])) (λ y e h. fresh_from same before x y e h) xs
          all.fresh.1 all.apart.0;
      apart = all.apart.1;
    }

pub apart_first : {X : Type 0} (same : X → X → Bool) (xs : List X) → IsDistinct same xs
    → AreApart same [] xs
apart_first same xs apart = record { fresh = fresh xs; apart = apart }
  where
    fresh : (ys : _) → AllByRecursion (IsFresh same []) ys
    fresh [] = tt
    fresh (y ∷ ys) = (refl, fresh ys)

pub apart_to : {X A : Type 0} (f : List X → X → Option A) (same : X → X → Bool)
    → ((before : List X) (x : X) → f before x ≡ None → IsFresh same before x)
    → (before xs : List X) → first_after f before xs ≡ None → AreApart same before xs
unfolding IsDistinct
apart_to f same known before [] e = record { fresh = tt; apart = tt }
apart_to f same known before (x ∷ xs) e =
    let parts = or_none (f before x) (first_after f (before ++ x ∷ []) xs) e in
    apart_more same before x xs (known before x parts.0)
    (apart_to f same known (before ++ x ∷ []) xs parts.1)

pub apart_from : {X A : Type 0} (f : List X → X → Option A) (same : X → X → Bool) (P : X → Type 0)
    → ((before : List X) (x : X) → IsFresh same before x → P x → f before x ≡ None)
    → (before xs : List X) → AllByRecursion P xs → AreApart same before xs
    → first_after f before xs ≡ None
apart_from f same P none before [] all apart = refl
apart_from f same P none before (x ∷ xs) all apart =
    none_or (f before x) (first_after f (before ++ x ∷ []) xs) (none before x apart.fresh.0 all.0)
    (apart_from f same P none (before ++ x ∷ []) xs all.1 (apart_rest same before x xs apart))
