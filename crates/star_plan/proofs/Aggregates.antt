-- The names of the aggregates, item by item.
use Rattle.std.proofs.{Common.{◌≡◌, ◌∙◌, sym, ap, ◌+◌, ◌<◌, ℕ, zero, suc, Bool, ◌||◌, if◌then◌else◌, List, [], ◌∷◌, ◌++◌, Some, None, take, drop, get_or, length, map, arith, refl}, Math.Seq.take-append_seam, lemmas.List.{drop-map, get_or-map, length-append, length-map, length-take-le, take-map}}
use Rattle.star_query.specs.{Limits.aggregates_in, Tree.Aggregate, Tree.Item, Tree.Name, Tree.aggregate, Tree.plain}
use Rattle.star_plan.specs.{declared.fault.PlanFault.TheVariants.DuplicateAlias, declared.tree.Aggregate.Aggregate as Named, Private.Stages.item_column, Resolved.items_from, Resolved.option_both}
use Rattle.star_plan.{specs.Faults.{item_fault, item_fault_after}, specs.Private.Stages.alias_fault, specs.Names.has_name, specs.Views.names_view, specs.Private.Answers.IsNamedAt, specs.Naming.{name_of_aggregate, aggregate_names, has_text, name_offset, names_from}, proofs.Viewed.{BesideSoFar, beside_passed}}

names_split : (n : ℕ) (items : List Item) (i : ℕ) (x : Item) → i < length items
    → x ≡ get_or items i x
    → names_from n items ≡ names_from n (take i items)
    ++ names_from (n + length (names_from n (take i items))) (x ∷ drop (i + 1) items)
names_split n [] i x within at = absurd (omega arith)
names_split n (y ∷ ys) zero x within at = let none : n + 0 ≡ n = omega arith in rw (none, at) refl
names_split n (plain y ∷ ys) (suc i) x within at =
    let next : suc i + 1 ≡ suc (i + 1) = omega arith in
    rw next (names_split n ys i x (omega arith) at)
names_split n (aggregate y ∷ ys) (suc i) x within at =
    grind (arith, names_split (n + 1) ys i x (omega arith) at)

count_more : (n : ℕ) (items : List Item) (i : ℕ) (x : Item) → i < length items
    → x ≡ get_or items i x
    → length (names_from n (take (i + 1) items))
    ≡ length (names_from n (take i items)) + aggregates_in x
count_more n [] i x within at = absurd (omega arith)
count_more n (plain y ∷ ys) zero x within at = rw at refl
count_more n (aggregate y ∷ ys) zero x within at = rw at refl
count_more n (plain y ∷ ys) (suc i) x within at =
    let next : suc i + 1 ≡ suc (i + 1) = omega arith in
    rw next (count_more n ys i x (omega arith) at)
count_more n (aggregate y ∷ ys) (suc i) x within at =
    let next : suc i + 1 ≡ suc (i + 1) = omega arith in
    let more = count_more (n + 1) ys i x (omega arith) at in rw next (omega (arith, more))

-- what items show, item by item
pub items_next : (groups : List Name) (before : ℕ) (i : Item) (items : List Item)
    → items_from groups before (i ∷ items)
    ≡ option_both (λ c cs. c ∷ cs) (item_column groups before i)
    (items_from groups (before + aggregates_in i) items)
items_next groups before (plain n) items = let same : before + 0 ≡ before = omega arith in
    rw same refl
items_next groups before (aggregate a) items = refl

-- ---- the same of the code's items

at_viewed : {X Y : Type 0} (v : X → Y) (xs : List X) (i : ℕ) (x : X) → i < length xs
    → x ≡ get_or xs i x → v x ≡ get_or (map v xs) i (v x)
at_viewed v [] i x within at = absurd (omega arith)
at_viewed v (y ∷ ys) zero x within at = ap v at
at_viewed v (y ∷ ys) (suc i) x within at = at_viewed v ys i x (omega arith) at

at_seam : {X : Type 0} (xs ys : List X) (y d : X) → get_or (xs ++ y ∷ ys) (length xs) d ≡ y
at_seam [] ys y d = refl
at_seam (x ∷ xs) ys y d = at_seam xs ys y d

named_at : (names seen : List (List ℕ)) (x : Item) (rest : List Item)
    → names ≡ seen ++ names_from (1 + length seen) (x ∷ rest) → IsNamedAt names (length seen) x
named_at names seen it rest e = grind (arith, length-append, at_seam)

module _ {X : Type 0} (v : X → Item) (items : List X) (i : ℕ) (x : X) (names : List (List ℕ))
    (before : ℕ)
    (within : i < length items) (at : x ≡ get_or items i x)
    (all : names ≡ aggregate_names (map v items))
    (counted : before ≡ length (aggregate_names (map v (take i items)))) where
  within_view : i < length (map v items)
  within_view = omega (arith, within, length-map items v)

  split : names ≡ aggregate_names (map v (take i items))
      ++ names_from (1 + length (aggregate_names (map v (take i items))))
      (v x ∷ map v (drop (i + 1) items))
  split = all ∙ rw (take-map v i items, drop-map v (i + 1) items) at
      (names_split 1 (map v items) i (v x) within_view (at_viewed v items i x within at))

  pub next_named : IsNamedAt names before (v x)
  next_named = rw counted (named_at names (aggregate_names (map v (take i items))) (v x)
      (map v (drop (i + 1) items)) split)

  pub names_taken : take before names ≡ aggregate_names (map v (take i items))
  names_taken = (λ j. take (counted j) (split j))
      ∙ take-append_seam (aggregate_names (map v (take i items))) _

  pub next_counted : before + aggregates_in (v x)
      ≡ length (aggregate_names (map v (take (i + 1) items)))
  next_counted = rw counted (sym (rw (take-map v i items, take-map v (i + 1) items) at
      (count_more 1 (map v items) i (v x) within_view (at_viewed v items i x within at))))

  pub item_passed : (groups : List Name) → BesideSoFar v (item_fault groups) items i
      → item_fault_after groups (take before names) (v x) ≡ None
      → BesideSoFar v (item_fault groups) items (i + 1)
  item_passed groups so_far passed = grind (arith, beside_passed, names_taken)

-- ---- an aggregate's name beside those before it

pub alias_reported : (groups : List Name) (aggregates : List Named) (index : ℕ) (a : Aggregate)
    (own : Named) (name : List ℕ) (taken : Bool) (at : ℕ) → index < length aggregates
    → get_or (names_view aggregates) index [] ≡ name_of_aggregate (index + 1) a
    → name ≡ (get_or aggregates index own).name.items
    → taken ≡ (has_text (names_view (take index aggregates)) name || has_name groups name)
    → at ≡ name_offset a → (if taken then Some (DuplicateAlias at) else None)
    ≡ alias_fault groups (take index (names_view aggregates)) a
alias_reported groups aggregates index a own name taken at within named is tested placed =
    grind (arith, take-map, length-take-le, length-map, get_or-map)
