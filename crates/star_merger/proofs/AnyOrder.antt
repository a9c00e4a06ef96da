-- Partials in another order than the parts.
use Rattle.std.{proofs.{Common.{◌≡◌, ◌∙◌, ◌++◌, ℕ, List, [], ◌∷◌, AllPairs, None, Option, Some, append_assoc, arith, inl, inr, length, map, refl, true}, lemmas.List.{Sorted.{All-permutation, IsPermutation-append_comm, IsPermutation-append_left, IsPermutation-append_right, IsPermutation-cons, IsPermutation-map, IsPermutation-middle, IsPermutation-refl, IsPermutation-sym, IsPermutation-trans, length_permutation, sum_by-IsPermutation}, Elements.{All-cons, All-head, All-tail}, Kept.AllPairs-cons}, Math.Bool.or_comm}, specs.{List.{flat_map, Sorted.IsPermutation}, Ordering.is_lt, Prelude.slice_index_or}}
use Rattle.star_interval.specs.Range.{Range}
use Rattle.star_schema.specs.{declared.{table.TableId.{TheVariants.Lineorder, TableId}, column.ColumnId.ColumnId}, Database.{Database, rows_in}, Groups.GroupRow, Tables.Value}
use Rattle.star_plan.specs.Meaning.{Plan, Row, aggregate_of}
use Rattle.star_program.specs.declared.outcome.Outcome.{Outcome}
use Rattle.star_query_meaning.proofs.Reorderings.{reordered}
use Rattle.star_partial.specs.Contents.{Contents}
use Rattle.star_merge_laws.{specs.Parts.{AreDisjoint, LineorderPart, Span, are_disjoint, key_list_cmp, with_lineorder}, specs.Tables.all_of, proofs.Facts.facts_reordered, proofs.LoadableParts.{pairs_head, pairs_tail}, proofs.PartialFacts.merged_moved}
use Rattle.star_merge.specs.{Cells.group_of, Merged.AreOfShape, Merged.IsFull, Merged.distance}
use Rattle.star_merger.specs.{Private.Outcomes.HasRoom, Private.Outcomes.IsMergedOutcome, Private.Outcomes.all_shown, Private.Outcomes.groups_of, Private.Shares.Share, Private.Shares.share_rows, Private.Shown.HasFacts, Private.Shown.IsUsable, Private.Shown.counted, Private.Shown.lookups_in, Private.Shown.rows_shown, Private.Shown.updates_in}

module _ {X Y : Type 0} (f : X → List Y) where
  flat_turned : (x y : X) (xs : List X)
      → IsPermutation (flat_map f (x ∷ y ∷ xs)) (flat_map f (y ∷ x ∷ xs))
  flat_turned x y xs =
      let rest = flat_map f xs in
      rw (← append_assoc (f x) (f y) rest, ← append_assoc (f y) (f x) rest)
      (IsPermutation-append_left rest (f x ++ f y) (f y ++ f x)
      (IsPermutation-append_comm (f x) (f y)))

  pub flat_reordered : (xs ys : List X) → IsPermutation xs ys
      → IsPermutation (flat_map f xs) (flat_map f ys)
  flat_reordered =
      reordered (λ xs ys. IsPermutation (flat_map f xs) (flat_map f ys))
      (λ xs. IsPermutation-refl (flat_map f xs))
      (λ xs ys zs a b. IsPermutation-trans (flat_map f xs) (flat_map f ys) (flat_map f zs) a b)
      (λ x xs ys h. IsPermutation-append_right (f x) (flat_map f xs) (flat_map f ys) h) flat_turned

counted_reordered : (count : Option Outcome → ℕ) (xs ys : List Contents) → IsPermutation xs ys
    → counted count xs ≡ counted count ys
counted_reordered count =
    reordered (λ xs ys. counted count xs ≡ counted count ys) (λ xs. refl) (λ xs ys zs a b. a ∙ b)
    (λ x xs ys e. omega (arith, e)) (λ x y xs. omega arith)

shape_reordered : (p : Plan) (xs ys : List (GroupRow Value)) → IsPermutation xs ys
    → AreOfShape (length p.keys) (map aggregate_of p.measures) xs
    → AreOfShape (length p.keys) (map aggregate_of p.measures) ys
shape_reordered p xs ys h (inl none) =
    inl (none.0, All-permutation (λ (group : GroupRow Value). group.keys ≡ []) xs ys h none.1)
shape_reordered p xs ys h (inr full) =
    inr (All-permutation (IsFull (length p.keys) (map aggregate_of p.measures)) xs ys h full)

groups_reordered : (p : Plan) (all others : List Contents) → IsPermutation all others
    → IsPermutation (groups_of p all) (groups_of p others)
groups_reordered p all others h =
    flat_reordered (λ rows. map (group_of (length p.keys)) rows) (all_shown all) (all_shown others)
    (flat_reordered (λ (contents : Contents). rows_shown contents.run) all others h)

pub room_reordered : (p : Plan) (all others : List Contents) → IsPermutation all others
    → HasRoom p all → HasRoom p others
room_reordered p all others h room = record {
  lookups = omega (arith, room.lookups, counted_reordered lookups_in all others h);
  updates = omega (arith, room.updates, counted_reordered updates_in all others h);
  totals = λ index. omega (
    arith,
    room.totals index,
    sum_by-IsPermutation (λ group. distance (slice_index_or group.totals index None))
        (groups_of p all) (groups_of p others) (groups_reordered p all others h),
  );
}

-- the outcome that is merged from partials is that from them in another order
pub outcome_reordered : (p : Plan) (all others : List Contents) (count : ℕ) (outcome : Outcome)
    → IsPermutation all others → IsMergedOutcome p all count outcome
    → IsMergedOutcome p others count outcome
outcome_reordered p all others count outcome h is =
    let groups = groups_reordered p all others h in
    record {
      usable = All-permutation IsUsable all others h is.usable;
      names = is.names;
      rows = λ shaped.
          let rows = is.rows (shape_reordered p (groups_of p others) (groups_of p all)
          (IsPermutation-sym (groups_of p all) (groups_of p others) groups) shaped) in
          record {
            groups = rows.groups;
            merged = merged_moved p.shape (length p.keys) (map aggregate_of p.measures)
                (groups_of p all) (groups_of p others) rows.groups groups rows.merged;
            in_order = rows.in_order;
            cells = rows.cells;
          };
      visits = is.visits;
      lookups = is.lookups ∙ counted_reordered _ all others h;
      updates = is.updates ∙ counted_reordered _ all others h;
    }

module _ (database : Database) (xs ys : List Row) (h : IsPermutation xs ys)
    (counts : TableId → ℕ) (ranges : ColumnId → Range)
    (has : HasFacts (with_lineorder database xs) counts ranges) where
  sizes_moved : (t : TableId) → counts t ≡ length (rows_in (with_lineorder database ys) t)
  sizes_moved it = grind (arith, has.sizes, length_permutation xs ys h)

  pub facts_moved : HasFacts (with_lineorder database ys) counts ranges
  facts_moved = record {
    sizes = sizes_moved;
    bounds = (facts_reordered database xs ys h (record { rows = counts Lineorder; bounds = ranges })
        (record { rows = has.sizes Lineorder; bounds = has.bounds })).bounds;
  }

pub rows_moved : (xs ys : List Share) → IsPermutation xs ys
    → IsPermutation (all_of (share_rows xs)) (all_of (share_rows ys))
rows_moved xs ys h =
    flat_reordered (λ part. part) (share_rows xs) (share_rows ys)
    (IsPermutation-map (λ (share : Share). share.rows) xs ys h)

module _ {X : Type 0} (R : X → X → Type 0) (alike : (x y : X) → R x y → R y x) where
  abbrev Keeps : List X → List X → Type 0
  Keeps xs ys = IsPermutation xs ys × (AllPairs R xs → AllPairs R ys)

  keeps_under : (x : X) (xs ys : List X) → Keeps xs ys → Keeps (x ∷ xs) (x ∷ ys)
  keeps_under x xs ys keeps = (
    IsPermutation-cons x xs ys keeps.0,
    λ h. AllPairs-cons R x ys (All-permutation (R x) xs ys keeps.0 (pairs_head R x xs h))
        (keeps.1 (pairs_tail R x xs h)),
  )

  keeps_turned : (x y : X) (xs : List X) → Keeps (x ∷ y ∷ xs) (y ∷ x ∷ xs)
  keeps_turned x y xs = (
    IsPermutation-middle (x ∷ []) y xs,
    λ h. let first = pairs_head R x (y ∷ xs) h in
        let rest = pairs_tail R x (y ∷ xs) h in
        AllPairs-cons R y (x ∷ xs)
        (All-cons (R y) x xs (alike x y (All-head (R x) y xs first)) (pairs_head R y xs rest))
        (AllPairs-cons R x xs (All-tail (R x) y xs first) (pairs_tail R y xs rest)),
  )

  pairs_reordered : (xs ys : List X) → IsPermutation xs ys → AllPairs R xs → AllPairs R ys
  pairs_reordered xs ys h =
      (reordered Keeps (λ xs. (IsPermutation-refl xs, λ h. h))
      (λ xs ys zs a b. (IsPermutation-trans xs ys zs a.0 b.0, λ h. b.1 (a.1 h))) keeps_under
      keeps_turned xs ys h).1

disjoint_alike : (a b : Option Span) → are_disjoint a b ≡ are_disjoint b a
disjoint_alike None None = refl
disjoint_alike None (Some b) = refl
disjoint_alike (Some a) None = refl
disjoint_alike (Some a) (Some b) =
    or_comm (is_lt (key_list_cmp a.high b.low)) (is_lt (key_list_cmp b.high a.low))

pub disjoint_moved : (xs ys : List LineorderPart) → IsPermutation xs ys → AreDisjoint xs
    → AreDisjoint ys
disjoint_moved xs ys h =
    pairs_reordered (λ a b. are_disjoint a.span b.span ≡ true)
    (λ a b e. disjoint_alike b.span a.span ∙ e) xs ys h
