-- The texts that stand before an edge of a text are the first ones of a dictionary.
use Rattle.std.{proofs.Common.{ℕ, List, refl}, specs.List.Sorted.{IsPartitionedBy, IsStrictlySortedBy}}
use Rattle.star_schema.{specs.Dictionary.text_cmp, proofs.Edges.partitioned}
use Rattle.star_column.specs.{Private.Edge.is_after, declared.dictionary.Edge.Edge, declared.dictionary.Edge.TheVariants.Low, declared.dictionary.Edge.TheVariants.High}

pub IsPartitionedBy-is_after : (edge : Edge) (t : List ℕ) (ds : List (List ℕ))
    → IsStrictlySortedBy text_cmp ds → IsPartitionedBy (λ d. is_after edge (text_cmp d t)) ds
IsPartitionedBy-is_after Low t ds sorted = partitioned (is_after Low) refl refl t ds sorted
IsPartitionedBy-is_after High t ds sorted = partitioned (is_after High) refl refl t ds sorted
