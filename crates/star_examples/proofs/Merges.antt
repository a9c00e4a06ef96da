-- Keys within a span: both of its ends are.
use Rattle.std.{proofs.Common.{◌≡◌, ℤ, List, [], Some, None, All, refl, true}, specs.Ordering.is_le}
use Rattle.star_merge_laws.specs.Parts.{AreWithin, Span, key_list_cmp}

within : (span : Span) (keys : List (List ℤ)) → (AreWithin (Some span) keys
    ≡ All (λ key. (is_le (key_list_cmp span.low key) ≡ true)
    × (is_le (key_list_cmp key span.high) ≡ true)) keys) × (AreWithin None keys ≡ (keys ≡ []))
within span keys = (refl, refl)
