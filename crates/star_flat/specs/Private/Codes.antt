-- The codes of texts that are in order.
use Rattle.std.specs.{Prelude.{◌≡◌, ℕ, Bool, List, All, nat_eq, slice_get, slice_index}, Cmp.Lexicographic.pointwise, List.dedup}
use Rattle.star_flat.specs.declared.ordered.Numbered.{Numbered}

-- whether two texts are one
abbrev pub same_text : List ℕ → List ℕ → Bool
same_text a b = pointwise nat_eq a b

-- the texts that differ from the one before them
abbrev pub different : List (List ℕ) → List (List ℕ)
different texts = dedup same_text texts

-- the number of each text leads to the text among others
abbrev pub LeadTo : List (List ℕ) → List ℕ → List (List ℕ) → List Numbered → Type 0
LeadTo put codes texts ordered =
    All (λ e. slice_get put (slice_index codes e.number) ≡ slice_get texts e.number) ordered
