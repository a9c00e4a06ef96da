-- Quoted texts, in programs and reports.
use Rattle.std.specs.{Prelude.{ℕ, List, [], ◌∷◌, ◌++◌, ◌==◌, if◌then◌else◌}, List.flat_map}

-- a byte of a quoted text: a quote is doubled
abbrev pub doubled : ℕ → List ℕ
doubled b = if b == 39 then 39 ∷ 39 ∷ [] else b ∷ []

-- a text in single quotes
unfoldable pub quoted : List ℕ → List ℕ
quoted text = 39 ∷ (flat_map doubled text ++ 39 ∷ [])
