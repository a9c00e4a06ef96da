-- The order of texts, and the dictionary of a text column (this project's profile).
use Rattle.std.specs.{Prelude.{◌≡◌, ◌↔◌, ℕ, ℤ, List, [], ◌∷◌, Contains, Some, count_by, map, pos, slice_get}, Cmp.Lexicographic.slice_cmp, List.Sorted.IsStrictlySortedBy, Ordering.{is_lt, is_le, match_ordering, nat_cmp}, declared.cmp.Ordering.Ordering}

-- texts compare by bytes; a proper prefix is less
abbrev pub text_cmp : List ℕ → List ℕ → Ordering
text_cmp a b = slice_cmp nat_cmp a b

-- a dictionary of some texts has each of them once, and no other, in byte order
pub record IsDictionary (dictionary texts : List (List ℕ)) : Type 0 where
  pub sorted : IsStrictlySortedBy text_cmp dictionary
  pub holds : (text : List ℕ) → Contains dictionary text ↔ Contains texts text

-- the text is inserted before the first greater one, unless it is there
abbrev pub with_text : List ℕ → List (List ℕ) → List (List ℕ)
with_text t [] = t ∷ []
with_text t (d ∷ ds) = match_ordering (text_cmp t d) (t ∷ d ∷ ds) (d ∷ ds) (d ∷ with_text t ds)

-- the dictionary of some texts; a law says that there is no other
unfoldable pub dictionary_of : List (List ℕ) → List (List ℕ)
dictionary_of [] = []
dictionary_of (t ∷ ts) = with_text t (dictionary_of ts)

-- the code of a text is its index in the dictionary
abbrev pub HasCode : List (List ℕ) → List ℕ → ℕ → Type 0
HasCode texts text code = slice_get (dictionary_of texts) code ≡ Some text

-- the number of texts in a dictionary that are less than a text
abbrev pub low_in : List (List ℕ) → List ℕ → ℕ
low_in dictionary text = count_by (λ d. is_lt (text_cmp d text)) dictionary

-- the number of texts in a dictionary that are less than or equal to a text
abbrev pub high_in : List (List ℕ) → List ℕ → ℕ
high_in dictionary text = count_by (λ d. is_le (text_cmp d text)) dictionary

-- a text column as values: each text as its code, the number of smaller texts in the column's
-- dictionary
abbrev pub codes_of : List (List ℕ) → List ℤ
codes_of texts = map (λ text. pos (low_in (dictionary_of texts) text)) texts
