-- The keys of texts, and their order.
use Rattle.std.specs.{Prelude.{◌≡◌, ◌+◌, ◌*◌, ◌%◌, ◌<◌, ◌≤◌, if◌then◌else◌, ℕ, zero, suc, List, [], All, Contains, length, map, nat_lt, slice_index, slice_index_or}, Cmp.Lexicographic.slice_cmp, List.Sorted.IsSorted, Ordering.{nat_cmp, ordering_then}, declared.cmp.Ordering.Ordering}
use Rattle.star_flat.specs.{declared.ordered.Numbered.Numbered, declared.ordered.Whole.Whole}

-- texts compare by their bytes, and one that another goes on from is less
abbrev pub text_cmp : List ℕ → List ℕ → Ordering
text_cmp a b = slice_cmp nat_cmp a b

-- the first bytes of a text as the digits of a number, the first byte the highest, with zeros for
-- those that it lacks
unfoldable pub digits : ℕ → List ℕ → ℕ
digits zero text = 0
digits (suc n) text = digits n text * 256 + slice_index text n

-- the text of a number
abbrev pub text_at : List (List ℕ) → Numbered → List ℕ
text_at texts e = slice_index_or texts e.number []

-- a text of bytes, and its key: its front is the first 11 of them, and then how many there are, up
-- to 12
pub record IsKeyed (texts : List (List ℕ)) (e : Numbered) : Type 0 where
  pub first_is : e.first ≡ digits 8 (text_at texts e)
  pub second_is : digits 11 (text_at texts e) * 256 + e.second % 256
      ≡ digits 8 (text_at texts e) * 4294967296 + e.second
  pub short : length (text_at texts e) < 12 → e.second % 256 ≡ length (text_at texts e)
  pub long : 12 ≤ length (text_at texts e) → e.second % 256 ≡ 12
  pub bytes : All (λ byte. byte < 256) (text_at texts e)

-- the part that is compared if fronts are equal: nothing of a text that its front contains whole
abbrev pub ending : List (List ℕ) → Numbered → List ℕ
ending texts e = if nat_lt (e.second % 256) 12 then [] else text_at texts e

-- the key of a text
abbrev pub key_of : Whole → Numbered
key_of e = record { first = e.first; second = e.second; number = e.number }

-- a text of a list, after its key
pub record IsWhole (texts : List (List ℕ)) (e : Whole) : Type 0 where
  pub keyed : IsKeyed texts (key_of e)
  pub text_is : e.text.now ≡ text_at texts (key_of e)

-- keys compare as their fronts, and if these are equal, as their texts if these are longer
abbrev pub by_key : List (List ℕ) → Numbered → Numbered → Ordering
by_key texts a b =
    ordering_then (nat_cmp a.first b.first) (ordering_then (nat_cmp a.second b.second)
    (text_cmp (ending texts a) (ending texts b)))

-- the texts of a list by their numbers
abbrev pub numbered_texts : List (List ℕ) → List Numbered → List (List ℕ)
numbered_texts texts ordered = map (text_at texts) ordered

-- the texts of a list in order, by their keys, and each position is the number of one
pub record AreInTextOrder (texts : List (List ℕ)) (ordered : List Numbered) : Type 0 where
  pub len : length ordered ≡ length texts
  pub sorted : IsSorted text_cmp (numbered_texts texts ordered)
  pub within : All (λ e. e.number < length texts) ordered
  pub keyed : All (IsKeyed texts) ordered
  pub all : (number : ℕ) → number < length texts → Contains (map (λ e. e.number) ordered) number
