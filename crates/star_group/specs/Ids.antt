-- The group ids of key lists whose keys lie in known ranges.
use Rattle.std.specs.{Prelude.{◌≡◌, ℕ, ◌+◌, ◌*◌, nat_eq, nat_lt, Bool, true, false, if◌then◌else◌, ℤ, pos, negsuc, ◌-ℤ◌, List, [], ◌∷◌, Option, Some, None}, Option.{is_none, option_eq}}
use Rattle.star_program.specs.{declared.group.GroupKey.GroupKey, declared.key.KeyValue.KeyValue, declared.key.KeyValue.TheVariants.Number, declared.key.KeyValue.TheVariants.Code}
use Rattle.star_group.specs.declared.array_store.span.Span.{Span}
use Rattle.star_program.specs.declared.group.GroupKey.TheVariants as declared

-- a number that is at most the last one
abbrev pub offset_up_to : ℕ → ℤ → Option ℕ
offset_up_to last (pos n) = if nat_lt last n then None else Some n
offset_up_to last (negsuc n) = None

-- the offset of a key in its range, from 0
abbrev pub offset_of : Span → KeyValue → Option ℕ
offset_of s (Number z) = if s.is_code then None else offset_up_to s.last (z -ℤ s.low)
offset_of s (Code n) = if s.is_code then offset_up_to s.last (pos n -ℤ s.low) else None

-- the group id of a key list: its first key has `size` offsets, and the others have an id
abbrev pub above : Option ℕ → ℕ → Option ℕ → Option ℕ
above (Some offset) size (Some rest) = Some (offset + size * rest)
above (Some offset) size None = None
above None size rest = None

-- the group id of a key list; none if a key lies outside of its range
abbrev pub group_id : List Span → List KeyValue → Option ℕ
group_id [] [] = Some 0
group_id [] (k ∷ ks) = None
group_id (s ∷ ss) [] = None
group_id (s ∷ ss) (k ∷ ks) = above (offset_of s k) (s.last + 1) (group_id ss ks)

-- the number of group ids
abbrev pub id_count : List Span → ℕ
id_count [] = 1
id_count (s ∷ ss) = (s.last + 1) * id_count ss

abbrev pub is_at : List Span → ℕ → List KeyValue → Bool
is_at spans id keys = option_eq nat_eq (group_id spans keys) (Some id)

abbrev pub is_outside : List Span → List KeyValue → Bool
is_outside spans keys = is_none (group_id spans keys)

-- the range is one of such keys
abbrev pub IsOf : Span → GroupKey → Type 0
IsOf s declared.Number = s.is_code ≡ false
IsOf s (declared.Text c) = s.is_code ≡ true
