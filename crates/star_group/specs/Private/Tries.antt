-- Rows found by the digits of their keys: each row is below one whose key it shares some digits
-- with.
use Rattle.std.specs.{Prelude.{◌≡◌, ℕ, zero, suc, ◌+◌, ◌-◌, ◌*◌, ◌/◌, ◌%◌, ◌^◌, ◌<◌, nat_lt, if◌then◌else◌, List, [], ◌∷◌, length, slice_index_or}, Int.{cast_unsigned, w64}}
use Rattle.star_group.specs.declared.keyed.{key.KeyPart.KeyPart, trie.Slot.Slot, trie.Slot.TheVariants.{Held, Missing}, key.KeyPart.TheVariants.{All, Number, Code}}

abbrev pub key_bits : KeyPart → ℕ
key_bits All = 0
key_bits (Number x) = cast_unsigned w64 x
key_bits (Code n) = n

-- which kind of value it is
abbrev pub key_kind : KeyPart → ℕ
key_kind All = 0
key_kind (Number x) = 1
key_kind (Code n) = 2

-- the bits from the lowest, two at a time, and then the kind
abbrev pub part_digit : KeyPart → ℕ → ℕ
part_digit part round =
    if nat_lt round 32 then key_bits part / 2 ^ (2 * round) % 4 else key_kind part

-- a word and a part after it
abbrev pub word_with : ℕ → KeyPart → ℕ
word_with word part = (word * 31 % 2 ^ 64 + key_bits part) % 2 ^ 64

-- the parts in one word, after those of a word
unfoldable pub word_from : ℕ → List KeyPart → ℕ
word_from word [] = word
word_from word (part ∷ key) = word_from (word_with word part) key

-- which two bits of the word are the digit at a depth below 32
abbrev pub turn_at : ℕ → ℕ
turn_at depth = if nat_lt depth 5 then depth else if nat_lt depth 16 then 20 - depth else depth

-- the digits of the key's word, and then those of its positions in turn
unfoldable pub digit_at : ℕ → List KeyPart → ℕ → ℕ
digit_at width key depth =
    if nat_lt depth 32 then word_from 0 key / 2 ^ (2 * turn_at depth) % 4
    else part_digit (slice_index_or key ((depth - 32) % width) All) ((depth - 32) / width)

abbrev pub key_at : List (List KeyPart) → ℕ → List KeyPart
key_at ks n = slice_index_or ks n []

-- the node below this one by a digit, 0 if there is none; node 0 is above all, and row n is node n
-- + 1
abbrev pub child : List (List ℕ) → ℕ → ℕ → ℕ
child links node digit = slice_index_or (slice_index_or links node []) digit 0

-- the node that the key's digits lead to from node 0
unfoldable pub node_at : ℕ → List (List ℕ) → List KeyPart → ℕ → ℕ
node_at width links key zero = 0
node_at width links key (suc depth) =
    child links (node_at width links key depth) (digit_at width key depth)

-- the key's first `depth` digits lead from node to node to this one
pub record Leads (width : ℕ) (links : List (List ℕ)) (key : List KeyPart)
    (depth node : ℕ) : Type 0 where
  pub steps : (i : ℕ) → i < depth → 0 < node_at width links key (suc i)
  pub end : node_at width links key depth ≡ node

pub record IsTrie (width : ℕ) (ks : List (List KeyPart)) (links : List (List ℕ)) : Type 0 where
  pub many : length links ≡ length ks + 1
  pub wide : (node : ℕ) → node < length links → length (slice_index_or links node []) ≡ 4
  pub below : (node digit : ℕ) → 0 < child links node digit
      → (node < child links node digit) × (child links node digit < length links)
  pub reached : (n : ℕ) → n < length ks
      → ∥ ((depth : ℕ) × Leads width links (key_at ks n) depth (n + 1)) ∥₁
  pub once : (i j : ℕ) → i < length ks → j < length ks → key_at ks i ≡ key_at ks j → i ≡ j

-- the row of this number has the key
pub record IsHeld (ks : List (List KeyPart)) (key : List KeyPart) (n : ℕ) : Type 0 where
  pub within : n < length ks
  pub is : key_at ks n ≡ key

-- no row has the key, and its digits end at this node, with no node below by the next digit
pub record IsMissing (width : ℕ) (ks : List (List KeyPart)) (links : List (List ℕ))
    (key : List KeyPart) (node digit : ℕ) : Type 0 where
  pub depth : ℕ
  pub leads : Leads width links key depth node
  pub next : digit ≡ digit_at width key depth
  pub few : digit < 4
  pub within : node < length links
  pub empty : child links node digit ≡ 0
  pub none : (n : ℕ) → n < length ks → key_at ks n ≡ key → ⊥

abbrev pub IsKeyFound : ℕ → List (List KeyPart) → List (List ℕ) → List KeyPart → Slot → Type 0
IsKeyFound width ks links key (Held n) = IsHeld ks key n
IsKeyFound width ks links key (Missing node digit) = IsMissing width ks links key node digit
