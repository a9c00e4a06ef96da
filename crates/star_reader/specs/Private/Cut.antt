-- The cut of a piece of a text: at its first line end and after its last.
use Rattle.std.specs.{Prelude.{◌≡◌, ◌++◌, ◌∷◌, ◌<◌, ◌≤◌, ◌-◌, true, ℕ, List, [], drop, length, take}, List.list_all}
use Rattle.star_schema.specs.Records.{ends_line}
use Rattle.star_reader.specs.Carried.{is_inner}

-- a text begins with a line end
pub record IsBegun (text : List ℕ) : Type 0 where
  pub byte : ℕ
  pub rest : List ℕ
  pub ends : ends_line byte ≡ true
  pub is : text ≡ byte ∷ rest

-- a text ends with a line end
pub record EndsInLineEnd (text : List ℕ) : Type 0 where
  pub front : List ℕ
  pub byte : ℕ
  pub ends : ends_line byte ≡ true
  pub is : text ≡ front ++ byte ∷ []

-- the lines of a piece: from its first line end to after its last
pub record AreLinesOf (piece : List ℕ) (first behind : ℕ) : Type 0 where
  pub order : first < behind
  pub within : behind ≤ length piece
  pub head : list_all is_inner (take first piece) ≡ true
  pub begun : IsBegun (take (behind - first) (drop first piece))
  pub ended : EndsInLineEnd (take (behind - first) (drop first piece))
  pub tail : list_all is_inner (drop behind piece) ≡ true
