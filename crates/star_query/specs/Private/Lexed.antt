-- The symbols of the code's tokens.
use Rattle.std.specs.{Prelude.{◌≡◌, ◌≤◌, ◌<◌, ℕ, ◌+◌, Bool, false, [], ◌∷◌, List, ◌++◌, Result, Ok, Err}, Char.is_ascii_digit}
use Rattle.star_query.specs.{declared.token.Kind.Kind, declared.token.Token.Token, declared.lexer.Ending.Ending, declared.lexer.Piece.Piece, declared.fault.QueryFault.QueryFault, declared.fault.QueryFault.TheVariants.{OutOfMemory, BadCharacter, BadNumber, OpenText}, Symbols.{Symbol, Placed, keyword, fold, count, relation, sign, additive, name, number, text, lowered}, Private.Cut.undoubled}
use Rattle.star_query.specs.declared.token.Kind.TheVariants as kinds
use Rattle.star_query.specs.declared.lexer.Ending.TheVariants as endings
use Rattle.star_query.specs.declared.lexer.Piece.TheVariants as pieces
use Rattle.star_query.specs.Private.Cut as spec

abbrev pub symbol_of : Kind → ℕ → Symbol
symbol_of (kinds.Keyword w) offset = keyword w
symbol_of (kinds.Fold f) offset = fold f offset
symbol_of kinds.Count offset = count offset
symbol_of (kinds.Relation r) offset = relation r
symbol_of (kinds.Sign s) offset = sign s
symbol_of (kinds.Additive s) offset = additive s
symbol_of (kinds.Name word) offset = name (lowered word.now) offset
symbol_of (kinds.Number digits) offset = number digits.value
symbol_of (kinds.Text inside) offset = text (undoubled inside.now)

abbrev pub placed : Token → Placed
placed t = record { symbol = symbol_of t.kind t.offset; offset = t.offset }

abbrev pub ending_of : Ending → spec.Ending
ending_of (endings.Closed n) = spec.closed n
ending_of (endings.Stopped n) = spec.stopped n
ending_of endings.Open = spec.open_ended

-- what begins with the first of these bytes
abbrev pub front_piece : ℕ → List ℕ → spec.Piece
front_piece offset [] = spec.blank
front_piece offset (b ∷ bs) = spec.piece_at offset b bs

abbrev pub begins_with_digit : List ℕ → Bool
begins_with_digit [] = false
begins_with_digit (b ∷ bs) = is_ascii_digit b

-- within `size` bytes
abbrev pub IsEndingWithin : Ending → ℕ → Type 0
IsEndingWithin (endings.Closed n) size = (1 ≤ n) × (n ≤ size)
IsEndingWithin (endings.Stopped n) size = n < size
IsEndingWithin endings.Open size = Unit {0}

abbrev pub piece_of : ℕ → Piece → spec.Piece
piece_of offset pieces.Blank = spec.blank
piece_of offset (pieces.Token kind width) = spec.token (symbol_of kind offset) width
piece_of offset (pieces.Bad e) = spec.bad e

-- a fault of the cut, or out of memory
abbrev pub IsLexical : QueryFault → Type 0
IsLexical OutOfMemory = Unit {0}
IsLexical (BadCharacter offset) = Unit {0}
IsLexical (BadNumber offset) = Unit {0}
IsLexical (OpenText offset) = Unit {0}
IsLexical _ = ⊥

-- a token within `size` bytes, or a fault of the cut
abbrev pub IsPieceWithin : ℕ → Piece → Type 0
IsPieceWithin size pieces.Blank = Unit {0}
IsPieceWithin size (pieces.Token kind width) = (1 ≤ width) × (width ≤ size)
IsPieceWithin size (pieces.Bad fault) = IsLexical fault

-- the token found at a position, within `size` bytes, is this piece of the cut
pub record IsPiece (offset : ℕ) (piece : spec.Piece) (size : ℕ) (found : Piece) : Type 0 where
  pub same : piece_of offset found ≡ piece
  pub within : IsPieceWithin size found

-- the first fault of the cut, or out of memory
abbrev pub IsCutFault : List ℕ → QueryFault → Type 0
IsCutFault bytes OutOfMemory = Unit {0}
IsCutFault bytes fault = spec.cut_of bytes ≡ Err fault

-- an ending after n more bytes
abbrev pub ended_at : ℕ → spec.Ending → spec.Ending
ended_at n (spec.closed m) = spec.closed (n + m)
ended_at n (spec.stopped m) = spec.stopped (n + m)
ended_at n spec.open_ended = spec.open_ended

-- after these tokens
abbrev pub with_tokens : List Placed → Result (List Placed) QueryFault
    → Result (List Placed) QueryFault
with_tokens so_far (Ok tokens) = Ok (so_far ++ tokens)
with_tokens so_far (Err fault) = Err fault
