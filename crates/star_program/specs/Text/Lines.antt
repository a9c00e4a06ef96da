-- The lines of a text, and the words of a line.
use Rattle.std.specs.{Prelude.{◌==◌, ◌&&◌, if◌then◌else◌, Bool, false, ℕ, List, [], ◌∷◌, filter}, List.list_all}
use Rattle.star_schema.specs.Records.{is_filled, with_first}

abbrev pub begins_with : ℕ → List ℕ → Bool
begins_with b [] = false
begins_with b (c ∷ text) = c == b

-- the lines of a text: a line feed ends one, together with a carriage return just before it; a
-- remaining text after the last is one more
unfoldable pub lines_of : List ℕ → List (List ℕ)
lines_of [] = []
lines_of (b ∷ text) =
    if b == 10 then [] ∷ lines_of text
    else if (b == 13) && begins_with 10 text then lines_of text
    else with_first b (lines_of text)

-- the pieces of a line between its spaces; after a quote no space separates
unfoldable pub pieces_of : List ℕ → List (List ℕ)
pieces_of [] = [] ∷ []
pieces_of (b ∷ line) =
    if b == 39 then (b ∷ line) ∷ []
    else if b == 32 then [] ∷ pieces_of line
    else with_first b (pieces_of line)

-- the words of a line are its nonempty pieces
unfoldable pub words_of : List ℕ → List (List ℕ)
words_of line = filter is_filled (pieces_of line)

-- a line that is empty or has only spaces
abbrev pub is_blank_line : List ℕ → Bool
is_blank_line line = list_all (λ b. b == 32) line
