-- The request in a statement.
use Rattle.std.specs.{Prelude.{◌&&◌, ℕ, List, [], ◌∷◌, Bool, if◌then◌else◌, codes, drop, length, nat_lt, take}, Str.str_eq_ignore_ascii_case}
use Rattle.star_statements.specs.{declared.questions.Question.TheVariants.{Nothing, TooLong, Query, Explain, Quote}, Blanks.{is_blank_at_front, without_blanks}, declared.questions.Question.Question}

-- whether a text begins with a keyword, in letters of either case, and a blank after it
unfoldable pub begins_with_word : (word text : List ℕ) → Bool
begins_with_word word text =
    str_eq_ignore_ascii_case (take (length word) text) word
    && is_blank_at_front (drop (length word) text)

-- the text after a keyword and the blanks that follow it
abbrev pub behind_word : (word text : List ℕ) → List ℕ
behind_word word text = without_blanks (drop (length word) text)

-- the request in a text without leading blanks: none if it is empty; after the keyword `explain` or
-- `quote`, the program or the quote of the query that follows; otherwise the report of a query. A
-- text of more than 65,536 bytes is too long
unfoldable pub asked_by_text : List ℕ → Question (List ℕ)
asked_by_text [] = Nothing
asked_by_text (c ∷ rest) =
    let text = c ∷ rest in
    if nat_lt 65536 (length text) then TooLong
    else (if begins_with_word (codes "explain") text then Explain (behind_word (codes "explain") text)
    else (if begins_with_word (codes "quote") text then Quote (behind_word (codes "quote") text)
    else Query text))

-- the request in a statement; leading blanks are ignored
abbrev pub asked_by : List ℕ → Question (List ℕ)
asked_by statement = asked_by_text (without_blanks statement)
