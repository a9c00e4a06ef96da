-- Names of files on one line.
use Rattle.std.specs.{Prelude.{ℕ, List, ◌==◌, ◌||◌, if◌then◌else◌, codes, chars, flat_map, encode_utf8, encode_utf8_all}, Char.is_control, Char.Escape.{backslash, escape_default}}

-- a letter: control characters and the backslash as Rust's `escape_debug` writes them, any other as
-- it is
abbrev pub printed_letter : ℕ → List ℕ
printed_letter c = if c == 0 then codes "\\0"
    else (if is_control c || (c == backslash) then encode_utf8_all (escape_default c)
    else encode_utf8 c)

-- a name, letter by letter
unfoldable pub printed_name : List ℕ → List ℕ
printed_name name = flat_map printed_letter (chars name)
