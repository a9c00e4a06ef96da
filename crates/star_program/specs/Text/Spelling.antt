-- Which program a text spells (this project's text of programs).
use Rattle.std.specs.Prelude.{◌≡◌, ℕ, List, Some, Result, MatchResult, map}
use Rattle.star_program.specs.{Text.Lines.lines_of, Text.Said.said_in, Text.Statements.lines_of_program, declared.program.Parts.Parts, declared.spelling.fault.TextFault.TextFault, declared.spelling.statement.Statement.Statement}
use Rattle.star_program.specs.declared.spelling.fault.TextFault.TheVariants as fault

-- the statements of a program's lines, in order
abbrev pub program_statements : Parts → List Statement
program_statements p = map (λ line. line.says) (lines_of_program p)

-- a text spells a program: its lines that are not blank are the program's statements, in order
unfoldable pub Spells : List ℕ → Parts → Type 0
Spells text p = said_in (lines_of text) ≡ map Some (program_statements p)

-- no text spells two programs
abbrev pub OneProgram : Type 0
OneProgram = (text : List ℕ) (p q : Parts) → Spells text p → Spells text q → p ≡ q

-- a program is read, unless memory runs out
abbrev pub IsRead : Parts → Result Parts TextFault → Type 0
IsRead p result = MatchResult result (λ q. q ≡ p) (λ f. f ≡ fault.OutOfMemory)
