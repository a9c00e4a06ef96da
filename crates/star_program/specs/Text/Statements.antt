-- The statements of a program, one for each line, with the nesting depth of scans.
use Rattle.std.specs.{Prelude.{ℕ, ◌+◌, List, [], ◌∷◌, ◌++◌, map}, List.enumerate_from}
use Rattle.star_program.specs.{declared.spelling.statement.Statement.TheVariants.{Header, Registers, Group, Act, Scan, End, Report}, Code.{Code, Stop, Then, Each}, declared.program.Parts.Parts, declared.spelling.statement.Statement.Statement, declared.group.GroupDecl.GroupDecl, declared.program.Show.Show}
use Rattle.star_schema.specs.declared.group.SortKey.{SortKey}
use Rattle.star_program.specs.declared.spelling.statement.Statement.TheVariants as says

-- a statement, and the number of enclosing scans
pub record Line : Type 0 where
  pub depth : ℕ
  pub says : Statement

abbrev pub line : ℕ → Statement → Line
line depth says = record { depth = depth; says = says }

-- a scan is its first line, its body and an end
unfoldable pub lines_of_code : ℕ → Code → List Line
lines_of_code depth Stop = []
lines_of_code depth (Then op rest) = line depth (Act op) ∷ lines_of_code depth rest
lines_of_code depth (Each table target body rest) =
    line depth (Scan table target) ∷ (lines_of_code (depth + 1) body ++ line depth End ∷ lines_of_code depth rest)

abbrev pub group_lines : ℕ → List GroupDecl → List Line
group_lines from groups = map (λ (index, group). line 0 (Group index group)) (enumerate_from from groups)

abbrev pub show_line : Show → Line
show_line show = line 0 (says.Show show)

abbrev pub sort_line : SortKey → Line
sort_line key = line 0 (says.Sort key)

-- the header, the registers, the groups in order, the body, the report, its columns and its sort
-- keys
abbrev pub lines_of_program : Parts → List Line
lines_of_program p =
    line 0 Header ∷ line 0 (Registers p.registers)
    ∷ (group_lines 0 p.groups
    ++ (lines_of_code 0 p.body
    ++ (line 0 (Report p.report)
    ∷ (map show_line p.shows ++ map sort_line p.sorts))))
