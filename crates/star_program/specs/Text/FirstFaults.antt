-- The first error of a text: the order of its lines, the number of each kind, and the nesting depth
-- of scans.
use Rattle.std.specs.Prelude.{◌≡◌, ◌==◌, ◌+◌, ◌-◌, ◌&&◌, if◌then◌else◌, Bool, true, false, ℕ, List, [], ◌∷◌, Option, Some, None, Result, Ok, Err, codes, length, nat_le, nat_lt}
use Rattle.star_common.specs.Memory.{UnlessMemory}
use Rattle.star_program.specs.{Text.Keywords.same, Text.Lines.{is_blank_line, lines_of, words_of}, Text.Said.said, declared.spelling.text_state.TextState.TextState, declared.spelling.text_state.Stage.Stage, declared.spelling.fault.TextFault.TextFault, declared.spelling.statement.Statement.Statement}
use Rattle.star_program.specs.declared.spelling.text_state.Stage.TheVariants as stage
use Rattle.star_program.specs.declared.spelling.fault.TextFault.TheVariants as fault
use Rattle.star_program.specs.declared.spelling.statement.Statement.TheVariants as says

-- before the first line
unfoldable pub start : TextState
start = record { stage = stage.Header; groups = 0; instructions = 0; depth = 0; shows = 0; sorts = 0 }

-- after an instruction, the first or last line of a scan, or the report after the last scan
abbrev pub state_after_step : TextState → Statement → Option TextState
state_after_step p (says.Act op) = Some (record p { stage = stage.Body; instructions = p.instructions + 1 })
state_after_step p (says.Scan table t) = Some (record p { stage = stage.Body; instructions = p.instructions + 1; depth = p.depth + 1 })
state_after_step p says.End = if p.depth == 0 then None else Some (record p { depth = p.depth - 1 })
state_after_step p (says.Report g) = if p.depth == 0 then Some (record p { stage = stage.Shows }) else None
state_after_step p s = None

-- after a statement in a part of the program, if it is allowed there: groups are numbered in order
abbrev pub after_in : Stage → TextState → Statement → Option TextState
after_in stage.Header p says.Header = Some (record p { stage = stage.Registers })
after_in stage.Registers p (says.Registers n) = Some (record p { stage = stage.Groups })
after_in stage.Groups p (says.Group index group) = if index == p.groups then Some (record p { groups = p.groups + 1 }) else None
after_in stage.Groups p s = state_after_step p s
after_in stage.Body p s = state_after_step p s
after_in stage.Shows p (says.Show show) = Some (record p { shows = p.shows + 1 })
after_in stage.Shows p (says.Sort key) = Some (record p { stage = stage.Sorts; sorts = 1 })
after_in stage.Sorts p (says.Sort key) = Some (record p { sorts = p.sorts + 1 })
after_in s p t = None

unfoldable pub state_after : TextState → Statement → Option TextState
state_after p s = after_in p.stage p s

-- the limits of a program that the state determines
unfoldable pub is_within : TextState → Bool
is_within p = nat_le p.groups 8 && (nat_le p.instructions 4096 && (nat_le p.depth 3 && (nat_le p.shows 16 && nat_le p.sorts 16)))

-- and those that a statement by itself determines
unfoldable pub is_small : Statement → Bool
is_small (says.Registers n) = nat_le n 4096
is_small (says.Group index group) = nat_le (length group.keys) 6 && nat_le (length group.aggregates) 8
is_small s = true

-- a line that is not allowed there
abbrev pub bad_in : Stage → ℕ → TextFault
bad_in stage.Header line = fault.BadHeader
bad_in s line = fault.BadLine line

abbrev pub begins_report : List (List ℕ) → Bool
begins_report [] = false
begins_report (w ∷ ws) = same w (codes "report")

abbrev pub state_reached : TextState → ℕ → Statement → Option TextState → Result TextState TextFault
state_reached p line s None = Err (bad_in p.stage line)
state_reached p line s (Some q) = if is_within q && is_small s then Ok q else Err (fault.TooLarge line)

abbrev pub reached_by : TextState → ℕ → Option Statement → Result TextState TextFault
reached_by p line None = Err (bad_in p.stage line)
reached_by p line (Some s) = state_reached p line s (state_after p s)

-- the state after the line with a number, or its error: a report in a scan, then a line that is not
-- allowed there, then a limit
unfoldable pub advance : TextState → ℕ → List ℕ → Result TextState TextFault
advance p line text = if nat_lt 0 p.depth && begins_report (words_of text) then Err fault.OpenScan else reached_by p line (said text)

-- the error of a text that ends there, before the line with this number
abbrev pub end_in : Stage → ℕ → ℕ → Option TextFault
end_in stage.Header depth line = Some fault.BadHeader
end_in stage.Registers depth line = Some (fault.BadLine line)
end_in stage.Shows depth line = None
end_in stage.Sorts depth line = None
end_in s depth line = if depth == 0 then Some (fault.BadLine line) else Some fault.OpenScan

abbrev pub then_from : Result TextState TextFault → (TextState → Option TextFault) → Option TextFault
then_from (Err f) go = Some f
then_from (Ok p) go = go p

-- the first error of lines that are numbered from a number on; blank ones count and are skipped
unfoldable pub lines_fault : TextState → ℕ → List (List ℕ) → Option TextFault
lines_fault p line [] = end_in p.stage p.depth line
lines_fault p line (text ∷ texts) =
    if is_blank_line text then lines_fault p (line + 1) texts
    else then_from (advance p line text) (λ q. lines_fault q (line + 1) texts)

-- the first error of a text that spells no program within the limits
unfoldable pub program_text_fault : List ℕ → Option TextFault
program_text_fault text = lines_fault start 1 (lines_of text)

-- this is the first error of the text
abbrev pub FirstTextFault : List ℕ → TextFault → Type 0
FirstTextFault text f = program_text_fault text ≡ Some f

-- memory ran out, or this is the first error of the text
abbrev pub IsFirstTextFault : List ℕ → TextFault → Type 0
IsFirstTextFault text f = UnlessMemory fault.OutOfMemory f (FirstTextFault text f)
