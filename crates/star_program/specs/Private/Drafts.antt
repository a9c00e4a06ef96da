-- A program whose text has been read in part, and the statements of that part.
use Rattle.std.specs.Prelude.{◌≡◌, ℕ, ◌+◌, ◌≤◌, List, [], ◌∷◌, ◌++◌, All, Some, length, map}
use Rattle.star_common.specs.Memory.{UnlessMemory}
use Rattle.star_program.specs.{Code.{Code, Stop, Then, Each, code_size, scan_depth}, Private.Followed.followed, Limits.IsSmall, Private.Within.IsWithinLargest, Text.FirstFaults.lines_fault, Text.Said.said_in, declared.group.GroupDecl.GroupDecl, declared.program.Parts.Parts, declared.spelling.draft.Draft.Draft, declared.spelling.draft.OpenScan.OpenScan, declared.spelling.fault.TextFault.TextFault, declared.spelling.text_state.TextState.TextState, declared.spelling.text_state.Stage.Stage, declared.spelling.statement.Statement.Statement}
use Rattle.star_program.specs.declared.spelling.fault.TextFault.TheVariants as fault
use Rattle.star_program.specs.declared.spelling.text_state.Stage.TheVariants as stage
use Rattle.star_program.specs.declared.spelling.statement.Statement.TheVariants as says

-- ---- the statements of a program's parts

abbrev pub code_says : Code → List Statement
code_says Stop = []
code_says (Then op rest) = says.Act op ∷ code_says rest
code_says (Each t r body rest) = says.Scan t r ∷ (code_says body ++ says.End ∷ code_says rest)

-- the groups, numbered from a number on
abbrev pub groups_say : ℕ → List GroupDecl → List Statement
groups_say n [] = []
groups_say n (g ∷ gs) = says.Group n g ∷ groups_say (n + 1) gs

-- the open scans, each with the steps before it
abbrev pub opens_say : List OpenScan → List Statement
opens_say [] = []
opens_say (scan ∷ scans) = code_says scan.before ++ says.Scan scan.table scan.target
    ∷ opens_say scans

-- ---- what a draft says

-- up to the body
abbrev pub begun : Draft → List Statement
begun d = says.Header ∷ says.Registers d.registers
    ∷ (groups_say 0 d.groups ++ (opens_say d.scans ++ code_says d.body))

-- up to the end
abbrev pub whole_draft : Draft → List Statement
whole_draft d =
    says.Header ∷ says.Registers d.registers
    ∷ (groups_say 0 d.groups
    ++ (code_says d.body ++ says.Report d.report
    ∷ (map says.Show d.shows ++ map says.Sort d.sorts)))

abbrev pub told : Stage → Draft → List Statement
told stage.Header d = []
told stage.Registers d = says.Header ∷ []
told stage.Groups d = begun d
told stage.Body d = begun d
told stage.Shows d = whole_draft d
told stage.Sorts d = whole_draft d

-- ---- one more statement

unfoldable pub nothing_read : Draft
nothing_read = record {
  registers = 0;
  groups = [];
  scans = [];
  body = Stop;
  report = 0;
  shows = [];
  sorts = [];
}

-- the innermost scan is closed: it and its body follow the steps before it
pub record IsClosed (d e : Draft) : Type 0 where
  pub scan : OpenScan
  pub scans : d.scans ≡ e.scans ++ scan ∷ []
  pub body : e ≡ record d {
    scans = e.scans;
    body =
        followed scan.before (Each scan.table scan.target d.body Stop);
  }

-- the draft with one more statement
abbrev pub IsAdded : Draft → Statement → Draft → Type 0
IsAdded d says.Header e = e ≡ d
IsAdded d (says.Registers n) e = e ≡ record d { registers = n }
IsAdded d (says.Group index group) e = e ≡ record d { groups = d.groups ++ group ∷ [] }
IsAdded d (says.Act op) e = e ≡ record d { body = followed d.body (Then op Stop) }
IsAdded d (says.Scan t r) e = e
    ≡ record d {
      scans = d.scans ++ record { before = d.body; table = t; target = r }
          ∷ [];
      body = Stop;
    }
IsAdded d says.End e = IsClosed d e
IsAdded d (says.Report g) e = e ≡ record d { report = g }
IsAdded d (says.Show show) e = e ≡ record d { shows = d.shows ++ show ∷ [] }
IsAdded d (says.Sort key) e = e ≡ record d { sorts = d.sorts ++ key ∷ [] }

-- ---- a draft in a state of its text

-- the body, if every open scan ended here
abbrev pub closed : List OpenScan → Code → Code
closed [] body = body
closed (scan ∷ scans) body =
    followed scan.before (Each scan.table scan.target (closed scans body) Stop)

-- what comes later in a text is still empty, and no scan is open after the body
abbrev pub IsInOrder : Stage → Draft → Type 0
IsInOrder stage.Header d = (d.groups ≡ []) × (d.scans ≡ []) × (d.body ≡ Stop) × (d.shows ≡ [])
    × (d.sorts ≡ [])
IsInOrder stage.Registers d = (d.groups ≡ []) × (d.scans ≡ []) × (d.body ≡ Stop) × (d.shows ≡ [])
    × (d.sorts ≡ [])
IsInOrder stage.Groups d = (d.scans ≡ []) × (d.body ≡ Stop) × (d.shows ≡ []) × (d.sorts ≡ [])
IsInOrder stage.Body d = (d.shows ≡ []) × (d.sorts ≡ [])
IsInOrder stage.Shows d = (d.scans ≡ []) × (d.sorts ≡ [])
IsInOrder stage.Sorts d = d.scans ≡ []

-- `count` groups, each of them small
pub record AreSmallGroups (count : ℕ) (groups : List GroupDecl) : Type 0 where
  pub many : length groups ≡ count
  pub each : All IsSmall groups

-- a body of `instructions` instructions with `depth` open scans
pub record IsBody (instructions depth : ℕ) (scans : List OpenScan) (body : Code) : Type 0 where
  pub open_scans : length scans ≡ depth
  pub many : code_size (closed scans body) ≡ instructions
  pub nested : scan_depth (closed scans body) ≤ 3

-- the numbers of each kind in the draft, within their limits
abbrev pub Counts : ℕ → ℕ → ℕ → ℕ → ℕ → Draft → Type 0
Counts groups instructions depth shows sorts d =
    (d.registers ≤ 4096) × AreSmallGroups groups d.groups × IsBody instructions depth d.scans d.body
    × (length d.shows ≡ shows) × (length d.sorts ≡ sorts)

pub record IsAt (p : TextState) (d : Draft) : Type 0 where
  pub within : IsWithinLargest p
  pub counts : Counts p.groups p.instructions p.depth p.shows p.sorts d
  pub order : IsInOrder p.stage d

-- a line was read: the state and the draft after it
pub record IsPassed (p : TextState) (d : Draft) (line : ℕ) (text : List ℕ) (q : TextState)
    (e : Draft) : Type 0 where
  pub at : IsAt q e
  pub faults : (texts : List (List ℕ))
      → lines_fault p line (text ∷ texts) ≡ lines_fault q (line + 1) texts
  pub says : (texts : List (List ℕ))
      → map Some (told p.stage d) ++ said_in (text ∷ texts) ≡ map Some (told q.stage e)
      ++ said_in texts

-- a line was refused: memory ran out, or its error is the first of the text, whatever follows
abbrev pub IsLineRefused : TextFault → TextState → ℕ → List ℕ → Type 0
IsLineRefused f p line text =
    UnlessMemory fault.OutOfMemory f ((texts : List (List ℕ))
    → lines_fault p line (text ∷ texts) ≡ Some f)

-- the program of a draft at the end of its text
abbrev pub finished : Draft → Parts
finished d = record {
  registers = d.registers;
  groups = d.groups;
  body = d.body;
  report = d.report;
  shows = d.shows;
  sorts = d.sorts;
}
