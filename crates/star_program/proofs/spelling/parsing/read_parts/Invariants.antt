-- The lines so far have no fault, and say what the draft says.
use Rattle.std.proofs.Common.{◌≡◌, ◌≤◌, ◌+◌, ◌++◌, Some, length, map}
use Rattle.star_program.specs.{Text.Said.said_in, Private.Drafts.IsAt, Private.Drafts.told, Text.Lines.lines_of, Text.FirstFaults.lines_fault, Text.FirstFaults.start}
use Rattle.star_program.proofs.spelling.parsing.read_parts.Given as goal

abbrev pub invariant-loop-first : goal.invariant-loop-first
invariant-loop-first l = record {
  faults : lines_fault start 1 (lines_of l.text) ≡ lines_fault l.state l.line (lines_of l.rest);
  says : said_in (lines_of l.text)
      ≡ map Some (told l.state.stage l.draft) ++ said_in (lines_of l.rest);
  at : IsAt l.state l.draft;
  room : l.line + length l.rest ≤ length l.text + 1;
}

abbrev pub decreases-loop-first : goal.decreases-loop-first
decreases-loop-first l = length l.rest
