use Rattle.std.proofs.{Common.{◌∙◌, ◌++◌, Some, ap, append-nil, arith, inl, inr, map, refl, sym}, lemmas.Result.err_from_is_err_and}
use Rattle.star_program.{specs.Text.Said.said_in, specs.Private.Drafts.told, specs.Text.Lines.lines_of, specs.Text.FirstFaults.lines_fault, proofs.Text.PassedLines.{end_spelled, end_within, nothing_at_start, nothing_told}, proofs.Text.FaultLemmas.{ended, text_fault_is}}
use Rattle.star_program.proofs.spelling.parsing.read_parts.Goals as goal

pub loop-first-init : goal.loop-first-init
loop-first-init c = record {
  faults = rw c.start-state.ensures refl;
  says = rw (c.start-state.ensures, c.new-draft.ensures, nothing_told) refl;
  at = rw (c.start-state.ensures, c.new-draft.ensures) nothing_at_start;
  room = omega arith;
}

pub loop-first-preserved : goal.loop-first-preserved
loop-first-preserved c =
    let was = c.loop-first.invariant in
    let passed = c.in_ok-state.ensures in
    let line = c.in-Some.ensures.line in
    record {
      faults = was.faults ∙ ap (lines_fault c.loop-first.state c.loop-first.line) line
          ∙ passed.faults (lines_of c.in-Some.after.now);
      says = was.says ∙ ap (λ texts.
          map Some (told c.loop-first.state.stage c.loop-first.draft) ++ said_in texts) line
          ∙ passed.says (lines_of c.in-Some.after.now);
      at = passed.at;
      room = omega (arith, c.in-Some.ensures.shorter);
    }

pub returns-in_err-state : goal.returns-in_err-state
returns-in_err-state c =
    let p = err_from_is_err_and c.from_residual.result c.from_residual.ensures.1 in
    rw (p.1, p.2) (elim c.in_err-state.ensures [
      | inl memory ↦ inl memory
      | inr refusal ↦
          inr (text_fault_is c.args.text.now ∙ c.loop-first.invariant.faults
          ∙ ap (lines_fault c.loop-first.state c.loop-first.line) c.in-Some.ensures.line
          ∙ refusal (lines_of c.in-Some.after.now))
    ])

pub returns-in-Some-end_fault : goal.returns-in-Some-end_fault
returns-in-Some-end_fault c =
    inr (text_fault_is c.args.text.now ∙ c.loop-first.invariant.faults
    ∙ ap (lines_fault c.loop-first.state c.loop-first.line) c.in_default.ensures.line
    ∙ ended c.loop-first.state c.loop-first.line ∙ sym c.end_fault.ensures ∙ c.in-Some-end_fault.is)

pub returns-in-None : goal.returns-in-None
returns-in-None c =
    let was = c.loop-first.invariant in
    let ends = sym c.end_fault.ensures ∙ c.in-None.is in
    let all = was.says ∙ ap (λ texts.
    map Some (told c.loop-first.state.stage c.loop-first.draft) ++ said_in texts)
    c.in_default.ensures.line
    ∙ append-nil (map Some (told c.loop-first.state.stage c.loop-first.draft)) in
    rw c.finish.ensures (
      end_spelled c.loop-first.state c.loop-first.draft c.loop-first.line c.args.text.now was.at
          ends
          all,
      end_within c.loop-first.state c.loop-first.draft c.loop-first.line was.at ends,
    )
