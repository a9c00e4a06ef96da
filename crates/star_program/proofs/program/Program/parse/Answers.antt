use Rattle.std.proofs.{Common.inl, Common.inr, lemmas.Result.err_from_is_err_and}
use Rattle.star_program.proofs.{Text.NoFault.no_fault, Text.OneProgram.one_program}
use Rattle.star_program.proofs.program.Program.parse.Goals as goal

pub returns-in_err-parts-clause-only : goal.returns-in_err-parts-clause-only
returns-in_err-parts-clause-only c = λ parts spells small.
    let p = err_from_is_err_and c.from_residual.result c.from_residual.ensures.1 in
    rw (p.1, p.2) (elim c.in_err-parts.ensures [
      | inl memory ↦ memory
      | inr refusal ↦ let none = no_fault c.args.text.now parts spells small in
          absurd (let bad : ⊥ = cc (none, refusal) in bad)
    ])

pub returns-in_err-parts-clause-fault : goal.returns-in_err-parts-clause-fault
returns-in_err-parts-clause-fault c =
    let p = err_from_is_err_and c.from_residual.result c.from_residual.ensures.1 in
    rw (p.1, p.2) c.in_err-parts.ensures

pub returns-clause-only : goal.returns-clause-only
returns-clause-only c = λ parts spells small.
    one_program c.args.text.now c.in_ok-parts.parts parts c.in_ok-parts.ensures.0 spells
