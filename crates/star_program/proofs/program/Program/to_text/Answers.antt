use Rattle.std.proofs.{Common.ℕ, Common.List, Common.subst, Common.sym, lemmas.Result.IfOk-weaker}
use Rattle.star_program.{specs.Text.Spelling.Spells, proofs.Text.Spelled.written}
use Rattle.star_program.proofs.program.Program.to_text.Goals as goal

pub returns-clause-spells : goal.returns-clause-spells
returns-clause-spells c =
    IfOk-weaker c.write_parts.result _ _
    (λ text is sayable. subst (λ (t : List ℕ). Spells t c.args.self.now)
    (sym (rw c.self.view_is at is)) (written c.args.self.now sayable)) c.write_parts.ensures
