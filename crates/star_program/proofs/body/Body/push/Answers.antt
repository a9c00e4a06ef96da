use Rattle.std.proofs.Common.{◌≡◌, ◌∙◌, ◌∷◌, ◌++◌, [], List, ap, refl}
use Rattle.star_program.specs.{Code.Then, Code.Each, CodeOfSteps.code_of_steps, Private.Followed.code_of_step, Private.Followed.followed, declared.body.Step.Step, declared.body.Step.TheVariants.Act, declared.body.Step.TheVariants.Scan}
use Rattle.star_program.proofs.body.Body.push.Goals as goal

code_push : (steps : List Step) (step : Step)
    → code_of_steps (steps ++ step ∷ []) ≡ followed (code_of_steps steps) (code_of_step step)
code_push [] step = refl
code_push (Act op ∷ steps) step = ap (Then op) (code_push steps step)
code_push (Scan table target body ∷ steps) step = ap (Each table target body) (code_push steps step)

pub returns : goal.returns
returns c =
    ap code_of_steps c.in_ok-push.ensures.items ∙ code_push c.self.inside.steps.items c.args.step
    ∙ ap (λ code. followed code (code_of_step c.args.step)) c.self.view_is
