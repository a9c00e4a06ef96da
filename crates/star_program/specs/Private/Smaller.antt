-- Each body inside a body is smaller than it.
use Rattle.std.{specs.Prelude.{◌≤◌, List, [], ◌∷◌}, proofs.Common.arith}
use denote.Param.Weighed.{most}
use Rattle.star_program.specs.{Code.code_size, CodeOfSteps.code_of_steps, declared.body.Step.Step, declared.body.Step.TheVariants.Act, declared.body.Step.TheVariants.Scan, declared.body.Body.TheDeep.deep-Step}

pub most_le-code_size : (steps : List Step) → most deep-Step steps ≤ code_size (code_of_steps steps)
most_le-code_size [] = omega arith
most_le-code_size (Act op ∷ rest) = omega (arith, most_le-code_size rest)
most_le-code_size (Scan table target body ∷ rest) = omega (arith, most_le-code_size rest)
