-- A step by itself as code, and code with other code after it.
use Rattle.star_program.specs.{Code.Code, Code.Stop, Code.Then, Code.Each, CodeOfSteps.before, declared.body.Step.Step}

abbrev pub code_of_step : Step → Code
code_of_step step = before step Stop

abbrev pub followed : Code → Code → Code
followed Stop d = d
followed (Then op c) d = Then op (followed c d)
followed (Each t r b c) d = Each t r b (followed c d)
