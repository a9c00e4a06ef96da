-- The limits of a program, as far as the state of its text determines them.
use Rattle.std.specs.Prelude.{◌≤◌}
use Rattle.star_program.specs.declared.spelling.text_state.TextState.{TextState}

pub record IsWithinLargest (p : TextState) : Type 0 where
  pub groups : p.groups ≤ 8
  pub instructions : p.instructions ≤ 4096
  pub depth : p.depth ≤ 3
  pub shows : p.shows ≤ 16
  pub sorts : p.sorts ≤ 16
