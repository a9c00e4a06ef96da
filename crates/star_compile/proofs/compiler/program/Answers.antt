use Rattle.std.proofs.Common.{sym, subst}
use Rattle.star_program.specs.Limits.{IsWithinLimits}
use Rattle.star_compile_laws.proofs.Programs.{is_within_limits}
use Rattle.star_compile.proofs.compiler.program.Goals as goal

pub unwrap-requires : goal.unwrap-requires
unwrap-requires c = c.new-program.ensures.exactly.1
    (subst IsWithinLimits (sym c.in_ok-parts.ensures)
    (is_within_limits _ c.requires.few))
