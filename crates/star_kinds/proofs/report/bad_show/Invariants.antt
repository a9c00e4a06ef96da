-- The first line that is left decides.
use Rattle.std.proofs.Common.{◌≡◌, ◌+◌, drop, map}
use Rattle.star_program.specs.ShowLines.{first_unshown}
use Rattle.star_kinds.proofs.report.bad_show.Given as goal

abbrev pub invariant-loop-show : goal.invariant-loop-show
invariant-loop-show l = record {
  line : l.line ≡ 1 + l.show-index;
  same : first_unshown l.declared l.line (map (λ show. show.column) (drop l.show-index l.shows))
      ≡ first_unshown l.declared 1 (map (λ show. show.column) l.shows);
}
