-- The first line that is left decides.
use Rattle.std.proofs.Common.{◌≡◌, ◌+◌, drop, map}
use Rattle.star_program.specs.ShowLines.{first_unshown}
use Rattle.star_kinds.proofs.report.bad_sort.Given as goal

abbrev pub invariant-loop-sort : goal.invariant-loop-sort
invariant-loop-sort l = record {
  line : l.line ≡ l.first + l.sort-index;
  same : first_unshown l.declared l.line (map (λ sort. sort.column) (drop l.sort-index l.sorts))
      ≡ first_unshown l.declared l.first (map (λ sort. sort.column) l.sorts);
}
