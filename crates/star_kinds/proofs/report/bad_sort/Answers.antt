use Rattle.std.proofs.Common.{sym, ◌∙◌, arith}
use Rattle.star_kinds.proofs.Lines.{unshown_next, unshown_here, unshown_end}
use Rattle.star_kinds.proofs.report.bad_sort.Goals as goal

pub returns-then-not-has_column : goal.returns-then-not-has_column
returns-then-not-has_column c =
    sym (unshown_here (λ sort. sort.column) c.args.declared.now c.loop-sort.line c.args.sorts.now
    c.loop-sort.sort-index _ c.loop-sort-test.true
    (sym c.has_column.ensures ∙ c.if-not-has_column.true))
    ∙ c.loop-sort.invariant.same

pub loop-sort-preserved : goal.loop-sort-preserved
loop-sort-preserved c = record {
  line = omega (arith, c.loop-sort.invariant.line);
  same = sym (unshown_next (λ sort. sort.column) c.args.declared.now c.loop-sort.line
      c.args.sorts.now c.loop-sort.sort-index _ c.loop-sort-test.true
      (sym c.has_column.ensures ∙ c.if-not-has_column.false))
      ∙ c.loop-sort.invariant.same;
}

pub returns : goal.returns
returns c =
    sym (unshown_end (λ sort. sort.column) c.args.declared.now c.loop-sort.line c.args.sorts.now
    c.loop-sort.sort-index c.loop-sort-test.false)
    ∙ c.loop-sort.invariant.same
