use Rattle.std.proofs.Common.{sym, ap, ◌∙◌, arith}
use Rattle.star_program.specs.ShowLines.{has_column}
use Rattle.star_kinds.proofs.Lines.{unshown_next, unshown_here, unshown_end}
use Rattle.star_kinds.proofs.report.bad_show.Goals as goal

pub returns-then-not-has_column : goal.returns-then-not-has_column
returns-then-not-has_column c =
    let none = ap (λ show. has_column c.args.declared.now show.column) (sym c.show-item.is)
    ∙ sym c.has_column.ensures ∙ c.if-not-has_column.true in
    sym (unshown_here (λ show. show.column) c.args.declared.now c.loop-show.line c.args.shows.now
    c.loop-show.show-index c.show-item.result c.loop-show-test.true none)
    ∙ c.loop-show.invariant.same

pub loop-show-preserved : goal.loop-show-preserved
loop-show-preserved c =
    let has = ap (λ show. has_column c.args.declared.now show.column) (sym c.show-item.is)
    ∙ sym c.has_column.ensures ∙ c.if-not-has_column.false in
    record {
      line = omega (arith, c.loop-show.invariant.line);
      same = sym (unshown_next (λ show. show.column) c.args.declared.now c.loop-show.line
          c.args.shows.now c.loop-show.show-index c.show-item.result c.loop-show-test.true has)
          ∙ c.loop-show.invariant.same;
    }

pub returns : goal.returns
returns c =
    sym (unshown_end (λ show. show.column) c.args.declared.now c.loop-show.line c.args.shows.now
    c.loop-show.show-index c.loop-show-test.false)
    ∙ c.loop-show.invariant.same
