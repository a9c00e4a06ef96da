use Rattle.std.proofs.{Common.get_or, lemmas.Option.slice_get-get_or}
use Rattle.star_schema.specs.{declared.column.ColumnId.TheVariants.DDatekey, declared.column.TheConstants.COLUMNS}
use Rattle.star_catalogue.proofs.ReferredRows.{of_one_more}
use Rattle.star_catalogue.proofs.referred.Referred.build.Goals as goal

pub loop-column-preserved : goal.loop-column-preserved
loop-column-preserved c =
    let i = c.loop-column.column-index in
    of_one_more (get_or COLUMNS i DDatekey) c.in-Some.found c.push.new.self.items
    c.loop-column.invariant c.in_ok-push-in-Some.ensures.items
    (slice_get-get_or COLUMNS i DDatekey c.loop-column-test.true)
    (rw c.in-Some.is at c.in_ok-found.ensures)
