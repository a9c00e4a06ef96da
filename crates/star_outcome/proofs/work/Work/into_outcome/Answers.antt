use Rattle.std.proofs.Common.{ap, map, ◌∙◌}
use Rattle.star_outcome.proofs.Reported.{to_report}
use Rattle.star_outcome.proofs.work.Work.into_outcome.Goals as goal

pub reported_rows-requires-clause-rows : goal.reported_rows-requires-clause-rows
reported_rows-requires-clause-rows g c = (
  c.requires.done.0.updates_of c.args.parts.now.report,
  to_report g.S.GroupStore.group g.S.GroupStore.has c.args.catalogue.now
      c.args.parts.now c.args.self c.requires.done.0 c.store_at.result c.in_ok-rows.rows
      c.requires.done.1 c.store_at.ensures c.in_ok-rows.ensures,
)

pub returns : goal.returns
returns g c = λ s done.
    let report = c.in_ok-reported_rows.ensures (s.updates_of c.args.parts.now.report)
    (to_report g.S.GroupStore.group g.S.GroupStore.has c.args.catalogue.now c.args.parts.now
    c.args.self s c.store_at.result c.in_ok-rows.rows done c.store_at.ensures
    c.in_ok-rows.ensures) in
    record {
      names = c.in_ok-names.ensures ∙ ap (map (λ show. show.name)) c.as_slice.ensures;
      rows = report.rows;
      reported = report.reported;
      cells = report.shown;
      visits = done.visits;
      lookups = done.lookups;
      updates = done.updates;
    }
