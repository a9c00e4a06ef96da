use Rattle.std.{proofs.Common.{◌∙◌, ◌++◌, ap, length, map, refl, sym}, proofs.lemmas.Result.err_from_is_err_and, specs.List.flat_map}
use Rattle.star_merger.{specs.Partials.contents_of, specs.Private.Outcomes.{all_shown, groups_of}, proofs.Opened.program_is, proofs.Outcomes.{mapped, names_shown}}
use Rattle.star_merge.specs.Cells.{group_of}
use Rattle.star_merger.proofs.outcome.outcome_of.Goals as goal

pub returns-in-Ok-clause-merged : goal.returns-in-Ok-clause-merged
returns-in-Ok-clause-merged c = λ query is.
    let all = map contents_of c.args.partials.now in
    let shows = c.as_slice.ensures
    ∙ ap (λ parts. parts.shows) (c.parts.ensures.same
    ∙ program_is query c.merger.inside c.args.merger.now c.merger.view_is c.merger.invariant is) in
    let shown = ap (map (λ rows. rows.now)) c.deref-2.ensures.value
    ∙ c.in_ok-push_reports.ensures.shown
    ∙ ap (λ rows. map (λ rows. rows.now) rows ++ all_shown all) c.new-reports.ensures.items in
    record {
      usable = c.in_ok-push_reports.ensures.usable;
      names = c.in_ok-names.ensures ∙ ap (map (λ show. show.name)) shows
          ∙ names_shown is.p is.p.items;
      rows = λ shaped. c.in-Ok.ensures.merged query is (groups_of is.p all)
          (sym (mapped (λ rows. rows.now) (λ rows. map (group_of (length is.p.keys)) rows)
          c.deref-2.result.now
          ∙ ap (flat_map (λ rows. map (group_of (length is.p.keys)) rows)) shown)) shaped;
      visits = refl;
      lookups = c.in_ok-lookups.ensures.lookups;
      updates = c.in_ok-lookups.ensures.updates;
    }

pub returns-in_err-push_reports-clause-failed : goal.returns-in_err-push_reports-clause-failed
returns-in_err-push_reports-clause-failed c = λ query is.
    let q = err_from_is_err_and c.from_residual.result c.from_residual.ensures.1 in
    rw (q.1, q.2) (c.in_err-push_reports.ensures.failed is.p)

pub returns-in_err-lookups-clause-failed : goal.returns-in_err-lookups-clause-failed
returns-in_err-lookups-clause-failed c = λ query is.
    let failed = c.from_residual-in_err-lookups in
    let q = err_from_is_err_and failed.result failed.ensures.1 in
    rw (q.1, q.2) (c.in_err-lookups.ensures.failed is.p)

pub returns-clause-failed : goal.returns-clause-failed
returns-clause-failed c = λ query is.
    let all = map contents_of c.args.partials.now in
    let shown = ap (map (λ rows. rows.now)) c.deref-2.ensures.value
    ∙ c.in_ok-push_reports.ensures.shown
    ∙ ap (λ rows. map (λ rows. rows.now) rows ++ all_shown all) c.new-reports.ensures.items in
    rw c.fault_at.ensures (λ room.
    let memory = c.in-Err-Overflow.ensures.small query is (groups_of is.p all)
    (sym (mapped (λ rows. rows.now) (λ rows. map (group_of (length is.p.keys)) rows)
    c.deref-2.result.now
    ∙ ap (flat_map (λ rows. map (group_of (length is.p.keys)) rows)) shown)) room.totals in
    cc (memory, c.in-Err-Overflow.field-0-is))
