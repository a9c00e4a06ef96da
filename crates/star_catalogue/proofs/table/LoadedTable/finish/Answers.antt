use Rattle.std.proofs.Common.{◌∙◌, ap}
use Rattle.star_reader.{specs.Columns.Table, proofs.Law.table_complete, proofs.PassedOn.passed_on}
use Rattle.star_catalogue.proofs.table.LoadedTable.finish.Goals as goal

pub returns-in_err-loaded : goal.returns-in_err-loaded
returns-in_err-loaded c = λ most text given.
    let read = c.in_ok-raw.ensures most text given in
    passed_on _ _ _ c.in_err-loaded.ensures c.from_residual-in_err-loaded.ensures.1
    (λ repeat. rw (table_complete c.args.table most text read.0)
    (rw (read.1, read.2) at repeat))

pub returns : goal.returns
returns c = λ most text given.
    let read = c.in_ok-raw.ensures most text given in
    let kept = c.in_ok-loaded.ensures in
    let same = c.in_ok-new.ensures.ok ∙ kept.0 in (
      read.0,
      ap (λ (t : Table). t.table) same ∙ read.1,
      ap (λ (t : Table). t.rows) same ∙ read.2,
      rw (read.1, read.2) at kept.1,
    )
