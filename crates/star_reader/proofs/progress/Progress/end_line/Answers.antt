use Rattle.std.proofs.Common.{inr, sym, ◌∙◌, [], refl}
use Rattle.star_schema.specs.Schema.{kinds_of}
use Rattle.star_reader.proofs.{OpenRows.end_faulty, OpenRows.end_marked, OpenRows.ended, OpenRows.open_start, PassedOn.passed_on, TableSteps.whole}
use Rattle.star_reader.proofs.progress.Progress.end_line.Goals as goal

pub returns-then-is_marked : goal.returns-then-is_marked
returns-then-is_marked c = λ table bytes stands inner full within.
    inr (end_marked table c.args.most c.args.self.now bytes stands
    (sym c.is_marked.ensures ∙ c.if-is_marked.true))

pub returns-in_err-rows : goal.returns-in_err-rows
returns-in_err-rows c = λ table bytes stands inner full within.
    let begun = open_start table c.args.most c.args.self.now.rows c.bytes.result.now
    c.args.columns.now full within in
    passed_on _ _ _
    (rw c.bytes.ensures at (c.in_err-rows.ensures table c.args.self.now.rows _ _ [] begun))
    c.from_residual.ensures.1
    (end_faulty table c.args.most c.args.self.now bytes _ stands inner
    (sym c.is_marked.ensures ∙ c.if-is_marked.false))

pub returns : goal.returns
returns c = λ table bytes stands inner full within.
    let begun = open_start table c.args.most c.args.self.now.rows c.bytes.result.now
    c.args.columns.now full within in
    ended table c.args.most c.args.self.now _ bytes c.args.columns.now c.add_row.new.columns stands
    inner (sym c.is_marked.ensures ∙ c.if-is_marked.false) within
    (whole (rw c.bytes.ensures at (c.in_ok-rows.ensures table c.args.self.now.rows _ _ [] begun)))
    (c.clear.ensures (kinds_of table)) refl
