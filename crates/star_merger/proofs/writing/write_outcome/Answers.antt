use Rattle.std.proofs.{Common.{◌≡◌, ◌∙◌, Err, List, ap, refl, ℕ}, lemmas.Result.err_from_is_err_and}
use Rattle.star_engine.{specs.Answered.change, specs.WithNotes.RunText, proofs.Noting.{delivered, note_broken}}
use Rattle.star_merger.specs.Private.Written.{run_text_of}
use Rattle.star_merger.proofs.writing.write_outcome.Goals as goal

pub returns-in_err-write_note : goal.returns-in_err-write_note
returns-in_err-write_note g c =
    let p = err_from_is_err_and c.from_residual.result c.from_residual.ensures.1 in
    let told = c.in_err-write_note.ensures in
    note_broken (change g.S.Sink.contents g.S.Sink.is_failed c.args.out.now c.args.out.now)
    (change g.N.Sink.contents g.N.Sink.is_failed c.args.notes.now c.write_note.new.notes)
    (λ (quoted : List ℕ). quoted ≡ c.args.note.now)
    (λ (run : RunText). run ≡ run_text_of c.args.note.now c.args.outcome.now)
    (λ fault. ⊥) c.args.note.now c.from_residual.result
    (p.1 ∙ ap Err (p.2 ∙ told.0)) refl told.1 refl

pub returns : goal.returns
returns g c =
    delivered (change g.S.Sink.contents g.S.Sink.is_failed c.args.out.now c.write_run.new.out)
    g.N.Sink.contents g.N.Sink.is_failed c.args.notes.now c.write_note.new.notes
    c.write_run.new.notes (λ (quoted : List ℕ). quoted ≡ c.args.note.now)
    (λ (run : RunText). run ≡ run_text_of c.args.note.now c.args.outcome.now)
    (λ fault. ⊥) (run_text_of c.args.note.now c.args.outcome.now) c.write_run.result refl refl
    c.in_ok-write_note.ensures c.write_run.ensures
