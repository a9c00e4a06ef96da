use Rattle.std.proofs.Common.{◌≡◌, List, map, refl, ℕ}
use Rattle.star_merger.{specs.Partials.contents_of, specs.Private.Outcomes.IsUnmerged, specs.Private.Written.{IsMergedTelling, run_text_of}, proofs.Results.{as_noted, not_merged, noted_unprinted, unprinted_same}}
use Rattle.star_engine.{specs.Answered.change, specs.WithNotes.RunText, proofs.NotedAs.noted_as}
use Rattle.star_merger.proofs.merges.write_merged.Goals as goal

pub returns-in-Ok-clause-merged : goal.returns-in-Ok-clause-merged
returns-in-Ok-clause-merged g c = λ query is.
    let out = change g.S.Sink.contents g.S.Sink.is_failed c.args.out.now c.write_outcome.new.out in
    let notes = change g.N.Sink.contents g.N.Sink.is_failed c.args.notes.now
    c.write_outcome.new.notes in
    let all = map contents_of c.args.partials.now in
    let IsQuote = λ (quoted : List ℕ). quoted ≡ c.args.note.now in
    let IsTold = IsMergedTelling is.p all c.args.rows c.args.note.now in
    rw c.as_merge.ensures
    (as_noted out notes IsQuote IsTold (λ fault. ⊥) (IsUnmerged is.p all) c.write_outcome.result
    (noted_as out notes IsQuote IsQuote
    (λ (run : RunText). run ≡ run_text_of c.args.note.now c.in-Ok.outcome) IsTold
    (λ fault. ⊥) (λ fault. ⊥) c.write_outcome.result (λ quoted is. is)
    (λ run same.
    record { outcome = c.in-Ok.outcome; merged = c.in-Ok.ensures.merged query is; told = same })
    (λ fault never. never) c.write_outcome.ensures))

pub returns-in-Err-clause-merged : goal.returns-in-Err-clause-merged
returns-in-Err-clause-merged g c = λ query is.
    let all = map contents_of c.args.partials.now in
    not_merged
    (change g.S.Sink.contents g.S.Sink.is_failed c.args.out.now c.args.out.now)
    (change g.N.Sink.contents g.N.Sink.is_failed c.args.notes.now c.args.notes.now)
    (λ (quoted : List ℕ). quoted ≡ c.args.note.now)
    (IsMergedTelling is.p all c.args.rows c.args.note.now)
    (λ fault. ⊥) is.p all c.in-Err.fault refl refl
    (c.in-Err.ensures.failed query is)

pub returns-in-Ok-clause-unprinted : goal.returns-in-Ok-clause-unprinted
returns-in-Ok-clause-unprinted g c =
    rw c.as_merge.ensures
    (noted_unprinted
    (change g.S.Sink.contents g.S.Sink.is_failed c.args.out.now c.write_outcome.new.out)
    (change g.N.Sink.contents g.N.Sink.is_failed c.args.notes.now c.write_outcome.new.notes)
    (λ (quoted : List ℕ). quoted ≡ c.args.note.now)
    (λ (run : RunText). run ≡ run_text_of c.args.note.now c.in-Ok.outcome)
    c.write_outcome.result c.write_outcome.ensures)

pub returns-in-Err-clause-unprinted : goal.returns-in-Err-clause-unprinted
returns-in-Err-clause-unprinted g c =
    unprinted_same
    (change g.S.Sink.contents g.S.Sink.is_failed c.args.out.now c.args.out.now) c.in-Err.fault refl
