use Rattle.std.{proofs.Common.{◌≡◌, ◌∙◌, List, None, ◌∷◌, arith, map, refl, subst, sym, ℕ}, specs.List.All}
use Rattle.star_schema.specs.{Loadable.database_of, declared.table.TableId.TheVariants.Lineorder, Sizes.size_of}
use Rattle.star_partial.specs.Contents.{Contents, bounds_at}
use Rattle.star_merger.{specs.Partials.contents_of, specs.Merged.{IsOverlap, spans_of}, specs.Private.Checked.AreDisjointSpans, specs.Private.Outcomes.{HasRoom, IsUnmerged}, specs.Private.Shown.IsUsable, specs.Private.Written.IsMergedTelling, specs.TextShares.{all_contents, whole_texts}, proofs.JoinedFacts.are_facts, proofs.Opened.program_is, proofs.Room.has_room, proofs.Results.{as_noted, merged_as, none_fits, none_unmerged, not_checked, refused_after, unfit, unprinted, unprinted_same}, proofs.TextBytes.quote_some, proofs.TextParts.{all_dimensions, contents_same, disjoint_parts, own_shares, row_share, row_shares, whole_loadable}, proofs.Told.{count_moved, known_moved, loaded, parts_moved, quote_due, refusal_due, room_moved, shares_moved, telling_due, telling_moved, too_many_due, usable_moved, whole_rows}, proofs.Usable.usable, proofs.Whole.own_facts}
use Rattle.star_program.specs.World.{World}
use Rattle.star_safety.specs.Admissible.{first_refusal}
use Rattle.star_verify.specs.{Facts.AreFacts, Views.refusal_view}
use Rattle.star_world.specs.WorldOf.{world_of}
use Rattle.star_compile_laws.specs.Compiled.{compiled}
use Rattle.star_engine.specs.{Answered.change, Queries.IsQueryQuote, Queries.IsQueryRun, Queries.IsQueryRunError}
use Rattle.star_merger.proofs.merger.Merger.merge.Goals as goal

pub write_merged-requires : goal.write_merged-requires
write_merged-requires g c =
    rw (c.as_bytes.ensures.value ∙ c.in-Ok-quote_note.ensures) (quote_some c.from-rows.result)

pub write_refused-requires : goal.write_refused-requires
write_refused-requires g c =
    rw (c.as_bytes-in-Err-forecast.ensures.value ∙ c.in-Ok-quote_note.ensures)
    (quote_some c.from-rows.result)

pub returns-in-Err-clause-merged : goal.returns-in-Err-clause-merged
returns-in-Err-clause-merged g c =
    λ query hash texts share other shares others is are same moved distinct.
    let rows = c.args.limits.rows in
    let visits = c.args.limits.visits in
    let xs = share ∷ shares in
    let ys = other ∷ others in
    let whole = whole_texts texts ys in
    let own = own_shares rows visits texts query hash xs are in
    let are_ys = shares_moved rows visits texts query hash xs ys moved are in
    let count = count_moved rows visits texts query hash xs ys moved in
    not_checked (change g.S.Sink.contents g.S.Sink.is_failed c.args.out.now c.args.out.now)
    (change g.N.Sink.contents g.N.Sink.is_failed c.args.notes.now c.args.notes.now)
    (IsQueryQuote rows whole query) (IsQueryRun rows visits whole query)
    (IsQueryRunError rows visits whole query) rows
    (whole_rows rows visits texts query hash share shares are) c.args.is_distinct
    (spans_of (map contents_of c.args.partials.now)) c.in-Err.fault
    (λ fault is_many many.
    too_many_due rows visits texts query hash other others are_ys is.p is.meant
    fault is_many (omega (arith, count, many))) refl refl
    (c.in-Err.ensures hash (database_of texts) (row_share share) (row_shares shares)
    (same ∙ contents_same xs)
    (own_facts visits (database_of texts) query is.p is.meant (row_shares xs) own)
    (all_dimensions rows visits texts query hash xs c.args.partials.now are same))

pub returns-in-Ok-forecast-clause-merged : goal.returns-in-Ok-forecast-clause-merged
returns-in-Ok-forecast-clause-merged g c =
    λ query hash texts share other shares others is are same moved distinct.
    let rows = c.args.limits.rows in
    let visits = c.args.limits.visits in
    let xs = share ∷ shares in
    let ys = other ∷ others in
    let whole = whole_texts texts ys in
    let are_ys = shares_moved rows visits texts query hash xs ys moved are in
    let over = whole_rows rows visits texts query hash other others are_ys in
    let facts = c.in-Ok.facts in
    let all = map contents_of c.args.partials.now in
    let own = own_shares rows visits texts query hash xs are in
    let checked = c.in-Ok.ensures hash (database_of texts) (row_share share) (row_shares shares)
    (same ∙ contents_same xs)
    (own_facts visits (database_of texts) query is.p is.meant (row_shares xs) own)
    (all_dimensions rows visits texts query hash xs c.args.partials.now are same) in
    let known = known_moved rows visits texts query hash xs ys moved (size_of facts.sizes)
    (bounds_at facts.bounds) checked.known in
    let loads = whole_loadable rows visits texts query hash c.args.is_distinct other others are_ys
    (omega (arith, known.sizes Lineorder, checked.few)) distinct
    (λ not. parts_moved rows visits texts query hash xs ys moved
    (disjoint_parts rows visits texts query hash xs
    (subst (λ (all : List Contents). AreDisjointSpans (spans_of all)) same
    (checked.disjoint not)))) in
    let none : first_refusal (world_of over) visits (compiled is.p) ≡ None =
    subst (λ program. first_refusal (world_of over) visits program ≡ None)
    (program_is query c.self.inside c.args.self.now c.self.view_is c.self.invariant is)
    (c.in-Ok-forecast.ensures.accepted (world_of over)
    (are_facts over facts (omega arith) known)) in
    let loaded_ys = loaded rows visits texts query hash other others are_ys loads is.p is.meant in
    let fits = none_fits visits over query is.p is.meant
    (c.queries_that_fit_are_answered.ensures.accepted visits over query is.p loaded_ys is.meant)
    (c.admissible_programs_within_the_limit_are_not_refused.ensures (world_of over) visits
    (compiled is.p)) none in
    let own_ys = own_shares rows visits texts query hash ys are_ys in
    let usable_ys = usable visits (database_of texts) query is.p is.meant
    (row_shares ys) own_ys fits in
    let room = has_room visits (database_of texts) query is.p
    (row_shares ys) is.meant own_ys usable_ys
    loaded_ys (c.sound_rows_have_a_world.ensures over loaded_ys.sound) fits
    (omega (arith, known.sizes Lineorder)) in
    let count = c.from-rows.result in
    let note = c.as_bytes.result.now in
    let counted = c.from-rows.ensures ∙ known.sizes Lineorder in
    let quoted = c.as_bytes.ensures.value ∙ c.in-Ok-quote_note.ensures in
    merged_as (change g.S.Sink.contents g.S.Sink.is_failed c.args.out.now c.write_merged.new.out)
    (change g.N.Sink.contents g.N.Sink.is_failed c.args.notes.now c.write_merged.new.notes)
    (λ (quoted : List ℕ). quoted ≡ note) (IsQueryQuote rows whole query)
    (IsMergedTelling is.p all count note) (IsQueryRun rows visits whole query)
    (λ fault. ⊥) (IsQueryRunError rows visits whole query) (IsUnmerged is.p all)
    (IsOverlap c.args.is_distinct (spans_of all)) c.write_merged.result
    (λ text e. quote_due rows visits texts query hash other others are_ys loads is.p is.meant count
    note
    text counted quoted e)
    (λ run told. telling_due rows visits texts query hash other others are_ys loads is.p is.meant
    count note (all_contents ys) run refl counted quoted fits
    (telling_moved rows visits texts query hash xs ys moved is.p count note run
    (subst (λ all. IsMergedTelling is.p all count note run) same told)))
    (λ fault never. absurd never)
    (λ index fault other bad. absurd (none_unmerged is.p all
    (subst (All IsUsable) (sym same)
    (usable_moved rows visits texts query hash xs ys moved
    (subst (All IsUsable) (sym (contents_same ys)) usable_ys)))
    (subst (HasRoom is.p) (sym same)
    (room_moved rows visits texts query hash xs ys moved is.p
    (subst (HasRoom is.p) (sym (contents_same ys)) room))) index fault other bad))
    (c.write_merged.ensures.merged query is)

pub returns-clause-merged : goal.returns-clause-merged
returns-clause-merged g c = λ query hash texts share other shares others is are same moved distinct.
    let rows = c.args.limits.rows in
    let visits = c.args.limits.visits in
    let xs = share ∷ shares in
    let ys = other ∷ others in
    let whole = whole_texts texts ys in
    let are_ys = shares_moved rows visits texts query hash xs ys moved are in
    let over = whole_rows rows visits texts query hash other others are_ys in
    let facts = c.in-Ok.facts in
    let all = map contents_of c.args.partials.now in
    let own = own_shares rows visits texts query hash xs are in
    let checked = c.in-Ok.ensures hash (database_of texts) (row_share share) (row_shares shares)
    (same ∙ contents_same xs)
    (own_facts visits (database_of texts) query is.p is.meant (row_shares xs) own)
    (all_dimensions rows visits texts query hash xs c.args.partials.now are same) in
    let known = known_moved rows visits texts query hash xs ys moved (size_of facts.sizes)
    (bounds_at facts.bounds) checked.known in
    let loads = whole_loadable rows visits texts query hash c.args.is_distinct other others are_ys
    (omega (arith, known.sizes Lineorder, checked.few)) distinct
    (λ not. parts_moved rows visits texts query hash xs ys moved
    (disjoint_parts rows visits texts query hash xs
    (subst (λ (all : List Contents). AreDisjointSpans (spans_of all)) same
    (checked.disjoint not)))) in
    let laws = c.queries_that_fit_are_answered.ensures in
    let facts_known = are_facts over facts (omega arith) known in
    let note = c.as_bytes-in-Err-forecast.result.now in
    let out = change g.S.Sink.contents g.S.Sink.is_failed c.args.out.now c.args.out.now in
    let notes = change g.N.Sink.contents g.N.Sink.is_failed c.args.notes.now
    c.write_refused.new.notes in
    rw c.as_merge.ensures
    (as_noted out notes (IsQueryQuote rows whole query) (IsQueryRun rows visits whole query)
    (IsQueryRunError rows visits whole query) (IsOverlap c.args.is_distinct (spans_of all))
    c.write_refused.result
    (refused_after out notes (IsQueryQuote rows whole query) (IsQueryRun rows visits whole query)
    (IsQueryRunError rows visits whole query) note c.in-Err-forecast.refusal
    ((w : World) → AreFacts w facts
    → first_refusal w visits c.self.inside.program ≡ refusal_view c.in-Err-forecast.refusal)
    c.write_refused.result c.in-Err-forecast.ensures.refused
    (λ told not_memory. refusal_due rows visits texts query hash other others are_ys loads is.p
    is.meant
    c.in-Err-forecast.refusal
    (unfit visits over query is.p is.meant
    (laws.accepted visits over query is.p
    (loaded rows visits texts query hash other others are_ys loads is.p is.meant) is.meant)
    (c.admissible_programs_within_the_limit_are_not_refused.ensures (world_of over) visits
    (compiled is.p)) c.in-Err-forecast.refusal (laws.costly visits over is.p)
    (laws.wide visits over query is.p is.meant) (laws.first visits over query is.p is.meant)
    (subst (λ program. first_refusal (world_of over) visits program
    ≡ refusal_view c.in-Err-forecast.refusal)
    (program_is query c.self.inside c.args.self.now c.self.view_is c.self.invariant is)
    (told (world_of over) facts_known)) not_memory))
    refl
    (quote_due rows visits texts query hash other others are_ys loads is.p is.meant
    c.from-rows.result
    note note (c.from-rows.ensures ∙ known.sizes Lineorder)
    (c.as_bytes-in-Err-forecast.ensures.value ∙ c.in-Ok-quote_note.ensures) refl)
    c.write_refused.ensures))

pub returns-in-Err-clause-unprinted : goal.returns-in-Err-clause-unprinted
returns-in-Err-clause-unprinted g c =
    unprinted_same
    (change g.S.Sink.contents g.S.Sink.is_failed c.args.out.now c.args.out.now) c.in-Err.fault refl

pub returns-clause-unprinted : goal.returns-clause-unprinted
returns-clause-unprinted g c =
    unprinted (change g.S.Sink.contents g.S.Sink.is_failed c.args.out.now c.args.out.now)
    c.as_merge.result refl
