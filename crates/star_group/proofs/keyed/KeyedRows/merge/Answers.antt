use Rattle.star_group.proofs.{Common.{◌≡◌, ◌∙◌, [], get_or, length, rules, set, subst, sym, take, cut, entries_of, keys_in, unwrap_or, IsMerged, MergeStays, RowsStay, IsKeyFound}, KeyedRows.{merged_missing, number_within, row_held, set_held}}
use Rattle.star_group.proofs.keyed.KeyedRows.merge.Goals as goal

pub merge_at-requires-clause-within : goal.merge_at-requires-clause-within
merge_at-requires-clause-within c =
    let s = c.args.self.now in
    let key = c.args.key.now in
    let six : length key ≡ 6 = search rules in
    number_within s key six c.requires.narrow c.in-Held.number
    (subst (IsKeyFound s.listed.width (keys_in s) s.links.items (take s.listed.width key))
    c.in-Held.is c.find.ensures)

pub merge_at-requires-clause-stays : goal.merge_at-requires-clause-stays
merge_at-requires-clause-stays c =
    let s = c.args.self.now in
    let key = c.args.key.now in
    let gs = c.args.aggregates.now in
    let number = c.in-Held.number in
    let six : length key ≡ 6 = search rules in
    let held = subst (IsKeyFound s.listed.width (keys_in s) s.links.items
    (take s.listed.width key)) c.in-Held.is c.find.ensures in
    let here : get_or (cut (length gs) s.listed.len c.as_mut_slice.result.now) number []
    ≡ get_or (cut s.listed.aggregate_count s.listed.len s.listed.cells.items) number [] =
    λ i. get_or (cut (c.requires.fits.many i) s.listed.len (c.as_mut_slice.ensures.value i))
    number [] in
    subst (λ row. MergeStays gs row c.args.more.now) (sym here)
    (subst (λ found. RowsStay gs found c.args.more.now)
    (row_held s key six c.requires.narrow number held) c.requires.stays)

pub returns-in-Held-clause-ok : goal.returns-in-Held-clause-ok
returns-in-Held-clause-ok c =
    let s = c.args.self.now in
    let key = c.args.key.now in
    let gs = c.args.aggregates.now in
    let number = c.in-Held.number in
    let six : length key ≡ 6 = search rules in
    let held = subst (IsKeyFound s.listed.width (keys_in s) s.links.items
    (take s.listed.width key)) c.in-Held.is c.find.ensures in
    let here : get_or (cut (length gs) s.listed.len c.as_mut_slice.result.now) number []
    ≡ get_or (cut s.listed.aggregate_count s.listed.len s.listed.cells.items) number [] =
    λ i. get_or (cut (c.requires.fits.many i) s.listed.len (c.as_mut_slice.ensures.value i))
    number [] in
    let r = c.merge_at.ensures.rows in (
      r.0,
      subst (λ x. IsMerged gs (unwrap_or x []) c.args.more.now r.0)
          (sym (row_held s key six c.requires.narrow number held))
          (subst (λ row. IsMerged gs row c.args.more.now r.0) here r.1),
      set_held s key six c.requires.narrow number held r.0 c.merge_at.new.cells
          ((λ i. cut (sym c.requires.fits.many i) s.listed.len c.merge_at.new.cells) ∙ r.2
          ∙ (λ i. set (cut (c.requires.fits.many i) s.listed.len
          (c.as_mut_slice.ensures.value i)) number r.0))
          (c.merge_at.ensures.len ∙ c.as_mut_slice.ensures.len),
    )

pub returns-in-Missing-clause-ok : goal.returns-in-Missing-clause-ok
returns-in-Missing-clause-ok c =
    let s = c.args.self.now in
    let key = c.args.key.now in
    let six : length key ≡ 6 = search rules in
    merged_missing s key six c.requires.narrow c.in-Missing.node c.in-Missing.digit
    (subst (IsKeyFound s.listed.width (keys_in s) s.links.items (take s.listed.width key))
    c.in-Missing.is c.find.ensures) c.push.result c.args.aggregates.now c.args.more.now
    (entries_of c.push.new.self) c.requires.fits.many c.push.ensures.ok

pub returns-in-Missing-clause-enough : goal.returns-in-Missing-clause-enough
returns-in-Missing-clause-enough c = λ space. (c.push.ensures.space 0 space).0
