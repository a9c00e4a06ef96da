use Rattle.star_group.proofs.{Common.{Entry, ◌≡◌, ◌∙◌, Some, rules, ap, length, subst, sym, take, keys_in, IsKeyFound}, KeyedRows.{number_among, row_held, row_missing}, ListedRows.entry_at}
use Rattle.star_group.proofs.keyed.KeyedRows.found.Goals as goal

pub row-requires : goal.row-requires
row-requires c =
    let s = c.args.self.now in
    let key = c.args.key.now in
    let six : length key ≡ 6 = search rules in
    number_among s key six c.requires c.in-Held.number
    (subst (IsKeyFound s.listed.width (keys_in s) s.links.items (take s.listed.width key))
    c.in-Held.is c.find.ensures)

pub returns-in-Held-clause-row : goal.returns-in-Held-clause-row
returns-in-Held-clause-row c =
    let s = c.args.self.now in
    let key = c.args.key.now in
    let six : length key ≡ 6 = search rules in
    let held = subst (IsKeyFound s.listed.width (keys_in s) s.links.items
    (take s.listed.width key)) c.in-Held.is c.find.ensures in
    ap Some (c.row.ensures.row ∙ ap (λ (e : Entry). e.1) (entry_at s.listed c.in-Held.number
    (number_among s key six c.requires c.in-Held.number held)))
    ∙ sym (row_held s key six c.requires c.in-Held.number held)

pub returns-in-Missing-clause-row : goal.returns-in-Missing-clause-row
returns-in-Missing-clause-row c =
    let s = c.args.self.now in
    let key = c.args.key.now in
    let six : length key ≡ 6 = search rules in
    sym (row_missing s key six c.requires c.in-Missing.node c.in-Missing.digit
    (subst (IsKeyFound s.listed.width (keys_in s) s.links.items (take s.listed.width key))
    c.in-Missing.is c.find.ensures))
