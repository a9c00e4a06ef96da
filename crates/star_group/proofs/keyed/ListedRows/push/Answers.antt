use Rattle.star_group.proofs.{Common.{◌≡◌, ◌≤◌, ◌+◌, ◌++◌, ◌∙◌, ap, arith, length, rules, take, length-take-le, listed_entries, listed_keys}, CutRows.cut_one, ListedRows.{entries_more, keys_more, one_entry}}
use Rattle.star_group.proofs.keyed.ListedRows.push.Goals as goal

pub returns-clause-keys : goal.returns-clause-keys
returns-clause-keys c =
    let s = c.args.self.now in
    let key = c.args.key.now in
    let six : length key ≡ 6 = search rules in
    let few : s.width ≤ length key = omega (arith, six, s.few) in
    let keys : c.extend_from_slice.new.self.items ≡ s.keys.items ++ take s.width key =
    search rules in
    let more : c.in_ok-len.len ≡ s.len + 1 = search rules in
    keys_more s 1 (take s.width key) c.extend_from_slice.new.self.items keys c.in_ok-len.len more
    ∙ ap (λ ks. listed_keys s ++ ks)
    (cut_one s.width (take s.width key) (length-take-le s.width key few))

pub returns-clause-rows : goal.returns-clause-rows
returns-clause-rows c =
    let s = c.args.self.now in
    let key = c.args.key.now in
    let six : length key ≡ 6 = search rules in
    let few : s.width ≤ length key = omega (arith, six, s.few) in
    let keys : c.extend_from_slice.new.self.items ≡ s.keys.items ++ take s.width key =
    search rules in
    let cells : c.extend_from_slice-2.new.self.items ≡ s.cells.items ++ c.args.row.now =
    search rules in
    let more : c.in_ok-len.len ≡ s.len + 1 = search rules in
    entries_more s 1 (take s.width key) c.extend_from_slice.new.self.items c.args.row.now
    c.extend_from_slice-2.new.self.items keys cells c.in_ok-len.len more
    ∙ ap (λ es. listed_entries s ++ es)
    (one_entry s.width s.aggregate_count key c.args.row.now few c.requires.narrow c.requires.wide)
