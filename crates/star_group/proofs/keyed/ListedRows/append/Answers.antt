use Rattle.star_group.proofs.{Common.{◌≡◌, ◌+◌, ◌*◌, ◌++◌, ◌∙◌, ap, arith, length, length-append, rules, sym, cut, keyed, listed_entries}, CutRows.rows_long, ListedRows.entries_more}
use Rattle.star_group.proofs.keyed.ListedRows.append.Goals as goal

pub invariant_of-self-2-clause-long_keys : goal.invariant_of-self-2-clause-long_keys
invariant_of-self-2-clause-long_keys c =
    let s = c.args.self.now in
    let more = c.args.more.now in
    let keys : c.extend_from_slice.new.self.items ≡ s.keys.items ++ c.as_slice.result.now =
    search rules in
    let len : c.in_ok-len.len ≡ s.len + more.len = search rules in
    omega (
      arith,
      ap length keys,
      length-append s.keys.items c.as_slice.result.now,
      ap length c.as_slice.ensures.value,
      s.long_keys,
      more.long_keys,
      ap (λ w. more.len * w) c.requires.width,
      rows_long s.width s.len more.len c.in_ok-len.len len,
    )

pub invariant_of-self-2-clause-long_cells : goal.invariant_of-self-2-clause-long_cells
invariant_of-self-2-clause-long_cells c =
    let s = c.args.self.now in
    let more = c.args.more.now in
    let cells : c.extend_from_slice-2.new.self.items ≡ s.cells.items ++ c.as_slice-2.result.now =
    search rules in
    let len : c.in_ok-len.len ≡ s.len + more.len = search rules in
    omega (
      arith,
      ap length cells,
      length-append s.cells.items c.as_slice-2.result.now,
      ap length c.as_slice-2.ensures.value,
      s.long_cells,
      more.long_cells,
      ap (λ w. more.len * w) c.requires.aggregate_count,
      rows_long s.aggregate_count s.len more.len c.in_ok-len.len len,
    )

pub returns-clause-rows : goal.returns-clause-rows
returns-clause-rows c =
    let s = c.args.self.now in
    let more = c.args.more.now in
    let keys : c.extend_from_slice.new.self.items ≡ s.keys.items ++ c.as_slice.result.now =
    search rules in
    let cells : c.extend_from_slice-2.new.self.items ≡ s.cells.items ++ c.as_slice-2.result.now =
    search rules in
    let len : c.in_ok-len.len ≡ s.len + more.len = search rules in
    entries_more s more.len c.as_slice.result.now c.extend_from_slice.new.self.items
    c.as_slice-2.result.now c.extend_from_slice-2.new.self.items keys cells c.in_ok-len.len len
    ∙ ap (λ es. listed_entries s ++ es)
    (λ i. keyed (cut (sym c.requires.width i) more.len (c.as_slice.ensures.value i))
    (cut (sym c.requires.aggregate_count i) more.len (c.as_slice-2.ensures.value i)))
