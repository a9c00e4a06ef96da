use Rattle.star_group.proofs.{Common.{◌≡◌, ◌≤◌, ◌+◌, ◌-◌, ◌∙◌, ap, arith, length, length-append, subst, sym, entries_of, listed_entries, IsRolledUp, NoneCoarser, RollsUp, first_finer, first_hidden, group_with}, Rolling.{next_none, room_there}}
use Rattle.star_group.proofs.deferred.coarser.add_coarser.Goals as goal

pub coarser_rows-requires-clause-room : goal.coarser_rows-requires-clause-room
coarser_rows-requires-clause-room c =
    let back : c.loop-index.index - 1 + 1 ≡ c.loop-index.index =
    omega (arith, c.loop-index-test.true) in
    rw back (room_there c.args.shape c.args.key_count c.args.aggregates.now c.loop-index.index
    (listed_entries c.args.rows.now) (listed_entries c.loop-index.rows)
    c.loop-index.invariant.below c.loop-index.invariant.rolls c.requires.room)

pub coarser_rows-requires-clause-none : goal.coarser_rows-requires-clause-none
coarser_rows-requires-clause-none c =
    let back : c.loop-index.index - 1 + 1 ≡ c.loop-index.index =
    omega (arith, c.loop-index-test.true) in
    c.loop-index.invariant.none (c.loop-index.index - 1) back

pub loop-index-preserved : goal.loop-index-preserved
loop-index-preserved c =
    let index = c.loop-index.index - 1 in
    let back : index + 1 ≡ c.loop-index.index = omega (arith, c.loop-index-test.true) in
    let below : index + 1 ≤ c.args.key_count = omega (arith, back, c.loop-index.invariant.below) in
    let es = listed_entries c.loop-index.rows in
    let fs = entries_of c.in_ok-made.made in
    let after = c.in_ok-append.ensures.rows in
    let from : c.first_finer-from.result ≡ first_finer c.args.shape (length es) =
    c.first_finer-from.ensures.first ∙ ap (first_finer c.args.shape) c.len-row_count.ensures in
    record {
      above = omega (arith, c.loop-index-test.true, c.loop-index.invariant.above);
      below = omega (arith, below);
      rolls = λ puts all few rolled.
          subst (λ xs. IsRolledUp (group_with c.args.shape c.args.key_count c.args.aggregates.now)
          index xs puts) (sym after)
          (c.in_ok-made.ensures.rows puts below few
          (subst (λ n. IsRolledUp (group_with c.args.shape c.args.key_count c.args.aggregates.now) n
          es puts) (sym back) (c.loop-index.invariant.rolls puts all few rolled)));
      width = c.append.ensures.width ∙ c.loop-index.invariant.width;
      many = c.append.ensures.aggregate_count ∙ c.loop-index.invariant.many;
      within = omega (
        arith,
        c.first_finer-from.ensures.within,
        c.len-row_count.ensures,
        ap length after,
        length-append es fs,
      );
      none = λ p next. subst (λ n. NoneCoarser c.args.shape c.args.key_count p n
          (listed_entries c.append.new.self)) (sym from)
          (subst (NoneCoarser c.args.shape c.args.key_count p
          (first_finer c.args.shape (length es)))
          (sym after)
          (next_none c.args.shape c.args.key_count c.args.aggregates.now index es fs
          (omega (arith, below))
          (rw back (room_there c.args.shape c.args.key_count c.args.aggregates.now
          c.loop-index.index (listed_entries c.args.rows.now) es c.loop-index.invariant.below
          c.loop-index.invariant.rolls c.requires.room)) p next));
    }

pub returns-clause-rows : goal.returns-clause-rows
returns-clause-rows c =
    let first = c.first_hidden-first.ensures in
    let end : c.loop-index.index ≡ first_hidden c.args.shape c.args.key_count =
    omega (arith, c.loop-index-test.false, c.loop-index.invariant.above, first.first) in
    subst (λ index. RollsUp c.args.shape c.args.key_count c.args.aggregates.now c.args.key_count
    (listed_entries c.args.rows.now) index (listed_entries c.loop-index.rows)) end
    c.loop-index.invariant.rolls
