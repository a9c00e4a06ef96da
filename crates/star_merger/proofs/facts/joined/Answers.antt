use Rattle.std.proofs.Common.{◌≡◌, ◌+◌, refl, rules}
use Rattle.star_schema.specs.{declared.table.TableId.TheVariants.Lineorder, Sizes.size_of}
use Rattle.star_partial.specs.Contents.{bounds_at}
use Rattle.star_merger.proofs.JoinedFacts.{joined_are, joined_bounds, many_rows}
use Rattle.star_merger.proofs.facts.joined.Goals as goal

pub returns : goal.returns
returns c = λ database rows others h k.
    let partial = c.args.partial.now in
    let more = c.args.more.now in
    let joined = c.join_bounds-bounds.result in
    let sum : c.in_ok-rows.rows ≡ partial.sizes.lineorder + more.sizes.lineorder = search rules in
    joined_are database rows others (size_of partial.sizes) (size_of more.sizes)
    (size_of (record {
      date = partial.sizes.date;
      customer = partial.sizes.customer;
      supplier = partial.sizes.supplier;
      part = partial.sizes.part;
      lineorder = c.in_ok-rows.rows;
    })) (bounds_at partial.bounds) (bounds_at more.bounds) (bounds_at joined) h k
    (c.facts_are_made_of_those_of_parts.ensures database rows others
    (record { rows = partial.sizes.lineorder; bounds = bounds_at partial.bounds })
    (record { rows = more.sizes.lineorder; bounds = bounds_at more.bounds })
    (record { rows = h.sizes Lineorder; bounds = h.bounds })
    (record { rows = k.sizes Lineorder; bounds = k.bounds })) sum refl refl refl refl
    (joined_bounds partial.sizes.lineorder more.sizes.lineorder partial.bounds more.bounds joined
    c.join_bounds-bounds.ensures)

pub returns-in_err-rows : goal.returns-in_err-rows
returns-in_err-rows c = λ database rows others h k.
    let partial = c.args.partial.now in
    let more = c.args.more.now in
    rw c.from_residual.ensures
    (many_rows database rows others (size_of partial.sizes) (size_of more.sizes)
    (size_of partial.sizes) (bounds_at partial.bounds) (bounds_at more.bounds)
    (bounds_at partial.bounds) h k c.in_err-rows.ensures)
