use Rattle.star_group.proofs.{Common.{◌≡◌, ◌+◌, ◌++◌, refl, length-append, ◌∷◌, [], ◌∙◌, ap, arith, below_more, get_or, length, replicate, sym, get_or_append_left, get_or_default, length-replicate, get_or-append_seam, Count, Sum, cut, length-cut, neutral}, CutRows.{cut_append, cut_one, rows_long}}
use Rattle.star_group.proofs.array_store.making.blank_cells.Goals as goal

pub loop-aggregate-preserved : goal.loop-aggregate-preserved
loop-aggregate-preserved c =
    let ids = c.args.ids in
    let n = c.loop-aggregate.aggregate-index in
    let old = c.loop-aggregate.cells.items in
    let new = c.add_blank_column.new.cells.items in
    let row = replicate ids (neutral (get_or c.args.aggregates.now n Sum)) in
    let wide : length row ≡ ids = length-replicate ids _ in
    let is : new ≡ old ++ row = c.in_ok-add_blank_column.ensures in
    let rows : cut ids (n + 1) new ≡ cut ids n old ++ row ∷ [] =
    ap (cut ids (n + 1)) is
    ∙ cut_append ids 1 n (n + 1) old row refl c.loop-aggregate.invariant.len
    ∙ ap (λ r. cut ids n old ++ r) (cut_one ids row wide) in
    record {
      cells = below_more _ _
          (λ a h. ap (λ rs. get_or rs a []) rows
          ∙ get_or_append_left (cut ids n old) (row ∷ []) [] a
          (omega (arith, h, length-cut ids n old)) ∙ c.loop-aggregate.invariant.cells a h)
          (ap (λ rs. get_or rs n []) rows
          ∙ ap (λ m. get_or (cut ids n old ++ row ∷ []) m []) (sym (length-cut ids n old))
          ∙ get_or-append_seam (cut ids n old) row [] []
          ∙ ap (λ g. replicate ids (neutral g))
          (get_or_default c.args.aggregates.now n Sum Count c.loop-aggregate-test.true));
      len = omega (
        arith,
        ap length is,
        length-append old row,
        wide,
        c.loop-aggregate.invariant.len,
        rows_long ids n 1 (n + 1) refl,
      );
    }
