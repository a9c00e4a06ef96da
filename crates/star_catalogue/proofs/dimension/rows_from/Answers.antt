use Rattle.std.{proofs.Common.{◌≡◌, ◌≢◌, ◌∙◌, ◌<◌, ◌-ℤ◌, ◌≤ℤ◌, ℕ, List, pos, FitsSigned, Some, w64, get_or, length, set, sym, ap, inr, arith, rules, to_z-of_z, length-set}, proofs.lemmas.Bool.Decides.nat_tests, proofs.lemmas.Cmp.int_eq_equiv, proofs.lemmas.Int.ints, proofs.lemmas.List.Elements.All-get_or, proofs.lemmas.Option.slice_get-get_or, specs.Int.RustNames.unsigned_abs, specs.List.slice_get, specs.Option.option_map, specs.Ordering.int_eq}
use Rattle.star_catalogue.{specs.declared.fault.LoadFault.TheVariants.DuplicateKey, specs.Private.Indexes.dense_at, proofs.Dense.{free, none_yet, put, taken}, proofs.Repeats.{all_inserted, inserted_before, inserted_more, nothing_inserted}}
use Rattle.star_catalogue.proofs.dimension.rows_from.Goals as goal

pub loop-index-init : goal.loop-index-init
loop-index-init c =
    let least = c.args.least in
    let rows = c.in_ok-rows.rows.items in
    let fits : FitsSigned w64 least = search rules in
    record {
      len = omega (arith, c.in_ok-rows.ensures.len, c.in_ok-rows.rows.ok.0);
      inserted = rw to_z-of_z
          (nothing_inserted int_eq int_eq_equiv c.args.keys.now (dense_at least rows)
          (none_yet least rows c.args.span
          (c.in_ok-rows.ensures.items_if_clones_equal (λ y e. cc))));
    }

-- what was read at a slot
read_at : (rows : List ℕ) (slot at row : ℕ) → slot ≡ at → at < length rows
    → row ≡ get_or rows slot row → slice_get rows at ≡ Some row
read_at rows slot at row is within read =
    slice_get-get_or rows at row within
    ∙ ap Some (sym (read ∙ ap (λ n. get_or rows n row) is))

pub returns-then-index : goal.returns-then-index
returns-then-index c =
    let least = c.args.least in
    let keys = c.args.keys.now in
    let index = c.loop-index.index in
    let rows = c.loop-index.rows.items in
    let within : index < length keys = c.loop-index-test.true in
    let key = get_or keys index (pos 0) in
    let fits_least : FitsSigned w64 least = search rules in
    let fits_key : FitsSigned w64 key = search rules in
    let above : least ≤ℤ key =
    All-get_or (λ k. least ≤ℤ k) keys index (pos 0) within c.requires.least in
    let slot : c.abs_diff-slot.result ≡ unsigned_abs (key -ℤ least) = omega (arith, ints) in
    let inside : unsigned_abs (key -ℤ least) < c.args.span =
    All-get_or (λ k. unsigned_abs (k -ℤ least) < c.args.span) keys index (pos 0) within
    c.requires.within in
    let room : unsigned_abs (key -ℤ least) < length rows =
    omega (arith, inside, c.loop-index.invariant.len) in
    let at : slice_get rows (unsigned_abs (key -ℤ least)) ≡ Some c.index.result.now =
    read_at rows c.abs_diff-slot.result (unsigned_abs (key -ℤ least)) c.index.result.now slot room
    c.index.ensures in
    let some : c.index.result.now ≢ 4294967295 = λ e. grind (arith, nat_tests) in
    inr (ap (option_map (DuplicateKey c.args.table))
    (inserted_before int_eq int_eq_equiv keys index c.index.result.now key (dense_at least rows)
    (rw (to_z-of_z fits_least) at c.loop-index.invariant.inserted)
    (slice_get-get_or keys index (pos 0) within)
    (taken least rows key c.index.result.now above at some)))

pub loop-index-preserved : goal.loop-index-preserved
loop-index-preserved c =
    let least = c.args.least in
    let keys = c.args.keys.now in
    let index = c.loop-index.index in
    let rows = c.loop-index.rows.items in
    let within : index < length keys = c.loop-index-test.true in
    let key = get_or keys index (pos 0) in
    let fits_least : FitsSigned w64 least = search rules in
    let fits_key : FitsSigned w64 key = search rules in
    let above : least ≤ℤ key =
    All-get_or (λ k. least ≤ℤ k) keys index (pos 0) within c.requires.least in
    let inside : unsigned_abs (key -ℤ least) < c.args.span =
    All-get_or (λ k. unsigned_abs (k -ℤ least) < c.args.span) keys index (pos 0) within
    c.requires.within in
    let slot : c.abs_diff-slot.result ≡ unsigned_abs (key -ℤ least) = omega (arith, ints) in
    let room : unsigned_abs (key -ℤ least) < length rows =
    omega (arith, inside, c.loop-index.invariant.len) in
    let none : c.index.result.now ≡ 4294967295 = grind (arith, nat_tests) in
    let at : slice_get rows (unsigned_abs (key -ℤ least)) ≡ Some 4294967295 =
    read_at rows c.abs_diff-slot.result (unsigned_abs (key -ℤ least)) c.index.result.now slot room
    c.index.ensures
    ∙ ap Some none in
    record {
      len = simp length-set c.loop-index.invariant.len;
      inserted = rw (to_z-of_z fits_least, slot)
          (inserted_more int_eq int_eq_equiv keys index key (dense_at least rows)
          (dense_at least (set rows (unsigned_abs (key -ℤ least)) index))
          (rw (to_z-of_z fits_least) at c.loop-index.invariant.inserted)
          (slice_get-get_or keys index (pos 0) within) (free least rows key above at)
          (put least rows key index above room (omega (arith, within, c.requires.few))));
    }

pub returns : goal.returns
returns c =
    let fits : FitsSigned w64 c.args.least = search rules in
    all_inserted int_eq int_eq_equiv c.args.keys.now (dense_at c.args.least c.loop-index.rows.items)
    c.loop-index.index c.loop-index-test.false
    (rw (to_z-of_z fits) at c.loop-index.invariant.inserted)
