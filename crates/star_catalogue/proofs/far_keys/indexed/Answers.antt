use Rattle.std.{proofs.Common.{◌≡◌, ◌∙◌, ◌<◌, ◌++◌, ◌∷◌, [], Bool, pos, true, false, not, FitsSigned, w64, get_or, length, take, refl, sym, ap, inr, rules, to_z-of_z}, proofs.lemmas.Cmp.int_eq_equiv, proofs.lemmas.List.take_all, proofs.lemmas.Option.slice_get-get_or, specs.List.list_any, specs.Option.option_map, specs.Ordering.int_eq}
use Rattle.star_catalogue.{specs.declared.fault.LoadFault.TheVariants.DuplicateKey, proofs.Copies.copied_more, proofs.Repeats.{new_more, none_yet_repeats, repeats_first}}
use Rattle.star_catalogue.proofs.far_keys.indexed.Goals as goal

was_there : (b : Bool) → false ≡ not b → b ≡ true
was_there true e = refl
was_there false e = cc

was_new : (b : Bool) → true ≡ not b → b ≡ false
was_new true e = cc
was_new false e = refl

pub loop-index-init : goal.loop-index-init
loop-index-init c = record {
  keys = c.in_ok-rows.ensures.empty;
  none = none_yet_repeats int_eq int_eq_equiv c.args.keys.now;
}

pub returns-then-not-is_new : goal.returns-then-not-is_new
returns-then-not-is_new c =
    let keys = c.args.keys.now in
    let index = c.loop-index.index in
    let within : index < length keys = c.loop-index-test.true in
    let key = get_or keys index (pos 0) in
    let fits : FitsSigned w64 key = search rules in
    let added : c.in_ok-is_new.is_new ≡ not (list_any (int_eq key) (take index keys)) =
    rw (to_z-of_z fits, c.loop-index.invariant.keys) at c.in_ok-is_new.ensures.added in
    let there = was_there (list_any (int_eq key) (take index keys))
    (sym c.if-not-is_new.true ∙ added) in
    inr (ap (option_map (DuplicateKey c.args.table))
    (repeats_first int_eq int_eq_equiv keys index key c.loop-index.invariant.none
    (slice_get-get_or keys index (pos 0) within) there))

pub loop-index-preserved : goal.loop-index-preserved
loop-index-preserved c =
    let keys = c.args.keys.now in
    let index = c.loop-index.index in
    let within : index < length keys = c.loop-index-test.true in
    let key = get_or keys index (pos 0) in
    let fits : FitsSigned w64 key = search rules in
    let at = slice_get-get_or keys index (pos 0) within in
    let added : c.in_ok-is_new.is_new ≡ not (list_any (int_eq key) (take index keys)) =
    rw (to_z-of_z fits, c.loop-index.invariant.keys) at c.in_ok-is_new.ensures.added in
    let fresh = was_new (list_any (int_eq key) (take index keys))
    (sym c.if-not-is_new.false ∙ added) in
    let pushed : c.insert_full.new.self.keys ≡ take index keys ++ key ∷ [] =
    rw (to_z-of_z fits, c.loop-index.invariant.keys, fresh) at c.in_ok-is_new.ensures.keys in
    record {
      keys = copied_more keys (take index keys) c.insert_full.new.self.keys index key refl pushed
          at;
      none = new_more int_eq int_eq_equiv keys index key c.loop-index.invariant.none at fresh;
    }

pub returns : goal.returns
returns c =
    let whole = take_all c.loop-index.index c.args.keys.now c.loop-index-test.false in
    (c.loop-index.invariant.keys ∙ whole, rw whole at c.loop-index.invariant.none.unique)
