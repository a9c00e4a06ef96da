use Rattle.std.{proofs.Common.{◌≡◌, ◌≤◌, ◌<◌, ◌^◌, ◌-◌, ◌++◌, ◌∷◌, [], sym, ap, ◌∙◌, subst, length, arith}, proofs.lemmas.List.{length-map, length_push}, proofs.lemmas.List.Elements.All-push, specs.Int.RustNames.unsigned_abs, specs.List.All}
use Rattle.star_flat.{specs.Private.Ends.ends_of, specs.Repeated.indexes_in, proofs.EndsLemmas.{end_pushed, from_upto, same_ends}, proofs.ends.Ends.push.Goals.After-start_for}
use Rattle.star_flat.proofs.ends.Ends.push.Goals as goal

counted : (c : After-start_for) → c.len-count.result ≡ length (indexes_in c.self.inside.offsets)
counted c = c.len-count.ensures ∙ sym (length-map c.self.inside.offsets unsigned_abs)

-- the ends that there were stay
stay : (c : After-start_for)
    → ends_of c.start_for.new.starts.items (indexes_in c.self.inside.offsets)
    ≡ ends_of c.self.inside.starts.items (indexes_in c.self.inside.offsets)
stay c = grind (arith, same_ends, counted)

pub invariant_of-self : goal.invariant_of-self
invariant_of-self c = grind (arith, stay)

pub returns-in_err-from-clause-err : goal.returns-in_err-from-clause-err
returns-in_err-from-clause-err c = grind (arith, stay)

pub overflow_sub-end : goal.overflow_sub-end
overflow_sub-end c =
    from_upto c.self.inside.starts.items (indexes_in c.self.inside.offsets) c.args.start
    c.in_ok-from.from c.args.end c.requires.start
    (subst (All (λ e. e ≤ c.args.end)) (sym c.self.view_is) c.requires.after)
    (rw (counted (goal.at.overflow_sub-end c).After-start_for) at c.in_ok-from.ensures.kept)

pub invariant_of-self-in_err-push_index : goal.invariant_of-self-in_err-push_index
invariant_of-self-in_err-push_index c = grind (arith, stay)

pub returns-in_err-push_index-clause-err : goal.returns-in_err-push_index-clause-err
returns-in_err-push_index-clause-err c = grind (arith, stay)

-- the ends that there are now
now : (c : goal.In_ok-push_index)
    → ends_of c.start_for.new.starts.items (indexes_in c.push_index.new.rows)
    ≡ ends_of c.self.inside.starts.items (indexes_in c.self.inside.offsets) ++ c.args.end ∷ []
now c =
    let offsets = indexes_in c.self.inside.offsets in
    let olds = c.self.inside.starts.items in
    let news = c.start_for.new.starts.items in
    let many : c.len-count.result ≡ length offsets =
    c.len-count.ensures ∙ sym (length-map c.self.inside.offsets unsigned_abs) in
    let upto : c.in_ok-from.from ≤ c.args.end =
    from_upto olds offsets c.args.start c.in_ok-from.from c.args.end c.requires.start
    (subst (All (λ e. e ≤ c.args.end)) (sym c.self.view_is) c.requires.after)
    (rw many at c.in_ok-from.ensures.kept) in
    ap (ends_of news) c.in_ok-push_index.ensures.ok
    ∙ end_pushed olds news offsets c.in_ok-from.from c.args.end
    (λ index h. c.start_for.ensures.same index (omega (arith, h, many)))
    (rw many at c.in_ok-from.ensures.from) upto

pub returns-clause-ok : goal.returns-clause-ok
returns-clause-ok c = now c ∙ ap (λ es. es ++ c.args.end ∷ []) c.self.view_is

pub invariant_of-self-2 : goal.invariant_of-self-2
invariant_of-self-2 c =
    let offsets = indexes_in c.self.inside.offsets in
    let more = ap length c.in_ok-push_index.ensures.ok
    ∙ length_push offsets (c.args.end - c.in_ok-from.from) in (
      omega (
        arith,
        more,
        c.in_ok-from.ensures.more,
        c.len-count.ensures,
        length-map c.self.inside.offsets unsigned_abs,
        length-map c.push_index.new.rows unsigned_abs,
      ),
      subst (All (λ e. e < 2 ^ 64)) (sym (now c))
          (All-push (λ e. e < 2 ^ 64) (ends_of c.self.inside.starts.items offsets) c.args.end
          c.self.invariant.1 c.ranges.end.fits),
    )
