use Rattle.std.proofs.Common.{◌≡◌, ◌∙◌, ◌+◌, ◌-◌, ◌*◌, ◌<◌, ◌∷◌, ℕ, suc, ap, arith, drop, get_or, length, subst, sym, take}
use Rattle.star_verify.proofs.{Common.{AgreeUpTo, IsTally, IsTallyAt, Number, each_values, groupings, if◌then◌else◌, possible_values, world_of}, Firsts.first_and_others, RowLemmas.{groupings_few, groupings_more, groupings_some, one_more}}
use Rattle.star_verify.specs.Private.Rows as spec
use Rattle.star_verify.proofs.rows.Groupings.+rows_behind.Goals as goal

pub rows_behind-returns-in_default-clause-few : goal.rows_behind-returns-in_default-clause-few
rows_behind-returns-in_default-clause-few t c =
    let some = groupings_some (length c.args.keys.now) in
    omega (arith, c.rows.ensures.few, some)

pub rows_behind-overflow_add-result : goal.rows_behind-overflow_add-result
rows_behind-overflow_add-result t c =
    let e = ap length (first_and_others c.args.keys.now Number c.in-len1-up.len_at_least) in
    let left = length (take (length c.args.keys.now - 1) (drop 1 c.args.keys.now)) in
    let few = groupings_few left (omega (arith, e, c.requires.small)) in
    record { fits = omega (arith, few, c.rows_if-with_it.ensures.few, c.rows_if.ensures.few) }

pub rows_behind-returns-clause-few : goal.rows_behind-returns-clause-few
rows_behind-returns-clause-few t c =
    let e = ap length (first_and_others c.args.keys.now Number c.in-len1-up.len_at_least) in
    let left = length (take (length c.args.keys.now - 1) (drop 1 c.args.keys.now)) in
    let more = ap groupings (sym e) ∙ groupings_more left in
    omega (arith, more, c.rows_if-with_it.ensures.few, c.rows_if.ensures.few)

pub rows_behind-returns-clause-rows : goal.rows_behind-returns-clause-rows
rows_behind-returns-clause-rows t c = λ shares index lists tallied agree.
    let keys = c.args.keys.now in
    let u = c.args.self.now.updates in
    let s = c.args.self.now.shape in
    let front = c.args.front in
    let w = world_of c.args.self.now.catalogue.now in
    let e = first_and_others keys Number c.in-len1-up.len_at_least in
    let others = take (length keys - 1) (drop 1 keys) in
    let v = c.values.result in
    let rest = each_values w shares (suc index) others in
    let first = tallied 0 (omega (arith, c.in-len1-up.len_at_least)) in
    let tallies = c.args.self.now.tallies.now in
    let here : IsTallyAt tallies c.args.first (shares index) =
    subst (λ p. IsTallyAt tallies c.args.first (shares p))
    (let z : index + 0 ≡ index = omega arith in z)
    (subst (λ p. IsTallyAt tallies p (shares (index + 0)))
    (let z : c.args.first + 0 ≡ c.args.first = omega arith in z) first) in
    let is_tally = subst (λ tally. IsTally tally (shares index))
    (c.tally_at.ensures c.tally_at.result) (here c.tally_at.result) in
    let value : v ≡ possible_values w (shares index) (get_or keys 0 Number) =
    c.values.ensures.values (shares index) is_tally in
    let later : (k : ℕ) → k < length others
    → IsTallyAt tallies (c.args.first + 1 + k) (shares (suc index + k)) =
    λ k lt. subst (λ p. IsTallyAt tallies (c.args.first + 1 + k) (shares p))
    (let z : index + suc k ≡ suc index + k = omega arith in z)
    (subst (λ p. IsTallyAt tallies p (shares (index + suc k)))
    (let z : c.args.first + suc k ≡ c.args.first + 1 + k = omega arith in z)
    (tallied (suc k) (omega (arith, lt, ap length e)))) in
    let shown = c.rows_if-with_it.ensures.rows shares (suc index) (lists * v) later
    (c.shown-shown.ensures.lists lists agree)
    ∙ (λ i. if c.may_show-may_show.ensures i
    then spec.rows_behind u s (c.shown-shown.ensures.shown i) (c.shown-shown.ensures.hidden i)
    (lists * v) rest else 0) in
    let hidden = c.rows_if.ensures.rows shares (suc index) lists later
    (subst (λ f. AgreeUpTo f.lists lists) (sym c.hidden.ensures) agree)
    ∙ (λ i. if c.may_hide-may_hide.ensures i
    then spec.rows_behind u s (c.hidden.ensures i).has_shown (c.hidden.ensures i).has_hidden lists
    rest else 0) in
    (λ i. shown i + hidden i)
    ∙ sym (one_more u s front.has_shown front.has_hidden lists v rest c.requires.hides)
    ∙ ap (spec.rows_behind u s front.has_shown front.has_hidden lists)
    ((λ i. value i ∷ rest) ∙ ap (each_values w shares index) e)

pub rows_if-returns-then-may_be-clause-rows : goal.rows_if-returns-then-may_be-clause-rows
rows_if-returns-then-may_be-clause-rows t c = λ shares index lists tallied agree.
    let u = c.args.self.now.updates in
    let rest = each_values (world_of c.args.self.now.catalogue.now) shares index c.args.keys.now in
    let rows = spec.rows_behind u c.args.self.now.shape c.args.front.has_shown
    c.args.front.has_hidden lists rest in
    c.rows_behind.ensures.rows shares index lists tallied agree
    ∙ ap (λ b. if b then rows else 0) (sym c.if-may_be.true)
