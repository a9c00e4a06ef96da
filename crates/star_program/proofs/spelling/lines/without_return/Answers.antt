use Rattle.std.proofs.{Common.{◌≡◌, ◌==◌, ◌∙◌, ◌∷◌, ◌++◌, [], true, false, refl, sym}, lemmas.Bool.{eq-eqb, ne_eqb}}
use Rattle.star_program.proofs.Text.LineLemmas.{without_return-push}
use Rattle.star_program.proofs.spelling.lines.without_return.Goals as goal

pub returns-then-last-eq13 : goal.returns-then-last-eq13
returns-then-last-eq13 c =
    let at : c.args.line.now ≡ c.in-Some.front.now ++ c.in-Some.last.now ∷ [] =
    c.in-Some.ensures.cases.0 in
    let returned : (c.in-Some.last.now == 13) ≡ true =
    eq-eqb c.in-Some.last.now 13 c.if-last-eq13.true in
    rw at (sym (without_return-push c.in-Some.front.now c.in-Some.last.now ∙ rw returned refl))

pub returns-else-last-eq13 : goal.returns-else-last-eq13
returns-else-last-eq13 c =
    let at : c.args.line.now ≡ c.in-Some.front.now ++ c.in-Some.last.now ∷ [] =
    c.in-Some.ensures.cases.0 in
    let plain : (c.in-Some.last.now == 13) ≡ false =
    ne_eqb c.in-Some.last.now 13 c.if-last-eq13.false in
    rw at (sym (without_return-push c.in-Some.front.now c.in-Some.last.now ∙ rw plain refl))
