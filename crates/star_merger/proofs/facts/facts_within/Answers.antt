use Rattle.std.proofs.Common.{arith}
use Rattle.star_schema.specs.declared.table.TableId.TheVariants.{Lineorder}
use Rattle.star_merger.proofs.JoinedFacts.{all_are}
use Rattle.star_merger.proofs.facts.facts_within.Goals as goal

pub returns-in_err-facts : goal.returns-in_err-facts
returns-in_err-facts c = λ database share shares same are.
    rw c.from_residual-in_err-facts.ensures
    (all_are database c.args.partials.now c.in_ok-first.more.now c.in_ok-first.first.now share
    shares _
    c.in_ok-first.ensures.cases.0 same (λ same.
    let many = c.in_err-facts.ensures database share shares same are in
    omega (arith, many)))

pub returns-then-facts-limits : goal.returns-then-facts-limits
returns-then-facts-limits c = λ database share shares same are.
    all_are database c.args.partials.now c.in_ok-first.more.now c.in_ok-first.first.now share shares
    _
    c.in_ok-first.ensures.cases.0 same (λ same.
    (c.in_ok-facts.ensures database share shares same are, c.if-facts-limits.true))

pub returns-else-facts-limits : goal.returns-else-facts-limits
returns-else-facts-limits c = λ database share shares same are.
    all_are database c.args.partials.now c.in_ok-first.more.now c.in_ok-first.first.now share shares
    _
    c.in_ok-first.ensures.cases.0 same (λ same.
    let has = c.in_ok-facts.ensures database share shares same are in
    omega (arith, has.sizes Lineorder, c.if-facts-limits.false))
