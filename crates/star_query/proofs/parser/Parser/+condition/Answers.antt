use Rattle.std.proofs.Common.{◌∙◌, arith}
use Rattle.star_query.{specs.Symbols.{sign, keyword}, specs.Private.Phrases.{lone_conj, lone_unit}, specs.Private.Machine.{unit_wanted, first_unit, first_conj}, specs.Private.Reads.{spot_of, verdict}, specs.declared.token.Sign.TheVariants.Open, specs.declared.token.Keyword.TheVariants.Not, proofs.Tokens.shorter, proofs.Descent.{opened, not_opened}, proofs.Filtering.{read_not, read_group, named_unit, one_more_unit, one_more_conj}}
use Rattle.star_query.proofs.parser.Parser.+condition.Goals as goal

pub conjunction-loop-self-init : goal.conjunction-loop-self-init
conjunction-loop-self-init t c =
    let r = c.in_ok-all.ensures.reads in
    record {
      reads = (lone_unit r.0, r.1, λ h q. r.2 (first_unit h) q);
      shorter =
          c.in_ok-all.ensures.shorter;
    }

pub condition-loop-self-init : goal.condition-loop-self-init
condition-loop-self-init t c =
    let r = c.in_ok-any.ensures.reads in
    record {
      reads = (lone_conj r.0, r.1, λ h q. r.2 (first_conj h) q);
      ends =
          c.in_ok-any.ensures.ends;
      shorter = c.in_ok-any.ensures.shorter;
    }

pub conjunction-loop-self-preserved : goal.conjunction-loop-self-preserved
conjunction-loop-self-preserved t c =
    let rest = shorter c.loop-self.self c.take.new.self _ _ c.loop-self-test.ensures.taken in
    record {
      reads = one_more_unit (λ h. verdict (spot_of c.args.self.now) (unit_wanted (first_unit h)))
          (spot_of c.loop-self.self) (spot_of c.take.new.self)
          (spot_of c.unit-in-loop-self.new.self) c.args.depth c.loop-self.all c.in_ok-next.next
          c.in_ok-all-2.all c.loop-self.invariant.reads c.loop-self-test.ensures.taken c.requires
          c.in_ok-all-2.ensures c.in_ok-next.ensures.reads;
      shorter = omega (arith, rest, c.in_ok-next.ensures.shorter, c.loop-self.invariant.shorter);
    }

pub condition-loop-self-preserved : goal.condition-loop-self-preserved
condition-loop-self-preserved t c =
    let rest = shorter c.loop-self.self c.take.new.self _ _ c.loop-self-test.ensures.taken in
    record {
      reads = one_more_conj (λ h.
          verdict (spot_of c.args.self.now) (unit_wanted (first_unit (first_conj h))))
          (spot_of c.loop-self.self) (spot_of c.take.new.self)
          (spot_of c.conjunction-in-loop-self.new.self) c.args.depth c.loop-self.any
          c.in_ok-next.next c.in_ok-any-2.any c.loop-self.invariant.reads
          c.loop-self-test.ensures.taken c.requires c.in_ok-any-2.ensures
          c.in_ok-next.ensures.reads;
      ends = c.in_ok-next.ensures.ends;
      shorter = omega (arith, rest, c.in_ok-next.ensures.shorter, c.loop-self.invariant.shorter);
    }

pub unit-returns-then-negated-clause-reads : goal.unit-returns-then-negated-clause-reads
unit-returns-then-negated-clause-reads t c =
    let o = opened (keyword Not) _ c.args.depth (spot_of c.args.self.now) (spot_of c.nest.new.self)
    c.in_ok-negated.negated c.if-negated.true c.in_ok-negated.ensures.reads in
    read_not (spot_of c.args.self.now) (spot_of c.nest.new.self) (spot_of c.unit.new.self)
    c.args.depth c.in_ok-inner.inner _ o.1 o.0 c.in_ok-new.ensures.ok
    c.in_ok-inner.ensures.reads

pub unit-returns-then-opened-clause-reads : goal.unit-returns-then-opened-clause-reads
unit-returns-then-opened-clause-reads t c =
    let n = not_opened (keyword Not) _ c.args.depth (spot_of c.args.self.now)
    (spot_of c.nest.new.self) c.in_ok-negated.negated c.if-negated.false
    c.in_ok-negated.ensures.reads in
    let o = opened (sign Open) _ c.args.depth (spot_of c.nest.new.self) (spot_of c.nest-2.new.self)
    c.in_ok-opened.opened c.if-opened.true c.in_ok-opened.ensures.reads in
    read_group (spot_of c.args.self.now) (spot_of c.nest.new.self) (spot_of c.nest-2.new.self)
    (spot_of c.condition.new.self) (spot_of c.expect.new.self) c.args.depth _ n.1 o.1 o.0
    c.in_ok-grouped.ensures.reads c.in_ok-expect.ensures.reads

pub unit-returns-clause-reads : goal.unit-returns-clause-reads
unit-returns-clause-reads t c =
    let n = not_opened (keyword Not) _ c.args.depth (spot_of c.args.self.now)
    (spot_of c.nest.new.self) c.in_ok-negated.negated c.if-negated.false
    c.in_ok-negated.ensures.reads in
    let o = not_opened (sign Open) _ c.args.depth (spot_of c.nest.new.self)
    (spot_of c.nest-2.new.self) c.in_ok-opened.opened c.if-opened.false
    c.in_ok-opened.ensures.reads in
    named_unit (spot_of c.args.self.now) (spot_of c.nest-2.new.self) (spot_of c.comparison.new.self)
    c.args.depth c.comparison.result (o.1 ∙ n.1) c.requires c.comparison.ensures.reads
