use Rattle.std.proofs.Common.{arith}
use Rattle.star_query.{specs.Symbols.sign, specs.Private.Phrases.{lone_factor, lone_term}, specs.Private.Machine.{factor_wanted, first_factor, first_term}, specs.Private.Reads.{spot_of, verdict}, specs.declared.token.Sign.TheVariants.Open, proofs.Tokens.shorter, proofs.Descent.{read_parens, one_more_factor, one_more_term, opened}}
use Rattle.star_query.proofs.parser.Parser.+expression.Goals as goal

pub expression-loop-sign-init : goal.expression-loop-sign-init
expression-loop-sign-init t c =
    let r = c.in_ok-sum.ensures.reads in
    record {
      reads = (lone_term r.0, r.1, λ h q. r.2 (first_term h) q);
      ends =
          c.in_ok-sum.ensures.ends;
      shorter = c.in_ok-sum.ensures.shorter;
    }

pub term-loop-self-init : goal.term-loop-self-init
term-loop-self-init t c =
    let r = c.in_ok-product.ensures.reads in
    record {
      reads = (lone_factor r.0, r.1, λ h q. r.2 (first_factor h) q);
      shorter =
          c.in_ok-product.ensures.shorter;
    }

pub expression-loop-sign-preserved : goal.expression-loop-sign-preserved
expression-loop-sign-preserved t c =
    let rest = shorter c.loop-sign.self c.take_any.new.self _ _ c.in-Some.ensures.taken in
    record {
      reads = one_more_term (λ h.
          verdict (spot_of c.args.self.now) (factor_wanted (first_factor (first_term h))))
          (spot_of c.loop-sign.self) (spot_of c.take_any.new.self) (spot_of c.term-in-Some.new.self)
          c.args.depth c.loop-sign.sum c.in_ok-next.next c.in_ok-sum-2.sum c.in-Some.sign
          c.loop-sign.invariant.reads c.in-Some.ensures.taken c.requires c.in_ok-sum-2.ensures
          c.in_ok-next.ensures.reads;
      ends = c.in_ok-next.ensures.ends;
      shorter = omega (arith, rest, c.in_ok-next.ensures.shorter, c.loop-sign.invariant.shorter);
    }

pub factor-returns-then-opened-clause-reads : goal.factor-returns-then-opened-clause-reads
factor-returns-then-opened-clause-reads t c =
    let o = opened (sign Open) _ c.args.depth (spot_of c.args.self.now) (spot_of c.nest.new.self)
    c.in_ok-opened.opened c.if-opened.true c.in_ok-opened.ensures.reads in
    read_parens (spot_of c.args.self.now) (spot_of c.nest.new.self) (spot_of c.expression.new.self)
    (spot_of c.expect.new.self) c.args.depth c.in_ok-inner.inner o.1 o.0
    c.in_ok-inner.ensures.reads c.in_ok-expect.ensures.reads

pub term-loop-self-preserved : goal.term-loop-self-preserved
term-loop-self-preserved t c =
    let rest = shorter c.loop-self.self c.take.new.self _ _ c.loop-self-test.ensures.taken in
    record {
      reads = one_more_factor (λ h.
          verdict (spot_of c.args.self.now) (factor_wanted (first_factor h)))
          (spot_of c.loop-self.self) (spot_of c.take.new.self)
          (spot_of c.factor-in-loop-self.new.self) c.args.depth c.loop-self.product
          c.in_ok-new.field-0.value c.in_ok-next.next c.in_ok-new-2.field-0.value
          c.loop-self.invariant.reads c.loop-self-test.ensures.taken c.requires
          c.in_ok-new.ensures.ok c.in_ok-new-2.ensures.ok c.in_ok-next.ensures.reads;
      shorter = omega (arith, rest, c.in_ok-next.ensures.shorter, c.loop-self.invariant.shorter);
    }
