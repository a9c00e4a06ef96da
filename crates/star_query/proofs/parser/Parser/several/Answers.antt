use Rattle.std.proofs.Common.{◌∙◌, ◌∷◌, ◌++◌, [], ap, arith}
use Rattle.star_query.{specs.Private.Reads.spot_of, proofs.Tokens.shorter, proofs.Queries.comma_passed, proofs.Descent.failed}
use Rattle.star_query.proofs.parser.Parser.several.Goals as goal

pub loop-self-init : goal.loop-self-init
loop-self-init g c =
    record {
      reads = g.met.L.Listing.is_list.first (spot_of c.args.self.now) (spot_of c.read.new.parser)
          c.in_ok-first.first c.push.new.self
          (c.in_ok-push.ensures.items
          ∙ ap (λ l. l ++ c.in_ok-first.first ∷ []) c.new-several.ensures.items)
          c.in_ok-first.ensures.reads;
      shorter = c.in_ok-first.ensures.shorter;
    }

pub loop-self-preserved : goal.loop-self-preserved
loop-self-preserved g c =
    let rest = shorter c.loop-self.self c.take.new.self _ _ c.loop-self-test.ensures.taken in
    record {
      reads = g.met.L.Listing.is_list.next (spot_of c.args.self.now) (spot_of c.loop-self.self)
          (spot_of c.take.new.self) (spot_of c.read-in-loop-self.new.parser) c.loop-self.several
          c.push-in-loop-self.new.self c.in_ok-next.next c.loop-self.invariant.reads
          c.in_ok-push-2.ensures.items (comma_passed _ _ c.loop-self-test.ensures.taken)
          c.in_ok-next.ensures.reads;
      shorter = omega (arith, rest, c.in_ok-next.ensures.shorter, c.loop-self.invariant.shorter);
    }

pub returns-in_err-first-clause-reads : goal.returns-in_err-first-clause-reads
returns-in_err-first-clause-reads g c =
    failed (g.L.Listing.ReadsAll (spot_of c.args.self.now) (spot_of c.read.new.parser)) _ _
    c.from_residual.ensures.1 (g.met.L.Listing.is_list.bad_first (spot_of c.args.self.now)
    (spot_of c.read.new.parser) _ c.in_err-first.ensures.reads)

pub returns-in_err-next-clause-reads : goal.returns-in_err-next-clause-reads
returns-in_err-next-clause-reads g c =
    failed (g.L.Listing.ReadsAll (spot_of c.args.self.now) (spot_of c.read-in-loop-self.new.parser))
    _ _ c.from_residual-in_err-next.ensures.1 (g.met.L.Listing.is_list.bad_next
    (spot_of c.args.self.now) (spot_of c.loop-self.self) (spot_of c.take.new.self)
    (spot_of c.read-in-loop-self.new.parser) c.loop-self.several _ c.loop-self.invariant.reads
    (comma_passed _ _ c.loop-self-test.ensures.taken) c.in_err-next.ensures.reads)
