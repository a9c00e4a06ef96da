use Rattle.star_query.{specs.Private.Reads.spot_of, proofs.Queries.{folded_measure, counted_measure}}
use Rattle.star_query.proofs.parser.Parser.measure.Goals as goal

pub returns-in-Some-clause-reads : goal.returns-in-Some-clause-reads
returns-in-Some-clause-reads c =
    folded_measure c.args.function c.in-Some.fold (spot_of c.args.self.now)
    (spot_of c.folded.new.self) c.folded.result c.in-Some.is c.folded.ensures.reads

pub returns-in-None-clause-reads : goal.returns-in-None-clause-reads
returns-in-None-clause-reads c =
    counted_measure c.args.function (spot_of c.args.self.now) (spot_of c.counted.new.self)
    c.counted.result c.in-None.is c.counted.ensures.reads
