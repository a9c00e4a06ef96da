use Rattle.std.proofs.Common.{refl}
use Rattle.star_query.{specs.Private.Phrases.{cube, rollup}, specs.Private.Reads.spot_of, specs.Private.Clauses.ReadsGroups, proofs.Queries.{read_hiding, read_plain, bad_plain}, proofs.Descent.failed}
use Rattle.star_query.proofs.parser.Parser.groups.Goals as goal

pub returns-then-take : goal.returns-then-take
returns-then-take c =
    let old = spot_of c.args.self.now in
    read_hiding cube old old (spot_of c.take.new.self) (spot_of c.hidden.new.self) c.hidden.result
    refl c.if-take.ensures.taken c.hidden.ensures

pub returns-then-take-2 : goal.returns-then-take-2
returns-then-take-2 c =
    read_hiding rollup (spot_of c.args.self.now) (spot_of c.take.new.self)
    (spot_of c.take-2.new.self) (spot_of c.hidden-then-take-2.new.self)
    c.hidden-then-take-2.result c.if-take.ensures.other.1 c.if-take-2.ensures.taken
    c.hidden-then-take-2.ensures

pub returns : goal.returns
returns c =
    read_plain (spot_of c.args.self.now) (spot_of c.take.new.self) (spot_of c.take-2.new.self)
    (spot_of c.several.new.self) c.in_ok-columns.columns c.if-take.ensures.other
    c.if-take-2.ensures.other c.in_ok-columns.ensures.reads c.in_ok-columns.ensures.ends

pub returns-in_err-columns : goal.returns-in_err-columns
returns-in_err-columns c =
    failed (ReadsGroups (spot_of c.args.self.now) (spot_of c.several.new.self)) _ _
    c.from_residual.ensures.1 (bad_plain (spot_of c.args.self.now) (spot_of c.take.new.self)
    (spot_of c.take-2.new.self) (spot_of c.several.new.self) _ c.if-take.ensures.other
    c.if-take-2.ensures.other c.in_err-columns.ensures.reads)
