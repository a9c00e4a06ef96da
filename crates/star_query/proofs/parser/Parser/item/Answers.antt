use Rattle.std.proofs.Common.{subst, Ok, Option}
use Rattle.star_query.{specs.Private.Reads.spot_of, specs.Private.Clauses.{ReadsFunction, ReadsItem}, specs.declared.clauses.Function.Function, proofs.Queries.{read_item_name, bad_item_aggregate}, proofs.Descent.failed}
use Rattle.star_query.proofs.parser.Parser.item.Goals as goal

pub returns-in_ok-name-in-None-clause-reads : goal.returns-in_ok-name-in-None-clause-reads
returns-in_ok-name-in-None-clause-reads c =
    let none = subst (λ (o : Option Function).
    ReadsFunction (spot_of c.args.self.now) (spot_of c.take_function.new.self) (Ok o))
    c.in-None.is c.in_ok-function.ensures.reads in
    read_item_name (spot_of c.args.self.now) (spot_of c.take_function.new.self)
    (spot_of c.counted_name.new.self) c.in_ok-name-in-None.name none.1
    c.in_ok-name-in-None.ensures.reads

pub returns-in_err-aggregate-in-Some-clause-reads :
    goal.returns-in_err-aggregate-in-Some-clause-reads
returns-in_err-aggregate-in-Some-clause-reads c =
    let some = subst (λ (o : Option Function).
    ReadsFunction (spot_of c.args.self.now) (spot_of c.take_function.new.self) (Ok o))
    c.in-Some.is c.in_ok-function.ensures.reads in
    failed (ReadsItem (spot_of c.args.self.now) (spot_of c.aggregate.new.self)) _ _
    c.from_residual-in_err-aggregate-in-Some.ensures.1 (bad_item_aggregate (spot_of c.args.self.now)
    (spot_of c.take_function.new.self) (spot_of c.aggregate.new.self) c.in-Some.function _ some
    c.in_err-aggregate-in-Some.ensures.reads)
