use Rattle.std.proofs.Common.{◌∙◌, refl}
use Rattle.star_query.{specs.Private.Reads.spot_of, specs.Private.Clauses.ReadsQuery, specs.Private.Lists.bad_along, proofs.Queries.{past, bad_from, read_query}, proofs.Descent.failed}
use Rattle.star_query.proofs.parser.Parser.query.Goals as goal

pub returns-in_err-items : goal.returns-in_err-items
returns-in_err-items c =
    failed (ReadsQuery (spot_of c.args.self.now) (spot_of c.several.new.self)) _ _
    c.from_residual-in_err-items.ensures.1 (bad_along _ (spot_of c.several.new.self) _ _
    (past _ _ c.in_ok-expect.ensures.reads refl) (c.in_err-items.ensures.reads tt tt))

pub returns-in_err-expect-2 : goal.returns-in_err-expect-2
returns-in_err-expect-2 c =
    failed (ReadsQuery (spot_of c.args.self.now) (spot_of c.expect-2.new.self)) _ _
    c.from_residual-in_err-expect-2.ensures.1 (bad_along _ (spot_of c.expect-2.new.self) _ _
    (past _ _ c.in_ok-expect.ensures.reads refl ∙ c.in_ok-items.ensures.reads.2 tt tt)
    (bad_from (spot_of c.several.new.self)
    (spot_of c.expect-2.new.self) c.in_ok-items.ensures.reads.0 _ c.in_ok-items.ensures.ends
    c.in_err-expect-2.ensures.reads))

pub returns-in_err-tables : goal.returns-in_err-tables
returns-in_err-tables c =
    failed (ReadsQuery (spot_of c.args.self.now) (spot_of c.several-2.new.self)) _ _
    c.from_residual-in_err-tables.ensures.1 (bad_along _ (spot_of c.several-2.new.self) _ _
    (past _ _ c.in_ok-expect.ensures.reads refl ∙ c.in_ok-items.ensures.reads.2 tt tt
    ∙ past _ _ c.in_ok-expect-2.ensures.reads refl) (c.in_err-tables.ensures.reads _ tt))

pub returns-in_err-condition : goal.returns-in_err-condition
returns-in_err-condition c =
    failed (ReadsQuery (spot_of c.args.self.now) (spot_of c.filter.new.self)) _ _
    c.from_residual-in_err-condition.ensures.1 (bad_along _ (spot_of c.filter.new.self) _ _
    (past _ _ c.in_ok-expect.ensures.reads refl ∙ c.in_ok-items.ensures.reads.2 tt tt
    ∙ past _ _ c.in_ok-expect-2.ensures.reads refl ∙ c.in_ok-tables.ensures.reads.2 _ tt)
    (c.in_err-condition.ensures (c.in_ok-items.ensures.reads.0, c.in_ok-tables.ensures.reads.0) tt))

pub returns-in_err-grouping : goal.returns-in_err-grouping
returns-in_err-grouping c =
    failed (ReadsQuery (spot_of c.args.self.now) (spot_of c.grouping.new.self)) _ _
    c.from_residual-in_err-grouping.ensures.1 (bad_along _ (spot_of c.grouping.new.self) _ _
    (past _ _ c.in_ok-expect.ensures.reads refl ∙ c.in_ok-items.ensures.reads.2 tt tt
    ∙ past _ _ c.in_ok-expect-2.ensures.reads refl ∙ c.in_ok-tables.ensures.reads.2 _ tt
    ∙ c.in_ok-condition.ensures.2 (c.in_ok-items.ensures.reads.0, c.in_ok-tables.ensures.reads.0)
    tt) (c.in_err-grouping.ensures _ tt))

pub returns-in_err-keys : goal.returns-in_err-keys
returns-in_err-keys c =
    failed (ReadsQuery (spot_of c.args.self.now) (spot_of c.keys.new.self)) _ _
    c.from_residual-in_err-keys.ensures.1 (bad_along _ (spot_of c.keys.new.self) _ _
    (past _ _ c.in_ok-expect.ensures.reads refl ∙ c.in_ok-items.ensures.reads.2 tt tt
    ∙ past _ _ c.in_ok-expect-2.ensures.reads refl ∙ c.in_ok-tables.ensures.reads.2 _ tt
    ∙ c.in_ok-condition.ensures.2 (c.in_ok-items.ensures.reads.0, c.in_ok-tables.ensures.reads.0) tt
    ∙ c.in_ok-grouping.ensures.2 _ tt) (c.in_err-keys.ensures _ tt))

pub returns-in_err-end : goal.returns-in_err-end
returns-in_err-end c =
    failed (ReadsQuery (spot_of c.args.self.now) (spot_of c.end.new.self)) _ _
    c.from_residual-in_err-end.ensures.1 (bad_along _ (spot_of c.end.new.self) _ _
    (past _ _ c.in_ok-expect.ensures.reads refl ∙ c.in_ok-items.ensures.reads.2 tt tt
    ∙ past _ _ c.in_ok-expect-2.ensures.reads refl ∙ c.in_ok-tables.ensures.reads.2 _ tt
    ∙ c.in_ok-condition.ensures.2 (c.in_ok-items.ensures.reads.0, c.in_ok-tables.ensures.reads.0) tt
    ∙ c.in_ok-grouping.ensures.2 _ tt ∙ c.in_ok-keys.ensures.2 _ tt) (c.in_err-end.ensures _ _))

pub returns : goal.returns
returns c =
    read_query (spot_of c.args.self.now) (spot_of c.expect.new.self) (spot_of c.several.new.self)
    (spot_of c.expect-2.new.self) (spot_of c.several-2.new.self) (spot_of c.filter.new.self)
    (spot_of c.grouping.new.self) (spot_of c.keys.new.self) (spot_of c.end.new.self)
    (record {
      items = c.in_ok-items.items;
      tables = c.in_ok-tables.tables;
      condition =
          c.in_ok-condition.condition;
      grouping = c.in_ok-grouping.grouping;
      keys =
          c.in_ok-keys.keys;
    }) tt c.in_ok-expect.ensures.reads c.in_ok-items.ensures.reads
    c.in_ok-expect-2.ensures.reads c.in_ok-tables.ensures.reads c.in_ok-condition.ensures
    c.in_ok-grouping.ensures c.in_ok-keys.ensures c.in_ok-end.ensures
