use Rattle.std.proofs.Common.{◌∷◌, []}
use Rattle.star_query.{specs.Private.Phrases.ident, specs.Views.name_view, specs.Private.Reads.{spot_of, IsName, NoName, ReadsName}, proofs.Tokens.{no_name_there, token_counted, token_not_counted}, proofs.Descent.failed}
use Rattle.star_query.proofs.parser.Parser.counted_name.Goals as goal

pub returns-in_err-count-clause-reads : goal.returns-in_err-count-clause-reads
returns-in_err-count-clause-reads c =
    failed (ReadsName (c.args.part ∷ []) (spot_of c.args.self.now) (spot_of c.count.new.self)) _ _
    c.from_residual.ensures.1 (token_not_counted (λ n. ident (name_view n)) (Unit {0}) IsName NoName
    (λ none. none) c.args.part (spot_of c.args.self.now) (spot_of c.count.new.self) _
    (c.if-not-is_name.ensures.found) c.in_err-count.ensures)

pub returns-clause-reads : goal.returns-clause-reads
returns-clause-reads c =
    token_counted (λ n. ident (name_view n)) (Unit {0}) IsName NoName no_name_there c.args.part
    (spot_of c.args.self.now) (spot_of c.count.new.self) (spot_of c.name.new.self) c.name.result
    (c.if-not-is_name.ensures.found) c.in_ok-count.ensures c.name.ensures.reads
