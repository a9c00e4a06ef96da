use Rattle.std.proofs.Common.{◌∷◌, []}
use Rattle.star_query.{specs.declared.token.Digits.Digits, specs.Symbols.number, specs.Private.Reads.{spot_of, IsNumber, NoNumber, ReadsNumber}, proofs.Tokens.{no_number_there, token_counted, token_not_counted}, proofs.Descent.failed}
use Rattle.star_query.proofs.parser.Parser.counted_number.Goals as goal

pub returns-in_err-count-clause-reads : goal.returns-in_err-count-clause-reads
returns-in_err-count-clause-reads c =
    failed (ReadsNumber (c.args.part ∷ []) (spot_of c.args.self.now) (spot_of c.count.new.self)) _ _
    c.from_residual.ensures.1 (token_not_counted (λ (digits : Digits). number digits.value) ⊥
    IsNumber NoNumber (λ none. none) c.args.part (spot_of c.args.self.now)
    (spot_of c.count.new.self) _ (c.if-not-is_number.ensures.found) c.in_err-count.ensures)

pub returns-clause-reads : goal.returns-clause-reads
returns-clause-reads c =
    token_counted (λ (digits : Digits). number digits.value) ⊥ IsNumber NoNumber no_number_there
    c.args.part (spot_of c.args.self.now) (spot_of c.count.new.self) (spot_of c.number.new.self)
    c.number.result (c.if-not-is_number.ensures.found) c.in_ok-count.ensures
    c.number.ensures.reads
