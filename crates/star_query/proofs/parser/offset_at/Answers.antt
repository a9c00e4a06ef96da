use Rattle.std.proofs.Common.{◌∙◌, sym, ap}
use Rattle.star_query.{specs.declared.token.Token.Token, proofs.Offsets.some_offset}
use Rattle.star_query.proofs.parser.offset_at.Goals as goal

pub returns-then-passed-tokens : goal.returns-then-passed-tokens
returns-then-passed-tokens c =
    ap (λ (t : Token). t.offset) (sym c.index-tokens-passed.is)
    ∙ some_offset c.args.tokens.now c.args.passed c.args.end c.index-tokens-passed.result
    c.if-passed-tokens.true c.index-tokens-passed.is
