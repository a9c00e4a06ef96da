use Rattle.std.proofs.Common.{◌≡◌, ◌∙◌, ◌↔◌, IsTrue, subst}
use Rattle.star_query.{specs.Symbols.{spelling, lowered}, proofs.Lexing.spelled}
use Rattle.star_query.proofs.lexer.is_spelled.Goals as goal

pub returns : goal.returns
returns c =
    let e : c.as_bytes-spelling.result.now ≡ spelling c.args.reserved =
    c.as_bytes-spelling.ensures.value ∙ c.name.ensures in
    spelled c.args.reserved c.args.word.now c.eq_ignore_ascii_case.result
    (subst (λ xs. IsTrue c.eq_ignore_ascii_case.result ↔ (lowered xs ≡ lowered c.args.word.now))
    e c.eq_ignore_ascii_case.ensures.test)
