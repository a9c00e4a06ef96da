use Rattle.std.{proofs.Common.{◌≡◌, ◌∙◌, rules, ap}, specs.List.slice_get}
use Rattle.star_query.{specs.Private.Cut.sign_piece, proofs.Lexing.sign_at}
use Rattle.star_query.proofs.lexer.next_piece.Goals as goal

pub returns-else-first-eq39 : goal.returns-else-first-eq39
returns-else-first-eq39 c =
    let next : c.copied.result ≡ slice_get c.in-Some.rest.now 0 = search rules in
    record {
      same = sign_at c.args.offset c.in-Some.first.now c.in-Some.rest.now c.args.text.now _
          (c.sign.ensures.same ∙ ap (sign_piece c.args.offset c.in-Some.first.now) next)
          (search rules) (search rules) (search rules) (search rules) (search rules);
      within = search rules;
    }
