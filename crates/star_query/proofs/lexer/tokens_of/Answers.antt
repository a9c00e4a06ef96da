use Rattle.std.proofs.{Common.{◌≡◌, ◌∙◌, ◌+◌, [], ◌∷◌, ◌++◌, sym, ap, subst, arith, map, List, drop}, lemmas.List.map-append}
use Rattle.star_query.{specs.Symbols.Placed, specs.Private.Lexed.{front_piece, placed, symbol_of, with_tokens}, specs.Private.Cut.{cut_of, cut_from, token}, proofs.Lexing.{one_more_token, one_more_blank, first_bad, all_cut, fault_of_cut}}
use Rattle.star_query.proofs.lexer.tokens_of.Goals as goal

pub loop-offset-preserved-in-Blank : goal.loop-offset-preserved-in-Blank
loop-offset-preserved-in-Blank c =
    record {
      cut = one_more_blank c.args.text.now c.loop-offset.offset
          (map placed c.loop-offset.tokens.items)
          c.loop-offset.invariant.cut
          (sym (c.in-Blank.ensures.same
          ∙ ap (front_piece c.loop-offset.offset) c.split_at.ensures.back));
      within = omega arith;
    }

pub loop-offset-preserved : goal.loop-offset-preserved
loop-offset-preserved c =
    let offset = c.loop-offset.offset in
    let front : front_piece offset (drop offset c.args.text.now)
    ≡ token (symbol_of c.in-Token.kind offset) c.in-Token.width =
    sym (c.in-Token.ensures.same ∙ ap (front_piece offset) c.split_at.ensures.back) in
    let items : map placed c.push.new.self.items
    ≡ map placed c.loop-offset.tokens.items
    ++ record { symbol = symbol_of c.in-Token.kind offset; offset = offset } ∷ [] =
    ap (map placed) c.in_ok-push-in-Token.ensures.items
    ∙ map-append placed c.loop-offset.tokens.items _ in
    record {
      cut = subst (λ (ts : List Placed).
          cut_of c.args.text.now ≡ with_tokens ts
          (cut_from (offset + c.in-Token.width) 0 (drop
          (offset + c.in-Token.width) c.args.text.now)))
          (sym items) (one_more_token c.args.text.now offset
          (map placed c.loop-offset.tokens.items) _
          c.in-Token.width c.loop-offset.invariant.cut front c.in-Token.ensures.within.0);
      within = omega (arith, c.in-Token.ensures.within.1, c.split_at.ensures.back_len);
    }

pub returns-in-Bad-clause-fault : goal.returns-in-Bad-clause-fault
returns-in-Bad-clause-fault c =
    let offset = c.loop-offset.offset in
    fault_of_cut c.args.text.now c.in-Bad.fault
    (first_bad c.args.text.now offset (map placed c.loop-offset.tokens.items) c.in-Bad.fault
    c.loop-offset.invariant.cut
    (sym (c.in-Bad.ensures.same ∙ ap (front_piece offset) c.split_at.ensures.back)))

pub returns-clause-found : goal.returns-clause-found
returns-clause-found c =
    all_cut c.args.text.now c.loop-offset.offset (map placed c.loop-offset.tokens.items)
    c.loop-offset.invariant.cut c.loop-offset-test.false
