use Rattle.std.proofs.Common.{◌≡◌, ◌-◌, ◌≤◌, length, map, drop}
use Rattle.star_query.specs.Private.{Cut.cut_of, Cut.cut_from, Lexed.placed, Lexed.with_tokens}
use Rattle.star_query.proofs.lexer.tokens_of.Given as goal

abbrev pub invariant-loop-offset : goal.invariant-loop-offset
invariant-loop-offset l =
    record {
      cut : cut_of l.text
          ≡ with_tokens (map placed l.tokens.items) (cut_from l.offset 0 (drop l.offset l.text));
      within : l.offset ≤ length l.text;
    }

abbrev pub decreases-loop-offset : goal.decreases-loop-offset
decreases-loop-offset l = length l.text - l.offset
