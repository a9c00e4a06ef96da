use Rattle.std.proofs.Common.{◌≡◌, ◌≤◌, false, true, drop}
use Rattle.star_query.specs.Private.{Cut.ending_after, Lexed.ended_at}
use Rattle.star_query.proofs.lexer.end_of_text.Given as goal

abbrev pub invariant-loop-i : goal.invariant-loop-i
invariant-loop-i l =
    record {
      ending : ending_after false l.text
          ≡ ended_at l.i (ending_after l.quote (drop l.i l.text));
      behind : l.quote ≡ true → 1 ≤ l.i;
    }
