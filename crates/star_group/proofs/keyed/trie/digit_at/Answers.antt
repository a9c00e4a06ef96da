use Rattle.star_group.proofs.{Common.{◌*◌, ◌/◌, ◌%◌, ◌^◌, ◌∙◌, ap, arith, length, rules}, Tries.{digit_of_part, digit_of_word}}
use Rattle.star_group.proofs.keyed.trie.digit_at.Goals as goal

pub returns-then-depth-lt32-clause-digit : goal.returns-then-depth-lt32-clause-digit
returns-then-depth-lt32-clause-digit c =
    ap (λ w. w / 2 ^ (2 * c.turn_at.result) % 4) c.requires.word
    ∙ digit_of_word (length c.args.key.now) c.args.key.now c.args.depth c.turn_at.result
    c.if-depth-lt32.true c.turn_at.ensures.turn

pub returns-else-depth-lt32-clause-digit : goal.returns-else-depth-lt32-clause-digit
returns-else-depth-lt32-clause-digit c = c.key_digit.ensures.digit
    ∙ digit_of_part (length c.args.key.now) c.args.key.now c.args.depth
    (λ low. omega (arith, low, c.if-depth-lt32.false))

pub overflow_sub-turn : goal.overflow_sub-turn
overflow_sub-turn c = search rules
