use Rattle.std.proofs.Common.{refl, rules}
use Rattle.star_words.proofs.Arguments.{all_added, next_added, none_yet}
use Rattle.star_words.proofs.request.arguments_of.Goals as goal

pub loop-word-init : goal.loop-word-init
loop-word-init c = none_yet _ _ (search rules) (search rules) refl refl

pub loop-word-preserved : goal.loop-word-preserved
loop-word-preserved c =
    next_added c.args.words.now c.loop-word.word-index c.word-item.result c.as_str.result.now
    c.loop-word.arguments c.add.new.self c.loop-word-test.true c.word-item.is
    c.as_str.ensures.value c.loop-word.invariant c.in_ok-add.ensures

pub returns : goal.returns
returns c =
    all_added c.args.words.now c.loop-word.word-index c.loop-word.arguments c.loop-word-test.false
    c.loop-word.invariant
