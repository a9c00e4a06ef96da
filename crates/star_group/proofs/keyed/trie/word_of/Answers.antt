use Rattle.star_group.proofs.{Common.{◌+◌, ◌∙◌, ap, arith, drop, sym, word_from}, Tries.{word_done, word_on}}
use Rattle.star_group.proofs.keyed.trie.word_of.Goals as goal

pub loop-index-preserved : goal.loop-index-preserved
loop-index-preserved c =
    let key = c.args.key.now in
    let l = c.loop-index in
    ap (λ w. word_from w (drop (l.index + 1) key)) c.word_with-word.ensures
    ∙ sym (word_on l.word key l.index c.loop-index-test.true) ∙ l.invariant

pub returns : goal.returns
returns c =
    let l = c.loop-index in
    sym (word_done l.word c.args.key.now l.index (omega (arith, c.loop-index-test.false)))
    ∙ l.invariant
