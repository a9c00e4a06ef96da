use Rattle.std.proofs.Common.{◌≡◌, ◌∙◌, ◌+◌, take, sym, arith, true≢false}
use Rattle.star_flat.{specs.Private.Codes.different, specs.Private.Order.numbered_texts, proofs.CodesKept.{code_here, put_again, put_new, some_put}, proofs.Pushed.pushed_before, proofs.coding.put_next.Goals.{then-not-repeats+in_ok-put_text, else-not-repeats}}
use Rattle.star_flat.proofs.coding.put_next.Goals as goal

pub returns-clause-put : goal.returns-clause-put
returns-clause-put c =
    let texts = c.args.texts.now in
    let ordered = c.args.ordered.now in
    elim c.if-not-repeats.branch [
      | then-not-repeats+in_ok-put_text w ↦
          rw w.put-is
          (put_new texts ordered c.requires.ordered c.args.index c.requires.within c.args.put.now
          w.put_text.new.put c.requires.put
          (λ h. true≢false (sym (c.repeats.ensures.1 h) ∙ w.if-not-repeats.true))
          w.in_ok-put_text.ensures.ok)
      | else-not-repeats w ↦
          let same = c.repeats.ensures.0 w.if-not-repeats.false in
          rw w.put-is
          (put_again texts ordered c.requires.ordered c.args.index c.requires.within c.args.put.now
          c.requires.put same.0 same.1)
    ]

pub overflow_sub-result : goal.overflow_sub-result
overflow_sub-result c =
    let texts = c.args.texts.now in
    let ordered = c.args.ordered.now in
    let made : c.if-not-repeats.put
    ≡ different (take (c.args.index + 1) (numbered_texts texts ordered)) =
    elim c.if-not-repeats.branch [
      | then-not-repeats+in_ok-put_text w ↦
          rw w.put-is
          (put_new texts ordered c.requires.ordered c.args.index c.requires.within c.args.put.now
          w.put_text.new.put c.requires.put
          (λ h. true≢false (sym (c.repeats.ensures.1 h) ∙ w.if-not-repeats.true))
          w.in_ok-put_text.ensures.ok)
      | else-not-repeats w ↦
          let same = c.repeats.ensures.0 w.if-not-repeats.false in
          rw w.put-is
          (put_again texts ordered c.requires.ordered c.args.index c.requires.within c.args.put.now
          c.requires.put same.0 same.1)
    ] in
    let some = some_put texts ordered c.requires.ordered c.args.index c.requires.within
    c.if-not-repeats.put made in
    omega (arith, some, c.len.ensures)

pub returns-clause-kept : goal.returns-clause-kept
returns-clause-kept c code text at =
    grind (arith, then-not-repeats+in_ok-put_text, pushed_before, else-not-repeats)

pub returns-clause-code : goal.returns-clause-code
returns-clause-code c =
    let texts = c.args.texts.now in
    let ordered = c.args.ordered.now in
    let made : c.if-not-repeats.put
    ≡ different (take (c.args.index + 1) (numbered_texts texts ordered)) =
    elim c.if-not-repeats.branch [
      | then-not-repeats+in_ok-put_text w ↦
          rw w.put-is
          (put_new texts ordered c.requires.ordered c.args.index c.requires.within c.args.put.now
          w.put_text.new.put c.requires.put
          (λ h. true≢false (sym (c.repeats.ensures.1 h) ∙ w.if-not-repeats.true))
          w.in_ok-put_text.ensures.ok)
      | else-not-repeats w ↦
          let same = c.repeats.ensures.0 w.if-not-repeats.false in
          rw w.put-is
          (put_again texts ordered c.requires.ordered c.args.index c.requires.within c.args.put.now
          c.requires.put same.0 same.1)
    ] in
    rw c.len.ensures
    (code_here texts ordered c.requires.ordered c.args.index c.requires.within c.if-not-repeats.put
    made)
