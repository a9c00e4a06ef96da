use Rattle.std.proofs.Common.{ap, arith, length, sym, subst, ◌∙◌}
use Rattle.star_verify.proofs.{Common.{HasShares, IsFirst, both_none, flag_at, known_in, nat_eq, with_entry, with_items_is, ◌||◌}, CheckingInstructions.{first_found, second_found}}
use Rattle.star_verify.proofs.input.CheckInput.assign.Goals as goal

pub returns-in-Err-clause-checked : goal.returns-in-Err-clause-checked
returns-in-Err-clause-checked c = λ w x pending facts keeps placed marked.
    let known = ap known_in c.deref.ensures.value ∙ keeps.known in
    first_found c.args.position.at _ _ _ (c.in-Err.ensures x pending c.args.target known marked)

pub returns-in-Err-make-clause-checked : goal.returns-in-Err-make-clause-checked
returns-in-Err-make-clause-checked c = λ w x pending facts keeps placed marked.
    let shares : HasShares c.args.self.now.parts.now c.deref-in-Ok-2.result.now x =
    rw c.deref-in-Ok-2.ensures.value keeps.earlier.shares in
    subst (IsFirst c.overflow.result)
    (sym (second_found c.args.position.at _ _ _
    (c.in-Ok.ensures x pending c.args.target (ap known_in c.deref.ensures.value ∙ keeps.known)
    marked)
    (c.in-Err-make.ensures w x c.args.target facts
    (ap known_in c.deref-in-Ok.ensures.value ∙ keeps.known) shares))) (c.overflow.ensures w facts)

pub returns-in-Ok-make-clause-checked : goal.returns-in-Ok-make-clause-checked
returns-in-Ok-make-clause-checked c = λ w x pending facts keeps placed marked.
    let shares : HasShares c.args.self.now.parts.now c.deref-in-Ok-2.result.now x =
    rw c.deref-in-Ok-2.ensures.value keeps.earlier.shares in
    let made = c.in-Ok-make.ensures w x c.args.target facts
    (ap known_in c.deref-in-Ok.ensures.value ∙ keeps.known) shares in
    let value = c.deref_mut-in-Ok-make.ensures.value in
    let learned = ap known_in c.deref_mut.ensures.value ∙ keeps.known in
    let registers = with_items_is c.args.state.now.registers c.learn.new.registers
    (omega (
      arith,
      c.learn.ensures.len,
      ap length c.deref_mut.ensures.value,
      c.args.state.now.registers.ok.0,
    )) in
    let items = with_items_is c.args.state.now.written c.note.new.written
    (omega (arith, c.note.ensures.len, ap length value, c.args.state.now.written.ok.0)) in (
      both_none _ _ (c.in-Ok.ensures x pending c.args.target
          (ap known_in c.deref.ensures.value ∙ keeps.known) marked) made.1,
      record {
        known = ap known_in registers ∙ c.learn.ensures.learned
            ∙ (λ i. with_entry (learned i) c.args.target (made.0 i));
        earlier = record {
          written = ap flag_at items ∙ c.note.ensures.state
              ∙ (λ i q. flag_at (value i) q || nat_eq c.args.target q)
              ∙ (λ i q. keeps.earlier.written i q || nat_eq c.args.target q);
          shares = keeps.earlier.shares;
          keys = keeps.earlier.keys;
        };
      },
    )
