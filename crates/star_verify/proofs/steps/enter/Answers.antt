use Rattle.std.proofs.Common.{ap, arith, length, ◌∙◌}
use Rattle.star_verify.proofs.Common.{KnownRow, flag_at, known_in, nat_eq, with_entry, with_items_is, ◌||◌}
use Rattle.star_verify.proofs.steps.enter.Goals as goal

pub returns-clause-kept : goal.returns-clause-kept
returns-clause-kept c = λ w parts x keeps.
    let value = c.deref_mut-2.ensures.value in
    let learned = ap known_in c.deref_mut.ensures.value ∙ keeps.known in
    let registers = with_items_is c.args.state.now.registers c.learn.new.registers
    (omega (
      arith,
      c.learn.ensures.len,
      ap length c.deref_mut.ensures.value,
      c.args.state.now.registers.ok.0,
    )) in
    let flags = with_items_is c.args.state.now.written c.note.new.written
    (omega (arith, c.note.ensures.len, ap length value, c.args.state.now.written.ok.0)) in
    record {
      known = ap known_in registers ∙ c.learn.ensures.learned
          ∙ (λ i. with_entry (learned i) c.args.target (KnownRow c.args.table));
      earlier = record {
        written = ap flag_at flags ∙ c.note.ensures.state
            ∙ (λ i q. flag_at (value i) q || nat_eq c.args.target q)
            ∙ (λ i q. keeps.earlier.written i q || nat_eq c.args.target q);
        shares = keeps.earlier.shares;
        keys = keeps.earlier.keys;
      };
    }
