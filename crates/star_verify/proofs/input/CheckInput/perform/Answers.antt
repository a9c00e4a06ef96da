use Rattle.std.proofs.Common.{Ok, ap, arith, length, refl, sym, subst, ◌∙◌}
use Rattle.star_verify.proofs.{Common.{HasKeyShares, HasReason, HasShares, KeepsContext, Op, Put, VerifierState, after_op, code_of_steps, known_in, open_with, option_or, range_reason, source_reason, with_items, with_items_is}, Positions.written_same}
use Rattle.star_verify.proofs.input.CheckInput.perform.Goals as goal

pub returns-in-Put-clause-checked : goal.returns-in-Put-clause-checked
returns-in-Put-clause-checked c = λ w x pending facts keeps placed marked.
    let parts = c.args.self.now.parts.now in
    let items = with_items_is c.args.state.now.tallies c.put.new.tallies
    (omega (
      arith,
      c.put.ensures.len,
      ap length c.deref_mut-in-Put.ensures.value,
      c.args.state.now.tallies.ok.0,
    )) in
    let keys = with_items_is c.args.state.now.keys c.put_keys.new.tallies
    (omega (
      arith,
      c.put_keys.ensures.len,
      ap length c.deref_mut.ensures.value,
      c.args.state.now.keys.ok.0,
    )) in
    let key_shares : HasKeyShares parts c.deref_mut.result.now x =
    rw c.deref_mut.ensures.value keeps.earlier.keys in
    let shares : HasShares parts c.deref_mut-in-Put.result.now x =
    rw c.deref_mut-in-Put.ensures.value keeps.earlier.shares in
    let state : VerifierState = record {
      registers = c.args.state.now.registers;
      written = c.args.state.now.written;
      tallies = with_items c.args.state.now.tallies c.put.new.tallies;
      keys = with_items c.args.state.now.keys c.put_keys.new.tallies;
    } in
    let put = Put c.in-Put.group c.in-Put.keys c.in-Put.values in
    subst (λ (o : Op). HasReason (Ok tt) c.args.position.at
    (option_or (source_reason (open_with pending (code_of_steps c.args.rest.now)) x o)
    (range_reason w parts x o))
    (KeepsContext parts state (after_op w parts x o))) (sym c.in-Put.is) (
      refl,
      record {
        known = keeps.known;
        earlier = record {
          written = keeps.earlier.written ∙ sym (written_same x.written);
          shares = subst (λ ts. HasShares parts ts (after_op w parts x put)) (sym items)
              (c.put.ensures.shares w x c.in-Put.keys
              (ap known_in c.deref-in-Put.ensures.value ∙ keeps.known) placed.met shares);
          keys = subst (λ ts. HasKeyShares parts ts (after_op w parts x put)) (sym keys)
              (c.put_keys.ensures.given w x c.in-Put.values
              (ap known_in c.deref.ensures.value ∙ keeps.known) placed.met key_shares);
        };
      },
    )
