use Rattle.std.proofs.Common.{◌≡◌, ap, false, rules, subst, sym, ◌∙◌}
use Rattle.star_verify.proofs.{Common.{HasKeyShares, HasShares, at_first, flag_at, known_in, nothing_known, replicate}, Starting.{no_flags, no_key_shares, no_shares, nothing_in}}
use Rattle.star_verify.proofs.check.empty_state.Goals as goal

pub returns-clause-kept : goal.returns-clause-kept
returns-clause-kept c =
    let registers : c.in_ok-vec.field-0.items ≡ replicate c.args.parts.now.registers nothing_known =
    search rules in
    let flags : c.in_ok-vec-2.field-0.items ≡ replicate c.args.parts.now.registers false =
    search rules in
    let tallies : c.in_ok-vec-3.field-0.items ≡ replicate 64 c.none.result = search rules in
    let keys : c.in_ok-vec-4.field-0.items ≡ replicate 64 c.none-2.result = search rules in
    record {
      known = ap known_in registers ∙ nothing_in c.args.parts.now.registers;
      earlier = record {
        written = ap flag_at flags ∙ no_flags c.args.parts.now.registers;
        shares = subst (λ ts. HasShares c.args.parts.now ts at_first) (sym tallies)
            (no_shares c.args.parts.now c.none.result c.requires c.none.ensures.shares);
        keys = subst (λ ts. HasKeyShares c.args.parts.now ts at_first) (sym keys)
            (no_key_shares c.args.parts.now c.none-2.result c.requires c.none-2.ensures.shares);
      };
    }
