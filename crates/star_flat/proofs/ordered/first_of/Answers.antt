use Rattle.std.proofs.{Common.◌<◌, Common.◌≤◌, Common.◌^◌, Common.sym, Common.arith, lemmas.List.Elements.All-from_get_or, Math.Nat.pow-le-pow_right, lemmas.Grind.pow_more}
use Rattle.star_flat.proofs.Keys.{byte_fits, digits_more, digits_none}
use Rattle.star_flat.proofs.ordered.first_of.Goals as goal

pub loop-index-init : goal.loop-index-init
loop-index-init c = record {
  value = sym (digits_none c.args.text.now);
  below = omega arith;
  bytes = All-from_get_or (λ byte. byte < 256) c.args.text.now 0
      (λ k h. (c.type_inv.text k).fits);
}

pub overflow_mul-digits : goal.overflow_mul-digits
overflow_mul-digits c = grind (arith, pow-le-pow_right)

pub overflow_add-digits : goal.overflow_add-digits
overflow_add-digits c = grind (arith, pow-le-pow_right, byte_fits)

pub loop-index-preserved : goal.loop-index-preserved
loop-index-preserved c = grind (arith, byte_fits, digits_more, pow_more)
