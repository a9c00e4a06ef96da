use Rattle.std.{proofs.Common.{◌≡◌, map}, specs.List.range_with_len}
use Rattle.star_outcome.specs.Private.Leads.{led_at}
use Rattle.star_outcome.proofs.outcome.leads.all_led.Given as goal

abbrev pub invariant-loop-number : goal.invariant-loop-number
invariant-loop-number l = l.all.items ≡ map (led_at l.sorts l.rows) (range_with_len 0 l.number)
