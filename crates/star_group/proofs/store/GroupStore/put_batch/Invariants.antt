use Rattle.star_group.proofs.Common.{◌≡◌, List, puts_after, put_in, Update}
use Rattle.star_group.proofs.store.GroupStore.put_batch.Given as goal

abbrev pub invariant-loop-row : goal.invariant-loop-row
invariant-loop-row g l = record {
  has : (puts : List Update) → g.Self.GroupStore.has l.fn.self puts
      → g.Self.GroupStore.has l.self (puts_after (put_in l.batch) puts l.row);
  group : g.Self.GroupStore.group l.self ≡ g.Self.GroupStore.group l.fn.self;
}
