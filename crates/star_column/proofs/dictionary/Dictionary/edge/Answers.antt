use Rattle.std.proofs.Common.{◌≡◌, ◌∙◌, ◌<◌, ◌≤◌, ◌+◌, ◌-◌, ◌/◌, [], List, ℕ, ap, sym, arith, true, false}
use Rattle.star_schema.specs.Dictionary.{text_cmp}
use Rattle.star_column.{specs.Private.Edge.is_after, proofs.Edges.IsPartitionedBy-is_after, proofs.Fronts.{test_at, found_above, found_below, found_end}}
use Rattle.star_column.proofs.dictionary.Dictionary.edge.Goals as goal

pub loop-low-preserved-then-is_after : goal.loop-low-preserved-then-is_after
loop-low-preserved-then-is_after c =
    let p = λ (other : List ℕ). is_after c.args.edge (text_cmp other c.args.text.now) in
    let texts = c.args.self.now in
    let parts = IsPartitionedBy-is_after c.args.edge c.args.text.now texts
    (rw c.self.view_is at c.self.invariant.1) in
    let middle = c.loop-low.low + (c.loop-low.high - c.loop-low.low) / 2 in
    let within : middle < c.loop-low.high = omega (arith, c.loop-low-test.true) in
    let before : p c.get.result.now ≡ true =
    ap (is_after c.args.edge) (sym c.cmp.ensures) ∙ sym c.is_after.ensures
    ∙ c.if-is_after.true in
    found_above p texts c.loop-low.low c.loop-low.high middle parts c.loop-low.invariant within
    (test_at p texts middle c.get.result.now true (rw c.self.view_is at c.get.ensures) before)

pub loop-low-preserved : goal.loop-low-preserved
loop-low-preserved c =
    let p = λ (other : List ℕ). is_after c.args.edge (text_cmp other c.args.text.now) in
    let texts = c.args.self.now in
    let parts = IsPartitionedBy-is_after c.args.edge c.args.text.now texts
    (rw c.self.view_is at c.self.invariant.1) in
    let middle = c.loop-low.low + (c.loop-low.high - c.loop-low.low) / 2 in
    let from : c.loop-low.low ≤ middle = omega arith in
    let within : middle < c.loop-low.high = omega (arith, c.loop-low-test.true) in
    let behind : p c.get.result.now ≡ false =
    ap (is_after c.args.edge) (sym c.cmp.ensures) ∙ sym c.is_after.ensures
    ∙ c.if-is_after.false in
    found_below p texts c.loop-low.low c.loop-low.high middle parts c.loop-low.invariant from within
    (test_at p texts middle c.get.result.now false (rw c.self.view_is at c.get.ensures) behind)

pub returns : goal.returns
returns c =
    let p = λ (other : List ℕ). is_after c.args.edge (text_cmp other c.args.text.now) in
    let texts = c.args.self.now in
    let parts = IsPartitionedBy-is_after c.args.edge c.args.text.now texts
    (rw c.self.view_is at c.self.invariant.1) in
    found_end p texts c.loop-low.low c.loop-low.high
    [] parts c.loop-low.invariant c.loop-low-test.false
