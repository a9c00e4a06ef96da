use Rattle.std.proofs.{Common.{◌≡◌, ◌+◌, ◌-◌, ◌∙◌, ◌∷◌, [], ℕ, append_assoc, arith, refl, sym}, lemmas.List.append-nil}
use Rattle.csv.specs.Records.{fields_of as fields_read}
use Rattle.star_reader.proofs.Fronts.{next_left, none_left, start_left}
use Rattle.star_reader.proofs.line.cut_fields.Goals as goal

pub returns : goal.returns
returns c =
    sym (append-nil _)
    ∙ rw (none_left c.args.line.now c.loop-at.at c.loop-at-test.false) at c.loop-at.invariant.all

pub loop-at-init : goal.loop-at-init
loop-at-init c = record {
  all = rw (c.new-fields.ensures.fields, start_left c.args.line.now) refl;
  ended = c.new-fields.ensures.partial;
}

pub loop-at-preserved : goal.loop-at-preserved
loop-at-preserved c =
    let at : ℕ = c.loop-at.at in
    let count : ℕ = c.front_len.result in
    let size : at + count - at ≡ count = omega arith in
    let next : at + count + 1 ≡ at + (count + 1) = omega arith in
    let left = next_left c.args.line.now at count c.loop-at-test.true
    (rw c.from.ensures at c.front_len.ensures) in
    record {
      all = rw (c.in_ok-push_field.ensures.fields, c.loop-at.invariant.ended, size, next)
          (append_assoc (fields_read c.loop-at.fields) (_ ∷ []) _
          ∙ rw left at c.loop-at.invariant.all);
      ended = c.in_ok-push_field.ensures.partial;
    }
