use Rattle.std.{proofs.Common.{◌≡◌, ◌++◌, ◌∷◌, [], None, sym, ◌∙◌, ap, length, arith, refl}, proofs.lemmas.List.with_items_is, specs.Vec.with_items}
use Rattle.star_reader.{specs.Private.Sound.reading_of, proofs.ReaderSteps.{none_of, part_fault_on, sound_step, step_faulty, step_fine, still_faulty}, proofs.table_reader.TableReader.end_part.Goals.After-end_part}
use Rattle.star_reader.proofs.table_reader.TableReader.end_part.Goals as goal

no_fault : (c : After-end_part) → c.self.inside.fault ≡ None
no_fault c = none_of c.self.inside.fault (sym c.is_some.ensures ∙ c.if-is_some.false)

columns_are : (c : After-end_part)
    → (with_items c.self.inside.columns c.end_part.new.columns).items ≡ c.end_part.new.columns
columns_are c =
    with_items_is c.self.inside.columns c.end_part.new.columns
    (omega (
      arith,
      c.self.inside.columns.ok.0,
      c.end_part.auto.columns,
      ap length c.as_mut_slice-columns.ensures.value,
    ))

pub invariant_of-self : goal.invariant_of-self
invariant_of-self c =
    let at = (goal.at.invariant_of-self c).After-end_part in
    sound_step c.self.inside _ c.end_part.new.columns (no_fault at) refl refl refl (columns_are at)
    (λ parts text h. (
      parts ++ text ∷ [],
      [],
      c.in-Ok.ensures c.self.inside.table parts text (rw c.as_mut_slice-columns.ensures.value h),
    ))
    c.self.invariant

pub returns-then-is_some : goal.returns-then-is_some
returns-then-is_some c = λ table most parts text h.
    still_faulty c.args.self.now table most parts (parts ++ text ∷ []) text ([])
    (rw (← c.self.view_is) (sym c.is_some.ensures ∙ c.if-is_some.true))
    (λ f fault. part_fault_on _ _ parts text f fault) h

pub returns-in-Ok : goal.returns-in-Ok
returns-in-Ok c = λ table most parts text h.
    let at = (goal.at.returns-in-Ok c).After-end_part in
    let before = rw (← c.self.view_is) at h in
    step_fine (reading_of c.self.inside) _ table most parts (parts ++ text ∷ []) text ([])
    c.end_part.new.columns
    (no_fault at) refl refl refl (columns_are at)
    (λ was. c.in-Ok.ensures c.self.inside.table parts text
    (rw c.as_mut_slice-columns.ensures.value was)) before

pub returns-in-Err : goal.returns-in-Err
returns-in-Err c = λ table most parts text h.
    let at = (goal.at.returns-in-Err c).After-end_part in
    let before = rw (← c.self.view_is) at h in
    step_faulty (reading_of c.self.inside) _ table most parts (parts ++ text ∷ []) text ([])
    c.in-Err.fault
    (no_fault at) refl refl refl
    (λ was. c.in-Err.ensures c.self.inside.table parts text
    (rw c.as_mut_slice-columns.ensures.value was)) before
