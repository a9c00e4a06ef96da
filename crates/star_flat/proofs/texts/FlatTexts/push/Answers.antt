use Rattle.std.proofs.Common.{◌≡◌, ◌++◌, ◌∷◌, [], ◌+◌, ◌≤◌, ◌∙◌, length, length-append, arith}
use Rattle.star_flat.proofs.CutLemmas.{cut_more, texts_more, upto_all}
use Rattle.star_flat.proofs.texts.FlatTexts.push.Goals as goal

pub push-requires-clause-after : goal.push-requires-clause-after
push-requires-clause-after c =
    let bytes = c.self.inside.bytes in
    let more : length bytes.items ≤ c.len.result = omega (
      arith,
      c.len.ensures,
      c.in_ok-extend_from_slice.ensures.len,
      bytes.ok.0,
    ) in
    upto_all c.self.inside.ends (length bytes.items) c.len.result c.self.invariant more

ends_are : (c : goal.In-Ok) → c.push.new.self
    ≡ c.self.inside.ends ++ (length c.self.inside.bytes.items + length c.args.text.now) ∷ []
ends_are c = grind arith

pub invariant_of-self-in-Ok : goal.invariant_of-self-in-Ok
invariant_of-self-in-Ok c = grind (arith, ends_are, length-append, cut_more)

pub returns-in-Ok-clause-ok : goal.returns-in-Ok-clause-ok
returns-in-Ok-clause-ok c = grind (arith, ends_are, texts_more)
