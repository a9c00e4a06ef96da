-- One more piece of a file of a table.
use Rattle.std.{proofs.Common.{◌≡◌, ◌+◌, ◌<◌, ◌≤◌, ◌∙◌, ℕ, List, [], ◌++◌, Option, length, refl, arith, append_assoc}, proofs.lemmas.Grind.common_steps, proofs.lemmas.List.{append-nil, length-append}, specs.Prelude.{◌-◌, ◌^◌, min}, specs.Io.KnownBytes.Consumes}
use Rattle.star_reader.specs.Partway.{Reading}
use Rattle.star_engine.specs.{Reading.{ReadingGoesOn, came_of, has_failed, reader_of, reads_of}, declared.input.Input.Input, Private.PieceSteps.HasFed}

-- known bytes that are consumed one after another
consumed_on : (a b c : Option (List ℕ)) (x y : List ℕ) → Consumes a b x → Consumes b c y
    → Consumes a c (x ++ y)
consumed_on it b c x y first next = grind (arith, common_steps)

none_consumed : (a : Option (List ℕ)) → Consumes a a []
none_consumed it = grind arith

-- nothing comes after a text
gone_none : (reader : Reading) → ReadingGoesOn reader reader []
gone_none reader = λ table most parts text h. rw (append-nil text) h

gone_on : (a b c : Reading) (x y : List ℕ) → ReadingGoesOn a b x → ReadingGoesOn b c y
    → ReadingGoesOn a c (x ++ y)
gone_on a b c x y first next = λ table most parts text h.
    rw (← (append_assoc text x y))
    (next table most parts (text ++ x) (first table most parts text h))

pub start : {R : Type 0} (remaining : R → Option (List ℕ)) (input : Input R) (reader : Reading)
    → HasFed remaining input input reader reader 0 0
start remaining input reader = record {
  bytes = [];
  size = refl;
  consumed = none_consumed (remaining (reader_of input));
  on = gone_none reader;
  counted = omega arith;
  came = omega arith;
  asked = omega arith;
  unfailed = refl;
}

-- one more piece
pub more : {R : Type 0} (remaining : R → Option (List ℕ)) (first old new : Input R)
    (before mid after : Reading) (reads taken count limit : ℕ) (piece : List ℕ)
    → HasFed remaining first old before mid reads taken → length piece ≡ count
    → Consumes (remaining (reader_of old)) (remaining (reader_of new)) piece
    → ReadingGoesOn mid after piece → 1 ≤ count → taken + count ≤ limit → limit < 2 ^ 64 - 1
    → came_of new ≡ min (came_of old + count) (2 ^ 64 - 1)
    → reads_of new ≤ reads_of old + 1 → has_failed new ≡ has_failed old
    → HasFed remaining first new before after (reads + 1) (taken + count)
more remaining first old new before mid after reads taken count limit piece h size gone on some
    within small came asked unfailed = record {
      bytes = h.bytes ++ piece;
      size = omega (arith, size, h.size, length-append h.bytes piece);
      consumed = consumed_on (remaining (reader_of first)) (remaining (reader_of old))
          (remaining (reader_of new)) h.bytes piece h.consumed gone;
      on = gone_on before mid after h.bytes piece h.on on;
      counted = omega (arith, h.counted, some);
      came = omega (arith, came, h.came, within, small);
      asked = omega (arith, asked, h.asked);
      unfailed = unfailed ∙ h.unfailed;
    }

-- all pieces
pub whole : {R : Type 0} (remaining : R → Option (List ℕ)) (first old new : Input R)
    (before mid after : Reading) (reads taken limit : ℕ) (piece : List ℕ)
    → HasFed remaining first old before mid reads taken → length piece ≡ 0
    → Consumes (remaining (reader_of old)) (remaining (reader_of new)) piece
    → ReadingGoesOn mid after piece → taken ≤ limit → (came : List ℕ) × (length came ≤ limit)
    × Consumes (remaining (reader_of first)) (remaining (reader_of new)) came
    × ReadingGoesOn before after came
whole remaining first old new before mid after reads taken limit piece h size gone on within = (
  h.bytes ++ piece,
  omega (arith, size, h.size, within, length-append h.bytes piece),
  consumed_on (remaining (reader_of first)) (remaining (reader_of old)) (remaining (reader_of new))
      h.bytes piece h.consumed gone,
  gone_on before mid after h.bytes piece h.on on,
)
