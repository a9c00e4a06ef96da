-- A turn of a compiled program has no scan.
use Rattle.std.proofs.{Common.{◌≡◌, ℕ, Bool, true, false, refl, arith}, lemmas.Grind.common_steps}
use Rattle.star_schema.specs.declared.table.TableId.{TableId, TheVariants.Lineorder}
use Rattle.star_plan.specs.Meaning.{Plan}
use Rattle.star_program.specs.Code.{Code, Stop, Then, Each, scan_depth}
use Rattle.star_safety.specs.Quote.{turns_met, quote}
use Rattle.star_compile_laws.{specs.Compiled.{turn_code, compiled}, proofs.Pieces.{Law, of_turn}}

abbrev pub flat : Code → Bool
flat Stop = true
flat (Then o rest) = flat rest
flat (Each t r body rest) = false

pub turn_is_flat : (p : Plan) → flat (turn_code p) ≡ true
turn_is_flat p = of_turn law
    (record {
      step = λ g n a o x rest makes next. next tt (λ r y h. tt) tt;
      column = λ g n a c r code ok h next. next tt;
      compared = λ n a t r ok h. tt;
      keep = λ g n a d r rest h next. next tt (λ q y h. tt);
      put = λ n a ks vs at_k at_v. refl;
    })
    (λ z. absurd z) (λ z. absurd z) tt tt
  where
    law : Law p
    law = record {
      Sound = ⊥;
      Spelled = ⊥;
      Grade = Unit {0};
      Point = Unit {0};
      Holds = λ n a r x. Unit {0};
      Fact = λ g n a code. flat code ≡ true;
      node = λ a g. g;
      conjunct = λ d g. g;
      last = tt;
    }

pub flat_depth : (c : Code) → flat c ≡ true → scan_depth c ≡ 0
flat_depth Stop h = refl
flat_depth (Then o rest) h = flat_depth rest h
flat_depth (Each t r body rest) h = absurd (cc)

flat_turns : (size : TableId → ℕ) (n : ℕ) (c : Code) → flat c ≡ true → turns_met size n c ≡ 0
flat_turns size n Stop h = refl
flat_turns size n (Then o rest) h = flat_turns size n rest h
flat_turns size n (Each t r body rest) h = absurd (cc)

pub quote_is : (rows : TableId → ℕ) (p : Plan) → quote rows (compiled p) ≡ rows Lineorder
quote_is rows p = grind (arith, common_steps, flat_turns, turn_is_flat)
