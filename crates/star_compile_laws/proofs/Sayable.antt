-- A compiled program can be written: each of its statements can be said.
use Rattle.std.proofs.{Common.{◌≡◌, ℕ, ◌+◌, ◌≤◌, true, List, [], ◌∷◌, All, arith}, lemmas.List.Elements.{All-nil, All-cons}}
use Rattle.star_query.specs.Spelled.{is_printable_text}
use Rattle.star_plan.specs.{Meaning.Plan, Spelled.IsSpelledPlan}
use Rattle.star_program.specs.{declared.op.Operation.Operation, Code.Code, Code.Stop, Code.Then, Code.Each, Text.Spellable.HasFourDigits, Text.Spellable.IsPrinted, Text.Spellable.IsSpellableOp, Text.Spellable.IsSpellableOperation}
use Rattle.star_compile_laws.{specs.Compiled.{register_count, turn_code}, proofs.Contents.{AllHold, Content, Makes, adds, both, constant_made, denies, edge, either, fails, finds, is_after, is_before, is_within, limits, loads, multiplies, number, subtracts}, proofs.Limits.constant_said, proofs.Pieces.{IsKept, Law, of_turn}}

abbrev pub Spelled : Code → Type 0
Spelled Stop = Unit {0}
Spelled (Then o rest) = IsSpellableOp o × Spelled rest
Spelled (Each t r body rest) = ⊥

text_said : (t : List ℕ) → is_printable_text t ≡ true → IsPrinted t
unfolding is_printable_text
text_said t h = h

module _ (p : Plan) where
  -- where there is room for the registers that it writes, code can be said
  abbrev said : Law p
  said = record {
    Sound = ⊥;
    Spelled = Unit {0};
    Grade = Unit {0};
    Point = Unit {0};
    Holds = λ n a r x. HasFourDigits r;
    Fact = λ g n a code. n + register_count code ≤ 9999 → Spelled code;
    node = λ a g. g;
    conjunct = λ d g. g;
    last = tt;
  }

  made_said : (o : Operation) (x : Content)
      → Makes p.joins ⊥ (Unit {0}) (λ r x. HasFourDigits r) o x → IsSpellableOperation o
  made_said _ _ (loads c t row of at) = at
  made_said _ _ (finds t key joined at) = at
  made_said _ _ (limits c (number z) is) = is.said tt
  made_said _ _ (limits c (edge e t) is) = text_said t (is.said tt)
  made_said _ _ (is_before o c l x m is at_x at_m) = (at_x, at_m)
  made_said _ _ (is_after o c l x m is at_x at_m) = (at_m, at_x)
  made_said _ _ (is_within c l u x m n is also at_x at_m at_n) = (at_x, at_m, at_n)
  made_said _ _ (fails c f x at) = at
  made_said _ _ (denies d x at) = at
  made_said _ _ (either c d x y at_x at_y) = (at_x, at_y)
  made_said _ _ (both c d x y at_x at_y) = (at_x, at_y)
  made_said _ _ (constant_made z few) = constant_said z (few tt)
  made_said _ _ (adds c d x y at_x at_y) = (at_x, at_y)
  made_said _ _ (subtracts c d x y at_x at_y) = (at_x, at_y)
  made_said _ _ (multiplies c d x y at_x at_y) = (at_x, at_y)

  all_short : (xs : List Content) (rs : List ℕ) → AllHold (λ r x. HasFourDigits r) xs rs
      → All HasFourDigits rs
  all_short [] [] h = All-nil HasFourDigits
  all_short (x ∷ xs) (r ∷ rs) h = All-cons HasFourDigits r rs h.0 (all_short xs rs h.1)
  all_short [] (r ∷ rs) h = absurd h
  all_short (x ∷ xs) [] h = absurd h

  kept : IsKept said
  kept = record {
    step = λ g n a o x rest makes next room. (
      (omega arith, made_said o x makes),
      next tt (λ r y at. at) (omega arith) (omega arith),
    );
    column = λ g n a c r code ok at next. next at;
    compared = λ n a t r ok at. at;
    keep = λ g n a d r rest at next room. (at, next tt (λ q y h. h) (omega arith));
    put = λ n a ks vs at_k at_v room. ((omega arith, all_short _ ks at_k, all_short _ vs at_v), tt);
  }

  pub turn_spelled : IsSpelledPlan p → 1 + register_count (turn_code p) ≤ 9999
      → Spelled (turn_code p)
  turn_spelled spelled = of_turn said kept (λ z. absurd z) (λ z. spelled) tt (omega arith)
