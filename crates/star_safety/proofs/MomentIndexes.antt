-- Each moment of a run stands among the instructions of its program.
use Rattle.std.proofs.{Common.{◌≡◌, ℕ, ◌+◌, List, [], ◌∷◌, ◌++◌, Some, append_assoc, append-nil, ap, length, refl, sym, ◌∙◌, arith}, lemmas.Grind.common_steps}
use Rattle.star_safety.proofs.Common.{Code, Context, Each, Enclosing, IsMet, Moment, Parts, Scan, Standing, StandsIn, Stop, Then, World, after_op, after_scan, at_end, behind, behind_scan, code_size, in_scan, in_turn, instructions_of, item_of, itself, moment, slice_get, standing}

at_seam : {A : Type 0} (front : List A) (x : A) (back : List A)
    → slice_get (front ++ x ∷ back) (length front) ≡ Some x
at_seam [] x back = refl
at_seam (y ∷ front) x back = at_seam front x back

-- what some code stands for is a part of the whole
record IsPart (all part : List Standing) : Type 0 where
  front : List Standing
  back : List Standing
  cut : all ≡ front ++ (part ++ back)

module _ (w : World) (parts : Parts) where
  abbrev Stretch : Moment → Type 0
  Stretch m = (round : List Enclosing)
      × IsPart (instructions_of w parts) (standing w parts round m.context m.at m.left)

  one_on : (i : Standing) (part : List Standing) → IsPart (instructions_of w parts) (i ∷ part)
      → IsPart (instructions_of w parts) part
  one_on i part h = record {
    front = h.front ++ i ∷ [];
    back = h.back;
    cut = h.cut ∙ sym (append_assoc h.front (i ∷ []) (part ++ h.back));
  }

  left_part : (a b : List Standing) → IsPart (instructions_of w parts) (a ++ b)
      → IsPart (instructions_of w parts) a
  left_part a b h = grind (arith, common_steps, append_assoc)

  right_part : (a b : List Standing) → IsPart (instructions_of w parts) (a ++ b)
      → IsPart (instructions_of w parts) b
  right_part a b h = record {
    front = h.front ++ a;
    back = h.back;
    cut = h.cut ∙ ap (λ xs. h.front ++ xs) (append_assoc a b h.back)
        ∙ sym (append_assoc h.front a (b ++ h.back));
  }

  stretch : (m : Moment) → IsMet w parts m → Stretch m
  stretch m itself = (
    [],
    record {
      front = [];
      back = [];
      cut = sym (append-nil (instructions_of w parts));
    },
  )
  stretch m (behind x op rest at before after s t earlier goes) =
      grind (arith, common_steps, one_on, stretch (moment x (Then op rest) at before s) earlier)
  stretch m (in_turn x table r body rest at registers s t row earlier declared within turned) =
      let was = stretch (moment x (Each table r body rest) at registers s) earlier in
      let inner = in_scan w x table r in
      let round : List Enclosing = record { number = at; table = table } ∷ was.0 in
      let a : List Standing = standing w parts round inner (at + 1) body in
      let b : List Standing = standing w parts was.0 (after_scan x (at_end w parts inner body))
      (at + 1 + code_size body) rest in (
        round,
        left_part a b (one_on
            (record { number = at; round = was.0; context = x; item = Scan table r })
            (a ++ b) was.1),
      )
  stretch m (behind_scan x table r body rest at registers s t earlier declared turned) =
      grind (
        arith,
        common_steps,
        moment,
        at_end,
        right_part,
        one_on,
        stretch (moment x (Each table r body rest) at registers s) earlier,
      )

  head_stands : (x : Context) (c : Code) (at : ℕ) (round : List Enclosing) → (rest : List Standing)
      × (standing w parts round x at c
      ≡ record { number = at; round = round; context = x; item = item_of c } ∷ rest)
  head_stands x Stop at round = ([], refl)
  head_stands x (Then op rest) at round =
      (standing w parts round (after_op w parts x op) (at + 1) rest, refl)
  head_stands x (Each table r body rest) at round =
      let inner = in_scan w x table r in (
        standing w parts (record { number = at; table = table } ∷ round) inner (at + 1) body
            ++ standing w parts round (after_scan x (at_end w parts inner body))
            (at + 1 + code_size body) rest,
        refl,
      )

pub stands_in : (w : World) (parts : Parts) (m : Moment) → IsMet w parts m → StandsIn w parts m
stands_in w parts m met =
    let part = stretch w parts m met in
    let here = head_stands w parts m.context m.left m.at part.0 in
    let i : Standing = record {
      number = m.at;
      round = part.0;
      context = m.context;
      item = item_of m.left;
    } in
    record {
      index = length part.1.front;
      round = part.0;
      there = ap (λ xs. slice_get xs (length part.1.front))
          (part.1.cut ∙ ap (λ xs. part.1.front ++ (xs ++ part.1.back)) here.1)
          ∙ at_seam part.1.front i (here.0 ++ part.1.back);
    }
