-- A turn of the scan is its pieces, one behind another.
use Rattle.std.proofs.Common.{◌≡◌, ℕ, ◌+◌, ◌≤◌, List, [], ◌∷◌, ◌++◌, refl, ap, ◌∙◌, arith}
use Rattle.star_plan.specs.Meaning.{Plan}
use Rattle.star_program.specs.{declared.body.Step.Step, declared.body.Step.TheVariants.Act, declared.op.Op.TheVariants.Put, Code.Code, Code.Stop, Code.Then, CodeOfSteps.before, CodeOfSteps.code_of_steps}
use Rattle.star_compile_laws.specs.Compiled.{Env, env_first, register_count, conjuncts_code, keys_code, values_code, turn_code}
use Rattle.star_compile.{specs.Private.Emitted.{Completed, steps_then, env_of, completed, Wrote, Writes, HasRegisterRoom}, specs.declared.emitter.Emitter.Emitter, proofs.Emits.{act, made, room_where}}

-- an emitter that has written nothing
pub record IsFirst (e : Emitter) : Type 0 where
  pub steps : e.steps.items ≡ []
  pub next : e.next ≡ 1
  pub loaded : e.loaded.items ≡ []
  pub found : e.found.items ≡ []

-- the end of a turn
abbrev end_of_turn : List ℕ → Env → List ℕ → Code
end_of_turn keys env values = Then (Put 0 keys values) Stop

module _ (p : Plan) where
  -- what comes after the keys, and after the conjuncts
  abbrev after_keys : Env → List ℕ → Code
  after_keys e keys = values_code p.joins p.measures e (end_of_turn keys)

  abbrev after_conjuncts : Env → Code
  after_conjuncts e = keys_code p.joins p.keys e after_keys

  -- all of a turn
  abbrev turn : Completed
  turn = made (turn_code p) (1 + register_count (turn_code p))

  at_first : (e : Emitter) → IsFirst e
      → completed e (conjuncts_code p.joins p.conjuncts (env_of e) after_conjuncts) ≡ turn
  unfolding completed
  at_first e first =
      (λ i.
      made (steps_then (first.steps i) (conjuncts_code p.joins p.conjuncts (at i) after_conjuncts))
      (first.next i
      + register_count (conjuncts_code p.joins p.conjuncts (at i) after_conjuncts)))
    where
      at : env_of e ≡ env_first
      at = λ i. record { next = first.next i; loaded = first.loaded i; found = first.found i }

  pub room_for_conjuncts : (e : Emitter) → IsFirst e → 1 + register_count (turn_code p) ≤ 4096
      → HasRegisterRoom e (conjuncts_code p.joins p.conjuncts)
  room_for_conjuncts e first few = room_where after_conjuncts (at_first e first) few

  module _ (e0 e1 : Emitter) (first : IsFirst e0)
      (conjuncts : Wrote e0 e1 (conjuncts_code p.joins p.conjuncts)) where
    at_keys : completed e1 (after_conjuncts (env_of e1)) ≡ turn
    at_keys = conjuncts.same after_conjuncts ∙ at_first e0 first

    pub room_for_keys : 1 + register_count (turn_code p) ≤ 4096
        → HasRegisterRoom e1 (keys_code p.joins p.keys)
    room_for_keys few = room_where after_keys at_keys few

    module _ (e2 : Emitter) (ks : List ℕ) (keys : Writes e1 e2 (keys_code p.joins p.keys) ks) where
      at_values : completed e2 (after_keys (env_of e2) ks) ≡ turn
      at_values = keys.same after_keys ∙ at_keys

      pub room_for_values : 1 + register_count (turn_code p) ≤ 4096
          → HasRegisterRoom e2 (values_code p.joins p.measures)
      room_for_values few = room_where (end_of_turn ks) at_values few

      module _ (e3 e4 : Emitter) (vs : List ℕ)
          (values : Writes e2 e3 (values_code p.joins p.measures) vs)
          (pushed : e4.steps.items ≡ e3.steps.items ++ Act (Put 0 ks vs) ∷ [])
          (next : e4.next ≡ e3.next) where
        at_end : completed e4 Stop ≡ turn
        at_end =
            act e3 e4 (Put 0 ks vs) Stop pushed (omega (arith, next)) ∙ values.same (end_of_turn ks)
            ∙ at_values

        stopped : (steps : List Step) → code_of_steps steps ≡ steps_then steps Stop
        stopped [] = refl
        stopped (s ∷ steps) = ap (before s) (stopped steps)

        pub turn_made : (code_of_steps e4.steps.items ≡ turn_code p)
            × (e4.next ≡ 1 + register_count (turn_code p))
        unfolding completed
        turn_made =
            let count : e4.next + 0 ≡ 1 + register_count (turn_code p) =
            ap (λ w. w.registers) at_end in
            (stopped e4.steps.items ∙ ap (λ w. w.code) at_end, omega arith)
