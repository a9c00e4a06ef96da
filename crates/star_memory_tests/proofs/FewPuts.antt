-- Few puts of numbers of 64 bits, and more of them.
use Rattle.std.{proofs.Common.{◌≡◌, ◌<◌, ◌+◌, ◌^◌, ℕ, ℤ, pos, true, List, [], ◌∷◌, refl, arith, FitsSigned, w64}, specs.List.All, proofs.lemmas.List.Elements.{All-cons, All-nil}}
use Rattle.star_interval.{specs.Range.is_i64, proofs.Ranges.is_i64_fits}
use Rattle.star_program.specs.Puts.{Update}
use Rattle.star_group.{specs.Stores.{Group, HasRoom}, proofs.SmallNumbers.few_room}
use Rattle.star_memory_tests.specs.Few.{AreFew}

abbrev Narrow : ℤ → Type 0
Narrow z = is_i64 z ≡ true

-- the numbers of a put: one number, and a 0 for the count
pub four_narrow : (z : ℤ) → FitsSigned w64 z → All (λ z. is_i64 z ≡ true) (z ∷ pos 0 ∷ z ∷ z ∷ [])
unfolding is_i64
four_narrow z fits =
    let here : Narrow z = (is_i64_fits z).1 fits in
    let one : All Narrow (z ∷ []) = All-cons Narrow z [] here (All-nil Narrow) in
    let two : All Narrow (z ∷ z ∷ []) = All-cons Narrow z (z ∷ []) here one in
    let three : All Narrow (pos 0 ∷ z ∷ z ∷ []) = All-cons Narrow (pos 0) (z ∷ z ∷ []) refl two in
    All-cons Narrow z (pos 0 ∷ z ∷ z ∷ []) here three

pub one_more : (count : ℕ) (puts : List Update) (put : Update) → AreFew count puts
    → All Narrow put.values → AreFew (count + 1) (put ∷ puts)
one_more count puts put few narrow = record {
  many = omega (arith, few.many);
  small = All-cons (λ put. All Narrow put.values) put puts narrow few.small;
}

pub has_room : (d : Group) (count : ℕ) (puts : List Update) (put : Update) → count < 2 ^ 32
    → AreFew count puts → All Narrow put.values → HasRoom d (put ∷ puts)
has_room d count puts put less few narrow =
    few_room d (put ∷ puts) (All-cons (λ put. All Narrow put.values) put puts narrow few.small)
    (omega (arith, less, few.many))
