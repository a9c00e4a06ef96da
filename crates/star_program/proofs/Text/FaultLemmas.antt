-- The first fault, line by line.
use Rattle.std.proofs.{Common.{◌≡◌, ◌+◌, ◌∷◌, [], ℕ, true, false, List, Some, Ok, Err, refl, lit≤, arith}, lemmas.Bool.{and_parts, leb-true}}
use Rattle.star_program.specs.{Text.FirstFaults.{advance, end_in, is_within, lines_fault, program_text_fault, start}, Text.Lines.{is_blank_line, lines_of}, Private.Within.IsWithinLargest, declared.spelling.fault.TextFault.TextFault, declared.spelling.text_state.TextState.TextState, declared.spelling.text_state.Stage.Stage}

-- a state by its parts
abbrev pub state : Stage → ℕ → ℕ → ℕ → ℕ → ℕ → TextState
state st g i dp sh so =
    record { stage = st; groups = g; instructions = i; depth = dp; shows = sh; sorts = so }

pub within_from : (p : TextState) → is_within p ≡ true → IsWithinLargest p
unfolding is_within
within_from p h = grind (arith, and_parts, leb-true)

pub blank_line : (p : TextState) (n : ℕ) (text : List ℕ) (texts : List (List ℕ))
    → is_blank_line text ≡ true → lines_fault p n (text ∷ texts) ≡ lines_fault p (n + 1) texts
unfolding lines_fault
blank_line p n text texts blank = rw blank refl

pub advanced : (p : TextState) (n : ℕ) (text : List ℕ) (texts : List (List ℕ)) (q : TextState)
    → is_blank_line text ≡ false → advance p n text ≡ Ok q
    → lines_fault p n (text ∷ texts) ≡ lines_fault q (n + 1) texts
unfolding lines_fault
advanced p n text texts q filled goes = rw (filled, goes) refl

pub refused : (p : TextState) (n : ℕ) (text : List ℕ) (texts : List (List ℕ)) (f : TextFault)
    → is_blank_line text ≡ false → advance p n text ≡ Err f
    → lines_fault p n (text ∷ texts) ≡ Some f
unfolding lines_fault
refused p n text texts f filled goes = rw (filled, goes) refl

pub ended : (p : TextState) (n : ℕ) → lines_fault p n [] ≡ end_in p.stage p.depth n
unfolding lines_fault
ended p n = refl

pub start_within : IsWithinLargest start
unfolding start
start_within = grind (arith, lit≤)

pub text_fault_is : (text : List ℕ) → program_text_fault text ≡ lines_fault start 1 (lines_of text)
unfolding program_text_fault
text_fault_is text = refl
