-- Reads of a text, and files by their paths.
use Rattle.std.proofs.{Common.{◌≡◌, ◌≤◌, ◌<◌, ◌-◌, ◌+◌, ◌++◌, ◌∷◌, ◌∙◌, ℕ, List, [], Bool, true, false, Some, length, take, drop, get_or, ap, sym, arith}, lemmas.List.{drop_all, take-append-drop, take_rest}, Math.Seq.take-append_seam}

-- the bytes of a read, and those after it
pub read_on : (left new room : List ℕ) (n : ℕ) → new ≡ take n left → length new ≡ n
    → left ≡ take n (new ++ drop n room) ++ take (length left - n) (drop n left)
read_on left new room n is within =
    rw (take_rest left n, ← within, take-append_seam new (drop (length new) room), within, is)
    (sym (take-append-drop n left))

-- a text that is at its end
pub no_more : (left : List ℕ) (n : ℕ) → length left ≤ n → take (length left - n) (drop n left) ≡ []
no_more left n past = take_rest left n ∙ drop_all n left past
