-- A fault that a call answered and that is passed on as it is.
use Rattle.std.proofs.{Common.{◌≡◌, Result, IsErrAnd, MatchResult, inl, inr}, lemmas.Result.err_from_is_err_and}
use Rattle.star_common.specs.Memory.{UnlessMemory}

-- what it tells of a part it tells of the whole, if that follows
pub passed_on : {T F : Type 0} {memory f : F} {Part : Type 0} (P : T → Type 0) (Whole : F → Type 0)
    (result : Result T F) → UnlessMemory memory f Part → IsErrAnd result (λ y. y ≡ f)
    → (Part → Whole f) → MatchResult result P (λ y. UnlessMemory memory y (Whole y))
passed_on P Whole result fault passed follows =
    let p = err_from_is_err_and result passed in
    rw (p.1, p.2) (elim fault [ inl memory ↦ inl memory | inr part ↦ inr (follows part) ])
