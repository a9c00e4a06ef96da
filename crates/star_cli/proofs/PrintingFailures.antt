-- The text of want of memory.
use Rattle.std.{proofs.Common.{◌≡◌, ℕ, List}, specs.Prelude.codes}
use Rattle.star_cli.specs.{Failures.IsTextOf, Failures.failure_text, declared.failure.Failure.TheVariants.OutOfMemory}

pub memory_text : (text : List ℕ) → text ≡ codes "memory\n" → IsTextOf OutOfMemory text
unfolding failure_text
memory_text text e = e
