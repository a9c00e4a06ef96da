-- Out of memory, a case of its own in each kind of error. A call that allocates may return it at
-- any time, before any other error.
use Rattle.std.specs.Prelude.{◌≡◌, ◌⊎◌}

-- this holds, unless memory ran out
abbrev pub UnlessMemory : {F : Type 0} → (memory fault : F) → Type 0 → Type 0
UnlessMemory memory fault P = (fault ≡ memory) ⊎ P

-- whatever the library's error was, it is reported as out of memory
abbrev pub TellsMemory : {E F : Type 0} → (memory : F) → E → F → Type 0
TellsMemory memory error fault = fault ≡ memory
