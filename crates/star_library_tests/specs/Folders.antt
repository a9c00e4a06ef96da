-- The files of a folder in memory.
use Rattle.std.specs.{Prelude.{ℕ, List, [], ◌∷◌, Option, Some, None, if◌then◌else◌, string_bytes}, Str.bytes_eq}
use Rattle.star_library_tests.specs.declared.files.Kept.{Kept}

-- the bytes of the first file at a path, if there is one
abbrev pub bytes_at : List Kept → (path : List ℕ) → Option (List ℕ)
bytes_at [] path = None
bytes_at (file ∷ files) path =
    if bytes_eq (string_bytes file.path) path then Some file.bytes.now else bytes_at files path
