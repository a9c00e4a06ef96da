-- The files so far are at other paths.
use Rattle.std.proofs.Common.{◌≡◌, drop}
use Rattle.star_library_tests.specs.Folders.{bytes_at}
use Rattle.star_library_tests.proofs.files.bytes_at.Given as goal

abbrev pub invariant-loop-file : goal.invariant-loop-file
invariant-loop-file l = bytes_at (drop l.file-index l.files) l.path ≡ bytes_at l.files l.path
