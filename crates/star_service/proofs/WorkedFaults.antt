-- The lines of faults and of reports as they are read, and names of files on one line.
use Rattle.std.{proofs.Common.{◌≡◌, ◌++◌, ℕ, List, [], ◌∷◌, true, encode_utf8_all, flat_map, refl, ap}, proofs.lemmas.Str.chars-encodes, specs.Prelude.{codes, map}, specs.Fmt.digits}
use lib.Utf8.{encode, scalars}
use Rattle.star_engine.specs.{FaultTexts.engine_fault_text, declared.fault.EngineFault.TheVariants.OutOfMemory, declared.fault.EngineFault.TheVariants.Write}
use Rattle.star_service.specs.{Lines.fault_line, Reports.named_line, Reports.run_line, Names.printed_letter, Names.printed_name}

lines : map fault_line (OutOfMemory ∷ Write 65536 ∷ [])
    ≡ codes "memory\n" ∷ codes "write 65536\n" ∷ []
unfolding fault_line engine_fault_text digits
lines = refl

-- of a name in UTF-8 the letters are shown
by_letters : (letters : List ℕ) → scalars letters ≡ true
    → printed_name (encode_utf8_all letters) ≡ flat_map printed_letter letters
unfolding printed_name
by_letters letters valid = ap (flat_map printed_letter) (chars-encodes letters valid)

-- what would be two lines is one; a zero, a mark of ASCII and one beyond it are escaped; quotes
-- stay, and so does a letter beyond ASCII
names : map (flat_map printed_letter) (codes "a\nload 1" ∷ codes "a\\n" ∷ (0 ∷ 27 ∷ 127 ∷ 133 ∷ [])
    ∷ (39 ∷ 34 ∷ 233 ∷ []) ∷ [])
    ≡ codes "a\\nload 1" ∷ codes "a\\\\n" ∷ codes "\\0\\u{1b}\\u{7f}\\u{85}"
    ∷ (39 ∷ 34 ∷ 195 ∷ 169 ∷ []) ∷ []
unfolding encode
names = refl

-- of a report that was kept both notes on one line, and of a file that was not run the forecast
reports : (name : List ℕ) → (run_line name (record {
  quoted = codes "quote 10\n";
  report = codes "n\n2\n";
  done = codes "visits 10 lookups 0 updates 7\n";
})
    ≡ printed_name name ++ codes " quote 10 visits 10 lookups 0 updates 7\n")
    × (named_line name (codes "quote 5 rows 6\n") ≡ printed_name name ++ codes " quote 5 rows 6\n")
reports name = (refl, refl)
