-- Masks of the numbers 0 to 129, and numbers with bounds at and beyond each width.
use Rattle.std.{proofs.Common.{◌≡◌, ℤ, List, [], ◌∷◌, map, negsuc, pos, refl}, specs.List.range_with_len, specs.Prelude.codes}
use Rattle.star_common.proofs.Tables.{Gives, Gives3}
use Rattle.star_schema.specs.{Bounds.least, Bounds.greatest, Dictionary.dictionary_of, Dictionary.codes_of}
use Rattle.star_column.specs.{Masks.lies, Masks.lies_unsigned, Masks.mask_of, Masks.narrowed, Width.bits_of, Width.least_width}

numbers : List ℤ
numbers = map pos (range_with_len 0 130)

-- the rows 60 to 63, and 64 to 70 with both ends; no bit after the last row; none between ends out
-- of order; a number below zero is below all of them, whatever its word is; a bit that is clear
-- stays so, and each mask is of its own 64 rows
masks : Gives3 (λ from upto first. mask_of (lies from upto) numbers first)
    ((pos 60, pos 70, 0, 17293822569102704640) ∷ (pos 60, pos 70, 64, 127)
    ∷ (pos 0, pos 1000, 128, 3) ∷ (pos 0, pos 1000, 130, 0) ∷ (pos 70, pos 60, 0, 0)
    ∷ (negsuc 0, pos 1, 0, 3) ∷ [])
    × Gives (narrowed (lies (pos 60) (pos 70)) numbers 0)
    ((13835058055282163712 ∷ 5 ∷ 255 ∷ [], 13835058055282163712 ∷ 5 ∷ 0 ∷ [])
    ∷ (1 ∷ 65 ∷ [], 0 ∷ 65 ∷ []) ∷ []) × (mask_of (lies_unsigned 1 2) (0 ∷ 1 ∷ 2 ∷ 3 ∷ []) 0 ≡ 6)
unfolding numbers narrowed
masks = (refl, refl, refl)

-- the difference of the bounds fits, or is one more than fits; it is not the values that have to,
-- nor how many there are
widths : Gives bits_of (
    (pos 0 ∷ pos 255 ∷ [], 8) ∷ (pos 0 ∷ pos 256 ∷ [], 16) ∷ (negsuc 0 ∷ pos 254 ∷ [], 8)
    ∷ (pos 0 ∷ pos 65535 ∷ [], 16) ∷ (pos 0 ∷ pos 65536 ∷ [], 32)
    ∷ (pos 0 ∷ pos 4294967295 ∷ [], 32) ∷ (pos 0 ∷ pos 4294967296 ∷ [], 64)
    ∷ (negsuc 9223372036854775807 ∷ pos 9223372036854775807 ∷ [], 64) ∷ ([], 8)
    ∷ (pos 70255 ∷ pos 70000 ∷ pos 70100 ∷ [], 8)
    ∷ (codes_of (codes "MFGR#121" ∷ codes "MFGR#2221" ∷ codes "MFGR#1440" ∷ []), 8) ∷ [])
unfolding bits_of least_width least greatest dictionary_of
widths = refl
