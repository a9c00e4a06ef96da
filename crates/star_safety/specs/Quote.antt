-- The quote: how many rows a program visits at most.
use Rattle.std.specs.Prelude.{ℕ, ◌+◌, ◌*◌}
use Rattle.star_schema.specs.declared.table.TableId.{TableId}
use Rattle.star_program.specs.{declared.program.Parts.Parts, Code.Code, Code.Stop, Code.Then, Code.Each}

-- the visits of code that is executed `times` times: for each scan the product of its row count and
-- of those of the enclosing scans
abbrev pub turns_met : (TableId → ℕ) → ℕ → Code → ℕ
turns_met size times Stop = 0
turns_met size times (Then op rest) = turns_met size times rest
turns_met size times (Each table r body rest) =
    times * size table + turns_met size (times * size table) body + turns_met size times rest

abbrev pub quote : (TableId → ℕ) → Parts → ℕ
quote size parts = turns_met size 1 parts.body
