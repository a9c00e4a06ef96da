-- Writes of a report that fail.
use Rattle.std.specs.Prelude.{◌≡◌, ◌≤◌, ℕ, List, length}
use Rattle.star_service.specs.declared.report_sink.ReportSinkFault.{ReportSinkFault}
use Rattle.star_service.specs.declared.report_sink.ReportSinkFault.TheVariants as fault

-- a write failed after the first `sent` bytes, or memory was refused
abbrev pub IsFailedBehind : (sent : ℕ) → ReportSinkFault → Type 0
IsFailedBehind sent fault.OutOfMemory = Unit {0}
IsFailedBehind sent (fault.Write at) = at ≡ sent

-- a write of a report failed before its end or at it, or memory was refused
abbrev pub IsFailedWithin : (report : List ℕ) → ReportSinkFault → Type 0
IsFailedWithin report fault.OutOfMemory = Unit {0}
IsFailedWithin report (fault.Write at) = at ≤ length report
