use Rattle.std.{proofs.Common.{chars, flat_map}, specs.Fmt.IsPlainFormatter, specs.Str.IsUtf8, specs.Str.Iter.chars_rest}
use Rattle.star_service.{specs.Names.printed_letter, proofs.NameLemmas.IsWrittenUpTo}
use Rattle.star_service.proofs.names.ShownDisplay.fmt.Given as goal

abbrev pub invariant-letters : goal.invariant-letters
invariant-letters g l =
    IsUtf8 (chars_rest l.rest)
    × (IsPlainFormatter l.fn.f → IsWrittenUpTo g.W.Write.write_str_gives l.fn.f l.f
    (flat_map printed_letter (chars (chars_rest l.rest)))
    (flat_map printed_letter (chars l.fn.self.0.now)))
