use Rattle.std.{proofs.Common.{◌≤◌, encode_utf8_all}, specs.Fmt.IsPlainFormatter, specs.Char.Iter.{escape_rest, escape_end}}
use Rattle.star_service.proofs.NameLemmas.{IsWrittenUpTo}
use Rattle.star_service.proofs.names.write_escape.Given as goal

abbrev pub invariant-letters : goal.invariant-letters
invariant-letters g l =
    (escape_end l.rest ≤ 10)
    × (IsPlainFormatter l.fn.f → IsWrittenUpTo g.W.Write.write_str_gives l.fn.f l.f
    (encode_utf8_all (escape_rest l.rest)) (encode_utf8_all (escape_rest l.fn.escape)))
