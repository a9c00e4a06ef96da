use Rattle.std.{proofs.Common.{◌≡◌, ◌∙◌, ◌++◌, ◌+◌, ◌∷◌, [], true, false, Ok, arith, ap, inr, refl, rules, subst, sym}, proofs.lemmas.List.length-append, specs.Io.KnownBytes.Consumes}
use Rattle.star_statements.{specs.Sources.{IsStatementRead, reader_of}, specs.Private.Drafts.{IsDraft, closes_statement, ends_behind}, proofs.DraftLemmas.{draft_begins, draft_ends, draft_goes_on, draft_is_last, kept-more, length-kept, of_some}}
use Rattle.star_statements.proofs.reading.read_statement.Goals as goal

pub bytes-init : goal.bytes-init
bytes-init g c =
    let known = g.R.Read.remaining (reader_of c.args.source.now) in (
      refl,
      (
        [],
        refl,
        subst (λ text. IsDraft known known text false []) (sym c.clear.ensures.items)
            (draft_begins known),
      ),
    )

pub returns-in_default-clause-read : goal.returns-in_default-clause-read
returns-in_default-clause-read g c =
    let drafted = c.bytes.invariant.1 in
    let ended = c.in_ok-byte.ensures.end (ap Ok c.in_default.is) in
    (drafted.0, draft_is_last _ _ _ _ _ _ drafted.2 ended.0 ended.1)

pub returns-in_default-clause-within : goal.returns-in_default-clause-within
returns-in_default-clause-within g c = grind (arith, length-kept)

pub returns-then-closes-clause-read : goal.returns-then-closes-clause-read
returns-then-closes-clause-read g c =
    let drafted = c.bytes.invariant.1 in
    let byte = of_some (λ b.
    Consumes (g.R.Read.remaining (reader_of c.bytes.source))
    (g.R.Read.remaining (reader_of c.next_byte.new.self)) (b ∷ [])) _ _ c.in-Some.is
    c.in_ok-byte.ensures.byte in
    let closing : closes_statement c.bytes.ends c.in-Some.byte ≡ true = search rules in
    let read = draft_ends _ _ _ _ _ _ _ drafted.2 byte closing in (
      drafted.0 ++ c.in-Some.byte ∷ [],
      subst (λ text. IsStatementRead (g.R.Read.remaining (reader_of c.args.source.now))
          (g.R.Read.remaining (reader_of c.next_byte.new.self)) text true
          (drafted.0 ++ c.in-Some.byte ∷ [])) (sym c.in_ok-keep.ensures) read,
    )

pub returns-then-closes-clause-within : goal.returns-then-closes-clause-within
returns-then-closes-clause-within g c = grind (arith, length-kept, kept-more)

pub bytes-preserved : goal.bytes-preserved
bytes-preserved g c =
    let drafted = c.bytes.invariant.1 in
    let byte = of_some (λ b.
    Consumes (g.R.Read.remaining (reader_of c.bytes.source))
    (g.R.Read.remaining (reader_of c.next_byte.new.self)) (b ∷ [])) _ _ c.in-Some.is
    c.in_ok-byte.ensures.byte in
    let open_line : closes_statement c.bytes.ends c.in-Some.byte ≡ false = search rules in
    let draft = draft_goes_on _ _ _ _ _ _ _ drafted.2 byte open_line in
    let old = g.R.Read.remaining (reader_of c.args.source.now) in
    let new = g.R.Read.remaining (reader_of c.next_byte.new.self) in
    let begun = drafted.0 ++ c.in-Some.byte ∷ [] in (
      c.in_ok-byte.ensures.unfailed ∙ c.bytes.invariant.0,
      (
        begun,
        length-append drafted.0 (c.in-Some.byte ∷ []) ∙ ap (λ n. n + 1) drafted.1,
        subst (λ ends. IsDraft old new c.keep.new.text.items ends begun)
            (sym c.ends_behind-ends.ensures)
            (subst (λ text. IsDraft old new text (ends_behind c.bytes.ends c.in-Some.byte) begun)
            (sym c.in_ok-keep.ensures) draft),
      ),
    )

pub returns-clause-failed : goal.returns-clause-failed
returns-clause-failed g c =
    let drafted = c.bytes.invariant.1 in
    λ _. inr (drafted.0, record { consumed = drafted.2.read; many = omega (arith, drafted.1) })
