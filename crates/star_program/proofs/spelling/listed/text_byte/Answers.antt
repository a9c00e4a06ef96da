use Rattle.std.proofs.Common.{◌≡◌, ◌∷◌}
use Rattle.star_program.proofs.Text.Quotes.{closing_quote, doubled_quote, empty_stops, last_quote, plain_byte}
use Rattle.star_program.proofs.spelling.listed.text_byte.Goals as goal

pub returns-in_err-byte-clause-byte : goal.returns-in_err-byte-clause-byte
returns-in_err-byte-clause-byte c =
    rw c.from_residual.ensures (empty_stops c.args.quoted.now c.in_err-byte.ensures.cases)

pub returns-then-byte-ne39-clause-byte : goal.returns-then-byte-ne39-clause-byte
returns-then-byte-ne39-clause-byte c =
    let is : c.args.quoted.now ≡ c.in_ok-byte.byte.now ∷ c.in_ok-byte.rest.now =
    c.in_ok-byte.ensures.cases.0 in
    rw is (plain_byte c.in_ok-byte.byte.now c.in_ok-byte.rest.now c.if-byte-ne39.true)

pub returns-in_err-next-clause-byte : goal.returns-in_err-next-clause-byte
returns-in_err-next-clause-byte c =
    let is : c.args.quoted.now ≡ c.in_ok-byte.byte.now ∷ c.in_ok-byte.rest.now =
    c.in_ok-byte.ensures.cases.0 in
    let quote : c.in_ok-byte.byte.now ≡ 39 = c.if-byte-ne39.false in
    rw (c.from_residual-in_err-next.ensures, is, quote)
    (last_quote c.in_ok-byte.rest.now c.in_err-next.ensures.cases)

pub returns-then-next-eq39-clause-byte : goal.returns-then-next-eq39-clause-byte
returns-then-next-eq39-clause-byte c =
    doubled_quote c.args.quoted.now c.in_ok-byte.byte.now c.in_ok-byte.rest.now
    c.in_ok-next.next.now c.in_ok-next.after.now c.in_ok-byte.ensures.cases.0
    c.in_ok-next.ensures.cases.0 c.if-byte-ne39.false c.if-next-eq39.true

pub returns-else-next-eq39-clause-byte : goal.returns-else-next-eq39-clause-byte
returns-else-next-eq39-clause-byte c =
    let is : c.args.quoted.now ≡ c.in_ok-byte.byte.now ∷ c.in_ok-byte.rest.now =
    c.in_ok-byte.ensures.cases.0 in
    let then_is : c.in_ok-byte.rest.now ≡ c.in_ok-next.next.now ∷ c.in_ok-next.after.now =
    c.in_ok-next.ensures.cases.0 in
    let quote : c.in_ok-byte.byte.now ≡ 39 = c.if-byte-ne39.false in
    rw (is, quote, then_is) (closing_quote c.in_ok-next.next.now c.in_ok-next.after.now
    c.if-next-eq39.false)
