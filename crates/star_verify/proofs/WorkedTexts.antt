-- What refusals print as, and where their words are told apart.
use Rattle.std.proofs.Common.{◌≡◌, ◌∷◌, [], refl}
use Rattle.star_verify.proofs.Common.{BadShow, Faulty, LoExtendedprice, LoTax, NotAForeignKey, Overflow, Refused, TooCostly, WrittenTwice, codes, column_of, digits, neg_ℤ, pos, reason_text, refusal_text, wrong_text}

by_name : refusal_text (Refused 3 NotAForeignKey) ≡ codes "refused 65 NotAForeignKey at 3"
unfolding digits refusal_text reason_text
by_name = refl

by_its_target : refusal_text (Refused 2 (Faulty WrittenTwice))
    ≡ codes "refused 61 WrittenTwice at 2"
unfolding digits refusal_text reason_text wrong_text
by_its_target = refl

of_no_column : refusal_text (Refused 12 (Overflow (neg_ℤ (pos 18000000000000000000)) (pos 0) []))
    ≡ codes "refused 69 Overflow at 12: -18000000000000000000..0"
unfolding digits refusal_text reason_text
of_no_column = refl

of_one_column : refusal_text
    (Refused 7 (Overflow (pos 0) (pos 9900000000000000000)
    (record {
      column = LoExtendedprice;
      low = pos 900000000000000000;
      high =
          pos 900000000000000000;
    } ∷ [])))
    ≡ codes
    "refused 69 Overflow at 7: 0..9900000000000000000 from lo_extendedprice 900000000000000000..900000000000000000"
unfolding digits refusal_text reason_text column_of
of_one_column = refl

-- a comma stands between columns, and `from` before the first alone
of_two_columns : refusal_text
    (Refused 4 (Overflow (pos 0) (pos 9)
    (record { column = LoExtendedprice; low = pos 0; high = pos 3 }
    ∷ record { column = LoTax; low = pos 1; high = pos 3 } ∷ [])))
    ≡ codes "refused 69 Overflow at 4: 0..9 from lo_extendedprice 0..3, lo_tax 1..3"
unfolding digits refusal_text reason_text column_of
of_two_columns = refl

by_a_line : refusal_text (BadShow 1) ≡ codes "refused 70 BadShow at 1"
unfolding digits refusal_text
by_a_line = refl

by_its_cost : refusal_text (TooCostly 10) ≡ codes "refused 71 TooCostly visits 10"
unfolding digits refusal_text
by_its_cost = refl
