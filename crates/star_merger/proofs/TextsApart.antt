-- The text of a partial prints its contents.
use Rattle.std.{proofs.Common.{◌≡◌, ◌<◌, ◌^◌, ◌∙◌, ◌++◌, ℕ, zero, suc, ℤ, pos, List, [], ◌∷◌, None, Option, Some, ap, append_assoc, arith, codes, get_or, length, refl, subst, sym}, proofs.lemmas.List.append_cancel_left, proofs.lemmas.List.Elements.{All-head, All-tail}, specs.Char.digit_value, specs.Fmt.{decimal, signed_decimal}, specs.List.{All, flat_map, slice_get}, specs.Prelude.{IfSome, Ok, Result}}
use Rattle.hex.{specs.Hex.{IsBytes, decode_of, encode_lower, lower_digits}, proofs.HexLemmas.{decode_of-encode_lower, length-encode_with}}
use Rattle.star_interval.specs.Range.{Range}
use Rattle.star_schema.{specs.declared.column.ColumnId.ColumnId, specs.declared.column.Kind.Kind, specs.declared.table.TableId.TableId, specs.declared.table.TheConstants.TABLES, specs.Schema.{column_name, columns_of, kind_of, position_of, table_name, table_of}, specs.declared.table.TableId.TheVariants.{Date, Customer, Supplier, Part, Lineorder}, proofs.Indexes.at_position}
use Rattle.star_schema.specs.declared.column.Kind.TheVariants as kind
use Rattle.star_program.specs.declared.outcome.Outcome.{Outcome}
use Rattle.star_report.{specs.Columns.{ColumnKind, HasDigits}, specs.Report.report_text, proofs.Bytes.{Lacks, split_first}, proofs.Lines.report_same, proofs.Numbers.{number_lacks, number_same}}
use Rattle.star_partial.specs.{declared.partial.Span.Span, Contents.Contents, Counts.counts_line, Listing.{bounds_line, column_text, listing_text, table_line, table_text}, Text.{digest_line, partial_text, query_text, rows_line, run_text, span_line}}
use Rattle.star_merger.specs.Spelled.{IsSpelled, IsSpelledRun, IsSpelledSpan}

-- ---- numbers before a byte that is no digit

-- a byte that is no digit and no minus
pub record IsApart (b : ℕ) : Type 0 where
  pub digit : digit_value b < 10 → ⊥
  pub minus : 45 ≡ b → ⊥

-- what begins with these and ends alike is the same in both
pub record AreSame {A : Type 0} (x y : A) (us vs : List ℕ) : Type 0 where
  pub first : x ≡ y
  pub rest : us ≡ vs

at_end : IsApart 10
at_end = record { digit = λ h. absurd (omega arith); minus = λ h. absurd (omega arith) }

at_space : IsApart 32
at_space = record { digit = λ h. absurd (omega arith); minus = λ h. absurd (omega arith) }

at_dot : IsApart 46
at_dot = record { digit = λ h. absurd (omega arith); minus = λ h. absurd (omega arith) }

-- the same word first
word : (w xs ys us vs : List ℕ) → (w ++ xs) ++ us ≡ (w ++ ys) ++ vs → xs ++ us ≡ ys ++ vs
word w xs ys us vs e =
    append_cancel_left w (xs ++ us) (ys ++ vs)
    (sym (append_assoc w xs us) ∙ e ∙ append_assoc w ys vs)

-- a number first
number_before : (b : ℕ) → IsApart b → (y z : ℤ) (xs ys us vs : List ℕ) → HasDigits y → HasDigits z
    → (signed_decimal y ++ b ∷ xs) ++ us ≡ (signed_decimal z ++ b ∷ ys) ++ vs
    → AreSame y z (xs ++ us) (ys ++ vs)
number_before b apart y z xs ys us vs h k e =
    let parts = split_first b (signed_decimal y) (signed_decimal z) (xs ++ us) (ys ++ vs)
    (number_lacks b y h apart.digit apart.minus) (number_lacks b z k apart.digit apart.minus)
    (sym (append_assoc (signed_decimal y) (b ∷ xs) us) ∙ e
    ∙ append_assoc (signed_decimal z) (b ∷ ys) vs) in
    record { first = number_same y z h k parts.0; rest = parts.1 }

count_before : (b : ℕ) → IsApart b → (m n : ℕ) (xs ys us vs : List ℕ) → m < 10 ^ 64 → n < 10 ^ 64
    → (decimal m ++ b ∷ xs) ++ us ≡ (decimal n ++ b ∷ ys) ++ vs → AreSame m n (xs ++ us) (ys ++ vs)
count_before b apart m n xs ys us vs h k e =
    let parts = number_before b apart (pos m) (pos n) xs ys us vs h k e in
    let same : pos m ≡ pos n = parts.first in
    record { first = cc; rest = parts.rest }

-- ---- the digest

as_long : (xs ys us vs : List ℕ) → length xs ≡ length ys → xs ++ us ≡ ys ++ vs → AreSame xs ys us vs
as_long [] [] us vs l e = record { first = refl; rest = e }
as_long [] (y ∷ ys) us vs l e = absurd (omega (arith, l))
as_long (x ∷ xs) [] us vs l e = absurd (omega (arith, l))
as_long (x ∷ xs) (y ∷ ys) us vs l e =
    let head : x ≡ y = cc in
    let tail : xs ++ us ≡ ys ++ vs = cc in
    let parts = as_long xs ys us vs (omega (arith, l)) tail in
    let same = parts.first in
    record { first = cc; rest = parts.rest }

ok_same : {E : Type 0} (x y : List ℕ) (r s : Result (List ℕ) E) → r ≡ Ok x → s ≡ Ok y → r ≡ s
    → x ≡ y
ok_same x y r s h k e = cc

hex_same : (xs ys : List ℕ) → IsBytes xs → IsBytes ys → encode_lower xs ≡ encode_lower ys → xs ≡ ys
hex_same xs ys h k e =
    ok_same xs ys (decode_of (encode_lower xs)) (decode_of (encode_lower ys))
    (decode_of-encode_lower xs h) (decode_of-encode_lower ys k) (ap decode_of e)

are_bytes : (xs : List ℕ) → All (λ b. b < 2 ^ 8) xs → IsBytes xs
are_bytes [] all i = omega arith
are_bytes (x ∷ xs) all zero = All-head (λ b. b < 2 ^ 8) x xs all
are_bytes (x ∷ xs) all (suc i) = are_bytes xs (All-tail (λ b. b < 2 ^ 8) x xs all) i

digest_cut : (xs ys us vs : List ℕ) → IsBytes xs → IsBytes ys → length xs ≡ 32 → length ys ≡ 32
    → digest_line xs ++ us ≡ digest_line ys ++ vs → AreSame xs ys us vs
unfolding digest_line
digest_cut xs ys us vs h k l m e =
    let inner = word (codes "dimensions ") (encode_lower xs ++ codes "\n")
    (encode_lower ys ++ codes "\n") us vs e in
    let parts = as_long (encode_lower xs) (encode_lower ys) (codes "\n" ++ us) (codes "\n" ++ vs)
    (omega (arith, length-encode_with lower_digits xs, length-encode_with lower_digits ys, l, m))
    (sym (append_assoc (encode_lower xs) (codes "\n") us) ∙ inner
    ∙ append_assoc (encode_lower ys) (codes "\n") vs) in
    record {
      first = hex_same xs ys h k parts.first;
      rest = append_cancel_left (codes "\n") us vs parts.rest;
    }

-- ---- the span

-- a text that lacks a byte doesn't begin with it
not_begun : (b : ℕ) (xs ws us : List ℕ) → Lacks b xs → (32 ≡ b → ⊥) → b ∷ us ≡ xs ++ 32 ∷ ws → ⊥
not_begun b [] ws us lacks other e = other (let head : b ≡ 32 = cc in sym head)
not_begun b (x ∷ xs) ws us lacks other e = lacks.0 (let head : b ≡ x = cc in sym head)

no_span : (s : Span) (us vs : List ℕ) → IsSpelledSpan s
    → span_line None ++ us ≡ span_line (Some s) ++ vs → ⊥
unfolding span_line
no_span s us vs h e =
    let inner = word (codes "keys ") (codes "none\n") _ us vs e in
    not_begun 110 (signed_decimal s.low.order) _ _
    (number_lacks 110 s.low.order h.low.order (λ h. absurd (omega arith))
    (λ h. absurd (omega arith)))
    (λ h. absurd (omega arith)) (inner ∙ append_assoc (signed_decimal s.low.order) _ vs)

span_cut : (s t : Option Span) (us vs : List ℕ) → IfSome s IsSpelledSpan → IfSome t IsSpelledSpan
    → span_line s ++ us ≡ span_line t ++ vs → AreSame s t us vs
unfolding span_line
span_cut None None us vs h k e =
    record { first = refl; rest = append_cancel_left (codes "keys none\n") us vs e }
span_cut None (Some t) us vs h k e = absurd (no_span t us vs k e)
span_cut (Some s) None us vs h k e = absurd (no_span s vs us h (sym e))
span_cut (Some s) (Some t) us vs h k e =
    let low = number_before 32 at_space s.low.order t.low.order _ _ us vs h.low.order k.low.order
    (word (codes "keys ") _ _ us vs e) in
    let line = number_before 32 at_space s.low.line t.low.line _ _ us vs h.low.line k.low.line
    low.rest in
    let high = number_before 32 at_space s.high.order t.high.order _ _ us vs h.high.order
    k.high.order line.rest in
    let last = number_before 10 at_end s.high.line t.high.line [] [] us vs h.high.line k.high.line
    high.rest in
    record {
      first = λ i. Some (record {
        low = record { order = low.first i; line = line.first i };
        high = record { order = high.first i; line = last.first i };
      });
      rest = last.rest;
    }

-- ---- the listing

table_cut : (t : TableId) (m n : ℕ) (us vs : List ℕ) → m < 10 ^ 64 → n < 10 ^ 64
    → table_line t m ++ us ≡ table_line t n ++ vs → AreSame m n us vs
unfolding table_line
table_cut t m n us vs h k e =
    count_before 10 at_end m n [] [] us vs h k
    (word (codes " rows ") _ _ us vs
    (word (table_name t) _ _ us vs (word (codes "table ") _ _ us vs e)))

module _ (bounds others : ColumnId → Range)
    (low : (c : ColumnId) → HasDigits (bounds c).low × HasDigits (others c).low)
    (high : (c : ColumnId) → HasDigits (bounds c).high × HasDigits (others c).high)
    (texts : (c : ColumnId) → kind_of c ≡ kind.Text → bounds c ≡ others c) where
  column_cut : (c : ColumnId) (k : Kind) (us vs : List ℕ) → kind_of c ≡ k
      → column_text bounds c k ++ us ≡ column_text others c k ++ vs
      → AreSame (bounds c) (others c) us vs
  unfolding bounds_line
  column_cut c kind.Number us vs is e =
      let least = number_before 46 at_dot (bounds c).low (others c).low _ _ us vs (low c).0
      (low c).1
      (word (codes " ") _ _ us vs (word (column_name c) _ _ us vs e)) in
      let most = number_before 10 at_end (bounds c).high (others c).high [] [] us vs (high c).0
      (high c).1 (word (codes ".") _ _ us vs least.rest) in
      record {
        first = λ i. record { low = least.first i; high = most.first i };
        rest = most.rest;
      }
  column_cut c kind.Text us vs is e = record { first = texts c is; rest = e }

  abbrev columns_text : (ColumnId → Range) → List ColumnId → List ℕ
  columns_text bounds cs = flat_map (λ c. column_text bounds c (kind_of c)) cs

  record AreColumns (cs : List ColumnId) (us vs : List ℕ) : Type 0 where
    each : (c : ColumnId) (n : ℕ) → slice_get cs n ≡ Some c → bounds c ≡ others c
    rest : us ≡ vs

  columns_cut : (cs : List ColumnId) (us vs : List ℕ)
      → columns_text bounds cs ++ us ≡ columns_text others cs ++ vs → AreColumns cs us vs
  columns_cut [] us vs e = record { each = λ c n at. cc; rest = e }
  columns_cut (c ∷ cs) us vs e =
      let here = column_cut c (kind_of c) (columns_text bounds cs ++ us)
      (columns_text others cs ++ vs)
      refl
      (sym (append_assoc (column_text bounds c (kind_of c)) (columns_text bounds cs) us) ∙ e
      ∙ append_assoc (column_text others c (kind_of c)) (columns_text others cs) vs) in
      let rest = columns_cut cs us vs here.rest in
      record { each = by here.first rest.each; rest = rest.rest }
    where
      by : bounds c ≡ others c
          → ((d : ColumnId) (n : ℕ) → slice_get cs n ≡ Some d → bounds d ≡ others d)
          → (d : ColumnId) (n : ℕ) → slice_get (c ∷ cs) n ≡ Some d → bounds d ≡ others d
      by same later d zero at =
          subst (λ d. bounds d ≡ others d) (let head : c ≡ d = cc in head) same
      by same later d (suc n) at = later d n at

  module _ (sizes counts : TableId → ℕ)
      (few : (t : TableId) → (sizes t < 10 ^ 64) × (counts t < 10 ^ 64))
    where
      record IsTold (t : TableId) : Type 0 where
        size : sizes t ≡ counts t
        columns : (c : ColumnId) (n : ℕ) → slice_get (columns_of t) n ≡ Some c → bounds c ≡ others c

      record AreTables (ts : List TableId) (us vs : List ℕ) : Type 0 where
        each : (t : TableId) (n : ℕ) → slice_get ts n ≡ Some t → IsTold t
        rest : us ≡ vs

      record IsTable (t : TableId) (us vs : List ℕ) : Type 0 where
        told : IsTold t
        rest : us ≡ vs

      one_table : (t : TableId) (us vs : List ℕ)
          → table_text sizes bounds t ++ us ≡ table_text counts others t ++ vs → IsTable t us vs
      unfolding table_text
      one_table t us vs e =
          let cs = columns_of t in
          let size = table_cut t (sizes t) (counts t) (columns_text bounds cs ++ us)
          (columns_text others cs ++ vs) (few t).0 (few t).1
          (sym (append_assoc (table_line t (sizes t)) (columns_text bounds cs) us) ∙ e
          ∙ append_assoc (table_line t (counts t)) (columns_text others cs) vs) in
          let columns = columns_cut cs us vs size.rest in
          record {
            told = record { size = size.first; columns = columns.each };
            rest = columns.rest;
          }

      abbrev tables_text : (TableId → ℕ) → (ColumnId → Range) → List TableId → List ℕ
      tables_text sizes bounds ts = flat_map (λ t. table_text sizes bounds t) ts

      tables_cut : (ts : List TableId) (us vs : List ℕ)
          → tables_text sizes bounds ts ++ us ≡ tables_text counts others ts ++ vs
          → AreTables ts us vs
      tables_cut [] us vs e = record { each = λ t n at. absurd (cc at); rest = e }
      tables_cut (t ∷ ts) us vs e =
          let here = one_table t (tables_text sizes bounds ts ++ us)
          (tables_text counts others ts ++ vs)
          (sym (append_assoc (table_text sizes bounds t) (tables_text sizes bounds ts) us) ∙ e
          ∙ append_assoc (table_text counts others t) (tables_text counts others ts) vs) in
          let rest = tables_cut ts us vs here.rest in
          record { each = by here.told rest.each; rest = rest.rest }
        where
          by : IsTold t → ((u : TableId) (n : ℕ) → slice_get ts n ≡ Some u → IsTold u)
              → (u : TableId) (n : ℕ) → slice_get (t ∷ ts) n ≡ Some u → IsTold u
          by told later u zero at = subst IsTold (let head : t ≡ u = cc in head) told
          by told later u (suc n) at = later u n at

      table_told : (us vs : List ℕ) → AreTables TABLES us vs → (t : TableId) → IsTold t
      table_told us vs are Date = are.each Date 0 refl
      table_told us vs are Customer = are.each Customer 1 refl
      table_told us vs are Supplier = are.each Supplier 2 refl
      table_told us vs are Part = are.each Part 3 refl
      table_told us vs are Lineorder = are.each Lineorder 4 refl

      pub record IsListed (us vs : List ℕ) : Type 0 where
        pub sizes_same : sizes ≡ counts
        pub bounds_same : bounds ≡ others
        pub rest : us ≡ vs

      pub listing_cut : (us vs : List ℕ)
          → listing_text sizes bounds ++ us ≡ listing_text counts others ++ vs → IsListed us vs
      unfolding listing_text
      listing_cut us vs e =
          let are = tables_cut TABLES us vs e in
          let told = table_told us vs are in
          record {
            sizes_same = λ i t. (told t).size i;
            bounds_same = λ i c. (told (table_of c)).columns c (position_of c) (at_position c) i;
            rest = are.rest;
          }

-- ---- the run

module _ (names : List (List ℕ)) (kinds : List ColumnKind) where
  outcome_same : (s t : Outcome) → IsSpelledRun names kinds s → IsSpelledRun names kinds t
      → run_text (Some s) ≡ run_text (Some t) → s ≡ t
  unfolding run_text counts_line rows_line
  outcome_same s t h k e =
      let us = rows_line (length s.rows) ++ report_text s.names s.rows in
      let vs = rows_line (length t.rows) ++ report_text t.names t.rows in
      let visits = count_before 32 at_space s.visits t.visits _ _ us vs h.counts.visits
      k.counts.visits
      (word (codes "visits ") _ _ us vs e) in
      let lookups = count_before 32 at_space s.lookups t.lookups _ _ us vs h.counts.lookups
      k.counts.lookups
      (word (codes "lookups ") _ _ us vs visits.rest) in
      let updates = count_before 10 at_end s.updates t.updates [] [] us vs h.counts.updates
      k.counts.updates
      (word (codes "updates ") _ _ us vs lookups.rest) in
      let rows = count_before 10 at_end (length s.rows) (length t.rows) [] []
      (report_text s.names s.rows) (report_text t.names t.rows) h.counts.rows k.counts.rows
      (word (codes "rows ") _ _ (report_text s.names s.rows) (report_text t.names t.rows) updates.rest) in
      let cells = report_same names kinds s.rows t.rows h.cells k.cells
      (ap (λ names. report_text names s.rows) (sym h.named) ∙ rows.rest
      ∙ ap (λ names. report_text names t.rows) k.named) in
      λ i. record {
        names = (h.named ∙ sym k.named) i;
        rows = cells i;
        visits = visits.first i;
        lookups = lookups.first i;
        updates = updates.first i;
      }

  not_run : (t : Outcome) → run_text None ≡ run_text (Some t) → ⊥
  unfolding run_text counts_line
  not_run t e = let first : 114
      ≡ 118 = ap (λ text. get_or text 0 0) e in absurd (omega (arith, first))

  run_same : (s t : Option Outcome) → IfSome s (IsSpelledRun names kinds)
      → IfSome t (IsSpelledRun names kinds) → run_text s ≡ run_text t → s ≡ t
  run_same None None h k e = refl
  run_same None (Some t) h k e = absurd (not_run t e)
  run_same (Some s) None h k e = absurd (not_run s (sym e))
  run_same (Some s) (Some t) h k e = ap Some (outcome_same s t h k e)

-- ---- all

pub contents_same : (query : List ℕ) (names : List (List ℕ)) (kinds : List ColumnKind)
    (contents other : Contents) → IsSpelled names kinds contents → IsSpelled names kinds other
    → partial_text query contents ≡ partial_text query other → contents ≡ other
unfolding partial_text
contents_same query names kinds x y h k e =
    let digest = digest_cut x.digest y.digest _ _ (are_bytes x.digest h.bytes)
    (are_bytes y.digest k.bytes) h.digest k.digest
    (append_cancel_left (query_text query) _ _ e) in
    let span = span_cut x.span y.span _ _ h.span k.span digest.rest in
    let listing = listing_cut x.bounds y.bounds (λ c. ((h.bounds c).low, (k.bounds c).low))
    (λ c. ((h.bounds c).high, (k.bounds c).high))
    (λ c is. (h.bounds c).text is ∙ sym ((k.bounds c).text is)) x.sizes y.sizes
    (λ t. (h.sizes t, k.sizes t))
    (run_text x.run) (run_text y.run) span.rest in
    let run = run_same names kinds x.run y.run h.run k.run listing.rest in
    λ i. record {
      digest = digest.first i;
      span = span.first i;
      sizes = listing.sizes_same i;
      bounds = listing.bounds_same i;
      run = run i;
    }
