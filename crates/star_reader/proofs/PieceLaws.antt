-- A text that comes in pieces has the records, and the first fault, that it has as a whole.
use Rattle.std.{proofs.Common.{◌≡◌, ◌⊎◌, ◌+◌, ◌++◌, ◌∙◌, ℕ, List, [], ◌∷◌, true, false, length, refl, sym, ap, append_assoc, inl, inr}, proofs.lemmas.Bool.{cases_Bool, true≢false}, proofs.lemmas.List.append-nil, specs.List.list_any, specs.Option.option_or}
use Rattle.star_schema.specs.{declared.table.TableId.TableId, Records.ends_line, Records.pieces, Records.records_of}
use Rattle.star_reader.{specs.Pieces.{ended_of, fault_from, joined_pieces, open_of, records_from}, specs.Faults.records_fault, specs.Private.Cut.EndsInLineEnd, proofs.Cuts.{records_ended, records_fault-append}}

ended_open : (text : List ℕ) → ended_of text ++ open_of text ≡ text
unfolding ended_of open_of
ended_open [] = refl
ended_open (b ∷ text) = elim (cases_Bool (list_any ends_line (b ∷ text))) [
  | inl some ↦ rw some (ap (λ (bs : List ℕ). b ∷ bs) (ended_open text))
  | inr none ↦ rw none refl
]

some_ended : (text : List ℕ) → list_any ends_line text ≡ true → ended_of text ≡ [] → ⊥
unfolding ended_of
some_ended [] h e = true≢false (sym h)
some_ended (b ∷ text) h e = let some : b ∷ ended_of text ≡ [] = rw h at e in cc some

ended_is : (text : List ℕ) → (ended_of text ≡ []) ⊎ EndsInLineEnd (ended_of text)
unfolding ended_of
ended_is [] = inl refl
ended_is (b ∷ text) = elim (cases_Bool (list_any ends_line (b ∷ text))) [
  | inl some ↦ rw some (inr (elim (ended_is text) [
    | inl nothing ↦ first b text some nothing
    | inr ended ↦ record {
      front = b ∷ ended.front;
      byte = ended.byte;
      ends = ended.ends;
      is = ap (λ (bs : List ℕ). b ∷ bs) ended.is;
    }
  ]))
  | inr none ↦ rw none (inl refl)
]
  where
    first : (b : ℕ) (text : List ℕ) → list_any ends_line (b ∷ text) ≡ true → ended_of text ≡ []
        → EndsInLineEnd (b ∷ ended_of text)
    first b text some nothing = elim (cases_Bool (list_any ends_line text)) [
      | inl later ↦ absurd (some_ended text later nothing)
      | inr none ↦
          let ends : ends_line b ≡ true = elim (cases_Bool (ends_line b)) [
            | inl ends ↦ ends
            | inr other ↦
                let bad : false ≡ true = rw (other, none) at some in
                absurd (true≢false (sym bad))
          ] in
          rw nothing (record { front = []; byte = b; ends = ends; is = refl })
    ]

ended_cut : (text more : List ℕ)
    → records_of (ended_of text ++ more) ≡ records_of (ended_of text) ++ records_of more
unfolding pieces
ended_cut text more = elim (ended_is text)
    [ inl none ↦ rw none refl | inr ended ↦ records_ended (ended_of text) more ended ]

-- a text behind what was carried, as what has ended and what goes on
gone_on : (carried piece later : List ℕ)
    → carried ++ (piece ++ later)
    ≡ ended_of (carried ++ piece) ++ (open_of (carried ++ piece) ++ later)
gone_on carried piece later =
    sym (append_assoc carried piece later)
    ∙ ap (λ (text : List ℕ). text ++ later) (sym (ended_open (carried ++ piece)))
    ∙ append_assoc (ended_of (carried ++ piece)) (open_of (carried ++ piece)) later

pub any_cut : (carried : List ℕ) (pieces : List (List ℕ))
    → records_from carried pieces ≡ records_of (carried ++ joined_pieces pieces)
unfolding records_from
any_cut carried [] = ap records_of (sym (append-nil carried))
any_cut carried (piece ∷ later) =
    ap (λ (rs : List (List ℕ)). records_of (ended_of (carried ++ piece)) ++ rs)
    (any_cut (open_of (carried ++ piece)) later)
    ∙ sym (ended_cut (carried ++ piece) (open_of (carried ++ piece) ++ joined_pieces later))
    ∙ ap records_of (sym (gone_on carried piece (joined_pieces later)))

pub any_cut_fault : (table : TableId) (most from : ℕ) (carried : List ℕ) (pieces : List (List ℕ))
    → fault_from table most from carried pieces
    ≡ records_fault table most from (records_of (carried ++ joined_pieces pieces))
unfolding fault_from
any_cut_fault table most from carried [] =
    ap (λ (text : List ℕ). records_fault table most from (records_of text))
    (sym (append-nil carried))
any_cut_fault table most from carried (piece ∷ later) =
    let ended : List (List ℕ) = records_of (ended_of (carried ++ piece)) in
    let left : List ℕ = open_of (carried ++ piece) in
    ap (option_or (records_fault table most from ended))
    (any_cut_fault table most (from + length ended) left later)
    ∙ sym (records_fault-append table most from ended (records_of (left ++ joined_pieces later)))
    ∙ ap (records_fault table most from)
    (sym (ended_cut (carried ++ piece) (left ++ joined_pieces later))
    ∙ ap records_of (sym (gone_on carried piece (joined_pieces later))))
