-- What a text means, or its first fault, by computing.
use Rattle.std.{proofs.Common.{◌≡◌, ℕ, ◌-◌, ◌≤◌, List, Result, Ok, Err, if◌then◌else◌, drop, length, arith, refl}, specs.Prelude.{Bool, false, true, nat_lt}}
use Rattle.star_query.{specs.declared.fault.Fault.Fault, specs.declared.fault.Fault.TheVariants.{Unexpected, TooDeep, TooMany}, specs.declared.fault.QueryFault.QueryFault, specs.Symbols.{Placed, Symbol, symbols}, specs.Maxima.most_bytes, specs.Private.Cut.cut_of, specs.Private.Phrases.query_tree, specs.Tree.Tree, specs.Private.Machine.{Verdict, Whole, Bad}, specs.Derives.{IsFirstQueryFault, Means, StopsAt, first_offset}, proofs.Cuts.stop_cuts, proofs.Parsing.{means_tokens, stopped, stops_at}, proofs.Verdicts.{derives, verdict_of}}
use Rattle.star_query.specs.declared.fault.QueryFault.TheVariants as faults

-- ---- what is said of a text

pub data TextResult : Type 0 where
  nothing : TextResult
  means : Tree → TextResult
  fault : QueryFault → TextResult

abbrev pub Says : List ℕ → TextResult → Type 0
Says bytes nothing = Unit {0}
Says bytes (means tree) = Means bytes tree
Says bytes (fault f) = IsFirstQueryFault bytes f

-- the remaining tokens are the last ones
abbrev rest_of : List Placed → List Symbol → List Placed
rest_of tokens rest = drop (length tokens - length rest) tokens

abbrev tokens_result : ℕ → List Placed → Verdict → TextResult
tokens_result end tokens (Whole q) = means (query_tree q)
tokens_result end tokens (Bad Unexpected rest) =
    fault (faults.Unexpected (first_offset (rest_of tokens rest) end))
tokens_result end tokens (Bad TooDeep rest) = fault faults.TooDeep
tokens_result end tokens (Bad TooMany rest) = fault faults.TooMany

abbrev cut_result : ℕ → Result (List Placed) QueryFault → TextResult
cut_result end (Ok tokens) = tokens_result end tokens (verdict_of (symbols tokens))
cut_result end (Err (faults.BadCharacter offset)) = fault (faults.BadCharacter offset)
cut_result end (Err (faults.BadNumber offset)) = fault (faults.BadNumber offset)
cut_result end (Err (faults.OpenText offset)) = fault (faults.OpenText offset)
cut_result end (Err _) = nothing

abbrev pub text_result : List ℕ → TextResult
text_result bytes = if nat_lt most_bytes (length bytes) then fault faults.TooLong
    else cut_result (length bytes) (cut_of bytes)

-- ---- it holds

module _ (bytes : List ℕ) (tokens : List Placed) (short : length bytes ≤ most_bytes)
    (cut : cut_of bytes ≡ Ok tokens) where
  stops : (f : Fault) (rest : List Symbol) → verdict_of (symbols tokens) ≡ Bad f rest
      → StopsAt bytes f (rest_of tokens rest)
  stops f rest e = stopped bytes tokens _ f short cut (stops_at tokens f rest e)

  verdict_holds : (v : Verdict) → verdict_of (symbols tokens) ≡ v
      → Says bytes (tokens_result (length bytes) tokens v)
  verdict_holds (Whole q) e = means_tokens bytes tokens _ short cut (derives _ _ e)
  verdict_holds (Bad Unexpected rest) e =
      (rest_of tokens rest, stops Unexpected rest e, refl)
  verdict_holds (Bad TooDeep rest) e = (rest_of tokens rest, stops TooDeep rest e)
  verdict_holds (Bad TooMany rest) e = (rest_of tokens rest, stops TooMany rest e)

cut_holds : (bytes : List ℕ) → length bytes ≤ most_bytes → (c : Result (List Placed) QueryFault)
    → cut_of bytes ≡ c → Says bytes (cut_result (length bytes) c)
cut_holds bytes short (Ok tokens) e = verdict_holds bytes tokens short e _ refl
cut_holds bytes short (Err (faults.BadCharacter offset)) e =
    (short, (stop_cuts bytes (faults.BadCharacter offset)).0 e)
cut_holds bytes short (Err (faults.BadNumber offset)) e =
    (short, (stop_cuts bytes (faults.BadNumber offset)).0 e)
cut_holds bytes short (Err (faults.OpenText offset)) e =
    (short, (stop_cuts bytes (faults.OpenText offset)).0 e)
cut_holds bytes short (Err _) e = tt

pub holds : (bytes : List ℕ) → Says bytes (text_result bytes)
holds bytes = by_length (nat_lt most_bytes (length bytes)) refl
  where
    by_length : (b : Bool) → nat_lt most_bytes (length bytes) ≡ b
        → Says bytes (if b then fault faults.TooLong else cut_result (length bytes) (cut_of bytes))
    by_length true e = grind (arith, e)
    by_length false e = cut_holds bytes (grind (arith, e)) (cut_of bytes) refl
