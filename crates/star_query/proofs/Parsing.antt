-- A query from its tokens and from its text.
use Rattle.std.{proofs.Common.{◌≡◌, ◌∙◌, ℕ, ◌-◌, ◌≤◌, List, [], ◌∷◌, ◌++◌, map, length, take, drop, Ok, Err, refl, sym, ap, subst, arith, length-append}, specs.List.drop-map, proofs.Math.Seq.drop-append_seam, proofs.lemmas.List.{length-map, take-append-drop}}
use Rattle.star_query.{specs.declared.token.Token.Token, specs.declared.fault.Fault.Fault, specs.declared.fault.Fault.TheVariants.{Unexpected, TooDeep, TooMany}, specs.declared.fault.ParseError.ParseError, specs.declared.fault.QueryFault.QueryFault, specs.declared.tree.Tree.Tree, specs.declared.counts.Counts.Counts, specs.Symbols.{Symbol, Placed, symbols}, specs.Private.Lexed.{placed, symbol_of, IsCutFault, IsLexical}, specs.Private.Cut.cut_of, specs.Private.Machine.{Bad, begin, nothing_counted, run}, specs.Views.tree_view, specs.Private.Reads.{Spot, EndsBad}, specs.Private.Clauses.ReadsQuery, specs.Derives.{symbols_at, Derives, FirstQueryFault, Means, StopsAt, IsFirstQueryFault, first_offset}, specs.Private.TokenFaults.{TokensStopAt, IsTokenFault, refusal_of, query_fault, IsTreeRead}, proofs.Cuts.{one_cut, tokens_make_text, stop_cuts}, proofs.Verdicts.{verdict_of, derives, one_tree, first_fault, refuses}}
use Rattle.star_query.specs.declared.fault.ParseError.TheVariants as errors
use Rattle.star_query.specs.declared.fault.QueryFault.TheVariants as faults
use Rattle.star_query.specs.Tree as tree

pub spot_symbols : (ts : List Token)
    → map (λ t. symbol_of t.kind t.offset) ts ≡ symbols (map placed ts)
spot_symbols [] = refl
spot_symbols (t ∷ ts) = ap (λ l. symbol_of t.kind t.offset ∷ l) (spot_symbols ts)

-- the remaining tokens are found by their number
rest_symbols : (tokens : List Placed) (front rest : List Symbol) → symbols tokens ≡ front ++ rest
    → symbols (drop (length tokens - length rest) tokens) ≡ rest
rest_symbols tokens front rest e =
    let count : length tokens - length rest ≡ length front =
    omega (arith, ap length e, length-map tokens (λ t. t.symbol), length-append front rest) in
    sym (drop-map (λ t. t.symbol) (length tokens - length rest) tokens)
    ∙ ap (drop (length tokens - length rest)) e ∙ ap (λ n. drop n (front ++ rest)) count
    ∙ drop-append_seam front rest

pub stops_at : (tokens : List Placed) (f : Fault) (rest : List Symbol)
    → verdict_of (symbols tokens) ≡ Bad f rest
    → TokensStopAt tokens f (drop (length tokens - length rest) tokens)
stops_at tokens f rest e =
    let first = first_fault (symbols tokens) f rest e in
    let n = length tokens - length rest in
    record {
      front = take n tokens;
      cut = sym (take-append-drop n tokens);
      first = subst (FirstQueryFault (symbols tokens) f)
          (sym (rest_symbols tokens (symbols_at first.front) rest first.cut)) first;
    }

pub token_fault : (tokens : List Placed) (f : Fault) (rest : List Symbol) (offset end : ℕ)
    → verdict_of (symbols tokens) ≡ Bad f rest
    → offset ≡ first_offset (drop (length tokens - length rest) tokens) end
    → IsTokenFault tokens end (refusal_of f offset)
token_fault tokens it rest offset end e at = grind (arith, stops_at)

pub no_tree : (xs : List Symbol) (f : Fault) (rest : List Symbol) (offset : ℕ) (t : tree.Tree)
    → verdict_of xs ≡ Bad f rest → Derives xs t → IsTreeRead t (Err (refusal_of f offset))
no_tree xs Unexpected rest offset t e d = refuses xs Unexpected rest t e d
no_tree xs TooDeep rest offset t e d = refuses xs TooDeep rest t e d
no_tree xs TooMany rest offset t e d = refuses xs TooMany rest t e d

-- the text means a tree of its tokens
pub meant : (bytes : List ℕ) (tokens : List Placed) (t : tree.Tree) → cut_of bytes ≡ Ok tokens
    → Means bytes t → Derives (symbols tokens) t
meant bytes tokens t cut m =
    subst (λ ts. Derives (symbols ts) t)
    (one_cut bytes m.tokens tokens m.cut ((tokens_make_text bytes tokens).0 cut)) m.derives

fresh : (ts : List Token) (n : Counts) → n ≡ nothing_counted
    → run (map (λ t. symbol_of t.kind t.offset) ts) begin n ≡ verdict_of (symbols (map placed ts))
fresh ts n e =
    ap (run (map (λ t. symbol_of t.kind t.offset) ts) begin) e
    ∙ ap (λ l. run l begin nothing_counted) (spot_symbols ts)

-- what the parser of tokens read
pub tokens_derive : (ts : List Token) (n : Counts) (new : Spot) (t : Tree) → n ≡ nothing_counted
    → ReadsQuery (record { rest = map (λ t. symbol_of t.kind t.offset) ts; counts = n }) new (Ok t)
    → Derives (symbols (map placed ts)) (tree_view t)
tokens_derive ts n new t e reads =
    subst (Derives (symbols (map placed ts))) reads.1
    (derives (symbols (map placed ts)) reads.0 (sym (fresh ts n e) ∙ reads.2))

pub tokens_read : (ts : List Token) (n : Counts) (new : Spot) (t : Tree) → n ≡ nothing_counted
    → ReadsQuery (record { rest = map (λ t. symbol_of t.kind t.offset) ts; counts = n }) new (Ok t)
    → (u : tree.Tree) → Derives (symbols (map placed ts)) u → tree_view t ≡ u
tokens_read ts n new t e reads u d =
    one_tree (symbols (map placed ts)) (tree_view t) u (tokens_derive ts n new t e reads) d

rest_length : (rest : List Token) → length (map (λ t. symbol_of t.kind t.offset) rest) ≡ length rest
rest_length rest = length-map rest (λ t. symbol_of t.kind t.offset)

pub tokens_fault : (ts rest : List Token) (n : Counts) (f : Fault) (offset end passed : ℕ)
    → n ≡ nothing_counted → run (map (λ t. symbol_of t.kind t.offset) ts) begin n
    ≡ Bad f (map (λ t. symbol_of t.kind t.offset) rest) → passed ≡ length ts - length rest
    → offset ≡ first_offset (drop passed (map placed ts)) end
    → IsTokenFault (map placed ts) end (refusal_of f offset)
tokens_fault ts rest n f offset end passed e bad behind at =
    grind (arith, length-map, rest_length, token_fault, fresh)

pub tokens_no_tree : (ts rest : List Token) (n : Counts) (f : Fault) (offset : ℕ) (u : tree.Tree)
    → n ≡ nothing_counted → run (map (λ t. symbol_of t.kind t.offset) ts) begin n
    ≡ Bad f (map (λ t. symbol_of t.kind t.offset) rest) → Derives (symbols (map placed ts)) u
    → IsTreeRead u (Err (refusal_of f offset))
tokens_no_tree ts rest n f offset u e bad d =
    no_tree (symbols (map placed ts)) f (map (λ t. symbol_of t.kind t.offset) rest) offset u
    (sym (fresh ts n e) ∙ bad) d

-- a query and its text
pub means_tokens : (bytes : List ℕ) (tokens : List Placed) (t : tree.Tree) → length bytes ≤ 65536
    → cut_of bytes ≡ Ok tokens → Derives (symbols tokens) t → Means bytes t
means_tokens bytes tokens t short cut d = grind (arith, tokens_make_text, derives)

-- the parser's answer of an error
pub error_fault : (ts rest : List Token) (n m : Counts) (error : ParseError) (offset end passed : ℕ)
    → n ≡ nothing_counted → EndsBad error
    (record { rest = map (λ t. symbol_of t.kind t.offset) rest; counts = m })
    (run (map (λ t. symbol_of t.kind t.offset) ts) begin n) → passed ≡ length ts - length rest
    → offset ≡ first_offset (drop passed (map placed ts)) end
    → IsTokenFault (map placed ts) end (query_fault error offset)
error_fault ts rest n m errors.OutOfMemory offset end passed e bad behind at = tt
error_fault ts rest n m (errors.Fault f) offset end passed e bad behind at =
    tokens_fault ts rest n f offset end passed e bad behind at

pub error_no_tree : (ts rest : List Token) (n m : Counts) (error : ParseError) (offset : ℕ)
    (u : tree.Tree) → n ≡ nothing_counted
    → EndsBad error (record { rest = map (λ t. symbol_of t.kind t.offset) rest; counts = m })
    (run (map (λ t. symbol_of t.kind t.offset) ts) begin n) → Derives (symbols (map placed ts)) u
    → IsTreeRead u (Err (query_fault error offset))
error_no_tree ts rest n m errors.OutOfMemory offset u e bad d = tt
error_no_tree ts rest n m (errors.Fault f) offset u e bad d =
    tokens_no_tree ts rest n f offset u e bad d

-- the first fault of the tokens is the text's
pub stopped : (bytes : List ℕ) (tokens rest : List Placed) (fault : Fault) → length bytes ≤ 65536
    → cut_of bytes ≡ Ok tokens → TokensStopAt tokens fault rest → StopsAt bytes fault rest
stopped bytes tokens rest fault short cut s = grind (arith, tokens_make_text)

pub fault_of_tokens : (bytes : List ℕ) (tokens : List Placed) (fault : QueryFault)
    → length bytes ≤ 65536 → cut_of bytes ≡ Ok tokens → IsTokenFault tokens (length bytes) fault
    → IsFirstQueryFault bytes fault
fault_of_tokens bytes tokens faults.OutOfMemory short cut is = tt
fault_of_tokens bytes tokens (faults.Unexpected offset) short cut is =
    (is.0, stopped bytes tokens is.0 Unexpected short cut is.1, is.2)
fault_of_tokens bytes tokens faults.TooDeep short cut is =
    (is.0, stopped bytes tokens is.0 TooDeep short cut is.1)
fault_of_tokens bytes tokens faults.TooMany short cut is =
    (is.0, stopped bytes tokens is.0 TooMany short cut is.1)
fault_of_tokens bytes tokens _ short cut is = absurd is

-- a text that means a tree can be cut
not_cut : (bytes : List ℕ) (tokens : List Placed) (fault : QueryFault) → cut_of bytes ≡ Ok tokens
    → cut_of bytes ≡ Err fault → ⊥
not_cut bytes tokens fault e f = cc

pub cut_is_memory : (bytes : List ℕ) (t : tree.Tree) (fault : QueryFault) → Means bytes t
    → IsCutFault bytes fault → IsLexical fault → fault ≡ faults.OutOfMemory
cut_is_memory bytes t it m e lexical = grind (arith, not_cut, tokens_make_text)

-- the faults of the cut are faults of the text
pub fault_of_text : (bytes : List ℕ) (fault : QueryFault) → length bytes ≤ 65536
    → IsCutFault bytes fault → IsLexical fault → IsFirstQueryFault bytes fault
fault_of_text bytes it short e lexical = grind (arith, stop_cuts)

-- what a tree isn't read for is want of memory
pub not_read : (t : tree.Tree) (fault : QueryFault) → IsTreeRead t (Err fault)
    → fault ≡ faults.OutOfMemory
not_read t faults.OutOfMemory e = refl
not_read t faults.TooLong e = absurd e
not_read t _ e = absurd e
