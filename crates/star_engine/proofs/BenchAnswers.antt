-- What is printed of the programs of the thirteen queries is what is printed of the queries.
use Rattle.std.{proofs.Common.{◌≡◌, ◌≤◌, ◌<◌, ◌+◌, ◌++◌, ◌∙◌, ℕ, Bool, true, false, List, [], ◌∷◌, Some, ap, append_assoc, arith, drop, inl, inr, length, refl, subst, sym}, proofs.Math.Bool.{and-true, and_assoc}, proofs.lemmas.List.{append-nil, drop_all, length-append}, specs.Prelude.{◌&&◌, ◌↔◌, IsTrue, codes, Result, Err}, specs.List.{AllByRecursion, slice_get}}
use Rattle.star_common.proofs.Lists.{drop_at_index}
use Rattle.star_schema.specs.Database.{Database}
use Rattle.star_plan.specs.Meaning.{Plan}
use Rattle.star_program.specs.declared.program.Parts.{Parts}
use Rattle.star_compile_laws.specs.Compiled.{compiled}
use Rattle.star_engine.{specs.Bench.{AreSections, IsBenchOver, IsFinding, IsSection, named_quote}, specs.declared.fault.EngineFault.EngineFault, specs.declared.thirteen.BenchmarkQuery.BenchmarkQuery, specs.declared.thirteen.BenchmarkQuery.TheVariants.Q11, specs.declared.thirteen.TheConstants.THIRTEEN, specs.Answered.{Change, IsAnswered, IsWritten}, specs.Executions.quote_over, specs.Notes.quote_line, specs.Queries.{FitsRows, IsPlanOf, fact_rows}, specs.Questions.IsProgramOfQuery, specs.Thirteen.{query_name, query_text}, specs.Private.BenchSteps.IsRunFound, specs.Private.QuerySteps.HasProgramLaws, proofs.QueryAnswers.refusal_shown}
use Rattle.star_engine.specs.declared.fault.EngineFault.TheVariants as engine

-- ---- one query

module _ (most : ℕ) (database : Database) (query : List ℕ) (p : Plan) (meant : IsPlanOf query p)
    (laws : HasProgramLaws most database query p) where
  found_told : (fits : Bool) (text : List ℕ) → IsRunFound database most (compiled p) fits text
      → IsFinding most database query text
  found_told true text (run, told, printed) =
      inl (
        laws.accepted.1 told.accepted,
        rw (printed ∙ told.reported)
            (laws.printed told.yields.s told.yields.ended told.outcome told.yields.told),
      )
  found_told false text (refusal, refused, printed) =
      inr (refusal, refusal_shown most database query p meant laws refusal refused, printed)

  judgement : (fits : Bool) (text : List ℕ) → IsRunFound database most (compiled p) fits text
      → IsTrue fits ↔ FitsRows most database query
  judgement true text (run, told, printed) =
      ((λ is. laws.accepted.1 told.accepted), (λ fits. refl))
  judgement false text (refusal, refused, printed) =
      let told = refusal_shown most database query p meant laws refusal refused in
      ((λ is. absurd (cc)), (λ fits. absurd (told.unfit fits)))

pub section_written : (most : ℕ) (database : Database) (q : BenchmarkQuery) (program : Parts)
    → ((p : Plan) → IsPlanOf (query_text q) p → HasProgramLaws most database (query_text q) p)
    → IsProgramOfQuery (query_text q) program → (fits : Bool) (found section : List ℕ)
    → IsRunFound database most program fits found
    → section ≡ named_quote q (quote_over database program) ++ found
    → IsSection most database q section × (IsTrue fits ↔ FitsRows most database (query_text q))
section_written most database q program judged is fits found section finding printed =
    let query = query_text q in
    let laws = judged is.p is.meant in
    let made : IsRunFound database most (compiled is.p) fits found =
    subst (λ parts. IsRunFound database most parts fits found) is.made finding in
    let quoted = ap (quote_over database) is.made ∙ laws.quoted in (
      record {
        found = found;
        finding = found_told most database query is.p is.meant laws fits found made;
        printed = printed ∙ ap (λ visits. named_quote q visits ++ found) quoted;
      },
      judgement most database query is.p is.meant laws fits found made,
    )

-- ---- one after another

-- whether some queries of the benchmark fit
abbrev pub IsVerdictOn : ℕ → Database → List BenchmarkQuery → (fit : Bool) → Type 0
IsVerdictOn most database qs fit =
    IsTrue fit ↔ AllByRecursion (λ q. FitsRows most database (query_text q)) qs

both_verdicts : {A B : Type 0} (one others : Bool) → (IsTrue one ↔ A) → (IsTrue others ↔ B)
    → IsTrue (one && others) ↔ (A × B)
both_verdicts true others a b = ((λ is. (a.0 refl, b.0 is)), (λ both. b.1 both.1))
both_verdicts false others a b = ((λ is. absurd (cc)), (λ both. a.1 both.0))

module _ (most : ℕ) (database : Database) where
  -- with the sections of the queries that remain the text is that of all
  abbrev pub GoesOn : (all left : List BenchmarkQuery) → (fits : Bool) → (text : List ℕ) → Type 0
  GoesOn all left fits text = (fit : Bool) (rest : List ℕ) → AreSections most database left rest
      → IsVerdictOn most database left fit
      → AreSections most database all (text ++ rest) × IsVerdictOn most database all (fits && fit)

  pub one_section : (all : List BenchmarkQuery) (i : ℕ) (q : BenchmarkQuery) (fits one : Bool)
      (text section : List ℕ) → slice_get all i ≡ Some q → IsSection most database q section
      → (IsTrue one ↔ FitsRows most database (query_text q)) → GoesOn all (drop i all) fits text
      → GoesOn all (drop (i + 1) all) (fits && one) (text ++ section)
  one_section all i q fits one text section at is verdict goes fit rest others verdicts =
      let left : drop i all ≡ q ∷ drop (i + 1) all = drop_at_index all i q at in
      let whole =
      goes (one && fit) (section ++ rest)
      (subst (λ qs. AreSections most database qs (section ++ rest)) (sym left)
      (section, rest, is, others, refl))
      (subst (λ qs. IsVerdictOn most database qs (one && fit)) (sym left)
      (both_verdicts one fit verdict verdicts))
      in (
        subst (AreSections most database all) (sym (append_assoc text section rest)) whole.0,
        subst (IsVerdictOn most database all) (sym (and_assoc fits one fit)) whole.1,
      )

  pub all_sections : (all : List BenchmarkQuery) (i : ℕ) (fits : Bool) (text : List ℕ)
      → length all ≤ i → GoesOn all (drop i all) fits text
      → AreSections most database all text × IsVerdictOn most database all fits
  all_sections all i fits text past goes =
      let none : drop i all ≡ [] = drop_all i all past in
      let whole =
      goes true [] (subst (λ qs. AreSections most database qs []) (sym none) refl)
      (subst (λ qs. IsVerdictOn most database qs true) (sym none) ((λ is. tt), (λ fit. refl))) in (
        subst (AreSections most database all) (append-nil text) whole.0,
        subst (IsVerdictOn most database all) (and-true fits) whole.1,
      )

-- ---- the thirteen

-- their text has a byte
sections_some : (most : ℕ) (database : Database) (q : BenchmarkQuery) (qs : List BenchmarkQuery)
    (text : List ℕ) → AreSections most database (q ∷ qs) text → 0 < length text
sections_some most database q qs text (section, rest, is, others, whole) =
    let quote = quote_line (fact_rows database) in
    let name = named_quote q (fact_rows database) in
    let printed : text ≡ (name ++ is.found) ++ rest = whole ∙ ap (λ p. p ++ rest) is.printed in
    rw printed
    (omega (
      arith,
      length-append (name ++ is.found) rest,
      length-append name is.found,
      length-append (query_name q) (codes " " ++ quote),
    ))

pub bench_some : (most : ℕ) (database : Database) (text : List ℕ)
    → IsBenchOver most database text → 0 < length text
bench_some most database text is = sections_some most database Q11 (drop 1 THIRTEEN) text is

-- a write that failed
pub unwritten : {S A : Type 0} (sink : Change S) (text : List ℕ) (IsText : List ℕ → Type 0)
    (IsDue : EngineFault → Type 0) (result : Result A EngineFault) (fault : EngineFault)
    → result ≡ Err fault → IsText text → IsWritten sink text (Err fault)
    → IsAnswered sink IsText IsDue result
unwritten sink text IsText IsDue result (engine.Write sent) is due section =
    rw is (text, due, section)
unwritten sink text IsText IsDue result _ is due section = absurd section
