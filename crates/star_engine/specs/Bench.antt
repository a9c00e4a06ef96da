-- The text of `bench`: for each query of the benchmark its quote, then its report or its refusal.
use Rattle.std.specs.{Prelude.{◌≡◌, ◌++◌, ◌⊎◌, ℕ, List, [], ◌∷◌, codes}, List.AllByRecursion}
use Rattle.star_schema.specs.Database.{Database, TableTexts}
use Rattle.star_verify.specs.{declared.refusal.Refusal.Refusal, RefusalTexts.refusal_text}
use Rattle.star_query_meaning.specs.Reports.{IsReport}
use Rattle.star_engine.specs.{declared.thirteen.BenchmarkQuery.BenchmarkQuery, declared.thirteen.TheConstants.THIRTEEN, Loads.HoldsOfRows, Notes.quote_line, Queries.FitsRows, Queries.IsQueryRefusal, Queries.fact_rows, Thirteen.query_name, Thirteen.query_text}

abbrev pub refusal_line : Refusal → List ℕ
refusal_line refusal = refusal_text refusal ++ codes "\n"

-- the result of a query: its report if it fits, otherwise the line of its refusal
abbrev pub IsFinding : (most : ℕ) → Database → (query text : List ℕ) → Type 0
IsFinding most database query text =
    (FitsRows most database query × IsReport database query text)
    ⊎ ((refusal : Refusal) × IsQueryRefusal most database query refusal
    × (text ≡ refusal_line refusal))

-- the quote of a query with the query's name
abbrev pub named_quote : BenchmarkQuery → ℕ → List ℕ
named_quote q visits = query_name q ++ (codes " " ++ quote_line visits)

-- the section of a query
pub record IsSection (most : ℕ) (database : Database) (q : BenchmarkQuery)
    (section : List ℕ) : Type 0 where
  pub found : List ℕ
  pub finding : IsFinding most database (query_text q) found
  pub printed : section ≡ named_quote q (fact_rows database) ++ found

-- a text that consists of a section for each of some queries, in order
abbrev pub AreSections : ℕ → Database → List BenchmarkQuery → List ℕ → Type 0
AreSections most database [] text = text ≡ []
AreSections most database (q ∷ qs) text =
    (section : List ℕ) × (rest : List ℕ) × IsSection most database q section × AreSections most database qs rest
    × (text ≡ section ++ rest)

-- the sections of the thirteen queries over the rows of five tables
abbrev pub IsBenchOver : ℕ → Database → List ℕ → Type 0
IsBenchOver most database text = AreSections most database THIRTEEN text

-- over five texts
abbrev pub IsBench : (rows most : ℕ) → TableTexts → List ℕ → Type 0
IsBench rows most texts text = HoldsOfRows rows texts (λ database. IsBenchOver most database text)

-- each of the thirteen queries fits
abbrev pub AllFit : ℕ → Database → Type 0
AllFit most database = AllByRecursion (λ q. FitsRows most database (query_text q)) THIRTEEN
