-- The first fault of tokens.
use Rattle.std.specs.Prelude.{◌≡◌, ℕ, List, ◌++◌, Result, Ok, Err}
use Rattle.star_query.specs.{declared.tree.Tree.Tree, declared.fault.Fault.Fault, declared.fault.Fault.TheVariants.{Unexpected, TooDeep, TooMany}, declared.fault.ParseError.ParseError, declared.fault.QueryFault.QueryFault, Views.tree_view, Symbols.{Placed, symbols}, Derives.{FirstQueryFault, first_offset}}
use Rattle.star_query.specs.Tree as spec
use Rattle.star_query.specs.declared.fault.ParseError.TheVariants as errors
use Rattle.star_query.specs.declared.fault.QueryFault.TheVariants as faults

-- the tokens have this first fault, before these remaining ones
pub record TokensStopAt (tokens : List Placed) (fault : Fault) (rest : List Placed) : Type 0 where
  pub front : List Placed
  pub cut : tokens ≡ front ++ rest
  pub first : FirstQueryFault (symbols tokens) fault (symbols rest)

-- the fault of tokens whose text has this length; out of memory may come before it
abbrev pub IsTokenFault : List Placed → ℕ → QueryFault → Type 0
IsTokenFault tokens end faults.OutOfMemory = Unit {0}
IsTokenFault tokens end (faults.Unexpected offset) = (rest : List Placed)
    × TokensStopAt tokens Unexpected rest × (offset ≡ first_offset rest end)
IsTokenFault tokens end faults.TooDeep = (rest : List Placed) × TokensStopAt tokens TooDeep rest
IsTokenFault tokens end faults.TooMany = (rest : List Placed) × TokensStopAt tokens TooMany rest
IsTokenFault tokens end _ = ⊥

-- a fault, with its position if it has one
abbrev pub refusal_of : Fault → ℕ → QueryFault
refusal_of Unexpected offset = faults.Unexpected offset
refusal_of TooDeep offset = faults.TooDeep
refusal_of TooMany offset = faults.TooMany

abbrev pub query_fault : ParseError → ℕ → QueryFault
query_fault errors.OutOfMemory offset = faults.OutOfMemory
query_fault (errors.Fault f) offset = refusal_of f offset

-- the answer is this tree, unless memory ran out
abbrev pub IsTreeRead : spec.Tree → Result Tree QueryFault → Type 0
IsTreeRead t (Ok x) = tree_view x ≡ t
IsTreeRead t (Err faults.OutOfMemory) = Unit {0}
IsTreeRead t (Err _) = ⊥
