-- The context of an instruction from its enclosing scans and the instructions before it.
use Rattle.std.specs.{Prelude.{◌≡◌, ℕ, ◌+◌, ◌*◌, Bool, true, false, ◌&&◌, nat_lt, List, [], ◌∷◌, ◌++◌, length, filter, fold, Option, Some, None}, List.{last_or, list_all, list_any}, Option.option_map}
use Rattle.star_program.specs.{declared.program.Parts.Parts, World.World, Faults.target_of}
use Rattle.star_safety.specs.{Contexts.{Context, op_shares, op_key_shares, result_known, is_target}, Standing.{CodeItem, Scan, Act, BodyEnd, Enclosing, Standing, instructions_of, has_scan}, Ranges.{Known, KnownRow, KnownFlag}, Tallies.{Shares, no_shares}}

-- ---- each instruction

abbrev item_is_instruction : CodeItem → Bool
item_is_instruction BodyEnd = false
item_is_instruction _ = true

abbrev pub is_instruction : Standing → Bool
is_instruction i = item_is_instruction i.item

abbrev item_target : CodeItem → Option ℕ
item_target (Act op) = target_of op
item_target (Scan table r) = Some r
item_target BodyEnd = None

-- the instruction writes a register
abbrev pub writes_to : ℕ → Standing → Bool
writes_to r i = is_target (item_target i.item) r

abbrev item_result : World → Parts → Context → CodeItem → Known
item_result w parts x (Act op) = result_known w parts x op
item_result w parts x (Scan table r) = KnownRow table
item_result w parts x BodyEnd = KnownFlag

-- the facts of that register afterwards
abbrev pub standing_result : World → Parts → Standing → Known
standing_result w parts i = item_result w parts i.context i.item

abbrev item_shares : Parts → Context → CodeItem → Shares
item_shares parts x (Act op) = op_shares parts x op
item_shares parts x _ = no_shares

-- its contributions to the groups
abbrev pub shares_of : Parts → Standing → Shares
shares_of parts i = item_shares parts i.context i.item

abbrev pub item_key_shares : Context → CodeItem → Shares
item_key_shares x (Act op) = op_key_shares x op
item_key_shares x _ = no_shares

-- the contributions of some instructions to a key of a group
abbrev pub key_shares_together : List Standing → Shares
key_shares_together is g index =
    fold (λ so_far i. item_key_shares i.context i.item g index ++ so_far) [] is

-- the contributions of some instructions to an aggregate of a group
abbrev pub shares_together : Parts → List Standing → Shares
shares_together parts is g a = fold (λ so_far i. shares_of parts i g a ++ so_far) [] is

-- ---- scans

-- the product of the row counts of the tables of some scans
abbrev pub rows_together : World → List Enclosing → ℕ
rows_together w [] = 1
rows_together w (s ∷ ss) = rows_together w ss * w.size s.table

abbrev item_turns : World → List Enclosing → CodeItem → ℕ
item_turns w round (Scan table r) = rows_together w round * w.size table
item_turns w round _ = 0

-- how many visits a scan makes at most: one for each row of its table and each execution
abbrev pub turns_of : World → Standing → ℕ
turns_of w i = item_turns w i.round i.item

abbrev pub item_scope : ℕ → List Enclosing → CodeItem → List Enclosing
item_scope at round (Scan table r) = record { number = at; table = table } ∷ round
item_scope at round _ = round

-- the scans in which the register that it writes is in scope: the enclosing ones, and a scan itself
abbrev pub scope_of : Standing → List Enclosing
scope_of i = item_scope i.number i.round i.item

-- the register that it writes is in scope inside these scans
abbrev pub is_in_scope : List Enclosing → Standing → Bool
is_in_scope scans i = list_all (λ s. has_scan scans s.number) (scope_of i)

-- ---- the context, from the enclosing scans and the instructions before

-- the last of some instructions that writes the register, if that is in scope
abbrev pub last_writer : List Enclosing → ℕ → List Standing → Option Standing
last_writer scans r is = last_or None (filter (λ j. writes_to r j && is_in_scope scans j) is)

pub record IsTold (w : World) (parts : Parts) (earlier : List Standing) (i : Standing) : Type 0
  where
    pub number : i.number ≡ length (filter is_instruction earlier) + 1
    pub inside : i.context.inside ≡ nat_lt 0 (length i.round)
    pub met : i.context.met ≡ rows_together w i.round
    -- in scope or not
    pub written : (r : ℕ) → i.context.written r ≡ list_any (writes_to r) earlier
    pub known : (r : ℕ) → i.context.known r
        ≡ option_map (standing_result w parts) (last_writer i.round r earlier)
    pub so_far : (g index : ℕ) → i.context.so_far g index ≡ shares_together parts earlier g index
    pub keys_so_far : (g index : ℕ)
        → i.context.keys_so_far g index ≡ key_shares_together earlier g index

-- this holds of each instruction, and of each end
abbrev pub AreTold : World → Parts → Type 0
AreTold w parts =
    (earlier later : List Standing) (i : Standing) → instructions_of w parts ≡ earlier ++ i ∷ later
    → IsTold w parts earlier i
