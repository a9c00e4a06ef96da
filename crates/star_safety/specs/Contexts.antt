-- The context of an instruction: the enclosing scans, what was written and put before, and the
-- register facts.
use Rattle.std.specs.Prelude.{ℕ, ◌*◌, pos, Bool, true, false, ◌||◌, nat_eq, List, [], ◌∷◌, ◌++◌, map, slice_index_or, Option, Some, None, if◌then◌else◌}
use Rattle.star_schema.specs.declared.{table.TableId.TableId, group.Aggregate.Aggregate}
use Rattle.star_interval.specs.Range.{only}
use Rattle.star_program.specs.{declared.group.GroupDecl.GroupDecl, declared.op.Op.Op, declared.op.Op.TheVariants.{Assign, Put}, declared.op.Operation.Operation, declared.program.Parts.Parts, declared.op.Operation.TheVariants.{Const, Edge, Load, Find, Binary, Read}, Code.{Code, Stop, Then, Each}, World.{World, is_text}, Values.with_entry, Faults.{group_at, target_of}, Puts.{aggregate_at, aligned}}
use Rattle.star_safety.specs.{Ranges.{Known, KnownPlace, KnownRow, KnownFlag, AllKnown, range_at, reach_at, known_number, loaded_known, answer_known}, Tallies.{Share, Shares, no_shares, read_range}}

pub record Context : Type 0 where
  -- whether it is inside a scan
  pub inside : Bool
  -- how often it is executed at most: the product of the row counts of the enclosing scans
  pub met : ℕ
  -- the facts of the registers in scope
  pub known : AllKnown
  -- the targets of earlier instructions, in scope or not
  pub written : ℕ → Bool
  -- the contributions of earlier puts to the aggregates of groups
  pub so_far : Shares
  -- and to the keys, by index
  pub keys_so_far : Shares

-- at the first instruction
abbrev pub at_first : Context
at_first = record {
  inside = false;
  met = 1;
  known = λ r. None;
  written = λ r. false;
  so_far = no_shares;
  keys_so_far = no_shares;
}

-- ---- puts

-- the facts of a put's numbers, one for each aggregate of its group; for COUNT the number is 1
abbrev pub put_known : GroupDecl → AllKnown → List ℕ → List (Option Known)
put_known d known values = aligned (Some (known_number (only (pos 1)))) d.aggregates (map known values)

abbrev pub known_share : ℕ → Option Known → Share
known_share met k = record { met = met; range = range_at k; reach = reach_at k }

-- the contribution of one put to an aggregate
abbrev pub put_share : Parts → Context → ℕ → List ℕ → ℕ → Share
put_share parts x g vs a =
    known_share x.met (slice_index_or (put_known (group_at parts g) x.known vs) a None)

-- the contribution of an instruction to each aggregate: of a put one share, of any other none
abbrev pub op_shares : Parts → Context → Op → Shares
op_shares parts x (Put g ks vs) h a = if nat_eq h g then put_share parts x g vs a ∷ [] else []
op_shares parts x _ h a = []

-- the contribution of one put to a key
abbrev pub key_share : Context → List ℕ → ℕ → Share
key_share x ks index = known_share x.met (x.known (slice_index_or ks index 0))

-- the contribution of an instruction to each key: of a put one share, of any other none
abbrev pub op_key_shares : Context → Op → Shares
op_key_shares x (Put g ks vs) h index = if nat_eq h g then key_share x ks index ∷ [] else []
op_key_shares x _ h index = []

-- ---- after an instruction

-- an aggregate of a group, both by number
abbrev pub aggregate_in_group : Parts → ℕ → ℕ → Aggregate
aggregate_in_group parts g a = aggregate_at (group_at parts g).aggregates a

-- the facts of an operation's result
abbrev pub operation_known : World → Parts → Context → Operation → Known
operation_known w parts x (Const n) = known_number (only n)
operation_known w parts x (Edge e c text) = KnownPlace c
operation_known w parts x (Load c r) = loaded_known w c (is_text c)
operation_known w parts x (Find table k) = KnownRow table
operation_known w parts x (Binary o l r) = answer_known o (x.known l) (x.known r)
operation_known w parts x (Read g a n) =
    known_number (read_range (aggregate_in_group parts g a) (x.so_far g a) (only n))
operation_known w parts x _ = KnownFlag

-- the facts of an instruction's target
abbrev pub result_known : World → Parts → Context → Op → Known
result_known w parts x (Assign t o) = operation_known w parts x o
result_known w parts x _ = KnownFlag

abbrev pub learned : AllKnown → Option ℕ → Known → AllKnown
learned known None k = known
learned known (Some t) k = with_entry known t k

abbrev pub is_target : Option ℕ → ℕ → Bool
is_target None q = false
is_target (Some t) q = nat_eq t q

abbrev pub after_op : World → Parts → Context → Op → Context
after_op w parts x op = record x {
  known = learned x.known (target_of op) (result_known w parts x op);
  written = λ q. x.written q || is_target (target_of op) q;
  so_far = λ g a. op_shares parts x op g a ++ x.so_far g a;
  keys_so_far = λ g index. op_key_shares x op g index ++ x.keys_so_far g index;
}

-- ---- scans

abbrev pub in_scan : World → Context → TableId → ℕ → Context
in_scan w x table r = record {
  inside = true;
  met = x.met * w.size table;
  known = with_entry x.known r (KnownRow table);
  written = λ q. x.written q || nat_eq r q;
  so_far = x.so_far;
  keys_so_far = x.keys_so_far;
}

-- after a scan, from the context at the end of its body: registers written there are out of scope
abbrev pub after_scan : Context → Context → Context
after_scan x body_end = record x {
  written = body_end.written;
  so_far = body_end.so_far;
  keys_so_far = body_end.keys_so_far;
}

-- ---- at the end of some code

abbrev pub at_end : World → Parts → Context → Code → Context
at_end w parts x Stop = x
at_end w parts x (Then op rest) = at_end w parts (after_op w parts x op) rest
at_end w parts x (Each table r body rest) =
    at_end w parts (after_scan x (at_end w parts (in_scan w x table r) body)) rest
