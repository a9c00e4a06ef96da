-- Each key of an update is one of the values that are known of it before the run.
use Rattle.std.proofs.{Common.{◌≡◌, ℕ, zero, suc, ◌+◌, ◌<◌, Bool, true, false, List, [], ◌∷◌, ◌++◌, Option, Some, None, length, map, refl, sym, ap, subst, ◌∙◌, arith, ⊎_elim, zero-add}, lemmas.Grind.common_steps}
use Rattle.star_safety.proofs.{Common.{Agrees, AllByRecursion, AllKnown, Assign, BadGroup, BadRegister, Code, Contains, Contains-append_right, Context, Each, Effect, End, Ended, EndsTurn, EndsWith, FitsAt, Flag, GoesOn, GroupKey, Holds, InEachTurn, Keep, KeyValue, Known, KnownFlag, KnownNumber, KnownPlace, KnownRow, KnownText, Limited, Number, Onward, Op, Parts, Place, Put, Range, Registers, Row, Share, Shares, State, Stop, Text, Then, Throughout, TrapKind, Trapped, Traps, Update, Value, World, WrongKind, act, after, after_op, after_scan, all_key_shares, and_parts, at_end, code_size, column_same, contains_cases, contains_here, contains_mapped, contains_none, each_values, eqb-true, fault_of, fits_key, follow, get_or-range_with_len, group_at, hull_of, hull_with, if◌then◌else◌, in_scan, ints, is_column, is_text, key_read, key_share, keys_fault, kind_fault, kinds_in, known_share, length-map, length-range_with_len, lt-ltb, meaning, most_of, nat_eq, nat_lt, negsuc, numbers_fault, numbers_to, op_key_shares, operand_fault, option_map, or_none, place_fault, pos, possible_values, put_share, range_with_len, register_kind, scans, slice_index_or, target_fault, turns, unless, unless_none, unless_trap, update_of, visited, width, with_entry, ℤ, ◌+ℤ◌, ◌-ℤ◌}, BeforePuts.moment_of, FewGroups.sizes, Instructions.unmapped_none, Numbers.{holds_hull_left, holds_hull_right}}
use Rattle.star_program.specs.declared.group.GroupKey.TheVariants as declared
use Rattle.star_program.specs.declared.key.KeyValue.TheVariants as key

-- ---- the values of a key

abbrev number_from : ℤ → ℕ → KeyValue
number_from low k = key.Number (low +ℤ pos k)

abbrev numbers_in : Option Range → List KeyValue
numbers_in None = []
numbers_in (Some r) = map (number_from r.low) (range_with_len 0 (width r))

abbrev pub listed : World → List Share → GroupKey → List KeyValue
listed w shares (declared.Text c) =
    if is_text c then map key.Code (range_with_len 0 (w.entries c)) else []
listed w shares declared.Number = numbers_in (hull_of shares)

abbrev pub each_listed : World → Parts → ℕ → ℕ → List GroupKey → List (List KeyValue)
each_listed w parts g index [] = []
each_listed w parts g index (declared ∷ rest) =
    listed w (all_key_shares w parts g index) declared ∷ each_listed w parts g (suc index) rest

length-listed : (w : World) (shares : List Share) (declared : GroupKey)
    → length (listed w shares declared) ≡ possible_values w shares declared
length-listed w shares declared =
    grind (arith, common_steps, length-map, length-range_with_len, width)

pub sizes_are : (w : World) (parts : Parts) (g index : ℕ) (keys : List GroupKey)
    → sizes (each_listed w parts g index keys) ≡ each_values w (all_key_shares w parts g) index keys
sizes_are w parts g index [] = refl
sizes_are w parts g index (declared ∷ rest) =
    λ i. length-listed w (all_key_shares w parts g index) declared i
    ∷ sizes_are w parts g (suc index) rest i

below : (n k : ℕ) → k < n → Contains (range_with_len 0 n) k
below n k h = (
  k,
  omega (arith, h, length-range_with_len 0 n),
  get_or-range_with_len 0 n k k h ∙ zero-add k,
)

-- a number of a range is so far from its low end
from_low : (r : Range) (z : ℤ) → Holds r z → (k : ℕ) × (k < width r) × (r.low +ℤ pos k ≡ z)
unfolding width
from_low r z h = by (z -ℤ r.low) refl (r.high -ℤ r.low) refl
  where
    by : (d : ℤ) → z -ℤ r.low ≡ d → (e : ℤ) → r.high -ℤ r.low ≡ e
        → (k : ℕ) × (k < numbers_to e) × (r.low +ℤ pos k ≡ z)
    by (pos k) p (pos n) q = (k, omega (arith, ints, h.to), omega (arith, ints))
    by (pos k) p (negsuc n) q = absurd (omega (arith, ints, h.from, h.to))
    by (negsuc k) p e q = absurd (omega (arith, ints, h.from))

held_listed : (o : Option Range) (r : Range) (z : ℤ) → o ≡ Some r → Holds r z
    → Contains (numbers_in o) (key.Number z)
held_listed None r z e h = absurd (cc)
held_listed (Some q) r z e h =
    let same : q ≡ r = cc e in
    let index = from_low q z (subst (λ s. Holds s z) (sym same) h) in
    subst (λ y. Contains (numbers_in (Some q)) (key.Number y)) index.2
    (contains_mapped (number_from q.low) (range_with_len 0 (width q)) index.0
    (below (width q) index.0 index.1))

-- ---- what all puts give a key

in_hull : (ss : List Share) (s : Share) (z : ℤ) → Contains ss s → Holds s.range z
    → (r : Range) × (hull_of ss ≡ Some r) × Holds r z
in_hull [] s z c h = absurd (contains_none s c)
in_hull (t ∷ ss) s z c h = (
  hull_with (hull_of ss) t.range,
  refl,
  ⊎_elim {C = Holds (hull_with (hull_of ss) t.range) z}
      (λ e. of_last (hull_of ss) (subst (λ q. Holds q.range z) (sym e) h))
      (λ later. of_others (hull_of ss) (in_hull ss s z later h)) (contains_cases t ss s c),
)
  where
    of_last : (o : Option Range) → Holds t.range z → Holds (hull_with o t.range) z
    of_last None held = held
    of_last (Some r) held = holds_hull_right r t.range z held

    of_others : (o : Option Range) → (r : Range) × (o ≡ Some r) × Holds r z
        → Holds (hull_with o t.range) z
    of_others None found = absurd (let e = found.1 in cc e)
    of_others (Some q) found = holds_hull_left q t.range z
        (subst (λ s. Holds s z) (sym (let e = found.1 in let same : q ≡ found.0 = cc e in same))
        found.2)

-- ---- an update

-- each key is one of its values
abbrev pub KeysAmong : List KeyValue → List (List KeyValue) → Type 0
KeysAmong [] [] = Unit {0}
KeysAmong (k ∷ ks) (vs ∷ vss) = Contains vs k × KeysAmong ks vss
KeysAmong _ _ = ⊥

-- what is known to be a text is one of a column of texts
abbrev pub IsTextAlone : Option Known → Type 0
IsTextAlone (Some (KnownText c)) = is_text c ≡ true
IsTextAlone _ = Unit {0}

key_listed : (w : World) (ss : List Share) (met : ℕ) (declared : GroupKey) (k : Option Known)
    (v : Option Value) → Contains ss (known_share met k)
    → kind_fault (fits_key declared) (option_map register_kind v) ≡ None
    → IsTextAlone k → FitsAt w k v → Contains (listed w ss declared) (key_read v)
key_listed w ss met declared None None c e text h = absurd (cc)
key_listed w ss met declared.Number (Some (KnownNumber r reach origin)) (Some (Number z)) c e text
    h =
    let found = in_hull ss (known_share met (Some (KnownNumber r reach origin))) z c h.0 in
    held_listed (hull_of ss) found.0 z found.1 found.2
key_listed w ss met (declared.Text c) (Some (KnownText d)) (Some (Text b n)) s e text h =
    let same : c ≡ b = text_same (is_column c b) refl e in
    let inside : n < w.entries c = subst (λ a. n < w.entries a) (h.0 ∙ sym same) h.1 in
    in_texts (is_text c) (ap is_text (same ∙ sym h.0) ∙ text)
    (contains_mapped key.Code (range_with_len 0 (w.entries c)) n (below (w.entries c) n inside))
  where
    text_same : (b' : Bool) → is_column c b ≡ b' → unless b' WrongKind ≡ None → c ≡ b
    text_same true p q = column_same c b p
    text_same false p q = absurd (cc)

    in_texts : (b' : Bool) → b' ≡ true
        → Contains (map key.Code (range_with_len 0 (w.entries c))) (key.Code n)
        → Contains (if b' then map key.Code (range_with_len 0 (w.entries c)) else []) (key.Code n)
    in_texts true p there = there
    in_texts false p there = absurd (cc)
key_listed w ss met (declared.Text b) (Some (KnownNumber r reach origin)) (Some (Number z)) c e text
    h = absurd (cc)
key_listed w ss met declared.Number (Some (KnownText d)) (Some (Text b n)) c e text h = absurd (cc)
key_listed w ss met _ (Some (KnownPlace d)) (Some (Place b n)) c e text h = absurd (cc)
key_listed w ss met _ (Some (KnownRow t)) (Some (Row b n)) c e text h = absurd (cc)
key_listed w ss met _ (Some KnownFlag) (Some (Flag b)) c e text h = absurd (cc)
key_listed w ss met _ _ _ c e text h = absurd h

module _ (w : World) (parts : Parts) where
  keys_listed : (x : Context) (g : ℕ) (regs : Registers) (all : List ℕ)
      → Agrees w x.known regs → ((r : ℕ) → IsTextAlone (x.known r))
      → ((index : ℕ) → Contains (all_key_shares w parts g index)
      (known_share x.met (x.known (slice_index_or all index 0))))
      → (declared : List GroupKey) (rs : List ℕ) (index : ℕ) → length rs ≡ length declared
      → ((j : ℕ) → j < length rs → slice_index_or all (index + j) 0 ≡ slice_index_or rs j 0)
      → keys_fault parts.registers (kinds_in regs) declared rs ≡ None
      → KeysAmong (map (λ r. key_read (regs r)) rs) (each_listed w parts g index declared)
  keys_listed x g regs all agrees texts shares [] [] index e same fine = tt
  keys_listed x g regs all agrees texts shares (d ∷ ds) (r ∷ rs) index e same fine =
      let here = or_none (operand_fault parts.registers (kinds_in regs) (fits_key d) r)
      (keys_fault parts.registers (kinds_in regs) ds rs) fine in
      let first : slice_index_or all index 0 ≡ r =
      ap (λ n. slice_index_or all n 0) (omega arith) ∙ same 0 (omega arith) in (
        key_listed w (all_key_shares w parts g index) x.met d (x.known r) (regs r)
            (subst (λ q. Contains (all_key_shares w parts g index) (known_share x.met (x.known q)))
            first (shares index))
            (or_none (unless (nat_lt r parts.registers) BadRegister) _ here.0).1
            (texts r) (agrees r),
        keys_listed x g regs all agrees texts shares ds rs (suc index) (omega (arith, e))
            (λ j h. ap (λ n. slice_index_or all n 0) (omega arith)
            ∙ same (suc j) (omega (arith, h)))
            here.1,
      )
  keys_listed x g regs all agrees texts shares [] (r ∷ rs) index e same fine =
      absurd (omega (arith, e))
  keys_listed x g regs all agrees texts shares (d ∷ ds) [] index e same fine =
      absurd (omega (arith, e))

-- ---- a run

module _ (w : World) (parts : Parts) (g : ℕ) (vss : List (List KeyValue)) where
  -- each update of the group has keys among the values
  abbrev pub AreListed : State → Type 0
  AreListed s = AllByRecursion (λ u. KeysAmong u.keys vss) (s.updates_of g)

  -- a put to the group is so where it has no fault and the registers hold what is known
  abbrev pub ListsKeys : Context → Op → Type 0
  ListsKeys x (Put h ks vs) = nat_eq g h ≡ true → (regs : Registers) → Agrees w x.known regs
      → fault_of parts x.inside None (kinds_in regs) (Put h ks vs) ≡ None
      → KeysAmong (update_of (group_at parts h) regs ks vs).keys vss
  ListsKeys x op = Unit {0}

  abbrev pub AllListKeys : Context → Code → Type 0
  AllListKeys x Stop = Unit {0}
  AllListKeys x (Then op rest) = ListsKeys x op × AllListKeys (after_op w parts x op) rest
  AllListKeys x (Each t r body rest) = AllListKeys (in_scan w x t r) body
      × AllListKeys (after_scan x (at_end w parts (in_scan w x t r) body)) rest

  abbrev Leaves : Effect → Type 0
  Leaves (GoesOn regs s) = AreListed s
  Leaves (EndsTurn s) = AreListed s
  Leaves (Traps trap) = Unit {0}

  leaves_unless : (o : Option TrapKind) (e : Effect) → (o ≡ None → Leaves e)
      → Leaves (unless_trap o e)
  leaves_unless None e h = h refl
  leaves_unless (Some trap) e h = tt

  listed_more : (b : Bool) (u : Update) (us : List Update) → (b ≡ true → KeysAmong u.keys vss)
      → AllByRecursion (λ u. KeysAmong u.keys vss) us
      → AllByRecursion (λ u. KeysAmong u.keys vss) (if b then u ∷ us else us)
  listed_more true u us one h = (one refl, h)
  listed_more false u us one h = h

  leaves : (x : Context) (regs : Registers) (s : State) (op : Op) → Agrees w x.known regs
      → AreListed s → ListsKeys x op → Leaves (act w parts x.inside regs s op)
  leaves x regs s op agrees h lists =
      grind (arith, common_steps, leaves_unless, unmapped_none, or_none)

  kept_follow : (at : ℕ) (e : Effect) (next : Registers → State → End)
      (Next : Registers → State → Type 0) → Onward e Next → Leaves e
      → ((regs : Registers) (s : State) → Next regs s → AreListed s
      → EndsWith (next regs s) AreListed) → EndsWith (follow at e next) AreListed
  kept_follow at e next Next h k go = grind (arith, common_steps)

  ends_after : (e : End) (next : State → End) (A : State → Type 0) → EndsWith e A
      → EndsWith e AreListed → ((s : State) → A s → AreListed s → EndsWith (next s) AreListed)
      → EndsWith (after e next) AreListed
  ends_after (Ended s) next A h k go = go s h k
  ends_after (Trapped at trap) next A h k go = absurd h
  ends_after Limited next A h k go = absurd h

  kept_turns : (count row : ℕ) (turn : ℕ → State → End) (Holding : ℕ → State → Type 0) (s : State)
      → InEachTurn count row turn Holding s → AreListed s
      → ((j : ℕ) (s : State) → Holding j s → AreListed s → EndsWith (turn j s) AreListed)
      → EndsWith (turns (λ visits. true) count row turn s) AreListed
  kept_turns zero row turn Holding s h k one = k
  kept_turns (suc count) row turn Holding s h k one =
      ends_after (turn row (visited s)) (turns (λ visits. true) count (row + 1) turn)
      (InEachTurn count (row + 1) turn Holding) h.1 (one row (visited s) h.0 k)
      (λ s' h' k'. kept_turns count (row + 1) turn Holding s' h' k' one)

  ends_scans : (at : ℕ) (b : Bool) (go : Unit {0} → End) → b ≡ true → EndsWith (go tt) AreListed
      → EndsWith (scans at b go) AreListed
  ends_scans at true go e h = h
  ends_scans at false go e h = absurd (cc)

  pub kept : (all : Shares) (c : Code) (at : ℕ) (x : Context) (regs : Registers) (s : State)
      → Throughout w parts all x c at regs s → AllListKeys x c → AreListed s
      → EndsWith (meaning w parts (λ visits. true) c at x.inside regs s) AreListed
  kept all Stop at x regs s h lists k = k
  kept all (Then op rest) at x regs s h lists k = kept_follow at (act w parts x.inside regs s op)
      (meaning w parts (λ visits. true) rest (at + 1) x.inside)
      (Throughout w parts all (after_op w parts x op) rest (at + 1)) h.1
      (leaves x regs s op (moment_of w parts all x (Then op rest) at regs s h).registers k lists.0)
      (λ regs' s' h' k'. kept all rest (at + 1) (after_op w parts x op) regs' s' h' lists.1 k')
  kept all (Each t r body rest) at x regs s h lists k =
      let inner = in_scan w x t r in
      let turn : ℕ → State → End =
      λ j. meaning w parts (λ visits. true) body (at + 1) true (with_entry regs r (Row t j)) in
      ends_scans at (nat_lt r parts.registers) _ (lt-ltb r parts.registers h.1)
      (ends_after (turns (λ visits. true) (w.size t) 0 turn s)
      (meaning w parts (λ visits. true) rest (at + 1 + code_size body) x.inside regs)
      (Throughout w parts all (after_scan x (at_end w parts inner body)) rest
      (at + 1 + code_size body) regs)
      h.3
      (kept_turns (w.size t) 0 turn _ s h.2 k
      (λ j s' h' k'. kept all body (at + 1) inner (with_entry regs r (Row t j)) s' h' lists.0 k'))
      (λ s' h' k'. kept all rest (at + 1 + code_size body)
      (after_scan x (at_end w parts inner body)) regs s' h' lists.1 k'))

-- ---- the puts of a program

text_entry : (known : AllKnown) (t : ℕ) (k : Known) (q : ℕ) → ((r : ℕ) → IsTextAlone (known r))
    → IsTextAlone (Some k) → IsTextAlone (with_entry known t k q)
text_entry known t k q texts here = grind (arith, common_steps)

text_then : (w : World) (parts : Parts) (x : Context) (op : Op)
    → ((r : ℕ) → IsTextAlone (x.known r)) → (r : ℕ) → IsTextAlone ((after_op w parts x op).known r)
text_then w parts x op texts r = grind (arith, common_steps, text_entry)

-- what is put to the keys of groups stays
keys_stay : (w : World) (parts : Parts) (x : Context) (c : Code) (g index : ℕ) (s : Share)
    → Contains (x.keys_so_far g index) s → Contains ((at_end w parts x c).keys_so_far g index) s
keys_stay w parts x Stop g index s h = h
keys_stay w parts x (Then op rest) g index s h =
    keys_stay w parts (after_op w parts x op) rest g index s
    (Contains-append_right (op_key_shares x op g index) (x.keys_so_far g index) s h)
keys_stay w parts x (Each t r body rest) g index s h =
    let inner = in_scan w x t r in
    keys_stay w parts (after_scan x (at_end w parts inner body)) rest g index s
    (keys_stay w parts inner body g index s h)

module _ (w : World) (parts : Parts) (g : ℕ) where
  abbrev values : List (List KeyValue)
  values = each_listed w parts g 0 (group_at parts g).keys

  put_shares : (x : Context) (h : ℕ) (ks vs : List ℕ) → nat_eq g h ≡ true → (index : ℕ)
      → Contains ((after_op w parts x (Put h ks vs)).keys_so_far g index) (key_share x ks index)
  put_shares x h ks vs same index = grind (arith, common_steps, key_share, contains_here)

  -- all that the keys of the group are given up to some context is given to them in the end
  abbrev IsGivenBefore : Context → Type 0
  IsGivenBefore x = (index : ℕ) (s : Share) → Contains (x.keys_so_far g index) s
      → Contains (all_key_shares w parts g index) s

  put_listed : (x : Context) (h : ℕ) (ks vs : List ℕ) → ((r : ℕ) → IsTextAlone (x.known r))
      → IsGivenBefore (after_op w parts x (Put h ks vs))
      → ListsKeys w parts g values x (Put h ks vs)
  put_listed x h ks vs texts given same regs agrees fine =
      let index = or_none (place_fault parts x.inside (Put h ks vs)) _ fine in
      let operands = or_none (target_fault parts.registers None) _ index.1 in
      let kinds = (or_none (keys_fault parts.registers (kinds_in regs) (group_at parts h).keys ks)
      (numbers_fault parts.registers (kinds_in regs) vs) operands.1).0 in
      let group : g ≡ h = eqb-true g h same in
      subst (λ n. KeysAmong (map (λ r. key_read (regs r)) ks)
      (each_listed w parts g 0 (group_at parts n).keys)) (sym group)
      (keys_listed w parts x g regs ks agrees texts
      (λ at. given at (key_share x ks at) (put_shares x h ks vs same at))
      (group_at parts h).keys ks 0 (counted index.0)
      (λ j lt. ap (λ n. slice_index_or ks n 0) (zero-add j)) kinds)
    where
      counted : place_fault parts x.inside (Put h ks vs) ≡ None
          → length ks ≡ length (group_at parts h).keys
      counted e =
          let parted = and_parts (nat_lt h (length parts.groups)) _ (unless_none _ BadGroup e) in
          let both = and_parts (nat_eq (length ks) (length (group_at parts h).keys)) _ parted.1 in
          eqb-true _ _ both.0

  op_listed : (x : Context) (op : Op) → ((r : ℕ) → IsTextAlone (x.known r))
      → IsGivenBefore (after_op w parts x op) → ListsKeys w parts g values x op
  op_listed x (Put h ks vs) texts given = put_listed x h ks vs texts given
  op_listed x (Assign t o) texts given = tt
  op_listed x (Keep f) texts given = tt

  pub all_listed : (c : Code) (x : Context) → ((r : ℕ) → IsTextAlone (x.known r))
      → IsGivenBefore (at_end w parts x c) → AllListKeys w parts g values x c
  all_listed Stop x texts given = tt
  all_listed (Then op rest) x texts given =
      let next = after_op w parts x op in (
        op_listed x op texts (λ index s h. given index s (keys_stay w parts next rest g index s h)),
        all_listed rest next (text_then w parts x op texts) given,
      )
  all_listed (Each t r body rest) x texts given =
      let inner = in_scan w x t r in
      let next = after_scan x (at_end w parts inner body) in (
        all_listed body inner (λ q. text_entry x.known r (KnownRow t) q texts tt)
            (λ index s h. given index s (keys_stay w parts next rest g index s h)),
        all_listed rest next texts given,
      )

-- ---- how many updates there are

-- a key is given as often as an aggregate
pub same_many : (w : World) (parts : Parts) (x : Context) (c : Code) (g index a : ℕ)
    → most_of (x.keys_so_far g index) ≡ most_of (x.so_far g a)
    → most_of ((at_end w parts x c).keys_so_far g index) ≡ most_of ((at_end w parts x c).so_far g a)
same_many w parts x Stop g index a e = e
same_many w parts x (Then op rest) g index a e =
    same_many w parts (after_op w parts x op) rest g index a (by op)
  where
    by : (op : Op) → most_of ((after_op w parts x op).keys_so_far g index)
        ≡ most_of ((after_op w parts x op).so_far g a)
    by (Put h ks vs) = put (nat_eq g h)
      where
        put : (b : Bool)
            → most_of ((if b then key_share x ks index ∷ [] else []) ++ x.keys_so_far g index)
            ≡ most_of ((if b then put_share parts x h vs a ∷ [] else []) ++ x.so_far g a)
        put true = ap (λ n. n + x.met) e
        put false = e
    by (Assign t o) = e
    by (Keep f) = e
same_many w parts x (Each t r body rest) g index a e =
    let inner = in_scan w x t r in
    same_many w parts (after_scan x (at_end w parts inner body)) rest g index a
    (same_many w parts inner body g index a e)
