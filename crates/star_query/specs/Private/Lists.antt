-- Lists with commas, by the machine.
use Rattle.std.{specs.Prelude.{◌≡◌, List, [], ◌∷◌, ◌++◌, map, Option, Some, None, Result, Ok, Err}, specs.declared.alloc.Global.Global, specs.declared.vec.Vec.Vec, proofs.Common.{sym, ap, ◌∙◌, refl}, proofs.lemmas.List.map-append}
use Rattle.star_query.specs.{Private.Phrases.{Several, one, more, first, Hiding, item_tree, key_tree, listed}, Private.Machine.{Filtered, Grouped, ParserState, Verdict, columns_had, column_wanted, extended, item_wanted, items_had, key_wanted, keys_had, next_step, table_wanted, tables_had, to}, Private.Clauses.{Anywhere, ReadsColumn, ReadsColumns, ReadsItem, ReadsItems, ReadsKey, ReadsKeyList, ReadsTable, ReadsTables}, declared.fault.ParseError.ParseError, Symbols.sign, Views.{item_view, name_view, sort_key_view}, Private.Reads.{EndsBad, ReadsPhrase, Spot, verdict}}
use Rattle.star_query.specs.declared.token.Sign.TheVariants as s
use Rattle.star_query.specs.declared.fault.ParseError.TheVariants as errors

-- the machine goes from the one spot to the other by a comma
abbrev pub PassesComma : Spot → Spot → Type 0
PassesComma here mid = (from next : ParserState)
    → next_step from (sign s.Comma) ≡ to next (first [] 0 (sign s.Comma))
    → verdict here from ≡ verdict mid next

-- what reads a list reads its elements from the left, with a comma before each but the first
pub record IsListOf {A : Type 0} (One : Spot → Spot → Result A ParseError → Type 0)
    (All : Spot → Spot → Result (Vec A Global) ParseError → Type 0) : Type 0 where
  pub no_memory : (old new : Spot) → All old new (Err errors.OutOfMemory)
  pub first : (old new : Spot) (x : A) (v : Vec A Global) → v.items ≡ [] ++ x ∷ []
      → One old new (Ok x) → All old new (Ok v)
  pub bad_first : (old new : Spot) (e : ParseError) → One old new (Err e) → All old new (Err e)
  pub next : (old here mid new : Spot) (u v : Vec A Global) (x : A) → All old here (Ok u)
      → v.items ≡ u.items ++ x ∷ [] → PassesComma here mid → One mid new (Ok x) → All old new (Ok v)
  pub bad_next : (old here mid new : Spot) (u : Vec A Global) (e : ParseError) → All old here (Ok u)
      → PassesComma here mid → One mid new (Err e) → All old new (Err e)

pub bad_along : (e : ParseError) (new : Spot) (v w : Verdict) → v ≡ w → EndsBad e new w
    → EndsBad e new v
bad_along errors.OutOfMemory new v w same b = tt
bad_along (errors.Fault f) new v w same b = same ∙ b

one_listed : {A B C : Type 0} (f : A → B) (g : C → B) (x : A) (y : C) (v : List C)
    → v ≡ [] ++ y ∷ [] → f x ≡ g y → listed f (one x) ≡ map g v
one_listed f g x y v e same = ap (λ z. z ∷ []) same ∙ ap (map g) (sym e)

more_listed : {A B C : Type 0} (f : A → B) (g : C → B) (xs : Several A) (x : A) (y : C)
    (so_far v : List C) → v ≡ so_far ++ y ∷ [] → listed f xs ≡ map g so_far → f x ≡ g y
    → listed f (more xs x) ≡ map g v
more_listed f g xs x y so_far v e before same =
    ap (λ l. l ++ f x ∷ []) before ∙ ap (λ z. map g so_far ++ z ∷ []) same
    ∙ sym (map-append g so_far (y ∷ [])) ∙ ap (map g) (sym e)

-- likewise if a phrase that is read there goes to the end of the list so far, and a comma from
-- there to the next
module _ {A T P H G : Type 0} (view : A → T) (tree : P → T) (at : G → Option (Several P) → H)
    (wanted : H → ParserState) (given : P → H → ParserState)
    (had : Several P → G → ParserState) where
  listing : ((g : G) (b : Option (Several P)) (p : P) → given p (at g b) ≡ had (extended b p) g)
      → ((g : G) (ps : Several P)
      → next_step (had ps g) (sign s.Comma)
      ≡ to (wanted (at g (Some ps))) (first [] 0 (sign s.Comma)))
      → IsListOf (ReadsPhrase view tree Anywhere wanted given)
      (ReadsPhrase (λ (v : Vec A Global). map view v.items)
      (listed tree) Anywhere (λ g. wanted (at g None)) had)
  listing gives comma = record {
    no_memory = λ old new g u. tt;
    first = λ old new x v e reads. (
      one reads.0,
      one_listed tree view reads.0 x v.items e reads.1,
      λ g u. reads.2 (at g None) tt ∙ ap (verdict new) (gives g None reads.0),
    );
    bad_first = λ old new e bad g u. bad (at g None) tt;
    next = λ old here mid new u v x before e passes reads. (
      more before.0 reads.0,
      more_listed tree view before.0 reads.0 x u.items v.items e before.1 reads.1,
      λ g t. before.2 g t ∙ passes _ _ (comma g before.0) ∙ reads.2 (at g (Some before.0)) tt
          ∙ ap (verdict new) (gives g (Some before.0) reads.0),
    );
    bad_next = λ old here mid new u e before passes bad g t.
        bad_along e new _ _ (before.2 g t ∙ passes _ _ (comma g before.0))
        (bad (at g (Some before.0)) tt);
  }

pub items_listed : IsListOf ReadsItem ReadsItems
items_listed = listing item_view item_tree (λ (u : Unit {0}) b. b) item_wanted
    (λ i b. items_had (extended b i)) (λ is u. items_had is) (λ u b p. refl) (λ u ps. refl)

pub tables_listed : IsListOf ReadsTable ReadsTables
tables_listed = listing name_view (λ n. n) (λ is b. (is, b)) (λ h. table_wanted h.0 h.1)
    (λ n h. tables_had h.0 (extended h.1 n)) (λ ts is. tables_had is ts) (λ is b p. refl)
    (λ is ps. refl)

pub columns_listed : IsListOf ReadsColumn ReadsColumns
columns_listed = listing name_view (λ n. n) (λ (g : Filtered × Option Hiding) b. (g, b))
    (λ h. column_wanted h.0.0 h.0.1 h.1) (λ n h. columns_had h.0.0 h.0.1 (extended h.1 n))
    (λ is g. columns_had g.0 g.1 is) (λ g b p. refl) (λ g ps. refl)

pub keys_listed : IsListOf ReadsKey ReadsKeyList
keys_listed = listing sort_key_view key_tree (λ (g : Grouped) b. (g, b)) (λ h. key_wanted h.0 h.1)
    (λ k h. keys_had h.0 (extended h.1 k)) (λ ks g. keys_had g ks) (λ g b p. refl) (λ g ps. refl)
