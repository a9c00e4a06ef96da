-- What is known of files determines what is read.
use Rattle.std.{proofs.Common.{◌≡◌, ◌≢◌, ◌+◌, ◌∷◌, ◌∙◌, ℕ, List, [], Some, None, inl, inr, refl, sym, subst, length, arith}, specs.Prelude.{IfSome, Option}}
use Rattle.star_schema.specs.{declared.table.TableId.TheVariants.{Date, Customer, Supplier, Part, Lineorder}, declared.table.TableId.TableId, Database.TableTexts}
use Rattle.star_cli.specs.Stores.{AreParts, ArePartsFrom, AreTablesIn, IsAt, IsTextIn, IsWhole, Known, part_name, path_in}

at_once : (it : Option (Option (List ℕ))) (one other : Option (List ℕ)) → it ≢ None
    → IfSome it (λ x. x ≡ one) → IfSome it (λ x. x ≡ other) → one ≡ other
at_once None one other known first second = absurd (known refl)
at_once (Some it) one other known first second = sym first ∙ second

module _ (known : Known) (folder : List ℕ) (all : (path : List ℕ) → known path ≢ None) where
  one_at : (path : List ℕ) (one other : Option (List ℕ)) → IsAt known path one
      → IsAt known path other → one ≡ other
  one_at path one other = at_once (known path) one other (all path)

  whole : (table : TableId) (one other : List (List ℕ)) → IsWhole known folder table one
      → IsWhole known folder table other → one ≡ other
  whole table one other (a, first, is) (b, second, likewise) =
      let same : a ≡ b = cc (one_at _ (Some a) (Some b) first.0 second.0) in
      cc

  abbrev IsEnd : (number : ℕ) → Type 0
  IsEnd number = IsAt known (path_in folder (part_name number)) None

  after : (number : ℕ) (part : List ℕ) (more : List (List ℕ))
      → IsEnd (number + length (part ∷ more)) → IsEnd ((number + 1) + length more)
  after number part more end =
      let same : number + length (part ∷ more) ≡ (number + 1) + length more = omega arith in
      subst IsEnd same end

  here : (number : ℕ) → IsEnd (number + 0) → IsEnd number
  here number end = let same : number + 0 ≡ number = omega arith in subst IsEnd same end

  parts : (number : ℕ) (one other : List (List ℕ)) → ArePartsFrom known folder number one
      → ArePartsFrom known folder number other → IsEnd (number + length one)
      → IsEnd (number + length other) → one ≡ other
  parts number [] [] first second end last = refl
  parts number [] (b ∷ other) first second end last =
      cc (one_at _ None (Some b) (here number end) second.0.0)
  parts number (a ∷ one) [] first second end last =
      cc (one_at _ None (Some a) (here number last) first.0.0)
  parts number (a ∷ one) (b ∷ other) first second end last =
      let tail : one ≡ other = parts (number + 1) one other first.1 second.1
      (after number a one end) (after number b other last) in
      cc (one_at _ (Some a) (Some b) first.0.0 second.0.0)

  in_parts : (one other : List (List ℕ)) → AreParts known folder one → AreParts known folder other
      → one ≡ other
  in_parts one other first second =
      parts 1 one other first.there second.there (ended one first.no_more)
      (ended other second.no_more)
    where
      ended : (some : List (List ℕ)) → IsEnd (length some + 1) → IsEnd (1 + length some)
      ended some end =
          let same : length some + 1 ≡ 1 + length some = omega arith in
          subst IsEnd same end

  lineorder : (one other : List (List ℕ)) → IsTextIn known folder Lineorder one
      → IsTextIn known folder Lineorder other → one ≡ other
  lineorder one other (inl first) (inl second) = whole Lineorder one other first second
  lineorder one other (inl (a, first, is)) (inr second) =
      cc (one_at _ (Some a) None first.0 second.0)
  lineorder one other (inr first) (inl (b, second, is)) =
      cc (one_at _ None (Some b) first.0 second.0)
  lineorder one other (inr first) (inr second) = in_parts one other first.1 second.1

  pub once : (one other : TableTexts) → AreTablesIn known folder one
      → AreTablesIn known folder other → (table : TableId) → one table ≡ other table
  once one other first second Date = whole Date (one Date) (other Date) (first Date) (second Date)
  once one other first second Customer =
      whole Customer (one Customer) (other Customer) (first Customer) (second Customer)
  once one other first second Supplier =
      whole Supplier (one Supplier) (other Supplier) (first Supplier) (second Supplier)
  once one other first second Part = whole Part (one Part) (other Part) (first Part) (second Part)
  once one other first second Lineorder =
      lineorder (one Lineorder) (other Lineorder) (first Lineorder) (second Lineorder)
