-- The tables of a folder, as they are read.
use Rattle.std.{proofs.Common.{◌≡◌, ◌≤◌, ◌<◌, ◌+◌, ◌++◌, ◌∷◌, ◌∙◌, ℕ, List, [], Bool, true, false, Some, None, inl, inr, refl, sym, ap, subst, length, length-append, arith, append_assoc, append-nil}, specs.Prelude.{◌⊎◌, Result, Ok, Err, IfOk, IfSome, Option, option_map}, specs.Borrow.Bor, specs.Io.KnownBytes.{Consumes, IsAtEnd}}
use Rattle.star_schema.specs.{declared.table.TableId.TheVariants.{Date, Customer, Supplier, Part, Lineorder}, declared.table.TableId.TableId, Database.TableTexts, Most.most_rows}
use Rattle.star_reader.specs.Partway.{HasRead, Reading}
use Rattle.star_catalogue.specs.{Pieces.AreRead, declared.read_tables.ReadTables.ReadTables}
use Rattle.star_cli.specs.{Stores.{ArePartsFrom, AreTablesIn, IsAt, IsTableFile, IsTextIn, IsWhole, Known, part_name, path_in, table_name}, Private.Reads.{AreAllRead, ArePartsFed, ArePartsUnread, GoesOnByParts, IsFed, IsLineorderFed, IsLineorderRead, IsLineorderUnread, IsReadIn, IsTableUnread}, declared.failure.Failure.Failure, ReadFolders.{AreWidelyRead, HasReadSome}, FolderLoads.{AreBefore, AreTablesUnread, IsThere}}
use Rattle.star_cli.specs.declared.failure.Failure.TheVariants as failures

-- ---- one file

-- all bytes of a reader that was read to its end
pub all_came : (before after : Option (List ℕ)) (came : List ℕ) → Consumes before after came
    → IsAtEnd after → IfSome before (λ all. came ≡ all)
all_came None after came consumes end = tt
all_came (Some all) None came consumes end = absurd consumes
all_came (Some all) (Some left) came consumes end =
    sym (consumes ∙ (ap (λ more. came ++ more) end ∙ append-nil came))

-- a file that was opened has the bytes that were read
pub read_at : (known : Option (Option (List ℕ))) (remaining : Option (List ℕ)) (bytes : List ℕ)
    → IfSome known (λ it. Some remaining ≡ option_map Some it)
    → IfSome remaining (λ all. bytes ≡ all) → IfSome known (λ it. it ≡ Some bytes)
read_at None remaining bytes opened read = tt
read_at (Some None) remaining bytes opened read = cc
read_at (Some (Some all)) None bytes opened read = cc
read_at (Some (Some all)) (Some same) bytes opened read = cc

-- it has the bytes that a reader of it gave up to its end
pub file_fed : {T : Type 0} (remaining : T → Option (List ℕ)) (known : Option (Option (List ℕ)))
    (opened was now : T) (came : List ℕ) → was ≡ opened
    → IfSome known (λ it. Some (remaining opened) ≡ option_map Some it)
    → Consumes (remaining was) (remaining now) came → IsAtEnd (remaining now)
    → IfSome known (λ it. it ≡ Some came)
file_fed remaining known opened was now came same at gone end =
    read_at known (remaining opened) came at
    (all_came (remaining opened) (remaining now) came (rw same at gone) end)

pub absent_at : (known : Option (Option (List ℕ))) → IfSome known (λ it. None ≡ option_map Some it)
    → IfSome known (λ it. it ≡ None)
absent_at None opened = tt
absent_at (Some None) opened = refl
absent_at (Some (Some all)) opened = cc

-- ---- one table

pub of_whole : (known : Known) (folder : List ℕ) (table : TableId) (text : List (List ℕ))
    → IsWhole known folder table text → IsTextIn known folder table text
of_whole known folder Date text whole = whole
of_whole known folder Customer text whole = whole
of_whole known folder Supplier text whole = whole
of_whole known folder Part text whole = whole
of_whole known folder Lineorder text whole = inl whole

-- a reader that was new has been given a text
pub text_read : (known : Known) (folder : List ℕ) (table : TableId) (text : List (List ℕ))
    (first last : Reading) (rows : ℕ) → rows ≡ most_rows → HasRead first table rows [] []
    → IsTextIn known folder table text → GoesOnByParts first last text
    → IsReadIn known folder table last
text_read known folder table text first last rows widest new is on =
    let was : HasRead first table most_rows [] [] = rw widest at new in
    (text, is, record { parts = text; left = []; read = on table most_rows [] was; whole = refl })

pub whole_read : (known : Known) (folder : List ℕ) (table : TableId) (first last : Reading)
    (rows : ℕ) → rows ≡ most_rows → HasRead first table rows [] []
    → IsFed known (path_in folder (table_name table)) true first last
    → IsReadIn known folder table last
whole_read known folder table first last rows widest new fed =
    let (bytes, is, on) = fed in
    text_read known folder table (bytes ∷ []) first last rows widest new
    (of_whole known folder table (bytes ∷ []) (bytes, is, refl)) on

-- a reader that was new has been given a file
pub some_read : (known : Known) (path : List ℕ) (table : TableId) (first last : Reading) (rows : ℕ)
    → rows ≡ most_rows → HasRead first table rows [] [] → IsFed known path true first last
    → HasReadSome last table
some_read known path table first last rows widest new fed =
    let (bytes, is, on) = fed in
    let was : HasRead first table most_rows [] [] = rw widest at new in (
      bytes ∷ [],
      record { parts = bytes ∷ []; left = []; read = on table most_rows [] was; whole = refl },
    )

-- ---- the parts of lineorder

pub one_more : (known : Known) (folder : List ℕ) (number : ℕ) (parts : List (List ℕ))
    (bytes : List ℕ) → ArePartsFrom known folder number parts
    → IsTableFile known folder (part_name (number + length parts)) bytes
    → ArePartsFrom known folder number (parts ++ bytes ∷ [])
one_more known folder number [] bytes are is =
    let same : number + 0 ≡ number = omega arith in
    (subst (λ n. IsTableFile known folder (part_name n) bytes) same is, tt)
one_more known folder number (part ∷ parts) bytes are is =
    let same : number + length (part ∷ parts) ≡ (number + 1) + length parts = omega arith in (
      are.0,
      one_more known folder (number + 1) parts bytes are.1
          (subst (λ n. IsTableFile known folder (part_name n) bytes) same is),
    )

pub goes_on : (a b c : Reading) (parts : List (List ℕ)) (bytes : List ℕ) → GoesOnByParts a b parts
    → GoesOnByParts b c (bytes ∷ []) → GoesOnByParts a c (parts ++ bytes ∷ [])
goes_on a b c parts bytes first second = λ table most before h.
    subst (λ all. HasRead c table most all []) (append_assoc before parts (bytes ∷ []))
    (second table most (before ++ parts) (first table most before h))

-- some parts have been read: those before this number
pub record ArePartsBefore (known : Known) (folder : List ℕ) (number : ℕ)
    (old new : Reading) : Type 0
  where
    pub parts : List (List ℕ)
    pub numbered : length parts + 1 ≡ number
    pub there : ArePartsFrom known folder 1 parts
    pub on : GoesOnByParts old new parts

pub no_parts : (known : Known) (folder : List ℕ) (reader : Reading)
    → ArePartsBefore known folder 1 reader reader
no_parts known folder reader = record {
  parts = [];
  numbered = refl;
  there = tt;
  on = λ table most before h.
      subst (λ all. HasRead reader table most all []) (sym (append-nil before)) h;
}

pub next_part : (known : Known) (folder : List ℕ) (number : ℕ) (a b c : Reading)
    → ArePartsBefore known folder number a b
    → IsFed known (path_in folder (part_name number)) true b c
    → ArePartsBefore known folder (number + 1) a c
next_part known folder number a b c before fed =
    let (bytes, is, on) = fed in
    let same : number ≡ 1 + length before.parts = omega (arith, before.numbered) in
    record {
      parts = before.parts ++ bytes ∷ [];
      numbered = omega (arith, before.numbered, length-append before.parts (bytes ∷ []));
      there = one_more known folder 1 before.parts bytes before.there
          (subst (λ n. IsTableFile known folder (part_name n) bytes) same is);
      on = goes_on a b c before.parts bytes before.on on;
    }

-- the file of the next number isn't there
pub parts_end : (known : Known) (folder : List ℕ) (number : ℕ) (old new : Reading)
    → ArePartsBefore known folder number old new → 1 < number → number ≤ 1001
    → IsAt known (path_in folder (part_name number)) None → ArePartsFed known folder true old new
parts_end known folder number old new before some few absent = (
  before.parts,
  record {
    some = omega (arith, before.numbered);
    few = omega (arith, before.numbered);
    there = before.there;
    no_more = subst (λ n. IsAt known (path_in folder (part_name n)) None)
        (sym before.numbered) absent;
  },
  before.on,
)

pub parts_ended : (known : Known) (folder : List ℕ) (number : ℕ) (old last new : Reading)
    → ArePartsBefore known folder number old last
    → IsFed known (path_in folder (part_name number)) false last new → number ≤ 1001
    → (is_some : Bool) → (is_some ≡ true → 1 < number) → ArePartsFed known folder is_some old new
parts_ended known folder number old last new before fed few true some =
    parts_end known folder number old new
    (subst (ArePartsBefore known folder number old) (sym fed.1) before) (some refl) few fed.0
parts_ended known folder number old last new before fed few false some = tt

-- ---- lineorder

pub whole_fed : (known : Known) (folder : List ℕ) (first last : Reading)
    → IsFed known (path_in folder (table_name Lineorder)) true first last
    → IsLineorderFed known folder true first last
whole_fed known folder first last fed =
    let (bytes, is, on) = fed in
    (bytes ∷ [], inl (bytes, is, refl), on)

pub parts_fed : {E : Type 0} (known : Known) (folder : List ℕ) (first mid last : Reading)
    (result : Result Bool E) → IsFed known (path_in folder (table_name Lineorder)) false first mid
    → IfOk result (λ is_there. ArePartsFed known folder is_there mid last)
    → IfOk result (λ is_there. IsLineorderFed known folder is_there first last)
parts_fed known folder first mid last (Ok true) absent fed =
    let (parts, are, on) = fed in
    (parts, inr (absent.0, are), subst (λ r. GoesOnByParts r last parts) absent.1 on)
parts_fed known folder first mid last (Ok false) absent fed = tt
parts_fed known folder first mid last (Err error) absent fed = tt

-- ---- five tables

texts_of : (date customer supplier part lineorder : List (List ℕ)) → TableTexts
texts_of date customer supplier part lineorder Date = date
texts_of date customer supplier part lineorder Customer = customer
texts_of date customer supplier part lineorder Supplier = supplier
texts_of date customer supplier part lineorder Part = part
texts_of date customer supplier part lineorder Lineorder = lineorder

tables_of : (known : Known) (folder : List ℕ)
    (date customer supplier part lineorder : List (List ℕ)) → IsTextIn known folder Date date
    → IsTextIn known folder Customer customer → IsTextIn known folder Supplier supplier
    → IsTextIn known folder Part part → IsTextIn known folder Lineorder lineorder
    → AreTablesIn known folder (texts_of date customer supplier part lineorder)
unfolding texts_of
tables_of known folder date customer supplier part lineorder d c s p l Date = d
tables_of known folder date customer supplier part lineorder d c s p l Customer = c
tables_of known folder date customer supplier part lineorder d c s p l Supplier = s
tables_of known folder date customer supplier part lineorder d c s p l Part = p
tables_of known folder date customer supplier part lineorder d c s p l Lineorder = l

pub all_read : (known : Known) (folder : List ℕ) (only : Option ℕ) (read : ReadTables)
    → IsReadIn known folder Date read.date.value
    → IsReadIn known folder Customer read.customer.value
    → IsReadIn known folder Supplier read.supplier.value
    → IsReadIn known folder Part read.part.value
    → IsLineorderRead known folder only read.lineorder.value → AreAllRead known folder only read
unfolding texts_of
all_read known folder only read date customer supplier part lineorder = (
  texts_of date.0 customer.0 supplier.0 part.0 lineorder.0,
  λ all. tables_of known folder date.0 customer.0 supplier.0 part.0 lineorder.0 date.1 customer.1
      supplier.1 part.1 (lineorder.1 all),
  record {
    date = date.2;
    customer = customer.2;
    supplier = supplier.2;
    part = part.2;
    lineorder = lineorder.2;
  },
)

-- ---- files that can't be read

pub file_unread : (table : TableId) (failure : Failure) (name : Bor (List ℕ))
    → name.now ≡ table_name table
    → (failure ≡ failures.OutOfMemory) ⊎ (failure ≡ failures.File name)
    → IsTableUnread table failure
file_unread table failure name named (inl memory) = rw memory tt
file_unread table failure name named (inr same) = rw same named

pub part_unread : (known : Known) (folder : List ℕ) (number : ℕ) (old new : Reading)
    (failure : Failure) → ArePartsBefore known folder number old new → number ≤ 1001
    → (failure ≡ failures.OutOfMemory) ⊎ (failure ≡ failures.Part number)
    → ArePartsUnread known folder failure
part_unread known folder number old new failure before few (inl memory) = rw memory tt
part_unread known folder number old new failure before few (inr same) =
    rw same (before.parts, before.there, before.numbered, few)

pub whole_unread : (known : Known) (folder : List ℕ) (failure : Failure)
    → IsTableUnread Lineorder failure → IsLineorderUnread known folder failure
whole_unread known folder (failures.Part number) unread = absurd unread
whole_unread known folder failure unread = unread

pub parts_unread : (known : Known) (folder : List ℕ) (failure : Failure)
    → IsAt known (path_in folder (table_name Lineorder)) None
    → ArePartsUnread known folder failure → IsLineorderUnread known folder failure
parts_unread known folder (failures.Part number) absent unread = (absent, unread)
parts_unread known folder failures.OutOfMemory absent unread = tt
parts_unread known folder failure absent unread = absurd unread

pub there : (known : Known) (folder : List ℕ) (table : TableId) (reading : Reading)
    → IsReadIn known folder table reading → IsThere known folder table
there known folder table reading read = (read.0, read.1)

pub table_unread : (known : Known) (folder : List ℕ) (table : TableId) (failure : Failure)
    → AreBefore known folder table → IsTableUnread table failure
    → AreTablesUnread known folder failure
table_unread known folder table (failures.File name) before unread = (table, unread, before)
table_unread known folder table failures.OutOfMemory before unread = tt
table_unread known folder table failure before unread = absurd unread

pub lineorder_unread : (known : Known) (folder : List ℕ) (failure : Failure)
    → AreBefore known folder Lineorder → IsLineorderUnread known folder failure
    → AreTablesUnread known folder failure
lineorder_unread known folder (failures.Part number) before unread = (unread.0, unread.1, before)
lineorder_unread known folder (failures.File name) before unread = (Lineorder, unread, before)
lineorder_unread known folder failures.OutOfMemory before unread = tt
lineorder_unread known folder failure before unread = absurd unread

-- ---- the sample

pub texts_read : {E : Type 0} (texts : TableTexts) (rows : ℕ) → rows ≡ most_rows
    → (result : Result ReadTables E) → IfOk result (λ read. AreRead read rows texts)
    → IfOk result AreWidelyRead
texts_read texts rows widest (Ok read) are = (texts, rw widest at are)
texts_read texts rows widest (Err error) are = tt
