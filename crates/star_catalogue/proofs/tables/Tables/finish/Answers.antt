use Rattle.std.proofs.Common.{◌≡◌, ◌∙◌, ℕ, List, None, ap, refl}
use Rattle.star_common.specs.First.{first_answer}
use Rattle.star_schema.specs.{declared.table.TableId.TheVariants.{Customer, Date, Lineorder, Part, Supplier}, declared.table.TableId.TableId, Loadable.HasDistinctKeys, Tables.{IsTable, Value, rows_of}}
use Rattle.star_reader.{specs.Columns.Table, proofs.PassedOn.passed_on}
use Rattle.star_catalogue.{specs.Load.{table_fault, tables_fault}, proofs.Loading.{of_each, table_none}}
use Rattle.star_catalogue.proofs.tables.Tables.finish.Goals as goal

-- a table that was loaded has no fault
none : {P Q : Type 0} {most : ℕ} (t : TableId) (parts : List (List ℕ))
    → IsTable t most parts × P × Q × HasDistinctKeys t (rows_of t parts)
    → table_fault t most parts ≡ None
none {most = most} t parts loaded = table_none t most parts loaded.0 loaded.3

pub returns-in_err-date : goal.returns-in_err-date
unfolding tables_fault first_answer
returns-in_err-date c = λ most texts are.
    passed_on _ _ _ (c.in_err-date.ensures most (texts Date) are.date) c.from_residual.ensures.1
    (λ fault. rw fault refl)

pub returns-in_err-customer : goal.returns-in_err-customer
unfolding tables_fault first_answer
returns-in_err-customer c = λ most texts are.
    passed_on _ _ _ (c.in_err-customer.ensures most (texts Customer) are.customer)
    c.from_residual-in_err-customer.ensures.1
    (λ fault. rw (none _ _ (c.in_ok-date.ensures most (texts Date) are.date), fault) refl)

pub returns-in_err-supplier : goal.returns-in_err-supplier
unfolding tables_fault first_answer
returns-in_err-supplier c = λ most texts are.
    passed_on _ _ _ (c.in_err-supplier.ensures most (texts Supplier) are.supplier)
    c.from_residual-in_err-supplier.ensures.1
    (λ fault. rw (
      none _ _ (c.in_ok-date.ensures most (texts Date) are.date),
      none _ _ (c.in_ok-customer.ensures most (texts Customer) are.customer),
      fault,
    ) refl)

pub returns-in_err-part : goal.returns-in_err-part
unfolding tables_fault first_answer
returns-in_err-part c = λ most texts are.
    passed_on _ _ _ (c.in_err-part.ensures most (texts Part) are.part)
    c.from_residual-in_err-part.ensures.1
    (λ fault. rw (
      none _ _ (c.in_ok-date.ensures most (texts Date) are.date),
      none _ _ (c.in_ok-customer.ensures most (texts Customer) are.customer),
      none _ _ (c.in_ok-supplier.ensures most (texts Supplier) are.supplier),
      fault,
    ) refl)

pub returns-in_err-lineorder : goal.returns-in_err-lineorder
unfolding tables_fault first_answer
returns-in_err-lineorder c = λ most texts are.
    passed_on _ _ _ (c.in_err-lineorder.ensures most (texts Lineorder) are.lineorder)
    c.from_residual-in_err-lineorder.ensures.1
    (λ fault. rw (
      none _ _ (c.in_ok-date.ensures most (texts Date) are.date),
      none _ _ (c.in_ok-customer.ensures most (texts Customer) are.customer),
      none _ _ (c.in_ok-supplier.ensures most (texts Supplier) are.supplier),
      none _ _ (c.in_ok-part.ensures most (texts Part) are.part),
      fault,
    ) refl)

-- a table as it was boxed
table_is : {a b : Table} {t : TableId} → a ≡ b → b.table ≡ t → a.table ≡ t
table_is same is = ap (λ (x : Table). x.table) same ∙ is

rows_are : {a b : Table} {rows : List (List Value)} → a ≡ b → b.rows ≡ rows → a.rows ≡ rows
rows_are same are = ap (λ (x : Table). x.rows) same ∙ are

pub invariant_of-result : goal.invariant_of-result
invariant_of-result c =
    let (most, texts, are) = c.requires in
    record {
      date = table_is c.into_inner.ensures (c.in_ok-date.ensures most (texts Date) are.date).1;
      customer = table_is c.into_inner-2.ensures
          (c.in_ok-customer.ensures most (texts Customer) are.customer).1;
      supplier = table_is c.into_inner-3.ensures
          (c.in_ok-supplier.ensures most (texts Supplier) are.supplier).1;
      part = table_is c.into_inner-4.ensures (c.in_ok-part.ensures most (texts Part) are.part).1;
      lineorder = table_is c.into_inner-5.ensures
          (c.in_ok-lineorder.ensures most (texts Lineorder) are.lineorder).1;
    }

pub returns : goal.returns
returns c = λ most texts are.
    let date = c.in_ok-date.ensures most (texts Date) are.date in
    let customer = c.in_ok-customer.ensures most (texts Customer) are.customer in
    let supplier = c.in_ok-supplier.ensures most (texts Supplier) are.supplier in
    let part = c.in_ok-part.ensures most (texts Part) are.part in
    let lineorder = c.in_ok-lineorder.ensures most (texts Lineorder) are.lineorder in (
      of_each (λ t. IsTable t most (texts t)) date.0 customer.0 supplier.0 part.0 lineorder.0,
      rw (
        rows_are c.into_inner.ensures date.2,
        rows_are c.into_inner-2.ensures customer.2,
        rows_are c.into_inner-3.ensures supplier.2,
        rows_are c.into_inner-4.ensures part.2,
        rows_are c.into_inner-5.ensures lineorder.2,
      ) refl,
      of_each (λ t. HasDistinctKeys t (rows_of t (texts t))) date.3 customer.3 supplier.3 part.3
          lineorder.3,
    )
