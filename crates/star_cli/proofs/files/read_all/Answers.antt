use Rattle.std.proofs.lemmas.Result.{err_from_is_err_and}
use Rattle.star_schema.specs.declared.table.TableId.TheVariants.{Date, Customer, Supplier, Part}
use Rattle.star_cli.proofs.FolderReads.{all_read, lineorder_unread, table_unread, there}
use Rattle.star_cli.proofs.files.read_all.Goals as goal

pub returns-clause-read : goal.returns-clause-read
returns-clause-read g c =
    all_read (g.R.Store.known c.args.rt.now) c.args.folder.now c.args.only (record {
      date = c.in_ok-date.date;
      customer = c.in_ok-customer.customer;
      supplier = c.in_ok-supplier.supplier;
      part = c.in_ok-part.part;
      lineorder = c.in_ok-lineorder.lineorder;
    }) c.in_ok-date.ensures.read c.in_ok-customer.ensures.read c.in_ok-supplier.ensures.read
    c.in_ok-part.ensures.read c.in_ok-lineorder.ensures.read

pub returns-in_err-supplier-clause-unread : goal.returns-in_err-supplier-clause-unread
returns-in_err-supplier-clause-unread g c = λ all.
    let known = g.R.Store.known c.args.rt.now in
    let folder = c.args.folder.now in
    let p = err_from_is_err_and c.from_residual-in_err-supplier.result
    c.from_residual-in_err-supplier.ensures.1 in
    rw (p.1, p.2)
    (table_unread known folder Supplier c.in_err-supplier.field-0.0 (
      there known folder Date c.in_ok-date.date.value c.in_ok-date.ensures.read,
      there known folder Customer c.in_ok-customer.customer.value c.in_ok-customer.ensures.read,
    )
    c.in_err-supplier.ensures.unread)

pub returns-in_err-part-clause-unread : goal.returns-in_err-part-clause-unread
returns-in_err-part-clause-unread g c = λ all.
    let known = g.R.Store.known c.args.rt.now in
    let folder = c.args.folder.now in
    let p = err_from_is_err_and c.from_residual-in_err-part.result
    c.from_residual-in_err-part.ensures.1 in
    rw (p.1, p.2)
    (table_unread known folder Part c.in_err-part.field-0.0 (
      there known folder Date c.in_ok-date.date.value c.in_ok-date.ensures.read,
      there known folder Customer c.in_ok-customer.customer.value c.in_ok-customer.ensures.read,
      there known folder Supplier c.in_ok-supplier.supplier.value c.in_ok-supplier.ensures.read,
    )
    c.in_err-part.ensures.unread)

pub returns-in_err-lineorder-clause-unread : goal.returns-in_err-lineorder-clause-unread
returns-in_err-lineorder-clause-unread g c = λ all.
    let known = g.R.Store.known c.args.rt.now in
    let folder = c.args.folder.now in
    let p = err_from_is_err_and c.from_residual-in_err-lineorder.result
    c.from_residual-in_err-lineorder.ensures.1 in
    rw (p.1, p.2)
    (lineorder_unread known folder c.in_err-lineorder.field-0.0 (
      there known folder Date c.in_ok-date.date.value c.in_ok-date.ensures.read,
      there known folder Customer c.in_ok-customer.customer.value c.in_ok-customer.ensures.read,
      there known folder Supplier c.in_ok-supplier.supplier.value c.in_ok-supplier.ensures.read,
      there known folder Part c.in_ok-part.part.value c.in_ok-part.ensures.read,
    ) (c.in_err-lineorder.ensures.unread all))
