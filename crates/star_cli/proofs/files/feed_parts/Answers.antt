use Rattle.std.proofs.Common.{◌≡◌, None, arith, rules, subst, sym, tests}
use Rattle.star_cli.{specs.Stores.{IsAt, part_name, path_in}, proofs.FolderReads.{next_part, no_parts, parts_end, parts_ended}}
use Rattle.star_cli.proofs.files.feed_parts.Goals as goal

pub loop-number-init : goal.loop-number-init
loop-number-init g c = no_parts (g.R.Store.known c.args.rt.now) c.args.folder.now c.args.reader.now

pub loop-number-preserved : goal.loop-number-preserved
loop-number-preserved g c =
    next_part (g.R.Store.known c.args.rt.now) c.args.folder.now c.loop-number.number
    c.args.reader.now c.loop-number.reader c.feed_file.new.reader c.loop-number.invariant
    (rw c.if-not-branch.false at c.in_ok-feed_file.ensures.fed)

pub returns-then-not-branch-clause-fed : goal.returns-then-not-branch-clause-fed
returns-then-not-branch-clause-fed g c =
    parts_ended (g.R.Store.known c.args.rt.now) c.args.folder.now c.loop-number.number
    c.args.reader.now c.loop-number.reader c.feed_file.new.reader c.loop-number.invariant
    (rw c.if-not-branch.true at c.in_ok-feed_file.ensures.fed) (omega arith) _
    (λ is. search (rules, tests))

pub returns-clause-fed : goal.returns-clause-fed
returns-clause-fed g c =
    let full : c.loop-number.number ≡ 1001 = omega arith in
    parts_end (g.R.Store.known c.args.rt.now) c.args.folder.now c.loop-number.number
    c.args.reader.now c.loop-number.reader c.loop-number.invariant (omega arith) (omega arith)
    (subst (λ n. IsAt (g.R.Store.known c.args.rt.now)
    (path_in c.args.folder.now (part_name n)) None)
    (sym full) c.in_ok-refuse_more.ensures.absent)
