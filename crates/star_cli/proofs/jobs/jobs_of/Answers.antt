use Rattle.star_cli.{specs.Private.Errands.IsErrandFor, proofs.Zips.{none_zip, zip_done, zip_more}}
use Rattle.star_cli.proofs.jobs.jobs_of.Goals as goal

pub loop-file-init : goal.loop-file-init
loop-file-init c =
    none_zip IsErrandFor c.args.files.now c.new-jobs.result.items c.new-jobs.ensures.items

pub loop-file-preserved : goal.loop-file-preserved
loop-file-preserved c =
    zip_more IsErrandFor c.args.files.now c.loop-file.jobs.items c.push.new.self.items
    c.loop-file.file-index c.file-item.result c.job.result c.loop-file-test.true
    c.loop-file.invariant (rw (← c.file-item.is) c.job.ensures) c.in_ok-push.ensures.items

pub returns : goal.returns
returns c =
    zip_done IsErrandFor c.args.files.now c.loop-file.jobs.items c.loop-file.file-index
    c.loop-file-test.false c.loop-file.invariant
