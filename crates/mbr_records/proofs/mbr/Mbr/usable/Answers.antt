use Rattle.mbr_records.proofs.Fitting.{partition_fits}
use Rattle.mbr_records.proofs.mbr.Mbr.usable.Goals as goal

pub returns-clause-inside : goal.returns-clause-inside
returns-clause-inside c i h =
    let records = c.self.inside.records in
    rw (← c.self.view_is) (partition_fits c.args.blocks 0 records records i (rw c.usable_flags.ensures at h))
