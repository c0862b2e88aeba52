use Rattle.history_laws.proofs.RangeLemmas.{pieces-in-views}
use Rattle.disk_io2.proofs.ReadOff.{told-whole}
use Rattle.history_laws.proofs.OutsideLemmas.{outside-stays}
use Rattle.disk_io2.proofs.views.views_are_kept.Goals as goal

pub returns-clause-inside : goal.returns-clause-inside
returns-clause-inside g c k = pieces-in-views c.args.disk.now.setup k c.args.disk.now.entries c.history.ensures.setup c.history.ensures.facts.legal

pub returns-clause-outside : goal.returns-clause-outside
returns-clause-outside g c =
    outside-stays c.args.disk.now.setup c.history.ensures.setup
    (told-whole g.M.Medium.device g.met.M.Medium.shaped c.drive.result.now c.drive.ensures.fit c.args.disk.now.setup c.drive.ensures.read_off)
    c.args.disk.now.entries c.history.ensures.facts.legal
