use Rattle.std.proofs.Common.{ap, sym, subst}
use Rattle.shared_disk.specs.Pens.{PenEnd}
use Rattle.shared_disk.specs.Log.{logged_entries}
use Rattle.shared_disk.specs.Holding.{HasLogged}
use Rattle.shared_disk.proofs.HoldLemmas.{log-some, log-none}
use Rattle.shared_disk.proofs.holding.log_entry.Goals as goal

pub returns-in-Some-clause-logged : goal.returns-in-Some-clause-logged
returns-in-Some-clause-logged c =
    subst (λ l. HasLogged (logged_entries c.args.pen.now.log) c.args.pen.now.log c.args.history.now.entries l) (sym (ap (λ (p : PenEnd). p.log) c.enter.ensures))
    (log-some _ _ _ _ _ c.requires.before c.requires.grown c.in-Some.ensures)

pub returns-in-None-clause-logged : goal.returns-in-None-clause-logged
returns-in-None-clause-logged c = log-none _ _ _ _ c.requires.before c.requires.grown c.in-None.ensures
