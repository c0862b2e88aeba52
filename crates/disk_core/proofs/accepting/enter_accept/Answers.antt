use Rattle.std.proofs.Common.{◌≡◌, ◌+◌, ◌-◌, ◌∷◌, ap, ◌∙◌, arith}
use Rattle.history.specs.declared.entry.Entry.TheVariants.{Accept}
use Rattle.disk_core.specs.declared.parts.Core.{Core}
use Rattle.disk_core.specs.Admission.{after_accept}
use Rattle.disk_core.specs.Moves.{with_entry}
use Rattle.disk_core.proofs.accepting.enter_accept.Goals as goal

pub returns : goal.returns
unfolding after_accept with_entry
returns c =
    let none : c.args.core.now.owed - 0 ≡ c.args.core.now.owed = omega arith in
    ap (λ (d : Core). record d { owed = d.owed + c.args.owed; accepted = d.accepted + 1 }) c.enter.ensures
    ∙ (λ i. record c.args.core.now {
      history = record { entries = Accept c.args.tag c.args.view.now c.args.asked c.args.bytes ∷ c.args.core.now.history.entries; spare = c.args.core.now.history.spare - 1 };
      owed = none i + c.args.owed;
      accepted = c.args.core.now.accepted + 1;
    })
