use Rattle.std.proofs.Common.{subst, sym}
use Rattle.efi_status.specs.declared.Status.TheVariants.{NoMedia}
use Rattle.disk_core.specs.declared.ending.Meant.TheVariants.{All}
use Rattle.disk_core.specs.Closing.{HasToEnd}
use Rattle.disk_core.proofs.Ejected.{eject-place, eject-has, eject-done, eject-refused, was-in, was-out}
use Rattle.disk_core.proofs.Untouched.{told-whole}
use Rattle.disk_core.proofs.media.eject_medium.Goals as goal

pub enter-requires-clause-place : goal.enter-requires-clause-place
enter-requires-clause-place g c = (eject-place _ _ _ _ c.args.tag c.requires (was-in _ _ _ _ c.in-Ok.ensures.answer)).0

pub enter-requires-clause-owed : goal.enter-requires-clause-owed
enter-requires-clause-owed g c = (eject-place _ _ _ _ c.args.tag c.requires (was-in _ _ _ _ c.in-Ok.ensures.answer)).1

pub end_meant-requires-clause-to_end : goal.end_meant-requires-clause-to_end
end_meant-requires-clause-to_end g c =
    subst (HasToEnd All NoMedia) (sym c.enter.ensures)
    (eject-has _ _ _ _ c.args.tag c.requires (was-in _ _ _ _ c.in-Ok.ensures.answer) (told-whole _ _ _ g.met.M.Medium.shaped c.requires.drive_follows.fit))

pub returns-in-Ok : goal.returns-in-Ok
returns-in-Ok g c =
    eject-done _ _ _ _ c.args.tag c.requires (was-in _ _ _ _ c.in-Ok.ensures.answer) (told-whole _ _ _ g.met.M.Medium.shaped c.requires.drive_follows.fit)
    c.eject.new.self c.enter.new.core c.end_meant.new.core c.end_meant.result c.in-Ok.ensures.drive c.enter.ensures c.end_meant.ensures

pub returns-in-Err : goal.returns-in-Err
returns-in-Err g c = eject-refused _ _ _ _ _ c.args.tag c.requires (was-out _ _ _ _ c.in-Err.ensures.answer) c.in-Err.ensures.drive
