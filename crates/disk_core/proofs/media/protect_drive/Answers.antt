use Rattle.std.proofs.Common.{ap, subst, sym, ◌∙◌}
use Rattle.efi_status.specs.declared.Status.TheVariants.{WriteProtected}
use Rattle.history.specs.declared.entry.Entry.TheVariants.{Protect}
use Rattle.disk_core.specs.declared.ending.Meant.TheVariants.{Changes}
use Rattle.disk_core.specs.Moves.{with_entry}
use Rattle.disk_core.specs.Closing.{HasToEnd}
use Rattle.disk_core.proofs.Guarded.{protect-has, protect-done, protect-refused}
use Rattle.disk_core.proofs.Untouched.{told-whole}
use Rattle.disk_core.proofs.media.protect_drive.Goals as goal

pub end_changes-requires : goal.end_changes-requires
end_changes-requires g c set =
    subst (HasToEnd Changes WriteProtected) (sym (c.enter.ensures ∙ ap (λ d. with_entry d (Protect c.args.tag c.args.on) 0) c.in-Ok.ensures.core))
    (protect-has _ _ _ _ c.args.tag c.args.on c.make_room.new.core.history.spare c.requires c.in-Ok.ensures.ok c.in-Ok.ensures.few (told-whole _ _ _ g.met.M.Medium.shaped c.requires.drive_follows.fit) set)

pub returns-in-Ok : goal.returns-in-Ok
returns-in-Ok g c =
    protect-done _ _ _ _ c.args.tag c.args.on c.make_room.new.core.history.spare c.requires c.in-Ok.ensures.ok c.in-Ok.ensures.few _ (told-whole _ _ _ g.met.M.Medium.shaped c.requires.drive_follows.fit)
    c.protect.new.self c.enter.new.core c.end_changes.new.core c.end_changes.result c.protect.ensures (c.enter.ensures ∙ ap (λ d. with_entry d (Protect c.args.tag c.args.on) 0) c.in-Ok.ensures.core) c.end_changes.ensures

pub returns-in-Err : goal.returns-in-Err
returns-in-Err g c = protect-refused _ _ _ _ _ _ c.args.tag c.args.on _ c.requires c.in-Err.ensures.err
