use Rattle.std.proofs.Common.{◌≤◌, subst, sym}
use Rattle.disk_core.specs.Closing.{IsNextMeant, HasToEnd, EndsMeant, NoneMeantBefore}
use Rattle.efi_status.specs.declared.Status.TheVariants.{Aborted}
use Rattle.disk_core.proofs.Aborting.{abort-sorted, abort-below, abort-nothing, abort-place, abort-first, abort-within, abort-has, abort-done}
use Rattle.disk_core.proofs.Untouched.{told-whole}
use Rattle.disk_core.proofs.ending.abort.Goals as goal

pub next_meant-requires-clause-sorted : goal.next_meant-requires-clause-sorted
next_meant-requires-clause-sorted g c = abort-sorted _ _ _ _ c.args.meant c.args.entry c.requires.sound c.requires.abort

pub next_meant-requires-clause-below : goal.next_meant-requires-clause-below
next_meant-requires-clause-below g c = abort-below _ _ _ _ c.args.meant c.args.entry c.requires.sound c.requires.abort

pub returns-in_default : goal.returns-in_default
returns-in_default g c = abort-nothing _ _ _ _ c.args.meant c.args.entry c.requires.sound c.requires.abort (subst (IsNextMeant c.args.core.now c.args.meant 0) c.in_default.is c.next_meant.ensures)

pub enter-requires-clause-place : goal.enter-requires-clause-place
enter-requires-clause-place g c =
    abort-place _ _ _ _ c.args.meant c.args.entry c.requires.sound c.requires.abort c.in-Some.first (subst (IsNextMeant c.args.core.now c.args.meant 0) c.in-Some.is c.next_meant.ensures)

pub end_meant-requires-clause-first : goal.end_meant-requires-clause-first
end_meant-requires-clause-first g c =
    subst (λ d. NoneMeantBefore d c.args.meant c.in-Some.first) (sym c.enter.ensures)
    (abort-first _ _ _ _ c.args.meant c.args.entry c.requires.sound c.requires.abort c.in-Some.first (subst (IsNextMeant c.args.core.now c.args.meant 0) c.in-Some.is c.next_meant.ensures))

pub end_meant-requires-clause-within : goal.end_meant-requires-clause-within
end_meant-requires-clause-within g c =
    subst (λ d. c.in-Some.first ≤ d.accepted) (sym c.enter.ensures)
    (abort-within _ _ _ _ c.args.meant c.args.entry c.requires.sound c.requires.abort c.in-Some.first (subst (IsNextMeant c.args.core.now c.args.meant 0) c.in-Some.is c.next_meant.ensures))

pub end_meant-requires-clause-to_end : goal.end_meant-requires-clause-to_end
end_meant-requires-clause-to_end g c =
    subst (HasToEnd c.args.meant Aborted) (sym c.enter.ensures)
    (abort-has _ _ _ _ c.args.meant c.args.entry c.requires.sound c.requires.abort c.in-Some.first (subst (IsNextMeant c.args.core.now c.args.meant 0) c.in-Some.is c.next_meant.ensures)
    (told-whole _ _ _ g.met.M.Medium.shaped c.requires.sound.drive_follows.fit))

pub returns : goal.returns
returns g c =
    abort-done _ _ _ _ c.args.meant c.args.entry c.requires.sound c.requires.abort c.in-Some.first (subst (IsNextMeant c.args.core.now c.args.meant 0) c.in-Some.is c.next_meant.ensures)
    (told-whole _ _ _ g.met.M.Medium.shaped c.requires.sound.drive_follows.fit) c.end_meant.new.core c.end_meant.result
    (subst (λ d. EndsMeant c.args.meant Aborted d c.end_meant.new.core c.end_meant.result) c.enter.ensures c.end_meant.ensures)
