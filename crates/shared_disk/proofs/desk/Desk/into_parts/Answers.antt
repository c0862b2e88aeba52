use Rattle.std.proofs.Common.{ap, subst}
use Rattle.disk_core.specs.State.{State}
use Rattle.shared_disk.specs.Desk.{DeskState}
use Rattle.shared_disk.specs.Inside.{desk_state}
use Rattle.shared_disk.specs.Slots.{AreSlots}
use Rattle.shared_disk.proofs.desk.Desk.into_parts.Goals as goal

pub returns-clause-disk : goal.returns-clause-disk
unfolding desk_state
returns-clause-disk g c = ap (λ (s : DeskState). s.disk) c.self.view_is

pub returns-clause-slots : goal.returns-clause-slots
unfolding desk_state
returns-clause-slots g c =
    subst (λ (d : State). AreSlots d.setup d.entries c.self.inside.books.slots.items) (ap (λ (s : DeskState). s.disk) c.self.view_is)
    (record { counted = c.self.invariant.counted; each = c.self.invariant.slots })

pub returns-clause-buffers : goal.returns-clause-buffers
unfolding desk_state
returns-clause-buffers g c = ap (λ (s : DeskState). s.given) c.self.view_is
