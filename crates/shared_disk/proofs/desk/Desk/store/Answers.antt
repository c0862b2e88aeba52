use Rattle.std.proofs.Common.{subst}
use Rattle.disk_core.specs.Calls.{StoreSays}
use Rattle.shared_disk.specs.Desk.{Keeps, OnDisk}
use Rattle.shared_disk.specs.Inside.{desk_state}
use Rattle.shared_disk.proofs.DeskLemmas.{store-moves, moved-sound, moved-says, moved-keeps}
use Rattle.shared_disk.proofs.desk.Desk.store.Goals as goal

pub invariant_of-self : goal.invariant_of-self
invariant_of-self g c = moved-sound c.self.inside.disk c.store.new.self c.self.inside.books (store-moves c.self.inside.disk c.store.new.self c.args.work c.store.result c.store.ensures) c.self.invariant

pub returns-clause-says : goal.returns-clause-says
returns-clause-says g c = subst (λ s. OnDisk s (desk_state c.store.new.self c.self.inside.books) (λ old new. StoreSays old c.args.work c.store.result new)) c.self.view_is (moved-says c.self.inside.disk c.store.new.self c.self.inside.books (λ old new. StoreSays old c.args.work c.store.result new) (store-moves c.self.inside.disk c.store.new.self c.args.work c.store.result c.store.ensures) c.self.invariant c.store.ensures)

pub returns-clause-keeps : goal.returns-clause-keeps
unfolding desk_state
returns-clause-keeps g c = subst (λ s. Keeps s → Keeps (desk_state c.store.new.self c.self.inside.books)) c.self.view_is (moved-keeps (desk_state c.self.inside.disk c.self.inside.books) (desk_state c.store.new.self c.self.inside.books) (λ old new. StoreSays old c.args.work c.store.result new) (store-moves c.self.inside.disk c.store.new.self c.args.work c.store.result c.store.ensures) (moved-says c.self.inside.disk c.store.new.self c.self.inside.books (λ old new. StoreSays old c.args.work c.store.result new) (store-moves c.self.inside.disk c.store.new.self c.args.work c.store.result c.store.ensures) c.self.invariant c.store.ensures))
