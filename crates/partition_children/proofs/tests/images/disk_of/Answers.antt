use Rattle.std.proofs.Common.{◌≡◌, ◌∙◌, ap, sym, subst, refl, arith, [], None, List}
use Rattle.history.specs.declared.entry.Entry.{Entry}
use Rattle.history.specs.Setup.{Setup}
use Rattle.history.specs.Marks.{first_from}
use Rattle.history.specs.Tokens.{token_count}
use Rattle.history.specs.Next.{first_open}
use Rattle.block_gate.specs.Gates.{idle_gates}
use Rattle.disk_core.specs.Turns.{IsIdle}
use Rattle.partition_children.proofs.tests.images.disk_of.Goals as goal

none-open : (S : Setup) → first_open S [] ≡ None
unfolding first_open first_from token_count
none-open S = refl

pub returns-in-Ok-clause-idle : goal.returns-in-Ok-clause-idle
unfolding idle_gates
returns-in-Ok-clause-idle c = rw c.in-Ok.ensures.gates (record { held = refl; gone = refl; free = omega arith })

pub returns-in-Ok-clause-drained : goal.returns-in-Ok-clause-drained
returns-in-Ok-clause-drained c = subst (λ (H : List Entry). first_open c.in-Ok.disk.setup H ≡ None) (sym c.in-Ok.ensures.entries) (none-open c.in-Ok.disk.setup)
