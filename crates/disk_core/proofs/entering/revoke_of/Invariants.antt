use Rattle.std.proofs.Common.{◌≡◌, drop}
use Rattle.disk_core.specs.Moves.{without_gates_of}
use Rattle.disk_core.proofs.entering.revoke_of.Given as goal

-- the holders that are left still have to be revoked
abbrev pub invariant-loop-holder : goal.invariant-loop-holder
invariant-loop-holder l = without_gates_of l.token (drop l.holder-index l.holders) l.gates ≡ without_gates_of l.token l.holders l.initial.gates
