-- What a part that is stored stands on (own profile).
use Rattle.std.specs.Prelude.{◌≡◌, ℕ, ◌⊎◌, Some}
use Rattle.history.specs.Tokens.{Request as Asking, request}
use Rattle.history.specs.Marks.{HoldsBy}
use Rattle.history.specs.Setup.{Setup, per_of}
use Rattle.block_gate.specs.Gates.{Gate, Gates, gate_of, with_work_back, AreSound}
use Rattle.medium.specs.Device.{Device}
use Rattle.drive.specs.Drives.{DriveState}
use Rattle.disk_core.specs.declared.storing.Part.{Part}
use Rattle.disk_core.specs.declared.parts.Core.{Core}
use Rattle.disk_core.specs.State.{setup_of}
use Rattle.disk_core.specs.Calls.{expected_copy}
use Rattle.history_laws.specs.Ranges.{low_in, high_in}
use Rattle.disk_core.specs.Moves.{IsDisk}

-- the part of a ticket's gate: the token that holds it, and the bytes of its group that the token is for
pub record IsHeldPart (S : Setup) (c : Core) (part : Part) (g : Gate) (q : Asking) : Type 0 where
  pub gate : gate_of c.gates.held part.ticket ≡ Some g
  pub holds : HoldsBy S c.history.entries part.token g.block part.ticket
  pub named : request c.history.entries part.token ≡ Some q
  pub block : part.block ≡ g.block
  pub low : part.range.low ≡ low_in S q g.block
  pub high : part.range.high ≡ high_in S q g.block (per_of S)

abbrev pub IsPartIn : {M : Type 0} → (M → Device) → DriveState M → Core → Part → Gate → Asking → Type 0
IsPartIn device drive c part g q = IsHeldPart (setup_of device drive c.protected_at_first) c part g q

-- a part is about to be stored: its group with the token's bytes put in is in the buffer, and its work came back or is still out
pub record IsStoring {M : Type 0} (device : M → Device) (prepared : M → ℕ → Type 0) (drive : DriveState M) (c : Core) (before : Gates) (part : Part) (g : Gate) (q : Asking) : Type 0 where
  pub sound : IsDisk device prepared drive (record c { gates = before })
  pub held : IsHeldPart (setup_of device drive c.protected_at_first) (record c { gates = before }) part g q
  pub lent : (c.gates ≡ before) ⊎ (c.gates ≡ with_work_back before part.ticket)
  pub apart : AreSound c.gates
  pub group : c.group.items ≡ expected_copy (setup_of device drive c.protected_at_first) q g
