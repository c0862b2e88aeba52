-- The links of a disk over any setup and history, which are brought together once the drive's setup is that one.
use Rattle.std.proofs.Common.{◌≡◌, ℕ, suc, List, map, slice_get, Some, refl, sym, subst}
use Rattle.std.specs.Prelude.{vec_capacity}
use Rattle.medium.specs.Device.{Device}
use Rattle.drive.specs.Drives.{DriveState, medium_in, devices_of}
use Rattle.history.specs.declared.entry.Entry.{Entry}
use Rattle.history.specs.Setup.{Setup, IsSetup, size_of}
use Rattle.history.specs.Rules.{IsLegal}
use Rattle.history.specs.Tasks.{units_left}
use Rattle.subtask_queue.specs.Subs.{sub_of}
use Rattle.disk_core.specs.declared.parts.Core.{Core}
use Rattle.disk_core.specs.State.{setup_of}
use Rattle.disk_core.specs.Facts.{MeetsEra, KeptFollow, GatesFollow}
use Rattle.disk_core.specs.Parts.{kept_of, state_of}
use Rattle.disk_core.specs.Inside.{DriveFollows, RecordsFollow, HoldersFollow, HasRoom, AreReady, AreFitted}
use Rattle.disk_core.specs.Moves.{IsDisk}

-- what no end of a token touches
pub record StandsBeside {M : Type 0} (device : M → Device) (prepared : M → ℕ → Type 0) (S : Setup) (H : List Entry) (drive : DriveState M) (c : Core) : Type 0 where
  pub setup : setup_of device drive c.protected_at_first ≡ S
  pub media : (i : ℕ) (d : Device) → slice_get (devices_of device drive) i ≡ Some d → MeetsEra S H (suc i) d
  pub drive_follows : DriveFollows device S H drive
  pub ready : (m : M) → medium_in drive ≡ Some m → AreReady S H (prepared m)
  pub fitted : AreFitted S c

-- the links that the ends of tokens touch
pub record AreClosed (S : Setup) (H : List Entry) (c : Core) : Type 0 where
  pub entries : c.history.entries ≡ H
  pub geometry : IsSetup S
  pub legal : IsLegal S H
  pub tokens : KeptFollow S H (kept_of c.tokens)
  pub gates : GatesFollow S H c.gates
  pub records : RecordsFollow S H c.tokens
  pub queue : c.queue ≡ map (sub_of (size_of S)) (units_left S H)
  pub holders : HoldersFollow S H c.gates c.holders.items (vec_capacity c.holders)
  pub room : HasRoom S c

module _ {M : Type 0} (device : M → Device) (prepared : M → ℕ → Type 0) (drive : DriveState M) (c : Core) where
  both : (S : Setup) → S ≡ setup_of device drive c.protected_at_first → AreClosed S c.history.entries c → StandsBeside device prepared S c.history.entries drive c → IsDisk device prepared drive c
  unfolding state_of
  both S same closed beside =
      let T = setup_of device drive c.protected_at_first in
      let H = c.history.entries in
      let over : AreClosed T H c = subst (λ s. AreClosed s H c) same closed in
      let next : StandsBeside device prepared T H drive c = subst (λ s. StandsBeside device prepared s H drive c) same beside in
      record {
        setup = refl;
        geometry = over.geometry;
        facts = record { legal = over.legal; media = next.media; tokens = over.tokens; gates = over.gates };
        drive_follows = next.drive_follows;
        records = over.records;
        queue = over.queue;
        holders = over.holders;
        room = over.room;
        ready = next.ready;
        fitted = next.fitted;
      }

  -- the links make a disk
  pub links-disk : (S : Setup) (H : List Entry) → AreClosed S H c → StandsBeside device prepared S H drive c → IsDisk device prepared drive c
  links-disk S H closed beside =
      both S (sym beside.setup) (subst (λ h. AreClosed S h c) (sym closed.entries) closed) (subst (λ h. StandsBeside device prepared S h drive c) (sym closed.entries) beside)

  -- and a disk has them
  pub disk-closed : IsDisk device prepared drive c → AreClosed (setup_of device drive c.protected_at_first) c.history.entries c
  unfolding state_of
  disk-closed sound = record {
    entries = refl;
    geometry = sound.geometry;
    legal = sound.facts.legal;
    tokens = sound.facts.tokens;
    gates = sound.facts.gates;
    records = sound.records;
    queue = sound.queue;
    holders = sound.holders;
    room = sound.room;
  }

  pub disk-beside : IsDisk device prepared drive c → StandsBeside device prepared (setup_of device drive c.protected_at_first) c.history.entries drive c
  unfolding state_of
  disk-beside sound = record {
    setup = refl;
    media = sound.facts.media;
    drive_follows = sound.drive_follows;
    ready = sound.ready;
    fitted = sound.fitted;
  }
