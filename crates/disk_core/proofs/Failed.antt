-- A failed command was entered and has ended its token.
use Rattle.std.proofs.Common.{◌≡◌, ℕ, ◌+◌, ◌≤◌, List, ◌∷◌, length, map, Option, refl, sym, ◌∙◌, ap, subst, arith}
use Rattle.std.specs.Prelude.{count_by, vec_capacity}
use Rattle.efi_status.specs.declared.Status.{Status}
use Rattle.efi_status.specs.declared.Status.TheVariants.{DeviceError}
use Rattle.medium.specs.Device.{Device}
use Rattle.drive.specs.Drives.{DriveState}
use Rattle.history.specs.declared.entry.Command.{Command}
use Rattle.history.specs.declared.entry.Command.TheVariants.{Fetch, Store, Put, Get, Wipe, Sync}
use Rattle.history.specs.declared.entry.Entry.{Entry}
use Rattle.history.specs.declared.entry.Entry.TheVariants.{Fault}
use Rattle.history.specs.Setup.{Setup, size_of}
use Rattle.history.specs.Tokens.{token_count}
use Rattle.history.specs.Marks.{mark_of, fetches, IsOutstanding}
use Rattle.history.specs.Rules.{MayFollow, IsLegal}
use Rattle.history.specs.Tasks.{units_left}
use Rattle.history.specs.Next.{Failed}
use Rattle.history.specs.Room.{owed_entries}
use Rattle.history_laws.specs.Ranges.{AreToldWhole}
use Rattle.history_laws.proofs.TokenLemmas.{fault-concerns, request-some}
use Rattle.history_laws.proofs.EndLemmas.{mark-fault}
use Rattle.history_laws.proofs.TokenLemmas.{mark-other}
use Rattle.history_laws.proofs.RoomLemmas.{open-owed}
use Rattle.history_laws.proofs.SpareLemmas.{media-same, owed-within}
use Rattle.subtask_queue.specs.Subs.{is_of, sub_of}
use Rattle.block_gate.specs.Gates.{Gates}
use Rattle.disk_core.specs.declared.parts.Core.{Core}
use Rattle.disk_core.specs.State.{Kept, setup_of}
use Rattle.disk_core.specs.Parts.{kept_of, state_of}
use Rattle.disk_core.specs.Moves.{IsDisk, HasPlace, Ends, EntersFault, StaysBeside, with_entry}
use Rattle.disk_core.specs.Calls.{Fills, IsCommanded, Makes, Revokes}
use Rattle.disk_core.specs.Closing.{GatesSoFar, RoomSoFar}
use Rattle.history_laws.proofs.OwingLemmas.{units-few}
use Rattle.disk_core.proofs.Links.{StandsBeside, AreClosed, links-disk, disk-closed}
use Rattle.disk_core.proofs.Begun.{begun, gates-begun}
use Rattle.history_laws.proofs.OwedSoFarLemmas.{owed-before}
use Rattle.history_laws.proofs.EndingLemmas.{units-left, fault-open}
use Rattle.history_laws.proofs.QuietLemmas.{IsEnding}
use Rattle.disk_core.proofs.Closed.{kept-ended, closing-step, closed-all}
use Rattle.disk_core.proofs.Queued.{queue-units}
use Rattle.disk_core.proofs.Staying.{revokes, holders-lent}
use Rattle.history_laws.proofs.QuietLemmas.{ending-fault}

-- ---- what the functions that end a token require

-- the units of an open token, and two entries more, are owed
pub units-owed : (S : Setup) (H : List Entry) (c : Core) (t : ℕ) → AreClosed S H c → IsOutstanding S H t → count_by (is_of t) c.queue + 2 ≤ c.owed
units-owed S H c t closed open_now =
    let named = request-some H t open_now.token in
    let few = units-few S H t named.0 closed.geometry closed.legal named.1 in
    let units = queue-units (size_of S) t (units_left S H) in
    let same : count_by (is_of t) c.queue ≡ count_by (is_of t) (map (sub_of (size_of S)) (units_left S H)) = ap (count_by (is_of t)) closed.queue in
    let token = open-owed S H t named.0 named.1 open_now.unmarked in
    let one = owed-within S H t open_now.token in
    let room : owed_entries S H ≤ c.owed = subst (λ h. owed_entries S h ≤ c.owed) closed.entries closed.room.owed in
    omega arith

-- so there is a place
pub open-place : (S : Setup) (H : List Entry) (c : Core) (t : ℕ) → AreClosed S H c → IsOutstanding S H t → HasPlace c
open-place S H c t closed open_now = (let owed = units-owed S H c t closed open_now in let places = closed.room.places in omega arith)

-- ---- what no end touches

pub beside-rest : {M : Type 0} (device : M → Device) (prepared : M → ℕ → Type 0) (S : Setup) (H : List Entry) (drive : DriveState M) (c c' : Core) → StaysBeside c c' → StandsBeside device prepared S H drive c → StandsBeside device prepared S H drive c'
beside-rest device prepared S H drive c c' rest beside =
    let f = beside.fitted in
    record {
      setup = ap (setup_of device drive) rest.protected_at_first ∙ beside.setup;
      media = beside.media;
      drive_follows = beside.drive_follows;
      ready = beside.ready;
      fitted = record {
        blocks = rest.blocks ∙ f.blocks;
        accepts = rest.accepted ∙ (f.accepts ∙ ap (λ h. token_count h.entries) (sym rest.history));
        fetches_are = rest.fetched ∙ (f.fetches_are ∙ ap (λ h. fetches h.entries) (sym rest.history));
        group = ap (λ v. length v.items) rest.group ∙ f.group;
        zeros = ap (λ v. v.items) rest.zeros ∙ f.zeros;
      };
    }

pub beside-ends : {M : Type 0} (device : M → Device) (prepared : M → ℕ → Type 0) (S : Setup) (H : List Entry) (drive : DriveState M) (c c' : Core) (t : ℕ) (status : Status) → Ends c c' t status
    → StandsBeside device prepared S H drive c → StandsBeside device prepared S H drive c'
beside-ends device prepared S H drive c c' t status ends beside = beside-rest device prepared S H drive c c' ends.rest beside

module _ (S : Setup) (H : List Entry) (t : ℕ) (command : Command) (done : ℕ) (may : MayFollow S H (Fault t command done)) where
  abbrev pub Now : List Entry
  Now = Fault t command done ∷ H

  is_ending : IsEnding S H (Fault t command done)
  is_ending = ending-fault S H t command done may

  -- the parts before the entry, beside their gates, which may be others by now
  module _ (c₀ : Core) (closed : AreClosed S H c₀) (n : ℕ) (s : Gates) where
    abbrev pub Entered : Core
    Entered = with_entry (record c₀ { fetched = n; gates = s }) (Fault t command done) 0

    fault-room : RoomSoFar S Now (mark_of S H) 1 Entered
    unfolding with_entry owed_entries
    fault-room =
        let owed = owed-before S H (Fault t command done) is_ending in
        let media = media-same S H (Fault t command done) refl refl in
        let place = open-place S H c₀ t closed (fault-open S H t command done may) in
        let room : owed_entries S H ≤ c₀.owed = subst (λ h. owed_entries S h ≤ c₀.owed) closed.entries closed.room.owed in
        let few = closed.room.few in
        let long : length c₀.history.entries ≡ length H = ap length closed.entries in
        let places = closed.room.places in
        record { owes = omega arith; places = omega arith; few = omega arith }

    -- all links but those beside
    pub failed-closed : (c' : Core) → GatesSoFar S Now (mark_of S H) s c₀.holders.items (vec_capacity c₀.holders) → Ends Entered c' t DeviceError → AreClosed S Now c'
    unfolding with_entry
    failed-closed c' gates ends =
        let marked = mark-fault S H t command done (fault-open S H t command done may).unmarked in
        let closing = begun S H (Fault t command done) is_ending c₀ Entered 1 closed (ap (λ h. Fault t command done ∷ h) closed.entries) refl refl gates fault-room in
        let next = closing-step S Now (mark_of S H) (units_left S H) 1 Entered t DeviceError closing (fault-open S H t command done may).unmarked marked c' (mark_of S Now) ends marked
        (λ u other. mark-other S H (Fault t command done) u (fault-concerns H t u command done (λ e. other (sym e)))) in
        closed-all S Now (units_left S H) 0 c' next (units-left S H (Fault t command done) is_ending) (let places = next.room.places in omega arith)

pub fills-failed : (S : Setup) (H : List Entry) (t : ℕ) (command : Command) (done : ℕ) (old new : List (Option Kept)) → new ≡ old → Fills S H t command (Failed done) old new
fills-failed S H t (Fetch b) done old new same = same
fills-failed S H t (Store b) done old new same = same
fills-failed S H t (Put b n) done old new same = same
fills-failed S H t (Get b n) done old new same = same
fills-failed S H t (Wipe b n) done old new same = same
fills-failed S H t Sync done old new same = same

-- the disk after a failed command, and what its callers see of it
pub record HasFailed {M : Type 0} (device : M → Device) (prepared : M → ℕ → Type 0) (drive drive' : DriveState M) (c₀ c' : Core) (t : ℕ) (command : Command) (done : ℕ) : Type 0 where
  pub sound : IsDisk device prepared drive' c'
  pub makes : IsCommanded (state_of device drive c₀) (Failed done) (state_of device drive' c') → Makes (state_of device drive c₀) t command (Failed done) (state_of device drive' c')

module _ {M : Type 0} (device : M → Device) (prepared : M → ℕ → Type 0) (drive drive' : DriveState M) (c₀ c' : Core) (t : ℕ) (command : Command) (done n : ℕ) (s : Gates) where
  abbrev Begin : Setup
  Begin = setup_of device drive c₀.protected_at_first

  -- `c₀` are the parts of the disk before; by now `n` fetches are counted and the gates are `s`
  pub failed-from : IsDisk device prepared drive c₀ → MayFollow Begin c₀.history.entries (Fault t command done)
      → GatesSoFar Begin (Fault t command done ∷ c₀.history.entries) (mark_of Begin c₀.history.entries) s c₀.holders.items (vec_capacity c₀.holders)
      → StandsBeside device prepared Begin (Fault t command done ∷ c₀.history.entries) drive' (with_entry (record c₀ { fetched = n; gates = s }) (Fault t command done) 0)
      → EntersFault (record c₀ { fetched = n; gates = s }) c' t command done → HasFailed device prepared drive drive' c₀ c' t command done
  unfolding state_of with_entry IsLegal
  failed-from sound may gates beside fails =
      let S = Begin in
      let H = c₀.history.entries in
      let closed = failed-closed S H t command done may c₀ (disk-closed device prepared drive c₀ sound) n s c' gates fails in
      let after = beside-ends device prepared S (Fault t command done ∷ H) drive' (with_entry (record c₀ { fetched = n; gates = s }) (Fault t command done) 0) c' t DeviceError fails beside in
      record {
        sound = links-disk device prepared drive' c' S (Fault t command done ∷ H) closed after;
        makes = λ commanded. record {
          setup = after.setup;
          entries = closed.entries;
          legal = subst (λ z. IsLegal z c'.history.entries) (sym after.setup) (subst (IsLegal S) (sym closed.entries) closed.legal);
          fills = fills-failed S H t command done (kept_of c₀.tokens) (kept_of c'.tokens) (ap kept_of fails.tokens ∙ kept-ended DeviceError c₀.tokens t);
          device = commanded;
        };
      }

-- the gates before the command are those of the disk
pub failed-sound : {M : Type 0} (device : M → Device) (prepared : M → ℕ → Type 0) (drive drive' : DriveState M) (c₀ c' : Core) (t : ℕ) (command : Command) (done n : ℕ)
    → AreToldWhole (setup_of device drive c₀.protected_at_first) → IsDisk device prepared drive c₀ → MayFollow (setup_of device drive c₀.protected_at_first) c₀.history.entries (Fault t command done)
    → StandsBeside device prepared (setup_of device drive c₀.protected_at_first) (Fault t command done ∷ c₀.history.entries) drive' (with_entry (record c₀ { fetched = n }) (Fault t command done) 0)
    → EntersFault (record c₀ { fetched = n }) c' t command done → HasFailed device prepared drive drive' c₀ c' t command done
unfolding state_of
failed-sound device prepared drive drive' c₀ c' t command done n whole sound may beside fails =
    failed-from device prepared drive drive' c₀ c' t command done n c₀.gates sound may
    (gates-begun _ c₀.history.entries (Fault t command done) (ending-fault _ c₀.history.entries t command done may) c₀.gates c₀.holders.items (vec_capacity c₀.holders) sound.geometry whole sound.facts.legal sound.facts.gates sound.holders)
    beside fails

-- the gates of the token are revoked: those of a disk are all lent
pub failed-revokes : {M : Type 0} (device : M → Device) (prepared : M → ℕ → Type 0) (drive : DriveState M) (c₀ c' : Core) (t : ℕ) (command : Command) (done n : ℕ) → IsDisk device prepared drive c₀
    → EntersFault (record c₀ { fetched = n }) c' t command done → Revokes c₀.gates c'.gates
unfolding state_of with_entry
failed-revokes device prepared drive c₀ c' t command done n sound fails =
    subst (Revokes c₀.gates) (sym fails.gates) (revokes t c₀.holders.items c₀.gates
    (holders-lent c₀.holders.items c₀.gates.held sound.holders.paired sound.holders.rising (λ k g there. (sound.facts.gates.each k g there).1.lent)))
