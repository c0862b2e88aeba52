-- The medium that is in follows the history through a command.
use Rattle.std.proofs.Common.{◌≡◌, ℕ, ◌+◌, ◌*◌, ◌^◌, ◌<◌, ◌≤◌, Bool, true, false, List, ◌∷◌, length, take, Option, None, Some, refl, sym, ◌∙◌, ap, arith, Result, Ok, Err, IfErr}
use Rattle.std.specs.Prelude.{if◌then◌else◌, option_map}
use Rattle.byte_lists.specs.Patching.{patch}
use Rattle.medium.specs.Device.{Device, IsSame, IsCommand, IsRead, IsWrite, IsSync, patch_told, written_bytes}
use Rattle.medium.specs.declared.block_failed.BlockFailed.{BlockFailed}
use Rattle.disk_split.specs.declared.span.Span.{Span}
use Rattle.history.specs.declared.entry.Command.{Command}
use Rattle.history.specs.declared.entry.Command.TheVariants.{Sync}
use Rattle.history.specs.declared.entry.Entry.{Entry}
use Rattle.history.specs.declared.entry.Entry.TheVariants.{Done, Fault}
use Rattle.history.specs.Setup.{Setup, IsSetup, size_of}
use Rattle.history.specs.Eras.{media_id_of, is_command, is_fault, era_count}
use Rattle.history.specs.Tokens.{Request, request, from_of, until_of}
use Rattle.history.specs.Commands.{is_change, is_sync}
use Rattle.history.specs.Contents.{contents, kept_contents, flushed_contents, bytes_between, piece_of}
use Rattle.history.specs.Next.{Outcome, Made, Failed, entry_of}
use Rattle.history_laws.specs.Units.{IsUnitCommand}
use Rattle.history_laws.proofs.ContentLemmas.{is_flush_entry, contents-same, kept-same, kept-more, flushed-sync, piece-unchanged, piece-unchanged-fault}
use Rattle.history_laws.proofs.EraLemmas.{era_count-same, era_count-more}
use Rattle.history_laws.proofs.PieceLemmas.{done-contents, fault-contents, run-low}
use Rattle.disk_core.specs.State.{opening_from}
use Rattle.disk_core.specs.Facts.{MeetsEra}
use Rattle.history_laws.proofs.FittingLemmas.{commands-within, faults-within}

-- how a command of the medium ended
abbrev pub outcome_of : Result (Unit {0}) BlockFailed → Outcome
outcome_of (Ok done) = Made
outcome_of (Err fault) = Failed fault.done

-- its entry
abbrev pub command_entry : ℕ → Command → Result (Unit {0}) BlockFailed → Entry
command_entry t command result = entry_of (record { token = t; command = command }) (outcome_of result)

opening-same : (d d' : Device) → IsSame d d' → opening_from d' ≡ opening_from d
opening-same d d' same = λ i. record { blocks = same.blocks i; first = same.first i }

-- counts and shape follow a command; what the medium holds is told beside it
pub era-command : (S : Setup) (H : List Entry) (t : ℕ) (command : Command) (d d' : Device) (result : Result (Unit {0}) BlockFailed) → length H < 2 ^ 63 → IsCommand d result d' → MeetsEra S H (media_id_of H) d
    → d'.now ≡ contents S (media_id_of H) (command_entry t command result ∷ H) → d'.kept ≡ kept_contents S (media_id_of H) (command_entry t command result ∷ H) → MeetsEra S (command_entry t command result ∷ H) (media_id_of H) d'
era-command S H t command d d' (Ok done) few is meets now kept =
    let k = media_id_of H in
    let e = Done t command in
    let more : era_count is_command k (e ∷ H) ≡ era_count is_command k H + 1 = era_count-more is_command k H e refl refl in
    let same : era_count is_fault k (e ∷ H) ≡ era_count is_fault k H = era_count-same is_fault k H e refl in
    let within = commands-within k H in
    let within_faults = faults-within k H in
    let calls = is.calls in let failed = is.failed in let later = is.later in
    let were = meets.calls in let had = meets.failed in let least = meets.faults in
    record {
      opening = meets.opening ∙ ap Some (sym (opening-same d d' is.same));
      size = is.same.size ∙ meets.size;
      cached = is.same.cached ∙ meets.cached;
      now = now;
      kept = kept;
      calls = omega arith;
      failed = omega arith;
      faults = omega arith;
    }
era-command S H t command d d' (Err fault) few is meets now kept =
    let k = media_id_of H in
    let e = Fault t command fault.done in
    let more : era_count is_command k (e ∷ H) ≡ era_count is_command k H + 1 = era_count-more is_command k H e refl refl in
    let again : era_count is_fault k (e ∷ H) ≡ era_count is_fault k H + 1 = era_count-more is_fault k H e refl refl in
    let within = commands-within k H in
    let within_faults = faults-within k H in
    let calls = is.calls in let failed = is.failed in let cause = is.cause in
    let were = meets.calls in let had = meets.failed in let least = meets.faults in
    record {
      opening = meets.opening ∙ ap Some (sym (opening-same d d' is.same));
      size = is.same.size ∙ meets.size;
      cached = is.same.cached ∙ meets.cached;
      now = now;
      kept = kept;
      calls = omega arith;
      failed = omega arith;
      faults = omega arith;
    }

module _ (S : Setup) (H : List Entry) (t : ℕ) (d d' : Device) (few : length H < 2 ^ 63) (meets : MeetsEra S H (media_id_of H) d) where
  no-piece : (command : Command) (result : Result (Unit {0}) BlockFailed) → is_change command ≡ false → piece_of S H (command_entry t command result) ≡ None
  no-piece command (Ok done) quiet = piece-unchanged S H t command quiet
  no-piece command (Err fault) quiet = piece-unchanged-fault S H t command fault.done quiet

  pub no-flush : (command : Command) (result : Result (Unit {0}) BlockFailed) → is_sync command ≡ false → is_flush_entry (command_entry t command result) ≡ false
  no-flush command (Ok done) quiet = quiet
  no-flush command (Err fault) quiet = refl

  pub quiet-era : (command : Command) (result : Result (Unit {0}) BlockFailed) → is_change command ≡ false → is_flush_entry (command_entry t command result) ≡ false → IsCommand d result d' → d'.now ≡ d.now → d'.kept ≡ d.kept
      → MeetsEra S (command_entry t command result ∷ H) (media_id_of H) d'
  quiet-era command result quiet unflushed is now kept =
      let e = command_entry t command result in
      let none = no-piece command result quiet in
      era-command S H t command d d' result few is meets (now ∙ meets.now ∙ sym (contents-same S (media_id_of H) H e none)) (kept ∙ meets.kept ∙ sym (kept-same S (media_id_of H) H e unflushed none))

  -- a read leaves the bytes
  pub read-era : (command : Command) (lba : ℕ) (result : Result (Unit {0}) BlockFailed) (out out' : List ℕ) → is_change command ≡ false → is_sync command ≡ false → IsRead d lba result d' out out'
      → MeetsEra S (command_entry t command result ∷ H) (media_id_of H) d'
  read-era command lba result out out' quiet unsynced is = quiet-era command result quiet (no-flush command result unsynced) is.command is.now is.kept

  kept-synced : (c : Bool) → S.cached ≡ c → kept_contents S (media_id_of H) (Done t Sync ∷ H) ≡ contents S (media_id_of H) H
  unfolding kept_contents
  kept-synced true is = ap either is ∙ flushed-sync S (media_id_of H) H t Sync refl refl
    where
      either : Bool → Option (List ℕ)
      either b = if b then flushed_contents S (media_id_of H) (Done t Sync ∷ H) else contents S (media_id_of H) (Done t Sync ∷ H)
  kept-synced false is = ap either is ∙ contents-same S (media_id_of H) H (Done t Sync) (piece-unchanged S H t Sync refl)
    where
      either : Bool → Option (List ℕ)
      either b = if b then flushed_contents S (media_id_of H) (Done t Sync ∷ H) else contents S (media_id_of H) (Done t Sync ∷ H)

  -- a sync makes the bytes stay, and a failed one leaves all
  pub sync-era : (result : Result (Unit {0}) BlockFailed) → IsSync d result d' → MeetsEra S (command_entry t Sync result ∷ H) (media_id_of H) d'
  sync-era (Ok done) is =
      era-command S H t Sync d d' (Ok done) few is.command meets (is.now ∙ meets.now ∙ sym (contents-same S (media_id_of H) H (Done t Sync) (piece-unchanged S H t Sync refl)))
      (is.kept ∙ meets.now ∙ sym (kept-synced S.cached refl))
  sync-era (Err fault) is = quiet-era Sync (Err fault) refl refl is.command is.now is.left

  told-map : (told : Option (List ℕ)) (at : ℕ) (piece : List ℕ) → patch_told told at piece ≡ option_map (λ bytes. patch bytes at piece) told
  told-map None at piece = refl
  told-map (Some bytes) at piece = refl

  kept-written : (c : Bool) (e : Entry) → S.cached ≡ c → is_flush_entry e ≡ false → d'.now ≡ contents S (media_id_of H) (e ∷ H) → d'.kept ≡ (if d.cached then d.kept else d'.now) → d'.kept ≡ kept_contents S (media_id_of H) (e ∷ H)
  kept-written true e cached unflushed now kept =
      let held : d.cached ≡ true = meets.cached ∙ cached in
      kept ∙ rw held (meets.kept ∙ sym (kept-more S (media_id_of H) H e unflushed ∙ rw cached refl))
  kept-written false e cached unflushed now kept =
      let held : d.cached ≡ false = meets.cached ∙ cached in
      kept ∙ rw held (now ∙ sym (kept-more S (media_id_of H) H e unflushed ∙ rw cached refl))

  -- a write, whose bytes on the medium are those of the history, done or failed
  pub write-era : (command : Command) (lba : ℕ) (bytes : List ℕ) (result : Result (Unit {0}) BlockFailed) → is_sync command ≡ false → IsWrite d lba bytes result d'
      → patch_told (contents S (media_id_of H) H) (lba * size_of S) (written_bytes result (size_of S) bytes) ≡ contents S (media_id_of H) (command_entry t command result ∷ H)
      → MeetsEra S (command_entry t command result ∷ H) (media_id_of H) d'
  write-era command lba bytes result unsynced is holds =
      let e = command_entry t command result in
      let now : d'.now ≡ contents S (media_id_of H) (e ∷ H) = is.now ∙ rw (meets.size, meets.now) holds in
      era-command S H t command d d' result few is.command meets now (kept-written S.cached e refl (no-flush command result unsynced) now is.kept)

  -- the whole groups of a unit: a put or a wipe
  pub run-written : (command : Command) (r : Request) (u : Span) (result : Result (Unit {0}) BlockFailed) → IsSetup S → request H t ≡ Some r → IsUnitCommand S r command u → is_change command ≡ true → u.whole ≡ true
      → IfErr result (λ fault. fault.done ≤ u.count)
      → patch_told (contents S (media_id_of H) H) (u.block * size_of S) (written_bytes result (size_of S) (bytes_between S r u.low u.high)) ≡ contents S (media_id_of H) (command_entry t command result ∷ H)
  run-written command r u (Ok done) is named of change whole few =
      let low : u.low ≡ u.block * size_of S = run-low S.geometry (from_of S r) (until_of S r) u is.geometry of.unit whole in
      told-map (contents S (media_id_of H) H) (u.block * size_of S) (bytes_between S r u.low u.high)
      ∙ ap (λ at. option_map (λ bytes. patch bytes at (bytes_between S r u.low u.high)) (contents S (media_id_of H) H)) (sym low)
      ∙ sym (done-contents S (media_id_of H) H t command r u refl named of change)
  run-written command r u (Err fault) is named of change whole few =
      let low : u.low ≡ u.block * size_of S = run-low S.geometry (from_of S r) (until_of S r) u is.geometry of.unit whole in
      told-map (contents S (media_id_of H) H) (u.block * size_of S) (take (fault.done * size_of S) (bytes_between S r u.low u.high))
      ∙ ap (λ at. option_map (λ bytes. patch bytes at (take (fault.done * size_of S) (bytes_between S r u.low u.high))) (contents S (media_id_of H) H)) (sym low)
      ∙ sym (fault-contents S (media_id_of H) H t command fault.done r u is refl named of change whole few)
