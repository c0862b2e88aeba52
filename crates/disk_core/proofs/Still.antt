-- What an entry leaves that makes no command, accepts and ends nothing, and changes no medium and no protection.
use Rattle.std.proofs.Common.{ℕ, List, ◌∷◌, sym, ◌∙◌}
use Rattle.medium.specs.Device.{Device}
use Rattle.drive.specs.Drives.{DriveState}
use Rattle.block_gate.specs.Gates.{Gates}
use Rattle.history.specs.declared.entry.Entry.{Entry}
use Rattle.history.specs.Setup.{Setup}
use Rattle.history.specs.Tokens.{Request}
use Rattle.history_laws.proofs.TokenLemmas.{request-same}
use Rattle.history_laws.proofs.EraLemmas.{protected-same}
use Rattle.history_laws.proofs.MediaLemmas.{media-id-same, present-same}
use Rattle.token_table.specs.declared.record.Record.{Record}
use Rattle.disk_core.specs.declared.parts.Holder.{Holder}
use Rattle.disk_core.specs.Facts.{IsBuffer, GatesFollow}
use Rattle.disk_core.specs.Inside.{DriveFollows, Tracks, HoldersFollow, AreReady}
use Rattle.disk_core.proofs.Over.{gates-over, drive-over, holders-over, tracks-over, buffer-same}
use Rattle.history.specs.Marks.{mark_of}
use Rattle.history_laws.proofs.QuietLemmas.{IsStill, read-same}
use Rattle.history_laws.proofs.StillLemmas.{contents-still, fetches-still, holds-same, holds-still, left-still, mark-still, open-before}

module _ (S : Setup) (H : List Entry) (e : Entry) (still : IsStill S H e) where
  pub gates-still : (gates : Gates) → GatesFollow S H gates → GatesFollow S (e ∷ H) gates
  gates-still gates = gates-over S H (e ∷ H) gates (holds-same S H e still) (holds-still S H e still) (contents-still S H e still) (fetches-still S H e still)

  pub holders-still : (gates : Gates) (holders : List Holder) (places : ℕ) → HoldersFollow S H gates holders places → HoldersFollow S (e ∷ H) gates holders places
  holders-still gates holders places = holders-over S H (e ∷ H) gates holders places (holds-same S H e still) (holds-still S H e still)

  pub drive-still : {M : Type 0} (device : M → Device) (drive : DriveState M) → DriveFollows device S H drive → DriveFollows device S (e ∷ H) drive
  drive-still device drive = drive-over device S H (e ∷ H) drive (media-id-same H e still.puts_none) (present-same H e still.stays_in still.puts_none) (protected-same S H e still.keeps_protection)

  pub ready-still : (ready : ℕ → Type 0) → AreReady S H ready → AreReady S (e ∷ H) ready
  ready-still ready are t b q open_now named changes low high = are t b q ((open-before S H e still) t open_now) (sym (request-same H e t still.adds_none) ∙ named) changes low high

  pub tracks-still : (t : ℕ) (r : Record) (q : Request) → Tracks S H t r q → Tracks S (e ∷ H) t r q
  tracks-still t r q = tracks-over S H e t r q (mark_of S H) (mark_of S (e ∷ H)) (mark-still S H e still t) (left-still S H e still t q)

  pub buffer-still : (t : ℕ) (q : Request) (buffer : List ℕ) → IsBuffer S H t q buffer → IsBuffer S (e ∷ H) t q buffer
  buffer-still t q buffer = buffer-same S H e t q buffer (λ x. read-same S H e t x still.quiet)
