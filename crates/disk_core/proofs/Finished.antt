-- Records and kept buffers after a done command.
use Rattle.std.proofs.Common.{◌≡◌, ℕ, ◌+◌, false, List, ◌∷◌, Option, None, refl, sym, ◌∙◌, subst, arith}
use Rattle.efi_status.specs.declared.Status.{Status}
use Rattle.history.specs.declared.entry.Command.{Command}
use Rattle.history.specs.declared.entry.Entry.{Entry}
use Rattle.history.specs.declared.entry.Entry.TheVariants.{Done}
use Rattle.history.specs.Setup.{Setup, IsSetup}
use Rattle.history.specs.Tokens.{Request}
use Rattle.history.specs.Commands.{is_get}
use Rattle.history.specs.Marks.{mark_of}
use Rattle.history.specs.Tasks.{Task}
use Rattle.history_laws.specs.Left.{task_bytes, left_of}
use Rattle.history_laws.specs.TokenFacts.{concerns}
use Rattle.history_laws.proofs.CountLemmas.{accepted-same}
use Rattle.history_laws.proofs.TokenLemmas.{request-stays, done-concerns, collected-same}
use Rattle.token_table.specs.declared.record.Record.{Record}
use Rattle.token_table.specs.Records.{Records, with_change, lower_record, ended_record, IsShown}
use Rattle.disk_core.specs.State.{Kept}
use Rattle.disk_core.specs.Facts.{KeptFollow}
use Rattle.disk_core.specs.Parts.{kept_from}
use Rattle.disk_core.specs.Inside.{Tracks, RecordsFollow, TracksBy, RecordsBy}
use Rattle.history_laws.proofs.LeftLemmas.{FinishesTask, left-falls}
use Rattle.std.proofs.lemmas.Option.{same_Some}
use Rattle.disk_core.proofs.Kept.{each-changed}
use Rattle.disk_core.proofs.Over.{tracks-over, kept-over}
use Rattle.history_laws.proofs.LeftLemmas.{left-other}
use Rattle.history_laws.proofs.QuietLemmas.{read-other}

pub kept-lowered : (by : ℕ) (r : Record) → kept_from (lower_record by r) ≡ kept_from r
unfolding lower_record
kept-lowered by r = refl

pub kept-ended : (status : Status) (r : Record) → kept_from (ended_record status r) ≡ kept_from r
unfolding ended_record
kept-ended status r = refl

shown-lowered : (by : ℕ) (r : Record) → IsShown r → IsShown (lower_record by r)
unfolding IsShown lower_record
shown-lowered by r shown = shown

far-other : (S : Setup) (H : List Entry) (e : Entry) (t : ℕ) (r : Record) (q : Request) → concerns H e t ≡ false → Tracks S H t r q → TracksBy S (e ∷ H) (mark_of S H) t r q
far-other S H e t r q quiet = tracks-over S H e t r q (mark_of S H) (mark_of S H) refl (left-other S H e t q quiet)

far-lowered : (S : Setup) (H : List Entry) (t : ℕ) (c : Command) (q : Request) (task : Task) (r : Record) (p : Request) → IsSetup S → FinishesTask S H t c q task → mark_of S H t ≡ None → Tracks S H t r p
    → TracksBy S (Done t c ∷ H) (mark_of S H) t (lower_record (task_bytes task) r) p
unfolding lower_record
far-lowered S H t c q task r p is finishes unmarked tracks =
    let same : q ≡ p = same_Some q p (sym finishes.named ∙ tracks.named) in
    let fall : left_of S (Done t c ∷ H) t p + task_bytes task ≡ left_of S H t p = subst (λ v. left_of S (Done t c ∷ H) t v + task_bytes task ≡ left_of S H t v) same (left-falls S H t c q task is finishes) in
    let was = tracks.left (sym tracks.mark ∙ unmarked) in
    record {
      named = request-stays H (Done t c) t p tracks.named;
      viewed = tracks.viewed;
      asked = tracks.asked;
      begins = tracks.begins;
      mark = tracks.mark;
      left = λ unended. omega arith;
    }

-- the records where the unit was finished; its token ends only later
pub records-lowered : (S : Setup) (H : List Entry) (t : ℕ) (c : Command) (q : Request) (task : Task) (records : Records) → IsSetup S → FinishesTask S H t c q task → mark_of S H t ≡ None → RecordsFollow S H records
    → RecordsBy S (Done t c ∷ H) (mark_of S H) (with_change (lower_record (task_bytes task)) records t)
records-lowered S H t c q task records is finishes unmarked follow = record {
  each = each-changed change records t (λ u r. (p : Request) × Tracks S H u r p) (λ u r. (p : Request) × TracksBy S (Done t c ∷ H) (mark_of S H) u r p) follow.each
      (λ u r other old. (old.0, far-other S H (Done t c) u r old.0 (done-concerns H t u c other) old.1))
      (λ r old. (old.0, far-lowered S H t c q task r old.0 is finishes unmarked old.1));
  shown = record {
    each = each-changed change records t (λ u r. IsShown r) (λ u r. IsShown r) follow.shown.each (λ u r other shown. shown) (λ r shown. shown-lowered (task_bytes task) r shown);
  };
}
  where
    change : Record → Record
    change = lower_record (task_bytes task)

-- the buffers, where the command is no get
pub kept-done : (S : Setup) (H : List Entry) (t : ℕ) (c : Command) (kept : List (Option Kept)) → is_get c ≡ false → KeptFollow S H kept → KeptFollow S (Done t c ∷ H) kept
kept-done S H t c kept quiet = kept-over S H (Done t c) kept (accepted-same H (Done t c) refl) (λ u. collected-same H (Done t c) u refl) (λ u x. read-other S H t u x c quiet)
