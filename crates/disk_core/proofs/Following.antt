-- Each medium follows the history through an entry that is no command.
use Rattle.std.proofs.Common.{◌≡◌, ℕ, ◌≤◌, false, List, ◌∷◌, sym, ◌∙◌, subst}
use Rattle.medium.specs.Device.{Device}
use Rattle.history.specs.declared.entry.Entry.{Entry}
use Rattle.history.specs.Setup.{Setup}
use Rattle.history.specs.Eras.{is_command, is_fault}
use Rattle.history_laws.proofs.ContentLemmas.{contents-same, kept-same, piece-none}
use Rattle.history_laws.proofs.EraLemmas.{era_count-same}
use Rattle.disk_core.specs.Facts.{MeetsEra}
use Rattle.history_laws.proofs.QuietLemmas.{fault-none, flush-none}

pub era-still : (S : Setup) (H : List Entry) (e : Entry) (k : ℕ) (d : Device) → is_command e ≡ false → MeetsEra S H k d → MeetsEra S (e ∷ H) k d
era-still S H e k d still meets =
    let piece = piece-none S H e still in
    let faults = era_count-same is_fault k H e (fault-none e still) in
    record {
      opening = meets.opening;
      size = meets.size;
      cached = meets.cached;
      now = meets.now ∙ sym (contents-same S k H e piece);
      kept = meets.kept ∙ sym (kept-same S k H e (flush-none e still) piece);
      calls = meets.calls ∙ sym (era_count-same is_command k H e still);
      failed = meets.failed ∙ sym faults;
      faults = subst (λ n. n ≤ d.faults) (sym faults) meets.faults;
    }
