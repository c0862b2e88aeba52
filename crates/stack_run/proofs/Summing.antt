-- The text of a summary, line by line.
use Rattle.std.proofs.Common.{◌≡◌, ℕ, List, [], ◌∷◌, ◌++◌, length, ◌∙◌, arith}
use Rattle.std.specs.Prelude.{codes}
use Rattle.std.proofs.lemmas.List.{append_assoc}
use Rattle.history.specs.declared.entry.Entry.{Entry}
use Rattle.history.specs.Setup.{Setup}
use Rattle.history.specs.Tokens.{is_read, is_write}
use Rattle.script_text.specs.declared.report.parts.TokenLine.{TokenLine}
use Rattle.script_text.specs.Report.{AreEnds}
use Rattle.script_text.specs.Text.{line_of}
use Rattle.script_text.specs.Tables.{digits_of}
use Rattle.stack_run.specs.declared.summary.Figures.{Figures}
use Rattle.stack_run.specs.Figures.{figures_of}
use Rattle.stack_run.specs.Summary.{moved_bytes, figure_text, summary_text}
use Rattle.stack_run.proofs.Counting.{figures-counted, moved-told}

-- seven texts that were put one behind the other
joined : (a b c d e f g : List ℕ) → (((((a ++ b) ++ c) ++ d) ++ e) ++ f) ++ g ≡ a ++ (b ++ (c ++ (d ++ (e ++ (f ++ g)))))
joined a b c d e f g =
    append_assoc ((((a ++ b) ++ c) ++ d) ++ e) f g
    ∙ (append_assoc (((a ++ b) ++ c) ++ d) e (f ++ g)
    ∙ (append_assoc ((a ++ b) ++ c) d (e ++ (f ++ g))
    ∙ (append_assoc (a ++ b) c (d ++ (e ++ (f ++ g)))
    ∙ append_assoc a b (c ++ (d ++ (e ++ (f ++ g)))))))

-- the lines of these figures and of a CRC32
abbrev pub figures_text : ℕ → Figures → ℕ → List ℕ
figures_text n f crc =
    (((((figure_text (codes "entries") n ++ figure_text (codes "accepted") f.accepted) ++ figure_text (codes "refused") f.refused)
    ++ figure_text (codes "commands") f.commands) ++ figure_text (codes "written") f.written) ++ figure_text (codes "read") f.read)
    ++ line_of (codes "crc" ∷ digits_of 8 crc ∷ [])

-- a text that was put behind the one before it
pub behind : {t0 t1 s0 : List ℕ} (word : List ℕ) {n m : ℕ} → t1 ≡ t0 ++ figure_text word n → t0 ≡ s0 → n ≡ m → t1 ≡ s0 ++ figure_text word m
behind word put before is = put ∙ λ i. before i ++ figure_text word (is i)

pub summary-told : (S : Setup) (H : List Entry) (ends : List TokenLine) (crc : ℕ) → AreEnds S H ends
    → figures_text (length H) (figures_of ends H) crc ≡ summary_text S H crc
summary-told S H ends crc are =
    let all = figures-counted ends H in
    let written : (figures_of ends H).written ≡ moved_bytes S is_write H = all.written ∙ moved-told S H ends are is_write H (omega arith) in
    let read : (figures_of ends H).read ≡ moved_bytes S is_read H = all.read ∙ moved-told S H ends are is_read H (omega arith) in
    joined
    (figure_text (codes "entries") (length H))
    (figure_text (codes "accepted") (figures_of ends H).accepted)
    (figure_text (codes "refused") (figures_of ends H).refused)
    (figure_text (codes "commands") (figures_of ends H).commands)
    (figure_text (codes "written") (figures_of ends H).written)
    (figure_text (codes "read") (figures_of ends H).read)
    (line_of (codes "crc" ∷ digits_of 8 crc ∷ [])) ∙ λ i.
    figure_text (codes "entries") (length H)
    ++ (figure_text (codes "accepted") (all.accepted i)
    ++ (figure_text (codes "refused") (all.refused i)
    ++ (figure_text (codes "commands") (all.commands i)
    ++ (figure_text (codes "written") (written i)
    ++ (figure_text (codes "read") (read i)
    ++ line_of (codes "crc" ∷ digits_of 8 crc ∷ []))))))
