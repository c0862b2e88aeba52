-- What a run did, in numbers (own profile). A history stands newest entry first.
use Rattle.std.specs.Prelude.{ℕ, ◌+◌, Bool, true, false, ◌&&◌, if◌then◌else◌, List, [], ◌∷◌, ◌++◌, length, codes, decimal, count_by}
use Rattle.history.specs.declared.entry.Kind.{Kind}
use Rattle.history.specs.declared.entry.Entry.{Entry}
use Rattle.history.specs.declared.entry.Entry.TheVariants.{Accept, Refuse}
use Rattle.history.specs.Setup.{Setup}
use Rattle.history.specs.Tokens.{token_count, is_read, is_write}
use Rattle.history.specs.Marks.{mark_of}
use Rattle.history.specs.Room.{commands}
use Rattle.script_text.specs.Text.{line_of}
use Rattle.script_text.specs.Tables.{digits_of}
use Rattle.script_text.specs.Report.{is_success}

abbrev pub is_refuse : Entry → Bool
is_refuse (Refuse tag view asked media_id status) = true
is_refuse e = false

abbrev pub refusal_count : List Entry → ℕ
refusal_count H = count_by is_refuse H

-- the bytes of these requests that pass a test and succeeded: each counts where it was accepted
unfoldable pub successful_bytes : (ℕ → Bool) → (Kind → Bool) → List Entry → ℕ
successful_bytes succeeded test [] = 0
successful_bytes succeeded test (Accept tag view asked bytes ∷ before) =
    (if test asked.kind && succeeded (token_count before) then asked.length else 0) + successful_bytes succeeded test before
successful_bytes succeeded test (e ∷ before) = successful_bytes succeeded test before

-- the lengths in bytes of the successful requests of a kind
abbrev pub moved_bytes : Setup → (Kind → Bool) → List Entry → ℕ
moved_bytes S test H = successful_bytes (λ t. is_success (mark_of S H t)) test H

abbrev pub figure_text : List ℕ → ℕ → List ℕ
figure_text word number = line_of (word ∷ decimal number ∷ [])

-- seven lines, the last with the CRC32 of the image
abbrev pub summary_text : Setup → List Entry → ℕ → List ℕ
summary_text S H crc =
    figure_text (codes "entries") (length H)
    ++ (figure_text (codes "accepted") (token_count H)
    ++ (figure_text (codes "refused") (refusal_count H)
    ++ (figure_text (codes "commands") (commands H)
    ++ (figure_text (codes "written") (moved_bytes S is_write H)
    ++ (figure_text (codes "read") (moved_bytes S is_read H)
    ++ line_of (codes "crc" ∷ digits_of 8 crc ∷ []))))))
