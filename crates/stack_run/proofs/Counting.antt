-- The figures of entries are what the summary tells.
use Rattle.std.proofs.Common.{◌≡◌, ℕ, ◌+◌, ◌<◌, ◌≤◌, Bool, true, false, ◌&&◌, if◌then◌else◌, List, [], ◌∷◌, ◌++◌, length, reverse, take, get_or, slice_get, None, Some, refl, ap, sym, ◌∙◌, arith, add-one, zero-add, ◌⊎◌, inl, inr, lt_irrefl}
use Rattle.std.proofs.lemmas.Option.{slice_get_cases}
use Rattle.std.proofs.Math.Seq.{take-suc}
use Rattle.std.proofs.lemmas.List.{reverse-append}
use Rattle.history.specs.declared.entry.View.{View}
use Rattle.history.specs.declared.entry.Asked.{Asked}
use Rattle.history.specs.declared.entry.Kind.{Kind}
use Rattle.history.specs.declared.entry.Kind.TheVariants.{Read, Write, Flush, Erase}
use Rattle.history.specs.declared.entry.Entry.{Entry}
use Rattle.history.specs.declared.entry.Entry.TheVariants.{Accept, Refuse, Done, Fault, Collect, Cancel, Reset, Eject, Insert, Protect}
use Rattle.history.specs.Setup.{Setup}
use Rattle.history.specs.Tokens.{is_accept, token_count, is_read, is_write}
use Rattle.history.specs.Eras.{is_command}
use Rattle.history.specs.Marks.{mark_of}
use Rattle.history.specs.Room.{commands}
use Rattle.history_laws.proofs.CountLemmas.{count-more, count-same, accepted-more, accepted-same, commands-more, commands-same}
use Rattle.script_text.specs.declared.report.parts.TokenLine.{TokenLine}
use Rattle.script_text.specs.Report.{AreEnds, is_success}
use Rattle.stack_run.specs.declared.summary.Figures.{Figures}
use Rattle.stack_run.specs.Figures.{is_success_by, with_moved, with_accepted, figures_with, figures_of}
use Rattle.stack_run.specs.Summary.{is_refuse, refusal_count, successful_bytes}

-- one entry further, of entries of which the oldest stands first
pub figures-next : (ends : List TokenLine) (es : List Entry) (i : ℕ) (e : Entry) → i < length es
    → figures_of ends (reverse (take (i + 1) es)) ≡ figures_with ends (get_or es i e) (figures_of ends (reverse (take i es)))
unfolding figures_of
figures-next ends es i e there =
    let longer : take (i + 1) es ≡ take i es ++ (get_or es i e ∷ []) = ap (λ n. take n es) (add-one i) ∙ take-suc es i e there in
    ap (figures_of ends) (ap reverse longer ∙ reverse-append (take i es) (get_or es i e ∷ []))

-- the figures are the numbers of the entries
pub record AreCounted (ends : List TokenLine) (H : List Entry) (f : Figures) : Type 0 where
  pub accepted : f.accepted ≡ token_count H
  pub refused : f.refused ≡ refusal_count H
  pub commands : f.commands ≡ commands H
  pub written : f.written ≡ successful_bytes (is_success_by ends) is_write H
  pub read : f.read ≡ successful_bytes (is_success_by ends) is_read H

-- what one more successful request adds
record AddsMoved (b : Bool) (k : Kind) (n : ℕ) (f f' : Figures) : Type 0 where
  written : f'.written ≡ (if is_write k && b then n else 0) + f.written
  read : f'.read ≡ (if is_read k && b then n else 0) + f.read
  refused : f'.refused ≡ f.refused
  commands : f'.commands ≡ f.commands

moves : (k : Kind) (n : ℕ) (f : Figures) → AddsMoved true k n f (with_moved k n f)
moves Read n f = record { written = sym (zero-add f.written); read = omega arith; refused = refl; commands = refl }
moves Write n f = record { written = omega arith; read = sym (zero-add f.read); refused = refl; commands = refl }
moves Flush n f = record { written = sym (zero-add f.written); read = sym (zero-add f.read); refused = refl; commands = refl }
moves Erase n f = record { written = sym (zero-add f.written); read = sym (zero-add f.read); refused = refl; commands = refl }

stays : (k : Kind) (n : ℕ) (f : Figures) → AddsMoved false k n f f
stays k n f = record { written = none (is_write k) f.written; read = none (is_read k) f.read; refused = refl; commands = refl }
  where
    none : (b : Bool) (m : ℕ) → m ≡ (if b && false then n else 0) + m
    none true m = sym (zero-add m)
    none false m = sym (zero-add m)

adds : (b : Bool) (k : Kind) (n : ℕ) (f f' : Figures) (ends : List TokenLine) (H : List Entry) → is_success_by ends f.accepted ≡ b → f.accepted ≡ token_count H
    → AddsMoved b k n f f' → (f'.written ≡ (if is_write k && is_success_by ends (token_count H) then n else 0) + f.written)
    × (f'.read ≡ (if is_read k && is_success_by ends (token_count H) then n else 0) + f.read)
adds b k n f f' ends H is count more =
    let same : is_success_by ends (token_count H) ≡ b = ap (is_success_by ends) (sym count) ∙ is in
    (rw same more.written, rw same more.read)

-- so of one more that was accepted
accept-counted : (ends : List TokenLine) (tag : ℕ) (view : View) (asked : Asked) (bytes : List ℕ) (before : List Entry) (f : Figures) → AreCounted ends before f
    → AreCounted ends (Accept tag view asked bytes ∷ before) (with_accepted (is_success_by ends f.accepted) asked f)
unfolding successful_bytes
accept-counted ends tag view asked bytes before f all = by (is_success_by ends f.accepted) refl
  where
    counted : (b : Bool) (f' : Figures) → is_success_by ends f.accepted ≡ b → AddsMoved b asked.kind asked.length f f' → AreCounted ends (Accept tag view asked bytes ∷ before) (record f' { accepted = f.accepted + 1 })
    counted b f' is more =
        let two = adds b asked.kind asked.length f f' ends before is all.accepted more in
        record {
          accepted = ap (λ n. n + 1) all.accepted ∙ sym (accepted-more before (Accept tag view asked bytes) refl);
          refused = more.refused ∙ (all.refused ∙ sym (count-same is_refuse (Accept tag view asked bytes) before refl));
          commands = more.commands ∙ (all.commands ∙ sym (commands-same before (Accept tag view asked bytes) refl));
          written = two.0 ∙ ap (λ n. (if is_write asked.kind && is_success_by ends (token_count before) then asked.length else 0) + n) all.written;
          read = two.1 ∙ ap (λ n. (if is_read asked.kind && is_success_by ends (token_count before) then asked.length else 0) + n) all.read;
        }

    by : (b : Bool) → is_success_by ends f.accepted ≡ b → AreCounted ends (Accept tag view asked bytes ∷ before) (with_accepted b asked f)
    by true is = counted true (with_moved asked.kind asked.length f) is (moves asked.kind asked.length f)
    by false is = counted false f is (stays asked.kind asked.length f)

-- an entry that is none of these counts nowhere
quiet-counted : (ends : List TokenLine) (e : Entry) (before : List Entry) (f : Figures) → is_accept e ≡ false → is_refuse e ≡ false → is_command e ≡ false
    → ((test : Kind → Bool) → successful_bytes (is_success_by ends) test (e ∷ before) ≡ successful_bytes (is_success_by ends) test before) → AreCounted ends before f → AreCounted ends (e ∷ before) f
quiet-counted ends e before f no_accept no_refuse no_command same all = record {
  accepted = all.accepted ∙ sym (accepted-same before e no_accept);
  refused = all.refused ∙ sym (count-same is_refuse e before no_refuse);
  commands = all.commands ∙ sym (commands-same before e no_command);
  written = all.written ∙ sym (same is_write);
  read = all.read ∙ sym (same is_read);
}

command-counted : (ends : List TokenLine) (e : Entry) (before : List Entry) (f : Figures) → is_accept e ≡ false → is_refuse e ≡ false → is_command e ≡ true
    → ((test : Kind → Bool) → successful_bytes (is_success_by ends) test (e ∷ before) ≡ successful_bytes (is_success_by ends) test before) → AreCounted ends before f
    → AreCounted ends (e ∷ before) (record f { commands = f.commands + 1 })
command-counted ends e before f no_accept no_refuse command same all = record {
  accepted = all.accepted ∙ sym (accepted-same before e no_accept);
  refused = all.refused ∙ sym (count-same is_refuse e before no_refuse);
  commands = ap (λ n. n + 1) all.commands ∙ sym (commands-more before e command);
  written = all.written ∙ sym (same is_write);
  read = all.read ∙ sym (same is_read);
}

-- so of all entries
pub figures-counted : (ends : List TokenLine) (H : List Entry) → AreCounted ends H (figures_of ends H)
unfolding figures_of successful_bytes token_count commands
figures-counted ends [] = record { accepted = refl; refused = refl; commands = refl; written = refl; read = refl }
figures-counted ends (Accept tag view asked bytes ∷ before) = accept-counted ends tag view asked bytes before (figures_of ends before) (figures-counted ends before)
figures-counted ends (Refuse tag view asked media_id status ∷ before) =
    let all = figures-counted ends before in
    let e : Entry = Refuse tag view asked media_id status in
    record {
      accepted = all.accepted ∙ sym (accepted-same before e refl);
      refused = ap (λ n. n + 1) all.refused ∙ sym (count-more is_refuse e before refl);
      commands = all.commands ∙ sym (commands-same before e refl);
      written = all.written;
      read = all.read;
    }
figures-counted ends (Done t c ∷ before) = command-counted ends (Done t c) before (figures_of ends before) refl refl refl (λ test. refl) (figures-counted ends before)
figures-counted ends (Fault t c done ∷ before) = command-counted ends (Fault t c done) before (figures_of ends before) refl refl refl (λ test. refl) (figures-counted ends before)
figures-counted ends (Collect tag t ∷ before) = quiet-counted ends (Collect tag t) before (figures_of ends before) refl refl refl (λ test. refl) (figures-counted ends before)
figures-counted ends (Cancel tag view ∷ before) = quiet-counted ends (Cancel tag view) before (figures_of ends before) refl refl refl (λ test. refl) (figures-counted ends before)
figures-counted ends (Reset tag ∷ before) = quiet-counted ends (Reset tag) before (figures_of ends before) refl refl refl (λ test. refl) (figures-counted ends before)
figures-counted ends (Eject tag ∷ before) = quiet-counted ends (Eject tag) before (figures_of ends before) refl refl refl (λ test. refl) (figures-counted ends before)
figures-counted ends (Insert tag media_id ∷ before) = quiet-counted ends (Insert tag media_id) before (figures_of ends before) refl refl refl (λ test. refl) (figures-counted ends before)
figures-counted ends (Protect tag on ∷ before) = quiet-counted ends (Protect tag on) before (figures_of ends before) refl refl refl (λ test. refl) (figures-counted ends before)

-- lines that say how the tokens ended tell which succeeded
success-told : (S : Setup) (H : List Entry) (ends : List TokenLine) → AreEnds S H ends → (t : ℕ) → t < length ends → is_success_by ends t ≡ is_success (mark_of S H t)
success-told S H ends are t there = by (slice_get_cases ends t).1
  where
    by : ((line : TokenLine) × (t < length ends) × (slice_get ends t ≡ Some line) × (get_or ends t line ≡ line)) ⊎ ((length ends ≤ t) × (slice_get ends t ≡ None)) → is_success_by ends t ≡ is_success (mark_of S H t)
    by (inl (line, lt, is, same)) = let each = are.each t in rw is (ap is_success (sym (rw is at each)))
    by (inr (past, none)) = let no_way : t < t = omega arith in absurd (lt_irrefl t no_way)

-- so of the bytes that were moved
pub moved-told : (S : Setup) (H : List Entry) (ends : List TokenLine) → AreEnds S H ends → (test : Kind → Bool) (G : List Entry) → token_count G ≤ token_count H
    → successful_bytes (is_success_by ends) test G ≡ successful_bytes (λ t. is_success (mark_of S H t)) test G
unfolding successful_bytes
moved-told S H ends are test [] few = refl
moved-told S H ends are test (Accept tag view asked bytes ∷ before) few =
    let one = accepted-more before (Accept tag view asked bytes) refl in
    let there : token_count before < length ends = let count = are.count in omega arith in
    let same : is_success_by ends (token_count before) ≡ is_success (mark_of S H (token_count before)) = success-told S H ends are (token_count before) there in
    let rest = moved-told S H ends are test before (omega arith) in
    λ i. (if test asked.kind && same i then asked.length else 0) + rest i
moved-told S H ends are test (Refuse tag view asked media_id status ∷ before) few = moved-told S H ends are test before (let n = accepted-same before (Refuse tag view asked media_id status) refl in omega arith)
moved-told S H ends are test (Done t c ∷ before) few = moved-told S H ends are test before (let n = accepted-same before (Done t c) refl in omega arith)
moved-told S H ends are test (Fault t c done ∷ before) few = moved-told S H ends are test before (let n = accepted-same before (Fault t c done) refl in omega arith)
moved-told S H ends are test (Collect tag t ∷ before) few = moved-told S H ends are test before (let n = accepted-same before (Collect tag t) refl in omega arith)
moved-told S H ends are test (Cancel tag view ∷ before) few = moved-told S H ends are test before (let n = accepted-same before (Cancel tag view) refl in omega arith)
moved-told S H ends are test (Reset tag ∷ before) few = moved-told S H ends are test before (let n = accepted-same before (Reset tag) refl in omega arith)
moved-told S H ends are test (Eject tag ∷ before) few = moved-told S H ends are test before (let n = accepted-same before (Eject tag) refl in omega arith)
moved-told S H ends are test (Insert tag media_id ∷ before) few = moved-told S H ends are test before (let n = accepted-same before (Insert tag media_id) refl in omega arith)
moved-told S H ends are test (Protect tag on ∷ before) few = moved-told S H ends are test before (let n = accepted-same before (Protect tag on) refl in omega arith)
