-- The lines of tokens.
use Rattle.std.proofs.Common.{◌≡◌, ℕ, zero, suc, ◌+◌, Bool, ◌&&◌, List, [], ◌∷◌, ◌++◌, slice_get, reverse, Option, Some, IfSome, refl, ap, sym, subst, ◌∙◌, arith}
use Rattle.efi_status.specs.declared.Status.{Status}
use Rattle.history.specs.declared.entry.Entry.{Entry}
use Rattle.history.specs.Setup.{Setup, per_of}
use Rattle.history.specs.Tokens.{request}
use Rattle.history.specs.Marks.{mark_of}
use Rattle.script_text.specs.declared.report.parts.KeptMedium.{KeptMedium}
use Rattle.script_text.specs.declared.report.parts.TokenLine.{TokenLine}
use Rattle.script_text.specs.Text.{lines_text}
use Rattle.script_text.specs.Report.{token_text, tokens_text, is_success, is_tagged_read, gives_bytes, given_if, tagged_reads, end_text, ends_text, body_text, ended_text, givens_of, AreEnds}
use Rattle.script_text.proofs.LineLoops.{lines_of_map}
use Rattle.script_text.proofs.TaggedReads.{tagged_is}

-- a line with this mark is a line with the status of the end
marked_line : (t : ℕ) (tagged : Bool) (mark : Option Status) (end : TokenLine) → mark ≡ Some end.status → token_text t mark (given_if (tagged && is_success mark) end.given) ≡ end_text t tagged end
marked_line t tagged mark end is = ap (λ m. token_text t m (given_if (tagged && is_success m) end.given)) is

marked_lines : (tagged : ℕ → Bool) (mark : ℕ → Option Status) (p : ℕ) (ends : List TokenLine) → ((t : ℕ) → IfSome (slice_get ends t) (λ line. mark (p + t) ≡ Some line.status)) → lines_text (λ t end. token_text t (mark t) (given_if (tagged t && is_success (mark t)) end.given)) p ends ≡ lines_text (λ t end. end_text t (tagged t) end) p ends
unfolding lines_text
marked_lines tagged mark p [] each = refl
marked_lines tagged mark p (end ∷ more) each =
    let here : p + 0 ≡ p = omega arith in
    let first : mark p ≡ Some end.status = rw here at (each zero) in
    let later : (t : ℕ) → IfSome (slice_get more t) (λ line. mark (p + 1 + t) ≡ Some line.status) =
    λ t. (let at : p + suc t ≡ p + 1 + t = omega arith in subst (λ n. IfSome (slice_get more t) (λ line. mark n ≡ Some line.status)) at (each (suc t))) in
    ap (λ l. l ++ lines_text (λ t end. token_text t (mark t) (given_if (tagged t && is_success (mark t)) end.given)) (p + 1) more) (marked_line p (tagged p) (mark p) end first)
    ∙ ap (λ l. end_text p (tagged p) end ++ l) (marked_lines tagged mark (p + 1) more later)

tokens_of_ends : (S : Setup) (H : List Entry) (ends : List TokenLine) → AreEnds S H ends → tokens_text S H (givens_of ends) ≡ ends_text (tagged_reads (reverse H)) ends
unfolding gives_bytes
tokens_of_ends S H ends all =
    lines_of_map (λ t given. token_text t (mark_of S H t) (given_if (is_tagged_read (request H t) && is_success (mark_of S H t)) given)) (λ end. end.given) 0 ends
    ∙ marked_lines (λ t. is_tagged_read (request H t)) (mark_of S H) 0 ends (λ t. (let at : 0 + t ≡ t = omega arith in rw at (all.each t)))
    ∙ ap (λ (tagged : ℕ → Bool). lines_text (λ t end. end_text t (tagged t) end) 0 ends) (λ i t. sym (tagged_is H t) i)

-- the lines behind the first are those of the ends
pub body_of_ends : (S : Setup) (per : ℕ) (H : List Entry) (ends : List TokenLine) (media : List KeptMedium) → per_of S ≡ per → AreEnds S H ends → body_text S H (givens_of ends) media ≡ ended_text per H ends media
unfolding body_text ended_text
body_of_ends S per H ends media grouped all = rw (tokens_of_ends S H ends all, grouped) refl
