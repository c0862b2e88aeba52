-- What an entry leaves that makes no command, ends no token, and changes no medium.
use Rattle.history.specs.Contents.{contents}
use Rattle.history.specs.Eras.{is_command, media_id_of}
use Rattle.history.specs.Marks.{HoldsBy, IsOutstanding, fetches, mark_of, or_else}
use Rattle.history.specs.Setup.{Setup}
use Rattle.history.specs.Tokens.{Request, token_count}
use Rattle.history.specs.declared.entry.Entry.{Entry}
use Rattle.history_laws.proofs.ContentLemmas.{contents-same, piece-none}
use Rattle.history_laws.proofs.CountLemmas.{accepted-same, fetches-same}
use Rattle.history_laws.proofs.LeftLemmas.{left-done}
use Rattle.history_laws.proofs.MediaLemmas.{media-id-same}
use Rattle.history_laws.proofs.QuietLemmas.{IsStill, no-done, no-fetch, no-store}
use Rattle.history_laws.proofs.TicketLemmas.{holds-by-before, holds-by-stays}
use Rattle.history_laws.proofs.TokenLemmas.{or_else-none}
use Rattle.history_laws.specs.Left.{left_of}
use Rattle.std.proofs.Common.{List, ap, inl, inr, subst, sym, ℕ, ◌<◌, ◌∙◌, ◌∷◌, ◌≡◌}
use Rattle.std.proofs.lemmas.Bool.{true≢false}

module _ (S : Setup) (H : List Entry) (e : Entry) (still : IsStill S H e) where
  pub mark-still : (t : ℕ) → mark_of S (e ∷ H) t ≡ mark_of S H t
  unfolding mark_of
  mark-still t = ap (or_else (mark_of S H t)) (still.unending t) ∙ or_else-none (mark_of S H t)

  pub accepted-still : token_count (e ∷ H) ≡ token_count H
  accepted-still = accepted-same H e still.adds_none

  pub fetches-still : fetches (e ∷ H) ≡ fetches H
  fetches-still = fetches-same H e (no-fetch e still.quiet)

  pub open-before : (t : ℕ) → IsOutstanding S (e ∷ H) t → IsOutstanding S H t
  open-before t open_now = record { token = subst (λ n. t < n) accepted-still open_now.token; unmarked = sym (mark-still t) ∙ open_now.unmarked }

  pub holds-still : (t b k : ℕ) → HoldsBy S H t b k → HoldsBy S (e ∷ H) t b k
  holds-still t b k holds = holds-by-stays S H e t b k still.setup still.may (no-store t b e still.quiet) (mark-still t ∙ holds.holds.outstanding.unmarked) holds

  pub holds-same : (t b k : ℕ) → HoldsBy S (e ∷ H) t b k → HoldsBy S H t b k
  holds-same t b k holds = elim (holds-by-before S H e t b k still.setup still.legal holds) [
    | inl before ↦ before
    | inr is ↦ absurd (true≢false (sym (ap is_command is.0) ∙ still.quiet))
  ]

  pub contents-still : contents S (media_id_of (e ∷ H)) (e ∷ H) ≡ contents S (media_id_of H) H
  contents-still = ap (λ k. contents S k (e ∷ H)) (media-id-same H e still.puts_none) ∙ contents-same S (media_id_of H) H e (piece-none S H e still.quiet)

  pub left-still : (t : ℕ) (q : Request) → left_of S (e ∷ H) t q ≡ left_of S H t q
  left-still t q = left-done S H e t q (no-done e still.quiet)
