-- What an accept leaves of the tokens before it.
use Rattle.history.specs.Contents.{contents}
use Rattle.history.specs.Eras.{media_id_of}
use Rattle.history.specs.Marks.{HoldsBy, mark_of}
use Rattle.history.specs.Rules.{IsLegal, MayAccept, MayFollow}
use Rattle.history.specs.Setup.{IsSetup, Setup}
use Rattle.history.specs.Tokens.{token_count}
use Rattle.history.specs.declared.entry.Asked.{Asked}
use Rattle.history.specs.declared.entry.Command.TheVariants.{Fetch}
use Rattle.history.specs.declared.entry.Entry.{Entry}
use Rattle.history.specs.declared.entry.Entry.TheVariants.{Accept, Done}
use Rattle.history.specs.declared.entry.View.{View}
use Rattle.history_laws.proofs.ContentLemmas.{contents-same, piece-none}
use Rattle.history_laws.proofs.CountLemmas.{accepted-more}
use Rattle.history_laws.proofs.MediaLemmas.{media-id-same}
use Rattle.history_laws.proofs.TicketLemmas.{holds-by-before, holds-by-stays}
use Rattle.history_laws.proofs.TokenLemmas.{accept-concerns, mark-other}
use Rattle.std.proofs.Common.{List, ap, arith, inl, inr, refl, ℕ, ◌+◌, ◌<◌, ◌∙◌, ◌∷◌, ◌≡◌, ◌≢◌}

module _ (S : Setup) (H : List Entry) (tag : ℕ) (view : View) (asked : Asked) (bytes : List ℕ) (setup : IsSetup S) (legal : IsLegal S H) (may : MayAccept S H view asked bytes) where
  abbrev e : Entry
  e = Accept tag view asked bytes

  pub legal-accept : IsLegal S (e ∷ H)
  unfolding IsLegal MayFollow
  legal-accept = (legal, may)

  pub may-follow : MayFollow S H e
  unfolding MayFollow
  may-follow = may

  pub more : token_count (e ∷ H) ≡ token_count H + 1
  more = accepted-more H e refl

  pub older : (u : ℕ) → u < token_count H → u ≢ token_count H
  older u lt same = absurd (omega arith)

  pub mark-old : (u : ℕ) → u ≢ token_count H → mark_of S (e ∷ H) u ≡ mark_of S H u
  mark-old u other = mark-other S H e u (accept-concerns H tag view asked bytes u other)

  pub holds-accept : (t b k : ℕ) → HoldsBy S H t b k → HoldsBy S (e ∷ H) t b k
  holds-accept t b k holds =
      holds-by-stays S H e t b k setup may-follow refl (mark-old t (older t holds.holds.outstanding.token) ∙ holds.holds.outstanding.unmarked) holds

  pub no-fetch : (t b : ℕ) → e ≡ Done t (Fetch b) → ⊥
  no-fetch t b is = cc

  pub holds-was : (t b k : ℕ) → HoldsBy S (e ∷ H) t b k → HoldsBy S H t b k
  holds-was t b k holds = elim (holds-by-before S H e t b k setup legal-accept holds) [
    | inl before ↦ before
    | inr is ↦ absurd (no-fetch t b is.0)
  ]

  pub contents-accept : contents S (media_id_of (e ∷ H)) (e ∷ H) ≡ contents S (media_id_of H) H
  contents-accept = ap (λ k. contents S k (e ∷ H)) (media-id-same H e refl) ∙ contents-same S (media_id_of H) H e (piece-none S H e refl)
