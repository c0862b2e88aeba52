-- A byte outside a view is changed by no command of a request of that view.
use Rattle.std.proofs.Common.{◌≡◌, ◌⊎◌, inl, inr, ℕ, ◌+◌, ◌<◌, ◌≤◌, true, List, [], ◌∷◌, ◌++◌, length, Option, None, Some, refl, ◌∙◌, ap, subst, arith}
use Rattle.std.proofs.lemmas.Bool.{cases_eq, eq-eqb}
use Rattle.history.specs.declared.entry.Entry.{Entry}
use Rattle.history.specs.declared.entry.Entry.TheVariants.{Done, Fault}
use Rattle.history.specs.Setup.{Setup, IsSetup}
use Rattle.history.specs.Eras.{media_id_of}
use Rattle.history.specs.Tokens.{Request, request}
use Rattle.history.specs.Commands.{block_count}
use Rattle.history.specs.Contents.{Piece, piece_of, contents, byte_at}
use Rattle.history.specs.Room.{is_command_of}
use Rattle.history.specs.Rules.{MayFollow, IsLegal}
use Rattle.history_laws.specs.Ranges.{IsInView, IsPieceOf, AreToldWhole, IsOutside, AreOutside, OutsideStays}
use Rattle.history_laws.proofs.ContentLemmas.{contents-piece, contents-same, contents-other}
use Rattle.history_laws.proofs.GateLemmas.{byte-outside, piece-fits}
use Rattle.history_laws.proofs.HolderLemmas.{changes-moving}
use Rattle.history_laws.proofs.MediaLemmas.{range-in-view, open-media}
use Rattle.history_laws.proofs.RangeLemmas.{IsEntryPiece, entry-piece, entry-piece-of}

module _ (S : Setup) (is : IsSetup S) (whole : AreToldWhole S) where
  -- the command of a piece
  command-of : (G : List Entry) (e : Entry) (p : Piece) (of : IsEntryPiece S G e p) → is_command_of of.token e ≡ true
  command-of G e p of = by of.made
    where
      by : ((e ≡ Done of.token of.command) × (of.count ≡ block_count S of.command)) ⊎ (e ≡ Fault of.token of.command of.count) → is_command_of of.token e ≡ true
      by (inl (made, all)) = rw made (eq-eqb of.token of.token refl)
      by (inr made) = rw made (eq-eqb of.token of.token refl)

  byte-stays : (k x : ℕ) (G : List Entry) (e : Entry) → IsLegal S G → MayFollow S G e → ((t : ℕ) (r : Request) → is_command_of t e ≡ true → request G t ≡ Some r → IsOutside r.view k x)
      → byte_at (contents S k (e ∷ G)) x ≡ byte_at (contents S k G) x
  byte-stays k x G e legal may out = elim (cases_eq (media_id_of G) k) [
    | inr other ↦ ap (λ c. byte_at c x) (contents-other S k G e other)
    | inl in_ ↦ by in_ (piece_of S G e) refl
  ]
    where
      apart : (p : Piece) (r : Request) → r.view.media_id ≡ k → IsPieceOf S G p r → IsInView S r → IsOutside r.view k x → (x < p.at) ⊎ (p.at + length p.bytes ≤ x)
      apart p r on of inside (inl other) = absurd (other on)
      apart p r on of inside (inr (inl before)) = inl (omega (arith, before, of.begins, inside.begins))
      apart p r on of inside (inr (inr behind)) = inr (omega (arith, behind, of.ends, inside.ends))

      outside : media_id_of G ≡ k → (p : Piece) → IsEntryPiece S G e p → (x < p.at) ⊎ (p.at + length p.bytes ≤ x)
      outside in_ p of =
          apart p of.asked ((open-media S G of.token of.asked legal of.piece.outstanding of.piece.named).1 ∙ in_) (entry-piece-of S G e p of) (range-in-view S G of.token of.asked legal of.piece.named (changes-moving of.asked.asked.kind of.piece.changes))
          (out of.token of.asked (command-of G e p of) of.piece.named)

      by : media_id_of G ≡ k → (o : Option Piece) → piece_of S G e ≡ o → byte_at (contents S k (e ∷ G)) x ≡ byte_at (contents S k G) x
      by in_ None none = ap (λ c. byte_at c x) (contents-same S k G e none)
      by in_ (Some p) gives =
          ap (λ c. byte_at c x) (contents-piece S k G e p in_ gives)
          ∙ byte-outside (contents S k G) p x (piece-fits S k G e p is whole legal may in_ gives) (outside in_ p (entry-piece S G e p is legal may gives))

  stays-over : (k x : ℕ) (more before : List Entry) → IsLegal S (more ++ before) → AreOutside before more k x → byte_at (contents S k (more ++ before)) x ≡ byte_at (contents S k before) x
  unfolding IsLegal AreOutside
  stays-over k x [] before legal out = refl
  stays-over k x (e ∷ more) before (legal, may) (out, others) = byte-stays k x (more ++ before) e legal may out ∙ stays-over k x more before legal others

  pub outside-stays : (all : List Entry) → IsLegal S all → OutsideStays S all
  outside-stays all legal k x more before is_ out =
      ap (λ H. byte_at (contents S k H) x) is_ ∙ stays-over k x more before (subst (λ H. IsLegal S H) is_ legal) out
