-- The medium that is in and the bytes of all media, where entries leave them as they were.
use Rattle.std.proofs.Common.{◌≡◌, ℕ, Bool, true, false, nat_eq, ◌||◌, List, ◌∷◌, None, refl, ◌∙◌}
use Rattle.std.proofs.lemmas.Bool.{eq-eqb}
use Rattle.disk_split.specs.declared.span.Span.{Span}
use Rattle.history.specs.declared.entry.Command.TheVariants.{Get}
use Rattle.history.specs.declared.entry.Entry.{Entry}
use Rattle.history.specs.declared.entry.Entry.TheVariants.{Collect, Fault}
use Rattle.history.specs.Setup.{Setup}
use Rattle.history.specs.Eras.{is_eject, is_insert, is_present, media_id_of}
use Rattle.history.specs.Tokens.{was_collected}
use Rattle.history.specs.Contents.{contents, kept_contents, piece_of}
use Rattle.history_laws.proofs.ContentLemmas.{contents-same, is_flush_entry, kept-same, piece-none, piece-unchanged-fault}
use Rattle.history_laws.proofs.MediaLemmas.{media-id-same, present-same}

-- the medium that is in, and the bytes of all media, are as they were
pub record SameMedia (S : Setup) (G G' : List Entry) : Type 0 where
  pub media_id : media_id_of G' ≡ media_id_of G
  pub present : is_present G' ≡ is_present G
  pub bytes : (k : ℕ) → contents S k G' ≡ contents S k G
  pub kept : (k : ℕ) → kept_contents S k G' ≡ kept_contents S k G

pub same-media : (S : Setup) (G : List Entry) → SameMedia S G G
same-media S G = record { media_id = refl; present = refl; bytes = λ k. refl; kept = λ k. refl }

pub same-on : (S : Setup) (A B C : List Entry) → SameMedia S A B → SameMedia S B C → SameMedia S A C
same-on S A B C one two = record {
  media_id = two.media_id ∙ one.media_id;
  present = two.present ∙ one.present;
  bytes = λ k. two.bytes k ∙ one.bytes k;
  kept = λ k. two.kept k ∙ one.kept k;
}

pub same-entry : (S : Setup) (G : List Entry) (e : Entry) → is_insert e ≡ false → is_eject e ≡ false → is_flush_entry e ≡ false → piece_of S G e ≡ None → SameMedia S G (e ∷ G)
same-entry S G e in_ out flush piece = record {
  media_id = media-id-same G e in_;
  present = present-same G e out in_;
  bytes = λ k. contents-same S k G e piece;
  kept = λ k. kept-same S k G e flush piece;
}

pub same-collect : (S : Setup) (G : List Entry) (t : ℕ) → SameMedia S G (Collect 0 t ∷ G)
same-collect S G t = same-entry S G (Collect 0 t) refl refl refl (piece-none S G (Collect 0 t) refl)

pub same-fault : (S : Setup) (G : List Entry) (t : ℕ) (u : Span) → SameMedia S G (Fault t (Get u.block u.count) 0 ∷ G)
same-fault S G t u = same-entry S G (Fault t (Get u.block u.count) 0) refl refl refl (piece-unchanged-fault S G t (Get u.block u.count) 0 refl)

pub collected-now : (t : ℕ) (G : List Entry) → was_collected (Collect 0 t ∷ G) t ≡ true
unfolding was_collected
collected-now t G = rw (eq-eqb t t refl) refl
