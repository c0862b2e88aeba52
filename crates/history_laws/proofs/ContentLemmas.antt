-- How each entry changes what a medium holds.
use Rattle.std.proofs.Common.{◌≡◌, ◌≢◌, ℕ, nat_eq, Bool, true, false, if◌then◌else◌, List, ◌∷◌, Option, None, Some, option_map, refl}
use Rattle.std.proofs.lemmas.Bool.{eq-eqb, ne_eqb, and_right}
use Rattle.byte_lists.specs.Patching.{patch}
use Rattle.history.specs.declared.entry.Command.{Command}
use Rattle.history.specs.declared.entry.Entry.{Entry}
use Rattle.history.specs.declared.entry.Entry.TheVariants.{Done, Fault}
use Rattle.history.specs.Setup.{Setup, first_of}
use Rattle.history.specs.Eras.{is_command, media_id_of}
use Rattle.history.specs.Commands.{is_change, is_sync}
use Rattle.history.specs.Contents.{Piece, piece_of, with_piece, pieces_of, patch_all, contents, flushed_contents, kept_contents}

-- bytes patched by a piece, where they are told
abbrev pub patch_piece : Piece → Option (List ℕ) → Option (List ℕ)
patch_piece p held = option_map (λ bytes. patch bytes p.at p.bytes) held

told-patched : (first : Option (List ℕ)) (p : Piece) (ps : List Piece) → option_map (patch_all (p ∷ ps)) first ≡ patch_piece p (option_map (patch_all ps) first)
unfolding patch_all
told-patched None p ps = refl
told-patched (Some bytes) p ps = refl

-- an entry that gives a piece patches the medium that is in
pub contents-piece : (S : Setup) (k : ℕ) (H : List Entry) (e : Entry) (p : Piece) → media_id_of H ≡ k → piece_of S H e ≡ Some p → contents S k (e ∷ H) ≡ patch_piece p (contents S k H)
unfolding contents pieces_of
contents-piece S k H e p in_ gives = rw (eq-eqb (media_id_of H) k in_, gives) (told-patched (first_of S k) p (pieces_of S k H))

-- another entry leaves every medium
pub contents-same : (S : Setup) (k : ℕ) (H : List Entry) (e : Entry) → piece_of S H e ≡ None → contents S k (e ∷ H) ≡ contents S k H
unfolding contents pieces_of
contents-same S k H e none = by (nat_eq (media_id_of H) k)
  where
    by : (in_ : Bool) → option_map (patch_all (if in_ then with_piece (piece_of S H e) (pieces_of S k H) else pieces_of S k H)) (first_of S k) ≡ option_map (patch_all (pieces_of S k H)) (first_of S k)
    by true = rw none
    by false = refl

-- no entry changes a medium that is not the one of its era
pub contents-other : (S : Setup) (k : ℕ) (H : List Entry) (e : Entry) → media_id_of H ≢ k → contents S k (e ∷ H) ≡ contents S k H
unfolding contents pieces_of
contents-other S k H e out = rw (ne_eqb (media_id_of H) k out)

-- an entry that is no command gives no piece
pub piece-none : (S : Setup) (H : List Entry) (e : Entry) → is_command e ≡ false → piece_of S H e ≡ None
unfolding piece_of
piece-none S H (Done a b) isnt = cc
piece-none S H (Fault a b c) isnt = cc
piece-none S H e isnt = refl

-- nor does a command that changes no bytes
pub piece-unchanged : (S : Setup) (H : List Entry) (t : ℕ) (c : Command) → is_change c ≡ false → piece_of S H (Done t c) ≡ None
unfolding piece_of
piece-unchanged S H t c isnt = rw isnt

pub piece-unchanged-fault : (S : Setup) (H : List Entry) (t : ℕ) (c : Command) (done : ℕ) → is_change c ≡ false → piece_of S H (Fault t c done) ≡ None
unfolding piece_of
piece-unchanged-fault S H t c done isnt = rw isnt

abbrev pub is_flush_entry : Entry → Bool
is_flush_entry (Done t c) = is_sync c
is_flush_entry e = false

-- an entry that is no done flush keeps what was flushed
pub flushed-same : (S : Setup) (k : ℕ) (H : List Entry) (e : Entry) → is_flush_entry e ≡ false → flushed_contents S k (e ∷ H) ≡ flushed_contents S k H
unfolding flushed_contents
flushed-same S k H (Done a b) isnt = rw isnt
flushed-same S k H e isnt = refl

-- a flush keeps what its medium holds
pub flushed-sync : (S : Setup) (k : ℕ) (H : List Entry) (t : ℕ) (c : Command) → is_sync c ≡ true → media_id_of H ≡ k → flushed_contents S k (Done t c ∷ H) ≡ contents S k H
unfolding flushed_contents
flushed-sync S k H t c is in_ = rw (is, eq-eqb (media_id_of H) k in_)

-- no entry flushes a medium that is not the one of its era
pub flushed-other : (S : Setup) (k : ℕ) (H : List Entry) (e : Entry) → media_id_of H ≢ k → flushed_contents S k (e ∷ H) ≡ flushed_contents S k H
unfolding flushed_contents
flushed-other S k H (Done a b) out = rw (and_right (is_sync b) (nat_eq (media_id_of H) k) (ne_eqb (media_id_of H) k out))
flushed-other S k H e out = refl

-- what is kept of a medium after an entry that is no done flush: the same with a cache, what it holds without one
pub kept-more : (S : Setup) (k : ℕ) (H : List Entry) (e : Entry) → is_flush_entry e ≡ false
    → kept_contents S k (e ∷ H) ≡ (if S.cached then kept_contents S k H else contents S k (e ∷ H))
unfolding kept_contents
kept-more S k H e isnt = by S.cached
  where
    by : (cached : Bool) → (if cached then flushed_contents S k (e ∷ H) else contents S k (e ∷ H)) ≡ (if cached then (if cached then flushed_contents S k H else contents S k H) else contents S k (e ∷ H))
    by true = flushed-same S k H e isnt
    by false = refl

-- an entry that gives no piece and does not flush keeps it
pub kept-same : (S : Setup) (k : ℕ) (H : List Entry) (e : Entry) → is_flush_entry e ≡ false → piece_of S H e ≡ None → kept_contents S k (e ∷ H) ≡ kept_contents S k H
unfolding kept_contents
kept-same S k H e isnt none = rw (flushed-same S k H e isnt, contents-same S k H e none)

-- what is kept of a medium that is not the one of the era stays
pub kept-other : (S : Setup) (k : ℕ) (H : List Entry) (e : Entry) → media_id_of H ≢ k → kept_contents S k (e ∷ H) ≡ kept_contents S k H
unfolding kept_contents
kept-other S k H e out = rw (flushed-other S k H e out, contents-other S k H e out)
