-- Gates and holders through an entry that touches none of them.
use Rattle.std.proofs.Common.{◌≡◌, ℕ, zero, suc, ◌*◌, ◌<◌, inl, inr, Bool, false, List, ◌∷◌, length, map, slice_get, Option, None, Some, option_map, refl, sym, ◌∙◌, ap, subst, arith}
use Rattle.std.proofs.lemmas.Option.{slice_get-map, same_Some}
use Rattle.medium.specs.Device.{Device, IsShaped, IsTold, AreToldAt}
use Rattle.drive.specs.Drives.{DriveState, FitTheDrive}
use Rattle.block_gate.specs.Gates.{Gate, Gates, AreSound}
use Rattle.disk_split.specs.Units.{group_size}
use Rattle.history.specs.declared.entry.Entry.{Entry}
use Rattle.history.specs.Setup.{Setup, IsSetup, size_of, opening_bytes, opening_blocks}
use Rattle.history.specs.Eras.{media_id_of, is_insert}
use Rattle.history.specs.Contents.{contents}
use Rattle.history.specs.Marks.{mark_of, is_fetch_entry, HoldsBy}
use Rattle.history.specs.Rules.{MayFollow, IsLegal}
use Rattle.history_laws.specs.Gates.{is_store_of}
use Rattle.history_laws.specs.Ranges.{AreToldWhole}
use Rattle.history_laws.proofs.CountLemmas.{fetches-same}
use Rattle.history_laws.proofs.MediaLemmas.{media-id-same}
use Rattle.history_laws.proofs.TicketLemmas.{holds-by-before, holds-by-stays}
use Rattle.disk_core.specs.declared.parts.Holder.{Holder}
use Rattle.disk_core.specs.State.{opening_from, setup_of}
use Rattle.disk_core.specs.Facts.{IsGate, GatesFollow}
use Rattle.disk_core.specs.Inside.{HoldersFollow}
use Rattle.disk_core.proofs.Told.{copy-stays}
use Rattle.disk_core.proofs.Setups.{all-at}
use Rattle.disk_core.proofs.Over.{holders-over}
use Rattle.std.proofs.lemmas.Bool.{true≢false}

-- the opening bytes that are told are those of all blocks
pub told-whole : {M : Type 0} (device : M → Device) (drive : DriveState M) (protected : Bool) → ((m : M) → IsShaped (device m)) → FitTheDrive device drive → AreToldWhole (setup_of device drive protected)
unfolding setup_of
told-whole device drive protected shaped fit zero bytes is = cc
told-whole {M} device drive protected shaped fit (suc i) bytes is = by (slice_get drive.media i) refl (ap opening_bytes (sym (slice_get-map (λ m. opening_from (device m)) drive.media i)) ∙ is)
  where
    told : (first : Option (List ℕ)) (n : ℕ) → IsTold first n → first ≡ Some bytes → length bytes ≡ n
    told None n long same = cc
    told (Some xs) n long same = subst (λ v. length v ≡ n) (same_Some xs bytes same) long

    by : (o : Option M) → slice_get drive.media i ≡ o → opening_bytes (option_map (λ m. opening_from (device m)) o) ≡ Some bytes → length bytes ≡ opening_blocks (slice_get (map (λ m. opening_from (device m)) drive.media) i) * drive.size
    by None there same = cc
    by (Some m) there same =
        let long = told (device m).first ((device m).blocks * (device m).size) (shaped m).told_first same in
        let size = all-at (λ n. (device n).size ≡ drive.size) drive.media i m fit.size there in
        let here : opening_blocks (slice_get (map (λ n. opening_from (device n)) drive.media) i) ≡ (device m).blocks = ap opening_blocks (slice_get-map (λ n. opening_from (device n)) drive.media i ∙ ap (option_map (λ n. opening_from (device n))) there) in
        long ∙ ap (λ n. (device m).blocks * n) size ∙ ap (λ n. n * drive.size) (sym here)

module _ (S : Setup) (H : List Entry) (e : Entry) (setup : IsSetup S) (told : AreToldWhole S) (legal : IsLegal S H) (may : MayFollow S H e) (stays_in : is_insert e ≡ false) where
  -- the gate of a token that goes on and did not store it
  pub gate-stays : (k : ℕ) (g : Gate) (t : ℕ) → length g.copy ≡ group_size S.geometry → is_store_of t g.block e ≡ false → mark_of S (e ∷ H) t ≡ None → IsGate S H k g t → IsGate S (e ∷ H) k g t
  unfolding IsLegal
  gate-stays k g t long unstored open_ is = record {
    holds = holds-by-stays S H e t g.block k setup may unstored open_ is.holds;
    lent = is.lent;
    copied = subst (λ n. AreToldAt (contents S n (e ∷ H)) (g.block * size_of S) g.copy) (sym (media-id-same H e stays_in))
        (copy-stays S (media_id_of H) H e t g.block g.copy setup told legal may (legal, may) is.holds.holds unstored (let end = long in omega arith) is.copied);
  }

  module _ (unfetched : is_fetch_entry e ≡ false) where
    holder-was : (t b k : ℕ) → HoldsBy S (e ∷ H) t b k → HoldsBy S H t b k
    unfolding IsLegal
    holder-was t b k holds = elim (holds-by-before S H e t b k setup (legal, may) holds) [
      | inl before ↦ before
      | inr is ↦ absurd (true≢false (sym (ap is_fetch_entry is.0) ∙ unfetched))
    ]

    -- all gates, where none of their tokens ends and none is stored
    pub gates-stay : (gates : Gates) → AreSound gates → ((t b k : ℕ) → HoldsBy S H t b k → (is_store_of t b e ≡ false) × (mark_of S (e ∷ H) t ≡ None)) → GatesFollow S H gates → GatesFollow S (e ∷ H) gates
    gates-stay gates sound each follow = record {
      sized = follow.sized;
      each = λ k g there. (let t = (follow.each k g there).0 in let is = (follow.each k g there).1 in let on = each t g.block k is.holds in
          (t, gate-stays k g t (sound.long k g there ∙ follow.sized) on.0 on.1 is));
      all = λ t b k holds. follow.all t b k (holder-was t b k holds);
      below = λ k out. subst (λ n. k < n) (sym (fetches-same H e unfetched)) (follow.below k out);
    }

    pub holders-stay : (gates : Gates) (holders : List Holder) (places : ℕ) → ((t b k : ℕ) → HoldsBy S H t b k → (is_store_of t b e ≡ false) × (mark_of S (e ∷ H) t ≡ None)) → HoldersFollow S H gates holders places → HoldersFollow S (e ∷ H) gates holders places
    holders-stay gates holders places each = holders-over S H (e ∷ H) gates holders places holder-was (λ t b k holds. (let on = each t b k holds in holds-by-stays S H e t b k setup may on.0 on.1 holds))
