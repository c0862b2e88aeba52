-- Told bytes with saved blocks put back.
use Rattle.std.proofs.Common.{◌≡◌, ◌≢◌, ℕ, ◌+◌, ◌*◌, ◌<◌, ◌≤◌, List, length, take, drop, Option, None, Some, IsSome, Bool, true, false, ◌⊎◌, if◌then◌else◌, refl, sym, ◌∙◌, ap, subst, ⊎_elim}
use Rattle.std.proofs.Math.Logic.{∥∥₁_map}
use Rattle.medium.proofs.Overlays.{length-overlay, overlay-none, overlay-saved, overlay-covered, overlay-let_go}
use Rattle.medium.proofs.Held.{held-long}
use Rattle.medium.specs.Blocks.{AreHeldFrom}
use Rattle.medium.specs.BlockMap.{held_block}
use Rattle.medium.specs.Cached.{restoration, AreRestoredLong}
use Rattle.medium.specs.Device.{Device, IsSame, IsShaped, StayPrepared, IsTold, AreToldAt, patch_told}
use Rattle.medium.specs.declared.block_map.BlockMap.{BlockMap}

-- nothing is put back
pub restored-none : (saved : ℕ → Option (List ℕ)) (size n : ℕ) (now : Option (List ℕ)) → ((b : ℕ) → saved b ≡ None) → IsTold now (n * size) → restoration saved size n now ≡ now
restored-none saved size n None none long = refl
restored-none saved size n (Some now) none long = ap Some (overlay-none saved size n now none long)

-- blocks that were saved as they are change nothing
pub restored-saved : (saved other : ℕ → Option (List ℕ)) (size n : ℕ) (now : Option (List ℕ)) (block count : ℕ) (piece : List ℕ) → AreHeldFrom saved other block count size piece → ((b : ℕ) → block ≤ b → b < block + count → saved b ≡ None) → length piece ≡ count * size → AreToldAt now (block * size) piece → restoration other size n now ≡ restoration saved size n now
restored-saved saved other size n None block count piece from none long told = refl
restored-saved saved other size n (Some now) block count piece from none long told = ap Some (overlay-saved saved other size n now block count piece from none (told ∙ ap (λ (k : ℕ). take k (drop (block * size) now)) long))

-- a write to blocks that are all saved changes nothing
pub restored-covered : (saved : ℕ → Option (List ℕ)) (size n : ℕ) (now : Option (List ℕ)) (block count : ℕ) (piece : List ℕ) → ((b : ℕ) → block ≤ b → b < block + count → IsSome (saved b)) → length piece ≤ count * size → block * size ≤ n * size → IsTold now (n * size) → restoration saved size n (patch_told now (block * size) piece) ≡ restoration saved size n now
restored-covered saved size n None block count piece covered fits inside long = refl
restored-covered saved size n (Some now) block count piece covered fits inside long = ap Some (overlay-covered saved size n now block count piece covered fits (subst (λ (k : ℕ). block * size ≤ k) (sym long) inside))

-- a saved block that is written back need no more be put back
pub restored-let_go : (saved other : ℕ → Option (List ℕ)) (size n : ℕ) (now : Option (List ℕ)) (b : ℕ) (block : List ℕ) → saved b ≡ Some block → other b ≡ None → ((q : ℕ) → q ≢ b → other q ≡ saved q) → length block ≡ size → IsTold now (n * size) → b < n → restoration other size n (patch_told now (b * size) block) ≡ restoration saved size n now
restored-let_go saved other size n None b block was none others sized long inside = refl
restored-let_go saved other size n (Some now) b block was none others sized long inside = ap Some (overlay-let_go saved other size n now b block was none others sized long inside)

-- they have the length of the medium
pub restored-long : (saved : BlockMap) (d : Device) → IsShaped d → saved.size ≡ d.size → AreRestoredLong (held_block saved) d
restored-long saved d shaped same bytes told = length-overlay (held_block saved) d.size d.blocks bytes (held-long saved d.size same) (subst (λ (now : Option (List ℕ)). IsTold now (d.blocks * d.size)) told shaped.told_now)

-- what a medium with a volatile cache keeps true
pub record IsCache (d : Device) (prepared : ℕ → Type 0) (saved : BlockMap) : Type 0 where
  pub uncached : d.cached ≡ false
  pub size : saved.size ≡ d.size
  pub inside : (b : ℕ) → IsSome (held_block saved b) → b < d.blocks
  pub ready : (b : ℕ) → IsSome (held_block saved b) → ∥ prepared b ∥₁
  pub kept_length : AreRestoredLong (held_block saved) d

-- nothing is saved
not-some : IsSome {T = List ℕ} None → ⊥
not-some is = cc

pub cache-none : (d : Device) (prepared : ℕ → Type 0) (saved : BlockMap) → IsShaped d → d.cached ≡ false → saved.size ≡ d.size → ((b : ℕ) → held_block saved b ≡ None) → IsCache d prepared saved
cache-none d prepared saved shaped uncached size none = record {
  uncached = uncached;
  size = size;
  inside = λ b is. absurd (not-some (subst (λ (o : Option (List ℕ)). IsSome o) (none b) is));
  ready = λ b is. absurd (not-some (subst (λ (o : Option (List ℕ)). IsSome o) (none b) is));
  kept_length = restored-long saved d shaped size;
}

-- it stays true where all that is saved was saved before, or may be written
pub cache-after : (d d' : Device) (prepared prepared' : ℕ → Type 0) (saved saved' : BlockMap) → IsCache d prepared saved → IsSame d d' → IsShaped d' → StayPrepared prepared prepared' → saved'.size ≡ saved.size → ((b : ℕ) → IsSome (held_block saved' b) → IsSome (held_block saved b) ⊎ (prepared b × (b < d.blocks))) → IsCache d' prepared' saved'
cache-after d d' prepared prepared' saved saved' cache same shaped stay size held = record {
  uncached = same.cached ∙ cache.uncached;
  size = size_is;
  inside = λ b is. subst (λ (n : ℕ). b < n) (sym same.blocks) (⊎_elim (λ was. cache.inside b was) (λ now. now.1) (held b is));
  ready = λ b is. ⊎_elim (λ was. ∥∥₁_map (cache.ready b was) (stay b)) (λ now. ∣ stay b now.0 ∣₁) (held b is);
  kept_length = restored-long saved' d' shaped size_is;
} where
  size_is : saved'.size ≡ d'.size
  size_is = size ∙ cache.size ∙ sym same.size

-- nothing was saved: what is kept is what is there
pub kept-none : (cached : Bool) (saved : ℕ → Option (List ℕ)) (size n : ℕ) (now kept : Option (List ℕ)) → ((b : ℕ) → saved b ≡ None) → IsTold now (n * size) → kept ≡ now → (if cached then restoration saved size n now else now) ≡ kept
kept-none false saved size n now kept none told is = sym is
kept-none true saved size n now kept none told is = restored-none saved size n now none told ∙ sym is

same-device : (d : Device) → IsSame d d
same-device d = record { first = refl; size = refl; blocks = refl; cached = refl }

pub same-from : (d d' : Device) → d' ≡ d → IsSame d d'
same-from d d' is = subst (λ (x : Device). IsSame d x) (sym is) (same-device d)
