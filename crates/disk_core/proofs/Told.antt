-- Told bytes of a medium, in the words of the laws on contents.
use Rattle.std.proofs.Common.{◌≡◌, ℕ, ◌*◌, ◌≤◌, false, List, ◌∷◌, length, take, drop, Option, None, Some, option_map, refl, subst}
use Rattle.byte_lists.specs.Patching.{patch}
use Rattle.medium.specs.Device.{AreToldAt, patch_told}
use Rattle.history.specs.declared.entry.Entry.{Entry}
use Rattle.history.specs.Setup.{Setup, IsSetup, size_of, per_of}
use Rattle.history.specs.Contents.{contents}
use Rattle.history.specs.Marks.{Holds}
use Rattle.history.specs.Rules.{MayFollow, IsLegal}
use Rattle.history_laws.specs.Gates.{is_store_of}
use Rattle.history_laws.specs.Ranges.{AreToldWhole}
use Rattle.history_laws.proofs.StoredLemmas.{copy-kept}

pub told-patch : (m : Option (List ℕ)) (at : ℕ) (piece : List ℕ) → patch_told m at piece ≡ option_map (λ bytes. patch bytes at piece) m
told-patch None at piece = refl
told-patch (Some bytes) at piece = refl

pub from-told : (m : Option (List ℕ)) (at : ℕ) (copy bytes : List ℕ) → AreToldAt m at copy → m ≡ Some bytes → copy ≡ take (length copy) (drop at bytes)
from-told m at copy bytes told is = subst (λ n. AreToldAt n at copy) is told

to-told : (m : Option (List ℕ)) (at : ℕ) (copy : List ℕ) → ((bytes : List ℕ) → m ≡ Some bytes → copy ≡ take (length copy) (drop at bytes)) → AreToldAt m at copy
to-told None at copy copied = tt
to-told (Some bytes) at copy copied = copied bytes refl

-- a copy of the group that a token holds stays so through every entry but its store
pub copy-stays : (S : Setup) (k : ℕ) (H : List Entry) (e : Entry) (t b : ℕ) (copy : List ℕ) → IsSetup S → AreToldWhole S → IsLegal S H → MayFollow S H e → IsLegal S (e ∷ H) → Holds S H t b → is_store_of t b e ≡ false
    → length copy ≤ per_of S * size_of S → AreToldAt (contents S k H) (b * size_of S) copy → AreToldAt (contents S k (e ∷ H)) (b * size_of S) copy
copy-stays S k H e t b copy is whole legal may legal' holds other long told =
    to-told (contents S k (e ∷ H)) (b * size_of S) copy
    (copy-kept S k H e t b copy is whole legal may legal' holds other long (λ before was. from-told (contents S k H) (b * size_of S) copy before told was))
