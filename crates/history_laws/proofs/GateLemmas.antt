-- The bytes of a held group change by its holder's store alone.
use Rattle.std.proofs.Common.{◌≡◌, ◌⊎◌, ℕ, ◌+◌, ◌-◌, ◌*◌, ◌/◌, ◌<◌, ◌≤◌, inl, inr, true, false, List, ◌∷◌, length, Option, None, Some, refl, sym, ◌∙◌, ap, arith, nat_eq}
use Rattle.std.proofs.lemmas.Bool.{cases_eq, cases_lt, and_from, eq-eqb, both_ways}
use Rattle.std.proofs.lemmas.Nat.{div-mul-add}
use Rattle.std.proofs.Math.Nat.{le-div_iff_mul-le, lt_of_mul-lt-mul_right, div-mul-le_self, mul-le-mul_right}
use Rattle.byte_lists.proofs.Patches.{patch-before, patch-behind}
use Rattle.disk_split.specs.Units.{group_start}
use Rattle.history.specs.declared.entry.Command.{Command}
use Rattle.history.specs.declared.entry.Command.TheVariants.{Store, Put, Wipe}
use Rattle.history.specs.declared.entry.Entry.{Entry}
use Rattle.history.specs.declared.entry.Entry.TheVariants.{Done, Fault}
use Rattle.history.specs.Setup.{Setup, IsSetup, size_of, per_of, blocks_of}
use Rattle.history.specs.Eras.{media_id_of}
use Rattle.history.specs.Commands.{is_change, first_block, block_count}
use Rattle.history.specs.Contents.{Piece, piece_of, contents, byte_at}
use Rattle.history.specs.Marks.{Holds}
use Rattle.history.specs.Rules.{MayCommand, MayFollow, IsLegal}
use Rattle.history_laws.specs.Ranges.{AreToldWhole}
use Rattle.history_laws.specs.Gates.{is_store_of}
use Rattle.history_laws.proofs.ContentLemmas.{patch_piece, contents-piece, contents-same, contents-other}
use Rattle.history_laws.proofs.HolderLemmas.{holds-start, one-holder}
use Rattle.history_laws.proofs.RangeLemmas.{IsEntryPiece, entry-piece, piece-in-view, contents-long}

-- the block of a byte that lies in n blocks from b on
block-within : (size b n x : ℕ) → 0 < size → b * size ≤ x → x < (b + n) * size → (b ≤ x / size) × (x / size < b + n)
block-within size b n x some from until =
    ((le-div_iff_mul-le some).1 from, lt_of_mul-lt-mul_right size (omega (arith, div-mul-le_self x size)))

-- the group of a block is the one in which it lies
start-within : (per b q : ℕ) → 0 < per → b / per * per ≡ b → b ≤ q → q < b + per → q / per * per ≡ b
start-within per b q some begins from until =
    let place : b / per * per + (q - b) ≡ q = omega arith in
    let same : q / per ≡ b / per = sym (ap (λ n. n / per) place) ∙ div-mul-add (b / per) per (q - b) (omega arith) in
    ap (λ n. n * per) same ∙ begins

-- a byte of a held group lies in a block of that group
pub held-block : (S : Setup) (H : List Entry) (t b x : ℕ) → IsSetup S → IsLegal S H → Holds S H t b → b * size_of S ≤ x → x < (b + per_of S) * size_of S → group_start S.geometry (x / size_of S) ≡ b
held-block S H t b x is legal holds from until =
    let (lo, hi) = block-within (size_of S) b (per_of S) x (omega (arith, is.geometry.size_some)) from until in
    start-within (per_of S) b (x / size_of S) (omega (arith, is.geometry.per_some)) (holds-start S H t b is legal holds) lo hi

-- another command than the holder's store does not touch it
untouched : (S : Setup) (H : List Entry) (u : ℕ) (c : Command) (n t b x : ℕ) → IsSetup S → IsLegal S H → MayCommand S H u c → is_change c ≡ true → n ≤ block_count S c → Holds S H t b
    → b * size_of S ≤ x → x < (b + per_of S) * size_of S → first_block c * size_of S ≤ x → x < (first_block c + n) * size_of S → (u ≡ t) × (c ≡ Store b)
unfolding MayCommand
untouched S H u (Store d) n t b x is legal may change few holds from until low high =
    let wide : (d + n) * size_of S ≤ (d + per_of S) * size_of S = mul-le-mul_right (size_of S) (omega arith) in
    let same : d ≡ b = sym (held-block S H u d x is legal may low (omega (arith, wide))) ∙ held-block S H t b x is legal holds from until in
    (one-holder S H u t b is legal (rw same at may) holds, ap Store same)
untouched S H u (Put d m) n t b x is legal (r, may) change few holds from until low high =
    let (lo, hi) = block-within (size_of S) d n x (omega (arith, is.geometry.size_some)) low high in
    absurd (may.free (x / size_of S) lo (omega (arith, hi, few)) t (rw (held-block S H t b x is legal holds from until) holds))
untouched S H u (Wipe d m) n t b x is legal (r, may) change few holds from until low high =
    let (lo, hi) = block-within (size_of S) d n x (omega (arith, is.geometry.size_some)) low high in
    absurd (may.free (x / size_of S) lo (omega (arith, hi, few)) t (rw (held-block S H t b x is legal holds from until) holds))
untouched S H u c n t b x is legal may change few holds from until low high = cc

-- a byte outside a piece that fits is as it was
pub byte-outside : (held : Option (List ℕ)) (p : Piece) (x : ℕ) → ((bytes : List ℕ) → held ≡ Some bytes → p.at + length p.bytes ≤ length bytes) → (x < p.at) ⊎ (p.at + length p.bytes ≤ x)
    → byte_at (patch_piece p held) x ≡ byte_at held x
byte-outside None p x fits outside = refl
byte-outside (Some bytes) p x fits (inl before) = patch-before bytes p.at p.bytes x (fits bytes refl) before
byte-outside (Some bytes) p x fits (inr behind) = patch-behind bytes p.at p.bytes x (fits bytes refl) behind

-- a piece fits the medium that is in
pub piece-fits : (S : Setup) (k : ℕ) (H : List Entry) (e : Entry) (p : Piece) → IsSetup S → AreToldWhole S → IsLegal S H → MayFollow S H e → media_id_of H ≡ k → piece_of S H e ≡ Some p
    → (bytes : List ℕ) → contents S k H ≡ Some bytes → p.at + length p.bytes ≤ length bytes
piece-fits S k H e p is whole legal may in_ gives bytes holds =
    let (r, of, inside, named) = piece-in-view S H e p is legal may gives in
    let lies : r.view.start + r.view.length ≤ blocks_of S k * size_of S = rw (named ∙ in_) at inside.lies in
    omega (arith, of.ends, inside.ends, lies, contents-long S k H bytes is whole legal holds)

-- a byte of a held group changes by its holder's store alone, done or failed
pub held-byte : (S : Setup) (k : ℕ) (H : List Entry) (e : Entry) (t b x : ℕ) → IsSetup S → AreToldWhole S → IsLegal S H → MayFollow S H e → Holds S H t b
    → b * size_of S ≤ x → x < (b + per_of S) * size_of S → is_store_of t b e ≡ false → byte_at (contents S k (e ∷ H)) x ≡ byte_at (contents S k H) x
held-byte S k H e t b x is whole legal may holds from until other = elim (cases_eq (media_id_of H) k) [
  | inr out ↦ ap (λ c. byte_at c x) (contents-other S k H e out)
  | inl in_ ↦ by in_ (piece_of S H e) refl
]
  where
    store-of : (u : ℕ) (c : Command) (n : ℕ) → (e ≡ Done u c) ⊎ (e ≡ Fault u c n) → u ≡ t → c ≡ Store b → is_store_of t b e ≡ true
    store-of u c n (inl made) token store = rw (made, token, store) (and_from (nat_eq t t) (nat_eq b b) (eq-eqb t t refl) (eq-eqb b b refl))
    store-of u c n (inr made) token store = rw (made, token, store) (and_from (nat_eq t t) (nat_eq b b) (eq-eqb t t refl) (eq-eqb b b refl))

    made-of : (u : ℕ) (c : Command) (n : ℕ) → ((e ≡ Done u c) × (n ≡ block_count S c)) ⊎ (e ≡ Fault u c n) → (e ≡ Done u c) ⊎ (e ≡ Fault u c n)
    made-of u c n (inl (made, all)) = inl made
    made-of u c n (inr made) = inr made

    outside : (p : Piece) → IsEntryPiece S H e p → (x < p.at) ⊎ (p.at + length p.bytes ≤ x)
    outside p of = elim (cases_lt x p.at) [
      | inl before ↦ inl before
      | inr low ↦ elim (cases_lt x (p.at + length p.bytes)) [
        | inr behind ↦ inr behind
        | inl high ↦
            let (token, store) = untouched S H of.token of.command of.count t b x is legal of.may of.change of.few holds from until (omega (arith, low, of.piece.within.low)) (omega (arith, high, of.piece.within.high)) in
            absurd (both_ways (is_store_of t b e) other (store-of of.token of.command of.count (made-of of.token of.command of.count of.made) token store))
      ]
    ]

    by : media_id_of H ≡ k → (o : Option Piece) → piece_of S H e ≡ o → byte_at (contents S k (e ∷ H)) x ≡ byte_at (contents S k H) x
    by in_ None none = ap (λ c. byte_at c x) (contents-same S k H e none)
    by in_ (Some p) gives =
        ap (λ c. byte_at c x) (contents-piece S k H e p in_ gives)
        ∙ byte-outside (contents S k H) p x (piece-fits S k H e p is whole legal may in_ gives) (outside p (entry-piece S H e p is legal may gives))
