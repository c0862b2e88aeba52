-- What a store puts on the medium, done or failed: its group with the token's bytes put in patches it as those bytes alone do. The copy of a
-- held group stays that group through every entry but its holder's store.
use Rattle.std.proofs.Common.{◌≡◌, ℕ, ◌+◌, ◌-◌, ◌*◌, ◌<◌, ◌≤◌, inl, inr, List, ◌∷◌, length, take, drop, slice_get, Option, None, Some, option_map, refl, sym, ◌∙◌, ap, arith, false}
use Rattle.std.specs.Prelude.{min}
use Rattle.std.proofs.lemmas.Bool.{cases_lt, lt-ltb, le-ltb}
use Rattle.std.proofs.lemmas.List.{length-take, length-drop}
use Rattle.std.proofs.lemmas.Nat.{mul-le}
use Rattle.byte_lists.specs.Patching.{patch}
use Rattle.byte_lists.proofs.Patched.{length-patch}
use Rattle.byte_lists.proofs.Patches.{patch-in, patch-before, patch-behind, patch-block, patch-nothing, same-bytes, part-byte}
use Rattle.disk_split.specs.declared.span.Span.{Span}
use Rattle.history.specs.declared.entry.Command.TheVariants.{Store}
use Rattle.history.specs.declared.entry.Entry.{Entry}
use Rattle.history.specs.declared.entry.Entry.TheVariants.{Done, Fault}
use Rattle.history.specs.Setup.{Setup, size_of, IsSetup, per_of}
use Rattle.history.specs.Eras.{media_id_of}
use Rattle.history.specs.Tokens.{Request, request}
use Rattle.history.specs.Contents.{contents, bytes_between, piece_between, piece_of, byte_at}
use Rattle.history_laws.specs.Units.{IsUnitCommand}
use Rattle.history_laws.proofs.ContentLemmas.{contents-piece, contents-same}
use Rattle.history_laws.proofs.PieceLemmas.{done-contents, fault-piece, piece_at}
use Rattle.history_laws.proofs.BytesLemmas.{take-between, contents-some}
use Rattle.history.specs.Marks.{Holds}
use Rattle.history.specs.Rules.{MayFollow, IsLegal}
use Rattle.history_laws.specs.Ranges.{AreToldWhole}
use Rattle.history_laws.specs.Gates.{is_store_of}
use Rattle.history_laws.proofs.GateLemmas.{held-byte}
use Rattle.history_laws.proofs.RangeLemmas.{contents-long}

-- the first bytes of a list
get-take : (n : ℕ) (xs : List ℕ) (j : ℕ) → j < n → slice_get (take n xs) j ≡ slice_get xs j
get-take n xs j lt = part-byte xs 0 n j lt ∙ ap (slice_get xs) (let e : 0 + j ≡ j = omega arith in e)

-- the first bytes of a patched block that is put back
pub first-bytes : (b : List ℕ) (at : ℕ) (block : List ℕ) (skip : ℕ) (p : List ℕ) (n : ℕ) → at + length block ≤ length b → skip + length p ≤ length block → n ≤ length block
    → ((j : ℕ) → j < length block → slice_get block j ≡ slice_get b (at + j)) → patch b at (take n (patch block skip p)) ≡ patch b (at + skip) (take (n - skip) p)
first-bytes b at block skip p n fits inside few same =
    let long = front-long in
    let piece = piece-long in
    same-bytes (patch b at front) (patch b (at + skip) (take (n - skip) p))
    (length-patch b at front (omega arith) ∙ sym (length-patch b (at + skip) (take (n - skip) p) (omega arith)))
    (λ i lt. elim (cases_lt i at) [
      | inl below ↦ patch-before b at front i (omega arith) below ∙ sym (patch-before b (at + skip) (take (n - skip) p) i (omega arith) (omega arith))
      | inr above ↦ elim (cases_lt i (at + n)) [
        | inr behind ↦ patch-behind b at front i (omega arith) (omega arith) ∙ elim (cases_lt i (at + skip)) [
          | inl under ↦ sym (patch-before b (at + skip) (take (n - skip) p) i (omega arith) under)
          | inr over ↦ sym (patch-behind b (at + skip) (take (n - skip) p) i (omega arith) (omega arith))
        ]
        | inl within ↦ inside-first i above within
      ]
    ])
  where
    front : List ℕ
    front = take n (patch block skip p)

    whole : length (patch block skip p) ≡ length block
    whole = length-patch block skip p inside

    front-long : length front ≡ n
    front-long = simp length-take (omega (arith, whole))

    piece-long : length (take (n - skip) p) ≡ min (n - skip) (length p)
    piece-long = length-take (n - skip) p

    put : patch b at (patch block skip p) ≡ patch b (at + skip) p
    put = patch-block b at block skip p fits inside same

    inside-first : (i : ℕ) → at ≤ i → i < at + n → slice_get (patch b at front) i ≡ slice_get (patch b (at + skip) (take (n - skip) p)) i
    inside-first i above within =
        let long = front-long in
        let piece = piece-long in
        let all = whole in
        patch-in b at front i (omega arith) above (omega arith) ∙ get-take n (patch block skip p) (i - at) (omega arith)
        ∙ sym (patch-in b at (patch block skip p) i (omega arith) above (omega arith)) ∙ ap (λ xs. slice_get xs i) put
        ∙ elim (cases_lt i (at + skip)) [
          | inl under ↦ patch-before b (at + skip) p i (omega arith) under ∙ sym (patch-before b (at + skip) (take (n - skip) p) i (omega arith) under)
          | inr over ↦ elim (cases_lt i (at + skip + length p)) [
            | inl in_piece ↦
                patch-in b (at + skip) p i (omega arith) over in_piece ∙ sym (get-take (n - skip) p (i - (at + skip)) (omega arith))
                ∙ sym (patch-in b (at + skip) (take (n - skip) p) i (omega arith) over (omega arith))
            | inr past ↦ patch-behind b (at + skip) p i (omega arith) past ∙ sym (patch-behind b (at + skip) (take (n - skip) p) i (omega arith) (omega arith))
          ]
        ]

module _ (S : Setup) (H : List Entry) (t : ℕ) (q : Request) (u : Span) (named : request H t ≡ Some q) (of : IsUnitCommand S q (Store u.block) u) (copy : List ℕ) (long : length copy ≡ u.count * size_of S)
    (room : (bytes : List ℕ) → contents S (media_id_of H) H ≡ Some bytes → (u.block + u.count) * size_of S ≤ length bytes) (copied : (bytes : List ℕ) → contents S (media_id_of H) H ≡ Some bytes → copy ≡ take (length copy) (drop (u.block * size_of S) bytes))
    (put : length (bytes_between S q u.low u.high) ≡ u.high - u.low) where
  abbrev at : ℕ
  at = u.block * size_of S

  abbrev skip : ℕ
  skip = u.low - u.block * size_of S

  abbrev group : List ℕ
  group = patch copy skip (bytes_between S q u.low u.high)

  copy-byte : (bytes : List ℕ) → contents S (media_id_of H) H ≡ Some bytes → (j : ℕ) → j < length copy → slice_get copy j ≡ slice_get bytes (at + j)
  copy-byte bytes is j lt = ap (λ xs. slice_get xs j) (copied bytes is) ∙ part-byte bytes at (length copy) j lt

  fits : (bytes : List ℕ) → contents S (media_id_of H) H ≡ Some bytes → at + length copy ≤ length bytes
  fits bytes is = (let all = room bytes is in let sum : (u.block + u.count) * size_of S ≡ at + u.count * size_of S = omega arith in omega arith)

  within : skip + length (bytes_between S q u.low u.high) ≤ length copy
  within = (let low = of.unit.low in let high = of.unit.high in let sum : (u.block + u.count) * size_of S ≡ at + u.count * size_of S = omega arith in omega arith)

  begins : at + skip ≡ u.low
  begins = (let low = of.unit.low in omega arith)

  -- a done store
  pub stored-done : option_map (λ bytes. patch bytes at group) (contents S (media_id_of H) H) ≡ contents S (media_id_of H) (Done t (Store u.block) ∷ H)
  stored-done = by (contents S (media_id_of H) H) refl ∙ sym (done-contents S (media_id_of H) H t (Store u.block) q u refl named of refl)
    where
      by : (m : Option (List ℕ)) → contents S (media_id_of H) H ≡ m → option_map (λ bytes. patch bytes at group) m ≡ option_map (λ bytes. patch bytes u.low (bytes_between S q u.low u.high)) m
      by None is = refl
      by (Some bytes) is = ap Some (patch-block bytes at copy skip (bytes_between S q u.low u.high) (fits bytes is) within (copy-byte bytes is) ∙ ap (λ n. patch bytes n (bytes_between S q u.low u.high)) begins)

  -- a store that failed after its first blocks
  pub stored-failed : (done : ℕ) → done ≤ u.count → option_map (λ bytes. patch bytes at (take (done * size_of S) group)) (contents S (media_id_of H) H) ≡ contents S (media_id_of H) (Fault t (Store u.block) done ∷ H)
  stored-failed done few = elim (cases_lt u.low high) [
    | inl some ↦ by (contents S (media_id_of H) H) refl some ∙ sym (contents-piece S (media_id_of H) H e (piece_at S t q u.low high) refl (piece ∙ rw (lt-ltb u.low high some) refl))
    | inr none ↦ over (contents S (media_id_of H) H) refl none ∙ sym (contents-same S (media_id_of H) H e (piece ∙ rw (le-ltb u.low high none) refl))
  ]
    where
      e : Entry
      e = Fault t (Store u.block) done

      high : ℕ
      high = min u.high ((u.block + done) * size_of S)

      tb : List ℕ
      tb = bytes_between S q u.low u.high

      piece : piece_of S H (Fault t (Store u.block) done) ≡ piece_between S t q u.low (min u.high ((u.block + done) * size_of S))
      piece = fault-piece S H t (Store u.block) done q u named of refl few

      short : done * size_of S ≤ length copy
      short = (let less = mul-le done (size_of S) u.count (size_of S) few (omega arith) in omega arith)

      first : (bytes : List ℕ) → contents S (media_id_of H) H ≡ Some bytes → patch bytes at (take (done * size_of S) group) ≡ patch bytes (at + skip) (take (done * size_of S - skip) tb)
      first bytes is = first-bytes bytes at copy skip tb (done * size_of S) (fits bytes is) within short (copy-byte bytes is)

      sum : (u.block + done) * size_of S ≡ u.block * size_of S + done * size_of S
      sum = omega arith

      by : (m : Option (List ℕ)) → contents S (media_id_of H) H ≡ m → u.low < high → option_map (λ bytes. patch bytes at (take (done * size_of S) group)) m ≡ option_map (λ bytes. patch bytes u.low (bytes_between S q u.low high)) m
      by None is some = refl
      by (Some bytes) is some =
          let all = sum in
          let low = of.unit.low in
          let ends : u.low + min (done * size_of S - skip) (u.high - u.low) ≡ high = omega arith in
          ap Some (first bytes is ∙ (λ i. patch bytes (begins i) (take-between S q u.low u.high (done * size_of S - skip) i)) ∙ ap (λ n. patch bytes u.low (bytes_between S q u.low n)) ends)

      over : (m : Option (List ℕ)) → contents S (media_id_of H) H ≡ m → high ≤ u.low → option_map (λ bytes. patch bytes at (take (done * size_of S) group)) m ≡ m
      over None is none = refl
      over (Some bytes) is none =
          let all = sum in
          let low = of.unit.low in
          let some = of.unit.some in
          let zero_left : done * size_of S - skip ≡ 0 = omega arith in
          ap Some (first bytes is ∙ ap (λ n. patch bytes (at + skip) (take n tb)) zero_left ∙ patch-nothing bytes (at + skip))

-- told bytes that are the same in a range
told-same : (before after : List ℕ) (at : ℕ) (copy : List ℕ) → length after ≡ length before → ((i : ℕ) → i < length copy → slice_get after (at + i) ≡ slice_get before (at + i)) → copy ≡ take (length copy) (drop at before)
    → copy ≡ take (length copy) (drop at after)
told-same before after at copy long same is =
    same-bytes copy (take (length copy) (drop at after)) lengths
    (λ i lt. ap (λ xs. slice_get xs i) is ∙ (part-byte before at (length copy) i lt ∙ (sym (same i lt) ∙ sym (part-byte after at (length copy) i lt))))
  where
    lengths : length copy ≡ length (take (length copy) (drop at after))
    lengths = (let e = ap length is in simp (length-take, length-drop) (omega (arith, simp (length-take, length-drop) at e)))

-- a copy of the group that a token holds stays that group through every entry but its store
pub copy-kept : (S : Setup) (k : ℕ) (H : List Entry) (e : Entry) (t b : ℕ) (copy : List ℕ) → IsSetup S → AreToldWhole S → IsLegal S H → MayFollow S H e → IsLegal S (e ∷ H) → Holds S H t b → is_store_of t b e ≡ false
    → length copy ≤ per_of S * size_of S → ((before : List ℕ) → contents S k H ≡ Some before → copy ≡ take (length copy) (drop (b * size_of S) before))
    → (after : List ℕ) → contents S k (e ∷ H) ≡ Some after → copy ≡ take (length copy) (drop (b * size_of S) after)
copy-kept S k H e t b copy is whole legal may legal' holds other long copied after now =
    let was = contents-some S k H (e ∷ H) after now in
    let before = was.0 in
    told-same before after (b * size_of S) copy
    (contents-long S k (e ∷ H) after is whole legal' now ∙ sym (contents-long S k H before is whole legal was.1))
    (λ i lt. ap (λ m. byte_at m (b * size_of S + i)) (sym now) ∙ (each i lt ∙ ap (λ m. byte_at m (b * size_of S + i)) was.1))
    (copied before was.1)
  where
    each : (i : ℕ) → i < length copy → byte_at (contents S k (e ∷ H)) (b * size_of S + i) ≡ byte_at (contents S k H) (b * size_of S + i)
    each i lt = held-byte S k H e t b (b * size_of S + i) is whole legal may holds (omega arith) (let sum : (b + per_of S) * size_of S ≡ b * size_of S + per_of S * size_of S = omega arith in omega arith) other
