-- Pieces lie inside the range of their token, and that inside its view on its medium.
use Rattle.std.proofs.Common.{◌≡◌, ◌⊎◌, ℕ, ◌+◌, ◌-◌, ◌*◌, ◌<◌, ◌≤◌, inl, inr, min, max, Bool, true, false, List, [], ◌∷◌, length, drop, Option, None, Some, option_map, refl, sym, ◌∙◌, ap, subst, arith, length-take, length-drop}
use Rattle.std.proofs.lemmas.Bool.{cases_Bool, cases_eq, cases_lt, lt-ltb, le-ltb, eq-eqb, ne_eqb}
use Rattle.byte_lists.proofs.Patched.{length-patch}
use Rattle.history.specs.declared.entry.Kind.{Kind}
use Rattle.history.specs.declared.entry.Kind.TheVariants.{Read, Write, Flush, Erase}
use Rattle.history.specs.declared.entry.Command.{Command}
use Rattle.history.specs.declared.entry.Command.TheVariants.{Fetch, Store, Put, Get, Wipe, Sync}
use Rattle.history.specs.declared.entry.Entry.{Entry}
use Rattle.history.specs.declared.entry.Entry.TheVariants.{Done, Fault}
use Rattle.history.specs.Setup.{Setup, IsSetup, size_of, first_of, blocks_of}
use Rattle.history.specs.Eras.{media_id_of, is_present}
use Rattle.history.specs.Tokens.{Request, request, request_bytes, changes_bytes, from_of, until_of}
use Rattle.history.specs.Commands.{is_change, first_block, block_count}
use Rattle.history.specs.Marks.{IsOutstanding}
use Rattle.history.specs.Contents.{Piece, bytes_between, piece_between, piece_in, piece_of, with_piece, pieces_of, patch_all, contents}
use Rattle.history.specs.Rules.{StopsAt, MayCommand, MayFollow, IsLegal}
use Rattle.history_laws.specs.Units.{is_span_command, IsTaskCommand}
use Rattle.history_laws.specs.Ranges.{IsInView, IsPieceOf, AreInViews, AreToldWhole}
use Rattle.history_laws.proofs.TokenLemmas.{request-stays}
use Rattle.history_laws.proofs.EndLemmas.{command-open, open-request}
use Rattle.history_laws.proofs.UnitLemmas.{legal-task}
use Rattle.history_laws.proofs.HolderLemmas.{changes-moving}
use Rattle.history_laws.proofs.MediaLemmas.{range-in-view, bytes-long, open-media}

-- the piece has the token's bytes in n blocks from b on
pub record IsPieceIn (S : Setup) (t b n : ℕ) (r : Request) (p : Piece) : Type 0 where
  pub token : p.token ≡ t
  pub low : p.at ≡ max (from_of S r) (b * size_of S)
  pub high : p.at + length p.bytes ≡ min (until_of S r) ((b + n) * size_of S)
  pub some : 0 < length p.bytes
  pub bytes : p.bytes ≡ bytes_between S r p.at (p.at + length p.bytes)

piece-same : (p q : Piece) → Some p ≡ Some q → p ≡ q
piece-same p q e = cc

between-is : (S : Setup) (t low high : ℕ) (r : Request) (p : Piece) → from_of S r ≤ low → high ≤ until_of S r → length (request_bytes r) ≡ r.asked.length → piece_between S t r low high ≡ Some p
    → (p.token ≡ t) × (p.at ≡ low) × (p.at + length p.bytes ≡ high) × (0 < length p.bytes) × (p.bytes ≡ bytes_between S r p.at (p.at + length p.bytes))
between-is S t low high r p begins ends long gives = elim (cases_lt low high) [
  | inr none ↦ let no_piece : None ≡ Some p = rw (le-ltb low high none) at gives in cc
  | inl some ↦
      let here : Some (record { token = t; at = low; bytes = bytes_between S r low high }) ≡ Some p = rw (lt-ltb low high some) at gives in
      let same : record { token = t; at = low; bytes = bytes_between S r low high } ≡ p = piece-same _ p here in
      let so_many : length (bytes_between S r low high) ≡ high - low = omega (arith, long, length-take (high - low) (drop (low - from_of S r) (request_bytes r)), length-drop (low - from_of S r) (request_bytes r)) in
      let IsSo : Piece → Type 0 = λ q. (q.token ≡ t) × (q.at ≡ low) × (q.at + length q.bytes ≡ high) × (0 < length q.bytes) × (q.bytes ≡ bytes_between S r q.at (q.at + length q.bytes)) in
      let ends_at : low + length (bytes_between S r low high) ≡ high = omega (arith, so_many) in
      subst IsSo same (refl, refl, ends_at, omega (arith, so_many), sym (ap (bytes_between S r low) ends_at))
]

pub piece-in : (S : Setup) (t b n : ℕ) (r : Request) (p : Piece) → length (request_bytes r) ≡ r.asked.length → piece_in S t b n (Some r) ≡ Some p → IsPieceIn S t b n r p
unfolding piece_in
piece-in S t b n r p long gives =
    let (token, low, high, some, bytes) = between-is S t (max (from_of S r) (b * size_of S)) (min (until_of S r) ((b + n) * size_of S)) r p (omega arith) (omega arith) long gives in
    record { token = token; low = low; high = high; some = some; bytes = bytes }

span-changes : (kind : Kind) (whole : Bool) (c : Command) → is_span_command kind whole c ≡ true → is_change c ≡ true → changes_bytes kind ≡ true
span-changes Write whole c of change = refl
span-changes Erase whole c of change = refl
span-changes Read whole (Fetch b) of change = cc
span-changes Read whole (Store b) of change = cc
span-changes Read whole (Put b n) of change = cc
span-changes Read whole (Get b n) of change = cc
span-changes Read whole (Wipe b n) of change = cc
span-changes Read whole Sync of change = cc
span-changes Flush whole (Fetch b) of change = cc
span-changes Flush whole (Store b) of change = cc
span-changes Flush whole (Put b n) of change = cc
span-changes Flush whole (Get b n) of change = cc
span-changes Flush whole (Wipe b n) of change = cc
span-changes Flush whole Sync of change = cc

sync-unchanged : (c : Command) → c ≡ Sync → is_change c ≡ true → ⊥
sync-unchanged c sync change = clash (rw sync at change)
  where
    clash : false ≡ true → ⊥
    clash e = cc

-- a command that changes bytes is of a token that does
pub command-changes : (S : Setup) (H : List Entry) (t : ℕ) (c : Command) (r : Request) → IsSetup S → IsLegal S H → request H t ≡ Some r → MayCommand S H t c → is_change c ≡ true → changes_bytes r.asked.kind ≡ true
command-changes S H t c r is legal named may change = by (legal-task S H t c r is legal named may)
  where
    by : IsTaskCommand S r c → changes_bytes r.asked.kind ≡ true
    by (inl (u, of)) = span-changes r.asked.kind u.whole c of.kind change
    by (inr (sync, flush)) = absurd (sync-unchanged c sync change)

-- the piece of a command is of an open token that changes bytes
pub record IsCommandPiece (S : Setup) (H : List Entry) (t b n : ℕ) (p : Piece) (r : Request) : Type 0 where
  pub outstanding : IsOutstanding S H t
  pub named : request H t ≡ Some r
  pub changes : changes_bytes r.asked.kind ≡ true
  pub within : IsPieceIn S t b n r p

command-piece : (S : Setup) (H : List Entry) (t : ℕ) (c : Command) (n : ℕ) (p : Piece) → IsSetup S → IsLegal S H → MayCommand S H t c → is_change c ≡ true → piece_in S t (first_block c) n (request H t) ≡ Some p
    → (r : Request) × IsCommandPiece S H t (first_block c) n p r
command-piece S H t c n p is legal may change gives =
    let open_ : IsOutstanding S H t = command-open S H t c may in
    let (r, named) = open-request S H t open_ in
    let changes : changes_bytes r.asked.kind ≡ true = command-changes S H t c r is legal named may change in
    (r, record { outstanding = open_; named = named; changes = changes; within = piece-in S t (first_block c) n r p (bytes-long S H t r legal named changes) (rw named at gives) })

-- the piece of an entry: its token, its first block and how many blocks from there
pub record IsEntryPiece (S : Setup) (H : List Entry) (e : Entry) (p : Piece) : Type 0 where
  pub token : ℕ
  pub command : Command
  pub count : ℕ
  pub made : (e ≡ Done token command) × (count ≡ block_count S command) ⊎ (e ≡ Fault token command count)
  pub may : MayCommand S H token command
  pub change : is_change command ≡ true
  pub few : count ≤ block_count S command
  pub asked : Request
  pub piece : IsCommandPiece S H token (first_block command) count p asked

stops-within : (S : Setup) (c : Command) (done : ℕ) → is_change c ≡ true → StopsAt S c done → done ≤ block_count S c
stops-within S (Fetch b) done change stops = cc
stops-within S (Store b) done change stops = omega arith
stops-within S (Put b n) done change stops = omega arith
stops-within S (Get b n) done change stops = cc
stops-within S (Wipe b n) done change stops = omega arith
stops-within S Sync done change stops = cc

-- only a command that may be made gives a piece
pub entry-piece : (S : Setup) (H : List Entry) (e : Entry) (p : Piece) → IsSetup S → IsLegal S H → MayFollow S H e → piece_of S H e ≡ Some p → IsEntryPiece S H e p
unfolding MayFollow piece_of
entry-piece S H (Done t c) p is legal may gives = elim (cases_Bool (is_change c)) [
  | inl change ↦
      let (r, piece) = command-piece S H t c (block_count S c) p is legal may change (rw change at gives) in
      record { token = t; command = c; count = block_count S c; made = inl (refl, refl); may = may; change = change; few = omega arith; asked = r; piece = piece }
  | inr same ↦ let none : None ≡ Some p = rw same at gives in cc
]
entry-piece S H (Fault t c done) p is legal (may, stops) gives = elim (cases_Bool (is_change c)) [
  | inl change ↦
      let (r, piece) = command-piece S H t c done p is legal may change (rw change at gives) in
      record { token = t; command = c; count = done; made = inr refl; may = may; change = change; few = stops-within S c done change stops; asked = r; piece = piece }
  | inr same ↦ let none : None ≡ Some p = rw same at gives in cc
]
entry-piece S H e p is legal may gives = cc

-- a piece has bytes of its token's request, at their place
pub entry-piece-of : (S : Setup) (H : List Entry) (e : Entry) (p : Piece) (of : IsEntryPiece S H e p) → IsPieceOf S H p of.asked
entry-piece-of S H e p of = record {
  named = ap (request H) of.piece.within.token ∙ of.piece.named;
  changes = of.piece.changes;
  some = of.piece.within.some;
  begins = omega (arith, of.piece.within.low);
  ends = omega (arith, of.piece.within.high);
  bytes = of.piece.within.bytes;
}

-- the request of a piece keeps it
piece-stays : (S : Setup) (H : List Entry) (e : Entry) (p : Piece) (r : Request) → IsPieceOf S H p r → IsPieceOf S (e ∷ H) p r
piece-stays S H e p r of = record { named = request-stays H e p.token r of.named; changes = of.changes; some = of.some; begins = of.begins; ends = of.ends; bytes = of.bytes }

views-stay : (S : Setup) (k : ℕ) (H : List Entry) (e : Entry) (ps : List Piece) → AreInViews S k H ps → AreInViews S k (e ∷ H) ps
unfolding AreInViews
views-stay S k H e [] all = tt
views-stay S k H e (p ∷ ps) ((r, of, inside, named), others) = ((r, piece-stays S H e p r of, inside, named), views-stay S k H e ps others)

with-views : (S : Setup) (k : ℕ) (H : List Entry) (o : Option Piece) (ps : List Piece) → ((p : Piece) → o ≡ Some p → (r : Request) × IsPieceOf S H p r × IsInView S r × (r.view.media_id ≡ k)) → AreInViews S k H ps → AreInViews S k H (with_piece o ps)
unfolding AreInViews
with-views S k H None ps one others = others
with-views S k H (Some p) ps one others = (one p refl, others)

-- the view of a piece's request lies on the medium that is in
pub piece-in-view : (S : Setup) (H : List Entry) (e : Entry) (p : Piece) → IsSetup S → IsLegal S H → MayFollow S H e → piece_of S H e ≡ Some p
    → (r : Request) × IsPieceOf S H p r × IsInView S r × (r.view.media_id ≡ media_id_of H)
piece-in-view S H e p is legal may gives =
    let of : IsEntryPiece S H e p = entry-piece S H e p is legal may gives in
    let media : (is_present H ≡ true) × (of.asked.view.media_id ≡ media_id_of H) = open-media S H of.token of.asked legal of.piece.outstanding of.piece.named in
    (of.asked, entry-piece-of S H e p of, range-in-view S H of.token of.asked legal of.piece.named (changes-moving of.asked.asked.kind of.piece.changes), media.1)

none-in-views : (S : Setup) (k : ℕ) → AreInViews S k [] []
unfolding AreInViews
none-in-views S k = tt

-- each piece of an era lies inside the range of an accepted request, and that inside its view on the era's medium
pub pieces-in-views : (S : Setup) (k : ℕ) (H : List Entry) → IsSetup S → IsLegal S H → AreInViews S k H (pieces_of S k H)
unfolding IsLegal pieces_of
pieces-in-views S k [] is legal = none-in-views S k
pieces-in-views S k (e ∷ H) is (legal, may) = elim (cases_eq (media_id_of H) k) [
  | inr out ↦ rw (ne_eqb (media_id_of H) k out) (views-stay S k H e (pieces_of S k H) (pieces-in-views S k H is legal))
  | inl in_ ↦
      rw (eq-eqb (media_id_of H) k in_)
      (views-stay S k H e (with_piece (piece_of S H e) (pieces_of S k H))
      (with-views S k H (piece_of S H e) (pieces_of S k H)
      (λ p gives. let (r, of, inside, named) = piece-in-view S H e p is legal may gives in (r, of, inside, named ∙ in_))
      (pieces-in-views S k H is legal)))
]

patched-long : (S : Setup) (k : ℕ) (H : List Entry) (ps : List Piece) (bytes : List ℕ) → AreInViews S k H ps → length bytes ≡ blocks_of S k * size_of S → length (patch_all ps bytes) ≡ blocks_of S k * size_of S
unfolding AreInViews patch_all
patched-long S k H [] bytes all long = long
patched-long S k H (p ∷ ps) bytes ((r, of, inside, named), others) long =
    let before : length (patch_all ps bytes) ≡ blocks_of S k * size_of S = patched-long S k H ps bytes others long in
    let lies : r.view.start + r.view.length ≤ blocks_of S k * size_of S = rw named at inside.lies in
    length-patch (patch_all ps bytes) p.at p.bytes (omega (arith, of.ends, inside.ends, before)) ∙ before

-- a medium has its length whatever was written
pub contents-long : (S : Setup) (k : ℕ) (H : List Entry) (bytes : List ℕ) → IsSetup S → AreToldWhole S → IsLegal S H → contents S k H ≡ Some bytes → length bytes ≡ blocks_of S k * size_of S
unfolding contents
contents-long S k H bytes is whole legal holds = by (first_of S k) refl holds
  where
    by : (first : Option (List ℕ)) → first_of S k ≡ first → option_map (patch_all (pieces_of S k H)) first ≡ Some bytes → length bytes ≡ blocks_of S k * size_of S
    by None told e = cc
    by (Some opening) told e =
        let same : patch_all (pieces_of S k H) opening ≡ bytes = cc in
        ap length (sym same) ∙ patched-long S k H (pieces_of S k H) opening (pieces-in-views S k H is legal) (whole k opening told)
