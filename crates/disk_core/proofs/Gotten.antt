-- The bytes that a read brings go into its token's buffer.
use Rattle.std.proofs.Common.{◌≡◌, ℕ, zero, suc, ◌+◌, ◌-◌, ◌*◌, ◌≤◌, List, [], ◌∷◌, ◌++◌, length, take, drop, Option, None, Some, refl, sym, ◌∙◌, ap, subst, arith, Result, Ok, Err, IfSome, slice_get, length-take, length-drop}
use Rattle.std.specs.Prelude.{replicate}
use Rattle.std.specs.List.{refill}
use Rattle.std.specs.Option.{option_map}
use Rattle.std.proofs.lemmas.List.{take-append-drop, length-replicate}
use Rattle.std.proofs.Math.Seq.{take-append_seam}
use Rattle.byte_lists.proofs.Patched.{length-patch}
use Rattle.byte_lists.proofs.Patches.{same-bytes, part-byte}
use Rattle.byte_lists.specs.Patching.{patch}
use Rattle.medium.specs.Device.{Device, IsRead, AreToldAt}
use Rattle.medium.specs.declared.block_failed.BlockFailed.{BlockFailed}
use Rattle.drive.specs.Drives.{DriveState}
use Rattle.token_table.specs.declared.record.Record.{Record}
use Rattle.token_table.specs.declared.record.Request.{Request}
use Rattle.token_table.specs.Records.{Records, record_at, request_at, with_change, fill_record}
use Rattle.disk_core.specs.declared.parts.Core.{Core}
use Rattle.disk_core.specs.Commands.{OnMedium, OfMedium}
use Rattle.disk_core.specs.Moves.{IsGot, GetsInto, with_bytes_in}

-- a change is seen at its own record alone
changed-alike : (f g : Record → Record) (records : Records) (t : ℕ) → ((r : Record) → record_at records t ≡ Some r → f r ≡ g r) → with_change f records t ≡ with_change g records t
unfolding with_change record_at
changed-alike f g [] t same = refl
changed-alike f g (o ∷ records) zero same = ap (λ x. x ∷ records) (by o same)
  where
    by : (o : Option Record) → ((r : Record) → o ≡ Some r → f r ≡ g r) → option_map f o ≡ option_map g o
    by None same = refl
    by (Some r) same = ap Some (same r refl)
changed-alike f g (o ∷ records) (suc t) same = ap (λ rest. o ∷ rest) (changed-alike f g records t same)

changed-still : (f : Record → Record) (records : Records) (t : ℕ) → ((r : Record) → record_at records t ≡ Some r → f r ≡ r) → with_change f records t ≡ records
unfolding with_change record_at
changed-still f [] t same = refl
changed-still f (o ∷ records) zero same = ap (λ x. x ∷ records) (by o same)
  where
    by : (o : Option Record) → ((r : Record) → o ≡ Some r → f r ≡ r) → option_map f o ≡ o
    by None same = refl
    by (Some r) same = ap Some (same r refl)
changed-still f (o ∷ records) (suc t) same = ap (λ rest. o ∷ rest) (changed-still f records t same)

abbrev nothing : List ℕ
nothing = []

drop-none : (n : ℕ) → drop n nothing ≡ nothing
drop-none zero = refl
drop-none (suc n) = refl

drops : (m n : ℕ) (xs : List ℕ) → drop n (drop m xs) ≡ drop (m + n) xs
drops zero n xs = ap (λ k. drop k xs) (omega arith)
drops (suc m) n [] = drop-none n ∙ sym (drop-none (suc m + n))
drops (suc m) n (x ∷ xs) = drops m n xs ∙ ap (λ k. drop k (x ∷ xs)) (let e : suc (m + n) ≡ suc m + n = omega arith in e)

-- the elements of a vector that was written over
pub items-with : (n : ℕ) (xs ws : List ℕ) → n ≡ length ws → take n (ws ++ drop (length ws) xs) ≡ ws
items-with n xs ws same = ap (λ k. take k (ws ++ drop (length ws) xs)) same ∙ take-append_seam ws (drop (length ws) xs)

refill-same : (old new : List ℕ) → length new ≡ length old → refill (length old) old new ≡ new
refill-same old new long = items-with (length old) old new (sym long)

-- a record's buffer is the one that was lent
buffer-is : (records : Records) (t : ℕ) (buffer : List ℕ) (r : Record) → Some buffer ≡ option_map (λ q. q.buffer) (request_at records t) → record_at records t ≡ Some r → r.request.buffer ≡ buffer
unfolding request_at
buffer-is records t buffer r lent there = (let same : Some buffer ≡ Some r.request.buffer = lent ∙ ap (λ o. option_map (λ q. q.buffer) (option_map (λ x. x.request) o)) there in cc)

module _ (place count : ℕ) (buffer now : List ℕ) (long : length now ≡ count) (fits : place + count ≤ length buffer) where
  abbrev written : List ℕ
  written = take place buffer ++ (now ++ drop count (drop place buffer))

  written-patch : written ≡ patch buffer place now
  written-patch = ap (λ rest. take place buffer ++ (now ++ rest)) (drops place count buffer ∙ ap (λ n. drop n buffer) (omega arith))

  written-long : length written ≡ length buffer
  written-long = ap length written-patch ∙ length-patch buffer place now (omega arith)

  written-same : now ≡ take count (drop place buffer) → written ≡ buffer
  written-same same = ap (λ part. take place buffer ++ (part ++ drop count (drop place buffer))) same ∙ ap (λ rest. take place buffer ++ rest) (take-append-drop count (drop place buffer)) ∙ take-append-drop place buffer

  filled-is : (r : Record) → r.request.buffer ≡ buffer → fill_record r written ≡ with_bytes_in place now r
  unfolding fill_record with_bytes_in
  filled-is r own = λ i. record r { request = record r.request { buffer = (refill-same r.request.buffer written (written-long ∙ ap length (sym own)) ∙ written-patch ∙ ap (λ b. patch b place now) (sym own)) i } }

  filled-same : (r : Record) → r.request.buffer ≡ buffer → now ≡ take count (drop place buffer) → fill_record r written ≡ r
  unfolding fill_record
  filled-same r own same = λ i. record r { request = record r.request { buffer = (refill-same r.request.buffer written (written-long ∙ ap length (sym own)) ∙ written-same same ∙ sym own) i } }

pub fits-lent : (o : Option Request) (n : ℕ) (buffer : List ℕ) → IfSome o (λ q. n ≤ length q.buffer) → Some buffer ≡ option_map (λ q. q.buffer) o → n ≤ length buffer
fits-lent None n buffer fits lent = cc
fits-lent (Some q) n buffer fits lent = (let same : q.buffer ≡ buffer = one (sym lent) in subst (λ b. n ≤ length b) same fits)
  where
    one : Some q.buffer ≡ Some buffer → q.buffer ≡ buffer
    one e = cc

pub part-long : (place count : ℕ) (buffer part : List ℕ) → place + count ≤ length buffer → part ≡ take (place + count - place) (drop place buffer) → length part ≡ count
part-long place count buffer part fits is = (let e = ap length is in omega (arith, simp (length-take, length-drop) at e))

-- what the buffer holds once a part of it was written, and how the parts stand
module _ (c : Core) (token place count : ℕ) (now buffer whole : List ℕ) (long : length now ≡ count) (fits : place + count ≤ length buffer) (lent : Some buffer ≡ option_map (λ q. q.buffer) (request_at c.tokens token))
    (is : whole ≡ take place buffer ++ (now ++ drop (place + count - place) (drop place buffer))) where
  whole-is : whole ≡ take place buffer ++ (now ++ drop count (drop place buffer))
  whole-is = is ∙ ap (λ n. take place buffer ++ (now ++ drop n (drop place buffer))) (omega arith)

  pub whole-tokens : with_change (λ r. fill_record r whole) c.tokens token ≡ with_change (with_bytes_in place now) c.tokens token
  whole-tokens = ap (λ w. with_change (λ r. fill_record r w) c.tokens token) whole-is
      ∙ changed-alike (λ r. fill_record r (written place count buffer now long fits)) (with_bytes_in place now) c.tokens token (λ r there. filled-is place count buffer now long fits r (buffer-is c.tokens token buffer r lent there))

  pub whole-still : now ≡ take count (drop place buffer) → with_change (λ r. fill_record r whole) c.tokens token ≡ c.tokens
  whole-still same = ap (λ w. with_change (λ r. fill_record r w) c.tokens token) whole-is
      ∙ changed-still (λ r. fill_record r (written place count buffer now long fits)) c.tokens token (λ r there. filled-same place count buffer now long fits r (buffer-is c.tokens token buffer r lent there) same)

module _ {M : Type 0} (device : M → Device) (prepared : M → ℕ → Type 0) (drive drive' : DriveState M) (c : Core) (token low place count : ℕ) (now buffer whole : List ℕ) (long : length now ≡ count) (fits : place + count ≤ length buffer)
    (lent : Some buffer ≡ option_map (λ q. q.buffer) (request_at c.tokens token)) (is : whole ≡ take place buffer ++ (now ++ drop (place + count - place) (drop place buffer))) where
  part-is : place + count - place ≡ count
  part-is = omega arith

  -- the medium was read straight into it
  pub run-gets : (block : ℕ) (result : Result (Unit {0}) BlockFailed) (was : List ℕ) → OnMedium device prepared drive drive' (λ d d'. IsRead d block result d' was now) → OfMedium drive (λ m. low ≡ block * (device m).size) → was ≡ take (place + count - place) (drop place buffer)
      → GetsInto device prepared drive drive' c (record c { tokens = with_change (λ r. fill_record r whole) c.tokens token }) token low place count result
  run-gets block result was on begins part = by result on
    where
      got : (result : Result (Unit {0}) BlockFailed) (d d' : Device) → low ≡ block * d.size → IsRead d block result d' was now → IsGot d result d' low now
      got (Ok x) d d' at does = record { command = does.command; now = does.now; kept = does.kept; given = subst (λ n. AreToldAt d.now n now) (sym at) does.given; done = does.done }
      got (Err e) d d' at does = record { command = does.command; now = does.now; kept = does.kept; given = does.given; done = does.done }

      on-got : (result : Result (Unit {0}) BlockFailed) → OnMedium device prepared drive drive' (λ d d'. IsRead d block result d' was now) → OnMedium device prepared drive drive' (λ d d'. IsGot d result d' low now)
      on-got result on = record { before = on.before; after = on.after; was_in = on.was_in; drive = on.drive; does = got result (device on.before) (device on.after) (begins on.before on.was_in) on.does; stay = on.stay }

      by : (result : Result (Unit {0}) BlockFailed) → OnMedium device prepared drive drive' (λ d d'. IsRead d block result d' was now)
          → GetsInto device prepared drive drive' c (record c { tokens = with_change (λ r. fill_record r whole) c.tokens token }) token low place count result
      by (Ok x) on = record { piece = now; long = long; on = on-got (Ok x) on; tokens = whole-tokens c token place count now buffer whole long fits lent is; left = tt; group = refl; core = refl }
      by (Err e) on = record {
        piece = now;
        long = long;
        on = on-got (Err e) on;
        tokens = tt;
        left = whole-still c token place count now buffer whole long fits lent is (on.does.left ∙ part ∙ ap (λ n. take n (drop place buffer)) part-is);
        group = refl;
        core = refl;
      }

told-fits : (bytes group : List ℕ) (at : ℕ) → group ≡ take (length group) (drop at bytes) → length group ≤ length bytes - at
told-fits bytes group at are = (let e = ap length are in omega (arith, simp (length-take, length-drop) at e))

taken-long : (at n : ℕ) (bytes : List ℕ) → n ≤ length bytes - at → length (take n (drop at bytes)) ≡ n
taken-long at n bytes fits = simp (length-take, length-drop) (omega arith)

piece-long : (skip count : ℕ) (group : List ℕ) → skip + count ≤ length group → length (take count (drop skip group)) ≡ count
piece-long skip count group inside = simp (length-take, length-drop) (omega arith)

-- a part of what was told
part-told : (told : Option (List ℕ)) (at skip count : ℕ) (group : List ℕ) → skip + count ≤ length group → AreToldAt told at group → AreToldAt told (at + skip) (take count (drop skip group))
part-told None at skip count group inside are = tt
part-told (Some bytes) at skip count group inside are = by (take count (drop skip group)) refl
  where
    by : (piece : List ℕ) → piece ≡ take count (drop skip group) → piece ≡ take (length piece) (drop (at + skip) bytes)
    by piece is =
        let long : length piece ≡ count = ap length is ∙ piece-long skip count group inside in
        let fits = told-fits bytes group at are in
        same-bytes piece (take (length piece) (drop (at + skip) bytes)) (sym (taken-long (at + skip) (length piece) bytes (omega arith)))
        (λ i lt. ap (λ p. slice_get p i) is
        ∙ (part-byte group skip count i (omega arith)
        ∙ (ap (λ g. slice_get g (skip + i)) are ∙ (part-byte bytes at (length group) (skip + i) (omega arith) ∙ (ap (slice_get bytes) (omega arith) ∙ sym (part-byte bytes (at + skip) (length piece) i lt))))))

-- a group was read, and a part of it copied
pub group-gets : {M : Type 0} (device : M → Device) (prepared : M → ℕ → Type 0) (drive drive' : DriveState M) (c mid c' : Core) (token block size low place count : ℕ) (was now : List ℕ) (x : Unit {0})
    → OnMedium device prepared drive drive' (λ d d'. IsRead d block (Ok x) d' was now) → OfMedium drive (λ m. size ≡ (device m).size) → block * size ≤ low → low + count ≤ block * size + length now → length now ≡ length c.group.items
    → mid.group.items ≡ now → c' ≡ record c { tokens = with_change (with_bytes_in place (take count (drop (low - block * size) mid.group.items))) c.tokens token; group = mid.group }
    → GetsInto device prepared drive drive' c c' token low place count (Ok x)
group-gets device prepared drive drive' c mid c' token block size low place count was now x on sized begins ends long items is = record {
  piece = take count (drop (low - block * size) mid.group.items);
  long = piece-long (low - block * size) count mid.group.items (let same = ap length items in omega arith);
  on = record { before = on.before; after = on.after; was_in = on.was_in; drive = on.drive; does = got; stay = on.stay };
  tokens = ap (λ v. v.tokens) is;
  left = tt;
  group = ap (λ v. length v.group.items) is ∙ ap length items ∙ long;
  core = subst (λ v. v ≡ record c { tokens = v.tokens; group = v.group }) (sym is) refl;
}
  where
    got : IsGot (device on.before) (Ok x) (device on.after) low (take count (drop (low - block * size) mid.group.items))
    got =
        let size_is = sized on.before on.was_in in
        let low_is : block * (device on.before).size + (low - block * size) ≡ low = subst (λ n. block * n + (low - block * size) ≡ low) size_is (omega arith) in
        let told : AreToldAt (device on.before).now (block * (device on.before).size) mid.group.items = subst (AreToldAt (device on.before).now (block * (device on.before).size)) (sym items) on.does.given in
        let part = part-told (device on.before).now (block * (device on.before).size) (low - block * size) count mid.group.items (let same = ap length items in omega arith) told in
        record { command = on.does.command; now = on.does.now; kept = on.does.kept; given = subst (λ n. AreToldAt (device on.before).now n (take count (drop (low - block * size) mid.group.items))) low_is part; done = on.does.done }

-- a failed read of a group leaves the records
pub group-fails : {M : Type 0} (device : M → Device) (prepared : M → ℕ → Type 0) (drive drive' : DriveState M) (c mid : Core) (token block low place count : ℕ) (was now : List ℕ) (fault : BlockFailed)
    → OnMedium device prepared drive drive' (λ d d'. IsRead d block (Err fault) d' was now) → length mid.group.items ≡ length c.group.items → GetsInto device prepared drive drive' c (record c { group = mid.group }) token low place count (Err fault)
group-fails device prepared drive drive' c mid token block low place count was now fault on long = record {
  piece = replicate count 0;
  long = length-replicate count 0;
  on = record { before = on.before; after = on.after; was_in = on.was_in; drive = on.drive; does = record { command = on.does.command; now = on.does.now; kept = on.does.kept; given = tt; done = on.does.done }; stay = on.stay };
  tokens = tt;
  left = refl;
  group = long;
  core = refl;
}
