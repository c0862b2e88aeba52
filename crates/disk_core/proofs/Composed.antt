-- A kept copy with the token's bytes put in.
use Rattle.std.proofs.Common.{◌≡◌, ℕ, ◌+◌, ◌-◌, ◌*◌, ◌<◌, ◌≤◌, true, false, List, ◌++◌, length, take, drop, replicate, None, Some, sym, ◌∙◌, ap, subst, arith}
use Rattle.std.specs.Option.{option_map}
use Rattle.std.proofs.lemmas.List.{length-take, length-drop, length-replicate}
use Rattle.std.proofs.lemmas.Nat.{mul-le}
use Rattle.std.proofs.Math.Seq.{take-append_seam}
use Rattle.std.proofs.lemmas.Option.{same_Some}
use Rattle.byte_lists.specs.Patching.{patch}
use Rattle.byte_lists.proofs.Patched.{length-patch}
use Rattle.medium.specs.Device.{Device, IsShaped}
use Rattle.drive.specs.Drives.{DriveState}
use Rattle.disk_split.specs.declared.geometry.Geometry.{Geometry}
use Rattle.disk_split.specs.Units.{IsUnit, group_size}
use Rattle.block_gate.specs.Gates.{Gate, gate_of}
use Rattle.history.specs.declared.entry.Kind.{Kind}
use Rattle.history.specs.declared.entry.Kind.TheVariants.{Read, Write, Flush, Erase}
use Rattle.history.specs.Setup.{Setup, size_of, per_of}
use Rattle.history.specs.Tokens.{Request, request, request_bytes, bytes_to_put, changes_bytes, from_of, until_of}
use Rattle.history.specs.Contents.{bytes_between}
use Rattle.history_laws.proofs.UnitLemmas.{part-unit-at}
use Rattle.token_table.specs.declared.record.Record.{Record}
use Rattle.token_table.specs.declared.record.Request.{Request as Recorded}
use Rattle.token_table.specs.Records.{request_at}
use Rattle.disk_core.specs.declared.parts.Core.{Core}
use Rattle.disk_core.specs.declared.storing.Part.{Part}
use Rattle.disk_core.specs.State.{setup_of}
use Rattle.disk_core.specs.Facts.{IsBuffer, buffer_length}
use Rattle.disk_core.specs.Parts.{kept_from, state_of}
use Rattle.disk_core.specs.Pieces.{bytes_in}
use Rattle.disk_core.specs.Calls.{expected_copy}
use Rattle.history_laws.specs.Ranges.{low_in, high_in}
use Rattle.disk_core.specs.Moves.{IsDisk}
use Rattle.disk_core.specs.Storage.{IsHeldPart}
use Rattle.disk_core.proofs.Kept.{kept-record}
use Rattle.disk_core.proofs.Opened.{IsOpenRecord, IsHolderOf, open-record}
use Rattle.disk_core.proofs.Parted.{part-there, found-record}
use Rattle.history_laws.proofs.RequestLemmas.{put-same}

put-long : (kind : Kind) (n : ℕ) (buffer : List ℕ) → changes_bytes kind ≡ true → length buffer ≡ buffer_length kind n → length (bytes_to_put kind n buffer) ≡ n
put-long Read n buffer changes long = cc
put-long Write n buffer changes long = long
put-long Flush n buffer changes long = cc
put-long Erase n buffer changes long = length-replicate n 0

write-long : (kind : Kind) (n m : ℕ) → m ≡ buffer_length kind n → kind ≡ Write → m ≡ n
write-long kind n m long writes = long ∙ ap (λ k. buffer_length k n) writes

module _ {M : Type 0} (device : M → Device) (prepared : M → ℕ → Type 0) (drive : DriveState M) (c : Core) (sound : IsDisk device prepared drive c) where
  abbrev S : Setup
  S = setup_of device drive c.protected_at_first

  -- the buffer of an open token
  open-buffer : (t : ℕ) (r : Record) (q : Request) → IsOpenRecord S c.history.entries c t r q → IsBuffer S c.history.entries t q r.request.buffer
  unfolding state_of
  open-buffer t r q is =
      let kept = (sound.facts.tokens.there t (kept_from r) (kept-record c.tokens t ∙ ap (option_map kept_from) is.there)).1 in
      subst (λ p. IsBuffer S c.history.entries t p r.request.buffer) (same_Some kept.0 q (sym kept.1.named ∙ is.tracks.named)) kept.1

  -- the bytes that its record puts are those of its request
  pub bytes-put : (t low high : ℕ) (r : Record) (q : Request) → IsOpenRecord S c.history.entries c t r q → changes_bytes q.asked.kind ≡ true → bytes_in r.request low high ≡ bytes_between S q low high
  bytes-put t low high r q is changes =
      let buffer = open-buffer t r q is in
      let put : bytes_to_put r.request.asked.kind r.request.asked.length r.request.buffer ≡ request_bytes q =
      ap (λ a. bytes_to_put a.kind a.length r.request.buffer) is.tracks.asked ∙ put-same q.asked.kind q.asked.length r.request.buffer q.bytes changes buffer.bytes in
      λ i. take (high - low) (drop (low - is.tracks.begins i) (put i))

  pub buffer-long : (t : ℕ) (r : Record) (q : Request) → IsOpenRecord S c.history.entries c t r q → r.request.asked.kind ≡ Write → length r.request.buffer ≡ r.request.asked.length
  buffer-long t r q is writes =
      let buffer = open-buffer t r q is in
      write-long r.request.asked.kind r.request.asked.length (length r.request.buffer) (buffer.long ∙ sym (ap (λ a. buffer_length a.kind a.length) is.tracks.asked)) writes

  module _ (shaped : (m : M) → IsShaped (device m)) (part : Part) (g : Gate) (q : Request) (held : IsHeldPart S c part g q) where
    pub part-record : (r : Record) × IsOpenRecord S c.history.entries c part.token r q
    part-record =
        let (r, p, is) = open-record device prepared drive c sound part.token held.holds.holds.outstanding in
        (r, subst (IsOpenRecord S c.history.entries c part.token r) (same_Some p q (sym is.tracks.named ∙ held.named)) is)

    pub holder-is : (r : Record) → IsOpenRecord S c.history.entries c part.token r q → IsHolderOf device prepared drive c sound part.ticket g part.token q r
    unfolding state_of
    holder-is r is = record {
      holds = held.holds;
      lent = (sound.facts.gates.each part.ticket g held.gate).1.lent;
      holder = sound.holders.each part.ticket part.token g.block held.holds;
      record_is = is;
    }

    unit : IsUnit S.geometry (from_of S q) (until_of S q) (record { whole = false; block = g.block; count = per_of S; low = low_in S q g.block; high = high_in S q g.block (per_of S) })
    unit = (let (r, is) = part-record in part-unit-at S.geometry (from_of S q) (until_of S q) g.block (part-there device prepared drive c sound shaped part.ticket g part.token q r (holder-is r is)).0)

    pub part-changes : changes_bytes q.asked.kind ≡ true
    part-changes = (let (r, is) = part-record in (part-there device prepared drive c sound shaped part.ticket g part.token q r (holder-is r is)).1)

    pub part-some : low_in S q g.block < high_in S q g.block (per_of S)
    part-some = (let some = unit.some in some)

    size-same : c.blocks.size ≡ size_of S
    size-same = ap (λ (G : Geometry). G.size) sound.fitted.blocks

    -- in the record that was found, and in the group
    pub record PartFits (recorded : Recorded) : Type 0 where
      pub changes : changes_bytes recorded.asked.kind ≡ true
      pub begins : recorded.at ≤ part.range.low
      pub order : part.range.low ≤ part.range.high
      pub inside : part.range.high ≤ recorded.at + recorded.asked.length
      pub buffer : recorded.asked.kind ≡ Write → length recorded.buffer ≡ recorded.asked.length
      pub zeros : (n : ℕ) × (c.zeros.items ≡ replicate n 0) × (part.range.high - part.range.low ≤ n)
      pub place : part.block * c.blocks.size ≤ part.range.low
      pub room : part.range.low - part.block * c.blocks.size + (part.range.high - part.range.low) ≤ group_size S.geometry
      pub bytes : bytes_in recorded part.range.low part.range.high ≡ bytes_between S q part.range.low part.range.high
      pub count : length (bytes_in recorded part.range.low part.range.high) ≡ part.range.high - part.range.low

    pub part-in-record : (recorded : Recorded) → Some recorded ≡ request_at c.tokens part.token → PartFits recorded
    part-in-record recorded found =
        let (r, is) = part-record in
        let own = found-record device prepared drive c sound shaped part.token r recorded is.there found in
        subst PartFits own (fits r is)
      where
        fits : (r : Record) → IsOpenRecord S c.history.entries c part.token r q → PartFits r.request
        fits r is =
            let some = part-some in
            let low = held.low in
            let high = held.high in
            let begins = is.tracks.begins in
            let long : r.request.asked.length ≡ q.asked.length = ap (λ a. a.length) is.tracks.asked in
            let changes : changes_bytes r.request.asked.kind ≡ true = ap (λ a. changes_bytes a.kind) is.tracks.asked ∙ part-changes in
            let per = sound.geometry.geometry.per_most in
            let group : (g.block + per_of S) * size_of S ≡ g.block * size_of S + group_size S.geometry = omega arith in
            let place : part.block * c.blocks.size ≡ g.block * size_of S = (λ i. held.block i * size-same i) in
            let wide : group_size S.geometry ≤ 64 * size_of S = (let less = mul-le (size_of S) (per_of S) (size_of S) 64 (omega arith) (omega arith) in omega arith) in
            let buffer = open-buffer part.token r q is in
            let put : length (bytes_to_put r.request.asked.kind r.request.asked.length r.request.buffer) ≡ r.request.asked.length =
            put-long r.request.asked.kind r.request.asked.length r.request.buffer changes (buffer.long ∙ sym (ap (λ a. buffer_length a.kind a.length) is.tracks.asked)) in
            record {
              changes = changes;
              begins = omega arith;
              order = omega arith;
              inside = omega arith;
              buffer = buffer-long part.token r q is;
              zeros = (64 * size_of S, sound.fitted.zeros, omega arith);
              place = omega arith;
              room = omega arith;
              bytes = bytes-put part.token part.range.low part.range.high r q is part-changes;
              count = simp (length-take, length-drop) (omega arith);
            }

    pub copy-long : length g.copy ≡ length c.group.items
    unfolding state_of
    copy-long = sound.holders.apart.long part.ticket g held.gate ∙ sound.facts.gates.sized ∙ sym sound.fitted.group

    -- the copy with these bytes put in is what the group has to be
    pub composed : (recorded : Recorded) (place : ℕ) (bytes : List ℕ) → Some recorded ≡ request_at c.tokens part.token → place ≡ part.range.low - part.block * c.blocks.size → bytes ≡ bytes_in recorded part.range.low part.range.high
        → patch g.copy place bytes ≡ expected_copy S q g
    composed recorded place bytes found at is =
        let fits = part-in-record recorded found in
        λ i. patch g.copy ((at ∙ (λ j. held.low j - held.block j * size-same j)) i) ((is ∙ fits.bytes ∙ (λ j. bytes_between S q (held.low j) (held.high j))) i)

    found-here : (r : Record) → IsOpenRecord S c.history.entries c part.token r q → Some r.request ≡ request_at c.tokens part.token
    unfolding request_at
    found-here r is = sym (ap (option_map (λ x. x.request)) is.there)

    pub expected-long : length (expected_copy S q g) ≡ group_size S.geometry
    expected-long =
        let (r, is) = part-record in
        let fits = part-in-record r.request (found-here r is) in
        let long = copy-long in
        let group = sound.fitted.group in
        let bytes : length (bytes_between S q (low_in S q g.block) (high_in S q g.block (per_of S))) ≡ part.range.high - part.range.low = ap length (sym (fits.bytes ∙ (λ i. bytes_between S q (held.low i) (held.high i)))) ∙ fits.count in
        let place : part.range.low - part.block * c.blocks.size ≡ low_in S q g.block - g.block * size_of S = (λ i. held.low i - held.block i * size-same i) in
        let room = fits.room in
        length-patch g.copy (low_in S q g.block - g.block * size_of S) (bytes_between S q (low_in S q g.block) (high_in S q g.block (per_of S))) (omega arith) ∙ long ∙ group

    pub copy-found : (copy : List ℕ) → Some copy ≡ option_map (λ g. g.copy) (gate_of c.gates.held part.ticket) → copy ≡ g.copy
    copy-found copy found = (let e : Some copy ≡ Some g.copy = found ∙ ap (option_map (λ x. x.copy)) held.gate in cc)

    pub request-there : None ≡ request_at c.tokens part.token → ⊥
    request-there none = (let (r, is) = part-record in clash r (none ∙ sym (found-here r is)))
      where
        clash : (r : Record) → None ≡ Some r.request → ⊥
        clash r e = cc

    -- the buffer once the copy and the bytes were put in
    pub buffer-composed : (copy old bytes items : List ℕ) (recorded : Recorded) (place n : ℕ) → Some copy ≡ option_map (λ g. g.copy) (gate_of c.gates.held part.ticket) → items ≡ copy → old ≡ items → n ≡ length items
        → Some recorded ≡ request_at c.tokens part.token → place ≡ part.range.low - part.block * c.blocks.size → bytes ≡ bytes_in recorded part.range.low part.range.high
        → take n (patch old place bytes ++ drop (length (patch old place bytes)) items) ≡ expected_copy S q g
    buffer-composed copy old bytes items recorded place n found items_is old_is long request at is =
        let same : old ≡ g.copy = old_is ∙ items_is ∙ copy-found copy found in
        let all : patch old place bytes ≡ expected_copy S q g = ap (λ xs. patch xs place bytes) same ∙ composed recorded place bytes request at is in
        let count : length (patch old place bytes) ≡ group_size S.geometry = ap length all ∙ expected-long in
        let group = copy-long in
        let copied : length items ≡ length g.copy = ap length (items_is ∙ copy-found copy found) in
        let kept = sound.fitted.group in
        ap (λ m. take m (patch old place bytes ++ drop (length (patch old place bytes)) items)) (let e : n ≡ length (patch old place bytes) = omega arith in e)
        ∙ take-append_seam (patch old place bytes) (drop (length (patch old place bytes)) items) ∙ all
