-- The part of a ticket's gate: it lies on the medium that is in, and its token has a record.
use Rattle.std.proofs.Common.{◌≡◌, ℕ, ◌+◌, ◌-◌, ◌*◌, ◌%◌, ◌^◌, ◌<◌, ◌≤◌, true, Option, None, Some, refl, sym, ◌∙◌, ap, subst, arith, IfNone}
use Rattle.std.specs.Prelude.{min, max}
use Rattle.std.specs.Option.{option_map}
use Rattle.medium.specs.Device.{Device, IsShaped}
use Rattle.drive.specs.Drives.{DriveState, medium_in}
use Rattle.disk_split.specs.declared.geometry.Geometry.{Geometry}
use Rattle.block_gate.specs.Gates.{Gate, gate_of}
use Rattle.history.specs.Setup.{Setup, size_of, per_of, blocks_of}
use Rattle.history.specs.Eras.{media_id_of}
use Rattle.history.specs.Tokens.{Request, request, changes_bytes, from_of, until_of}
use Rattle.history.specs.Marks.{HoldsBy}
use Rattle.std.proofs.lemmas.Nat.{mul-le}
use Rattle.history.specs.Rules.{HasPart, IsLegal}
use Rattle.history_laws.specs.Ranges.{IsInView}
use Rattle.history_laws.proofs.HolderLemmas.{fetched-part, changes-moving}
use Rattle.history_laws.proofs.MediaLemmas.{range-in-view, open-media}
use Rattle.token_table.specs.declared.record.Record.{Record}
use Rattle.token_table.specs.declared.record.Request.{Request as Recorded}
use Rattle.token_table.specs.Records.{record_at, request_at}
use Rattle.disk_core.specs.declared.parts.Core.{Core}
use Rattle.disk_core.specs.declared.pieces.Range.{Range}
use Rattle.disk_core.specs.State.{setup_of}
use Rattle.disk_core.specs.Parts.{holder_of, state_of}
use Rattle.disk_core.specs.Moves.{IsDisk}
use Rattle.disk_core.specs.Storage.{IsHeldPart}
use Rattle.disk_core.proofs.Admitted.{blocks-of}
use Rattle.disk_core.proofs.Grouped.{group-inside}
use Rattle.disk_core.proofs.Opened.{IsHolderOf, gate-holder}
use Rattle.disk_core.proofs.Prepared.{medium-place}
use Rattle.disk_core.proofs.Setups.{all-at}
use Rattle.disk_core.proofs.Upcoming.{medium-present}

pub gate-there : (o : Option Gate) (b : ℕ) → Some b ≡ option_map (λ g. g.block) o → (g : Gate) × (o ≡ Some g) × (g.block ≡ b)
gate-there None b is = cc
gate-there (Some g) b is = (g, refl, (let e : Some b ≡ Some g.block = is in cc))

pub any-none : {X A : Type 0} → (o : Option X) → A → IfNone o A
any-none None a = a
any-none (Some x) a = tt

module _ {M : Type 0} (device : M → Device) (prepared : M → ℕ → Type 0) (drive : DriveState M) (c : Core) (sound : IsDisk device prepared drive c) (shaped : (m : M) → IsShaped (device m)) where
  abbrev S : Setup
  S = setup_of device drive c.protected_at_first

  lawful : IsLegal S c.history.entries
  unfolding state_of
  lawful = sound.facts.legal

  module _ (k : ℕ) (g : Gate) (t : ℕ) (q : Request) (r : Record) (is : IsHolderOf device prepared drive c sound k g t q r) where
    -- what the token is for in the group
    pub part-there : HasPart S q g.block × (changes_bytes q.asked.kind ≡ true)
    part-there = fetched-part S c.history.entries t g.block q sound.geometry lawful is.record_is.tracks.named is.holds.holds.fetched

    pub medium-there : (m : M) × (medium_in drive ≡ Some m)
    medium-there = medium-present device prepared drive c sound t q is.holds.holds.outstanding is.record_is.tracks.named

    in-view : IsInView S q
    in-view = range-in-view S c.history.entries t q lawful is.record_is.tracks.named (changes-moving q.asked.kind part-there.1)

    size-is : (m : M) → medium_in drive ≡ Some m → (device m).size ≡ c.blocks.size
    unfolding setup_of
    size-is m there = all-at (λ n. (device n).size ≡ drive.size) drive.media (drive.media_id - 1) m sound.drive_follows.fit.size (medium-place drive m there).1 ∙ sym (ap (λ (G : Geometry). G.size) sound.fitted.blocks)

    ends-inside : (m : M) → medium_in drive ≡ Some m → until_of S q ≤ (device m).blocks * size_of S
    ends-inside m there =
        let view = in-view in
        let id : q.view.media_id ≡ media_id_of c.history.entries = (open-media S c.history.entries t q lawful is.holds.holds.outstanding is.record_is.tracks.named).1 in
        let blocks : blocks_of S q.view.media_id ≡ (device m).blocks = ap (blocks_of S) id ∙ blocks-of device drive c.protected_at_first c.history.entries sound.drive_follows q.view q.asked 0 m (medium-place drive m there).1 in
        let lies : q.view.start + q.view.length ≤ (device m).blocks * size_of S = subst (λ n. q.view.start + q.view.length ≤ n * size_of S) blocks view.lies in
        let ends = view.ends in
        omega arith

    -- its group lies on the medium
    pub group-there : (m : M) → medium_in drive ≡ Some m → g.block + per_of S ≤ (device m).blocks
    unfolding setup_of
    group-there m there =
        let part = part-there.0 in
        let some = part.part.some in
        let whole : (device m).blocks % per_of S ≡ 0 = all-at (λ n. (device n).blocks % drive.per ≡ 0) drive.media (drive.media_id - 1) m sound.drive_follows.fit.whole (medium-place drive m there).1 in
        let per = sound.geometry.geometry.per_some in
        let inside = group-inside (size_of S) (per_of S) (device m).blocks part.number (until_of S q) (omega arith) (omega arith) (ends-inside m there) whole in
        let begins = part.begins in
        let sum : (part.number + 1) * per_of S ≡ part.number * per_of S + per_of S = omega arith in
        omega arith

    -- in 64 bits
    pub group-fits : (g.block + c.blocks.per) * c.blocks.size < 2 ^ 64
    group-fits =
        let (m, there) = medium-there in
        let inside = group-there m there in
        let all : (device m).blocks * c.blocks.size < 2 ^ 64 = subst (λ n. (device m).blocks * n < 2 ^ 64) (size-is m there) (shaped m).fits in
        let per : c.blocks.per ≡ per_of S = ap (λ (G : Geometry). G.per) sound.fitted.blocks in
        let less : (g.block + c.blocks.per) * c.blocks.size ≤ (device m).blocks * c.blocks.size = mul-le (g.block + c.blocks.per) c.blocks.size (device m).blocks c.blocks.size (omega arith) (omega arith) in
        omega arith

    pub range-ends : r.request.at + r.request.asked.length < 2 ^ 64
    range-ends =
        let (m, there) = medium-there in
        let inside = ends-inside m there in
        let size : (device m).blocks * size_of S ≡ (device m).blocks * (device m).size = ap (λ (G : Geometry). (device m).blocks * G.size) (sym sound.fitted.blocks) ∙ ap (λ n. (device m).blocks * n) (sym (size-is m there)) in
        let all = (shaped m).fits in
        let tracks = is.record_is.tracks in
        let begins = tracks.begins in
        let long : r.request.asked.length ≡ q.asked.length = ap (λ a. a.length) tracks.asked in
        omega arith

  pub found-record : (t : ℕ) (r : Record) (q : Recorded) → record_at c.tokens t ≡ Some r → Some q ≡ request_at c.tokens t → r.request ≡ q
  unfolding request_at
  found-record t r q there is = (let e : Some q ≡ Some r.request = is ∙ ap (option_map (λ x. x.request)) there in cc)

  -- what was found for a ticket is its part
  pub part-is : (k : ℕ) (b t : ℕ) (recorded : Recorded) (range : Range) → Some b ≡ option_map (λ g. g.block) (gate_of c.gates.held k) → Some t ≡ holder_of c.holders.items k → Some recorded ≡ request_at c.tokens t
      → range.low ≡ max recorded.at (b * c.blocks.size) → range.high ≡ min (recorded.at + recorded.asked.length) ((b + c.blocks.per) * c.blocks.size)
      → (g : Gate) × (q : Request) × IsHeldPart S c (record { ticket = k; token = t; block = b; range = range }) g q
  part-is k b t recorded range gate holder found low high =
      let (g, there, block) = gate-there (gate_of c.gates.held k) b gate in
      let (u, q, r, is) = gate-holder device prepared drive c sound k g there in
      let same : u ≡ t = (let e : Some u ≡ Some t = sym is.holder ∙ sym holder in cc) in
      let tracks = is.record_is.tracks in
      let own : r.request ≡ recorded = found-record t r recorded (subst (λ v. record_at c.tokens v ≡ Some r) same is.record_is.there) found in
      let at : recorded.at ≡ from_of S q = ap (λ x. x.at) (sym own) ∙ tracks.begins in
      let asked : recorded.asked.length ≡ q.asked.length = ap (λ x. x.asked.length) (sym own) ∙ ap (λ a. a.length) tracks.asked in
      let size : c.blocks.size ≡ size_of S = ap (λ (G : Geometry). G.size) sound.fitted.blocks in
      let per : c.blocks.per ≡ per_of S = ap (λ (G : Geometry). G.per) sound.fitted.blocks in (
        g,
        q,
        record {
          gate = there;
          holds = subst (λ v. HoldsBy S c.history.entries v g.block k) same is.holds;
          named = subst (λ v. request c.history.entries v ≡ Some q) same tracks.named;
          block = sym block;
          low = low ∙ (λ i. max (at i) (sym block i * size i));
          high = high ∙ (λ i. min (at i + asked i) ((sym block i + per i) * size i));
        },
      )

  pub part-ends : (k : ℕ) (b t : ℕ) (recorded : Recorded) → Some b ≡ option_map (λ g. g.block) (gate_of c.gates.held k) → Some t ≡ holder_of c.holders.items k → Some recorded ≡ request_at c.tokens t → recorded.at + recorded.asked.length < 2 ^ 64
  part-ends k b t recorded gate holder found =
      let (g, there, block) = gate-there (gate_of c.gates.held k) b gate in
      let (u, q, r, is) = gate-holder device prepared drive c sound k g there in
      let same : u ≡ t = (let e : Some u ≡ Some t = sym is.holder ∙ sym holder in cc) in
      let own : r.request ≡ recorded = found-record t r recorded (subst (λ v. record_at c.tokens v ≡ Some r) same is.record_is.there) found in
      subst (λ x. x.at + x.asked.length < 2 ^ 64) own (range-ends k g u q r is)

  pub part-fits : (k b : ℕ) → Some b ≡ option_map (λ g. g.block) (gate_of c.gates.held k) → (b + c.blocks.per) * c.blocks.size < 2 ^ 64
  part-fits k b gate =
      let (g, there, block) = gate-there (gate_of c.gates.held k) b gate in
      let (u, q, r, is) = gate-holder device prepared drive c sound k g there in
      subst (λ n. (n + c.blocks.per) * c.blocks.size < 2 ^ 64) block (group-fits k g u q r is)

  -- a gate has its holder, and that its record
  pub holder-found : (k b : ℕ) → Some b ≡ option_map (λ g. g.block) (gate_of c.gates.held k) → None ≡ holder_of c.holders.items k → ⊥
  holder-found k b gate none =
      let (g, there, block) = gate-there (gate_of c.gates.held k) b gate in
      let (u, q, r, is) = gate-holder device prepared drive c sound k g there in
      clash u (none ∙ is.holder)
    where
      clash : (u : ℕ) → None ≡ Some u → ⊥
      clash u e = cc

  pub request-found : (k b t : ℕ) → Some b ≡ option_map (λ g. g.block) (gate_of c.gates.held k) → Some t ≡ holder_of c.holders.items k → None ≡ request_at c.tokens t → ⊥
  unfolding request_at
  request-found k b t gate holder none =
      let (g, there, block) = gate-there (gate_of c.gates.held k) b gate in
      let (u, q, r, is) = gate-holder device prepared drive c sound k g there in
      let same : u ≡ t = (let e : Some u ≡ Some t = sym is.holder ∙ sym holder in cc) in
      clash r (none ∙ ap (option_map (λ x. x.request)) (subst (λ v. record_at c.tokens v ≡ Some r) same is.record_is.there))
    where
      clash : (r : Record) → None ≡ Some r.request → ⊥
      clash r e = cc
