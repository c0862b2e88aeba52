-- An outstanding token has its record, and the gate of a ticket its holder.
use Rattle.std.proofs.Common.{◌≡◌, ℕ, true, false, List, Option, None, Some, refl, sym, ◌∙◌, ap}
use Rattle.std.specs.Option.{option_map}
use Rattle.medium.specs.Device.{Device}
use Rattle.drive.specs.Drives.{DriveState}
use Rattle.history.specs.declared.entry.Entry.{Entry}
use Rattle.history.specs.Setup.{Setup}
use Rattle.history.specs.Tokens.{Request}
use Rattle.history.specs.Marks.{IsOutstanding, HoldsBy}
use Rattle.block_gate.specs.Gates.{Gate, gate_of}
use Rattle.token_table.specs.declared.record.Record.{Record}
use Rattle.token_table.specs.declared.record.Mark.{Mark}
use Rattle.token_table.specs.Records.{record_at, mark_at, mark_of_end, mark_of_record}
use Rattle.disk_core.specs.declared.parts.Core.{Core}
use Rattle.disk_core.specs.State.{setup_of}
use Rattle.disk_core.specs.Parts.{kept_from, state_of, holder_of}
use Rattle.disk_core.specs.Inside.{Tracks}
use Rattle.disk_core.specs.Moves.{IsDisk}
use Rattle.history_laws.proofs.OwingLemmas.{open-kept}
use Rattle.disk_core.proofs.Kept.{kept-record}

-- the record of an outstanding token
pub record IsOpenRecord (S : Setup) (H : List Entry) (c : Core) (t : ℕ) (r : Record) (q : Request) : Type 0 where
  pub there : record_at c.tokens t ≡ Some r
  pub unended : r.ended ≡ None
  pub tracks : Tracks S H t r q

module _ {M : Type 0} (device : M → Device) (prepared : M → ℕ → Type 0) (drive : DriveState M) (c : Core) (sound : IsDisk device prepared drive c) where
  pub open-record : (t : ℕ) → IsOutstanding (setup_of device drive c.protected_at_first) c.history.entries t
      → (r : Record) × (q : Request) × IsOpenRecord (setup_of device drive c.protected_at_first) c.history.entries c t r q
  unfolding state_of
  open-record t open_ = by (record_at c.tokens t) refl
    where
      clash : true ≡ false → ⊥
      clash e = cc

      gone : record_at c.tokens t ≡ None → ⊥
      gone none =
          let was = sound.facts.tokens.gone t open_.token (kept-record c.tokens t ∙ ap (option_map kept_from) none) in
          clash (sym was ∙ open-kept (setup_of device drive c.protected_at_first) c.history.entries t sound.facts.legal open_.unmarked)

      by : (m : Option Record) → record_at c.tokens t ≡ m → (r : Record) × (q : Request) × IsOpenRecord (setup_of device drive c.protected_at_first) c.history.entries c t r q
      by None none = absurd (gone none)
      by (Some r) there =
          let tracks = (sound.records.each t r there).1 in
          (r, (sound.records.each t r there).0, record { there = there; unended = sym tracks.mark ∙ open_.unmarked; tracks = tracks })

  pub open-marked : (t : ℕ) → IsOutstanding (setup_of device drive c.protected_at_first) c.history.entries t → mark_at c.tokens t ≡ Mark.Outstanding
  unfolding mark_at
  open-marked t open_ = (let (r, q, is) = open-record t open_ in ap mark_of_record is.there ∙ ap mark_of_end is.unended)

  -- the token that holds the gate of a ticket, with its request and its record
  pub record IsHolderOf (k : ℕ) (g : Gate) (t : ℕ) (q : Request) (r : Record) : Type 0 where
    pub holds : HoldsBy (setup_of device drive c.protected_at_first) c.history.entries t g.block k
    pub lent : g.out ≡ true
    pub holder : holder_of c.holders.items k ≡ Some t
    pub record_is : IsOpenRecord (setup_of device drive c.protected_at_first) c.history.entries c t r q

  pub gate-holder : (k : ℕ) (g : Gate) → gate_of c.gates.held k ≡ Some g → (t : ℕ) × (q : Request) × (r : Record) × IsHolderOf k g t q r
  unfolding state_of
  gate-holder k g there =
      let (t, is) = sound.facts.gates.each k g there in
      let (r, q, opened) = open-record t is.holds.holds.outstanding in
      (t, q, r, record { holds = is.holds; lent = is.lent; holder = sound.holders.each k t g.block is.holds; record_is = opened })
