-- The facts of a disk that its callers may read, whenever no call of it runs (own profile).
use Rattle.std.specs.Prelude.{◌≡◌, ℕ, suc, ◌-◌, ◌*◌, ◌<◌, ◌≤◌, true, false, List, length, slice_get, Option, None, Some}
use Rattle.medium.specs.Device.{Device, AreToldAt}
use Rattle.history.specs.declared.entry.Kind.{Kind}
use Rattle.history.specs.declared.entry.Kind.TheVariants.{Read, Write, Flush, Erase}
use Rattle.history.specs.declared.entry.Entry.{Entry}
use Rattle.history.specs.Setup.{Setup, size_of, opening_of}
use Rattle.history.specs.Eras.{media_id_of, era_commands, era_faults}
use Rattle.history.specs.Tokens.{Request, token_count, request, was_collected, from_of, until_of}
use Rattle.history.specs.Contents.{contents, kept_contents, bytes_read}
use Rattle.history.specs.Marks.{fetches, HoldsBy}
use Rattle.history.specs.Rules.{IsLegal}
use Rattle.disk_split.specs.Units.{group_size}
use Rattle.block_gate.specs.Gates.{Gate, Gates, gate_of, is_out}
use Rattle.disk_core.specs.State.{State, Kept, kept_at, opening_from}

-- media follow the history: the medium with id k holds what its era's pieces made of its opening bytes, and its counts are
-- those of its era
pub record MeetsEra (S : Setup) (H : List Entry) (k : ℕ) (d : Device) : Type 0 where
  pub opening : opening_of S k ≡ Some (opening_from d)
  pub size : d.size ≡ size_of S
  pub cached : d.cached ≡ S.cached
  pub now : d.now ≡ contents S k H
  pub kept : d.kept ≡ kept_contents S k H
  pub calls : d.calls ≡ era_commands k H
  pub failed : d.failed ≡ era_faults k H
  pub faults : era_faults k H ≤ d.faults

-- a read's buffer has each byte that the read got
abbrev pub HasBytesRead : Setup → List Entry → ℕ → Request → List ℕ → Type 0
HasBytesRead S H t q buffer =
    (x v : ℕ) → from_of S q ≤ x → x < until_of S q → bytes_read S H t x ≡ Some v → slice_get buffer (x - from_of S q) ≡ Some v

-- how long the buffer of a request is
abbrev pub buffer_length : Kind → ℕ → ℕ
buffer_length Read n = n
buffer_length Write n = n
buffer_length Flush n = 0
buffer_length Erase n = 0

-- the buffer of a token with this request: a write's bytes, or what a read got so far
pub record IsBuffer (S : Setup) (H : List Entry) (t : ℕ) (q : Request) (buffer : List ℕ) : Type 0 where
  pub named : request H t ≡ Some q
  pub long : length buffer ≡ buffer_length q.asked.kind q.asked.length
  pub bytes : q.asked.kind ≡ Write → buffer ≡ q.bytes
  pub given : q.asked.kind ≡ Read → HasBytesRead S H t q buffer

-- records tell tokens: each token that was not handed back has its buffer, and one that was has none
pub record KeptFollow (S : Setup) (H : List Entry) (kept : List (Option Kept)) : Type 0 where
  pub counted : length kept ≡ token_count H
  pub there : (t : ℕ) (k : Kept) → kept_at kept t ≡ Some k → (was_collected H t ≡ false) × ((q : Request) × IsBuffer S H t q k.buffer)
  pub gone : (t : ℕ) → t < token_count H → kept_at kept t ≡ None → was_collected H t ≡ true

-- the gate of a ticket is that of the token which holds the group by it; its work is out, and its copy is the group
pub record IsGate (S : Setup) (H : List Entry) (ticket : ℕ) (g : Gate) (holder : ℕ) : Type 0 where
  pub holds : HoldsBy S H holder g.block ticket
  pub lent : g.out ≡ true
  pub copied : AreToldAt (contents S (media_id_of H) H) (g.block * size_of S) g.copy

-- gates tell holders and copies
pub record GatesFollow (S : Setup) (H : List Entry) (gates : Gates) : Type 0 where
  pub sized : gates.size ≡ group_size S.geometry
  pub each : (k : ℕ) (g : Gate) → gate_of gates.held k ≡ Some g → (t : ℕ) × IsGate S H k g t
  pub all : (t b k : ℕ) → HoldsBy S H t b k → (g : Gate) × (gate_of gates.held k ≡ Some g) × (g.block ≡ b)
  pub below : (k : ℕ) → is_out gates k ≡ true → k < fetches H

-- all that callers may read
pub record AreFacts (s : State) : Type 0 where
  pub legal : IsLegal s.setup s.entries
  pub media : (i : ℕ) (d : Device) → slice_get s.devices i ≡ Some d → MeetsEra s.setup s.entries (suc i) d
  pub tokens : KeptFollow s.setup s.entries s.kept
  pub gates : GatesFollow s.setup s.entries s.gates
