-- A disk after an entry that ends tokens and makes no command.
use Rattle.std.proofs.Common.{◌≡◌, ℕ, suc, ◌-◌, ◌<◌, ◌≤◌, false, List, ◌∷◌, length, map, slice_get, Some, refl, sym, ◌∙◌, ap, subst, arith}
use Rattle.std.specs.Prelude.{vec_capacity}
use Rattle.efi_status.specs.declared.Status.{Status}
use Rattle.medium.specs.Device.{Device}
use Rattle.drive.specs.Drives.{DriveState, medium_in}
use Rattle.history.specs.declared.entry.Entry.{Entry}
use Rattle.history.specs.Setup.{Setup}
use Rattle.history.specs.Eras.{is_command}
use Rattle.history.specs.Tokens.{Request, is_accept, token_count, request}
use Rattle.history.specs.Marks.{mark_of, ending, status_if, IsOutstanding, fetches}
use Rattle.history.specs.Rules.{IsLegal}
use Rattle.history.specs.Tasks.{units_left}
use Rattle.history_laws.specs.Ranges.{AreToldWhole}
use Rattle.history_laws.proofs.CountLemmas.{accepted-same, fetches-same}
use Rattle.history_laws.proofs.TokenLemmas.{request-same}
use Rattle.history_laws.proofs.EndLemmas.{mark-before}
use Rattle.block_gate.specs.Gates.{gate_of}
use Rattle.disk_core.specs.declared.parts.Core.{Core}
use Rattle.disk_core.specs.declared.ending.Meant.{Meant}
use Rattle.disk_core.specs.State.{setup_of}
use Rattle.disk_core.specs.Parts.{kept_of, state_of}
use Rattle.disk_core.specs.Inside.{DriveFollows, AreReady}
use Rattle.disk_core.specs.Moves.{IsDisk, with_entry, with_spare}
use Rattle.disk_core.specs.Calls.{EndsBy, Revokes}
use Rattle.disk_core.specs.Closing.{is_meant_in, GatesSoFar, RoomSoFar, IsClosing, IsToEnd, HaveEnded}
use Rattle.disk_core.proofs.Following.{era-still}
use Rattle.disk_core.proofs.Links.{StandsBeside, links-disk, disk-closed}
use Rattle.disk_core.proofs.Begun.{begun, gates-begun}
use Rattle.history_laws.proofs.EndingLemmas.{units-left}
use Rattle.history_laws.proofs.QuietLemmas.{IsEnding}
use Rattle.disk_core.proofs.Closed.{closed-all}
use Rattle.disk_core.proofs.Failed.{beside-rest}
use Rattle.history_laws.proofs.QuietLemmas.{no-fetch}

-- ---- what no end touches, over such an entry

pub ready-after : (S : Setup) (H : List Entry) (e : Entry) (ready : ℕ → Type 0) → is_accept e ≡ false → AreReady S H ready → AreReady S (e ∷ H) ready
ready-after S H e ready adds_none are t b q open_now named changes low high =
    are t b q (record { token = subst (λ n. t < n) (accepted-same H e adds_none) open_now.token; unmarked = mark-before S H e t open_now.unmarked }) (sym (request-same H e t adds_none) ∙ named) changes low high

-- `c` has the entry more than `c₀`, whose links it has else
pub record IsOneMore (e : Entry) (c₀ c : Core) : Type 0 where
  pub entries : c.history.entries ≡ e ∷ c₀.history.entries
  pub protected_at_first : c.protected_at_first ≡ c₀.protected_at_first
  pub blocks : c.blocks ≡ c₀.blocks
  pub accepted_same : c.accepted ≡ c₀.accepted
  pub fetched : c.fetched ≡ c₀.fetched
  pub tokens : c.tokens ≡ c₀.tokens
  pub queue : c.queue ≡ c₀.queue
  pub gates : c.gates ≡ c₀.gates
  pub holders : c.holders ≡ c₀.holders
  pub group : c.group ≡ c₀.group
  pub zeros : c.zeros ≡ c₀.zeros

pub one-more : (c : Core) (e : Entry) (spare paid : ℕ) → IsOneMore e c (with_entry (with_spare c spare) e paid)
unfolding with_entry with_spare
one-more c e spare paid = record {
  entries = refl;
  protected_at_first = refl;
  blocks = refl;
  accepted_same = refl;
  fetched = refl;
  tokens = refl;
  queue = refl;
  gates = refl;
  holders = refl;
  group = refl;
  zeros = refl;
}

module _ {M : Type 0} (device : M → Device) (prepared : M → ℕ → Type 0) (drive drive' : DriveState M) (c₀ c : Core) (e : Entry) (sound : IsDisk device prepared drive c₀) (more : IsOneMore e c₀ c) (quiet : is_command e ≡ false) where
  abbrev pub Begin : Setup
  Begin = setup_of device drive c₀.protected_at_first

  abbrev pub Before : List Entry
  Before = c₀.history.entries

  module _ (is_ending : IsEnding Begin Before e) (same_setup : setup_of device drive' c₀.protected_at_first ≡ Begin) (media : drive'.media ≡ drive.media) (follows : DriveFollows device Begin (e ∷ Before) drive')
      (ready : (m : M) → medium_in drive' ≡ Some m → medium_in drive ≡ Some m) where
    pub beside-more : StandsBeside device prepared Begin (e ∷ Before) drive' c
    unfolding state_of
    beside-more = record {
      setup = ap (setup_of device drive') more.protected_at_first ∙ same_setup;
      media = λ i d there. era-still Begin Before e (suc i) d quiet (sound.facts.media i d (ap (λ ms. slice_get (map device ms) i) (sym media) ∙ there));
      drive_follows = follows;
      ready = λ m there. ready-after Begin Before e (prepared m) is_ending.adds_none (sound.ready m (ready m there));
      fitted = record {
        blocks = more.blocks ∙ sound.fitted.blocks;
        accepts = more.accepted_same ∙ (sound.fitted.accepts ∙ (sym (accepted-same Before e is_ending.adds_none) ∙ ap token_count (sym more.entries)));
        fetches_are = more.fetched ∙ (sound.fitted.fetches_are ∙ (sym (fetches-same Before e (no-fetch e quiet)) ∙ ap fetches (sym more.entries)));
        group = ap (λ v. length v.items) more.group ∙ sound.fitted.group;
        zeros = ap (λ v. v.items) more.zeros ∙ sound.fitted.zeros;
      };
    }

    -- none of the tokens that it ends has ended in the parts
    pub more-closing : (late : ℕ) → AreToldWhole Begin → RoomSoFar Begin (e ∷ Before) (mark_of Begin Before) late c → IsClosing Begin (e ∷ Before) (mark_of Begin Before) (units_left Begin Before) late c
    unfolding state_of
    more-closing late whole room =
        begun Begin Before e is_ending c₀ c late (disk-closed device prepared drive c₀ sound) more.entries more.tokens more.queue
        (subst (λ g. GatesSoFar Begin (e ∷ Before) (mark_of Begin Before) g c.holders.items (vec_capacity c.holders)) (sym more.gates)
        (subst (λ h. GatesSoFar Begin (e ∷ Before) (mark_of Begin Before) c₀.gates h.items (vec_capacity h)) (sym more.holders)
        (gates-begun Begin Before e is_ending c₀.gates c₀.holders.items (vec_capacity c₀.holders) sound.geometry whole sound.facts.legal sound.facts.gates sound.holders)))
        room

    pub more-to-end : (meant : Meant) (status : Status) (late : ℕ) → AreToldWhole Begin → RoomSoFar Begin (e ∷ Before) (mark_of Begin Before) late c
        → ((t : ℕ) (q : Request) → IsOutstanding Begin Before t → request Before t ≡ Some q → ending Begin Before e t ≡ status_if (is_meant_in meant q.view q.asked.kind) status) → IsToEnd meant status Begin Before e late c
    unfolding state_of
    more-to-end meant status late whole room means = record {
      closing = more-closing late whole room;
      means = means;
      adds_none = is_ending.adds_none;
      accepts = more.accepted_same ∙ sound.fitted.accepts;
      lent = λ k g there. (sound.facts.gates.each k g (ap (λ s. gate_of s.held k) (sym more.gates) ∙ there)).1.lent;
    }

    -- the disk after the last end
    pub record HasEnded (c' : Core) (count : ℕ) : Type 0 where
      pub again : IsDisk device prepared drive' c'
      pub says : EndsBy (state_of device drive c₀) e count (state_of device drive' c')

    pub all-ended : (late : ℕ) (c' : Core) (count : ℕ) → late ≤ count → HaveEnded Begin Before e late c c' count → HasEnded c' count
    unfolding state_of IsLegal
    all-ended late c' count enough ended =
        let closed = closed-all Begin (e ∷ Before) (units_left Begin Before) (late - count) c' ended.closing (units-left Begin Before e is_ending) (let places = ended.closing.room.places in omega arith) in
        let beside = beside-rest device prepared Begin (e ∷ Before) drive' c c' ended.rest beside-more in
        record {
          again = links-disk device prepared drive' c' Begin (e ∷ Before) closed beside;
          says = record {
            counted = ended.counted;
            setup = beside.setup;
            entries = closed.entries;
            legal = subst (λ z. IsLegal z c'.history.entries) (sym beside.setup) (subst (IsLegal Begin) (sym closed.entries) closed.legal);
            kept = ended.kept ∙ ap kept_of more.tokens;
            devices = ap (map device) media;
            gates = subst (λ g. Revokes g c'.gates) more.gates ended.revokes;
          };
        }
