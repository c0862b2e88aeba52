-- The group's buffer is nobody's but the disk's: what is in it changes nothing that callers see.
use Rattle.std.proofs.Common.{◌≡◌, ◌≢◌, ℕ, inl, inr, true, false, ◌||◌, length, take, slice_get, None, Some, eqb, refl, sym, ◌∙◌, ap, subst}
use Rattle.std.proofs.lemmas.Bool.{and_from, and_right, eq-eqb, ne_eqb, or_right}
use Rattle.medium.specs.Device.{Device, IsShaped}
use Rattle.drive.specs.Drives.{DriveState}
use Rattle.index_links.specs.Lists.{is_among}
use Rattle.block_gate.specs.Works.{Lent}
use Rattle.block_gate.specs.Back.{IsGivenBack}
use Rattle.block_gate.specs.declared.back.Back.TheVariants.{Foreign}
use Rattle.block_gate.specs.Gates.{Gate, Gates, gate_of, is_lent, is_out, is_ours, with_work_back, AreSound}
use Rattle.history.specs.Setup.{Setup}
use Rattle.history.specs.Tokens.{Request}
use Rattle.history.specs.Next.{Outcome}
use Rattle.history.specs.Marks.{HoldsBy}
use Rattle.disk_core.specs.declared.parts.Core.{Core}
use Rattle.disk_core.specs.declared.storing.Part.{Part}
use Rattle.disk_core.specs.declared.answers.Stored.TheVariants as stored
use Rattle.disk_core.specs.declared.answers.HeldStored.TheVariants as held_stored
use Rattle.disk_core.specs.State.{setup_of}
use Rattle.disk_core.specs.Parts.{state_of}
use Rattle.disk_core.specs.Calls.{Stores, StoreSays, HeldStoreSays, expected_copy}
use Rattle.disk_core.specs.Moves.{IsDisk, Reaches}
use Rattle.disk_core.specs.Storage.{IsHeldPart, IsStoring}
use Rattle.disk_core.proofs.Composed.{expected-long}

module _ {M : Type 0} (device : M → Device) (prepared : M → ℕ → Type 0) (drive : DriveState M) (c : Core) (sound : IsDisk device prepared drive c) (shaped : (m : M) → IsShaped (device m)) where
  abbrev S : Setup
  S = setup_of device drive c.protected_at_first

  -- no gate of the ticket: nothing is stored
  pub copy-stale : (k : ℕ) → gate_of c.gates.held k ≡ None → Reaches device prepared drive c drive c (λ s s'. HeldStoreSays s k held_stored.Stale s')
  unfolding state_of HeldStoreSays
  copy-stale k none = record { sound = sound; says = (none, refl) }

  -- a work of another length is not of this disk
  pub other-length : (w : Lent) → length w.bytes ≢ length c.group.items → Reaches device prepared drive c drive c (λ s s'. StoreSays s w (stored.Foreign w) s')
  unfolding state_of StoreSays is_ours
  other-length w other = record {
    sound = sound;
    says = (and_right (is_out c.gates w.ticket) (eqb (length w.bytes) c.gates.size) (ne_eqb (length w.bytes) c.gates.size (λ same. other (same ∙ sound.facts.gates.sized ∙ sym sound.fitted.group))), refl, refl);
  }

  module _ (part : Part) (g : Gate) (q : Request) (held : IsHeldPart S c part g q) (mid : Core) (is : mid ≡ record c { group = mid.group }) (group : mid.group.items ≡ expected_copy S q g) where
    pub long : length mid.group.items ≡ length c.group.items
    long = ap length group ∙ expected-long device prepared drive c sound shaped part g q held ∙ sym sound.fitted.group

    buffered : IsDisk device prepared drive (record c { group = mid.group })
    unfolding state_of
    buffered = record {
      setup = refl;
      geometry = sound.geometry;
      facts = record { legal = sound.facts.legal; media = sound.facts.media; tokens = sound.facts.tokens; gates = sound.facts.gates };
      drive_follows = sound.drive_follows;
      records = sound.records;
      queue = sound.queue;
      holders = sound.holders;
      room = record { owed = sound.room.owed; places = sound.room.places; few = sound.room.few };
      ready = sound.ready;
      fitted = record { blocks = sound.fitted.blocks; accepts = sound.fitted.accepts; fetches_are = sound.fitted.fetches_are; group = long ∙ sound.fitted.group; zeros = sound.fitted.zeros };
    }

    storing-here : IsStoring device prepared drive (record c { group = mid.group }) c.gates part g q
    storing-here = record {
      sound = buffered;
      held = record { gate = held.gate; holds = held.holds; named = held.named; block = held.block; low = held.low; high = held.high };
      lent = inl refl;
      apart = sound.holders.apart;
      group = group;
    }

    -- the part may be stored
    pub storing-is : IsStoring device prepared drive mid mid.gates part g q
    storing-is = subst (λ d. IsStoring device prepared drive d d.gates part g q) (sym is) storing-here

    state-same : state_of device drive mid ≡ state_of device drive c
    unfolding state_of
    state-same = ap (state_of device drive) is

    pub gates-same : mid.gates ≡ c.gates
    gates-same = ap (λ d. d.gates) is

    -- the store from the kept copy
    pub copy-stores : (drive' : DriveState M) (new : Core) (outcome : Outcome) → Reaches device prepared drive mid drive' new (λ s s'. Stores s mid.gates part.ticket g part.token q outcome s')
        → Reaches device prepared drive c drive' new (λ s s'. HeldStoreSays s part.ticket held_stored.Did s')
    unfolding state_of HeldStoreSays
    copy-stores drive' new outcome reaches = record {
      sound = reaches.sound;
      says = (
        g,
        part.token,
        q,
        outcome,
        subst (λ s. Stores (state_of device drive c) s part.ticket g part.token q outcome (state_of device drive' new)) gates-same
            (subst (λ s. Stores s mid.gates part.ticket g part.token q outcome (state_of device drive' new)) state-same reaches.says),
      );
    }

    -- a work of the ticket with the length of a group is of this disk
    pub ours : (w : Lent) → part.ticket ≡ w.ticket → length w.bytes ≡ length mid.group.items → is_ours c.gates w ≡ true
    unfolding state_of is_ours is_out is_lent
    ours w ticket same =
        let gate : gate_of c.gates.held w.ticket ≡ Some g = subst (λ k. gate_of c.gates.held k ≡ Some g) ticket held.gate in
        and_from (is_among c.gates.gone w.ticket || is_lent (gate_of c.gates.held w.ticket)) (eqb (length w.bytes) c.gates.size)
        (or_right (is_among c.gates.gone w.ticket) (is_lent (gate_of c.gates.held w.ticket)) (ap is_lent gate ∙ (sound.facts.gates.each w.ticket g gate).1.lent))
        (eq-eqb (length w.bytes) c.gates.size (same ∙ long ∙ sound.fitted.group ∙ sym sound.facts.gates.sized))

    -- a work that is not what it has to be
    pub work-strange : (w : Lent) (place expected found : ℕ) → part.ticket ≡ w.ticket → length w.bytes ≡ length mid.group.items → take place w.bytes ≡ take place mid.group.items
        → slice_get mid.group.items place ≡ Some expected → slice_get w.bytes place ≡ Some found → found ≢ expected → Reaches device prepared drive c drive mid (λ s s'. StoreSays s w (stored.Strange w place expected found) s')
    unfolding state_of StoreSays
    work-strange w place expected found ticket same front wanted has differs = record {
      sound = subst (IsDisk device prepared drive) (sym is) buffered;
      says = (
        ours w ticket same,
        refl,
        state-same,
        (
          g,
          part.token,
          q,
          record {
            held = record { gate = subst (λ k. gate_of c.gates.held k ≡ Some g) ticket held.gate; holds = subst (HoldsBy S c.history.entries part.token g.block) ticket held.holds; named = held.named };
            before = front ∙ ap (take place) group;
            wanted = subst (λ bytes. slice_get bytes place ≡ Some expected) group wanted;
            has = has;
            differs = λ e. differs (sym e);
          },
        ),
      );
    }

    -- what a store of the work in the buffer says of the disk before
    pub work-from : (w : Lent) (result : stored.the_data) (drive' : DriveState M) (new : Core) → Reaches device prepared drive mid drive' new (λ s s'. StoreSays s w result s') → Reaches device prepared drive c drive' new (λ s s'. StoreSays s w result s')
    work-from w result drive' new reaches = record { sound = reaches.sound; says = subst (λ s. StoreSays s w result (state_of device drive' new)) state-same reaches.says }

-- a work that came back is written
module _ {M : Type 0} (device : M → Device) (prepared : M → ℕ → Type 0) (drive : DriveState M) (c : Core) (part : Part) (g : Gate) (q : Request) (is : IsStoring device prepared drive c c.gates part g q) (w : Lent) (ticket : part.ticket ≡ w.ticket) (ours_is : is_ours c.gates w ≡ true) (same : w.bytes ≡ c.group.items) where
  pub storing-taken : (s : Gates) → s ≡ with_work_back c.gates w.ticket → AreSound s → IsStoring device prepared drive (record c { gates = s }) c.gates part g q
  storing-taken s taken apart = record {
    sound = is.sound;
    held = is.held;
    lent = inr (taken ∙ ap (with_work_back c.gates) (sym ticket));
    apart = apart;
    group = is.group;
  }

  pub work-stores : (s : Gates) (drive' : DriveState M) (new : Core) (outcome : Outcome) → s ≡ with_work_back c.gates w.ticket → Reaches device prepared drive c drive' new (λ a b. Stores a s part.ticket g part.token q outcome b)
      → Reaches device prepared drive c drive' new (λ a b. StoreSays a w stored.Did b)
  unfolding state_of StoreSays
  work-stores s drive' new outcome taken reaches = record {
    sound = reaches.sound;
    says = (
      ours_is,
      (
        g,
        part.token,
        q,
        outcome,
        record {
          same = same ∙ is.group;
          stores = subst (λ k. Stores (state_of device drive c) (with_work_back c.gates w.ticket) k g part.token q outcome (state_of device drive' new)) ticket
              (subst (λ x. Stores (state_of device drive c) x part.ticket g part.token q outcome (state_of device drive' new)) taken reaches.says);
        },
      ),
    );
  }

  pub never-foreign : (back : Lent) (s : Gates) → IsGivenBack c.gates w (Foreign back) s → ⊥
  unfolding IsGivenBack
  never-foreign back s given = clash (sym ours_is ∙ given.0)
    where
      clash : true ≡ false → ⊥
      clash e = cc
