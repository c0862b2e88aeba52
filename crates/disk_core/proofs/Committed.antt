-- The disk after a store, done or failed, whose gate was released.
use Rattle.std.proofs.Common.{◌≡◌, ℕ, ◌-◌, ◌<◌, List, ◌∷◌, length, None, Some, refl, sym, ◌∙◌, ap, subst, arith, Result, Ok, Err}
use Rattle.std.specs.Prelude.{vec_capacity}
use Rattle.efi_status.specs.declared.Status.TheVariants.{DeviceError}
use Rattle.medium.specs.Device.{Device, IsShaped, IsWrite}
use Rattle.medium.specs.declared.block_failed.BlockFailed.{BlockFailed}
use Rattle.drive.specs.Drives.{DriveState}
use Rattle.block_gate.specs.Gates.{Gate, Gates, without_hold}
use Rattle.history.specs.declared.entry.Command.TheVariants.{Store}
use Rattle.history.specs.declared.entry.Entry.{Entry}
use Rattle.history.specs.declared.entry.Entry.TheVariants.{Done, Fault}
use Rattle.history.specs.Setup.{Setup, per_of}
use Rattle.history.specs.Tokens.{Request, token_count}
use Rattle.history.specs.Marks.{mark_of, fetches}
use Rattle.history.specs.Rules.{MayFollow}
use Rattle.history.specs.Tasks.{Moves, units_left}
use Rattle.history.specs.Next.{Made, Failed}
use Rattle.history.specs.Room.{owed_entries}
use Rattle.disk_core.specs.Inside.{HoldersFollow}
use Rattle.history_laws.specs.Left.{task_bytes}
use Rattle.history_laws.proofs.CountLemmas.{accepted-same, fetches-same}
use Rattle.history_laws.proofs.EndLemmas.{mark-fault}
use Rattle.history_laws.proofs.SpareLemmas.{media-same}
use Rattle.history_laws.proofs.TokenLemmas.{mark-other, fault-concerns}
use Rattle.subtask_queue.specs.declared.sub.Sub.{Sub}
use Rattle.subtask_queue.specs.Subs.{token_of, block_of}
use Rattle.disk_core.specs.declared.parts.Core.{Core}
use Rattle.disk_core.specs.declared.storing.Part.{Part}
use Rattle.disk_core.specs.State.{setup_of}
use Rattle.disk_core.specs.Closing.{GatesSoFar, RoomSoFar}
use Rattle.disk_core.specs.Commands.{OnMedium}
use Rattle.disk_core.specs.Parts.{kept_of, state_of}
use Rattle.disk_core.specs.Inside.{AreFitted}
use Rattle.disk_core.specs.Calls.{Stores, IsHeldBy, Revokes}
use Rattle.disk_core.specs.Moves.{Reaches, Ends, EntersFault, EntersDone, with_entry, without_ticket_of}
use Rattle.disk_core.specs.Storage.{IsStoring}
use Rattle.disk_core.proofs.Begun.{begun, gates-begun}
use Rattle.history_laws.proofs.OwedSoFarLemmas.{owed-before}
use Rattle.history_laws.proofs.EndingLemmas.{units-left}
use Rattle.disk_core.proofs.Closed.{kept-ended, closing-step, closed-all}
use Rattle.disk_core.proofs.Commanded.{command_entry}
use Rattle.disk_core.proofs.Failed.{open-place, beside-ends}
use Rattle.history_laws.proofs.QuietLemmas.{ending-fault}
use Rattle.disk_core.proofs.Finished.{kept-done}
use Rattle.history_laws.proofs.HoldingLemmas.{part_of_range}
use Rattle.disk_core.proofs.Letting.{gates-stored, holders-stored, gates-let}
use Rattle.disk_core.proofs.Links.{AreClosed, StandsBeside, links-disk, disk-closed}
use Rattle.disk_core.proofs.Made.{MayFinish, finishes-closed}
use Rattle.disk_core.proofs.Released.{IsReleased, same-but, is-released}
use Rattle.disk_core.proofs.Staying.{revokes, holders-lent}
use Rattle.disk_core.proofs.Stepped.{CommandFollows, beside-command, commanded-on}
use Rattle.history_laws.proofs.QuietLemmas.{done-entry, fault-entry}
use Rattle.disk_core.proofs.Wrote.{lawful, opened, outstanding, may, told-whole-in, store-follows, stops-before, size-is, finishes, bytes-are}

module _ {M : Type 0} (device : M → Device) (prepared : M → ℕ → Type 0) (drive : DriveState M) (shaped : (m : M) → IsShaped (device m)) (c : Core) (before : Gates) (part : Part) (g : Gate) (q : Request) (is : IsStoring device prepared drive c before part g q)
    (drive' : DriveState M) (mid : Core) (gates_is : mid.gates ≡ without_hold c.gates part.ticket) (left_is : mid.holders.items ≡ without_ticket_of part.ticket c.holders.items) (rest : mid ≡ record c { gates = mid.gates; holders = mid.holders })
    (places : vec_capacity mid.holders ≡ vec_capacity c.holders) where
  abbrev S : Setup
  S = setup_of device drive c.protected_at_first

  abbrev H : List Entry
  H = c.history.entries

  abbrev base : Core
  base = record c { gates = before }

  -- the parts once the gate was released
  abbrev let_go : Core
  let_go = record c { gates = mid.gates; holders = mid.holders }

  released : IsReleased part.ticket before c.holders.items mid.gates mid.holders.items
  released =
      let same = same-but part.ticket before c.gates g is.sound.holders.apart is.held.gate is.lent in
      subst (λ s. IsReleased part.ticket before c.holders.items s mid.holders.items) (sym gates_is)
      (subst (IsReleased part.ticket before c.holders.items (without_hold c.gates part.ticket)) (sym left_is) (is-released part.ticket before c.gates c.holders.items same is.apart is.sound.holders.paired is.sound.holders.rising))

  follows-on : (result : Result (Unit {0}) BlockFailed) → OnMedium device prepared drive drive' (λ d d'. IsWrite d part.block c.group.items result d') → OnMedium device prepared drive drive' (CommandFollows S H (command_entry part.token (Store g.block) result) result)
  follows-on result on = record {
    before = on.before;
    after = on.after;
    was_in = on.was_in;
    drive = on.drive;
    does = store-follows device prepared drive shaped c before part g q is (device on.before) (device on.after) result (size-is device prepared drive shaped c before part g q is on.before on.was_in) on.does;
    stay = on.stay;
  }

  held-by : IsHeldBy (state_of device drive base) part.ticket g part.token q
  unfolding state_of
  held-by = record { gate = is.held.gate; holds = is.held.holds; named = is.held.named }

  can : MayFinish S part.token (Store g.block) q (Moves (part_of_range S q g.block)) let_go
  unfolding state_of
  can =
      let follows = may device prepared drive shaped c before part g q is in
      let told = told-whole-in device prepared drive shaped c before part g q is in
      let legal = lawful device prepared drive shaped c before part g q is in
      record {
        geometry = is.sound.geometry;
        before = legal;
        may = follows;
        finishes = finishes device prepared drive shaped c before part g q is;
        recorded = (let r = opened device prepared drive shaped c before part g q is in (r.0, r.1.there));
        records = is.sound.records;
        queue = is.sound.queue;
        room = record { owed = is.sound.room.owed; places = is.sound.room.places; few = is.sound.room.few };
        tokens = kept-done S H part.token (Store g.block) (kept_of c.tokens) refl is.sound.facts.tokens;
        gates = gates-stored S H part.token g.block part.ticket is.sound.geometry told legal follows is.held.holds before c.holders.items mid.gates mid.holders.items released is.sound.holders.apart is.sound.facts.gates;
        holders = subst (HoldersFollow S (Done part.token (Store g.block) ∷ H) mid.gates mid.holders.items) (sym places)
            (holders-stored S H part.token g.block part.ticket is.sound.geometry told legal follows is.held.holds before c.holders.items mid.gates mid.holders.items released is.sound.holders.apart (vec_capacity c.holders) is.sound.holders);
      }

  -- a done store
  pub part-done : (unit : Sub) (c' : Core) → OnMedium device prepared drive drive' (λ d d'. IsWrite d part.block c.group.items (Ok _) d') → token_of unit ≡ part.token → block_of unit ≡ part.block
      → EntersDone mid c' unit (Store part.block) (part.range.high - part.range.low) → Reaches device prepared drive base drive' c' (λ s s'. Stores s c.gates part.ticket g part.token q Made s')
  unfolding state_of
  part-done unit c' on token block done =
      let e = Done part.token (Store g.block) in
      let bytes = bytes-are device prepared drive shaped c before part g q is in
      let at : EntersDone let_go c' unit (Store g.block) (task_bytes (Moves (part_of_range S q g.block))) =
      subst (λ n. EntersDone let_go c' unit (Store g.block) n) bytes (subst (λ b. EntersDone let_go c' unit (Store b) (part.range.high - part.range.low)) is.held.block (subst (λ d. EntersDone d c' unit (Store part.block) (part.range.high - part.range.low)) rest done)) in
      let closed = finishes-closed S part.token (Store g.block) q (Moves (part_of_range S q g.block)) let_go can unit c' token (block ∙ is.held.block) at in
      let f = is.sound.fitted in
      let fitted : AreFitted S c' = record {
        blocks = closed.rest.blocks ∙ f.blocks;
        accepts = closed.rest.accepted ∙ f.accepts ∙ sym (ap token_count closed.closed.entries ∙ accepted-same H e refl);
        fetches_are = closed.rest.fetched ∙ f.fetches_are ∙ sym (ap fetches closed.closed.entries ∙ fetches-same H e refl);
        group = ap (λ v. length v.items) closed.rest.group ∙ f.group;
        zeros = ap (λ v. v.items) closed.rest.zeros ∙ f.zeros;
      } in
      let beside = beside-command device prepared drive base is.sound drive' e (Ok _) (follows-on (Ok _) on) c' (done-entry part.token (Store g.block)) closed.rest.protected_at_first fitted in
      let sound' = links-disk device prepared drive' c' S (e ∷ H) closed.closed beside in
      record {
        sound = sound';
        says = record {
          held = held-by;
          makes = record {
            setup = beside.setup;
            entries = closed.closed.entries;
            legal = sound'.facts.legal;
            fills = closed.tokens;
            device = commanded-on device prepared drive base is.sound drive' e (Ok _) (follows-on (Ok _) on) c';
          };
          gates = closed.gates ∙ gates_is;
        };
      }

  module _ (fault : BlockFailed) (c' : Core) (on : OnMedium device prepared drive drive' (λ d d'. IsWrite d part.block c.group.items (Err fault) d')) (fails : EntersFault mid c' part.token (Store part.block) fault.done) where
    abbrev e : Entry
    e = Fault part.token (Store g.block) fault.done

    abbrev begins : Core
    begins = with_entry let_go e 0

    ends : Ends begins c' part.token DeviceError
    ends = subst (λ b. Ends (with_entry let_go (Fault part.token (Store b) fault.done) 0) c' part.token DeviceError) is.held.block (subst (λ d. EntersFault d c' part.token (Store part.block) fault.done) rest fails)

    stops : fault.done < per_of S
    stops = stops-before device prepared drive shaped c before part g q is fault.done (device on.before) (size-is device prepared drive shaped c before part g q is on.before on.was_in) on.does.done

    follows : MayFollow S H e
    unfolding MayFollow
    follows = (may device prepared drive shaped c before part g q is, stops)

    unmarked : mark_of S H part.token ≡ None
    unmarked = (outstanding device prepared drive shaped c before part g q is).unmarked

    marked : mark_of S (e ∷ H) part.token ≡ Some DeviceError
    marked = mark-fault S H part.token (Store g.block) fault.done unmarked

    before-closed : AreClosed S H base
    before-closed = disk-closed device prepared drive base is.sound

    gates-now : GatesSoFar S (e ∷ H) (mark_of S H) mid.gates mid.holders.items (vec_capacity mid.holders)
    unfolding state_of
    gates-now =
        let told = told-whole-in device prepared drive shaped c before part g q is in
        let legal = lawful device prepared drive shaped c before part g q is in
        subst (GatesSoFar S (e ∷ H) (mark_of S H) mid.gates mid.holders.items) (sym places)
        (gates-let S H part.token g.block part.ticket (Store g.block) fault.done is.sound.geometry legal follows is.held.holds before c.holders.items mid.gates mid.holders.items (vec_capacity c.holders) released
        (gates-begun S H e (ending-fault S H part.token (Store g.block) fault.done follows) before c.holders.items (vec_capacity c.holders) is.sound.geometry told legal is.sound.facts.gates is.sound.holders))

    room-now : RoomSoFar S (e ∷ H) (mark_of S H) 1 begins
    unfolding with_entry owed_entries
    room-now =
        let owed = owed-before S H e (ending-fault S H part.token (Store g.block) fault.done follows) in
        let media = media-same S H e refl refl in
        let place = open-place S H base part.token before-closed (outstanding device prepared drive shaped c before part g q is) in
        let room = is.sound.room.owed in
        let few = is.sound.room.few in
        let spare = is.sound.room.places in
        record { owes = omega arith; places = omega arith; few = omega arith }

    after-closed : AreClosed S (e ∷ H) c'
    unfolding with_entry
    after-closed =
        let ending = ending-fault S H part.token (Store g.block) fault.done follows in
        let closing = begun S H e ending base begins 1 before-closed refl refl refl gates-now room-now in
        let next = closing-step S (e ∷ H) (mark_of S H) (units_left S H) 1 begins part.token DeviceError closing unmarked marked c' (mark_of S (e ∷ H)) ends marked
        (λ u other. mark-other S H e u (fault-concerns H part.token u (Store g.block) fault.done (λ same. other (sym same)))) in
        closed-all S (e ∷ H) (units_left S H) 0 c' next (units-left S H e ending) (let spare = next.room.places in omega arith)

    after-beside : StandsBeside device prepared S (e ∷ H) drive' c'
    unfolding with_entry
    after-beside =
        let f = is.sound.fitted in
        beside-ends device prepared S (e ∷ H) drive' begins c' part.token DeviceError ends
        (beside-command device prepared drive base is.sound drive' e (Err fault) (follows-on (Err fault) on) begins (fault-entry part.token (Store g.block) fault.done) refl
        (record { blocks = f.blocks; accepts = f.accepts ∙ sym (accepted-same H e refl); fetches_are = f.fetches_are ∙ sym (fetches-same H e refl); group = f.group; zeros = f.zeros }))

    -- the other gates of the token are revoked
    revoked-now : Revokes (without_hold c.gates part.ticket) c'.gates
    unfolding with_entry state_of
    revoked-now =
        subst (λ s. Revokes s c'.gates) gates_is (subst (Revokes mid.gates) (sym ends.gates) (revokes part.token mid.holders.items mid.gates
        (holders-lent mid.holders.items mid.gates.held released.paired released.rising (λ k h there. (is.sound.facts.gates.each k h (released.gate k h there).0).1.lent))))

    kept-now : kept_of c'.tokens ≡ kept_of c.tokens
    unfolding with_entry
    kept-now = ap kept_of ends.tokens ∙ kept-ended DeviceError c.tokens part.token

    -- a store that failed
    pub part-failed : Reaches device prepared drive base drive' c' (λ s s'. Stores s c.gates part.ticket g part.token q (Failed fault.done) s')
    unfolding state_of
    part-failed =
        let sound' = links-disk device prepared drive' c' S (e ∷ H) after-closed after-beside in
        record {
          sound = sound';
          says = record {
            held = held-by;
            makes = record {
              setup = after-beside.setup;
              entries = after-closed.entries;
              legal = sound'.facts.legal;
              fills = kept-now;
              device = commanded-on device prepared drive base is.sound drive' e (Err fault) (follows-on (Err fault) on) c';
            };
            gates = revoked-now;
          };
        }
