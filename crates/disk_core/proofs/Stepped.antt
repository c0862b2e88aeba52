-- The disk after the command of the first unit, done or failed.
use Rattle.std.proofs.Common.{◌≡◌, ℕ, inl, inr, false, List, ◌∷◌, length, None, Some, refl, sym, ◌∙◌, ap, subst, arith, Result, Ok, Err}
use Rattle.std.specs.Prelude.{nat_eq, vec_capacity}
use Rattle.std.proofs.lemmas.Bool.{cases_eq, and_right}
use Rattle.medium.specs.Device.{Device, IsShaped, IsCommand}
use Rattle.medium.specs.declared.block_failed.BlockFailed.{BlockFailed}
use Rattle.drive.specs.Drives.{DriveState, with_medium, devices_of}
use Rattle.block_gate.specs.Gates.{Gates}
use Rattle.history.specs.declared.entry.Command.{Command}
use Rattle.history.specs.declared.entry.Command.TheVariants.{Fetch, Store, Put, Get, Wipe, Sync}
use Rattle.history.specs.declared.entry.Entry.{Entry}
use Rattle.history.specs.declared.entry.Entry.TheVariants.{Done, Fault}
use Rattle.history.specs.Setup.{Setup}
use Rattle.history.specs.Eras.{media_id_of}
use Rattle.history.specs.Tokens.{Request, token_count}
use Rattle.history.specs.Commands.{is_fetch, is_store}
use Rattle.history.specs.Marks.{mark_of, fetches, HoldsBy}
use Rattle.history.specs.Rules.{MayCommand, MayFollow, StopsAt, IsLegal}
use Rattle.history.specs.Tasks.{Todo}
use Rattle.history.specs.Next.{Made, Failed}
use Rattle.history_laws.specs.Gates.{is_store_at, is_store_of}
use Rattle.history_laws.specs.Left.{task_bytes}
use Rattle.history_laws.proofs.CountLemmas.{accepted-same, fetches-same}
use Rattle.history_laws.proofs.TokenLemmas.{mark-other, done-concerns}
use Rattle.token_table.specs.declared.record.Record.{Record}
use Rattle.token_table.specs.Records.{record_at}
use Rattle.subtask_queue.specs.declared.sub.Sub.{Sub}
use Rattle.disk_core.specs.declared.answers.Step.TheVariants.{Did}
use Rattle.disk_core.specs.declared.parts.Core.{Core}
use Rattle.disk_core.specs.State.{setup_of}
use Rattle.disk_core.specs.Commands.{OnMedium}
use Rattle.disk_core.specs.Facts.{MeetsEra, KeptFollow}
use Rattle.disk_core.specs.Parts.{kept_of, state_of}
use Rattle.disk_core.specs.Inside.{AreFitted, RecordsFollow}
use Rattle.disk_core.specs.Calls.{StepSays, Makes, Fills, IsCommanded, Revokes, command_of, is_fetched}
use Rattle.disk_core.specs.Moves.{IsDisk, IsFirst, Reaches, EntersFault, EntersDone, with_entry}
use Rattle.disk_core.proofs.Commanded.{outcome_of}
use Rattle.disk_core.proofs.Driven.{device-in, setup-driven, media-driven, follows-driven, ready-driven, commanded-driven}
use Rattle.history_laws.proofs.QuietLemmas.{IsMakingEntry}
use Rattle.disk_core.proofs.Failed.{failed-sound, failed-revokes}
use Rattle.history_laws.proofs.HoldingLemmas.{held-open}
use Rattle.history_laws.proofs.LeftLemmas.{FinishesTask}
use Rattle.disk_core.proofs.Links.{StandsBeside, links-disk}
use Rattle.disk_core.proofs.Made.{MayFinish, finishes-closed}
use Rattle.disk_core.proofs.Untouched.{gates-stay, holders-stay}
use Rattle.disk_core.proofs.Upcoming.{next-is, legal-in, whole-in, unit-token, unit-block}
use Rattle.history_laws.proofs.QuietLemmas.{done-entry, fault-entry, unstored}

-- what the medium has to do for an entry
pub record CommandFollows (S : Setup) (H : List Entry) (e : Entry) (result : Result (Unit {0}) BlockFailed) (old new : Device) : Type 0 where
  pub command : IsCommand old result new
  pub era : MeetsEra S H (media_id_of H) old → MeetsEra S (e ∷ H) (media_id_of H) new

revokes-same : (s s' : Gates) → s' ≡ s → Revokes s s'
revokes-same s s' same = subst (Revokes s) (sym same) (record { size = refl; kept = λ k g there. there; works = λ k. refl; count = refl; free = refl })

failed-unfetched : (command : Command) (done : ℕ) → is_fetched command (Failed done) ≡ false
failed-unfetched (Fetch b) done = refl
failed-unfetched (Store b) done = refl
failed-unfetched (Put b n) done = refl
failed-unfetched (Get b n) done = refl
failed-unfetched (Wipe b n) done = refl
failed-unfetched Sync done = refl

made-unfetched : (command : Command) → is_fetch command ≡ false → is_fetched command Made ≡ false
made-unfetched (Fetch b) other = cc
made-unfetched (Store b) other = refl
made-unfetched (Put b n) other = refl
made-unfetched (Get b n) other = refl
made-unfetched (Wipe b n) other = refl
made-unfetched Sync other = refl

module _ {M : Type 0} (device : M → Device) (prepared : M → ℕ → Type 0) (drive : DriveState M) (c : Core) (sound : IsDisk device prepared drive c) where
  abbrev S : Setup
  S = setup_of device drive c.protected_at_first

  abbrev H : List Entry
  H = c.history.entries

  module _ (drive' : DriveState M) (e : Entry) (result : Result (Unit {0}) BlockFailed) (on : OnMedium device prepared drive drive' (CommandFollows S H e result)) where
    meets-before : MeetsEra S H (media_id_of H) (device on.before)
    unfolding state_of
    meets-before = (let i = device-in device prepared S H drive on.before on.after on.was_in sound.drive_follows in subst (λ k. MeetsEra S H k (device on.before)) (omega arith) (sound.facts.media _ (device on.before) i))

    -- what stands beside the ends of tokens follows the entry
    pub beside-command : (c' : Core) → IsMakingEntry e → c'.protected_at_first ≡ c.protected_at_first → AreFitted S c' → StandsBeside device prepared S (e ∷ H) drive' c'
    unfolding state_of
    beside-command c' making at_first fitted = subst (λ d. StandsBeside device prepared S (e ∷ H) d c') (sym on.drive) (record {
      setup = ap (setup_of device (with_medium drive on.after)) at_first ∙ setup-driven device prepared S H drive on.before on.after on.was_in sound.drive_follows c.protected_at_first on.does.command.same;
      media = media-driven device prepared S H drive on.before on.after on.was_in sound.drive_follows sound.facts.media e (on.does.era meets-before);
      drive_follows = follows-driven device prepared S H drive on.before on.after on.was_in sound.drive_follows e making on.does.command.same;
      ready = ready-driven device prepared S H drive on.before on.after on.was_in sound.drive_follows e making on.stay (sound.ready on.before on.was_in);
      fitted = fitted;
    })

    pub commanded-on : (c' : Core) → IsCommanded (state_of device drive c) (outcome_of result) (state_of device drive' c')
    unfolding state_of
    commanded-on c' =
        commanded-driven device prepared S H drive on.before on.after on.was_in sound.drive_follows (state_of device drive c) (state_of device drive' c') result refl refl (ap (devices_of device) on.drive) on.does.command

  -- another group's buffer
  pub group-sound : (mid : Core) → length mid.group.items ≡ length c.group.items → IsDisk device prepared drive (record c { group = mid.group })
  unfolding state_of
  group-sound mid long = record {
    setup = refl;
    geometry = sound.geometry;
    facts = record { legal = sound.facts.legal; media = sound.facts.media; tokens = sound.facts.tokens; gates = sound.facts.gates };
    drive_follows = sound.drive_follows;
    records = sound.records;
    queue = sound.queue;
    holders = sound.holders;
    room = record { owed = sound.room.owed; places = sound.room.places; few = sound.room.few };
    ready = sound.ready;
    fitted = record { blocks = sound.fitted.blocks; accepts = sound.fitted.accepts; fetches_are = sound.fitted.fetches_are; group = long ∙ sound.fitted.group; zeros = sound.fitted.zeros };
  }

  -- a failed command; by now so many fetches are counted
  pub did-failed : (shaped : (m : M) → IsShaped (device m)) (unit : Sub) (todo : Todo) (first : IsFirst device drive c unit todo) (command : Command) (fault : BlockFailed) (drive' : DriveState M) (mid c' : Core) (n : ℕ)
      → command_of (state_of device drive c) todo ≡ command → StopsAt S command fault.done → length mid.group.items ≡ length c.group.items → n ≡ fetches (Fault todo.token command fault.done ∷ H)
      → OnMedium device prepared drive drive' (CommandFollows S H (Fault todo.token command fault.done) (Err fault)) → EntersFault (record c { fetched = n; group = mid.group }) c' todo.token command fault.done
      → Reaches device prepared drive c drive' c' (λ s s'. StepSays s Did s')
  unfolding state_of StepSays with_entry MayFollow
  did-failed shaped unit todo first command fault drive' mid c' n named stops long counted on fails =
      let t = todo.token in
      let e = Fault t command fault.done in
      let next = next-is device prepared drive c sound unit todo first in
      let may : MayCommand S H t command = subst (MayCommand S H t) named next.1.may in
      let f = sound.fitted in
      let beside = beside-command drive' e (Err fault) on (with_entry (record c { fetched = n; group = mid.group }) e 0) (fault-entry t command fault.done) refl
      (record { blocks = f.blocks; accepts = f.accepts ∙ sym (accepted-same H e refl); fetches_are = counted; group = long ∙ f.group; zeros = f.zeros }) in
      let failed = failed-sound device prepared drive drive' (record c { group = mid.group }) c' t command fault.done n (whole-in device prepared drive c sound shaped) (group-sound mid long) (may, stops) beside fails in
      let makes = failed.makes (commanded-on drive' e (Err fault) on c') in
      record {
        sound = failed.sound;
        says = (
          todo,
          Failed fault.done,
          record {
            makes = record { first = first.first; makes = subst (λ v. Makes (state_of device drive c) t v (Failed fault.done) (state_of device drive' c')) (sym named) makes };
            unfetched = ap (λ v. is_fetched v (Failed fault.done)) named ∙ failed-unfetched command fault.done;
            gates = failed-revokes device prepared drive (record c { group = mid.group }) c' t command fault.done n (group-sound mid long) fails;
          },
        );
      }

  -- no holder of a group ends by a done command that stores none
  holders-on : (t : ℕ) (command : Command) → IsLegal S H → IsLegal S (Done t command ∷ H) → is_store command ≡ false → (u b k : ℕ) → HoldsBy S H u b k → (is_store_of u b (Done t command) ≡ false) × (mark_of S (Done t command ∷ H) u ≡ None)
  holders-on t command legal now other u b k holds =
      let un = unstored b command other in (
        and_right (nat_eq t u) (is_store_at b command) un.0,
        elim (cases_eq t u) [
          | inr apart ↦ mark-other S H (Done t command) u (done-concerns H t u command apart) ∙ holds.holds.outstanding.unmarked
          | inl same ↦ subst (λ v. HoldsBy S H v b k → mark_of S (Done t command ∷ H) v ≡ None) same (λ own. held-open S H t command b sound.geometry legal now un.1 own.holds) holds
        ],
      )

  -- a done command that finished its unit, over the same gates; a get has filled its buffer by then
  pub did-done : (shaped : (m : M) → IsShaped (device m)) (unit : Sub) (todo : Todo) (first : IsFirst device drive c unit todo) (command : Command) (r : Request) (drive' : DriveState M) (mid : Core) (c' : Core)
      → command_of (state_of device drive c) todo ≡ command → is_fetch command ≡ false → is_store command ≡ false → length mid.group.items ≡ length c.group.items
      → FinishesTask S H todo.token command r todo.task → RecordsFollow S H mid.tokens → (own : Record) × (record_at mid.tokens todo.token ≡ Some own) → KeptFollow S (Done todo.token command ∷ H) (kept_of mid.tokens)
      → Fills S H todo.token command Made (kept_of c.tokens) (kept_of mid.tokens)
      → OnMedium device prepared drive drive' (CommandFollows S H (Done todo.token command) (Ok _)) → EntersDone (record c { tokens = mid.tokens; group = mid.group }) c' unit command (task_bytes todo.task)
      → Reaches device prepared drive c drive' c' (λ s s'. StepSays s Did s')
  unfolding state_of StepSays IsLegal MayFollow
  did-done shaped unit todo first command r drive' mid c' named unfetched other long finishes records recorded kept fills on done =
      let t = todo.token in
      let e = Done t command in
      let next = next-is device prepared drive c sound unit todo first in
      let may : MayCommand S H t command = subst (MayCommand S H t) named next.1.may in
      let legal = legal-in device prepared drive c sound in
      let now : IsLegal S (e ∷ H) = (legal, may) in
      let told = whole-in device prepared drive c sound shaped in
      let on_go = holders-on t command legal now other in
      let before = record c { tokens = mid.tokens; group = mid.group } in
      let can : MayFinish S t command r todo.task before = record {
        geometry = sound.geometry;
        before = legal;
        may = may;
        finishes = finishes;
        recorded = recorded;
        records = records;
        queue = sound.queue;
        room = record { owed = sound.room.owed; places = sound.room.places; few = sound.room.few };
        tokens = kept;
        gates = gates-stay S H e sound.geometry told legal may refl unfetched c.gates sound.holders.apart on_go sound.facts.gates;
        holders = holders-stay S H e sound.geometry told legal may refl unfetched c.gates c.holders.items (vec_capacity c.holders) on_go sound.holders;
      } in
      let closed = finishes-closed S t command r todo.task before can unit c' (unit-token device prepared drive c sound unit todo first) (unit-block device prepared drive c sound unit todo first) done in
      let f = sound.fitted in
      let fitted : AreFitted S c' = record {
        blocks = closed.rest.blocks ∙ f.blocks;
        accepts = closed.rest.accepted ∙ f.accepts ∙ sym (ap token_count closed.closed.entries ∙ accepted-same H e refl);
        fetches_are = closed.rest.fetched ∙ f.fetches_are ∙ sym (ap fetches closed.closed.entries ∙ fetches-same H e unfetched);
        group = ap (λ v. length v.items) closed.rest.group ∙ long ∙ f.group;
        zeros = ap (λ v. v.items) closed.rest.zeros ∙ f.zeros;
      } in
      let beside = beside-command drive' e (Ok _) on c' (done-entry t command) closed.rest.protected_at_first fitted in
      let sound' = links-disk device prepared drive' c' S (e ∷ H) closed.closed beside in
      record {
        sound = sound';
        says = (
          todo,
          Made,
          record {
            makes = record {
              first = first.first;
              makes = subst (λ v. Makes (state_of device drive c) t v Made (state_of device drive' c')) (sym named) (record {
                setup = beside.setup;
                entries = closed.closed.entries;
                legal = sound'.facts.legal;
                fills = subst (Fills S H t command Made (kept_of c.tokens)) (sym closed.tokens) fills;
                device = commanded-on drive' e (Ok _) on c';
              });
            };
            unfetched = ap (λ v. is_fetched v Made) named ∙ made-unfetched command unfetched;
            gates = revokes-same c.gates c'.gates closed.gates;
          },
        );
      }
