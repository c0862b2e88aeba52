-- A token is served, command after command.
use Rattle.std.proofs.Common.{◌≡◌, ◌⊎◌, inl, inr, ℕ, ◌+◌, ◌<◌, ◌≤◌, true, false, List, [], ◌∷◌, ◌++◌, refl, sym, ◌∙◌, ap, subst, append_assoc, arith}
use Rattle.history.specs.declared.entry.Command.{Command}
use Rattle.history.specs.declared.entry.Command.TheVariants.{Fetch, Store, Put, Get, Wipe, Sync}
use Rattle.history.specs.declared.entry.Entry.{Entry}
use Rattle.history.specs.Setup.{IsSetup}
use Rattle.history.specs.Commands.{is_fetch}
use Rattle.history.specs.Eras.{inserts}
use Rattle.history.specs.Tokens.{token_count, was_collected}
use Rattle.history.specs.Marks.{IsOutstanding}
use Rattle.history.specs.Next.{Turn, Outcome, Made, entry_of}
use Rattle.history.specs.Room.{owed_entries}
use Rattle.history_laws.proofs.NextLemmas.{first-open-fails}
use Rattle.block_gate.specs.Works.{Lent}
use Rattle.disk_core.specs.declared.answers.Step.TheVariants as step
use Rattle.disk_core.specs.declared.answers.Stored.TheVariants as stored
use Rattle.disk_core.specs.State.{State}
use Rattle.disk_core.specs.Facts.{AreFacts}
use Rattle.disk_core.specs.Calls.{is_fetched, StepSays, StoreSays}
use Rattle.disk_core.specs.GoingOn.{GoesOn}
use Rattle.disk_core.specs.Turns.{IsIdle, KeepsGates, TakesTurn, StepTurns, merge_of, StoresAtOnce}
use Rattle.disk_core.proofs.TurnLemmas.{steps-turn, taken-legal, taken-lowers}
use Rattle.disk_core.proofs.AtOnceLemmas.{answered}
use Rattle.disk_core.proofs.IdleLemmas.{idle-stays}
use Rattle.disk_core.proofs.GoingOn.{step_goes_on, store_goes_on, goes_on_twice}
use Rattle.history_laws.specs.Serving.{AreWhileOpen, ends_in_fault}
use Rattle.history_laws.proofs.ServingLemmas.{while-on, while-inserts, while-accepted, while-collected, fetch-open}
use Rattle.disk_io2.specs.Blocking.{OnFaults, FaultsRose, Serves}
use Rattle.disk_io2.proofs.Faults.{faults-command, faults-failed, faults-from, faults-to, faults-on, later-later, rose-later, later-rose}

goes-on-same : (s : State) → GoesOn s s
goes-on-same s = record {
  setup = refl;
  more = [];
  entries = refl;
  kept = λ t q was token named uncollected there. record { now = was; there = there; word = refl; rest = record { long = refl; same = λ x from until none. refl } };
}

-- no command
pub serves-none : (s : State) (t : ℕ) → Serves s t s
unfolding AreWhileOpen
serves-none s t = record {
  commands = [];
  entries = refl;
  while_open = tt;
  goes_on = goes-on-same s;
  media = inl refl;
  cause = λ failed. cc;
}

-- one command
serves-one : (old new : State) (t : ℕ) (turn : Turn) (outcome : Outcome) → IsOutstanding old.setup old.entries t → TakesTurn old turn outcome new → GoesOn old new → Serves old t new
unfolding AreWhileOpen
serves-one old new t turn outcome open_ takes on = record {
  commands = entry_of turn outcome ∷ [];
  entries = takes.makes.entries;
  while_open = (record { outstanding = open_; turn = turn; outcome = outcome; next = takes.next; entry = refl }, tt);
  goes_on = on;
  media = inr (faults-command old new outcome ◌≤◌ takes.makes.device takes.makes.device.later);
  cause = faults-failed old new turn outcome takes.makes.device;
}

-- commands after commands
pub serves-on : (a b c : State) (t : ℕ) → Serves a t b → Serves b t c → Serves a t c
serves-on a b c t one two = record {
  commands = two.commands ++ one.commands;
  entries = two.entries ∙ (ap (λ H. two.commands ++ H) one.entries ∙ sym (append_assoc two.commands one.commands a.entries));
  while_open = while-on a.setup a.entries t one.commands two.commands one.while_open
      (subst (λ H. AreWhileOpen a.setup H t two.commands) one.entries (subst (λ S. AreWhileOpen S b.entries t two.commands) one.goes_on.setup two.while_open));
  goes_on = goes_on_twice a b c one.goes_on two.goes_on;
  media = media one.media two.media;
  cause = cause two.commands two.cause;
}
  where
    era : inserts b.entries ≡ inserts a.entries
    era = ap inserts one.entries ∙ while-inserts a.setup t a.entries one.commands one.while_open

    media : (b.devices ≡ a.devices) ⊎ OnFaults a b ◌≤◌ → (c.devices ≡ b.devices) ⊎ OnFaults b c ◌≤◌ → (c.devices ≡ a.devices) ⊎ OnFaults a c ◌≤◌
    media (inl same) (inl same') = inl (same' ∙ same)
    media (inl same) (inr on) = inr (faults-from a b c ◌≤◌ era same on)
    media (inr on) (inl same') = inr (faults-to a b c ◌≤◌ same' on)
    media (inr on) (inr on') = inr (faults-on a b c ◌≤◌ ◌≤◌ ◌≤◌ later-later era on on')

    rose-then : FaultsRose a b → (c.devices ≡ b.devices) ⊎ OnFaults b c ◌≤◌ → FaultsRose a c
    rose-then rose (inl same) = faults-to a b c _ same rose
    rose-then rose (inr on) = faults-on a b c _ ◌≤◌ _ rose-later era rose on

    then-rose : (b.devices ≡ a.devices) ⊎ OnFaults a b ◌≤◌ → FaultsRose b c → FaultsRose a c
    then-rose (inl same) rose = faults-from a b c _ era same rose
    then-rose (inr on) rose = faults-on a b c ◌≤◌ _ _ later-rose era on rose

    cause : (cs : List Entry) → (ends_in_fault cs ≡ true → FaultsRose b c) → ends_in_fault (cs ++ one.commands) ≡ true → FaultsRose a c
    cause [] rose failed = rose-then (one.cause failed) two.media
    cause (e ∷ cs) rose failed = then-rose one.media (rose failed)

fetch-made : (c : Command) → is_fetched c Made ≡ true → is_fetch c ≡ true
fetch-made (Fetch b) fetched = refl
fetch-made (Store b) fetched = cc
fetch-made (Put b n) fetched = cc
fetch-made (Get b n) fetched = cc
fetch-made (Wipe b n) fetched = cc
fetch-made Sync fetched = cc

-- one step, and the store at once of what it fetched
pub record ServesOneStep (old : State) (t : ℕ) (new : State) : Type 0 where
  pub gates : KeepsGates old new
  pub serves : Serves old t new
  pub lowers : owed_entries old.setup new.entries + 1 ≤ owed_entries old.setup old.entries

-- the disk before a step
module _ (old : State) (t : ℕ) (is : IsSetup old.setup) (facts : AreFacts old) (idle : IsIdle old.gates) (open_ : IsOutstanding old.setup old.entries t) where
  -- a command that was no done fetch
  pub did : (new : State) → StepSays old step.Did new → ServesOneStep old t new
  did new says = by (steps-turn old new step.Did is facts idle.held idle.free says)
    where
      by : StepTurns old step.Did new → ServesOneStep old t new
      by (turn, outcome, takes, unfetched, revokes) = record {
        gates = record { setup = takes.makes.setup; gates = idle-stays old.gates new.gates idle revokes };
        serves = serves-one old new t turn outcome open_ takes (step_goes_on old new step.Did says);
        lowers = taken-lowers old new turn outcome is takes;
      }

  -- a done fetch, and its store
  pub stored-at-once : (mid new : State) (w w' : Lent) → StepSays old (step.Lent w) mid → w' ≡ merge_of w → StoreSays mid w' stored.Did new → ServesOneStep old t new
  stored-at-once mid new w w' says merges stores = by (steps-turn old mid (step.Lent w) is facts idle.held idle.free says) (answered old is facts idle mid new w w' stored.Did says merges stores)
    where
      by : StepTurns old (step.Lent w) mid → StoresAtOnce old mid stored.Did new → ServesOneStep old t new
      by (turn, takes, fetched) (turn', outcome, then) =
          let same : mid.setup ≡ old.setup = takes.makes.setup in
          let open_mid : IsOutstanding mid.setup mid.entries t =
          subst (λ S. IsOutstanding S mid.entries t) (sym same) (subst (λ H. IsOutstanding old.setup H t) (sym takes.makes.entries)
          (fetch-open old.setup old.entries turn.token t turn.command is (taken-legal old mid turn Made takes) (fetch-made turn.command fetched) open_)) in
          let lowers : owed_entries old.setup new.entries + 1 ≤ owed_entries old.setup mid.entries =
          subst (λ S. owed_entries S new.entries + 1 ≤ owed_entries S mid.entries) same (taken-lowers mid new turn' outcome (subst IsSetup (sym same) is) then.takes) in
          record {
            gates = record { setup = then.takes.makes.setup ∙ same; gates = then.gates };
            serves = serves-on old mid new t
                (serves-one old mid t turn Made open_ takes (step_goes_on old mid (step.Lent w) says))
                (serves-one mid new t turn' outcome open_mid then.takes (store_goes_on mid new w' stored.Did stores));
            lowers = omega (arith, taken-lowers old mid turn Made is takes, lowers);
          }

  -- no other step comes
  pub never-drained : (new : State) → StepSays old step.Drained new → ⊥
  unfolding StepSays
  never-drained new (same, none) = first-open-fails old.setup old.entries t none open_

-- the token that is served is there, and was not handed back
pub still-there : (old new : State) (t : ℕ) → Serves old t new → t < token_count old.entries → t < token_count new.entries
still-there old new t serves there = omega (arith, there, ap token_count serves.entries, while-accepted old.setup t old.entries serves.commands serves.while_open)

pub still-uncollected : (old new : State) (t : ℕ) → Serves old t new → was_collected old.entries t ≡ false → was_collected new.entries t ≡ false
still-uncollected old new t serves uncollected = ap (λ H. was_collected H t) serves.entries ∙ (while-collected old.setup t old.entries serves.commands t serves.while_open ∙ uncollected)
