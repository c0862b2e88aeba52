-- Clients take their lines one after the other, rounds follow on rounds, and what is left is collected.
use Rattle.std.proofs.Common.{◌≡◌, ℕ, ◌+◌, ◌-◌, ◌<◌, ◌≤◌, Bool, true, false, [], length, Option, None, Some, IsSome, Result, Ok, Err, OnOk, OnErr, refl, sym, subst, arith}
use Rattle.history.specs.declared.order.Order.{Order}
use Rattle.history.specs.Setup.{IsSetup}
use Rattle.disk_core.specs.Turns.{IsIdle}
use Rattle.shared_disk.specs.Desk.{DeskState, done_of, next_of, HasNoLine, HasLine, Keeps}
use Rattle.device_workers.specs.Plain.{progress}
use Rattle.device_workers.specs.Leading.{TakesFirst, TakesBy, Leads}
use Rattle.device_workers.specs.Serving.{lefts_of, KeepsScriptAndGates, TakesLine, TakesLines, Untaken, StopsIn, Steps, StepsOnce, RunsRound, RunsRounds, StopsAfter}
use Rattle.device_workers.proofs.Costs.{cost}
use Rattle.device_workers.proofs.Leading.{first-none, first-more, leads-same, leads-on, leads-round}
use Rattle.device_workers.proofs.Lefts.{lefts-length, lefts-none}
use Rattle.device_workers.proofs.Stepping.{steps-fall}
use Rattle.device_workers.proofs.Stills.{round-falls, lines-later}
use Rattle.device_workers.proofs.Taking.{stays-on, same-lefts}

pub stays-same : (d : DeskState) → KeepsScriptAndGates d d
stays-same d = record { disk = record { setup = refl; gates = refl }; script = refl }

-- gates are idle after it as before
pub idle-on : (old new : DeskState) → KeepsScriptAndGates old new → IsIdle old.disk.gates → IsIdle new.disk.gates
idle-on old new stays idle = subst IsIdle (sym stays.disk.gates) idle

-- the first n clients took their lines
pub record ClientsTook (old : DeskState) (n : ℕ) (new : DeskState) : Type 0 where
  pub stays : KeepsScriptAndGates old new
  pub keeps : Keeps new
  pub takes : TakesLines old n new

pub taken-none : (old : DeskState) → Keeps old → ClientsTook old 0 old
taken-none old keeps = record { stays = stays-same old; keeps = keeps; takes = first-none old.disk.setup old.disk.entries (lefts_of old) }

pub taken-more : (old mid new : DeskState) (i : ℕ) → ClientsTook old i mid → KeepsScriptAndGates mid new → Keeps new → TakesLine mid (i + 1 - 1) new → ClientsTook old (i + 1) new
taken-more old mid new i taken stays keeps takes =
    let e : i + 1 - 1 ≡ i = omega arith in
    let by : TakesBy old.disk.setup i mid.disk.entries (lefts_of mid) new.disk.entries (lefts_of new) =
    subst (λ S. TakesBy S i mid.disk.entries (lefts_of mid) new.disk.entries (lefts_of new)) taken.stays.disk.setup (subst (λ k. TakesBy mid.disk.setup k mid.disk.entries (lefts_of mid) new.disk.entries (lefts_of new)) e takes) in
    record {
      stays = stays-on old mid new taken.stays stays;
      keeps = keeps;
      takes = first-more old.disk.setup i old.disk.entries (lefts_of old) mid.disk.entries (lefts_of mid) new.disk.entries (lefts_of new) taken.takes by;
    }

-- the next client did not take its line
pub stops-in : (old mid new : DeskState) (i : ℕ) → i < length old.script.roles → ClientsTook old i mid → KeepsScriptAndGates mid new → Untaken mid new → StopsIn old new
stops-in old mid new i within taken stays none =
    let lefts : lefts_of new ≡ lefts_of mid = same-lefts mid new stays.script none.places in
    record {
      count = i;
      within = omega (arith, within);
      takes = subst (λ H. TakesFirst old.disk.setup i old.disk.entries (lefts_of old) H (lefts_of new)) (sym none.entries)
          (subst (λ ls. TakesFirst old.disk.setup i old.disk.entries (lefts_of old) mid.disk.entries ls) (sym lefts) taken.takes);
    }

-- the lines and a step are a round
pub a-round : (old mid new : DeskState) (some : Bool) → KeepsScriptAndGates old mid → TakesLines old (length old.script.roles) mid → StepsOnce mid some new → RunsRound old some new
a-round old mid new some stays takes steps =
    let lefts : lefts_of new ≡ lefts_of mid = same-lefts mid new steps.stays.script steps.places in
    let count : length (lefts_of old) ≡ length old.script.roles = lefts-length (done_of old) 0 old.script.roles in
    record {
      lined = mid.disk.entries;
      takes = subst (λ n. TakesFirst old.disk.setup n old.disk.entries (lefts_of old) mid.disk.entries (lefts_of new)) (sym count)
          (subst (λ ls. TakesFirst old.disk.setup (length old.script.roles) old.disk.entries (lefts_of old) mid.disk.entries ls) (sym lefts) takes);
      steps = subst (λ S. Steps S mid.disk.entries new.disk.entries some) stays.disk.setup steps.steps;
    }

-- what a desk can still need
pub desk_cost : DeskState → ℕ
desk_cost d = cost d.disk.setup (progress d.disk.entries (lefts_of d) [])

-- rounds that lead from one desk to another
pub record RoundsRan (old new : DeskState) : Type 0 where
  pub stays : KeepsScriptAndGates old new
  pub keeps : Keeps new
  pub leads : Leads old.disk.setup old.disk.entries (lefts_of old) new.disk.entries (lefts_of new)

pub run-none : (old : DeskState) → Keeps old → RoundsRan old old
run-none old keeps = record { stays = stays-same old; keeps = keeps; leads = leads-same old.disk.setup old.disk.entries (lefts_of old) }

pub run-more : (old mid new : DeskState) (some : Bool) → RoundsRan old mid → KeepsScriptAndGates mid new → Keeps new → RunsRound mid some new → RoundsRan old new
run-more old mid new some run stays keeps round =
    let leads : Leads mid.disk.setup mid.disk.entries (lefts_of mid) new.disk.entries (lefts_of new) =
    leads-round mid.disk.setup mid.disk.entries (lefts_of mid) round.lined (lefts_of new) new.disk.entries round.takes round.steps.step in
    record {
      stays = stays-on old mid new run.stays stays;
      keeps = keeps;
      leads = leads-on old.disk.setup old.disk.entries (lefts_of old) mid.disk.entries (lefts_of mid) new.disk.entries (lefts_of new) run.leads
          (subst (λ S. Leads S mid.disk.entries (lefts_of mid) new.disk.entries (lefts_of new)) run.stays.disk.setup leads);
    }

-- the round after them stopped
pub stops-after : (old mid new : DeskState) → RoundsRan old mid → StopsIn mid new → StopsAfter old new
stops-after old mid new run stops = record {
  between = mid.disk.entries;
  lefts = lefts_of mid;
  count = stops.count;
  within = omega (arith, stops.within, lefts-length (done_of mid) 0 mid.script.roles);
  leads = run.leads;
  takes = subst (λ S. TakesFirst S stops.count mid.disk.entries (lefts_of mid) new.disk.entries (lefts_of new)) run.stays.disk.setup stops.takes;
}

-- a round with a command lowers what can be needed
pub round-going : (old new : DeskState) → IsSetup old.disk.setup → KeepsScriptAndGates old new → RunsRound old true new → desk_cost new + 1 ≤ desk_cost old
unfolding desk_cost
round-going old new is stays round =
    rw stays.disk.setup (omega (
      arith,
      steps-fall old.disk.setup round.lined new.disk.entries (lefts_of new) is round.steps,
      lines-later old.disk.setup old.disk.entries (lefts_of old) round.lined (lefts_of new) round.takes,
    ))

-- so does one that leaves a line
pub round-leaving : (old new : DeskState) → KeepsScriptAndGates old new → RunsRound old false new → (HasNoLine new → ⊥) → desk_cost new + 1 ≤ desk_cost old
unfolding desk_cost
round-leaving old new stays round left =
    let (none, same) = round.steps.over refl in
    rw (stays.disk.setup, same)
    (round-falls old.disk.setup old.disk.entries (lefts_of old) round.lined (lefts_of new) round.takes none (lefts-none (done_of new) 0 new.script.roles (λ over. left (λ i. let e : 0 + i ≡ i = omega arith in rw e at (over i)))))

-- the last round
pub run-over : (old new : DeskState) (mid : DeskState) → RoundsRan old new → KeepsScriptAndGates mid new → RunsRound mid false new → HasNoLine new → RunsRounds old new
run-over old new mid run stays round over =
    let (none, same) = round.steps.over refl in
    record {
      leads = run.leads;
      over = over;
      drained = rw (stays.disk.setup, same) none;
    }

-- the setup stays one that a disk may have
pub going-on : (old new : DeskState) → KeepsScriptAndGates old new → IsSetup old.disk.setup → IsSetup new.disk.setup
going-on old new stays is = rw stays.disk.setup is

-- a line is left
pub some-left : (d : DeskState) → HasLine d → HasNoLine d → ⊥
some-left d (i, line) over = by (next_of d i) (over i) line
  where
    by : (o : Option Order) → o ≡ None → IsSome o → ⊥
    by None none is = cc
    by (Some order) none is = cc

-- what holds of an error
pub on-err : {T E : Type 0} {P : Type 0} (result : Result T E) → P → OnErr result P
on-err (Ok value) holds = tt
on-err (Err error) holds = holds

-- and of a value
pub on-ok : {T E : Type 0} {P : Type 0} (result : Result T E) → P → OnOk result P
on-ok (Ok value) holds = holds
on-ok (Err error) holds = tt
