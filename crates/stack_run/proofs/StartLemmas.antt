-- A disk to which nothing has happened, and whose clients are all on the whole of it, is ready.
use Rattle.std.proofs.Common.{◌≡◌, ℕ, zero, suc, ◌+◌, ◌<◌, inl, List, [], ◌∷◌, map, drop, get_or, length, None, refl, sym, ◌∙◌, ap, subst, arith}
use Rattle.std.proofs.lemmas.List.{append-nil, length-map}
use Rattle.history.specs.Setup.{Setup}
use Rattle.history.specs.Tokens.{token_count}
use Rattle.history_laws.proofs.CountLemmas.{accepted-none}
use Rattle.history_laws.proofs.FreshLemmas.{fresh-legal}
use Rattle.block_gate.specs.Gates.{idle_gates}
use Rattle.disk_core.specs.State.{State}
use Rattle.shared_disk.specs.Lines.{Role}
use Rattle.shared_disk.specs.Script.{IsOpening}
use Rattle.shared_disk.proofs.KeptLemmas.{keeps-nothing}
use Rattle.device_workers.specs.Plain.{plain_history}
use Rattle.device_workers.proofs.FreshLemmas.{opens-none}
use Rattle.script_text.specs.declared.language.plans.DiskPlan.{DiskPlan}
use Rattle.stack_run.specs.Clients.{unprobed, script_in}
use Rattle.stack_run.specs.Runs.{RanInPart}
use Rattle.stack_run.specs.Starting.{part_line, AreWhole, IsReady, start_of}
use Rattle.stack_run.proofs.ProbedMedium.{fresh-quiet}
use Rattle.stack_run.proofs.RanLemmas.{no-places}

pub fresh-ready : (plan : DiskPlan) (s : State) (size : ℕ) → s.entries ≡ [] → s.gates ≡ idle_gates 1 size → part_line plan ≡ None → length s.setup.media ≡ length plan.spares + 1 → IsReady plan s None
fresh-ready plan s size none gates whole count = record {
  start = record { begins = none; parts = whole };
  quiet = fresh-quiet s size none gates;
  opens = subst IsOpening (sym none) opens-none;
  ended = λ t inside. absurd (omega (arith, inside, ap token_count none, accepted-none));
  count = count;
}

-- it begins with nothing
pub starts-so : (s : State) → s.entries ≡ [] → start_of s None ≡ unprobed
starts-so s none = λ i. record { found = None; entries = none i }

-- where nothing was done
pub nothing-begun : (plan : DiskPlan) (S : Setup) → part_line plan ≡ None → RanInPart plan S unprobed []
nothing-begun plan S whole =
    let roles : List Role = (script_in plan unprobed).roles in
    record {
      begins = record { begins = refl; parts = whole };
      legal = fresh-legal S;
      places = map (λ role. []) roles;
      keeps = keeps-nothing S (script_in plan unprobed) (map (λ role. []) roles) opens-none (length-map roles (λ role. [])) (no-places roles);
      front = record { outcomes = []; more = plain_history S [] roles []; front = sym (append-nil (plain_history S [] roles [])) };
      short = inl refl;
    }

-- the disks behind the first ones
pub whole-drop : (plans : List DiskPlan) (i : ℕ) → AreWhole plans → AreWhole (drop i plans)
unfolding AreWhole
whole-drop [] zero whole = tt
whole-drop [] (suc i) whole = tt
whole-drop (plan ∷ plans) zero whole = whole
whole-drop (plan ∷ plans) (suc i) whole = unfold AreWhole in whole-drop plans i whole.1

pub whole-at : (plans : List DiskPlan) (i : ℕ) (plan : DiskPlan) → AreWhole plans → i < length plans → plan ≡ get_or plans i plan → part_line plan ≡ None
unfolding AreWhole
whole-at [] i plan whole inside is = absurd (omega (arith, inside))
whole-at (p ∷ plans) zero plan whole inside is = ap part_line is ∙ whole.0
whole-at (p ∷ plans) (suc i) plan whole inside is = whole-at plans i plan whole.1 (omega (arith, inside)) is
