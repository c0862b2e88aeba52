-- Idle gates, and what becomes of them through a fetch and its store.
use Rattle.std.proofs.Common.{◌≡◌, ℕ, ◌+◌, ◌-◌, ◌<◌, Bool, true, false, eqb, List, [], ◌∷◌, Some, Result, Ok, Err, refl, sym, ◌∙◌, ap, subst, arith}
use Rattle.std.proofs.lemmas.Bool.{eq-eqb, or_left, false≢true}
use Rattle.index_links.specs.Lists.{is_among, without}
use Rattle.history.specs.declared.entry.View.{View}
use Rattle.history.specs.Marks.{fetches, Holds}
use Rattle.block_gate.specs.Gates.{Gate, Gates, gate_of, without_ticket, with_out, is_lent, is_out, with_gate, with_work_out, without_hold, with_work_back}
use Rattle.token_table.specs.declared.record.Done.{Done}
use Rattle.token_table.specs.declared.record.NotThere.{NotThere}
use Rattle.token_table.specs.declared.record.NotThere.TheVariants as not_there
use Rattle.disk_core.specs.declared.answers.Ask.{Ask}
use Rattle.disk_core.specs.declared.answers.Refused.{Refused}
use Rattle.disk_core.specs.declared.answers.Why.{Why}
use Rattle.disk_core.specs.declared.answers.Why.TheVariants as why
use Rattle.disk_core.specs.declared.answers.Token.{Token}
use Rattle.disk_core.specs.State.{State}
use Rattle.disk_core.specs.Facts.{AreFacts}
use Rattle.disk_core.specs.Calls.{asked_of, buffer_of, RefusesFor, Revokes, SubmitSays, CollectSays}
use Rattle.disk_core.specs.Turns.{IsIdle, KeepsGates}
use Rattle.history_laws.proofs.FreshLemmas.{none-held}

-- gates of equal parts
same-gates : (s s' : Gates) → s'.size ≡ s.size → s'.held ≡ s.held → s'.gone ≡ s.gone → s'.free ≡ s.free → s' ≡ s
same-gates s s' size held gone free =
    ap (λ n. record { size = n; held = s'.held; gone = s'.gone; free = s'.free }) size
    ∙ (ap (λ h. record { size = s.size; held = h; gone = s'.gone; free = s'.free }) held
    ∙ (ap (λ g. record { size = s.size; held = s.held; gone = g; free = s'.free }) gone
    ∙ ap (λ n. record { size = s.size; held = s.held; gone = s.gone; free = n }) free))

-- where no ticket has a gate, none is held
no-gate : (held : List Gate) → ((k : ℕ) (g : Gate) → gate_of held k ≡ Some g → ⊥) → held ≡ []
unfolding gate_of
no-gate [] none = refl
no-gate (g ∷ held) none = absurd (none g.ticket g (rw (eq-eqb g.ticket g.ticket refl) refl))

-- where no work is out, no ticket is revoked
no-ticket : (s : Gates) → ((k : ℕ) → is_out s k ≡ true → ⊥) → s.gone ≡ []
unfolding is_out is_among
no-ticket s none = by s.gone refl
  where
    by : (gone : List ℕ) → s.gone ≡ gone → gone ≡ []
    by [] is = refl
    by (k ∷ gone) is = absurd (none k (or_left (is_among s.gone k) (is_lent (gate_of s.held k)) (ap (λ l. is_among l k) is ∙ or_left (eqb k k) (is_among gone k) (eq-eqb k k refl))))

no-gate-of : (k : ℕ) (g : Gate) → gate_of [] k ≡ Some g → ⊥
unfolding gate_of
no-gate-of k g is = cc

idle-in : (s : Gates) (k : ℕ) → IsIdle s → is_out s k ≡ false
unfolding is_out is_among gate_of is_lent
idle-in s k idle = rw (idle.held, idle.gone) refl

-- idle gates stay as they are
pub idle-stays : (old new : Gates) → IsIdle old → Revokes old new → new ≡ old
idle-stays old new idle revokes =
    let held : new.held ≡ [] = no-gate new.held (λ k g there. no-gate-of k g (subst (λ h. gate_of h k ≡ Some g) idle.held (revokes.kept k g there))) in
    let gone : new.gone ≡ [] = no-ticket new (λ k out. false≢true (sym (idle-in old k idle) ∙ (sym (revokes.works k) ∙ out))) in
    same-gates old new revokes.size (held ∙ sym idle.held) (gone ∙ sym idle.gone) revokes.free

-- the gates of a disk on which nothing has happened
pub fresh-idle : (s : State) → AreFacts s → s.entries ≡ [] → 0 < s.gates.free → IsIdle s.gates
unfolding fetches
fresh-idle s facts fresh free = record {
  held = no-gate s.gates.held (λ k g there. by g.block (facts.gates.each k g there).0 (facts.gates.each k g there).1.holds.holds);
  gone = no-ticket s.gates (λ k out. none k (facts.gates.below k out));
  free = free;
}
  where
    by : (b t : ℕ) → Holds s.setup s.entries t b → ⊥
    by b t holds = none-held s.setup t b (subst (λ H. Holds s.setup H t b) fresh holds)

    none : (k : ℕ) → k < fetches s.entries → ⊥
    none k below = let zero_ : k < 0 = subst (λ H. k < fetches H) fresh below in absurd (omega arith)

-- a submit leaves the gates
pub submit-keeps : (old : State) (tag : ℕ) (view : View) (media_id : ℕ) (ask : Ask) (result : Result Token Refused) (new : State) → SubmitSays old tag view media_id ask result new → KeepsGates old new
unfolding SubmitSays
submit-keeps old tag view media_id ask (Ok token) new says = record { setup = ap (λ s. s.setup) says.new_is; gates = ap (λ s. s.gates) says.new_is }
submit-keeps old tag view media_id ask (Err refused) new says = by refused.why says
  where
    by : (y : Why) → RefusesFor old tag view media_id (asked_of ask) (buffer_of ask) y refused.buffer.items new → KeepsGates old new
    by (why.Status status) refuses = record { setup = ap (λ s. s.setup) refuses.new_is; gates = ap (λ s. s.gates) refuses.new_is }
    by why.Memory forgets = record { setup = ap (λ s. s.setup) forgets.same; gates = ap (λ s. s.gates) forgets.same }

-- and so does a collect
pub collect-keeps : (old : State) (tag number : ℕ) (result : Result Done NotThere) (new : State) → CollectSays old tag number result new → KeepsGates old new
unfolding CollectSays
collect-keeps old tag number (Ok done) new (q, was, collects) = record { setup = ap (λ s. s.setup) collects.new_is; gates = ap (λ s. s.gates) collects.new_is }
collect-keeps old tag number (Err not_there.Outstanding) new (there, open_, same) = record { setup = ap (λ s. s.setup) same; gates = ap (λ s. s.gates) same }
collect-keeps old tag number (Err not_there.Unknown) new (unknown, same) = record { setup = ap (λ s. s.setup) same; gates = ap (λ s. s.gates) same }

-- the gates of two calls, one after the other
pub keeps-same : (s : State) → KeepsGates s s
keeps-same s = record { setup = refl; gates = refl }

pub keeps-on : (old mid new : State) → KeepsGates old mid → KeepsGates mid new → KeepsGates old new
keeps-on old mid new first then = record { setup = then.setup ∙ first.setup; gates = then.gates ∙ first.gates }

-- they are idle after a call as before it
pub idle-on : (old new : State) → KeepsGates old new → IsIdle old.gates → IsIdle new.gates
idle-on old new keeps idle = subst IsIdle (sym keeps.gates) idle

-- the gate of a block that was fetched, whose work is out
abbrev pub gate_for : ℕ → ℕ → Bool → List ℕ → Gate
gate_for b k out copy = record { ticket = k; block = b; out = out; copy = copy }

-- idle gates, with one work lent
abbrev pub lent_one : Gates → ℕ → ℕ → List ℕ → Gates
lent_one s b k copy = with_work_out (with_gate s b k copy) k

module _ (s : Gates) (b k : ℕ) (copy : List ℕ) (idle : IsIdle s) where
  lent-is : lent_one s b k copy ≡ record { size = s.size; held = gate_for b k true copy ∷ []; gone = []; free = s.free - 1 }
  unfolding with_work_out with_gate with_out
  lent-is = rw (idle.held, idle.gone, eq-eqb k k refl) refl

  -- its gate is the only one
  pub lent-gate : gate_of (lent_one s b k copy).held k ≡ Some (gate_for b k true copy)
  unfolding gate_of
  lent-gate = rw (lent-is, eq-eqb k k refl) refl

  pub lent-out : is_out (lent_one s b k copy) k ≡ true
  unfolding is_out is_among gate_of is_lent
  lent-out = rw (lent-is, eq-eqb k k refl) refl

  pub lent-size : (lent_one s b k copy).size ≡ s.size
  lent-size = ap (λ g. g.size) lent-is

  taken-is : with_work_back (lent_one s b k copy) k ≡ record { size = s.size; held = gate_for b k false copy ∷ []; gone = []; free = s.free - 1 }
  unfolding with_work_back with_out without is_among
  taken-is = rw (lent-is, eq-eqb k k refl) refl

  -- the work comes back, and its gate is released
  pub back-again : without_hold (with_work_back (lent_one s b k copy) k) k ≡ s
  unfolding without_hold without_ticket gate_of is_lent
  back-again =
      let full : s.free - 1 + 1 ≡ s.free = omega (arith, idle.free) in
      rw (taken-is, eq-eqb k k refl, full) (sym (same-gates (record { size = s.size; held = []; gone = []; free = s.free }) s refl idle.held idle.gone refl))
