-- Where the gates are idle, a lent work that is merged is written at once.
use Rattle.std.proofs.Common.{◌≡◌, ℕ, ◌+◌, ◌-◌, ◌*◌, ◌≤◌, true, eqb, List, [], ◌∷◌, length, slice_get, None, Some, refl, sym, ◌∙◌, ap, subst, arith}
use Rattle.std.proofs.lemmas.Bool.{eq-eqb, and_from, lt-ltb, false≢true}
use Rattle.std.proofs.lemmas.Option.{same_Some}
use Rattle.byte_lists.specs.Patching.{patch}
use Rattle.byte_lists.proofs.Patched.{length-patch}
use Rattle.byte_lists.proofs.Patches.{patch-nothing}
use Rattle.history.specs.declared.entry.Command.{Command}
use Rattle.history.specs.declared.entry.Command.TheVariants.{Fetch, Store}
use Rattle.history.specs.declared.entry.Entry.TheVariants.{Done}
use Rattle.history.specs.Setup.{IsSetup, size_of, per_of}
use Rattle.history.specs.Tokens.{Request, request}
use Rattle.history.specs.Contents.{bytes_between}
use Rattle.history.specs.Marks.{is_held, HoldsBy}
use Rattle.history.specs.Rules.{IsLegal}
use Rattle.history.specs.Tasks.{Todo, first_runnable}
use Rattle.history.specs.Next.{Turn, next_turn, Outcome, Made, Failed}
use Rattle.history_laws.proofs.TokenLemmas.{request-same}
use Rattle.block_gate.specs.Works.{Lent}
use Rattle.block_gate.specs.Gates.{Gate, Gates, gate_of, is_out, is_ours, without_hold, with_work_back}
use Rattle.disk_core.specs.declared.answers.Step.TheVariants as step
use Rattle.disk_core.specs.declared.answers.Stored.{Stored}
use Rattle.disk_core.specs.declared.answers.Stored.TheVariants as stored
use Rattle.disk_core.specs.State.{State}
use Rattle.disk_core.specs.Facts.{AreFacts}
use Rattle.disk_core.specs.Calls.{Revokes, LendsFirst, StepSays, IsHeldBy, expected_copy, GatesStored, StoreSays}
use Rattle.history_laws.specs.Ranges.{low_in, high_in}
use Rattle.disk_core.specs.Turns.{IsIdle, merge_of, StoresAtOnce}
use Rattle.disk_core.proofs.TurnLemmas.{none-held, steps-turn}
use Rattle.disk_core.proofs.IdleLemmas.{idle-stays, gate_for, lent-gate, lent-out, lent-size, back-again}
use Rattle.history_laws.proofs.HoldingLemmas.{new-holder}
use Rattle.history_laws.proofs.FetchLemmas.{store-turn}
use Rattle.history_laws.proofs.BytesLemmas.{length-between}

-- where the gates hold nothing, no token does
no-holder : (s : State) (t b k : ℕ) → AreFacts s → s.gates.held ≡ [] → HoldsBy s.setup s.entries t b k → ⊥
unfolding gate_of
no-holder s t b k facts none holds =
    let (g, there, block) = facts.gates.all t b k holds in
    clash g (subst (λ held. gate_of held k ≡ Some g) none there)
  where
    clash : (g : Gate) → gate_of [] k ≡ Some g → ⊥
    clash g is = cc

-- a piece that begins in the block and ends there, or is none, leaves its length
length-merged : (bytes patch_ : List ℕ) (from start low high : ℕ) → start + from ≡ low → length patch_ ≤ high - low → high ≤ start + length bytes → length (patch bytes from patch_) ≡ length bytes
length-merged bytes [] from start low high begins few ends = ap length (patch-nothing bytes from)
length-merged bytes (x ∷ more) from start low high begins few ends = length-patch bytes from (x ∷ more) (omega (arith, begins, few, ends))

-- the disk before a fetch, that after it with its work lent, and what was asked
module _ (old mid : State) (w : Lent) (todo : Todo) (q : Request) (is : IsSetup old.setup) (facts : AreFacts old) (idle : IsIdle old.gates) (lends : LendsFirst old todo q w mid) where
  fetch : Turn
  fetch = record { token = todo.token; command = Fetch w.block }

  entries-are : mid.entries ≡ Done todo.token (Fetch w.block) ∷ old.entries
  entries-are = lends.makes.makes.entries ∙ ap (λ (c : Command). Done todo.token c ∷ old.entries) lends.fetch

  legal-then : IsLegal old.setup (Done todo.token (Fetch w.block) ∷ old.entries)
  legal-then = subst (λ S. IsLegal S (Done todo.token (Fetch w.block) ∷ old.entries)) lends.makes.makes.setup (subst (λ H. IsLegal mid.setup H) entries-are lends.makes.makes.legal)

  first-free : first_runnable (is_held old.setup old.entries) true old.setup old.entries ≡ Some todo
  first-free = subst (λ b. first_runnable (is_held old.setup old.entries) b old.setup old.entries ≡ Some todo) (lt-ltb 0 old.gates.free idle.free) lends.makes.first

  next-store : next_turn mid.setup mid.entries ≡ Some (record { token = todo.token; command = Store w.block })
  next-store =
      ap (λ S. next_turn S mid.entries) lends.makes.makes.setup ∙ (ap (next_turn old.setup) entries-are
      ∙ store-turn old.setup old.entries todo w.block is facts.legal legal-then (λ c. none-held old c facts idle.held) first-free lends.fetch)

  -- the work is one of this disk's
  ours : is_ours mid.gates (merge_of w) ≡ true
  unfolding is_ours
  ours =
      let size : length (patch w.bytes w.from w.patch) ≡ mid.gates.size =
      length-merged w.bytes w.patch w.from (w.block * size_of old.setup) (low_in old.setup q w.block) (high_in old.setup q w.block (per_of old.setup)) lends.work.begins
      (subst (λ p. length p ≤ high_in old.setup q w.block (per_of old.setup) - low_in old.setup q w.block) (sym lends.work.patch) (length-between old.setup q _ _))
      (ends-in)
      ∙ (lends.work.long ∙ sym (ap (λ g. g.size) lends.gates ∙ lent-size old.gates w.block w.ticket w.bytes idle)) in
      and_from (is_out mid.gates w.ticket) (eqb (length (patch w.bytes w.from w.patch)) mid.gates.size) (ap (λ g. is_out g w.ticket) lends.gates ∙ lent-out old.gates w.block w.ticket w.bytes idle) (eq-eqb _ _ size)
    where
      ends-in : high_in old.setup q w.block (per_of old.setup) ≤ w.block * size_of old.setup + length w.bytes
      ends-in = omega (arith, lends.work.long, facts.gates.sized)

  held-here : gate_of mid.gates.held w.ticket ≡ Some (gate_for w.block w.ticket true w.bytes)
  held-here = ap (λ g. gate_of g.held w.ticket) lends.gates ∙ lent-gate old.gates w.block w.ticket w.bytes idle

  -- who holds it, and with which request
  pub record IsItsGate (g : Gate) (t : ℕ) (r : Request) : Type 0 where
    pub gate : g ≡ gate_for w.block w.ticket true w.bytes
    pub token : todo.token ≡ t
    pub request_is : q ≡ r

  its-gate : (g : Gate) (t : ℕ) (r : Request) → IsHeldBy mid w.ticket g t r → IsItsGate g t r
  its-gate g t r held =
      let gate : g ≡ gate_for w.block w.ticket true w.bytes = same_Some _ _ (sym held.gate ∙ held-here) in
      let holds : HoldsBy old.setup (Done todo.token (Fetch w.block) ∷ old.entries) t g.block w.ticket =
      subst (λ S. HoldsBy S (Done todo.token (Fetch w.block) ∷ old.entries) t g.block w.ticket) lends.makes.makes.setup (subst (λ H. HoldsBy mid.setup H t g.block w.ticket) entries-are held.holds) in
      let token : todo.token ≡ t = (new-holder old.setup old.entries todo.token w.block t g.block w.ticket is legal-then (no-holder old t g.block w.ticket facts idle.held) holds).0 in
      let named : request old.entries todo.token ≡ Some r =
      sym (request-same old.entries (Done todo.token (Fetch w.block)) todo.token refl) ∙ (sym (ap (λ H. request H todo.token) entries-are) ∙ (ap (request mid.entries) token ∙ held.named)) in
      record { gate = gate; token = token; request_is = same_Some _ _ (sym lends.work.named ∙ named) }

  -- the merged work is what is expected
  expected : (g : Gate) (t : ℕ) (r : Request) → IsItsGate g t r → expected_copy mid.setup r g ≡ (merge_of w).bytes
  expected g t r its =
      ap (λ S. expected_copy S r g) lends.makes.makes.setup ∙ (ap (λ v. expected_copy old.setup v g) (sym its.request_is) ∙ (ap (expected_copy old.setup q) its.gate
      ∙ (ap (λ n. patch w.bytes n (bytes_between old.setup q (low_in old.setup q w.block) (high_in old.setup q w.block (per_of old.setup)))) from-is
      ∙ ap (patch w.bytes w.from) (sym lends.work.patch))))
    where
      from-is : low_in old.setup q w.block - w.block * size_of old.setup ≡ w.from
      from-is = omega (arith, lends.work.begins)

  gates-back : (outcome : Outcome) (new : Gates) → GatesStored outcome (with_work_back mid.gates w.ticket) w.ticket new → new ≡ old.gates
  gates-back outcome new stored = by outcome stored
    where
      again : without_hold (with_work_back mid.gates w.ticket) w.ticket ≡ old.gates
      again = ap (λ g. without_hold (with_work_back g w.ticket) w.ticket) lends.gates ∙ back-again old.gates w.block w.ticket w.bytes idle

      by : (outcome : Outcome) → GatesStored outcome (with_work_back mid.gates w.ticket) w.ticket new → new ≡ old.gates
      by Made stored = stored ∙ again
      by (Failed done) stored = idle-stays old.gates new idle (subst (λ g. Revokes g new) again stored)

  pub stores : (new : State) (result : Stored) → StoreSays mid (merge_of w) result new → StoresAtOnce old mid result new
  unfolding StoreSays
  stores new (stored.Foreign back) (isnt, same, still) = false≢true (sym isnt ∙ ours)
  stores new stored.Stale (ours_, none, is_) = clash (sym none ∙ held-here)
    where
      clash : {g : Gate} → None ≡ Some g → ⊥
      clash e = cc
  stores new (stored.Strange back place wanted found) (ours_, same, still, (g, t, r, differs)) =
      differs.differs (same_Some _ _ (sym differs.wanted ∙ (ap (λ l. slice_get l place) (expected g t r (its-gate g t r differs.held)) ∙ differs.has)))
  stores new stored.Did (ours_, (g, t, r, outcome, writes)) =
      let its : IsItsGate g t r = its-gate g t r writes.stores.held in (
        record { token = t; command = Store g.block },
        outcome,
        record {
          takes = record {
            next = next-store ∙ (ap (λ (u : ℕ). Some (record { token = u; command = Store w.block })) its.token ∙ ap (λ (h : Gate). Some (record { token = t; command = Store h.block })) (sym its.gate));
            makes = writes.stores.makes;
          };
          unfetched = refl;
          gates = gates-back outcome new.gates writes.stores.gates;
        },
      )

-- a lent work that is merged is written at once
pub stores-merged : (old mid new : State) (w : Lent) (result : Stored) → IsSetup old.setup → AreFacts old → IsIdle old.gates → StepSays old (step.Lent w) mid → StoreSays mid (merge_of w) result new → StoresAtOnce old mid result new
unfolding StepSays
stores-merged old mid new w result is facts idle (todo, q, lends) says = stores old mid w todo q is facts idle lends new result says

-- and no other answer comes, whatever the merged work is called
pub answered : (old : State) → IsSetup old.setup → AreFacts old → IsIdle old.gates → (mid new : State) (w w' : Lent) (result : Stored) → StepSays old (step.Lent w) mid → w' ≡ merge_of w → StoreSays mid w' result new → StoresAtOnce old mid result new
answered old is facts idle mid new w w' result says merges stores = stores-merged old mid new w result is facts idle says (subst (λ v. StoreSays mid v result new) merges stores)

-- an idle step does not come
pub never-idle : (old : State) → IsSetup old.setup → AreFacts old → IsIdle old.gates → (new : State) → StepSays old step.Idle new → ⊥
never-idle old is facts idle new says = steps-turn old new step.Idle is facts idle.held idle.free says
