-- The parts through the steps of a done fetch: the entry, the gate, and the loan.
use Rattle.std.proofs.Common.{◌≡◌, ℕ, ◌+◌, List, [], ◌∷◌, ◌++◌, sym, ◌∙◌, ap, subst}
use Rattle.std.specs.Prelude.{vec_capacity}
use Rattle.block_gate.specs.Gates.{with_gate, with_work_out, AreSound}
use Rattle.history.specs.declared.entry.Command.TheVariants.{Fetch}
use Rattle.history.specs.declared.entry.Entry.TheVariants.{Done}
use Rattle.disk_core.specs.declared.parts.Core.{Core}
use Rattle.disk_core.specs.Moves.{with_entry}
use Rattle.disk_core.proofs.Lending.{HasLent}

module _ (c mid enter hold : Core) (t b k : ℕ) (group : List ℕ) (items : mid.group.items ≡ group) (entering_ : enter ≡ with_entry (record c { fetched = c.fetched + 1; group = mid.group }) (Done t (Fetch b)) 1) where
  pub enter-gates : enter.gates ≡ c.gates
  unfolding with_entry
  enter-gates = ap (λ v. v.gates) entering_

  pub enter-holders : enter.holders ≡ c.holders
  unfolding with_entry
  enter-holders = ap (λ v. v.holders) entering_

  pub enter-group : enter.group.items ≡ group
  unfolding with_entry
  enter-group = ap (λ v. v.group.items) entering_ ∙ items

  module _ (gates : hold.gates ≡ with_gate enter.gates b k enter.group.items) (rest : hold ≡ record enter { gates = hold.gates; holders = hold.holders }) where
    pub hold-tokens : hold.tokens ≡ c.tokens
    unfolding with_entry
    hold-tokens = ap (λ v. v.tokens) rest ∙ ap (λ v. v.tokens) entering_

    pub hold-blocks : hold.blocks ≡ c.blocks
    unfolding with_entry
    hold-blocks = ap (λ v. v.blocks) rest ∙ ap (λ v. v.blocks) entering_

    pub hold-zeros : hold.zeros ≡ c.zeros
    unfolding with_entry
    hold-zeros = ap (λ v. v.zeros) rest ∙ ap (λ v. v.zeros) entering_

    pub hold-gates : hold.gates ≡ with_gate c.gates b k group
    hold-gates = gates ∙ ap (λ v. with_gate v b k enter.group.items) enter-gates ∙ ap (with_gate c.gates b k) enter-group

    -- what else the loan leaves
    pub record Beside (c' : Core) : Type 0 where
      pub protected_at_first : c'.protected_at_first ≡ c.protected_at_first
      pub blocks : c'.blocks ≡ c.blocks
      pub accepted : c'.accepted ≡ c.accepted
      pub fetched : c'.fetched ≡ c.fetched + 1
      pub kept_items : c'.group.items ≡ group
      pub zeros : c'.zeros ≡ c.zeros

    pub lend-beside : (c' : Core) → c' ≡ record hold { gates = with_work_out hold.gates k } → Beside c'
    unfolding with_entry
    lend-beside c' is = subst Beside (sym is) (record {
      protected_at_first = ap (λ v. v.protected_at_first) rest ∙ ap (λ v. v.protected_at_first) entering_;
      blocks = hold-blocks;
      accepted = ap (λ v. v.accepted) rest ∙ ap (λ v. v.accepted) entering_;
      fetched = ap (λ v. v.fetched) rest ∙ ap (λ v. v.fetched) entering_;
      kept_items = ap (λ v. v.group.items) rest ∙ enter-group;
      zeros = hold-zeros;
    })

    pub lend-links : (c' : Core) → hold.holders.items ≡ enter.holders.items ++ record { ticket = k; token = t } ∷ [] → vec_capacity hold.holders ≡ vec_capacity enter.holders → c' ≡ record hold { gates = with_work_out hold.gates k } → AreSound c'.gates
        → HasLent c.history.entries t b k group c c'
    unfolding with_entry
    lend-links c' holders places is sound = record {
      entries = ap (λ v. v.history.entries) is ∙ ap (λ v. v.history.entries) rest ∙ ap (λ v. v.history.entries) entering_;
      spare = ap (λ v. v.history.spare) is ∙ ap (λ v. v.history.spare) rest ∙ ap (λ v. v.history.spare) entering_;
      owed = ap (λ v. v.owed) is ∙ ap (λ v. v.owed) rest ∙ ap (λ v. v.owed) entering_;
      tokens = ap (λ v. v.tokens) is ∙ hold-tokens;
      queue = ap (λ v. v.queue) is ∙ ap (λ v. v.queue) rest ∙ ap (λ v. v.queue) entering_;
      gates = ap (λ v. v.gates) is ∙ ap (λ v. with_work_out v k) hold-gates;
      apart = sound;
      holders = ap (λ v. v.holders.items) is ∙ holders ∙ ap (λ v. v.items ++ record { ticket = k; token = t } ∷ []) enter-holders;
      places = ap (λ v. vec_capacity v.holders) is ∙ places ∙ ap vec_capacity enter-holders;
    }
