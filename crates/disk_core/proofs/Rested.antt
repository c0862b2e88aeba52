-- A queue in which no token has a unit is empty.
use Rattle.std.proofs.Common.{◌≡◌, List, [], ◌∷◌, None, Some, refl, ◌∙◌, arith}
use Rattle.std.specs.List.{find}
use Rattle.std.specs.Option.{option_map}
use Rattle.std.proofs.lemmas.Bool.{le-leb}
use Rattle.subtask_queue.specs.declared.sub.Sub.{Sub}
use Rattle.subtask_queue.specs.Subs.{token_of, is_from}

pub queue-empty : (queue : List Sub) → None ≡ option_map token_of (find (is_from 0) queue) → queue ≡ []
unfolding is_from
queue-empty [] none = refl
queue-empty (s ∷ subs) none = absurd (clash (none ∙ rw (le-leb 0 (token_of s) (omega arith)) refl))
  where
    clash : None ≡ Some (token_of s) → ⊥
    clash e = cc
