-- The units of a token in their order: none finishes twice, and where its command begins.
use Rattle.std.proofs.Common.{Bool, List, Some, [], ap, arith, false, if◌then◌else◌, refl, slice_get, subst, suc, sym, true, zero, ℕ, ◌<◌, ◌∙◌, ◌∷◌, ◌≡◌}
use Rattle.history.specs.Commands.{first_block, is_sync}
use Rattle.history.specs.Marks.{was_fetched}
use Rattle.history.specs.Setup.{Setup}
use Rattle.history.specs.Tasks.{Moves, Syncs, Task, is_finished, span_command}
use Rattle.history.specs.Tokens.{is_flush}
use Rattle.history.specs.declared.entry.Command.TheVariants.{Fetch, Store}
use Rattle.history.specs.declared.entry.Entry.{Entry}
use Rattle.history.specs.declared.entry.Kind.{Kind}
use Rattle.history.specs.declared.entry.Kind.TheVariants.{Erase, Flush, Read, Write}
use Rattle.history_laws.proofs.TokenLemmas.{has_done-stays}
use Rattle.history_laws.specs.Pending.{Ordered}

pub ordered-get : {X : Type 0} (R : X → X → Type 0) (xs : List X) (i j : ℕ) (x y : X) → Ordered R xs → i < j → slice_get xs i ≡ Some x → slice_get xs j ≡ Some y → R x y
unfolding Ordered
ordered-get R [] i j x y all less there there' = cc
ordered-get R (z ∷ xs) i zero x y all less there there' = absurd (omega arith)
ordered-get {X} R (z ∷ xs) zero (suc j) x y (first, rest) less there there' = subst (λ (w : X). R w y) (head z x there) (first j y there')
  where
    head : (a b : X) → Some a ≡ Some b → a ≡ b
    head a b e = cc
ordered-get R (z ∷ xs) (suc i) (suc j) x y (first, rest) less there there' = ordered-get R xs i j x y rest (omega arith) there there'

pub same-task : (xs : List Task) (i j : ℕ) (a b : Task) → i ≡ j → slice_get xs i ≡ Some a → slice_get xs j ≡ Some b → a ≡ b
same-task xs i j a b same there there' = some-task a b (sym there ∙ (ap (slice_get xs) same ∙ there'))
  where
    some-task : (c d : Task) → Some c ≡ Some d → c ≡ d
    some-task c d e = cc

-- what is finished stays so
pub finished-stays : (S : Setup) (G : List Entry) (e : Entry) (t : ℕ) (task : Task) → is_finished S G t task ≡ true → is_finished S (e ∷ G) t task ≡ true
finished-stays S G e t (Moves u) was = has_done-stays _ G e t was
finished-stays S G e t Syncs was = has_done-stays is_sync G e t was

-- where the command of a part or a run begins
pub command-block : (G : List Entry) (t : ℕ) (kind : Kind) (whole : Bool) (b n : ℕ) → is_flush kind ≡ false → first_block (span_command G t kind whole b n) ≡ b
command-block G t Read whole b n moving = refl
command-block G t Flush whole b n moving = cc
command-block G t Write true b n moving = refl
command-block G t Erase true b n moving = refl
command-block G t Write false b n moving = by (was_fetched G t b)
  where
    by : (f : Bool) → first_block (if f then Store b else Fetch b) ≡ b
    by true = refl
    by false = refl
command-block G t Erase false b n moving = by (was_fetched G t b)
  where
    by : (f : Bool) → first_block (if f then Store b else Fetch b) ≡ b
    by true = refl
    by false = refl
