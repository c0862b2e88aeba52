-- What the empty history says.
use Rattle.std.proofs.Common.{Bool, List, None, Option, Some, [], arith, false, if◌then◌else◌, length, option_map, refl, subst, true, ℕ, ◌*◌, ◌-◌, ◌<◌, ◌≡◌, ◌≤◌}
use Rattle.history.specs.Commands.{done_commands, has_done}
use Rattle.history.specs.Contents.{contents, flushed_contents, kept_contents, patch_all, pieces_of}
use Rattle.history.specs.Eras.{ejects, inserts}
use Rattle.history.specs.Marks.{Holds, IsOutstanding, fetches}
use Rattle.history.specs.Room.{owed_entries, tokens_owed}
use Rattle.history.specs.Rules.{IsLegal}
use Rattle.history.specs.Setup.{Setup, first_of}
use Rattle.history.specs.Tasks.{units_left, todo_before}
use Rattle.history.specs.Tokens.{token_count}
use Rattle.history_laws.proofs.CountLemmas.{accepted-none}

unpatched : (told : Option (List ℕ)) → option_map (patch_all []) told ≡ told
unfolding patch_all
unpatched None = refl
unpatched (Some bytes) = refl

-- a medium has its opening bytes
pub contents-first : (S : Setup) (k : ℕ) → contents S k [] ≡ first_of S k
unfolding contents pieces_of
contents-first S k = unpatched (first_of S k)

-- which it keeps
pub kept-first : (S : Setup) (k : ℕ) → kept_contents S k [] ≡ first_of S k
unfolding kept_contents flushed_contents
kept-first S k = by S.cached
  where
    by : (b : Bool) → (if b then first_of S k else contents S k []) ≡ first_of S k
    by true = refl
    by false = contents-first S k

-- no group is held
pub none-held : (S : Setup) (t b : ℕ) → Holds S [] t b → ⊥
unfolding has_done done_commands
none-held S t b holds = clash holds.fetched
  where
    clash : false ≡ true → ⊥
    clash e = cc

-- no token is outstanding
pub none-open : (S : Setup) (t : ℕ) → IsOutstanding S [] t → ⊥
none-open S t open_now = let h = open_now.token in absurd (let g : t < 0 = subst (λ n. t < n) accepted-none h in omega arith)

-- it is legal
pub fresh-legal : (S : Setup) → IsLegal S []
unfolding IsLegal
fresh-legal S = tt

-- nothing was fetched
pub fetches-none : fetches [] ≡ 0
unfolding fetches
fetches-none = refl

-- no unit is left
pub fresh-queue : (S : Setup) → units_left S [] ≡ []
unfolding todo_before token_count
fresh-queue S = refl

-- and the media that may come are owed
pub fresh-owed : (S : Setup) (n : ℕ) → length S.media ≡ n → owed_entries S [] ≤ 2 * n - 1
unfolding owed_entries tokens_owed token_count ejects inserts
fresh-owed S n is = rw is (omega arith)
