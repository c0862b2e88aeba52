-- Commands that come next, one after the other: for as long as a token is outstanding, of one token alone, and what they leave (own profile).
use Rattle.std.specs.Prelude.{◌≡◌, ℕ, ◌≤◌, Bool, true, false, List, [], ◌∷◌, ◌++◌, Some}
use Rattle.efi_status.specs.declared.Status.{Status}
use Rattle.history.specs.declared.entry.Entry.{Entry}
use Rattle.history.specs.declared.entry.Entry.TheVariants.{Done, Fault}
use Rattle.history.specs.Setup.{Setup}
use Rattle.history.specs.Eras.{is_fault}
use Rattle.history.specs.Tokens.{Request, token_count, request, was_collected}
use Rattle.history.specs.Commands.{first_block}
use Rattle.history.specs.Contents.{bytes_read}
use Rattle.history.specs.Marks.{IsOutstanding, mark_of}
use Rattle.history.specs.Next.{Turn, next_turn, Outcome, entry_of}
use Rattle.history.specs.Room.{is_command_of}
use Rattle.history_laws.specs.Ranges.{low_in}

-- one more command while the token is outstanding: the one that comes next
pub record Continues (S : Setup) (H : List Entry) (t : ℕ) (e : Entry) : Type 0 where
  pub outstanding : IsOutstanding S H t
  pub turn : Turn
  pub outcome : Outcome
  pub next : next_turn S H ≡ Some turn
  pub entry : e ≡ entry_of turn outcome

-- commands on top of a history, for as long as the token is outstanding and no longer
unfoldable pub AreWhileOpen : Setup → List Entry → ℕ → List Entry → Type 0
AreWhileOpen S H t [] = Unit {0}
AreWhileOpen S H t (e ∷ earlier) = Continues S (earlier ++ H) t e × AreWhileOpen S H t earlier

-- the last of them failed
abbrev pub ends_in_fault : List Entry → Bool
ends_in_fault [] = false
ends_in_fault (e ∷ earlier) = is_fault e

-- the first byte of a request that a command of it is for
abbrev pub first_byte : Setup → Request → Entry → ℕ
first_byte S q (Done t c) = low_in S q (first_block c)
first_byte S q (Fault t c done) = low_in S q (first_block c)
first_byte S q e = 0

abbrev pub IsBehind : Setup → Request → Entry → List Entry → Type 0
IsBehind S q e [] = Unit {0}
IsBehind S q e (before ∷ earlier) = first_byte S q before ≤ first_byte S q e

-- commands of this token alone, in order of byte
unfoldable pub AreOwnInOrder : Setup → ℕ → Request → List Entry → Type 0
AreOwnInOrder S t q [] = Unit {0}
AreOwnInOrder S t q (e ∷ earlier) = (is_command_of t e ≡ true) × IsBehind S q e earlier × AreOwnInOrder S t q earlier

-- the later history has the same tokens, and the ended ones are as they were
pub record Stays (S : Setup) (H H' : List Entry) : Type 0 where
  pub count : token_count H' ≡ token_count H
  pub named : (t : ℕ) → request H' t ≡ request H t
  pub collected : (t : ℕ) → was_collected H' t ≡ was_collected H t
  pub marked : (t : ℕ) (status : Status) → mark_of S H t ≡ Some status → mark_of S H' t ≡ Some status
  pub given : (t : ℕ) (status : Status) → mark_of S H t ≡ Some status → (x : ℕ) → bytes_read S H' t x ≡ bytes_read S H t x
