-- What tokens owe where `marks` says how each of them stands so far, and not yet the history (own profile).
use Rattle.std.specs.Prelude.{ℕ, zero, suc, ◌+◌, List, Option}
use Rattle.efi_status.specs.declared.Status.{Status}
use Rattle.history.specs.declared.entry.Entry.{Entry}
use Rattle.history.specs.Setup.{Setup}
use Rattle.history.specs.Tokens.{token_count, request, was_collected}
use Rattle.history.specs.Room.{request_owed, media_owed}

-- what a token owes so far
abbrev pub token_owed_so_far : Setup → List Entry → (ℕ → Option Status) → ℕ → ℕ
token_owed_so_far S H marks t = request_owed S H t (request H t) (marks t) (was_collected H t)

-- what the first n tokens owe so far
unfoldable pub tokens_owed_so_far : Setup → List Entry → (ℕ → Option Status) → ℕ → ℕ
tokens_owed_so_far S H marks zero = 0
tokens_owed_so_far S H marks (suc n) = tokens_owed_so_far S H marks n + token_owed_so_far S H marks n

-- the entries that the history must still have room for so far
abbrev pub owed_so_far : Setup → List Entry → (ℕ → Option Status) → ℕ
owed_so_far S H marks = tokens_owed_so_far S H marks (token_count H) + media_owed S H
