-- The one history that the plain schedule makes of the lines of many clients (own profile). A history stands newest entry
-- first. Client i counts from 0 and has the tag i + 1.
use Rattle.std.specs.Prelude.{ℕ, zero, suc, ◌+◌, ◌-◌, ◌*◌, Bool, true, false, not, nat_eq, ◌&&◌, if◌then◌else◌, List, [], ◌∷◌, length, take, slice_get, slice_set, Option, None, Some, is_none}
use Rattle.std.specs.List.{list_all}
use Rattle.history.specs.declared.entry.Entry.{Entry}
use Rattle.history.specs.declared.entry.Entry.TheVariants.{Done, Fault, Collect}
use Rattle.history.specs.declared.order.Order.{Order}
use Rattle.history.specs.declared.order.Order.TheVariants as order
use Rattle.history.specs.Setup.{Setup}
use Rattle.history.specs.Tokens.{Request, token_count, request, was_collected}
use Rattle.history.specs.Next.{first_open, Turn, next_turn, Outcome, Made, Failed, entry_of}
use Rattle.disk_core.specs.Calls.{is_fetched}
use Rattle.shared_disk.specs.declared.clients.Stand.{Stand}
use Rattle.shared_disk.specs.Lines.{Role, line_entry, with_line_entry, first_own_open}

-- how each command of a history ended, the oldest first, with these behind them
unfoldable pub outcomes_onto : List Entry → List Outcome → List Outcome
outcomes_onto [] more = more
outcomes_onto (Done t c ∷ before) more = outcomes_onto before (Made ∷ more)
outcomes_onto (Fault t c done ∷ before) more = outcomes_onto before (Failed done ∷ more)
outcomes_onto (e ∷ before) more = outcomes_onto before more

-- one for each command that came after the opening history
unfoldable pub outcomes_after : List Entry → List Entry → List Outcome
outcomes_after opening H = outcomes_onto (take (length H - length opening) H) []

-- the entries so far, what each client has left, and how the next commands end
pub record Progress : Type 0 where
  pub history : List Entry
  pub lefts : List Role
  pub outcomes : List Outcome

abbrev pub progress : List Entry → List Role → List Outcome → Progress
progress H lefts outcomes = record { history = H; lefts = lefts; outcomes = outcomes }

abbrev pub collect_one : (ℕ → Bool) → List Entry → ℕ → Option Request → Bool → List Entry
collect_one test H t None was = H
collect_one test H t (Some r) true = H
collect_one test H t (Some r) false = if test r.tag then Collect r.tag t ∷ H else H

-- a token that was not collected and whose tag passes the test is collected, with its own tag
abbrev pub with_collect : (ℕ → Bool) → List Entry → ℕ → List Entry
with_collect test H t = collect_one test H t (request H t) (was_collected H t)

-- so with the n tokens from a on, in order of number
unfoldable pub collects : (ℕ → Bool) → List Entry → ℕ → ℕ → List Entry
collects test H a zero = H
collects test H a (suc n) = collects test (with_collect test H a) (a + 1) n

-- all uncollected tokens of the client with this tag
unfoldable pub with_own_collects : List Entry → ℕ → List Entry
with_own_collects H tag = collects (λ owner. nat_eq owner tag) H 0 (token_count H)

-- all uncollected tokens whose tag is not 0
unfoldable pub with_last_collects : List Entry → List Entry
with_last_collects H = collects (λ tag. not (nat_eq tag 0)) H 0 (token_count H)

abbrev pub is_wait : Order → Bool
is_wait order.Wait = true
is_wait line = false

-- what a client makes of the entries, and what it has left then
pub record Taken : Type 0 where
  pub history : List Entry
  pub left : List Order

abbrev pub after_taking : List Entry → List Order → Taken
after_taking H left = record { history = H; left = left }

-- a wait stays while a token of its own client is outstanding; else it collects that client's tokens and is done
abbrev pub after_wait : Option ℕ → List Entry → ℕ → Order → List Order → Taken
after_wait (Some t) H tag line rest = after_taking H (line ∷ rest)
after_wait None H tag line rest = after_taking (with_own_collects H tag) rest

-- each other line is done
abbrev pub after_line : Setup → List Entry → ℕ → Stand → Order → List Order → Taken
after_line S H tag stand line rest =
    if is_wait line
    then after_wait (first_own_open S H tag) H tag line rest
    else after_taking (with_line_entry (line_entry S H tag stand line) H) rest

abbrev pub after_lines : Setup → List Entry → ℕ → Stand → List Order → Taken
after_lines S H tag stand [] = after_taking H []
after_lines S H tag stand (line ∷ rest) = after_line S H tag stand line rest

abbrev pub put_left : Progress → ℕ → Role → Taken → Progress
put_left s i role made = progress made.history (slice_set s.lefts i (record role { orders = made.left })) s.outcomes

abbrev pub after_line_if : Setup → ℕ → Progress → Option Role → Progress
after_line_if S i s None = s
after_line_if S i s (Some role) = put_left s i role (after_lines S s.history (i + 1) role.stand role.orders)

-- client i takes its next line, where it has one left
unfoldable pub after_line_of : Setup → ℕ → Progress → Progress
after_line_of S i s = after_line_if S i s (slice_get s.lefts i)

-- the first half of a round: so do the first n clients, in order of number
unfoldable pub after_lines_of_first : Setup → ℕ → Progress → Progress
after_lines_of_first S zero s = s
after_lines_of_first S (suc n) s = after_line_of S n (after_lines_of_first S n s)

-- how the next command ends: a missing outcome is done
abbrev pub next_outcome : List Outcome → Outcome
next_outcome [] = Made
next_outcome (outcome ∷ more) = outcome

abbrev pub later_outcomes : List Outcome → List Outcome
later_outcomes [] = []
later_outcomes (outcome ∷ more) = more

-- a turn is taken: its command is made
abbrev pub after_turn : Progress → Turn → Progress
after_turn s turn = progress (entry_of turn (next_outcome s.outcomes) ∷ s.history) s.lefts (later_outcomes s.outcomes)

abbrev pub after_turn_if : Progress → Option Turn → Progress
after_turn_if s None = s
after_turn_if s (Some turn) = after_turn s turn

-- the command that comes next is made, where a token is outstanding
unfoldable pub after_command : Setup → Progress → Progress
after_command S s = after_turn_if s (next_turn S s.history)

abbrev pub after_follow : Setup → Bool → Progress → Progress
after_follow S true s = after_command S s
after_follow S false s = s

abbrev pub after_step_if : Setup → Progress → Option Turn → Progress
after_step_if S s None = s
after_step_if S s (Some turn) = after_follow S (is_fetched turn.command (next_outcome s.outcomes)) (after_turn s turn)

-- the second half of a round: one step, and a fetched block is stored at once
unfoldable pub after_step : Setup → Progress → Progress
after_step S s = after_step_if S s (next_turn S s.history)

abbrev pub a_round : Setup → Progress → Progress
a_round S s = after_step S (after_lines_of_first S (length s.lefts) s)

abbrev pub has_none : List Order → Bool
has_none [] = true
has_none (line ∷ rest) = false

abbrev pub has_no_order : Role → Bool
has_no_order role = has_none role.orders

-- no client has a line left and no token is outstanding
abbrev pub is_over : Setup → Progress → Bool
is_over S s = list_all has_no_order s.lefts && is_none (first_open S s.history)

-- rounds until all is over; at most so many
unfoldable pub after_rounds : ℕ → Setup → Progress → Progress
after_rounds zero S s = s
after_rounds (suc n) S s = if is_over S s then s else after_rounds n S (a_round S s)

-- and then the last collects
abbrev pub plain_from : ℕ → Setup → Progress → List Entry
plain_from n S s = with_last_collects (after_rounds n S s).history

-- a line needs a round or two, and a byte that it asks for at most two commands
abbrev pub line_rounds : Order → ℕ
line_rounds (order.Request asked payload k) = 2 + 2 * asked.length
line_rounds line = 1

-- as many rounds as the lines of one client can need, however the commands end
unfoldable pub lines_rounds : List Order → ℕ
lines_rounds [] = 0
lines_rounds (line ∷ rest) = line_rounds line + lines_rounds rest

-- and those of all clients
unfoldable pub rounds : List Role → ℕ
rounds [] = 0
rounds (role ∷ more) = lines_rounds role.orders + rounds more

-- the history of the lines under the plain schedule after this opening history, with these outcomes of its commands
unfoldable pub plain_history : Setup → List Entry → List Role → List Outcome → List Entry
plain_history S opening roles outcomes = plain_from (rounds roles) S (progress opening roles outcomes)
