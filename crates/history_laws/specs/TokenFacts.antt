-- All that a history tells of a token, and which entries concern it (own profile).
use Rattle.std.specs.Prelude.{◌≡◌, ℕ, Bool, true, false, nat_eq, nat_lt, ◌&&◌, List, [], Option, None}
use Rattle.efi_status.specs.declared.Status.{Status}
use Rattle.history.specs.declared.entry.Command.{Command}
use Rattle.history.specs.declared.entry.Entry.{Entry}
use Rattle.history.specs.declared.entry.Entry.TheVariants.{Accept, Refuse, Done, Fault, Collect, Cancel, Reset, Eject, Insert, Protect}
use Rattle.history.specs.Setup.{Setup}
use Rattle.history.specs.Tokens.{Request, token_count, request, was_collected}
use Rattle.history.specs.Commands.{done_commands}
use Rattle.history.specs.Contents.{bytes_read}
use Rattle.history.specs.Marks.{has_view, is_some_change, mark_of, ticket_of}
use Rattle.history.specs.Room.{commands_of}

-- the request of a token, its end, whether it was handed back, its done commands, and how many were made for it; what
-- its reads got is told beside it, by the byte
pub record TokenFacts : Type 0 where
  pub named : Option Request
  pub mark : Option Status
  pub collected : Bool
  pub done : List Command
  pub made : ℕ

unfoldable pub facts_of : Setup → List Entry → ℕ → TokenFacts
facts_of S H t = record {
  named = request H t;
  mark = mark_of S H t;
  collected = was_collected H t;
  done = done_commands H t;
  made = commands_of H t;
}

-- what is told of a token that is not yet accepted
abbrev pub no_facts : TokenFacts
no_facts = record { named = None; mark = None; collected = false; done = []; made = 0 }

-- nothing is told of the token
pub record IsUntold (S : Setup) (H : List Entry) (t : ℕ) : Type 0 where
  pub told : facts_of S H t ≡ no_facts
  pub unread : (x : ℕ) → bytes_read S H t x ≡ None
  pub unticketed : (b : ℕ) → ticket_of H t b ≡ None

-- the entry may change what the history tells of the token
abbrev pub concerns : List Entry → Entry → ℕ → Bool
concerns H (Accept tag view asked bytes) t = nat_eq t (token_count H)
concerns H (Refuse tag view asked media_id status) t = false
concerns H (Done u c) t = nat_eq u t
concerns H (Fault u c done) t = nat_eq u t
concerns H (Collect tag u) t = nat_eq u t
concerns H (Cancel tag view) t = has_view view (request H t)
concerns H (Reset tag) t = nat_lt t (token_count H)
concerns H (Eject tag) t = nat_lt t (token_count H)
concerns H (Insert tag media_id) t = false
concerns H (Protect tag on) t = on && is_some_change (request H t)

abbrev pub is_done : Entry → Bool
is_done (Done t c) = true
is_done e = false
