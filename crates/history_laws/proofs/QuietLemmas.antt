-- What an entry leaves that is no command, or that ends tokens.
use Rattle.std.proofs.Common.{List, None, Some, ap, false, inl, inr, nat_eq, refl, subst, sym, ℕ, ◌∙◌, ◌∷◌, ◌≡◌, ◌≢◌}
use Rattle.std.proofs.lemmas.Bool.{and_left, cases_eq, ne_eqb, true≢false}
use Rattle.efi_status.specs.declared.Status.TheVariants.{DeviceError}
use Rattle.history.specs.Commands.{block_count, first_block, is_at, is_get, is_store, lies_in}
use Rattle.history.specs.Contents.{bytes_read}
use Rattle.history.specs.Eras.{is_command, is_eject, is_fault, is_insert}
use Rattle.history.specs.Marks.{ending, is_fetch_entry, mark_of}
use Rattle.history.specs.Rules.{IsLegal, MayFollow}
use Rattle.history.specs.Setup.{IsSetup, Setup}
use Rattle.history.specs.Tokens.{is_accept, is_collect_of, was_collected}
use Rattle.history.specs.declared.entry.Command.{Command}
use Rattle.history.specs.declared.entry.Command.TheVariants.{Fetch, Get, Put, Store, Sync, Wipe}
use Rattle.history.specs.declared.entry.Entry.{Entry}
use Rattle.history.specs.declared.entry.Entry.TheVariants.{Accept, Cancel, Collect, Done, Eject, Fault, Insert, Protect, Refuse, Reset}
use Rattle.history_laws.proofs.ContentLemmas.{is_flush_entry}
use Rattle.history_laws.proofs.EndLemmas.{command-open, mark-fault}
use Rattle.history_laws.proofs.EraLemmas.{is_protect}
use Rattle.history_laws.proofs.TokenLemmas.{bytes_read-kept, bytes_read-other, collected-same, done-concerns}
use Rattle.history_laws.specs.Gates.{is_store_at, is_store_of}
use Rattle.history_laws.specs.TokenFacts.{is_done}

-- what is no command is no flush
pub flush-none : (e : Entry) → is_command e ≡ false → is_flush_entry e ≡ false
flush-none (Accept tag view asked bytes) still = refl
flush-none (Refuse tag view asked media_id status) still = refl
flush-none (Done t c) still = absurd (true≢false still)
flush-none (Fault t c done) still = refl
flush-none (Collect tag t) still = refl
flush-none (Cancel tag view) still = refl
flush-none (Reset tag) still = refl
flush-none (Eject tag) still = refl
flush-none (Insert tag k) still = refl
flush-none (Protect tag on) still = refl

-- nor a fault
pub fault-none : (e : Entry) → is_command e ≡ false → is_fault e ≡ false
fault-none (Accept tag view asked bytes) still = refl
fault-none (Refuse tag view asked media_id status) still = refl
fault-none (Done t c) still = refl
fault-none (Fault t c done) still = still
fault-none (Collect tag t) still = refl
fault-none (Cancel tag view) still = refl
fault-none (Reset tag) still = refl
fault-none (Eject tag) still = refl
fault-none (Insert tag k) still = refl
fault-none (Protect tag on) still = refl

-- an entry that makes no command, ends no token, and changes no medium
pub record IsStill (S : Setup) (H : List Entry) (e : Entry) : Type 0 where
  pub setup : IsSetup S
  pub legal : IsLegal S (e ∷ H)
  pub may : MayFollow S H e
  pub quiet : is_command e ≡ false
  pub adds_none : is_accept e ≡ false
  pub stays_in : is_eject e ≡ false
  pub puts_none : is_insert e ≡ false
  pub keeps_protection : is_protect e ≡ false
  pub unending : (t : ℕ) → ending S H e t ≡ None

-- what is no command is no done command
pub no-done : (e : Entry) → is_command e ≡ false → is_done e ≡ false
no-done (Done t c) still = absurd (true≢false still)
no-done e still = refl

-- nor a fetch
pub no-fetch : (e : Entry) → is_command e ≡ false → is_fetch_entry e ≡ false
no-fetch (Done t c) still = absurd (true≢false still)
no-fetch (Fault t c done) still = absurd (true≢false still)
no-fetch e still = refl

-- nor a store
pub no-store : (t b : ℕ) (e : Entry) → is_command e ≡ false → is_store_of t b e ≡ false
no-store t b (Done u c) still = absurd (true≢false still)
no-store t b (Fault u c done) still = absurd (true≢false still)
no-store t b e still = refl

-- so what was read stays
pub read-same : (S : Setup) (H : List Entry) (e : Entry) (t x : ℕ) → is_command e ≡ false → bytes_read S (e ∷ H) t x ≡ bytes_read S H t x
unfolding bytes_read
read-same S H (Done u c) t x still = absurd (true≢false still)
read-same S H e t x still = refl

-- a collect is still
pub still-collect : (S : Setup) (H : List Entry) (tag t : ℕ) → IsSetup S → IsLegal S H → MayFollow S H (Collect tag t) → IsStill S H (Collect tag t)
unfolding IsLegal ending
still-collect S H tag t setup legal may = record {
  setup = setup;
  legal = (legal, may);
  may = may;
  quiet = refl;
  adds_none = refl;
  stays_in = refl;
  puts_none = refl;
  keeps_protection = refl;
  unending = λ u. refl;
}

-- and hands no other token back
pub other-collect : (H : List Entry) (tag t u : ℕ) → t ≢ u → was_collected (Collect tag t ∷ H) u ≡ was_collected H u
other-collect H tag t u other = collected-same H (Collect tag t) u (ne_eqb t u other)

-- an entry that ends tokens and does nothing else to them
pub record IsEnding (S : Setup) (H : List Entry) (e : Entry) : Type 0 where
  pub may : MayFollow S H e
  pub adds_none : is_accept e ≡ false
  pub unmoving : is_done e ≡ false
  pub collects_none : (t : ℕ) → is_collect_of t e ≡ false
  pub puts_none : is_insert e ≡ false
  pub stores_ended : (t b : ℕ) → mark_of S (e ∷ H) t ≡ None → is_store_of t b e ≡ false

-- what is no done command reads nothing
pub read-undone : (S : Setup) (H : List Entry) (e : Entry) (t x : ℕ) → is_done e ≡ false → bytes_read S (e ∷ H) t x ≡ bytes_read S H t x
unfolding bytes_read
read-undone S H (Done u c) t x undone = absurd (true≢false undone)
read-undone S H e t x undone = refl

-- a fault is an entry that may end tokens
pub ending-fault : (S : Setup) (H : List Entry) (t : ℕ) (command : Command) (done : ℕ) → MayFollow S H (Fault t command done) → IsEnding S H (Fault t command done)
unfolding MayFollow
ending-fault S H t command done may = record {
  may = may;
  adds_none = refl;
  unmoving = refl;
  collects_none = λ u. refl;
  puts_none = refl;
  stores_ended = λ u b unmarked. elim (cases_eq t u) [
    | inl same ↦ absurd (clash (sym (mark-fault S H t command done (command-open S H t command may.0).unmarked) ∙ (ap (mark_of S (Fault t command done ∷ H)) same ∙ unmarked)))
    | inr other ↦ and_left (nat_eq t u) (is_store_at b command) (ne_eqb t u other)
  ];
}
  where
    clash : Some DeviceError ≡ None → ⊥
    clash e = cc

-- the entry belongs to a command
pub record IsMakingEntry (e : Entry) : Type 0 where
  pub adds_none : is_accept e ≡ false
  pub stays_in : is_eject e ≡ false
  pub puts_none : is_insert e ≡ false
  pub keeps_protection : is_protect e ≡ false

-- a done command makes an entry of its medium
pub done-entry : (t : ℕ) (command : Command) → IsMakingEntry (Done t command)
done-entry t command = record { adds_none = refl; stays_in = refl; puts_none = refl; keeps_protection = refl }

-- and so does a fault
pub fault-entry : (t : ℕ) (command : Command) (done : ℕ) → IsMakingEntry (Fault t command done)
fault-entry t command done = record { adds_none = refl; stays_in = refl; puts_none = refl; keeps_protection = refl }

-- a command that is no store stores no group
pub unstored : (b : ℕ) (command : Command) → is_store command ≡ false → (is_store_at b command ≡ false) × (is_at is_store b command ≡ false)
unstored b (Fetch d) other = (refl, refl)
unstored b (Store d) other = cc
unstored b (Put d n) other = (refl, refl)
unstored b (Get d n) other = (refl, refl)
unstored b (Wipe d n) other = (refl, refl)
unstored b Sync other = (refl, refl)

-- what was read stays, where the command is no get
pub read-other : (S : Setup) (H : List Entry) (t u x : ℕ) (c : Command) → is_get c ≡ false → bytes_read S (Done t c ∷ H) u x ≡ bytes_read S H u x
read-other S H t u x c quiet = elim (cases_eq t u) [
  | inr other ↦ bytes_read-other S H (Done t c) u x (done-concerns H t u c other)
  | inl same ↦ subst (λ v. bytes_read S (Done t c ∷ H) v x ≡ bytes_read S H v x) same (bytes_read-kept S H t x c (and_left (is_get c) (lies_in S (first_block c) (block_count S c) x) quiet))
]
