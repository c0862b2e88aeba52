-- Tickets: which fetch holds a group.
use Rattle.std.proofs.Common.{◌≡◌, ◌≢◌, ◌⊎◌, ℕ, ◌<◌, ◌≤◌, inl, inr, true, false, ◌&&◌, List, [], ◌∷◌, None, Some, refl, sym, ◌∙◌, ap, arith, nat_eq}
use Rattle.std.proofs.lemmas.Bool.{cases_eq, cases_Bool, and_parts, both_ways, eq-eqb, eqb-true, ne_eqb}
use Rattle.history.specs.declared.entry.Command.{Command}
use Rattle.history.specs.declared.entry.Command.TheVariants.{Fetch, Store, Put, Get, Wipe, Sync}
use Rattle.history.specs.declared.entry.Entry.{Entry}
use Rattle.history.specs.declared.entry.Entry.TheVariants.{Done}
use Rattle.history.specs.Setup.{Setup, IsSetup}
use Rattle.history.specs.Commands.{is_fetch, is_store, is_at, done_commands, has_done}
use Rattle.history.specs.Marks.{mark_of, is_fetch_entry, fetches, ticket_of, was_stored, Holds, HoldsBy}
use Rattle.history.specs.Rules.{MayCommand, MayFollow, IsLegal}
use Rattle.history_laws.specs.Gates.{is_store_at, is_store_of}
use Rattle.history_laws.proofs.CountLemmas.{fetches-more, fetches-same}
use Rattle.history_laws.proofs.TokenLemmas.{has_done-stays}
use Rattle.history_laws.proofs.EndLemmas.{accepted-rises}
use Rattle.history_laws.proofs.HolderLemmas.{fetch-is, holds-before, fetch-holds, fetch-unheld}

fetches-rise : (H : List Entry) (e : Entry) → fetches H ≤ fetches (e ∷ H)
fetches-rise H e = elim (cases_Bool (is_fetch_entry e)) [ inl is ↦ omega (arith, fetches-more H e is) | inr isnt ↦ omega (arith, fetches-same H e isnt) ]

-- a fetch of the group by the token has the next ticket
pub ticket-fetch : (H : List Entry) (t b : ℕ) → ticket_of (Done t (Fetch b) ∷ H) t b ≡ Some (fetches H)
unfolding ticket_of
ticket-fetch H t b = rw (eq-eqb t t refl, eq-eqb b b refl)

-- another entry leaves the ticket
pub ticket-kept : (H : List Entry) (e : Entry) (t b : ℕ) → e ≢ Done t (Fetch b) → ticket_of (e ∷ H) t b ≡ ticket_of H t b
unfolding ticket_of
ticket-kept H (Done u c) t b other = elim (cases_Bool (nat_eq u t && is_at is_fetch b c)) [
  | inr isnt ↦ rw isnt
  | inl is ↦
      let parts : (nat_eq u t ≡ true) × (is_at is_fetch b c ≡ true) = and_parts (nat_eq u t) (is_at is_fetch b c) is in
      let token : u ≡ t = eqb-true u t parts.0 in
      let fetch : c ≡ Fetch b = fetch-is b c parts.1 in
      absurd (other (ap (λ v. Done v c) token ∙ ap (λ d. Done t d) fetch))
]
ticket-kept H e t b other = refl

done-same : (u t b : ℕ) (c : Command) → u ≡ t → c ≡ Fetch b → Done u c ≡ Done t (Fetch b)
done-same u t b c token fetch = ap (λ v. Done v c) token ∙ ap (λ d. Done t d) fetch

-- whether an entry is the token's fetch of the group
is-fetch-of : (e : Entry) (t b : ℕ) → (e ≡ Done t (Fetch b)) ⊎ (e ≢ Done t (Fetch b))
is-fetch-of (Done u c) t b = elim (cases_Bool (nat_eq u t && is_at is_fetch b c)) [
  | inl is ↦
      let parts : (nat_eq u t ≡ true) × (is_at is_fetch b c ≡ true) = and_parts (nat_eq u t) (is_at is_fetch b c) is in
      inl (done-same u t b c (eqb-true u t parts.0) (fetch-is b c parts.1))
  | inr isnt ↦ inr (λ same. differs u t b c isnt same)
]
  where
    both : (t b : ℕ) → (nat_eq t t && is_at is_fetch b (Fetch b)) ≡ true
    both t b = rw (eq-eqb t t refl, eq-eqb b b refl)

    differs : (u t b : ℕ) (c : Command) → (nat_eq u t && is_at is_fetch b c) ≡ false → Done u c ≡ Done t (Fetch b) → ⊥
    differs u t b c isnt same =
        let token : u ≡ t = cc in
        let fetch : c ≡ Fetch b = cc in
        both_ways (nat_eq u t && is_at is_fetch b c) isnt (rw (token, fetch) (both t b))
is-fetch-of e t b = inr (λ same. cc)

no-ticket : (t b k : ℕ) → ticket_of [] t b ≡ Some k → ⊥
unfolding ticket_of
no-ticket t b k is = cc

-- the newest fetch has the newest ticket
newest : (H : List Entry) (e : Entry) (t b k : ℕ) → e ≡ Done t (Fetch b) → ticket_of (e ∷ H) t b ≡ Some k → fetches H ≡ k
newest H e t b k now is = same (sym (ap (λ d. ticket_of (d ∷ H) t b) now ∙ ticket-fetch H t b) ∙ is)
  where
    same : Some (fetches H) ≡ Some k → fetches H ≡ k
    same e = cc

-- a ticket is below the number of fetches
pub ticket-below : (H : List Entry) (t b k : ℕ) → ticket_of H t b ≡ Some k → k < fetches H
ticket-below [] t b k is = absurd (no-ticket t b k is)
ticket-below (e ∷ H) t b k is = elim (is-fetch-of e t b) [
  | inr other ↦ omega (arith, ticket-below H t b k (sym (ticket-kept H e t b other) ∙ is), fetches-rise H e)
  | inl now ↦
      let same : fetches H ≡ k = newest H e t b k now is in
      omega (arith, same, fetches-more H e (rw now refl))
]

-- one fetch has one ticket
pub ticket-one : (H : List Entry) (t u b c k : ℕ) → ticket_of H t b ≡ Some k → ticket_of H u c ≡ Some k → (t ≡ u) × (b ≡ c)
ticket-one [] t u b c k first second = absurd (no-ticket t b k first)
ticket-one (e ∷ H) t u b c k first second =
    by (is-fetch-of e t b) (is-fetch-of e u c) (λ one two. ticket-one H t u b c k one two)
  where
    by : (e ≡ Done t (Fetch b)) ⊎ (e ≢ Done t (Fetch b)) → (e ≡ Done u (Fetch c)) ⊎ (e ≢ Done u (Fetch c)) → (ticket_of H t b ≡ Some k → ticket_of H u c ≡ Some k → (t ≡ u) × (b ≡ c)) → (t ≡ u) × (b ≡ c)
    by (inl now) (inl now') before =
        let same : Done t (Fetch b) ≡ Done u (Fetch c) = sym now ∙ now' in
        let fetch : Fetch b ≡ Fetch c = cc in
        (cc, cc)
    by (inl now) (inr other) before =
        let newest_is : fetches H ≡ k = newest H e t b k now first in
        absurd (omega (arith, newest_is, ticket-below H u c k (sym (ticket-kept H e u c other) ∙ second)))
    by (inr other) (inl now) before =
        let newest_is : fetches H ≡ k = newest H e u c k now second in
        absurd (omega (arith, newest_is, ticket-below H t b k (sym (ticket-kept H e t b other) ∙ first)))
    by (inr other) (inr other') before = before (sym (ticket-kept H e t b other) ∙ first) (sym (ticket-kept H e u c other') ∙ second)

-- the fetch of a holder is the only one with its ticket
pub holds-by-one : (S : Setup) (H : List Entry) (t u b c k : ℕ) → HoldsBy S H t b k → HoldsBy S H u c k → (t ≡ u) × (b ≡ c)
holds-by-one S H t u b c k first second = ticket-one H t u b c k first.ticket_is second.ticket_is

pub holds-by-below : (S : Setup) (H : List Entry) (t b k : ℕ) → HoldsBy S H t b k → k < fetches H
holds-by-below S H t b k is = ticket-below H t b k is.ticket_is

-- a holder held before by the same ticket, or has just fetched the group
pub holds-by-before : (S : Setup) (H : List Entry) (e : Entry) (t b k : ℕ) → IsSetup S → IsLegal S (e ∷ H) → HoldsBy S (e ∷ H) t b k → HoldsBy S H t b k ⊎ ((e ≡ Done t (Fetch b)) × (k ≡ fetches H))
unfolding IsLegal
holds-by-before S H e t b k is (legal, may) by_ticket = elim (is-fetch-of e t b) [
  | inl now ↦ inr (now, sym (newest H e t b k now by_ticket.ticket_is))
  | inr other ↦ inl (record { holds = held (holds-before S H e t b legal by_ticket.holds) other; ticket_is = sym (ticket-kept H e t b other) ∙ by_ticket.ticket_is })
]
  where
    held : Holds S H t b ⊎ (e ≡ Done t (Fetch b)) → e ≢ Done t (Fetch b) → Holds S H t b
    held (inl before) other = before
    held (inr now) other = absurd (other now)

-- a fetch holds its group by the next ticket
pub fetch-holds-by : (S : Setup) (H : List Entry) (t b : ℕ) → IsSetup S → IsLegal S H → MayCommand S H t (Fetch b) → HoldsBy S (Done t (Fetch b) ∷ H) t b (fetches H)
fetch-holds-by S H t b is legal may = record { holds = fetch-holds S H t b is legal may; ticket_is = ticket-fetch H t b }

store-at : (b : ℕ) (c : Command) → is_at is_store b c ≡ is_store_at b c
store-at b (Store d) = refl
store-at b (Fetch d) = refl
store-at b (Put d n) = refl
store-at b (Get d n) = refl
store-at b (Wipe d n) = refl
store-at b Sync = refl

-- another entry than the token's store leaves what was stored
store-kept : (H : List Entry) (e : Entry) (t b : ℕ) → is_store_of t b e ≡ false → was_stored (e ∷ H) t b ≡ was_stored H t b
unfolding has_done done_commands
store-kept H (Done u c) t b isnt = elim (cases_eq u t) [
  | inr other ↦ rw (ne_eqb u t other)
  | inl same ↦
      let apart : is_store_at b c ≡ false = rw (eq-eqb u t same) at isnt in
      rw (eq-eqb u t same, store-at b c ∙ apart)
]
store-kept H e t b isnt = refl

-- a holder stays one by its ticket until it stores the group or ends
pub holds-by-stays : (S : Setup) (H : List Entry) (e : Entry) (t b k : ℕ) → IsSetup S → MayFollow S H e → is_store_of t b e ≡ false → mark_of S (e ∷ H) t ≡ None → HoldsBy S H t b k → HoldsBy S (e ∷ H) t b k
unfolding MayFollow
holds-by-stays S H e t b k is may unstored unmarked by_ticket = record {
  holds = record {
    outstanding = record { token = omega (arith, by_ticket.holds.outstanding.token, accepted-rises H e); unmarked = unmarked };
    fetched = has_done-stays (is_at is_fetch b) H e t by_ticket.holds.fetched;
    unstored = store-kept H e t b unstored ∙ by_ticket.holds.unstored;
  };
  ticket_is = ticket-kept H e t b (λ now. fetch-unheld S H t t b is (rw now at may) by_ticket.holds) ∙ by_ticket.ticket_is;
}
