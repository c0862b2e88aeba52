-- What cancels, resets, ejections, insertions and protections end, and what stays of the media that are out.
use Rattle.std.proofs.Common.{◌≡◌, ◌≢◌, ℕ, ◌+◌, ◌<◌, ◌≤◌, inl, inr, Bool, true, false, not, ◌&&◌, if◌then◌else◌, List, [], ◌∷◌, Option, None, Some, is_none, option_map, refl, ◌∙◌, ap, arith, nat_eq, nat_lt}
use Rattle.std.specs.List.{count_by}
use Rattle.std.proofs.lemmas.Bool.{cases_Bool, and_right, both_ways, eq-eqb, ne_eqb}
use Rattle.std.proofs.lemmas.List.Sums.{sum_by-cons}
use Rattle.efi_status.specs.declared.Status.{Status}
use Rattle.efi_status.specs.declared.Status.TheVariants.{WriteProtected, NoMedia, Aborted}
use Rattle.history.specs.declared.entry.View.{View}
use Rattle.history.specs.declared.entry.Command.{Command}
use Rattle.history.specs.declared.entry.Entry.{Entry}
use Rattle.history.specs.declared.entry.Entry.TheVariants.{Done, Fault, Cancel, Reset, Eject, Protect}
use Rattle.history.specs.Setup.{Setup, first_of}
use Rattle.history.specs.Eras.{is_command, is_fault, is_insert, media_id_of, is_present, is_protected, era_count, era_commands, era_faults}
use Rattle.history.specs.Tokens.{is_accept, token_count, request}
use Rattle.history.specs.Contents.{pieces_of, patch_all, contents, flushed_contents, kept_contents}
use Rattle.history.specs.Marks.{mark_of, ending, status_if, or_else, has_view, is_some_change, is_outstanding}
use Rattle.history.specs.Rules.{MayCommand, MayFollow, IsLegal}
use Rattle.history_laws.specs.Eras.{IsOut}
use Rattle.history_laws.proofs.CountLemmas.{accepted-same, inserts-more, inserts-same}
use Rattle.history_laws.proofs.EndLemmas.{command-open, open-request}
use Rattle.history_laws.proofs.ContentLemmas.{is_flush_entry, contents-same, contents-other, piece-none, flushed-other, kept-same, kept-other}
use Rattle.history_laws.proofs.MediaLemmas.{open-media}

none-or : (m later : Option Status) → is_none (or_else m later) ≡ (is_none m && is_none later)
none-or None later = refl
none-or (Some status) later = refl

and-assoc : (p q r : Bool) → (p && (q && r)) ≡ ((p && q) && r)
and-assoc true q r = refl
and-assoc false q r = refl

-- an entry leaves open those open tokens that it does not end
pub outstanding-next : (S : Setup) (H : List Entry) (e : Entry) (t : ℕ) → is_accept e ≡ false → is_outstanding S (e ∷ H) t ≡ (is_outstanding S H t && is_none (ending S H e t))
unfolding mark_of
outstanding-next S H e t old =
    rw (accepted-same H e old) (ap (λ ended. nat_lt t (token_count H) && ended) (none-or (mark_of S H t) (ending S H e t)) ∙ and-assoc (nat_lt t (token_count H)) (is_none (mark_of S H t)) (is_none (ending S H e t)))

-- whether an end comes
pub none-if : (b : Bool) (status : Status) → is_none (status_if b status) ≡ not b
none-if true status = refl
none-if false status = refl

-- a cancel ends the open tokens of its view, and no other
pub outstanding-cancel : (S : Setup) (H : List Entry) (tag : ℕ) (view : View) (t : ℕ) → is_outstanding S (Cancel tag view ∷ H) t ≡ (is_outstanding S H t && not (has_view view (request H t)))
unfolding ending
outstanding-cancel S H tag view t = outstanding-next S H (Cancel tag view) t refl ∙ ap (λ b. is_outstanding S H t && b) (none-if (has_view view (request H t)) Aborted)

-- a protection ends the open tokens that change bytes, and no other
pub outstanding-protect : (S : Setup) (H : List Entry) (tag : ℕ) (on : Bool) (t : ℕ) → is_outstanding S (Protect tag on ∷ H) t ≡ (is_outstanding S H t && not (on && is_some_change (request H t)))
unfolding ending
outstanding-protect S H tag on t = outstanding-next S H (Protect tag on) t refl ∙ ap (λ b. is_outstanding S H t && b) (none-if (on && is_some_change (request H t)) WriteProtected)

-- turning it on
pub outstanding-protect-on : (S : Setup) (H : List Entry) (tag t : ℕ) → is_outstanding S (Protect tag true ∷ H) t ≡ (is_outstanding S H t && not (is_some_change (request H t)))
outstanding-protect-on S H tag t = outstanding-protect S H tag true t

and-not : (p q : Bool) → ((p && q) && not p) ≡ false
and-not true true = refl
and-not true false = refl
and-not false q = refl

-- a reset ends every open token
pub outstanding-reset : (S : Setup) (H : List Entry) (tag t : ℕ) → is_outstanding S (Reset tag ∷ H) t ≡ false
unfolding ending
outstanding-reset S H tag t =
    outstanding-next S H (Reset tag) t refl ∙ (ap (λ b. is_outstanding S H t && b) (none-if (nat_lt t (token_count H)) Aborted) ∙ and-not (nat_lt t (token_count H)) (is_none (mark_of S H t)))

-- so does an ejection
pub outstanding-eject : (S : Setup) (H : List Entry) (tag t : ℕ) → is_outstanding S (Eject tag ∷ H) t ≡ false
unfolding ending
outstanding-eject S H tag t =
    outstanding-next S H (Eject tag) t refl ∙ (ap (λ b. is_outstanding S H t && b) (none-if (nat_lt t (token_count H)) NoMedia) ∙ and-not (nat_lt t (token_count H)) (is_none (mark_of S H t)))

and-true : (p : Bool) → (p && true) ≡ p
and-true true = refl
and-true false = refl

-- lifting the protection ends none
pub mark-unprotect : (S : Setup) (H : List Entry) (tag t : ℕ) → mark_of S (Protect tag false ∷ H) t ≡ mark_of S H t
unfolding mark_of ending
mark-unprotect S H tag t = by (mark_of S H t)
  where
    by : (m : Option Status) → or_else m None ≡ m
    by None = refl
    by (Some status) = refl

-- the last protection counts
pub protected-now : (S : Setup) (H : List Entry) (tag : ℕ) (on : Bool) → is_protected S (Protect tag on ∷ H) ≡ on
unfolding is_protected
protected-now S H tag on = refl

abbrev pub is_protect : Entry → Bool
is_protect (Protect tag on) = true
is_protect e = false

pub protected-same : (S : Setup) (H : List Entry) (e : Entry) → is_protect e ≡ false → is_protected S (e ∷ H) ≡ is_protected S H
unfolding is_protected
protected-same S H (Protect tag on) isnt = cc
protected-same S H e isnt = refl

-- media ids only rise
pub media-id-rises : (H : List Entry) (e : Entry) → media_id_of H ≤ media_id_of (e ∷ H)
media-id-rises H e = elim (cases_Bool (is_insert e)) [ inl is ↦ omega (arith, inserts-more H e is) | inr isnt ↦ omega (arith, inserts-same H e isnt) ]

out-no-open : (S : Setup) (H : List Entry) (u : ℕ) (c : Command) → IsLegal S H → MayCommand S H u c → is_present H ≡ false → ⊥
out-no-open S H u c legal may out =
    let (r, named) = open-request S H u (command-open S H u c may) in
    both_ways (is_present H) out (open-media S H u r legal (command-open S H u c may) named).0

-- no command is made while no medium is in
pub out-no-command : (S : Setup) (H : List Entry) (e : Entry) → IsLegal S H → MayFollow S H e → is_present H ≡ false → is_command e ≡ false
unfolding MayFollow
out-no-command S H (Done u c) legal may out = absurd (out-no-open S H u c legal may out)
out-no-command S H (Fault u c done) legal may out = absurd (out-no-open S H u c legal may.0 out)
out-no-command S H e legal may out = refl

flush-is-command : (e : Entry) → is_command e ≡ false → is_flush_entry e ≡ false
flush-is-command (Done u c) isnt = cc
flush-is-command e isnt = refl

fault-is-command : (e : Entry) → is_command e ≡ false → is_fault e ≡ false
fault-is-command (Fault u c done) isnt = cc
fault-is-command e isnt = refl

-- a medium that is out keeps what it holds
pub out-contents : (S : Setup) (k : ℕ) (H : List Entry) (e : Entry) → IsLegal S H → MayFollow S H e → IsOut H k → contents S k (e ∷ H) ≡ contents S k H
out-contents S k H e legal may (inl out) = contents-other S k H e out
out-contents S k H e legal may (inr out) = contents-same S k H e (piece-none S H e (out-no-command S H e legal may out))

-- and what is kept of it
pub out-kept : (S : Setup) (k : ℕ) (H : List Entry) (e : Entry) → IsLegal S H → MayFollow S H e → IsOut H k → kept_contents S k (e ∷ H) ≡ kept_contents S k H
out-kept S k H e legal may (inl out) = kept-other S k H e out
out-kept S k H e legal may (inr out) =
    let isnt : is_command e ≡ false = out-no-command S H e legal may out in
    kept-same S k H e (flush-is-command e isnt) (piece-none S H e isnt)

flushed-none : (S : Setup) (k : ℕ) → flushed_contents S k [] ≡ first_of S k
unfolding flushed_contents
flushed-none S k = refl

later-pieces : (S : Setup) (k : ℕ) (H : List Entry) → media_id_of H < k → pieces_of S k H ≡ []
unfolding pieces_of
later-pieces S k [] later = refl
later-pieces S k (e ∷ H) later =
    let before : media_id_of H < k = omega (arith, later, media-id-rises H e) in
    rw (ne_eqb (media_id_of H) k (λ same. absurd (omega (arith, same, before)))) (later-pieces S k H before)

later-flushed : (S : Setup) (k : ℕ) (H : List Entry) → media_id_of H < k → flushed_contents S k H ≡ first_of S k
later-flushed S k [] later = flushed-none S k
later-flushed S k (e ∷ H) later =
    let before : media_id_of H < k = omega (arith, later, media-id-rises H e) in
    flushed-other S k H e (λ same. absurd (omega (arith, same, before))) ∙ later-flushed S k H before

-- a medium that was not yet in holds its opening bytes
pub later-contents : (S : Setup) (k : ℕ) (H : List Entry) → media_id_of H < k → contents S k H ≡ first_of S k
unfolding contents patch_all
later-contents S k H later = rw (later-pieces S k H later) (by (first_of S k))
  where
    by : (first : Option (List ℕ)) → option_map (patch_all []) first ≡ first
    by None = refl
    by (Some bytes) = refl

-- and so does what is kept of it
pub later-kept : (S : Setup) (k : ℕ) (H : List Entry) → media_id_of H < k → kept_contents S k H ≡ first_of S k
unfolding kept_contents
later-kept S k H later = by S.cached
  where
    by : (cached : Bool) → (if cached then flushed_contents S k H else contents S k H) ≡ first_of S k
    by true = later-flushed S k H later
    by false = later-contents S k H later

-- both are its opening bytes
pub later-first : (S : Setup) (k : ℕ) (H : List Entry) → media_id_of H < k → (contents S k H ≡ first_of S k) × (kept_contents S k H ≡ first_of S k)
later-first S k H later = (later-contents S k H later, later-kept S k H later)

-- an entry of another era does not count
pub era_count-other : (test : Entry → Bool) (k : ℕ) (H : List Entry) (e : Entry) → media_id_of H ≢ k → era_count test k (e ∷ H) ≡ era_count test k H
unfolding era_count
era_count-other test k H e out = rw (ne_eqb (media_id_of H) k out)

-- nor does one that fails the test
pub era_count-same : (test : Entry → Bool) (k : ℕ) (H : List Entry) (e : Entry) → test e ≡ false → era_count test k (e ∷ H) ≡ era_count test k H
unfolding era_count
era_count-same test k H e fails = rw (and_right (nat_eq (media_id_of H) k) (test e) fails)

-- one of the era that passes it does
pub era_count-more : (test : Entry → Bool) (k : ℕ) (H : List Entry) (e : Entry) → media_id_of H ≡ k → test e ≡ true → era_count test k (e ∷ H) ≡ era_count test k H + 1
unfolding era_count
era_count-more test k H e in_ passes = rw (eq-eqb (media_id_of H) k in_, passes)

-- the counts of an era whose medium is out stay
pub out-commands : (S : Setup) (k : ℕ) (H : List Entry) (e : Entry) → IsLegal S H → MayFollow S H e → IsOut H k → era_count is_command k (e ∷ H) ≡ era_count is_command k H
out-commands S k H e legal may (inl out) = era_count-other is_command k H e out
out-commands S k H e legal may (inr out) = era_count-same is_command k H e (out-no-command S H e legal may out)

pub out-faults : (S : Setup) (k : ℕ) (H : List Entry) (e : Entry) → IsLegal S H → MayFollow S H e → IsOut H k → era_count is_fault k (e ∷ H) ≡ era_count is_fault k H
out-faults S k H e legal may (inl out) = era_count-other is_fault k H e out
out-faults S k H e legal may (inr out) = era_count-same is_fault k H e (fault-is-command e (out-no-command S H e legal may out))

-- an era counts no more than the whole history
pub era_count-within : (test : Entry → Bool) (k : ℕ) (H : List Entry) → era_count test k H ≤ count_by test H
unfolding era_count
era_count-within test k [] = omega arith
era_count-within test k (e ∷ H) = rw (sum_by-cons) (by (nat_eq (media_id_of H) k) (test e) (era_count-within test k H))
  where
    by : (in_ passes : Bool) → era_count test k H ≤ count_by test H → (if in_ && passes then era_count test k H + 1 else era_count test k H) ≤ (if passes then 1 else 0) + count_by test H
    by true true less = omega arith
    by true false less = omega arith
    by false true less = omega arith
    by false false less = omega arith

-- a medium that is out stays as it is
pub out-stays : (S : Setup) (k : ℕ) (H : List Entry) (e : Entry) → IsLegal S H → MayFollow S H e → IsOut H k
    → (contents S k (e ∷ H) ≡ contents S k H) × (kept_contents S k (e ∷ H) ≡ kept_contents S k H) × (era_commands k (e ∷ H) ≡ era_commands k H) × (era_faults k (e ∷ H) ≡ era_faults k H)
out-stays S k H e legal may out = (out-contents S k H e legal may out, out-kept S k H e legal may out, out-commands S k H e legal may out, out-faults S k H e legal may out)
