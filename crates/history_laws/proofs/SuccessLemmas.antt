-- A token that ended with success has moved each byte of its range.
use Rattle.std.proofs.Common.{◌≡◌, ◌∙◌, ℕ, ◌<◌, ◌≤◌, Bool, true, false, ◌&&◌, nat_eq, List, [], ◌∷◌, Option, None, Some, refl, sym, arith}
use Rattle.efi_status.specs.declared.Status.{Status}
use Rattle.efi_status.specs.declared.Status.TheVariants.{Success}
use Rattle.history.specs.declared.entry.Entry.{Entry}
use Rattle.history.specs.declared.entry.Entry.TheVariants.{Accept, Refuse, Done, Fault, Collect, Cancel, Reset, Eject, Insert, Protect}
use Rattle.history.specs.Setup.{Setup}
use Rattle.history.specs.Tokens.{Request, token_count, request, is_flush, from_of, until_of}
use Rattle.history.specs.Commands.{moves, is_moved}
use Rattle.history.specs.Marks.{mark_of, ending, status_if, is_complete}
use Rattle.history.specs.Rules.{IsLegal}
use Rattle.history_laws.proofs.EndLemmas.{mark-next, mark-stays, unaccepted, untold-mark}
use Rattle.history_laws.proofs.ScanLemmas.{all_from-each}
use Rattle.history_laws.proofs.TaskLemmas.{complete-moved}
use Rattle.history_laws.proofs.TokenLemmas.{request-kept, has_done-stays}

if-true : (b : Bool) (status : Status) → status_if b status ≡ Some Success → b ≡ true
if-true true status is = refl
if-true false status is = cc

and-last : (a b : Bool) → (a && b) ≡ true → b ≡ true
and-last true b is = is
and-last false b is = cc

-- the entry that ends a token with success completes it
ends-complete : (S : Setup) (H : List Entry) (e : Entry) (t : ℕ) → ending S H e t ≡ Some Success → is_complete S (e ∷ H) t ≡ true
unfolding ending
ends-complete S H (Accept tag view asked bytes) t is = and-last (nat_eq t (token_count H)) (is_complete S (Accept tag view asked bytes ∷ H) t) (if-true _ Success is)
ends-complete S H (Done u c) t is = and-last (nat_eq u t) (is_complete S (Done u c ∷ H) t) (if-true _ Success is)
ends-complete S H (Fault u c n) t is = other (nat_eq u t) is
  where
    other : (b : Bool) → status_if b Status.DeviceError ≡ Some Success → is_complete S (Fault u c n ∷ H) t ≡ true
    other true is = cc
    other false is = cc
ends-complete S H (Cancel tag view) t is = other _ is
  where
    other : (b : Bool) → status_if b Status.Aborted ≡ Some Success → is_complete S (Cancel tag view ∷ H) t ≡ true
    other true is = cc
    other false is = cc
ends-complete S H (Reset tag) t is = other _ is
  where
    other : (b : Bool) → status_if b Status.Aborted ≡ Some Success → is_complete S (Reset tag ∷ H) t ≡ true
    other true is = cc
    other false is = cc
ends-complete S H (Eject tag) t is = other _ is
  where
    other : (b : Bool) → status_if b Status.NoMedia ≡ Some Success → is_complete S (Eject tag ∷ H) t ≡ true
    other true is = cc
    other false is = cc
ends-complete S H (Protect tag on) t is = other _ is
  where
    other : (b : Bool) → status_if b Status.WriteProtected ≡ Some Success → is_complete S (Protect tag on ∷ H) t ≡ true
    other true is = cc
    other false is = cc
ends-complete S H (Refuse tag view asked k status) t is = cc
ends-complete S H (Collect tag u) t is = cc
ends-complete S H (Insert tag k) t is = cc

unmarked : (S : Setup) (t : ℕ) → mark_of S [] t ≡ Some Success → ⊥
unfolding mark_of
unmarked S t marked = cc

clash : (status : Status) → Some status ≡ None → ⊥
clash status e = cc

pub success-moved : (S : Setup) (H : List Entry) (t : ℕ) (q : Request) (x : ℕ) → IsLegal S H → mark_of S H t ≡ Some Success → request H t ≡ Some q → is_flush q.asked.kind ≡ false → from_of S q ≤ x → x < until_of S q → is_moved S H t x ≡ true
unfolding IsLegal
success-moved S [] t q x legal marked named moving from until = absurd (unmarked S t marked)
success-moved S (e ∷ H) t q x legal marked named moving from until = by (mark_of S H t) refl (λ was there. success-moved S H t q x legal.0 was there moving from until)
  where
    by : (o : Option Status) → mark_of S H t ≡ o → (mark_of S H t ≡ Some Success → request H t ≡ Some q → is_moved S H t x ≡ true) → is_moved S (e ∷ H) t x ≡ true
    by None none before =
        let complete : is_complete S (e ∷ H) t ≡ true = ends-complete S H e t (sym (mark-next S H e t none) ∙ marked) in
        all_from-each (is_moved S (e ∷ H) t) (from_of S q) q.asked.length x (sym (complete-moved S (e ∷ H) t q named moving) ∙ complete) from until
    by (Some status) some before = has_done-stays (moves S x) H e t (before (some ∙ (sym (mark-stays S H e t status some) ∙ marked)) (sym (request-kept H e t (λ same. absurd (clash status (sym some ∙ untold-mark S H t (unaccepted S H t legal.0 (omega (arith, same))))))) ∙ named))
