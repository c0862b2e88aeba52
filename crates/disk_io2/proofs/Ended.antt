-- How a token that was served ended, and what its call answers.
use Rattle.std.proofs.Common.{◌≡◌, ◌≢◌, ◌⊎◌, inl, inr, ℕ, ◌+◌, ◌<◌, ◌≤◌, Bool, true, false, List, ◌∷◌, ◌++◌, None, Some, is_some, Result, Ok, Err, IfOk, IfErr, refl, sym, ◌∙◌, ap, subst, arith}
use Rattle.std.specs.Global.{Vec}
use Rattle.std.specs.Result.{IsErrAnd}
use Rattle.efi_status.specs.declared.Status.{Status}
use Rattle.efi_status.specs.declared.Status.TheVariants.{Success, DeviceError}
use Rattle.history.specs.declared.entry.View.{View}
use Rattle.history.specs.declared.entry.Entry.{Entry}
use Rattle.history.specs.declared.entry.Entry.TheVariants.{Accept}
use Rattle.history.specs.Setup.{IsSetup}
use Rattle.history.specs.Eras.{inserts}
use Rattle.history.specs.Tokens.{Request, token_count, request, was_collected}
use Rattle.history.specs.Marks.{mark_of, is_complete, status_if}
use Rattle.history.specs.Next.{first_open}
use Rattle.history_laws.proofs.CountLemmas.{accepted-more, inserts-same}
use Rattle.history_laws.proofs.TokenLemmas.{collected-same}
use Rattle.history_laws.proofs.EndLemmas.{mark-accept, mark-before, unaccepted, untold-collected}
use Rattle.history_laws.proofs.NextLemmas.{first-open-fails}
use Rattle.history_laws.proofs.PlainLemmas.{first-open-collect}
use Rattle.token_table.specs.declared.record.Done.{Done as DoneToken}
use Rattle.token_table.specs.declared.record.NotThere.{NotThere}
use Rattle.token_table.specs.declared.record.NotThere.TheVariants as not_there
use Rattle.token_table.specs.declared.record.Mark.TheVariants as mark
use Rattle.disk_core.specs.declared.answers.Ask.{Ask}
use Rattle.disk_core.specs.declared.answers.Refused.{Refused}
use Rattle.disk_core.specs.declared.answers.Token.{Token}
use Rattle.disk_core.specs.declared.answers.Why.{Why}
use Rattle.disk_core.specs.declared.answers.Why.TheVariants as why
use Rattle.disk_core.specs.State.{State, Kept}
use Rattle.disk_core.specs.Facts.{AreFacts}
use Rattle.disk_core.specs.Calls.{asked_of, bytes_of, buffer_of, Accepts, RefusesFor, Collects, SubmitSays, CollectSays, MarkSays}
use Rattle.disk_core.proofs.GoingOn.{rest_comes_back}
use Rattle.history_laws.specs.Serving.{AreWhileOpen, ends_in_fault}
use Rattle.history_laws.proofs.ServingLemmas.{EndsAs, IsOpenOrWell, ends-so, while-request}
use Rattle.history_laws.proofs.AloneLemmas.{own-in-order, none-open}
use Rattle.disk_io2.specs.Blocking.{FaultsRose, Serves, Finishes, CarriesOut, FailsFor, BlockingSays}
use Rattle.disk_io2.proofs.Faults.{faults-from, faults-to}

-- whether a token that was not handed back is outstanding
module _ (s : State) (t : ℕ) (uncollected : was_collected s.entries t ≡ false) (there : t < token_count s.entries) where
  pub known : MarkSays s t mark.Unknown → ⊥
  unfolding MarkSays
  known (inl past) = absurd (omega (arith, past, there))
  known (inr was) = clash (sym uncollected ∙ was)
    where
      clash : false ≡ true → ⊥
      clash e = cc

-- the answer of a served token
module _ (begun served new : State) (tag t : ℕ) (serves : Serves begun t served) (well : IsOpenOrWell begun.setup begun.entries t) where
  -- how it was handed back
  abbrev pub Handed : Status → List ℕ → Type 0
  Handed status buffer = ((status ≡ Success) × Finishes begun tag t Success false buffer new) ⊎ ((status ≡ DeviceError) × Finishes begun tag t DeviceError true buffer new)

  finishes : (status wanted : Status) (failed : Bool) (buffer : List ℕ) (q : Request) (was : Kept) → status ≡ wanted → ends_in_fault serves.commands ≡ failed → Collects served tag t status buffer new q was → Finishes begun tag t wanted failed buffer new
  finishes status wanted failed buffer q was is last collects = record {
    served = served;
    serves = serves;
    last = last;
    asked = q;
    was = was;
    collects = subst (λ s. Collects served tag t s buffer new q was) is collects;
  }

  handed : (status : Status) (buffer : List ℕ) (q : Request) (was : Kept) → Collects served tag t status buffer new q was → Handed status buffer
  handed status buffer q was collects = by (ends-so begun.setup begun.entries t serves.commands status serves.while_open well marked)
    where
      marked : mark_of begun.setup (serves.commands ++ begun.entries) t ≡ Some status
      marked = subst (λ H. mark_of begun.setup H t ≡ Some status) serves.entries (subst (λ S. mark_of S served.entries t ≡ Some status) serves.goes_on.setup collects.marked)

      by : EndsAs status (ends_in_fault serves.commands) → Handed status buffer
      by (inl (is, last)) = inl (is, finishes status Success false buffer q was is last collects)
      by (inr (is, last)) = inr (is, finishes status DeviceError true buffer q was is last collects)

  pub handed-back : (done : DoneToken) → CollectSays served tag t (Ok done) new → Handed done.status done.buffer
  unfolding CollectSays
  handed-back done (q, was, collects) = handed done.status done.buffer q was collects

  pub handed-ok : (r : Result (Vec ℕ) Refused) (status : Status) (buffer : List ℕ) → Handed status buffer → IfOk r (λ b. (status ≡ Success) × (b.items ≡ buffer))
      → IfOk r (λ b. Finishes begun tag t Success false b.items new)
  handed-ok (Ok b) status buffer (inl (is, fin)) (is', same) = rw same fin
  handed-ok (Ok b) status buffer (inr (is, fin)) (is', same) = let clash : DeviceError ≡ Success = sym is ∙ is' in cc
  handed-ok (Err r) status buffer fin is = tt

  pub handed-err : (r : Result (Vec ℕ) Refused) (status : Status) (buffer : List ℕ) → Handed status buffer → IfErr r (λ back. (status ≢ Success) × (back.why ≡ why.Status status) × (back.buffer.items ≡ buffer))
      → IfErr r (λ back. (back.why ≡ why.Status DeviceError) × Finishes begun tag t DeviceError true back.buffer.items new)
  handed-err (Ok b) status buffer fin is = tt
  handed-err (Err r) status buffer (inl (is, fin)) (isnt, same, bytes) = absurd (isnt is)
  handed-err (Err r) status buffer (inr (is, fin)) (isnt, same, bytes) = (same ∙ ap why.Status is, rw bytes fin)

-- an accepted token is the last, was not handed back, and is outstanding or has succeeded
module _ (old begun : State) (tag : ℕ) (view : View) (media_id : ℕ) (ask : Ask) (token : Token) (facts : AreFacts old) (accepts : Accepts old tag view media_id (asked_of ask) (bytes_of ask) (buffer_of ask) token begun) where
  abbrev entry : Entry
  entry = Accept tag view (asked_of ask) (bytes_of ask)

  begun-is : begun.entries ≡ entry ∷ old.entries
  begun-is = ap (λ s. s.entries) accepts.new_is

  setup-is : begun.setup ≡ old.setup
  setup-is = ap (λ s. s.setup) accepts.new_is

  last : token_count begun.entries ≡ token.number + 1
  last = ap token_count begun-is ∙ (accepted-more old.entries entry refl ∙ ap (λ n. n + 1) (sym accepts.numbered))

  pub accepted-there : token.number < token_count begun.entries
  accepted-there = omega (arith, last)

  pub accepted-uncollected : was_collected begun.entries token.number ≡ false
  accepted-uncollected =
      ap (λ H. was_collected H token.number) begun-is ∙ (collected-same old.entries entry token.number refl
      ∙ untold-collected old.setup old.entries token.number (unaccepted old.setup old.entries token.number facts.legal (omega (arith, accepts.numbered))))

  pub accepted-well : IsOpenOrWell begun.setup begun.entries token.number
  accepted-well = rw (setup-is, begun-is, accepts.numbered) (by (is_complete old.setup (entry ∷ old.entries) (token_count old.entries)) refl)
    where
      by : (b : Bool) → is_complete old.setup (entry ∷ old.entries) (token_count old.entries) ≡ b → IsOpenOrWell old.setup (entry ∷ old.entries) (token_count old.entries)
      by true complete = inr (mark-accept old.setup old.entries tag view (asked_of ask) (bytes_of ask) facts.legal ∙ ap (λ b. status_if b Success) complete)
      by false complete = inl (mark-accept old.setup old.entries tag view (asked_of ask) (bytes_of ask) facts.legal ∙ ap (λ b. status_if b Success) complete)

  -- it is served, and handed back
  module _ (is : IsSetup old.setup) (new : State) (status : Status) (failed : Bool) (buffer : List ℕ) (fin : Finishes begun tag token.number status failed buffer new) where
    abbrev commands : List Entry
    commands = fin.serves.commands

    while_open : AreWhileOpen old.setup begun.entries token.number commands
    while_open = subst (λ S. AreWhileOpen S begun.entries token.number commands) setup-is fin.serves.while_open

    named : request begun.entries token.number ≡ Some fin.asked
    named = sym (while-request old.setup token.number begun.entries commands token.number while_open) ∙ (ap (λ H. request H token.number) (sym fin.serves.entries) ∙ fin.collects.named)

    others-ended : first_open old.setup old.entries ≡ None → (u : ℕ) → u < token.number → mark_of old.setup begun.entries u ≡ None → ⊥
    others-ended none u below unmarked =
        first-open-fails old.setup old.entries u none
        (record { token = omega (arith, below, accepts.numbered); unmarked = mark-before old.setup old.entries entry u (subst (λ H. mark_of old.setup H u ≡ None) begun-is unmarked) })

    served-setup : fin.served.setup ≡ old.setup
    served-setup = fin.serves.goes_on.setup ∙ setup-is

    marked : mark_of old.setup (commands ++ begun.entries) token.number ≡ Some status
    marked = subst (λ H. mark_of old.setup H token.number ≡ Some status) fin.serves.entries (subst (λ S. mark_of S fin.served.entries token.number ≡ Some status) served-setup fin.collects.marked)

    drained : first_open old.setup old.entries ≡ None → first_open new.setup new.entries ≡ None
    drained none =
        rw (fin.collects.new_is, served-setup)
        (first-open-collect old.setup fin.served.entries tag token.number ∙ (ap (first_open old.setup) fin.serves.entries
        ∙ none-open old.setup begun.entries token.number fin.asked is named last (others-ended none) commands status while_open marked))

    pub carried : CarriesOut old tag view media_id ask status failed buffer new
    carried = record {
      token = token;
      begun = begun;
      accepts = accepts;
      finishes = fin;
      rest = rest_comes_back old begun fin.served new tag tag view media_id (asked_of ask) (bytes_of ask) (buffer_of ask) buffer token status fin.asked fin.was facts.tokens.counted accepts fin.serves.goes_on fin.collects;
      alone = λ none. record {
        own = own-in-order old.setup begun.entries token.number fin.asked is named last (others-ended none) commands while_open;
        drained = drained none;
      };
    }

    -- where it failed, the faults of the medium rose in the call
    pub faults-rose : failed ≡ true → FaultsRose old new
    faults-rose is_failed =
        faults-to old fin.served new _ (ap (λ s. s.devices) fin.collects.new_is)
        (faults-from old begun fin.served _ (ap inserts begun-is ∙ inserts-same old.entries entry refl) (ap (λ s. s.devices) accepts.new_is) (fin.serves.cause (fin.last ∙ is_failed)))

-- an ended token that is there and was not handed back is handed back
pub collectable : (s new : State) (tag t : ℕ) (not : NotThere) → t < token_count s.entries → was_collected s.entries t ≡ false → is_some (mark_of s.setup s.entries t) ≡ true → CollectSays s tag t (Err not) new → ⊥
unfolding CollectSays
collectable s new tag t not_there.Outstanding there uncollected ended (below, none, same) = clash (sym (ap is_some none) ∙ ended)
  where
    clash : false ≡ true → ⊥
    clash e = cc
collectable s new tag t not_there.Unknown there uncollected ended (unknown, same) = by unknown
  where
    clash : false ≡ true → ⊥
    clash e = cc

    by : (token_count s.entries ≤ t) ⊎ (was_collected s.entries t ≡ true) → ⊥
    by (inl past) = absurd (omega (arith, past, there))
    by (inr was) = clash (sym uncollected ∙ was)

-- a refusal, or want of memory
refused : (old new : State) (tag : ℕ) (view : View) (media_id : ℕ) (ask : Ask) (back : Refused) → SubmitSays old tag view media_id ask (Err back) new → FailsFor old tag view media_id ask back.why back.buffer.items new
unfolding SubmitSays
refused old new tag view media_id ask back says = by back.why says
  where
    by : (y : Why) → RefusesFor old tag view media_id (asked_of ask) (buffer_of ask) y back.buffer.items new → FailsFor old tag view media_id ask y back.buffer.items new
    by (why.Status status) refuses = inl refuses
    by why.Memory forgets = forgets

-- what a call answers whose request was accepted
pub answers : (old begun new : State) (tag : ℕ) (view : View) (media_id : ℕ) (ask : Ask) (token : Token) (r : Result (Vec ℕ) Refused) → IsSetup old.setup → AreFacts old → SubmitSays old tag view media_id ask (Ok token) begun
    → IfOk r (λ b. Finishes begun tag token.number Success false b.items new)
    → IfErr r (λ back. (back.why ≡ why.Status DeviceError) × Finishes begun tag token.number DeviceError true back.buffer.items new)
    → BlockingSays old tag view media_id ask r new
unfolding SubmitSays BlockingSays
answers old begun new tag view media_id ask token (Ok b) is facts accepts fin none = carried old begun tag view media_id ask token facts accepts is new Success false b.items fin
answers old begun new tag view media_id ask token (Err back) is facts accepts none (same, fin) = rw same
    (inr (record {
      device = refl;
      carries_out = carried old begun tag view media_id ask token facts accepts is new DeviceError true back.buffer.items fin;
      cause = faults-rose old begun tag view media_id ask token facts accepts is new DeviceError true back.buffer.items fin refl;
    }))

-- a call whose request was not accepted hands that on
pub hands-on : (old new : State) (tag : ℕ) (view : View) (media_id : ℕ) (ask : Ask) (back : Refused) (r : Result (Vec ℕ) Refused) → IsErrAnd r (λ other. other ≡ back) → SubmitSays old tag view media_id ask (Err back) new
    → BlockingSays old tag view media_id ask r new
unfolding BlockingSays
hands-on old new tag view media_id ask back (Ok b) isnt says = absurd isnt
hands-on old new tag view media_id ask back (Err other) same says = rw same (refused old new tag view media_id ask back says)
