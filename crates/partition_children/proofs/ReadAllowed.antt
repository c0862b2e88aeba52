-- A read inside the medium is not refused, and what its blocking call says.
use Rattle.std.proofs.Common.{◌≡◌, inl, inr, ℕ, ◌+◌, ◌-◌, ◌*◌, ◌≤◌, true, false, List, [], None, Some, Result, Ok, Err, IfErr, refl, sym, ◌∙◌, ap, subst, arith, length}
use Rattle.std.specs.Global.{Vec}
use Rattle.std.specs.Result.{IsErrAnd}
use Rattle.std.proofs.lemmas.Bool.{eq-eqb, le-ltb}
use Rattle.efi_status.specs.declared.Status.{Status}
use Rattle.efi_status.specs.declared.Status.TheVariants.{Success, DeviceError}
use Rattle.history.specs.declared.entry.View.{View}
use Rattle.history.specs.declared.entry.Entry.{Entry}
use Rattle.history.specs.Setup.{Setup, IsSetup, blocks_of, size_of}
use Rattle.history.specs.Eras.{is_present, media_id_of}
use Rattle.history.specs.Rules.{IsLegal, refusal_of}
use Rattle.history_laws.specs.Ranges.{AreToldWhole}
use Rattle.history_laws.proofs.RangeLemmas.{contents-long}
use Rattle.disk_core.specs.declared.answers.Ask.TheVariants as ask
use Rattle.disk_core.specs.declared.answers.Refused.{Refused}
use Rattle.disk_core.specs.declared.answers.Why.{Why}
use Rattle.disk_core.specs.declared.answers.Why.TheVariants as why
use Rattle.disk_core.specs.State.{State}
use Rattle.disk_core.specs.Turns.{IsIdle}
use Rattle.disk_io2.specs.Blocking.{BlockingSays, CarriesOut, FailsFor}
use Rattle.disk_io2.specs.Views.{whole_view}
use Rattle.partition_children.specs.declared.reading.ReadFault.{ReadFault}
use Rattle.partition_children.specs.declared.reading.ReadFault.TheVariants.{Device, Memory}
use Rattle.partition_children.specs.Entries.{read_asked}
use Rattle.partition_children.specs.Probing.{AreUntagged, EndsRead, FailsToRead, IsIn, IsQuiet, Reads, AddsEntriesAlone, read_failures}
use Rattle.partition_children.proofs.Served.{ServedRead, served}
use Rattle.partition_children.proofs.ReadAnswers.{fails-so, failed-stays, reads-so, stays-so}

unrefused : (S : Setup) (H : List Entry) (k at n : ℕ) → is_present H ≡ true → media_id_of H ≡ k → at + n ≤ blocks_of S k * size_of S → refusal_of S H (whole_view S k) (read_asked (at, n)) k ≡ None
unfolding refusal_of
unrefused S H k at n present in_ fits =
    rw (present, in_, eq-eqb k k refl, le-ltb (blocks_of S k * size_of S) (0 + blocks_of S k * size_of S) (omega arith), le-ltb (blocks_of S k * size_of S) at (omega arith), le-ltb (blocks_of S k * size_of S - at) n (omega arith)) refl

none-untagged : AreUntagged []
none-untagged = tt

pub stays-same : (s : State) → IsQuiet s → AddsEntriesAlone s 0 s
stays-same s quiet = record {
  setup = refl;
  more = [];
  entries = refl;
  quiet = quiet;
  media_id = refl;
  present = refl;
  bytes = λ k. refl;
  kept = λ k. refl;
  collected = λ t from below. absurd (omega arith);
  failures = omega arith;
  untagged = none-untagged;
  succeeded = λ none t from below. absurd (omega arith);
}

-- no buffer was made
pub nothing-read : (s : State) (k : ℕ) (read : ℕ × ℕ) (r : Result (Vec ℕ) ReadFault) → IsErrAnd r (λ fault. fault ≡ Memory) → IfErr r (λ fault. EndsRead s k read fault s)
unfolding EndsRead
nothing-read s k read (Ok b) isnt = tt
nothing-read s k read (Err fault) is = rw is refl

module _ (old new : State) (view : View) (k at : ℕ) (buffer : Vec ℕ) (n : ℕ) (is : IsSetup old.setup) (legal : IsLegal old.setup old.entries) (told : AreToldWhole old.setup) (quiet : IsQuiet old) (in_ : IsIn old k)
    (is_whole : view ≡ whole_view old.setup k) (fits : at + n ≤ view.length) (long : length buffer.items ≡ n) (idle : IsIdle new.gates) where
  inside : at + length buffer.items ≤ blocks_of old.setup k * size_of old.setup
  inside = omega (arith, ap (λ (v : View). v.length) is_whole)

  -- a read that succeeded
  module _ (b : Vec ℕ) (says : BlockingSays old 0 view k (ask.Read at buffer) (Ok b) new) where
    of-success : ServedRead old.setup old.entries (whole_view old.setup k) (at, length buffer.items) Success false b.items new
    unfolding BlockingSays
    of-success = served old new (whole_view old.setup k) k at buffer Success false b.items quiet.drained (subst (λ (v : View). CarriesOut old 0 v k (ask.Read at buffer) Success false b.items new) is_whole says)

    pub ok-reads : Reads old k (at, n) b.items new
    ok-reads =
        subst (λ (m : ℕ). Reads old k (at, m) b.items new) long
        (reads-so old new k (at, length buffer.items) is quiet.drained b.items of-success (sym in_.named)
        (λ bytes holds. omega (arith, inside, contents-long old.setup k old.entries bytes is told legal holds)))

    pub ok-stays : AddsEntriesAlone old 0 new
    ok-stays = stays-so old new k (at, length buffer.items) is quiet.drained b.items of-success idle

  -- what is answered where it did not
  pub record Ended (fault : ReadFault) : Type 0 where
    pub ends : EndsRead old k (at, n) fault new
    pub stays : AddsEntriesAlone old (read_failures {X = ℕ} (Err fault)) new

  pub ended : (back : Refused) (fault : ReadFault) → BlockingSays old 0 view k (ask.Read at buffer) (Err back) new → (back.why ≡ why.Memory → fault ≡ Memory) → ((status : Status) → back.why ≡ why.Status status → fault ≡ Device) → Ended fault
  unfolding BlockingSays EndsRead
  ended back fault says memory device = by back.why refl says
    where
      by : (w : Why) → back.why ≡ w → FailsFor old 0 view k (ask.Read at buffer) w back.buffer.items new → Ended fault
      by why.Memory is_why forgets =
          subst Ended (sym (memory is_why)) (record { ends = forgets.same; stays = subst (λ (s : State). AddsEntriesAlone old 0 s) (sym forgets.same) (stays-same old quiet) })
      by (why.Status status) is_why (inl refuses) =
          let none = unrefused old.setup old.entries k at (length buffer.items) in_.present in_.named inside in
          let some = subst (λ (v : View). refusal_of old.setup old.entries v (read_asked (at, length buffer.items)) k ≡ Some status) is_whole refuses.refused in
          let clash : None ≡ Some status = sym none ∙ some in
          absurd cc
      by (why.Status status) is_why (inr fails) =
          let out = subst (λ (v : View). CarriesOut old 0 v k (ask.Read at buffer) DeviceError true back.buffer.items new) is_whole fails.carries_out in
          let s = served old new (whole_view old.setup k) k at buffer DeviceError true back.buffer.items quiet.drained out in
          subst Ended (sym (device status is_why)) (record {
            ends = subst (λ (m : ℕ). FailsToRead old.setup k old.entries (at, m) new.entries) long (fails-so old new k (at, length buffer.items) is quiet.drained back.buffer.items s);
            stays = failed-stays old new k (at, length buffer.items) is quiet.drained back.buffer.items s idle;
          })
