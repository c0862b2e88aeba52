-- A request that no rule refuses is accepted, or forgotten for want of memory.
use Rattle.std.proofs.Common.{◌≡◌, ℕ, ◌+◌, ◌^◌, ◌<◌, ◌≤◌, true, List, length, None, Some, sym, ◌∙◌, ap, subst, arith, Ok, Err}
use Rattle.medium.specs.Device.{Device}
use Rattle.drive.specs.Drives.{DriveState, medium_in}
use Rattle.disk_split.specs.Units.{IsGeometry}
use Rattle.history.specs.declared.entry.View.{View}
use Rattle.history.specs.declared.entry.Asked.{Asked}
use Rattle.history.specs.Setup.{size_of}
use Rattle.history.specs.Tokens.{changes_bytes}
use Rattle.history.specs.Rules.{refusal_of, IsWellAsked}
use Rattle.history_laws.proofs.LengthLemmas.{counts-together}
use Rattle.subtask_queue.specs.Subs.{AreBelow}
use Rattle.disk_core.specs.declared.accepting.Room.{Room}
use Rattle.disk_core.specs.declared.answers.Token.{Token}
use Rattle.disk_core.specs.declared.answers.Refused.{Refused}
use Rattle.disk_core.specs.declared.answers.Why.TheVariants as why
use Rattle.disk_core.specs.declared.parts.Core.{Core}
use Rattle.disk_core.specs.State.{setup_of}
use Rattle.disk_core.specs.Facts.{buffer_length}
use Rattle.disk_core.specs.Parts.{state_of}
use Rattle.disk_core.specs.Calls.{Accepts, RefusesFor, SubmitsAsked}
use Rattle.disk_core.specs.Admission.{IsRoom, IsTouched, StaysBut, after_keep, start_at, payload_of}
use Rattle.disk_core.specs.Moves.{IsDisk, Reaches, with_spare}
use Rattle.disk_core.proofs.Accepted.{length-kept}
use Rattle.disk_core.proofs.Granted.{accept-reaches}
use Rattle.disk_core.proofs.Keeping.{queue-below}
use Rattle.disk_core.proofs.Prepared.{state-prepared, setup-prepared, prepared-sound}
use Rattle.disk_core.proofs.Refusals.{spare-sound}

module _ {M : Type 0} (device : M → Device) (prepared : M → ℕ → Type 0) (drive : DriveState M) (c : Core) (sound : IsDisk device prepared drive c) where
  pub geometry-is : IsGeometry c.blocks
  geometry-is = subst IsGeometry (sym sound.fitted.blocks) sound.geometry.geometry

  pub queue-is-below : AreBelow c.accepted c.queue
  queue-is-below = queue-below (setup_of device drive c.protected_at_first) c.history.entries (size_of (setup_of device drive c.protected_at_first)) c.accepted c.queue sound.fitted.accepts sound.queue

  pub tokens-counted : c.accepted ≡ length c.tokens
  unfolding state_of
  tokens-counted = sound.fitted.accepts ∙ sym sound.facts.tokens.counted ∙ length-kept c.tokens

  pub tokens-few : c.accepted < 2 ^ 63
  tokens-few = (let together = counts-together c.history.entries in let few = sound.room.few in let same = sound.fitted.accepts in omega arith)

  module _ (drive' : DriveState M) (mid : Core) (spare : ℕ) (on : StaysBut device prepared drive drive') (is : mid ≡ with_spare c spare) (places : c.owed ≤ spare) (few : length c.history.entries + spare < 2 ^ 63) where
    spare-disk : IsDisk device prepared drive' (with_spare c spare)
    spare-disk = prepared-sound device prepared drive drive' (with_spare c spare) on (spare-sound device prepared drive c spare sound places few)

    spare-state : state_of device drive' (with_spare c spare) ≡ state_of device drive c
    unfolding state_of with_spare
    spare-state = state-prepared device prepared drive drive' (with_spare c spare) on

    pub mid-forgets : (tag : ℕ) (view : View) (media_id : ℕ) (asked : Asked) (bytes buffer : List ℕ) (refused : Refused) (new : Core) → refused.why ≡ why.Memory → refused.buffer.items ≡ buffer → new ≡ mid
        → Reaches device prepared drive c drive' new (λ s s'. SubmitsAsked s tag view media_id asked bytes buffer (Err refused) s')
    mid-forgets tag view media_id asked bytes buffer refused new memory back same =
        subst (λ d. Reaches device prepared drive c drive' d (λ s s'. SubmitsAsked s tag view media_id asked bytes buffer (Err refused) s')) (sym (same ∙ is)) (record {
          sound = spare-disk;
          says = subst (λ w. RefusesFor (state_of device drive c) tag view media_id asked buffer w refused.buffer.items (state_of device drive' (with_spare c spare))) (sym memory) (record { same = spare-state; handed_back = back });
        })

    pub mid-accepts : (tag : ℕ) (view : View) (media_id : ℕ) (asked : Asked) (buffer : List ℕ) (room : Room) (token : Token) (new : Core)
        → refusal_of (setup_of device drive c.protected_at_first) c.history.entries view asked media_id ≡ None → IsWellAsked asked → length buffer ≡ buffer_length asked.kind asked.length
        → IsRoom c.blocks (start_at c.blocks.size view asked) asked buffer room → c.owed + room.owed + 1 ≤ spare
        → (changes_bytes asked.kind ≡ true → 0 < asked.length → (m : M) → medium_in drive' ≡ Some m → (b : ℕ) → IsTouched c.blocks (start_at c.blocks.size view asked) (start_at c.blocks.size view asked + asked.length) b → prepared m b)
        → token.number ≡ mid.accepted → token.event ≡ room.event → new ≡ after_keep mid tag view asked room buffer
        → Reaches device prepared drive c drive' new (λ s s'. SubmitsAsked s tag view media_id asked (payload_of asked.kind buffer) buffer (Ok token) s')
    unfolding with_spare
    mid-accepts tag view media_id asked buffer room token new unrefused well long fits enough ready number event new_is =
        let granted = accept-reaches device prepared drive' (with_spare c spare) spare-disk tag view asked media_id buffer room
        (subst (λ S. refusal_of S c.history.entries view asked media_id ≡ None) (sym (setup-prepared device prepared drive drive' c on)) unrefused) well long fits enough
        (λ changes some m there b touched. ready changes some m there b (subst (λ n. IsTouched c.blocks n (n + asked.length) b) fits.begins touched)) token (number ∙ ap (λ d. d.accepted) is) event in
        subst (λ d. Reaches device prepared drive c drive' d (λ s s'. SubmitsAsked s tag view media_id asked (payload_of asked.kind buffer) buffer (Ok token) s')) (sym (new_is ∙ ap (λ d. after_keep d tag view asked room buffer) is)) (record {
          sound = granted.sound;
          says = subst (λ s. Accepts s tag view media_id asked (payload_of asked.kind buffer) buffer token (state_of device drive' (after_keep (with_spare c spare) tag view asked room buffer))) spare-state granted.says;
        })
