use Rattle.std.proofs.Common.{length, refl, sym, ap, ◌∙◌, subst}
use Rattle.history.specs.Rules.{IsWellAsked}
use Rattle.disk_core.specs.Facts.{buffer_length}
use Rattle.disk_core.specs.Parts.{state_of}
use Rattle.disk_core.specs.Calls.{bytes_of, SubmitSays}
use Rattle.disk_core.specs.Admission.{payload_of}
use Rattle.disk_core.proofs.Asking.{asked-well, asked-long, asked-bytes, submit-says}
use Rattle.disk_core.proofs.disk.Disk.submit.Goals as goal

pub refuse-requires-clause-refused : goal.refuse-requires-clause-refused
refuse-requires-clause-refused g c = sym c.refusal.ensures ∙ c.in-Some.is

pub refuse-requires-clause-well_asked : goal.refuse-requires-clause-well_asked
refuse-requires-clause-well_asked g c = subst IsWellAsked (sym c.take_apart-buffer.ensures.asked) (asked-well c.args.ask)

pub accept-requires-clause-admitted : goal.accept-requires-clause-admitted
accept-requires-clause-admitted g c = (c.args.media_id, sym c.refusal.ensures ∙ c.in-None.is)

pub accept-requires-clause-well_asked : goal.accept-requires-clause-well_asked
accept-requires-clause-well_asked g c = subst IsWellAsked (sym c.take_apart-buffer.ensures.asked) (asked-well c.args.ask)

pub accept-requires-clause-long : goal.accept-requires-clause-long
accept-requires-clause-long g c =
    ap length c.take_apart-buffer.ensures.buffer ∙ asked-long c.args.ask ∙ sym (ap (λ asked. buffer_length asked.kind asked.length) c.take_apart-buffer.ensures.asked)

pub invariant_of-self : goal.invariant_of-self
invariant_of-self g c = (c.refuse.ensures (bytes_of c.args.ask)).sound

pub invariant_of-self-in-None : goal.invariant_of-self-in-None
invariant_of-self-in-None g c = (c.accept.ensures c.args.media_id (sym c.refusal.ensures ∙ c.in-None.is)).sound

pub returns-in-Some : goal.returns-in-Some
returns-in-Some g c =
    subst (λ s. SubmitSays s c.args.tag c.args.view.now c.args.media_id c.args.ask c.refuse.result (state_of g.M.Medium.device c.self.inside.drive c.refuse.new.core)) c.self.view_is
    (submit-says _ _ _ _ _ _ _ _ _ _ c.take_apart-buffer.ensures.asked refl c.take_apart-buffer.ensures.buffer (c.refuse.ensures (bytes_of c.args.ask)).says)

pub returns-in-None : goal.returns-in-None
returns-in-None g c =
    subst (λ s. SubmitSays s c.args.tag c.args.view.now c.args.media_id c.args.ask c.accept.result (state_of g.M.Medium.device c.accept.new.drive c.accept.new.core)) c.self.view_is
    (submit-says _ _ _ _ _ _ _ _ _ _ c.take_apart-buffer.ensures.asked (ap (λ asked. payload_of asked.kind c.take_apart-buffer.result.1.items) c.take_apart-buffer.ensures.asked ∙ ap (payload_of _) c.take_apart-buffer.ensures.buffer ∙ asked-bytes c.args.ask)
    c.take_apart-buffer.ensures.buffer (c.accept.ensures c.args.media_id (sym c.refusal.ensures ∙ c.in-None.is)).says)
