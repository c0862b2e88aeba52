use Rattle.std.proofs.Common.{◌≡◌, true, false, inl, inr, sym, ap, ◌∙◌}
use Rattle.history.specs.Tokens.{is_flush}
use Rattle.disk_core.proofs.Admitted.{refused-absent, refused-changed, refused-flush, refused-range}
use Rattle.disk_core.proofs.refusing.refusal.Goals as goal
use Rattle.disk_core.proofs.refusing.refusal.Goals.{then-media_id-via-then-media_id, then-media_id-via-else-media_id+then-view-media_id}

pub returns-then-not-present : goal.returns-then-not-present
returns-then-not-present g c =
    let absent : c.args.drive.now.present ≡ false = cc in
    sym (refused-absent _ c.args.drive.now c.args._core.now.protected_at_first _ c.requires.drive_follows c.args.view.now c.args.asked c.args.media_id absent)

pub returns-then-media_id : goal.returns-then-media_id
returns-then-media_id g c =
    let present : c.args.drive.now.present ≡ true = cc in
    sym (refused-changed _ c.args.drive.now c.args._core.now.protected_at_first _ c.requires.drive_follows c.args.view.now c.args.asked c.args.media_id present (elim c.then-media_id.branch [
      | then-media_id-via-then-media_id w ↦ inl (λ e. w.if-media_id.true (e ∙ sym c.media_id.ensures.value))
      | then-media_id-via-else-media_id+then-view-media_id w ↦ inr (λ e. w.if-view-media_id.true (e ∙ sym w.media_id-else-media_id.ensures.value))
    ]))

pub returns-in-Flush : goal.returns-in-Flush
returns-in-Flush g c =
    let present : c.args.drive.now.present ≡ true = cc in
    let flush : is_flush c.args.asked.kind ≡ true = cc in
    refused-flush _ c.args.drive.now c.args._core.now.protected_at_first _ c.requires.drive_follows c.args.view.now c.args.asked c.args.media_id present (c.if-media_id.false ∙ c.media_id.ensures.value) (c.if-view-media_id.false ∙ c.media_id-else-media_id.ensures.value) flush

pub returns-in-Read : goal.returns-in-Read
returns-in-Read g c =
    let moving : is_flush c.args.asked.kind ≡ false = elim c.in-Read.is [ inl is ↦ ap is_flush is | inr more ↦ elim more [ inl is ↦ ap is_flush is | inr is ↦ ap is_flush is ] ] in
    let present : c.args.drive.now.present ≡ true = cc in
    refused-range _ c.args.drive.now c.args._core.now.protected_at_first _ c.requires.drive_follows c.args.view.now c.args.asked c.args.media_id c.range_refusal.result present (c.if-media_id.false ∙ c.media_id.ensures.value) (c.if-view-media_id.false ∙ c.media_id-else-media_id.ensures.value) moving c.range_refusal.ensures
