use Rattle.std.proofs.Common.{◌≡◌, ◌∙◌, ap, reverse}
use Rattle.script_text.specs.Held.{AddsText}
use Rattle.script_text.specs.Report.{tagged_reads}
use Rattle.script_text.proofs.Bodies.{entries_front, tokens_front, media_front, body_put}
use Rattle.script_text.proofs.report.writer.put_body.Goals as goal

pub returns-in-Err-add_entries-clause-text : goal.returns-in-Err-add_entries-clause-text
unfolding AddsText
returns-in-Err-add_entries-clause-text g c =
    entries_front _ _ _ _ _ _ _ _ (record { none = c.new-held.ensures.bytes; entries = c.entries-entries.result.now; order = c.entries-entries.ensures; added = c.in-Err-add_entries.ensures.text.1 })

pub returns-in-Err-add_tokens-clause-text : goal.returns-in-Err-add_tokens-clause-text
unfolding AddsText
returns-in-Err-add_tokens-clause-text g c =
    let tagged : c.deref.result.now ≡ tagged_reads (reverse c.args.history.now.entries) = c.deref.ensures.value ∙ c.in-Ok.ensures ∙ ap tagged_reads c.entries-entries.ensures in
    tokens_front _ _ _ _ _ _ _ _ _ (record { none = c.new-held.ensures.bytes; entries = c.entries-entries.result.now; order = c.entries-entries.ensures; added = c.in-Ok-add_entries.ensures.text })
    (rw tagged at c.in-Err-add_tokens.ensures.text)

pub returns-clause-text : goal.returns-clause-text
unfolding AddsText
returns-clause-text g c =
    let tagged : c.deref.result.now ≡ tagged_reads (reverse c.args.history.now.entries) = c.deref.ensures.value ∙ c.in-Ok.ensures ∙ ap tagged_reads c.entries-entries.ensures in
    media_front _ _ _ _ _ _ _ _ _ _ _ (record { none = c.new-held.ensures.bytes; entries = c.entries-entries.result.now; order = c.entries-entries.ensures; added = c.in-Ok-add_entries.ensures.text })
    (rw tagged at c.in-Ok-add_tokens.ensures.text) c.in-Err-add_media.ensures.text

pub returns-in-Ok-add_media-clause-text : goal.returns-in-Ok-add_media-clause-text
unfolding AddsText
returns-in-Ok-add_media-clause-text g c =
    let tagged : c.deref.result.now ≡ tagged_reads (reverse c.args.history.now.entries) = c.deref.ensures.value ∙ c.in-Ok.ensures ∙ ap tagged_reads c.entries-entries.ensures in
    let put = rw c.as_str.ensures.value at c.put.ensures.text in
    body_put _ _ _ _ _ _ _ _ _ _ _ _ _ _ (record { none = c.new-held.ensures.bytes; entries = c.entries-entries.result.now; order = c.entries-entries.ensures; added = c.in-Ok-add_entries.ensures.text })
    (rw tagged at c.in-Ok-add_tokens.ensures.text) c.in-Ok-add_media.ensures.text put
