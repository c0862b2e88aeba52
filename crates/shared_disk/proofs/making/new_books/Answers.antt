use Rattle.std.proofs.Common.{◌≡◌, ◌∙◌, List, ap, sym, subst, length, reverse, replicate}
use Rattle.std.proofs.lemmas.List.{length-reverse, reverse-reverse}
use Rattle.history.specs.declared.entry.Entry.{Entry}
use Rattle.history.specs.Tokens.{token_count}
use Rattle.shared_disk.specs.declared.books.Buffer.TheVariants.{Gone}
use Rattle.shared_disk.specs.Lines.{roles_of}
use Rattle.shared_disk.specs.Desk.{Keeps}
use Rattle.shared_disk.specs.Inside.{AreNew}
use Rattle.shared_disk.proofs.DeskLemmas.{new-keeps}
use Rattle.shared_disk.proofs.MakingLemmas.{state-new, sound-new}
use Rattle.shared_disk.proofs.making.new_books.Goals as goal

long : (es H : List Entry) → es ≡ reverse H → length es ≡ length H
long es H is = ap length is ∙ length-reverse H

back : (es H : List Entry) → es ≡ reverse H → token_count (reverse es) ≡ token_count H
back es H is = ap (λ xs. token_count (reverse xs)) is ∙ ap token_count (reverse-reverse H)

goal-state : goal.returns-clause-state
goal-state g c =
    let new : AreNew c.args.clients.items c.in-Ok-new_courses.courses.items = rw c.deref.ensures.value at c.in-Ok-new_courses.ensures in
    state-new c.args.disk.now c.args.clients c.in-Ok-new_courses.courses c.in-Ok.slots (length c.entries-entries.result.now) (long c.entries-entries.result.now c.args.disk.now.entries (c.entries-entries.ensures ∙ ap reverse c.history.ensures.entries)) new
    (c.in-Ok.ensures ∙ ap (λ n. replicate n (record { tag = 0; buffer = Gone })) (c.count_tokens-tokens.ensures.value ∙ back c.entries-entries.result.now c.args.disk.now.entries (c.entries-entries.ensures ∙ ap reverse c.history.ensures.entries)))

pub returns-clause-state : goal.returns-clause-state
returns-clause-state g c = goal-state g c

pub returns-clause-sound : goal.returns-clause-sound
returns-clause-sound g c =
    let new : AreNew c.args.clients.items c.in-Ok-new_courses.courses.items = rw c.deref.ensures.value at c.in-Ok-new_courses.ensures in
    sound-new c.args.disk.now.setup c.args.disk.now.entries c.args.clients c.in-Ok-new_courses.courses c.in-Ok.slots (length c.entries-entries.result.now) (long c.entries-entries.result.now c.args.disk.now.entries (c.entries-entries.ensures ∙ ap reverse c.history.ensures.entries)) c.requires.clients c.requires.opening new
    (c.in-Ok.ensures ∙ ap (λ n. replicate n (record { tag = 0; buffer = Gone })) (c.count_tokens-tokens.ensures.value ∙ back c.entries-entries.result.now c.args.disk.now.entries (c.entries-entries.ensures ∙ ap reverse c.history.ensures.entries)))

pub returns-clause-keeps : goal.returns-clause-keeps
returns-clause-keeps g c = subst Keeps (sym (goal-state g c)) (new-keeps c.args.disk.now (roles_of c.args.clients.items) c.history.ensures.facts.legal c.requires.opening)
