use Rattle.std.proofs.Common.{◌≡◌, ◌∙◌, ◌+◌, ◌-◌, None, Some, Result, Ok, Err, OnErr, IfOk, sym, ap, arith}
use Rattle.history.specs.declared.order.Order.TheVariants as order
use Rattle.disk_core.specs.Calls.{asked_of, bytes_of, ProtectSays}
use Rattle.disk_core.proofs.GoingOn.{protect_goes_on}
use Rattle.shared_disk.proofs.CourseLemmas.{item-at}
use Rattle.shared_disk.proofs.EntryLemmas.{order-done, entry-request, entry-cancel, entry-reset, entry-eject, entry-insert, entry-protect, does-cancel, does-reset, does-eject, does-insert, does-protect}
use Rattle.shared_disk.proofs.taking.do_line.Goals as goal

on-err : {A B P : Type 0} (r : Result A B) → P → OnErr r P
on-err (Ok x) p = tt
on-err (Err e) p = p

on-ok : {A B : Type 0} {P Q : A → Type 0} (r : Result A B) → ((x : A) → P x → Q x) → IfOk r P → IfOk r Q
on-ok (Ok x) f p = f x p
on-ok (Err e) f p = tt

pub returns-in-Some-Cancel-clause-does : goal.returns-in-Some-Cancel-clause-does
returns-in-Some-Cancel-clause-does g c =
    let tagged : c.args.client ≡ c.args.client - 1 + 1 = omega (arith, c.requires.some) in
    order-done c.args.disk.now c.cancel.new.self c.args.books.now c.args.books.now (c.args.client - 1) c.index.result.now (order.Cancel c.in-Some-Cancel.media_id) _ None
    (item-at c.args.books.now.clients.items (c.args.client - 1) c.index.result.now (omega (arith, c.requires.some, c.requires.there)) c.index.ensures)
    (sym c.in-Some-Cancel.ensures ∙ ap Some c.in-Some-Cancel.field-0-is) tt
    (entry-cancel c.args.disk.now.setup c.args.disk.now.entries (c.args.client - 1) c.args.client c.index.result.now.stand tagged c.in-Some-Cancel.media_id c.line_view-view-in-Some-Cancel.result c.line_view-view-in-Some-Cancel.ensures)
    (does-cancel c.args.disk.now c.cancel.new.self c.args.books.now c.requires.sound c.args.client c.line_view-view-in-Some-Cancel.result c.cancel.result c.cancel.ensures)

pub returns-in-Some-Reset-clause-does : goal.returns-in-Some-Reset-clause-does
returns-in-Some-Reset-clause-does g c =
    let tagged : c.args.client ≡ c.args.client - 1 + 1 = omega (arith, c.requires.some) in
    order-done c.args.disk.now c.reset.new.self c.args.books.now c.args.books.now (c.args.client - 1) c.index.result.now order.Reset _ None
    (item-at c.args.books.now.clients.items (c.args.client - 1) c.index.result.now (omega (arith, c.requires.some, c.requires.there)) c.index.ensures)
    (sym c.in-Some-Reset.ensures ∙ ap Some c.in-Some-Reset.field-0-is) tt
    (entry-reset c.args.disk.now.setup c.args.disk.now.entries (c.args.client - 1) c.args.client c.index.result.now.stand tagged)
    (does-reset c.args.disk.now c.reset.new.self c.args.books.now c.requires.sound c.args.client c.reset.result c.reset.ensures)

pub returns-in-Some-Eject-clause-does : goal.returns-in-Some-Eject-clause-does
returns-in-Some-Eject-clause-does g c =
    let tagged : c.args.client ≡ c.args.client - 1 + 1 = omega (arith, c.requires.some) in
    order-done c.args.disk.now c.eject.new.self c.args.books.now c.args.books.now (c.args.client - 1) c.index.result.now order.Eject _ None
    (item-at c.args.books.now.clients.items (c.args.client - 1) c.index.result.now (omega (arith, c.requires.some, c.requires.there)) c.index.ensures)
    (sym c.in-Some-Eject.ensures ∙ ap Some c.in-Some-Eject.field-0-is) tt
    (entry-eject c.args.disk.now.setup c.args.disk.now.entries (c.args.client - 1) c.args.client c.index.result.now.stand tagged)
    (does-eject c.args.disk.now c.eject.new.self c.args.books.now c.requires.sound c.args.client c.eject.result c.eject.ensures)

pub returns-in-Some-Insert-clause-does : goal.returns-in-Some-Insert-clause-does
returns-in-Some-Insert-clause-does g c =
    let tagged : c.args.client ≡ c.args.client - 1 + 1 = omega (arith, c.requires.some) in
    order-done c.args.disk.now c.insert.new.self c.args.books.now c.args.books.now (c.args.client - 1) c.index.result.now order.Insert _ None
    (item-at c.args.books.now.clients.items (c.args.client - 1) c.index.result.now (omega (arith, c.requires.some, c.requires.there)) c.index.ensures)
    (sym c.in-Some-Insert.ensures ∙ ap Some c.in-Some-Insert.field-0-is) tt
    (entry-insert c.args.disk.now.setup c.args.disk.now.entries (c.args.client - 1) c.args.client c.index.result.now.stand tagged)
    (does-insert c.args.disk.now c.insert.new.self c.args.books.now c.requires.sound c.args.client c.insert.result c.insert.ensures)

pub returns-in_ok-protect-in-Some-Protect-clause-does : goal.returns-in_ok-protect-in-Some-Protect-clause-does
unfolding ProtectSays
returns-in_ok-protect-in-Some-Protect-clause-does g c =
    let tagged : c.args.client ≡ c.args.client - 1 + 1 = omega (arith, c.requires.some) in
    order-done c.args.disk.now c.protect.new.self c.args.books.now c.args.books.now (c.args.client - 1) c.index.result.now (order.Protect c.in-Some-Protect.on) _ None
    (item-at c.args.books.now.clients.items (c.args.client - 1) c.index.result.now (omega (arith, c.requires.some, c.requires.there)) c.index.ensures)
    (sym c.in-Some-Protect.ensures ∙ ap Some c.in-Some-Protect.field-0-is) tt
    (entry-protect c.args.disk.now.setup c.args.disk.now.entries (c.args.client - 1) c.args.client c.index.result.now.stand tagged c.in-Some-Protect.on)
    (does-protect c.args.disk.now c.protect.new.self c.args.books.now c.requires.sound c.args.client c.in-Some-Protect.on _ c.in_ok-protect-in-Some-Protect.ensures (protect_goes_on c.args.disk.now c.protect.new.self c.args.client c.in-Some-Protect.on c.protect.result c.protect.ensures))

pub returns-in_ok-ask-in-Some-Request-clause-does : goal.returns-in_ok-ask-in-Some-Request-clause-does
returns-in_ok-ask-in-Some-Request-clause-does g c =
    let tagged : c.args.client ≡ c.args.client - 1 + 1 = omega (arith, c.requires.some) in
    on-ok c.submit_request.result (λ token does. order-done c.args.disk.now c.submit_request.new.disk c.args.books.now c.submit_request.new.books (c.args.client - 1) c.index.result.now (order.Request c.in-Some-Request.asked c.in-Some-Request.payload c.in-Some-Request.media_id) _ token
    (item-at c.args.books.now.clients.items (c.args.client - 1) c.index.result.now (omega (arith, c.requires.some, c.requires.there)) c.index.ensures)
    (sym c.in-Some-Request.ensures ∙ ap Some c.in-Some-Request.field-0-is) tt
    (entry-request c.args.disk.now.setup c.args.disk.now.entries (c.args.client - 1) c.args.client c.index.result.now.stand tagged c.in-Some-Request.asked (asked_of c.in_ok-ask-in-Some-Request.ask) c.in-Some-Request.payload (bytes_of c.in_ok-ask-in-Some-Request.ask) c.in-Some-Request.media_id c.line_view-view.result c.line_view-view.ensures c.in_ok-ask-in-Some-Request.ensures.asked c.in_ok-ask-in-Some-Request.ensures.bytes)
    does) c.submit_request.ensures.does

pub returns-in_err-protect-in-Some-Protect-clause-disk : goal.returns-in_err-protect-in-Some-Protect-clause-disk
unfolding ProtectSays
returns-in_err-protect-in-Some-Protect-clause-disk g c = on-err c.from_residual-in_err-protect-in-Some-Protect.result c.in_err-protect-in-Some-Protect.ensures
