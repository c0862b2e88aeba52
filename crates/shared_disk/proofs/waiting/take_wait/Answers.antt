use Rattle.std.proofs.Common.{◌∙◌, ◌+◌, ◌-◌, ap, length, arith}
use Rattle.std.specs.Global.{Vec}
use Rattle.shared_disk.specs.declared.clients.Client.{Client}
use Rattle.history.specs.declared.order.Order.TheVariants as order
use Rattle.shared_disk.proofs.LineLemmas.{same-twice, order-still, room-left, place-sound, wait-not-yet, own-left, wait-collected, wait-done}
use Rattle.shared_disk.proofs.waiting.take_wait.Goals as goal

pub returns-then-is_waiting-clause-says : goal.returns-then-is_waiting-clause-says
returns-then-is_waiting-clause-says g c = wait-not-yet c.args.disk.now c.args.books.now c.is_waiting.new.books (c.args.client - 1) c.is_waiting.ensures.same c.requires.next c.if-is_waiting.ensures.value

pub next_collect-requires-clause-there : goal.next_collect-requires-clause-there
next_collect-requires-clause-there g c = omega (arith, c.requires.some, c.requires.there, c.is_waiting.ensures.sound.paired, ap (λ (v : Vec Client). length v.items) c.is_waiting.ensures.same.clients)

pub collect_token-requires-clause-there : goal.collect_token-requires-clause-there
collect_token-requires-clause-there g c = (own-left c.args.disk.now.setup c.args.disk.now.entries ((c.args.client - 1) + 1) c.in-Some.number c.in-Some.ensures.value c.if-is_waiting.ensures.value).0

pub collect_token-requires-clause-uncollected : goal.collect_token-requires-clause-uncollected
collect_token-requires-clause-uncollected g c = (own-left c.args.disk.now.setup c.args.disk.now.entries ((c.args.client - 1) + 1) c.in-Some.number c.in-Some.ensures.value c.if-is_waiting.ensures.value).1

pub collect_token-requires-clause-ended : goal.collect_token-requires-clause-ended
collect_token-requires-clause-ended g c = (own-left c.args.disk.now.setup c.args.disk.now.entries ((c.args.client - 1) + 1) c.in-Some.number c.in-Some.ensures.value c.if-is_waiting.ensures.value).2

pub returns-in-Some-clause-says : goal.returns-in-Some-clause-says
returns-in-Some-clause-says g c =
    wait-collected c.args.disk.now c.collect_token.new.disk c.args.books.now c.next_collect.new.books c.collect_token.new.books (c.args.client - 1) c.args.client c.in-Some.number (omega (arith, c.requires.some)) (same-twice c.args.books.now c.is_waiting.new.books c.next_collect.new.books c.is_waiting.ensures.same c.next_collect.ensures.same) c.requires.next c.if-is_waiting.ensures.value c.in-Some.ensures.value c.collect_token.ensures.takes

pub add_place-requires-clause-there : goal.add_place-requires-clause-there
add_place-requires-clause-there g c = omega (arith, c.requires.some, c.requires.there, c.next_collect.ensures.sound.paired, ap (λ (v : Vec Client). length v.items) (c.next_collect.ensures.same.clients ∙ c.is_waiting.ensures.same.clients))

pub add_place-requires-clause-room : goal.add_place-requires-clause-room
add_place-requires-clause-room g c = room-left c.args.disk.now.setup c.args.disk.now.entries c.next_collect.new.books (c.args.client - 1) order.Wait c.next_collect.ensures.sound (order-still c.args.books.now c.next_collect.new.books (c.args.client - 1) order.Wait ((same-twice c.args.books.now c.is_waiting.new.books c.next_collect.new.books c.is_waiting.ensures.same c.next_collect.ensures.same)).clients ((same-twice c.args.books.now c.is_waiting.new.books c.next_collect.new.books c.is_waiting.ensures.same c.next_collect.ensures.same)).places c.requires.next)

pub returns-in-None-clause-says : goal.returns-in-None-clause-says
returns-in-None-clause-says g c = wait-done c.args.disk.now c.args.books.now c.next_collect.new.books c.add_place.new.self (c.args.client - 1) c.len-before.result (c.len-before.ensures.value ∙ ap length c.history.ensures.entries) c.requires.sound c.next_collect.ensures.sound (same-twice c.args.books.now c.is_waiting.new.books c.next_collect.new.books c.is_waiting.ensures.same c.next_collect.ensures.same) c.requires.next c.if-is_waiting.ensures.value c.in-None.ensures.value c.add_place.ensures

pub returns-in-None-clause-sound : goal.returns-in-None-clause-sound
returns-in-None-clause-sound g c = place-sound c.args.disk.now.setup c.args.disk.now.entries c.next_collect.new.books c.add_place.new.self (c.args.client - 1) c.len-before.result order.Wait c.next_collect.ensures.sound (order-still c.args.books.now c.next_collect.new.books (c.args.client - 1) order.Wait ((same-twice c.args.books.now c.is_waiting.new.books c.next_collect.new.books c.is_waiting.ensures.same c.next_collect.ensures.same)).clients ((same-twice c.args.books.now c.is_waiting.new.books c.next_collect.new.books c.is_waiting.ensures.same c.next_collect.ensures.same)).places c.requires.next) c.add_place.ensures
