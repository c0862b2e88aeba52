use Rattle.std.proofs.Common.{◌∙◌, ◌-◌, sym, ap, subst, length, arith}
use Rattle.std.specs.Global.{Vec}
use Rattle.disk_core.specs.State.{State}
use Rattle.shared_disk.specs.declared.clients.Client.{Client}
use Rattle.shared_disk.specs.Inside.{AreBooksSound}
use Rattle.shared_disk.proofs.LineLemmas.{took-line, took-nothing, took-none, order-left, room-left, place-sound}
use Rattle.shared_disk.proofs.taking.take_line.Goals as goal

pub returns-in-None-clause-says : goal.returns-in-None-clause-says
returns-in-None-clause-says g c = took-none c.args.disk.now c.args.books.now (c.args.client - 1) c.in-None.ensures

pub add_place-requires : goal.add_place-requires
add_place-requires g c = record {
  there = omega (arith, c.requires.some, c.requires.there, c.in-Ok.ensures.does.does.sound.paired, ap (λ (v : Vec Client). length v.items) c.in-Ok.ensures.does.does.clients);
  room = room-left c.do_line.new.disk.setup c.do_line.new.disk.entries c.do_line.new.books (c.args.client - 1) c.in-Ok.ensures.does.next.order c.in-Ok.ensures.does.does.sound (order-left c.args.disk.now c.do_line.new.disk c.args.books.now c.do_line.new.books (c.args.client - 1) c.in-Ok.token c.in-Ok.ensures.does);
}

pub returns-in-Ok : goal.returns-in-Ok
returns-in-Ok g c = record {
  says = took-line c.args.disk.now c.do_line.new.disk c.args.books.now c.do_line.new.books c.add_place.new.self (c.args.client - 1) c.len-before.result c.in-Ok.token (c.len-before.ensures.value ∙ ap length c.history.ensures.entries) c.requires.sound c.in-Ok.ensures.does c.add_place.ensures;
  sound = place-sound c.do_line.new.disk.setup c.do_line.new.disk.entries c.do_line.new.books c.add_place.new.self (c.args.client - 1) c.len-before.result c.in-Ok.ensures.does.next.order c.in-Ok.ensures.does.does.sound (order-left c.args.disk.now c.do_line.new.disk c.args.books.now c.do_line.new.books (c.args.client - 1) c.in-Ok.token c.in-Ok.ensures.does) c.add_place.ensures;
}

pub returns-in-Err : goal.returns-in-Err
returns-in-Err g c = record {
  says = took-nothing c.args.disk.now c.do_line.new.disk c.args.books.now c.do_line.new.books (c.args.client - 1) c.in-Err.ensures.wants c.in-Err.ensures.disk c.in-Err.ensures.same;
  sound = subst (λ (s : State). AreBooksSound s.setup s.entries c.do_line.new.books) (sym c.in-Err.ensures.disk) c.in-Err.ensures.sound;
}
