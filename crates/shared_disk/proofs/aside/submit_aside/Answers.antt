use Rattle.std.proofs.Common.{◌-◌, refl, arith}
use Rattle.disk_core.specs.declared.answers.Why.TheVariants as why
use Rattle.shared_disk.proofs.AsideLemmas.{accepted-beside, refused-beside, wanted-beside}
use Rattle.shared_disk.proofs.aside.submit_aside.Goals as goal

pub returns-in-Ok-clause-says : goal.returns-in-Ok-clause-says
returns-in-Ok-clause-says g c = (accepted-beside _ _ _ _ (c.args.client - 1) c.args.client c.args.view.now c.args.media_id c.args.ask (omega (arith, c.requires.some)) c.requires.sound c.make_room.ensures.same _ _ c.in-Ok.ensures c.add_token.ensures).beside

pub returns-in-Ok-clause-sound : goal.returns-in-Ok-clause-sound
returns-in-Ok-clause-sound g c = (accepted-beside _ _ _ _ (c.args.client - 1) c.args.client c.args.view.now c.args.media_id c.args.ask (omega (arith, c.requires.some)) c.requires.sound c.make_room.ensures.same _ _ c.in-Ok.ensures c.add_token.ensures).sound

pub returns-in-Err-clause-says : goal.returns-in-Err-clause-says
returns-in-Err-clause-says g c = (refused-beside _ _ _ _ (c.args.client - 1) c.args.client c.args.view.now c.args.media_id c.args.ask (omega (arith, c.requires.some)) c.requires.sound c.make_room.ensures.same _ c.in-Err.ensures).beside

pub returns-in-Err-clause-sound : goal.returns-in-Err-clause-sound
returns-in-Err-clause-sound g c = (refused-beside _ _ _ _ (c.args.client - 1) c.args.client c.args.view.now c.args.media_id c.args.ask (omega (arith, c.requires.some)) c.requires.sound c.make_room.ensures.same _ c.in-Err.ensures).sound

pub returns-then-is_err-clause-says : goal.returns-then-is_err-clause-says
returns-then-is_err-clause-says g c = (wanted-beside c.args.disk.now c.args.books.now c.make_room.new.self (c.args.client - 1) c.args.client c.args.view.now c.args.media_id c.args.ask (record { why = why.Memory; buffer = c.buffer_of.result }) c.requires.sound c.make_room.ensures.same refl c.buffer_of.ensures).beside

pub returns-then-is_err-clause-sound : goal.returns-then-is_err-clause-sound
returns-then-is_err-clause-sound g c = (wanted-beside c.args.disk.now c.args.books.now c.make_room.new.self (c.args.client - 1) c.args.client c.args.view.now c.args.media_id c.args.ask (record { why = why.Memory; buffer = c.buffer_of.result }) c.requires.sound c.make_room.ensures.same refl c.buffer_of.ensures).sound
