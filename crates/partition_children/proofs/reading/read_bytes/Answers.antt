use Rattle.std.proofs.Common.{arith}
use Rattle.disk_io2.proofs.ReadOff.{told-whole}
use Rattle.partition_children.proofs.ReadAllowed.{ended, nothing-read, ok-reads, ok-stays}
use Rattle.partition_children.proofs.reading.read_bytes.Goals as goal

pub returns-in_err-buffer-clause-err : goal.returns-in_err-buffer-clause-err
returns-in_err-buffer-clause-err g c = nothing-read c.args.disk.now c.args.target.now.view.media_id (c.args.at, c.args.length) c.from_residual.result c.from_residual.ensures.1

pub returns-in-Ok-clause-stays : goal.returns-in-Ok-clause-stays
returns-in-Ok-clause-stays g c =
    ok-stays c.args.disk.now c.read_disk.new.disk c.args.target.now.view c.args.target.now.view.media_id c.args.at c.in_ok-buffer.buffer c.args.length c.history.ensures.setup c.history.ensures.facts.legal
    (told-whole g.M.Medium.device g.met.M.Medium.shaped c.drive.result.now c.drive.ensures.fit c.args.disk.now.setup c.drive.ensures.read_off) c.requires.quiet c.requires.is_in c.requires.whole c.requires.fits
    (omega (arith, c.in_ok-buffer.ensures.len)) c.in-Ok.ensures.idle c.in-Ok.bytes c.in-Ok.ensures.says

pub returns-in-Ok-clause-ok : goal.returns-in-Ok-clause-ok
returns-in-Ok-clause-ok g c =
    ok-reads c.args.disk.now c.read_disk.new.disk c.args.target.now.view c.args.target.now.view.media_id c.args.at c.in_ok-buffer.buffer c.args.length c.history.ensures.setup c.history.ensures.facts.legal
    (told-whole g.M.Medium.device g.met.M.Medium.shaped c.drive.result.now c.drive.ensures.fit c.args.disk.now.setup c.drive.ensures.read_off) c.requires.quiet c.requires.is_in c.requires.whole c.requires.fits
    (omega (arith, c.in_ok-buffer.ensures.len)) c.in-Ok.ensures.idle c.in-Ok.bytes c.in-Ok.ensures.says

pub returns-in-Err-clause-stays : goal.returns-in-Err-clause-stays
returns-in-Err-clause-stays g c =
    (ended c.args.disk.now c.read_disk.new.disk c.args.target.now.view c.args.target.now.view.media_id c.args.at c.in_ok-buffer.buffer c.args.length c.history.ensures.setup c.history.ensures.facts.legal
    (told-whole g.M.Medium.device g.met.M.Medium.shaped c.drive.result.now c.drive.ensures.fit c.args.disk.now.setup c.drive.ensures.read_off) c.requires.quiet c.requires.is_in c.requires.whole c.requires.fits
    (omega (arith, c.in_ok-buffer.ensures.len)) c.in-Err.ensures.idle c.in-Err.refused c.fault_of.result c.in-Err.ensures.says c.fault_of.ensures.memory c.fault_of.ensures.device).stays

pub returns-in-Err-clause-err : goal.returns-in-Err-clause-err
returns-in-Err-clause-err g c =
    (ended c.args.disk.now c.read_disk.new.disk c.args.target.now.view c.args.target.now.view.media_id c.args.at c.in_ok-buffer.buffer c.args.length c.history.ensures.setup c.history.ensures.facts.legal
    (told-whole g.M.Medium.device g.met.M.Medium.shaped c.drive.result.now c.drive.ensures.fit c.args.disk.now.setup c.drive.ensures.read_off) c.requires.quiet c.requires.is_in c.requires.whole c.requires.fits
    (omega (arith, c.in_ok-buffer.ensures.len)) c.in-Err.ensures.idle c.in-Err.refused c.fault_of.result c.in-Err.ensures.says c.fault_of.ensures.memory c.fault_of.ensures.device).ends
