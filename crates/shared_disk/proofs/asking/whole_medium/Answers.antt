use Rattle.std.proofs.Common.{◌≡◌, ◌∙◌, ℕ, ◌*◌, refl}
use Rattle.history.specs.Setup.{Setup, size_of, blocks_of}
use Rattle.disk_io2.specs.Views.{whole_view}
use Rattle.disk_io2.proofs.ReadOff.{size-is, blocks-are, no-blocks}
use Rattle.shared_disk.proofs.asking.whole_medium.Goals as goal
use Rattle.shared_disk.proofs.asking.whole_medium.Goals.{in-Some, in-None}

is-whole : (S : Setup) (id blocks size : ℕ) → blocks ≡ blocks_of S id → size ≡ size_of S → record { start = 0; length = blocks * size; media_id = id; index = 0 } ≡ whole_view S id
is-whole S id blocks size are is = rw (are, is) refl

pub returns : goal.returns
returns g c =
    let size = size-is g.M.Medium.device g.met.M.Medium.shaped c.drive-drive.result.now c.drive-drive.ensures.fit c.args.disk.now.setup c.drive-drive.ensures.read_off in
    is-whole c.args.disk.now.setup c.args.media_id c.match-blocks_of.blocks c.from.result (elim c.match-blocks_of.branch [
      | in-Some w ↦ w.blocks-is ∙ (blocks-are g.M.Medium.device g.met.M.Medium.shaped c.drive-drive.result.now c.drive-drive.ensures.fit c.args.disk.now.setup c.drive-drive.ensures.read_off c.args.media_id w.in-Some.blocks w.in-Some.ensures).0
      | in-None w ↦ w.blocks-is ∙ no-blocks g.M.Medium.device g.met.M.Medium.shaped c.drive-drive.result.now c.drive-drive.ensures.fit c.args.disk.now.setup c.drive-drive.ensures.read_off c.args.media_id w.in-None.ensures
    ]) (c.from.ensures ∙ (c.size.ensures.value ∙ size))
