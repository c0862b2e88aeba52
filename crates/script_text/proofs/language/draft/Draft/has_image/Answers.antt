use Rattle.std.proofs.Common.{◌∙◌}
use Rattle.script_text.proofs.Images.{found_image}
use Rattle.script_text.proofs.language.draft.Draft.has_image.Goals as goal

pub returns : goal.returns
returns c =
    rw (← c.self.view_is)
    (c.contains.ensures ∙ found_image c.self.inside.names c.args.image.now c.self.inside.disks.items c.self.invariant.2)
