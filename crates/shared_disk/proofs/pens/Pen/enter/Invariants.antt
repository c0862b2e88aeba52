use Rattle.std.specs.Prelude.{[], ◌∷◌}
use Rattle.shared_disk.specs.declared.log_rule.Item.TheVariants.{Happened}
use Rattle.shared_disk.proofs.pens.Pen.enter.Given as goal

abbrev pub ghosts-add : goal.ghosts-add
ghosts-add a = record { items = Happened a._told.now ∷ [] }
