use Rattle.std.specs.Prelude.{[], ◌∷◌}
use Rattle.shared_disk.specs.declared.log_rule.Item.TheVariants.{LineOf}
use Rattle.shared_disk.proofs.pens.Pen.enter_line.Given as goal

abbrev pub ghosts-add : goal.ghosts-add
ghosts-add a = record { items = LineOf a._told.now ∷ [] }
