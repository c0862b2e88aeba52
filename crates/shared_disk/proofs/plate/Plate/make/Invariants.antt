use Rattle.shared_disk.specs.Plate.{log_of}
use Rattle.shared_disk.proofs.plate.Plate.make.Given as goal

abbrev pub ghosts-make_pen : goal.ghosts-make_pen
ghosts-make_pen g a = record { items = log_of a.told.now }
