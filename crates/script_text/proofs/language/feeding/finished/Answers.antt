use Rattle.script_text.proofs.Pieces.{long_says}
use Rattle.script_text.proofs.Telling.{found_tells}
use Rattle.script_text.proofs.language.feeding.finished.Goals as goal

pub returns-in-Faulty-clause-tells : goal.returns-in-Faulty-clause-tells
returns-in-Faulty-clause-tells c bytes stands = found_tells c.in-Faulty.found bytes c.in-Faulty.found.few (rw c.in-Faulty.is at stands)

pub returns-in-Long-clause-tells : goal.returns-in-Long-clause-tells
returns-in-Long-clause-tells c bytes stands = long_says bytes (rw c.in-Long.is at stands)
