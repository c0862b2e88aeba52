use Rattle.std.proofs.Common.{refl}
use Rattle.script_text.proofs.Telling.{still_reading}
use Rattle.script_text.proofs.language.feeding.feed_reading.Goals as goal

pub returns-in-Ok-Open : goal.returns-in-Ok-Open
returns-in-Ok-Open c bytes is = still_reading c.args.reading _ bytes c.args.piece.now is (rw c.in-Ok-Open.field-0-is at c.in-Ok-Open.ensures) refl
