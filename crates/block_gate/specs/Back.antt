-- What giving a work back does.
use Rattle.std.specs.Prelude.{◌≡◌, true, false}
use Rattle.block_gate.specs.declared.back.Back.{Back}
use Rattle.block_gate.specs.declared.back.Back.TheVariants.{Home, Foreign}
use Rattle.block_gate.specs.Works.{Lent}
use Rattle.block_gate.specs.Gates.{Gates, is_ours, with_work_back}

-- a work of these gates is taken, and another one comes back unchanged
unfoldable pub IsGivenBack : Gates → Lent → Back → Gates → Type 0
IsGivenBack old work Home new = (is_ours old work ≡ true) × (new ≡ with_work_back old work.ticket)
IsGivenBack old work (Foreign back) new = (is_ours old work ≡ false) × (back ≡ work) × (new ≡ old)
