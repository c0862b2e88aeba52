use Rattle.disk_core.proofs.GoingOn.{rest_comes_back}
use Rattle.disk_core.proofs.later.rest_comes_back.Goals as goal

pub returns : goal.returns
returns c = rest_comes_back
