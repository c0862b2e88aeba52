use Rattle.std.proofs.Common.{string_bytes}
use Rattle.script_text.proofs.Images.{name_taken}
use Rattle.script_text.proofs.language.draft.take_name.Goals as goal

pub returns : goal.returns
returns c images finds =
    name_taken c.args.names.now c.insert.new.self (string_bytes c.in_ok-name.name) c.args.image.now c.in_ok-name.ensures.ok c.in_ok-insert.ensures.updates images finds
