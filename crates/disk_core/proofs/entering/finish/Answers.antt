use Rattle.std.proofs.Common.{◌≡◌, ◌+◌, ◌-◌, ◌≤◌, subst, sym, arith}
use Rattle.std.specs.Prelude.{count_by}
use Rattle.token_table.specs.declared.record.Mark.{Mark}
use Rattle.token_table.specs.Records.{mark_at, with_change, lower_record}
use Rattle.subtask_queue.specs.Subs.{token_of, block_of, is_of, is_unit, without_first}
use Rattle.disk_core.specs.Moves.{after_finish, with_entry}
use Rattle.disk_core.proofs.Lowered.{lowered-open, count-without}
use Rattle.disk_core.proofs.entering.finish.Goals as goal

pub end_token-requires-clause-outstanding : goal.end_token-requires-clause-outstanding
unfolding after_finish with_entry
end_token-requires-clause-outstanding c =
    let tokens = c.args.core.now.tokens in
    let t = token_of c.args.unit.now in
    subst (λ core. mark_at core.tokens c.token-token.result ≡ Mark.Outstanding) (sym c.finish_unit.ensures)
    (subst (λ u. mark_at (with_change (lower_record c.args.bytes) tokens t) u ≡ Mark.Outstanding) (sym c.token-token.ensures) (lowered-open tokens t c.args.bytes c.requires.outstanding))

pub end_token-requires-clause-owed : goal.end_token-requires-clause-owed
unfolding after_finish with_entry
end_token-requires-clause-owed c =
    let t = token_of c.args.unit.now in
    let queue = c.args.core.now.queue in
    let rest = without_first (is_unit t (block_of c.args.unit.now)) queue in
    subst (λ core. count_by (is_of c.token-token.result) core.queue + 1 ≤ core.owed) (sym c.finish_unit.ensures)
    (subst (λ u. count_by (is_of u) rest + 1 ≤ c.args.core.now.owed - 1) (sym c.token-token.ensures)
    (let less = count-without (is_of t) (is_unit t (block_of c.args.unit.now)) queue in let owed = c.requires.owed in omega arith))
