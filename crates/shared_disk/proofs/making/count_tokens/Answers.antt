use Rattle.std.proofs.Common.{◌≡◌, ℕ, ◌∙◌, sym, ap, take, length, count_by, arith}
use Rattle.std.proofs.Math.Seq.{take-length}
use Rattle.history.specs.Tokens.{is_accept, token_count}
use Rattle.shared_disk.proofs.MakingLemmas.{count_by-reverse}
use Rattle.shared_disk.proofs.making.count_tokens.Goals as goal

pub returns-clause-value : goal.returns-clause-value
unfolding token_count
returns-clause-value c = c.loop-entry.invariant.0 ∙ (ap (count_by is_accept) (all c.loop-entry.entry-index (omega (arith, c.loop-entry-test.false, c.loop-entry.auto.entry-index-end))) ∙ sym (count_by-reverse is_accept c.args.entries.now))
  where
    all : (n : ℕ) → n ≡ length c.args.entries.now → take n c.args.entries.now ≡ c.args.entries.now
    all n is = rw is (take-length c.args.entries.now)
