use Rattle.std.proofs.Common.{◌≡◌, ℕ, true, arith}
use Rattle.std.specs.Prelude.{max}
use Rattle.std.proofs.lemmas.Bool.Decides.{nat_tests}
use Rattle.gpt_headers.specs.declared.entry.GptEntry.{GptEntry}
use Rattle.gpt_headers.specs.Entry.{IsBlockOfEntry, entries_share_block}
use Rattle.gpt_headers.proofs.law.shared_blocks_tell.Goals as goal

own : (e f : GptEntry) → entries_share_block e f ≡ true → IsBlockOfEntry e (max e.first f.first)
own e f h = (grind (arith, nat_tests), grind (arith, nat_tests))

other : (e f : GptEntry) → entries_share_block e f ≡ true → IsBlockOfEntry f (max e.first f.first)
other e f h = (grind (arith, nat_tests), grind (arith, nat_tests))

shared : (e f : GptEntry) (block : ℕ) → IsBlockOfEntry e block → IsBlockOfEntry f block → entries_share_block e f ≡ true
shared e f block h k = grind (arith, nat_tests, h.0, h.1, k.0, k.1)

pub returns : goal.returns
returns c e f = (λ h. (max e.first f.first, own e f h, other e f h), λ b. shared e f b.0 b.1 b.2)
