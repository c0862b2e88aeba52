use Rattle.std.proofs.Common.{◌≡◌, map, take}
use Rattle.std.specs.List.{enumerate_from}
use Rattle.gpt_headers.specs.Entry.{entry_gives_partition}
use Rattle.gpt_headers.proofs.partitions.usable.Given as goal

abbrev pub invariant-loop-place : goal.invariant-loop-place
invariant-loop-place l =
    l.flags.items ≡ map (λ (i, e). entry_gives_partition l.header l.blocks l.entries i e) (enumerate_from 0 (take l.place l.entries))
