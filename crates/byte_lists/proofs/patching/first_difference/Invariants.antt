use Rattle.std.proofs.Common.{◌≡◌, take}
use Rattle.byte_lists.proofs.patching.first_difference.Given as goal

-- the bytes so far are the same
abbrev pub invariant-loop-place : goal.invariant-loop-place
invariant-loop-place l = take l.place l.left ≡ take l.place l.right
