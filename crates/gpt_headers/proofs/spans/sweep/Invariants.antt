use Rattle.std.proofs.Common.{◌≡◌, ℕ, ◌&&◌, nat_le, nat_lt, take}
use Rattle.std.specs.List.{list_any}
use Rattle.gpt_headers.specs.Spans.{flags_after}
use Rattle.gpt_headers.proofs.spans.sweep.Given as goal

abbrev pub invariant-loop-i : goal.invariant-loop-i
invariant-loop-i l = record {
  flags : l.flags ≡ flags_after l.spans (take l.i l.spans) l.initial.flags;
  start : l.i ≡ 0 → l.furthest ≡ 0;
  furthest : (block : ℕ) → list_any (λ s. nat_le block s.last) (take l.i l.spans) ≡ (nat_lt 0 l.i && nat_le block l.furthest);
}
