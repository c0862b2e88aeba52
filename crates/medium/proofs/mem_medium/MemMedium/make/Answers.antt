use Rattle.std.proofs.Common.{◌≡◌, ℕ, ◌*◌, ◌/◌, length, List, Option, None, IsSome, ap, subst, ◌∙◌, sym, arith, vec_len}
use Rattle.medium.proofs.Overlays.{overlay-none}
use Rattle.medium.proofs.Sizes.{whole-is}
use Rattle.medium.specs.Blocks.{overlay}
use Rattle.medium.specs.BlockMap.{held_block}
use Rattle.medium.specs.Memory.{memory_device}
use Rattle.medium.proofs.mem_medium.MemMedium.make.Goals as goal

not-some : IsSome {T = List ℕ} None → ⊥
not-some is = cc

pub returns : goal.returns
returns c =
    let bytes = c.args.bytes in
    let count : c.len.result / c.from.result ≡ vec_len bytes / c.args.size = rw (c.len.ensures, c.from.ensures) in
    let long : length bytes.items ≡ vec_len bytes / c.args.size * c.args.size = omega (arith, whole-is (vec_len bytes) c.args.size c.requires.size c.requires.whole, bytes.ok.0) in
    ap (λ (n : ℕ). memory_device bytes.items (overlay (held_block c.new.result) c.args.size n bytes.items) c.args.size n 0) count
    ∙ ap (λ (now : List ℕ). memory_device bytes.items now c.args.size (vec_len bytes / c.args.size) 0) (overlay-none (held_block c.new.result) c.args.size (vec_len bytes / c.args.size) bytes.items c.new.ensures.blocks long)

pub invariant_of-result-clause-length : goal.invariant_of-result-clause-length
invariant_of-result-clause-length c =
    let bytes = c.args.bytes in
    let count : c.len.result / c.from.result ≡ vec_len bytes / c.args.size = rw (c.len.ensures, c.from.ensures) in
    let long : length bytes.items ≡ vec_len bytes / c.args.size * c.args.size = omega (arith, whole-is (vec_len bytes) c.args.size c.requires.size c.requires.whole, bytes.ok.0) in
    let P : ℕ → Type 0 = λ n. length (overlay (held_block c.new.result) c.args.size n bytes.items) ≡ n * c.args.size in
    subst P (sym count) (ap length (overlay-none (held_block c.new.result) c.args.size (vec_len bytes / c.args.size) bytes.items c.new.ensures.blocks long) ∙ long)

pub invariant_of-result-clause-inside : goal.invariant_of-result-clause-inside
invariant_of-result-clause-inside c = λ b held. absurd (not-some (subst (λ (o : Option (List ℕ)). IsSome o) (c.new.ensures.blocks b) held))
