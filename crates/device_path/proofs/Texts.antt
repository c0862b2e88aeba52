-- The pieces of a text, as they are written.
use Rattle.std.proofs.Common.{◌≡◌, ℕ, ◌-◌, ◌^◌, false, List, [], ◌++◌, length, arith}
use Rattle.std.specs.Prelude.{replicate}
use Rattle.std.proofs.lemmas.List.{append-nil}
use Rattle.std.specs.Fmt.{char_count, format_spec, padded_integral}

-- what `{:08x}` makes of digits
pub padded-eight : (ds : List ℕ) → padded_integral (format_spec 32 0 4 8 (2 ^ 64 - 1)) false [] ds ≡ replicate (8 - length ds) 48 ++ ds
unfolding padded_integral char_count
padded-eight ds =
    let padding : 8 - length ds - 0 - 0 ≡ 8 - length ds = omega arith in
    λ i. replicate (padding i) 48 ++ append-nil ds i
