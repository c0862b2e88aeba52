-- Numbers in hexadecimal digits with zeros before them.
use Rattle.std.proofs.Common.{◌≡◌, ℕ, ◌-◌, ◌^◌, false, List, [], ◌++◌, length, arith}
use Rattle.std.specs.Prelude.{replicate}
use Rattle.std.proofs.lemmas.List.{append-nil}
use Rattle.std.specs.Fmt.{char_count, format_spec, padded_integral}

-- what `{:08x}` makes of digits, and so with other numbers in place of 8
pub padded-to : (n : ℕ) (ds : List ℕ) → padded_integral (format_spec 32 0 4 n (2 ^ 64 - 1)) false [] ds ≡ replicate (n - length ds) 48 ++ ds
unfolding padded_integral char_count
padded-to n ds =
    let padding : n - length ds - 0 - 0 ≡ n - length ds = omega arith in
    λ i. replicate (padding i) 48 ++ append-nil ds i
