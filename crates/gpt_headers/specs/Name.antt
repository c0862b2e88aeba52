-- The name of a partition (UEFI 2.10, 5.3.3).
use Rattle.std.specs.Prelude.{ℕ, ◌*◌, List, map}
use Rattle.std.specs.List.{range_with_len}
use Rattle.gpt_headers.specs.Fields.{number_at}

-- the 36 units of UTF-16 in these 72 bytes
unfoldable pub name_units : List ℕ → List ℕ
name_units bytes = map (λ i. number_at (2 * i) 2 bytes) (range_with_len 0 36)
