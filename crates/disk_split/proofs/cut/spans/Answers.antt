use Rattle.std.proofs.Common.{◌≡◌, ◌<◌, ◌+◌, ◌*◌, ◌^◌, ℕ, arith, refl, rules}
use Rattle.disk_split.specs.declared.geometry.Geometry.{Geometry}
use Rattle.disk_split.specs.Units.{AreUnits, units_of, first_whole, whole_blocks}
use Rattle.disk_split.proofs.Rounding.{first-whole-fits, whole-blocks-fits, whole-blocks-within}
use Rattle.disk_split.proofs.Tiling.{tile-units}
use Rattle.disk_split.proofs.Units.{units-are}
use Rattle.disk_split.proofs.Listing.{units-pushed, units-count, parts-count, units-all, units-whole}
use Rattle.disk_split.proofs.cut.spans.Goals as goal

pub overflow_mul-parts : goal.overflow_mul-parts
overflow_mul-parts c =
    let small : c.split-parts.result.first_whole * c.from-per.result < 2 ^ 64 =
    rw (c.split-parts.ensures.first, c.from-per.ensures) (first-whole-fits c.args.blocks c.args.at c.requires.sized (omega arith)) in
    search rules

pub overflow_mul-parts-2 : goal.overflow_mul-parts-2
overflow_mul-parts-2 c =
    let small : c.split-parts.result.whole * c.from-per.result < 2 ^ 64 =
    rw (c.split-parts.ensures.count, c.from-per.ensures) (whole-blocks-fits c.args.blocks c.args.at (c.args.at + c.args.len) c.requires.sized (omega arith)) in
    search rules

pub push_runs-requires-clause-fits : goal.push_runs-requires-clause-fits
push_runs-requires-clause-fits c =
    rw (c.split-parts.ensures.first, c.split-parts.ensures.count, c.from-per.ensures) (λ some. omega (arith, whole-blocks-within c.args.blocks c.args.at (c.args.at + c.args.len) some))

pub returns : goal.returns
returns c =
    let blocks : Geometry = c.args.blocks in
    let a : ℕ = c.args.at in
    let z : ℕ = c.args.at + c.args.len in
    let sized = c.requires.sized in
    let split = c.split-parts.ensures in
    let first : c.split-parts.result.first_whole * c.from-per.result ≡ first_whole blocks a = rw (split.first, c.from-per.ensures) refl in
    let whole : c.split-parts.result.whole * c.from-per.result ≡ whole_blocks blocks a z = rw (split.count, c.from-per.ensures) refl in
    let units : c.push_part-2.new.units.items ≡ units_of blocks a z =
    units-pushed blocks a z _ _ _ _ _ _ _ _ c.new-units.ensures.items first whole split.under split.over
    c.in_ok-push_part.ensures c.in_ok-push_runs.ensures c.in_ok-push_part-2.ensures in
    let each : AreUnits blocks a z c.push_part-2.new.units.items = rw units (units-are blocks a z sized) in
    record {
      units = units;
      tile = rw units (tile-units blocks a z sized (omega arith));
      each = each;
      all = rw units (λ unit. units-all blocks a z unit sized);
      whole = λ unit block. units-whole blocks a z _ unit block sized each;
      parts = rw units (parts-count blocks a z);
      count = rw units (units-count blocks a z);
    }
