-- Records that give a partition lie on the medium.
use Rattle.std.proofs.Common.{◌≡◌, ℕ, zero, suc, ◌+◌, ◌≤◌, Bool, true, not, ◌&&◌, nat_le, List, [], ◌∷◌, map, Some, arith}
use Rattle.std.specs.Prelude.{slice_get, IfSome}
use Rattle.std.specs.List.{enumerate_from}
use Rattle.std.proofs.lemmas.Bool.Decides.{nat_tests}
use Rattle.mbr_records.specs.declared.partition_record.MbrRecord.{MbrRecord}
use Rattle.mbr_records.specs.Block.{record_gives_partition, overlaps_another_record}
use Rattle.mbr_records.specs.Record.{is_data}

middle_test : (a c : Bool) (m n : ℕ) → (a && nat_le m n && c) ≡ true → m ≤ n
middle_test a c m n h = grind (arith, nat_tests)

-- the end of a record that gives a partition is at most the medium's
pub partition_fits : (blocks n : ℕ) (all records : List MbrRecord) (i : ℕ) → slice_get (map (λ (j, r). record_gives_partition blocks all j r) (enumerate_from n records)) i ≡ Some true → IfSome (slice_get records i) (λ r. r.start + r.size ≤ blocks)
partition_fits blocks n all [] i h = tt
partition_fits blocks n all (r ∷ records) zero h =
    let yes : record_gives_partition blocks all n r ≡ true = cc in middle_test (is_data r) (not (overlaps_another_record all n r)) (r.start + r.size) blocks yes
partition_fits blocks n all (r ∷ records) (suc i) h = partition_fits blocks (n + 1) all records i h
