-- A child's view lies on the medium, and its requests stay inside it.
use Rattle.std.proofs.Common.{◌≡◌, inl, inr, ℕ, zero, suc, ◌+◌, ◌*◌, ◌/◌, ◌%◌, ◌≤◌, List, [], ◌∷◌, length, subst, sym, arith}
use Rattle.std.proofs.Math.Nat.{add-mul, mul_comm}
use Rattle.std.proofs.lemmas.Nat.{mul-le}
use Rattle.history.specs.declared.entry.View.{View}
use Rattle.history.specs.declared.entry.Entry.{Entry}
use Rattle.history.specs.Setup.{Setup, size_of}
use Rattle.history_laws.specs.Ranges.{AreOutside, IsOutside, OutsideStays}
use Rattle.partition_tables.specs.declared.table.Child.{Child}
use Rattle.partition_tables.proofs.Lying.{children_lie}
use Rattle.partition_children.specs.Children.{child_view}
use Rattle.partition_children.specs.Law.{AreOfView, ChildRequestsStay, ChildViewsLie, IsBeside}

-- blocks that end where the medium's whole blocks do
bytes_within : (first blocks size n : ℕ) → first + blocks ≤ n / size → first * size + blocks * size ≤ n
bytes_within first blocks zero n within = omega arith
bytes_within first blocks (suc s) n within =
    let size = suc s in
    let most : (first + blocks) * size ≤ n / size * size = mul-le (first + blocks) size (n / size) size within (omega arith) in
    let apart : (first + blocks) * size ≡ first * size + blocks * size = add-mul first blocks size in
    let whole : size * (n / size) + n % size ≡ n = omega arith in
    omega (arith, most, apart, whole, mul_comm (n / size) size)

pub child_views_lie : ChildViewsLie
child_views_lie bytes size media_id = λ i child below. bytes_within _ _ size (length bytes) (children_lie bytes size i child below)

module _ (S : Setup) (child : Child) (k x : ℕ) (beside : IsBeside child (size_of S) x) where
  outside-view : IsOutside (child_view child k (size_of S)) k x
  outside-view = by beside
    where
      by : IsBeside child (size_of S) x → IsOutside (child_view child k (size_of S)) k x
      by (inl below) = inr (inl below)
      by (inr behind) = inr (inr (omega arith))

  are-outside : (H more : List Entry) → AreOfView (child_view child k (size_of S)) H more → AreOutside H more k x
  unfolding AreOfView AreOutside
  are-outside H [] all = tt
  are-outside H (e ∷ earlier) (of, all) =
      ((λ t r command named. subst (λ (v : View). IsOutside v k x) (sym (of t r command named)) outside-view), are-outside H earlier all)

pub requests-stay : (S : Setup) (all : List Entry) → OutsideStays S all → ChildRequestsStay S all
requests-stay S all stays child k x more before is of beside = stays k x more before is (are-outside S child k x beside before more of)
