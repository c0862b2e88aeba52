-- No two children of a table have the same number.
use Rattle.std.proofs.Common.{◌≡◌, inl, inr, ℕ, ◌<◌, List, length, slice_get, get_or, Some, refl, sym, ap, subst, arith}
use Rattle.std.proofs.lemmas.Bool.{cases_lt}
use Rattle.std.proofs.lemmas.Option.{slice_get_within, get_or_from_slice_get}
use Rattle.partition_tables.specs.declared.table.Child.{Child}
use Rattle.partition_tables.specs.Table.{table_of}
use Rattle.partition_tables.proofs.Numbers.{numbers_ascend}
use Rattle.partition_children.specs.Law.{ChildNumbersDiffer}

pub child_numbers_differ : ChildNumbersDiffer
child_numbers_differ bytes size i j child other at at_other same =
    elim (cases_lt i j) [
      | inl less ↦ absurd (below i j child other at at_other same less)
      | inr most ↦ elim (cases_lt j i) [
        | inl less ↦ absurd (below j i other child at_other at (sym same) less)
        | inr least ↦ omega arith
      ]
    ]
  where
    children : List Child
    children = (table_of bytes size).children

    below : (i j : ℕ) (child other : Child) → slice_get children i ≡ Some child → slice_get children j ≡ Some other → child.number ≡ other.number → i < j → ⊥
    below i j child other at at_other same less =
        let within : j < length children = slice_get_within children j other at_other in
        let rises : (get_or children i child).number < (get_or children j child).number = numbers_ascend bytes size i j child less within in
        let first : get_or children i child ≡ child = get_or_from_slice_get children i child child at in
        let second : get_or children j child ≡ other = get_or_from_slice_get children j other child at_other in
        omega (arith, rises, ap (λ (c : Child). c.number) first, ap (λ (c : Child). c.number) second, same)
