-- The children that clients are for, one after the other.
use Rattle.std.proofs.Common.{◌≡◌, ℕ, ◌+◌, ◌*◌, ◌^◌, ◌<◌, true, false, nat_eq, nat_lt, List, length, drop, get_or, Some, refl, ◌∙◌, ap, arith}
use Rattle.std.proofs.lemmas.Bool.Decides.{nat_tests}
use Rattle.script_text.proofs.Chains.{both_true}
use Rattle.partition_tables.specs.declared.table.Child.{Child}
use Rattle.script_text.specs.declared.language.plans.ClientPlan.{ClientPlan}
use Rattle.stack_run.specs.Parts.{is_countable, is_child, child_with, is_missing, first_missing}
use Rattle.stack_run.proofs.ChainLemmas.{drop-next}

pub child-next : (size number : ℕ) (children : List Child) (i : ℕ) (child : Child) → i < length children → child ≡ get_or children i child → is_child size number child ≡ false → child_with size number (drop i children) ≡ child_with size number (drop (i + 1) children)
unfolding child_with
child-next size number children i child inside is isnt = ap (child_with size number) (drop-next children i child inside is) ∙ (rw isnt refl)

pub child-here : (size number : ℕ) (children : List Child) (i : ℕ) (child : Child) → i < length children → child ≡ get_or children i child → is_child size number child ≡ true → child_with size number (drop i children) ≡ Some child
unfolding child_with
child-here size number children i child inside is there = ap (child_with size number) (drop-next children i child inside is) ∙ (rw there refl)

pub missing-next : (size : ℕ) (children : List Child) (clients : List ClientPlan) (i : ℕ) (client : ClientPlan) → i < length clients → client ≡ get_or clients i client → is_missing size children client.part ≡ false
    → first_missing size children (drop i clients) ≡ first_missing size children (drop (i + 1) clients)
unfolding first_missing
missing-next size children clients i client inside is isnt = ap (first_missing size children) (drop-next clients i client inside is) ∙ (rw isnt refl)

pub missing-here : (size : ℕ) (children : List Child) (clients : List ClientPlan) (i : ℕ) (client : ClientPlan) → i < length clients → client ≡ get_or clients i client → is_missing size children client.part ≡ true
    → first_missing size children (drop i clients) ≡ Some client.line
unfolding first_missing
missing-here size children clients i client inside is there = ap (first_missing size children) (drop-next clients i client inside is) ∙ (rw there refl)

is-less : (a b : ℕ) → nat_lt a b ≡ true → a < b
is-less a b is = grind (arith, nat_tests)

-- a child that was found can be counted
pub countable : (size number : ℕ) (child : Child) → is_child size number child ≡ true → (child.first * size < 2 ^ 64) × (child.blocks * size < 2 ^ 64)
countable size number child is =
    let (named, fits) = both_true (nat_eq child.number number) (is_countable size child) is in
    let (first, blocks) = both_true (nat_lt (child.first * size) (2 ^ 64)) (nat_lt (child.blocks * size) (2 ^ 64)) fits in
    (is-less (child.first * size) (2 ^ 64) first, is-less (child.blocks * size) (2 ^ 64) blocks)
