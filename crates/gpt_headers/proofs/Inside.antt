-- Entries that give a partition have blocks, all on the medium.
use Rattle.std.proofs.Common.{◌≡◌, ℕ, zero, suc, ◌+◌, ◌<◌, ◌≤◌, Bool, false, true, not, length, get_or, ◌&&◌, nat_le, nat_lt, List, [], ◌∷◌, map, Some, arith, sym, ap, ◌∙◌}
use Rattle.std.specs.Prelude.{slice_get, IfSome}
use Rattle.std.specs.List.{enumerate_from}
use Rattle.std.proofs.lemmas.Bool.Decides.{nat_tests}
use Rattle.std.proofs.lemmas.List.{get_or_default}
use Rattle.gpt_headers.specs.declared.entry.GptEntry.{GptEntry}
use Rattle.gpt_headers.specs.Fields.{HeaderFields}
use Rattle.gpt_headers.specs.Entry.{entry_gives_partition, has_usable_blocks, is_hidden, is_usable_block, is_used_entry, overlaps_another_entry, usable_entries}
use Rattle.gpt_headers.specs.Spans.{is_lone_entry}

inner_tests : (a b c d e : Bool) (first last blocks : ℕ)
    → (a && (nat_le first last && b && (c && nat_lt last blocks)) && d && e) ≡ true → (first ≤ last) × (last < blocks)
inner_tests a b c d e first last blocks h = (grind (arith, nat_tests), grind (arith, nat_tests))

-- an entry gives a partition where it is a lone one, has usable blocks and is not hidden
pub partition_by_lone : (h : HeaderFields) (blocks : ℕ) (entries : List GptEntry) (i : ℕ) (e : GptEntry)
    → entry_gives_partition h blocks entries i e ≡ (is_lone_entry entries i e && has_usable_blocks h blocks e && not (is_hidden e))
partition_by_lone h blocks entries i e =
    same_tests (is_used_entry e) (nat_le e.first e.last) (is_usable_block h blocks e.first) (is_usable_block h blocks e.last) (not (overlaps_another_entry entries i e)) (not (is_hidden e))
  where
    same_tests : (used some first last lone shown : Bool) → (used && (some && first && last) && lone && shown) ≡ (used && some && lone && (some && first && last) && shown)
    same_tests used some first last lone shown = grind arith

-- the same by the flag at its place among those of the lone entries
pub lone_gives : (h : HeaderFields) (blocks i : ℕ) (entries : List GptEntry) (e : GptEntry) (lone : List Bool) (flag : Bool)
    → length lone ≡ length entries → ((k : ℕ) (d : GptEntry) → k < length entries → get_or lone k false ≡ is_lone_entry entries k (get_or entries k d))
    → i < length entries → e ≡ get_or entries i e → flag ≡ get_or lone i flag
    → (flag && has_usable_blocks h blocks e && not (is_hidden e)) ≡ entry_gives_partition h blocks entries i (get_or entries i e)
lone_gives h blocks i entries e lone flag long told below entry_is flag_is =
    let is : flag ≡ is_lone_entry entries i e =
    flag_is ∙ get_or_default lone i flag false (omega arith) ∙ told i e below ∙ ap (is_lone_entry entries i) (sym entry_is) in
    ap (λ b. b && has_usable_blocks h blocks e && not (is_hidden e)) is
    ∙ sym (partition_by_lone h blocks entries i e)
    ∙ ap (entry_gives_partition h blocks entries i) entry_is

-- the first block of such an entry is at most its last, which is on the medium
partition_inside : (h : HeaderFields) (blocks n : ℕ) (all entries : List GptEntry) (i : ℕ)
    → slice_get (map (λ (j, e). entry_gives_partition h blocks all j e) (enumerate_from n entries)) i ≡ Some true
    → IfSome (slice_get entries i) (λ e. (e.first ≤ e.last) × (e.last < blocks))
partition_inside h blocks n all [] i given = tt
partition_inside h blocks n all (e ∷ entries) zero given =
    let yes : entry_gives_partition h blocks all n e ≡ true = cc in
    inner_tests (is_used_entry e) (is_usable_block h blocks e.first) (nat_le h.first_usable e.last && nat_le e.last h.last_usable)
    (not (overlaps_another_entry all n e)) (not (is_hidden e)) e.first e.last blocks yes
partition_inside h blocks n all (e ∷ entries) (suc i) given = partition_inside h blocks (n + 1) all entries i given

-- the same of the list of flags
pub usable_inside : (h : HeaderFields) (blocks : ℕ) (entries : List GptEntry) (flags : List Bool) (i : ℕ)
    → flags ≡ usable_entries h blocks entries → slice_get flags i ≡ Some true → IfSome (slice_get entries i) (λ e. (e.first ≤ e.last) × (e.last < blocks))
usable_inside h blocks entries flags i is given = partition_inside h blocks 0 entries entries i (ap (λ l. slice_get l i) (sym is) ∙ given)
