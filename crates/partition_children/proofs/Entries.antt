-- The children of the first entries of an array.
use Rattle.std.proofs.Common.{◌≡◌, ◌≤◌, ◌<◌, ℕ, zero, suc, ◌+◌, ◌*◌, Bool, true, false, List, [], ◌∷◌, ◌++◌, get_or, length, map, filter, take, Some, refl, subst, sym, ap, ◌∙◌, arith, inl, inr}
use Rattle.std.specs.List.{enumerate_from, range_with_len}
use Rattle.std.proofs.lemmas.List.{append-nil, map-append}
use Rattle.std.proofs.lemmas.List.Elements.{filter-append}
use Rattle.std.proofs.lemmas.List.FromFn.{map-range_with_len_more}
use Rattle.gpt_headers.specs.declared.entry.GptEntry.{GptEntry}
use Rattle.std.specs.Prelude.{slice_get, slice_range, IfSome, Option}
use Rattle.std.proofs.lemmas.List.{get_or-map, length-map}
use Rattle.std.proofs.lemmas.List.FromFn.{get_or-enumerate_from, length-enumerate_from}
use Rattle.std.proofs.lemmas.Option.{slice_get_read}
use Rattle.gpt_headers.specs.Entry.{entry_in, entry_gives_partition, usable_entries}
use Rattle.gpt_headers.specs.Fields.{HeaderFields}
use Rattle.partition_tables.specs.declared.table.Child.{Child}
use Rattle.partition_tables.specs.GptTable.{child_of_entry, entry_children}

-- one more entry of an array
pub entries_more : (f : ℕ → GptEntry) (n : ℕ) (old new : List GptEntry) (e : GptEntry) → new ≡ old ++ e ∷ [] → old ≡ map f (range_with_len 0 n) → e ≡ f n → new ≡ map f (range_with_len 0 (n + 1))
entries_more f n old new e is so_far next = is ∙ (rw (so_far, next) (sym (map-range_with_len_more f 0 n n (omega arith))))

-- the same entry, by equal sizes and bytes
pub entry-same : (i s s' : ℕ) (a a' : List ℕ) → s ≡ s' → a ≡ a' → entry_in (slice_range a (i * s) (i * s + 128)) ≡ entry_in (slice_range a' (i * s') (i * s' + 128))
entry-same i s s' a a' p q = ap (λ (n : ℕ). entry_in (slice_range a (i * n) (i * n + 128))) p ∙ ap (λ (l : List ℕ). entry_in (slice_range l (i * s') (i * s' + 128))) q

-- the flags tell which entries give a child
pub flags-long : (blocks : ℕ) (h : HeaderFields) (entries : List GptEntry) (flags : List Bool) → flags ≡ usable_entries h blocks entries → length flags ≡ length entries
flags-long blocks h entries flags is = ap length is ∙ (length-map (enumerate_from 0 entries) (λ (i, e). entry_gives_partition h blocks entries i e) ∙ length-enumerate_from 0 entries)

pub flag-is : (blocks : ℕ) (h : HeaderFields) (entries : List GptEntry) (flags : List Bool) (place : ℕ) (flag : Bool) (e : GptEntry) → flags ≡ usable_entries h blocks entries → place < length entries → e ≡ get_or entries place e
    → flag ≡ get_or flags place flag → flag ≡ entry_gives_partition h blocks entries place e
flag-is blocks h entries flags place flag e is within here at =
    let test : ℕ × GptEntry → Bool = λ (i, f). entry_gives_partition h blocks entries i f in
    let one : get_or (map test (enumerate_from 0 entries)) place flag ≡ entry_gives_partition h blocks entries (0 + place) (get_or entries place e) =
    get_or-map test (enumerate_from 0 entries) place (0, e) flag (omega (arith, length-enumerate_from 0 entries)) ∙ ap test (get_or-enumerate_from 0 entries place (0, e) within) in
    let same : 0 + place ≡ place = omega arith in
    at ∙ (ap (λ (l : List Bool). get_or l place flag) is ∙ (one ∙ (ap (λ (i : ℕ). entry_gives_partition h blocks entries i (get_or entries place e)) same ∙ ap (entry_gives_partition h blocks entries place) (sym here))))

pub entry-inside : (blocks : ℕ) (entries : List GptEntry) (flags : List Bool) (place : ℕ) (flag : Bool) (e : GptEntry)
    → ((i : ℕ) → slice_get flags i ≡ Some true → IfSome (slice_get entries i) (λ e. (e.first ≤ e.last) × (e.last < blocks))) → length flags ≡ length entries → place < length entries → e ≡ get_or entries place e
    → flag ≡ get_or flags place flag → flag ≡ true → (e.first ≤ e.last) × (e.last < blocks)
entry-inside blocks entries flags place flag e inside long within here at is =
    let flag_there : slice_get flags place ≡ Some true = slice_get_read flags (length flags) place flag refl (omega arith) at ∙ ap Some is in
    let e_there : slice_get entries place ≡ Some e = slice_get_read entries (length entries) place e refl within here in
    subst (λ (o : Option GptEntry). IfSome o (λ e. (e.first ≤ e.last) × (e.last < blocks))) e_there (inside place flag_there)
