-- The stages of a probe that read a header and its array.
use Rattle.std.proofs.Common.{◌≡◌, ◌≢◌, ℕ, zero, suc, ◌+◌, ◌-◌, ◌*◌, ◌/◌, ◌<◌, ◌≤◌, Bool, true, false, List, [], ◌∷◌, ◌++◌, length, take, drop, Option, None, Some, option_map, Result, Ok, Err, IfOk, IfErr, refl, sym, ◌∙◌, ap, subst, arith}
use Rattle.std.specs.Prelude.{slice_range, ◌==◌, ◌&&◌, not, nat_lt, if◌then◌else◌, is_some, option_and_then}
use Rattle.std.specs.Result.{IsErrAnd}
use Rattle.std.specs.Global.{Vec}
use Rattle.std.proofs.lemmas.Bool.{eq-eqb, ne_eqb}
use Rattle.std.proofs.lemmas.Nat.{div-mul-add}
use Rattle.crc_table.specs.Crc32.{crc32_of}
use Rattle.gpt_headers.specs.Array.{array_range_of}
use Rattle.gpt_headers.specs.Fields.{HeaderFields}
use Rattle.medium.specs.Device.{IsBlockSize}
use Rattle.history.specs.Contents.{contents}
use Rattle.partition_tables.specs.Blocks.{medium_blocks, table_block}
use Rattle.partition_tables.specs.GptTable.{good_header, gpt_table, gpt_table_by, header_with_array}
use Rattle.disk_core.specs.State.{State}
use Rattle.partition_children.specs.declared.reading.ReadFault.{ReadFault}
use Rattle.gpt_headers.specs.declared.header.HeaderFault.{HeaderFault}
use Rattle.gpt_headers.specs.Header.{header_fault, header_fields}
use Rattle.partition_children.specs.declared.good_header.GoodHeader.{GoodHeader}
use Rattle.partition_tables.specs.declared.table.Table.{Table}
use Rattle.partition_children.specs.declared.reading.ReadFault.TheVariants.{Memory}
use Rattle.partition_children.specs.Probing.{AreReadsMade, Reads, AddsEntriesAlone, read_failures, pair_of, part_read}
use Rattle.partition_children.specs.Reads.{array_read, gpt_reads, header_reads}
use Rattle.partition_children.proofs.Stages.{found-read, made-none, made-on, stays-on, told-on}

-- an empty array is not read
pub empty-array : (s : State) (k at n : ℕ) (items bytes : List ℕ) → n ≡ 0 → items ≡ [] → AreReadsMade s k (part_read at n) s × (items ≡ slice_range bytes at (at + n))
empty-array s k at n items bytes none is =
    let count : at + n - at ≡ 0 = omega arith in
    (rw (none) (made-none s k), is ∙ sym (ap (λ (m : ℕ). take m (drop at bytes)) count))

-- another one is
pub some-array : (old new : State) (k at n : ℕ) (r : Result (Vec ℕ) ReadFault) → n ≢ 0 → IfOk r (λ b. Reads old k (at, n) b.items new) → (told : List ℕ) → contents old.setup k old.entries ≡ Some told
    → IfOk r (λ b. AreReadsMade old k (part_read at n) new × (b.items ≡ slice_range told at (at + n)))
some-array old new k at n r some reads told holds = rw (ne_eqb n 0 some) (found-read old new k at n r reads told holds)

-- the blocks of a medium that tells its bytes
pub blocks-told : (bytes : List ℕ) (blocks size : ℕ) → 0 < size → length bytes ≡ blocks * size → medium_blocks bytes size ≡ blocks
blocks-told bytes blocks size some long = let sum : length bytes ≡ blocks * size + 0 = omega arith in ap (λ (n : ℕ). n / size) sum ∙ div-mul-add blocks size 0 some

-- the array of a header by where it lies
module _ (bytes : List ℕ) (blocks size : ℕ) (h : HeaderFields) (same : medium_blocks bytes size ≡ blocks) where
  pub array-outside : array_range_of h blocks size ≡ None → header_with_array bytes size h ≡ None
  array-outside outside = rw (same, outside) refl

  pub array-inside : (at n : ℕ) (array : List ℕ) → array_range_of h blocks size ≡ Some (at, n) → array ≡ slice_range bytes at (at + n)
      → header_with_array bytes size h ≡ (if crc32_of array == h.array_crc then Some (h, array) else None)
  array-inside at n array inside is = rw (same, inside, is) refl

-- a header whose array lies outside is bad, and its array is not read
pub with-none : (s : State) (k blocks size : ℕ) (h : HeaderFields) (bytes : List ℕ) → medium_blocks bytes size ≡ blocks → array_range_of h blocks size ≡ None
    → AreReadsMade s k (array_read (array_range_of h blocks size)) s × (None ≡ header_with_array bytes size h)
with-none s k blocks size h bytes same outside = (rw outside (made-none s k), sym (array-outside bytes blocks size h same outside))

module _ (old new : State) (k blocks size : ℕ) (h : HeaderFields) (bytes array copied : List ℕ) (at n : ℕ) (same : medium_blocks bytes size ≡ blocks) (range : array_range_of h blocks size ≡ Some (at, n))
    (read : AreReadsMade old k (part_read at n) new × (array ≡ slice_range bytes at (at + n))) (copy : copied ≡ array) where
  made-array : AreReadsMade old k (array_read (array_range_of h blocks size)) new
  made-array = rw range (read.0)

  -- one whose array has its CRC32 is good
  pub with-good : crc32_of copied ≡ h.array_crc → AreReadsMade old k (array_read (array_range_of h blocks size)) new × (Some (h, array) ≡ header_with_array bytes size h)
  with-good crc =
      let crc_array : crc32_of array ≡ h.array_crc = sym (ap crc32_of copy) ∙ crc in
      (made-array, sym (array-inside bytes blocks size h same at n array range (read.1) ∙ rw (eq-eqb (crc32_of array) h.array_crc crc_array) refl))

  pub with-bad : (crc32_of copied ≡ h.array_crc → ⊥) → AreReadsMade old k (array_read (array_range_of h blocks size)) new × (None ≡ header_with_array bytes size h)
  with-bad crc =
      let crc_array : crc32_of array ≡ h.array_crc → ⊥ = λ is. crc (ap crc32_of copy ∙ is) in
      (made-array, sym (array-inside bytes blocks size h same at n array range (read.1) ∙ rw (ne_eqb (crc32_of array) h.array_crc crc_array) refl))

-- a block has some bytes
pub size-some : (size : ℕ) → IsBlockSize size → 0 < size
size-some zero is = cc
size-some (suc n) is = omega arith

abbrev pub is_place : ℕ → ℕ → Bool
is_place lba blocks = not (lba == 0) && nat_lt lba blocks

module _ (old : State) (k size lba blocks : ℕ) (bytes : List ℕ) (same : medium_blocks bytes size ≡ blocks) where
  -- a place that is not on the medium, or is block 0, is not read
  pub no-place : is_place lba blocks ≡ false → AreReadsMade old k (header_reads bytes size lba) old × (None ≡ good_header bytes size lba)
  unfolding good_header
  no-place out = (rw (same, out) (made-none old k), rw (same, out) refl)

  -- a block that holds no header
  pub no-header : (mid : State) (block : List ℕ) (fault : HeaderFault) → is_place lba blocks ≡ true → AreReadsMade old k ((lba * size, size) ∷ []) mid × (block ≡ table_block bytes size lba) → header_fault lba block ≡ Some fault
      → AreReadsMade old k (header_reads bytes size lba) mid × (None ≡ good_header bytes size lba)
  unfolding good_header
  no-header mid block fault place (made, is) bad =
      let bad_at : header_fault lba (table_block bytes size lba) ≡ Some fault = ap (header_fault lba) (sym is) ∙ bad in
      (rw (same, place, bad_at) made, rw (same, place, bad_at) refl)

  -- a block that holds a header, with its array
  pub some-header : (mid new : State) (block : List ℕ) (h : HeaderFields) (good : Option (HeaderFields × List ℕ)) → mid.setup ≡ old.setup → is_place lba blocks ≡ true → AreReadsMade old k ((lba * size, size) ∷ []) mid × (block ≡ table_block bytes size lba)
      → header_fault lba block ≡ None → h ≡ header_fields block → AreReadsMade mid k (array_read (array_range_of h blocks size)) new × (good ≡ header_with_array bytes size h)
      → AreReadsMade old k (header_reads bytes size lba) new × (good ≡ good_header bytes size lba)
  unfolding good_header
  some-header mid new block h good setup place (made, is) sound tells (made_array, is_good) =
      let sound_at : header_fault lba (table_block bytes size lba) ≡ None = ap (header_fault lba) (sym is) ∙ sound in
      let fields : header_fields (table_block bytes size lba) ≡ h = ap header_fields (sym is) ∙ sym tells in
      (rw (same, place, sound_at, fields) (made-on old mid new k ((lba * size, size) ∷ []) (array_read (array_range_of h blocks size)) setup made made_array), is_good ∙ rw (same, place, sound_at, fields) refl)

-- stages of which the first does not fail
pub stays-then : (a b c : State) (f : ℕ) → AddsEntriesAlone a 0 b → AddsEntriesAlone b f c → AddsEntriesAlone a f c
stays-then a b c f one two = let sum : 0 + f ≡ f = omega arith in subst (λ (n : ℕ). AddsEntriesAlone a n c) sum (stays-on a b c 0 f one two)

pub stays-whole : (old mid new : State) (k size lba blocks : ℕ) (bytes block : List ℕ) (h : HeaderFields) (r : Result (Option GoodHeader) ReadFault) → medium_blocks bytes size ≡ blocks → mid.setup ≡ old.setup → is_place lba blocks ≡ true
    → AreReadsMade old k ((lba * size, size) ∷ []) mid × (block ≡ table_block bytes size lba) → header_fault lba block ≡ None → h ≡ header_fields block
    → IfOk r (λ good. AreReadsMade mid k (array_read (array_range_of h blocks size)) new × (option_map pair_of good ≡ header_with_array bytes size h))
    → IfOk r (λ good. AreReadsMade old k (header_reads bytes size lba) new × (option_map pair_of good ≡ good_header bytes size lba))
stays-whole old mid new k size lba blocks bytes block h (Ok good) same setup place read sound tells found = some-header old k size lba blocks bytes same mid new block h (option_map pair_of good) setup place read sound tells found
stays-whole old mid new k size lba blocks bytes block h (Err fault) same setup place read sound tells found = tt

-- a stage that reads nothing, and may want memory
pub stays-memory : {X : Type 0} (old mid : State) (r : Result X ReadFault) → AddsEntriesAlone old 0 mid → IfErr r (λ fault. fault ≡ Memory) → AddsEntriesAlone old (read_failures r) mid
stays-memory old mid (Ok x) stays memory = stays
stays-memory old mid (Err fault) stays memory = rw memory stays

-- a stage that ends as its last read did
pub stays-failed : {X : Type 0} (a b c : State) (r : Result X ReadFault) (fault : ReadFault) → AddsEntriesAlone a 0 b → AddsEntriesAlone b (read_failures {X = X} (Err fault)) c → IsErrAnd r (λ f. f ≡ fault) → AddsEntriesAlone a (read_failures r) c
stays-failed a b c (Ok x) fault one two is = absurd is
stays-failed a b c (Err f) fault one two is = rw is (stays-then a b c _ one two)

pub stays-wanting : {X : Type 0} (a b : State) (r : Result X ReadFault) → AddsEntriesAlone a 0 b → IsErrAnd r (λ f. f ≡ Memory) → AddsEntriesAlone a (read_failures r) b
stays-wanting a b (Ok x) one is = absurd is
stays-wanting a b (Err f) one is = rw is one

-- the header at the last LBA, where that at LBA 1 is bad
pub backup-table : (old mid new : State) (k size blocks : ℕ) (bytes : List ℕ) (r : Result Table ReadFault) → medium_blocks bytes size ≡ blocks → mid.setup ≡ old.setup
    → AreReadsMade old k (header_reads bytes size 1) mid → None ≡ good_header bytes size 1
    → IfOk r (λ table. AreReadsMade mid k (header_reads bytes size (blocks - 1)) new × (table ≡ gpt_table_by blocks None (good_header bytes size (blocks - 1))))
    → IfOk r (λ table. AreReadsMade old k (gpt_reads bytes size) new × (table ≡ gpt_table bytes size))
backup-table old mid new k size blocks bytes (Err fault) same setup first bad found = tt
backup-table old mid new k size blocks bytes (Ok table) same setup first bad (made, is) =
    let made_last : AreReadsMade mid k (header_reads bytes size (medium_blocks bytes size - 1)) new = subst (λ (n : ℕ). AreReadsMade mid k (header_reads bytes size (n - 1)) new) (sym same) made in
    let is_last : table ≡ gpt_table_by (medium_blocks bytes size) None (good_header bytes size (medium_blocks bytes size - 1)) =
    subst (λ (n : ℕ). table ≡ gpt_table_by n None (good_header bytes size (n - 1))) (sym same) is in
    let both : AreReadsMade old k (header_reads bytes size 1 ++ header_reads bytes size (medium_blocks bytes size - 1)) new =
    made-on old mid new k (header_reads bytes size 1) (header_reads bytes size (medium_blocks bytes size - 1)) setup first made_last in (
      subst (λ (o : Option (HeaderFields × List ℕ)). AreReadsMade old k (header_reads bytes size 1 ++ (if is_some o then [] else header_reads bytes size (medium_blocks bytes size - 1))) new) bad both,
      subst (λ (o : Option (HeaderFields × List ℕ)). table ≡ gpt_table_by (medium_blocks bytes size) o (good_header bytes size (medium_blocks bytes size - 1))) bad is_last,
    )
