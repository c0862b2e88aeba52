-- A probe that ends before its last read.
use Rattle.std.proofs.Common.{◌≡◌, ◌≢◌, ℕ, ◌+◌, ◌-◌, ◌*◌, ◌<◌, Bool, true, false, List, [], ◌∷◌, ◌++◌, length, drop, map, take, slice_get, get_or, Option, None, Some, Result, Ok, Err, IfErr, refl, sym, ◌∙◌, ap, subst, arith}
use Rattle.std.specs.Prelude.{◌==◌, not, nat_lt, is_some, if◌then◌else◌}
use Rattle.std.specs.List.{list_any}
use Rattle.std.specs.Option.{option_map_or}
use Rattle.std.specs.Result.{IsErrAnd}
use Rattle.std.proofs.lemmas.Bool.{ne_eqb}
use Rattle.std.proofs.lemmas.List.{append_assoc, append-nil}
use Rattle.gpt_headers.specs.Array.{array_range_of}
use Rattle.gpt_headers.specs.Fields.{HeaderFields}
use Rattle.gpt_headers.specs.Header.{header_fault, header_fields}
use Rattle.history.specs.declared.entry.Entry.{Entry}
use Rattle.history.specs.Setup.{Setup, size_of}
use Rattle.history.specs.Eras.{media_id_of}
use Rattle.history.specs.Contents.{contents}
use Rattle.mbr_records.specs.Block.{Fields, extended_range, mbr_of}
use Rattle.mbr_records.specs.Record.{is_protective}
use Rattle.mbr_records.specs.Chain.{Trail, trail_of}
use Rattle.partition_tables.specs.Blocks.{boot_record_at, medium_blocks, table_block}
use Rattle.partition_tables.specs.declared.table.Table.{Table}
use Rattle.partition_tables.specs.GptTable.{good_header}
use Rattle.disk_core.specs.State.{State}
use Rattle.partition_children.specs.declared.reading.ReadFault.{ReadFault}
use Rattle.partition_children.specs.declared.reading.ReadFault.TheVariants.{Device, Memory}
use Rattle.partition_children.specs.Entries.{after_reads}
use Rattle.partition_children.specs.declared.reading.Target.{Target}
use Rattle.partition_children.specs.declared.probing.ProbeFault.TheVariants as ends
use Rattle.partition_children.specs.Probing.{BreaksOff, ProbeEnds, EndsProbe, EndsRead, EndsReads, FailsToRead, IsTargetOf, AreReadsMade, ProbeStopsAfter, part_read}
use Rattle.partition_children.specs.Reads.{array_read, chain_reads, gpt_reads, header_reads, probe_reads, reads_by, record_read}
use Rattle.partition_children.proofs.Headers.{is_place}
use Rattle.partition_children.proofs.Stages.{after-both, made-none}

-- an error that is handed on
pub handed-on : {X : Type 0} (P : ReadFault → Type 0) (r : Result X ReadFault) (fault : ReadFault) → P fault → IsErrAnd r (λ f. f ≡ fault) → IfErr r P
handed-on P (Ok x) fault holds is = tt
handed-on P (Err f) fault holds is = subst P (sym is) holds

-- one read that did not succeed
ends-one : (old new : State) (k : ℕ) (read : ℕ × ℕ) (fault : ReadFault) → EndsRead old k read fault new → EndsReads old k (read ∷ []) fault new
unfolding EndsRead EndsReads after_reads
ends-one old new k read Device fails = record { made = []; failed = read; left = []; in_order = refl; fails = fails }
ends-one old new k read Memory same = record { made = []; left = read ∷ []; in_order = refl; stops = rw same (made-none old k) }

pub one-ends : {X : Type 0} (old new : State) (k : ℕ) (read : ℕ × ℕ) (r : Result X ReadFault) → IfErr r (λ fault. EndsRead old k read fault new) → IfErr r (λ fault. EndsReads old k (read ∷ []) fault new)
one-ends old new k read (Ok x) ends = tt
one-ends old new k read (Err fault) ends = ends-one old new k read fault ends

-- the same where the read is named otherwise
pub one-ends-at : {X : Type 0} (old new : State) (k at at' n : ℕ) (r : Result X ReadFault) → at' ≡ at → IfErr r (λ fault. EndsRead old k (at', n) fault new) → IfErr r (λ fault. EndsReads old k ((at, n) ∷ []) fault new)
one-ends-at old new k at at' n r same ends = one-ends old new k (at, n) r (subst (λ (a : ℕ). IfErr r (λ fault. EndsRead old k (a, n) fault new)) same ends)

-- more reads would have followed
pub ends-first : (a b : State) (k : ℕ) (first more : List (ℕ × ℕ)) (fault : ReadFault) → EndsReads a k first fault b → EndsReads a k (first ++ more) fault b
unfolding EndsReads
ends-first a b k first more Device e = record {
  made = e.made;
  failed = e.failed;
  left = e.left ++ more;
  in_order = ap (λ (rs : List (ℕ × ℕ)). rs ++ more) e.in_order ∙ append_assoc e.made (e.failed ∷ e.left) more;
  fails = e.fails;
}
ends-first a b k first more Memory e = record {
  made = e.made;
  left = e.left ++ more;
  in_order = ap (λ (rs : List (ℕ × ℕ)). rs ++ more) e.in_order ∙ append_assoc e.made e.left more;
  stops = e.stops;
}

-- reads were made before
module _ (a b c : State) (k : ℕ) (first next : List (ℕ × ℕ)) (same : b.setup ≡ a.setup) (made : AreReadsMade a k first b) where
  after-first : (reads : List (ℕ × ℕ)) → after_reads b.setup k b.entries reads ≡ after_reads a.setup k a.entries (first ++ reads)
  after-first reads =
      ap (λ (S : Setup). after_reads S k b.entries reads) same ∙ (ap (λ (H : List Entry). after_reads a.setup k H reads) made ∙ sym (after-both a.setup k a.entries first reads))

  pub ends-then : (fault : ReadFault) → EndsReads b k next fault c → EndsReads a k (first ++ next) fault c
  unfolding EndsReads
  ends-then Device e = record {
    made = first ++ e.made;
    failed = e.failed;
    left = e.left;
    in_order = ap (λ (rs : List (ℕ × ℕ)). first ++ rs) e.in_order ∙ sym (append_assoc first e.made (e.failed ∷ e.left));
    fails = subst (λ (H : List Entry). FailsToRead a.setup k H e.failed c.entries) (after-first e.made)
        (subst (λ (S : Setup). FailsToRead S k (after_reads b.setup k b.entries e.made) e.failed c.entries) same e.fails);
  }
  ends-then Memory e = record {
    made = first ++ e.made;
    left = e.left;
    in_order = ap (λ (rs : List (ℕ × ℕ)). first ++ rs) e.in_order ∙ sym (append_assoc first e.made e.left);
    stops = e.stops ∙ after-first e.made;
  }

-- memory ran out behind these reads
pub wants-after : (old new : State) (k : ℕ) (made left : List (ℕ × ℕ)) → AreReadsMade old k made new → EndsReads old k (made ++ left) Memory new
unfolding EndsReads
wants-after old new k made left stops = record { made = made; left = left; in_order = refl; stops = stops }

pub wants-behind : (old new : State) (k : ℕ) (reads : List (ℕ × ℕ)) → AreReadsMade old k reads new → EndsReads old k reads Memory new
wants-behind old new k reads made = subst (λ (rs : List (ℕ × ℕ)). EndsReads old k rs Memory new) (append-nil reads) (wants-after old new k reads [] made)

pub wants-before : (old : State) (k : ℕ) (reads : List (ℕ × ℕ)) → EndsReads old k reads Memory old
wants-before old k reads = wants-after old old k [] reads (made-none old k)

-- a stage that reads nothing wanted memory
pub wants : {X : Type 0} (P : ReadFault → Type 0) (r : Result X ReadFault) → P Memory → IfErr r (λ fault. fault ≡ Memory) → IfErr r P
wants P (Ok x) holds is = tt
wants P (Err fault) holds is = subst P (sym is) holds

-- an array that was read ends as its read does
pub array-ends : {X : Type 0} (old new : State) (k at n : ℕ) (r : Result X ReadFault) → n ≢ 0 → IfErr r (λ fault. EndsRead old k (at, n) fault new) → IfErr r (λ fault. EndsReads old k (part_read at n) fault new)
array-ends old new k at n r some ends = rw (ne_eqb n 0 some) (one-ends old new k (at, n) r ends)

pub range-ends : (old new : State) (k at n blocks size : ℕ) (h : HeaderFields) (fault : ReadFault) → array_range_of h blocks size ≡ Some (at, n) → EndsReads old k (part_read at n) fault new
    → EndsReads old k (array_read (array_range_of h blocks size)) fault new
range-ends old new k at n blocks size h fault range ends = rw range ends

-- a header's block, and then its array
module _ (old mid : State) (k size lba blocks : ℕ) (bytes : List ℕ) (same : medium_blocks bytes size ≡ blocks) (place : is_place lba blocks ≡ true) where
  pub block-ends : (fault : ReadFault) → EndsReads old k ((lba * size, size) ∷ []) fault mid → EndsReads old k (header_reads bytes size lba) fault mid
  block-ends fault ends = rw (same, place) (ends-first old mid k ((lba * size, size) ∷ []) _ fault ends)

  pub header-ends : {X : Type 0} (new : State) (block : List ℕ) (h : HeaderFields) (r : Result X ReadFault) → mid.setup ≡ old.setup → AreReadsMade old k ((lba * size, size) ∷ []) mid × (block ≡ table_block bytes size lba)
      → header_fault lba block ≡ None → h ≡ header_fields block → IfErr r (λ fault. EndsReads mid k (array_read (array_range_of h blocks size)) fault new) → IfErr r (λ fault. EndsReads old k (header_reads bytes size lba) fault new)
  header-ends new block h (Ok x) setup read sound tells ends = tt
  header-ends new block h (Err fault) setup (made, is) sound tells ends =
      let sound_at : header_fault lba (table_block bytes size lba) ≡ None = ap (header_fault lba) (sym is) ∙ sound in
      let fields : header_fields (table_block bytes size lba) ≡ h = ap header_fields (sym is) ∙ sym tells in
      rw (same, place, sound_at, fields) (ends-then old mid new k ((lba * size, size) ∷ []) (array_read (array_range_of h blocks size)) setup made fault ends)

-- the header at the last LBA, where that at LBA 1 is bad
pub backup-ends : {X : Type 0} (old mid new : State) (k size blocks : ℕ) (bytes : List ℕ) (r : Result X ReadFault) → medium_blocks bytes size ≡ blocks → mid.setup ≡ old.setup
    → AreReadsMade old k (header_reads bytes size 1) mid → None ≡ good_header bytes size 1
    → IfErr r (λ fault. EndsReads mid k (header_reads bytes size (blocks - 1)) fault new) → IfErr r (λ fault. EndsReads old k (gpt_reads bytes size) fault new)
backup-ends old mid new k size blocks bytes (Ok x) same setup first bad ends = tt
backup-ends old mid new k size blocks bytes (Err fault) same setup first bad ends =
    let last : EndsReads mid k (header_reads bytes size (medium_blocks bytes size - 1)) fault new = subst (λ (n : ℕ). EndsReads mid k (header_reads bytes size (n - 1)) fault new) (sym same) ends in
    let both : EndsReads old k (header_reads bytes size 1 ++ header_reads bytes size (medium_blocks bytes size - 1)) fault new =
    ends-then old mid new k (header_reads bytes size 1) (header_reads bytes size (medium_blocks bytes size - 1)) setup first fault last in
    subst (λ (o : Option (HeaderFields × List ℕ)). EndsReads old k (header_reads bytes size 1 ++ (if is_some o then [] else header_reads bytes size (medium_blocks bytes size - 1))) fault new) bad both

-- the stages behind a master boot record
module _ {X : Type 0} (old new : State) (k size blocks : ℕ) (bytes : List ℕ) (mbr : Fields) (r : Result X ReadFault) where
  pub gpt-ends : list_any is_protective mbr.records ≡ true → IfErr r (λ fault. EndsReads old k (gpt_reads bytes size) fault new)
      → IfErr r (λ fault. EndsReads old k (reads_by bytes size (Some mbr)) fault new)
  gpt-ends is ends = rw is ends

  pub mbr-ends : medium_blocks bytes size ≡ blocks → list_any is_protective mbr.records ≡ false
      → IfErr r (λ fault. EndsReads old k (option_map_or (λ extended. chain_reads bytes size extended) (extended_range blocks mbr.records) []) fault new)
      → IfErr r (λ fault. EndsReads old k (reads_by bytes size (Some mbr)) fault new)
  mbr-ends same isnt ends = rw (isnt, same) ends

-- the chain of an extended partition
pub chain-ends : (old new : State) (k size blocks : ℕ) (bytes : List ℕ) (mbr : Fields) (t : Trail) (extended : ℕ × ℕ) (fault : ReadFault) → extended_range blocks mbr.records ≡ Some extended → t ≡ trail_of extended.0 extended.1 []
    → EndsReads old k (chain_reads bytes size (t.start, t.size)) fault new
    → EndsReads old k (option_map_or (λ extended. chain_reads bytes size extended) (extended_range blocks mbr.records) []) fault new
chain-ends old new k size blocks bytes mbr t extended fault there begun ends =
    let at : EndsReads old k (chain_reads bytes size extended) fault new = subst (λ (u : Trail). EndsReads old k (chain_reads bytes size (u.start, u.size)) fault new) begun ends in
    rw there at

-- the first block, and what it tells
pub first-ends : (old mid : State) (k size : ℕ) (bytes : List ℕ) (fault : ReadFault) → EndsReads old k (record_read size 0 ∷ []) fault mid → EndsReads old k (probe_reads bytes size) fault mid
unfolding probe_reads
first-ends old mid k size bytes fault ends = ends-first old mid k (record_read size 0 ∷ []) (reads_by bytes size (mbr_of (boot_record_at bytes size 0))) fault ends

pub table-ends : {X : Type 0} (old mid new : State) (k size : ℕ) (bytes block : List ℕ) (mbr : Fields) (r : Result X ReadFault) → mid.setup ≡ old.setup
    → AreReadsMade old k (record_read size 0 ∷ []) mid × (block ≡ boot_record_at bytes size 0) → mbr_of block ≡ Some mbr
    → IfErr r (λ fault. EndsReads mid k (reads_by bytes size (Some mbr)) fault new) → IfErr r (λ fault. EndsReads old k (probe_reads bytes size) fault new)
unfolding probe_reads
table-ends old mid new k size bytes block mbr (Ok x) setup read some ends = tt
table-ends old mid new k size bytes block mbr (Err fault) setup (made, is) some ends =
    let told : mbr_of (boot_record_at bytes size 0) ≡ Some mbr = ap mbr_of (sym is) ∙ some in
    let both : EndsReads old k (record_read size 0 ∷ reads_by bytes size (Some mbr)) fault new =
    ends-then old mid new k (record_read size 0 ∷ []) (reads_by bytes size (Some mbr)) setup made fault ends in
    subst (λ (o : Option Fields). EndsReads old k (record_read size 0 ∷ reads_by bytes size o) fault new) (sym told) both

-- the same of the medium that is in
module _ (old new : State) (target : Target) (is : IsTargetOf old target) where
  told-in : (bytes : List ℕ) → contents old.setup (media_id_of old.entries) old.entries ≡ Some bytes → contents old.setup target.view.media_id old.entries ≡ Some bytes
  told-in bytes holds = ap (λ k. contents old.setup k old.entries) (sym is.is_in.named) ∙ holds

  pub broke-off : (fault : ReadFault) → fault ≡ Device → ProbeEnds {X = Table} old target (λ bytes. probe_reads bytes target.size) (Err fault) new → EndsProbe old ends.Device new
  unfolding EndsReads
  broke-off Memory same found bytes holds = absurd cc
  broke-off Device same found bytes holds =
      subst (λ (k : ℕ). BreaksOff old k (probe_reads bytes (size_of old.setup)) new) (sym is.is_in.named)
      (subst (λ (n : ℕ). BreaksOff old target.view.media_id (probe_reads bytes n) new) is.size (found bytes (told-in bytes holds)))

  pub stopped : (fault : ReadFault) → fault ≡ Memory → ProbeEnds {X = Table} old target (λ bytes. probe_reads bytes target.size) (Err fault) new → EndsProbe old ends.Memory new
  unfolding EndsReads
  stopped Device same found bytes holds = absurd cc
  stopped Memory same found bytes holds =
      subst (λ (k : ℕ). ProbeStopsAfter old k (probe_reads bytes (size_of old.setup)) new) (sym is.is_in.named)
      (subst (λ (n : ℕ). ProbeStopsAfter old target.view.media_id (probe_reads bytes n) new) is.size (found bytes (told-in bytes holds)))
