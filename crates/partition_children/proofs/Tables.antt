-- The table of a medium by what its stages found.
use Rattle.std.proofs.Common.{◌≡◌, ℕ, List, [], ◌∷◌, ◌++◌, Option, None, Some, Bool, true, false, Result, Ok, Err, IfOk, refl, sym, ◌∙◌, ap, subst, arith}
use Rattle.std.specs.List.{list_any}
use Rattle.std.specs.Option.{option_map_or}
use Rattle.std.proofs.lemmas.List.{append-nil}
use Rattle.mbr_records.specs.Block.{Fields, extended_range, mbr_of}
use Rattle.mbr_records.specs.Record.{is_protective}
use Rattle.mbr_records.specs.Chain.{Trail, trail_of}
use Rattle.partition_tables.specs.declared.table.Child.{Child}
use Rattle.partition_tables.specs.declared.table.Table.{Table}
use Rattle.partition_tables.specs.declared.table.TableKind.TheVariants.{Mbr, Plain}
use Rattle.partition_tables.specs.Blocks.{boot_record_at, medium_blocks}
use Rattle.partition_tables.specs.GptTable.{gpt_table}
use Rattle.partition_tables.specs.Table.{table_by, table_of}
use Rattle.partition_tables.specs.MbrTable.{logicals_of, mbr_children, primaries_of}
use Rattle.disk_core.specs.State.{State}
use Rattle.partition_children.specs.declared.reading.ReadFault.{ReadFault}
use Rattle.partition_children.specs.Probing.{AreReadsMade}
use Rattle.partition_children.specs.Reads.{chain_reads, gpt_reads, probe_reads, reads_by, record_read}
use Rattle.partition_children.proofs.Stages.{made-none, made-on}

abbrev pub mbr_table_of : List Child → Table
mbr_table_of cs = record { kind = Mbr; children = cs }

module _ (old : State) (k size blocks : ℕ) (bytes : List ℕ) (mbr : Fields) (same : medium_blocks bytes size ≡ blocks) where
  -- these reads were made, and these are its children
  abbrev pub IsMbrTable : List Child → State → Type 0
  IsMbrTable children new =
      AreReadsMade old k (option_map_or (λ extended. chain_reads bytes size extended) (extended_range blocks mbr.records) []) new
      × (mbr_table_of children ≡ mbr_table_of (mbr_children bytes size mbr))

  pub mbr-chain : (new : State) (t : Trail) (extended : ℕ × ℕ) (signature : ℕ) (primaries children : List Child) → extended_range blocks mbr.records ≡ Some extended → t ≡ trail_of extended.0 extended.1 [] → signature ≡ mbr.signature
      → primaries ≡ primaries_of blocks mbr → AreReadsMade old k (chain_reads bytes size (t.start, t.size)) new × (children ≡ primaries ++ logicals_of bytes size signature (t.start, t.size)) → IsMbrTable children new
  unfolding mbr_children
  mbr-chain new t extended signature primaries children there begun signed first (made, is) =
      let made_at : AreReadsMade old k (chain_reads bytes size extended) new = subst (λ (u : Trail). AreReadsMade old k (chain_reads bytes size (u.start, u.size)) new) begun made in
      let all : children ≡ primaries_of blocks mbr ++ logicals_of bytes size mbr.signature extended =
      is ∙ (ap (λ (u : Trail). primaries ++ logicals_of bytes size signature (u.start, u.size)) begun ∙ (ap (λ (n : ℕ). primaries ++ logicals_of bytes size n extended) signed ∙ ap (λ (cs : List Child). cs ++ logicals_of bytes size mbr.signature extended) first)) in
      (rw there made_at, ap mbr_table_of (all ∙ rw (same, there) refl))

  pub mbr-alone : (children : List Child) → extended_range blocks mbr.records ≡ None → children ≡ primaries_of blocks mbr → IsMbrTable children old
  unfolding mbr_children
  mbr-alone children none first = (rw none (made-none old k), ap mbr_table_of (first ∙ (sym (append-nil (primaries_of blocks mbr)) ∙ rw (same, none) refl)))

  -- the table behind a master boot record
  pub by-gpt : (new : State) (r : Result Table ReadFault) → list_any is_protective mbr.records ≡ true → IfOk r (λ t. AreReadsMade old k (gpt_reads bytes size) new × (t ≡ gpt_table bytes size))
      → IfOk r (λ t. AreReadsMade old k (reads_by bytes size (Some mbr)) new × (t ≡ table_by bytes size (Some mbr)))
  by-gpt new (Err fault) is found = tt
  by-gpt new (Ok t) is (made, told) = (rw is made, rw is told)

  pub by-mbr : (new : State) (r : Result Table ReadFault) → list_any is_protective mbr.records ≡ false
      → IfOk r (λ t. AreReadsMade old k (option_map_or (λ extended. chain_reads bytes size extended) (extended_range blocks mbr.records) []) new × (t ≡ mbr_table_of (mbr_children bytes size mbr)))
      → IfOk r (λ t. AreReadsMade old k (reads_by bytes size (Some mbr)) new × (t ≡ table_by bytes size (Some mbr)))
  by-mbr new (Err fault) isnt found = tt
  by-mbr new (Ok t) isnt (made, told) = (rw (isnt, same) made, rw isnt told)

-- the first block, and what it tells
module _ (old mid : State) (k size : ℕ) (bytes block : List ℕ) (setup : mid.setup ≡ old.setup) (made : AreReadsMade old k (record_read size 0 ∷ []) mid) (is : block ≡ boot_record_at bytes size 0) where
  pub on-plain : (children : List Child) → children ≡ [] → mbr_of block ≡ None → AreReadsMade old k (probe_reads bytes size) mid × (record { kind = Plain; children = children } ≡ table_of bytes size)
  unfolding probe_reads table_of
  on-plain children empty none =
      let told : mbr_of (boot_record_at bytes size 0) ≡ None = ap mbr_of (sym is) ∙ none in
      (rw told made, rw (told, empty) refl)

  pub on-mbr : (new : State) (mbr : Fields) (r : Result Table ReadFault) → mbr_of block ≡ Some mbr → IfOk r (λ t. AreReadsMade mid k (reads_by bytes size (Some mbr)) new × (t ≡ table_by bytes size (Some mbr)))
      → IfOk r (λ t. AreReadsMade old k (probe_reads bytes size) new × (t ≡ table_of bytes size))
  unfolding probe_reads table_of
  on-mbr new mbr (Err fault) some found = tt
  on-mbr new mbr (Ok t) some (made_more, table) =
      let told : mbr_of (boot_record_at bytes size 0) ≡ Some mbr = ap mbr_of (sym is) ∙ some in
      let both : AreReadsMade old k (record_read size 0 ∷ reads_by bytes size (Some mbr)) new = made-on old mid new k (record_read size 0 ∷ []) (reads_by bytes size (Some mbr)) setup made made_more in
      (subst (λ (o : Option Fields). AreReadsMade old k (record_read size 0 ∷ reads_by bytes size o) new) (sym told) both, subst (λ (o : Option Fields). t ≡ table_by bytes size o) (sym told) table)
