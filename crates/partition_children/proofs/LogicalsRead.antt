-- The logical children of a chain while it is read.
use Rattle.std.proofs.Common.{◌≡◌, inl, inr, ℕ, ◌+◌, ◌<◌, ◌≤◌, List, [], ◌∷◌, ◌++◌, length, Option, None, Some, option_map, refl, sym, ◌∙◌, ap, subst, arith}
use Rattle.std.specs.Prelude.{map, option_and_then}
use Rattle.std.proofs.lemmas.List.{length-append, length-map}
use Rattle.history.specs.Contents.{contents}
use Rattle.mbr_records.specs.declared.partition_record.MbrRecord.{MbrRecord}
use Rattle.mbr_records.specs.Block.{Fields, mbr_of, numbered_record}
use Rattle.mbr_records.specs.Chain.{Trail, count_of, link_of, logical_at, logical_of, next_record_block, trail_of}
use Rattle.partition_tables.specs.declared.table.Child.{Child}
use Rattle.partition_tables.specs.Blocks.{boot_record_at}
use Rattle.partition_tables.specs.MbrTable.{child_of_record, logical_in, logicals_of, trail_at}
use Rattle.partition_tables.proofs.Following.{chain_is_followed, logicals_are_given}
use Rattle.disk_core.specs.State.{State}
use Rattle.partition_children.specs.declared.reading.Target.{Target}
use Rattle.partition_children.specs.declared.reading.ReadFault.{ReadFault}
use Rattle.partition_children.specs.Probing.{EndsReads, IsQuiet, AreReadsMade, AddsEntriesAlone}
use Rattle.partition_children.specs.Reads.{chain_reads, record_read}
use Rattle.partition_children.proofs.Headers.{stays-then}
use Rattle.partition_children.proofs.Logicals.{Adds, Front, front-ends, front-more, front-none, front-whole, numbered_child}
use Rattle.partition_children.proofs.ReadAllowed.{stays-same}
use Rattle.partition_children.proofs.Stages.{told-on}

-- a record that gives blocks gives them with its fields
given : (mbr : Option Fields) (at : MbrRecord → Option (ℕ × ℕ)) (span : ℕ × ℕ)
    → option_map (λ (l : MbrRecord × (ℕ × ℕ)). l.1) (option_and_then {U = MbrRecord × (ℕ × ℕ)} (λ ebr. option_map {U = MbrRecord × (ℕ × ℕ)} (λ blocks. (numbered_record 0 ebr, blocks)) (at (numbered_record 0 ebr))) mbr) ≡ Some span
    → (ebr : Fields) × (mbr ≡ Some ebr) × (option_and_then {U = MbrRecord × (ℕ × ℕ)} (λ ebr. option_map {U = MbrRecord × (ℕ × ℕ)} (λ blocks. (numbered_record 0 ebr, blocks)) (at (numbered_record 0 ebr))) mbr ≡ Some (numbered_record 0 ebr, span))
given None at span e = cc
given (Some ebr) at span e = (ebr, refl, by (at (numbered_record 0 ebr)) e)
  where
    by : (o : Option (ℕ × ℕ)) → option_map (λ (l : MbrRecord × (ℕ × ℕ)). l.1) (option_map {U = MbrRecord × (ℕ × ℕ)} (λ blocks. (numbered_record 0 ebr, blocks)) o) ≡ Some span
        → option_map {U = MbrRecord × (ℕ × ℕ)} (λ blocks. (numbered_record 0 ebr, blocks)) o ≡ Some (numbered_record 0 ebr, span)
    by None e = cc
    by (Some blocks) e = let same : blocks ≡ span = cc in ap (λ (p : ℕ × ℕ). Some (numbered_record 0 ebr, p)) same

none-given : (o : Option (MbrRecord × (ℕ × ℕ))) → option_map (λ (l : MbrRecord × (ℕ × ℕ)). l.1) o ≡ None → o ≡ None
none-given None e = refl
none-given (Some l) e = cc

-- some records of the chain were read
pub record SoFar (old : State) (target : Target) (signature : ℕ) (begun : Trail) (before : List Child) (new : State) (chain : Trail) (now : List Child) (number : ℕ) : Type 0 where
  pub stays : AddsEntriesAlone old 0 new
  pub fed : List (List ℕ)
  pub trail : chain ≡ trail_of begun.start begun.size fed
  pub few : number ≤ 5 + length fed
  pub front : (bytes : List ℕ) → contents old.setup target.view.media_id old.entries ≡ Some bytes
      → Front bytes target.size signature (begun.start, begun.size) old new target.view.media_id fed before now number

module _ (old : State) (target : Target) (signature : ℕ) (begun : Trail) (before : List Child) where
  abbrev k : ℕ
  k = target.view.media_id

  abbrev extended : ℕ × ℕ
  extended = (begun.start, begun.size)

  pub so_far-none : IsQuiet old → begun ≡ trail_of begun.start begun.size [] → SoFar old target signature begun before old begun before 5
  so_far-none quiet fresh = record {
    stays = stays-same old quiet;
    fed = [];
    trail = fresh;
    few = omega arith;
    front = λ bytes holds. front-none bytes target.size signature extended old k before;
  }

  module _ (mid : State) (chain : Trail) (now : List Child) (number : ℕ) (so_far : SoFar old target signature begun before mid chain now number) where
    pub fed-count : count_of chain ≡ length so_far.fed
    fed-count = ap count_of so_far.trail ∙ omega (arith, length-map so_far.fed link_of)

    -- one more record, and the child that it gives
    module _ (new : State) (own : ℕ) (block : List ℕ) (next : next_record_block chain ≡ Some own) (stays : AddsEntriesAlone mid 0 new)
        (found : (bytes : List ℕ) → contents mid.setup k mid.entries ≡ Some bytes → AreReadsMade mid k (record_read target.size own ∷ []) new × (block ≡ boot_record_at bytes target.size own))
        (chain' : Trail) (feeds : (start size : ℕ) (fed : List (List ℕ)) → chain ≡ trail_of start size fed → chain' ≡ trail_of start size (fed ++ block ∷ [])) where
      next-fed : next_record_block (trail_of begun.start begun.size so_far.fed) ≡ Some own
      next-fed = ap next_record_block (sym so_far.trail) ∙ next

      pub count-more : count_of chain' ≡ count_of chain + 1
      count-more =
          ap count_of (feeds begun.start begun.size so_far.fed so_far.trail)
          ∙ omega (arith, length-map (so_far.fed ++ block ∷ []) link_of, length-append so_far.fed (block ∷ []), fed-count)

      logical-at : (bytes : List ℕ) (o : Option (ℕ × ℕ)) → block ≡ boot_record_at bytes target.size own → o ≡ logical_of chain block → option_map (λ (l : MbrRecord × (ℕ × ℕ)). l.1) (logical_in bytes target.size extended own) ≡ o
      logical-at bytes o is gives =
          sym (logicals_are_given bytes target.size extended so_far.fed own next-fed) ∙ (ap (logical_of (trail_of begun.start begun.size so_far.fed)) (sym is) ∙ (ap (λ (t : Trail). logical_of t block) (sym so_far.trail) ∙ sym gives))

      more : (after : List Child) (number' : ℕ) → number' ≤ number + 1
          → ((bytes : List ℕ) → block ≡ boot_record_at bytes target.size own → Adds bytes target.size signature extended own now after number number') → SoFar old target signature begun before new chain' after number'
      more after number' few adds = record {
        stays = stays-then old mid new 0 so_far.stays stays;
        fed = so_far.fed ++ block ∷ [];
        trail = feeds begun.start begun.size so_far.fed so_far.trail;
        few = omega (arith, few, so_far.few, length-append so_far.fed (block ∷ []));
        front = λ bytes holds. (
            let (made, is) = found bytes (told-on old mid k 0 so_far.stays bytes holds) in
            front-more bytes target.size signature extended chain_is_followed old mid new k so_far.fed before now number (so_far.front bytes holds) own block after number' so_far.stays.setup next-fed made is (adds bytes is));
      }

      pub more-none : None ≡ logical_of chain block → SoFar old target signature begun before new chain' now number
      more-none gives =
          more now number (omega arith) (λ bytes is. inl (none-given (logical_in bytes target.size extended own) (logical-at bytes None is gives), refl, refl))

      pub more-one : (after : List Child) (number' : ℕ) (span : ℕ × ℕ) (r : MbrRecord) → Some span ≡ logical_of chain block → ((ebr : Fields) → mbr_of block ≡ Some ebr → r ≡ numbered_record 0 ebr)
          → after ≡ now ++ child_of_record signature number r span ∷ [] → number' ≡ number + 1 → SoFar old target signature begun before new chain' after number'
      more-one after number' span r gives first added count =
          more after number' (omega arith) (λ bytes is. (
          let (ebr, marked, some) = given (mbr_of (boot_record_at bytes target.size own)) (λ e. logical_at (trail_at bytes target.size extended 0) own e) span (logical-at bytes (Some span) is gives) in
          let named : r ≡ numbered_record 0 ebr = first ebr (ap mbr_of is ∙ marked) in
          inr ((numbered_record 0 ebr, span), some, added ∙ ap (λ (e : MbrRecord). now ++ child_of_record signature number e span ∷ []) named, count)))

    -- the next read ends
    pub so_far-ends : (new : State) (own : ℕ) (fault : ReadFault) → next_record_block chain ≡ Some own → (bytes : List ℕ) → contents old.setup k old.entries ≡ Some bytes
        → (contents mid.setup k mid.entries ≡ Some bytes → EndsReads mid k (record_read target.size own ∷ []) fault new) → EndsReads old k (chain_reads bytes target.size extended) fault new
    so_far-ends new own fault next bytes holds ends =
        front-ends bytes target.size signature extended chain_is_followed old mid new k so_far.fed before now number (so_far.front bytes holds) own fault so_far.stays.setup (ap next_record_block (sym so_far.trail) ∙ next)
        (ends (told-on old mid k 0 so_far.stays bytes holds))

    -- the chain has ended
    pub so_far-whole : next_record_block chain ≡ None → (bytes : List ℕ) → contents old.setup k old.entries ≡ Some bytes
        → AreReadsMade old k (chain_reads bytes target.size extended) mid × (now ≡ before ++ logicals_of bytes target.size signature extended)
    so_far-whole ended bytes holds =
        front-whole bytes target.size signature extended chain_is_followed old mid mid k so_far.fed before now number (so_far.front bytes holds) (ap next_record_block (sym so_far.trail) ∙ ended)
