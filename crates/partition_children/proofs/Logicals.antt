-- The logical children of the first records of a chain.
use Rattle.std.proofs.Common.{◌≡◌, ◌⊎◌, inl, inr, ℕ, zero, suc, ◌+◌, ◌<◌, ◌≤◌, List, [], ◌∷◌, ◌++◌, length, drop, get_or, take, take_all, map, Option, None, Some, refl, sym, ◌∙◌, ap, subst, arith}
use Rattle.std.specs.Prelude.{filter_map, slice_get}
use Rattle.std.specs.List.{enumerate_from}
use Rattle.std.proofs.Math.Seq.{split_at, take-suc}
use Rattle.std.proofs.lemmas.List.{append-nil, append_assoc, length-append, map-append}
use Rattle.std.proofs.lemmas.List.Elements.{filter_map-append}
use Rattle.std.proofs.lemmas.Option.{get_or_from_slice_get, slice_get_within}
use Rattle.mbr_records.specs.declared.partition_record.MbrRecord.{MbrRecord}
use Rattle.mbr_records.specs.Chain.{next_record_block, trail_of}
use Rattle.partition_tables.specs.declared.table.Child.{Child}
use Rattle.partition_tables.specs.Blocks.{boot_record_at}
use Rattle.partition_tables.specs.MbrTable.{chain_of, child_of_record, logical_in, logicals_of}
use Rattle.partition_tables.specs.Law.{ChainIsFollowed}
use Rattle.disk_core.specs.State.{State}
use Rattle.partition_children.specs.declared.reading.ReadFault.{ReadFault}
use Rattle.partition_children.specs.Probing.{EndsReads, AreReadsMade}
use Rattle.partition_children.specs.Reads.{chain_reads, record_read}
use Rattle.partition_children.proofs.Endings.{ends-first, ends-then}
use Rattle.partition_children.proofs.Stages.{made-none, made-on}

enumerate_append : {X : Type 0} (n : ℕ) (xs : List X) (x : X) → enumerate_from n (xs ++ x ∷ []) ≡ enumerate_from n xs ++ (n + length xs, x) ∷ []
enumerate_append n [] x = ap (λ (k : ℕ). (k, x) ∷ []) (omega arith)
enumerate_append n (y ∷ xs) x =
    ap (λ l. (n, y) ∷ l) (enumerate_append (n + 1) xs x ∙ ap (λ (k : ℕ). enumerate_from (n + 1) xs ++ (k, x) ∷ []) (omega arith))

module _ (bytes : List ℕ) (size signature : ℕ) (extended : ℕ × ℕ) where
  abbrev chain : List ℕ
  chain = chain_of bytes size extended

  -- what the records at these blocks give
  abbrev logicals : List ℕ → List (MbrRecord × (ℕ × ℕ))
  logicals owns = filter_map (λ own. logical_in bytes size extended own) owns

  abbrev pub numbered_child : ℕ × (MbrRecord × (ℕ × ℕ)) → Child
  numbered_child (number, (r, blocks)) = child_of_record signature number r blocks

  abbrev children_of : List ℕ → List Child
  children_of owns = map numbered_child (enumerate_from 5 (logicals owns))

  -- the first records of the chain were read, and their children added
  pub record Front (old new : State) (k : ℕ) (fed : List (List ℕ)) (before now : List Child) (number : ℕ) : Type 0 where
    pub within : length fed ≤ length chain
    pub fed_is : fed ≡ map (boot_record_at bytes size) (take (length fed) chain)
    pub made : AreReadsMade old k (map (record_read size) (take (length fed) chain)) new
    pub children : now ≡ before ++ children_of (take (length fed) chain)
    pub numbered : number ≡ 5 + length (logicals (take (length fed) chain))

  -- a record adds the child that it gives, or none
  abbrev pub Adds : ℕ → List Child → List Child → ℕ → ℕ → Type 0
  Adds own now after number number' =
      ((logical_in bytes size extended own ≡ None) × (after ≡ now) × (number' ≡ number))
      ⊎ ((l : MbrRecord × (ℕ × ℕ)) × (logical_in bytes size extended own ≡ Some l) × (after ≡ now ++ numbered_child (number, l) ∷ []) × (number' ≡ number + 1))

  pub front-none : (s : State) (k : ℕ) (before : List Child) → Front s s k [] before before 5
  front-none s k before = record { within = omega arith; fed_is = refl; made = made-none s k; children = sym (append-nil before); numbered = refl }

  children-none : (owns : List ℕ) (own : ℕ) → logical_in bytes size extended own ≡ None → logicals (owns ++ own ∷ []) ≡ logicals owns
  children-none owns own none = filter_map-append (λ own. logical_in bytes size extended own) owns (own ∷ []) ∙ rw none (append-nil (logicals owns))

  children-one : (owns : List ℕ) (own : ℕ) (l : MbrRecord × (ℕ × ℕ)) → logical_in bytes size extended own ≡ Some l → logicals (owns ++ own ∷ []) ≡ logicals owns ++ l ∷ []
  children-one owns own l some = filter_map-append (λ own. logical_in bytes size extended own) owns (own ∷ []) ∙ rw some refl

  -- the next block is that of the next record
  module _ (law : ChainIsFollowed) (old mid new : State) (k : ℕ) (fed : List (List ℕ)) (before now : List Child) (number : ℕ) (front : Front old mid k fed before now number) where
    next-at : next_record_block (trail_of extended.0 extended.1 fed) ≡ slice_get chain (length fed)
    next-at = ap (λ (f : List (List ℕ)). next_record_block (trail_of extended.0 extended.1 f)) front.fed_is ∙ law bytes size extended (length fed) front.within

    pub front-more : (own : ℕ) (block : List ℕ) (after : List Child) (number' : ℕ) → mid.setup ≡ old.setup → next_record_block (trail_of extended.0 extended.1 fed) ≡ Some own
        → AreReadsMade mid k (record_read size own ∷ []) new → block ≡ boot_record_at bytes size own → Adds own now after number number' → Front old new k (fed ++ block ∷ []) before after number'
    front-more own block after number' setup next made is adds =
        let there : slice_get chain (length fed) ≡ Some own = sym next-at ∙ next in
        let below : length fed < length chain = slice_get_within chain (length fed) own there in
        let owns = take (length fed) chain in
        let count : length (fed ++ block ∷ []) ≡ suc (length fed) = omega (arith, length-append fed (block ∷ [])) in
        let more : take (length (fed ++ block ∷ [])) chain ≡ owns ++ own ∷ [] =
        ap (λ (n : ℕ). take n chain) count ∙ (take-suc chain (length fed) own below ∙ ap (λ (x : ℕ). owns ++ x ∷ []) (get_or_from_slice_get chain (length fed) own own there)) in
        let both : AreReadsMade old k (map (record_read size) owns ++ record_read size own ∷ []) new = made-on old mid new k (map (record_read size) owns) (record_read size own ∷ []) setup front.made made in
        record {
          within = omega (arith, count, below);
          fed_is = rw more (ap (λ (f : List (List ℕ)). f ++ block ∷ []) front.fed_is ∙ (ap (λ (b : List ℕ). map (boot_record_at bytes size) owns ++ b ∷ []) is ∙ sym (map-append (boot_record_at bytes size) owns (own ∷ []))));
          made = subst (λ (reads : List (ℕ × ℕ)). AreReadsMade old k reads new) (sym (ap (map (record_read size)) more ∙ map-append (record_read size) owns (own ∷ []))) both;
          children = (by adds more).0;
          numbered = (by adds more).1;
        }
      where
        by : Adds own now after number number' → take (length (fed ++ block ∷ [])) chain ≡ take (length fed) chain ++ own ∷ []
            → (after ≡ before ++ children_of (take (length (fed ++ block ∷ [])) chain)) × (number' ≡ 5 + length (logicals (take (length (fed ++ block ∷ [])) chain)))
        by (inl (none, same, count)) more =
            let owns = take (length fed) chain in
            let all : logicals (take (length (fed ++ block ∷ [])) chain) ≡ logicals owns = ap logicals more ∙ children-none owns own none in
            (same ∙ (front.children ∙ ap (λ (ls : List (MbrRecord × (ℕ × ℕ))). before ++ map numbered_child (enumerate_from 5 ls)) (sym all)), count ∙ (front.numbered ∙ ap (λ (ls : List (MbrRecord × (ℕ × ℕ))). 5 + length ls) (sym all)))
        by (inr (l, some, added, count)) more =
            let owns = take (length fed) chain in
            let all : logicals (take (length (fed ++ block ∷ [])) chain) ≡ logicals owns ++ l ∷ [] = ap logicals more ∙ children-one owns own l some in
            let children : map numbered_child (enumerate_from 5 (logicals owns ++ l ∷ [])) ≡ children_of owns ++ numbered_child (number, l) ∷ [] =
            ap (map numbered_child) (enumerate_append 5 (logicals owns) l) ∙ (map-append numbered_child (enumerate_from 5 (logicals owns)) ((5 + length (logicals owns), l) ∷ [])
            ∙ ap (λ (n : ℕ). children_of owns ++ numbered_child (n, l) ∷ []) (sym front.numbered)) in (
              added ∙ (ap (λ (cs : List Child). cs ++ numbered_child (number, l) ∷ []) front.children ∙ (append_assoc before (children_of owns) (numbered_child (number, l) ∷ [])
                  ∙ (ap (λ (cs : List Child). before ++ cs) (sym children) ∙ ap (λ (ls : List (MbrRecord × (ℕ × ℕ))). before ++ map numbered_child (enumerate_from 5 ls)) (sym all)))),
              count ∙ (omega (arith, front.numbered, length-append (logicals owns) (l ∷ [])) ∙ ap (λ (ls : List (MbrRecord × (ℕ × ℕ))). 5 + length ls) (sym all)),
            )

    -- where the next read ends, the others of the chain are left
    pub front-ends : (own : ℕ) (fault : ReadFault) → mid.setup ≡ old.setup → next_record_block (trail_of extended.0 extended.1 fed) ≡ Some own
        → EndsReads mid k (record_read size own ∷ []) fault new → EndsReads old k (chain_reads bytes size extended) fault new
    front-ends own fault setup next ends =
        let n = length fed in
        let there : slice_get chain n ≡ Some own = sym next-at ∙ next in
        let owns = take n chain in
        let rest = drop (suc n) chain in
        let cut : chain ≡ owns ++ own ∷ rest = split_at chain n own (slice_get_within chain n own there) ∙ ap (λ (x : ℕ). owns ++ x ∷ rest) (get_or_from_slice_get chain n own own there) in
        let reads : map (record_read size) chain ≡ (map (record_read size) owns ++ record_read size own ∷ []) ++ map (record_read size) rest =
        ap (map (record_read size)) cut ∙ (map-append (record_read size) owns (own ∷ rest) ∙ sym (append_assoc (map (record_read size) owns) (record_read size own ∷ []) (map (record_read size) rest))) in
        let so_far : EndsReads old k (map (record_read size) owns ++ record_read size own ∷ []) fault new = ends-then old mid new k (map (record_read size) owns) (record_read size own ∷ []) setup front.made fault ends in
        subst (λ (rs : List (ℕ × ℕ)). EndsReads old k rs fault new) (sym reads) (ends-first old new k (map (record_read size) owns ++ record_read size own ∷ []) (map (record_read size) rest) fault so_far)

    -- where the chain has ended, all of it was read
    pub front-whole : next_record_block (trail_of extended.0 extended.1 fed) ≡ None → AreReadsMade old k (chain_reads bytes size extended) mid × (now ≡ before ++ logicals_of bytes size signature extended)
    front-whole ended =
        let past : length chain ≤ length fed = ends (sym next-at ∙ ended) in
        let all : take (length fed) chain ≡ chain = take_all (length fed) chain past in
        (subst (λ (owns : List ℕ). AreReadsMade old k (map (record_read size) owns) mid) all front.made, front.children ∙ ap (λ (owns : List ℕ). before ++ children_of owns) all)
      where
        ends : slice_get chain (length fed) ≡ None → length chain ≤ length fed
        ends none = at_end chain (length fed) none
          where
            at_end : (xs : List ℕ) (n : ℕ) → slice_get xs n ≡ None → length xs ≤ n
            at_end [] n e = omega arith
            at_end (x ∷ xs) zero e = cc
            at_end (x ∷ xs) (suc n) e = let less = at_end xs n e in omega (arith, less)
