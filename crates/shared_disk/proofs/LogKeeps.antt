-- Each step keeps the rule of the table.
use Rattle.std.proofs.Common.{◌≡◌, ◌+◌, ℕ, zero, suc, true, false, List, [], ◌∷◌, ◌++◌, length, set, get_or, refl, sym, subst, ◌∙◌, ap, ⊎_elim, arith}
use Rattle.std.specs.Prelude.{All}
use Rattle.std.proofs.Math.ListN.{length-set}
use Rattle.std.proofs.lemmas.List.{append_assoc, append-nil, length-append}
use Rattle.std.proofs.lemmas.List.Elements.{All-nil, All-cons}
use Rattle.std.proofs.Math.Option.{some-injective}
use mathlib.Core.Option.{Option, some}
use lib.ListN.{get_elem?}
use Rattle.atomic_table.specs.Table.{Me, Allows, Joins, Splits, keeps, opening}
use Rattle.atomic_table.proofs.Lists.{at_set, at_snoc, set_again, set_else}
use Rattle.shared_disk.specs.declared.log_rule.Item.{Item}
use Rattle.shared_disk.specs.declared.log_rule.LogView.{LogView}
use Rattle.shared_disk.specs.Log.{IsOld}
use Rattle.shared_disk.specs.Pens.{KnowsLog, AllKnowLog, IsLogKept, HasAdded, HasCounted, HasLooked, first_view, note_view, met_view, spent_view}

-- what was a beginning of the log is one of the log with more items
old-more : (items old log : List Item) → IsOld old log → IsOld old (items ++ log)
old-more items old log h = record { more = items ++ h.more; is = ap (λ l. items ++ l) h.is ∙ sym (append_assoc items h.more old) }

olds-more : (items log : List Item) (olds : List (List Item)) → All (λ old. IsOld old log) olds → All (λ old. IsOld old (items ++ log)) olds
olds-more items log olds all = λ k d below. old-more items (get_or olds k d) log (all k d below)

-- what the word holds after a write
written : (words : List ℕ) (word : ℕ) → length words ≡ 1 → get_or (set words 0 word) 0 0 ≡ word
written [] word one = absurd (omega arith)
written (x ∷ xs) word one = refl

-- the rule after a write, from what the seats know then
kept-set : (words : List ℕ) (homes : List (Option (Unit {0}))) (views : List LogView) (pen word : ℕ) (log : List Item) → length words ≡ 1 → word ≡ length log → AllKnowLog pen log views
    → IsLogKept (record { words = set words 0 word; homes = homes; views = views })
kept-set words homes views pen word log single counts known = record {
  single = simp length-set single;
  pen = pen;
  log = log;
  counts = written words word single ∙ counts;
  known = known;
}

-- one seat's view is another
known-set : (pen : ℕ) (log : List Item) (seat : ℕ) (v : LogView) (views : List LogView) → AllKnowLog pen log views → KnowsLog pen log seat v → AllKnowLog pen log (set views seat v)
known-set pen log seat v views known new = record {
  at = λ i w at. ⊎_elim
      (λ here. subst (λ (z : ℕ × LogView). KnowsLog pen log z.0 z.1) (λ k. (sym here.0 k, here.1 k)) new)
      (λ there. known.at i w there.1)
      (at_set views seat i v w at);
}

-- a note that has seen a beginning of the log
note-knows : (pen : ℕ) (log : List Item) (seat : ℕ) (seen : List Item) → IsOld seen log → KnowsLog pen log seat (record { pens = false; log = []; olds = []; seen = seen })
note-knows pen log seat seen old = record { only = λ h. absurd (cc); writes = λ h. absurd (cc); olds = All-nil (λ old. IsOld old log); seen = old }

-- what the others know once the pen has added items
known-added : (pen : ℕ) (items log : List Item) (v : LogView) (views : List LogView) → AllKnowLog pen log views → KnowsLog pen log pen v → v.pens ≡ true
    → AllKnowLog pen (items ++ log) (set views pen (record v { log = items ++ v.log }))
known-added pen items log v views known knew writes = record {
  at = λ i w at. ⊎_elim
      (λ here. subst (λ (z : ℕ × LogView). KnowsLog pen (items ++ log) z.0 z.1) (λ k. (sym here.0 k, here.1 k))
      (record { only = λ _. refl; writes = λ _. ap (λ l. items ++ l) (knew.writes writes); olds = olds-more items log v.olds knew.olds; seen = old-more items v.seen log knew.seen }))
      (λ there. let k = known.at i w there.1 in record {
        only = k.only;
        writes = λ h. absurd (there.0 (k.only h));
        olds = olds-more items log w.olds k.olds;
        seen = old-more items w.seen log k.seen;
      })
      (at_set views pen i (record v { log = items ++ v.log }) w at);
}

-- enter: the pen puts the new number of items into the word
pub adds : (slots id word : ℕ) (items : List Item) (me : Me (Unit {0}) LogView) → me.0.pens ≡ true → word ≡ length items + length me.0.log
    → Allows IsLogKept slots id me 0 (λ _. word) (λ _ after. HasAdded items me.0 after.0)
adds slots id word items me writes counted s kept homes has fits =
    let after : LogView = record me.0 { log = items ++ me.0.log } in
    let knew = kept.known.at id me.0 has in
    let same : id ≡ kept.pen = knew.only writes in
    let known = subst (λ i. AllKnowLog kept.pen (items ++ kept.log) (set s.views i after)) (sym same)
    (known-added kept.pen items kept.log me.0 s.views kept.known (subst (λ i. KnowsLog kept.pen kept.log i me.0) same knew) writes) in
    let counts : word ≡ length (items ++ kept.log) = counted ∙ sym (length-append items me.0.log) ∙ ap (λ l. length (items ++ l)) (knew.writes writes) in (
      after,
      keeps,
      tt,
      kept-set s.words s.homes (set s.views id after) kept.pen word (items ++ kept.log) kept.single counts known,
      refl,
    )

-- the pen reads the word
pub counts : (slots id : ℕ) (me : Me (Unit {0}) LogView) → me.0.pens ≡ true → Allows IsLogKept slots id me 0 (λ n. n) (λ word after. HasCounted me.0 word after.0)
counts slots id me writes s kept homes has fits =
    let word : ℕ = get_or s.words 0 0 in
    let knew = kept.known.at id me.0 has in (
      me.0,
      keeps,
      tt,
      kept-set s.words s.homes (set s.views id me.0) kept.pen word kept.log kept.single kept.counts (known-set kept.pen kept.log id me.0 s.views kept.known knew),
      (refl, kept.counts ∙ sym (ap length (knew.writes writes))),
    )

-- look: the pen compares what the notes had seen that it took in
pub looks : (slots id : ℕ) (me : Me (Unit {0}) LogView) → me.0.pens ≡ true → Allows IsLogKept slots id me 0 (λ n. n) (λ _ after. HasLooked me.0 after.0)
looks slots id me writes s kept homes has fits =
    let word : ℕ = get_or s.words 0 0 in
    let knew = kept.known.at id me.0 has in (
      me.0,
      keeps,
      tt,
      kept-set s.words s.homes (set s.views id me.0) kept.pen word kept.log kept.single kept.counts (known-set kept.pen kept.log id me.0 s.views kept.known knew),
      (refl, subst (λ log. All (λ old. IsOld old log) me.0.olds) (sym (knew.writes writes)) knew.olds),
    )

-- note: the pen's seat is split, and the new one has seen the whole log
pub notes : (id : ℕ) (v : LogView) → v.pens ≡ true → Splits IsLogKept id v v (note_view v)
notes id v writes s kept has =
    let knew = kept.known.at id v has in
    let whole : IsOld v.log kept.log = record { more = []; is = sym (knew.writes writes) } in record {
      single = kept.single;
      pen = kept.pen;
      log = kept.log;
      counts = kept.counts;
      known = record {
        at = λ i w at. ⊎_elim
            (λ old. kept.known.at i w (rw set_again at old))
            (λ (e : note_view v ≡ w). subst (KnowsLog kept.pen kept.log i) e (note-knows kept.pen kept.log i v.log whole))
            (at_snoc (set s.views id v) (note_view v) w i at);
      };
    }

-- meet: the pen takes a note in, which is then spent
pub meets : (id : ℕ) (v : LogView) (other : ℕ) (w : LogView) → Joins IsLogKept id v other w (met_view v w) spent_view
meets id v other w s kept has apart there =
    let knew = kept.known.at id v has in
    let seen = (kept.known.at other w (sym (set_else s.views id other (met_view v w) apart) ∙ there)).seen in
    let known = known-set kept.pen kept.log id (met_view v w) s.views kept.known (record { only = knew.only; writes = knew.writes; olds = All-cons (λ old. IsOld old kept.log) w.seen v.olds seen knew.olds; seen = knew.seen }) in
    record {
      single = kept.single;
      pen = kept.pen;
      log = kept.log;
      counts = kept.counts;
      known = known-set kept.pen kept.log other spent_view (set s.views id (met_view v w)) known (note-knows kept.pen kept.log other [] (record { more = kept.log; is = sym (append-nil kept.log) }));
    }

none-old : IsOld [] []
none-old = record { more = []; is = refl }

known-first : (seat : ℕ) (v : LogView) → get_elem? (first_view ∷ []) seat ≡ some v → KnowsLog 0 [] seat v
known-first zero v at = subst (KnowsLog 0 [] 0) (some-injective first_view v at) (record { only = λ _. refl; writes = λ _. refl; olds = All-nil (λ old. IsOld old []); seen = none-old })
known-first (suc seat) v at = absurd (cc)

-- birth: the pen of an empty log
pub begins : IsLogKept (opening (0 ∷ []) [] first_view)
begins = record {
  single = refl;
  pen = 0;
  log = [];
  counts = refl;
  known = record { at = known-first };
}
