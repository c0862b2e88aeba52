-- Reads that are made one after the other.
use Rattle.std.proofs.Common.{◌≡◌, inl, inr, true, ℕ, ◌+◌, ◌-◌, ◌*◌, List, [], ◌∷◌, ◌++◌, length, take, take_all, drop, Some, Option, Result, Ok, Err, IfOk, refl, sym, ◌∙◌, ap, subst, arith}
use Rattle.std.specs.Prelude.{slice_range}
use Rattle.std.specs.Global.{Vec}
use Rattle.medium.specs.Device.{AreToldAt}
use Rattle.history.specs.declared.entry.Entry.{Entry}
use Rattle.history.specs.Setup.{Setup, blocks_of, size_of}
use Rattle.disk_io2.specs.Views.{whole_view}
use Rattle.std.proofs.lemmas.Bool.{cases_lt}
use Rattle.std.proofs.lemmas.List.{append_assoc}
use Rattle.history.specs.Tokens.{token_count, was_collected}
use Rattle.history.specs.Contents.{contents, kept_contents}
use Rattle.disk_core.specs.State.{State}
use Rattle.efi_status.specs.declared.Status.TheVariants.{Success}
use Rattle.history.specs.Marks.{mark_of}
use Rattle.history_laws.proofs.EndLemmas.{mark-stays}
use Rattle.history_laws.proofs.TokenLemmas.{collected-stays}
use Rattle.partition_children.specs.declared.reading.ReadFault.{ReadFault}
use Rattle.partition_children.specs.declared.reading.Target.{Target}
use Rattle.partition_children.specs.Entries.{after_read, after_reads}
use Rattle.partition_children.specs.Reads.{record_read}
use Rattle.partition_tables.specs.Blocks.{boot_record_at}
use Rattle.partition_children.specs.Probing.{IsTargetOf, AreReadsMade, Reads, AddsEntriesAlone}
use Rattle.partition_children.proofs.Staying.{untagged-both}

-- one read
pub made-one : (old new : State) (k : ℕ) (read : ℕ × ℕ) (b : List ℕ) → Reads old k read b new → AreReadsMade old k (read ∷ []) new
unfolding after_reads
made-one old new k read b reads = reads.entries

pub found-read : (old new : State) (k at n : ℕ) (r : Result (Vec ℕ) ReadFault) → IfOk r (λ b. Reads old k (at, n) b.items new) → (told : List ℕ) → contents old.setup k old.entries ≡ Some told
    → IfOk r (λ b. AreReadsMade old k ((at, n) ∷ []) new × (b.items ≡ slice_range told at (at + n)))
found-read old new k at n (Ok b) reads told holds =
    let same : AreToldAt (Some told) at b.items = subst (λ (o : Option (List ℕ)). AreToldAt o at b.items) holds reads.told in
    let count : length b.items ≡ at + n - at = omega (arith, reads.long) in
    (made-one old new k (at, n) b.items reads, same ∙ ap (λ (m : ℕ). take m (drop at told)) count)
found-read old new k at n (Err e) reads told holds = tt

-- reads after reads
pub after-both : (S : Setup) (k : ℕ) (H : List Entry) (first then : List (ℕ × ℕ)) → after_reads S k H (first ++ then) ≡ after_reads S k (after_reads S k H first) then
unfolding after_reads
after-both S k H [] then = refl
after-both S k H (read ∷ first) then = after-both S k (after_read S k H read) first then

pub made-on : (a b c : State) (k : ℕ) (first then : List (ℕ × ℕ)) → b.setup ≡ a.setup → AreReadsMade a k first b → AreReadsMade b k then c → AreReadsMade a k (first ++ then) c
made-on a b c k first then same one two =
    two ∙ (ap (λ (S : Setup). after_reads S k b.entries then) same ∙ (ap (λ (H : List Entry). after_reads a.setup k H then) one ∙ sym (after-both a.setup k a.entries first then)))

pub made-none : (s : State) (k : ℕ) → AreReadsMade s k [] s
unfolding after_reads
made-none s k = refl

pub told-still : (old new : State) (k f : ℕ) → AddsEntriesAlone old f new → (bytes : List ℕ) → contents new.setup k new.entries ≡ Some bytes → contents old.setup k old.entries ≡ Some bytes
told-still old new k f stays bytes holds = sym (stays.bytes k) ∙ subst (λ (S : Setup). contents S k new.entries ≡ Some bytes) stays.setup holds

pub told-on : (old new : State) (k f : ℕ) → AddsEntriesAlone old f new → (bytes : List ℕ) → contents old.setup k old.entries ≡ Some bytes → contents new.setup k new.entries ≡ Some bytes
told-on old new k f stays bytes holds = ap (λ (S : Setup). contents S k new.entries) stays.setup ∙ (stays.bytes k ∙ holds)

-- a disk stays, and then stays
pub stays-on : (a b c : State) (f g : ℕ) → AddsEntriesAlone a f b → AddsEntriesAlone b g c → AddsEntriesAlone a (f + g) c
stays-on a b c f g one two = record {
  setup = two.setup ∙ one.setup;
  more = two.more ++ one.more;
  entries = two.entries ∙ (ap (λ (E : List Entry). two.more ++ E) one.entries ∙ sym (append_assoc two.more one.more a.entries));
  quiet = two.quiet;
  media_id = two.media_id ∙ one.media_id;
  present = two.present ∙ one.present;
  bytes = λ k. subst (λ (S : Setup). contents S k c.entries ≡ contents S k b.entries) one.setup (two.bytes k) ∙ one.bytes k;
  kept = λ k. subst (λ (S : Setup). kept_contents S k c.entries ≡ kept_contents S k b.entries) one.setup (two.kept k) ∙ one.kept k;
  collected = λ t from below. elim (cases_lt t (token_count b.entries)) [
    | inl early ↦ subst (λ (E : List Entry). was_collected E t ≡ true) (sym two.entries) (collected-later two.more b.entries t (one.collected t from early))
    | inr late ↦ two.collected t late below
  ];
  failures = omega (arith, one.failures, two.failures);
  untagged = untagged-both two.more one.more two.untagged one.untagged;
  succeeded = λ none t from below. elim (cases_lt t (token_count b.entries)) [
    | inl early ↦
        (let none_first : f ≡ 0 = omega (arith, none) in
        let marked : mark_of c.setup b.entries t ≡ Some Success = ap (λ (S : Setup). mark_of S b.entries t) two.setup ∙ one.succeeded none_first t from early in
        subst (λ (E : List Entry). mark_of c.setup E t ≡ Some Success) (sym two.entries) (marked-later c.setup two.more b.entries t marked))
    | inr late ↦ two.succeeded (omega (arith, none)) t late below
  ];
}
  where
    marked-later : (S : Setup) (more H : List Entry) (t : ℕ) → mark_of S H t ≡ Some Success → mark_of S (more ++ H) t ≡ Some Success
    marked-later S [] H t was = was
    marked-later S (e ∷ more) H t was = mark-stays S (more ++ H) e t Success (marked-later S more H t was)

    collected-later : (more H : List Entry) (t : ℕ) → was_collected H t ≡ true → was_collected (more ++ H) t ≡ true
    collected-later [] H t was = was
    collected-later (e ∷ more) H t was = collected-stays (more ++ H) e t (collected-later more H t was)

-- the medium is still the one that is probed
pub target-stays : (old new : State) (target : Target) (f : ℕ) → IsTargetOf old target → AddsEntriesAlone old f new → IsTargetOf new target
target-stays old new target f is stays = record {
  is_in = record { present = stays.present ∙ is.is_in.present; named = stays.media_id ∙ is.is_in.named };
  whole = is.whole ∙ ap (λ (S : Setup). whole_view S target.view.media_id) (sym stays.setup);
  size = is.size ∙ ap size_of (sym stays.setup);
  blocks = is.blocks ∙ ap (λ (S : Setup). blocks_of S target.view.media_id) (sym stays.setup);
  sized = is.sized;
  some = is.some;
  fits = is.fits;
  long = λ bytes holds. is.long bytes (told-still old new target.view.media_id f stays bytes holds);
}

-- the same where the read is named otherwise
pub found-at : (old new : State) (k at n at' : ℕ) (r : Result (Vec ℕ) ReadFault) → at' ≡ at → IfOk r (λ b. Reads old k (at', n) b.items new) → (told : List ℕ) → contents old.setup k old.entries ≡ Some told
    → IfOk r (λ b. AreReadsMade old k ((at, n) ∷ []) new × (b.items ≡ slice_range told at (at + n)))
found-at old new k at n at' r same reads = found-read old new k at n r (subst (λ (a : ℕ). IfOk r (λ b. Reads old k (a, n) b.items new)) same reads)

-- the first 512 bytes of a block that were read
pub found-record : (old new : State) (k size lba at' n : ℕ) (b copied out : List ℕ) → at' ≡ lba * size → n ≡ 512 → Reads old k (at', 512) b new → copied ≡ b → out ≡ take n (drop 0 copied)
    → (told : List ℕ) → contents old.setup k old.entries ≡ Some told → AreReadsMade old k (record_read size lba ∷ []) new × (out ≡ boot_record_at told size lba)
found-record old new k size lba at' n b copied out same count reads was is told holds =
    let at = lba * size in
    let reads_at : Reads old k (at, 512) b new = subst (λ (a : ℕ). Reads old k (a, 512) b new) same reads in
    let bytes : AreToldAt (Some told) at b = subst (λ (o : Option (List ℕ)). AreToldAt o at b) holds reads_at.told in
    let whole : take n b ≡ b = take_all n b (omega (arith, reads_at.long, count)) in
    let long : length b ≡ at + 512 - at = omega (arith, reads_at.long) in
    (made-one old new k (at, 512) b reads_at, is ∙ (ap (λ (l : List ℕ). take n l) was ∙ (whole ∙ (bytes ∙ ap (λ (m : ℕ). take m (drop at told)) long))))
