-- The lines that tell how tokens ended are those of the history.
use Rattle.std.proofs.Common.{◌≡◌, ℕ, zero, suc, ◌+◌, ◌-◌, ◌<◌, ◌≤◌, Bool, true, false, ◌&&◌, List, [], ◌∷◌, ◌++◌, length, reverse, take, drop, get_or, slice_get, slice_index, Option, None, Some, IsSome, IfSome, is_some, option_map, refl, sym, ◌∙◌, ap, subst, arith, length-append}
use Rattle.std.proofs.lemmas.List.{append-nil, length-map, take-append-drop}
use Rattle.std.proofs.lemmas.Option.{get_or_from_slice_get, slice_get-map, slice_get_within}
use Rattle.std.proofs.lemmas.Bool.{false≢true}
use Rattle.efi_status.specs.declared.Status.TheVariants.{Success}
use Rattle.history.specs.declared.entry.Kind.{Kind}
use Rattle.history.specs.declared.entry.Kind.TheVariants.{Read, Write, Flush, Erase}
use Rattle.history.specs.declared.entry.Entry.{Entry}
use Rattle.history.specs.Setup.{Setup}
use Rattle.history.specs.Tokens.{Request, token_count, request, was_collected, is_read, from_of}
use Rattle.history.specs.Marks.{mark_of}
use Rattle.history.specs.Contents.{bytes_read}
use Rattle.token_table.specs.declared.record.Done.{Done}
use Rattle.disk_core.specs.Facts.{HasBytesRead, buffer_length}
use Rattle.shared_disk.specs.declared.books.Buffer.{Buffer}
use Rattle.shared_disk.specs.declared.books.Buffer.TheVariants.{Awaited, Kept, Gone}
use Rattle.shared_disk.specs.declared.books.Slot.{Slot}
use Rattle.shared_disk.specs.Desk.{IsHandedBack, given_at}
use Rattle.shared_disk.specs.Slots.{buffer_in, buffers_of, IsBufferOf, AreSlots}
use Rattle.script_text.specs.declared.report.parts.TokenLine.{TokenLine}
use Rattle.script_text.specs.Report.{is_success, is_tagged_read, gives_bytes, given_if, tagged_read, tagged_reads, is_tagged, givens_of, AreEnds, AreBytesRead, IsGiven, AreGiven}
use Rattle.script_text.proofs.TaggedReads.{map_both, counted, tagged_is}
use Rattle.stack_run.specs.EndLines.{IsCollected, line_told, lines_told}
use Rattle.stack_run.proofs.ChainLemmas.{take-next}

-- one line more
pub told-next : (flags : List Bool) (b : Bool) (slots : List Slot) (slot : Slot) → slice_get slots (length flags) ≡ Some slot → lines_told (flags ++ b ∷ []) slots ≡ lines_told flags slots ++ line_told b slot.buffer ∷ []
unfolding lines_told
told-next [] b [] slot is = absurd (cc)
told-next [] b (s ∷ slots) slot is = let same : s ≡ slot = cc in ap (λ (x : Slot). line_told b x.buffer ∷ []) same
told-next (f ∷ flags) b [] slot is = absurd (cc)
told-next (f ∷ flags) b (s ∷ slots) slot is = ap (λ l. line_told f s.buffer ∷ l) (told-next flags b slots slot is)

pub told-count : (flags : List Bool) (slots : List Slot) → length flags ≤ length slots → length (lines_told flags slots) ≡ length flags
unfolding lines_told
told-count [] slots few = refl
told-count (f ∷ flags) [] few = absurd (omega (arith, few))
told-count (f ∷ flags) (s ∷ slots) few = ap (λ n. suc n) (told-count flags slots (omega (arith, few)))

-- the flags of one entry more
pub flags-next : (entries : List Entry) (i : ℕ) (e : Entry) → i < length entries → e ≡ get_or entries i e → tagged_reads (take (i + 1) entries) ≡ tagged_reads (take i entries) ++ tagged_reads (e ∷ [])
flags-next entries i e inside is = ap tagged_reads (take-next entries i e inside is) ∙ map_both (take i entries) (e ∷ [])

pub flag-of : (e : Entry) (b : Bool) → tagged_read e ≡ Some b → tagged_reads (e ∷ []) ≡ b ∷ []
unfolding tagged_reads
flag-of e b is = rw is refl

pub no-flag : (e : Entry) → tagged_read e ≡ None → tagged_reads (e ∷ []) ≡ []
unfolding tagged_reads
no-flag e is = rw is refl

-- an entry that accepts a request is one token more, and another is none
pub step-told : (entries : List Entry) (i : ℕ) (e : Entry) (b : Bool) (slots : List Slot) (slot : Slot) (items items' : List TokenLine) → i < length entries → e ≡ get_or entries i e → tagged_read e ≡ Some b
    → items ≡ lines_told (tagged_reads (take i entries)) slots → length items ≡ length (tagged_reads (take i entries)) → slice_get slots (length items) ≡ Some slot → items' ≡ items ++ line_told b slot.buffer ∷ []
    → (items' ≡ lines_told (tagged_reads (take (i + 1) entries)) slots) × (length items' ≡ length (tagged_reads (take (i + 1) entries)))
step-told entries i e b slots slot items items' inside is flag told count there added =
    let more : tagged_reads (take (i + 1) entries) ≡ tagged_reads (take i entries) ++ b ∷ [] = flags-next entries i e inside is ∙ ap (λ l. tagged_reads (take i entries) ++ l) (flag-of e b flag) in
    let at : slice_get slots (length (tagged_reads (take i entries))) ≡ Some slot = subst (λ n. slice_get slots n ≡ Some slot) count there in
    let one = told-next (tagged_reads (take i entries)) b slots slot at in (
      added ∙ (ap (λ l. l ++ line_told b slot.buffer ∷ []) told ∙ (sym one ∙ ap (λ l. lines_told l slots) (sym more))),
      omega (arith, ap length added, length-append items (line_told b slot.buffer ∷ []), count, ap length more, length-append (tagged_reads (take i entries)) (b ∷ [])),
    )

pub skip-told : (entries : List Entry) (i : ℕ) (e : Entry) → i < length entries → e ≡ get_or entries i e → tagged_read e ≡ None → tagged_reads (take (i + 1) entries) ≡ tagged_reads (take i entries)
skip-told entries i e inside is none = flags-next entries i e inside is ∙ (ap (λ l. tagged_reads (take i entries) ++ l) (no-flag e none) ∙ append-nil (tagged_reads (take i entries)))

-- before an entry that accepts a request there are fewer tokens than in all
pub tokens-left : (H : List Entry) (i : ℕ) (e : Entry) (b : Bool) → i < length (reverse H) → e ≡ get_or (reverse H) i e → tagged_read e ≡ Some b → length (tagged_reads (take i (reverse H))) < token_count H
tokens-left H i e b inside is flag =
    let more : tagged_reads (take (i + 1) (reverse H)) ≡ tagged_reads (take i (reverse H)) ++ b ∷ [] = flags-next (reverse H) i e inside is ∙ ap (λ l. tagged_reads (take i (reverse H)) ++ l) (flag-of e b flag) in
    let all : tagged_reads (take (i + 1) (reverse H)) ++ tagged_reads (drop (i + 1) (reverse H)) ≡ tagged_reads (reverse H) = sym (map_both (take (i + 1) (reverse H)) (drop (i + 1) (reverse H))) ∙ ap tagged_reads (take-append-drop (i + 1) (reverse H)) in
    omega (arith, ap length more, length-append (tagged_reads (take i (reverse H))) (b ∷ []), ap length all, length-append (tagged_reads (take (i + 1) (reverse H))) (tagged_reads (drop (i + 1) (reverse H))), counted H)

-- the slot that comes next
pub next-slot : (slots : List Slot) (n : ℕ) (slot : Slot) (rest : List Slot) → drop n slots ≡ slot ∷ rest → (slice_get slots n ≡ Some slot) × (rest ≡ drop (suc n) slots)
next-slot [] zero slot rest is = absurd (cc)
next-slot [] (suc n) slot rest is = absurd (cc)
next-slot (x ∷ slots) zero slot rest is = let here : x ≡ slot = cc in let behind : slots ≡ rest = cc in (ap Some here, sym behind)
next-slot (x ∷ slots) (suc n) slot rest is = next-slot slots n slot rest is

-- the line of a token
told-at : (flags : List Bool) (slots : List Slot) (t : ℕ) (line : TokenLine) → slice_get (lines_told flags slots) t ≡ Some line → (slot : Slot) × (slice_get slots t ≡ Some slot) × (line ≡ line_told (is_tagged flags t) slot.buffer)
unfolding lines_told
told-at [] slots t line is = absurd (cc)
told-at (f ∷ flags) [] t line is = absurd (cc)
told-at (f ∷ flags) (s ∷ slots) zero line is = (s, refl, cc)
told-at (f ∷ flags) (s ∷ slots) (suc t) line is = told-at flags slots t line is

-- the bytes of a read's buffer are those that it read
read-bytes : (S : Setup) (H : List Entry) (t : ℕ) (q : Request) (buffer : List ℕ) → HasBytesRead S H t q buffer → length buffer ≡ q.asked.length → AreBytesRead S H t q buffer
read-bytes S H t q buffer read long = record { all = long; each = λ i lt. by i lt (bytes_read S H t (from_of S q + i)) refl }
  where
    by : (i : ℕ) → i < length buffer → (o : Option ℕ) → bytes_read S H t (from_of S q + i) ≡ o → IfSome o (λ b. slice_index buffer i ≡ b)
    by i lt None is = tt
    by i lt (Some b) is =
        let at : from_of S q + i - from_of S q ≡ i = omega arith in
        get_or_from_slice_get buffer i b 0 (rw at at (read (from_of S q + i) b (omega arith) (omega (arith, lt, long)) is))

reads-so : (kind : Kind) → is_read kind ≡ true → kind ≡ Read
reads-so Read is = refl
reads-so Write is = absurd (cc)
reads-so Flush is = absurd (cc)
reads-so Erase is = absurd (cc)

first-true : (a b : Bool) → (a && b) ≡ true → a ≡ true
first-true true b is = refl
first-true false b is = is

some-if : (b : Bool) (bytes : List ℕ) → is_some (given_if b (Some bytes)) ≡ b
some-if true bytes = refl
some-if false bytes = refl

module _ (S : Setup) (H : List Entry) (t : ℕ) (q : Request) (done : Done) (given : IsHandedBack S H t done.buffer q done.status) (tagged : Bool) (flag : tagged ≡ is_tagged_read (request H t)) where
  is-given : IsGiven S H t (given_if (tagged && is_success (Some done.status)) (Some done.buffer))
  unfolding gives_bytes
  is-given = record {
    where_read = some-if (tagged && is_success (Some done.status)) done.buffer ∙ (rw (flag, given.marked) refl);
    bytes = rw given.named (by (tagged && is_success (Some done.status)) refl);
  }
    where
      by : (b : Bool) → (tagged && is_success (Some done.status)) ≡ b → IfSome (given_if b (Some done.buffer)) (AreBytesRead S H t q)
      by true is =
          let reads : is_read q.asked.kind ≡ true = first-true (is_read q.asked.kind) _ (ap is_tagged_read (sym given.named) ∙ (sym flag ∙ first-true tagged (is_success (Some done.status)) is)) in
          let kind : q.asked.kind ≡ Read = reads-so q.asked.kind reads in
          read-bytes S H t q done.buffer (given.read kind) (given.long ∙ ap (λ k. buffer_length k q.asked.length) kind)
      by false is = tt

-- a request of no client gives nothing back
nothing-given : (S : Setup) (H : List Entry) (t : ℕ) → is_tagged_read (request H t) ≡ false → IsGiven S H t None
unfolding gives_bytes
nothing-given S H t untagged = record { where_read = rw untagged refl; bytes = by (request H t) }
  where
    by : (o : Option Request) → IfSome o (λ r. IfSome None (AreBytesRead S H t r))
    by None = tt
    by (Some r) = tt

module _ (S : Setup) (H : List Entry) (slots : List Slot) (are : AreSlots S H slots) (collected : (t : ℕ) → t < token_count H → was_collected H t ≡ true)
    (gone : (t : ℕ) (slot : Slot) → slice_get slots t ≡ Some slot → slot.buffer ≡ Gone → (mark_of S H t ≡ Some Success) × (is_tagged_read (request H t) ≡ false)) where
  flags : List Bool
  flags = tagged_reads (reverse H)

  lines : List TokenLine
  lines = lines_told (tagged_reads (reverse H)) slots

  -- one token
  record IsTold (t : ℕ) (line : TokenLine) : Type 0 where
    marked : mark_of S H t ≡ Some line.status
    gives : IsGiven S H t line.given

  kept-told : (t : ℕ) (buffer : Buffer) → t < token_count H → (buffer ≡ Gone → (mark_of S H t ≡ Some Success) × (is_tagged_read (request H t) ≡ false)) → IsBufferOf S H t buffer → IsTold t (line_told (is_tagged (tagged_reads (reverse H)) t) buffer)
  kept-told t Awaited inside others is = absurd (false≢true (sym is ∙ collected t inside))
  kept-told t (Kept done) inside others (q, given) = record { marked = given.marked; gives = is-given S H t q done given (is_tagged (tagged_reads (reverse H)) t) (tagged_is H t) }
  kept-told t Gone inside others is =
      let (marked, untagged) = others refl in
      record { marked = marked; gives = nothing-given S H t untagged }

  told : (t : ℕ) (line : TokenLine) → slice_get (lines_told (tagged_reads (reverse H)) slots) t ≡ Some line → IsTold t line
  told t line there =
      let (slot, at, is) = told-at (tagged_reads (reverse H)) slots t line there in
      rw is (kept-told t slot.buffer (omega (arith, slice_get_within slots t slot at, are.counted)) (gone t slot at) (are.each t slot at).buffer)

  count : length (lines_told (tagged_reads (reverse H)) slots) ≡ token_count H
  count = told-count (tagged_reads (reverse H)) slots (omega (arith, counted H, are.counted)) ∙ counted H

  pub told-ends : AreEnds S H (lines_told (tagged_reads (reverse H)) slots)
  told-ends = record { count = count; each = λ t. by t (slice_get (lines_told (tagged_reads (reverse H)) slots) t) refl }
    where
      by : (t : ℕ) (o : Option TokenLine) → slice_get (lines_told (tagged_reads (reverse H)) slots) t ≡ o → IfSome o (λ line. mark_of S H t ≡ Some line.status)
      by t None is = tt
      by t (Some line) is = (told t line is).marked

  pub told-given : AreGiven S H (givens_of (lines_told (tagged_reads (reverse H)) slots))
  told-given = record {
    count = length-map (lines_told (tagged_reads (reverse H)) slots) (λ line. line.given) ∙ count;
    each = λ t. subst (λ o. IfSome o (IsGiven S H t)) (sym (slice_get-map (λ (line : TokenLine). line.given) (lines_told (tagged_reads (reverse H)) slots) t)) (by t (slice_get (lines_told (tagged_reads (reverse H)) slots) t) refl);
  }
    where
      by : (t : ℕ) (o : Option TokenLine) → slice_get (lines_told (tagged_reads (reverse H)) slots) t ≡ o → IfSome (option_map (λ (line : TokenLine). line.given) o) (IsGiven S H t)
      by t None is = tt
      by t (Some line) is = (told t line is).gives

-- where all tokens were collected, each buffer is kept or gone
pub all-collected : (S : Setup) (H : List Entry) (slots : List Slot) → AreSlots S H slots → ((t : ℕ) → t < token_count H → was_collected H t ≡ true) → (t : ℕ) (slot : Slot) → slice_get slots t ≡ Some slot → IsCollected slot.buffer
all-collected S H slots are collected t slot there = by slot.buffer (are.each t slot there).buffer
  where
    by : (b : Buffer) → IsBufferOf S H t b → IsCollected b
    by Awaited is = absurd (false≢true (sym is ∙ collected t (omega (arith, slice_get_within slots t slot there, are.counted))))
    by (Kept done) is = tt
    by Gone is = tt

-- what the desk gives is not gone
pub kept-given : (slots : List Slot) (given : List (Option (List ℕ))) → buffers_of slots ≡ given → (t : ℕ) (slot : Slot) → slice_get slots t ≡ Some slot → IsSome (given_at given t) → slot.buffer ≡ Gone → ⊥
kept-given slots given same t slot there some gone =
    let at : slice_get (buffers_of slots) t ≡ Some (buffer_in slot.buffer) = slice_get-map (λ (s : Slot). buffer_in s.buffer) slots t ∙ ap (option_map (λ (s : Slot). buffer_in s.buffer)) there in
    let here : given_at given t ≡ None = ap (λ l. given_at l t) (sym same) ∙ (get_or_from_slice_get (buffers_of slots) t (buffer_in slot.buffer) None at ∙ ap buffer_in gone) in
    false≢true (rw here at some)
