use Rattle.std.proofs.Common.{◌≡◌, ℕ, ◌+◌, List, ◌++◌, length, replicate, false, Bool, take, ◌∙◌, arith, rules}
use Rattle.std.specs.Prelude.{All}
use Rattle.std.specs.List.Sorted.{IsPermutation}
use Rattle.std.proofs.Math.Seq.{take-append_seam}
use Rattle.std.proofs.lemmas.List.Sorted.{All-permutation, IsNonDecreasingBy-from_sort_by_key}
use Rattle.gpt_headers.specs.declared.entry.GptEntry.{GptEntry}
use Rattle.gpt_headers.specs.declared.spans.Span.{Span}
use Rattle.gpt_headers.specs.Spans.{entry_spans}
use Rattle.gpt_headers.proofs.SpanLists.{IsAmong, lone_noted, spans_among}
use Rattle.gpt_headers.proofs.spans.lone_entries.Goals as goal

-- what holds of the spans holds of them in order
sorted_among : (entries : List GptEntry) (spans sorted : List Span) → spans ≡ entry_spans entries → IsPermutation spans sorted → All (λ s. IsAmong 0 (0 + length entries) s) sorted
sorted_among entries spans sorted is moved =
    All-permutation (λ s. IsAmong 0 (0 + length entries) s) (entry_spans entries) sorted (rw is at moved) (spans_among 0 entries)

pub sweep-requires-clause-sorted : goal.sweep-requires-clause-sorted
sweep-requires-clause-sorted c =
    rw c.deref.ensures.value
    (IsNonDecreasingBy-from_sort_by_key (λ (s : Span). s.first) c.sort_by_key.new.self.items c.in_ok-sort_by_key.ensures.sorted (λ a r q k. search rules))

pub sweep-requires-clause-blocks : goal.sweep-requires-clause-blocks
sweep-requires-clause-blocks c k d below =
    let among = sorted_among c.args.entries.now c.in_ok-spans.spans.items c.sort_by_key.new.self.items c.in_ok-spans.ensures c.sort_by_key.ensures.permutation in
    rw c.deref.ensures.value (among k d (rw c.deref.ensures.value at below)).blocks

pub sweep-requires-clause-places : goal.sweep-requires-clause-places
sweep-requires-clause-places c k d below =
    let among = sorted_among c.args.entries.now c.in_ok-spans.spans.items c.sort_by_key.new.self.items c.in_ok-spans.ensures c.sort_by_key.ensures.permutation in
    let before = (among k d (rw c.deref.ensures.value at below)).before in
    rw c.deref.ensures.value (omega (arith, before, c.deref_mut.ensures.len, c.in_ok-flags.ensures.len))

-- a vector's items after its slice was written
written_back : (flags rest : List Bool) (n : ℕ) → n ≡ length flags → take n (flags ++ rest) ≡ flags
written_back flags rest n h = rw h (take-append_seam flags rest)

pub returns-clause-lone : goal.returns-clause-lone
returns-clause-lone c i d h =
    let entries = c.args.entries.now in
    let sorted = c.sort_by_key.new.self.items in
    let opening : c.deref_mut.result.now ≡ replicate (length entries) false = c.deref_mut.ensures.value ∙ c.in_ok-flags.ensures.items_if_clones_equal (λ y e. e) in
    let long : c.in_ok-flags.flags.len ≡ length c.sweep.new.flags = omega (arith, c.sweep.auto.flags, c.deref_mut.ensures.len, c.in_ok-flags.ensures.len) in
    rw (written_back c.sweep.new.flags _ _ long, c.sweep.ensures, c.deref.ensures.value, opening)
    (lone_noted entries sorted i d (rw c.in_ok-spans.ensures at c.sort_by_key.ensures.permutation) h)
