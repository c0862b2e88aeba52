-- The entries that have blocks, as spans, and which of them share no block with another.
use Rattle.std.specs.Prelude.{ℕ, ◌&&◌, Bool, not, nat_le, nat_lt, max, min, List, fold, filter, map, slice_set, sum_by, if◌then◌else◌}
use Rattle.std.specs.List.{enumerate_from}
use Rattle.gpt_headers.specs.declared.entry.GptEntry.{GptEntry}
use Rattle.gpt_headers.specs.declared.spans.Span.{Span}
use Rattle.gpt_headers.specs.Entry.{has_blocks, overlaps_another_entry}

-- the blocks of the entry at a place
abbrev pub span_of : ℕ × GptEntry → Span
span_of (i, e) = record { first = e.first; last = e.last; place = i }

-- the spans of the entries that have blocks
abbrev pub entry_spans : List GptEntry → List Span
entry_spans entries = map span_of (filter (λ (i, e). has_blocks e) (enumerate_from 0 entries))

-- some block is one of both spans
abbrev pub meets : Span → Span → Bool
meets s t = nat_le (max s.first t.first) (min s.last t.last)

-- how many of the spans share a block with this one
abbrev pub crowd : List Span → Span → ℕ
crowd spans s = sum_by (λ t. if meets s t then 1 else 0) spans

-- the span, one of these, shares a block with itself alone
abbrev pub is_lone : List Span → Span → Bool
is_lone spans s = nat_lt (crowd spans s) 2

-- the flags after each of some spans noted at its place whether it is lone among all
abbrev pub flags_after : List Span → List Span → List Bool → List Bool
flags_after all spans flags = fold (λ fs s. slice_set fs s.place (is_lone all s)) flags spans

-- the entry at place i has blocks, and shares none of them with another used entry
abbrev pub is_lone_entry : List GptEntry → ℕ → GptEntry → Bool
is_lone_entry entries i e = has_blocks e && not (overlaps_another_entry entries i e)
