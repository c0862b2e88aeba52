-- The rule of the table that holds the word of an event, and what its steps tell.
use Rattle.std.specs.Prelude.{◌≡◌, ◌⊎◌, ℕ, true, false, List, length, slice_index}
use Rattle.atomic_table.specs.Table.{State}
use mathlib.Core.Option.{some}
use lib.ListN.{get_elem?}
use Rattle.event_cell.specs.declared.rule.SeatView.{SeatView}
use Rattle.event_cell.specs.EventWord.{IsSignalled}

-- What a seat knows of the word: only the signaller's seat signals, and it told the word. What was seen is 0 or the word.
pub record Knows (signaller word seat : ℕ) (v : SeatView) : Type 0 where
  pub only : v.signals ≡ true → seat ≡ signaller
  pub tells : v.signals ≡ true → v.told ≡ word
  pub sees : (v.seen ≡ 0) ⊎ (v.seen ≡ word)

-- each seat does
pub record AllKnow (signaller word : ℕ) (views : List SeatView) : Type 0 where
  pub at : (seat : ℕ) (v : SeatView) → get_elem? views seat ≡ some v → Knows signaller word seat v

-- There is one word, of one signaller. It is 0 or holds a status.
pub record IsKept (s : State (Unit {0}) SeatView) : Type 0 where
  pub single : length s.words ≡ 1
  pub holds : (slice_index s.words 0 ≡ 0) ⊎ IsSignalled (slice_index s.words 0)
  pub signaller : ℕ
  pub known : AllKnow signaller (slice_index s.words 0) s.views

-- the signaller's view before it signals
abbrev pub signaller_view : SeatView
signaller_view = record { signals = true; told = 0; seen = 0 }

-- a view of nothing: that of the first event, or of a seat that another took in
abbrev pub blank_view : SeatView
blank_view = record { signals = false; told = 0; seen = 0 }

-- the view of a new event that has seen what this one has
abbrev pub twin_view : SeatView → SeatView
twin_view v = record { signals = false; told = 0; seen = v.seen }

-- the signaller put this number into the word
abbrev pub HasTold : SeatView → ℕ → SeatView → Type 0
HasTold before word after = after ≡ record { signals = true; told = word; seen = before.seen }

-- An event read the word: what was seen before is 0 or the word, which is 0 or holds a status.
pub record HasSeen (before : SeatView) (word : ℕ) (after : SeatView) : Type 0 where
  pub now : after ≡ record { signals = before.signals; told = before.told; seen = word }
  pub once : (before.seen ≡ 0) ⊎ (before.seen ≡ word)
  pub holds : (word ≡ 0) ⊎ IsSignalled word

-- the signaller's view after it heard what another had seen
abbrev pub heard_view : SeatView → SeatView → SeatView
heard_view v w = record { signals = v.signals; told = v.told; seen = w.seen }

-- what the signaller heard is nothing or what it told
pub record HasCompared (before after : SeatView) : Type 0 where
  pub same : after ≡ before
  pub agrees : (before.seen ≡ 0) ⊎ (before.seen ≡ before.told)
