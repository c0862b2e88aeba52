-- The pen of a shared disk's log and its notes, the rule of their table, and what its steps tell.
use Rattle.std.specs.Prelude.{◌≡◌, ℕ, true, false, List, [], ◌∷◌, ◌++◌, length, slice_index, All}
use Rattle.atomic_table.specs.Seated.{TableId}
use Rattle.atomic_table.specs.Table.{State}
use mathlib.Core.Option.{some}
use lib.ListN.{get_elem?}
use Rattle.shared_disk.specs.declared.log_rule.Item.{Item}
use Rattle.shared_disk.specs.declared.log_rule.LogView.{LogView}
use Rattle.shared_disk.specs.Log.{IsOld}

-- the pen, as contracts see it: of which table it is, and the log that it has written
pub record PenEnd : Type 0 where
  pub table : TableId
  pub log : List Item

-- a note: of which table it is, and what was seen of the log
pub record NoteEnd : Type 0 where
  pub table : TableId
  pub seen : List Item

-- What a seat knows of the log: only the pen's seat writes, and it wrote the log. What was seen is a beginning of it.
pub record KnowsLog (pen : ℕ) (log : List Item) (seat : ℕ) (v : LogView) : Type 0 where
  pub only : v.pens ≡ true → seat ≡ pen
  pub writes : v.pens ≡ true → v.log ≡ log
  pub olds : All (λ old. IsOld old log) v.olds
  pub seen : IsOld v.seen log

-- each seat does
pub record AllKnowLog (pen : ℕ) (log : List Item) (views : List LogView) : Type 0 where
  pub at : (seat : ℕ) (v : LogView) → get_elem? views seat ≡ some v → KnowsLog pen log seat v

-- There is one word, and it is the number of items of the log of one pen.
pub record IsLogKept (s : State (Unit {0}) LogView) : Type 0 where
  pub single : length s.words ≡ 1
  pub pen : ℕ
  pub log : List Item
  pub counts : slice_index s.words 0 ≡ length log
  pub known : AllKnowLog pen log s.views

-- the pen's view of an empty log
abbrev pub first_view : LogView
first_view = record { pens = true; log = []; olds = []; seen = [] }

-- a note that has seen the log of the pen with this view
abbrev pub note_view : LogView → LogView
note_view v = record { pens = false; log = []; olds = []; seen = v.log }

-- the pen's view after it took in a note
abbrev pub met_view : LogView → LogView → LogView
met_view v w = record v { olds = w.seen ∷ v.olds }

-- a note that was taken in has seen nothing
abbrev pub spent_view : LogView
spent_view = record { pens = false; log = []; olds = []; seen = [] }

-- the pen added items
abbrev pub HasAdded : List Item → LogView → LogView → Type 0
HasAdded items before after = after ≡ record before { log = items ++ before.log }

-- the pen read the number of items
abbrev pub HasCounted : LogView → ℕ → LogView → Type 0
HasCounted before word after = (after ≡ before) × (word ≡ length before.log)

-- the pen looked: what the notes had seen that it took in is a beginning of the log
abbrev pub HasLooked : LogView → LogView → Type 0
HasLooked before after = (after ≡ before) × All (λ old. IsOld old before.log) before.olds
