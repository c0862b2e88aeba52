-- The lines of a report tell its entries (own profile).
use Rattle.std.specs.Prelude.{◌≡◌, ℕ, ◌^◌, ◌<◌, List, [], ◌∷◌, length, Option}
use Rattle.hex.specs.Hex.{IsBytes}
use Rattle.history.specs.Setup.{Setup, per_of}
use Rattle.history.specs.declared.entry.View.{View}
use Rattle.history.specs.declared.entry.Kind.{Kind}
use Rattle.history.specs.declared.entry.Kind.TheVariants.{Read, Write, Flush, Erase}
use Rattle.history.specs.declared.entry.UnitKind.TheVariants as unit
use Rattle.history.specs.declared.entry.Asked.{Asked}
use Rattle.history.specs.declared.entry.Command.{Command}
use Rattle.history.specs.declared.entry.Command.TheVariants.{Fetch, Store, Put, Get, Wipe, Sync}
use Rattle.history.specs.declared.entry.Entry.{Entry}
use Rattle.history.specs.declared.entry.Entry.TheVariants.{Accept, Refuse, Done, Fault, Collect, Cancel, Reset, Eject, Insert, Protect}
use Rattle.script_text.specs.declared.report.parts.KeptMedium.{KeptMedium}
use Rattle.script_text.specs.Entries.{line_text}
use Rattle.script_text.specs.Report.{report_text}

-- a number of 64 bits
abbrev pub IsWord64 : ℕ → Type 0
IsWord64 n = n < 2 ^ 64

pub record IsShortView (v : View) : Type 0 where
  pub start : IsWord64 v.start
  pub length : IsWord64 v.length
  pub media_id : IsWord64 v.media_id
  pub index : IsWord64 v.index

pub record IsShortAsked (a : Asked) : Type 0 where
  pub at : IsWord64 a.at
  pub length : IsWord64 a.length

-- only a write brings bytes, and a flush has the unit bytes and zeros
abbrev pub AsksWell : Kind → Asked → List ℕ → Type 0
AsksWell Read asked bytes = bytes ≡ []
AsksWell Write asked bytes = IsBytes bytes
AsksWell Erase asked bytes = bytes ≡ []
AsksWell Flush asked bytes = (asked.unit ≡ unit.Bytes) × (asked.at ≡ 0) × (asked.length ≡ 0) × (bytes ≡ [])

abbrev pub IsShortCommand : Command → Type 0
IsShortCommand (Fetch block) = IsWord64 block
IsShortCommand (Store block) = IsWord64 block
IsShortCommand (Put block count) = IsWord64 block × IsWord64 count
IsShortCommand (Get block count) = IsWord64 block × IsWord64 count
IsShortCommand (Wipe block count) = IsWord64 block × IsWord64 count
IsShortCommand Sync = Unit {0}

-- an entry as it can be: its numbers have 64 bits, and what it accepted was asked well
abbrev pub IsWell : Entry → Type 0
IsWell (Accept tag view asked bytes) = IsWord64 tag × IsShortView view × IsShortAsked asked × AsksWell asked.kind asked bytes
IsWell (Refuse tag view asked media_id status) = IsWord64 tag × IsShortView view × IsShortAsked asked × IsWord64 media_id
IsWell (Done token command) = IsWord64 token × IsShortCommand command
IsWell (Fault token command done) = IsWord64 token × IsShortCommand command × IsWord64 done
IsWell (Collect tag token) = IsWord64 tag × IsWord64 token
IsWell (Cancel tag view) = IsWord64 tag × IsShortView view
IsWell (Reset tag) = IsWord64 tag
IsWell (Eject tag) = IsWord64 tag
IsWell (Insert tag media_id) = IsWord64 tag × IsWord64 media_id
IsWell (Protect tag on) = IsWord64 tag

-- all of them
abbrev pub AreWell : List Entry → Type 0
AreWell [] = Unit {0}
AreWell (e ∷ more) = IsWell e × AreWell more

-- two entries of a disk with one line at one place are equal; its groups have so many blocks
abbrev pub LinesTellEntries : Type 0
LinesTellEntries = (per place : ℕ) (e f : Entry) → IsWord64 per → IsWord64 place → IsWell e → IsWell f → line_text per place e ≡ line_text per place f → e ≡ f

-- two reports of a disk with one text have one list of entries, however their tokens ended and their media were kept
abbrev pub ReportsTellEntries : Type 0
ReportsTellEntries = (number blocks : ℕ) (image : List ℕ) (S : Setup) (H H' : List Entry) (given given' : List (Option (List ℕ))) (media media' : List KeptMedium)
    → IsWord64 (per_of S) → IsWord64 (length H) → IsWord64 (length H') → AreWell H → AreWell H'
    → report_text number image S blocks H given media ≡ report_text number image S blocks H' given' media' → H ≡ H'
