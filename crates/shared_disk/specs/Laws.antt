-- Where the lines of a script stand in a history that keeps it (own profile). A place is a number of entries that stand before it.
use Rattle.std.specs.Prelude.{◌≡◌, ℕ, ◌+◌, ◌<◌, ◌≤◌, Bool, true, false, List, ◌∷◌, length, slice_get, Option, None, Some, IsSome}
use Rattle.history.specs.declared.entry.Entry.{Entry}
use Rattle.history.specs.declared.entry.Entry.TheVariants.{Accept, Refuse, Done, Fault, Collect, Cancel, Reset, Eject, Insert, Protect}
use Rattle.history.specs.Setup.{Setup}
use Rattle.shared_disk.specs.Script.{tag_of, Script, DoesNext, places_at, KeepsScript}
use Rattle.shared_disk.specs.Inside.{first_entries}

-- the entry stands at the place, where it is some
abbrev pub HasEntryAt : List Entry → ℕ → Option Entry → Type 0
HasEntryAt H p None = Unit {0}
HasEntryAt H p (Some e) = (p < length H) × (first_entries (p + 1) H ≡ e ∷ first_entries p H)

-- client i has done its line n at this place, with its entry or none
pub record StandsAt (S : Setup) (d : Script) (H : List Entry) (i n p : ℕ) : Type 0 where
  pub within : p ≤ length H
  pub entry : Option Entry
  pub does : DoesNext S d.roles (first_entries p H) i n entry
  pub there : HasEntryAt H p entry

-- each line that is done stands at its place
abbrev pub LinesStandAtPlaces : Type 0
LinesStandAtPlaces =
    (S : Setup) (d : Script) (places : List (List ℕ)) (H : List Entry) → KeepsScript S d places H
    → (i n p : ℕ) → slice_get (places_at places i) n ≡ Some p → StandsAt S d H i n p

-- the places of a client never fall, and each is above that of every earlier line with an entry
abbrev pub PlacesAscend : Type 0
PlacesAscend =
    (S : Setup) (d : Script) (places : List (List ℕ)) (H : List Entry) → KeepsScript S d places H
    → (i n m p q : ℕ) → n < m → slice_get (places_at places i) n ≡ Some p → slice_get (places_at places i) m ≡ Some q
    → (at : StandsAt S d H i n p) × (p ≤ q) × (IsSome at.entry → p < q)

abbrev pub is_handed_back : Entry → Bool
is_handed_back (Accept tag view asked bytes) = false
is_handed_back (Refuse tag view asked media_id status) = false
is_handed_back (Done t c) = false
is_handed_back (Fault t c done) = false
is_handed_back (Collect tag t) = true
is_handed_back (Cancel tag view) = false
is_handed_back (Reset tag) = false
is_handed_back (Eject tag) = false
is_handed_back (Insert tag media_id) = false
is_handed_back (Protect tag on) = false

-- behind the opening each entry with the tag of client i that is no collect is that of one of its lines
abbrev pub OwnEntriesAreLines : Type 0
OwnEntriesAreLines =
    (S : Setup) (d : Script) (places : List (List ℕ)) (H : List Entry) → KeepsScript S d places H
    → (i p : ℕ) (e : Entry) → length d.opening ≤ p → HasEntryAt H p (Some e) → tag_of e ≡ i + 1 → is_handed_back e ≡ false
    → (n : ℕ) × (slice_get (places_at places i) n ≡ Some p) × (at : StandsAt S d H i n p) × (at.entry ≡ Some e)
