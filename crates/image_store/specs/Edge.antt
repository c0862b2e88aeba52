-- What comes in from a source and goes out to a sink, and the counts of their faults (own profile).
use Rattle.std.specs.Prelude.{◌≡◌, ◌≢◌, ℕ, ◌<◌, ◌≤◌, List, [], ◌++◌, length, take, Option, None, Some, Result, Ok, Err, IsErrOf, OnOk, OnErr}
pub use Rattle.medium.specs.Counts.{Rose}

-- a sink as its callers see it: what was written, where it tells; how often it failed; and how often memory ran out in it
pub record Outlet : Type 0 where
  pub wrote : Option (List ℕ)
  pub faults : ℕ
  pub spent : ℕ

-- the count stays where this fault is not the answer
abbrev pub StaysUnless : {T E : Type 0} → E → ℕ → ℕ → Result T E → Type 0
StaysUnless fault before now (Ok x) = now ≡ before
StaysUnless fault before now (Err e) = e ≢ fault → now ≡ before

-- the count rose where this fault is the answer, and stays where it is not
pub record HasCauseOf {T E : Type 0} (fault : E) (before now : ℕ) (result : Result T E) : Type 0 where
  pub later : before ≤ now
  pub failed : IsErrOf result fault → Rose before now
  pub quiet : StaysUnless fault before now result

-- the count rose where it failed, and stays where it did not
pub record HasCause {T E : Type 0} (before now : ℕ) (result : Result T E) : Type 0 where
  pub later : before ≤ now
  pub failed : OnErr result (Rose before now)
  pub quiet : OnOk result (now ≡ before)

-- the first n bytes of out are the next bytes, where it is told what is left; none are the end
unfoldable pub TakesFront : Option (List ℕ) → Option (List ℕ) → ℕ → List ℕ → Type 0
TakesFront (Some bytes) new n out = (rest : List ℕ) × (new ≡ Some rest) × (bytes ≡ take n out ++ rest) × (n ≡ 0 → 0 < length out → bytes ≡ [])
TakesFront None new n out = new ≡ None

-- bytes were taken, or where it failed nothing was
abbrev pub Takes : {E : Type 0} → Option (List ℕ) → Option (List ℕ) → Result ℕ E → List ℕ → Type 0
Takes old new (Ok n) out = (n ≤ length out) × TakesFront old new n out
Takes old new (Err e) out = new ≡ old

-- the bytes were added, where it is told what was written
unfoldable pub Appends : Option (List ℕ) → Option (List ℕ) → List ℕ → Type 0
Appends (Some old) new b = new ≡ Some (old ++ b)
Appends None new b = new ≡ None

-- this front of the whole was added, and this rest was not
pub record AppendsUpTo (old new : Option (List ℕ)) (whole rest : List ℕ) : Type 0 where
  pub front : List ℕ
  pub is : whole ≡ front ++ rest
  pub appended : Appends old new front

-- a front of the bytes was added
abbrev pub AppendsFront : Option (List ℕ) → Option (List ℕ) → List ℕ → Type 0
AppendsFront old new b = (rest : List ℕ) × AppendsUpTo old new b rest

-- all the bytes were added, or where it failed a front of them
abbrev pub PutsText : {E : Type 0} → Option (List ℕ) → Option (List ℕ) → Result (Unit {0}) E → List ℕ → Type 0
PutsText old new (Ok x) b = Appends old new b
PutsText old new (Err e) b = AppendsFront old new b
