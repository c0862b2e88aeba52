-- What of a source was read so far.
use Rattle.std.proofs.Common.{◌≡◌, ℕ, ◌+◌, ◌<◌, ◌≤◌, ◌⊎◌, get_or, List, [], ◌∷◌, ◌++◌, take, drop, length, Option, None, Some, Result, Ok, Err, is_ok, refl, sym, ◌∙◌, ap, append_assoc, inl, inr, arith, length-append}
use Rattle.std.proofs.Math.ListN.{drop_of_length-le}
use Rattle.std.proofs.Math.Nat.{le_of_lt}
use Rattle.std.proofs.Math.Seq.{take-append_seam, drop-append_seam}
use Rattle.std.proofs.lemmas.List.{append-nil, take_all, take-append-le, length-take-le}
use Rattle.std.proofs.lemmas.Bool.{lt-ltb, false≢true, cases_lt}
use Rattle.image_store.specs.Edge.{Takes, TakesFront}
use Rattle.script_text.specs.Limits.{most_script_bytes}
use Rattle.script_text.specs.declared.language.plans.DiskPlan.{DiskPlan}
use Rattle.script_text.specs.declared.language.refusal.Reason.{Reason}
use Rattle.script_text.specs.declared.language.refusal.Reason.TheVariants.{Size}
use Rattle.script_text.specs.declared.language.refusal.Reason.TheVariants as why
use Rattle.script_text.specs.declared.language.reader.ScriptReader.{ScriptReader}
use Rattle.script_text.specs.Whole.{script_of}
use Rattle.script_text.specs.Fed.{WasFed}
use Rattle.stack_run.specs.Said.{some_or, first_part, said_of}
use Rattle.stack_run.specs.Starting.{part_line, AreWhole}
use Rattle.stack_run.proofs.ChainLemmas.{drop-next}
use Rattle.stack_run.specs.Serving.{LacksImage}
use Rattle.image_store.specs.Place.{Image}
use Rattle.stack_run.specs.Reading.{most_read_bytes, SourceReads, SourceSays, IsReadOut, IsScript, IsRefused}
use Rattle.stack_run.specs.Program.{IsToldRefused, IsToldLacking}

-- the bytes so far, and what is left behind them, are what was left
abbrev pub SoFar : Option (List ℕ) → Option (List ℕ) → List ℕ → Type 0
SoFar (Some left) now bytes = (rest : List ℕ) × (now ≡ Some rest) × (left ≡ bytes ++ rest)
SoFar None now bytes = now ≡ None

-- nothing yet
pub so-far-none : (left : Option (List ℕ)) → SoFar left left []
so-far-none None = refl
so-far-none (Some left) = (left, refl, refl)

-- one more piece
pub so-far-more : (left now new : Option (List ℕ)) (bytes out : List ℕ) (n : ℕ) → SoFar left now bytes → TakesFront now new n out → SoFar left new (bytes ++ take n out)
unfolding TakesFront
so-far-more None now new bytes out n is front = (rw is at front)
so-far-more (Some left) now new bytes out n (rest, is, whole) front =
    let (more, new_is, split, ended) = rw is at front in
    (more, new_is, whole ∙ (ap (λ xs. bytes ++ xs) split ∙ sym (append_assoc bytes (take n out) more)))

-- a piece that was asked for in a front of the buffer is one of the whole buffer
pub takes-shorter : {E : Type 0} (old new : Option (List ℕ)) (result : Result ℕ E) (out behind : List ℕ) → 0 < length out → Takes old new result out → Takes old new result (out ++ behind)
unfolding TakesFront
takes-shorter old new (Err e) out behind some takes = takes
takes-shorter None new (Ok n) out behind some (few, front) = (omega (arith, few, length-append out behind), front)
takes-shorter (Some bytes) new (Ok n) out behind some (few, (rest, is, split, ended)) =
    let front : take n (out ++ behind) ≡ take n out = take-append-le n out behind few in
    (omega (arith, few, length-append out behind), (rest, is, rw front split, λ none more. ended none some))

-- nothing more comes, and no more was read than may be
pub so-far-ended : (left now new : Option (List ℕ)) (bytes out : List ℕ) → SoFar left now bytes → TakesFront now new 0 out → 0 < length out → length bytes ≤ most_read_bytes → SourceReads left new bytes
unfolding TakesFront
so-far-ended None now new bytes out is front some few = (rw is at front)
so-far-ended (Some left) now new bytes out (rest, is, whole) front some few =
    let (more, new_is, split, ended) = rw is at front in
    let none : rest ≡ [] = ended refl some in
    let all : left ≡ bytes = whole ∙ (ap (λ xs. bytes ++ xs) none ∙ append-nil bytes) in
    let short : length left ≤ most_read_bytes = rw all few in
    (sym all ∙ sym (take_all most_read_bytes left short), new_is ∙ ap Some (sym split ∙ none ∙ sym (drop_of_length-le left short)))

-- what stands in front of the rest, and the rest, by the length of the front
read-front : (n : ℕ) (left bytes rest : List ℕ) → left ≡ bytes ++ rest → length bytes ≡ n → (bytes ≡ take n left) × (rest ≡ drop n left)
read-front n left bytes rest whole is = rw (whole, sym is) (sym (take-append_seam bytes rest), sym (drop-append_seam bytes rest))

-- as much was read as may be
pub so-far-long : (left now : Option (List ℕ)) (bytes : List ℕ) → SoFar left now bytes → length bytes ≡ most_read_bytes → SourceReads left now bytes
so-far-long None now bytes is long = is
so-far-long (Some left) now bytes (rest, is, whole) long =
    let (front, behind) = read-front most_read_bytes left bytes rest whole long in
    (front, is ∙ ap Some behind)

-- as many bytes as a script may not have are refused, whatever they are
too-long : (bytes : List ℕ) → most_script_bytes < length bytes → said_of bytes ≡ Err (0, Size)
unfolding said_of script_of
too-long bytes long = rw (lt-ltb most_script_bytes (length bytes) long) refl

-- more bytes than may be read are as many as a script may not have, and so is their front
front-too-long : (left : List ℕ) → most_read_bytes < length left → (said_of left ≡ Err (0, Size)) × (said_of (take most_read_bytes left) ≡ Err (0, Size))
front-too-long left long =
    let count : length (take most_read_bytes left) ≡ most_read_bytes = length-take-le most_read_bytes left (le_of_lt long) in
    (too-long left (omega (arith, long)), too-long (take most_read_bytes left) (rw count (omega arith)))

says-by : (left : List ℕ) → (most_read_bytes < length left) ⊎ (length left ≤ most_read_bytes) → said_of left ≡ said_of (take most_read_bytes left)
says-by left (inl long) =
    let (all, front) = front-too-long left long in
    all ∙ sym front
says-by left (inr short) = ap said_of (sym (take_all most_read_bytes left short))

-- what was read says what all bytes say that were left
pub says-whole : (left now : Option (List ℕ)) (bytes : List ℕ) (said : Result (List DiskPlan) (ℕ × Reason)) → SourceReads left now bytes → said_of bytes ≡ said → SourceSays left said
says-whole (Some left) now bytes said (front, is) says = says-by left (cases_lt most_read_bytes (length left)) ∙ (ap said_of (sym front) ∙ says)
says-whole None now bytes said reads says = (bytes, says)

read-out-by : (left : List ℕ) (plans : List DiskPlan) → said_of (take most_read_bytes left) ≡ Ok plans → (most_read_bytes < length left) ⊎ (length left ≤ most_read_bytes) → drop most_read_bytes left ≡ []
read-out-by left plans says (inl long) =
    let (all, front) = front-too-long left long in
    absurd (false≢true (ap is_ok (sym front ∙ says)))
read-out-by left plans says (inr short) = drop_of_length-le left short

read-out : (left now : Option (List ℕ)) (bytes : List ℕ) (plans : List DiskPlan) → SourceReads left now bytes → said_of bytes ≡ Ok plans → IsReadOut left now
read-out (Some left) now bytes plans (front, is) says =
    is ∙ ap Some (read-out-by left plans (ap said_of (sym front) ∙ says) (cases_lt most_read_bytes (length left)))
read-out None now bytes plans reads says = reads

-- a script was read
pub script-read : (left now : Option (List ℕ)) (bytes : List ℕ) (plans : List DiskPlan) → SourceReads left now bytes → said_of bytes ≡ Ok plans → IsScript left now plans
script-read left now bytes plans reads says = record { says = says-whole left now bytes (Ok plans) reads says; out = read-out left now bytes plans reads says }

-- a reader was fed what was read so far, no more than may be, and no call failed
pub record SoFed (left now : Option (List ℕ)) (reader : ScriptReader) (count faults faults' : ℕ) : Type 0 where
  pub bytes : List ℕ
  pub so_far : SoFar left now bytes
  pub fed : WasFed reader bytes
  pub counted : count ≡ length bytes
  pub few : count ≤ most_read_bytes
  pub quiet : faults' ≡ faults

-- what was read is refused
pub script-refused : (left now : Option (List ℕ)) (bytes : List ℕ) (line : ℕ) (reason : Reason) → SourceReads left now bytes → said_of bytes ≡ Err (line, reason) → IsRefused left now line reason
script-refused left now bytes line reason reads says = record { says = says-whole left now bytes (Err (line, reason)) reads says; bytes = bytes; reads = reads }

-- a script whose clients are on whole disks, and one with a client that is not
pub runs : (bytes : List ℕ) (plans : List DiskPlan) → script_of bytes ≡ Ok plans → first_part plans ≡ None → said_of bytes ≡ Ok plans
unfolding said_of
runs bytes plans says whole = rw (says, whole) refl

pub runs-not : (bytes : List ℕ) (plans : List DiskPlan) (line : ℕ) → script_of bytes ≡ Ok plans → first_part plans ≡ Some line → said_of bytes ≡ Err (line, why.Part)
unfolding said_of
runs-not bytes plans line says part = rw (says, part) refl

pub says-not : (bytes : List ℕ) (fault : ℕ × Reason) → script_of bytes ≡ Err fault → said_of bytes ≡ Err fault
unfolding said_of
says-not bytes fault says = rw says refl

-- a script is not refused
pub not-refused : (left : Option (List ℕ)) (plans : List DiskPlan) → SourceSays left (Ok plans) → IsToldRefused left → ⊥
not-refused (Some left) plans says refused = false≢true (rw says at refused)
not-refused None plans says refused = refused

-- where there is no image for a script's disk, the script was not refused, and it is the one that was read
pub lacks-image : (left : Option (List ℕ)) (plans : List DiskPlan) (at : List ℕ → Image) → SourceSays left (Ok plans) → IsToldLacking left at → LacksImage plans at
lacks-image (Some left) plans at says lacks = rw says at lacks
lacks-image None plans at says lacks = absurd lacks

pub not-lacking : (left : Option (List ℕ)) (fault : ℕ × Reason) (at : List ℕ → Image) → SourceSays left (Err fault) → IsToldLacking left at → ⊥
not-lacking (Some left) fault at says lacks = rw says at lacks
not-lacking None fault at says lacks = lacks

-- what serving may answer, among more answers
pub three-or-six : {n : ℕ} → (n ≡ 3) ⊎ (n ≡ 6) → (n ≡ 3) ⊎ ((n ≡ 4) ⊎ (n ≡ 6))
three-or-six (inl is) = inl is
three-or-six (inr is) = inr (inr is)

-- so of disks
pub disk-part : (disks : List DiskPlan) (i : ℕ) (disk : DiskPlan) → i < length disks → disk ≡ get_or disks i disk → first_part (drop i disks) ≡ some_or (part_line disk) (first_part (drop (i + 1) disks))
unfolding first_part
disk-part disks i disk inside is = ap first_part (drop-next disks i disk inside is)

no-part-by : (disk : DiskPlan) (more : List DiskPlan) (o : Option ℕ) → part_line disk ≡ o → some_or o (first_part more) ≡ None → (first_part more ≡ None → AreWhole more) → AreWhole (disk ∷ more)
unfolding AreWhole
no-part-by disk more None is none rest = (is, rest none)
no-part-by disk more (Some line) is none rest = absurd (cc)

pub no-part : (disks : List DiskPlan) → first_part disks ≡ None → AreWhole disks
unfolding first_part AreWhole
no-part [] none = tt
no-part (disk ∷ more) none = no-part-by disk more (part_line disk) refl none (λ rest. no-part more rest)
