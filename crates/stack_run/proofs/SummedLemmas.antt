-- The run of a generated script over an image of zeros, and its summary.
use Rattle.std.proofs.Common.{◌≡◌, ℕ, ◌*◌, ◌≤◌, List, [], ◌∷◌, length, map, slice_get, get_or, Option, None, Some, Ok, refl, sym, ◌∙◌, ap, subst, arith, replicate, nat_le, true, false, All, ◌&&◌}
use Rattle.std.specs.Prelude.{is_none}
use Rattle.std.proofs.lemmas.Bool.Decides.{nat_tests}
use Rattle.crc_table.specs.Crc32.{crc32_of}
use Rattle.medium.specs.Device.{Device}
use Rattle.drive.specs.Drives.{DriveState, FitTheDrive}
use Rattle.disk_core.specs.State.{setup_of, opening_from}
use Rattle.history.specs.Setup.{Setup}
use Rattle.history.specs.Room.{faults}
use Rattle.history_laws.proofs.OneMediumLemmas.{faults-alone}
use Rattle.script_text.specs.declared.language.plans.ClientPlan.{ClientPlan}
use Rattle.script_text.specs.declared.language.plans.DiskPlan.{DiskPlan}
use Rattle.script_text.specs.Whole.{script_of}
use Rattle.script_text.proofs.Chains.{both_true, ok_same}
use Rattle.script_text.specs.Fitting.{IsDiskPlan, AreDisks}
use Rattle.script_text.specs.Limits.{most_script_bytes}
use Rattle.script_text.specs.Planned.{disk_lines, planned_lines}
use Rattle.stack_run.specs.declared.desk_run.Run.{Run}
use Rattle.stack_run.specs.Generated.{are_whole, generated_text, generated_disk, IsGeneratedScript}
use Rattle.stack_run.specs.GeneratedRun.{IsOneDisk, zero_setup, image_setup, IsSumOf, IsSummed}
use Rattle.stack_run.specs.Clients.{unprobed}
use Rattle.stack_run.specs.Parts.{first_missing}
use Rattle.stack_run.specs.Starting.{part_line, AreWhole}
use Rattle.stack_run.specs.Runs.{RanOver}
use Rattle.stack_run.specs.Summary.{summary_text}
use Rattle.stack_run.specs.Words.{are_counts}

-- what a script says is the one disk
pub one-disk : (text : List ℕ) (plans : List DiskPlan) → IsGeneratedScript text → script_of text ≡ Ok plans → IsOneDisk plans
one-disk text plans script says = (script.clients, ok_same plans (generated_disk script.clients ∷ []) (sym says ∙ script.says))

-- each of whose clients is on the whole of it
whole-next : (client : ClientPlan) (more : List ClientPlan) (o : Option ℕ) → client.part ≡ o → (is_none o && are_whole more) ≡ true → (are_whole more ≡ true → first_missing 512 [] more ≡ None) → first_missing 512 [] (client ∷ more) ≡ None
unfolding first_missing
whole-next client more None is whole rest = rw is (rest whole)
whole-next client more (Some part) is whole rest = absurd (cc)

whole-clients : (clients : List ClientPlan) → are_whole clients ≡ true → first_missing 512 [] clients ≡ None
unfolding first_missing
whole-clients [] whole = refl
whole-clients (client ∷ more) whole = whole-next client more client.part refl whole (λ rest. whole-clients more rest)

pub whole-disk : (text : List ℕ) (plans : List DiskPlan) → IsGeneratedScript text → script_of text ≡ Ok plans → AreWhole plans
unfolding AreWhole
whole-disk text plans script says =
    let one : plans ≡ generated_disk script.clients ∷ [] = ok_same plans (generated_disk script.clients ∷ []) (sym says ∙ script.says) in
    subst AreWhole (sym one) (whole-clients script.clients script.whole, tt)

pub plan-whole : (plans : List DiskPlan) (plan : DiskPlan) → plans ≡ plan ∷ [] → AreWhole plans → part_line plan ≡ None
unfolding AreWhole
plan-whole plans plan one whole = let all : AreWhole (plan ∷ []) = subst AreWhole one whole in all.0

-- a disk over zeros has one medium
pub one-zero : (blocks n : ℕ) → n ≡ length (zero_setup blocks).media → n ≡ 1
unfolding zero_setup
one-zero blocks n is = is

-- the item of a list of one
pub only-item : {X : Type 0} (xs : List X) (x : X) → length xs ≡ 1 → x ≡ get_or xs 0 x → xs ≡ x ∷ []
only-item [] x one is = absurd (omega arith)
only-item (y ∷ []) x one is = ap (λ z. z ∷ []) (sym is)
only-item (y ∷ z ∷ more) x one is = absurd (omega arith)

pub only-plan : (plans shown : List DiskPlan) (plan : DiskPlan) → IsOneDisk plans → shown ≡ plans → plan ≡ get_or shown 0 plan → plans ≡ plan ∷ []
only-plan plans shown plan (clients, one) same is =
    let first : plan ≡ generated_disk clients = is ∙ ap (λ l. get_or l 0 plan) (same ∙ one) in
    one ∙ ap (λ p. p ∷ []) (sym first)

pub plan-fits : (plans : List DiskPlan) (plan : DiskPlan) → plans ≡ plan ∷ [] → AreDisks plans → IsDiskPlan plan
unfolding AreDisks
plan-fits plans plan one all = let whole : AreDisks (plan ∷ []) = subst AreDisks one all in whole.0

pub plan-lines : (plans : List DiskPlan) (plan : DiskPlan) → plans ≡ plan ∷ [] → planned_lines plans ≤ most_script_bytes → disk_lines plan ≤ most_script_bytes
unfolding planned_lines
plan-lines plans plan one few = let whole : planned_lines (plan ∷ []) ≤ most_script_bytes = subst (λ (l : List DiskPlan). planned_lines l ≤ most_script_bytes) one few in omega arith

-- the setup of a drive over zeros alone
pub zeros-setup : {M : Type 0} (device : M → Device) (s : DriveState M) (m : M) (blocks : ℕ) → s.media ≡ m ∷ [] → FitTheDrive device s → (device m).size ≡ 512 → opening_from (device m) ≡ record { blocks = blocks; first = Some (replicate (blocks * 512) 0) }
    → s.per ≡ 1 → s.cached ≡ false → s.protected ≡ false → setup_of device s s.protected ≡ zero_setup blocks
unfolding setup_of zero_setup
zeros-setup {M = M} device s m blocks media fit size opening per cached protected =
    let sized = let P : List M → Type 0 = λ l. All (λ n. (device n).size ≡ s.size) l in subst P media fit.size in
    let whole : s.size ≡ 512 = sym (sized 0 m (omega arith)) ∙ size in
    λ i. record {
      geometry = record { size = whole i; per = per i };
      cached = cached i;
      protected = protected i;
      media = (ap (map (λ n. opening_from (device n))) media ∙ ap (λ o. o ∷ []) opening) i;
    }

-- a summary of the run, of which something holds
pub sum-more : (plan : DiskPlan) (S : Setup) (P Q : List ℕ → Type 0) → ((text : List ℕ) → P text → Q text) → IsSumOf plan S P → IsSumOf plan S Q
sum-more plan S P Q more sum = record { history = sum.history; image = sum.image; ran = sum.ran; holds = more _ sum.holds }

pub summed-more : (number clients lines : ℕ) (P Q : List ℕ → Type 0) → ((text : List ℕ) → P text → Q text) → IsSummed number clients lines P → IsSummed number clients lines Q
summed-more number clients lines P Q more summed = record { plan = summed.plan; script = summed.script; sum = sum-more summed.plan image_setup P Q more summed.sum }

-- over a medium that never fails
pub ran-over : (plan : DiskPlan) (S : Setup) (after : List Device) (d : Device) (run : Run) (image text : List ℕ) → RanOver plan S unprobed after run → after ≡ d ∷ [] → d.failed ≡ 0 → d.now ≡ Some image → text ≡ summary_text S run.history.entries (crc32_of image) → IsSumOf plan S (λ all. text ≡ all)
ran-over plan S after d run image text over are failed now is =
    let H = run.history.entries in
    let meets = over.follow.each 0 d (ap (λ l. slice_get l 0) are) in
    let one : length S.media ≡ 1 = sym over.follow.count ∙ ap length are in
    let none : faults H ≡ 0 = sym (faults-alone S H over.ran.legal one) ∙ (sym meets.failed ∙ failed) in
    record {
      history = H;
      image = image;
      ran = record { given = _; ran = over.ran; faultless = none; left = sym meets.now ∙ now };
      holds = is;
    }

-- the summary of the script that a number makes
pub is-summed : (number clients lines : ℕ) (script text : List ℕ) (plans : List DiskPlan) (plan : DiskPlan) → script ≡ generated_text number clients lines → script_of script ≡ Ok plans → plans ≡ plan ∷ [] → IsSumOf plan image_setup (λ all. text ≡ all) → IsSummed number clients lines (λ all. text ≡ all)
is-summed number clients lines script text plans plan made says one sum = record { plan = plan; script = sym (ap script_of made) ∙ (says ∙ ap Ok one); sum = sum }

-- the counts of a row
pub record AreCounts (clients lines : ℕ) : Type 0 where
  pub some : 1 ≤ clients
  pub most : clients ≤ 64
  pub some_lines : 1 ≤ lines
  pub all : clients * lines ≤ 100000

is-most : (a b : ℕ) → nat_le a b ≡ true → a ≤ b
is-most a b is = grind (arith, nat_tests)

pub counts-are : (clients lines : ℕ) → are_counts clients lines ≡ true → AreCounts clients lines
counts-are clients lines is =
    let (three, all) = both_true (nat_le 1 clients && nat_le clients 64 && nat_le 1 lines) (nat_le (clients * lines) 100000) is in
    let (two, some) = both_true (nat_le 1 clients && nat_le clients 64) (nat_le 1 lines) three in
    let (one, most) = both_true (nat_le 1 clients) (nat_le clients 64) two in
    record { some = is-most 1 clients one; most = is-most clients 64 most; some_lines = is-most 1 lines some; all = is-most (clients * lines) 100000 all }
