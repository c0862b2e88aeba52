-- The images that the disks of a script want.
use Rattle.std.proofs.Common.{◌≡◌, ◌≢◌, ℕ, ◌+◌, ◌≤◌, ◌<◌, true, false, List, [], ◌∷◌, ◌++◌, map, length, take, get_or, bytes_eq, refl, sym, ◌∙◌, ap, arith, append_assoc}
use Rattle.std.specs.List.{AllByRecursion, IsDistinct}
use Rattle.std.proofs.lemmas.List.{append-nil, map-append}
use Rattle.std.proofs.lemmas.Bool.{false≢true}
use Rattle.std.proofs.lemmas.Bool.Decides.{nat_tests}
use Rattle.std.proofs.lemmas.Slice.Eq.{bytes_eq-Decides}
use Rattle.script_text.specs.declared.language.plans.DiskPlan.{DiskPlan}
use Rattle.script_text.specs.Fitting.{IsDiskPlan, AreDisks, images_of}
use Rattle.script_text.specs.Planned.{is_group_size}
use Rattle.stack_run.specs.declared.wanted.Wanted.{Wanted}
use Rattle.stack_run.specs.Media.{media_names, wanted_by, wanted_of, IsNone}
use Rattle.image_store.specs.Place.{Image, IsFree}
use Rattle.stack_run.specs.Chains.{IsWanted, AreWanted, HaveOtherNames, AreFree}
use Rattle.stack_run.proofs.ChainLemmas.{IsNoneOf, take-next, all-both, all-front, all-back}

pub wanted-both : (ps qs : List DiskPlan) → wanted_of (ps ++ qs) ≡ wanted_of ps ++ wanted_of qs
unfolding wanted_of
wanted-both [] qs = refl
wanted-both (p ∷ ps) qs =
    ap (λ l. map (wanted_by p) (media_names p) ++ l) (wanted-both ps qs) ∙ sym (append_assoc (map (wanted_by p) (media_names p)) (wanted_of ps) (wanted_of qs))

-- one more disk
pub wanted-next : (plans : List DiskPlan) (i : ℕ) (plan : DiskPlan) → i < length plans → plan ≡ get_or plans i plan
    → wanted_of (take (i + 1) plans) ≡ wanted_of (take i plans) ++ map (wanted_by plan) (media_names plan)
unfolding wanted_of
wanted-next plans i plan inside is =
    ap wanted_of (take-next plans i plan inside is)
    ∙ (wanted-both (take i plans) (plan ∷ []) ∙ ap (λ l. wanted_of (take i plans) ++ l) (append-nil (map (wanted_by plan) (media_names plan))))

-- one more image of a disk
pub named-next : (plan : DiskPlan) (names : List (List ℕ)) (i : ℕ) (name : List ℕ) → i < length names → name ≡ get_or names i name
    → map (wanted_by plan) (take (i + 1) names) ≡ map (wanted_by plan) (take i names) ++ wanted_by plan name ∷ []
named-next plan names i name inside is = ap (map (wanted_by plan)) (take-next names i name inside is) ∙ map-append (wanted_by plan) (take i names) (name ∷ [])

-- names that differ from one
none-by : (plan : DiskPlan) (name : List ℕ) (names : List (List ℕ)) → AllByRecursion (λ n. name ≢ n) names → IsNoneOf name (map (wanted_by plan) names)
none-by plan name [] none = tt
none-by plan name (n ∷ names) none = (none.0, none-by plan name names none.1)

pub none-wanted : (name : List ℕ) (plans : List DiskPlan) → IsNone name (images_of plans) → IsNoneOf name (wanted_of plans)
unfolding wanted_of images_of
none-wanted name [] none = tt
none-wanted name (p ∷ ps) none =
    all-both (λ (w : Wanted). name ≢ w.image) (map (wanted_by p) (media_names p)) (wanted_of ps)
    (none.0, none-by p name p.spares (all-front (λ n. name ≢ n) p.spares (images_of ps) none.1))
    (none-wanted name ps (all-back (λ n. name ≢ n) p.spares (images_of ps) none.1))

differ : (name other : List ℕ) → bytes_eq name other ≡ false → name ≢ other
differ name other differs same = let decided = bytes_eq-Decides name other in false≢true (sym differs ∙ decided.1 same)

differ-all : (name : List ℕ) (names : List (List ℕ)) → AllByRecursion (λ n. bytes_eq name n ≡ false) names → IsNone name names
differ-all name [] all = tt
differ-all name (n ∷ names) all = (differ name n all.0, differ-all name names all.1)

-- the rest of a disk's images, and those of the other disks
apart-rest : (p : DiskPlan) (names : List (List ℕ)) (ps : List DiskPlan) → IsDistinct bytes_eq (names ++ images_of ps) → HaveOtherNames (wanted_of ps) → HaveOtherNames (map (wanted_by p) names ++ wanted_of ps)
unfolding HaveOtherNames IsDistinct
apart-rest p [] ps distinct apart = apart
apart-rest p (n ∷ names) ps distinct apart =
    let none = differ-all n (names ++ images_of ps) distinct.0 in (
      all-both (λ (w : Wanted). n ≢ w.image) (map (wanted_by p) names) (wanted_of ps)
          (none-by p n names (all-front (λ m. n ≢ m) names (images_of ps) none))
          (none-wanted n ps (all-back (λ m. n ≢ m) names (images_of ps) none)),
      apart-rest p names ps distinct.1 apart,
    )

distinct-back : (xs ys : List (List ℕ)) → IsDistinct bytes_eq (xs ++ ys) → IsDistinct bytes_eq ys
unfolding IsDistinct
distinct-back [] ys distinct = distinct
distinct-back (x ∷ xs) ys distinct = distinct-back xs ys distinct.1

-- no two of them have one name
pub wanted-apart : (plans : List DiskPlan) → IsDistinct bytes_eq (images_of plans) → HaveOtherNames (wanted_of plans)
unfolding wanted_of images_of HaveOtherNames
wanted-apart [] distinct = tt
wanted-apart (p ∷ ps) distinct = apart-rest p (media_names p) ps distinct (wanted-apart ps (distinct-back (media_names p) (images_of ps) distinct))

group-some : (n : ℕ) → is_group_size n ≡ true → 1 ≤ n
group-some n is = grind (arith, nat_tests)

named-wanted : (p : DiskPlan) → IsDiskPlan p → (names : List (List ℕ)) → AllByRecursion IsWanted (map (wanted_by p) names)
named-wanted p is [] = tt
named-wanted p is (n ∷ names) = (record { size = is.size; group = group-some p.physical is.group }, named-wanted p is names)

-- as images can be wanted
pub wanted-can : (plans : List DiskPlan) → AreDisks plans → AreWanted (wanted_of plans)
unfolding wanted_of AreDisks AreWanted
wanted-can [] are = tt
wanted-can (p ∷ ps) are = all-both IsWanted (map (wanted_by p) (media_names p)) (wanted_of ps) (named-wanted p are.0 (media_names p)) (wanted-can ps are.1)

-- where all names are free
pub all-free : (ws : List Wanted) (at : List ℕ → Image) → ((name : List ℕ) → IsFree (at name).place) → AreFree ws at
unfolding AreFree
all-free [] at free = tt
all-free (w ∷ ws) at free = (free w.image, all-free ws at free)
