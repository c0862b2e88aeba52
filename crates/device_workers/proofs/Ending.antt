-- The last collects, and the history that the rounds and they have made.
use Rattle.std.proofs.Common.{◌≡◌, ℕ, ◌+◌, ◌-◌, ◌≤◌, inl, inr, true, is_none, List, [], ◌∷◌, ◌++◌, length, take, Option, None, Some, IsSome, refl, sym, ◌∙◌, ap, subst, arith}
use Rattle.std.proofs.lemmas.Bool.{eqb-true, and_from}
use Rattle.std.proofs.lemmas.List.{length-append}
use Rattle.std.specs.List.{list_all}
use Rattle.history.specs.declared.entry.Entry.{Entry}
use Rattle.history.specs.declared.entry.Entry.TheVariants as entry
use Rattle.history.specs.Setup.{Setup, IsSetup}
use Rattle.history.specs.Tokens.{Request, request}
use Rattle.history.specs.Rules.{IsLegal}
use Rattle.history.specs.Room.{owed_entries}
use Rattle.history.specs.Next.{first_open, Outcome, Made, Failed}
use Rattle.history_laws.proofs.PlainLemmas.{first-open-collect}
use Rattle.shared_disk.specs.Lines.{Role, has_tag, first_left}
use Rattle.shared_disk.specs.Script.{AreOver, places_at, KeepsScript, RunsWholeScript}
use Rattle.shared_disk.specs.Desk.{DeskState, done_of, next_of, HasNoLine, HasNoLast, Keeps, LastSays}
use Rattle.device_workers.specs.Plain.{Progress, progress, outcomes_onto, outcomes_after, with_last_collects, has_no_order, is_over, after_rounds, rounds, plain_history}
use Rattle.device_workers.specs.Leading.{LeadsFor, Leads}
use Rattle.device_workers.specs.Serving.{lefts_of, IsAtOpening, KeepsScriptAndGates, RunsRounds, StopsAfter, CollectsRest, IsPlain, IsFaultlessPlain, IsPlainFront}
use Rattle.device_workers.proofs.Clients.{opening-drained, begins, clients-own}
use Rattle.device_workers.proofs.Collecting.{last-outcomes}
use Rattle.device_workers.proofs.Enough.{enough-from, cost-begins}
use Rattle.device_workers.proofs.Faultless.{faultless}
use Rattle.device_workers.proofs.Fronts.{is-front}
use Rattle.device_workers.proofs.Gathering.{last-next, last-over, all-left}
use Rattle.device_workers.proofs.Leading.{over-stays}
use Rattle.device_workers.proofs.Lefts.{lefts-all, lefts-over}
use Rattle.device_workers.proofs.Rounds.{stays-same}
use Rattle.device_workers.proofs.Taking.{stays-on, takes-stays, takes-entries, takes-owed}

-- the first of the last collects were made
pub record HasCollected (old new : DeskState) : Type 0 where
  pub stays : KeepsScriptAndGates old new
  pub places : new.places ≡ old.places
  pub keeps : Keeps new
  pub rest : with_last_collects new.disk.entries ≡ with_last_collects old.disk.entries
  pub drained : first_open new.disk.setup new.disk.entries ≡ None

pub collected-none : (old : DeskState) → Keeps old → first_open old.disk.setup old.disk.entries ≡ None → HasCollected old old
collected-none old keeps drained = record { stays = stays-same old; places = refl; keeps = keeps; rest = refl; drained = drained }

-- a tag that a client has
tagged : (H : List Entry) (tag t : ℕ) → has_tag tag (request H t) ≡ true → (q : Request) × (request H t ≡ Some q) × (q.tag ≡ tag)
tagged H tag t own = by (request H t) refl own
  where
    by : (o : Option Request) → request H t ≡ o → has_tag tag o ≡ true → (q : Request) × (request H t ≡ Some q) × (q.tag ≡ tag)
    by None named is = cc
    by (Some q) named is = (q, named, eqb-true q.tag tag is)

-- one more
pub collected-more : (old mid new : DeskState) (t : ℕ) → HasCollected old mid → Keeps new → LastSays mid (Some t) new → HasCollected old new
unfolding LastSays
collected-more old mid new t collected keeps (tag, at, takes) =
    let (q, named, own) = tagged mid.disk.entries tag t at.own in
    let stays : KeepsScriptAndGates mid new = takes-stays mid new tag t takes in
    let next : with_last_collects (entry.Collect tag t ∷ mid.disk.entries) ≡ with_last_collects mid.disk.entries =
    subst (λ k. with_last_collects (entry.Collect k t ∷ mid.disk.entries) ≡ with_last_collects mid.disk.entries) own
    (last-next mid.disk.entries t q at.least named (clients-own mid.disk.setup mid.script mid.places mid.disk.entries collected.keeps.script t q named takes.collects.uncollected)) in
    record {
      stays = stays-on old mid new collected.stays stays;
      places = takes.places ∙ collected.places;
      keeps = keeps;
      rest = ap with_last_collects (takes-entries mid new tag t takes) ∙ (next ∙ collected.rest);
      drained = rw (stays.disk.setup, takes-entries mid new tag t takes) (first-open-collect mid.disk.setup mid.disk.entries tag t ∙ collected.drained);
    }

pub last-owed : (mid new : DeskState) (t : ℕ) → LastSays mid (Some t) new → owed_entries new.disk.setup new.disk.entries + 1 ≤ owed_entries mid.disk.setup mid.disk.entries
unfolding LastSays
last-owed mid new t (tag, at, takes) = takes-owed mid new tag t takes

none-some : {X : Type 0} (o : Option X) → o ≡ None → IsSome o → ⊥
none-some None none is = cc
none-some (Some x) none is = cc

-- all were made
pub collected-over : (old mid new : DeskState) → HasNoLine old → HasCollected old mid → LastSays mid None new → KeepsScriptAndGates old new × CollectsRest old new
unfolding LastSays
collected-over old mid new over collected (none, same) = (rw same collected.stays, by none)
  where
    made : first_left mid.disk.entries ≡ None → CollectsRest old new
    made left = record {
      entries = ap (λ (d : DeskState). d.disk.entries) same ∙ (sym (last-over mid.disk.entries left) ∙ collected.rest);
      none = rw same left;
      places = ap (λ (d : DeskState). d.places) same ∙ collected.places;
    }

    by : HasNoLast mid → CollectsRest old new
    by (inl (i, line)) = let ended : next_of mid i ≡ None = rw (collected.stays.script, collected.places) (over i) in absurd (none-some (next_of mid i) ended line)
    by (inr (inl open_)) = absurd (none-some (first_open mid.disk.setup mid.disk.entries) collected.drained open_)
    by (inr (inr left)) = made left

-- outcomes before given ones tell these
onto-same : (H : List Entry) (xs ys : List Outcome) → outcomes_onto H xs ≡ outcomes_onto H ys → xs ≡ ys
unfolding outcomes_onto
onto-same [] xs ys same = same
onto-same (entry.Done t c ∷ H) xs ys same = tail (onto-same H (Made ∷ xs) (Made ∷ ys) same)
  where
    tail : Made ∷ xs ≡ Made ∷ ys → xs ≡ ys
    tail is = cc
onto-same (entry.Fault t c done ∷ H) xs ys same = tail (onto-same H (Failed done ∷ xs) (Failed done ∷ ys) same)
  where
    tail : Failed done ∷ xs ≡ Failed done ∷ ys → xs ≡ ys
    tail is = cc
onto-same (e ∷ H) xs ys same = onto-same H xs ys same

onto-front : (fresh H : List Entry) (more : List Outcome) → outcomes_onto (fresh ++ H) more ≡ outcomes_onto H (outcomes_onto fresh more)
unfolding outcomes_onto
onto-front [] H more = refl
onto-front (entry.Done t c ∷ fresh) H more = onto-front fresh H (Made ∷ more)
onto-front (entry.Fault t c done ∷ fresh) H more = onto-front fresh H (Failed done ∷ more)
onto-front (e ∷ fresh) H more = onto-front fresh H more

take-front : {X : Type 0} (xs ys : List X) → take (length (xs ++ ys) - length ys) (xs ++ ys) ≡ xs
take-front {X = X} xs ys = let e : length (xs ++ ys) - length ys ≡ length xs = omega (arith, length-append xs ys) in rw e (front xs)
  where
    front : (zs : List X) → take (length zs) (zs ++ ys) ≡ zs
    front [] = refl
    front (z ∷ zs) = ap (λ more. z ∷ more) (front zs)

-- the outcomes that came after the opening history
after-front : (opening fresh : List Entry) → outcomes_after opening (fresh ++ opening) ≡ outcomes_onto fresh []
unfolding outcomes_after
after-front opening fresh = ap (λ H. outcomes_onto H []) (take-front fresh opening)

after-is : (opening fresh : List Entry) (given : List Outcome) → outcomes_onto (fresh ++ opening) [] ≡ outcomes_onto opening given → given ≡ outcomes_after opening (fresh ++ opening)
after-is opening fresh given same = onto-same opening given (outcomes_onto fresh []) (sym same ∙ onto-front fresh opening []) ∙ sym (after-front opening fresh)

-- where rounds from the opening lead to an end, what is collected then is the plain history of its own outcomes
plain-ends : (S : Setup) (opening fresh H : List Entry) (roles lefts : List Role) → IsSetup S → first_open S opening ≡ None → Leads S opening roles H lefts → is_over S (progress H lefts []) ≡ true
    → with_last_collects H ≡ fresh ++ opening → fresh ++ opening ≡ plain_history S opening roles (outcomes_after opening (fresh ++ opening))
unfolding plain_history
plain-ends S opening fresh H roles lefts is none leads over collected =
    let on : LeadsFor S leads.k opening roles H lefts (rounds roles) [] = leads.on (rounds roles) [] in
    let ran : after_rounds (rounds roles) S (progress opening roles on.given) ≡ progress H lefts [] =
    sym (enough-from S is (rounds roles) (progress opening roles on.given) leads.k (cost-begins S opening roles on.given none)) ∙ (on.goes ∙ over-stays S (rounds roles) (progress H lefts []) over) in
    let given : on.given ≡ outcomes_after opening (fresh ++ opening) =
    after-is opening fresh on.given (ap (λ G. outcomes_onto G []) (sym collected) ∙ (last-outcomes H [] ∙ on.same)) in
    sym collected ∙ (ap (λ (s : Progress). with_last_collects s.history) (sym ran) ∙ ap (plain_history S opening roles) given)

-- the plain run of a desk at its opening
module _ (old mid new : DeskState) (keeps : Keeps new) (is : IsSetup old.disk.setup) (legal : IsLegal old.disk.setup old.disk.entries) (stays : KeepsScriptAndGates old mid) (later : KeepsScriptAndGates mid new) (rounds_ : RunsRounds old mid) (rest : CollectsRest mid new)
    (at : IsAtOpening old) where
  kept : KeepsScript old.disk.setup old.script new.places new.disk.entries
  kept = rw (later.disk.setup, stays.disk.setup, later.script, stays.script) at keeps.script

  none : first_open old.disk.setup old.script.opening ≡ None
  none = opening-drained old.disk.setup old.script new.places new.disk.entries kept (rw at.entries at legal)

  leads : Leads old.disk.setup old.script.opening old.script.roles mid.disk.entries (lefts_of mid)
  leads =
      subst (λ H. Leads old.disk.setup H old.script.roles mid.disk.entries (lefts_of mid)) at.entries
      (subst (λ ls. Leads old.disk.setup old.disk.entries ls mid.disk.entries (lefts_of mid)) (lefts-all (done_of old) 0 old.script.roles at.lines) rounds_.leads)

  over : is_over old.disk.setup (progress mid.disk.entries (lefts_of mid) []) ≡ true
  over =
      let all : list_all has_no_order (lefts_of mid) ≡ true = lefts-over (done_of mid) 0 mid.script.roles (λ i. let e : 0 + i ≡ i = omega arith in rw e (rounds_.over i)) in
      let drained : first_open old.disk.setup mid.disk.entries ≡ None = rw stays.disk.setup at rounds_.drained in
      and_from (list_all has_no_order (lefts_of mid)) (is_none (first_open old.disk.setup mid.disk.entries)) all (ap is_none drained)

  plain-by : (fresh : List Entry) → new.disk.entries ≡ fresh ++ old.script.opening → fresh ++ old.script.opening ≡ plain_history old.disk.setup old.script.opening old.script.roles (outcomes_after old.script.opening (fresh ++ old.script.opening))
  plain-by fresh begun = plain-ends old.disk.setup old.script.opening fresh mid.disk.entries old.script.roles (lefts_of mid) is none leads over (sym rest.entries ∙ begun)

  pub is-plain : IsPlain old.disk.setup old.script new.disk.entries
  is-plain = let (fresh, begun) = begins old.disk.setup old.script new.places new.disk.entries kept in subst (IsPlain old.disk.setup old.script) (sym begun) (plain-by fresh begun)

  pub is-faultless : IsFaultlessPlain old.disk.setup old.script new.disk.entries
  is-faultless =
      let (fresh, begun) = begins old.disk.setup old.script new.places new.disk.entries kept in
      subst (IsFaultlessPlain old.disk.setup old.script) (sym begun) (faultless old.disk.setup old.script.opening fresh old.script.roles (after-front old.script.opening fresh) (plain-by fresh begun))

-- the whole script was run
pub is-whole : (old mid new : DeskState) → Keeps new → KeepsScriptAndGates old mid → KeepsScriptAndGates mid new → RunsRounds old mid → CollectsRest mid new → RunsWholeScript old.disk.setup old.script new.disk.entries
is-whole old mid new keeps stays later rounds_ rest = record {
  places = new.places;
  keeps = rw (later.disk.setup, stays.disk.setup, later.script, stays.script) at keeps.script;
  over = subst (λ ps. AreOver old.script.roles (λ i. length (places_at ps i))) (sym rest.places) (subst (λ d. AreOver d.roles (done_of mid)) stays.script rounds_.over);
  collected = all-left new.disk.entries rest.none;
}

-- a run from the opening that stopped for want of memory
pub front : (old new : DeskState) → IsSetup old.disk.setup → IsLegal old.disk.setup old.disk.entries → Keeps old → StopsAfter old new → IsAtOpening old → IsPlainFront old.disk.setup old.script new.disk.entries
front old new is legal keeps stops at =
    let none : first_open old.disk.setup old.script.opening ≡ None = opening-drained old.disk.setup old.script old.places old.disk.entries keeps.script (rw at.entries at legal) in
    let leads : Leads old.disk.setup old.script.opening old.script.roles stops.between stops.lefts =
    subst (λ H. Leads old.disk.setup H old.script.roles stops.between stops.lefts) at.entries
    (subst (λ ls. Leads old.disk.setup old.disk.entries ls stops.between stops.lefts) (lefts-all (done_of old) 0 old.script.roles at.lines) stops.leads) in
    is-front old.disk.setup old.script stops.between stops.lefts new.disk.entries (lefts_of new) stops.count is none leads stops.within stops.takes
