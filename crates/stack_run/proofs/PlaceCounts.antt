-- No more requests are accepted than the clients have lines.
use Rattle.std.proofs.Common.{◌≡◌, ℕ, zero, suc, ◌+◌, ◌<◌, ◌≤◌, Bool, true, false, nat_eq, List, [], ◌∷◌, length, sum_by, slice_get, Option, None, Some, refl, sym, ap, subst, arith, inl, inr, length-append}
use Rattle.std.proofs.lemmas.Bool.{eq-eqb, ne_eqb, cases_eq}
use Rattle.std.proofs.lemmas.List.Sums.{sum_by-cons}
use Rattle.std.proofs.lemmas.Option.{slice_get_within}
use Rattle.history.specs.declared.entry.Entry.{Entry}
use Rattle.history.specs.declared.entry.Entry.TheVariants.{Accept, Refuse, Done, Fault, Collect, Cancel, Reset, Eject, Insert, Protect}
use Rattle.history.specs.Setup.{Setup}
use Rattle.history.specs.Tokens.{is_accept, token_count}
use Rattle.history_laws.proofs.CountLemmas.{accepted-more, accepted-same}
use Rattle.shared_disk.specs.Lines.{Role, with_line_entry}
use Rattle.shared_disk.specs.Script.{Script, Deed, Enters, Does, entries_by, places_by, with_place, MayComeNext, Follows, KeepsScript}
use Rattle.script_text.specs.declared.language.plans.ClientPlan.{ClientPlan}
use Rattle.script_text.specs.Planned.{client_lines}
use Rattle.partition_tables.specs.declared.table.Child.{Child}
use Rattle.stack_run.specs.Clients.{role_in, script_roles}

-- how many lines the clients from i on have done
abbrev places_from : List Entry → List Deed → ℕ → List Role → ℕ
places_from opening log i [] = 0
places_from opening log i (role ∷ more) = length (places_by opening log i) + places_from opening log (i + 1) more

-- a line that is done is one more of its client, and none of another
placed : (b : Bool) (n : ℕ) (places : List ℕ) → length places ≤ length (with_place b n places)
placed true n places = omega (arith, length-append places (n ∷ []))
placed false n places = omega arith

more-there : (opening : List Entry) (log : List Deed) (j : ℕ) (e : Option Entry) (i : ℕ) → length (places_by opening log i) ≤ length (places_by opening (Does j e ∷ log) i)
unfolding places_by
more-there opening log j e i = placed (nat_eq j i) (length (entries_by opening log)) (places_by opening log i)

one-there : (opening : List Entry) (log : List Deed) (j : ℕ) (e : Option Entry) → length (places_by opening (Does j e ∷ log) j) ≡ length (places_by opening log j) + 1
unfolding places_by
one-there opening log j e = rw (eq-eqb j j refl) (length-append (places_by opening log j) (length (entries_by opening log) ∷ []))

same-there : (opening : List Entry) (log : List Deed) (j : ℕ) (e : Option Entry) (i : ℕ) → (j ≡ i → ⊥) → places_by opening (Does j e ∷ log) i ≡ places_by opening log i
unfolding places_by
same-there opening log j e i other = rw (ne_eqb j i other) refl

more-from : (opening : List Entry) (log : List Deed) (j : ℕ) (e : Option Entry) (i : ℕ) (roles : List Role) → places_from opening log i roles ≤ places_from opening (Does j e ∷ log) i roles
more-from opening log j e i [] = omega arith
more-from opening log j e i (role ∷ more) = omega (arith, more-there opening log j e i, more-from opening log j e (i + 1) more)

one-from : (opening : List Entry) (log : List Deed) (e : Option Entry) (i k : ℕ) (roles : List Role) → k < length roles → places_from opening log i roles + 1 ≤ places_from opening (Does (i + k) e ∷ log) i roles
one-from opening log e i k [] inside = absurd (omega (arith, inside))
one-from opening log e i zero (role ∷ more) inside =
    let at : i ≡ i + 0 = omega arith in
    subst (λ j. places_from opening log i (role ∷ more) + 1 ≤ places_from opening (Does j e ∷ log) i (role ∷ more)) at
    (omega (arith, one-there opening log i e, more-from opening log i e (i + 1) more))
one-from opening log e i (suc k) (role ∷ more) inside =
    let at : (i + 1) + k ≡ i + suc k = omega arith in
    subst (λ j. places_from opening log i (role ∷ more) + 1 ≤ places_from opening (Does j e ∷ log) i (role ∷ more)) at
    (omega (arith, more-there opening log ((i + 1) + k) e i, one-from opening log e (i + 1) k more (omega (arith, inside))))

enters-from : (opening : List Entry) (log : List Deed) (e : Entry) (i : ℕ) (roles : List Role) → places_from opening (Enters e ∷ log) i roles ≡ places_from opening log i roles
unfolding places_by
enters-from opening log e i [] = refl
enters-from opening log e i (role ∷ more) = ap (λ n. length (places_by opening log i) + n) (enters-from opening log e (i + 1) more)

-- an entry that is no line's accepts nothing
no-accept : (S : Setup) (d : Script) (H : List Entry) (done : ℕ → ℕ) (e : Entry) → MayComeNext S d H done e → token_count (e ∷ H) ≡ token_count H
no-accept S d H done (Accept tag view asked bytes) may = absurd may
no-accept S d H done (Refuse tag view asked media_id status) may = absurd may
no-accept S d H done (Done t c) may = accepted-same H (Done t c) refl
no-accept S d H done (Fault t c n) may = accepted-same H (Fault t c n) refl
no-accept S d H done (Collect tag t) may = accepted-same H (Collect tag t) refl
no-accept S d H done (Cancel tag view) may = absurd may
no-accept S d H done (Reset tag) may = absurd may
no-accept S d H done (Eject tag) may = absurd may
no-accept S d H done (Insert tag media_id) may = absurd may
no-accept S d H done (Protect tag on) may = absurd may

one-accept : (e : Option Entry) (H : List Entry) → token_count (with_line_entry e H) ≤ token_count H + 1
one-accept None H = omega arith
one-accept (Some e) H = by (is_accept e) refl
  where
    by : (b : Bool) → is_accept e ≡ b → token_count (e ∷ H) ≤ token_count H + 1
    by true is = omega (arith, accepted-more H e is)
    by false is = omega (arith, accepted-same H e is)

accepted-places : (S : Setup) (d : Script) (log : List Deed) → Follows S d log → token_count (entries_by d.opening log) ≤ token_count d.opening + places_from d.opening log 0 d.roles
unfolding Follows entries_by
accepted-places S d [] follows = omega arith
accepted-places S d (Enters e ∷ log) follows =
    omega (arith, accepted-places S d log follows.0, no-accept S d (entries_by d.opening log) _ e follows.1, enters-from d.opening log e 0 d.roles)
accepted-places S d (Does i e ∷ log) follows =
    let inside : i < length d.roles = slice_get_within d.roles i follows.1.role follows.1.client in
    let at : 0 + i ≡ i = omega arith in
    let one : places_from d.opening log 0 d.roles + 1 ≤ places_from d.opening (Does i e ∷ log) 0 d.roles = subst (λ j. places_from d.opening log 0 d.roles + 1 ≤ places_from d.opening (Does j e ∷ log) 0 d.roles) at (one-from d.opening log e 0 i d.roles inside) in
    omega (arith, accepted-places S d log follows.0, one-accept e (entries_by d.opening log), one)

-- a client does no more lines than it has
same-entered : (opening : List Entry) (log : List Deed) (e : Entry) (i : ℕ) → places_by opening (Enters e ∷ log) i ≡ places_by opening log i
unfolding places_by
same-entered opening log e i = refl

none-placed : (opening : List Entry) (i : ℕ) → length (places_by opening [] i) ≡ 0
unfolding places_by
none-placed opening i = refl

few-places : (S : Setup) (d : Script) (log : List Deed) (i : ℕ) (role : Role) → Follows S d log → slice_get d.roles i ≡ Some role → length (places_by d.opening log i) ≤ length role.orders
unfolding Follows
few-places S d [] i role follows there = omega (arith, none-placed d.opening i)
few-places S d (Enters e ∷ log) i role follows there = omega (arith, ap length (same-entered d.opening log e i), few-places S d log i role follows.0 there)
few-places S d (Does j e ∷ log) i role follows there = elim (cases_eq j i) [
  | inl same ↦
      (let client : slice_get d.roles i ≡ Some follows.1.role = subst (λ k. slice_get d.roles k ≡ Some follows.1.role) same follows.1.client in
      let is : follows.1.role ≡ role = cc in
      let inside = slice_get_within follows.1.role.orders (length (places_by d.opening log j)) follows.1.order follows.1.next in
      subst (λ k. length (places_by d.opening (Does j e ∷ log) k) ≤ length role.orders) same
      (omega (arith, one-there d.opening log j e, inside, ap (λ (r : Role). length r.orders) is)))
  | inr other ↦ subst (λ l. length l ≤ length role.orders) (sym (same-there d.opening log j e i other)) (few-places S d log i role follows.0 there)
]

few-from : (opening : List Entry) (log : List Deed) (i : ℕ) (roles : List Role) → ((k : ℕ) (role : Role) → slice_get roles k ≡ Some role → length (places_by opening log (i + k)) ≤ length role.orders) → places_from opening log i roles ≤ sum_by (λ (role : Role). length role.orders) roles
few-from opening log i [] each = omega arith
few-from opening log i (role ∷ more) each =
    let here : i + 0 ≡ i = omega arith in
    let first : length (places_by opening log i) ≤ length role.orders = subst (λ n. length (places_by opening log n) ≤ length role.orders) here (each 0 role refl) in
    let rest = few-from opening log (i + 1) more (λ k r there. let next : i + suc k ≡ (i + 1) + k = omega arith in subst (λ n. length (places_by opening log n) ≤ length r.orders) next (each (suc k) r there)) in
    omega (arith, first, rest, sum_by-cons (λ (r : Role). length r.orders) role more)

accepted-few : (S : Setup) (d : Script) (places : List (List ℕ)) (H : List Entry) → KeepsScript S d places H → token_count H ≤ token_count d.opening + sum_by (λ (role : Role). length role.orders) d.roles
accepted-few S d places H keeps =
    let most = accepted-places S d keeps.log keeps.follows in
    let few = few-from d.opening keeps.log 0 d.roles (λ k role there. let at : k ≡ 0 + k = omega arith in subst (λ n. length (places_by d.opening keeps.log n) ≤ length role.orders) at (few-places S d keeps.log k role keeps.follows there)) in
    omega (arith, most, few, ap token_count keeps.history)

lines-same : (size : ℕ) (children : List Child) (clients : List ClientPlan) → sum_by (λ (role : Role). length role.orders) (script_roles size children clients) ≡ sum_by client_lines clients
lines-same size children [] = refl
lines-same size children (client ∷ more) =
    rw (sum_by-cons (λ (role : Role). length role.orders) (role_in size children client) (script_roles size children more), sum_by-cons client_lines client more, lines-same size children more) refl

-- no more than the lines of a disk, beside those of the opening
pub tokens-few : (S : Setup) (d : Script) (places : List (List ℕ)) (H : List Entry) (size : ℕ) (children : List Child) (clients : List ClientPlan) → KeepsScript S d places H → d.roles ≡ script_roles size children clients → token_count H ≤ token_count d.opening + sum_by client_lines clients
tokens-few S d places H size children clients keeps roles =
    omega (arith, accepted-few S d places H keeps, ap (sum_by (λ (role : Role). length role.orders)) roles, lines-same size children clients)
