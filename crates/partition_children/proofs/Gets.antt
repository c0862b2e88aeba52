-- A read that is served alone: its commands get its units in their order.
use Rattle.std.proofs.Common.{◌≡◌, ◌⊎◌, inl, inr, ℕ, zero, suc, ◌+◌, ◌<◌, ◌≤◌, Bool, true, false, not, ◌&&◌, nat_eq, List, [], ◌∷◌, ◌++◌, slice_get, map, filter, find, Option, None, Some, option_map, refl, sym, ◌∙◌, ap, subst, arith}
use Rattle.std.specs.Prelude.{reverse}
use Rattle.std.proofs.lemmas.Bool.{eq-eqb, ne_eqb, both_ways, eqb-true}
use Rattle.std.proofs.lemmas.List.{append_assoc, map-append, reverse-append}
use Rattle.efi_status.specs.declared.Status.{Status}
use Rattle.efi_status.specs.declared.Status.TheVariants.{DeviceError}
use Rattle.disk_split.specs.declared.span.Span.{Span}
use Rattle.disk_split.specs.Units.{units_of}
use Rattle.history.specs.declared.entry.View.{View}
use Rattle.history.specs.declared.entry.Kind.TheVariants.{Read}
use Rattle.history.specs.declared.entry.UnitKind.TheVariants.{Bytes}
use Rattle.history.specs.declared.entry.Command.TheVariants.{Get}
use Rattle.history.specs.declared.entry.Entry.{Entry}
use Rattle.history.specs.declared.entry.Entry.TheVariants.{Accept, Done, Fault}
use Rattle.history.specs.Setup.{Setup, IsSetup}
use Rattle.history.specs.Eras.{is_fault}
use Rattle.history.specs.Tokens.{Request, token_count, request, from_of, until_of}
use Rattle.history.specs.Marks.{mark_of, IsOutstanding}
use Rattle.history.specs.Rules.{IsLegal, MayFollow}
use Rattle.history.specs.Tasks.{Task, Moves, Todo, tasks_of, units_left, is_runnable, first_runnable}
use Rattle.history.specs.Next.{first_open, Turn, Outcome, Made, Failed, entry_of, next_turn}
use Rattle.history.specs.Room.{is_command_of}
use Rattle.history_laws.specs.Pending.{todo_at, todos_of, is_todo_of, IsBefore, Ordered}
use Rattle.history_laws.specs.Turns.{turn_of_todo}
use Rattle.history_laws.specs.Units.{IsUnitCommand}
use Rattle.history_laws.proofs.ClosedLemmas.{while-request}
use Rattle.history_laws.proofs.EndLemmas.{mark-fault}
use Rattle.history_laws.proofs.FinishLemmas.{pending-accept, pending-finish}
use Rattle.history_laws.proofs.NextLemmas.{first-open-fails}
use Rattle.history_laws.proofs.OrderLemmas.{pending-ordered}
use Rattle.history_laws.proofs.PendingLemmas.{IsPending, filter-everything, get-mapped, pending-is}
use Rattle.history_laws.proofs.PlainLemmas.{turn-request}
use Rattle.history_laws.proofs.RunnableLemmas.{next-runnable}
use Rattle.history_laws.proofs.TaskLemmas.{task-unit}
use Rattle.history_laws.specs.Serving.{AreWhileOpen, AreOwnInOrder, Continues, ends_in_fault}
use Rattle.partition_children.specs.Entries.{get_of, read_asked}

-- each of these is a done get of the token
abbrev pub AreGets : ℕ → List Entry → Type 0
AreGets t [] = Unit {0}
AreGets t (e ∷ cs) = ((u : Span) × (e ≡ get_of t u)) × AreGets t cs

-- the first one stands before the others
ordered-first : (d : Todo) (ds : List Todo) → Ordered IsBefore (d ∷ ds) → (k : ℕ) (x : Todo) → slice_get ds k ≡ Some x → IsBefore d x
unfolding Ordered
ordered-first d ds (first, more) = first

module _ (S : Setup) (H : List Entry) (t : ℕ) (view : View) (read : ℕ × ℕ) (is : IsSetup S) where
  abbrev q : Request
  q = record { tag = 0; view = view; asked = read_asked read; bytes = [] }

  abbrev todo : Span → Todo
  todo u = record { token = t; kind = Read; task = Moves u }

  abbrev units : List Span
  units = units_of S.geometry (from_of S q) (until_of S q)

  -- the first units were got, and these are left
  pub record Got (cs : List Entry) (rest : List Span) : Type 0 where
    pub front : List Span
    pub commands : cs ≡ reverse (map (get_of t) front)
    pub units_are : units ≡ front ++ rest
    pub gets : AreGets t cs
    pub left : units_left S (cs ++ H) ≡ map todo rest

  -- what is told of the request
  module _ (named : request H t ≡ Some q) where
    -- the turn of the first unit that is left
    turn-by : (G : List Entry) (rest : List Span) → IsLegal S G → units_left S G ≡ map todo rest
        → next_turn S G ≡ option_map (turn_of_todo G) (find (is_runnable (λ b. false) true) (map todo rest))
    unfolding first_runnable
    turn-by G rest legal left =
        next-runnable S G (λ b. false) is legal (λ b. refl) ∙ ap (λ ts. option_map (turn_of_todo G) (find (is_runnable (λ b. false) true) ts)) left

    pub next-unit : (G : List Entry) (rest : List Span) (turn : Turn) → IsLegal S G → units_left S G ≡ map todo rest → next_turn S G ≡ Some turn
        → (u : Span) × (more : List Span) × (rest ≡ u ∷ more) × (turn ≡ record { token = t; command = Get u.block u.count })
    next-unit G [] turn legal left next = let none : next_turn S G ≡ None = turn-by G [] legal left in absurd cc
    next-unit G (u ∷ rest) turn legal left next =
        let some : next_turn S G ≡ Some (record { token = t; command = Get u.block u.count }) = turn-by G (u ∷ rest) legal left in
        (u, rest, refl, cc)

    -- a unit that is left is a unit of the read
    unit-left : (cs : List Entry) (u : Span) (rest : List Span) → AreWhileOpen S H t cs → units_left S (cs ++ H) ≡ map todo (u ∷ rest) → IsUnitCommand S q (Get u.block u.count) u
    unit-left cs u rest all left =
        let (r, is_left) = pending-is S (cs ++ H) 0 (todo u) (ap (λ xs. slice_get xs 0) left) in
        let same : r ≡ q = same-request r (sym is_left.named ∙ (while-request S t H cs t all ∙ named)) in
        record {
          unit = task-unit S q is_left.place u is (subst (λ (x : Request). slice_get (tasks_of S x) is_left.place ≡ Some (Moves u)) same is_left.listed);
          block = refl;
          count = refl;
          kind = refl;
        }
      where
        same-request : (r : Request) → Some r ≡ Some q → r ≡ q
        same-request r e = cc

    -- the others stay
    others-stay : (u : Span) (rest : List Span) → ((k : ℕ) (d : Todo) → slice_get (map todo rest) k ≡ Some d → IsBefore (todo u) d)
        → filter (λ d. not (is_todo_of t u d)) (map todo (u ∷ rest)) ≡ map todo rest
    others-stay u rest before =
        rw (eq-eqb t t refl, eq-eqb u.low u.low refl)
        (filter-everything (λ d. not (is_todo_of t u d)) (map todo rest) (λ k d there. each k d there (get-mapped todo rest k d there) (before k d there)))
      where
        each : (k : ℕ) (d : Todo) → slice_get (map todo rest) k ≡ Some d → (v : Span) × (slice_get rest k ≡ Some v) × (todo v ≡ d) → IsBefore (todo u) d → not (is_todo_of t u d) ≡ true
        each k d there (v, at, same) lower = subst (λ (x : Todo). not (is_todo_of t u x) ≡ true) same (other v (subst (λ (x : Todo). IsBefore (todo u) x) (sym same) lower))
          where
            other : (v : Span) → IsBefore (todo u) (todo v) → not (nat_eq t t && nat_eq v.low u.low) ≡ true
            other v (inl less) = absurd (omega arith)
            other v (inr (same, less)) = rw (eq-eqb t t refl, ne_eqb v.low u.low (λ e. omega arith)) refl

    -- one more unit was got
    got-more : (cs : List Entry) (u : Span) (rest : List Span) → AreWhileOpen S H t cs → Got cs (u ∷ rest) → IsLegal S (Done t (Get u.block u.count) ∷ (cs ++ H))
        → Got (Done t (Get u.block u.count) ∷ cs) rest
    got-more cs u rest all got legal = record {
      front = got.front ++ u ∷ [];
      commands = ap (λ xs. get_of t u ∷ xs) got.commands ∙ sym (ap reverse (map-append (get_of t) got.front (u ∷ [])) ∙ reverse-append (map (get_of t) got.front) (get_of t u ∷ []));
      units_are = got.units_are ∙ sym (append_assoc got.front (u ∷ []) rest);
      gets = ((u, refl), got.gets);
      left = pending-finish S (cs ++ H) t (Get u.block u.count) q u is legal (while-request S t H cs t all ∙ named) (unit-left cs u rest all got.left) refl
          ∙ (ap (filter (λ d. not (is_todo_of t u d))) got.left ∙ others-stay u rest (ordered-first (todo u) (map todo rest) (subst (Ordered IsBefore) got.left (pending-ordered S (cs ++ H) is))));
    }

    -- before a token ended none of its commands failed
    pub open-sound : (cs : List Entry) → AreWhileOpen S H t cs → AreOwnInOrder S t q cs → IsOutstanding S (cs ++ H) t → ends_in_fault cs ≡ false
    unfolding AreWhileOpen AreOwnInOrder
    open-sound [] all own open_ = refl
    open-sound (e ∷ cs) (next, all) (own, behind, owns) open_ = by next.turn next.outcome next.entry
      where
        by : (turn : Turn) (outcome : Outcome) → e ≡ entry_of turn outcome → is_fault e ≡ false
        by turn Made same = rw same refl
        by turn (Failed done) same =
            let token : turn.token ≡ t = eqb-true turn.token t (rw same at own) in
            let failed : mark_of S (Fault t turn.command done ∷ (cs ++ H)) t ≡ Some DeviceError = mark-fault S (cs ++ H) t turn.command done next.outstanding.unmarked in
            let unmarked : mark_of S (Fault turn.token turn.command done ∷ (cs ++ H)) t ≡ None = subst (λ (x : Entry). mark_of S (x ∷ (cs ++ H)) t ≡ None) same open_.unmarked in
            let clash : None ≡ Some DeviceError = sym (subst (λ (n : ℕ). mark_of S (Fault n turn.command done ∷ (cs ++ H)) t ≡ None) token unmarked) ∙ failed in
            cc

    -- commands of which none failed got the first units
    pub got-all : (cs : List Entry) → units_left S H ≡ map todo units → AreWhileOpen S H t cs → AreOwnInOrder S t q cs → IsLegal S (cs ++ H) → ends_in_fault cs ≡ false → (rest : List Span) × Got cs rest
    unfolding AreWhileOpen AreOwnInOrder IsLegal
    got-all [] first all own legal sound = (units, record { front = []; commands = refl; units_are = refl; gets = tt; left = first })
    got-all (e ∷ cs) first (next, all) (own, behind, owns) (legal, may) sound =
        let (rest, got) = got-all cs first all owns legal (open-sound cs all owns next.outstanding) in
        let (u, more, same, turn_is) = next-unit (cs ++ H) rest next.turn legal got.left next.next in
        by u more next.outcome (subst (λ (xs : List Span). Got cs xs) same got) (next.entry ∙ ap (λ (v : Turn). entry_of v next.outcome) turn_is)
      where
        by : (u : Span) (more : List Span) (outcome : Outcome) → Got cs (u ∷ more) → e ≡ entry_of (record { token = t; command = Get u.block u.count }) outcome → (rest : List Span) × Got (e ∷ cs) rest
        by u more Made got same =
            (more, subst (λ (x : Entry). Got (x ∷ cs) more) (sym same) (got-more cs u more all got (subst (λ (x : Entry). IsLegal S (x ∷ (cs ++ H))) same (legal, may))))
        by u more (Failed done) got same = let fails : is_fault e ≡ true = rw same refl in absurd (both_ways (is_fault e) sound fails)

    -- nothing is left of a token that has ended
    pub got-whole : (cs : List Entry) (rest : List Span) (status : Status) → Got cs rest → mark_of S (cs ++ H) t ≡ Some status → rest ≡ []
    got-whole cs [] status got ended = refl
    got-whole cs (u ∷ rest) status got ended =
        let (r, left) = pending-is S (cs ++ H) 0 (todo u) (ap (λ xs. slice_get xs 0) got.left) in
        let clash : None ≡ Some status = sym left.outstanding.unmarked ∙ ended in
        absurd cc
