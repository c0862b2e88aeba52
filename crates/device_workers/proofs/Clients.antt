-- What the kept script tells of a history: it begins with the opening, and each uncollected token is a client's.
use Rattle.std.proofs.Common.{◌≡◌, ◌≢◌, ℕ, ◌+◌, inl, inr, Bool, true, false, List, [], ◌∷◌, ◌++◌, Option, None, Some, is_some, refl, sym, ◌∙◌, ap, subst, arith}
use Rattle.std.proofs.lemmas.Bool.{cases_eq}
use Rattle.efi_status.specs.declared.Status.{Status}
use Rattle.history.specs.declared.entry.View.{View}
use Rattle.history.specs.declared.entry.Asked.{Asked}
use Rattle.history.specs.declared.entry.Entry.{Entry}
use Rattle.history.specs.declared.entry.Entry.TheVariants as entry
use Rattle.history.specs.declared.order.Order.{Order}
use Rattle.history.specs.declared.order.Order.TheVariants as order
use Rattle.history.specs.Eras.{is_present, media_id_of}
use Rattle.history.specs.Setup.{Setup}
use Rattle.history.specs.Tokens.{Request, is_accept, token_count, request, is_collect_of, was_collected}
use Rattle.history.specs.Rules.{IsLegal, refusal_of}
use Rattle.history.specs.Next.{first_open}
use Rattle.history_laws.proofs.NextLemmas.{first-open-none}
use Rattle.history_laws.proofs.OwingLemmas.{open-kept}
use Rattle.history_laws.proofs.TokenLemmas.{request-accept, request-kept, request-same, request-accepted, uncollected-before}
use Rattle.shared_disk.specs.declared.clients.Stand.{Stand}
use Rattle.shared_disk.specs.Lines.{view_of, payload_bytes, answer_of, is_view_open, is_insertable, entry_if, line_entry, with_line_entry}
use Rattle.shared_disk.specs.Script.{Script, Deed, Enters, Does, IsOpening, entries_by, MayComeNext, line_count_by, Follows, KeepsScript}

follows-opening : (S : Setup) (d : Script) (log : List Deed) → Follows S d log → IsOpening d.opening
unfolding Follows
follows-opening S d [] follows = follows
follows-opening S d (x ∷ log) follows = follows-opening S d log follows.0

-- an opening history has no outstanding token
pub opening-open : (S : Setup) (H : List Entry) → IsLegal S H → IsOpening H → first_open S H ≡ None
opening-open S H legal opening = first-open-none S H (λ t less unmarked. clash (was_collected H t) (opening.collected t less) (open-kept S H t legal unmarked))
  where
    clash : (b : Bool) → b ≡ true → b ≡ false → ⊥
    clash true is not_it = cc
    clash false is not_it = cc

pub opening-drained : (S : Setup) (d : Script) (places : List (List ℕ)) (H : List Entry) → KeepsScript S d places H → IsLegal S d.opening → first_open S d.opening ≡ None
opening-drained S d places H keeps legal = opening-open S d.opening legal (follows-opening S d keeps.log keeps.follows)

begins-by : (opening : List Entry) (log : List Deed) → (fresh : List Entry) × (entries_by opening log ≡ fresh ++ opening)
unfolding entries_by
begins-by opening [] = ([], refl)
begins-by opening (Enters e ∷ log) = let (fresh, is) = begins-by opening log in (e ∷ fresh, ap (λ H. e ∷ H) is)
begins-by opening (Does i None ∷ log) = begins-by opening log
begins-by opening (Does i (Some e) ∷ log) = let (fresh, is) = begins-by opening log in (e ∷ fresh, ap (λ H. e ∷ H) is)

-- the history begins with the opening
pub begins : (S : Setup) (d : Script) (places : List (List ℕ)) (H : List Entry) → KeepsScript S d places H → (fresh : List Entry) × (H ≡ fresh ++ d.opening)
begins S d places H keeps = let (fresh, is) = begins-by d.opening keeps.log in (fresh, sym keeps.history ∙ is)

-- each uncollected token of a history has a client's tag
abbrev pub IsClients : List Entry → Type 0
IsClients H = (t : ℕ) (q : Request) → request H t ≡ Some q → was_collected H t ≡ false → q.tag ≢ 0

-- so with one more entry that accepts nothing
pub clients-same : (H : List Entry) (e : Entry) → is_accept e ≡ false → IsClients H → IsClients (e ∷ H)
clients-same H e other clients t q named not_it = clients t q (sym (request-same H e t other) ∙ named) (uncollected-before H e t not_it)

clients-if : (H : List Entry) (b : Bool) (e : Entry) → is_accept e ≡ false → IsClients H → IsClients (with_line_entry (entry_if b e) H)
clients-if H true e other clients = clients-same H e other clients
clients-if H false e other clients = clients

-- and with one that accepts a request of a client
clients-accept : (H : List Entry) (i : ℕ) (view : View) (asked : Asked) (bytes : List ℕ) → IsClients H → IsClients (entry.Accept (i + 1) view asked bytes ∷ H)
clients-accept H i view asked bytes clients t q named not_it = elim (cases_eq t (token_count H)) [
  | inl same ↦
      let new : request (entry.Accept (i + 1) view asked bytes ∷ H) (token_count H) ≡ Some q = rw same at named in
      tag (sym (request-accept H (i + 1) view asked bytes) ∙ new)
  | inr other ↦ clients t q (sym (request-kept H (entry.Accept (i + 1) view asked bytes) t other) ∙ named) (uncollected-before H (entry.Accept (i + 1) view asked bytes) t not_it)
]
  where
    own : Some (record { tag = i + 1; view = view; asked = asked; bytes = bytes }) ≡ Some q → record { tag = i + 1; view = view; asked = asked; bytes = bytes } ≡ q
    own is = cc

    tag : Some (record { tag = i + 1; view = view; asked = asked; bytes = bytes }) ≡ Some q → q.tag ≢ 0
    tag is zero_ = let e : i + 1 ≡ q.tag = ap (λ (r : Request). r.tag) (own is) in absurd (omega (arith, e, zero_))

-- and with the entry of a client's line
pub clients-line : (S : Setup) (H : List Entry) (i : ℕ) (stand : Stand) (line : Order) → IsClients H → IsClients (with_line_entry (line_entry S H (i + 1) stand line) H)
unfolding line_entry
clients-line S H i stand (order.Request asked payload k) clients = by (refusal_of S H (view_of S stand k) asked k)
  where
    by : (refusal : Option Status) → IsClients (answer_of (i + 1) (view_of S stand k) asked (payload_bytes asked.length payload) k refusal ∷ H)
    by None = clients-accept H i (view_of S stand k) asked (payload_bytes asked.length payload) clients
    by (Some status) = clients-same H (entry.Refuse (i + 1) (view_of S stand k) asked k status) refl clients
clients-line S H i stand order.Wait clients = clients
clients-line S H i stand (order.Cancel k) clients = clients-if H (is_view_open S H (view_of S stand k)) (entry.Cancel (i + 1) (view_of S stand k)) refl clients
clients-line S H i stand order.Reset clients = clients-if H (is_some (first_open S H)) (entry.Reset (i + 1)) refl clients
clients-line S H i stand order.Eject clients = clients-if H (is_present H) (entry.Eject (i + 1)) refl clients
clients-line S H i stand order.Insert clients = clients-if H (is_insertable S H) (entry.Insert (i + 1) (media_id_of H + 1)) refl clients
clients-line S H i stand (order.Protect on) clients = clients-same H (entry.Protect (i + 1) on) refl clients

clients-enter : (S : Setup) (d : Script) (H : List Entry) (done : ℕ → ℕ) (e : Entry) → MayComeNext S d H done e → IsClients H → IsClients (e ∷ H)
clients-enter S d H done (entry.Done t c) may clients = clients-same H (entry.Done t c) refl clients
clients-enter S d H done (entry.Fault t c n) may clients = clients-same H (entry.Fault t c n) refl clients
clients-enter S d H done (entry.Collect tag t) may clients = clients-same H (entry.Collect tag t) refl clients
clients-enter S d H done (entry.Accept tag view asked bytes) may clients = absurd may
clients-enter S d H done (entry.Refuse tag view asked k status) may clients = absurd may
clients-enter S d H done (entry.Cancel tag view) may clients = absurd may
clients-enter S d H done (entry.Reset tag) may clients = absurd may
clients-enter S d H done (entry.Eject tag) may clients = absurd may
clients-enter S d H done (entry.Insert tag k) may clients = absurd may
clients-enter S d H done (entry.Protect tag on) may clients = absurd may

pub clients-none : (H : List Entry) → IsOpening H → IsClients H
clients-none H opening t q named not_it = absurd (clash (was_collected H t) (opening.collected t (request-accepted H t q named)) not_it)
  where
    clash : (b : Bool) → b ≡ true → b ≡ false → ⊥
    clash true is no_way = cc
    clash false is no_way = cc

clients-by : (S : Setup) (d : Script) (log : List Deed) → Follows S d log → IsClients (entries_by d.opening log)
unfolding Follows entries_by
clients-by S d [] opening = clients-none d.opening opening
clients-by S d (Enters e ∷ log) (follows, may) = clients-enter S d (entries_by d.opening log) (line_count_by d.opening log) e may (clients-by S d log follows)
clients-by S d (Does i o ∷ log) (follows, does) =
    subst (λ o'. IsClients (with_line_entry o' (entries_by d.opening log))) (sym does.entry) (clients-line S (entries_by d.opening log) i does.role.stand does.order (clients-by S d log follows))

pub clients-own : (S : Setup) (d : Script) (places : List (List ℕ)) (H : List Entry) → KeepsScript S d places H → (t : ℕ) (q : Request) → request H t ≡ Some q → was_collected H t ≡ false → q.tag ≢ 0
clients-own S d places H keeps t q named not_it = subst IsClients keeps.history (clients-by S d keeps.log keeps.follows) t q named not_it
