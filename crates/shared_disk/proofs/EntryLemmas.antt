-- Which entry a line gives, by what the disk's calls answer.
use Rattle.std.proofs.Common.{◌≡◌, ◌∙◌, ℕ, zero, suc, ◌+◌, ◌<◌, ◌≤◌, Bool, false, ◌&&◌, List, length, slice_get, Option, None, Some, is_some, Result, Ok, Err, option_map, refl, ap, subst, arith}
use Rattle.std.proofs.lemmas.Bool.{lt-ltb, le-ltb}
use Rattle.history.specs.declared.entry.View.{View}
use Rattle.history.specs.declared.entry.Entry.{Entry}
use Rattle.history.specs.declared.entry.Entry.TheVariants.{Cancel, Reset, Eject, Insert, Protect}
use Rattle.history.specs.Setup.{Setup}
use Rattle.history.specs.Eras.{is_present, media_id_of}
use Rattle.history.specs.Tokens.{token_count, request, is_accept, is_collect_of}
use Rattle.history.specs.Marks.{first_from, has_view, is_outstanding}
use Rattle.history.specs.Next.{first_open}
use Rattle.history_laws.proofs.ClosedLemmas.{cancel-some, cancel-none, reset-some, reset-none}
use Rattle.history_laws.specs.Left.{end_count}
use Rattle.drive.specs.declared.answers.InsertFault.{InsertFault}
use Rattle.disk_core.specs.declared.answers.EjectRefused.{EjectRefused}
use Rattle.disk_core.specs.State.{State}
use Rattle.disk_core.specs.GoingOn.{GoesOn}
use Rattle.history.specs.declared.order.Order.{Order}
use Rattle.history.specs.declared.order.Order.TheVariants as order
use Rattle.history.specs.declared.order.Payload.{Payload}
use Rattle.history.specs.declared.entry.Asked.{Asked}
use Rattle.history.specs.Rules.{refusal_of}
use Rattle.disk_core.specs.declared.answers.Token.{Token}
use Rattle.shared_disk.specs.declared.clients.Stand.{Stand}
use Rattle.std.proofs.lemmas.Option.{slice_get-map}
use Rattle.shared_disk.specs.declared.clients.Client.{Client}
use Rattle.shared_disk.specs.Script.{MayDoLine, DoesNext}
use Rattle.shared_disk.specs.Desk.{is_accept_of}
use Rattle.disk_core.specs.Calls.{EndsBy, EndSays, EjectSays, InsertSays}
use Rattle.disk_core.proofs.GoingOn.{end_goes_on, eject_goes_on, insert_goes_on}
use Rattle.shared_disk.specs.declared.books.Books.{Books}
use Rattle.shared_disk.specs.Lines.{role_of, view_of, payload_bytes, answer_of, line_entry, entry_if, is_view_open, is_insertable}
use Rattle.shared_disk.specs.Inside.{roles_in, done_in, order_in, AreBooksOf, DoesOn, DoesOrder}
use Rattle.shared_disk.proofs.DoneLemmas.{revokes-same, does-nothing, does-entry}

module _ (old new : State) (b : Books) (sound : AreBooksOf old b) where
  does-ends : (e : Entry) (count : ℕ) → is_accept e ≡ false → ((t : ℕ) → is_collect_of t e ≡ false) → is_accept_of (Some e) ≡ false → EndsBy old e count new → GoesOn old new → DoesOn old b new b (Some e) None
  does-ends e count other none no_accept ends goes = does-entry old new b e sound other none no_accept ends.setup ends.entries ends.legal ends.devices ends.gates goes

  ends-none : (e : Entry) (count : ℕ) → EndSays old e count new → end_count old.setup old.entries e ≡ 0 → GoesOn old new → DoesOn old b new b None None
  unfolding EndSays
  ends-none e zero says none goes = does-nothing old new b sound says.1 goes
  ends-none e (suc n) ends none goes = absurd (omega (arith, ends.counted, none))

  ends-some : (e : Entry) (count : ℕ) → is_accept e ≡ false → ((t : ℕ) → is_collect_of t e ≡ false) → is_accept_of (Some e) ≡ false → EndSays old e count new → 1 ≤ end_count old.setup old.entries e → GoesOn old new → DoesOn old b new b (Some e) None
  unfolding EndSays
  ends-some e zero other none no_accept says some goes = absurd (omega (arith, says.0, some))
  ends-some e (suc n) other none no_accept ends some goes = does-ends e (suc n) other none no_accept ends goes

  pub does-cancel : (tag : ℕ) (view : View) (count : ℕ) → EndSays old (Cancel tag view) count new → DoesOn old b new b (entry_if (is_view_open old.setup old.entries view) (Cancel tag view)) None
  does-cancel tag view count says = by (first_from (λ t. is_outstanding old.setup old.entries t && has_view view (request old.entries t)) 0 (token_count old.entries)) refl
    where
      by : (o : Option ℕ) → first_from (λ t. is_outstanding old.setup old.entries t && has_view view (request old.entries t)) 0 (token_count old.entries) ≡ o → DoesOn old b new b (entry_if (is_view_open old.setup old.entries view) (Cancel tag view)) None
      by None none = rw none (ends-none (Cancel tag view) count says (cancel-none old.setup old.entries tag view none) (end_goes_on old new (Cancel tag view) count says))
      by (Some t) some = rw some (ends-some (Cancel tag view) count refl (λ t. refl) refl says (cancel-some old.setup old.entries tag view t some) (end_goes_on old new (Cancel tag view) count says))

  pub does-reset : (tag count : ℕ) → EndSays old (Reset tag) count new → DoesOn old b new b (entry_if (is_some (first_open old.setup old.entries)) (Reset tag)) None
  does-reset tag count says = by (first_open old.setup old.entries) refl
    where
      by : (o : Option ℕ) → first_open old.setup old.entries ≡ o → DoesOn old b new b (entry_if (is_some (first_open old.setup old.entries)) (Reset tag)) None
      by None none = rw none (ends-none (Reset tag) count says (reset-none old.setup old.entries tag none) (end_goes_on old new (Reset tag) count says))
      by (Some t) some = rw some (ends-some (Reset tag) count refl (λ t. refl) refl says (reset-some old.setup old.entries tag t some) (end_goes_on old new (Reset tag) count says))

  pub does-eject : (tag : ℕ) (result : Result ℕ EjectRefused) → EjectSays old tag result new → DoesOn old b new b (entry_if (is_present old.entries) (Eject tag)) None
  unfolding EjectSays
  does-eject tag (Ok count) says = rw (says.0) (does-ends (Eject tag) count refl (λ t. refl) refl says.1 (eject_goes_on old new tag (Ok count) says))
  does-eject tag (Err EjectRefused.NoMedia) says = rw (says.0) (does-nothing old new b sound says.1 (eject_goes_on old new tag (Err EjectRefused.NoMedia) says))

  pub does-insert : (tag : ℕ) (result : Result ℕ InsertFault) → InsertSays old tag result new → DoesOn old b new b (entry_if (is_insertable old.setup old.entries) (Insert tag (media_id_of old.entries + 1))) None
  unfolding InsertSays
  does-insert tag (Ok media_id) says =
      let lt : media_id_of old.entries < length old.setup.media = omega (arith, says.exists, says.next) in
      let is = says.new_is in
      rw (says.was_out, lt-ltb (media_id_of old.entries) (length old.setup.media) lt, ← says.next) (does-entry old new b (Insert tag media_id) sound refl (λ t. refl) refl (ap (λ (s : State). s.setup) is) (ap (λ (s : State). s.entries) is) says.legal
      (ap (λ (s : State). s.devices) is) (revokes-same old.gates new.gates (ap (λ (s : State). s.gates) is)) (insert_goes_on old new tag (Ok media_id) says))
  does-insert tag (Err InsertFault.Occupied) says = rw (says.0) (does-nothing old new b sound says.1 (insert_goes_on old new tag (Err InsertFault.Occupied) says))
  does-insert tag (Err InsertFault.NoSpare) says = rw (says.0, le-ltb (media_id_of old.entries) (length old.setup.media) says.1) (does-nothing old new b sound says.2 (insert_goes_on old new tag (Err InsertFault.NoSpare) says))

  pub does-protect : (tag : ℕ) (on : Bool) (count : ℕ) → EndsBy old (Protect tag on) count new → GoesOn old new → DoesOn old b new b (Some (Protect tag on)) None
  does-protect tag on count ends goes = does-ends (Protect tag on) count refl (λ t. refl) refl ends goes

-- the next line of a client, with the client
pub next-is : (S : Setup) (H : List Entry) (b : Books) (i : ℕ) (client : Client) (line : Order) → slice_get b.clients.items i ≡ Some client → order_in b i ≡ Some line → MayDoLine S H (i + 1) line
    → DoesNext S (roles_in b) H i (done_in b i) (line_entry S H (i + 1) client.stand line)
next-is S H b i client line at next may =
    let role : slice_get (roles_in b) i ≡ Some (role_of client) = slice_get-map role_of b.clients.items i ∙ ap (option_map role_of) at in
    record { role = role_of client; client = role; order = line; next = rw role at next; may = may; entry = refl }

pub order-done : (old new : State) (b b' : Books) (i : ℕ) (client : Client) (line : Order) (e : Option Entry) (token : Option Token) → slice_get b.clients.items i ≡ Some client → order_in b i ≡ Some line → MayDoLine old.setup old.entries (i + 1) line
    → e ≡ line_entry old.setup old.entries (i + 1) client.stand line → DoesOn old b new b' e token → DoesOrder old b i new b' token
order-done old new b b' i client line e token at next may is does = record {
  entry = line_entry old.setup old.entries (i + 1) client.stand line;
  next = next-is old.setup old.entries b i client line at next may;
  does = subst (λ x. DoesOn old b new b' x token) is does;
}

module _ (S : Setup) (H : List Entry) (i tag : ℕ) (stand : Stand) (tagged : tag ≡ i + 1) where
  pub entry-request : (asked asked' : Asked) (payload : Payload) (bytes : List ℕ) (k : ℕ) (view : View) → view ≡ view_of S stand k → asked' ≡ asked → bytes ≡ payload_bytes asked.length payload
      → Some (answer_of tag view asked' bytes k (refusal_of S H view asked' k)) ≡ line_entry S H (i + 1) stand (order.Request asked payload k)
  unfolding line_entry
  entry-request asked asked' payload bytes k view is same brings = rw (is, same, brings, tagged) refl

  pub entry-cancel : (k : ℕ) (view : View) → view ≡ view_of S stand k → entry_if (is_view_open S H view) (Cancel tag view) ≡ line_entry S H (i + 1) stand (order.Cancel k)
  unfolding line_entry
  entry-cancel k view is = rw (is, tagged) refl

  pub entry-reset : entry_if (is_some (first_open S H)) (Reset tag) ≡ line_entry S H (i + 1) stand order.Reset
  unfolding line_entry
  entry-reset = rw tagged refl

  pub entry-eject : entry_if (is_present H) (Eject tag) ≡ line_entry S H (i + 1) stand order.Eject
  unfolding line_entry
  entry-eject = rw tagged refl

  pub entry-insert : entry_if (is_insertable S H) (Insert tag (media_id_of H + 1)) ≡ line_entry S H (i + 1) stand order.Insert
  unfolding line_entry
  entry-insert = rw tagged refl

  pub entry-protect : (on : Bool) → Some (Protect tag on) ≡ line_entry S H (i + 1) stand (order.Protect on)
  unfolding line_entry
  entry-protect on = rw tagged refl
