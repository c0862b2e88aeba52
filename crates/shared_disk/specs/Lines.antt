-- What the lines of clients ask, and which entry each of them gives (own profile). A history stands newest entry first.
use Rattle.std.specs.Prelude.{ℕ, zero, suc, ◌++◌, ◌+◌, ◌&&◌, Bool, true, false, not, nat_eq, nat_lt, if◌then◌else◌, List, [], ◌∷◌, map, length, replicate, Option, None, Some, is_some}
use Rattle.efi_status.specs.declared.Status.{Status}
use Rattle.history.specs.declared.entry.View.{View}
use Rattle.history.specs.declared.entry.Asked.{Asked}
use Rattle.history.specs.declared.entry.Entry.{Entry}
use Rattle.history.specs.declared.entry.Entry.TheVariants.{Accept, Refuse, Cancel, Reset, Eject, Insert, Protect}
use Rattle.history.specs.declared.order.Order.{Order}
use Rattle.history.specs.declared.order.Order.TheVariants as order
use Rattle.history.specs.declared.order.Payload.{Payload}
use Rattle.history.specs.declared.order.Payload.TheVariants.{Given, Fill, Nothing}
use Rattle.history.specs.Setup.{Setup}
use Rattle.history.specs.Eras.{media_id_of, is_present}
use Rattle.history.specs.Tokens.{Request, token_count, request, was_collected}
use Rattle.history.specs.Marks.{first_from, has_view, is_outstanding}
use Rattle.history.specs.Rules.{refusal_of}
use Rattle.history.specs.Next.{first_open}
use Rattle.disk_io2.specs.Views.{whole_view}
use Rattle.shared_disk.specs.declared.clients.Stand.{Stand}
use Rattle.shared_disk.specs.declared.clients.Stand.TheVariants.{Whole, Child}
use Rattle.shared_disk.specs.declared.clients.Client.{Client}

-- a client as a schedule sees it: what its lines are for, and its lines in order
pub record Role : Type 0 where
  pub stand : Stand
  pub orders : List Order

abbrev pub role_of : Client → Role
role_of client = record { stand = client.stand; orders = client.orders.items }

abbrev pub roles_of : List Client → List Role
roles_of clients = map role_of clients

-- the view of a line that names medium k
abbrev pub view_of : Setup → Stand → ℕ → View
view_of S Whole k = whole_view S k
view_of S (Child view) k = view

-- the bytes that a line brings for a request of this length
abbrev pub payload_bytes : ℕ → Payload → List ℕ
payload_bytes n (Given bytes) = bytes
payload_bytes n (Fill b) = replicate n b
payload_bytes n Nothing = []

-- a request is accepted, or refused with a status; the media id is the one given
abbrev pub answer_of : ℕ → View → Asked → List ℕ → ℕ → Option Status → Entry
answer_of tag view asked bytes k None = Accept tag view asked bytes
answer_of tag view asked bytes k (Some status) = Refuse tag view asked k status

-- the entry of a request on medium k
abbrev pub request_entry : Setup → List Entry → ℕ → View → Asked → Payload → ℕ → Entry
request_entry S H tag view asked payload k = answer_of tag view asked (payload_bytes asked.length payload) k (refusal_of S H view asked k)

-- an outstanding token has this view
abbrev pub is_view_open : Setup → List Entry → View → Bool
is_view_open S H view = is_some (first_from (λ t. is_outstanding S H t && has_view view (request H t)) 0 (token_count H))

-- no medium is in, and a spare is left
abbrev pub is_insertable : Setup → List Entry → Bool
is_insertable S H = not (is_present H) && nat_lt (media_id_of H) (length S.media)

abbrev pub entry_if : Bool → Entry → Option Entry
entry_if true e = Some e
entry_if false e = None

-- the entry that a line gives at this history: a wait none, and a cancel, a reset, an eject and an insert where it may come
unfoldable pub line_entry : Setup → List Entry → ℕ → Stand → Order → Option Entry
line_entry S H tag stand (order.Request asked payload k) = Some (request_entry S H tag (view_of S stand k) asked payload k)
line_entry S H tag stand order.Wait = None
line_entry S H tag stand (order.Cancel k) = entry_if (is_view_open S H (view_of S stand k)) (Cancel tag (view_of S stand k))
line_entry S H tag stand order.Reset = entry_if (is_some (first_open S H)) (Reset tag)
line_entry S H tag stand order.Eject = entry_if (is_present H) (Eject tag)
line_entry S H tag stand order.Insert = entry_if (is_insertable S H) (Insert tag (media_id_of H + 1))
line_entry S H tag stand (order.Protect on) = Some (Protect tag on)

abbrev pub with_line_entry : Option Entry → List Entry → List Entry
with_line_entry None H = H
with_line_entry (Some e) H = e ∷ H

abbrev pub has_tag : ℕ → Option Request → Bool
has_tag tag None = false
has_tag tag (Some r) = nat_eq r.tag tag

-- the least outstanding token of this tag
unfoldable pub first_own_open : Setup → List Entry → ℕ → Option ℕ
first_own_open S H tag = first_from (λ t. is_outstanding S H t && has_tag tag (request H t)) 0 (token_count H)

-- the least of its tokens that was not collected
unfoldable pub first_own_left : List Entry → ℕ → Option ℕ
first_own_left H tag = first_from (λ t. not (was_collected H t) && has_tag tag (request H t)) 0 (token_count H)

-- the least of all tokens that was not collected
unfoldable pub first_left : List Entry → Option ℕ
first_left H = first_from (λ t. not (was_collected H t)) 0 (token_count H)

-- the tokens of this tag among the first n, in order of number
unfoldable pub own_before : List Entry → ℕ → ℕ → List ℕ
own_before H tag zero = []
own_before H tag (suc n) = if has_tag tag (request H n) then own_before H tag n ++ n ∷ [] else own_before H tag n
