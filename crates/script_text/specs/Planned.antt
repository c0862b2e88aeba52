-- What lines plan: disks in order, each with its spares and with its clients and their lines in order (own profile).
use Rattle.std.specs.Prelude.{ℕ, ◌+◌, Bool, true, false, not, ◌&&◌, ◌||◌, ◌==◌, nat_le, nat_lt, if◌then◌else◌, List, [], ◌∷◌, ◌++◌, length, sum_by, bytes_eq, Option, Some, None, Result, Ok, Err}
use Rattle.std.specs.List.{list_any}
use Rattle.history.specs.declared.order.Order.{Order}
use Rattle.history.specs.declared.order.Order.TheVariants.{Request, Wait, Cancel, Reset, Eject, Insert, Protect}
use Rattle.medium.specs.Device.{is_block_size}
use Rattle.script_text.specs.declared.language.refusal.Reason.{Reason}
use Rattle.script_text.specs.declared.language.refusal.Reason.TheVariants.{Name, Medium, Limit}
use Rattle.script_text.specs.declared.language.refusal.Reason.TheVariants as why
use Rattle.script_text.specs.declared.language.line.Flags.{Flags}
use Rattle.script_text.specs.declared.language.line.Line.{Line}
use Rattle.script_text.specs.declared.language.line.Line.TheVariants.{Disk, Spare, Client, Asks}
use Rattle.script_text.specs.declared.language.plans.DiskPlan.{DiskPlan}
use Rattle.script_text.specs.declared.language.plans.ClientPlan.{ClientPlan}
use Rattle.script_text.specs.Limits.{most_request_bytes, most_requested_bytes, most_name_bytes, most_disks, most_media, most_clients, most_workers}
use Rattle.script_text.specs.Last.{on_last, last_is, has_some}

-- a disk on which no spare and no client was planned yet
abbrev pub new_disk : List ℕ → ℕ → ℕ → Flags → DiskPlan
new_disk image size workers flags = record {
  image = image;
  size = size;
  workers = workers;
  cached = flags.cached;
  protected = flags.protected;
  physical = flags.physical;
  spares = [];
  clients = [];
}

-- a client for which no line was planned yet
abbrev pub new_client : Option ℕ → ℕ → ClientPlan
new_client part number = record { part = part; line = number; orders = [] }

abbrev pub add_spare : List ℕ → DiskPlan → DiskPlan
add_spare image disk = record disk { spares = disk.spares ++ image ∷ [] }

abbrev pub add_client : ClientPlan → DiskPlan → DiskPlan
add_client client disk = record disk { clients = disk.clients ++ client ∷ [] }

abbrev pub add_order : Order → ClientPlan → ClientPlan
add_order one client = record client { orders = client.orders ++ one ∷ [] }

abbrev pub add_last_order : Order → DiskPlan → DiskPlan
add_last_order one disk = record disk { clients = on_last (add_order one) disk.clients }

-- the last disk has a client
abbrev pub has_client : List DiskPlan → Bool
has_client plans = last_is (λ disk. has_some disk.clients) plans

-- a disk has this image
abbrev pub is_image_of : List ℕ → DiskPlan → Bool
is_image_of image disk = bytes_eq disk.image image || list_any (λ spare. bytes_eq spare image) disk.spares

-- some disk has it
abbrev pub has_image : List ℕ → List DiskPlan → Bool
has_image image plans = list_any (is_image_of image) plans

-- an image's name is short, and stands nowhere yet
abbrev pub is_new_name : List ℕ → List DiskPlan → Bool
is_new_name image plans = nat_le (length image) most_name_bytes && not (has_image image plans)

-- the bytes that a line asks for
abbrev pub asked_bytes : Order → ℕ
asked_bytes (Request asked payload media_id) = asked.length
asked_bytes Wait = 0
asked_bytes (Cancel media_id) = 0
asked_bytes Reset = 0
asked_bytes Eject = 0
asked_bytes Insert = 0
asked_bytes (Protect on) = 0

abbrev pub client_bytes : ClientPlan → ℕ
client_bytes client = sum_by asked_bytes client.orders

abbrev pub disk_bytes : DiskPlan → ℕ
disk_bytes disk = sum_by client_bytes disk.clients

-- the bytes that all lines ask for
unfoldable pub total_asked_bytes : List DiskPlan → ℕ
total_asked_bytes plans = sum_by disk_bytes plans

-- how many lines the clients of a disk have, and those of all disks
abbrev pub client_lines : ClientPlan → ℕ
client_lines client = length client.orders

abbrev pub disk_lines : DiskPlan → ℕ
disk_lines disk = sum_by client_lines disk.clients

unfoldable pub planned_lines : List DiskPlan → ℕ
planned_lines plans = sum_by disk_lines plans

-- a group has 1, 2, 4 or 8 blocks
abbrev pub is_group_size : ℕ → Bool
is_group_size n = n == 1 || n == 2 || n == 4 || n == 8

-- a further disk
unfoldable pub planned_disk : List DiskPlan → List ℕ → ℕ → ℕ → Flags → Result (List DiskPlan) Reason
planned_disk plans image size workers flags =
    if not (is_new_name image plans) then Err Name
    else if is_block_size size && nat_le 1 workers && nat_le workers most_workers && is_group_size flags.physical && nat_lt (length plans) most_disks
    then Ok (plans ++ new_disk image size workers flags ∷ [])
    else Err Limit

-- the last disk has room for a medium
abbrev pub has_medium_room : List DiskPlan → Bool
has_medium_room plans = last_is (λ disk. nat_lt (length disk.spares + 1) most_media) plans

-- a further medium of the last disk, before its first client
unfoldable pub planned_spare : List DiskPlan → List ℕ → Result (List DiskPlan) Reason
planned_spare plans image =
    if not (has_some plans) || has_client plans then Err why.Order
    else if not (is_new_name image plans) then Err Name
    else if has_medium_room plans then Ok (on_last (add_spare image) plans)
    else Err Limit

-- the last disk has room for a client
abbrev pub has_client_room : List DiskPlan → Bool
has_client_room plans = last_is (λ disk. nat_lt (length disk.clients) most_clients) plans

-- a further client of the last disk, begun by the line of this number
unfoldable pub planned_client : ℕ → List DiskPlan → Option ℕ → Result (List DiskPlan) Reason
planned_client number plans part =
    if not (has_some plans) then Err why.Order
    else if has_client_room plans then Ok (on_last (add_client (new_client part number)) plans)
    else Err Limit

abbrev pub is_whole : Option ℕ → Bool
is_whole None = true
is_whole (Some part) = false

-- the last client of a disk is on the whole of it, and the disk has medium k
abbrev pub takes_mark : ℕ → DiskPlan → Bool
takes_mark k disk = last_is (λ client. is_whole client.part) disk.clients && nat_le 1 k && nat_le k (length disk.spares + 1)

-- a last word `@K` may stand there
abbrev pub is_well_aimed : List DiskPlan → Option ℕ → Bool
is_well_aimed plans None = true
is_well_aimed plans (Some k) = last_is (takes_mark k) plans

-- so many bytes may be asked for
abbrev pub has_room : List DiskPlan → ℕ → Bool
has_room plans n = nat_le n most_request_bytes && nat_le (total_asked_bytes plans + n) most_requested_bytes

-- a further line of the last client
unfoldable pub planned_order : List DiskPlan → Order → Option ℕ → Result (List DiskPlan) Reason
planned_order plans one mark =
    if not (has_client plans) then Err why.Order
    else if not (is_well_aimed plans mark) then Err Medium
    else if has_room plans (asked_bytes one) then Ok (on_last (add_last_order one) plans)
    else Err Limit

-- the plans behind the line of this number
unfoldable pub plans_behind : ℕ → List DiskPlan → Line → Result (List DiskPlan) Reason
plans_behind number plans (Disk image size workers flags) = planned_disk plans image size workers flags
plans_behind number plans (Spare image) = planned_spare plans image
plans_behind number plans (Client part) = planned_client number plans part
plans_behind number plans (Asks one mark) = planned_order plans one mark
