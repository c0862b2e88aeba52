-- What holds of the plans of a script (own profile).
use Rattle.std.specs.Prelude.{◌≡◌, ℕ, ◌+◌, ◌^◌, ◌<◌, ◌≤◌, Bool, true, List, [], ◌∷◌, ◌++◌, length, nat_le, ◌&&◌, bytes_eq}
use Rattle.std.specs.List.{list_all, IsDistinct}
use Rattle.history.specs.declared.entry.Asked.{Asked}
use Rattle.history.specs.declared.entry.Kind.{Kind}
use Rattle.history.specs.declared.entry.Kind.TheVariants.{Read, Write, Flush, Erase}
use Rattle.history.specs.declared.entry.UnitKind.{UnitKind}
use Rattle.history.specs.declared.entry.UnitKind.TheVariants.{Bytes, Blocks}
use Rattle.history.specs.declared.order.Order.{Order}
use Rattle.history.specs.declared.order.Order.TheVariants.{Request, Wait, Cancel, Reset, Eject, Insert, Protect}
use Rattle.history.specs.declared.order.Payload.{Payload}
use Rattle.history.specs.declared.order.Payload.TheVariants.{Given, Fill, Nothing}
use Rattle.history.specs.Rules.{IsWellAsked}
use Rattle.medium.specs.Device.{is_block_size}
use Rattle.script_text.specs.declared.language.plans.DiskPlan.{DiskPlan}
use Rattle.script_text.specs.declared.language.plans.ClientPlan.{ClientPlan}
use Rattle.script_text.specs.Limits.{most_request_bytes, most_requested_bytes, most_name_bytes, most_disks, most_media, most_clients, most_workers}
use Rattle.script_text.specs.Planned.{is_group_size, total_asked_bytes}

-- the bytes of a name: the printable ones without a space
abbrev pub is_name_byte : ℕ → Bool
is_name_byte b = nat_le 33 b && nat_le b 126

-- a name of an image
pub record IsName (name : List ℕ) : Type 0 where
  pub some : 0 < length name
  pub most : length name ≤ most_name_bytes
  pub printable : list_all is_name_byte name ≡ true

abbrev pub AreNames : List (List ℕ) → Type 0
AreNames [] = Unit {0}
AreNames (name ∷ more) = IsName name × AreNames more

-- the bytes that a request brings: those that a write names, or one of them so many times; a flush has no length
abbrev pub Brings : Kind → UnitKind → Payload → ℕ → Type 0
Brings Read units Nothing n = Unit {0}
Brings Write units (Given bytes) n = length bytes ≡ n
Brings Write Bytes (Fill b) n = Unit {0}
Brings Erase Blocks Nothing n = Unit {0}
Brings Flush Bytes Nothing n = n ≡ 0
Brings kind units payload n = ⊥

-- a request of a line
pub record IsRequest (asked : Asked) (payload : Payload) : Type 0 where
  pub at : asked.at < 2 ^ 64
  pub most : asked.length ≤ most_request_bytes
  pub brings : Brings asked.kind asked.unit payload asked.length
  pub well_asked : IsWellAsked asked

-- one of so many media
abbrev pub IsMedium : ℕ → ℕ → Type 0
IsMedium media k = (1 ≤ k) × (k ≤ media)

-- a line of a client of a disk with so many media
abbrev pub IsOrder : ℕ → Order → Type 0
IsOrder media (Request asked payload k) = IsRequest asked payload × IsMedium media k
IsOrder media Wait = Unit {0}
IsOrder media (Cancel k) = IsMedium media k
IsOrder media Reset = Unit {0}
IsOrder media Eject = Unit {0}
IsOrder media Insert = Unit {0}
IsOrder media (Protect on) = Unit {0}

unfoldable pub AreOrders : ℕ → List Order → Type 0
AreOrders media [] = Unit {0}
AreOrders media (one ∷ more) = IsOrder media one × AreOrders media more

unfoldable pub AreClients : ℕ → List ClientPlan → Type 0
AreClients media [] = Unit {0}
AreClients media (client ∷ more) = AreOrders media client.orders × AreClients media more

-- a disk, each of whose numbers is within its limits
pub record IsDiskPlan (disk : DiskPlan) : Type 0 where
  pub name : IsName disk.image
  pub size : is_block_size disk.size ≡ true
  pub workers : (1 ≤ disk.workers) × (disk.workers ≤ most_workers)
  pub group : is_group_size disk.physical ≡ true
  pub spares : AreNames disk.spares
  pub media : length disk.spares + 1 ≤ most_media
  pub clients : AreClients (length disk.spares + 1) disk.clients
  pub count : length disk.clients ≤ most_clients

unfoldable pub AreDisks : List DiskPlan → Type 0
AreDisks [] = Unit {0}
AreDisks (disk ∷ more) = IsDiskPlan disk × AreDisks more

-- the images of all media in order
unfoldable pub images_of : List DiskPlan → List (List ℕ)
images_of [] = []
images_of (disk ∷ more) = disk.image ∷ (disk.spares ++ images_of more)

-- all disks together: how many they are, what their lines ask for, and no two media of one image
pub record FitTogether (disks : List DiskPlan) : Type 0 where
  pub few : length disks ≤ most_disks
  pub asked : total_asked_bytes disks ≤ most_requested_bytes
  pub images : IsDistinct bytes_eq (images_of disks)
