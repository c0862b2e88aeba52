-- The plans of a script fit its limits.
use Rattle.std.proofs.Common.{◌≡◌, ℕ, ◌+◌, ◌≤◌, Bool, true, false, not, ◌&&◌, ◌||◌, nat_le, nat_lt, List, [], ◌∷◌, ◌++◌, length, Option, None, Some, Result, Ok, Err, refl, ap, arith, length-append}
use Rattle.std.proofs.lemmas.Bool.Decides.{nat_tests}
use Rattle.history.specs.declared.order.Order.{Order}
use Rattle.history.specs.declared.order.Order.TheVariants as order
use Rattle.medium.specs.Device.{is_block_size}
use Rattle.script_text.specs.declared.language.refusal.Reason.{Reason}
use Rattle.script_text.specs.declared.language.refusal.Reason.TheVariants.{Name, Medium, Limit, Size}
use Rattle.script_text.specs.declared.language.refusal.Reason.TheVariants as why
use Rattle.script_text.specs.declared.language.line.Flags.{Flags}
use Rattle.script_text.specs.declared.language.line.Line.{Line}
use Rattle.script_text.specs.declared.language.line.Line.TheVariants.{Disk, Spare, Client, Asks}
use Rattle.script_text.specs.declared.language.plans.DiskPlan.{DiskPlan}
use Rattle.script_text.specs.declared.language.plans.ClientPlan.{ClientPlan}
use Rattle.script_text.specs.Limits.{most_request_bytes, most_name_bytes, most_disks, most_media, most_clients, most_workers, most_script_bytes}
use Rattle.script_text.specs.Words.{lines_of}
use Rattle.script_text.specs.Wording.{line_of_bytes}
use Rattle.script_text.specs.Last.{on_last, last_is, has_some}
use Rattle.script_text.specs.Planned.{new_disk, new_client, add_spare, add_client, add_order, add_last_order, has_client, is_new_name, is_group_size, asked_bytes, planned_disk, has_medium_room, planned_spare, has_client_room, planned_client, is_whole, takes_mark, is_well_aimed, has_room, planned_order, plans_behind}
use Rattle.script_text.specs.Whole.{planned_if, line_says, at_line, lines_say, script_of}
use Rattle.script_text.specs.Fitting.{IsName, AreNames, IsMedium, IsOrder, AreOrders, AreClients, IsDiskPlan, AreDisks}
use Rattle.script_text.proofs.LastLemmas.{some_last, last_both, length_on_last}
use Rattle.script_text.proofs.Chains.{then_ok, else_ok, next_ok, ok_same, both_true, none_true, was_true}
use Rattle.script_text.proofs.LineFits.{IsAimed, medium_of, IsPrintable, IsLine, line_fits}

-- lists with one more
names_pushed : (names : List (List ℕ)) (name : List ℕ) → AreNames names → IsName name → AreNames (names ++ name ∷ [])
names_pushed [] name all one = (one, tt)
names_pushed (first ∷ more) name all one = (all.0, names_pushed more name all.1 one)

orders_pushed : (media : ℕ) (orders : List Order) (one : Order) → AreOrders media orders → IsOrder media one → AreOrders media (orders ++ one ∷ [])
unfolding AreOrders
orders_pushed media [] one all fits = (fits, tt)
orders_pushed media (first ∷ more) one all fits = (all.0, orders_pushed media more one all.1 fits)

clients_pushed : (media : ℕ) (clients : List ClientPlan) (part : Option ℕ) (number : ℕ) → AreClients media clients → AreClients media (clients ++ new_client part number ∷ [])
unfolding AreClients AreOrders
clients_pushed media [] part number all = (tt, tt)
clients_pushed media (first ∷ more) part number all = (all.0, clients_pushed media more part number all.1)

clients_on_last : (media : ℕ) (one : Order) → IsOrder media one → (clients : List ClientPlan) → AreClients media clients → AreClients media (on_last (add_order one) clients)
unfolding AreClients on_last
clients_on_last media one fits [] all = tt
clients_on_last media one fits (client ∷ []) all = (orders_pushed media client.orders one all.0 fits, tt)
clients_on_last media one fits (client ∷ next ∷ more) all = (all.0, clients_on_last media one fits (next ∷ more) all.1)

disks_pushed : (disks : List DiskPlan) (disk : DiskPlan) → AreDisks disks → IsDiskPlan disk → AreDisks (disks ++ disk ∷ [])
unfolding AreDisks
disks_pushed [] disk all one = (one, tt)
disks_pushed (first ∷ more) disk all one = (all.0, disks_pushed more disk all.1 one)

disks_on_last : (f : DiskPlan → DiskPlan) (test : DiskPlan → Bool) → ((disk : DiskPlan) → test disk ≡ true → IsDiskPlan disk → IsDiskPlan (f disk)) → (disks : List DiskPlan) → last_is test disks ≡ true → AreDisks disks → AreDisks (on_last f disks)
unfolding AreDisks on_last last_is
disks_on_last f test keeps [] is all = tt
disks_on_last f test keeps (disk ∷ []) is all = (keeps disk is all.0, tt)
disks_on_last f test keeps (disk ∷ next ∷ more) is all = (all.0, disks_on_last f test keeps (next ∷ more) is all.1)

-- a test that the last item does not pass
last_not : {X : Type 0} (test : X → Bool) (xs : List X) → has_some xs ≡ true → last_is test xs ≡ false → last_is (λ x. not (test x)) xs ≡ true
unfolding last_is
last_not test [] some is = absurd (cc)
last_not test (x ∷ []) some is = ap not is
last_not test (x ∷ y ∷ more) some is = last_not test (y ∷ more) refl is

some_from_last : {X : Type 0} (test : X → Bool) (xs : List X) → last_is test xs ≡ true → has_some xs ≡ true
unfolding last_is
some_from_last test [] is = absurd (cc)
some_from_last test (x ∷ xs) is = refl

-- names
short_is : (n : ℕ) → nat_le n most_name_bytes ≡ true → n ≤ most_name_bytes
short_is n is = grind (arith, nat_tests)

name_is : (image : List ℕ) (plans : List DiskPlan) → IsPrintable image → is_new_name image plans ≡ true → IsName image
name_is image plans printable is = record { some = printable.0; most = short_is (length image) (both_true _ _ is).0; printable = printable.1 }

workers_are : (n : ℕ) → nat_le 1 n ≡ true → nat_le n most_workers ≡ true → (1 ≤ n) × (n ≤ most_workers)
workers_are n some few = (grind (arith, nat_tests), grind (arith, nat_tests))

-- what each kind of line adds fits
disk_fits : (plans next : List DiskPlan) (image : List ℕ) (size workers : ℕ) (flags : Flags) → AreDisks plans → IsPrintable image → planned_disk plans image size workers flags ≡ Ok next → AreDisks next
unfolding planned_disk AreClients
disk_fits plans next image size workers flags all printable is =
    let (named, rest) = else_ok (not (is_new_name image plans)) _ Name next is in
    let (fits, added) = then_ok (is_block_size size && nat_le 1 workers && nat_le workers most_workers && is_group_size flags.physical && nat_lt (length plans) most_disks) _ Limit next rest in
    let (four, room) = both_true _ _ fits in
    let (three, group) = both_true _ _ four in
    let (two, few) = both_true _ _ three in
    let (sized, some) = both_true _ _ two in
    rw (← ok_same (plans ++ new_disk image size workers flags ∷ []) next added)
    (disks_pushed plans (new_disk image size workers flags) all (record {
      name = name_is image plans printable (was_true (is_new_name image plans) named);
      size = sized;
      workers = workers_are workers some few;
      group = group;
      spares = tt;
      media = omega arith;
      clients = tt;
      count = omega arith;
    }))

no_clients : (media : ℕ) (clients : List ClientPlan) → not (has_some clients) ≡ true → AreClients media clients
unfolding AreClients
no_clients media [] none = tt
no_clients media (client ∷ more) none = absurd (cc)

-- one more, where there was room for it
pub one_more : {X : Type 0} (xs : List X) (x : X) (most : ℕ) → nat_lt (length xs) most ≡ true → length (xs ++ x ∷ []) ≤ most
one_more xs x most room = let count = length-append xs (x ∷ []) in grind (arith, nat_tests, count)

pushed_within : (spares : List (List ℕ)) (image : List ℕ) (most : ℕ) → nat_lt (length spares + 1) most ≡ true → length (spares ++ image ∷ []) + 1 ≤ most
pushed_within spares image most room = let count = length-append spares (image ∷ []) in grind (arith, nat_tests, count)

spare_fits : (plans next : List DiskPlan) (image : List ℕ) → AreDisks plans → IsPrintable image → planned_spare plans image ≡ Ok next → AreDisks next
unfolding planned_spare
spare_fits plans next image all printable is =
    let (placed, rest) = else_ok (not (has_some plans) || has_client plans) _ why.Order next is in
    let (named, rest) = else_ok (not (is_new_name image plans)) _ Name next rest in
    let (room, added) = then_ok (has_medium_room plans) _ Limit next rest in
    let (some, none) = none_true (not (has_some plans)) (has_client plans) placed in
    let clear = last_not (λ disk. has_some disk.clients) plans (was_true (has_some plans) some) none in
    let both = last_both (λ disk. not (has_some disk.clients)) (λ disk. nat_lt (length disk.spares + 1) most_media) plans clear room in
    let name = name_is image plans printable (was_true (is_new_name image plans) named) in
    rw (← ok_same (on_last (add_spare image) plans) next added)
    (disks_on_last (add_spare image) (λ disk. not (has_some disk.clients) && nat_lt (length disk.spares + 1) most_media) (λ disk is d. record {
      name = d.name;
      size = d.size;
      workers = d.workers;
      group = d.group;
      spares = names_pushed disk.spares image d.spares name;
      media = pushed_within disk.spares image most_media (both_true _ _ is).1;
      clients = no_clients (length (disk.spares ++ image ∷ []) + 1) disk.clients (both_true _ _ is).0;
      count = d.count;
    }) plans both all)

client_fits : (plans next : List DiskPlan) (number : ℕ) (part : Option ℕ) → AreDisks plans → planned_client number plans part ≡ Ok next → AreDisks next
unfolding planned_client
client_fits plans next number part all is =
    let (some, rest) = else_ok (not (has_some plans)) _ why.Order next is in
    let (room, added) = then_ok (has_client_room plans) _ Limit next rest in
    rw (← ok_same (on_last (add_client (new_client part number)) plans) next added)
    (disks_on_last (add_client (new_client part number)) (λ disk. nat_lt (length disk.clients) most_clients) (λ disk is d. record {
      name = d.name;
      size = d.size;
      workers = d.workers;
      group = d.group;
      spares = d.spares;
      media = d.media;
      clients = clients_pushed (length disk.spares + 1) disk.clients part number d.clients;
      count = one_more disk.clients (new_client part number) most_clients is;
    }) plans room all)

-- the disk has the medium of a last word
aims : Option ℕ → DiskPlan → Bool
aims None disk = true
aims (Some k) disk = takes_mark k disk

aimed : (plans : List DiskPlan) (mark : Option ℕ) → has_client plans ≡ true → is_well_aimed plans mark ≡ true → last_is (aims mark) plans ≡ true
unfolding aims
aimed plans None has is = some_last plans (some_from_last (λ disk. has_some disk.clients) plans has)
aimed plans (Some k) has is = is

medium_is : (media k : ℕ) → nat_le 1 k ≡ true → nat_le k media ≡ true → IsMedium media k
medium_is media k some few = (grind (arith, nat_tests), grind (arith, nat_tests))

on_medium : (mark : Option ℕ) (disk : DiskPlan) → aims mark disk ≡ true → IsMedium (length disk.spares + 1) (medium_of mark)
unfolding aims
on_medium None disk is = (omega arith, omega arith)
on_medium (Some k) disk is =
    let (two, few) = both_true (last_is (λ client. is_whole client.part) disk.clients && nat_le 1 k) (nat_le k (length disk.spares + 1)) is in
    medium_is (length disk.spares + 1) k (both_true _ _ two).1 few

order_is : (media k : ℕ) (one : Order) → IsMedium media k → asked_bytes one ≤ most_request_bytes → IsAimed k one → IsOrder media one
order_is media k (order.Request asked payload id) there few fits = (fits.1 few, rw fits.0 there)
order_is media k order.Wait there few fits = tt
order_is media k (order.Cancel id) there few fits = rw fits there
order_is media k order.Reset there few fits = tt
order_is media k order.Eject there few fits = tt
order_is media k order.Insert there few fits = tt
order_is media k (order.Protect on) there few fits = tt

few_is : (n : ℕ) → nat_le n most_request_bytes ≡ true → n ≤ most_request_bytes
few_is n is = grind (arith, nat_tests)

order_fits : (plans next : List DiskPlan) (one : Order) (mark : Option ℕ) → AreDisks plans → IsAimed (medium_of mark) one → planned_order plans one mark ≡ Ok next → AreDisks next
unfolding planned_order
order_fits plans next one mark all fits is =
    let (has, rest) = else_ok (not (has_client plans)) _ why.Order next is in
    let (well, rest) = else_ok (not (is_well_aimed plans mark)) _ Medium next rest in
    let (room, added) = then_ok (has_room plans (asked_bytes one)) _ Limit next rest in
    let few = few_is (asked_bytes one) (both_true _ _ room).0 in
    rw (← ok_same (on_last (add_last_order one) plans) next added)
    (disks_on_last (add_last_order one) (aims mark) (λ disk there d. record {
      name = d.name;
      size = d.size;
      workers = d.workers;
      group = d.group;
      spares = d.spares;
      media = d.media;
      count = rw (length_on_last (add_order one) disk.clients) d.count;
      clients = clients_on_last (length disk.spares + 1) one (order_is (length disk.spares + 1) (medium_of mark) one (on_medium mark disk there) few fits) disk.clients d.clients;
    }) plans (aimed plans mark (was_true (has_client plans) has) (was_true (is_well_aimed plans mark) well)) all)

line_keeps : (number : ℕ) (plans next : List DiskPlan) (one : Line) → AreDisks plans → IsLine one → plans_behind number plans one ≡ Ok next → AreDisks next
unfolding plans_behind
line_keeps number plans next (Disk image size workers flags) all fits is = disk_fits plans next image size workers flags all fits is
line_keeps number plans next (Spare image) all fits is = spare_fits plans next image all fits is
line_keeps number plans next (Client part) all fits is = client_fits plans next number part all is
line_keeps number plans next (Asks one mark) all fits is = order_fits plans next one mark all fits is

said_keeps : (number : ℕ) (plans next : List DiskPlan) (said : Option Line) → AreDisks plans → ((one : Line) → said ≡ Some one → IsLine one) → planned_if number plans said ≡ Ok next → AreDisks next
said_keeps number plans next None all fits is = rw (← ok_same plans next is) all
said_keeps number plans next (Some one) all fits is = line_keeps number plans next one all (fits one refl) is

says_fit : (number : ℕ) (plans next : List DiskPlan) (line : List ℕ) → AreDisks plans → line_says number plans line ≡ Ok next → AreDisks next
unfolding line_says
says_fit number plans next line all is =
    let (said, read, rest) = next_ok (line_of_bytes line) (λ said. planned_if number plans said) next is in
    said_keeps number plans next said all (λ one some. line_fits line one (rw some at read)) rest

pub at_line_ok : (n : ℕ) (r : Result (List DiskPlan) Reason) (x : List DiskPlan) → at_line n r ≡ Ok x → r ≡ Ok x
at_line_ok n (Ok y) x is = ap Ok (ok_same y x is)
at_line_ok n (Err e) x is = absurd (cc)

-- what each line keeps
abbrev pub LinesKeep : (List DiskPlan → Type 0) → Type 0
LinesKeep P = (n : ℕ) (plans next : List DiskPlan) (line : List ℕ) → P plans → line_says n plans line ≡ Ok next → P next

lines_kept : (P : List DiskPlan → Type 0) → LinesKeep P → (n : ℕ) (plans next : List DiskPlan) (lines : List (List ℕ)) → P plans → lines_say n plans lines ≡ Ok next → P next
unfolding lines_say
lines_kept P keep n plans next [] all is = rw (← ok_same plans next is) all
lines_kept P keep n plans next (line ∷ rest) all is =
    let (more, one, last) = next_ok (at_line n (line_says n plans line)) (λ more. lines_say (n + 1) more rest) next is in
    lines_kept P keep (n + 1) more next rest (keep n plans more line all (at_line_ok n (line_says n plans line) more one)) last

-- what holds of no plans and is kept by each line holds of the plans of a script
pub script_keeps : (P : List DiskPlan → Type 0) → LinesKeep P → P [] → (bytes : List ℕ) (plans : List DiskPlan) → script_of bytes ≡ Ok plans → P plans
unfolding script_of
script_keeps P keep none bytes plans is = lines_kept P keep 1 [] plans (lines_of bytes) none (else_ok (nat_lt most_script_bytes (length bytes)) _ (0, Size) plans is).1

pub plans_fit : (bytes : List ℕ) (plans : List DiskPlan) → script_of bytes ≡ Ok plans → AreDisks plans
unfolding AreDisks
plans_fit bytes plans is = script_keeps AreDisks says_fit tt bytes plans is
