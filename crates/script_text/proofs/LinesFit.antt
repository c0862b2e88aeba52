-- The clients of a script have no more lines than it has bytes.
use Rattle.std.proofs.Common.{◌≡◌, ℕ, ◌+◌, ◌≤◌, Bool, true, false, not, ◌&&◌, ◌||◌, ◌==◌, nat_le, nat_lt, List, [], ◌∷◌, ◌++◌, length, map, sum_by, count_by, Option, None, Some, Ok, refl, ◌∙◌, ap, arith, length-append}
use Rattle.std.specs.List.{slice_split}
use Rattle.std.specs.Str.Lines.{strip_carriage_return}
use Rattle.std.proofs.lemmas.List.{length-map}
use Rattle.std.proofs.lemmas.List.Sums.{sum_by_push, count_by-le-length}
use Rattle.std.proofs.lemmas.List.Splits.{length-slice_split}
use Rattle.std.proofs.lemmas.Bool.Decides.{nat_tests}
use Rattle.history.specs.declared.order.Order.{Order}
use Rattle.medium.specs.Device.{is_block_size}
use Rattle.script_text.specs.declared.language.refusal.Reason.TheVariants.{Name, Medium, Limit, Size}
use Rattle.script_text.specs.declared.language.refusal.Reason.TheVariants as why
use Rattle.script_text.specs.declared.language.line.Flags.{Flags}
use Rattle.script_text.specs.declared.language.line.Line.{Line}
use Rattle.script_text.specs.declared.language.line.Line.TheVariants.{Disk, Spare, Client, Asks}
use Rattle.script_text.specs.declared.language.plans.DiskPlan.{DiskPlan}
use Rattle.script_text.specs.declared.language.plans.ClientPlan.{ClientPlan}
use Rattle.script_text.specs.Limits.{most_script_bytes, most_disks, most_workers}
use Rattle.script_text.specs.Words.{lines_of}
use Rattle.script_text.specs.Wording.{line_of_bytes}
use Rattle.script_text.specs.Last.{on_last, has_some}
use Rattle.script_text.specs.Planned.{new_disk, new_client, add_spare, add_client, add_order, add_last_order, has_client, is_new_name, is_group_size, asked_bytes, client_lines, disk_lines, planned_lines, planned_disk, has_medium_room, planned_spare, has_client_room, planned_client, is_well_aimed, has_room, planned_order, plans_behind}
use Rattle.script_text.specs.Whole.{planned_if, line_says, at_line, lines_say, script_of}
use Rattle.script_text.proofs.LastLemmas.{sum_on_last, some_last, length_on_last}
use Rattle.script_text.proofs.Chains.{then_ok, else_ok, next_ok, ok_same, none_true, was_true}
use Rattle.script_text.proofs.PlansFit.{at_line_ok}

-- a further line is one more, and a further medium, client or disk is none
lines_order : (order : Order) (plans : List DiskPlan) → has_client plans ≡ true → planned_lines (on_last (add_last_order order) plans) ≡ planned_lines plans + 1
unfolding planned_lines
lines_order order plans has =
    sum_on_last disk_lines (add_last_order order) (λ disk. has_some disk.clients) 1
    (λ disk some. sum_on_last client_lines (add_order order) (λ client. true) 1 (λ client _. length-append client.orders (order ∷ [])) disk.clients (some_last disk.clients some))
    plans has

lines_client : (client : ClientPlan) (plans : List DiskPlan) → client.orders ≡ [] → has_some plans ≡ true → planned_lines (on_last (add_client client) plans) ≡ planned_lines plans
unfolding planned_lines
lines_client client plans none has =
    let nothing : client_lines client ≡ 0 = ap length none in
    sum_on_last disk_lines (add_client client) (λ disk. true) 0
    (λ disk _. sum_by_push client_lines disk.clients client ∙ ap (λ n. disk_lines disk + n) nothing) plans (some_last plans has)
    ∙ omega arith

lines_spare : (image : List ℕ) (plans : List DiskPlan) → has_some plans ≡ true → planned_lines (on_last (add_spare image) plans) ≡ planned_lines plans
unfolding planned_lines
lines_spare image plans has =
    sum_on_last disk_lines (add_spare image) (λ disk. true) 0 (λ disk _. (omega arith)) plans (some_last plans has)
    ∙ omega arith

lines_disk : (disk : DiskPlan) (plans : List DiskPlan) → disk.clients ≡ [] → planned_lines (plans ++ disk ∷ []) ≡ planned_lines plans
unfolding planned_lines
lines_disk disk plans none =
    let nothing : disk_lines disk ≡ 0 = ap (sum_by client_lines) none in
    sum_by_push disk_lines plans disk ∙ ap (λ n. sum_by disk_lines plans + n) nothing ∙ omega arith

-- the disks are lines too
abbrev line_count : List DiskPlan → ℕ
line_count plans = planned_lines plans + length plans

abbrev AtMostOneMore : List DiskPlan → List DiskPlan → Type 0
AtMostOneMore plans next = line_count next ≤ line_count plans + 1

disk_more : (plans next : List DiskPlan) (image : List ℕ) (size workers : ℕ) (flags : Flags) → planned_disk plans image size workers flags ≡ Ok next → AtMostOneMore plans next
unfolding planned_disk
disk_more plans next image size workers flags is =
    let (named, rest) = else_ok (not (is_new_name image plans)) _ Name next is in
    let (fits, added) = then_ok (is_block_size size && nat_le 1 workers && nat_le workers most_workers && is_group_size flags.physical && nat_lt (length plans) most_disks) _ Limit next rest in
    rw (← ok_same (plans ++ new_disk image size workers flags ∷ []) next added)
    (omega (arith, lines_disk (new_disk image size workers flags) plans refl, length-append plans (new_disk image size workers flags ∷ [])))

spare_more : (plans next : List DiskPlan) (image : List ℕ) → planned_spare plans image ≡ Ok next → AtMostOneMore plans next
unfolding planned_spare
spare_more plans next image is =
    let (placed, rest) = else_ok (not (has_some plans) || has_client plans) _ why.Order next is in
    let (named, rest) = else_ok (not (is_new_name image plans)) _ Name next rest in
    let (room, added) = then_ok (has_medium_room plans) _ Limit next rest in
    let some = was_true (has_some plans) (none_true (not (has_some plans)) (has_client plans) placed).0 in
    rw (← ok_same (on_last (add_spare image) plans) next added)
    (omega (arith, lines_spare image plans some, length_on_last (add_spare image) plans))

client_more : (plans next : List DiskPlan) (number : ℕ) (part : Option ℕ) → planned_client number plans part ≡ Ok next → AtMostOneMore plans next
unfolding planned_client
client_more plans next number part is =
    let (some, rest) = else_ok (not (has_some plans)) _ why.Order next is in
    let (room, added) = then_ok (has_client_room plans) _ Limit next rest in
    rw (← ok_same (on_last (add_client (new_client part number)) plans) next added)
    (omega (arith, lines_client (new_client part number) plans refl (was_true (has_some plans) some), length_on_last (add_client (new_client part number)) plans))

order_more : (plans next : List DiskPlan) (one : Order) (mark : Option ℕ) → planned_order plans one mark ≡ Ok next → AtMostOneMore plans next
unfolding planned_order
order_more plans next one mark is =
    let (has, rest) = else_ok (not (has_client plans)) _ why.Order next is in
    let (well, rest) = else_ok (not (is_well_aimed plans mark)) _ Medium next rest in
    let (room, added) = then_ok (has_room plans (asked_bytes one)) _ Limit next rest in
    rw (← ok_same (on_last (add_last_order one) plans) next added)
    (omega (arith, lines_order one plans (was_true (has_client plans) has), length_on_last (add_last_order one) plans))

line_more : (number : ℕ) (plans next : List DiskPlan) (one : Line) → plans_behind number plans one ≡ Ok next → AtMostOneMore plans next
unfolding plans_behind
line_more number plans next (Disk image size workers flags) is = disk_more plans next image size workers flags is
line_more number plans next (Spare image) is = spare_more plans next image is
line_more number plans next (Client part) is = client_more plans next number part is
line_more number plans next (Asks one mark) is = order_more plans next one mark is

said_more : (number : ℕ) (plans next : List DiskPlan) (said : Option Line) → planned_if number plans said ≡ Ok next → AtMostOneMore plans next
said_more number plans next None is = rw (← ok_same plans next is) (omega arith)
said_more number plans next (Some one) is = line_more number plans next one is

says_more : (number : ℕ) (plans next : List DiskPlan) (line : List ℕ) → line_says number plans line ≡ Ok next → AtMostOneMore plans next
unfolding line_says
says_more number plans next line is =
    let (said, read, rest) = next_ok (line_of_bytes line) (λ said. planned_if number plans said) next is in
    said_more number plans next said rest

lines_more : (n : ℕ) (plans next : List DiskPlan) (lines : List (List ℕ)) → lines_say n plans lines ≡ Ok next → line_count next ≤ line_count plans + length lines
unfolding lines_say
lines_more n plans next [] is = rw (← ok_same plans next is) (omega arith)
lines_more n plans next (line ∷ rest) is =
    let (more, one, last) = next_ok (at_line n (line_says n plans line)) (λ more. lines_say (n + 1) more rest) next is in
    omega (arith, says_more n plans more line (at_line_ok n (line_says n plans line) more one), lines_more (n + 1) more next rest last)

count-within : (p : ℕ → Bool) (bytes : List ℕ) → count_by p bytes ≤ length bytes
count-within p bytes = omega (arith, count_by-le-length p bytes)

lines-count : (bytes : List ℕ) → length (lines_of bytes) ≤ length bytes + 1
unfolding lines_of
lines-count bytes =
    omega (arith, length-map (slice_split (λ b. b == 10) bytes) strip_carriage_return, length-slice_split (λ b. b == 10) bytes, count-within (λ b. b == 10) bytes)

short : (n : ℕ) → nat_lt most_script_bytes n ≡ false → n ≤ most_script_bytes
short n is = grind (arith, nat_tests)

none_planned : planned_lines [] ≡ 0
unfolding planned_lines
none_planned = refl

within : (plans : List DiskPlan) (n : ℕ) → line_count plans ≤ n + 1 → planned_lines plans ≤ n
within [] n most = omega (arith, none_planned)
within (disk ∷ more) n most = omega (arith, most)

pub lines_fit : (bytes : List ℕ) (plans : List DiskPlan) → script_of bytes ≡ Ok plans → planned_lines plans ≤ most_script_bytes
unfolding script_of
lines_fit bytes plans is =
    let (few, said) = else_ok (nat_lt most_script_bytes (length bytes)) _ (0, Size) plans is in
    let all = lines_more 1 [] plans (lines_of bytes) said in
    omega (arith, within plans (length bytes) (omega (arith, all, none_planned, lines-count bytes)), short (length bytes) few)
