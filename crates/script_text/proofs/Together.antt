-- The disks of a script fit together.
use Rattle.std.proofs.Common.{◌≡◌, ℕ, ◌+◌, ◌≤◌, Bool, true, false, not, ◌&&◌, ◌||◌, nat_le, nat_lt, bytes_eq, List, [], ◌∷◌, ◌++◌, length, Option, None, Some, Ok, refl, sym, ◌∙◌, arith}
use Rattle.std.specs.List.{list_any, AllByRecursion, IsDistinct}
use Rattle.std.proofs.lemmas.Bool.Decides.{nat_tests}
use Rattle.history.specs.declared.order.Order.{Order}
use Rattle.medium.specs.Device.{is_block_size}
use Rattle.script_text.specs.declared.language.refusal.Reason.TheVariants.{Name, Medium, Limit}
use Rattle.script_text.specs.declared.language.refusal.Reason.TheVariants as why
use Rattle.script_text.specs.declared.language.line.Flags.{Flags}
use Rattle.script_text.specs.declared.language.line.Line.{Line}
use Rattle.script_text.specs.declared.language.line.Line.TheVariants.{Disk, Spare, Client, Asks}
use Rattle.script_text.specs.declared.language.plans.DiskPlan.{DiskPlan}
use Rattle.script_text.specs.Limits.{most_requested_bytes, most_disks, most_workers}
use Rattle.script_text.specs.Wording.{line_of_bytes}
use Rattle.script_text.specs.Last.{on_last, has_some}
use Rattle.script_text.specs.Planned.{new_disk, new_client, add_spare, add_client, add_last_order, has_client, has_image, is_new_name, is_group_size, asked_bytes, total_asked_bytes, planned_disk, has_medium_room, planned_spare, has_client_room, planned_client, is_well_aimed, has_room, planned_order, plans_behind}
use Rattle.script_text.specs.Whole.{planned_if, line_says, script_of}
use Rattle.script_text.specs.Fitting.{images_of, FitTogether}
use Rattle.script_text.proofs.Chains.{then_ok, else_ok, next_ok, ok_same, both_true, none_true, was_true}
use Rattle.script_text.proofs.Images.{images_of_disk, images_of_spare, images_of_client, images_of_order, has_images}
use Rattle.script_text.proofs.LastLemmas.{length_on_last}
use Rattle.script_text.proofs.PlannedSums.{requested_order, requested_client, requested_spare, requested_disk, requested_none}
use Rattle.script_text.proofs.PlansFit.{one_more, script_keeps}

-- a new name
absent : (image : List ℕ) (plans : List DiskPlan) → has_image image plans ≡ false → list_any (λ name. bytes_eq name image) (images_of plans) ≡ false
absent image plans is = sym (has_images image plans) ∙ is

apart_pushed : (x : List ℕ) (names : List (List ℕ)) (name : List ℕ) → AllByRecursion (λ y. bytes_eq x y ≡ false) names → bytes_eq x name ≡ false → AllByRecursion (λ y. bytes_eq x y ≡ false) (names ++ name ∷ [])
apart_pushed x [] name all one = (one, tt)
apart_pushed x (y ∷ names) name all one = (all.0, apart_pushed x names name all.1 one)

distinct_pushed : (names : List (List ℕ)) (name : List ℕ) → IsDistinct bytes_eq names → list_any (λ earlier. bytes_eq earlier name) names ≡ false → IsDistinct bytes_eq (names ++ name ∷ [])
unfolding IsDistinct
distinct_pushed [] name all new = (tt, tt)
distinct_pushed (x ∷ names) name all new =
    let (here, later) = none_true (bytes_eq x name) (list_any (λ earlier. bytes_eq earlier name) names) new in
    (apart_pushed x names name all.0 here, distinct_pushed names name all.1 later)

not_true : (b : Bool) → not b ≡ true → b ≡ false
not_true true is = absurd (cc)
not_true false is = refl

name_pushed : (plans : List DiskPlan) (image : List ℕ) → IsDistinct bytes_eq (images_of plans) → not (is_new_name image plans) ≡ false → IsDistinct bytes_eq (images_of plans ++ image ∷ [])
name_pushed plans image all named =
    let (short, new) = both_true _ (not (has_image image plans)) (was_true (is_new_name image plans) named) in
    distinct_pushed (images_of plans) image all (absent image plans (not_true (has_image image plans) new))

-- what each kind of line adds
disk_together : (plans next : List DiskPlan) (image : List ℕ) (size workers : ℕ) (flags : Flags) → FitTogether plans → planned_disk plans image size workers flags ≡ Ok next → FitTogether next
unfolding planned_disk
disk_together plans next image size workers flags all is =
    let (named, rest) = else_ok (not (is_new_name image plans)) _ Name next is in
    let (fits, added) = then_ok (is_block_size size && nat_le 1 workers && nat_le workers most_workers && is_group_size flags.physical && nat_lt (length plans) most_disks) _ Limit next rest in
    rw (← ok_same (plans ++ new_disk image size workers flags ∷ []) next added)
    (record {
      few = one_more plans (new_disk image size workers flags) most_disks (both_true _ _ fits).1;
      asked = rw (requested_disk (new_disk image size workers flags) plans refl) all.asked;
      images = rw (images_of_disk plans (new_disk image size workers flags) refl) (name_pushed plans image all.images named);
    })

spare_together : (plans next : List DiskPlan) (image : List ℕ) → FitTogether plans → planned_spare plans image ≡ Ok next → FitTogether next
unfolding planned_spare
spare_together plans next image all is =
    let (placed, rest) = else_ok (not (has_some plans) || has_client plans) _ why.Order next is in
    let (named, rest) = else_ok (not (is_new_name image plans)) _ Name next rest in
    let (room, added) = then_ok (has_medium_room plans) _ Limit next rest in
    let some = was_true (has_some plans) (none_true (not (has_some plans)) (has_client plans) placed).0 in
    rw (← ok_same (on_last (add_spare image) plans) next added)
    (record {
      few = rw (length_on_last (add_spare image) plans) all.few;
      asked = rw (requested_spare image plans some) all.asked;
      images = rw (images_of_spare plans image some) (name_pushed plans image all.images named);
    })

client_together : (plans next : List DiskPlan) (number : ℕ) (part : Option ℕ) → FitTogether plans → planned_client number plans part ≡ Ok next → FitTogether next
unfolding planned_client
client_together plans next number part all is =
    let (some, rest) = else_ok (not (has_some plans)) _ why.Order next is in
    let (room, added) = then_ok (has_client_room plans) _ Limit next rest in
    rw (← ok_same (on_last (add_client (new_client part number)) plans) next added)
    (record {
      few = rw (length_on_last (add_client (new_client part number)) plans) all.few;
      asked = rw (requested_client (new_client part number) plans refl (was_true (has_some plans) some)) all.asked;
      images = rw (images_of_client plans (new_client part number)) all.images;
    })

sum_within : (n : ℕ) → nat_le n most_requested_bytes ≡ true → n ≤ most_requested_bytes
sum_within n is = grind (arith, nat_tests)

order_together : (plans next : List DiskPlan) (one : Order) (mark : Option ℕ) → FitTogether plans → planned_order plans one mark ≡ Ok next → FitTogether next
unfolding planned_order
order_together plans next one mark all is =
    let (has, rest) = else_ok (not (has_client plans)) _ why.Order next is in
    let (well, rest) = else_ok (not (is_well_aimed plans mark)) _ Medium next rest in
    let (room, added) = then_ok (has_room plans (asked_bytes one)) _ Limit next rest in
    rw (← ok_same (on_last (add_last_order one) plans) next added)
    (record {
      few = rw (length_on_last (add_last_order one) plans) all.few;
      asked = rw (requested_order one plans (was_true (has_client plans) has)) (sum_within (total_asked_bytes plans + asked_bytes one) (both_true _ _ room).1);
      images = rw (images_of_order plans one) all.images;
    })

line_together : (number : ℕ) (plans next : List DiskPlan) (one : Line) → FitTogether plans → plans_behind number plans one ≡ Ok next → FitTogether next
unfolding plans_behind
line_together number plans next (Disk image size workers flags) all is = disk_together plans next image size workers flags all is
line_together number plans next (Spare image) all is = spare_together plans next image all is
line_together number plans next (Client part) all is = client_together plans next number part all is
line_together number plans next (Asks one mark) all is = order_together plans next one mark all is

said_together : (number : ℕ) (plans next : List DiskPlan) (said : Option Line) → FitTogether plans → planned_if number plans said ≡ Ok next → FitTogether next
said_together number plans next None all is = rw (← ok_same plans next is) all
said_together number plans next (Some one) all is = line_together number plans next one all is

says_together : (number : ℕ) (plans next : List DiskPlan) (line : List ℕ) → FitTogether plans → line_says number plans line ≡ Ok next → FitTogether next
unfolding line_says
says_together number plans next line all is =
    let (said, read, rest) = next_ok (line_of_bytes line) (λ said. planned_if number plans said) next is in
    said_together number plans next said all rest

none_together : FitTogether []
unfolding images_of IsDistinct
none_together = record { few = omega arith; asked = rw requested_none (omega arith); images = tt }

-- the plans of a script
pub plans_fit_together : (bytes : List ℕ) (plans : List DiskPlan) → script_of bytes ≡ Ok plans → FitTogether plans
plans_fit_together bytes plans is = script_keeps FitTogether says_together none_together bytes plans is
