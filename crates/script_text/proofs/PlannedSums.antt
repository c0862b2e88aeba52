-- The bytes that plans ask for, where their last item changes.
use Rattle.std.proofs.Common.{◌≡◌, ℕ, ◌+◌, ◌<◌, true, length, List, [], ◌∷◌, ◌++◌, sum_by, refl, ap, ◌∙◌, arith}
use Rattle.std.proofs.lemmas.List.Sums.{sum_by_push}
use Rattle.history.specs.declared.order.Order.{Order}
use Rattle.script_text.specs.declared.language.plans.DiskPlan.{DiskPlan}
use Rattle.script_text.specs.declared.language.plans.ClientPlan.{ClientPlan}
use Rattle.script_text.specs.Last.{on_last, last_is, has_some}
use Rattle.script_text.specs.Planned.{add_spare, add_client, add_order, add_last_order, has_client, asked_bytes, client_bytes, disk_bytes, total_asked_bytes}
use Rattle.script_text.proofs.LastLemmas.{sum_on_last, some_last}

-- a further line asks for its bytes
pub requested_order : (order : Order) (plans : List DiskPlan) → has_client plans ≡ true → total_asked_bytes (on_last (add_last_order order) plans) ≡ total_asked_bytes plans + asked_bytes order
unfolding total_asked_bytes
requested_order order plans has =
    sum_on_last disk_bytes (add_last_order order) (λ disk. has_some disk.clients) (asked_bytes order)
    (λ disk some. sum_on_last client_bytes (add_order order) (λ client. true) (asked_bytes order) (λ client _. sum_by_push asked_bytes client.orders order) disk.clients (some_last disk.clients some))
    plans has

-- a further client asks for none
pub requested_client : (client : ClientPlan) (plans : List DiskPlan) → client.orders ≡ [] → has_some plans ≡ true → total_asked_bytes (on_last (add_client client) plans) ≡ total_asked_bytes plans
unfolding total_asked_bytes
requested_client client plans none has =
    let nothing : client_bytes client ≡ 0 = ap (sum_by asked_bytes) none in
    sum_on_last disk_bytes (add_client client) (λ disk. true) 0
    (λ disk _. sum_by_push client_bytes disk.clients client ∙ ap (λ n. disk_bytes disk + n) nothing) plans (some_last plans has)
    ∙ omega arith

-- nor does a further medium
pub requested_spare : (image : List ℕ) (plans : List DiskPlan) → has_some plans ≡ true → total_asked_bytes (on_last (add_spare image) plans) ≡ total_asked_bytes plans
unfolding total_asked_bytes
requested_spare image plans has =
    sum_on_last disk_bytes (add_spare image) (λ disk. true) 0 (λ disk _. (omega arith)) plans (some_last plans has)
    ∙ omega arith

-- nor a further disk
pub requested_disk : (disk : DiskPlan) (plans : List DiskPlan) → disk.clients ≡ [] → total_asked_bytes (plans ++ disk ∷ []) ≡ total_asked_bytes plans
unfolding total_asked_bytes
requested_disk disk plans none =
    let nothing : disk_bytes disk ≡ 0 = ap (sum_by client_bytes) none in
    sum_by_push disk_bytes plans disk ∙ ap (λ n. sum_by disk_bytes plans + n) nothing ∙ omega arith

pub requested_none : total_asked_bytes [] ≡ 0
unfolding total_asked_bytes
requested_none = refl

pub client_disk : (plans : List DiskPlan) → has_client plans ≡ true → 0 < length plans
unfolding last_is
client_disk [] has = absurd (cc)
client_disk (x ∷ xs) has = omega arith
