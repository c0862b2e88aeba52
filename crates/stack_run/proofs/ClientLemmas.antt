-- The clients of a disk of a script are clients for its desk.
use Rattle.std.proofs.Common.{◌≡◌, ℕ, zero, suc, ◌+◌, ◌<◌, ◌≤◌, List, [], ◌∷◌, map, length, sum_by, get_or, All, refl, sym, ◌∙◌, ap, subst, arith}
use Rattle.std.specs.List.{AllByRecursion}
use Rattle.std.proofs.lemmas.List.{length-map}
use Rattle.std.proofs.lemmas.List.Sums.{sum_by-cons}
use Rattle.std.proofs.lemmas.Simd.{map-map}
use Rattle.history.specs.declared.entry.Kind.{Kind}
use Rattle.history.specs.declared.entry.Kind.TheVariants.{Read, Write, Flush, Erase}
use Rattle.history.specs.declared.entry.UnitKind.{UnitKind}
use Rattle.history.specs.declared.entry.UnitKind.TheVariants.{Bytes, Blocks}
use Rattle.history.specs.declared.order.Order.{Order}
use Rattle.history.specs.declared.order.Order.TheVariants as order
use Rattle.history.specs.declared.order.Payload.{Payload}
use Rattle.history.specs.declared.order.Payload.TheVariants.{Given, Fill, Nothing}
use Rattle.shared_disk.specs.declared.clients.Client.{Client}
use Rattle.shared_disk.specs.Lines.{Role, roles_of}
use Rattle.shared_disk.specs.Desk.{BringsFor, IsDeskOrder, AreDeskClients}
use Rattle.script_text.specs.declared.language.plans.DiskPlan.{DiskPlan}
use Rattle.script_text.specs.declared.language.plans.ClientPlan.{ClientPlan}
use Rattle.script_text.specs.Fitting as fit
use Rattle.script_text.specs.Fitting.{IsDiskPlan}
use Rattle.script_text.specs.Limits.{most_script_bytes}
use Rattle.script_text.specs.Planned.{disk_lines, planned_lines}
use Rattle.partition_tables.specs.declared.table.Child.{Child}
use Rattle.stack_run.specs.Clients.{role_in, script_roles}
use Rattle.stack_run.proofs.DiskLoops.{all-from-rec}

-- a line as a desk takes it
brings : (kind : Kind) (units : UnitKind) (payload : Payload) (n : ℕ) → fit.Brings kind units payload n → BringsFor kind payload n
brings Read Bytes (Given bytes) n b = absurd b
brings Read Blocks (Given bytes) n b = absurd b
brings Read Bytes (Fill byte) n b = absurd b
brings Read Blocks (Fill byte) n b = absurd b
brings Read units Nothing n b = tt
brings Write units (Given bytes) n b = b
brings Write Bytes (Fill byte) n b = tt
brings Write Blocks (Fill byte) n b = absurd b
brings Write Bytes Nothing n b = absurd b
brings Write Blocks Nothing n b = absurd b
brings Flush Bytes (Given bytes) n b = absurd b
brings Flush Blocks (Given bytes) n b = absurd b
brings Flush Bytes (Fill byte) n b = absurd b
brings Flush Blocks (Fill byte) n b = absurd b
brings Flush Bytes Nothing n b = tt
brings Flush Blocks Nothing n b = absurd b
brings Erase Bytes (Given bytes) n b = absurd b
brings Erase Blocks (Given bytes) n b = absurd b
brings Erase Bytes (Fill byte) n b = absurd b
brings Erase Blocks (Fill byte) n b = absurd b
brings Erase Bytes Nothing n b = absurd b
brings Erase Blocks Nothing n b = tt

order-fits : (media : ℕ) (one : Order) → fit.IsOrder media one → IsDeskOrder one
order-fits media (order.Request asked payload k) fits = record {
  most = omega (arith, fits.0.most);
  well_asked = fits.0.well_asked;
  brings = brings asked.kind asked.unit payload asked.length fits.0.brings;
}
order-fits media order.Wait fits = tt
order-fits media (order.Cancel k) fits = tt
order-fits media order.Reset fits = tt
order-fits media order.Eject fits = tt
order-fits media order.Insert fits = tt
order-fits media (order.Protect on) fits = tt

orders-fit : (media : ℕ) (orders : List Order) → fit.AreOrders media orders → All IsDeskOrder orders
unfolding fit.AreOrders
orders-fit media [] are k d inside = absurd (omega (arith, inside))
orders-fit media (one ∷ more) are zero d inside = order-fits media one are.0
orders-fit media (one ∷ more) are (suc k) d inside = orders-fit media more are.1 k d (omega (arith, inside))

each-fits : (media : ℕ) (clients : List ClientPlan) → fit.AreClients media clients → AllByRecursion (λ orders. All IsDeskOrder orders) (map (λ (client : ClientPlan). client.orders) clients)
unfolding fit.AreClients
each-fits media [] are = tt
each-fits media (client ∷ more) are = (orders-fit media client.orders are.0, each-fits media more are.1)

sum-mapped : {X : Type 0} (f : X → List Order) (xs : List X) → sum_by (λ x. length (f x)) xs ≡ sum_by length (map f xs)
sum-mapped f [] = refl
sum-mapped f (x ∷ xs) = rw (sum_by-cons (λ y. length (f y)) x xs, sum_by-cons length (f x) (map f xs), sum-mapped f xs) refl

module _ (plan : DiskPlan) (clients : List Client) (children : List Child) (same : roles_of clients ≡ script_roles plan.size children plan.clients) where
  orders-same : map (λ (client : Client). client.orders.items) clients ≡ map (λ (client : ClientPlan). client.orders) plan.clients
  orders-same = sym (map-map (λ (role : Role). role.orders) _ clients) ∙ (ap (map (λ (role : Role). role.orders)) same ∙ map-map (λ (role : Role). role.orders) _ plan.clients)

  pub clients-fit : IsDiskPlan plan → disk_lines plan ≤ most_script_bytes → AreDeskClients clients
  clients-fit fits few = record {
    few = omega (arith, length-map clients (Rattle.shared_disk.specs.Lines.role_of), ap length same, length-map plan.clients (role_in plan.size children), fits.count);
    lines = omega (arith, few, sum-mapped (λ (client : Client). client.orders.items) clients, ap (sum_by length) orders-same, sum-mapped (λ (client : ClientPlan). client.orders) plan.clients);
    orders = all-from-rec (λ orders. All IsDeskOrder orders) (λ (client : Client). client.orders.items) clients
        (subst (AllByRecursion (λ orders. All IsDeskOrder orders)) (sym orders-same) (each-fits (length plan.spares + 1) plan.clients fits.clients));
  }

-- the lines of one disk are no more than those of all
pub lines-next : (plans : List DiskPlan) (i : ℕ) (plan : DiskPlan) (n : ℕ) → planned_lines plans ≤ n → i < length plans → plan ≡ get_or plans i plan → disk_lines plan ≤ n
unfolding planned_lines
lines-next [] i plan n few inside is = absurd (omega (arith, inside))
lines-next (one ∷ more) zero plan n few inside is = omega (arith, few, sum_by-cons disk_lines one more, ap disk_lines is)
lines-next (one ∷ more) (suc i) plan n few inside is =
    lines-next more i plan n (unfold planned_lines in omega (arith, few, sum_by-cons disk_lines one more)) (omega (arith, inside)) is
