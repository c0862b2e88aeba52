-- Where the blocks of a unit lie on the medium, and which bytes of its request they have.
use Rattle.std.proofs.Common.{◌≡◌, ℕ, ◌-◌, ◌*◌, Bool, true, false, refl}
use Rattle.std.specs.Prelude.{if◌then◌else◌}
use Rattle.history.specs.Tasks.{Task, Moves, Syncs}
use Rattle.subtask_queue.specs.declared.sub.Sub.TheVariants as sub
use Rattle.subtask_queue.specs.Subs.{sub_of_task}

-- what the queue keeps as a run is one
pub run-kept : (size token t b n : ℕ) (write w : Bool) (task : Task) → sub_of_task size token write task ≡ sub.Run t b n w
    → (low high : ℕ) × (task ≡ Moves (record { whole = true; block = b; count = n; low = low; high = high })) × (write ≡ w)
run-kept size token t b n write w Syncs is = cc
run-kept size token t b n write w (Moves u) is = by u.whole refl is
  where
    by : (v : Bool) → u.whole ≡ v → (if v then sub.Run token u.block u.count write else sub.Part token u.block (u.low - u.block * size) (u.high - u.low) write) ≡ sub.Run t b n w
        → (low high : ℕ) × (Moves u ≡ Moves (record { whole = true; block = b; count = n; low = low; high = high })) × (write ≡ w)
    by true whole same =
        let block : u.block ≡ b = cc in
        let count : u.count ≡ n = cc in
        (u.low, u.high, (λ i. Moves (record { whole = whole i; block = block i; count = count i; low = u.low; high = u.high })), (let e : write ≡ w = cc in e))
    by false whole same = cc

-- and what it keeps as a part is one
pub part-kept : (size token t b from n : ℕ) (write w : Bool) (task : Task) → sub_of_task size token write task ≡ sub.Part t b from n w
    → (count low high : ℕ) × (task ≡ Moves (record { whole = false; block = b; count = count; low = low; high = high })) × (write ≡ w)
part-kept size token t b from n write w Syncs is = cc
part-kept size token t b from n write w (Moves u) is = by u.whole refl is
  where
    by : (v : Bool) → u.whole ≡ v → (if v then sub.Run token u.block u.count write else sub.Part token u.block (u.low - u.block * size) (u.high - u.low) write) ≡ sub.Part t b from n w
        → (count low high : ℕ) × (Moves u ≡ Moves (record { whole = false; block = b; count = count; low = low; high = high })) × (write ≡ w)
    by true whole same = cc
    by false whole same =
        let block : u.block ≡ b = cc in
        (u.count, u.low, u.high, (λ i. Moves (record { whole = whole i; block = block i; count = u.count; low = u.low; high = u.high })), (let e : write ≡ w = cc in e))
