-- What a stand of the plain schedule can still need, and that each part of a round lowers it or changes nothing.
use Rattle.std.proofs.Common.{◌≡◌, ℕ, zero, suc, ◌+◌, ◌*◌, ◌≤◌, ◌⊎◌, inl, inr, Bool, true, false, if◌then◌else◌, List, [], ◌∷◌, slice_get, slice_set, length, Option, None, Some, is_some, refl, sym, ◌∙◌, ap, arith}
use Rattle.efi_status.specs.declared.Status.{Status}
use Rattle.history.specs.declared.entry.Entry.{Entry}
use Rattle.history.specs.declared.entry.Entry.TheVariants as entry
use Rattle.history.specs.declared.order.Order.{Order}
use Rattle.history.specs.declared.order.Order.TheVariants as order
use Rattle.history.specs.Eras.{is_present, media_id_of}
use Rattle.history.specs.Setup.{Setup, IsSetup}
use Rattle.history.specs.Tokens.{is_accept}
use Rattle.history.specs.Rules.{refusal_of}
use Rattle.history.specs.Next.{first_open, Turn, next_turn}
use Rattle.history_laws.proofs.WeightLemmas.{weight, weight-accept, weight-later, turn-falls}
use Rattle.disk_core.specs.Calls.{is_fetched}
use Rattle.shared_disk.specs.declared.clients.Stand.{Stand}
use Rattle.shared_disk.specs.Lines.{Role, view_of, payload_bytes, answer_of, is_view_open, is_insertable, entry_if, line_entry, with_line_entry, first_own_open}
use Rattle.device_workers.specs.Plain.{Progress, Taken, after_taking, with_own_collects, is_wait, after_wait, after_line, after_lines, put_left, after_line_if, after_line_of, after_lines_of_first, next_outcome, after_turn, after_turn_if, after_command, after_follow, after_step, a_round, line_rounds, lines_rounds, rounds}
use Rattle.device_workers.proofs.Collecting.{own-weight}

-- what a stand can still need
abbrev pub cost : Setup → Progress → ℕ
cost S s = weight S s.history + rounds s.lefts

-- a part of a round that changes nothing, or makes the stand lighter
abbrev pub Lightens : Setup → Progress → Progress → Type 0
Lightens S s s' = (s' ≡ s) ⊎ (cost S s' + 1 ≤ cost S s)

pub lightens-on : (S : Setup) (s t u : Progress) → Lightens S s t → Lightens S t u → Lightens S s u
lightens-on S s t u (inl same) (inl same') = inl (same' ∙ same)
lightens-on S s t u (inl same) (inr falls) = inr (let e : cost S t ≡ cost S s = ap (cost S) same in omega (arith, e, falls))
lightens-on S s t u (inr falls) (inl same') = inr (let e : cost S u ≡ cost S t = ap (cost S) same' in omega (arith, e, falls))
lightens-on S s t u (inr falls) (inr falls') = inr (omega (arith, falls, falls'))

after_turn-lightens : (S : Setup) → IsSetup S → (s : Progress) (turn : Turn) → next_turn S s.history ≡ Some turn → cost S (after_turn s turn) + 1 ≤ cost S s
after_turn-lightens S some s turn next = omega (arith, turn-falls S s.history turn (next_outcome s.outcomes) some next)

after_command-lightens : (S : Setup) → IsSetup S → (s : Progress) → cost S (after_command S s) ≤ cost S s
unfolding after_command
after_command-lightens S some s = by (next_turn S s.history) refl
  where
    by : (o : Option Turn) → next_turn S s.history ≡ o → cost S (after_turn_if s o) ≤ cost S s
    by None next = omega arith
    by (Some turn) next = omega (arith, after_turn-lightens S some s turn next)

-- a turn and what follows it at once
pub turned-lightens : (S : Setup) → IsSetup S → (s : Progress) (turn : Turn) → next_turn S s.history ≡ Some turn → cost S (after_step S s) + 1 ≤ cost S s
unfolding after_step
turned-lightens S some s turn next = rw next (by (is_fetched turn.command (next_outcome s.outcomes)))
  where
    by : (f : Bool) → cost S (after_follow S f (after_turn s turn)) + 1 ≤ cost S s
    by true = omega (arith, after_turn-lightens S some s turn next, after_command-lightens S some (after_turn s turn))
    by false = after_turn-lightens S some s turn next

pub step-none : (S : Setup) (s : Progress) → next_turn S s.history ≡ None → after_step S s ≡ s
unfolding after_step
step-none S s none = rw none refl

pub after_step-lightens : (S : Setup) → IsSetup S → (s : Progress) → Lightens S s (after_step S s)
after_step-lightens S some s = by (next_turn S s.history) refl
  where
    by : (o : Option Turn) → next_turn S s.history ≡ o → Lightens S s (after_step S s)
    by None next = inl (step-none S s next)
    by (Some turn) next = inr (turned-lightens S some s turn next)

lightens-if : (S : Setup) (H : List Entry) (b : Bool) (e : Entry) → is_accept e ≡ false → weight S (with_line_entry (entry_if b e) H) + 1 ≤ weight S H + 1
lightens-if S H true e other = omega (arith, weight-later S H e other)
lightens-if S H false e other = omega arith

-- the entry of a line
entry-lightens : (S : Setup) (H : List Entry) (tag : ℕ) (stand : Stand) (line : Order) → weight S (with_line_entry (line_entry S H tag stand line) H) + 1 ≤ weight S H + line_rounds line
unfolding line_entry
entry-lightens S H tag stand (order.Request asked payload k) = by (refusal_of S H (view_of S stand k) asked k)
  where
    by : (refusal : Option Status) → weight S (answer_of tag (view_of S stand k) asked (payload_bytes asked.length payload) k refusal ∷ H) + 1 ≤ weight S H + (2 + 2 * asked.length)
    by None = omega (arith, weight-accept S H tag (view_of S stand k) asked (payload_bytes asked.length payload))
    by (Some status) = omega (arith, weight-later S H (entry.Refuse tag (view_of S stand k) asked k status) refl)
entry-lightens S H tag stand order.Wait = omega arith
entry-lightens S H tag stand (order.Cancel k) = lightens-if S H (is_view_open S H (view_of S stand k)) (entry.Cancel tag (view_of S stand k)) refl
entry-lightens S H tag stand order.Reset = lightens-if S H (is_some (first_open S H)) (entry.Reset tag) refl
entry-lightens S H tag stand order.Eject = lightens-if S H (is_present H) (entry.Eject tag) refl
entry-lightens S H tag stand order.Insert = lightens-if S H (is_insertable S H) (entry.Insert tag (media_id_of H + 1)) refl
entry-lightens S H tag stand (order.Protect on) = omega (arith, weight-later S H (entry.Protect tag on) refl)

pub line-rounds-some : (line : Order) → 1 ≤ line_rounds line
line-rounds-some (order.Request asked payload k) = omega arith
line-rounds-some order.Wait = omega arith
line-rounds-some (order.Cancel k) = omega arith
line-rounds-some order.Reset = omega arith
line-rounds-some order.Eject = omega arith
line-rounds-some order.Insert = omega arith
line-rounds-some (order.Protect on) = omega arith

-- what a client can still need together with the entries
abbrev pub lines_cost : Setup → List Entry → List Order → ℕ
lines_cost S H orders = weight S H + lines_rounds orders

-- a client's line changes nothing, or makes the entries and its lines lighter
abbrev LightensLines : Setup → List Entry → List Order → Taken → Type 0
LightensLines S H orders made = (made ≡ after_taking H orders) ⊎ (lines_cost S made.history made.left + 1 ≤ lines_cost S H orders)

after_lines-lightens : (S : Setup) (H : List Entry) (tag : ℕ) (stand : Stand) (orders : List Order) → LightensLines S H orders (after_lines S H tag stand orders)
unfolding lines_rounds
after_lines-lightens S H tag stand [] = inl refl
after_lines-lightens S H tag stand (line ∷ rest) = by (is_wait line)
  where
    waits : (o : Option ℕ) → LightensLines S H (line ∷ rest) (after_wait o H tag line rest)
    waits (Some t) = inl refl
    waits None = inr (omega (arith, own-weight S H tag, line-rounds-some line))

    by : (b : Bool) → LightensLines S H (line ∷ rest) (if b then after_wait (first_own_open S H tag) H tag line rest else after_taking (with_line_entry (line_entry S H tag stand line) H) rest)
    by true = waits (first_own_open S H tag)
    by false = inr (omega (arith, entry-lightens S H tag stand line))

-- a line falls where its client may not have to wait
pub line-falls : (S : Setup) (H : List Entry) (tag : ℕ) (stand : Stand) (line : Order) (rest : List Order) → first_own_open S H tag ≡ None
    → lines_cost S (after_line S H tag stand line rest).history (after_line S H tag stand line rest).left + 1 ≤ lines_cost S H (line ∷ rest)
unfolding lines_rounds
line-falls S H tag stand line rest none = rw none (by (is_wait line))
  where
    by : (b : Bool) → lines_cost S (if b then after_taking (with_own_collects H tag) rest else after_taking (with_line_entry (line_entry S H tag stand line) H) rest).history (if b then after_taking (with_own_collects H tag) rest else after_taking (with_line_entry (line_entry S H tag stand line) H) rest).left + 1 ≤ weight S H + (line_rounds line + lines_rounds rest)
    by true = omega (arith, own-weight S H tag, line-rounds-some line)
    by false = omega (arith, entry-lightens S H tag stand line)

-- one role of the list is changed
rounds-set : (roles : List Role) (i : ℕ) (role new : Role) → slice_get roles i ≡ Some role → rounds (slice_set roles i new) + lines_rounds role.orders ≡ rounds roles + lines_rounds new.orders
unfolding rounds
rounds-set [] i role new there = cc
rounds-set (r ∷ roles) zero role new there = let same : r ≡ role = cc in omega (arith, ap (λ (x : Role). lines_rounds x.orders) same)
rounds-set (r ∷ roles) (suc i) role new there = omega (arith, rounds-set roles i role new there)

pub set-same : {X : Type 0} (xs : List X) (i : ℕ) (x : X) → slice_get xs i ≡ Some x → slice_set xs i x ≡ xs
set-same [] i x there = cc
set-same (y ∷ xs) zero x there = let same : y ≡ x = cc in ap (λ z. z ∷ xs) (sym same)
set-same (y ∷ xs) (suc i) x there = ap (λ zs. y ∷ zs) (set-same xs i x there)

-- a client that did nothing
pub put-same : (s : Progress) (i : ℕ) (role : Role) → slice_get s.lefts i ≡ Some role → put_left s i role (after_taking s.history role.orders) ≡ s
put-same s i role there = ap (λ (lefts : List Role). record s { lefts = lefts }) (set-same s.lefts i role there)

-- a client whose line made the entries and its lines lighter
pub put-falls : (S : Setup) (i : ℕ) (s : Progress) (role : Role) (made : Taken) → slice_get s.lefts i ≡ Some role → lines_cost S made.history made.left + 1 ≤ lines_cost S s.history role.orders → cost S (put_left s i role made) + 1 ≤ cost S s
put-falls S i s role made there falls = omega (arith, falls, rounds-set s.lefts i role (record role { orders = made.left }) there)

pub after_line_of-lightens : (S : Setup) (i : ℕ) (s : Progress) → Lightens S s (after_line_of S i s)
unfolding after_line_of
after_line_of-lightens S i s = by (slice_get s.lefts i) refl
  where
    lighter : (role : Role) → slice_get s.lefts i ≡ Some role → (made : Taken) → LightensLines S s.history role.orders made → Lightens S s (put_left s i role made)
    lighter role there made (inl same) = inl (ap (put_left s i role) same ∙ put-same s i role there)
    lighter role there made (inr falls) = inr (put-falls S i s role made there falls)

    by : (o : Option Role) → slice_get s.lefts i ≡ o → Lightens S s (after_line_if S i s o)
    by None there = inl refl
    by (Some role) there = lighter role there (after_lines S s.history (i + 1) role.stand role.orders) (after_lines-lightens S s.history (i + 1) role.stand role.orders)

pub first-lightens : (S : Setup) (n : ℕ) (s : Progress) → Lightens S s (after_lines_of_first S n s)
unfolding after_lines_of_first
first-lightens S zero s = inl refl
first-lightens S (suc n) s = lightens-on S s (after_lines_of_first S n s) (after_line_of S n (after_lines_of_first S n s)) (first-lightens S n s) (after_line_of-lightens S n (after_lines_of_first S n s))

pub round-lightens : (S : Setup) → IsSetup S → (s : Progress) → Lightens S s (a_round S s)
round-lightens S some s =
    lightens-on S s (after_lines_of_first S (length s.lefts) s) (a_round S s) (first-lightens S (length s.lefts) s) (after_step-lightens S some (after_lines_of_first S (length s.lefts) s))
