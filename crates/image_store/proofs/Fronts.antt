-- Fronts of what is put into a sink or taken out of a source.
use Rattle.std.proofs.Common.{◌≡◌, ℕ, ◌+◌, ◌<◌, ◌≤◌, List, [], ◌++◌, length, take, drop, None, Some, refl, ap, sym, arith}
use Rattle.std.proofs.lemmas.Grind.{common_steps}
use Rattle.std.proofs.lemmas.List.{append-nil, drop-drop, take-append-drop, take_at, drop_all}
use Rattle.image_store.specs.Edge.{Appends, AppendsFront, TakesFront}

-- nothing was put
pub none_put : (kept new b : List ℕ) → new ≡ kept → AppendsFront (Some kept) (Some new) b
unfolding Appends
none_put kept new b same = (b, record { front = []; is = refl; appended = rw same (ap Some (sym (append-nil kept))) })

-- it is not told what was put
pub untold_put : (b : List ℕ) → AppendsFront None None b
unfolding Appends
untold_put b = (b, record { front = []; is = refl; appended = refl })

-- the next n bytes were copied to the front of out
pub front_taken : (bytes copied out : List ℕ) (at n : ℕ) → copied ≡ take n (drop at bytes) → length copied ≡ n → n ≤ length out → (n ≡ 0 → 0 < length out → length bytes ≤ at) → (n ≤ length (copied ++ drop n out)) × TakesFront (Some (drop at bytes)) (Some (drop (at + n) bytes)) n (copied ++ drop n out)
unfolding TakesFront
front_taken bytes copied out at n same long fits end =
    let joined : drop at bytes ≡ copied ++ drop (at + n) bytes = rw (same, ← drop-drop n at bytes) (sym (take-append-drop n (drop at bytes))) in
    let front : take n (copied ++ drop n out) ≡ copied = take_at copied (drop n out) n long in
    let size : length (copied ++ drop n out) ≡ length out = grind (arith, common_steps) in
    (omega arith, (drop (at + n) bytes, refl, rw front joined, λ none some. drop_all at bytes (end none (omega arith))))
