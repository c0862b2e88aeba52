-- How each entry changes what is counted.
use Rattle.std.proofs.Common.{◌≡◌, ℕ, ◌+◌, ◌≤◌, Bool, true, false, if◌then◌else◌, List, [], ◌∷◌, ◌++◌, length, refl, arith}
use Rattle.std.specs.List.{count_by}
use Rattle.std.proofs.lemmas.List.Sums.{sum_by-cons, sum_by-le-sum_by, count_by-le-length}
use Rattle.history.specs.declared.entry.Entry.{Entry}
use Rattle.history.specs.declared.entry.Entry.TheVariants.{Done, Fault}
use Rattle.history.specs.Tokens.{is_accept, token_count}
use Rattle.history.specs.Eras.{is_eject, is_insert, is_command, is_fault, ejects, inserts}
use Rattle.history.specs.Marks.{is_fetch_entry, fetches}
use Rattle.history.specs.Room.{is_command_of, commands, faults, commands_of}

-- one that passes the test counts
pub count-more : {X : Type 0} (test : X → Bool) (x : X) (xs : List X) → test x ≡ true → count_by test (x ∷ xs) ≡ count_by test xs + 1
count-more test x xs passes = rw (sum_by-cons, passes) (omega arith)

-- another does not
pub count-same : {X : Type 0} (test : X → Bool) (x : X) (xs : List X) → test x ≡ false → count_by test (x ∷ xs) ≡ count_by test xs
count-same test x xs fails = rw (sum_by-cons, fails) (omega arith)

-- a test that is harder counts less
pub count-less : {X : Type 0} (test easier : X → Bool) (xs : List X) → ((x : X) → test x ≡ true → easier x ≡ true) → count_by test xs ≤ count_by easier xs
count-less {X} test easier xs implies = sum_by-le-sum_by _ _ xs (λ x. by (test x) (easier x) (implies x))
  where
    by : (p q : Bool) → (p ≡ true → q ≡ true) → (if p then 1 else 0) ≤ (if q then 1 else 0)
    by true true is = omega arith
    by true false is = let no_way : false ≡ true = is refl in cc
    by false true is = omega arith
    by false false is = omega arith

pub accepted-none : token_count [] ≡ 0
unfolding token_count
accepted-none = refl

pub accepted-more : (H : List Entry) (e : Entry) → is_accept e ≡ true → token_count (e ∷ H) ≡ token_count H + 1
unfolding token_count
accepted-more H e is = count-more is_accept e H is

pub accepted-same : (H : List Entry) (e : Entry) → is_accept e ≡ false → token_count (e ∷ H) ≡ token_count H
unfolding token_count
accepted-same H e is = count-same is_accept e H is

pub ejects-none : ejects [] ≡ 0
unfolding ejects
ejects-none = refl

pub ejects-more : (H : List Entry) (e : Entry) → is_eject e ≡ true → ejects (e ∷ H) ≡ ejects H + 1
unfolding ejects
ejects-more H e is = count-more is_eject e H is

pub ejects-same : (H : List Entry) (e : Entry) → is_eject e ≡ false → ejects (e ∷ H) ≡ ejects H
unfolding ejects
ejects-same H e is = count-same is_eject e H is

pub inserts-none : inserts [] ≡ 0
unfolding inserts
inserts-none = refl

pub inserts-more : (H : List Entry) (e : Entry) → is_insert e ≡ true → inserts (e ∷ H) ≡ inserts H + 1
unfolding inserts
inserts-more H e is = count-more is_insert e H is

pub inserts-same : (H : List Entry) (e : Entry) → is_insert e ≡ false → inserts (e ∷ H) ≡ inserts H
unfolding inserts
inserts-same H e is = count-same is_insert e H is

pub commands-none : commands [] ≡ 0
unfolding commands
commands-none = refl

pub commands-more : (H : List Entry) (e : Entry) → is_command e ≡ true → commands (e ∷ H) ≡ commands H + 1
unfolding commands
commands-more H e is = count-more is_command e H is

pub commands-same : (H : List Entry) (e : Entry) → is_command e ≡ false → commands (e ∷ H) ≡ commands H
unfolding commands
commands-same H e is = count-same is_command e H is

pub faults-more : (H : List Entry) (e : Entry) → is_fault e ≡ true → faults (e ∷ H) ≡ faults H + 1
unfolding faults
faults-more H e is = count-more is_fault e H is

pub faults-same : (H : List Entry) (e : Entry) → is_fault e ≡ false → faults (e ∷ H) ≡ faults H
unfolding faults
faults-same H e is = count-same is_fault e H is

pub fetches-more : (H : List Entry) (e : Entry) → is_fetch_entry e ≡ true → fetches (e ∷ H) ≡ fetches H + 1
unfolding fetches
fetches-more H e is = count-more is_fetch_entry e H is

pub fetches-same : (H : List Entry) (e : Entry) → is_fetch_entry e ≡ false → fetches (e ∷ H) ≡ fetches H
unfolding fetches
fetches-same H e is = count-same is_fetch_entry e H is

pub commands_of-more : (H : List Entry) (e : Entry) (t : ℕ) → is_command_of t e ≡ true → commands_of (e ∷ H) t ≡ commands_of H t + 1
unfolding commands_of
commands_of-more H e t is = count-more (is_command_of t) e H is

pub commands_of-same : (H : List Entry) (e : Entry) (t : ℕ) → is_command_of t e ≡ false → commands_of (e ∷ H) t ≡ commands_of H t
unfolding commands_of
commands_of-same H e t is = count-same (is_command_of t) e H is

-- a history has no more commands than entries
pub commands-few : (H : List Entry) → commands H ≤ length H
unfolding commands
commands-few H = count_by-le-length is_command H

-- and no more faults than commands
pub faults-few : (H : List Entry) → faults H ≤ commands H
unfolding commands faults
faults-few H = count-less is_fault is_command H by
  where
    by : (e : Entry) → is_fault e ≡ true → is_command e ≡ true
    by (Fault t c done) is = refl
    by (Done t c) is = refl
    by e is = cc

faults-none : faults [] ≡ 0
unfolding faults
faults-none = refl

-- the faults of two lists of entries
pub faults-both : (fresh H : List Entry) → faults (fresh ++ H) ≡ faults fresh + faults H
faults-both [] H = omega (arith, faults-none)
faults-both (e ∷ fresh) H = by (is_fault e) refl (faults-both fresh H)
  where
    by : (b : Bool) → is_fault e ≡ b → faults (fresh ++ H) ≡ faults fresh + faults H → faults (e ∷ (fresh ++ H)) ≡ faults (e ∷ fresh) + faults H
    by true is both = omega (arith, faults-more (fresh ++ H) e is, faults-more fresh e is, both)
    by false is both = omega (arith, faults-same (fresh ++ H) e is, faults-same fresh e is, both)
