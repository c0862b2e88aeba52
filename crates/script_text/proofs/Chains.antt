-- Which way a chain of steps came to its answer.
use Rattle.std.proofs.Common.{◌≡◌, Bool, true, false, ◌&&◌, not, ◌||◌, if◌then◌else◌, ok_or, Option, None, Some, Result, Ok, Err, refl, ap}
use Rattle.script_text.specs.Replies.{◌>>=◌}

pub then_ok : {A E : Type 0} (b : Bool) (x : Result A E) (e : E) (y : A) → (if b then x else Err e) ≡ Ok y → (b ≡ true) × (x ≡ Ok y)
then_ok true x e y is = (refl, is)
then_ok false x e y is = absurd (cc)

pub else_ok : {A E : Type 0} (b : Bool) (x : Result A E) (e : E) (y : A) → (if b then Err e else x) ≡ Ok y → (b ≡ false) × (x ≡ Ok y)
else_ok true x e y is = absurd (cc)
else_ok false x e y is = (refl, is)

pub either_ok : {A E : Type 0} (b : Bool) (x z : Result A E) (y : A) (Q : Type 0) → (x ≡ Ok y → Q) → (z ≡ Ok y → Q) → (if b then x else z) ≡ Ok y → Q
either_ok true x z y Q one other is = one is
either_ok false x z y Q one other is = other is

pub next_ok : {A B E : Type 0} (r : Result A E) (f : A → Result B E) (y : B) → (r >>= f) ≡ Ok y → (x : A) × (r ≡ Ok x) × (f x ≡ Ok y)
next_ok (Ok x) f y is = (x, refl, is)
next_ok (Err e) f y is = absurd (cc)

pub some_ok : {A E : Type 0} (o : Option A) (e : E) (x : A) → ok_or o e ≡ Ok x → o ≡ Some x
some_ok None e x is = absurd (cc)
some_ok (Some y) e x is = ap Some (let same : y ≡ x = cc in same)

pub ok_same : {A E : Type 0} (x y : A) → ◌≡◌ {A = Result A E} (Ok x) (Ok y) → x ≡ y
ok_same x y is = cc

pub never_ok : {A E : Type 0} (e : E) (y : A) (Q : Type 0) → ◌≡◌ {A = Result A E} (Err e) (Ok y) → Q
never_ok e y Q is = absurd (cc)

pub both_true : (a b : Bool) → (a && b) ≡ true → (a ≡ true) × (b ≡ true)
both_true true b is = (refl, is)
both_true false b is = absurd (cc)

pub none_true : (a b : Bool) → (a || b) ≡ false → (a ≡ false) × (b ≡ false)
none_true true b is = absurd (cc)
none_true false b is = (refl, is)

pub was_true : (b : Bool) → not b ≡ false → b ≡ true
was_true true is = refl
was_true false is = absurd (cc)
