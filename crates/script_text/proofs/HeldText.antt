-- Fronts of a text on its way to a sink.
use Rattle.std.proofs.Common.{◌≡◌, ℕ, List, [], ◌++◌, Option, None, Some, Result, Ok, Err, refl, ap, sym, ◌∙◌, append_assoc}
use Rattle.std.proofs.lemmas.List.{append-nil}
use Rattle.image_store.specs.Edge.{Appends, AppendsUpTo, AppendsFront, PutsText}

appends_nothing : (w : Option (List ℕ)) → Appends w w []
unfolding Appends
appends_nothing None = refl
appends_nothing (Some w) = ap Some (sym (append-nil w))

-- nothing was put, and all is held
pub still_held : (old : Option (List ℕ)) (whole held : List ℕ) → held ≡ whole → AppendsUpTo old old whole held
still_held old whole held is = record { front = []; is = sym is; appended = appends_nothing old }

pub none_put : (old : Option (List ℕ)) (whole : List ℕ) → AppendsFront old old whole
none_put old whole = (whole, still_held old whole whole refl)

-- all was put, and nothing is held
pub all_put : (old new : Option (List ℕ)) (whole held : List ℕ) → Appends old new whole → held ≡ [] → AppendsUpTo old new whole held
all_put old new whole held put is = record { front = whole; is = rw is (sym (append-nil whole)); appended = put }

-- one text after another
appends_both : (w0 w1 w2 : Option (List ℕ)) (a b : List ℕ) → Appends w0 w1 a → Appends w1 w2 b → Appends w0 w2 (a ++ b)
unfolding Appends
appends_both None w1 w2 a b one two = rw one at two
appends_both (Some w) w1 w2 a b one two =
    let then : w2 ≡ Some ((w ++ a) ++ b) = rw one at two in
    then ∙ ap Some (append_assoc w a b)

-- what is put of a held text and a further line belongs to the whole
pub then_more : (w0 w1 w2 : Option (List ℕ)) (whole held line rest : List ℕ) → AppendsUpTo w0 w1 whole held → AppendsUpTo w1 w2 (held ++ line) rest → AppendsUpTo w0 w2 (whole ++ line) rest
then_more w0 w1 w2 whole held line rest one two = record {
  front = one.front ++ two.front;
  is = ap (λ l. l ++ line) one.is ∙ append_assoc one.front held line ∙ ap (λ l. one.front ++ l) two.is ∙ sym (append_assoc one.front two.front rest);
  appended = appends_both w0 w1 w2 one.front two.front one.appended two.appended;
}

-- a front of some text is a front of more
pub front_of_more : (w0 w1 : Option (List ℕ)) (text more : List ℕ) → AppendsFront w0 w1 text → AppendsFront w0 w1 (text ++ more)
front_of_more w0 w1 text more (rest, up) = (
  rest ++ more,
  record {
    front = up.front;
    is = ap (λ l. l ++ more) up.is ∙ append_assoc up.front rest more;
    appended = up.appended;
  },
)

-- all that was held is put
pub puts_held : {E : Type 0} (w0 w1 w2 : Option (List ℕ)) (whole held : List ℕ) (result : Result (Unit {0}) E) → AppendsUpTo w0 w1 whole held → PutsText w1 w2 result held → PutsText w0 w2 result whole
puts_held w0 w1 w2 whole held (Ok done) one two = rw one.is (appends_both w0 w1 w2 one.front held one.appended two)
puts_held w0 w1 w2 whole held (Err fault) one (rest, two) = (
  rest,
  record {
    front = one.front ++ two.front;
    is = one.is ∙ ap (λ l. one.front ++ l) two.is ∙ sym (append_assoc one.front two.front rest);
    appended = appends_both w0 w1 w2 one.front two.front one.appended two.appended;
  },
)
