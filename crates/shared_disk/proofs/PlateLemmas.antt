-- The log of a desk has its entries, and the lines done of each client.
use Rattle.std.proofs.Common.{◌≡◌, ℕ, zero, suc, ◌+◌, ◌<◌, List, [], ◌∷◌, ◌++◌, ◌^◌, length, map, replicate, refl, ap, Bool, true, false, arith}
use Rattle.std.specs.Prelude.{sum_by, nat_eq, if◌then◌else◌, slice_get, Some, ◌≤◌, vec_len}
use Rattle.std.proofs.lemmas.List.{length-append, length-map, length-replicate}
use Rattle.std.proofs.lemmas.Bool.{eq-eqb, ne_eqb}
use Rattle.std.proofs.lemmas.List.Sums.{sum_by-cons}
use Rattle.history.specs.declared.entry.Entry.{Entry}
use Rattle.history.specs.Setup.{Setup}
use Rattle.shared_disk.specs.declared.books.Books.{Books}
use Rattle.shared_disk.specs.Inside.{AreBooksSound}
use Rattle.shared_disk.specs.declared.log_rule.Item.{Item}
use Rattle.shared_disk.specs.declared.log_rule.Item.TheVariants.{Happened, LineOf}
use Rattle.shared_disk.specs.declared.books.Course.{Course}
use Rattle.shared_disk.specs.declared.clients.Client.{Client}
use Rattle.shared_disk.specs.Desk.{DeskState}
use Rattle.shared_disk.specs.Script.{places_at}
use Rattle.shared_disk.specs.Log.{logged_entries, line_count_of}
use Rattle.shared_disk.specs.Plate.{lines_from, log_of, IsLogOf}

entries-append : (xs ys : List Item) → logged_entries (xs ++ ys) ≡ logged_entries xs ++ logged_entries ys
unfolding logged_entries
entries-append [] ys = refl
entries-append (Happened e ∷ xs) ys = ap (λ es. e ∷ es) (entries-append xs ys)
entries-append (LineOf k ∷ xs) ys = entries-append xs ys

entries-happened : (H : List Entry) → logged_entries (map Happened H) ≡ H
unfolding logged_entries
entries-happened [] = refl
entries-happened (e ∷ H) = ap (λ es. e ∷ es) (entries-happened H)

no-entries : (n tag : ℕ) → logged_entries (replicate n (LineOf tag)) ≡ []
unfolding logged_entries
no-entries zero tag = refl
no-entries (suc n) tag = no-entries n tag

lines-append : (k : ℕ) (xs ys : List Item) → line_count_of k (xs ++ ys) ≡ line_count_of k xs + line_count_of k ys
unfolding line_count_of
lines-append k [] ys = omega arith
lines-append k (Happened e ∷ xs) ys = lines-append k xs ys
lines-append k (LineOf j ∷ xs) ys = by (nat_eq j k) (lines-append k xs ys)
  where
    by : (b : Bool) → line_count_of k (xs ++ ys) ≡ line_count_of k xs + line_count_of k ys
        → (if b then suc (line_count_of k (xs ++ ys)) else line_count_of k (xs ++ ys)) ≡ (if b then suc (line_count_of k xs) else line_count_of k xs) + line_count_of k ys
    by true h = omega (arith, h)
    by false h = h

no-lines : (k : ℕ) (H : List Entry) → line_count_of k (map Happened H) ≡ 0
unfolding line_count_of
no-lines k [] = refl
no-lines k (e ∷ H) = no-lines k H

own-lines : (n k tag : ℕ) → tag ≡ k → line_count_of k (replicate n (LineOf tag)) ≡ n
unfolding line_count_of
own-lines zero k tag same = refl
own-lines (suc n) k tag same = rw (eq-eqb tag k same) (ap (λ m. suc m) (own-lines n k tag same))

other-lines : (n k tag : ℕ) → (tag ≡ k → ⊥) → line_count_of k (replicate n (LineOf tag)) ≡ 0
unfolding line_count_of
other-lines zero k tag apart = refl
other-lines (suc n) k tag apart = rw (ne_eqb tag k apart) (other-lines n k tag apart)

-- the lines of an older tag are not among them
later-lines : (k tag : ℕ) (rows : List (List ℕ)) → k < tag → line_count_of k (lines_from tag rows) ≡ 0
unfolding line_count_of lines_from
later-lines k tag [] less = refl
later-lines k tag (places ∷ rest) less =
    let a = lines-append k (lines_from (suc tag) rest) (replicate (length places) (LineOf tag)) in
    let b = later-lines k (suc tag) rest (omega (arith, less)) in
    let c = other-lines (length places) k tag (λ e. omega (arith, less, e)) in omega (arith, a, b, c)

-- each client's are as many as its places
lines-from : (k tag i : ℕ) (rows : List (List ℕ)) → k ≡ i + tag → line_count_of k (lines_from tag rows) ≡ length (places_at rows i)
unfolding line_count_of lines_from
lines-from k tag i [] is = refl
lines-from k tag zero (places ∷ rest) is =
    let a = lines-append k (lines_from (suc tag) rest) (replicate (length places) (LineOf tag)) in
    let b = later-lines k (suc tag) rest (omega (arith, is)) in
    let c = own-lines (length places) k tag (omega (arith, is)) in
    let here : line_count_of k (lines_from (suc tag) rest ++ replicate (length places) (LineOf tag)) ≡ length places = omega (arith, a, b, c) in here
lines-from k tag (suc i) (places ∷ rest) is =
    let a = lines-append k (lines_from (suc tag) rest) (replicate (length places) (LineOf tag)) in
    let b = lines-from k (suc tag) i rest (omega (arith, is)) in
    let c = other-lines (length places) k tag (λ e. omega (arith, is, e)) in
    let here : line_count_of k (lines_from (suc tag) rest ++ replicate (length places) (LineOf tag)) ≡ length (places_at rest i) = omega (arith, a, b, c) in here

no-entries-from : (tag : ℕ) (rows : List (List ℕ)) → logged_entries (lines_from tag rows) ≡ []
unfolding logged_entries lines_from
no-entries-from tag [] = refl
no-entries-from tag (places ∷ rest) = rw (entries-append (lines_from (suc tag) rest) (replicate (length places) (LineOf tag)), no-entries-from (suc tag) rest) (no-entries (length places) tag)

long-from : (tag : ℕ) (rows : List (List ℕ)) → length (lines_from tag rows) ≡ sum_by length rows
unfolding lines_from
long-from tag [] = refl
long-from tag (places ∷ rest) =
    let a = length-append (lines_from (suc tag) rest) (replicate (length places) (LineOf tag)) in
    let b = length-replicate (length places) (LineOf tag) in
    let c = long-from (suc tag) rest in
    let d = sum_by-cons length places rest in
    let here : length (lines_from (suc tag) rest ++ replicate (length places) (LineOf tag)) ≡ sum_by length (places ∷ rest) = omega (arith, a, b, c, d) in here

pub log-of : (s : DeskState) → IsLogOf s (log_of s)
log-of s = record {
  entries = rw (entries-append (lines_from 1 s.places) (map Happened s.disk.entries), no-entries-from 1 s.places) (entries-happened s.disk.entries);
  lines = λ i. let a = lines-append (i + 1) (lines_from 1 s.places) (map Happened s.disk.entries) in let b = lines-from (i + 1) 1 i s.places refl in let c = no-lines (i + 1) s.disk.entries in omega (arith, a, b, c);
  long = let a = length-append (lines_from 1 s.places) (map Happened s.disk.entries) in let b = long-from 1 s.places in let c = length-map s.disk.entries Happened in omega (arith, a, b, c);
}

-- the clients have done no more lines than they have
few-lines : (clients : List Client) (courses : List Course) → length courses ≡ length clients
    → ((i : ℕ) (client : Client) (c : Course) → slice_get clients i ≡ Some client → slice_get courses i ≡ Some c → length c.places.items ≤ length client.orders.items)
    → sum_by (λ (course : Course). vec_len course.places) courses ≤ sum_by (λ (client : Client). length client.orders.items) clients
few-lines clients [] same few = omega arith
few-lines [] (c ∷ courses) same few = absurd (omega (arith, same))
few-lines (client ∷ clients) (c ∷ courses) same few =
    let rest = few-lines clients courses (omega (arith, same)) (λ i a b at there. few (suc i) a b at there) in
    let one : vec_len c.places ≤ length client.orders.items = let own = few 0 client c refl refl in let long = c.places.ok.0 in omega (arith, own, long) in
    let done = sum_by-cons (λ (course : Course). vec_len course.places) c courses in
    let all = sum_by-cons (λ (client : Client). length client.orders.items) client clients in omega (arith, rest, one, done, all)

-- so at most as many as a desk may have
pub few-places : (S : Setup) (H : List Entry) (b : Books) → AreBooksSound S H b → sum_by (λ (course : Course). vec_len course.places) b.courses.items ≤ 2 ^ 32
few-places S H b sound = let done = few-lines b.clients.items b.courses.items sound.paired (λ i client c at there. (sound.courses i client c at there).few) in omega (arith, done, sound.lines)

pub done-places : (courses : List Course) → sum_by (λ (course : Course). vec_len course.places) courses ≡ sum_by length (map (λ (course : Course). course.places.items) courses)
done-places [] = refl
done-places (c ∷ courses) =
    let rest = done-places courses in
    let done = sum_by-cons (λ (course : Course). vec_len course.places) c courses in
    let long = c.places.ok.0 in
    let all = sum_by-cons length c.places.items (map (λ (course : Course). course.places.items) courses) in
    let here : sum_by (λ (course : Course). vec_len course.places) (c ∷ courses) ≡ sum_by length (c.places.items ∷ map (λ (course : Course). course.places.items) courses) = omega (arith, rest, done, all, long) in here
