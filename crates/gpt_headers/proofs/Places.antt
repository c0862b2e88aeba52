-- Lists made place by place: a list of flags that grows by one, and the units of a name.
use Rattle.std.proofs.Common.{◌≡◌, ℕ, zero, suc, ◌+◌, ◌*◌, ◌<◌, List, [], ◌∷◌, ◌++◌, map, length, take, drop, get_or, sym, ap, ◌∙◌, arith, add-one, zero-add}
use Rattle.std.specs.List.{enumerate_from}
use Rattle.std.proofs.lemmas.Grind.{common_steps}
use Rattle.std.proofs.lemmas.List.FromFn.{fill_by_all}
use Rattle.byteorder.specs.Endian.{IsRead, little_number}
use Rattle.gpt_headers.specs.Fields.{number_at}
use Rattle.gpt_headers.specs.Name.{name_units}

-- one more of the elements with their places
map-enumerate_more : {X Y : Type 0} (f : ℕ × X → Y) (n i : ℕ) (xs : List X) (d : X) → i < length xs
    → map f (enumerate_from n (take (suc i) xs)) ≡ map f (enumerate_from n (take i xs)) ++ f (n + i, get_or xs i d) ∷ []
map-enumerate_more f n i [] d h = absurd (omega arith)
map-enumerate_more f n zero (x ∷ xs) d h = ap (λ k. f (k, x) ∷ []) (omega arith)
map-enumerate_more f n (suc i) (x ∷ xs) d h =
    let next = map-enumerate_more f (n + 1) i xs d (omega arith) in
    ap (λ l. f (n, x) ∷ l) (next ∙ ap (λ k. map f (enumerate_from (n + 1) (take i xs)) ++ f (k, get_or xs i d) ∷ []) (omega arith))

-- the flags of the elements so far, and that of the next one
pub flags_more : {X Y : Type 0} (f : ℕ × X → Y) (i : ℕ) (xs : List X) (d : X) (flags : List Y) (flag : Y) → i < length xs
    → flags ≡ map f (enumerate_from 0 (take i xs)) → flag ≡ f (i, get_or xs i d)
    → flags ++ flag ∷ [] ≡ map f (enumerate_from 0 (take (i + 1) xs))
flags_more f i xs d flags flag h so_far next =
    rw (so_far, next, add-one) (rw (zero-add i) at (sym (map-enumerate_more f 0 i xs d h)))

-- the number after so many bytes, by its place
unit_is : (k : ℕ) (bytes : List ℕ) → little_number 2 (drop (2 * k) bytes) ≡ number_at (2 * k) 2 bytes
unit_is k bytes = grind (arith, common_steps)

-- units that were read one by one
pub units_read : (bytes units : List ℕ) → length units ≡ 36 → IsRead (λ n xs. little_number n xs) 2 bytes units → units ≡ name_units bytes
unfolding name_units
units_read bytes units long read =
    fill_by_all (λ k. number_at (2 * k) 2 bytes) units 36 0 long (λ k h. read k (omega arith) ∙ unit_is k bytes)
