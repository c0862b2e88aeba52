-- The rows of files name the size of a block.
use Rattle.std.proofs.Common.{◌≡◌, ℕ, Bool, true, false, if◌then◌else◌, ◌∷◌, [], List, Option, None, Some, codes, bytes_eq, refl, sym, ◌∙◌, subst}
use Rattle.std.specs.Prelude.{IfSome}
use Rattle.std.specs.List.{list_any}
use Rattle.medium.specs.Device.{IsBlockSize, is_block_size}
use Rattle.script_text.specs.Words.{number_of}
use Rattle.stack_run.specs.declared.words.Row.{Row}
use Rattle.stack_run.specs.declared.words.Row.TheVariants as row
use Rattle.stack_run.specs.Words.{is_dashed, is_file, are_counts, if_size, block_size_of, file_size, sized_row, counted_row, generated_row, row_by, row_of, IfProbe}

abbrev pub IsSized : Option Row → Type 0
IsSized o = IfProbe o (λ what name size. IsBlockSize size)

sized-if : (n : ℕ) (b : Bool) → is_block_size n ≡ b → IfSome (if b then Some n else None) (λ m. IsBlockSize m)
sized-if n true is = is
sized-if n false is = tt

size-sized : (o : Option ℕ) → IfSome (if_size o) (λ m. IsBlockSize m)
size-sized None = tt
size-sized (Some n) = sized-if n (is_block_size n) refl

some-if : (b : Bool) (o : Option ℕ) → IfSome o (λ m. IsBlockSize m) → IfSome (if b then o else None) (λ m. IsBlockSize m)
some-if true o is = is
some-if false o is = tt

probe-sized : (file : List ℕ) (o : Option ℕ) → IfSome o (λ m. IsBlockSize m) → IsSized (sized_row (row.Probe file) o)
probe-sized file None is = tt
probe-sized file (Some n) is = is

paths-sized : (file : List ℕ) (o : Option ℕ) → IfSome o (λ m. IsBlockSize m) → IsSized (sized_row (row.Paths file) o)
paths-sized file None is = tt
paths-sized file (Some n) is = is

row-if : (b : Bool) (o p : Option Row) → IsSized o → IsSized p → IsSized (if b then o else p)
row-if true o p is or = is
row-if false o p is or = or

counted-sized : (number clients lines : Option ℕ) → IsSized (counted_row number clients lines)
counted-sized None clients lines = tt
counted-sized (Some a) None lines = tt
counted-sized (Some a) (Some b) None = tt
counted-sized (Some a) (Some b) (Some c) = row-if (are_counts b c) (Some (row.Generated a b c)) None tt tt

by-sized : (words : List (List ℕ)) → IsSized (row_by words)
unfolding row_by generated_row file_size block_size_of
by-sized [] = tt
by-sized (word ∷ []) = row-if (bytes_eq word (codes "plain")) (Some row.Plain) None tt tt
by-sized (word ∷ file ∷ []) = tt
by-sized (word ∷ file ∷ size ∷ []) =
    let told = some-if (is_file file) (if_size (number_of size)) (size-sized (number_of size)) in
    row-if (bytes_eq word (codes "probe")) _ _ (probe-sized file _ told) (row-if (bytes_eq word (codes "paths")) _ None (paths-sized file _ told) tt)
by-sized (word ∷ number ∷ clients ∷ lines ∷ []) =
    row-if (bytes_eq word (codes "gen")) _ None (counted-sized (number_of number) (number_of clients) (number_of lines)) tt
by-sized (word ∷ number ∷ clients ∷ lines ∷ other ∷ more) = tt

-- the size of a row is that of blocks
row-sized : (words : List (List ℕ)) → IsSized (row_of words)
unfolding row_of
row-sized words = row-if (list_any is_dashed words) None (row_by words) tt (by-sized words)

pub sized-so : (words : List (List ℕ)) (told : Option Row) (one : Row) → told ≡ row_of words → told ≡ Some one → IsSized (Some one)
sized-so words told one same is = subst IsSized (sym same ∙ is) (row-sized words)
