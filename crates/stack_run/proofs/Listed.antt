-- The lines of paths.
use Rattle.std.proofs.Common.{◌≡◌, ℕ, ◌+◌, ◌<◌, ◌≤◌, List, [], ◌∷◌, ◌++◌, length, take, get_or, codes, refl, ap, sym, ◌∙◌, append_assoc, arith}
use Rattle.std.proofs.lemmas.List.{append-nil, take_more, take_all}
use Rattle.partition_tables.specs.declared.table.Child.{Child}
use Rattle.script_text.specs.Text.{line_of, lines_text}
use Rattle.stack_run.specs.Listing.{path_text, paths_text}

-- a line that was put together of its number, its digits and its text
pub joined : (number digits text head line : List ℕ) → head ≡ codes "path " ++ (number ++ 32 ∷ (digits ++ 32 ∷ [])) → line ≡ (head ++ text) ++ 10 ∷ [] → line ≡ line_of (codes "path" ∷ number ∷ digits ∷ text ∷ [])
unfolding line_of
joined number digits text head line begins is =
    let last : List ℕ = text ++ 10 ∷ [] in
    let parts : ((number ++ 32 ∷ (digits ++ 32 ∷ [])) ++ text) ++ 10 ∷ [] ≡ number ++ 32 ∷ (digits ++ 32 ∷ last) =
    append_assoc (number ++ 32 ∷ (digits ++ 32 ∷ [])) text (10 ∷ [])
    ∙ (append_assoc number (32 ∷ (digits ++ 32 ∷ [])) last ∙ ap (λ l. number ++ 32 ∷ l) (append_assoc digits (32 ∷ []) last)) in
    is ∙ (ap (λ l. (l ++ text) ++ 10 ∷ []) begins ∙ ap (λ l. codes "path " ++ l) parts)

paths-behind : (place : ℕ) (children : List Child) (child : Child) → lines_text (λ place child. path_text child) place (children ++ child ∷ []) ≡ lines_text (λ place child. path_text child) place children ++ path_text child
unfolding lines_text
paths-behind place [] child = append-nil (path_text child)
paths-behind place (first ∷ more) child =
    ap (λ l. path_text first ++ l) (paths-behind (place + 1) more child)
    ∙ sym (append_assoc (path_text first) (lines_text (λ place child. path_text child) (place + 1) more) (path_text child))

-- one more child
pub paths-next : (children : List Child) (i : ℕ) (child : Child) → i < length children → child ≡ get_or children i child → paths_text (take (i + 1) children) ≡ paths_text (take i children) ++ path_text child
paths-next children i child inside is =
    let more : take (i + 1) children ≡ take i children ++ child ∷ [] = take_more children i child inside ∙ ap (λ y. take i children ++ y ∷ []) (sym is) in
    ap paths_text more ∙ paths-behind 0 (take i children) child

pub no-paths : [] ≡ paths_text []
unfolding lines_text
no-paths = refl
