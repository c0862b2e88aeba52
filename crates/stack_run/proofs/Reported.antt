-- A report that is written in two parts.
use Rattle.std.proofs.Common.{◌≡◌, ℕ, ◌+◌, ◌<◌, List, [], ◌++◌, ◌∷◌, ◌*◌, map, length, take, get_or, slice_get, slice_index_or, Option, None, Some, Result, Ok, Err, refl, sym, ◌∙◌, ap, subst, arith, append_assoc, length-take}
use Rattle.std.proofs.lemmas.List.{append-nil, take_more}
use Rattle.image_store.specs.Edge.{Appends, AppendsFront, PutsText}
use Rattle.disk_split.specs.declared.geometry.Geometry.{Geometry}
use Rattle.history.specs.declared.entry.Entry.{Entry}
use Rattle.history.specs.Setup.{Setup, Opening, opening_blocks, blocks_of, per_of}
use Rattle.script_text.specs.declared.language.plans.DiskPlan.{DiskPlan}
use Rattle.script_text.specs.Report.{head_text, body_text}
use Rattle.stack_run.specs.Media.{media_names, groups_of}
use Rattle.stack_run.specs.Serving.{kept_media, blocks_in, disk_report}
use Rattle.stack_run.specs.Reporting.{name_at}

-- nothing was written
pub nothing-written : (told : Option (List ℕ)) (text : List ℕ) → AppendsFront told told text
unfolding Appends
nothing-written None text = (text, record { front = []; is = refl; appended = refl })
nothing-written (Some bytes) text = (text, record { front = []; is = refl; appended = ap Some (sym (append-nil bytes)) })

-- two parts, one after the other
pub both-written : (old mid new : Option (List ℕ)) (head body : List ℕ) → Appends old mid head → Appends mid new body → Appends old new (head ++ body)
unfolding Appends
both-written None mid new head body first second = rw first at second
both-written (Some bytes) mid new head body first second =
    let next : new ≡ Some (bytes ++ head ++ body) = rw first at second in
    next ∙ ap Some (append_assoc bytes head body)

-- a front of the first part
pub head-front : (old new : Option (List ℕ)) (head body : List ℕ) → AppendsFront old new head → AppendsFront old new (head ++ body)
head-front old new head body (rest, upto) = (rest ++ body, record { front = upto.front; is = ap (λ xs. xs ++ body) upto.is ∙ append_assoc upto.front rest body; appended = upto.appended })

-- the first part and a front of the second
pub body-front : (old mid new : Option (List ℕ)) (head body : List ℕ) → Appends old mid head → AppendsFront mid new body → AppendsFront old new (head ++ body)
body-front old mid new head body first (rest, upto) =
    (rest, record { front = head ++ upto.front; is = ap (λ xs. head ++ xs) upto.is ∙ sym (append_assoc head upto.front rest); appended = both-written old mid new head upto.front first upto.appended })

-- the rest behind a first part, or a front of it
pub put-behind : {E : Type 0} (old mid new : Option (List ℕ)) (front rest : List ℕ) (result : Result (Unit {0}) E) → Appends old mid front → PutsText mid new result rest → PutsText old new result (front ++ rest)
put-behind old mid new front rest (Ok x) first put = both-written old mid new front rest first put
put-behind old mid new front rest (Err e) first put = body-front old mid new front rest first put

-- a name and a length more
pub kept-none : (size : ℕ) (names : List (List ℕ)) → kept_media size names [] ≡ []
unfolding kept_media
kept-none size [] = refl
kept-none size (name ∷ names) = refl

kept-more : (size : ℕ) (names : List (List ℕ)) (blocks : List ℕ) (b : ℕ) → length blocks < length names → kept_media size names (blocks ++ b ∷ []) ≡ kept_media size names blocks ++ record { name = slice_index_or names (length blocks) []; bytes = b * size } ∷ []
unfolding kept_media
kept-more size [] blocks b short = absurd (omega (arith, short))
kept-more size (name ∷ names) [] b short = ap (λ l. record { name = name; bytes = b * size } ∷ l) (kept-none size names)
kept-more size (name ∷ names) (c ∷ blocks) b short = ap (λ l. record { name = name; bytes = c * size } ∷ l) (kept-more size names blocks b (omega (arith, short)))

pub kept-next : (plan : DiskPlan) (blocks : List ℕ) (i d : ℕ) → i < length blocks → length blocks ≡ length plan.spares + 1
    → kept_media plan.size (media_names plan) (take (i + 1) blocks) ≡ kept_media plan.size (media_names plan) (take i blocks) ++ record { name = name_at plan i; bytes = get_or blocks i d * plan.size } ∷ []
kept-next plan blocks i d inside all =
    let count : length (take i blocks) ≡ i = omega (arith, inside, length-take i blocks) in
    ap (kept_media plan.size (media_names plan)) (take_more blocks i d inside)
    ∙ (kept-more plan.size (media_names plan) (take i blocks) (get_or blocks i d) (omega (arith, count, inside, all))
    ∙ ap (λ n. kept_media plan.size (media_names plan) (take i blocks) ++ record { name = slice_index_or (media_names plan) n []; bytes = get_or blocks i d * plan.size } ∷ []) count)

-- the blocks of the first medium
first-of : (media : List Opening) (d : ℕ) → 0 < length (map (λ (o : Opening). o.blocks) media) → slice_index_or (map (λ (o : Opening). o.blocks) media) 0 d ≡ opening_blocks (slice_get media 0)
first-of [] d some = absurd (omega (arith, some))
first-of (o ∷ media) d some = refl

pub first-blocks : (S : Setup) (blocks : List ℕ) (d : ℕ) → blocks ≡ blocks_in S → 0 < length blocks → get_or blocks 0 d ≡ blocks_of S 1
first-blocks S blocks d are some = ap (λ l. get_or l 0 d) are ∙ first-of S.media d (subst (λ l. 0 < length l) are some)

-- the report of a disk is its first line, the lines of its table, and the lines behind them
pub report-parts : (number : ℕ) (plan : DiskPlan) (S : Setup) (table : List ℕ) (blocks : List ℕ) (first : ℕ) (H : List Entry) (given : List (Option (List ℕ))) → S.geometry ≡ groups_of plan → blocks ≡ blocks_in S → first ≡ blocks_of S 1
    → disk_report number plan S table H given ≡ head_text number plan.image plan.size first plan.physical ++ (table ++ body_text S H given (kept_media plan.size (media_names plan) blocks))
unfolding disk_report
report-parts number plan S table blocks first H given is are one =
    ap (λ (g : Geometry). head_text number plan.image g.size (blocks_of S 1) g.per ++ (table ++ body_text S H given (kept_media g.size (media_names plan) (blocks_in S)))) is
    ∙ (ap (λ n. head_text number plan.image plan.size n plan.physical ++ (table ++ body_text S H given (kept_media plan.size (media_names plan) (blocks_in S)))) (sym one)
    ∙ ap (λ l. head_text number plan.image plan.size first plan.physical ++ (table ++ body_text S H given (kept_media plan.size (media_names plan) l))) (sym are))

pub per-is : (plan : DiskPlan) (S : Setup) → S.geometry ≡ groups_of plan → per_of S ≡ plan.physical
per-is plan S is = ap (λ (g : Geometry). g.per) is
