-- The images of plans, and the set that finds them.
use Rattle.std.proofs.Common.{◌≡◌, ℕ, Bool, ◌||◌, cond, true, false, List, [], ◌∷◌, ◌++◌, String, string_bytes, bytes_eq, refl, ap, sym, ◌∙◌, append_assoc}
use Rattle.std.specs.BTreeSet.{BTreeSet, contains_text, UpdatesBy}
use Rattle.std.specs.Cmp.Lexicographic.{slice_cmp}
use Rattle.std.specs.List.{list_any}
use Rattle.std.specs.Ordering.{nat_cmp}
use Rattle.std.specs.String.{string_cmp}
use Rattle.std.proofs.Math.Bool.{or_assoc}
use Rattle.std.proofs.lemmas.List.{append-nil}
use Rattle.std.proofs.lemmas.List.Folds.{list_any-append}
use Rattle.std.proofs.lemmas.Map.Text.{btree_set_updates_text}
use Rattle.history.specs.declared.order.Order.{Order}
use Rattle.script_text.specs.declared.language.plans.DiskPlan.{DiskPlan}
use Rattle.script_text.specs.declared.language.plans.ClientPlan.{ClientPlan}
use Rattle.script_text.specs.Fitting.{images_of}
use Rattle.script_text.specs.Last.{on_last, has_some}
use Rattle.script_text.specs.Planned.{add_spare, add_client, add_last_order, has_image}
use Rattle.script_text.specs.Taken.{FindsImages}

-- the images where a medium was added
pub images_of_disk : (plans : List DiskPlan) (disk : DiskPlan) → disk.spares ≡ [] → images_of (plans ++ disk ∷ []) ≡ images_of plans ++ disk.image ∷ []
unfolding images_of
images_of_disk [] disk none = ap (λ l. disk.image ∷ (l ++ [])) none
images_of_disk (one ∷ more) disk none =
    ap (λ l. one.image ∷ (one.spares ++ l)) (images_of_disk more disk none)
    ∙ ap (λ l. one.image ∷ l) (sym (append_assoc one.spares (images_of more) (disk.image ∷ [])))

pub images_of_spare : (plans : List DiskPlan) (image : List ℕ) → has_some plans ≡ true → images_of (on_last (add_spare image) plans) ≡ images_of plans ++ image ∷ []
unfolding images_of on_last
images_of_spare [] image some = absurd (cc)
images_of_spare (disk ∷ []) image some =
    ap (λ l. disk.image ∷ l) (append-nil (disk.spares ++ image ∷ []) ∙ ap (λ l. l ++ image ∷ []) (sym (append-nil disk.spares)))
images_of_spare (disk ∷ next ∷ more) image some =
    ap (λ l. disk.image ∷ (disk.spares ++ l)) (images_of_spare (next ∷ more) image refl)
    ∙ ap (λ l. disk.image ∷ l) (sym (append_assoc disk.spares (images_of (next ∷ more)) (image ∷ [])))

-- the images where a client was added, and where a line was
pub images_of_client : (plans : List DiskPlan) (client : ClientPlan) → images_of (on_last (add_client client) plans) ≡ images_of plans
unfolding images_of on_last
images_of_client [] client = refl
images_of_client (disk ∷ []) client = refl
images_of_client (disk ∷ next ∷ more) client = ap (λ l. disk.image ∷ (disk.spares ++ l)) (images_of_client (next ∷ more) client)

pub images_of_order : (plans : List DiskPlan) (one : Order) → images_of (on_last (add_last_order one) plans) ≡ images_of plans
unfolding images_of on_last
images_of_order [] one = refl
images_of_order (disk ∷ []) one = refl
images_of_order (disk ∷ next ∷ more) one = ap (λ l. disk.image ∷ (disk.spares ++ l)) (images_of_order (next ∷ more) one)

-- an image of the plans is one of these
pub has_images : (image : List ℕ) (plans : List DiskPlan) → has_image image plans ≡ list_any (λ name. bytes_eq name image) (images_of plans)
unfolding images_of
has_images image [] = refl
has_images image (disk ∷ more) =
    rw (list_any-append (λ name. bytes_eq name image) disk.spares (images_of more), has_images image more)
    (or_assoc (bytes_eq disk.image image) (list_any (λ spare. bytes_eq spare image) disk.spares) (list_any (λ name. bytes_eq name image) (images_of more)))

pushed_if : (b c : Bool) → cond b true c ≡ (c || (b || false))
pushed_if true true = refl
pushed_if true false = refl
pushed_if false true = refl
pushed_if false false = refl

module _ {Y : Type 0} where
  -- no image yet
  pub none_taken : (names : BTreeSet (String Y)) → names.keys ≡ [] → FindsImages names (images_of [])
  unfolding images_of
  none_taken names none image = rw none refl

  -- one more name
  pub name_taken : (names next : BTreeSet (String Y)) (name image : List ℕ) → name ≡ image → UpdatesBy string_cmp (λ k. slice_cmp nat_cmp name (string_bytes k)) names next true → (images : List (List ℕ)) → FindsImages names images → FindsImages next (images ++ image ∷ [])
  name_taken names next name image is updates images finds other =
      rw (← is, list_any-append (λ one. bytes_eq one other) images (name ∷ []), btree_set_updates_text name names next true updates other, finds other)
      (pushed_if (bytes_eq name other) (list_any (λ one. bytes_eq one other) images))

  -- what the set finds
  pub found_image : (names : BTreeSet (String Y)) (image : List ℕ) (plans : List DiskPlan) → FindsImages names (images_of plans) → contains_text names image ≡ has_image image plans
  found_image names image plans finds = finds image ∙ sym (has_images image plans)

  -- the set where a medium was added
  pub taken_disk : (names : BTreeSet (String Y)) (plans next : List DiskPlan) (disk : DiskPlan) → next ≡ plans ++ disk ∷ [] → disk.spares ≡ [] → FindsImages names (images_of plans ++ disk.image ∷ []) → FindsImages names (images_of next)
  taken_disk names plans next disk is none finds = rw (is, images_of_disk plans disk none) finds

  pub taken_spare : (names : BTreeSet (String Y)) (plans next : List DiskPlan) (image : List ℕ) → next ≡ on_last (add_spare image) plans → has_some plans ≡ true → FindsImages names (images_of plans ++ image ∷ []) → FindsImages names (images_of next)
  taken_spare names plans next image is some finds = rw (is, images_of_spare plans image some) finds

  -- and where a client was, or a line
  pub taken_client : (names : BTreeSet (String Y)) (plans next : List DiskPlan) (client : ClientPlan) → next ≡ on_last (add_client client) plans → FindsImages names (images_of plans) → FindsImages names (images_of next)
  taken_client names plans next client is finds = rw (is, images_of_client plans client) finds

  pub taken_order : (names : BTreeSet (String Y)) (plans next : List DiskPlan) (one : Order) → next ≡ on_last (add_last_order one) plans → FindsImages names (images_of plans) → FindsImages names (images_of next)
  taken_order names plans next one is finds = rw (is, images_of_order plans one) finds
