-- Which tokens are reads whose tag is not 0, as the entries tell it.
use Rattle.std.proofs.Common.{◌≡◌, ◌≢◌, ℕ, zero, suc, ◌+◌, Bool, true, false, not, ◌&&◌, nat_eq, cond, if◌then◌else◌, List, [], ◌∷◌, ◌++◌, length, reverse, filter_map, Option, None, Some, refl, ap, ◌∙◌, arith, length-append}
use Rattle.std.specs.List.{cons_option}
use Rattle.std.proofs.lemmas.List.{append-nil, reverse-append}
use Rattle.std.proofs.lemmas.Bool.Decides.{nat_tests}
use Rattle.std.proofs.lemmas.List.Sums.{sum_by-cons}
use Rattle.history.specs.declared.entry.View.{View}
use Rattle.history.specs.declared.entry.Asked.{Asked}
use Rattle.history.specs.declared.entry.Entry.{Entry}
use Rattle.history.specs.declared.entry.Entry.TheVariants.{Accept, Refuse, Done, Fault, Collect, Cancel, Reset, Eject, Insert, Protect}
use Rattle.history.specs.Tokens.{Request, is_read, is_accept, token_count, request}
use Rattle.script_text.specs.Report.{is_tagged_read, tagged_read, tagged_reads, is_tagged}

pub map_both : (es fs : List Entry) → tagged_reads (es ++ fs) ≡ tagged_reads es ++ tagged_reads fs
unfolding tagged_reads
map_both [] fs = refl
map_both (e ∷ es) fs = onto (tagged_read e) (filter_map tagged_read es) (filter_map tagged_read fs) (filter_map tagged_read (es ++ fs)) (map_both es fs) where
  onto : (o : Option Bool) (xs ys zs : List Bool) → zs ≡ xs ++ ys → cons_option o zs ≡ cons_option o xs ++ ys
  onto None xs ys zs is = is
  onto (Some b) xs ys zs is = ap (λ l. b ∷ l) is

-- one more entry, which stands first in a history and last in order
one_more : (e : Entry) (before : List Entry) → tagged_reads (reverse (e ∷ before)) ≡ tagged_reads (reverse before) ++ tagged_reads (e ∷ [])
one_more e before =
    let split : reverse (e ∷ before) ≡ reverse before ++ e ∷ [] = reverse-append (e ∷ []) before in
    ap tagged_reads split ∙ map_both (reverse before) (e ∷ [])

same : (e : Entry) (before : List Entry) → tagged_read e ≡ None → tagged_reads (reverse (e ∷ before)) ≡ tagged_reads (reverse before)
unfolding tagged_reads
same e before none = one_more e before ∙ (rw none (append-nil (tagged_reads (reverse before))))

added : (tag : ℕ) (view : View) (asked : Asked) (bytes : List ℕ) (before : List Entry) → tagged_reads (reverse (Accept tag view asked bytes ∷ before)) ≡ tagged_reads (reverse before) ++ (is_read asked.kind && not (nat_eq tag 0)) ∷ []
unfolding tagged_reads
added tag view asked bytes before = one_more (Accept tag view asked bytes) before

at_end : (xs : List Bool) (b : Bool) → is_tagged (xs ++ b ∷ []) (length xs) ≡ b
at_end [] b = refl
at_end (x ∷ xs) b = at_end xs b

elsewhere : (xs : List Bool) (b : Bool) (t : ℕ) → t ≢ length xs → is_tagged (xs ++ b ∷ []) t ≡ is_tagged xs t
elsewhere [] b zero other = absurd (other refl)
elsewhere [] b (suc t) other = refl
elsewhere (x ∷ xs) b zero other = refl
elsewhere (x ∷ xs) b (suc t) other = elsewhere xs b t (λ is. other (ap suc is))

at_push : (c : Bool) (xs : List Bool) (b : Bool) (t : ℕ) → nat_eq t (length xs) ≡ c → is_tagged (xs ++ b ∷ []) t ≡ (if c then b else is_tagged xs t)
at_push true xs b t is = let at : t ≡ length xs = grind (arith, nat_tests) in ap (is_tagged (xs ++ b ∷ [])) at ∙ at_end xs b
at_push false xs b t is = elsewhere xs b t (λ at. (let other : t ≢ length xs = grind (arith, nat_tests) in other at))

pick : (c : Bool) (r : Request) (o : Option Request) → (if c then is_tagged_read (Some r) else is_tagged_read o) ≡ is_tagged_read (if c then Some r else o)
pick true r o = refl
pick false r o = refl

-- as many as there are tokens
pub counted : (H : List Entry) → length (tagged_reads (reverse H)) ≡ token_count H
unfolding tagged_reads token_count
counted [] = refl
counted (Accept tag view asked bytes ∷ before) = ap length (added tag view asked bytes before) ∙ length-append (tagged_reads (reverse before)) _ ∙ (let one : token_count (Accept tag view asked bytes ∷ before) ≡ 1 + token_count before = sum_by-cons (λ e. cond (is_accept e) 1 0) (Accept tag view asked bytes) before in let n = counted before in omega arith)
counted (Refuse tag view asked media_id status ∷ before) = ap length (same (Refuse tag view asked media_id status) before refl) ∙ counted before
counted (Done token command ∷ before) = ap length (same (Done token command) before refl) ∙ counted before
counted (Fault token command done ∷ before) = ap length (same (Fault token command done) before refl) ∙ counted before
counted (Collect tag token ∷ before) = ap length (same (Collect tag token) before refl) ∙ counted before
counted (Cancel tag view ∷ before) = ap length (same (Cancel tag view) before refl) ∙ counted before
counted (Reset tag ∷ before) = ap length (same (Reset tag) before refl) ∙ counted before
counted (Eject tag ∷ before) = ap length (same (Eject tag) before refl) ∙ counted before
counted (Insert tag media_id ∷ before) = ap length (same (Insert tag media_id) before refl) ∙ counted before
counted (Protect tag on ∷ before) = ap length (same (Protect tag on) before refl) ∙ counted before

pub tagged_is : (H : List Entry) (t : ℕ) → is_tagged (tagged_reads (reverse H)) t ≡ is_tagged_read (request H t)
unfolding request
tagged_is [] t = (unfold tagged_reads in refl)
tagged_is (Accept tag view asked bytes ∷ before) t =
    let r : Request = record { tag = tag; view = view; asked = asked; bytes = bytes } in
    ap (λ l. is_tagged l t) (added tag view asked bytes before)
    ∙ at_push (nat_eq t (token_count before)) (tagged_reads (reverse before)) _ t (ap (nat_eq t) (counted before))
    ∙ (rw (tagged_is before t) (pick (nat_eq t (token_count before)) r (request before t)))
tagged_is (Refuse tag view asked media_id status ∷ before) t = ap (λ l. is_tagged l t) (same (Refuse tag view asked media_id status) before refl) ∙ tagged_is before t
tagged_is (Done token command ∷ before) t = ap (λ l. is_tagged l t) (same (Done token command) before refl) ∙ tagged_is before t
tagged_is (Fault token command done ∷ before) t = ap (λ l. is_tagged l t) (same (Fault token command done) before refl) ∙ tagged_is before t
tagged_is (Collect tag token ∷ before) t = ap (λ l. is_tagged l t) (same (Collect tag token) before refl) ∙ tagged_is before t
tagged_is (Cancel tag view ∷ before) t = ap (λ l. is_tagged l t) (same (Cancel tag view) before refl) ∙ tagged_is before t
tagged_is (Reset tag ∷ before) t = ap (λ l. is_tagged l t) (same (Reset tag) before refl) ∙ tagged_is before t
tagged_is (Eject tag ∷ before) t = ap (λ l. is_tagged l t) (same (Eject tag) before refl) ∙ tagged_is before t
tagged_is (Insert tag media_id ∷ before) t = ap (λ l. is_tagged l t) (same (Insert tag media_id) before refl) ∙ tagged_is before t
tagged_is (Protect tag on ∷ before) t = ap (λ l. is_tagged l t) (same (Protect tag on) before refl) ∙ tagged_is before t
