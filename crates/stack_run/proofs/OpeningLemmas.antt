-- What stands at the opening of a history stays.
use Rattle.std.proofs.Common.{◌≡◌, ℕ, suc, ◌<◌, ◌≤◌, inl, inr, Bool, true, false, not, nat_eq, ◌&&◌, List, [], ◌∷◌, ◌++◌, length, All, Option, None, Some, refl, sym, ◌∙◌, ap, arith}
use Rattle.std.proofs.lemmas.Bool.{eq-eqb, ne_eqb, cases_eq}
use Rattle.std.proofs.lemmas.List.Sums.{count_by-le-length}
use Rattle.efi_status.specs.declared.Status.TheVariants.{Success}
use Rattle.history.specs.declared.entry.Entry.{Entry}
use Rattle.history.specs.declared.entry.Entry.TheVariants.{Accept}
use Rattle.history.specs.Setup.{Setup}
use Rattle.history.specs.Tokens.{Request, token_count, request, is_accept, is_read}
use Rattle.history.specs.Marks.{mark_of}
use Rattle.history_laws.proofs.EndLemmas.{mark-stays}
use Rattle.history_laws.proofs.TokenLemmas.{request-some, request-stays}
use Rattle.shared_disk.specs.Script.{tag_of, Script, Deed, Enters, Does, entries_by, KeepsScript}
use Rattle.script_text.specs.Report.{is_tagged_read}

-- how a token ended
pub marked-behind : (S : Setup) (more H : List Entry) (t : ℕ) → mark_of S H t ≡ Some Success → mark_of S (more ++ H) t ≡ Some Success
marked-behind S [] H t was = was
marked-behind S (e ∷ more) H t was = mark-stays S (more ++ H) e t Success (marked-behind S more H t was)

-- a history begins with its opening
entries-behind : (opening : List Entry) (log : List Deed) → (more : List Entry) × (entries_by opening log ≡ more ++ opening)
unfolding entries_by
entries-behind opening [] = ([], refl)
entries-behind opening (Enters e ∷ log) = let (more, is) = entries-behind opening log in (e ∷ more, ap (λ H. e ∷ H) is)
entries-behind opening (Does i None ∷ log) = entries-behind opening log
entries-behind opening (Does i (Some e) ∷ log) = let (more, is) = entries-behind opening log in (e ∷ more, ap (λ H. e ∷ H) is)

pub begins-so : (S : Setup) (d : Script) (places : List (List ℕ)) (H : List Entry) → KeepsScript S d places H → (more : List Entry) × (H ≡ more ++ d.opening)
begins-so S d places H keeps = let (more, is) = entries-behind d.opening keeps.log in (more, sym keeps.history ∙ is)

-- its request
pub request-behind : (more H : List Entry) (t : ℕ) (r : Request) → request H t ≡ Some r → request (more ++ H) t ≡ Some r
request-behind [] H t r named = named
request-behind (e ∷ more) H t r named = request-stays (more ++ H) e t r (request-behind more H t r named)

-- a request of no client
owner-next : (e : Entry) (H : List Entry) (t : ℕ) (r : Request) → tag_of e ≡ 0 → (request H t ≡ Some r → r.tag ≡ 0) → request (e ∷ H) t ≡ Some r → r.tag ≡ 0
unfolding request
owner-next (Accept tag view asked bytes) H t r own rest named = elim (cases_eq t (token_count H)) [
  | inl same ↦
      (let here : Some (record { tag = tag; view = view; asked = asked; bytes = bytes }) ≡ Some r = rw (eq-eqb t (token_count H) same) at named in
      let is : record { tag = tag; view = view; asked = asked; bytes = bytes } ≡ r = cc in
      ap (λ (q : Request). q.tag) (sym is) ∙ own)
  | inr other ↦ rest (rw (ne_eqb t (token_count H) other) at named)
]
owner-next e H t r own rest named = rest named

owner-none : (H : List Entry) → All (λ e. tag_of e ≡ 0) H → (t : ℕ) (r : Request) → request H t ≡ Some r → r.tag ≡ 0
unfolding request
owner-none [] tags t r named = absurd (cc)
owner-none (e ∷ H) tags t r named = owner-next e H t r (tags 0 e (omega arith)) (owner-none H (λ k d inside. tags (suc k) d (omega (arith, inside))) t r) named

no-tagged : (o : Option Request) → ((r : Request) → o ≡ Some r → r.tag ≡ 0) → is_tagged_read o ≡ false
no-tagged None none = refl
no-tagged (Some r) none = by (is_read r.asked.kind) (nat_eq r.tag 0) (eq-eqb r.tag 0 (none r refl))
  where
    by : (b c : Bool) → c ≡ true → (b && not c) ≡ false
    by true c is = rw is refl
    by false c is = refl

-- gives nothing back in a report
pub untagged-behind : (more H : List Entry) → All (λ e. tag_of e ≡ 0) H → (t : ℕ) → t < token_count H → is_tagged_read (request (more ++ H) t) ≡ false
untagged-behind more H tags t inside =
    let (r, named) = request-some H t inside in
    no-tagged (request (more ++ H) t) (λ q is. let one : Some q ≡ Some r = sym is ∙ request-behind more H t r named in let same : q ≡ r = cc in ap (λ (x : Request). x.tag) same ∙ owner-none H tags t r named)

-- each token is an entry
pub tokens-within : (H : List Entry) → token_count H ≤ length H
unfolding token_count
tokens-within H = count_by-le-length is_accept H
