-- Each call lets a disk go on, and what goes on twice goes on.
use Rattle.std.proofs.Common.{◌≡◌, ℕ, zero, suc, ◌+◌, ◌-◌, ◌*◌, ◌<◌, ◌≤◌, max, inl, inr, true, false, List, [], ◌∷◌, ◌++◌, length, slice_get, Option, None, Some, Ok, Err, refl, sym, ◌∙◌, ap, subst, arith}
use Rattle.std.proofs.lemmas.Bool.{cases_eq, eq-eqb, or_parts, true≢false}
use Rattle.std.proofs.lemmas.List.{append_assoc}
use Rattle.std.proofs.lemmas.Option.{same_Some}
use Rattle.byte_lists.specs.Patching.{patch}
use Rattle.byte_lists.proofs.Patched.{length-patch}
use Rattle.history.specs.declared.entry.Command.{Command}
use Rattle.history.specs.declared.entry.Command.TheVariants.{Fetch, Store, Put, Get, Wipe, Sync}
use Rattle.history.specs.declared.entry.Entry.{Entry}
use Rattle.history.specs.declared.entry.Entry.TheVariants.{Accept, Done, Collect}
use Rattle.history.specs.Tokens.{Request, token_count, request, was_collected, from_of, until_of}
use Rattle.history.specs.Commands.{lies_in, moves, is_moved}
use Rattle.history.specs.Next.{Outcome, Made, Failed, entry_of}
use Rattle.history_laws.proofs.CountLemmas.{accepted-more}
use Rattle.history_laws.proofs.TokenLemmas.{request-same, has_done-done, collected-collect}
use Rattle.history_laws.proofs.LaterLemmas.{Later, later-more}
use Rattle.drive.specs.declared.answers.InsertFault.TheVariants.{Occupied, NoSpare}
use Rattle.token_table.specs.declared.record.NotThere.TheVariants as not_there
use Rattle.disk_core.specs.declared.answers.Why.{Why}
use Rattle.disk_core.specs.declared.answers.Why.TheVariants as why
use Rattle.disk_core.specs.declared.answers.Step.TheVariants as step
use Rattle.disk_core.specs.declared.answers.Stored.TheVariants as stored
use Rattle.disk_core.specs.declared.answers.HeldStored.TheVariants as held_stored
use Rattle.disk_core.specs.declared.answers.EjectRefused.TheVariants as eject_refused
use Rattle.disk_core.specs.State.{State, Kept, kept_at}
use Rattle.disk_core.specs.Calls.{Gets, Fills, Makes, EndsBy, RefusesFor, SubmitSays, StepSays, StoreSays, HeldStoreSays, RefitSays, CollectSays, EndSays, EjectSays, InsertSays, ProtectSays, asked_of, buffer_of}
use Rattle.disk_core.specs.GoingOn.{IsBufferRest, StaysKept, GoesOn, SubmitGoesOn, StepGoesOn, StoreGoesOn, HeldStoreGoesOn, RefitGoesOn, CollectGoesOn, EndGoesOn, EjectGoesOn, InsertGoesOn, ProtectGoesOn, GoesOnTwice, RestComesBack}
use Rattle.disk_core.proofs.Accepted.{kept-last}
use Rattle.disk_core.proofs.Buffered.{at-set, at-other}
use Rattle.disk_core.proofs.Kept.{kept-others}
use Rattle.history_laws.proofs.RequestLemmas.{outside}

some-kept : (a b : Kept) → Some a ≡ Some b → a ≡ b
some-kept a b e = cc

rest-same : (s : State) (t : ℕ) (q : Request) (buffer : List ℕ) → IsBufferRest s t q buffer buffer
rest-same s t q buffer = record { long = refl; same = λ x from until none. refl }

stays-same : (old new : State) (t : ℕ) (q : Request) (was : Kept) → kept_at new.kept t ≡ Some was → StaysKept old new t q was
stays-same old new t q was there = record { now = was; there = there; word = refl; rest = rest-same new t q was.buffer }

pub goes_on_twice : GoesOnTwice
goes_on_twice a b c first second =
    let later : (t x : ℕ) → Later c.setup b.entries c.entries t x = λ t x. rw second.entries (later-more c.setup second.more b.entries t x) in
    let tokens : token_count a.entries ≤ token_count b.entries = rw first.entries (later-more c.setup first.more a.entries 0 0).tokens in
    record {
      setup = second.setup ∙ first.setup;
      more = second.more ++ first.more;
      entries = second.entries ∙ (ap (λ h. second.more ++ h) first.entries ∙ sym (append_assoc second.more first.more a.entries));
      kept = λ t q was token named uncollected there.
          let one = first.kept t q was token (sym ((later t 0).named (omega (arith, tokens))) ∙ named) ((later t 0).uncollected uncollected) there in
          let two = second.kept t q one.now (omega (arith, tokens)) named uncollected one.there in
          let before : (x : ℕ) → from_of c.setup q ≤ x → x < until_of c.setup q → is_moved c.setup b.entries t x ≡ false → slice_get one.now.buffer (x - from_of c.setup q) ≡ slice_get was.buffer (x - from_of c.setup q) = rw (sym second.setup) at one.rest.same in
          record {
            now = two.now;
            there = two.there;
            word = two.word ∙ one.word;
            rest = record { long = two.rest.long ∙ one.rest.long; same = λ x from until none. two.rest.same x from until none ∙ before x from until ((later t x).unmoved none) };
          };
    }

-- where one entry is added and what is kept stays
adds-on : (old new : State) (e : Entry) → new.setup ≡ old.setup → new.entries ≡ e ∷ old.entries →
    ((t : ℕ) (was : Kept) → was_collected new.entries t ≡ false → kept_at old.kept t ≡ Some was → kept_at new.kept t ≡ Some was) → GoesOn old new
adds-on old new e setup entries still = record {
  setup = setup;
  more = e ∷ [];
  entries = entries;
  kept = λ t q was token named uncollected there. stays-same old new t q was (still t was uncollected there);
}

-- where nothing that is kept changes
keeps-on : (old new : State) (e : Entry) → new.setup ≡ old.setup → new.entries ≡ e ∷ old.entries → new.kept ≡ old.kept → GoesOn old new
keeps-on old new e setup entries same = adds-on old new e setup entries (λ t was uncollected there. ap (λ kept. kept_at kept t) same ∙ there)

-- where no entry is added
still-on : (old new : State) → new.setup ≡ old.setup → new.entries ≡ old.entries → new.kept ≡ old.kept → GoesOn old new
still-on old new setup entries same = record {
  setup = setup;
  more = [];
  entries = entries;
  kept = λ t q was token named uncollected there. stays-same old new t q was (ap (λ kept. kept_at kept t) same ∙ there);
}

stays-on : (old new : State) → new ≡ old → GoesOn old new
stays-on old new same = still-on old new (ap (λ (s : State). s.setup) same) (ap (λ (s : State). s.entries) same) (ap (λ (s : State). s.kept) same)

-- the token of a get has the bytes that it read, and the rest as it was
got-rest : (old new : State) (t b n : ℕ) (q p : Request) (was : Kept) → new.setup ≡ old.setup → new.entries ≡ Done t (Get b n) ∷ old.entries → (gets : Gets old.setup old.entries t b n old.kept new.kept q)
    → request (Done t (Get b n) ∷ old.entries) t ≡ Some p → kept_at old.kept t ≡ Some was → StaysKept old new t p was
got-rest old new t b n q p was setup entries gets named there =
    let place : ℕ = max (from_of old.setup q) (b * old.setup.geometry.size) - from_of old.setup q in
    let one : gets.was ≡ was = some-kept gets.was was (sym gets.there ∙ there) in
    let asked : p ≡ q = same_Some p q (sym named ∙ (request-same old.entries (Done t (Get b n)) t refl ∙ gets.named)) in
    let fits : place + length gets.piece ≤ length was.buffer = rw one at gets.fits in
    record {
      now = record was { buffer = patch was.buffer place gets.piece };
      there = rw (gets.filled, one) (at-set old.kept t was (record was { buffer = patch was.buffer place gets.piece }) there);
      word = refl;
      rest = record {
        long = length-patch was.buffer place gets.piece fits;
        same = rw (setup, entries, asked) (λ x from until none.
            outside old.setup b n (from_of old.setup q) (until_of old.setup q) x was.buffer gets.piece gets.counted fits from
            (or_parts (lies_in old.setup b n x) (is_moved old.setup old.entries t x) (sym (has_done-done (moves old.setup x) old.entries t (Get b n)) ∙ none)).0);
      };
    }

got-on : (old new : State) (t b n : ℕ) (q : Request) → new.setup ≡ old.setup → new.entries ≡ Done t (Get b n) ∷ old.entries → Gets old.setup old.entries t b n old.kept new.kept q → GoesOn old new
got-on old new t b n q setup entries gets = record {
  setup = setup;
  more = Done t (Get b n) ∷ [];
  entries = entries;
  kept = λ u p was token named uncollected there. elim (cases_eq t u) [
    | inl same ↦ rw (sym same) (got-rest old new t b n q p was setup entries gets (rw (entries, sym same) at named) (rw (sym same) at there))
    | inr other ↦ stays-same old new u p was (ap (λ kept. kept_at kept u) gets.filled ∙ at-other old.kept t u _ other ∙ there)
  ];
}

fills-on : (old new : State) (t : ℕ) (c : Command) (outcome : Outcome) → new.setup ≡ old.setup → new.entries ≡ entry_of (record { token = t; command = c }) outcome ∷ old.entries → Fills old.setup old.entries t c outcome old.kept new.kept → GoesOn old new
fills-on old new t (Get b n) Made setup entries (q, gets) = got-on old new t b n q setup entries gets
fills-on old new t (Get b n) (Failed done) setup entries same = keeps-on old new _ setup entries same
fills-on old new t (Fetch b) outcome setup entries same = keeps-on old new _ setup entries same
fills-on old new t (Store b) outcome setup entries same = keeps-on old new _ setup entries same
fills-on old new t (Put b n) outcome setup entries same = keeps-on old new _ setup entries same
fills-on old new t (Wipe b n) outcome setup entries same = keeps-on old new _ setup entries same
fills-on old new t Sync outcome setup entries same = keeps-on old new _ setup entries same

makes-on : (old new : State) (t : ℕ) (c : Command) (outcome : Outcome) → Makes old t c outcome new → GoesOn old new
makes-on old new t c outcome makes = fills-on old new t c outcome makes.setup makes.entries makes.fills

ends-on : (old new : State) (e : Entry) (count : ℕ) → EndsBy old e count new → GoesOn old new
ends-on old new e count ends = keeps-on old new e ends.setup ends.entries ends.kept

pub step_goes_on : StepGoesOn
unfolding StepSays
step_goes_on old new (step.Lent w) (todo, q, lends) = makes-on old new _ _ _ lends.makes.makes
step_goes_on old new step.Did (todo, outcome, does) = makes-on old new _ _ _ does.makes.makes
step_goes_on old new step.Idle says = stays-on old new says.0
step_goes_on old new step.Drained says = stays-on old new says.0

pub store_goes_on : StoreGoesOn
unfolding StoreSays
store_goes_on old new w (stored.Foreign back) says = stays-on old new says.2
store_goes_on old new w stored.Stale says =
    let same = says.2 in
    still-on old new (ap (λ (s : State). s.setup) same) (ap (λ (s : State). s.entries) same) (ap (λ (s : State). s.kept) same)
store_goes_on old new w (stored.Strange back place expected found) says = stays-on old new says.2
store_goes_on old new w stored.Did (ours, (g, t, q, outcome, stores)) = makes-on old new _ _ _ stores.stores.makes

pub held_store_goes_on : HeldStoreGoesOn
unfolding HeldStoreSays
held_store_goes_on old new k held_stored.Stale says = stays-on old new says.1
held_store_goes_on old new k held_stored.Did (g, t, q, outcome, stores) = makes-on old new _ _ _ stores.makes

pub refit_goes_on : RefitGoesOn
unfolding RefitSays
refit_goes_on old new (Ok count) says =
    let (all, same, some) = says in
    still-on old new (ap (λ (s : State). s.setup) same) (ap (λ (s : State). s.entries) same) (ap (λ (s : State). s.kept) same)
refit_goes_on old new (Err e) says =
    let (same, left) = says in
    still-on old new (ap (λ (s : State). s.setup) same) (ap (λ (s : State). s.entries) same) (ap (λ (s : State). s.kept) same)

no-kept : (was : Kept) → None ≡ Some was → ⊥
no-kept was e = cc

-- what is kept of other tokens stays where one more is kept
before-last : (kept : List (Option Kept)) (more : Option Kept) (t : ℕ) (was : Kept) → kept_at kept t ≡ Some was → kept_at (kept ++ more ∷ []) t ≡ Some was
unfolding kept_at
before-last [] more t was there = absurd (no-kept was there)
before-last (k ∷ kept) more zero was there = there
before-last (k ∷ kept) more (suc t) was there = before-last kept more t was there

pub submit_goes_on : SubmitGoesOn
unfolding SubmitSays
submit_goes_on old new tag view media_id ask (Ok token) accepts =
    let is = accepts.new_is in
    adds-on old new _ (ap (λ (s : State). s.setup) is) (ap (λ (s : State). s.entries) is) (λ t was _ there. ap (λ (s : State). kept_at s.kept t) is ∙ before-last old.kept _ t was there)
submit_goes_on old new tag view media_id ask (Err refused) submits = by refused.why submits
  where
    by : (w : Why) → RefusesFor old tag view media_id (asked_of ask) (buffer_of ask) w refused.buffer.items new → GoesOn old new
    by (why.Status status) refuses =
        let is = refuses.new_is in
        keeps-on old new _ (ap (λ (s : State). s.setup) is) (ap (λ (s : State). s.entries) is) (ap (λ (s : State). s.kept) is)
    by why.Memory forgets = stays-on old new forgets.same

pub collect_goes_on : CollectGoesOn
unfolding CollectSays
collect_goes_on old new tag number (Ok done) (q, was, collects) =
    let is = collects.new_is in
    let entries : new.entries ≡ Collect tag number ∷ old.entries = ap (λ (s : State). s.entries) is in
    adds-on old new (Collect tag number) (ap (λ (s : State). s.setup) is) entries (λ t had uncollected there. elim (cases_eq number t) [
      | inl same ↦ absurd (true≢false (sym (subst (λ u. was_collected (Collect tag number ∷ old.entries) u ≡ true) same (collected-collect old.entries tag number)) ∙ sym (ap (λ h. was_collected h t) entries) ∙ uncollected))
      | inr other ↦ ap (λ (s : State). kept_at s.kept t) is ∙ kept-others old.kept number t other ∙ there
    ])
collect_goes_on old new tag number (Err not_there.Outstanding) says = stays-on old new says.2
collect_goes_on old new tag number (Err not_there.Unknown) says = stays-on old new says.1

pub end_goes_on : EndGoesOn
unfolding EndSays
end_goes_on old new e zero says = stays-on old new says.1
end_goes_on old new e (suc n) ends = ends-on old new e (suc n) ends

pub eject_goes_on : EjectGoesOn
unfolding EjectSays
eject_goes_on old new tag (Ok count) says = ends-on old new _ count says.1
eject_goes_on old new tag (Err eject_refused.NoMedia) says = stays-on old new says.1

pub insert_goes_on : InsertGoesOn
unfolding InsertSays
insert_goes_on old new tag (Ok media_id) inserts =
    let is = inserts.new_is in
    keeps-on old new _ (ap (λ (s : State). s.setup) is) (ap (λ (s : State). s.entries) is) (ap (λ (s : State). s.kept) is)
insert_goes_on old new tag (Err Occupied) says = stays-on old new says.1
insert_goes_on old new tag (Err NoSpare) says = stays-on old new says.2

pub protect_goes_on : ProtectGoesOn
unfolding ProtectSays
protect_goes_on old new tag on (Ok count) ends = ends-on old new _ count ends
protect_goes_on old new tag on (Err e) same = stays-on old new same

pub rest_comes_back : RestComesBack
rest_comes_back a b c d tag tag' view media_id asked bytes buffer buffer' token status q was counted accepts goes collects =
    let is = accepts.new_is in
    let entries : b.entries ≡ Accept tag view asked bytes ∷ a.entries = ap (λ (s : State). s.entries) is in
    let among : token.number < token_count b.entries = rw (entries, accepts.numbered) (omega (arith, accepted-more a.entries (Accept tag view asked bytes) refl)) in
    let placed : kept_at b.kept token.number ≡ Some (record { buffer = buffer; word = token.event.word }) =
    ap (λ (s : State). kept_at s.kept token.number) is ∙ kept-last a.kept token.number (Some (record { buffer = buffer; word = token.event.word })) ∙ rw (eq-eqb token.number (length a.kept) (accepts.numbered ∙ sym counted)) refl in
    let stays = goes.kept token.number q (record { buffer = buffer; word = token.event.word }) among collects.named collects.uncollected placed in
    let same : stays.now.buffer ≡ buffer' = ap (λ (k : Kept). k.buffer) (some-kept stays.now was (sym stays.there ∙ collects.there)) ∙ sym collects.handed_back in
    subst (λ given. IsBufferRest c token.number q buffer given) same stays.rest
