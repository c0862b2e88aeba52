-- A new disk is sound.
use Rattle.std.proofs.Common.{◌≡◌, ℕ, suc, ◌+◌, ◌-◌, ◌*◌, ◌<◌, ◌≤◌, Bool, true, false, List, [], length, map, slice_get, Option, None, Some, refl, sym, ◌∙◌, ap, subst, arith}
use Rattle.std.specs.Prelude.{vec_capacity}
use Rattle.std.proofs.lemmas.List.{length-map}
use Rattle.history_laws.proofs.PendingLemmas.{get-mapped}
use Rattle.medium.specs.Device.{Device, IsFresh, IsBlockSize}
use Rattle.drive.specs.Drives.{DriveState, IsPer, most_media, IsFreshDrive, FitTheDrive, devices_of}
use Rattle.block_gate.specs.Gates.{Gate, Gates, idle_gates, gate_of, is_lent, is_out, AreSound}
use Rattle.index_links.specs.Lists.{is_among}
use Rattle.history.specs.declared.entry.Entry.{Entry}
use Rattle.history.specs.Setup.{Setup, size_of, first_of, opening_of, opening_bytes}
use Rattle.history.specs.Eras.{ejects, inserts, is_protected, era_count}
use Rattle.history.specs.Tokens.{token_count}
use Rattle.history.specs.Marks.{fetches}
use Rattle.history.specs.Rules.{IsLegal}
use Rattle.history.specs.Room.{owed_entries}
use Rattle.history_laws.proofs.CountLemmas.{accepted-none}
use Rattle.disk_core.specs.declared.parts.Core.{Core}
use Rattle.disk_core.specs.State.{Kept, kept_at, opening_from, setup_of}
use Rattle.disk_core.specs.Facts.{MeetsEra, KeptFollow, GatesFollow}
use Rattle.disk_core.specs.Parts.{state_of, kept_of, holder_of}
use Rattle.history_laws.specs.Pending.{Ordered}
use Rattle.disk_core.specs.Inside.{IsEarlier, DriveFollows, RecordsFollow, HoldersFollow, AreReady}
use Rattle.history.specs.Tasks.{units_left}
use Rattle.token_table.specs.declared.record.Record.{Record}
use Rattle.token_table.specs.Records.{Records, record_at}
use Rattle.subtask_queue.specs.Subs.{sub_of}
use Rattle.disk_core.specs.declared.parts.Holder.{Holder}
use Rattle.disk_core.specs.Moves.{IsNewCore, IsDisk}
use Rattle.disk_core.proofs.Setups.{opening-at, setup-is, all-at}
use Rattle.history_laws.proofs.FreshLemmas.{contents-first, fetches-none, fresh-legal, fresh-owed, fresh-queue, kept-first, none-held, none-open}

-- a medium to which nothing has happened follows the empty history
pub fresh-era : (S : Setup) (k : ℕ) (d : Device) → IsFresh d → opening_of S k ≡ Some (opening_from d) → d.size ≡ size_of S → d.cached ≡ S.cached → MeetsEra S [] k d
unfolding era_count
fresh-era S k d fresh opening size cached =
    let first : first_of S k ≡ d.first = ap opening_bytes opening in
    record {
      opening = opening;
      size = size;
      cached = cached;
      now = fresh.now ∙ sym (contents-first S k ∙ first);
      kept = fresh.kept ∙ sym (kept-first S k ∙ first);
      calls = fresh.calls;
      failed = fresh.failed;
      faults = omega arith;
    }

pub fresh-kept : (S : Setup) (kept : List (Option Kept)) → kept ≡ [] → KeptFollow S [] kept
unfolding kept_at
fresh-kept S kept is = record {
  counted = ap length is ∙ sym accepted-none;
  there = λ t k there. absurd (nothing t k (subst (λ l. kept_at l t ≡ Some k) is there));
  gone = λ t lt none. absurd (let h : t < 0 = subst (λ n. t < n) accepted-none lt in omega arith);
}
  where
    nothing : (t : ℕ) (k : Kept) → kept_at [] t ≡ Some k → ⊥
    nothing t k is = cc

pub fresh-gates : (S : Setup) (gates : Gates) (sets : ℕ) → gates ≡ idle_gates sets (size_of S * S.geometry.per) → GatesFollow S [] gates
unfolding idle_gates gate_of is_out is_lent is_among
fresh-gates S gates sets is = rw is (record {
  sized = refl;
  each = λ k g there. absurd (nothing g there);
  all = λ t b k holds. absurd (none-held S t b holds.holds);
  below = λ k out. absurd (clash out);
})
  where
    nothing : (g : Gate) → None ≡ Some g → ⊥
    nothing g is = cc

    clash : false ≡ true → ⊥
    clash e = cc

fresh-drive : {M : Type 0} (device : M → Device) (S : Setup) (drive : DriveState M) → FitTheDrive device drive → IsFreshDrive device drive → IsBlockSize drive.size → IsPer drive.per → 0 < length drive.media → length drive.media ≤ most_media
    → drive.protected ≡ S.protected → DriveFollows device S [] drive
unfolding ejects inserts is_protected
fresh-drive device S drive fit fresh sized per some most same = record {
  shape = record { first = rw fresh.media_id (omega arith); there = rw fresh.media_id (omega arith); few = most; size = sized; per = per };
  fit = fit;
  media_id = fresh.media_id;
  present = fresh.present;
  protected = same;
}

fresh-media : {M : Type 0} (device : M → Device) (drive : DriveState M) (at_first : Bool) → FitTheDrive device drive → IsFreshDrive device drive → (i : ℕ) (d : Device) → slice_get (devices_of device drive) i ≡ Some d → MeetsEra (setup_of device drive at_first) [] (suc i) d
unfolding setup_of
fresh-media device drive at_first fit fresh i d is =
    let m = (get-mapped device drive.media i d is).0 in
    let there = (get-mapped device drive.media i d is).1 in
    let same = (get-mapped device drive.media i d is).2 in
    subst (λ e. MeetsEra (setup_of device drive at_first) [] (suc i) e) same
    (fresh-era (setup_of device drive at_first) (suc i) (device m) (all-at (λ n. IsFresh (device n)) drive.media i m fresh.media there)
    (opening-at device drive at_first i m there)
    (all-at (λ n. (device n).size ≡ drive.size) drive.media i m fit.size there)
    (all-at (λ n. (device n).cached ≡ drive.cached) drive.media i m fit.cached there))

fresh-records : (S : Setup) (records : Records) → records ≡ [] → RecordsFollow S [] records
unfolding record_at
fresh-records S records is = rw is (record { each = λ t r there. absurd (nothing r there); shown = record { each = λ t r there. absurd (nothing r there) } })
  where
    nothing : (r : Record) → None ≡ Some r → ⊥
    nothing r is = cc

fresh-holders : (S : Setup) (gates : Gates) (holders : List Holder) (sets size places : ℕ) → gates ≡ idle_gates sets size → AreSound gates → holders ≡ [] → sets ≤ places → HoldersFollow S [] gates holders places
unfolding idle_gates holder_of Ordered
fresh-holders S gates holders sets size places is sound none fits = record {
  each = λ k t b holds. absurd (none-held S t b holds.holds);
  only = λ k t there. absurd (nothing t (subst (λ l. holder_of l k ≡ Some t) none there));
  apart = sound;
  paired = ap (map (λ h. h.ticket)) none ∙ sym (ap (λ s. map (λ g. g.ticket) s.held) is);
  rising = subst (Ordered IsEarlier) (sym none) tt;
  fits = subst (λ s. length s.held + (length s.gone + s.free) ≤ places) (sym is) (let zero_more : 0 + (0 + sets) ≤ places = omega arith in zero_more);
}
  where
    nothing : (t : ℕ) → None ≡ Some t → ⊥
    nothing t is = cc

pub fresh-sound : {M : Type 0} (device : M → Device) (prepared : M → ℕ → Type 0) (drive : DriveState M) (c : Core) (sets : ℕ) → FitTheDrive device drive → IsFreshDrive device drive
    → IsNewCore c drive.protected drive.size drive.per (length drive.media) sets → IsDisk device prepared drive c
unfolding state_of setup_of kept_of
fresh-sound device prepared drive c sets fit fresh new =
    let S = setup_of device drive c.protected_at_first in
    let over = λ (P : List Entry → Type 0) (p : P []). subst P (sym new.entries) p in
    record {
      setup = refl;
      geometry = setup-is device drive c.protected_at_first new.sized new.grouped fit;
      facts = record {
        legal = over (λ H. IsLegal S H) (fresh-legal S);
        media = over (λ H. (i : ℕ) (d : Device) → slice_get (devices_of device drive) i ≡ Some d → MeetsEra S H (suc i) d) (fresh-media device drive c.protected_at_first fit fresh);
        tokens = over (λ H. KeptFollow S H (kept_of c.tokens)) (fresh-kept S (kept_of c.tokens) (ap kept_of new.tokens));
        gates = over (λ H. GatesFollow S H c.gates) (fresh-gates S c.gates sets new.gates);
      };
      drive_follows = over (λ H. DriveFollows device S H drive) (fresh-drive device S drive fit fresh new.sized new.grouped new.some new.most (sym new.protected_at_first));
      records = over (λ H. RecordsFollow S H c.tokens) (fresh-records S c.tokens new.tokens);
      queue = over (λ H. c.queue ≡ map (sub_of (size_of S)) (units_left S H)) (new.queue ∙ ap (map (sub_of (size_of S))) (sym (fresh-queue S)));
      holders = over (λ H. HoldersFollow S H c.gates c.holders.items (vec_capacity c.holders)) (fresh-holders S c.gates c.holders.items sets (drive.size * drive.per) (vec_capacity c.holders) new.gates new.sound new.holders new.places);
      room = record {
        owed = rw new.owed (over (λ H. owed_entries S H ≤ 2 * length drive.media - 1) (fresh-owed S (length drive.media) (length-map drive.media (λ m. opening_from (device m)))));
        places = rw (new.owed, new.spare) (omega arith);
        few = rw (new.spare, new.entries) (let h = new.most in omega arith);
      };
      ready = λ m is. over (λ H. AreReady S H (prepared m)) (λ t b q open_now named changes low high. absurd (none-open S t open_now));
      fitted = record {
        blocks = new.blocks;
        accepts = over (λ H. c.accepted ≡ token_count H) (new.accepted ∙ sym accepted-none);
        fetches_are = over (λ H. c.fetched ≡ fetches H) (new.fetched ∙ sym fetches-none);
        group = new.group;
        zeros = new.zeros;
      };
    }
