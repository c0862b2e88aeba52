-- An entry that ends tokens has been added, and none of them has ended in the parts.
use Rattle.std.proofs.Common.{◌≡◌, refl, ℕ, ◌*◌, ◌<◌, ◌≤◌, inl, inr, List, ◌∷◌, length, map, Option, Some, sym, ◌∙◌, ap, subst, arith}
use Rattle.std.specs.Prelude.{is_none, vec_capacity}
use Rattle.medium.specs.Device.{AreToldAt}
use Rattle.history.specs.declared.entry.Entry.{Entry}
use Rattle.history.specs.Setup.{Setup, IsSetup, size_of, per_of}
use Rattle.history.specs.Eras.{media_id_of}
use Rattle.history.specs.Commands.{is_at, is_fetch, is_store}
use Rattle.history.specs.Contents.{contents}
use Rattle.history.specs.Marks.{mark_of}
use Rattle.history.specs.Rules.{IsLegal}
use Rattle.history.specs.Tasks.{units_left}
use Rattle.history_laws.specs.Ranges.{AreToldWhole}
use Rattle.history_laws.proofs.CountLemmas.{accepted-same}
use Rattle.history_laws.proofs.TokenLemmas.{request-same, collected-same, done_commands-same, has_done-same}
use Rattle.history_laws.proofs.MediaLemmas.{media-id-same}
use Rattle.history_laws.proofs.OwedLemmas.{commands-same}
use Rattle.history_laws.proofs.PendingLemmas.{filter-everything, pending-is}
use Rattle.history_laws.proofs.TicketLemmas.{ticket-kept, holds-by-before}
use Rattle.subtask_queue.specs.Subs.{sub_of}
use Rattle.block_gate.specs.Gates.{Gate, Gates, gate_of}
use Rattle.disk_core.specs.declared.parts.Core.{Core}
use Rattle.disk_core.specs.declared.parts.Holder.{Holder}
use Rattle.disk_core.specs.State.{Kept}
use Rattle.disk_core.specs.Facts.{KeptFollow, GatesFollow}
use Rattle.disk_core.specs.Parts.{kept_of}
use Rattle.disk_core.specs.Inside.{HoldersFollow, RecordsBy}
use Rattle.disk_core.specs.Closing.{GatesSoFar, RoomSoFar, IsClosing}
use Rattle.disk_core.proofs.Told.{copy-stays}
use Rattle.history_laws.proofs.OwingLemmas.{units-few, open-kept}
use Rattle.disk_core.proofs.Links.{AreClosed}
use Rattle.disk_core.proofs.Over.{kept-over, tracks-over}
use Rattle.history_laws.proofs.LeftLemmas.{left-done}
use Rattle.history_laws.proofs.FetchLemmas.{fetches-rise, not-done}
use Rattle.history_laws.proofs.QuietLemmas.{IsEnding, read-undone}

module _ (S : Setup) (H : List Entry) (e : Entry) (is : IsEnding S H e) where
  kept-begun : (kept : List (Option Kept)) → KeptFollow S H kept → KeptFollow S (e ∷ H) kept
  kept-begun kept = kept-over S H e kept (accepted-same H e is.adds_none) (λ t. collected-same H e t (is.collects_none t)) (λ t x. read-undone S H e t x is.unmoving)

  -- the gates and holders of a disk before any end has come to them
  pub gates-begun : (gates : Gates) (holders : List Holder) (places : ℕ) → IsSetup S → AreToldWhole S → IsLegal S H → GatesFollow S H gates → HoldersFollow S H gates holders places → GatesSoFar S (e ∷ H) (mark_of S H) gates holders places
  unfolding IsLegal
  gates-begun gates holders places setup whole legal follow held = record {
    sized = follow.sized;
    each = λ k g there. (
        let of = follow.each k g there in
        let holds = of.1.holds in (
          of.0,
          record {
            holder = held.each k of.0 g.block holds;
            holds = record {
              token = subst (λ n. of.0 < n) (sym (accepted-same H e is.adds_none)) holds.holds.outstanding.token;
              unmarked = holds.holds.outstanding.unmarked;
              fetched = has_done-same (is_at is_fetch g.block) H e of.0 is.unmoving ∙ holds.holds.fetched;
              unstored = has_done-same (is_at is_store g.block) H e of.0 is.unmoving ∙ holds.holds.unstored;
              ticket_is = ticket-kept H e of.0 g.block (not-done e of.0 g.block is.unmoving) ∙ holds.ticket_is;
            };
            lent = λ still. of.1.lent;
            copied = λ still. subst (λ i. AreToldAt (contents S i (e ∷ H)) (g.block * size_of S) g.copy) (sym (media-id-same H e is.puts_none))
                (copy-stays S (media_id_of H) H e of.0 g.block g.copy setup whole legal is.may (legal, is.may) holds.holds (is.stores_ended of.0 g.block still) (long k g there) of.1.copied);
          },
        )
        );
    all = λ t b k holds. elim (holds-by-before S H e t b k setup (legal, is.may) holds) [
      | inl before ↦ follow.all t b k before
      | inr now ↦ absurd (not-done e t b is.unmoving now.0)
    ];
    below = λ k out. (let low = follow.below k out in let more = fetches-rise H e in omega arith);
    apart = held.apart;
    paired = held.paired;
    rising = held.rising;
    fits = held.fits;
  }
    where
      long : (k : ℕ) (g : Gate) → gate_of gates.held k ≡ Some g → length g.copy ≤ per_of S * size_of S
      long k g there = (let one = held.apart.long k g there in let size = follow.sized in omega arith)

  -- the parts with such an entry more
  pub begun : (c₀ c : Core) (late : ℕ) → AreClosed S H c₀ → c.history.entries ≡ e ∷ H → c.tokens ≡ c₀.tokens → c.queue ≡ c₀.queue → GatesSoFar S (e ∷ H) (mark_of S H) c.gates c.holders.items (vec_capacity c.holders)
      → RoomSoFar S (e ∷ H) (mark_of S H) late c → IsClosing S (e ∷ H) (mark_of S H) (units_left S H) late c
  unfolding IsLegal
  begun c₀ c late closed entries tokens queue gates room = record {
    entries = entries;
    setup = closed.geometry;
    legal = (closed.legal, is.may);
    tokens = subst (λ s. KeptFollow S (e ∷ H) (kept_of s)) (sym tokens) (kept-begun (kept_of c₀.tokens) closed.tokens);
    uncollected = λ t unmarked. collected-same H e t (is.collects_none t) ∙ open-kept S H t closed.legal unmarked;
    records = subst (RecordsBy S (e ∷ H) (mark_of S H)) (sym tokens) (record {
      each = λ t r there. (let old = closed.records.each t r there in (old.0, tracks-over S H e t r old.0 (mark_of S H) (mark_of S H) refl (left-done S H e t old.0 is.unmoving) old.1));
      shown = closed.records.shown;
    });
    queue = queue ∙ (closed.queue ∙ ap (map (sub_of (size_of S))) (sym (filter-everything (λ todo. is_none (mark_of S H todo.token)) (units_left S H)
        (λ k todo there. (let of = pending-is S H k todo there in ap is_none of.1.outstanding.unmarked)))));
    costs = λ t q named. (
        let few = units-few S H t q closed.geometry closed.legal (sym (request-same H e t is.adds_none) ∙ named) in
        let same = commands-same S H (e ∷ H) t q (done_commands-same H e t is.unmoving) in
        omega arith
        );
    gates = gates;
    room = room;
  }
