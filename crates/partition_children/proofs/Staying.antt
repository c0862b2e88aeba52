-- What the entries of a read leave as it was.
use Rattle.std.proofs.Common.{◌≡◌, ◌⊎◌, inl, inr, ℕ, ◌+◌, Bool, List, [], ◌∷◌, ◌++◌, Some, refl, sym, ◌∙◌, ap, subst, arith}
use Rattle.std.proofs.lemmas.List.{append_assoc}
use Rattle.disk_split.specs.declared.span.Span.{Span}
use Rattle.efi_status.specs.declared.Status.{Status}
use Rattle.efi_status.specs.declared.Status.TheVariants.{Success}
use Rattle.history.specs.declared.entry.View.{View}
use Rattle.history.specs.declared.entry.Command.TheVariants.{Get}
use Rattle.history.specs.declared.entry.Entry.{Entry}
use Rattle.history.specs.declared.entry.Entry.TheVariants.{Accept, Collect, Fault}
use Rattle.history.specs.Setup.{Setup}
use Rattle.history.specs.Tokens.{token_count}
use Rattle.history.specs.Room.{faults}
use Rattle.history_laws.proofs.ContentLemmas.{piece-none, piece-unchanged}
use Rattle.history_laws.proofs.CountLemmas.{accepted-more, accepted-same, faults-more, faults-same}
use Rattle.history_laws.proofs.EndLemmas.{mark-stays}
use Rattle.disk_core.specs.State.{State}
use Rattle.disk_core.specs.Turns.{IsIdle}
use Rattle.history_laws.proofs.SameMediaLemmas.{SameMedia, same-media, same-on, same-entry, same-collect, same-fault, collected-now}
use Rattle.partition_children.specs.Entries.{get_of, read_asked}
use Rattle.partition_children.specs.Probing.{IsUntagged, AreUntagged, AddsEntriesAlone}
use Rattle.partition_children.proofs.Gets.{AreGets}
use Rattle.partition_children.proofs.Served.{ServedRead}

same-get : (S : Setup) (G : List Entry) (t : ℕ) (u : Span) → SameMedia S G (get_of t u ∷ G)
same-get S G t u = same-entry S G (get_of t u) refl refl refl (piece-unchanged S G t (Get u.block u.count) refl)

-- gets change nothing
pub same-gets : (S : Setup) (G : List Entry) (t : ℕ) (cs : List Entry) → AreGets t cs → SameMedia S G (cs ++ G)
same-gets S G t [] all = same-media S G
same-gets S G t (e ∷ cs) ((u, same), all) =
    same-on S G (cs ++ G) (e ∷ (cs ++ G)) (same-gets S G t cs all) (subst (λ (x : Entry). SameMedia S (cs ++ G) (x ∷ (cs ++ G))) (sym same) (same-get S (cs ++ G) t u))

pub same-accept : (S : Setup) (G : List Entry) (view : View) (read : ℕ × ℕ) → SameMedia S G (Accept 0 view (read_asked read) [] ∷ G)
same-accept S G view read = let e : Entry = Accept 0 view (read_asked read) [] in same-entry S G e refl refl refl (piece-none S G e refl)

-- and no count but that of the commands
gets-accepted : (G : List Entry) (t : ℕ) (cs : List Entry) → AreGets t cs → token_count (cs ++ G) ≡ token_count G
gets-accepted G t [] all = refl
gets-accepted G t (e ∷ cs) ((u, same), all) = rw same (accepted-same (cs ++ G) (get_of t u) refl ∙ gets-accepted G t cs all)

gets-faults : (G : List Entry) (t : ℕ) (cs : List Entry) → AreGets t cs → faults (cs ++ G) ≡ faults G
gets-faults G t [] all = refl
gets-faults G t (e ∷ cs) ((u, same), all) = rw same (faults-same (cs ++ G) (get_of t u) refl ∙ gets-faults G t cs all)

-- a last command that failed, on top of gets
pub record LastFails (t : ℕ) (cs : List Entry) : Type 0 where
  pub earlier : List Entry
  pub unit : Span
  pub is : cs ≡ Fault t (Get unit.block unit.count) 0 ∷ earlier
  pub gets : AreGets t earlier

-- the gets of a read, and then its fault where it failed
abbrev pub Commands : ℕ → ℕ → List Entry → Type 0
Commands t f cs = ((f ≡ 0) × AreGets t cs) ⊎ ((f ≡ 1) × LastFails t cs)

commands-same : (S : Setup) (G : List Entry) (t f : ℕ) (cs : List Entry) → Commands t f cs → SameMedia S G (cs ++ G)
commands-same S G t f cs (inl (none, all)) = same-gets S G t cs all
commands-same S G t f cs (inr (one, last)) =
    subst (λ (xs : List Entry). SameMedia S G (xs ++ G)) (sym last.is) (same-on S G (last.earlier ++ G) _ (same-gets S G t last.earlier last.gets) (same-fault S (last.earlier ++ G) t last.unit))

commands-accepted : (G : List Entry) (t f : ℕ) (cs : List Entry) → Commands t f cs → token_count (cs ++ G) ≡ token_count G
commands-accepted G t f cs (inl (none, all)) = gets-accepted G t cs all
commands-accepted G t f cs (inr (one, last)) =
    ap (λ (xs : List Entry). token_count (xs ++ G)) last.is ∙ (accepted-same (last.earlier ++ G) (Fault t (Get last.unit.block last.unit.count) 0) refl ∙ gets-accepted G t last.earlier last.gets)

commands-faults : (G : List Entry) (t f : ℕ) (cs : List Entry) → Commands t f cs → faults (cs ++ G) ≡ faults G + f
commands-faults G t f cs (inl (none, all)) = omega (arith, gets-faults G t cs all)
commands-faults G t f cs (inr (one, last)) =
    let more : faults (cs ++ G) ≡ faults (last.earlier ++ G) + 1 =
    ap (λ (xs : List Entry). faults (xs ++ G)) last.is ∙ faults-more (last.earlier ++ G) (Fault t (Get last.unit.block last.unit.count) 0) refl in
    omega (arith, more, gets-faults G t last.earlier last.gets)

-- none of these entries is a client's
gets-untagged : (t : ℕ) (cs : List Entry) → AreGets t cs → AreUntagged cs
gets-untagged t [] all = tt
gets-untagged t (e ∷ cs) ((u, same), all) = (subst IsUntagged (sym same) tt, gets-untagged t cs all)

pub untagged-both : (more cs : List Entry) → AreUntagged more → AreUntagged cs → AreUntagged (more ++ cs)
untagged-both [] cs first second = second
untagged-both (e ∷ more) cs first second = (first.0, untagged-both more cs first.1 second)

commands-untagged : (t f : ℕ) (cs : List Entry) → Commands t f cs → AreUntagged cs
commands-untagged t f cs (inl (none, all)) = gets-untagged t cs all
commands-untagged t f cs (inr (one, last)) = subst AreUntagged (sym last.is) (tt, gets-untagged t last.earlier last.gets)

read-untagged : (view : View) (read : ℕ × ℕ) (t f : ℕ) (cs : List Entry) → Commands t f cs → AreUntagged (Collect 0 t ∷ (cs ++ Accept 0 view (read_asked read) [] ∷ []))
read-untagged view read t f cs all = (refl, untagged-both cs (Accept 0 view (read_asked read) [] ∷ []) (commands-untagged t f cs all) (refl, tt))

-- what a served read leaves of the disk
pub read-stays : (old new : State) (view : View) (read : ℕ × ℕ) (status : Status) (failed : Bool) (bytes : List ℕ) (f : ℕ) (s : ServedRead old.setup old.entries view read status failed bytes new)
    → Commands (token_count old.entries) f s.cs → (f ≡ 0 → status ≡ Success) → IsIdle new.gates → AddsEntriesAlone old f new
read-stays old new view read status failed bytes f s all success idle =
    let accept : Entry = Accept 0 view (read_asked read) [] in
    let t = token_count old.entries in
    let H = accept ∷ old.entries in
    let same : SameMedia old.setup old.entries (Collect 0 t ∷ (s.cs ++ H)) =
    same-on old.setup old.entries (s.cs ++ H) (Collect 0 t ∷ (s.cs ++ H))
    (same-on old.setup old.entries H (s.cs ++ H) (same-accept old.setup old.entries view read) (commands-same old.setup H t f s.cs all)) (same-collect old.setup (s.cs ++ H) t) in
    let same_new : SameMedia old.setup old.entries new.entries = subst (λ (E : List Entry). SameMedia old.setup old.entries E) (sym s.entries) same in
    let count : token_count new.entries ≡ t + 1 =
    ap token_count s.entries ∙ (accepted-same (s.cs ++ H) (Collect 0 t) refl ∙ (commands-accepted H t f s.cs all ∙ accepted-more old.entries accept refl)) in
    record {
      setup = s.setup;
      more = Collect 0 t ∷ (s.cs ++ accept ∷ []);
      entries = s.entries ∙ ap (λ (E : List Entry). Collect 0 t ∷ E) (sym (append_assoc s.cs (accept ∷ []) old.entries));
      quiet = record { idle = idle; drained = s.drained };
      media_id = same_new.media_id;
      present = same_new.present;
      bytes = same_new.bytes;
      kept = same_new.kept;
      collected = λ u from below. (let is : u ≡ t = omega (arith, count) in rw (is, s.entries) (collected-now t (s.cs ++ H)));
      failures = ap faults s.entries ∙ (faults-same (s.cs ++ H) (Collect 0 t) refl ∙ (commands-faults H t f s.cs all ∙ ap (λ n. n + f) (faults-same old.entries accept refl)));
      untagged = read-untagged view read t f s.cs all;
      succeeded = λ none u from below. (let is : u ≡ t = omega (arith, count) in
          rw (is, s.entries, s.setup) (mark-stays old.setup (s.cs ++ H) (Collect 0 t) t Success (s.marked ∙ ap Some (success none))));
    }
