-- The group of a part is written, done or failed, and the store entered.
use Rattle.std.proofs.Common.{◌≡◌, ℕ, ◌+◌, ◌-◌, ◌*◌, ◌/◌, ◌<◌, ◌≤◌, true, List, ◌∷◌, length, take, drop, Some, refl, sym, ◌∙◌, ap, subst, arith, IsSome, Result, Ok, Err, IfErr}
use Rattle.std.specs.Prelude.{is_some, count_by, IfSome}
use Rattle.std.proofs.Math.Nat.{lt_of_mul-lt-mul_right, mul_comm, add-mul, one-mul}
use Rattle.std.specs.Option.{option_map}
use Rattle.disk_split.proofs.Rounding.{group-some, group-most}
use Rattle.disk_core.proofs.Prepared.{medium-place}
use Rattle.disk_core.proofs.Setups.{all-at}
use Rattle.token_table.specs.declared.record.Mark.{Mark}
use Rattle.std.proofs.lemmas.Nat.{mul-le, le-div, div_below}
use Rattle.medium.specs.Device.{Device, IsShaped, IsTransfer, IsWrite, AreToldAt, patch_told, written_bytes}
use Rattle.medium.specs.declared.block_failed.BlockFailed.{BlockFailed}
use Rattle.drive.specs.Drives.{DriveState, medium_in}
use Rattle.disk_split.specs.declared.span.Span.{Span}
use Rattle.disk_split.specs.Units.{group_size}
use Rattle.block_gate.specs.Gates.{Gate, Gates, gate_of}
use Rattle.history.specs.declared.entry.Command.TheVariants.{Store}
use Rattle.history.specs.declared.entry.Entry.{Entry}
use Rattle.history.specs.Setup.{Setup, size_of, per_of, blocks_of}
use Rattle.history.specs.Eras.{media_id_of}
use Rattle.history.specs.Tokens.{Request, changes_bytes, from_of, until_of}
use Rattle.history.specs.Contents.{contents, bytes_between}
use Rattle.history.specs.Marks.{IsOutstanding}
use Rattle.history.specs.Rules.{HasPart, MayCommand, IsLegal}
use Rattle.history.specs.Tasks.{Moves}
use Rattle.history_laws.specs.Units.{IsUnitCommand}
use Rattle.history_laws.specs.Left.{task_bytes}
use Rattle.history_laws.specs.Ranges.{AreToldWhole}
use Rattle.history_laws.proofs.RangeLemmas.{contents-long}
use Rattle.history_laws.proofs.UnitLemmas.{part-unit-at}
use Rattle.token_table.specs.declared.record.Record.{Record}
use Rattle.token_table.specs.Records.{request_at, mark_at}
use Rattle.subtask_queue.specs.Subs.{is_of}
use Rattle.disk_core.specs.declared.parts.Core.{Core}
use Rattle.disk_core.specs.declared.storing.Part.{Part}
use Rattle.disk_core.specs.State.{setup_of}
use Rattle.disk_core.specs.Parts.{state_of}
use Rattle.disk_core.specs.Calls.{expected_copy}
use Rattle.disk_core.specs.Moves.{HasPlace}
use Rattle.disk_core.specs.Storage.{IsStoring}
use Rattle.disk_core.proofs.Admitted.{blocks-of}
use Rattle.disk_core.proofs.Commanded.{command_entry, write-era}
use Rattle.disk_core.proofs.Composed.{part-record, holder-is, part-in-record}
use Rattle.history_laws.proofs.HoldingLemmas.{part_of_range, part-listed, part-unmoved}
use Rattle.history_laws.proofs.StoredLemmas.{stored-done, stored-failed}
use Rattle.disk_core.proofs.Told.{told-patch, from-told}
use Rattle.history_laws.proofs.LeftLemmas.{FinishesTask, unit-finishes}
use Rattle.disk_core.proofs.Opened.{IsOpenRecord, IsHolderOf}
use Rattle.disk_core.proofs.Parted.{part-there, group-there, medium-there}
use Rattle.disk_core.proofs.Released.{same-but}
use Rattle.disk_core.proofs.Stepped.{CommandFollows}
use Rattle.disk_core.proofs.Upcoming.{may-fail, may-lower, whole-in}

module _ {M : Type 0} (device : M → Device) (prepared : M → ℕ → Type 0) (drive : DriveState M) (shaped : (m : M) → IsShaped (device m)) (c : Core) (before : Gates) (part : Part) (g : Gate) (q : Request) (is : IsStoring device prepared drive c before part g q) where
  abbrev S : Setup
  S = setup_of device drive c.protected_at_first

  abbrev H : List Entry
  H = c.history.entries

  abbrev base : Core
  base = record c { gates = before }

  abbrev u : Span
  u = part_of_range S q g.block

  pub lawful : IsLegal S H
  unfolding state_of
  lawful = is.sound.facts.legal

  pub opened : (r : Record) × IsOpenRecord S H base part.token r q
  opened = part-record device prepared drive base is.sound shaped part g q is.held

  holder : IsHolderOf device prepared drive base is.sound part.ticket g part.token q opened.0
  holder = holder-is device prepared drive base is.sound shaped part g q is.held opened.0 opened.1

  pub here : HasPart S q g.block × (changes_bytes q.asked.kind ≡ true)
  here = part-there device prepared drive base is.sound shaped part.ticket g part.token q opened.0 holder

  pub outstanding : IsOutstanding S H part.token
  outstanding = is.held.holds.holds.outstanding

  pub may : MayCommand S H part.token (Store g.block)
  unfolding MayCommand
  may = is.held.holds.holds

  pub store-present : IsSome (medium_in drive)
  store-present = subst IsSome (sym (medium-there device prepared drive base is.sound shaped part.ticket g part.token q opened.0 holder).1) refl

  group-long : length c.group.items ≡ group_size S.geometry
  group-long = is.sound.fitted.group

  pub size-is : (m : M) → medium_in drive ≡ Some m → (device m).size ≡ size_of S
  unfolding setup_of
  size-is m there = all-at (λ n. (device n).size ≡ drive.size) drive.media (drive.media_id - 1) m is.sound.drive_follows.fit.size (medium-place drive m there).1

  pub store-transfer : (m : M) → medium_in drive ≡ Some m → IsTransfer (device m) part.block (length c.group.items)
  store-transfer m there =
      let inside = group-there device prepared drive base is.sound shaped part.ticket g part.token q opened.0 holder m there in
      let at = is.held.block in
      let few = is.sound.geometry.geometry.per_most in
      let some = is.sound.geometry.geometry.per_some in
      record {
        count = per_of S;
        whole = group-long ∙ mul_comm (size_of S) (per_of S) ∙ ap (λ n. per_of S * n) (sym (size-is m there));
        some = omega arith;
        most = omega arith;
        fits = omega arith;
      }

  -- each block of the group was made ready
  pub store-ready : (m : M) → medium_in drive ≡ Some m → (b : ℕ) → part.block ≤ b → b * (device m).size < part.block * (device m).size + length c.group.items → prepared m b
  store-ready m there b low high =
      let range = here.0 in
      let n = range.number in
      let some = range.part.some in
      let g_size = group_size S.geometry in
      let big = is.sound.geometry.geometry.size_some in
      let per = is.sound.geometry.geometry.per_some in
      let group_some : 0 < g_size = group-some S.geometry is.sound.geometry.geometry in
      let next : (n + 1) * g_size ≡ n * g_size + g_size = add-mul n 1 g_size ∙ ap (λ x. n * g_size + x) (one-mul g_size) in
      let first : from_of S q / g_size < n + 1 = div_below (from_of S q) g_size (n + 1) group_some (omega arith) in
      let last : n + 1 ≤ (until_of S q + g_size - 1) / g_size = le-div (n + 1) (until_of S q + g_size - 1) g_size group_some (omega arith) in
      let low_blocks : from_of S q / g_size * per_of S ≤ n * per_of S = mul-le (from_of S q / g_size) (per_of S) n (per_of S) (omega arith) (omega arith) in
      let high_blocks : (n + 1) * per_of S ≤ (until_of S q + g_size - 1) / g_size * per_of S = mul-le (n + 1) (per_of S) ((until_of S q + g_size - 1) / g_size) (per_of S) last (omega arith) in
      let more : (n + 1) * per_of S ≡ n * per_of S + per_of S = add-mul n 1 (per_of S) ∙ ap (λ x. n * per_of S + x) (one-mul (per_of S)) in
      let size = size-is m there in
      let long : length c.group.items ≡ per_of S * (device m).size = group-long ∙ mul_comm (size_of S) (per_of S) ∙ ap (λ x. per_of S * x) (sym size) in
      let joined : part.block * (device m).size + per_of S * (device m).size ≡ (part.block + per_of S) * (device m).size = sym (add-mul part.block (per_of S) (device m).size) in
      let below : b < part.block + per_of S = lt_of_mul-lt-mul_right (device m).size (omega arith) in
      let begins = range.begins in
      let at = is.held.block in
      is.sound.ready m there part.token b q outstanding is.held.named here.1 (omega arith) (omega arith)

  pub store-held : is_some (gate_of c.gates.held part.ticket) ≡ true
  store-held = (let same = same-but part.ticket before c.gates g is.sound.holders.apart is.held.gate is.lent in ap is_some same.there.1)

  pub store-may : (mark_at c.tokens part.token ≡ Mark.Outstanding) × HasPlace c × (count_by (is_of part.token) c.queue + 2 ≤ c.owed)
  store-may = may-fail device prepared drive base is.sound part.token outstanding

  of-unit : IsUnitCommand S q (Store g.block) u
  of-unit = record { unit = part-unit-at S.geometry (from_of S q) (until_of S q) g.block here.0; block = refl; count = refl; kind = rw here.1 refl }

  pub finishes : FinishesTask S H part.token (Store g.block) q (Moves u)
  finishes =
      let listed = part-listed S q g.block is.sound.geometry here.0 here.1 in
      unit-finishes S H part.token (Store g.block) q u listed.0 is.sound.geometry is.held.named listed.1 (part-unmoved S q g.block is.sound.geometry here.0 here.1 H part.token lawful is.held.named is.held.holds.holds.unstored) of-unit refl

  pub bytes-are : part.range.high - part.range.low ≡ task_bytes (Moves u)
  bytes-are = (λ i. is.held.high i - is.held.low i)

  pub store-left : IfSome (request_at c.tokens part.token) (λ r. part.range.high - part.range.low ≤ r.left)
  store-left = subst (λ n. IfSome (request_at c.tokens part.token) (λ r. n ≤ r.left)) (sym bytes-are) (may-lower device prepared drive base is.sound part.token (Store g.block) q (Moves u) outstanding finishes)

  pub in-group : (part.block * c.blocks.size ≤ part.range.low) × (part.range.low ≤ part.range.high) × (part.range.low - part.block * c.blocks.size + (part.range.high - part.range.low) ≤ 32768)
  unfolding request_at
  in-group =
      let fits = part-in-record device prepared drive base is.sound shaped part g q is.held opened.0.request (sym (ap (option_map (λ x. x.request)) opened.1.there)) in
      let most = group-most S.geometry is.sound.geometry.geometry in
      let room = fits.room in
      (fits.place, fits.order, omega arith)

  pub told-whole-in : AreToldWhole S
  told-whole-in = whole-in device prepared drive base is.sound shaped

  -- the copy is the group, which lies on the medium
  copied : AreToldAt (contents S (media_id_of H) H) (g.block * size_of S) g.copy
  unfolding state_of
  copied = (is.sound.facts.gates.each part.ticket g is.held.gate).1.copied

  copy-size : length g.copy ≡ per_of S * size_of S
  unfolding state_of
  copy-size = is.sound.holders.apart.long part.ticket g is.held.gate ∙ is.sound.facts.gates.sized ∙ mul_comm (size_of S) (per_of S)

  on-medium : (bytes : List ℕ) → contents S (media_id_of H) H ≡ Some bytes → (g.block + per_of S) * size_of S ≤ length bytes
  on-medium bytes told =
      let (m, there) = medium-there device prepared drive base is.sound shaped part.ticket g part.token q opened.0 holder in
      let inside = group-there device prepared drive base is.sound shaped part.ticket g part.token q opened.0 holder m there in
      let blocks = blocks-of device drive c.protected_at_first H is.sound.drive_follows q.view q.asked 0 m (medium-place drive m there).1 in
      let long = contents-long S (media_id_of H) H bytes is.sound.geometry told-whole-in lawful told in
      let less = mul-le (g.block + per_of S) (size_of S) (blocks_of S (media_id_of H)) (size_of S) (omega arith) (omega arith) in
      omega arith

  put-long : length (bytes_between S q u.low u.high) ≡ u.high - u.low
  unfolding request_at
  put-long =
      let fits = part-in-record device prepared drive base is.sound shaped part g q is.held opened.0.request (sym (ap (option_map (λ x. x.request)) opened.1.there)) in
      ap length (sym (fits.bytes ∙ (λ i. bytes_between S q (is.held.low i) (is.held.high i)))) ∙ fits.count ∙ (λ i. is.held.high i - is.held.low i)

  pub stops-before : (done : ℕ) (d : Device) → d.size ≡ size_of S → done * d.size < length c.group.items → done < per_of S
  stops-before done d size less =
      let long : length c.group.items ≡ per_of S * d.size = group-long ∙ mul_comm (size_of S) (per_of S) ∙ ap (λ n. per_of S * n) (sym size) in
      lt_of_mul-lt-mul_right d.size (omega arith)

  -- the medium holds what the history says, done or failed
  store-contents : (result : Result (Unit {0}) BlockFailed) → IfErr result (λ fault. fault.done ≤ per_of S)
      → patch_told (contents S (media_id_of H) H) (part.block * size_of S) (written_bytes result (size_of S) c.group.items) ≡ contents S (media_id_of H) (command_entry part.token (Store g.block) result ∷ H)
  store-contents result few =
      subst (λ n. patch_told (contents S (media_id_of H) H) (n * size_of S) (written_bytes result (size_of S) c.group.items) ≡ contents S (media_id_of H) (command_entry part.token (Store g.block) result ∷ H)) (sym is.held.block)
      (subst (λ bytes. patch_told (contents S (media_id_of H) H) (g.block * size_of S) (written_bytes result (size_of S) bytes) ≡ contents S (media_id_of H) (command_entry part.token (Store g.block) result ∷ H)) (sym is.group) (by result few))
    where
      at-bytes : (bytes : List ℕ) → contents S (media_id_of H) H ≡ Some bytes → g.copy ≡ take (length g.copy) (drop (g.block * size_of S) bytes)
      at-bytes bytes told = from-told (contents S (media_id_of H) H) (g.block * size_of S) g.copy bytes copied told

      by : (result : Result (Unit {0}) BlockFailed) → IfErr result (λ fault. fault.done ≤ per_of S)
          → patch_told (contents S (media_id_of H) H) (g.block * size_of S) (written_bytes result (size_of S) (expected_copy S q g)) ≡ contents S (media_id_of H) (command_entry part.token (Store g.block) result ∷ H)
      by (Ok done) few = told-patch _ _ _ ∙ stored-done S H part.token q u is.held.named of-unit g.copy copy-size on-medium at-bytes put-long
      by (Err fault) few = told-patch _ _ _ ∙ stored-failed S H part.token q u is.held.named of-unit g.copy copy-size on-medium at-bytes put-long fault.done few

  pub store-follows : (d d' : Device) (result : Result (Unit {0}) BlockFailed) → d.size ≡ size_of S → IsWrite d part.block c.group.items result d' → CommandFollows S H (command_entry part.token (Store g.block) result) result d d'
  store-follows d d' result size write = record {
    command = write.command;
    era = λ meets. write-era S H part.token d d' (let few = is.sound.room.few in omega arith) meets (Store g.block) part.block c.group.items result refl write (store-contents result (few-blocks result write.done));
  }
    where
      few-blocks : (result : Result (Unit {0}) BlockFailed) → IfErr result (λ fault. fault.done * d.size < length c.group.items) → IfErr result (λ fault. fault.done ≤ per_of S)
      few-blocks (Ok done) less = tt
      few-blocks (Err fault) less = (let few : fault.done < per_of S = stops-before fault.done d size less in omega arith)
