-- The fetch of a part of a write or an erase.
use Rattle.std.proofs.Common.{◌≡◌, ℕ, ◌+◌, ◌-◌, ◌*◌, ◌^◌, ◌<◌, ◌≤◌, Bool, true, false, not, ◌&&◌, ◌||◌, List, ◌∷◌, length, Option, None, Some, refl, sym, ◌∙◌, ap, subst, arith, Result, Ok, Err, IsSome, IfSome}
use Rattle.std.specs.Prelude.{count_by, max, min, nat_lt, vec_capacity, is_some}
use Rattle.std.proofs.Math.Nat.{mul-le-mul_right, mul_comm}
use Rattle.std.proofs.lemmas.Bool.{and_parts, not-true, ltb-true}
use Rattle.std.proofs.lemmas.List.{length-map}
use Rattle.medium.specs.Device.{Device, IsShaped, IsTransfer, IsRead, AreToldAt}
use Rattle.medium.specs.declared.block_failed.BlockFailed.{BlockFailed}
use Rattle.drive.specs.Drives.{DriveState, medium_in}
use Rattle.block_gate.specs.Gates.{Gate, gate_of, is_block_held, is_lent, with_gate}
use Rattle.block_gate.specs.Works.{Lent as Work}
use Rattle.block_gate.proofs.GatesLemmas.{gate-new}
use Rattle.disk_split.specs.declared.span.Span.{Span}
use Rattle.history.specs.declared.entry.Command.TheVariants.{Fetch}
use Rattle.history.specs.declared.entry.Entry.{Entry}
use Rattle.history.specs.declared.entry.Entry.TheVariants.{Done, Fault}
use Rattle.history.specs.Setup.{Setup, size_of, per_of}
use Rattle.history.specs.Eras.{media_id_of}
use Rattle.history.specs.Tokens.{Request, token_count, changes_bytes, from_of, until_of}
use Rattle.history.specs.Contents.{contents, bytes_between}
use Rattle.history.specs.Marks.{is_held, fetches, was_fetched}
use Rattle.history.specs.Rules.{MayCommand}
use Rattle.history.specs.Tasks.{Moves, Todo, task_command, span_command, is_task_clear}
use Rattle.history.specs.Next.{Made}
use Rattle.history_laws.proofs.CountLemmas.{accepted-same, fetches-more}
use Rattle.history_laws.proofs.MayLemmas.{part-unfetched}
use Rattle.history_laws.proofs.MediaLemmas.{bytes-long}
use Rattle.token_table.specs.declared.record.Record.{Record}
use Rattle.token_table.specs.declared.record.Mark.{Mark}
use Rattle.token_table.specs.Records.{request_at, mark_at}
use Rattle.subtask_queue.specs.declared.sub.Sub.{Sub}
use Rattle.subtask_queue.specs.declared.sub.Sub.TheVariants as sub
use Rattle.subtask_queue.specs.Subs.{is_of}
use Rattle.disk_core.specs.declared.answers.Step.TheVariants.{Did, Lent}
use Rattle.disk_core.specs.declared.parts.Core.{Core}
use Rattle.disk_core.specs.State.{setup_of}
use Rattle.disk_core.specs.Parts.{kept_of, state_of}
use Rattle.index_links.specs.Lists.{is_among}
use Rattle.disk_core.specs.Pieces.{bytes_in}
use Rattle.disk_core.specs.Commands.{OnMedium, OfMedium}
use Rattle.disk_core.specs.Inside.{AreFitted}
use Rattle.disk_core.specs.Calls.{StepSays, IsWork, LendsFirst, Makes, command_of}
use Rattle.history_laws.specs.Ranges.{low_in, high_in}
use Rattle.disk_core.specs.Moves.{IsDisk, IsFirst, Reaches, HasPlace, HasBytesIn, MayName, MayHold, MayLend, low_of, high_of, blocks_bytes, lent_of, EntersFault}
use Rattle.disk_core.proofs.Commanded.{command_entry, read-era}
use Rattle.disk_core.proofs.Covers.{bytes-same}
use Rattle.history_laws.proofs.BytesLemmas.{between-long}
use Rattle.disk_core.proofs.Gated.{unheld-block, ticket-new, ticket-unknown}
use Rattle.disk_core.proofs.Lending.{HasLent, lent-closed}
use Rattle.disk_core.proofs.Links.{AreClosed, links-disk, disk-closed}
use Rattle.disk_core.proofs.Moving.{IsMoving, unit-moving, medium-meets, moving-request, moving-present, moving-transfer, moving-has}
use Rattle.disk_core.proofs.Spans.{part-span}
use Rattle.disk_core.proofs.Stepped.{CommandFollows, beside-command, commanded-on, did-failed}
use Rattle.history_laws.proofs.QuietLemmas.{done-entry}
use Rattle.disk_core.proofs.Synced.{on-as}
use Rattle.disk_core.proofs.Upcoming.{next-is, may-fail, unit-token, legal-in, whole-in}
use Rattle.history_laws.proofs.FetchLemmas.{fetch-span, fetches-few}

clear-parts : (writes held free : Bool) → writes ≡ true → (not writes || (not held && free)) ≡ true → (held ≡ false) × (free ≡ true)
clear-parts writes held free is clear = (let both = and_parts (not held) free (ap (λ v. not v || (not held && free)) (sym is) ∙ clear) in (not-true held both.0, both.1))

module _ {M : Type 0} (device : M → Device) (prepared : M → ℕ → Type 0) (drive : DriveState M) (c : Core) (sound : IsDisk device prepared drive c) (t b from n : ℕ) (todo : Todo) (first : IsFirst device drive c (sub.Part t b from n true) todo) where
  abbrev S : Setup
  S = setup_of device drive c.protected_at_first

  abbrev H : List Entry
  H = c.history.entries

  abbrev unit : Sub
  unit = sub.Part t b from n true

  span : (low high : ℕ) × (todo.task ≡ Moves (record { whole = false; block = b; count = c.blocks.per; low = low; high = high })) × (changes_bytes todo.kind ≡ true)
  span = part-span device prepared drive c sound unit todo first t b from n true refl

  u : Span
  u = record { whole = false; block = b; count = c.blocks.per; low = span.0; high = span.1 }

  task-is : todo.task ≡ Moves u
  unfolding u
  task-is = span.2

  pub r : Request
  r = (unit-moving device prepared drive c sound unit todo first u task-is).1

  pub own : Record
  own = (unit-moving device prepared drive c sound unit todo first u task-is).2

  moving : IsMoving S H c todo.token (unit-moving device prepared drive c sound unit todo first u task-is).0 r u own
  unfolding r own
  moving = (unit-moving device prepared drive c sound unit todo first u task-is).3

  kind-is : todo.kind ≡ r.asked.kind
  unfolding r
  kind-is = (unit-moving device prepared drive c sound unit todo first u task-is).4

  changes : changes_bytes r.asked.kind ≡ true
  changes = ap changes_bytes (sym kind-is) ∙ span.3

  token-is : t ≡ todo.token
  token-is = unit-token device prepared drive c sound unit todo first

  clear : (is_held S H b ≡ false) × (nat_lt 0 c.gates.free ≡ true)
  unfolding u
  clear =
      let next = next-is device prepared drive c sound unit todo first in
      clear-parts (changes_bytes todo.kind) (is_held S H b) (nat_lt 0 c.gates.free) span.3 (sym (ap (is_task_clear (is_held S H) (nat_lt 0 c.gates.free) todo.kind) task-is) ∙ next.1.clear)

  unfetched : was_fetched H todo.token b ≡ false
  unfolding u
  unfetched = part-unfetched S H todo.token r u sound.geometry (legal-in device prepared drive c sound) (record { outstanding = moving.outstanding; named = moving.named; unit = moving.unit; unmoved = moving.unfinished }) moving.unit.kind clear.0

  command-is : command_of (state_of device drive c) todo ≡ Fetch b
  unfolding state_of u
  command-is = ap (task_command H todo.token todo.kind) task-is ∙ ap (λ kind. span_command H todo.token kind false b c.blocks.per) kind-is ∙ fetch-span H todo.token r.asked.kind b c.blocks.per changes unfetched

  may-fetch : MayCommand S H todo.token (Fetch b)
  unfolding state_of
  may-fetch = subst (MayCommand S H todo.token) command-is (next-is device prepared drive c sound unit todo first).1.may

  size-is : c.blocks.size ≡ size_of S
  size-is = ap (λ G. G.size) sound.fitted.blocks

  per-is : c.blocks.per ≡ per_of S
  per-is = ap (λ G. G.per) sound.fitted.blocks

  few-entries : length H < 2 ^ 63
  few-entries = (let few = sound.room.few in omega arith)

  group-long : length c.group.items ≡ c.blocks.per * size_of S
  group-long = sound.fitted.group ∙ mul_comm (size_of S) (per_of S) ∙ ap (λ k. k * size_of S) (sym per-is)

  -- what the functions that it calls ask
  pub fetch-few : c.fetched + 1 < 2 ^ 64
  fetch-few = (let are = sound.fitted.fetches_are in let few = fetches-few H in let all = few-entries in omega arith)

  pub fetch-present : IsSome (medium_in drive)
  fetch-present = moving-present device prepared drive c sound todo.token _ r u own moving

  pub fetch-transfer : OfMedium drive (λ m. IsTransfer (device m) b (length c.group.items))
  unfolding u
  fetch-transfer = moving-transfer device prepared drive c sound todo.token _ r u own moving (length c.group.items) group-long

  pub fetch-may : (mark_at c.tokens t ≡ Mark.Outstanding) × HasPlace c × (count_by (is_of t) c.queue + 2 ≤ c.owed)
  fetch-may = subst (λ v. (mark_at c.tokens v ≡ Mark.Outstanding) × HasPlace c × (count_by (is_of v) c.queue + 2 ≤ c.owed)) (sym token-is) (may-fail device prepared drive c sound todo.token moving.outstanding)

  facts : AreClosed S H c
  facts = disk-closed device prepared drive c sound

  pub fetch-hold : (mid : Core) → mid.gates ≡ c.gates → mid.holders ≡ c.holders → length mid.group.items ≡ length c.group.items → MayHold mid b c.fetched
  fetch-hold mid gates holders long =
      let are = sound.fitted.fetches_are in
      let free = ltb-true 0 c.gates.free clear.1 in
      let paired = ap length sound.holders.paired in
      let count : length c.holders.items ≡ length c.gates.held = sym (length-map c.holders.items (λ h. h.ticket)) ∙ paired ∙ length-map c.gates.held (λ g. g.ticket) in
      let fits = sound.holders.fits in
      record {
        unheld = ap (λ v. is_block_held v.held b) gates ∙ unheld-block S H c.gates c.holders.items (vec_capacity c.holders) facts.geometry facts.legal facts.gates facts.holders b clear.0;
        free = subst (λ v. 0 < v.free) (sym gates) free;
        fresh = ap (λ v. gate_of v.held c.fetched) gates ∙ ap (gate_of c.gates.held) are ∙ ticket-new S H c.gates c.holders.items (vec_capacity c.holders) facts.geometry facts.legal facts.gates facts.holders;
        unknown = ap (λ v. is_among v.gone c.fetched) gates ∙ ap (is_among c.gates.gone) are ∙ ticket-unknown S H c.gates c.holders.items (vec_capacity c.holders) facts.geometry facts.legal facts.gates facts.holders;
        long = long ∙ sound.fitted.group ∙ sym facts.gates.sized ∙ ap (λ v. v.size) (sym gates);
        room = subst (λ v. length v.items < vec_capacity v) (sym holders) (omega arith);
      }

  low-own : low_of own.request b c.blocks.size ≡ u.low
  unfolding u
  low-own = ap (λ k. max own.request.at (b * k)) size-is ∙ ap (λ k. max k (b * size_of S)) moving.tracks.begins ∙ sym moving.unit.low

  high-own : high_of own.request b c.blocks.per c.blocks.size ≡ u.high
  unfolding u
  high-own = ap (λ k. min (own.request.at + own.request.asked.length) ((b + c.blocks.per) * k)) size-is ∙ ap (λ k. min (k + own.request.asked.length) ((b + c.blocks.per) * size_of S)) moving.tracks.begins
      ∙ ap (λ a. min (from_of S r + a.length) ((b + c.blocks.per) * size_of S)) moving.tracks.asked ∙ sym moving.unit.high

  unit-bytes : blocks_bytes own.request b c.blocks.per c.blocks.size ≡ bytes_between S r u.low u.high
  unit-bytes = ap (λ k. bytes_in own.request k (high_of own.request b c.blocks.per c.blocks.size)) low-own ∙ ap (bytes_in own.request u.low) high-own
      ∙ bytes-same S H todo.token r own u.low u.high moving.tracks moving.buffer changes

  -- the bytes lie in the group
  record LiesIn : Type 0 where
    starts : b * size_of S ≤ u.low
    order : u.low < u.high
    until : u.high ≤ b * size_of S + c.blocks.per * size_of S
    begins : from_of S r ≤ u.low
    ends : u.high ≤ until_of S r

  lies : LiesIn
  unfolding u
  lies =
      let low = moving.unit.low in let high = moving.unit.high in let some = moving.unit.some in
      let sum : (b + c.blocks.per) * size_of S ≡ b * size_of S + c.blocks.per * size_of S = omega arith in
      record { starts = omega arith; order = omega arith; until = omega arith; begins = omega arith; ends = omega arith }

  patch-long : length (blocks_bytes own.request b c.blocks.per c.blocks.size) ≡ u.high - u.low
  patch-long =
      let at = lies in let begins = at.begins in let order = at.order in let ends = at.ends in
      ap length unit-bytes ∙ between-long S H todo.token r u.low u.high (bytes-long S H todo.token r (legal-in device prepared drive c sound) moving.named changes) begins (omega arith) ends

  small-group : c.blocks.per * size_of S ≤ 32768
  small-group =
      let few = sound.geometry.geometry.per_most in let size = sound.geometry.geometry.size_most in
      let per = per-is in
      let bound : c.blocks.per * size_of S ≤ 8 * size_of S = mul-le-mul_right (size_of S) (omega arith) in
      omega arith

  named-own : request_at c.tokens t ≡ Some own.request
  unfolding u
  named-own = ap (request_at c.tokens) token-is ∙ moving-request device prepared drive c sound todo.token _ r u own moving

  has-own : ((m : M) → IsShaped (device m)) → HasBytesIn own.request b c.blocks.per c.blocks.size
  unfolding u
  has-own shaped = subst (HasBytesIn own.request b c.blocks.per) (sym size-is) (by (medium_in drive) refl fetch-present)
    where
      by : (o : Option M) → medium_in drive ≡ o → IsSome o → HasBytesIn own.request b c.blocks.per (size_of S)
      by None is some = cc
      by (Some m) is some = moving-has device prepared drive c sound todo.token _ r u own moving shaped m is

  pub fetch-name : ((m : M) → IsShaped (device m)) → MayName c t b c.blocks.per own.request
  fetch-name shaped = record {
    named = named-own;
    has = has-own shaped;
    changes = ap (λ a. changes_bytes a.kind) moving.tracks.asked ∙ changes;
    buffer = λ is. (let writes_ = sym (ap (λ a. a.kind) moving.tracks.asked) ∙ is in moving.buffer.long ∙ (rw writes_ refl) ∙ sym (ap (λ a. a.length) moving.tracks.asked));
    count = 64 * size_of S;
    zeros = sound.fitted.zeros;
    enough = (let low = low-own in let high = high-own in let at = lies in let lo = at.starts in let hi = at.until in let few = sound.geometry.geometry.per_most in let per = per-is in
        let bound : c.blocks.per * size_of S ≤ 64 * size_of S = mul-le-mul_right (size_of S) (omega arith) in omega arith);
  }

  pub fetch-lend : ((m : M) → IsShaped (device m)) → (mid : Core) → (group : List ℕ) → mid.tokens ≡ c.tokens → mid.blocks ≡ c.blocks → mid.zeros ≡ c.zeros → mid.gates ≡ with_gate c.gates b c.fetched group → MayLend mid t b c.fetched own.request
  unfolding with_gate is_lent
  fetch-lend shaped mid group tokens blocks zeros gates =
      let g : Gate = record { ticket = c.fetched; block = b; out = false; copy = group } in
      let none = ap (gate_of c.gates.held) sound.fitted.fetches_are ∙ ticket-new S H c.gates c.holders.items (vec_capacity c.holders) facts.geometry facts.legal facts.gates facts.holders in
      let there : gate_of mid.gates.held c.fetched ≡ Some g = ap (λ v. gate_of v.held c.fetched) gates ∙ gate-new c.gates.held c.fetched g none refl in
      let name = fetch-name shaped in
      let at = lies in let lo = at.starts in let hi = at.until in let order = at.order in
      let low = low-own in let long = patch-long in let small = small-group in
      let sized : mid.gates.size ≡ c.blocks.per * size_of S = ap (λ v. v.size) gates ∙ facts.gates.sized ∙ mul_comm (size_of S) (per_of S) ∙ ap (λ k. k * size_of S) (sym per-is) in
      let same : b * c.blocks.size ≡ b * size_of S = ap (λ k. b * k) size-is in
      let tiny : low_of own.request b c.blocks.size - b * c.blocks.size < 2 ^ 32 = omega arith in
      let fits : low_of own.request b c.blocks.size - b * c.blocks.size + length (blocks_bytes own.request b c.blocks.per c.blocks.size) ≤ mid.gates.size = omega arith in
      record {
        may_name = record {
          named = ap (λ v. request_at v t) tokens ∙ name.named;
          has = subst (λ G. HasBytesIn own.request b G.per G.size) (sym blocks) name.has;
          changes = name.changes;
          buffer = name.buffer;
          count = name.count;
          zeros = ap (λ v. v.items) zeros ∙ name.zeros;
          enough = subst (λ G. high_of own.request b G.per G.size - low_of own.request b G.size ≤ name.count) (sym blocks) name.enough;
        };
        held = ap is_some there;
        inside = ap is_lent there;
        small = subst (λ G. low_of own.request b G.size - b * G.size < 2 ^ 32) (sym blocks) tiny;
        fits = subst (λ G. low_of own.request b G.size - b * G.size + length (blocks_bytes own.request b G.per G.size) ≤ mid.gates.size) (sym blocks) fits;
      }

  -- the work that is lent
  pub fetch-work : (mid : Core) (group : List ℕ) (w : Work) → mid.tokens ≡ c.tokens → mid.blocks ≡ c.blocks → mid.gates ≡ with_gate c.gates b c.fetched group
      → ((g : Gate) → gate_of mid.gates.held c.fetched ≡ Some g → IfSome (request_at mid.tokens t) (λ q. w ≡ lent_of q g b mid.blocks c.fetched)) → w ≡ lent_of own.request (record { ticket = c.fetched; block = b; out = false; copy = group }) b c.blocks c.fetched
  unfolding with_gate
  fetch-work mid group w tokens blocks gates all =
      let g : Gate = record { ticket = c.fetched; block = b; out = false; copy = group } in
      let none = ap (gate_of c.gates.held) sound.fitted.fetches_are ∙ ticket-new S H c.gates c.holders.items (vec_capacity c.holders) facts.geometry facts.legal facts.gates facts.holders in
      let there : gate_of mid.gates.held c.fetched ≡ Some g = ap (λ v. gate_of v.held c.fetched) gates ∙ gate-new c.gates.held c.fetched g none refl in
      subst (λ G. w ≡ lent_of own.request g b G c.fetched) blocks (subst (λ o. IfSome o (λ q. w ≡ lent_of q g b mid.blocks c.fetched)) (ap (λ v. request_at v t) tokens ∙ named-own) (all g there))

  module _ (shaped : (m : M) → IsShaped (device m)) (drive' : DriveState M) (was group : List ℕ) where
    follows : (result : Result (Unit {0}) BlockFailed) → OnMedium device prepared drive drive' (λ d d'. IsRead d b result d' was group) → OnMedium device prepared drive drive' (CommandFollows S H (command_entry todo.token (Fetch b) result) result)
    follows result on = on-as device prepared drive drive' (λ d d'. IsRead d b result d' was group) (CommandFollows S H (command_entry todo.token (Fetch b) result) result)
        (λ d d' does. record { command = does.command; era = λ meets. read-era S H todo.token d d' few-entries meets (Fetch b) b result was group refl refl does }) on

    -- the read failed
    pub fetch-failed : (mid c' : Core) (fault : BlockFailed) → length mid.group.items ≡ length c.group.items → OnMedium device prepared drive drive' (λ d d'. IsRead d b (Err fault) d' was group) → EntersFault (record c { fetched = c.fetched + 1; group = mid.group }) c' t (Fetch b) fault.done
        → Reaches device prepared drive c drive' c' (λ s s'. StepSays s Did s')
    fetch-failed mid c' fault long on failed =
        did-failed device prepared drive c sound shaped unit todo first (Fetch b) fault drive' mid c' (c.fetched + 1) command-is on.does.done long
        (ap (λ k. k + 1) sound.fitted.fetches_are ∙ sym (fetches-more H (Fault todo.token (Fetch b) fault.done) refl)) (follows (Err fault) on)
        (subst (λ k. EntersFault (record c { fetched = c.fetched + 1; group = mid.group }) c' k (Fetch b) fault.done) token-is failed)

    told-now : (x : Unit {0}) → OnMedium device prepared drive drive' (λ d d'. IsRead d b (Ok x) d' was group) → AreToldAt (contents S (media_id_of H) H) (b * size_of S) group
    told-now x on =
        let meets = medium-meets device prepared drive c sound on.before on.was_in in
        subst (λ told. AreToldAt told (b * size_of S) group) meets.now (subst (λ k. AreToldAt (device on.before).now (b * k) group) meets.size on.does.given)

    -- what else of the parts is so
    pub record StandsSo (c' : Core) : Type 0 where
      pub protected_at_first : c'.protected_at_first ≡ c.protected_at_first
      pub blocks : c'.blocks ≡ c.blocks
      pub accepted : c'.accepted ≡ c.accepted
      pub fetched : c'.fetched ≡ c.fetched + 1
      pub kept_long : length c'.group.items ≡ length c.group.items
      pub zeros : c'.zeros ≡ c.zeros

    abbrev w₀ : Work
    w₀ = record { ticket = fetches H; block = b; from = u.low - b * size_of S; bytes = group; patch = bytes_between S r u.low u.high }

    work-is : (x : Unit {0}) → OnMedium device prepared drive drive' (λ d d'. IsRead d b (Ok x) d' was group) → length group ≡ c.gates.size → IsWork (state_of device drive c) todo.token r w₀
    unfolding state_of u
    work-is x on long =
        let low = moving.unit.low in let high = moving.unit.high in
        let at = lies in let starts = at.starts in
        let top : u.high ≡ high_in S r b (per_of S) = high ∙ ap (λ k. min (until_of S r) ((b + k) * size_of S)) per-is in
        record {
          ticket = refl;
          named = moving.named;
          long = long;
          bytes = told-now x on;
          begins = omega arith;
          patch = ap (λ k. bytes_between S r k u.high) low ∙ ap (bytes_between S r (low_in S r b)) top;
        }

    -- the group was read, held and lent
    pub fetch-lent : (c' : Core) (w : Work) (x : Unit {0}) → OnMedium device prepared drive drive' (λ d d'. IsRead d b (Ok x) d' was group) → length group ≡ length c.group.items → HasLent H t b c.fetched group c c' → StandsSo c'
        → w ≡ lent_of own.request (record { ticket = c.fetched; block = b; out = false; copy = group }) b c.blocks c.fetched → Reaches device prepared drive c drive' c' (λ s s'. StepSays s (Lent w) s')
    unfolding state_of StepSays
    fetch-lent c' w x on long lent so is =
        let tok = todo.token in
        let e = Done tok (Fetch b) in
        let size : length group ≡ c.gates.size = long ∙ sound.fitted.group ∙ sym facts.gates.sized in
        let has : HasLent H tok b (fetches H) group c c' = subst (λ k. HasLent H tok b k group c c') sound.fitted.fetches_are (subst (λ v. HasLent H v b c.fetched group c c') token-is lent) in
        let free = ltb-true 0 c.gates.free clear.1 in
        let closed = lent-closed S H tok b r c facts (whole-in device prepared drive c sound shaped) may-fetch moving.outstanding moving.named moving.moves free group (told-now x on) size c' has in
        let f = sound.fitted in
        let fitted : AreFitted S c' = record {
          blocks = so.blocks ∙ f.blocks;
          accepts = so.accepted ∙ f.accepts ∙ sym (ap token_count closed.entries ∙ accepted-same H e refl);
          fetches_are = so.fetched ∙ ap (λ k. k + 1) f.fetches_are ∙ sym (ap fetches closed.entries ∙ fetches-more H e refl);
          group = so.kept_long ∙ f.group;
          zeros = ap (λ v. v.items) so.zeros ∙ f.zeros;
        } in
        let beside = beside-command device prepared drive c sound drive' e (Ok _) (follows (Ok x) on) c' (done-entry tok (Fetch b)) so.protected_at_first fitted in
        let sound' = links-disk device prepared drive' c' S (e ∷ H) closed beside in
        let work : w ≡ w₀ = is ∙ (λ i. record {
          ticket = sound.fitted.fetches_are i;
          block = b;
          from = from-is i;
          bytes = group;
          patch = unit-bytes i;
        }) in
        record {
          sound = sound';
          says = (
            todo,
            r,
            subst (λ v. LendsFirst (state_of device drive c) todo r v (state_of device drive' c')) (sym work) (record {
              makes = record {
                first = first.first;
                makes = subst (λ v. Makes (state_of device drive c) tok v Made (state_of device drive' c')) (sym command-is) (record {
                  setup = beside.setup;
                  entries = closed.entries;
                  legal = sound'.facts.legal;
                  fills = ap kept_of has.tokens;
                  device = commanded-on device prepared drive c sound drive' e (Ok _) (follows (Ok x) on) c';
                });
              };
              fetch = command-is;
              work = work-is x on size;
              gates = has.gates;
            }),
          );
        }
      where
        from-is : low_of own.request b c.blocks.size - b * c.blocks.size ≡ u.low - b * size_of S
        from-is = ap (λ k. k - b * c.blocks.size) low-own ∙ ap (λ k. u.low - b * k) size-is
