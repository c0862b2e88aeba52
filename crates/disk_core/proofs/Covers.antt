-- The puts of a write and the wipes of an erase.
use Rattle.std.proofs.Common.{◌≡◌, ℕ, ◌+◌, ◌-◌, ◌*◌, ◌/◌, ◌^◌, ◌<◌, ◌≤◌, true, false, List, ◌∷◌, length, take, drop, Option, None, Some, refl, sym, ◌∙◌, ap, subst, arith, Result, Ok, Err, OnOk, IfErr, IsSome, IfSome}
use Rattle.std.specs.Prelude.{count_by, max, min}
use Rattle.std.proofs.Math.Nat.{mul-le-mul_right, mul_comm, div-le_of_le-mul, lt_of_mul-lt-mul_right}
use Rattle.medium.specs.Device.{Device, IsShaped, IsTransfer, IsWrite, patch_told, written_bytes}
use Rattle.medium.specs.declared.block_failed.BlockFailed.{BlockFailed}
use Rattle.drive.specs.Drives.{DriveState, medium_in}
use Rattle.disk_split.specs.declared.span.Span.{Span}
use Rattle.disk_split.specs.Units.{group_size, up, IsRun, first_whole}
use Rattle.disk_split.proofs.Rounding.{up-reaches, group-some}
use Rattle.history.specs.declared.entry.Kind.{Kind}
use Rattle.history.specs.declared.entry.Kind.TheVariants.{Read, Write, Flush, Erase}
use Rattle.history.specs.declared.entry.Command.{Command}
use Rattle.history.specs.declared.entry.Entry.{Entry}
use Rattle.history.specs.declared.entry.Entry.TheVariants.{Fault}
use Rattle.history.specs.Setup.{Setup, size_of, per_of}
use Rattle.history.specs.Eras.{media_id_of}
use Rattle.history.specs.Tokens.{Request, changes_bytes, bytes_to_put, from_of, until_of}
use Rattle.history.specs.Commands.{first_block, block_count, is_change, is_transfer, is_fetch, is_store, is_sync, is_get}
use Rattle.history.specs.Contents.{contents, bytes_between}
use Rattle.history.specs.Rules.{StopsAt}
use Rattle.history.specs.Tasks.{Moves, Todo, task_command, span_command}
use Rattle.history.specs.Next.{Made}
use Rattle.history_laws.specs.Left.{task_bytes}
use Rattle.history_laws.specs.Units.{IsUnitCommand, is_span_command}
use Rattle.history_laws.proofs.CountLemmas.{fetches-same}
use Rattle.history_laws.proofs.MediaLemmas.{bytes-long}
use Rattle.history_laws.proofs.PieceLemmas.{run-low, run-high}
use Rattle.token_table.specs.declared.record.Record.{Record}
use Rattle.token_table.specs.Records.{request_at, mark_at}
use Rattle.subtask_queue.specs.declared.sub.Sub.{Sub}
use Rattle.subtask_queue.specs.Subs.{token_of, is_of}
use Rattle.disk_core.specs.declared.answers.Step.TheVariants.{Did}
use Rattle.disk_core.specs.declared.parts.Core.{Core}
use Rattle.disk_core.specs.State.{Kept, setup_of}
use Rattle.disk_core.specs.Facts.{IsBuffer}
use Rattle.disk_core.specs.Parts.{kept_of, state_of}
use Rattle.disk_core.specs.Pieces.{bytes_in}
use Rattle.disk_core.specs.Commands.{OnMedium}
use Rattle.disk_core.specs.Inside.{Tracks, group_low, group_high}
use Rattle.disk_core.specs.Calls.{StepSays, Fills, command_of}
use Rattle.disk_core.specs.Moves.{IsDisk, IsFirst, Reaches, HasBytesIn, MayPut, low_of, high_of, blocks_bytes, cover_by, MayEnter, Settles, EntersDone, EntersFault}
use Rattle.disk_core.proofs.Commanded.{command_entry, write-era, run-written}
use Rattle.disk_core.proofs.Finished.{kept-done}
use Rattle.history_laws.proofs.LeftLemmas.{FinishesTask}
use Rattle.disk_core.proofs.Moving.{IsMoving, unit-moving, medium-meets, moving-request, moving-present, moving-finishes, moving-left, moving-transfer, moving-has}
use Rattle.disk_core.proofs.Stepped.{CommandFollows, did-done, did-failed}
use Rattle.disk_core.proofs.Synced.{on-as}
use Rattle.disk_core.proofs.Upcoming.{may-fail, unit-token, legal-in}
use Rattle.history_laws.proofs.BytesLemmas.{between-long}

-- the bytes that the table has for a request are those of the history
pub bytes-same : (S : Setup) (H : List Entry) (t : ℕ) (r : Request) (own : Record) (low high : ℕ) → Tracks S H t own r → IsBuffer S H t r own.request.buffer → changes_bytes r.asked.kind ≡ true → bytes_in own.request low high ≡ bytes_between S r low high
bytes-same S H t r own low high tracks buffer changes =
    ap (λ a. take (high - low) (drop (low - own.request.at) (bytes_to_put a.kind a.length own.request.buffer))) tracks.asked
    ∙ ap (λ n. take (high - low) (drop (low - n) (bytes_to_put r.asked.kind r.asked.length own.request.buffer))) tracks.begins
    ∙ ap (λ bytes. take (high - low) (drop (low - from_of S r) bytes)) (by r.asked.kind refl)
  where
    by : (kind : Kind) → r.asked.kind ≡ kind → bytes_to_put kind r.asked.length own.request.buffer ≡ bytes_to_put kind r.asked.length r.bytes
    by Read is = absurd (no-way (sym (ap changes_bytes is) ∙ changes))
      where
        no-way : false ≡ true → ⊥
        no-way e = cc
    by Write is = buffer.bytes is
    by Flush is = absurd (no-way (sym (ap changes_bytes is) ∙ changes))
      where
        no-way : false ≡ true → ⊥
        no-way e = cc
    by Erase is = refl

cover-span : (H : List Entry) (t : ℕ) (kind : Kind) (b n : ℕ) → changes_bytes kind ≡ true → span_command H t kind true b n ≡ cover_by kind b n
cover-span H t Read b n is = cc
cover-span H t Write b n is = refl
cover-span H t Flush b n is = cc
cover-span H t Erase b n is = refl

-- what such a command is
record IsCover (kind : Kind) (b n : ℕ) (command : Command) : Type 0 where
  pub of : is_span_command kind true command ≡ true
  pub at : (first_block command ≡ b)
  pub counted : (S : Setup) → block_count S command ≡ n
  pub changing : is_change command ≡ true
  pub moving : is_transfer command ≡ true
  pub no_fetch : is_fetch command ≡ false
  pub no_store : is_store command ≡ false
  pub no_sync : is_sync command ≡ false
  pub no_get : is_get command ≡ false
  pub stops : (S : Setup) (done : ℕ) → done < n → StopsAt S command done
  pub fills : (S : Setup) (H : List Entry) (t : ℕ) (kept : List (Option Kept)) → Fills S H t command Made kept kept

cover-is : (kind : Kind) (b n : ℕ) → changes_bytes kind ≡ true → IsCover kind b n (cover_by kind b n)
cover-is Read b n is = cc
cover-is Write b n is = record { of = refl; at = refl; counted = λ S. refl; changing = refl; moving = refl; no_fetch = refl; no_store = refl; no_sync = refl; no_get = refl; stops = λ S done lt. lt; fills = λ S H t kept. refl }
cover-is Flush b n is = cc
cover-is Erase b n is = record { of = refl; at = refl; counted = λ S. refl; changing = refl; moving = refl; no_fetch = refl; no_store = refl; no_sync = refl; no_get = refl; stops = λ S done lt. lt; fills = λ S H t kept. refl }

pub up-over : (g a : ℕ) → 0 < g → a / g ≤ (a + g - 1) / g
up-over g a some = div-le_of_le-mul g (let over = up-reaches g a some in let flip = mul_comm (up g a) g in omega arith)

module _ {M : Type 0} (device : M → Device) (prepared : M → ℕ → Type 0) (drive : DriveState M) (c : Core) (sound : IsDisk device prepared drive c) (unit : Sub) (todo : Todo) (first : IsFirst device drive c unit todo) (b n low high : ℕ)
    (task_is : todo.task ≡ Moves (record { whole = true; block = b; count = n; low = low; high = high })) (writes : changes_bytes todo.kind ≡ true) where
  abbrev S : Setup
  S = setup_of device drive c.protected_at_first

  abbrev H : List Entry
  H = c.history.entries

  abbrev u : Span
  u = record { whole = true; block = b; count = n; low = low; high = high }

  pub r : Request
  r = (unit-moving device prepared drive c sound unit todo first u task_is).1

  pub own : Record
  own = (unit-moving device prepared drive c sound unit todo first u task_is).2

  pub moving : IsMoving S H c todo.token (unit-moving device prepared drive c sound unit todo first u task_is).0 r u own
  unfolding r own
  moving = (unit-moving device prepared drive c sound unit todo first u task_is).3

  kind-is : todo.kind ≡ r.asked.kind
  unfolding r
  kind-is = (unit-moving device prepared drive c sound unit todo first u task_is).4

  changes : changes_bytes r.asked.kind ≡ true
  changes = ap changes_bytes (sym kind-is) ∙ writes

  abbrev covers : Command
  covers = cover_by r.asked.kind b n

  cover : IsCover r.asked.kind b n covers
  cover = cover-is r.asked.kind b n changes

  command-is : command_of (state_of device drive c) todo ≡ covers
  unfolding state_of
  command-is = ap (task_command H todo.token todo.kind) task_is ∙ ap (λ kind. span_command H todo.token kind true b n) kind-is ∙ cover-span H todo.token r.asked.kind b n changes

  of : IsUnitCommand S r covers u
  of = record { unit = moving.unit; block = cover.at; count = cover.counted S; kind = cover.of }

  token-is : token_of unit ≡ todo.token
  token-is = unit-token device prepared drive c sound unit todo first

  size-is : c.blocks.size ≡ size_of S
  size-is = ap (λ G. G.size) sound.fitted.blocks

  few-entries : length H < 2 ^ 63
  few-entries = (let few = sound.room.few in omega arith)

  low-is : low ≡ b * size_of S
  low-is = run-low S.geometry (from_of S r) (until_of S r) u sound.geometry.geometry moving.unit refl

  high-is : high ≡ (b + n) * size_of S
  high-is = run-high S.geometry (from_of S r) (until_of S r) u sound.geometry.geometry moving.unit refl

  sum-is : (b + n) * size_of S ≡ b * size_of S + n * size_of S
  sum-is = omega arith

  bytes-count : high - low ≡ n * size_of S
  bytes-count = (let from = low-is in let to = high-is in let sum = sum-is in omega arith)

  pub cover-bytes : high - low ≡ n * c.blocks.size
  cover-bytes = bytes-count ∙ ap (λ k. n * k) (sym size-is)

  low-own : low_of own.request b c.blocks.size ≡ low
  low-own = ap (λ k. max own.request.at (b * k)) size-is ∙ ap (λ k. max k (b * size_of S)) moving.tracks.begins ∙ sym moving.unit.low

  high-own : high_of own.request b n c.blocks.size ≡ high
  high-own = ap (λ k. min (own.request.at + own.request.asked.length) ((b + n) * k)) size-is ∙ ap (λ k. min (k + own.request.asked.length) ((b + n) * size_of S)) moving.tracks.begins
      ∙ ap (λ a. min (from_of S r + a.length) ((b + n) * size_of S)) moving.tracks.asked ∙ sym moving.unit.high

  -- the bytes that are written are those of the history
  put-bytes : blocks_bytes own.request b n c.blocks.size ≡ bytes_between S r low high
  put-bytes = ap (λ k. bytes_in own.request k (high_of own.request b n c.blocks.size)) low-own ∙ ap (bytes_in own.request low) high-own
      ∙ bytes-same S H todo.token r own low high moving.tracks moving.buffer changes

  put-long : length (blocks_bytes own.request b n c.blocks.size) ≡ n * size_of S
  put-long =
      let unit_low = moving.unit.low in let unit_high = moving.unit.high in let some = moving.unit.some in
      ap length put-bytes ∙ between-long S H todo.token r low high (bytes-long S H todo.token r (legal-in device prepared drive c sound) moving.named changes) (omega arith) (omega arith) (omega arith) ∙ bytes-count

  run-is : IsRun S.geometry (from_of S r) (until_of S r) b n
  run-is = moving.unit.kind

  -- each block is in a group in which the request has a byte
  touched : (at : ℕ) → b ≤ at → at < b + n → (group_low S r ≤ at) × (at < group_high S r)
  touched at from until =
      let run = run-is in
      let G = S.geometry in
      let begins = run.begins in let some = run.some in let counted = run.counted in
      let less : from_of S r / group_size G ≤ (from_of S r + group_size G - 1) / group_size G = up-over (group_size G) (from_of S r) (group-some G sound.geometry.geometry) in
      let more : until_of S r / group_size G ≤ (until_of S r + group_size G - 1) / group_size G = up-over (group_size G) (until_of S r) (group-some G sound.geometry.geometry) in
      let low_group : group_low S r ≤ first_whole G (from_of S r) = mul-le-mul_right (per_of S) less in
      let high_group : until_of S r / group_size G * per_of S ≤ group_high S r = mul-le-mul_right (per_of S) more in
      (omega arith, omega arith)

  -- what the functions that it calls ask
  pub cover-request : request_at c.tokens (token_of unit) ≡ Some own.request
  cover-request = ap (request_at c.tokens) token-is ∙ moving-request device prepared drive c sound todo.token _ r u own moving

  pub cover-put : ((m : M) → IsShaped (device m)) → MayPut device prepared drive c (token_of unit) b n own.request
  cover-put shaped = record {
    may_name = record {
      named = cover-request;
      has = subst (HasBytesIn own.request b n) (sym size-is) (by (medium_in drive) refl present);
      changes = ap (λ a. changes_bytes a.kind) moving.tracks.asked ∙ changes;
      buffer = λ is. (let writes_ = sym (ap (λ a. a.kind) moving.tracks.asked) ∙ is in moving.buffer.long ∙ (rw writes_ refl) ∙ sym (ap (λ a. a.length) moving.tracks.asked));
      count = 64 * size_of S;
      zeros = sound.fitted.zeros;
      enough = (let from = low-own in let to = high-own in let all = bytes-count in let most = moving.fits.most in let bound : n * size_of S ≤ 64 * size_of S = mul-le-mul_right (size_of S) most in omega arith);
    };
    present = present;
    transfer = λ m in_. subst (λ k. IsTransfer (device m) b k) (sym put-long) (moving-transfer device prepared drive c sound todo.token _ r u own moving (n * size_of S) refl m in_);
    ready = λ m in_ at from until.
        (let size = (medium-meets device prepared drive c sound m in_).size in
        let here : at * size_of S < (b + n) * size_of S = (let long = put-long in let sum = sum-is in let lhs : at * (device m).size ≡ at * size_of S = ap (λ k. at * k) size in let rhs : b * (device m).size ≡ b * size_of S = ap (λ k. b * k) size in omega arith) in
        let inside = touched at from (lt_of_mul-lt-mul_right (size_of S) here) in
        sound.ready m in_ todo.token at r moving.outstanding moving.named changes inside.0 inside.1);
  }
    where
      present : IsSome (medium_in drive)
      present = moving-present device prepared drive c sound todo.token _ r u own moving

      by : (o : Option M) → medium_in drive ≡ o → IsSome o → HasBytesIn own.request b n (size_of S)
      by None is some = cc
      by (Some m) is some = moving-has device prepared drive c sound todo.token _ r u own moving shaped m is

  pub cover-enter : (result : Result (Unit {0}) BlockFailed) → MayEnter c unit (n * c.blocks.size) result
  cover-enter result =
      let may = may-fail device prepared drive c sound todo.token moving.outstanding in
      let left = moving-left device prepared drive c sound todo.token _ r u own moving covers of cover.moving in
      record {
        outstanding = ap (mark_at c.tokens) token-is ∙ may.0;
        left = by result (subst (λ t. IfSome (request_at c.tokens t) (λ q. n * c.blocks.size ≤ q.left)) (sym token-is) (subst (λ k. IfSome (request_at c.tokens todo.token) (λ q. k ≤ q.left)) cover-bytes left));
        place = may.1;
        owed = subst (λ t. count_by (is_of t) c.queue + 2 ≤ c.owed) (sym token-is) may.2;
      }
    where
      by : (result : Result (Unit {0}) BlockFailed) → IfSome (request_at c.tokens (token_of unit)) (λ q. n * c.blocks.size ≤ q.left) → OnOk result (IfSome (request_at c.tokens (token_of unit)) (λ q. n * c.blocks.size ≤ q.left))
      by (Ok x) few = few
      by (Err fault) few = tt

  module _ (shaped : (m : M) → IsShaped (device m)) (drive' : DriveState M) (c' : Core) where
    stops : (d d' : Device) (fault : BlockFailed) → d.size ≡ size_of S → IsWrite d b (blocks_bytes own.request b n c.blocks.size) (Err fault) d' → fault.done < n
    stops d d' fault size is = lt_of_mul-lt-mul_right (size_of S) (let few = is.done in let long = put-long in let lhs : fault.done * d.size ≡ fault.done * size_of S = ap (λ k. fault.done * k) size in omega arith)

    few-done : (result : Result (Unit {0}) BlockFailed) (d d' : Device) → d.size ≡ size_of S → IsWrite d b (blocks_bytes own.request b n c.blocks.size) result d' → IfErr result (λ fault. fault.done ≤ u.count)
    few-done (Ok x) d d' size is = tt
    few-done (Err fault) d d' size is = (let lt = stops d d' fault size is in omega arith)

    follows : (result : Result (Unit {0}) BlockFailed) → OnMedium device prepared drive drive' (λ d d'. IsWrite d b (blocks_bytes own.request b n c.blocks.size) result d') → OnMedium device prepared drive drive' (CommandFollows S H (command_entry todo.token covers result) result)
    follows result on = on-as device prepared drive drive' (λ d d'. IsWrite d b (blocks_bytes own.request b n c.blocks.size) result d') (CommandFollows S H (command_entry todo.token covers result) result)
        (λ d d' does. record {
          command = does.command;
          era = λ meets. write-era S H todo.token d d' few-entries meets covers b (blocks_bytes own.request b n c.blocks.size) result cover.no_sync does
              (subst (λ bytes. patch_told (contents S (media_id_of H) H) (b * size_of S) (written_bytes result (size_of S) bytes) ≡ contents S (media_id_of H) (command_entry todo.token covers result ∷ H)) (sym put-bytes)
              (run-written S H todo.token d d' few-entries meets covers r u result sound.geometry moving.named of cover.changing refl (few-done result d d' meets.size does)));
        }) on

    pub cover-settled : (result : Result (Unit {0}) BlockFailed) → OnMedium device prepared drive drive' (λ d d'. IsWrite d b (blocks_bytes own.request b n c.blocks.size) result d') → Settles c c' unit covers (n * c.blocks.size) result
        → Reaches device prepared drive c drive' c' (λ s s'. StepSays s Did s')
    unfolding state_of
    cover-settled (Ok x) on done =
        did-done device prepared drive c sound shaped unit todo first covers r drive' c c' command-is cover.no_fetch cover.no_store refl
        (subst (FinishesTask S H todo.token covers r) (sym task_is) (moving-finishes device prepared drive c sound todo.token _ r u own moving covers of cover.moving)) sound.records (own, moving.there)
        (kept-done S H todo.token covers (kept_of c.tokens) cover.no_get sound.facts.tokens) (cover.fills S H todo.token (kept_of c.tokens)) (follows (Ok x) on)
        (subst (λ task. EntersDone c c' unit covers (task_bytes task)) (sym task_is) (subst (EntersDone c c' unit covers) (sym cover-bytes) done))
    cover-settled (Err fault) on failed =
        did-failed device prepared drive c sound shaped unit todo first covers fault drive' c c' c.fetched command-is
        (cover.stops S fault.done (stops (device on.before) (device on.after) fault (medium-meets device prepared drive c sound on.before on.was_in).size on.does)) refl
        (sound.fitted.fetches_are ∙ sym (fetches-same H (Fault todo.token covers fault.done) cover.no_fetch)) (follows (Err fault) on) (subst (λ t. EntersFault c c' t covers fault.done) token-is failed)

  pub cover-command : (command : Command) → IfSome (request_at c.tokens (token_of unit)) (λ q. command ≡ cover_by q.asked.kind b n) → command ≡ covers
  cover-command command is = subst (λ o. IfSome o (λ q. command ≡ cover_by q.asked.kind b n)) cover-request is ∙ ap (λ a. cover_by a.kind b n) moving.tracks.asked
