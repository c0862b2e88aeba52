-- The gets of a read.
use Rattle.std.proofs.Common.{◌≡◌, ℕ, ◌+◌, ◌-◌, ◌*◌, ◌^◌, ◌<◌, ◌≤◌, false, List, ◌∷◌, length, Option, None, Some, refl, sym, ◌∙◌, ap, subst, arith, Result, Ok, Err, IsSome, IfSome}
use Rattle.std.specs.Prelude.{count_by, slice_set}
use Rattle.std.specs.Option.{option_map}
use Rattle.medium.specs.Device.{Device, IsShaped, IsTransfer, AreToldAt}
use Rattle.medium.specs.declared.block_failed.BlockFailed.{BlockFailed}
use Rattle.drive.specs.Drives.{DriveState, medium_in}
use Rattle.disk_split.specs.declared.span.Span.{Span}
use Rattle.history.specs.declared.entry.Kind.TheVariants.{Read}
use Rattle.history.specs.declared.entry.Command.{Command}
use Rattle.history.specs.declared.entry.Command.TheVariants.{Get}
use Rattle.history.specs.declared.entry.Entry.{Entry}
use Rattle.history.specs.declared.entry.Entry.TheVariants.{Done, Fault}
use Rattle.history.specs.Setup.{Setup, size_of}
use Rattle.history.specs.Eras.{media_id_of}
use Rattle.history.specs.Tokens.{Request, changes_bytes, from_of}
use Rattle.history.specs.Contents.{contents}
use Rattle.history.specs.Tasks.{Moves, Todo, task_command}
use Rattle.history.specs.Next.{Made}
use Rattle.history_laws.specs.Left.{task_bytes}
use Rattle.history_laws.specs.Units.{IsUnitCommand}
use Rattle.history_laws.proofs.CountLemmas.{fetches-same}
use Rattle.token_table.specs.declared.record.Record.{Record}
use Rattle.token_table.specs.declared.record.Mark.{Mark}
use Rattle.token_table.specs.Records.{record_at, request_at, with_change, mark_at, mark_of_record}
use Rattle.token_table.specs.declared.record.Request.{Request as Asked}
use Rattle.subtask_queue.specs.declared.sub.Sub.{Sub}
use Rattle.subtask_queue.specs.Subs.{token_of, is_of}
use Rattle.disk_core.specs.declared.answers.Step.TheVariants.{Did}
use Rattle.disk_core.specs.declared.parts.Core.{Core}
use Rattle.disk_core.specs.declared.reading.Target.{Target}
use Rattle.disk_core.specs.State.{kept_at, setup_of}
use Rattle.disk_core.specs.Facts.{KeptFollow}
use Rattle.disk_core.specs.Parts.{kept_from, kept_of, state_of}
use Rattle.disk_core.specs.Commands.{OnMedium, OfMedium}
use Rattle.byte_lists.specs.Patching.{patch}
use Rattle.disk_core.specs.Inside.{RecordsFollow}
use Rattle.disk_core.specs.Calls.{StepSays, Fills, command_of}
use Rattle.disk_core.specs.Moves.{IsDisk, IsFirst, Reaches, HasPlace, HasBytesIn, IsTarget, IsGot, GetsInto, with_bytes_in, EntersDone, EntersFault, MayEnter, Settles}
use Rattle.disk_core.proofs.Buffered.{records-put, kept-put, kept-got}
use Rattle.disk_core.proofs.Commanded.{command_entry, quiet-era, no-flush}
use Rattle.history_laws.proofs.LeftLemmas.{FinishesTask}
use Rattle.disk_core.proofs.Kept.{kept-record, changed-at}
use Rattle.disk_core.proofs.Moving.{IsMoving, unit-moving, medium-meets, moving-request, moving-present, moving-finishes, moving-left, moving-transfer, moving-has}
use Rattle.disk_core.proofs.Stepped.{CommandFollows, did-done, did-failed}
use Rattle.disk_core.proofs.Synced.{on-as}
use Rattle.disk_core.proofs.Upcoming.{may-fail, unit-token}
use Rattle.history_laws.proofs.FetchLemmas.{get-kind, get-span, reads-kind}

module _ {M : Type 0} (device : M → Device) (prepared : M → ℕ → Type 0) (drive : DriveState M) (c : Core) (sound : IsDisk device prepared drive c) (unit : Sub) (todo : Todo) (first : IsFirst device drive c unit todo) (u : Span) (task_is : todo.task ≡ Moves u)
    (still : changes_bytes todo.kind ≡ false) where
  abbrev S : Setup
  S = setup_of device drive c.protected_at_first

  abbrev H : List Entry
  H = c.history.entries

  abbrev get : Command
  get = Get u.block u.count

  pub place : ℕ
  place = (unit-moving device prepared drive c sound unit todo first u task_is).0

  pub r : Request
  r = (unit-moving device prepared drive c sound unit todo first u task_is).1

  pub own : Record
  own = (unit-moving device prepared drive c sound unit todo first u task_is).2

  pub moving : IsMoving S H c todo.token place r u own
  unfolding place r own
  moving = (unit-moving device prepared drive c sound unit todo first u task_is).3

  kind-is : todo.kind ≡ r.asked.kind
  unfolding r
  kind-is = (unit-moving device prepared drive c sound unit todo first u task_is).4

  reads : r.asked.kind ≡ Read
  reads = reads-kind r.asked.kind moving.moves (ap changes_bytes (sym kind-is) ∙ still)

  command-is : command_of (state_of device drive c) todo ≡ get
  unfolding state_of
  command-is = ap (task_command H todo.token todo.kind) task_is ∙ get-span H todo.token todo.kind u.whole u.block u.count (kind-is ∙ reads)

  of : IsUnitCommand S r get u
  of = record { unit = moving.unit; block = refl; count = refl; kind = get-kind r.asked.kind u.whole u.block u.count reads }

  token-is : token_of unit ≡ todo.token
  token-is = unit-token device prepared drive c sound unit todo first

  size-is : c.blocks.size ≡ size_of S
  size-is = ap (λ G. G.size) sound.fitted.blocks

  few-entries : length H < 2 ^ 63
  few-entries = (let few = sound.room.few in omega arith)

  -- what the functions that it calls ask
  pub get-present : IsSome (medium_in drive)
  get-present = moving-present device prepared drive c sound todo.token place r u own moving

  pub get-may : (mark_at c.tokens (token_of unit) ≡ Mark.Outstanding) × HasPlace c × (count_by (is_of (token_of unit)) c.queue + 2 ≤ c.owed)
  get-may = subst (λ t. (mark_at c.tokens t ≡ Mark.Outstanding) × HasPlace c × (count_by (is_of t) c.queue + 2 ≤ c.owed)) (sym token-is) (may-fail device prepared drive c sound todo.token moving.outstanding)

  pub get-has : ((m : M) → IsShaped (device m)) → HasBytesIn own.request u.block u.count c.blocks.size
  get-has shaped = subst (HasBytesIn own.request u.block u.count) (sym size-is) (by (medium_in drive) refl get-present)
    where
      by : (o : Option M) → medium_in drive ≡ o → IsSome o → HasBytesIn own.request u.block u.count (size_of S)
      by None is some = cc
      by (Some m) is some = moving-has device prepared drive c sound todo.token place r u own moving shaped m is

  pub get-request : request_at c.tokens (token_of unit) ≡ Some own.request
  get-request = ap (request_at c.tokens) token-is ∙ moving-request device prepared drive c sound todo.token place r u own moving

  pub get-transfer : (bytes : ℕ) → bytes ≡ u.count * size_of S → OfMedium drive (λ m. IsTransfer (device m) u.block bytes)
  get-transfer = moving-transfer device prepared drive c sound todo.token place r u own moving

  -- where the bytes go
  pub record GoesTo (target : Target) : Type 0 where
    pub low : target.range.low ≡ u.low
    pub count : target.count ≡ u.high - u.low
    pub place : target.place ≡ u.low - from_of S r
    pub fits : IfSome (request_at c.tokens (token_of unit)) (λ q. target.place + target.count ≤ length q.buffer)

  pub goes-to : (target : Target) → IfSome (request_at c.tokens (token_of unit)) (λ q. IsTarget q u.block u.count c.blocks.size target) → GoesTo target
  goes-to target is =
      let at : IsTarget own.request u.block u.count (size_of S) target = subst (λ n. IsTarget own.request u.block u.count n target) size-is (subst (λ o. IfSome o (λ q. IsTarget q u.block u.count c.blocks.size target)) get-request is) in
      let low = at.low in let high = at.high in let to = at.place in let count = at.count in
      let begins = moving.tracks.begins in
      let long : own.request.asked.length ≡ r.asked.length = ap (λ a. a.length) moving.tracks.asked in
      let first_ = moving.unit.low in let last = moving.unit.high in let some = moving.unit.some in
      let buffer : length own.request.buffer ≡ r.asked.length = moving.buffer.long ∙ rw reads refl in
      let low_is : target.range.low ≡ u.low = omega arith in
      let count_is : target.count ≡ u.high - u.low = omega arith in
      let place_is : target.place ≡ u.low - from_of S r = omega arith in
      record { low = low_is; count = count_is; place = place_is; fits = subst (λ o. IfSome o (λ q. target.place + target.count ≤ length q.buffer)) (sym get-request) (omega arith) }

  pub get-left : (target : Target) → GoesTo target → IfSome (request_at c.tokens (token_of unit)) (λ q. target.count ≤ q.left)
  get-left target goes = subst (λ t. IfSome (request_at c.tokens t) (λ q. target.count ≤ q.left)) (sym token-is)
      (subst (λ n. IfSome (request_at c.tokens todo.token) (λ q. n ≤ q.left)) (sym goes.count) (moving-left device prepared drive c sound todo.token place r u own moving get of refl))

  module _ (shaped : (m : M) → IsShaped (device m)) (drive' : DriveState M) (mid c' : Core) (target : Target) (goes : GoesTo target) where
    follows : (result : Result (Unit {0}) BlockFailed) (low : ℕ) (piece : List ℕ) → OnMedium device prepared drive drive' (λ d d'. IsGot d result d' low piece) → OnMedium device prepared drive drive' (CommandFollows S H (command_entry todo.token get result) result)
    follows result low piece on = on-as device prepared drive drive' (λ d d'. IsGot d result d' low piece) (CommandFollows S H (command_entry todo.token get result) result)
        (λ d d' does. record { command = does.command; era = λ meets. quiet-era S H todo.token d d' few-entries meets get result refl (no-flush S H todo.token d d' few-entries meets get result refl) does.command does.now does.kept }) on

    told-now : (low : ℕ) (piece : List ℕ) (x : Unit {0}) (on : OnMedium device prepared drive drive' (λ d d'. IsGot d (Ok x) d' low piece)) → low ≡ u.low → AreToldAt (contents S (media_id_of H) H) u.low piece
    told-now low piece x on at =
        subst (λ told. AreToldAt told u.low piece) (medium-meets device prepared drive c sound on.before on.was_in).now (subst (λ n. AreToldAt (device on.before).now n piece) at on.does.given)

    -- the bytes were read
    pub get-done : (x : Unit {0}) → GetsInto device prepared drive drive' c mid (token_of unit) target.range.low target.place target.count (Ok x) → EntersDone mid c' unit get target.count → Reaches device prepared drive c drive' c' (λ s s'. StepSays s Did s')
    unfolding state_of
    get-done x gets done =
        let t = todo.token in
        let piece = gets.piece in
        let at = u.low - from_of S r in
        let counted : length piece ≡ u.high - u.low = gets.long ∙ goes.count in
        let told = told-now target.range.low piece x gets.on goes.low in
        let tokens : mid.tokens ≡ with_change (with_bytes_in at piece) c.tokens t =
        gets.tokens ∙ ap (λ n. with_change (with_bytes_in n piece) c.tokens (token_of unit)) goes.place ∙ ap (with_change (with_bytes_in at piece) c.tokens) token-is in
        let was = kept_from own in
        let there : kept_at (kept_of c.tokens) t ≡ Some was = kept-record c.tokens t ∙ ap (option_map kept_from) moving.there in
        let seen : kept_of mid.tokens ≡ slice_set (kept_of c.tokens) t (Some (record was { buffer = patch own.request.buffer at piece })) = ap kept_of tokens ∙ kept-put t at piece c.tokens own moving.there in
        let kept : KeptFollow S (Done t get ∷ H) (kept_of mid.tokens) =
        subst (KeptFollow S (Done t get ∷ H)) (sym seen) (kept-got S H t r u moving.unit piece counted told (kept_of c.tokens) was reads moving.named there sound.facts.tokens) in
        let begins = moving.unit.low in let ends = moving.unit.high in let some = moving.unit.some in
        let buffer : length own.request.buffer ≡ r.asked.length = moving.buffer.long ∙ rw reads refl in
        let fills : Fills S H t get Made (kept_of c.tokens) (kept_of mid.tokens) = (
          r,
          record {
            named = moving.named;
            was = was;
            there = there;
            piece = piece;
            counted = omega arith;
            same = subst (λ n. AreToldAt (contents S (media_id_of H) H) n piece) begins told;
            fits = omega arith;
            filled = seen ∙ ap (λ n. slice_set (kept_of c.tokens) t (Some (record was { buffer = patch own.request.buffer (n - from_of S r) piece }))) begins;
          },
        ) in
        did-done device prepared drive c sound shaped unit todo first get r drive' mid c' command-is refl refl gets.group
        (subst (FinishesTask S H t get r) (sym task_is) (moving-finishes device prepared drive c sound t place r u own moving get of refl))
        (subst (RecordsFollow S H) (sym tokens) (records-put S H t at piece c.tokens sound.records))
        (with_bytes_in at piece own, ap (λ ts. record_at ts t) tokens ∙ changed-at (with_bytes_in at piece) c.tokens t ∙ ap (option_map (with_bytes_in at piece)) moving.there)
        kept fills (follows (Ok x) target.range.low piece gets.on)
        (subst (λ v. EntersDone v c' unit get (task_bytes todo.task)) gets.core (subst (λ task. EntersDone mid c' unit get (task_bytes task)) (sym task_is) (subst (EntersDone mid c' unit get) goes.count done)))

    -- the read failed
    pub get-failed : (fault : BlockFailed) → GetsInto device prepared drive drive' c mid (token_of unit) target.range.low target.place target.count (Err fault) → EntersFault mid c' (token_of unit) get fault.done → Reaches device prepared drive c drive' c' (λ s s'. StepSays s Did s')
    get-failed fault gets failed =
        let same : mid ≡ record c { group = mid.group } = gets.core ∙ ap (λ ts. record c { tokens = ts; group = mid.group }) gets.left in
        did-failed device prepared drive c sound shaped unit todo first get fault drive' mid c' c.fetched command-is gets.on.does.done gets.group
        (sound.fitted.fetches_are ∙ sym (fetches-same H (Fault todo.token get fault.done) refl)) (follows (Err fault) target.range.low gets.piece gets.on)
        (subst (λ v. EntersFault v c' todo.token get fault.done) same (subst (λ t. EntersFault mid c' t get fault.done) token-is failed))

    mark-put : (at : ℕ) (piece : List ℕ) (t : ℕ) → record_at c.tokens t ≡ Some own → mark_at (with_change (with_bytes_in at piece) c.tokens t) t ≡ mark_at c.tokens t
    unfolding mark_at with_bytes_in
    mark-put at piece t there = ap mark_of_record (changed-at (with_bytes_in at piece) c.tokens t ∙ ap (option_map (with_bytes_in at piece)) there) ∙ sym (ap mark_of_record there)

    left-put : (at : ℕ) (piece : List ℕ) (t : ℕ) → record_at c.tokens t ≡ Some own → option_map (λ q. q.left) (request_at (with_change (with_bytes_in at piece) c.tokens t) t) ≡ option_map (λ q. q.left) (request_at c.tokens t)
    unfolding request_at with_bytes_in
    left-put at piece t there = ap (λ o. option_map (λ q. q.left) (option_map (λ x. x.request) o)) (changed-at (with_bytes_in at piece) c.tokens t ∙ ap (option_map (with_bytes_in at piece)) there) ∙ sym (ap (λ o. option_map (λ q. q.left) (option_map (λ x. x.request) o)) there)

    by-left : (o p : Option Asked) (n : ℕ) → option_map (λ q. q.left) o ≡ option_map (λ q. q.left) p → IfSome p (λ q. n ≤ q.left) → IfSome o (λ q. n ≤ q.left)
    by-left None p n same few = tt
    by-left (Some q) None n same few = cc
    by-left (Some q) (Some p) n same few = (let e : q.left ≡ p.left = one q.left p.left same in omega arith)
      where
        one : (a b : ℕ) → Some a ≡ Some b → a ≡ b
        one a b e = cc

    -- it may be entered
    pub get-enter : (result : Result (Unit {0}) BlockFailed) → GetsInto device prepared drive drive' c mid (token_of unit) target.range.low target.place target.count result → MayEnter mid unit target.count result
    get-enter (Ok x) gets =
        let may = get-may in
        let there : record_at c.tokens (token_of unit) ≡ Some own = ap (record_at c.tokens) token-is ∙ moving.there in
        subst (λ v. MayEnter v unit target.count (Ok x)) (sym gets.core) (record {
          outstanding = ap (λ ts. mark_at ts (token_of unit)) gets.tokens ∙ mark-put target.place gets.piece (token_of unit) there ∙ may.0;
          left = by-left (request_at mid.tokens (token_of unit)) (request_at c.tokens (token_of unit)) target.count
              (ap (λ ts. option_map (λ q. q.left) (request_at ts (token_of unit))) gets.tokens ∙ left-put target.place gets.piece (token_of unit) there) (get-left target goes);
          place = may.1;
          owed = may.2;
        })
    get-enter (Err fault) gets =
        let may = get-may in
        let same : mid ≡ record c { group = mid.group } = gets.core ∙ ap (λ ts. record c { tokens = ts; group = mid.group }) gets.left in
        subst (λ v. MayEnter v unit target.count (Err fault)) (sym same) (record { outstanding = may.0; left = tt; place = may.1; owed = may.2 })

    pub get-settled : (result : Result (Unit {0}) BlockFailed) → GetsInto device prepared drive drive' c mid (token_of unit) target.range.low target.place target.count result → Settles mid c' unit get target.count result
        → Reaches device prepared drive c drive' c' (λ s s'. StepSays s Did s')
    get-settled (Ok x) gets settles = get-done x gets settles
    get-settled (Err fault) gets settles = get-failed fault gets settles
