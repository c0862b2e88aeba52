-- A desk over a disk that is ready, with the clients of a script, and what its run left.
use Rattle.std.proofs.Common.{◌≡◌, ℕ, ◌+◌, ◌*◌, ◌^◌, ◌<◌, ◌≤◌, false, inl, inr, List, ◌++◌, map, length, reverse, slice_get, Option, Some, sym, ◌∙◌, ap, subst, arith}
use Rattle.std.specs.List.{AllByRecursion}
use Rattle.medium.specs.Device.{Device}
use Rattle.history.specs.Setup.{Setup}
use Rattle.efi_status.specs.declared.Status.TheVariants.{Success}
use Rattle.history.specs.Marks.{mark_of}
use Rattle.history.specs.Tokens.{request, token_count}
use Rattle.history.specs.Rules.{IsLegal}
use Rattle.partition_tables.specs.declared.table.Table.{Table}
use Rattle.disk_core.specs.State.{State}
use Rattle.disk_core.specs.Facts.{AreFacts}
use Rattle.shared_disk.specs.declared.clients.Client.{Client}
use Rattle.shared_disk.specs.declared.books.Buffer.TheVariants.{Gone}
use Rattle.shared_disk.specs.declared.books.Slot.{Slot}
use Rattle.shared_disk.specs.Lines.{roles_of}
use Rattle.shared_disk.specs.Script.{Script, RunsWholeScript}
use Rattle.shared_disk.specs.Desk.{DeskState, Keeps, desk_over}
use Rattle.shared_disk.specs.Slots.{buffers_of, AreSlots}
use Rattle.device_workers.specs.Serving.{IsAtOpening, KeepsScriptAndGates, WantsMemory, IsPlain, IsFaultlessPlain, IsPlainFront}
use Rattle.device_workers.proofs.FreshLemmas.{new-desk}
use Rattle.script_text.specs.declared.language.plans.DiskPlan.{DiskPlan}
use Rattle.script_text.specs.Planned.{disk_lines}
use Rattle.script_text.specs.Report.{is_tagged_read, tagged_reads, givens_of, AreEnds, AreGiven}
use Rattle.stack_run.specs.declared.desk_run.Run.{Run}
use Rattle.stack_run.specs.Clients.{Start, script_roles, script_in}
use Rattle.stack_run.specs.EndLines.{IsCollected, lines_told}
use Rattle.stack_run.specs.Parts.{children_of}
use Rattle.stack_run.specs.Runs.{RanPlain, RanOver, RanSomeOver}
use Rattle.stack_run.specs.Starting.{IsReady, start_of}
use Rattle.stack_run.proofs.EndLines.{told-ends, told-given, all-collected, kept-given}
use Rattle.stack_run.proofs.OpeningLemmas.{begins-so, marked-behind, tokens-within, untagged-behind}
use Rattle.stack_run.proofs.PlaceCounts.{tokens-few}
use Rattle.stack_run.proofs.RanLemmas.{part-here, some-ran, all-ran}
use Rattle.std.proofs.lemmas.Bool.{cases_lt}
use Rattle.std.proofs.lemmas.Option.{slice_get_within}

module _ (plan : DiskPlan) (disk : State) (table : Option Table) (clients : List Client) (desk : DeskState) (is : desk ≡ desk_over disk (roles_of clients)) (roles : roles_of clients ≡ script_roles plan.size (children_of table) plan.clients) (ready : IsReady plan disk table) where
  abbrev start : Start
  start = start_of disk table

  abbrev S : Setup
  S = disk.setup

  desk-setup : desk.disk.setup ≡ disk.setup
  desk-setup = ap (λ (s : DeskState). s.disk.setup) is

  desk-script : desk.script ≡ script_in plan (start_of disk table)
  desk-script = ap (λ (s : DeskState). s.script) is ∙ (λ i. record { opening = disk.entries; roles = roles i })

  at-opening : IsAtOpening desk
  at-opening = subst IsAtOpening (sym is) (new-desk disk (roles_of clients))

  module _ (new : DeskState) (stays : KeepsScriptAndGates desk new) (keeps : Keeps new) where
    pub new-setup : new.disk.setup ≡ disk.setup
    new-setup = stays.disk.setup ∙ desk-setup

    new-script : new.script ≡ script_in plan (start_of disk table)
    new-script = stays.script ∙ desk-script

    opening-is : new.script.opening ≡ disk.entries
    opening-is = ap (λ (d : Script). d.opening) new-script

    -- what is said of the setup and the script of the desk
    here : (P : Setup → Script → Type 0) → P desk.disk.setup desk.script → P disk.setup (script_in plan (start_of disk table))
    here P holds = subst (λ (T : Setup). P T (script_in plan (start_of disk table))) desk-setup (subst (P desk.disk.setup) desk-script holds)

    pub tokens-fit : token_count new.disk.entries ≤ length disk.entries + disk_lines plan
    tokens-fit =
        let few = tokens-few new.disk.setup new.script new.places new.disk.entries plan.size (children_of table) plan.clients keeps.script (ap (λ (d : Script). d.roles) new-script) in
        omega (arith, few, ap token_count opening-is, tokens-within disk.entries)

    module _ (whole : RunsWholeScript desk.disk.setup desk.script new.disk.entries) (slots : List Slot) (are : AreSlots new.disk.setup new.disk.entries slots) (buffers : buffers_of slots ≡ new.given) where
      -- each token was collected
      pub slots-collected : (t : ℕ) (slot : Slot) → slice_get slots t ≡ Some slot → IsCollected slot.buffer
      slots-collected = all-collected new.disk.setup new.disk.entries slots are whole.collected

      -- one that is not kept is of the opening
      slots-gone : (t : ℕ) (slot : Slot) → slice_get slots t ≡ Some slot → slot.buffer ≡ Gone → t < token_count disk.entries
      slots-gone t slot there gone = elim (cases_lt t (token_count disk.entries)) [
        | inl early ↦ early
        | inr late ↦
            (let inside : t < token_count new.disk.entries = omega (arith, slice_get_within slots t slot there, are.counted) in
            let some = keeps.buffers t (omega (arith, late, ap token_count opening-is)) (whole.collected t inside) in
            absurd (kept-given slots new.given buffers t slot there some gone))
      ]

      slots-over : (t : ℕ) (slot : Slot) → slice_get slots t ≡ Some slot → slot.buffer ≡ Gone → (mark_of disk.setup new.disk.entries t ≡ Some Success) × (is_tagged_read (request new.disk.entries t) ≡ false)
      slots-over t slot there gone =
          let early = slots-gone t slot there gone in
          let (more, on) = begins-so new.disk.setup new.script new.places new.disk.entries keeps.script in
          let behind : new.disk.entries ≡ more ++ disk.entries = on ∙ ap (λ H. more ++ H) opening-is in
          rw behind (marked-behind disk.setup more disk.entries t (ready.ended t early), untagged-behind more disk.entries ready.opens.tags t early)

    module _ {M : Type 0} (device : M → Device) (media : List M) (apart : State) (same : apart ≡ new.disk) (facts : AreFacts apart) (devices : map device media ≡ apart.devices) (count : length media ≡ length apart.setup.media) where
      facts-here : AreFacts new.disk
      facts-here = subst AreFacts same facts

      devices-here : map device media ≡ new.disk.devices
      devices-here = devices ∙ ap (λ (s : State). s.devices) same

      count-here : length media ≡ length new.disk.setup.media
      count-here = count ∙ ap (λ (s : State). length s.setup.media) same

      pub media-count : length media ≡ length disk.setup.media
      media-count = count-here ∙ ap (λ (T : Setup). length T.media) new-setup

      legal-here : IsLegal disk.setup new.disk.entries
      legal-here = subst (λ (T : Setup). IsLegal T new.disk.entries) new-setup facts-here.legal

      -- the lines stop short
      pub stopped : WantsMemory new → (IsAtOpening desk → IsPlainFront desk.disk.setup desk.script new.disk.entries) → RanSomeOver plan disk.setup (start_of disk table) (map device media)
      stopped wants front =
          some-ran device new.disk disk.setup media new-setup facts-here devices-here count-here plan (start_of disk table)
          (part-here plan disk.setup (start_of disk table) new ready.start new-setup new-script legal-here keeps wants (here (λ T d. IsPlainFront T d new.disk.entries) (front at-opening)))

      -- or all of them ran
      pub finished : (run : Run) (slots : List Slot) → run.history.entries ≡ apart.entries → AreSlots new.disk.setup new.disk.entries slots → buffers_of slots ≡ new.given → run.ends.items ≡ lines_told (tagged_reads (reverse run.history.entries)) slots
          → run.blocks.items ≡ map (λ m. (device m).blocks) media → AllByRecursion (λ d. d.blocks * d.size < 2 ^ 64) (map device media) → RunsWholeScript desk.disk.setup desk.script new.disk.entries
          → (IsAtOpening desk → IsPlain desk.disk.setup desk.script new.disk.entries) → (IsAtOpening desk → IsFaultlessPlain desk.disk.setup desk.script new.disk.entries) → RanOver plan disk.setup (start_of disk table) (map device media) run
      finished run slots history are buffers ends blocks fits whole plain faultless =
          let entries : run.history.entries ≡ new.disk.entries = history ∙ ap (λ (s : State). s.entries) same in
          let slots-are : AreSlots disk.setup new.disk.entries slots = subst (λ (T : Setup). AreSlots T new.disk.entries slots) new-setup are in
          let lines : run.ends.items ≡ lines_told (tagged_reads (reverse new.disk.entries)) slots = ends ∙ ap (λ h. lines_told (tagged_reads (reverse h)) slots) entries in
          let over = slots-over whole slots are buffers in
          let told : AreEnds disk.setup new.disk.entries run.ends.items = subst (AreEnds disk.setup new.disk.entries) (sym lines) (told-ends disk.setup new.disk.entries slots slots-are whole.collected over) in
          let given : AreGiven disk.setup new.disk.entries (givens_of run.ends.items) = subst (λ l. AreGiven disk.setup new.disk.entries (givens_of l)) (sym lines) (told-given disk.setup new.disk.entries slots slots-are whole.collected over) in
          let ran : RanPlain plan disk.setup (start_of disk table) new.disk.entries (givens_of run.ends.items) = record {
            begins = ready.start;
            legal = legal-here;
            whole = here (λ T d. RunsWholeScript T d new.disk.entries) whole;
            plain = here (λ T d. IsPlain T d new.disk.entries) (plain at-opening);
            faultless = here (λ T d. IsFaultlessPlain T d new.disk.entries) (faultless at-opening);
            reads = given;
          } in
          all-ran device new.disk disk.setup media new-setup facts-here devices-here count-here plan (start_of disk table) run entries ran told blocks fits
