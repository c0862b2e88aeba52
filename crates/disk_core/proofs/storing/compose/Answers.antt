use Rattle.std.proofs.Common.{◌≡◌, ◌-◌, ◌++◌, length, take, drop, sym, ◌∙◌, ap, arith}
use Rattle.std.specs.Option.{option_copied}
use Rattle.disk_core.proofs.Composed.{copy-long, copy-found, part-in-record, request-there, buffer-composed}
use Rattle.disk_core.proofs.storing.compose.Goals as goal

pub copy_from_slice-requires : goal.copy_from_slice-requires
copy_from_slice-requires g c =
    let copied : c.in-Some.copy.now ≡ c.requires.part.0.copy = copy-found _ _ _ c.args.core.now c.requires.sound g.met.M.Medium.shaped c.args.part.now c.requires.part.0 c.requires.part.1 c.requires.part.2 c.in-Some.copy.now c.in-Some.ensures.value in
    let long = copy-long _ _ _ c.args.core.now c.requires.sound g.met.M.Medium.shaped c.args.part.now c.requires.part.0 c.requires.part.1 c.requires.part.2 in
    let many = ap length copied in
    let kept = c.args.core.now.group.ok.0 in
    omega arith

pub unreachable-requires-in_default-find : goal.unreachable-requires-in_default-find
unreachable-requires-in_default-find g c =
    request-there _ _ _ c.args.core.now c.requires.sound g.met.M.Medium.shaped c.args.part.now c.requires.part.0 c.requires.part.1 c.requires.part.2 (sym (ap option_copied c.in_default-find.is) ∙ c.find.ensures.value)

pub bytes_at-patch-requires-clause-changes : goal.bytes_at-patch-requires-clause-changes
bytes_at-patch-requires-clause-changes g c = (part-in-record _ _ _ c.args.core.now c.requires.sound g.met.M.Medium.shaped c.args.part.now c.requires.part.0 c.requires.part.1 c.requires.part.2 c.in-Some-find.request.now c.in-Some-find.ensures.value).changes

pub bytes_at-patch-requires-clause-begins : goal.bytes_at-patch-requires-clause-begins
bytes_at-patch-requires-clause-begins g c = (part-in-record _ _ _ c.args.core.now c.requires.sound g.met.M.Medium.shaped c.args.part.now c.requires.part.0 c.requires.part.1 c.requires.part.2 c.in-Some-find.request.now c.in-Some-find.ensures.value).begins

pub bytes_at-patch-requires-clause-order : goal.bytes_at-patch-requires-clause-order
bytes_at-patch-requires-clause-order g c = (part-in-record _ _ _ c.args.core.now c.requires.sound g.met.M.Medium.shaped c.args.part.now c.requires.part.0 c.requires.part.1 c.requires.part.2 c.in-Some-find.request.now c.in-Some-find.ensures.value).order

pub bytes_at-patch-requires-clause-inside : goal.bytes_at-patch-requires-clause-inside
bytes_at-patch-requires-clause-inside g c = (part-in-record _ _ _ c.args.core.now c.requires.sound g.met.M.Medium.shaped c.args.part.now c.requires.part.0 c.requires.part.1 c.requires.part.2 c.in-Some-find.request.now c.in-Some-find.ensures.value).inside

pub bytes_at-patch-requires-clause-buffer : goal.bytes_at-patch-requires-clause-buffer
bytes_at-patch-requires-clause-buffer g c = (part-in-record _ _ _ c.args.core.now c.requires.sound g.met.M.Medium.shaped c.args.part.now c.requires.part.0 c.requires.part.1 c.requires.part.2 c.in-Some-find.request.now c.in-Some-find.ensures.value).buffer

pub bytes_at-patch-requires-clause-zeros : goal.bytes_at-patch-requires-clause-zeros
bytes_at-patch-requires-clause-zeros g c =
    let fits = part-in-record _ _ _ c.args.core.now c.requires.sound g.met.M.Medium.shaped c.args.part.now c.requires.part.0 c.requires.part.1 c.requires.part.2 c.in-Some-find.request.now c.in-Some-find.ensures.value in
    (fits.zeros.0, c.deref.ensures.value ∙ fits.zeros.1, fits.zeros.2)

pub place_in-place-requires : goal.place_in-place-requires
place_in-place-requires g c = (part-in-record _ _ _ c.args.core.now c.requires.sound g.met.M.Medium.shaped c.args.part.now c.requires.part.0 c.requires.part.1 c.requires.part.2 c.in-Some-find.request.now c.in-Some-find.ensures.value).place

pub patch_into-requires : goal.patch_into-requires
patch_into-requires g c =
    let fits = part-in-record _ _ _ c.args.core.now c.requires.sound g.met.M.Medium.shaped c.args.part.now c.requires.part.0 c.requires.part.1 c.requires.part.2 c.in-Some-find.request.now c.in-Some-find.ensures.value in
    let copied : c.in-Some.copy.now ≡ c.requires.part.0.copy = copy-found _ _ _ c.args.core.now c.requires.sound g.met.M.Medium.shaped c.args.part.now c.requires.part.0 c.requires.part.1 c.requires.part.2 c.in-Some.copy.now c.in-Some.ensures.value in
    let long = copy-long _ _ _ c.args.core.now c.requires.sound g.met.M.Medium.shaped c.args.part.now c.requires.part.0 c.requires.part.1 c.requires.part.2 in
    let kept = c.requires.sound.fitted.group in
    let many : length c.deref_mut.result.now ≡ length c.requires.part.0.copy = ap length (c.deref_mut.ensures.value ∙ c.copy_from_slice.ensures.items ∙ copied) in
    let bytes : length c.bytes_at-patch.result.now ≡ c.args.part.now.range.high - c.args.part.now.range.low = ap length c.bytes_at-patch.ensures ∙ fits.count in
    let place = c.place_in-place.ensures in
    let room = fits.room in
    omega arith

pub returns-clause-group : goal.returns-clause-group
returns-clause-group g c =
    λ gate q held. (ap (λ xs. take c.copy_from_slice.new.self.len (xs ++ drop (length xs) c.copy_from_slice.new.self.items)) c.patch_into.ensures
    ∙ buffer-composed _ _ _ c.args.core.now c.requires.sound g.met.M.Medium.shaped c.args.part.now gate q held c.in-Some.copy.now c.deref_mut.result.now c.bytes_at-patch.result.now c.copy_from_slice.new.self.items c.in-Some-find.request.now c.place_in-place.result
    c.copy_from_slice.new.self.len c.in-Some.ensures.value c.copy_from_slice.ensures.items c.deref_mut.ensures.value c.copy_from_slice.new.self.ok.0 c.in-Some-find.ensures.value c.place_in-place.ensures c.bytes_at-patch.ensures)
