-- Nodes lead back to hard drives.
use Rattle.std.proofs.Common.{◌≡◌, ℕ, ◌+◌, ◌^◌, ◌<◌, ◌≤◌, true, List, [], ◌∷◌, ◌++◌, length, get_or, take, drop, refl, sym, ap, ◌∙◌, arith, None, Bool, false, ◌||◌, ◌⊎◌, inl, inr, zero, suc}
use Rattle.std.proofs.lemmas.Bool.{eqb-true}
use Rattle.std.proofs.lemmas.List.{append-nil, drop_all}
use Rattle.std.proofs.lemmas.Bool.Decides.{nat_tests}
use Rattle.std.specs.Prelude.{◌==◌, if◌then◌else◌, replicate, slice_index, slice_range}
use Rattle.std.specs.Int.{w16, w32, w64, to_le_bytes, from_le_bytes}
use Rattle.std.specs.List.{concat, list_all}
use Rattle.std.proofs.lemmas.Nat.{le_bytes_2, le_bytes_4, le_bytes_8, from_le_bytes-to_le_bytes_4, from_le_bytes-to_le_bytes_8}
use Rattle.uuid.proofs.RoundTrips.{swap_twice}
use Rattle.byte_lists.specs.Patching.{patch}
use Rattle.device_path.specs.declared.hard_drive.Format.{Format}
use Rattle.device_path.specs.declared.hard_drive.Format.TheVariants as formats
use Rattle.device_path.specs.declared.hard_drive.Sign.{Sign}
use Rattle.device_path.specs.declared.hard_drive.Sign.TheVariants as signs
use Rattle.device_path.specs.declared.hard_drive.HardDrive.{HardDrive}
use Rattle.device_path.specs.Node.{node_bytes, IsHardDrive, IsSign, IsNodeOf, PassesAll, node_fault, drive_fields, format_code, sign_code, sign_bytes, node_sign, node_fields, has_length, has_kind, has_format, has_sign_type, has_signature}
use Rattle.device_path.proofs.Parts.{parts, concat-parts, get_or-part, part-one, part-two, length-part, zeros}

-- the fields put into 42 zero bytes, one after another
pub put : (node : HardDrive)
    → patch (patch (patch (patch (patch (patch (replicate 42 0) 0 (4 ∷ 1 ∷ 42 ∷ 0 ∷ [])) 4 (to_le_bytes w32 node.number)) 8 (to_le_bytes w64 node.start)) 16 (to_le_bytes w64 node.size)) 24 (sign_bytes node.sign)) 40
    (format_code node.format ∷ sign_code node.sign ∷ [])
    ≡ concat (node_fields node)
put node = go node.sign where
  go : (sign : Sign)
      → patch (patch (patch (patch (patch (patch (replicate 42 0) 0 (4 ∷ 1 ∷ 42 ∷ 0 ∷ [])) 4 (to_le_bytes w32 node.number)) 8 (to_le_bytes w64 node.start)) 16 (to_le_bytes w64 node.size)) 24 (sign_bytes sign)) 40
      (format_code node.format ∷ sign_code sign ∷ [])
      ≡ concat (node_fields (record node { sign = sign }))
  go signs.None = refl
  go (signs.Mbr signature) = refl
  go (signs.Guid guid) = refl

-- no test of a node fails, and its fields are those of its hard drive
abbrev with : ℕ → ℕ → ℕ → Format → Sign → HardDrive
with number start size format sign = record { number = number; start = start; size = size; format = format; sign = sign }

passes-with : (number start size : ℕ) (format : Format) (sign : Sign) → node_fault (concat (node_fields (with number start size format sign))) ≡ None
unfolding node_fault has_length has_kind has_format has_sign_type has_signature
passes-with number start size formats.Mbr signs.None = refl
passes-with number start size formats.Mbr (signs.Mbr signature) = refl
passes-with number start size formats.Mbr (signs.Guid guid) = refl
passes-with number start size formats.Gpt signs.None = refl
passes-with number start size formats.Gpt (signs.Mbr signature) = refl
passes-with number start size formats.Gpt (signs.Guid guid) = refl

pub fault_of-node : (node : HardDrive) → node_fault (concat (node_fields node)) ≡ None
fault_of-node node = passes-with node.number node.start node.size node.format node.sign

format-back : (number start size : ℕ) (format : Format) (sign : Sign) → (if slice_index (concat (node_fields (with number start size format sign))) 40 == 1 then formats.Mbr else formats.Gpt) ≡ format
format-back number start size formats.Mbr signs.None = refl
format-back number start size formats.Mbr (signs.Mbr signature) = refl
format-back number start size formats.Mbr (signs.Guid guid) = refl
format-back number start size formats.Gpt signs.None = refl
format-back number start size formats.Gpt (signs.Mbr signature) = refl
format-back number start size formats.Gpt (signs.Guid guid) = refl

sign-back : (number start size : ℕ) (format : Format) (sign : Sign) → IsSign sign → node_sign (concat (node_fields (with number start size format sign))) ≡ sign
sign-back number start size format signs.None can = refl
sign-back number start size format (signs.Mbr signature) can = ap signs.Mbr (from_le_bytes-to_le_bytes_4 signature can)
sign-back number start size format (signs.Guid guid) can = ap signs.Guid (swap_twice guid can.0)

fields-with : (number start size : ℕ) (format : Format) (sign : Sign) → number < 2 ^ 32 → start < 2 ^ 64 → size < 2 ^ 64 → IsSign sign
    → drive_fields (concat (node_fields (with number start size format sign))) ≡ with number start size format sign
unfolding drive_fields
fields-with number start size format sign few low small can = λ i. record {
  number = from_le_bytes-to_le_bytes_4 number few i;
  start = from_le_bytes-to_le_bytes_8 start low i;
  size = from_le_bytes-to_le_bytes_8 size small i;
  format = format-back number start size format sign i;
  sign = sign-back number start size format sign can i;
}

pub fields_of-node : (node : HardDrive) → IsHardDrive node → drive_fields (concat (node_fields node)) ≡ node
fields_of-node node can = fields-with node.number node.start node.size node.format node.sign can.number can.start can.size can.sign

-- the fields of bytes that passed every test, field by field
same-number : (at : ℕ) (bytes : List ℕ) → ((i : ℕ) → get_or bytes i 0 < 256) → at + 4 ≤ length bytes → to_le_bytes w32 (from_le_bytes w32 (take 4 (drop at bytes))) ≡ take 4 (drop at bytes)
same-number at bytes small within = le_bytes_4 (take 4 (drop at bytes)) _ (length-part at 4 bytes within) (get_or-part at 4 bytes small) refl

same-long : (at : ℕ) (bytes : List ℕ) → ((i : ℕ) → get_or bytes i 0 < 256) → at + 8 ≤ length bytes → to_le_bytes w64 (from_le_bytes w64 (take 8 (drop at bytes))) ≡ take 8 (drop at bytes)
same-long at bytes small within = le_bytes_8 (take 8 (drop at bytes)) _ (length-part at 8 bytes within) (get_or-part at 8 bytes small) refl

-- what the tests say
length-is : (bytes : List ℕ) → has_length bytes ≡ true → 42 ≡ from_le_bytes w16 (slice_range bytes 2 4)
unfolding has_length
length-is bytes holds = grind (arith, nat_tests)

kind-is : (bytes : List ℕ) → has_kind bytes ≡ true → (4 ≡ slice_index bytes 0) × (1 ≡ slice_index bytes 1)
unfolding has_kind
kind-is bytes holds = (grind (arith, nat_tests), grind (arith, nat_tests))

format-is : (bytes : List ℕ) → has_format bytes ≡ true → format_code (if slice_index bytes 40 == 1 then formats.Mbr else formats.Gpt) ≡ slice_index bytes 40
unfolding has_format
format-is bytes holds = go (slice_index bytes 40) (slice_index bytes 40 == 1) refl holds where
  go : (n : ℕ) (first : Bool) → (n == 1) ≡ first → (first || n == 2) ≡ true → format_code (if first then formats.Mbr else formats.Gpt) ≡ n
  go n true is h = sym (eqb-true n 1 is)
  go n false is h = sym (eqb-true n 2 h)

sign-type-is : (bytes : List ℕ) → has_sign_type bytes ≡ true → (slice_index bytes 41 ≡ 0) ⊎ ((slice_index bytes 41 ≡ 1) ⊎ (slice_index bytes 41 ≡ 2))
unfolding has_sign_type
sign-type-is bytes holds = up-to-two (slice_index bytes 41) (grind (arith, nat_tests)) where
  up-to-two : (n : ℕ) → n ≤ 2 → (n ≡ 0) ⊎ ((n ≡ 1) ⊎ (n ≡ 2))
  up-to-two zero h = inl refl
  up-to-two (suc zero) h = inr (inl refl)
  up-to-two (suc (suc zero)) h = inr (inr refl)
  up-to-two (suc (suc (suc n))) h = absurd (omega arith)

same-length : (bytes : List ℕ) → ((i : ℕ) → get_or bytes i 0 < 256) → length bytes ≡ 42 → has_length bytes ≡ true → to_le_bytes w16 42 ≡ take 2 (drop 2 bytes)
same-length bytes small long holds = le_bytes_2 (take 2 (drop 2 bytes)) 42 (length-part 2 2 bytes (omega arith)) (get_or-part 2 2 bytes small) (length-is bytes holds)

same-byte : (at byte : ℕ) (bytes : List ℕ) → at < length bytes → byte ≡ slice_index bytes at → (byte ∷ []) ≡ take 1 (drop at bytes)
same-byte at byte bytes within is = ap (λ b. b ∷ []) is ∙ sym (part-one at bytes within)

sign-code-is : (bytes : List ℕ) → has_sign_type bytes ≡ true → sign_code (node_sign bytes) ≡ slice_index bytes 41
sign-code-is bytes known =
    elim (sign-type-is bytes known) [ inl e ↦ rw e refl | inr more ↦ elim more [ inl e ↦ rw e refl | inr e ↦ rw e refl ] ]

-- the signature, by its type
same-none : (bytes : List ℕ) → length bytes ≡ 42 → slice_index bytes 41 ≡ 0 → has_signature bytes ≡ true → replicate 16 0 ≡ take 16 (drop 24 bytes)
unfolding has_signature
same-none bytes long none holds =
    let part = take 16 (drop 24 bytes) in
    let unused : list_all (λ b. b == 0) part ≡ true = rw none at holds in
    sym (zeros part unused ∙ ap (λ n. replicate n 0) (length-part 24 16 bytes (omega arith)))

same-mbr : (bytes : List ℕ) → ((i : ℕ) → get_or bytes i 0 < 256) → length bytes ≡ 42 → slice_index bytes 41 ≡ 1 → has_signature bytes ≡ true
    → to_le_bytes w32 (from_le_bytes w32 (take 4 (drop 24 bytes))) ++ replicate 12 0 ≡ take 16 (drop 24 bytes)
unfolding has_signature
same-mbr bytes small long mbr holds =
    let part = take 12 (drop 28 bytes) in
    let unused : list_all (λ b. b == 0) part ≡ true = rw mbr at holds in
    let behind : replicate 12 0 ≡ part = sym (zeros part unused ∙ ap (λ n. replicate n 0) (length-part 28 12 bytes (omega arith))) in
    let front = same-number 24 bytes small (omega arith) in
    (λ i. front i ++ behind i) ∙ sym (part-two 24 4 12 bytes)

same-sign : (bytes : List ℕ) → ((i : ℕ) → get_or bytes i 0 < 256) → length bytes ≡ 42 → has_sign_type bytes ≡ true → has_signature bytes ≡ true → sign_bytes (node_sign bytes) ≡ take 16 (drop 24 bytes)
same-sign bytes small long known holds =
    elim (sign-type-is bytes known) [
      | inl e ↦ rw e (same-none bytes long e holds)
      | inr more ↦ elim more [
        | inl e ↦ rw e (same-mbr bytes small long e holds)
        | inr e ↦ rw e (swap_twice (take 16 (drop 24 bytes)) (length-part 24 16 bytes (omega arith)))
      ]
    ]

-- bytes that passed every test are the node of their fields
pub IsNodeOf-fields_of : (bytes : List ℕ) → ((i : ℕ) → get_or bytes i 0 < 256) → length bytes ≡ 42 → PassesAll bytes → IsNodeOf (drive_fields bytes) bytes
unfolding IsNodeOf node_bytes drive_fields
IsNodeOf-fields_of bytes small long passes =
    let counts : List ℕ = 1 ∷ 1 ∷ 2 ∷ 4 ∷ 8 ∷ 8 ∷ 16 ∷ 1 ∷ 1 ∷ [] in
    let kind = kind-is bytes passes.kind_holds in
    let fields : concat (node_fields (drive_fields bytes)) ≡ concat (parts 0 counts bytes) = λ i. concat (
    same-byte 0 4 bytes (omega arith) kind.0 i
    ∷ same-byte 1 1 bytes (omega arith) kind.1 i
    ∷ same-length bytes small long passes.length_holds i
    ∷ same-number 4 bytes small (omega arith) i
    ∷ same-long 8 bytes small (omega arith) i
    ∷ same-long 16 bytes small (omega arith) i
    ∷ same-sign bytes small long passes.sign_type_holds passes.signature_holds i
    ∷ same-byte 40 _ bytes (omega arith) (format-is bytes passes.format_holds) i
    ∷ same-byte 41 _ bytes (omega arith) (sign-code-is bytes passes.sign_type_holds) i
    ∷ []
    ) in
    let whole : bytes ≡ concat (parts 0 counts bytes) ++ drop 42 bytes = concat-parts 0 counts bytes in
    let no-rest : drop 42 bytes ≡ [] = drop_all 42 bytes (omega arith) in
    whole ∙ ap (λ rest. concat (parts 0 counts bytes) ++ rest) no-rest ∙ append-nil (concat (parts 0 counts bytes)) ∙ sym fields
