-- The node of 42 bytes, and what is wrong with bytes that are none (UEFI 2.10, 10.3.5.1; the order of the tests is own profile).
use Rattle.std.specs.Prelude.{◌≡◌, ℕ, ◌^◌, ◌<◌, ◌==◌, ◌&&◌, ◌||◌, Bool, true, not, nat_le, List, [], ◌∷◌, ◌++◌, length, replicate, slice_index, slice_range, find, All, Option, option_map, if◌then◌else◌}
use Rattle.std.specs.List.{concat, list_all}
use Rattle.std.specs.Int.{w16, w32, w64, to_le_bytes, from_le_bytes}
use Rattle.uuid.specs.Parts.{swap_fields}
use Rattle.device_path.specs.declared.hard_drive.Format.{Format}
use Rattle.device_path.specs.declared.hard_drive.Format.TheVariants as formats
use Rattle.device_path.specs.declared.hard_drive.Sign.{Sign}
use Rattle.device_path.specs.declared.hard_drive.Sign.TheVariants as signs
use Rattle.device_path.specs.declared.hard_drive.HardDrive.{HardDrive}
use Rattle.device_path.specs.declared.node.NodeFault.{NodeFault}
use Rattle.device_path.specs.declared.node.NodeFault.TheVariants.{Length, Kind, Format as Formatted, SignType, Signature}

-- a signature is a number of 32 bits or a GUID of 16 bytes
abbrev pub IsSign : Sign → Type 0
IsSign signs.None = Unit {0}
IsSign (signs.Mbr signature) = signature < 2 ^ 32
IsSign (signs.Guid guid) = (length guid ≡ 16) × All (λ b. b < 256) guid

-- each number fits its field
pub record IsHardDrive (node : HardDrive) : Type 0 where
  pub number : node.number < 2 ^ 32
  pub start : node.start < 2 ^ 64
  pub size : node.size < 2 ^ 64
  pub sign : IsSign node.sign

-- the byte of a format
abbrev pub format_code : Format → ℕ
format_code formats.Mbr = 1
format_code formats.Gpt = 2

-- the byte of a signature type
abbrev pub sign_code : Sign → ℕ
sign_code signs.None = 0
sign_code (signs.Mbr signature) = 1
sign_code (signs.Guid guid) = 2

-- the 16 bytes of a signature; a GUID's first three fields are stored little-endian (UEFI 2.10, appendix A)
abbrev pub sign_bytes : Sign → List ℕ
sign_bytes signs.None = replicate 16 0
sign_bytes (signs.Mbr signature) = to_le_bytes w32 signature ++ replicate 12 0
sign_bytes (signs.Guid guid) = swap_fields guid

-- The fields of a node in their order: type 4, subtype 1, length 42, partition number, first block, number of blocks, signature,
-- format and signature type. Numbers are little-endian.
abbrev pub node_fields : HardDrive → List (List ℕ)
node_fields node =
    (4 ∷ [])
    ∷ (1 ∷ [])
    ∷ to_le_bytes w16 42
    ∷ to_le_bytes w32 node.number
    ∷ to_le_bytes w64 node.start
    ∷ to_le_bytes w64 node.size
    ∷ sign_bytes node.sign
    ∷ (format_code node.format ∷ [])
    ∷ (sign_code node.sign ∷ [])
    ∷ []

-- the node, 42 bytes
unfoldable pub node_bytes : HardDrive → List ℕ
node_bytes node = concat (node_fields node)

-- these bytes are the node
unfoldable pub IsNodeOf : HardDrive → List ℕ → Type 0
IsNodeOf node bytes = bytes ≡ node_bytes node

-- there are 42 bytes, and they say so
unfoldable pub has_length : List ℕ → Bool
has_length bytes = length bytes == 42 && from_le_bytes w16 (slice_range bytes 2 4) == 42

-- type and subtype are those of a hard drive
unfoldable pub has_kind : List ℕ → Bool
has_kind bytes = slice_index bytes 0 == 4 && slice_index bytes 1 == 1

-- the format is known
unfoldable pub has_format : List ℕ → Bool
has_format bytes = slice_index bytes 40 == 1 || slice_index bytes 40 == 2

-- the signature type is known
unfoldable pub has_sign_type : List ℕ → Bool
has_sign_type bytes = nat_le (slice_index bytes 41) 2

-- the first byte that the signature type leaves unused: all of them where there is no signature, those behind an MBR signature
abbrev pub first_unused : List ℕ → ℕ
first_unused bytes = if slice_index bytes 41 == 0 then 24 else if slice_index bytes 41 == 1 then 28 else 40

-- these bytes are zero
unfoldable pub has_signature : List ℕ → Bool
has_signature bytes = list_all (λ b. b == 0) (slice_range bytes (first_unused bytes) 40)

-- the tests in their order, each with the fault where it fails
abbrev pub node_tests : List ℕ → List (NodeFault × Bool)
node_tests bytes =
    (Length, has_length bytes)
    ∷ (Kind, has_kind bytes)
    ∷ (Formatted, has_format bytes)
    ∷ (SignType, has_sign_type bytes)
    ∷ (Signature, has_signature bytes)
    ∷ []

-- the fault of the first test that fails, and none where every test holds
unfoldable pub node_fault : List ℕ → Option NodeFault
node_fault bytes = option_map (λ t. t.0) (find (λ t. not t.1) (node_tests bytes))

-- every test holds
pub record PassesAll (bytes : List ℕ) : Type 0 where
  pub length_holds : has_length bytes ≡ true
  pub kind_holds : has_kind bytes ≡ true
  pub format_holds : has_format bytes ≡ true
  pub sign_type_holds : has_sign_type bytes ≡ true
  pub signature_holds : has_signature bytes ≡ true

-- the signature that the fields tell
abbrev pub node_sign : List ℕ → Sign
node_sign bytes =
    if slice_index bytes 41 == 0 then signs.None
    else if slice_index bytes 41 == 1 then signs.Mbr (from_le_bytes w32 (slice_range bytes 24 28))
    else signs.Guid (swap_fields (slice_range bytes 24 40))

-- the hard drive that the fields tell, of bytes that passed every test
unfoldable pub drive_fields : List ℕ → HardDrive
drive_fields bytes = record {
  number = from_le_bytes w32 (slice_range bytes 4 8);
  start = from_le_bytes w64 (slice_range bytes 8 16);
  size = from_le_bytes w64 (slice_range bytes 16 24);
  format = if slice_index bytes 40 == 1 then formats.Mbr else formats.Gpt;
  sign = node_sign bytes;
}
