-- The table of statuses (UEFI 2.10, appendix D).
use Rattle.std.specs.Prelude.{◌≢◌, ℕ, ◌+◌, ◌^◌, List, codes}
use Rattle.efi_status.specs.declared.Status.{Status}
use Rattle.efi_status.specs.declared.Status.TheVariants.{Success, InvalidParameter, BadBufferSize, DeviceError, WriteProtected, OutOfResources, NoMedia, MediaChanged, Aborted}

-- the number of a status in the table, without the bit of an error
abbrev pub table_number : Status → ℕ
table_number Success = 0
table_number InvalidParameter = 2
table_number BadBufferSize = 4
table_number DeviceError = 7
table_number WriteProtected = 8
table_number OutOfResources = 9
table_number NoMedia = 12
table_number MediaChanged = 13
table_number Aborted = 21

-- the number as it is passed: bit 63 marks an error
abbrev pub code_of : Status → ℕ
code_of Success = 0
code_of status = 2 ^ 63 + table_number status

-- no status has this code
abbrev pub IsNoCode : ℕ → Type 0
IsNoCode code = (status : Status) → code_of status ≢ code

abbrev pub name_of : Status → List ℕ
name_of Success = codes "EFI_SUCCESS"
name_of InvalidParameter = codes "EFI_INVALID_PARAMETER"
name_of BadBufferSize = codes "EFI_BAD_BUFFER_SIZE"
name_of DeviceError = codes "EFI_DEVICE_ERROR"
name_of WriteProtected = codes "EFI_WRITE_PROTECTED"
name_of OutOfResources = codes "EFI_OUT_OF_RESOURCES"
name_of NoMedia = codes "EFI_NO_MEDIA"
name_of MediaChanged = codes "EFI_MEDIA_CHANGED"
name_of Aborted = codes "EFI_ABORTED"
