-- The limits of a script (own profile).
use Rattle.std.specs.Prelude.{ℕ}

-- the most bytes of a script: 4 MiB
abbrev pub most_script_bytes : ℕ
most_script_bytes = 4194304

-- the most bytes that one line asks for: 16 MiB
abbrev pub most_request_bytes : ℕ
most_request_bytes = 16777216

-- the most bytes that all lines ask for in sum: 256 MiB
abbrev pub most_requested_bytes : ℕ
most_requested_bytes = 268435456

-- the most bytes of an image's name
abbrev pub most_name_bytes : ℕ
most_name_bytes = 255

-- the most disks of a script
abbrev pub most_disks : ℕ
most_disks = 16

-- the most media of a disk: its image and its spares
abbrev pub most_media : ℕ
most_media = 16

-- the most clients of a disk
abbrev pub most_clients : ℕ
most_clients = 64

-- the most workers of a disk
abbrev pub most_workers : ℕ
most_workers = 16
