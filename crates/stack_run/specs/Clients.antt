-- The clients of a disk of a script, as its desk has them (own profile).
use Rattle.std.specs.Prelude.{ℕ, List, [], map, Option, None}
use Rattle.history.specs.declared.entry.Entry.{Entry}
use Rattle.partition_tables.specs.declared.table.Child.{Child}
use Rattle.partition_tables.specs.declared.table.Table.{Table}
use Rattle.script_text.specs.declared.language.plans.DiskPlan.{DiskPlan}
use Rattle.script_text.specs.declared.language.plans.ClientPlan.{ClientPlan}
use Rattle.shared_disk.specs.Lines.{Role}
use Rattle.shared_disk.specs.Script.{Script}
use Rattle.stack_run.specs.Parts.{children_of, stand_in}

-- a client of a disk with these children and blocks of this size
abbrev pub role_in : ℕ → List Child → ClientPlan → Role
role_in size children client = record { stand = stand_in size children client.part; orders = client.orders }

abbrev pub script_roles : ℕ → List Child → List ClientPlan → List Role
script_roles size children clients = map (role_in size children) clients

-- a disk before its first line: its partition table, where one was read, and its history, which is that of the probe
pub record Start : Type 0 where
  pub found : Option Table
  pub entries : List Entry

-- a disk that was not probed
abbrev pub unprobed : Start
unprobed = record { found = None; entries = [] }

-- the script of a disk that begins so
abbrev pub script_in : DiskPlan → Start → Script
script_in plan start = record { opening = start.entries; roles = script_roles plan.size (children_of start.found) plan.clients }
