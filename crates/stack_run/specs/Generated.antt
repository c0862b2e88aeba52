-- The script that a number makes (own profile): one disk `g`, so many clients, and each with so many lines.
use Rattle.std.specs.Prelude.{◌≡◌, ℕ, zero, suc, ◌+◌, ◌/◌, ◌%◌, ◌^◌, Bool, true, false, nat_eq, nat_lt, if◌then◌else◌, List, [], ◌∷◌, ◌++◌, codes, decimal, is_none, Ok}
use Rattle.std.specs.List.{list_all}
use Rattle.rand_xoshiro.specs.SplitMix64.{mix_u64}
use Rattle.script_text.specs.Text.{line_of}
use Rattle.script_text.specs.Tables.{digits_of}
use Rattle.script_text.specs.declared.language.plans.DiskPlan.{DiskPlan}
use Rattle.script_text.specs.declared.language.plans.ClientPlan.{ClientPlan}
use Rattle.script_text.specs.Whole.{script_of}
use Rattle.stack_run.specs.declared.generator.Draft.{Draft}

-- the place in bytes, the length in bytes and the byte that a word gives
abbrev pub place_of : ℕ → ℕ
place_of w = w / 8 % 1046528

abbrev pub length_of : ℕ → ℕ
length_of w = 1 + w / 2 ^ 32 % 2048

abbrev pub drawn_byte : ℕ → ℕ
drawn_byte w = w / 2 ^ 56

abbrev pub fill_text : ℕ → List ℕ
fill_text w = line_of (codes "fill" ∷ decimal (place_of w) ∷ decimal (length_of w) ∷ digits_of 2 (drawn_byte w) ∷ [])

abbrev pub read_text : ℕ → List ℕ
read_text w = line_of (codes "read" ∷ decimal (place_of w) ∷ decimal (length_of w) ∷ [])

-- the line that a word gives: of eight a half are fills, three reads, and one is a flush
unfoldable pub request_text : ℕ → List ℕ
request_text w = if nat_lt (w % 8) 4 then fill_text w else if nat_lt (w % 8) 7 then read_text w else line_of (codes "flush" ∷ [])

-- the text so far, and the state of the generator of words
pub record Made : Type 0 where
  pub text : List ℕ
  pub state : ℕ

-- so in the code's own draft
abbrev pub made_of : Draft → Made
made_of d = record { text = d.text.items; state = d.words }

abbrev pub with_text : List ℕ → Made → Made
with_text more d = record { text = d.text ++ more; state = d.state }

-- the line of a word that is drawn
abbrev pub with_request : Made → Made
with_request d = record { text = d.text ++ request_text (mix_u64 d.state).0; state = (mix_u64 d.state).1 }

-- line l of a client, from 1: each sixteenth is a wait and draws no word
unfoldable pub with_line : ℕ → Made → Made
with_line l d = if nat_eq (l % 16) 0 then with_text (line_of (codes "wait" ∷ [])) d else with_request d

-- the first n lines of a client
unfoldable pub with_lines : ℕ → Made → Made
with_lines zero d = d
with_lines (suc n) d = with_line (n + 1) (with_lines n d)

abbrev pub with_client : ℕ → Made → Made
with_client lines d = with_lines lines (with_text (line_of (codes "client" ∷ [])) d)

-- the first n clients, each with these many lines
unfoldable pub with_clients : ℕ → ℕ → Made → Made
with_clients lines zero d = d
with_clients lines (suc n) d = with_client lines (with_clients lines n d)

-- a disk of blocks of 512 bytes with one worker; the generator begins with the number itself
abbrev pub opening : ℕ → Made
opening number = record { text = line_of (codes "disk g 512 1" ∷ []); state = number }

abbrev pub generated_text : ℕ → ℕ → ℕ → List ℕ
generated_text number clients lines = (with_clients lines clients (opening number)).text

-- each client is on the whole disk
abbrev pub are_whole : List ClientPlan → Bool
are_whole clients = list_all (λ client. is_none client.part) clients

-- the disk `g` with these clients
abbrev pub generated_disk : List ClientPlan → DiskPlan
generated_disk clients = record {
  image = codes "g";
  size = 512;
  workers = 1;
  cached = false;
  protected = false;
  physical = 1;
  spares = [];
  clients = clients;
}

-- the text is a script of the disk `g` alone, each of whose clients is on the whole of it
pub record IsGeneratedScript (text : List ℕ) : Type 0 where
  pub clients : List ClientPlan
  pub says : script_of text ≡ Ok (generated_disk clients ∷ [])
  pub whole : are_whole clients ≡ true
