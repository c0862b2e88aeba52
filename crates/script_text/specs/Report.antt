-- The report of a disk (own profile).
use Rattle.std.specs.Prelude.{◌≡◌, ℕ, ◌+◌, ◌<◌, Bool, true, false, not, ◌&&◌, ◌==◌, nat_eq, if◌then◌else◌, List, [], ◌∷◌, ◌++◌, length, map, reverse, slice_get, slice_index, codes, decimal, Option, Some, None, is_some, unwrap_or, filter_map, IfSome}
use Rattle.efi_status.specs.declared.Status.{Status}
use Rattle.efi_status.specs.declared.Status.TheVariants.{Success}
use Rattle.efi_status.specs.StatusTable.{name_of}
use Rattle.history.specs.declared.entry.Entry.{Entry}
use Rattle.history.specs.declared.entry.Entry.TheVariants.{Accept}
use Rattle.history.specs.Setup.{Setup, size_of, per_of}
use Rattle.history.specs.Tokens.{Request, token_count, request, is_read, from_of}
use Rattle.history.specs.Marks.{mark_of}
use Rattle.history.specs.Contents.{bytes_read}
use Rattle.script_text.specs.declared.report.parts.KeptMedium.{KeptMedium}
use Rattle.script_text.specs.declared.report.parts.TokenLine.{TokenLine}
use Rattle.script_text.specs.Text.{line_of, hex_text, lines_text}
use Rattle.script_text.specs.Entries.{entries_text}

-- how many blocks a group has, where it has more than one
abbrev pub group_words : ℕ → List (List ℕ)
group_words per = if per == 1 then [] else codes "physical" ∷ decimal per ∷ []

-- the first line of a disk: its number from 1, its image, the size of a block in bytes, its blocks, and the blocks of a group
unfoldable pub head_text : ℕ → List ℕ → ℕ → ℕ → ℕ → List ℕ
head_text number image size blocks per =
    line_of (codes "disk" ∷ decimal number ∷ image ∷ codes "size" ∷ decimal size ∷ codes "blocks" ∷ decimal blocks ∷ group_words per)

-- how a token ended; one that has not ended has no such word
abbrev pub mark_words : Option Status → List (List ℕ) → List (List ℕ)
mark_words None more = more
mark_words (Some status) more = name_of status ∷ more

abbrev pub given_words : Option (List ℕ) → List (List ℕ)
given_words None = []
given_words (Some bytes) = hex_text bytes ∷ []

-- the line of a token: how it ended, and the bytes that it gave back, where it gives them here
unfoldable pub token_text : ℕ → Option Status → Option (List ℕ) → List ℕ
token_text token mark given = line_of (codes "token" ∷ decimal token ∷ mark_words mark (given_words given))

abbrev pub is_success : Option Status → Bool
is_success (Some Success) = true
is_success mark = false

abbrev pub is_tagged_read : Option Request → Bool
is_tagged_read None = false
is_tagged_read (Some r) = is_read r.asked.kind && not (nat_eq r.tag 0)

-- the token gives its bytes back in the report: a successful read whose tag is not 0
unfoldable pub gives_bytes : Setup → List Entry → ℕ → Bool
gives_bytes S H t = is_tagged_read (request H t) && is_success (mark_of S H t)

-- what a token gives back in the report, where it gives its bytes
abbrev pub given_if : Bool → Option (List ℕ) → Option (List ℕ)
given_if true given = given
given_if false given = None

-- the lines of the tokens in order, with the bytes of those that give them
abbrev pub tokens_text : Setup → List Entry → List (Option (List ℕ)) → List ℕ
tokens_text S H given = lines_text (λ t bytes. token_text t (mark_of S H t) (given_if (gives_bytes S H t) bytes)) 0 given

-- a medium that was kept: its id, its name, and its bytes in whole blocks
unfoldable pub medium_text : ℕ → KeptMedium → List ℕ
medium_text id medium = line_of (codes "medium" ∷ decimal id ∷ medium.name ∷ codes "kept" ∷ decimal medium.bytes ∷ [])

-- the lines of the media from id 1 on
abbrev pub media_text : List KeptMedium → List ℕ
media_text media = lines_text medium_text 1 media

-- the lines behind the first: entries from the oldest on, tokens, and media from id 1 on
unfoldable pub body_text : Setup → List Entry → List (Option (List ℕ)) → List KeptMedium → List ℕ
body_text S H given media = entries_text (per_of S) (reverse H) ++ (tokens_text S H given ++ media_text media)

-- whether a request that was accepted is a read whose tag is not 0
abbrev pub tagged_read : Entry → Option Bool
tagged_read (Accept tag view asked bytes) = Some (is_read asked.kind && not (nat_eq tag 0))
tagged_read e = None

-- the same of each token in order, from entries of which the oldest stands first
unfoldable pub tagged_reads : List Entry → List Bool
tagged_reads entries = filter_map tagged_read entries

-- the same of one token; what is no token is none
abbrev pub is_tagged : List Bool → ℕ → Bool
is_tagged tagged t = unwrap_or (slice_get tagged t) false

-- the line of a token that ended so, with the bytes of a tagged read that succeeded
abbrev pub end_text : ℕ → Bool → TokenLine → List ℕ
end_text t tagged end = token_text t (Some end.status) (given_if (tagged && is_success (Some end.status)) end.given)

-- the lines of tokens that ended so
abbrev pub ends_text : List Bool → List TokenLine → List ℕ
ends_text tagged ends = lines_text (λ t end. end_text t (is_tagged tagged t) end) 0 ends

-- the lines behind the first, with groups of so many blocks
unfoldable pub ended_text : ℕ → List Entry → List TokenLine → List KeptMedium → List ℕ
ended_text per H ends media = entries_text per (reverse H) ++ (ends_text (tagged_reads (reverse H)) ends ++ media_text media)

-- the report of a disk
unfoldable pub report_text : ℕ → List ℕ → Setup → ℕ → List Entry → List (Option (List ℕ)) → List KeptMedium → List ℕ
report_text number image S blocks H given media = head_text number image (size_of S) blocks (per_of S) ++ body_text S H given media

-- what the lines of tokens give back
abbrev pub givens_of : List TokenLine → List (Option (List ℕ))
givens_of tokens = map (λ line. line.given) tokens

-- the lines say how the tokens ended, one for each token in order
pub record AreEnds (S : Setup) (H : List Entry) (tokens : List TokenLine) : Type 0 where
  pub count : length tokens ≡ token_count H
  pub each : (t : ℕ) → IfSome (slice_get tokens t) (λ line. mark_of S H t ≡ Some line.status)

-- these are the bytes that the token read, as far as its medium tells them
pub record AreBytesRead (S : Setup) (H : List Entry) (t : ℕ) (r : Request) (bytes : List ℕ) : Type 0 where
  pub all : length bytes ≡ r.asked.length
  pub each : (i : ℕ) → i < length bytes → IfSome (bytes_read S H t (from_of S r + i)) (λ b. slice_index bytes i ≡ b)

-- what a token gives back
pub record IsGiven (S : Setup) (H : List Entry) (t : ℕ) (given : Option (List ℕ)) : Type 0 where
  pub where_read : is_some given ≡ gives_bytes S H t
  pub bytes : IfSome (request H t) (λ r. IfSome given (AreBytesRead S H t r))

-- one for each token in order
pub record AreGiven (S : Setup) (H : List Entry) (given : List (Option (List ℕ))) : Type 0 where
  pub count : length given ≡ token_count H
  pub each : (t : ℕ) → IfSome (slice_get given t) (IsGiven S H t)
