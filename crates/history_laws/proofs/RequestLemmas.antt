-- What a request asks for, and the bytes that it puts or leaves.
use Rattle.std.proofs.Common.{List, ap, arith, false, inl, inr, length, max, min, nat_eq, refl, slice_get, true, ℕ, ◌&&◌, ◌*◌, ◌+◌, ◌-◌, ◌∙◌, ◌≡◌, ◌≤◌}
use Rattle.std.proofs.lemmas.Bool.{and_parts, cases_lt, eqb-true, le-leb, ltb-false}
use Rattle.byte_lists.proofs.Patches.{patch-before, patch-behind}
use Rattle.byte_lists.specs.Patching.{patch}
use Rattle.history.specs.Commands.{lies_in}
use Rattle.history.specs.Marks.{is_same_view}
use Rattle.history.specs.Rules.{IsAsked}
use Rattle.history.specs.Setup.{Setup, size_of}
use Rattle.history.specs.Tokens.{bytes_to_put, changes_bytes, in_bytes, is_flush}
use Rattle.history.specs.declared.entry.Kind.{Kind}
use Rattle.history.specs.declared.entry.Kind.TheVariants.{Erase, Flush, Read, Write}
use Rattle.history.specs.declared.entry.UnitKind.{UnitKind}
use Rattle.history.specs.declared.entry.View.{View}

pub view-same : (v w : View) → is_same_view v w ≡ true → v ≡ w
view-same v w is =
    let one = and_parts (nat_eq v.start w.start && nat_eq v.length w.length && nat_eq v.media_id w.media_id) (nat_eq v.index w.index) is in
    let two = and_parts (nat_eq v.start w.start && nat_eq v.length w.length) (nat_eq v.media_id w.media_id) one.0 in
    let three = and_parts (nat_eq v.start w.start) (nat_eq v.length w.length) two.0 in
    let start = eqb-true v.start w.start three.0 in
    let long = eqb-true v.length w.length three.1 in
    let media_id = eqb-true v.media_id w.media_id two.1 in
    let index = eqb-true v.index w.index one.1 in
    λ i. record { start = start i; length = long i; media_id = media_id i; index = index i }

pub put-same : (kind : Kind) (n : ℕ) (buffer bytes : List ℕ) → changes_bytes kind ≡ true → (kind ≡ Write → buffer ≡ bytes) → bytes_to_put kind n buffer ≡ bytes_to_put kind n bytes
put-same Read n buffer bytes changes written = cc
put-same Write n buffer bytes changes written = written refl
put-same Flush n buffer bytes changes written = cc
put-same Erase n buffer bytes changes written = refl

-- where a flush is asked, it is at the beginning of its view
pub flush-at : (kind : Kind) (unit : UnitKind) (at n size : ℕ) → is_flush kind ≡ true → IsAsked kind unit at n → (in_bytes size unit at ≡ 0) × (n ≡ 0)
flush-at Flush unit at n size flush (bytes, first, none) = (ap (λ u. in_bytes size u at) bytes ∙ first, none)
flush-at Read unit at n size flush well = cc
flush-at Write unit at n size flush well = cc
flush-at Erase unit at n size flush well = cc

-- a byte that a get did not read is as it was
pub outside : (S : Setup) (b n from until x : ℕ) (buffer piece : List ℕ) → length piece ≡ min until ((b + n) * size_of S) - max from (b * size_of S) → max from (b * size_of S) - from + length piece ≤ length buffer → from ≤ x → lies_in S b n x ≡ false
    → slice_get (patch buffer (max from (b * size_of S) - from) piece) (x - from) ≡ slice_get buffer (x - from)
outside S b n from until x buffer piece counted fits after out =
    elim (cases_lt x (b * size_of S)) [
      | inl below ↦ patch-before buffer (max from (b * size_of S) - from) piece (x - from) fits (omega arith)
      | inr above ↦
          let behind : (b + n) * size_of S ≤ x = ltb-false x ((b + n) * size_of S) (rw (le-leb (b * size_of S) x above) at out) in
          patch-behind buffer (max from (b * size_of S) - from) piece (x - from) fits (omega arith)
    ]
