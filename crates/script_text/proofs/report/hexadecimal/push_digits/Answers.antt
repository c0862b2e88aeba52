use Rattle.std.proofs.Common.{◌≡◌, ◌++◌, string_bytes, ap, ◌∙◌, rules}
use Rattle.std.proofs.lemmas.List.{nil_from_length}
use Rattle.hex.specs.Hex.{encode_lower}
use Rattle.script_text.proofs.HexPieces.{next_piece, all_pieces}
use Rattle.script_text.proofs.report.hexadecimal.push_digits.Goals as goal

pub loop-piece-init : goal.loop-piece-init
loop-piece-init c = (search rules, tt, search rules)

pub loop-piece-preserved : goal.loop-piece-preserved
loop-piece-preserved c =
    let pushed : string_bytes c.push_str.new.self ≡ string_bytes c.loop-piece.text ++ encode_lower c.in-Some.piece.now =
    c.in_ok-push_str.ensures.bytes ∙ ap (λ l. string_bytes c.loop-piece.text ++ l) (c.as_str.ensures.value ∙ c.in_ok-encode.ensures) in
    (search rules, tt, (rw pushed (next_piece _ _ _ _ c.in-Some.ensures.steps.1.0)) ∙ c.loop-piece.invariant.2)

pub returns : goal.returns
returns c = all_pieces _ _ _ (nil_from_length _ c.in-None.ensures.steps.1.0) c.loop-piece.invariant.2
