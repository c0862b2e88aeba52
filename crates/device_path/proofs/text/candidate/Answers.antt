use Rattle.std.proofs.Common.{[], ◌∷◌, arith}
use Rattle.std.specs.Fmt.{decimal}
use Rattle.device_path.specs.Text.{text_of, IsTextOf, block_text, format_text, sign_text}
use Rattle.device_path.proofs.Plain.{block-tells, decimal-plain, format-plain, head-plain, plain-lacks, sign-plain, tells-plain}
use Rattle.device_path.proofs.text.candidate.Goals as goal

pub returns : goal.returns
unfolding IsTextOf text_of
returns c = λ node can is.
    let start-tells = block-tells node.start can.start in
    let size-tells = block-tells node.size can.size in
    let head = c.cut.ensures (72 ∷ 68 ∷ []) _ (plain-lacks 40 _ (omega arith) head-plain) is in
    let number = c.cut-2.ensures (decimal node.number) _ (plain-lacks 44 _ (omega arith) (decimal-plain node.number can.number)) head.1 in
    let format = c.cut-3.ensures (format_text node.format) _ (plain-lacks 44 _ (omega arith) (format-plain node.format)) number.1 in
    let sign = c.cut-4.ensures (sign_text node.sign) _ (plain-lacks 44 _ (omega arith) (sign-plain node.sign can.sign)) format.1 in
    let start = c.cut-5.ensures (block_text node.start) _ (plain-lacks 44 _ (omega arith) (tells-plain node.start _ start-tells)) sign.1 in
    let size = c.cut-6.ensures (block_text node.size) _ (plain-lacks 41 _ (omega arith) (tells-plain node.size _ size-tells)) start.1 in
    λ i. record {
      number = c.decimal_in.ensures node.number can.number number.0 i;
      start = c.hexadecimal_in.ensures node.start can.start (rw start.0 start-tells) i;
      size = c.hexadecimal_in-2.ensures node.size can.size (rw size.0 size-tells) i;
      format = c.format_in.ensures node.format format.0 i;
      sign = c.sign_in.ensures node.sign can.sign sign.0 i;
    }
