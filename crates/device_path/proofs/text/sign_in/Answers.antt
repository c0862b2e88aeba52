use Rattle.std.proofs.Common.{[], ◌∷◌, sym, ◌∙◌, arith}
use Rattle.std.proofs.lemmas.Slice.Eq.{bytes_eq-Decides}
use Rattle.std.proofs.lemmas.Result.{Ok-from_Ok_iff}
use Rattle.device_path.proofs.ReadBack.{sign-none, sign-mbr}
use Rattle.device_path.proofs.text.sign_in.Goals as goal

pub returns-then-eq : goal.returns-then-eq
returns-then-eq c = λ sign can is. sign-none sign c.args.text.now is ((bytes_eq-Decides c.args.text.now (48 ∷ [])).0 (sym c.eq.ensures ∙ c.if-eq.true))

pub returns-then-starts_with : goal.returns-then-starts_with
returns-then-starts_with c = λ sign can is.
    let begins = (rw c.if-starts_with.true at c.starts_with.ensures.cases).1.1 in
    let mbr = sign-mbr sign c.args.text.now _ can is begins in
    let number = c.hexadecimal_in.ensures mbr.signature (omega (arith, mbr.small)) mbr.tells in
    let fits = Ok-from_Ok_iff c.try_from.result _ c.hexadecimal_in.result c.try_from.ensures (rw number mbr.small) in
    rw (c.unwrap_or.ensures, fits, number) mbr.is
