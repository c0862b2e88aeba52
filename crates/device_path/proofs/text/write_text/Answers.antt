use Rattle.std.proofs.Common.{◌≡◌, ◌∙◌, ap}
use Rattle.std.specs.Prelude.{string_bytes}
use Rattle.device_path.specs.Text.{text_of, IsTextOf}
use Rattle.device_path.proofs.text.write_text.Goals as goal

pub returns : goal.returns
unfolding IsTextOf text_of
returns c =
    let h = rw (c.in_radix.ensures, c.in_radix-2.ensures) at c.in_ok-text.ensures.ok in
    let e : c.from_vec.result ≡ string_bytes c.in_ok-text.text = c.from_vec.ensures ∙ ap (λ v. v.items) c.into_bytes.ensures.value in
    e ∙ h
