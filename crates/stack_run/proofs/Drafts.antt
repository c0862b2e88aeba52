-- The text and the state of the generator, one line or client further.
use Rattle.std.proofs.Common.{◌≡◌, ℕ, ◌+◌, List, ◌++◌, ◌∙◌, ap, add-one}
use Rattle.rand_xoshiro.specs.SplitMix64.{mix_u64}
use Rattle.stack_run.specs.Generated.{Made, request_text, with_line, with_lines, with_request, with_client, with_clients}

-- a request of the word that is drawn
pub draws : (text more text' : List ℕ) (state state' word : ℕ) → (word, state') ≡ mix_u64 state → more ≡ request_text word → text' ≡ text ++ more
    → ◌≡◌ {A = Made} (record { text = text'; state = state' }) (with_request (record { text = text; state = state }))
draws text more text' state state' word drawn line added = λ i. record {
  text = (added ∙ ap (λ l. text ++ l) (line ∙ ap (λ p. request_text p.0) drawn)) i;
  state = (drawn i).1;
}

pub lines-next : (n : ℕ) (d : Made) → with_lines (n + 1) d ≡ with_line (n + 1) (with_lines n d)
unfolding with_lines
lines-next n d = ap (λ k. with_lines k d) (add-one n)

pub clients-next : (lines n : ℕ) (d : Made) → with_clients lines (n + 1) d ≡ with_client lines (with_clients lines n d)
unfolding with_clients
clients-next lines n d = ap (λ k. with_clients lines k d) (add-one n)
