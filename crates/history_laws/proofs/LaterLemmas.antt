-- What a history with more entries still tells of a token.
use Rattle.std.proofs.Common.{◌≡◌, ℕ, ◌<◌, ◌≤◌, false, List, [], ◌∷◌, ◌++◌, refl, ◌∙◌, arith}
use Rattle.std.proofs.lemmas.Bool.{or_parts, false_from_ne_true, both_ways}
use Rattle.history.specs.declared.entry.Entry.{Entry}
use Rattle.history.specs.Setup.{Setup}
use Rattle.history.specs.Tokens.{token_count, request, is_collect_of, was_collected}
use Rattle.history.specs.Commands.{moves, is_moved}
use Rattle.history_laws.proofs.EndLemmas.{accepted-rises}
use Rattle.history_laws.proofs.TokenLemmas.{request-kept, has_done-stays}

-- what a history with more entries still says of a token
pub record Later (S : Setup) (H H' : List Entry) (t x : ℕ) : Type 0 where
  pub tokens : token_count H ≤ token_count H'
  pub named : t < token_count H → request H' t ≡ request H t
  pub unmoved : is_moved S H' t x ≡ false → is_moved S H t x ≡ false
  pub uncollected : was_collected H' t ≡ false → was_collected H t ≡ false

-- one entry more
later-one : (S : Setup) (e : Entry) (H : List Entry) (t x : ℕ) → Later S H (e ∷ H) t x
unfolding was_collected
later-one S e H t x = record {
  tokens = accepted-rises H e;
  named = λ token. request-kept H e t (λ same. absurd (omega (arith, same)));
  unmoved = λ none. false_from_ne_true (is_moved S H t x) (λ was. both_ways (is_moved S (e ∷ H) t x) none (has_done-stays (moves S x) H e t was));
  uncollected = λ none. (or_parts (is_collect_of t e) _ none).1;
}

-- any more entries
pub later-more : (S : Setup) (more H : List Entry) (t x : ℕ) → Later S H (more ++ H) t x
later-more S [] H t x = record { tokens = omega arith; named = λ _. refl; unmoved = λ none. none; uncollected = λ none. none }
later-more S (e ∷ more) H t x =
    let first : Later S H (more ++ H) t x = later-more S more H t x in
    let next : Later S (more ++ H) (e ∷ (more ++ H)) t x = later-one S e (more ++ H) t x in
    record {
      tokens = omega (arith, first.tokens, next.tokens);
      named = λ token. next.named (omega (arith, first.tokens)) ∙ first.named token;
      unmoved = λ none. first.unmoved (next.unmoved none);
      uncollected = λ none. first.uncollected (next.uncollected none);
    }
