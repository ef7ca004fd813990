-- Expansion as a rule of rewriting. It suits no node by itself, since what the stores of the two runs have in common
-- differs from place to place.
use Rattle.std.specs.Prelude.{ℕ, ℤ, List, false}
use Rattle.meaning.specs.Store.{Store}
use Rattle.rewrite.specs.Following.{sequential}
use Rattle.rewrite.specs.Rule.{IsRule}
use Rattle.rewrite.specs.Suits.{Suiting}
use Rattle.scalar_expand.specs.Expanded.{expanding}
use Rattle.scalar_expand.specs.declared.elements.Expansion.{Expansion}

abbrev pub none_suits : Suiting
none_suits = record { expression = λ e. false; left = λ l. false; variable = λ x. false }

abbrev pub nothing_alike : Store → Store → Type 0
nothing_alike s u = ⊥

pub expansion_keeps : (r : Expansion) (bits : ℕ) (turns : List ℤ)
    → IsRule (sequential bits) (expanding r.privates) none_suits nothing_alike
expansion_keeps r bits turns = record {
  value = λ first e s u v suits like h. absurd like;
  printed = λ x s u vs suits like h. absurd like;
  assigned = λ l s u is c suits like h g. absurd like;
  variable = λ x s u suits like. absurd like;
}
