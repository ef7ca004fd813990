-- No text of Fortran 90 is neither read nor refused.
use Rattle.std.specs.Prelude.{ℕ, List}
use Rattle.tree.specs.Causes.{refusal_at}
use Rattle.tree.specs.Plain.{Program}
use Rattle.tree.specs.declared.refusals.Cause.TheVariants.{Limit90}
use Rattle.tree.specs.declared.refusals.Refusal.{Refusal}
use Rattle.f90_grammar.specs.Refusals.{Reads90, Refused90, PassesNames, HasCause90}

-- The law is classical: it rules out that there is no answer, and gives none.
abbrev pub TextIsReadOrRefused : Type 0
TextIsReadOrRefused = (text : List ℕ) → ((q : Program) → Reads90 text q → ⊥)
    → ((r : Refusal) → Refused90 text r → ⊥) → ⊥

-- a text that has too many names and no other cause is refused for its names, at some line
abbrev pub NamesAloneAreRefused : Type 0
NamesAloneAreRefused = (text : List ℕ) (line : ℕ) → PassesNames text line → ((r : Refusal) → HasCause90 text r → ⊥)
    → (first : ℕ) × Refused90 text (refusal_at Limit90 first)
