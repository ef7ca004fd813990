-- Texts that are read, and texts that are refused.
use Rattle.std.specs.Prelude.{◌≡◌, ℕ, List}
use Rattle.tree.specs.Causes.{refusal_at}
use Rattle.tree.specs.Plain.{Program}
use Rattle.tree.specs.declared.refusals.Cause.TheVariants.{Limit90}
use Rattle.tree.specs.declared.refusals.Refusal.{Refusal}
use Rattle.f90_grammar.specs.Refusals.{Conforms90, Reads90, Refused90, PassesNames}

abbrev pub OneRefusal : Type 0
OneRefusal = (text : List ℕ) (r s : Refusal) → Refused90 text r → Refused90 text s → r ≡ s

-- a text that conforms is refused for too many names alone
abbrev pub ConformingIsRefusedForNames : Type 0
ConformingIsRefusedForNames = (text : List ℕ) (q : Program) (r : Refusal) → Conforms90 text q → Refused90 text r
    → (line : ℕ) × (r ≡ refusal_at Limit90 line) × PassesNames text line

-- and one that is read isn't refused
abbrev pub ReadIsNotRefused : Type 0
ReadIsNotRefused = (text : List ℕ) (q : Program) (r : Refusal) → Reads90 text q → Refused90 text r → ⊥
