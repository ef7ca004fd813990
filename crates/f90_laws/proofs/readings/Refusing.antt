-- A text that conforms has no cause of refusal but its names.
use Rattle.std.proofs.Common.{◌≡◌, refl, ℕ, List}
use Rattle.tree.specs.Causes.{refusal_at}
use Rattle.tree.specs.Plain.{Program}
use Rattle.tree.specs.declared.refusals.Cause.TheVariants.{Limit90}
use Rattle.tree.specs.declared.refusals.Refusal.{Refusal}
use Rattle.f90_grammar.specs.Refusals.{HasCause90, PassesNames, IsRefusable, Conforms90, Reads90, Refused90}
use Rattle.f90_grammar.specs.Refusals.IsRefusable.{For, ForNames}

for_names : (text : List ℕ) (r : Refusal) → ((o : Refusal) → HasCause90 text o → ⊥) → IsRefusable text r
    → (line : ℕ) × (r ≡ refusal_at Limit90 line) × PassesNames text line
for_names text r free (For o h) = absurd (free o h)
for_names text r free (ForNames line h) = (line, refl, h)

pub read_for_names : (text : List ℕ) (q : Program) (r : Refusal) → Conforms90 text q → Refused90 text r
    → (line : ℕ) × (r ≡ refusal_at Limit90 line) × PassesNames text line
read_for_names text q r conforms refused = for_names text r conforms.unrefused refused.holds

pub not_refused : (text : List ℕ) (q : Program) (r : Refusal) → Reads90 text q → Refused90 text r → ⊥
not_refused text q r reads refused = let n = read_for_names text q r reads.conforms refused in reads.within n.0 n.2
