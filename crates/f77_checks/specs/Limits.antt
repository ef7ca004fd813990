-- The limits of which each has a word of its own, and the first place at which one is broken.
use Rattle.std.specs.Prelude.{ℕ, suc, nat_lt, Bool, if◌then◌else◌, Option, None, Some, List, [], ◌∷◌}
use Rattle.std.specs.List.{find}
use Rattle.tree.specs.declared.refusals.Cause.{Cause}
use Rattle.tree.specs.declared.refusals.Cause.TheVariants.{ManyNames, ManyBlocks, ReversedBounds, ManyElements}
use Rattle.tree.specs.declared.refusals.Cause.TheVariants.{BadConstant}
use Rattle.f77_grammar.specs.program.Text.{Place77}
use Rattle.f77_checks.specs.declared.limits.Breach.{Breach}

-- in the order of their words
abbrev pub limits : List Cause
limits = ManyNames ∷ ManyBlocks ∷ ReversedBounds ∷ ManyElements ∷ BadConstant ∷ []

abbrev pub here_or : Option Cause → ℕ → Option Breach → Option Breach
here_or (Some c) i later = Some (record { place = i; cause = c })
here_or None i later = later

-- at the first place at which one of the causes holds, the first that does
abbrev pub found_from : (Cause → Place77 → Bool) → List Cause → ℕ → List Place77 → Option Breach
found_from holds causes i [] = None
found_from holds causes i (p ∷ ps) = here_or (find (λ c. holds c p) causes) i (found_from holds causes (suc i) ps)

-- the sooner of two, the first where both are at one place
abbrev pub sooner_found : Option Breach → Option Breach → Option Breach
sooner_found None b = b
sooner_found (Some a) None = Some a
sooner_found (Some a) (Some b) = if nat_lt b.place a.place then Some b else Some a
