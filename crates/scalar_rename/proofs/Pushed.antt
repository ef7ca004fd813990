-- One statement more among parts.
use Rattle.std.proofs.Common.{◌≡◌, ◌∙◌, List, [], ◌∷◌, ◌++◌, map, Result, Ok, Err, OnOk, ap}
use Rattle.std.proofs.lemmas.List.{map-append}
use Rattle.nest.proofs.Equations.{part_of-run}
use Rattle.nest.specs.Plain as P
use Rattle.nest.specs.View.{guarded_of, part_of}
use Rattle.nest.specs.declared.parts.GuardedStmt.{GuardedStmt}
use Rattle.nest.specs.declared.parts.Part.{Part}
use Rattle.nest.specs.declared.parts.Part.TheVariants as variants

pub pushed-run : {A E : Type 0} (r : Result A E) (made new : List Part) (s : GuardedStmt) (g : P.Guarded) → guarded_of s ≡ g
    → OnOk r (new ≡ made ++ variants.Run s ∷ []) → OnOk r (map part_of new ≡ map part_of made ++ P.Run g ∷ [])
pushed-run (Ok x) made new s g same now =
    ap (map part_of) now ∙ map-append part_of made (variants.Run s ∷ [])
    ∙ ap (λ (p : P.Part). map part_of made ++ p ∷ []) (part_of-run s ∙ ap (λ (h : P.Guarded). P.Run h) same)
pushed-run (Err e) made new s g same now = now
