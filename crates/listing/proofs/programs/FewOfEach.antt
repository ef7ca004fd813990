-- A nest whose statements are counted one by one.
use Rattle.std.proofs.Common.{◌≡◌, ℕ, ◌+◌, ◌<◌, ◌^◌, Result, Ok, Err, All, List, length, map, OnOk, sym, ap, ◌∙◌, subst}
use Rattle.std.proofs.lemmas.List.{length-map}
use Rattle.std.proofs.lemmas.List.Elements.{All-map}
use Rattle.dependence_graph.specs.nest_graph.References.{references_of}
use Rattle.nest.specs.Bodies.{Standing, nest_statements}
use Rattle.nest.specs.Plain.{Nest}
use Rattle.nest.specs.declared.statement_loops.standings.Standing.{Standing as Standing'}
use Rattle.nest.specs.statement_loops.Standings.{standing_of}
use Rattle.listing.specs.programs.Counted.{AreCounted}

abbrev HasFew : Standing → Type 0
HasFew x = length (references_of x) + 1 < 2 ^ 32

pub counted : {A E : Type 0} (r : Result A E) (m : Nest) (all given : List Standing') (k : ℕ)
    → map standing_of all ≡ nest_statements m → k ≡ length all → k + 1 < 2 ^ 32 → given ≡ all
    → OnOk r (All (λ s. length (references_of (standing_of s)) + 1 < 2 ^ 32) given) → OnOk r (AreCounted m)
counted (Err e) m all given k is size few same h = tt
counted (Ok a) m all given k is size few same h =
    let count : k ≡ length (nest_statements m) = size ∙ sym (length-map all standing_of) ∙ ap length is in
    record {
      statements = subst (λ (n : ℕ). n + 1 < 2 ^ 32) count few;
      references = subst (All HasFew) (ap (map standing_of) same ∙ is) (All-map HasFew standing_of given h);
    }
