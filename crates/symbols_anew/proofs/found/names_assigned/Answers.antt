use Rattle.std.proofs.Common.{◌∙◌, ◌++◌, ◌∷◌, [], List, ℕ, ap, sym, map, take, arith}
use Rattle.std.proofs.lemmas.List.{map-append}
use Rattle.nest.specs.Bodies as plain
use Rattle.nest.specs.statement_loops.Standings.{standing_of}
use Rattle.nest_reasons.proofs.Lists.{one_more}
use Rattle.tree.proofs.Equations.{reference_of-is}
use Rattle.tree.specs.Plain.{Reference}
use Rattle.symbols_anew.proofs.found.names_assigned.Goals as goal

pub loop-standing-preserved : goal.loop-standing-preserved
loop-standing-preserved c =
    let before = take c.loop-standing.standing-index c.as_slice-standing-items.result.now in
    c.in_ok-push.ensures.ok
    ∙ ap (λ (xs : List (List ℕ)). xs ++ c.standing-item.result.stmt.left.name ∷ []) c.loop-standing.invariant
    ∙ ap (λ (x : List ℕ). map (λ (s : plain.Standing). s.statement.left.name) (map standing_of before) ++ x ∷ [])
    (sym (ap (λ (r : Reference). r.name) (reference_of-is c.standing-item.result.stmt.left)))
    ∙ sym
    (ap (λ xs. map (λ (s : plain.Standing). s.statement.left.name) (map standing_of xs))
    (one_more c.as_slice-standing-items.result.now c.loop-standing.standing-index c.standing-item.result (omega arith) c.standing-item.is)
    ∙ ap (map (λ (s : plain.Standing). s.statement.left.name)) (map-append standing_of before (c.standing-item.result ∷ []))
    ∙ map-append (λ (s : plain.Standing). s.statement.left.name) (map standing_of before)
    (standing_of c.standing-item.result ∷ []))
