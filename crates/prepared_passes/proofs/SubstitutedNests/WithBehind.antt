-- Inductions are substituted whatever stands behind a nest.
use Rattle.std.proofs.Common.{◌≡◌, refl, sym, ap, List, [], ◌∷◌, ℕ, Option, Some, None}
use Rattle.tree.specs.Plain.{Block, no_statements, statement}
use Rattle.nest.specs.Allocations.{block_then}
use Rattle.nest.specs.Plain.{Nest}
use Rattle.nest.specs.declared.parts.Trip.{Trip}
use Rattle.statement_passes.specs.Shifted.{with_nest_symbol, with_nest_symbols}
use Rattle.inductions.specs.Found.{inductions_by, outermost_trip}
use Rattle.inductions.specs.Nests.{endings, induction_names, inductions_substituted, substituted_by, with_inductions_put, with_inductions}
use Rattle.inductions.specs.declared.found.Induction.{Induction}
use Rattle.prepared_passes.specs.substitution.Laws.{InductionsAreSubstitutedWithAnythingBehind}

pub then_nothing : (b : Block) → block_then b no_statements ≡ b
then_nothing no_statements = refl
then_nothing (statement c cs) = ap (λ (b : Block). statement c b) (then_nothing cs)

symbols_behind : (n : Nest) (after : Block) (xs : List (List ℕ)) → with_nest_symbols (record n { after = after }) xs ≡ record (with_nest_symbols n xs) { after = after }
symbols_behind n after [] = refl
symbols_behind n after (x ∷ xs) = symbols_behind (with_nest_symbol n x) after xs

abbrev last_values : Nest → List ℕ × Trip → List Induction → Block
last_values n o [] = no_statements
last_values n o (d ∷ ds) = endings n o.1 (d ∷ ds)

with_behind : (n : Nest) (after : Block) (o : List ℕ × Trip) (ds : List Induction)
    → with_inductions (record n { after = after }) o ds ≡ record (with_inductions n o ds) { after = block_then after (last_values n o ds) }
with_behind n after o [] = ap (λ (b : Block). record n { after = b }) (sym (then_nothing after))
with_behind n after o (d ∷ ds) =
    ap (with_inductions_put o.0 (d ∷ ds) (block_then after (endings n o.1 (d ∷ ds)))) (symbols_behind n after (induction_names (d ∷ ds)))

abbrev behind_by : Nest → Option (List ℕ × Trip) → Block
behind_by n None = no_statements
behind_by n (Some o) = last_values n o (inductions_by n (Some o))

by_outermost : (n : Nest) (after : Block) (o : Option (List ℕ × Trip))
    → substituted_by (record n { after = after }) o ≡ record (substituted_by n o) { after = block_then after (behind_by n o) }
by_outermost n after None = ap (λ (b : Block). record n { after = b }) (sym (then_nothing after))
by_outermost n after (Some o) = with_behind n after o (inductions_by n (Some o))

pub inductions_are_substituted_with_anything_behind : InductionsAreSubstitutedWithAnythingBehind
unfolding inductions_substituted
inductions_are_substituted_with_anything_behind n = (behind_by n (outermost_trip n.body), λ after. by_outermost n after (outermost_trip n.body))
