-- The canonical text of an affine form, over the names of its loops and symbols, and divided trips.
use Rattle.std.specs.Prelude.{ℕ, ℤ, Option, Some, None, List, [], ◌∷◌, ◌++◌, slice_get}
use Rattle.tree.specs.Plain.{Expression}
use Rattle.subscripts.specs.declared.affine.Affine.{Affine}
use Rattle.linear_forms.specs.Expressed.{with_term, with_terms, with_constant, variables}

-- one more term of what stands for a place of the list, if anything does
abbrev pub with_place : Option Expression → ℤ → Option Expression → Option Expression
with_place o c None = o
with_place o c (Some t) = with_term o c t

abbrev pub with_symbols : Option Expression → List (ℕ × ℤ) → List Expression → Option Expression
with_symbols o [] terms = o
with_symbols o (t ∷ ts) terms = with_symbols (with_place o t.1 (slice_get terms t.0)) ts terms

-- what stands for the places behind the loops: the symbols, and then the divided trips
abbrev pub places_behind : List (List ℕ) → List Expression → List Expression
places_behind symbols trips = variables symbols ++ trips

-- the loop terms from the outside in, the symbols, the divided trips, the constant
abbrev pub text_of : List (List ℕ) → List (List ℕ) → List Expression → Affine → Expression
text_of loops symbols trips a =
    with_constant (with_symbols (with_terms None a.loops (variables loops)) a.syms (places_behind symbols trips))
    a.constant
