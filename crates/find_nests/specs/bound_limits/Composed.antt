-- Bounds of loops in the iterations of the loops round them, where each of these goes from 1 by 1 (Allen and Kennedy,
-- "Optimizing Compilers for Modern Architectures", section 4.2, loop normalization). The places of these forms are the
-- symbols, and behind them the loops from the outside in.
use Rattle.std.specs.Prelude.{ℕ, zero, suc, ℤ, pos, Option, Bool, List, [], ◌∷◌, map, drop, length, slice_index_or}
use Rattle.std.specs.List.{filter, list_any}
use Rattle.std.specs.Option.{option_map}
use Rattle.std.specs.Str.{bytes_eq}
use Rattle.tree.specs.Plain.{Expression}
use Rattle.meaning.specs.Reads.{names_in}
use Rattle.linear_forms.specs.Linear.{Form, sum, multiple, form_of}

-- a loop round others: its variable, and what stands for it
pub record Outer : Type 0 where
  pub variable : List ℕ
  pub form : Form

-- the first n numbers, with zeros where there are fewer
abbrev pub filled : ℕ → List ℤ → List ℤ
filled zero cs = []
filled (suc n) [] = pos 0 ∷ filled n []
filled (suc n) (c ∷ cs) = c ∷ filled n cs

-- a form with so many times each loop, whose coefficients are 0 past the end of the list
abbrev pub with_multiples : Form → List ℤ → List Outer → Form
with_multiples g cs [] = g
with_multiples g cs (r ∷ rs) = with_multiples (sum g (multiple (slice_index_or cs 0 (pos 0)) r.form)) (drop 1 cs) rs

-- whether its variable is one of these names
abbrev pub is_loop_among : List (List ℕ) → Outer → Bool
is_loop_among names r = list_any (λ y. bytes_eq y r.variable) names

abbrev pub outer_variables_of : List Outer → List (List ℕ)
outer_variables_of rs = map (λ (r : Outer). r.variable) rs

-- the terms of the symbols, of which there are n, of a form whose first places are those of k loops
abbrev pub symbol_terms : ℕ → ℕ → Form → Form
symbol_terms n k f = record { coefficients = filled n (drop k f.coefficients); constant = f.constant }

-- what stands for each loop is put in its place
abbrev pub composed : ℕ → List Outer → Form → Form
composed n rs f = with_multiples (symbol_terms n (length rs) f) f.coefficients rs

-- the loops whose variables stand in an expression
abbrev pub those_in : Expression → List Outer → List Outer
those_in e around = filter (is_loop_among (names_in e)) around

-- the form of a bound under these loops, where it is linear over these symbols and the variables of the loops
abbrev pub composed_bound : List (List ℕ) → List Outer → Expression → Option Form
composed_bound symbols around e =
    option_map (composed (length symbols) (those_in e around))
    (form_of (outer_variables_of (those_in e around)) symbols e)
