-- The texts of extents: over the symbols, and behind them the extents of outer loops that are quotients.
use Rattle.std.specs.Prelude.{ℕ, ℤ, Option, Some, None, List, [], ◌∷◌, ◌++◌, slice_get}
use Rattle.tree.specs.Plain.{Expression}
use Rattle.subscripts.specs.declared.affine.Affine.{Affine}
use Rattle.linear_forms.specs.Expressed.{variable, with_constant, with_term, with_terms}
use Rattle.nest.specs.declared.parts.Trip.{Trip}
use Rattle.last_values.specs.normal_forms.Texts.{quotient_text}

abbrev pub with_named : Option Expression → ℤ → Option (List ℕ) → Option Expression
with_named o c None = o
with_named o c (Some x) = with_term o c (variable x)

abbrev pub with_symbol_term : List (List ℕ) → Option Expression → ℕ × ℤ → Option Expression
with_symbol_term symbols o t = with_named o t.1 (slice_get symbols t.0)

-- what stands so far, with these terms of symbols
abbrev pub with_each_symbol : List (List ℕ) → Option Expression → List (ℕ × ℤ) → Option Expression
with_each_symbol symbols o [] = o
with_each_symbol symbols o (t ∷ ts) = with_each_symbol symbols (with_symbol_term symbols o t) ts

-- The form of an extent, where the extents of the loops round it have these texts: its symbols, then those extents, its
-- constant
abbrev pub extent_form_text : List (List ℕ) → List Expression → Affine → Expression
extent_form_text symbols texts a =
    with_constant (with_terms (with_each_symbol symbols None a.syms) a.loops texts) a.constant

abbrev pub made_extent_text : List (List ℕ) → List Expression → Trip → Expression
made_extent_text symbols texts t = quotient_text (extent_form_text symbols texts t.top) t.by

-- these texts, and behind them those of these extents
abbrev pub texts_with : List (List ℕ) → List Expression → List Trip → List Expression
texts_with symbols texts [] = texts
texts_with symbols texts (t ∷ ts) = texts_with symbols (texts ++ made_extent_text symbols texts t ∷ []) ts

-- of loops from the outside in
abbrev pub extent_texts : List (List ℕ) → List Trip → List Expression
extent_texts symbols ts = texts_with symbols [] ts
