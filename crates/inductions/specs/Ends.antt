-- The last values of inductions, behind the nest.
use Rattle.std.specs.Prelude.{ℕ, if◌then◌else◌, List, [], ◌∷◌}
use Rattle.tree.specs.Plain.{Expression, Statement}
use Rattle.linear_forms.specs.Texts.{text_of}
use Rattle.nest.specs.declared.parts.Trip.{Trip}
use Rattle.last_values.specs.Endings.{assigned, only_where}
use Rattle.last_values.specs.normal_forms.NormalLoops.{is_positive}
use Rattle.last_values.specs.normal_forms.Texts.{at_least_one, trip_text}
use Rattle.statement_passes.specs.Symbols.{with_name_placed}
use Rattle.inductions.specs.declared.found.Induction.{Induction}

-- by the symbols of the nest, in which the scalar isn't one yet: x + c * trip in canonical text
abbrev pub induction_end_text : List (List ℕ) → Trip → Induction → Expression
induction_end_text symbols t d = text_of [] (with_name_placed symbols d.name) (trip_text [] symbols [] t ∷ []) d.end

-- a loop without a turn leaves the scalar as it was
abbrev pub induction_ending : List (List ℕ) → ℕ → Trip → Induction → Statement
induction_ending symbols line t d =
    if is_positive t then assigned line d.name (induction_end_text symbols t d)
    else only_where line (at_least_one (trip_text [] symbols [] t))
    (assigned line d.name (induction_end_text symbols t d) ∷ [])
