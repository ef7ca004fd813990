-- The texts of a loop's first value and of its variable's last one, in place: over the counters of the loops round it.
use Rattle.std.specs.Prelude.{ℕ, None, List, [], ◌∷◌}
use Rattle.tree.specs.Plain.{Expression}
use Rattle.linear_forms.specs.Texts.{text_of}
use Rattle.nest.specs.Plain.{Part, Run}
use Rattle.last_values.specs.declared.normal_forms.loops.NormalLoop.{NormalLoop}
use Rattle.last_values.specs.normal_forms.NormalLoops.{counters_of}
use Rattle.last_values.specs.normal_forms.Texts.{trip_text}
use Rattle.last_values.specs.Scalars.{scalar}

-- ---- texts of a loop under these loops

abbrev pub first_text : List (List ℕ) → List NormalLoop → NormalLoop → Expression
first_text symbols round r = text_of (counters_of round) symbols [] r.first

abbrev pub own_trip_text : List (List ℕ) → List NormalLoop → NormalLoop → Expression
own_trip_text symbols round r = trip_text (counters_of round) symbols [] r.trip

-- the value of the variable behind the last turn; a divided trip stands behind the symbols
abbrev pub end_text : List (List ℕ) → List NormalLoop → NormalLoop → Expression
end_text symbols round r = text_of (counters_of round) symbols (own_trip_text symbols round r ∷ []) r.end

-- ---- parts

abbrev pub assigned_part : ℕ → List ℕ → Expression → Part
assigned_part line v e = Run (record { line = line; guard = None; left = scalar v; right = e })

abbrev pub end_part : List (List ℕ) → ℕ → List NormalLoop → NormalLoop → Part
end_part symbols line round r = assigned_part line r.variable (end_text symbols round r)
