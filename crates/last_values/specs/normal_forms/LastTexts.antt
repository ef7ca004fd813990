-- The texts of a loop's last turn, after all loops round it have ended.
use Rattle.std.specs.Prelude.{ℕ, Bool, not, if◌then◌else◌, List, [], ◌∷◌, ◌++◌, map}
use Rattle.tree.specs.Plain.{Expression}
use Rattle.linear_forms.specs.Texts.{text_of}
use Rattle.last_values.specs.declared.normal_forms.loops.NormalLoop.{NormalLoop}
use Rattle.last_values.specs.declared.normal_forms.last.LastForms.{LastForms}
use Rattle.last_values.specs.normal_forms.NormalLoops.{is_positive}
use Rattle.last_values.specs.normal_forms.Texts.{trip_text, at_least_one}

unfoldable pub plain_trip_text : List (List ℕ) → NormalLoop → Expression
plain_trip_text symbols r = trip_text [] symbols [] r.trip

abbrev pub plain_trip_texts : List (List ℕ) → List NormalLoop → List Expression
plain_trip_texts symbols round = map (plain_trip_text symbols) round

abbrev pub last_trip_text : List (List ℕ) → List NormalLoop → LastForms → Expression
last_trip_text symbols round f = trip_text [] symbols (plain_trip_texts symbols round) f.trip

abbrev pub last_first_text : List (List ℕ) → List NormalLoop → LastForms → Expression
last_first_text symbols round f = text_of [] symbols (plain_trip_texts symbols round) f.first

unfoldable pub last_end_text : List (List ℕ) → List NormalLoop → LastForms → Expression
last_end_text symbols round f =
    text_of [] symbols (plain_trip_texts symbols round ++ last_trip_text symbols round f ∷ []) f.end

abbrev pub is_uncertain : NormalLoop → Bool
is_uncertain r = not (is_positive r.trip)

-- a loop that may have no turn has one
abbrev pub test_of : List (List ℕ) → NormalLoop → List Expression
test_of symbols r = if is_uncertain r then at_least_one (plain_trip_text symbols r) ∷ [] else []

-- each of them
abbrev pub tests_of : List (List ℕ) → List NormalLoop → List Expression
tests_of symbols [] = []
tests_of symbols (r ∷ rs) = test_of symbols r ++ tests_of symbols rs
