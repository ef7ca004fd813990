-- The statements that give the variable of a loop its last value behind all loops. A loop with a turn leaves its
-- variable with the value behind its last turn; one without a turn leaves it with the lower bound.
use Rattle.std.specs.Prelude.{ℕ, Option, Some, None, if◌then◌else◌, List, [], ◌∷◌, length}
use Rattle.tree.specs.Plain.{Expression, Binary, Statement, Assignment, If, arm, no_arms, no_statements, block}
use Rattle.tree.specs.declared.ops.Op.TheVariants.{And}
use Rattle.nest.specs.declared.parts.Trip.{Trip}
use Rattle.last_values.specs.declared.normal_forms.loops.NormalLoop.{NormalLoop}
use Rattle.last_values.specs.declared.normal_forms.last.LastForms.{LastForms}
use Rattle.last_values.specs.normal_forms.NormalLoops.{is_positive, is_known}
use Rattle.last_values.specs.normal_forms.LastValues.{last_forms, have_plain_trips}
use Rattle.last_values.specs.normal_forms.LastTexts.{last_first_text, last_trip_text, last_end_text, tests_of}
use Rattle.last_values.specs.normal_forms.Texts.{at_least_one}
use Rattle.last_values.specs.Scalars.{scalar}

-- the texts of a loop's lower bound, of its trip, and of its variable's value behind its last turn
pub record Texts : Type 0 where
  pub first : Expression
  pub trip : Expression
  pub end : Expression

-- ---- statements

abbrev pub assigned : ℕ → List ℕ → Expression → Statement
assigned line v e = Assignment line None (scalar v) e

-- a block IF without an ELSE part
abbrev pub only_where : ℕ → Expression → List Statement → Statement
only_where line test cs = If line (arm test (block cs) no_arms) no_statements

-- a condition and further ones, joined by .AND. from the left
abbrev pub all_hold : Expression → List Expression → Expression
all_hold e [] = e
all_hold e (t ∷ ts) = all_hold (Binary And e t) ts

-- in one block IF on these conditions, and in none where there are none
abbrev pub where_all_hold : ℕ → List Expression → List Statement → List Statement
where_all_hold line [] cs = cs
where_all_hold line (t ∷ ts) cs = only_where line (all_hold t ts) cs ∷ []

-- v is the variable of a loop with this trip
abbrev pub loop_ending : ℕ → List ℕ → Trip → Texts → List Statement
loop_ending line v trip t =
    if is_positive trip then assigned line v t.end ∷ []
    else if is_known trip then assigned line v t.first ∷ []
    else assigned line v t.first ∷ only_where line (at_least_one t.trip) (assigned line v t.end ∷ []) ∷ []

-- ---- behind all loops

abbrev pub last_texts : List (List ℕ) → List NormalLoop → LastForms → Texts
last_texts symbols round f = record {
  first = last_first_text symbols round f;
  trip = last_trip_text symbols round f;
  end = last_end_text symbols round f;
}

-- by the forms of the loop in the last turn of each loop round it, where these loops have a turn
abbrev pub ending_behind : List (List ℕ) → ℕ → List NormalLoop → NormalLoop → LastForms → List Statement
ending_behind symbols line round r f =
    where_all_hold line (tests_of symbols round) (loop_ending line r.variable f.trip (last_texts symbols round f))

abbrev pub with_last_forms :
    List (List ℕ) → ℕ → List NormalLoop → NormalLoop → Option LastForms → Option (List Statement)
with_last_forms symbols line round r None = None
with_last_forms symbols line round r (Some f) = Some (ending_behind symbols line round r f)

-- of a loop under these loops, where its last turn is known and its forms are within the limits
unfoldable pub after_statements : List (List ℕ) → ℕ → List NormalLoop → NormalLoop → Option (List Statement)
after_statements symbols line round r =
    if have_plain_trips round then with_last_forms symbols line round r (last_forms (length symbols) round r) else None
