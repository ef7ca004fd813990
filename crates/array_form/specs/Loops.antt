-- Loops round a statement, as the program has them, and which of them stand in a text.
use Rattle.std.specs.Prelude.{◌≡◌, ℕ, ◌≤◌, ◌<◌, ◌^◌, nat_le, Bool, true, false, List, [], ◌∷◌, length, map, filter, All}
use Rattle.std.specs.List.{flat_map}
use Rattle.std.specs.Cmp.Lexicographic.{pointwise}
use Rattle.std.specs.Str.{bytes_eq}
use Rattle.subscripts.specs.Shapes.{IsForm}
use Rattle.tree.specs.Plain.{Subscript}
use Rattle.meaning.specs.Reads.{names_in_subscript}
use Rattle.array_form.specs.forms.Loops as forms
use Rattle.array_form.specs.holds.Surroundings.{counted_of}
use Rattle.array_form.specs.holds.View.{loop_names}
use Rattle.array_form.specs.declared.holds.loops.CountedLoop.{CountedLoop}
use Rattle.array_form.specs.declared.holds.loops.Surroundings.{Surroundings}

-- forms have places for seven loops, and places of 16 bits for the symbols and for a divided trip behind them
pub record HasPlaces (a : Surroundings) : Type 0 where
  pub loops : length a.loops ≤ 7
  pub symbols : length a.symbols < 2 ^ 16

-- its variable is that of a loop round the statement, and its trip a form under these loops
pub record IsLoopOf (a : Surroundings) (l : CountedLoop) : Type 0 where
  pub among : forms.is_among (loop_names a.loops) l.var ≡ true
  pub trip : IsForm (length a.loops) l.trip.top

abbrev pub AreLoopsOf : Surroundings → List CountedLoop → Type 0
AreLoopsOf a ls = All (IsLoopOf a) ls

-- as array forms have them
abbrev pub viewed : Surroundings → List CountedLoop → List forms.FormLoop
viewed a ls = map (counted_of (length a.loops)) ls

-- those whose variables are among the names of a text
abbrev pub standing_in : List CountedLoop → List (List ℕ) → List CountedLoop
standing_in ls names = filter (λ (l : CountedLoop). forms.is_among names l.var) ls

-- those that stand in subscripts, in the order of these
abbrev pub in_order : List CountedLoop → List Subscript → List CountedLoop
in_order ls ps = flat_map (λ p. standing_in ls (names_in_subscript p)) ps

abbrev pub has_one : List CountedLoop → Subscript → Bool
has_one ls p = nat_le (length (standing_in ls (names_in_subscript p))) 1

abbrev pub has_parts : List CountedLoop → List CountedLoop → Bool
has_parts ls ms = pointwise bytes_eq (loop_names (standing_in ls (loop_names ms))) (loop_names ms)

abbrev pub is_exchanged : List CountedLoop → List CountedLoop → Bool
is_exchanged (l ∷ m ∷ []) ms = pointwise bytes_eq (loop_names (m ∷ l ∷ [])) (loop_names ms)
is_exchanged _ ms = false
