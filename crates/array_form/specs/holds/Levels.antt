-- The loops of a statement from a level on.
use Rattle.std.specs.Prelude.{◌≡◌, ℕ, ◌<◌, ◌==◌, Bool, true, ◌&&◌, ◌||◌, List, length, map, drop, slice_index_or}
use Rattle.tree.specs.Plain.{Subscript}
use Rattle.meaning.specs.Reads.{names_in_subscript}
use Rattle.array_form.specs.forms.Loops as forms
use Rattle.array_form.specs.forms.Statements.{is_linear_subscript}
use Rattle.array_form.specs.holds.Surroundings.{counted_of}
use Rattle.array_form.specs.holds.View.{loop_names}
use Rattle.array_form.specs.declared.holds.loops.CountedLoop.{CountedLoop}
use Rattle.array_form.specs.declared.holds.loops.Surroundings.{Surroundings}

-- each of these is one of the loops
abbrev pub AreWithin : Surroundings → List CountedLoop → Type 0
AreWithin a ls = (k : ℕ) (l : CountedLoop) → k < length ls
    → forms.is_among (loop_names a.loops) (slice_index_or ls k l).var ≡ true

-- those from a place on, which counts from 0
abbrev pub loops_from_place : Surroundings → ℕ → List forms.FormLoop
loops_from_place a from = map (counted_of (length a.loops)) (drop from a.loops)

-- a subscript with one of the loops is linear, and has no other one
abbrev pub is_formed : forms.FormSurroundings → List forms.FormLoop → Subscript → Bool
is_formed a loops p =
    (length (forms.loops_among loops (names_in_subscript p)) == 0)
    || ((length (forms.loops_among loops (names_in_subscript p)) == 1) && is_linear_subscript a p)
