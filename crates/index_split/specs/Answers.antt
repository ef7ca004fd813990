-- What becomes of each loop that stands in no nest.
use Rattle.std.specs.Prelude.{◌≡◌, ◌≤◌, ⊤, ℕ, ℤ, Option, Some, None, List, [], ◌∷◌, ◌++◌, Contains, length}
use Rattle.find_nests.specs.Found.{Found, InNest, Kept, found_in}
use Rattle.linear_forms.specs.Affines.{IsFound}
use Rattle.linear_forms.specs.Linear.{form_of}
use Rattle.meaning.specs.Dialect.{fortran77}
use Rattle.tree.specs.declared.width.Width.TheVariants.{Wide}
use Rattle.meaning.specs.Profile77.{IsProgram77}
use Rattle.nest.specs.Plain.{Loop, Nest}
use Rattle.normal_loops.specs.Normalised.{normalised}
use Rattle.subscripts.specs.declared.affine.Affine.{Affine}
use Rattle.tree.specs.Plain.{Program}
use Rattle.index_split.specs.Cuts.{outermost}
use Rattle.index_split.specs.Pieces.{all_bounds}
use Rattle.index_split.specs.Points.{AreCutPoints, IsConsidered}
use Rattle.index_split.specs.declared.answers.Answer.{Answer}
use Rattle.index_split.specs.declared.answers.Answer.TheVariants.{Cut, Outer, Whole}
use Rattle.index_split.specs.declared.pieces.Bounds.{Bounds}

-- a loop is cut at no more points
abbrev pub most_points : ℕ
most_points = 16

pub record AreUsed (points : List ℕ) : Type 0 where
  pub some : 1 ≤ length points
  pub few : length points ≤ most_points

abbrev pub whole_or : List (List ℕ) → ℤ → Option (List Bounds) → Answer
whole_or symbols step None = Whole
whole_or symbols step (Some bs) = Cut (record { symbols = symbols; bounds = bs; step = step })

-- into pieces that end with these turns, where the first value has this form; whole where a bound has none
abbrev pub cut_by : List (List ℕ) → ℤ → Option Affine → List ℕ → Answer
cut_by symbols step None ends = Whole
cut_by symbols step (Some a) ends = whole_or symbols step (all_bounds a step 0 ends)

-- the loop of the nest is cut so
pub record IsCutAs (n : Nest) (l : Loop) (ends : List ℕ) (a : Answer) : Type 0 where
  pub first : Option Affine
  pub form : IsFound 0 (form_of [] n.symbols l.first) first
  pub is : a ≡ cut_by n.symbols l.step first ends

-- for a nest and the same one with loops from 1 by 1: the pieces end behind the points, and the last one with the last
-- turn; whole where there is no point, or where there are too many
pub record IsNestAnswer (n m : Nest) (a : Answer) : Type 0 where
  pub points : List ℕ
  pub are : AreCutPoints m points
  pub unused : (AreUsed points → ⊥) → a ≡ Whole
  pub used : (t : ℕ) (l : Loop) → AreUsed points → IsConsidered m t → outermost n.body ≡ Some l
      → IsCutAs n l (points ++ t ∷ []) a

-- the loops in a kept loop are looked at in turn
abbrev pub IsAnswerTo : Found → Answer → Type 0
IsAnswerTo (InNest n) a = (m : Nest) × (normalised n ≡ Some m) × IsNestAnswer n m a
IsAnswerTo (Kept line r) a = a ≡ Outer

abbrev pub AreAnswersTo : List Found → List Answer → Type 0
AreAnswersTo [] [] = ⊤
AreAnswersTo [] (a ∷ as') = ⊥
AreAnswersTo (f ∷ fs) [] = ⊥
AreAnswersTo (f ∷ fs) (a ∷ as') = IsAnswerTo f a × AreAnswersTo fs as'

-- found in some program of FORTRAN 77
pub record IsOfSource (f : Found) : Type 0 where
  pub program : Program
  pub profile : IsProgram77 (fortran77 Wide) program
  pub among : Contains (found_in program) f
