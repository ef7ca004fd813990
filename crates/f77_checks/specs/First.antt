-- Which finding in a program's text is the first, said of its statements.
use Rattle.std.specs.Prelude.{◌≡◌, ℕ, ◌≤◌, ◌==◌, Bool, true, ◌&&◌, Some, List, [], ◌∷◌, Contains}
use Rattle.std.specs.List.{list_any, find, AllByRecursion}
use Rattle.tree.specs.Causes.{number_of_cause, word_of_cause, refusal_at}
use Rattle.tree.specs.declared.refusals.Cause.{Cause}
use Rattle.tree.specs.declared.refusals.Cause.TheVariants.{NoEnd}
use Rattle.tree.specs.declared.refusals.Refusal.{Refusal}
use Rattle.meaning.specs.Dialect.{fortran77}
use Rattle.tree.specs.declared.width.Width.{Width}
use Rattle.f77_grammar.specs.Statement77.{Labelled}
use Rattle.f77_grammar.specs.program.Text.{Place77, places}
use Rattle.f77_grammar.specs.program.Program77.{program_causes, holds_in, findings}

-- a cause with the number holds at a place
abbrev pub has_number : (width : Width) → List Labelled → ℕ → Place77 → Bool
has_number width text n p = list_any (λ c. number_of_cause c == n && holds_in (fortran77 width) text c p) program_causes

-- The refusal is the finding of a cause at a place. No finding has a lesser number; the place is the first at which a
-- cause with the refusal's number holds; and no such cause with a lesser word holds there.
pub record IsFoundAtPlace (width : Width) (text : List Labelled) (r : Refusal) : Type 0 where
  pub cause : Cause
  pub place : Place77
  pub is : r ≡ refusal_at cause place.here.line
  pub holds : holds_in (fortran77 width) text cause place ≡ true
  pub found_it : Contains (findings (fortran77 width) text) r
  pub least_number : AllByRecursion (λ (other : Refusal). r.number ≤ other.number) (findings (fortran77 width) text)
  pub first_place : find (has_number width text r.number) (places text) ≡ Some place
  pub least_word : (c : Cause) → number_of_cause c ≡ r.number → holds_in (fortran77 width) text c place ≡ true
      → r.word ≤ word_of_cause c

-- a text without statements has no END, at line 0
abbrev pub IsFoundFirst : (width : Width) → List Labelled → Refusal → Type 0
IsFoundFirst width [] r = r ≡ refusal_at NoEnd 0
IsFoundFirst width (x ∷ xs) r = IsFoundAtPlace width (x ∷ xs) r
