-- What the answer of a check says of the text.
use Rattle.std.specs.Prelude.{◌≡◌, None, Some, List, [], Result, Ok, Err}
use Rattle.std.specs.List.{list_any, find, AllByRecursion}
use Rattle.tree.specs.Causes.{refusal_at}
use Rattle.tree.specs.declared.refusals.Cause.{Cause}
use Rattle.tree.specs.declared.refusals.Refusal.{Refusal}
use Rattle.tree.specs.declared.refusals.Refused.{Refused}
use Rattle.tree.specs.declared.refusals.Refused.TheVariants as refused
use Rattle.meaning.specs.Dialect.{fortran77}
use Rattle.tree.specs.declared.width.Width.{Width}
use Rattle.f77_grammar.specs.Statement77.{Labelled}
use Rattle.f77_grammar.specs.program.Text.{Place77, places}
use Rattle.f77_grammar.specs.program.Program77.{holds_in, findings}
use Rattle.f77_checks.specs.First.{IsFoundFirst}

-- P of the refusal, if that is the cause
abbrev pub IfRefusal : Refused → (Refusal → Type 0) → Type 0
IfRefusal (refused.Refusal r) P = P r
IfRefusal refused.Memory P = Unit {0}

-- the cause holds nowhere in the text
abbrev pub IsNowhere : (width : Width) → List Labelled → Cause → Type 0
IsNowhere width text c = find (holds_in (fortran77 width) text c) (places text) ≡ None

-- of these causes: the refusal is the finding of the first that holds at the first place at which one holds
pub record IsFirstAmong (width : Width) (causes : List Cause) (text : List Labelled) (r : Refusal) : Type 0 where
  pub cause : Cause
  pub place : Place77
  pub first_place : find (λ p. list_any (λ c. holds_in (fortran77 width) text c p) causes) (places text) ≡ Some place
  pub first_cause : find (λ c. holds_in (fortran77 width) text c place) causes ≡ Some cause
  pub is : r ≡ refusal_at cause place.here.line

-- none of the causes holds, or the first place at which one does is refused
abbrev pub Passes : (width : Width) → List Cause → List Labelled → Result (Unit {0}) Refused → Type 0
Passes width causes text (Ok u) = AllByRecursion (IsNowhere width text) causes
Passes width causes text (Err e) = IfRefusal e (IsFirstAmong width causes text)

-- nothing is found, or what is found first is refused
abbrev pub IsChecked : (width : Width) → List Labelled → Result (Unit {0}) Refused → Type 0
IsChecked width text (Ok u) = findings (fortran77 width) text ≡ []
IsChecked width text (Err e) = IfRefusal e (IsFoundFirst width text)
