-- Statements of one of several groups.
use Rattle.std.proofs.Common.{◌≡◌, Bool, true, false, ◌||◌, List, [], ◌∷◌, refl, subst, Result, Ok, Err}
use Rattle.std.specs.Prelude.{IsTrue}
use Rattle.f90_grammar.specs.Forms as forms
use Rattle.f90_grammar.specs.Forms.{Form90, IsWritten90}
use Rattle.f90_grammar.specs.Words.{Word90}
use Rattle.f90_laws.proofs.unique.Forms.{one_form}
use Rattle.reading.specs.declared.stops.Stop.{Stop}
use Rattle.reading.specs.declared.stops.Stop.TheVariants.{Syntax, Memory}
use Rattle.f90_statement.specs.Kinds.{either, is_any}
use Rattle.f90_statement.specs.Reading.{IsForm, Reads, ReadsStatement, IsStatement, Given}
use Rattle.f90_statement.specs.Views.{IsStatementOf}
use Rattle.f90_statement.specs.declared.nodes.Statement.{Statement}

left : (a b : Bool) → a ≡ true → (a || b) ≡ true
left true b h = refl
left false b h = absurd (cc)

right : (a b : Bool) → b ≡ true → (a || b) ≡ true
right true b h = refl
right false b h = h

neither : (a b : Bool) → (a ≡ true → ⊥) → (b ≡ true → ⊥) → (a || b) ≡ true → ⊥
neither true b h k t = h refl
neither false b h k t = k t

module _ {S : Type 0} (is : S → Form90 → Type 0) (k g : Form90 → Bool) where
  pub of_first : (ws : List Word90) (made : S) → IsForm is k ws made → IsForm is (either k g) ws made
  of_first ws made h = record { form = h.form; is_of = h.is_of; written = h.written; among = left (k h.form) (g h.form) h.among }

  pub of_second : (ws : List Word90) (made : S) → IsForm is g ws made → IsForm is (either k g) ws made
  of_second ws made h = record { form = h.form; is_of = h.is_of; written = h.written; among = right (k h.form) (g h.form) h.among }

  pub later : (ws : List Word90) (r : Result S Stop) → Reads is k ws (Err Syntax) → Reads is g ws r → Reads is (either k g) ws r
  later ws (Ok made) h m = of_second ws made m
  later ws (Err Syntax) h m = λ f w t. neither (k f) (g f) (h f w) (m f w) t
  later ws (Err Memory) h m = tt

-- ---- all

any_is : (f : Form90) → IsTrue (is_any f)
any_is (forms.Program x) = refl
any_is forms.ImplicitNone = refl
any_is (forms.Declare k a es) = refl
any_is (forms.Assign l r) = refl
any_is (forms.Where m l r) = refl
any_is (forms.Test p f) = refl
any_is (forms.If p) = refl
any_is (forms.ElseIf p) = refl
any_is forms.Else = refl
any_is forms.EndIf = refl
any_is (forms.Do x a b c) = refl
any_is forms.EndDo = refl
any_is (forms.Continue []) = refl
any_is (forms.Continue (d ∷ ds)) = refl
any_is (forms.Go label) = refl
any_is forms.Stop = refl
any_is (forms.Read is) = refl
any_is forms.ReadNothing = refl
any_is (forms.Print is) = refl
any_is forms.PrintNothing = refl
any_is (forms.Allocate x es) = refl
any_is (forms.Deallocate x) = refl
any_is forms.End = refl
any_is (forms.EndProgram x) = refl

pub whole_found : (ws : List Word90) (s : Statement) → IsForm IsStatementOf is_any ws s → IsStatement ws s
whole_found ws s h = record { form = h.form; is_of = h.is_of; written = h.written }

pub whole_only : (ws : List Word90) (r : Result Statement Stop) → ReadsStatement is_any ws r → (f : Form90) → IsWritten90 f ws → Given r (λ s. IsStatementOf s f)
whole_only ws (Ok s) h f w = subst (λ (g : Form90). IsStatementOf s g) (one_form h.form f ws h.written w) h.is_of
whole_only ws (Err Syntax) h f w = h f w (any_is f)
whole_only ws (Err Memory) h f w = tt

pub ruleset whole = (whole_found, whole_only)
