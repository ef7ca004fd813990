-- What the code holds, as forms of statements.
use Rattle.std.specs.Prelude.{◌≡◌, Bool, true, false, Option, Some, None, List, [], ◌∷◌}
use Rattle.tree.specs.OperatorTable.{Sign, Minus}
use Rattle.f90_grammar.specs.Forms as forms
use Rattle.f90_grammar.specs.Forms.{Form90}
use Rattle.f90_grammar.specs.Phrases.{value_of_digits}
use Rattle.f90_expressions.specs.Literals.{value_in}
use Rattle.f90_expressions.specs.Reading.{IsMadeOf}
use Rattle.f90_statement.specs.items.Reading.{IsListOf}
use Rattle.f90_statement.specs.items.parts.Bounds.{AreBoundsOf}
use Rattle.f90_statement.specs.declared.nodes.Bound.{Bound}
use Rattle.f90_statement.specs.declared.nodes.Dimension.{Dimension}
use Rattle.f90_statement.specs.declared.nodes.Dimension.TheVariants.{Upper, Both, Deferred}
use Rattle.f90_statement.specs.declared.nodes.Entity.{Entity}
use Rattle.f90_statement.specs.declared.nodes.Action.{Action}
use Rattle.f90_statement.specs.declared.nodes.Action.TheVariants.{Assign, Go, Continue, Stop, Read, Print}
use Rattle.f90_statement.specs.declared.nodes.Statement.{Statement}
use Rattle.f90_statement.specs.declared.nodes.Statement.TheVariants.{Program, ImplicitNone, Declare, Act, Label}
use Rattle.f90_statement.specs.declared.nodes.Statement.TheVariants.{Where, Test, If, ElseIf, Else, EndIf, Do, EndDo}
use Rattle.f90_statement.specs.declared.nodes.Statement.TheVariants.{Allocate, Deallocate, End, EndProgram}

-- each is of the one at its place
abbrev pub AreOf : {A B : Type 0} → (A → B → Type 0) → List A → List B → Type 0
AreOf is [] [] = Unit {0}
AreOf is (x ∷ xs) (y ∷ ys) = is x y × AreOf is xs ys
AreOf is _ _ = ⊥

abbrev pub is_minus : Option Sign → Bool
is_minus (Some Minus) = true
is_minus s = false

pub record IsBoundOf (k : Bound) (b : forms.Bound90) : Type 0 where
  pub is_negative : k.is_negative ≡ is_minus b.sign
  pub magnitude : k.magnitude ≡ value_in b.digits

abbrev pub IsDimensionOf : Dimension → forms.Dimension → Type 0
IsDimensionOf (Upper k) (forms.Upper b) = IsBoundOf k b
IsDimensionOf (Both k l) (forms.Both a b) = IsBoundOf k a × IsBoundOf l b
IsDimensionOf Deferred forms.Deferred = Unit {0}
IsDimensionOf _ _ = ⊥

pub record IsEntityOf (k : Entity) (e : forms.EntityForm90) : Type 0 where
  pub name : k.name ≡ e.name
  pub dimensions : AreOf IsDimensionOf k.dimensions e.dimensions

abbrev pub IsActionOf : Action → Form90 → Type 0
IsActionOf (Assign k m) (forms.Assign l r) = IsMadeOf k l × IsMadeOf m r
IsActionOf (Go n) (forms.Go label) = n ≡ value_of_digits label
IsActionOf Continue (forms.Continue []) = Unit {0}
IsActionOf Stop forms.Stop = Unit {0}
IsActionOf (Read (Some list)) (forms.Read is) = IsListOf list is
IsActionOf (Read None) forms.ReadNothing = Unit {0}
IsActionOf (Print (Some list)) (forms.Print is) = IsListOf list is
IsActionOf (Print None) forms.PrintNothing = Unit {0}
IsActionOf _ _ = ⊥

abbrev pub IsStatementOf : Statement → Form90 → Type 0
IsStatementOf (Program x) (forms.Program y) = x ≡ y
IsStatementOf ImplicitNone forms.ImplicitNone = Unit {0}
IsStatementOf (Declare k a es) (forms.Declare l b ds) = (k ≡ l) × (a ≡ b) × AreOf IsEntityOf es ds
IsStatementOf (Act a) f = IsActionOf a f
IsStatementOf (Label n) (forms.Continue (d ∷ ds)) = n ≡ value_of_digits (d ∷ ds)
IsStatementOf (Where e k m) (forms.Where p l r) = IsMadeOf e p × IsMadeOf k l × IsMadeOf m r
IsStatementOf (Test e a) (forms.Test p f) = IsMadeOf e p × IsActionOf a f
IsStatementOf (If e) (forms.If p) = IsMadeOf e p
IsStatementOf (ElseIf e) (forms.ElseIf p) = IsMadeOf e p
IsStatementOf Else forms.Else = Unit {0}
IsStatementOf EndIf forms.EndIf = Unit {0}
IsStatementOf (Do x k) (forms.Do y a b c) = (x ≡ y) × AreBoundsOf k a b c
IsStatementOf EndDo forms.EndDo = Unit {0}
IsStatementOf (Allocate x es) (forms.Allocate y ps) = (x ≡ y) × AreOf IsMadeOf es ps
IsStatementOf (Deallocate x) (forms.Deallocate y) = x ≡ y
IsStatementOf End forms.End = Unit {0}
IsStatementOf (EndProgram x) (forms.EndProgram y) = x ≡ y
IsStatementOf _ _ = ⊥
