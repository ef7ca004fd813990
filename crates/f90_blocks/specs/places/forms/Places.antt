-- Statements with their lines and marks.
use Rattle.std.specs.Prelude.{◌≡◌, ◌++◌, Option, Some, None, List, Result, Ok, Err}
use Rattle.tree.specs.declared.lists.Memory.{Memory}
use Rattle.tree.specs.declared.stmts.Mark.{Mark}
use Rattle.f90_grammar.specs.Blocks as grammar
use Rattle.f90_grammar.specs.Forms.{Form90}
use Rattle.f90_grammar.specs.FreeForm.{FreeStatement}
use Rattle.f90_grammar.specs.Reading.{HaveForms, takes_mark, last_mark, if_taken, mark_left_over}
use Rattle.f90_statement.specs.Views.{AreOf, IsStatementOf}
use Rattle.f90_blocks.specs.declared.places.forms.placing.Placed.{Placed}

pub record IsPlacedOf (k : Placed) (p : grammar.Placed) : Type 0 where
  pub line : k.line ≡ p.line
  pub mark : k.mark ≡ p.mark
  pub is : IsStatementOf k.statement p.form

-- the statement, which has this form, as it stands behind such a mark; and the mark behind it
pub record IsPlacedNext (s : FreeStatement) (pending : Option Mark) (f : Form90) (k : Placed) (next : Option Mark)
    : Type 0 where
  pub line : k.line ≡ s.line
  pub mark : k.mark ≡ if_taken (takes_mark f) (last_mark pending s.ahead)
  pub is : IsStatementOf k.statement f
  pub behind : next ≡ last_mark (mark_left_over (takes_mark f) (last_mark pending s.ahead)) s.within

-- the statements have these forms, lines and marks
pub record HavePlaces (ss : List FreeStatement) (ks : List Placed) : Type 0 where
  pub placed : List grammar.Placed
  pub are : AreOf IsPlacedOf ks placed
  pub have : HaveForms None ss placed

-- or one has none, unless memory ran out
abbrev pub Places : List FreeStatement → Result (Option (List Placed)) Memory → Type 0
Places ss (Ok (Some ks)) = HavePlaces ss ks
Places ss (Ok None) = (ps : List grammar.Placed) → HaveForms None ss ps → ⊥
Places ss (Err e) = Unit {0}

-- so far, behind the statements of which these are left
pub record HavePlacesSoFar (all left : List FreeStatement) (ks : List Placed) (pending : Option Mark) : Type 0 where
  pub placed : List grammar.Placed
  pub are : AreOf IsPlacedOf ks placed
  pub on : (rest : List grammar.Placed) → HaveForms pending left rest → HaveForms None all (placed ++ rest)
