-- What a text of Fortran 90 is read as.
use Rattle.std.specs.Prelude.{◌≡◌, ◌==◌, ◌||◌, ℤ, pos, neg_ℤ, if◌then◌else◌, ℕ, Bool, true, false}
use Rattle.std.specs.Prelude.{Option, Some, None, List, [], ◌∷◌, length, map}
use Rattle.std.specs.Str.Lines.{lines}
use Rattle.tree.specs.Plain as tree
use Rattle.tree.specs.Plain.{Declaration, Extent, Given, Later, Statement, Arms, Block}
use Rattle.tree.specs.declared.ops.Kind.{Kind}
use Rattle.tree.specs.OperatorTable.{Sign, Minus}
use Rattle.std.specs.Str.{bytes_eq}
use Rattle.std.specs.List.{list_any}
use Rattle.tree.specs.declared.stmts.Mark.{Mark}
use Rattle.tree.specs.Functions.{intrinsic_named}
use Rattle.f90_grammar.specs.FreeForm.{FreeStatement, AreStatements}
use Rattle.f90_grammar.specs.Words.{Word90, HasWords}
use Rattle.f90_grammar.specs.Phrases.{value_of_digits}
use Rattle.f90_grammar.specs.Forms as forms
use Rattle.f90_grammar.specs.Forms.{Form90, IsWritten90}
use Rattle.f90_grammar.specs.Blocks.{Placed}
use Rattle.tree.specs.declared.functions.Intrinsic.{Intrinsic}

-- the mark that a statement takes is the last one since the assignment before it
abbrev pub takes_mark : Form90 → Bool
takes_mark (forms.Assign l r) = true
takes_mark (forms.Where m l r) = true
takes_mark (forms.Test p f) = takes_mark f
takes_mark f = false

abbrev pub last_mark : Option Mark → List Mark → Option Mark
last_mark m [] = m
last_mark m (n ∷ ns) = last_mark (Some n) ns

abbrev pub if_taken : Bool → Option Mark → Option Mark
if_taken true m = m
if_taken false m = None

abbrev pub mark_left_over : Bool → Option Mark → Option Mark
mark_left_over true m = None
mark_left_over false m = m

-- each statement of the text has its form; `pending` is the mark so far
abbrev pub HaveForms : Option Mark → List FreeStatement → List Placed → Type 0
HaveForms pending [] [] = Unit {0}
HaveForms pending (s ∷ ss) (p ∷ ps) =
    (p.line ≡ s.line)
    × (p.mark ≡ if_taken (takes_mark p.form) (last_mark pending s.ahead))
    × ((ws : List Word90) × HasWords s.chars ws × IsWritten90 p.form ws)
    × HaveForms (last_mark (mark_left_over (takes_mark p.form) (last_mark pending s.ahead)) s.within) ss ps
HaveForms pending _ _ = ⊥

-- The statements of a text: its lines are those of the statements, and each of these has a form
pub record AreStatementsOf (text : List ℕ) (ps : List Placed) : Type 0 where
  pub statements : List FreeStatement
  pub of_lines : AreStatements 1 (lines text) statements
  pub have_forms : HaveForms None statements ps

-- ---- names and labels

abbrev pub signed_value : Option Sign → ℕ → ℤ
signed_value (Some Minus) n = neg_ℤ (pos n)
signed_value s n = pos n

abbrev pub declares : List Declaration → List ℕ → Bool
declares ds x = list_any (λ (d : Declaration). bytes_eq d.name x) ds

abbrev mutual
  pub names_label : ℕ → Statement → Bool
  names_label n (tree.GoTo line m) = n == m
  names_label n (tree.If line arms other) = arms_name_label n arms || is_target_in other n
  names_label n (tree.Do line x a b c body) = is_target_in body n
  names_label n _ = false

  pub arms_name_label : ℕ → Arms → Bool
  arms_name_label n tree.no_arms = false
  arms_name_label n (tree.arm test body more) = is_target_in body n || arms_name_label n more

  -- a GO TO in the block names the label
  pub is_target_in : Block → ℕ → Bool
  is_target_in tree.no_statements n = false
  is_target_in (tree.statement c cs) n = names_label n c || is_target_in cs n

-- ---- declarations: each name with its kind and extent

abbrev pub bound_value : forms.Bound90 → ℤ
bound_value b = signed_value b.sign (value_of_digits b.digits)

abbrev pub dimension_bounds : forms.Dimension → ℤ × ℤ
dimension_bounds (forms.Upper b) = (pos 1, bound_value b)
dimension_bounds (forms.Both a b) = (bound_value a, bound_value b)
dimension_bounds forms.Deferred = (pos 1, pos 0)

abbrev pub extent_of_dimensions : Bool → List forms.Dimension → Extent
extent_of_dimensions true ds = Later (length ds)
extent_of_dimensions false ds = Given (map dimension_bounds ds)

abbrev pub entity_declaration : Kind → Bool → forms.EntityForm90 → Declaration
entity_declaration k a e = record { name = e.name; kind = k; extent = extent_of_dimensions a e.dimensions }

-- a name is a function where it is the name of one and no declared name
abbrev pub function_by : List Declaration → List ℕ → Option Intrinsic
function_by ds x = if declares ds x then None else intrinsic_named x
