-- What stands in a statement of Fortran 90: its expressions, the variables that it stores into, its literals, and how
-- deep its expressions are.
use Rattle.std.specs.Prelude.{ℕ, nat_lt, Bool, false, ◌||◌, Option, None, Some, List, [], ◌∷◌, ◌++◌}
use Rattle.std.specs.List.{list_any, AllByRecursion}
use Rattle.tree.specs.Limits.{greatest_literal, expression_depth90}
use Rattle.tree.specs.declared.functions.Intrinsic.{Intrinsic}
use Rattle.f90_grammar.specs.Phrases.{Phrase90, Literal, Truth, Name, Listed, Paren, Signed, Joined, Values, Looped}
use Rattle.f90_grammar.specs.Phrases.{ListPart, Value, Range, Strided, ListParts, One, Then, Phrases90, Turn, Innermost}
use Rattle.f90_grammar.specs.Phrases.{Round}
use Rattle.f90_grammar.specs.Phrases as phrases
use Rattle.f90_grammar.specs.Phrases.{phrase_depth90, value_of_digits, SuitsCalls, PartsSuitCalls}
use Rattle.f90_grammar.specs.Items.{ItemPhrase90, Of, Text, Loop, ItemPhrases90, Sole, More, Direction, Input, Output}
use Rattle.f90_grammar.specs.Items.{items_depth90}
use Rattle.f90_grammar.specs.Forms as forms
use Rattle.f90_grammar.specs.Forms.{Form90}

-- ---- expressions and variables

abbrev pub step_expressions : Option Phrase90 → List Phrase90
step_expressions None = []
step_expressions (Some p) = p ∷ []

abbrev mutual
  -- with the parameters of implied DO lists; what is read into is no expression
  pub item_expressions : Direction → ItemPhrase90 → List Phrase90
  item_expressions Output (Of p) = p ∷ []
  item_expressions Input (Of p) = []
  item_expressions d (Text t) = []
  item_expressions d (Loop is x a b c) = items_expressions d is ++ (a ∷ (b ∷ step_expressions c))

  pub items_expressions : Direction → ItemPhrases90 → List Phrase90
  items_expressions d (Sole i) = item_expressions d i
  items_expressions d (More is i) = items_expressions d is ++ item_expressions d i

abbrev mutual
  pub item_variables : ItemPhrase90 → List Phrase90
  item_variables (Of p) = p ∷ []
  item_variables (Text t) = []
  item_variables (Loop is x a b c) = items_variables is

  pub items_variables : ItemPhrases90 → List Phrase90
  items_variables (Sole i) = item_variables i
  items_variables (More is i) = items_variables is ++ item_variables i

-- the expressions whose values a statement takes
abbrev pub expressions_of : Form90 → List Phrase90
expressions_of (forms.Assign l r) = r ∷ []
expressions_of (forms.Where m l r) = m ∷ (r ∷ [])
expressions_of (forms.Test p f) = p ∷ expressions_of f
expressions_of (forms.If p) = p ∷ []
expressions_of (forms.ElseIf p) = p ∷ []
expressions_of (forms.Do x a b c) = a ∷ (b ∷ step_expressions c)
expressions_of (forms.Read is) = items_expressions Input is
expressions_of (forms.Print is) = items_expressions Output is
expressions_of (forms.Allocate x es) = es
expressions_of f = []

-- the variables, elements, arrays and sections that a statement stores into
abbrev pub stored_variables_of : Form90 → List Phrase90
stored_variables_of (forms.Assign l r) = l ∷ []
stored_variables_of (forms.Where m l r) = l ∷ []
stored_variables_of (forms.Test p f) = stored_variables_of f
stored_variables_of (forms.Read is) = items_variables is
stored_variables_of f = []

-- ---- calls

-- a name with a list that is stored into is no call
abbrev pub VariableSuitsCalls : (List ℕ → Option Intrinsic) → Phrase90 → Type 0
VariableSuitsCalls function (Listed x ps) = PartsSuitCalls function ps
VariableSuitsCalls function p = Unit {0}

-- each call in the statement has arguments that may stand there, where `function` says which names are functions
abbrev pub SuitsCallsIn : (List ℕ → Option Intrinsic) → Form90 → Type 0
SuitsCallsIn function f =
    AllByRecursion (SuitsCalls function) (expressions_of f)
    × AllByRecursion (VariableSuitsCalls function) (stored_variables_of f)

-- ---- literals

abbrev pub is_wide_literal : List ℕ → Bool
is_wide_literal digits = nat_lt greatest_literal (value_of_digits digits)

abbrev mutual
  pub has_wide_literal90 : Phrase90 → Bool
  has_wide_literal90 (Literal t) = is_wide_literal t
  has_wide_literal90 (Truth b) = false
  has_wide_literal90 (Name x) = false
  has_wide_literal90 (Listed x ps) = parts_have_wide_literal ps
  has_wide_literal90 (Paren p) = has_wide_literal90 p
  has_wide_literal90 (Signed s p) = has_wide_literal90 p
  has_wide_literal90 (Joined o a b) = has_wide_literal90 a || has_wide_literal90 b
  has_wide_literal90 (Values ps) = values_have_wide_literal ps
  has_wide_literal90 (Looped t) = turn_has_wide_literal t

  pub part_has_wide_literal : ListPart → Bool
  part_has_wide_literal (Value p) = has_wide_literal90 p
  part_has_wide_literal (Range a b) = has_wide_literal90 a || has_wide_literal90 b
  part_has_wide_literal (Strided a b c) = has_wide_literal90 a || (has_wide_literal90 b || has_wide_literal90 c)

  pub parts_have_wide_literal : ListParts → Bool
  parts_have_wide_literal (One p) = part_has_wide_literal p
  parts_have_wide_literal (Then ps p) = parts_have_wide_literal ps || part_has_wide_literal p

  pub values_have_wide_literal : Phrases90 → Bool
  values_have_wide_literal (phrases.Sole p) = has_wide_literal90 p
  values_have_wide_literal (phrases.More ps p) = values_have_wide_literal ps || has_wide_literal90 p

  pub turn_has_wide_literal : Turn → Bool
  turn_has_wide_literal (Innermost p x a b) = has_wide_literal90 p || (has_wide_literal90 a || has_wide_literal90 b)
  turn_has_wide_literal (Round t x a b) = turn_has_wide_literal t || (has_wide_literal90 a || has_wide_literal90 b)

abbrev pub is_wide_dimension : forms.Dimension → Bool
is_wide_dimension (forms.Upper b) = is_wide_literal b.digits
is_wide_dimension (forms.Both a b) = is_wide_literal a.digits || is_wide_literal b.digits
is_wide_dimension forms.Deferred = false

-- a bound is a literal too
abbrev pub is_declared_wide : Form90 → Bool
is_declared_wide (forms.Declare k a es) =
    list_any (λ (e : forms.EntityForm90). list_any is_wide_dimension e.dimensions) es
is_declared_wide f = false

-- a literal of the statement is too great
abbrev pub has_wide_literal_in : Form90 → Bool
has_wide_literal_in f = is_declared_wide f || list_any has_wide_literal90 (expressions_of f ++ stored_variables_of f)

-- ---- depth

abbrev pub is_deep : Phrase90 → Bool
is_deep p = nat_lt expression_depth90 (phrase_depth90 p)

-- the parentheses of an implied DO list count for what stands in it
abbrev pub has_deep_list : Form90 → Bool
has_deep_list (forms.Test p f) = has_deep_list f
has_deep_list (forms.Read is) = nat_lt expression_depth90 (items_depth90 is)
has_deep_list (forms.Print is) = nat_lt expression_depth90 (items_depth90 is)
has_deep_list f = false

-- an expression of the statement is too deep
abbrev pub has_deep_expression : Form90 → Bool
has_deep_expression f = has_deep_list f || list_any is_deep (expressions_of f ++ stored_variables_of f)
