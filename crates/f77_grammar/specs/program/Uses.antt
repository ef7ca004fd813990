-- How the names of a program stand in it, and what they are: variables, arrays, symbolic constants, functions (ANSI
-- X3.9-1978, sections 2.2, 4.1.2, 8.1, 8.4, 8.6 and 18.2).
use Rattle.std.specs.Prelude.{ℕ, zero, Bool, true, false, not, ◌&&◌, ◌||◌, Option, None, Some, is_some, List, [], ◌∷◌}
use Rattle.std.specs.Prelude.{◌++◌, map, length}
use Rattle.std.specs.Str.{bytes_eq}
use Rattle.std.specs.List.{list_any, filter, flat_map}
use Rattle.tree.specs.Plain.{Expression, Number, Logic, Named, Unary, Binary, Apply, Expressions, no_expressions}
use Rattle.tree.specs.Plain.{expression, Subscript, Only, Subscripts, no_subscripts, subscript, Reference, Item}
use Rattle.tree.specs.Plain.{Single, Constant, ImpliedDo, Items, no_items, item}
use Rattle.tree.specs.declared.ops.Kind.{Kind}
use Rattle.tree.specs.declared.ops.Kind.TheVariants.{Integer}
use Rattle.f77_grammar.specs.Statement77.{Entity, NamedConstant, Labelled, Statement77, Program, ImplicitNone, Declare}
use Rattle.f77_grammar.specs.Statement77.{Dimension, Constants, Assign, Go, Test, If, ElseIf, Else, EndIf, Do, EndDo}
use Rattle.f77_grammar.specs.Statement77.{Continue, Stop, Read, Print, End}
use Rattle.f77_grammar.specs.declared.directions.Direction.{Direction}
use Rattle.f77_grammar.specs.declared.directions.Direction.TheVariants.{Output, Input}
use Rattle.tree.specs.Functions.{function_named}
use Rattle.meaning.specs.Typed.{number_of_subscripts}

-- How a name stands: as the program's name; in a type statement; with bounds for so many dimensions; in PARAMETER,
-- before the `=`; in an expression, with as many subscripts or arguments in parentheses, 0 where it stands bare; so too
-- as what is assigned or read into; as a DO variable
pub data Role : Type 0 where
  Title : Role
  Typed : Kind → Role
  Bounded : ℕ → Role
  Defined : Role
  Valued : ℕ → Role
  Target : ℕ → Role
  Counter : Role

pub record Use77 : Type 0 where
  pub name : List ℕ
  pub role : Role

abbrev pub use77_of : List ℕ → Role → Use77
use77_of x r = record { name = x; role = r }

-- ---- the uses of names in a statement, in the order of the text

abbrev mutual
  pub uses77_in : Expression → List Use77
  uses77_in (Number n) = []
  uses77_in (Logic b) = []
  uses77_in (Named x ps) = use77_of x (Valued (number_of_subscripts ps)) ∷ uses77_in_subscripts ps
  uses77_in (Unary o a) = uses77_in a
  uses77_in (Binary o a b) = uses77_in a ++ uses77_in b
  uses77_in (Apply f es) = uses_in_arguments es
  uses77_in _ = []

  pub uses_in_arguments : Expressions → List Use77
  uses_in_arguments no_expressions = []
  uses_in_arguments (expression e es) = uses77_in e ++ uses_in_arguments es

  pub uses77_in_subscripts : Subscripts → List Use77
  uses77_in_subscripts no_subscripts = []
  uses77_in_subscripts (subscript p ps) = uses77_in_subscript p ++ uses77_in_subscripts ps

  pub uses77_in_subscript : Subscript → List Use77
  uses77_in_subscript (Only e) = uses77_in e
  uses77_in_subscript _ = []

abbrev pub target_uses : List ℕ → Subscripts → List Use77
target_uses x ps = use77_of x (Target (number_of_subscripts ps)) ∷ uses77_in_subscripts ps

abbrev pub input_uses : Expression → List Use77
input_uses (Named x ps) = target_uses x ps
input_uses e = uses77_in e

-- a DO variable with its three parameters
abbrev pub control_uses : List ℕ → Expression → Expression → Expression → List Use77
control_uses x a b c = use77_of x Counter ∷ uses77_in a ++ uses77_in b ++ uses77_in c

abbrev pub value_uses : Direction → Expression → List Use77
value_uses Output e = uses77_in e
value_uses Input e = input_uses e

abbrev mutual
  pub uses_in_item : Direction → Item → List Use77
  uses_in_item d (Single e) = value_uses d e
  uses_in_item d (Constant t) = []
  uses_in_item d (ImpliedDo is x a b c) = uses_in_items d is ++ control_uses x a b c

  pub uses_in_items : Direction → Items → List Use77
  uses_in_items d no_items = []
  uses_in_items d (item i is) = uses_in_item d i ++ uses_in_items d is

abbrev pub uses_in_bounds : List (Expression × Expression) → List Use77
uses_in_bounds [] = []
uses_in_bounds (b ∷ bs) = uses77_in b.0 ++ uses77_in b.1 ++ uses_in_bounds bs

-- a name without bounds has none in the list
abbrev pub bounded_uses : List ℕ → List (Expression × Expression) → List Use77
bounded_uses x [] = []
bounded_uses x (b ∷ bs) = use77_of x (Bounded (length (b ∷ bs))) ∷ uses_in_bounds (b ∷ bs)

abbrev pub dimensioned_uses : Entity → List Use77
dimensioned_uses e = bounded_uses e.name e.bounds

abbrev pub typed_uses : Kind → Entity → List Use77
typed_uses k e = use77_of e.name (Typed k) ∷ dimensioned_uses e

abbrev pub defined_uses : NamedConstant → List Use77
defined_uses d = use77_of d.name Defined ∷ uses77_in d.value

abbrev pub assignment_uses : Reference → Expression → List Use77
assignment_uses left e = target_uses left.name left.subscripts ++ uses77_in e

abbrev pub uses77_of : Statement77 → List Use77
uses77_of (Program x) = use77_of x Title ∷ []
uses77_of (Declare k es) = flat_map (typed_uses k) es
uses77_of (Dimension es) = flat_map dimensioned_uses es
uses77_of (Constants ds) = flat_map defined_uses ds
uses77_of (Assign left e) = assignment_uses left e
uses77_of (Test c s) = uses77_in c ++ uses77_of s
uses77_of (If c) = uses77_in c
uses77_of (ElseIf c) = uses77_in c
uses77_of (Do label x a b c) = control_uses x a b c
uses77_of (Read is) = uses_in_items Input is
uses77_of (Print is) = uses_in_items Output is
uses77_of ImplicitNone = []
uses77_of (Go n) = []
uses77_of Else = []
uses77_of EndIf = []
uses77_of EndDo = []
uses77_of Continue = []
uses77_of Stop = []
uses77_of End = []

abbrev pub uses_in_text : List Labelled → List Use77
uses_in_text text = flat_map (λ (x : Labelled). uses77_of x.statement) text

-- ---- roles

abbrev pub is_title_role : Role → Bool
is_title_role Title = true
is_title_role _ = false

abbrev pub is_typed : Role → Bool
is_typed (Typed k) = true
is_typed _ = false

abbrev pub is_bounded : Role → Bool
is_bounded (Bounded n) = true
is_bounded _ = false

abbrev pub is_defined : Role → Bool
is_defined Defined = true
is_defined _ = false

abbrev pub is_target : Role → Bool
is_target (Target n) = true
is_target _ = false

-- a variable or a symbolic constant alone stands so
abbrev pub is_bare_role : Role → Bool
is_bare_role (Valued zero) = true
is_bare_role (Target zero) = true
is_bare_role Counter = true
is_bare_role _ = false

-- the names that stand so
abbrev pub names_that : (Role → Bool) → List Use77 → List (List ℕ)
names_that test us = map (λ (u : Use77). u.name) (filter (λ (u : Use77). test u.role) us)

-- the name stands so
abbrev pub stands : (Role → Bool) → List Use77 → List ℕ → Bool
stands test us x = list_any (λ (u : Use77). test u.role && bytes_eq u.name x) us

-- ---- what a name is, by all its uses in the program

abbrev pub is_constant_name : List Use77 → List ℕ → Bool
is_constant_name us x = stands is_defined us x

-- a name that has a type or bounds, or stands bare, and is no symbolic constant
abbrev pub is_variable : List Use77 → List ℕ → Bool
is_variable us x =
    (stands is_typed us x || stands is_bounded us x || stands is_bare_role us x) && not (is_constant_name us x)

abbrev pub is_array_name : List Use77 → List ℕ → Bool
is_array_name us x = stands is_bounded us x && not (is_constant_name us x)

-- one of the seven names, where no variable or constant of the program hides it (section 18.2.3)
abbrev pub is_function : List Use77 → List ℕ → Bool
is_function us x = is_some (function_named x) && not (is_variable us x) && not (is_constant_name us x)

-- the name stands here for a function, which is called: a program's name by itself calls nothing
abbrev pub calls : List Use77 → Use77 → Bool
calls us u = not (is_title_role u.role) && is_function us u.name

abbrev pub type_in : Role → Bool → Option Kind → Option Kind
type_in (Typed k) true other = Some k
type_in _ _ other = other

-- the type that a type statement gives the name
abbrev pub type_of : List Use77 → List ℕ → Option Kind
type_of [] x = None
type_of (u ∷ us) x = type_in u.role (bytes_eq u.name x) (type_of us x)

abbrev pub or_integer : Option Kind → Kind
or_integer None = Integer
or_integer (Some k) = k

abbrev pub kind_of_name : List Use77 → List ℕ → Kind
kind_of_name us x = or_integer (type_of us x)

abbrev pub dimensions_in : Role → Bool → ℕ → ℕ
dimensions_in (Bounded n) true other = n
dimensions_in _ _ other = other

-- how many dimensions a declaration gives the name, none for a scalar
abbrev pub dimensions_of_name : List Use77 → List ℕ → ℕ
dimensions_of_name [] x = 0
dimensions_of_name (u ∷ us) x = dimensions_in u.role (bytes_eq u.name x) (dimensions_of_name us x)
