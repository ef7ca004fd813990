-- What the parts of a program become in its tree: symbolic constants are replaced by their values, calls are told from
-- elements, a logical IF becomes a block IF of one arm, labels stand only where a GO TO names them, and variables are
-- declared in byte order.
use Rattle.std.specs.Prelude.{Result, Ok, Err, ℕ, suc, ◌==◌, ℤ, pos, negsuc, Bool, true, false, Option, None, Some}
use Rattle.std.specs.Prelude.{if◌then◌else◌, List, [], ◌∷◌, map}
use Rattle.std.specs.List.{list_any, filter, flat_map, fold}
use Rattle.std.specs.Cmp.Lexicographic.{slice_cmp}
use Rattle.std.specs.Ordering.{nat_cmp, match_ordering}
use Rattle.tree.specs.Plain.{Expression, Number, Logic, Named, Unary, Binary, Apply, Expressions, no_expressions}
use Rattle.tree.specs.Plain.{expression, Subscript, Only, Subscripts, no_subscripts, subscript, Reference, Item}
use Rattle.tree.specs.Plain.{Single, Constant, ImpliedDo, Items, no_items, item}
use Rattle.tree.specs.Plain as tree
use Rattle.tree.specs.declared.ops.Op.TheVariants.{Neg}
use Rattle.tree.specs.declared.functions.Fun.{Fun}
use Rattle.tree.specs.declared.ops.Fault.{Fault}
use Rattle.tree.specs.declared.ops.Value.{Value}
use Rattle.tree.specs.declared.ops.Value.TheVariants.{Int, Truth}
use Rattle.meaning.specs.Dialect.{Dialect}
use Rattle.meaning.specs.Store.{Store}
use Rattle.f77_grammar.specs.Statement77.{Labelled, Statement77, Assign, Go, Test, If, Stop, Read, Print}
use Rattle.f77_grammar.specs.declared.directions.Direction.{Direction}
use Rattle.f77_grammar.specs.declared.directions.Direction.TheVariants.{Output, Input}
use Rattle.tree.specs.Functions.{function_named}
use Rattle.f77_grammar.specs.program.Text.{action}
use Rattle.f77_grammar.specs.program.Uses.{Use77, is_variable, is_constant_name, is_array_name, kind_of_name}
use Rattle.f77_grammar.specs.program.Limits.{dimension_of, bounds_of_name}
use Rattle.reading.specs.Signs.{argument_of}

-- ---- expressions

-- a literal isn't negative: a negative value is the negative of the literal of its size
abbrev pub literal : Value → Expression
literal (Int (pos n)) = Number (pos n)
literal (Int (negsuc n)) = Unary Neg (Number (pos (suc n)))
literal (Truth b) = Logic b

abbrev pub arguments77_of : Subscripts → Expressions
arguments77_of no_subscripts = no_expressions
arguments77_of (subscript p ps) = expression (argument_of p) (arguments77_of ps)

abbrev pub call_of : Option Fun → List ℕ → Subscripts → Expression
call_of None x ps = Named x ps
call_of (Some f) x ps = Apply f (arguments77_of ps)

abbrev pub element_or_call : Bool → List ℕ → Subscripts → Expression
element_or_call true x ps = Named x ps
element_or_call false x ps = call_of (function_named x) x ps

abbrev pub value_or_name : Bool → List ℕ → Store → Expression
value_or_name true x s = literal (s.held (record { name = x; subscripts = [] }))
value_or_name false x s = Named x no_subscripts

-- by all uses `us` of names in the program, and the values `s` of its symbolic constants
module _ (us : List Use77) (s : Store) where
  abbrev pub named_tree : List ℕ → Subscripts → Expression
  named_tree x no_subscripts = value_or_name (is_constant_name us x) x s
  named_tree x (subscript p ps) = element_or_call (is_array_name us x) x (subscript p ps)

  abbrev mutual
    pub resolved : Expression → Expression
    resolved (Number n) = Number n
    resolved (Logic b) = Logic b
    resolved (Named x ps) = named_tree x (resolved_subscripts ps)
    resolved (Unary o a) = Unary o (resolved a)
    resolved (Binary o a b) = Binary o (resolved a) (resolved b)
    resolved (Apply f es) = Apply f (resolved_arguments es)
    resolved e = e

    pub resolved_arguments : Expressions → Expressions
    resolved_arguments no_expressions = no_expressions
    resolved_arguments (expression e es) = expression (resolved e) (resolved_arguments es)

    pub resolved_subscripts : Subscripts → Subscripts
    resolved_subscripts no_subscripts = no_subscripts
    resolved_subscripts (subscript p ps) = subscript (resolved_subscript p) (resolved_subscripts ps)

    pub resolved_subscript : Subscript → Subscript
    resolved_subscript (Only e) = Only (resolved e)
    resolved_subscript p = p

  abbrev pub resolved_reference : Reference → Reference
  resolved_reference r = record { name = r.name; subscripts = resolved_subscripts r.subscripts }

  -- what is read into is no constant and no call
  abbrev pub resolved_input : Expression → Expression
  resolved_input (Named x ps) = Named x (resolved_subscripts ps)
  resolved_input e = resolved e

  abbrev pub resolved_value : Direction → Expression → Expression
  resolved_value Output e = resolved e
  resolved_value Input e = resolved_input e

  abbrev mutual
    pub resolved_item : Direction → Item → Item
    resolved_item d (Single e) = Single (resolved_value d e)
    resolved_item d (Constant t) = Constant t
    resolved_item d (ImpliedDo is x a b c) = ImpliedDo (resolved_items d is) x (resolved a) (resolved b) (resolved c)

    pub resolved_items : Direction → Items → Items
    resolved_items d no_items = no_items
    resolved_items d (item i is) = item (resolved_item d i) (resolved_items d is)

  -- ---- statements that open and close nothing

  -- a statement of the tree, or none, as CONTINUE gives
  abbrev pub simple : ℕ → Statement77 → List tree.Statement
  simple line (Assign left e) = tree.Assignment line None (resolved_reference left) (resolved e) ∷ []
  simple line (Go n) = tree.GoTo line n ∷ []
  simple line Stop = tree.Stop line ∷ []
  simple line (Read is) = tree.Read line (resolved_items Input is) ∷ []
  simple line (Print is) = tree.Print line (resolved_items Output is) ∷ []
  simple line (Test c body) =
      tree.If line (tree.arm (resolved c) (tree.block (simple line body)) tree.no_arms) tree.no_statements ∷ []
  simple line _ = []

-- ---- labels

abbrev pub target : Statement77 → List ℕ
target (Go n) = n ∷ []
target _ = []

-- the labels that a GO TO names
abbrev pub targets : List Labelled → List ℕ
targets text = flat_map (λ (x : Labelled). target (action x.statement)) text

-- the label before a statement, where a GO TO names it
abbrev pub label_before : List ℕ → Option ℕ → List tree.Statement
label_before named None = []
label_before named (Some n) = if list_any (λ m. m == n) named then tree.Label n ∷ [] else []

-- ---- declarations

-- the name put into a list in byte order, where it isn't there yet
abbrev pub with_name : List ℕ → List (List ℕ) → List (List ℕ)
with_name x [] = x ∷ []
with_name x (y ∷ ys) = match_ordering (slice_cmp nat_cmp x y) (x ∷ y ∷ ys) (y ∷ ys) (y ∷ with_name x ys)

-- the variables of a program, in byte order
abbrev pub program_variables_of : List Use77 → List (List ℕ)
program_variables_of us =
    fold (λ names x. with_name x names) [] (filter (is_variable us) (map (λ (u : Use77). u.name) us))

abbrev pub bounds_or_empty : Result (ℤ × ℤ) Fault → ℤ × ℤ
bounds_or_empty (Ok b) = b
bounds_or_empty (Err fault) = (pos 1, pos 0)

abbrev pub declaration_of_name : Dialect → List Use77 → Store → List Labelled → List ℕ → tree.Declaration
declaration_of_name d us s text x =
    record {
      name = x;
      kind = kind_of_name us x;
      extent = tree.Given (map (λ b. bounds_or_empty (dimension_of d s b)) (bounds_of_name text x));
    }

abbrev pub first_of_names : List (List ℕ) → Option (List ℕ)
first_of_names [] = None
first_of_names (x ∷ xs) = Some x
