-- Kinds of operands, arguments, subscripts, conditions and sides (ANSI X3.9-1978, sections 5.4, 6.1 to 6.4, 8.6, 10,
-- 11.4 to 11.7, 11.10.1, 12.8.2 and 15.10).
use Rattle.std.specs.Prelude.{ℕ, zero, suc, Bool, true, false, not, ◌&&◌, ◌||◌, Option, None, Some, List}
use Rattle.std.specs.Str.{bytes_eq}
use Rattle.std.specs.List.{list_any, list_all}
use Rattle.tree.specs.Plain.{Expression, Number, Logic, Named, Unary, Binary, Apply, Expressions, no_expressions}
use Rattle.tree.specs.Plain.{expression, Subscript, Only, Subscripts, no_subscripts, subscript, Item, Single}
use Rattle.tree.specs.Plain.{Constant, ImpliedDo, Items, no_items, item}
use Rattle.tree.specs.declared.ops.Kind.{Kind}
use Rattle.tree.specs.declared.ops.Kind.TheVariants.{Integer, Logical}
use Rattle.tree.specs.declared.functions.Fun.{Fun}
use Rattle.f77_grammar.specs.Statement77.{Entity, NamedConstant, Statement77, Program, ImplicitNone, Declare, Dimension}
use Rattle.f77_grammar.specs.Statement77.{Constants, Assign, Go, Test, If, ElseIf, Else, EndIf, Do, EndDo, Continue}
use Rattle.f77_grammar.specs.Statement77.{Stop, Read, Print, End}
use Rattle.f77_grammar.specs.statements.Items.{takes_text}
use Rattle.f77_grammar.specs.declared.directions.Direction.{Direction}
use Rattle.f77_grammar.specs.declared.directions.Direction.TheVariants.{Output, Input}
use Rattle.tree.specs.Functions.{function_named, name_of_function, suits_number}
use Rattle.meaning.specs.Typed.{number_of_arguments, number_of_subscripts}
use Rattle.tree.specs.OperatorTable.{operand_kind, result_kind_of, is_unary}
use Rattle.f77_grammar.specs.program.Text.{Place77}
use Rattle.f77_grammar.specs.program.Uses.{Use77, uses77_of, is_variable, is_array_name, is_function, calls}
use Rattle.f77_grammar.specs.program.Uses.{kind_of_name}

abbrev pub same_kind : Kind → Kind → Bool
same_kind Integer Integer = true
same_kind Logical Logical = true
same_kind _ _ = false

abbrev pub takes_so_many : Option Fun → ℕ → Bool
takes_so_many None n = false
takes_so_many (Some f) n = suits_number f n

-- by all uses `us` of names in the program
module _ (us : List Use77) where
  -- a name with a list in parentheses: an element of this kind, or a call, which is INTEGER
  abbrev pub list_has_kind : List ℕ → ℕ → Kind → Bool
  list_has_kind x n k = (is_array_name us x && same_kind (kind_of_name us x) k)
      || (is_function us x && takes_so_many (function_named x) n && same_kind Integer k)

  -- a scalar or a symbolic constant of this kind, not a whole array
  abbrev pub name_has_kind : List ℕ → ℕ → Kind → Bool
  name_has_kind x zero k = not (is_array_name us x) && same_kind (kind_of_name us x) k
  name_has_kind x (suc n) k = list_has_kind x (suc n) k

  abbrev mutual
    -- e has the kind k, and all in it suits
    pub has_kind : Expression → Kind → Bool
    has_kind (Number n) k = same_kind Integer k
    has_kind (Logic b) k = same_kind Logical k
    has_kind (Named x ps) k = name_has_kind x (number_of_subscripts ps) k && are_subscripts ps
    has_kind (Unary o a) k = is_unary o && same_kind (result_kind_of o) k && has_kind a (operand_kind o)
    has_kind (Binary o a b) k = not (is_unary o) && same_kind (result_kind_of o) k && has_kind a (operand_kind o)
        && has_kind b (operand_kind o)
    has_kind (Apply f es) k = suits_number f (number_of_arguments es) && same_kind Integer k && are_arguments es
    has_kind _ k = false

    pub are_arguments : Expressions → Bool
    are_arguments no_expressions = true
    are_arguments (expression e es) = has_kind e Integer && are_arguments es

    pub are_subscripts : Subscripts → Bool
    are_subscripts no_subscripts = true
    are_subscripts (subscript p ps) = is_subscript p && are_subscripts ps

    pub is_subscript : Subscript → Bool
    is_subscript (Only e) = has_kind e Integer
    is_subscript _ = false

  abbrev pub has_some_kind : Expression → Bool
  has_some_kind e = has_kind e Integer || has_kind e Logical

  -- an array with subscripts, or a scalar: what is stored into is no call
  abbrev pub is_stored_into : List ℕ → ℕ → Bool
  is_stored_into x zero = not (is_array_name us x)
  is_stored_into x (suc n) = is_array_name us x

  -- ---- lists: a name alone may be a whole array

  abbrev pub suits_output : Expression → Bool
  suits_output (Named x no_subscripts) = true
  suits_output e = has_some_kind e

  abbrev pub suits_input : Expression → Bool
  suits_input (Named x no_subscripts) = true
  suits_input (Named x (subscript p ps)) = is_array_name us x && are_subscripts (subscript p ps)
  suits_input e = false

  abbrev pub are_numbers : Expression → Expression → Expression → Bool
  are_numbers a b c = has_kind a Integer && has_kind b Integer && has_kind c Integer

  abbrev pub suits_value : Direction → Expression → Bool
  suits_value Output e = suits_output e
  suits_value Input e = suits_input e

  abbrev mutual
    pub suits_item : Direction → Item → Bool
    suits_item d (Single e) = suits_value d e
    suits_item d (Constant t) = takes_text d
    suits_item d (ImpliedDo is x a b c) = suits_items d is && are_numbers a b c

    pub suits_items : Direction → Items → Bool
    suits_items d no_items = true
    suits_items d (item i is) = suits_item d i && suits_items d is

  -- ---- statements

  abbrev pub are_integer_bounds : List (Expression × Expression) → Bool
  are_integer_bounds bs = list_all (λ b. has_kind b.0 Integer && has_kind b.1 Integer) bs

  abbrev pub has_integer_bounds : List Entity → Bool
  has_integer_bounds es = list_all (λ (e : Entity). are_integer_bounds e.bounds) es

  abbrev pub suits : Statement77 → Bool
  suits (Declare k es) = has_integer_bounds es
  suits (Dimension es) = has_integer_bounds es
  suits (Constants ds) = list_all (λ (d : NamedConstant). has_kind d.value (kind_of_name us d.name)) ds
  suits (Assign left e) =
      is_stored_into left.name (number_of_subscripts left.subscripts) && are_subscripts left.subscripts
      && has_kind e (kind_of_name us left.name)
  suits (Test c s) = has_kind c Logical && suits s
  suits (If c) = has_kind c Logical
  suits (ElseIf c) = has_kind c Logical
  suits (Do label x a b c) = are_numbers a b c
  suits (Read is) = suits_items Input is
  suits (Print is) = suits_items Output is
  suits (Program x) = true
  suits ImplicitNone = true
  suits (Go n) = true
  suits Else = true
  suits EndIf = true
  suits EndDo = true
  suits Continue = true
  suits Stop = true
  suits End = true

  -- ---- Fortran 90 spells a call of IABS, MAX0 or MIN0 with the name ABS, MAX or MIN, which a variable of that name
  -- would hide

  abbrev pub is_hidden_name : List ℕ → Option Fun → Bool
  is_hidden_name x None = false
  is_hidden_name x (Some f) = not (bytes_eq x (name_of_function f)) && is_variable us (name_of_function f)

  abbrev pub calls_hidden : Use77 → Bool
  calls_hidden u = calls us u && is_hidden_name u.name (function_named u.name)

  abbrev pub has_unsuited_kind : Place77 → Bool
  has_unsuited_kind p = not (suits p.here.statement) || list_any calls_hidden (uses77_of p.here.statement)
