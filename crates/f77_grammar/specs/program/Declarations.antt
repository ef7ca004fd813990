-- What names are declared as (ANSI X3.9-1978, sections 4.1.2, 5.1, 8.1, 8.4, 8.6 and 18.2): each once, and as one
-- thing.
use Rattle.std.specs.Prelude.{ℕ, zero, suc, ◌==◌, Bool, true, false, not, ◌&&◌, ◌||◌, if◌then◌else◌, Option, None, Some}
use Rattle.std.specs.Prelude.{is_some, is_none, List, [], ◌∷◌, ◌++◌}
use Rattle.std.specs.List.{list_any}
use Rattle.tree.specs.declared.functions.Fun.{Fun}
use Rattle.f77_grammar.specs.Statement77.{Entity, NamedConstant, Labelled, Statement77, Declare, Dimension, Constants}
use Rattle.meaning.specs.Names.{is_among, is_implicit_integer}
use Rattle.tree.specs.Functions.{function_named, name_of_function}
use Rattle.f77_grammar.specs.program.Text.{Place77, is_implicit_none}
use Rattle.f77_grammar.specs.program.Uses.{Role, Valued, Target, Use77, uses77_in, uses_in_bounds, uses77_of}
use Rattle.f77_grammar.specs.program.Uses.{uses_in_text}
use Rattle.f77_grammar.specs.program.Uses.{is_title_role, is_typed, is_bounded, is_defined, names_that, stands}
use Rattle.f77_grammar.specs.program.Uses.{is_constant_name}
use Rattle.f77_grammar.specs.program.Uses.{is_variable, is_array_name, calls, type_of, dimensions_of_name}

-- ---- declared twice, or as two things

-- one of these names stands before it, among `earlier` or in the list
abbrev pub has_repeat : List (List ℕ) → List (List ℕ) → Bool
has_repeat earlier [] = false
has_repeat earlier (x ∷ xs) = is_among earlier x || has_repeat (x ∷ earlier) xs

-- a name is declared so here and before
abbrev pub is_declared_again : (Role → Bool) → Place77 → Bool
is_declared_again test p =
    has_repeat (names_that test (uses_in_text p.before)) (names_that test (uses77_of p.here.statement))

-- a symbolic constant has no bounds
abbrev pub is_array_or_constant : Role → Bool
is_array_or_constant r = is_bounded r || is_defined r

-- the name by which Fortran 90 calls the function, if one is called here, and else the name itself
abbrev pub printed_by : Option Fun → List ℕ → List ℕ
printed_by None x = x
printed_by (Some f) x = name_of_function f

abbrev pub printed_name : List Use77 → Use77 → List ℕ
printed_name us u = if calls us u then printed_by (function_named u.name) u.name else u.name

-- the program's name is no other name, a called function's neither, as Fortran 90 spells it or as it stands here
abbrev pub bears_title : List Use77 → List Use77 → Use77 → Bool
bears_title us before u =
    not (is_title_role u.role)
    && (stands is_title_role before u.name || stands is_title_role before (printed_name us u))

abbrev pub uses_title : List Use77 → Place77 → Bool
uses_title us p = list_any (bears_title us (uses_in_text p.before)) (uses77_of p.here.statement)

-- ---- constant expressions (section 6.7)

-- A name in a constant expression isn't a symbolic constant that was defined before, or has a list in parentheses. Such
-- a constant that bears a function's name and has a list is no name undeclared; its kind doesn't suit
abbrev pub has_list : Role → Bool
has_list (Valued (suc n)) = true
has_list (Target (suc n)) = true
has_list _ = false

abbrev pub is_not_constant : List (List ℕ) → Use77 → Bool
is_not_constant defined u = not (is_among defined u.name) || (has_list u.role && is_none (function_named u.name))

abbrev pub has_unknown : List (List ℕ) → List Use77 → Bool
has_unknown defined us = list_any (is_not_constant defined) us

abbrev pub bounds_of_entities : List Entity → List Use77
bounds_of_entities [] = []
bounds_of_entities (e ∷ es) = uses_in_bounds e.bounds ++ bounds_of_entities es

-- each constant of a PARAMETER statement counts as defined for those after it
abbrev pub defines_from_unknown : List (List ℕ) → List NamedConstant → Bool
defines_from_unknown defined [] = false
defines_from_unknown defined (d ∷ ds) = has_unknown defined (uses77_in d.value)
    || defines_from_unknown (d.name ∷ defined) ds

abbrev pub has_unknown_constant : List (List ℕ) → Statement77 → Bool
has_unknown_constant defined (Declare k es) = has_unknown defined (bounds_of_entities es)
has_unknown_constant defined (Dimension es) = has_unknown defined (bounds_of_entities es)
has_unknown_constant defined (Constants ds) = defines_from_unknown defined ds
has_unknown_constant defined _ = false

-- ---- executable statements

-- a name with a list in parentheses is an array with as many dimensions, or bears a function's name
abbrev pub suits_list : List Use77 → List ℕ → ℕ → Bool
suits_list us x zero = true
suits_list us x (suc n) = if is_array_name us x then suc n == dimensions_of_name us x else is_some (function_named x)

abbrev pub is_misused_as : List Use77 → List ℕ → Role → Bool
is_misused_as us x (Valued n) = not (suits_list us x n)
is_misused_as us x (Target n) = not (suits_list us x n) || is_constant_name us x
is_misused_as us x _ = false

-- a list suits nothing, or a symbolic constant is assigned or read into
abbrev pub is_misused : List Use77 → Use77 → Bool
is_misused us u = is_misused_as us u.name u.role

abbrev pub has_misused_name : List Use77 → Statement77 → Bool
has_misused_name us (Declare k es) = false
has_misused_name us (Dimension es) = false
has_misused_name us (Constants ds) = false
has_misused_name us s = list_any (is_misused us) (uses77_of s)

-- ---- both causes, by all uses `us` of names in the program

abbrev pub is_declared_wrongly : List Use77 → Place77 → Bool
is_declared_wrongly us p =
    is_declared_again is_typed p
    || is_declared_again is_array_or_constant p
    || uses_title us p
    || has_unknown_constant (names_that is_defined (uses_in_text p.before)) p.here.statement
    || has_misused_name us p.here.statement

-- ---- names without a type

-- IMPLICIT NONE stands among the statements
abbrev pub has_implicit_none : List Labelled → Bool
has_implicit_none text = list_any (λ (x : Labelled). is_implicit_none x.statement) text

-- a variable or symbolic constant without type; DIMENSION and PARAMETER give none
abbrev pub lacks_type : List Use77 → List ℕ → Bool
lacks_type us x = (is_variable us x || is_constant_name us x) && is_none (type_of us x)

-- it doesn't begin with I to N either
abbrev pub is_real : List Use77 → List ℕ → Bool
is_real us x = lacks_type us x && not (is_implicit_integer x)

-- such a name stands here, and not as the program's
abbrev pub has_name : (List ℕ → Bool) → Place77 → Bool
has_name test p = list_any (λ (u : Use77). not (is_title_role u.role) && test u.name) (uses77_of p.here.statement)

abbrev pub has_real_name : List Labelled → List Use77 → Place77 → Bool
has_real_name text us p = not (has_implicit_none text) && has_name (is_real us) p

-- where IMPLICIT NONE stands, each name needs a type
abbrev pub has_untyped_name : List Labelled → List Use77 → Place77 → Bool
has_untyped_name text us p = has_implicit_none text && has_name (lacks_type us) p
