-- What the uses of a name say of it.
use Rattle.std.specs.Prelude.{◌≡◌, ℕ, zero, suc, Bool, true, false, not, ◌&&◌, ◌||◌, Option, None, Some, is_some}
use Rattle.std.specs.Prelude.{is_none, if◌then◌else◌, List, [], ◌∷◌}
use Rattle.std.specs.Option.{unwrap_or}
use Rattle.std.specs.Str.{bytes_eq}
use Rattle.indexmap.specs.IndexMap.{get}
use Rattle.tree.specs.declared.ops.Kind.{Kind}
use Rattle.tree.specs.declared.functions.Fun.{Fun}
use Rattle.f77_grammar.specs.program.Uses.{Role, Title, Typed, Bounded, Defined, Valued, Target, Counter, Use77}
use Rattle.f77_grammar.specs.program.Uses.{is_title_role, is_function, calls, or_integer}
use Rattle.meaning.specs.Names.{is_implicit_integer}
use Rattle.tree.specs.Functions.{function_named}
use Rattle.f77_names.specs.declared.names.Facts.{Facts}
use Rattle.f77_names.specs.declared.names.Names.{Names}
use Rattle.tree.specs.Functions.{function_named}

abbrev pub nothing_known : Facts
nothing_known = record { kind = None; dimensions = None; bare = false; constant = false; title = false }

abbrev pub first_given : {A : Type 0} → Option A → A → Option A
first_given None x = Some x
first_given (Some y) x = Some y

-- with one use more
abbrev pub facts_with : Facts → Role → Facts
facts_with f Title = record f { title = true }
facts_with f (Typed k) = record f { kind = first_given f.kind k }
facts_with f (Bounded n) = record f { dimensions = first_given f.dimensions n }
facts_with f Defined = record f { constant = true }
facts_with f (Valued zero) = record f { bare = true }
facts_with f (Valued (suc n)) = f
facts_with f (Target zero) = record f { bare = true }
facts_with f (Target (suc n)) = f
facts_with f Counter = record f { bare = true }

-- what uses say of the name x, after what is known
abbrev pub facts_of : Facts → List Use77 → List ℕ → Facts
facts_of f [] x = f
facts_of f (u ∷ us) x = facts_of (if bytes_eq u.name x then facts_with f u.role else f) us x

abbrev pub known : Option Facts → Facts
known None = nothing_known
known (Some f) = f

abbrev pub facts_in : Names → List ℕ → Facts
facts_in names x = known (get bytes_eq names.table x)

-- the names say of each name what these uses of names say
abbrev pub AreNamesOf : Names → List Use77 → Type 0
AreNamesOf names us = (x : List ℕ) → facts_in names x ≡ facts_of nothing_known us x

-- ---- what a name is by these

abbrev pub is_variable_by : Facts → Bool
is_variable_by f = (is_some f.kind || is_some f.dimensions || f.bare) && not f.constant

abbrev pub is_array_by : Facts → Bool
is_array_by f = is_some f.dimensions && not f.constant

abbrev pub is_function_by : Facts → List ℕ → Bool
is_function_by f x = is_some (function_named x) && not (is_variable_by f) && not f.constant

abbrev pub kind_by : Facts → Kind
kind_by f = or_integer f.kind

abbrev pub dimensions_by : Facts → ℕ
dimensions_by f = unwrap_or f.dimensions 0

-- the function that a name names, if it isn't hidden
abbrev pub function_of : List Use77 → List ℕ → Option Fun
function_of us x = if is_function us x then function_named x else None

-- the function that is called where the name stands so
abbrev pub called_of : List Use77 → Use77 → Option Fun
called_of us u = if calls us u then function_named u.name else None

abbrev pub called_by : Facts → Use77 → Option Fun
called_by f u = if not (is_title_role u.role) && is_function_by f u.name then function_named u.name else None

abbrev pub function_by : Facts → List ℕ → Option Fun
function_by f x = if is_function_by f x then function_named x else None

-- a variable or symbolic constant without type
abbrev pub lacks_type_by : Facts → Bool
lacks_type_by f = (is_variable_by f || f.constant) && is_none f.kind

-- it doesn't begin with I to N either
abbrev pub is_real_by : Facts → List ℕ → Bool
is_real_by f x = lacks_type_by f && not (is_implicit_integer x)

abbrev pub is_real_use : Names → Use77 → Bool
is_real_use names u = not (is_title_role u.role) && is_real_by (facts_in names u.name) u.name

abbrev pub is_untyped_use : Names → Use77 → Bool
is_untyped_use names u = not (is_title_role u.role) && lacks_type_by (facts_in names u.name)
