-- Declarations, by what is known of the names: of all names of the program, and of those that the statements before
-- have.
use Rattle.std.specs.Prelude.{◌≡◌, ℕ, zero, suc, ◌==◌, Bool, true, false, not, ◌&&◌, ◌||◌, is_some, is_none}
use Rattle.std.specs.Prelude.{if◌then◌else◌, List, ◌++◌, map, reverse, take}
use Rattle.std.specs.List.{list_any}
use Rattle.tree.specs.declared.exprs.Expr.{Expr}
use Rattle.f77_grammar.specs.Statement77.{Statement77}
use Rattle.meaning.specs.Names.{is_among}
use Rattle.tree.specs.Functions.{function_named}
use Rattle.f77_grammar.specs.program.Uses.{Role, Title, Typed, Bounded, Defined, Valued, Target, Counter, Use77}
use Rattle.f77_grammar.specs.program.Uses.{uses77_of, is_title_role, is_typed, is_defined, names_that, stands}
use Rattle.f77_grammar.specs.program.Declarations.{has_repeat, is_array_or_constant, has_list, has_unknown_constant}
use Rattle.f77_grammar.specs.program.Declarations.{has_misused_name, printed_by, bears_title}
use Rattle.f77_names.specs.declared.names.Facts.{Facts}
use Rattle.f77_names.specs.declared.names.Names.{Names}
use Rattle.f77_names.specs.declared.uses.Use.{Use as Use'}
use Rattle.f77_names.specs.UsesView.{plain_use}
use Rattle.f77_names.specs.NameFacts.{facts_in, is_array_by, dimensions_by, called_by, AreNamesOf}

-- ---- what stands before a statement

-- the name has a type
abbrev pub is_typed_by : Facts → Bool
is_typed_by f = is_some f.kind

-- the name has bounds, or is a symbolic constant
abbrev pub is_shaped_by : Facts → Bool
is_shaped_by f = is_some f.dimensions || f.constant

-- the names know how each name stands in these uses, in whatever order
pub record HaveSeen (names : Names) (seen : List Use77) : Type 0 where
  pub typed : (x : List ℕ) → is_typed_by (facts_in names x) ≡ stands is_typed seen x
  pub shaped : (x : List ℕ) → is_shaped_by (facts_in names x) ≡ stands is_array_or_constant seen x
  pub constant : (x : List ℕ) → (facts_in names x).constant ≡ stands is_defined seen x
  pub title : (x : List ℕ) → (facts_in names x).title ≡ stands is_title_role seen x

-- the uses that were gone through, the last first, and those before
abbrev pub seen_after : List Use' → ℕ → List Use77 → List Use77
seen_after uses i seen = reverse (map plain_use (take i uses)) ++ seen

-- the same of the names that a PARAMETER defines
abbrev pub defined_after : List (List ℕ × Expr) → ℕ → List (List ℕ) → List (List ℕ)
defined_after constants i defined = reverse (map (λ (d : List ℕ × Expr). d.0) (take i constants)) ++ defined

-- ---- the checks

-- one of these names is declared again, behind what stands before
abbrev pub declares_again : List Use77 → List Use77 → Bool
declares_again seen us =
    has_repeat (names_that is_typed seen) (names_that is_typed us)
    || has_repeat (names_that is_array_or_constant seen) (names_that is_array_or_constant us)

abbrev pub is_again_by : Facts → Role → Bool
is_again_by f (Typed k) = is_typed_by f
is_again_by f (Bounded n) = is_shaped_by f
is_again_by f Defined = is_shaped_by f
is_again_by f Title = false
is_again_by f (Valued n) = false
is_again_by f (Target n) = false
is_again_by f Counter = false

-- the program's name stands as another name, or Fortran 90 spells a function so that is called
abbrev pub bears_title_by : Names → Names → Use77 → Bool
bears_title_by before names u =
    let printed = printed_by (called_by (facts_in names u.name) u) u.name in
    not (is_title_role u.role) && ((facts_in before u.name).title || (facts_in before printed).title)

-- the name is a symbolic constant, by the statements before or earlier in the same
abbrev pub is_constant_in : Names → Names → List ℕ → Bool
is_constant_in before own x = (facts_in own x).constant || (facts_in before x).constant

abbrev pub is_unknown_use : Names → Names → Use77 → Bool
is_unknown_use before own u = not (is_constant_in before own u.name)
    || (has_list u.role && is_none (function_named u.name))

-- exactly these names are defined
abbrev pub Define : Names → Names → List (List ℕ) → Type 0
Define before own defined = (x : List ℕ) → is_constant_in before own x ≡ is_among defined x

abbrev pub AreDefined : Names → List (List ℕ) → Type 0
AreDefined before defined = (x : List ℕ) → (facts_in before x).constant ≡ is_among defined x

abbrev pub suits_list_by : Facts → List ℕ → ℕ → Bool
suits_list_by f x zero = true
suits_list_by f x (suc n) = if is_array_by f then suc n == dimensions_by f else is_some (function_named x)

abbrev pub is_misused_by : Facts → List ℕ → Role → Bool
is_misused_by f x (Valued n) = not (suits_list_by f x n)
is_misused_by f x (Target n) = not (suits_list_by f x n) || f.constant
is_misused_by f x Title = false
is_misused_by f x (Typed k) = false
is_misused_by f x (Bounded n) = false
is_misused_by f x Defined = false
is_misused_by f x Counter = false

abbrev pub is_misused_use : Names → Use77 → Bool
is_misused_use names u = is_misused_by (facts_in names u.name) u.name u.role

-- ---- a statement

-- a statement is wrong, by all uses in the program and those that stand before
abbrev pub is_wrong_after : List Use77 → List Use77 → Statement77 → Bool
is_wrong_after us seen s =
    has_repeat (names_that is_typed seen) (names_that is_typed (uses77_of s))
    || has_repeat (names_that is_array_or_constant seen) (names_that is_array_or_constant (uses77_of s))
    || list_any (bears_title us seen) (uses77_of s)
    || has_unknown_constant (names_that is_defined seen) s
    || has_misused_name us s

-- what the check of a list of uses gives, with the names before and after it
abbrev pub Declares : Names → Names → List Use77 → Bool → Type 0
Declares old new us again = (seen : List Use77) → HaveSeen old seen → (again ≡ declares_again seen us)
    × (again ≡ false → HaveSeen new (us ++ seen))

-- what the check of a statement gives, with the names before and after it
abbrev pub Passes : Names → Names → Names → Statement77 → Bool → Type 0
Passes names old new s wrong =
    (us seen : List Use77) → AreNamesOf names us → HaveSeen old seen → (wrong ≡ is_wrong_after us seen s)
    × (wrong ≡ false → HaveSeen new (uses77_of s ++ seen))
