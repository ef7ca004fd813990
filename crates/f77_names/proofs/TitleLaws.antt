-- The program's name as another name, and calls.
use Rattle.std.proofs.Common.{◌≡◌, Bool, true, false, not, ◌&&◌, ◌||◌, cond, None, List, refl, ap, sym, ◌∙◌, lit≤}
use Rattle.tree.specs.Names.{IsName}
use Rattle.tree.specs.declared.functions.Fun.{Fun}
use Rattle.tree.specs.declared.functions.Fun.TheVariants.{Abs, Mod, Max, Min}
use Rattle.tree.specs.Functions.{function_named, name_of_function}
use Rattle.f77_grammar.specs.program.Uses.{Use77, is_title_role, calls, stands}
use Rattle.f77_grammar.specs.program.Declarations.{printed_by, printed_name, bears_title}
use Rattle.f77_names.specs.declared.names.Facts.{Facts}
use Rattle.f77_names.specs.declared.names.Names.{Names}
use Rattle.f77_names.specs.NameFacts.{facts_in, AreNamesOf, is_function_by, function_by, called_by, called_of}
use Rattle.f77_names.specs.Seen.{HaveSeen, bears_title_by}
use Rattle.f77_names.proofs.FactLaws.{function_by_names}

-- ---- calls

pub called-title : (f : Facts) (u : Use77) → is_title_role u.role ≡ true → None ≡ called_by f u
called-title f u h = sym (ap (λ b. cond (not b && is_function_by f u.name) (function_named u.name) None) h)

pub called-other : (f : Facts) (u : Use77) → is_title_role u.role ≡ false → function_by f u.name ≡ called_by f u
called-other f u h = sym (ap (λ b. cond (not b && is_function_by f u.name) (function_named u.name) None) h)

pub called_by_names : (names : Names) (us : List Use77) (u : Use77) → AreNamesOf names us → called_by (facts_in names u.name) u ≡ called_of us u
called_by_names names us u h =
    ap (λ b. cond (not (is_title_role u.role) && b) (function_named u.name) None) (function_by_names names us u.name h)

pub ruleset call_laws = (called-title, called-other)

-- ---- the program's name

pub is_name : (f : Fun) → IsName (name_of_function f)
is_name Abs = record { begins = refl; goes_on = refl; within = lit≤ tt }
is_name Mod = record { begins = refl; goes_on = refl; within = lit≤ tt }
is_name Max = record { begins = refl; goes_on = refl; within = lit≤ tt }
is_name Min = record { begins = refl; goes_on = refl; within = lit≤ tt }

pub ruleset title_laws = (is_name)

printed_is : (us : List Use77) (u : Use77) → printed_by (called_of us u) u.name ≡ printed_name us u
printed_is us u = cases (calls us u)
  where
    cases : (b : Bool) → printed_by (cond b (function_named u.name) None) u.name ≡ cond b (printed_by (function_named u.name) u.name) u.name
    cases true = refl
    cases false = refl

pub bears_same : (before names : Names) (us seen : List Use77) (u : Use77) → HaveSeen before seen → AreNamesOf names us
    → bears_title_by before names u ≡ bears_title us seen u
bears_same before names us seen u h k =
    ap (λ b. not (is_title_role u.role) && (b || (facts_in before (printed_by (called_by (facts_in names u.name) u) u.name)).title)) (h.title u.name)
    ∙ ap (λ b. not (is_title_role u.role) && (stands is_title_role seen u.name || b)) (h.title (printed_by (called_by (facts_in names u.name) u) u.name))
    ∙ ap (λ x. not (is_title_role u.role) && (stands is_title_role seen u.name || stands is_title_role seen x))
    (ap (λ f. printed_by f u.name) (called_by_names names us u k) ∙ printed_is us u)
