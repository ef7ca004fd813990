-- Hidden functions.
use Rattle.std.proofs.Common.{◌≡◌, Bool, true, false, ◌&&◌, cond, Option, None, List, refl}
use Rattle.tree.specs.declared.functions.Fun.{Fun}
use Rattle.tree.specs.Functions.{function_named}
use Rattle.f77_grammar.specs.program.Uses.{Use77, calls}
use Rattle.f77_grammar.specs.program.Kinds.{is_hidden_name, calls_hidden}
use Rattle.f77_names.specs.NameFacts.{called_of}
use Rattle.f77_names.proofs.TitleLaws.{is_name}

pub ruleset hidden_laws = (is_name)

pub call-is : (us : List Use77) (u : Use77) → calls_hidden us u ≡ is_hidden_name us u.name (called_of us u)
call-is us u = cases (calls us u) (function_named u.name)
  where
    cases : (b : Bool) (f : Option Fun) → (b && is_hidden_name us u.name f) ≡ is_hidden_name us u.name (cond b f None)
    cases true f = refl
    cases false f = refl

pub ruleset call_laws = (call-is)
