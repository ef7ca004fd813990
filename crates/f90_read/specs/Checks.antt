-- What is known of a text while its statements are looked at, one number of refusal after another.
use Rattle.std.specs.Prelude.{◌≡◌, ℕ, ◌≤◌, Option, Some, None, List, length, Result, Ok, Err}
use Rattle.std.specs.List.{AllByRecursion}
use Rattle.tree.specs.Causes.{refusal_at}
use Rattle.tree.specs.View.{program_of_90}
use Rattle.tree.specs.declared.programs.Program90.{Program90}
use Rattle.tree.specs.declared.refusals.Cause.{Cause}
use Rattle.tree.specs.declared.refusals.Refusal.{Refusal}
use Rattle.tree.specs.declared.refusals.Refused.{Refused}
use Rattle.tree.specs.declared.refusals.Refused.TheVariants as refused
use Rattle.f90_grammar.specs.Blocks as grammar
use Rattle.f90_grammar.specs.Contents.{SuitsCallsIn}
use Rattle.f90_grammar.specs.Declared.{declarations_of, functions_in}
use Rattle.f90_grammar.specs.Order.{Place90, IsPlaceIn}
use Rattle.f90_grammar.specs.Reading.{AreStatementsOf}
use Rattle.f90_grammar.specs.Refusals.{IsRefusable, Reads90, Refused90}
use Rattle.f90_statement.specs.Views.{AreOf}
use Rattle.f90_blocks.specs.places.forms.Places.{IsPlacedOf}
use Rattle.f90_blocks.specs.declared.places.forms.placing.Placed.{Placed}
use Rattle.f90_names.specs.kinds.declarations.Names.{AreNamesOf}
use Rattle.f90_names.specs.declared.kinds.declarations.names.Names.{Names}
use Rattle.f90_trees.specs.Hiding.{function_in}
use Rattle.f90_trees.specs.declared.functions.Functions.{Functions}

-- ---- what is held

-- the code holds the statements of the text, in which each call has arguments that may stand there
pub record IsTextOf (text : List ℕ) (ps : List grammar.Placed) (ks : List Placed) : Type 0 where
  pub of_text : AreStatementsOf text ps
  pub are : AreOf IsPlacedOf ks ps
  pub calls : AllByRecursion (λ (p : grammar.Placed). SuitsCallsIn (functions_in ps) p.form) ps

abbrev pub AreFunctionsOf : List grammar.Placed → Functions → Type 0
AreFunctionsOf ps functions = (x : List ℕ) → function_in functions x ≡ functions_in ps x

-- and what its declarations say of names
pub record IsNamedTextOf (text : List ℕ) (ps : List grammar.Placed) (ks : List Placed) (functions : Functions)
    (names : Names) : Type 0 where
  pub is_text : IsTextOf text ps ks
  pub are_functions : AreFunctionsOf ps functions
  pub are_names : AreNamesOf names (declarations_of ps)

-- ---- refusals

abbrev pub IfRefusal : Refused → (Refusal → Type 0) → Type 0
IfRefusal (refused.Refusal r) P = P r
IfRefusal refused.Memory P = Unit {0}

-- each refusal for which the text could be refused has at least this number
abbrev pub IsClearBelow : List ℕ → ℕ → Type 0
IsClearBelow text n = (r : Refusal) → IsRefusable text r → n ≤ r.number

-- so it is, or the text is refused, unless memory ran out
abbrev pub Clears : {A : Type 0} → List ℕ → ℕ → Result A Refused → Type 0
Clears text n (Ok x) = IsClearBelow text n
Clears text n (Err e) = IfRefusal e (Refused90 text)

-- the refusal is for the cause, at the place before which so many statements stand
abbrev pub RefusesAt : {A : Type 0} → List grammar.Placed → Cause → Option ℕ → Result A Refused → Type 0
RefusesAt ps c None (Ok x) = Unit {0}
RefusesAt ps c None (Err e) = ⊥
RefusesAt ps c (Some n) (Ok x) = (p : Place90) → IsPlaceIn ps p → length p.before ≡ n → ⊥
RefusesAt ps c (Some n) (Err e) =
    (p : Place90) → IsPlaceIn ps p → length p.before ≡ n → e ≡ refused.Refusal (refusal_at c p.here.line)

-- ---- answers

-- the text is read as the program, or refused, unless memory ran out
abbrev pub IsReadAs : List ℕ → Result Program90 Refused → Type 0
IsReadAs text (Ok p) = Reads90 text (program_of_90 p)
IsReadAs text (Err e) = IfRefusal e (Refused90 text)
