use Rattle.std.proofs.Common.{◌≡◌, inl, ℕ, List, Option, None, Ok, Err, ap, sym, subst, ◌∙◌}
use Rattle.std.specs.List.{AllByRecursion}
use Rattle.tree.specs.declared.functions.Intrinsic.{Intrinsic}
use Rattle.tree.specs.declared.refusals.Refusal.{Refusal}
use Rattle.tree.specs.declared.refusals.Refused.TheVariants as refusals
use Rattle.reading.specs.refusal_order.Answered.{IsAnswered}
use Rattle.f90_grammar.specs.FreeForm.{FreeStatement}
use Rattle.f90_lines.specs.Views.{statements_seen}
use Rattle.f90_statement.specs.Views.{AreOf}
use Rattle.f90_statement.specs.declared.nodes.Statement.{Statement}
use Rattle.f90_blocks.specs.places.forms.Forms.{IsFormIn}
use Rattle.f90_blocks.specs.places.forms.Places.{HavePlaces, Places}
use Rattle.f90_blocks.specs.declared.places.forms.placing.Placed.{Placed}
use Rattle.f90_trees.specs.Hiding.{function_in}
use Rattle.f90_names.specs.calls.Formless.{HasSuitedForm, FindsFormless, IsFirstFormless, IsFormless}
use Rattle.f90_names.specs.calls.Hiding.{HidesDeclared}
use Rattle.f90_names.proofs.calls.FormlessLaws.{unrefused, answered, refused, have_suited, have_places, answered_once}
use Rattle.f90_names.proofs.calls.placing.placed.Goals as goal

pub unreachable-requires : goal.unreachable-requires
unreachable-requires c =
    let ss : List FreeStatement = statements_seen c.args.statements.now in
    let function : List ℕ → Option Intrinsic = function_in c.in_ok-functions.functions in
    let k : AllByRecursion (HasSuitedForm function) ss
    = subst (λ (o : Option ℕ). FindsFormless function ss (Ok o)) c.in_default.is c.in_ok-line.ensures in
    let p = have_places function None ss k in
    subst (λ (o : Option (List Placed)). Places ss (Ok o)) c.in_default-2.is c.in_ok-placed.ensures p.0 p.1

pub returns-clause-ok : goal.returns-clause-ok
returns-clause-ok c =
    let ss : List FreeStatement = statements_seen c.args.statements.now in
    let function : List ℕ → Option Intrinsic = function_in c.in_ok-functions.functions in
    let h : HidesDeclared ss function
    = c.in_ok-functions.ensures ss (subst (λ (fs : List (Option Statement)). AreOf IsFormIn fs ss)
    (sym c.as_slice.ensures) c.in_ok-forms.ensures) in
    let k : AllByRecursion (HasSuitedForm function) ss
    = subst (λ (o : Option ℕ). FindsFormless function ss (Ok o)) c.in_default.is c.in_ok-line.ensures in
    let p : HavePlaces ss c.in-Some-2.placed
    = subst (λ (o : Option (List Placed)). Places ss (Ok o)) c.in-Some-2.is c.in_ok-placed.ensures in
    have_suited function ss h c.in-Some-2.placed p k

pub returns-clause-unrefused : goal.returns-clause-unrefused
returns-clause-unrefused c =
    let ss : List FreeStatement = statements_seen c.args.statements.now in
    let function : List ℕ → Option Intrinsic = function_in c.in_ok-functions.functions in
    let h : HidesDeclared ss function
    = c.in_ok-functions.ensures ss (subst (λ (fs : List (Option Statement)). AreOf IsFormIn fs ss)
    (sym c.as_slice.ensures) c.in_ok-forms.ensures) in
    let k : AllByRecursion (HasSuitedForm function) ss
    = subst (λ (o : Option ℕ). FindsFormless function ss (Ok o)) c.in_default.is c.in_ok-line.ensures in
    unrefused function ss h k

pub returns-clause-only_placed : goal.returns-clause-only_placed
returns-clause-only_placed c n =
    let ss : List FreeStatement = statements_seen c.args.statements.now in
    let function : List ℕ → Option Intrinsic = function_in c.in_ok-functions.functions in
    let h : HidesDeclared ss function
    = c.in_ok-functions.ensures ss (subst (λ (fs : List (Option Statement)). AreOf IsFormIn fs ss)
    (sym c.as_slice.ensures) c.in_ok-forms.ensures) in
    let k : AllByRecursion (HasSuitedForm function) ss
    = subst (λ (o : Option ℕ). FindsFormless function ss (Ok o)) c.in_default.is c.in_ok-line.ensures in
    let p : HavePlaces ss c.in-Some-2.placed
    = subst (λ (o : Option (List Placed)). Places ss (Ok o)) c.in-Some-2.is c.in_ok-placed.ensures in
    inl (have_suited function ss h c.in-Some-2.placed p k)

pub returns-clause-only_refused : goal.returns-clause-only_refused
returns-clause-only_refused c text r a i =
    let ss : List FreeStatement = statements_seen c.args.statements.now in
    let function : List ℕ → Option Intrinsic = function_in c.in_ok-functions.functions in
    let h : HidesDeclared ss function
    = c.in_ok-functions.ensures ss (subst (λ (fs : List (Option Statement)). AreOf IsFormIn fs ss)
    (sym c.as_slice.ensures) c.in_ok-forms.ensures) in
    let k : AllByRecursion (HasSuitedForm function) ss
    = subst (λ (o : Option ℕ). FindsFormless function ss (Ok o)) c.in_default.is c.in_ok-line.ensures in
    absurd (unrefused function ss h k i.holds.statement i.holds.stands i.holds.none)

pub returns-in-Some-clause-refused : goal.returns-in-Some-clause-refused
returns-in-Some-clause-refused c text r a e =
    let ss : List FreeStatement = statements_seen c.args.statements.now in
    let function : List ℕ → Option Intrinsic = function_in c.in_ok-functions.functions in
    let h : HidesDeclared ss function
    = c.in_ok-functions.ensures ss (subst (λ (fs : List (Option Statement)). AreOf IsFormIn fs ss)
    (sym c.as_slice.ensures) c.in_ok-forms.ensures) in
    let f : IsFirstFormless function ss c.in-Some.line
    = subst (λ (o : Option ℕ). FindsFormless function ss (Ok o)) c.in-Some.is c.in_ok-line.ensures in
    let q : c.at.result ≡ r = cc in
    subst (IsAnswered (IsFormless ss)) (sym c.at.ensures.refusal ∙ q) (answered function ss h text a c.in-Some.line f)

pub returns-in-Some-clause-only_placed : goal.returns-in-Some-clause-only_placed
returns-in-Some-clause-only_placed c n =
    let ss : List FreeStatement = statements_seen c.args.statements.now in
    let function : List ℕ → Option Intrinsic = function_in c.in_ok-functions.functions in
    let h : HidesDeclared ss function
    = c.in_ok-functions.ensures ss (subst (λ (fs : List (Option Statement)). AreOf IsFormIn fs ss)
    (sym c.as_slice.ensures) c.in_ok-forms.ensures) in
    let f : IsFirstFormless function ss c.in-Some.line
    = subst (λ (o : Option ℕ). FindsFormless function ss (Ok o)) c.in-Some.is c.in_ok-line.ensures in
    absurd (refused function ss h c.in-Some.line f n)

pub returns-in-Some-clause-only_refused : goal.returns-in-Some-clause-only_refused
returns-in-Some-clause-only_refused c text r a i =
    let ss : List FreeStatement = statements_seen c.args.statements.now in
    let function : List ℕ → Option Intrinsic = function_in c.in_ok-functions.functions in
    let h : HidesDeclared ss function
    = c.in_ok-functions.ensures ss (subst (λ (fs : List (Option Statement)). AreOf IsFormIn fs ss)
    (sym c.as_slice.ensures) c.in_ok-forms.ensures) in
    let f : IsFirstFormless function ss c.in-Some.line
    = subst (λ (o : Option ℕ). FindsFormless function ss (Ok o)) c.in-Some.is c.in_ok-line.ensures in
    inl (ap (λ (q : Refusal). Err (refusals.Refusal q))
    (c.at.ensures.refusal ∙ answered_once ss _ r (answered function ss h text a c.in-Some.line f) i))
