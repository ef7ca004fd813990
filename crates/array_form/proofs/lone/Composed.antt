-- The array form of a nest's statement does what the statement's instances do.
use Rattle.std.proofs.Common.{◌≡◌, refl, sym, ap, ◌∙◌, ℕ, zero, suc, ◌-◌, ℤ, pos, true, List, [], ◌∷◌, ◌++◌, map, length, drop, None, arith}
use Rattle.meaning.specs.Dialect.{fortran90}
use Rattle.tree.specs.declared.width.Width.{Width}
use Rattle.meaning.specs.Run.{State, does_all}
use Rattle.array_form.specs.forms.Instances.{counts_of}
use Rattle.array_form.specs.forms.Guarded.{GuardedFormStoresInstances, NameCells}
use Rattle.array_form.specs.forms.Loops.{FormLoop, form_variables_of}
use Rattle.array_form.specs.forms.Statements.{loops_assigned, loops_from, stand_in_guard}
use Rattle.array_form.proofs.forms.Holding.{unheld, unheld_safe}
use Rattle.nest_order.specs.facts.Facts.{values_from}
use Rattle.nest_order.proofs.facts.Facts.{facts_suffice}
use Rattle.array_form.specs.lone.Composed.{ArrayFormIsForm}
use Rattle.array_form.proofs.lone.Giving.{cells_give_values}
use Rattle.array_form.proofs.lone.Instances.{guarded_instances_of_array_forms}
use Rattle.array_form.proofs.lone.Known.{numbers_are_known}
use Rattle.tree.specs.Widths.{bits_of}

drop-map : (m : ℕ) (ls : List FormLoop) → form_variables_of (drop m ls) ≡ drop m (form_variables_of ls)
drop-map zero ls = refl
drop-map (suc m) [] = refl
drop-map (suc m) (l ∷ ls) = drop-map m ls

drop-front : {X : Type 0} (f : X → List ℕ) (xs ys : List X) → drop (length xs) (map f (xs ++ ys)) ≡ map f ys
drop-front f [] ys = refl
drop-front f (x ∷ xs) ys = drop-front f xs ys

-- by the law of array forms under guards
pub array_form_is_form : (width : Width) → GuardedFormStoresInstances width → ArrayFormIsForm width
array_form_is_form width stores n w s a outer inner line mark safe c facts in_nest fits round some hold cells moved guard_regular regular form before t u within counted holds at way none apart run =
    let k = suc (length outer) in
    let g = n.statement_at s in
    let less : suc (length outer) - 1 ≡ length outer = omega arith in
    let variables : form_variables_of (loops_from a (suc (length outer))) ≡ map n.variable_at inner
    = ap (λ m. form_variables_of (drop m a.loops)) less ∙ (drop-map (length outer) a.loops ∙ (ap (drop (length outer)) round.loops ∙ drop-front n.variable_at outer inner)) in
    let known = numbers_are_known width n w s a outer inner before t.store facts in_nest fits round.loops round.symbols round.few round.distinct round.variables within holds at in
    let xs : List ℤ = map pos before ++ (known.0 ++ values_from w.values 0 n.symbols) in
    let trips = round.trips before known.0 within known.1 in
    let no_hold = unheld a k g.guard g.left safe hold in
    let both = guarded_instances_of_array_forms width n w s outer inner before (loops_from a k) (counts_of xs (loops_from a k)) t.store u (facts_suffice (bits_of width) n w facts) in_nest fits variables trips.1 within holds at none run in
    let named : stand_in_guard (loops_from a k) g.guard ≡ true → NameCells (fortran90 width) xs (loops_assigned a k g.left) g.left g.right t.store = λ stands.
    cells_give_values width n w s a outer inner before xs t.store facts in_nest fits round.loops round.distinct no_hold trips.1 within holds at (cells (unheld_safe a k g.guard g.left safe hold stands)) in
    let stored = stores a k line mark g.guard g.left g.right t u xs way known.2 trips.0 some no_hold moved guard_regular regular named both.0 both.1 in
    let is = sym (ap (λ b. does_all (fortran90 width) None b t) form) ∙ stored.1 in
    (ap (λ (z : State). z.way) is ∙ way, ap (λ (z : State). z.store) is)
