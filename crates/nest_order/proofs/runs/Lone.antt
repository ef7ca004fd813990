-- Array forms of statements that don't depend on themselves do what the instances do.
use Rattle.std.proofs.Common.{◌≡◌, refl, sym, ◌∙◌, subst, inl, ℕ, List, [], ◌∷◌, map, Ok}
use Rattle.nest_order.specs.orders.Orders.{runs}
use Rattle.nest_order.specs.orders.Shapes.{Stands, instances}
use Rattle.nest_order.specs.runs.Alone.{chain, inside}
use Rattle.nest_order.specs.runs.Forms.{AreCounted, IsPart, acts_at}
use Rattle.nest_order.specs.runs.Guarded.{sequential}
use Rattle.nest_order.specs.runs.LoneForms.{LoneFormsAreInstances, LoneFormsKeepMeaning}
use Rattle.nest_order.specs.runs.Nests.{acts}
use Rattle.nest_order.proofs.runs.Alone.{inner_apart}
use Rattle.nest_order.proofs.runs.OneByOne.{one_by_one}
use Rattle.nest_order.proofs.runs.Results.{runs-map}
use Rattle.nest_order.proofs.runs.Translating.{translation_keeps_meaning}

chain_self : (ls : List ℕ) (s : ℕ) → Stands (chain ls s) s ls
chain_self [] s = refl
chain_self (l ∷ ls) s = (refl, inl (chain_self ls s))

pub lone_forms_are_instances : LoneFormsAreInstances
lone_forms_are_instances bits arrays n w arcs form ok complete lone outer before t c st u f part within counted holds at way e =
    let d = lone outer t c f in
    let s = d.0 in
    let inner = d.1 in
    let there = subst (IsPart bits n w outer) d.2 part s inner (chain_self inner s) in
    let turns = n.turns_of w.values in
    let run = subst (λ z. runs (acts_at bits n w before) (instances turns z before) st.store ≡ Ok u) d.2 e in
    let moved = runs-map (acts n (sequential bits)) (acts_at bits n w before) (inside before) (instances turns (chain inner s) before) st.store (λ x z. refl) in
    let one = one_by_one n (sequential bits) (map (inside before) (instances turns (chain inner s) before)) st.store in
    let apart = inner_apart bits n w ok arcs complete s there.0 outer inner before there.1 d.3 within st.store holds in
    d.4 before st u within (subst (AreCounted bits n w outer before) d.2 counted) holds at way apart.0 apart.1 (sym one ∙ (moved ∙ run))

pub lone_forms_keep_meaning : LoneFormsKeepMeaning
lone_forms_keep_meaning bits arrays n w arcs ts y z form s wide ok complete emitted lone inside go =
    translation_keeps_meaning bits arrays n w arcs ts y z form s wide ok complete emitted (lone_forms_are_instances bits arrays n w arcs form ok complete lone) inside go
