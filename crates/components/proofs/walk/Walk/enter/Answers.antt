use Rattle.std.proofs.Common.{◌≡◌, ◌++◌, ◌∷◌, [], List, ℕ, length, set, ap, arith, ◌∙◌}
use Rattle.std.proofs.lemmas.List.{get_or_read}
use Rattle.components.specs.declared.walk.NodeState.TheVariants.{At}
use Rattle.components.specs.Targets.{row}
use Rattle.components.proofs.Parts.{entered}
use Rattle.components.proofs.walk.Walk.enter.Goals as goal

pub returns-clause-goes : goal.returns-clause-goes
returns-clause-goes c =
    let old = c.args.self.now in
    let targets : c.as_slice.result.now ≡ row c.args.rows.now c.args.number =
    c.as_slice.ensures ∙ get_or_read c.args.rows.now c.args.number c.index-rows-number.result c.requires.below c.index-rows-number.is [] in
    let long : old.path.len ≡ length old.path.items = omega (arith, old.path.ok) in
    let wide : old.work.len ≡ length old.work.items = omega (arith, old.work.ok) in
    let started : old.starts.items ++ (c.len.result, c.len-2.result) ∷ [] ≡ old.starts.items ++ (length old.path.items, length old.work.items) ∷ [] =
    ap (λ (z : ℕ). old.starts.items ++ (z, c.len-2.result) ∷ []) (c.len.ensures ∙ long) ∙ ap (λ (z : ℕ). old.starts.items ++ (length old.path.items, z) ∷ []) (c.len-2.ensures ∙ wide) in
    let p = entered c.args.rows.now c.args.number old.marks.items old.path.items old.work.items old.starts.items old.count c.requires.walk c.requires.new c.requires.below
    (set old.marks.items c.args.number (At c.len-3.result)) c.push-2.new.self.items c.extend_from_slice.new.self.items c.push.new.self.items
    (ap (λ z. set old.marks.items c.args.number (At z)) (c.len-3.ensures ∙ long))
    c.in_ok-push-2.ensures.items
    (c.in_ok-extend_from_slice.ensures.items ∙ ap (λ z. old.work.items ++ z) targets)
    (◌∙◌ {A = List (ℕ × ℕ)} c.in_ok-push.ensures.items started) in
    record { is = p.is; keeps = p.keeps; less = p.less }
