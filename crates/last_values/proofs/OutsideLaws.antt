-- Where a name stands in each kind of part.
use Rattle.std.proofs.Common.{◌≡◌, ℕ, false, ◌||◌, if◌then◌else◌, List, [], ◌∷◌, map, refl, ap, ◌∙◌}
use Rattle.std.specs.List.{list_any}
use Rattle.std.specs.Str.{bytes_eq}
use Rattle.tree.specs.View.{expression_of}
use Rattle.tree.specs.declared.lists.Seq.{Seq}
use Rattle.nest.specs.declared.parts.Loop.{Loop}
use Rattle.nest.specs.declared.parts.GuardedStmt.{GuardedStmt}
use Rattle.nest.specs.declared.parts.Part.{Part}
use Rattle.nest.specs.declared.parts.Part.TheVariants as variants
use Rattle.nest.specs.declared.parts.NestArm.{NestArm, out-NestArm}
use Rattle.nest.specs.Plain as P
use Rattle.nest.specs.View.{Branch, branch_of, branches, guarded_of, loop_of, part_of}
use Rattle.nest.proofs.Equations.{part_of-run, part_of-turns, part_of-choice, part_of-label, part_of-jump, branch_of-is}
use Rattle.last_values.specs.Occurrences.{stands_in, stands_in_statement, stands_in_bounds, stands_outside}
use Rattle.last_values.specs.Occurrences.{stands_outside_in_each, stands_outside_in_branches}
use Rattle.last_values.specs.Arms.{stands_outside_in_branch}

each_part : (v : List ℕ) (ps : List P.Part) → stands_outside_in_each v (P.parts ps) ≡ list_any (stands_outside v) ps
each_part v [] = refl
each_part v (p ∷ ps) = ap (λ b. stands_outside v p || b) (each_part v ps)

each_branch : (v : List ℕ) (bs : List Branch) → stands_outside_in_branches v (branches bs) ≡ list_any (stands_outside_in_branch v) bs
each_branch v [] = refl
each_branch v (b ∷ bs) = ap (λ x. stands_outside_in_branch v b || x) (each_branch v bs)

pub outside-run : (v : List ℕ) (s : GuardedStmt) → stands_outside v (part_of (variants.Run s)) ≡ stands_in_statement v (guarded_of s)
outside-run v s = ap (stands_outside v) (part_of-run s)

pub outside-turns : (v : List ℕ) (l : Loop) (ps : Seq Part) → stands_outside v (part_of (variants.Turns l ps))
    ≡ (stands_in_bounds v (loop_of l) || (if bytes_eq l.var v then false else list_any (stands_outside v) (map part_of ps)))
outside-turns v l ps =
    ap (stands_outside v) (part_of-turns l ps)
    ∙ ap (λ b. stands_in_bounds v (loop_of l) || (if bytes_eq l.var v then false else b)) (each_part v (map part_of ps))

pub outside-choice : (v : List ℕ) (bs : Seq NestArm) (ps : Seq Part) → stands_outside v (part_of (variants.Choice bs ps))
    ≡ (list_any (stands_outside_in_branch v) (map branch_of bs) || list_any (stands_outside v) (map part_of ps))
outside-choice v bs ps =
    ap (stands_outside v) (part_of-choice bs ps)
    ∙ ap (λ b. b || stands_outside_in_each v (P.parts (map part_of ps))) (each_branch v (map branch_of bs))
    ∙ ap (λ b. list_any (stands_outside_in_branch v) (map branch_of bs) || b) (each_part v (map part_of ps))

pub outside-label : (v : List ℕ) (n : ℕ) → stands_outside v (part_of (variants.Label n)) ≡ false
outside-label v n = ap (stands_outside v) (part_of-label n)

pub outside-jump : (v : List ℕ) (n : ℕ) → stands_outside v (part_of (variants.Jump n)) ≡ false
outside-jump v n = ap (stands_outside v) (part_of-jump n)

pub outside-arm : (v : List ℕ) (a : NestArm) → stands_outside_in_branch v (branch_of a)
    ≡ (stands_in v (expression_of (out-NestArm a).test) || list_any (stands_outside v) (map part_of (out-NestArm a).body))
outside-arm v a =
    ap (stands_outside_in_branch v) (branch_of-is a)
    ∙ ap (λ b. stands_in v (expression_of (out-NestArm a).test) || b) (each_part v (map part_of (out-NestArm a).body))

pub ruleset outside_laws = (outside-run, outside-turns, outside-choice, outside-label, outside-jump, outside-arm)
