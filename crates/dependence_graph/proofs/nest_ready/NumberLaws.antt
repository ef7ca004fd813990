-- The numbers of loops, part by part.
use Rattle.std.proofs.Common.{◌≡◌, ℕ, ◌+◌, List, [], ◌∷◌, ◌++◌, map, refl, sym, ap, ap₂, ◌∙◌, append_assoc}
use Rattle.std.specs.List.{flat_map}
use Rattle.std.proofs.lemmas.List.{append-nil, map-append}
use Rattle.tree.specs.declared.lists.Seq.{Seq}
use Rattle.nest.specs.Bodies.{loops_in_branches, loops_in_parts, loops_of}
use Rattle.nest.specs.Plain as P
use Rattle.nest.specs.View.{Branch, branch_of, branches, part_of}
use Rattle.nest.specs.declared.parts.GuardedStmt.{GuardedStmt}
use Rattle.nest.specs.declared.parts.Loop.{Loop}
use Rattle.nest.specs.declared.parts.NestArm.{NestArm, out-NestArm}
use Rattle.nest.specs.declared.parts.Part.{Part}
use Rattle.nest.specs.declared.parts.Part.TheVariants as variants
use Rattle.nest.proofs.Equations.{part_of-run, part_of-turns, part_of-choice, part_of-label, part_of-jump, branch_of-is}
use Rattle.dependence_graph.specs.nest_ready.Gathered.{loops_in_branch, numbers_of}

abbrev numbers_in : P.Part → List ℕ
numbers_in p = numbers_of (loops_of p)

each_part : (ps : List P.Part) → numbers_of (loops_in_parts (P.parts ps)) ≡ flat_map numbers_in ps
each_part [] = refl
each_part (p ∷ ps) = map-append (λ (l : P.Loop). l.number) (loops_of p) (loops_in_parts (P.parts ps)) ∙ ap (λ ns. numbers_in p ++ ns) (each_part ps)

each_branch : (bs : List Branch) → numbers_of (loops_in_branches (branches bs)) ≡ flat_map (λ (b : Branch). numbers_of (loops_in_branch b)) bs
each_branch [] = refl
each_branch (b ∷ bs) =
    map-append (λ (l : P.Loop). l.number) (loops_in_parts b.body) (loops_in_branches (branches bs)) ∙ ap (λ ns. numbers_of (loops_in_branch b) ++ ns) (each_branch bs)

pub number-run : (s : GuardedStmt) → numbers_of (loops_of (part_of (variants.Run s))) ≡ []
number-run s = ap numbers_in (part_of-run s)

pub number-turns : (l : Loop) (ps : Seq Part) → numbers_of (loops_of (part_of (variants.Turns l ps))) ≡ l.number ∷ flat_map (λ p. numbers_of (loops_of p)) (map part_of ps)
number-turns l ps = ap numbers_in (part_of-turns l ps) ∙ ap (λ ns. l.number ∷ ns) (each_part (map part_of ps))

pub number-choice : (bs : Seq NestArm) (ps : Seq Part) → numbers_of (loops_of (part_of (variants.Choice bs ps)))
    ≡ flat_map (λ b. numbers_of (loops_in_branch b)) (map branch_of bs) ++ flat_map (λ p. numbers_of (loops_of p)) (map part_of ps)
number-choice bs ps =
    ap numbers_in (part_of-choice bs ps)
    ∙ map-append (λ (l : P.Loop). l.number) (loops_in_branches (branches (map branch_of bs))) (loops_in_parts (P.parts (map part_of ps)))
    ∙ ap₂ (λ ns ms. ns ++ ms) (each_branch (map branch_of bs)) (each_part (map part_of ps))

pub number-label : (n : ℕ) → numbers_of (loops_of (part_of (variants.Label n))) ≡ []
number-label n = ap numbers_in (part_of-label n)

pub number-jump : (n : ℕ) → numbers_of (loops_of (part_of (variants.Jump n))) ≡ []
number-jump n = ap numbers_in (part_of-jump n)

pub number-arm : (a : NestArm) → numbers_of (loops_in_branch (branch_of a)) ≡ flat_map (λ p. numbers_of (loops_of p)) (map part_of (out-NestArm a).body)
number-arm a = ap (λ b. numbers_of (loops_in_branch b)) (branch_of-is a) ∙ each_part (map part_of (out-NestArm a).body)

pub ruleset number_laws = (number-run, number-turns, number-choice, number-label, number-jump, number-arm, append_assoc, append-nil)
