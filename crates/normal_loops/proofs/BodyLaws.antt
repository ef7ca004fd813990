-- What stands for the parts of a nest, part by part.
use Rattle.std.proofs.Common.{◌≡◌, ℕ, Option, None, Result, Ok, Err, OnOk, List, [], ◌∷◌, ◌++◌, map, refl, sym, ap, ap₂, ◌∙◌, append_assoc}
use Rattle.std.specs.List.{flat_map}
use Rattle.std.proofs.lemmas.List.{append-nil, map-append}
use Rattle.tree.specs.declared.lists.Seq.{Seq}
use Rattle.nest.specs.Plain as P
use Rattle.nest.specs.View.{Branch, branch_of, branches, guarded_of, loop_of, part_of}
use Rattle.nest.specs.declared.parts.GuardedStmt.{GuardedStmt}
use Rattle.nest.specs.declared.parts.Loop.{Loop}
use Rattle.nest.specs.declared.parts.NestArm.{NestArm, out-NestArm}
use Rattle.nest.specs.declared.parts.Part.{Part}
use Rattle.nest.specs.declared.parts.Part.TheVariants as variants
use Rattle.nest.proofs.Equations.{part_of-run, part_of-turns, part_of-choice, part_of-label, part_of-jump, branch_of-is, part_equations}
use Rattle.last_values.specs.normal_forms.NormalLoops.{normal_loop}
use Rattle.last_values.specs.declared.normal_forms.loops.NormalLoop.{NormalLoop}
use Rattle.last_values.specs.declared.behind.NestedLoop.{NestedLoop}
use Rattle.normal_loops.specs.Loops.{with_loop}
use Rattle.normal_loops.specs.Bodies.{normal_turns, normal_part, normal_parts, normal_branches}
use Rattle.normal_loops.specs.Arms.{normal_branch}
use Rattle.normal_loops.specs.Values.{normal_statement}

module _ (n : P.Nest) (ls : List NestedLoop) where
  pub each_part : (round : List NormalLoop) (ps : List P.Part) → normal_parts n ls round (P.parts ps) ≡ flat_map (normal_part n ls round) ps
  each_part round [] = refl
  each_part round (p ∷ ps) = ap (λ qs. normal_part n ls round p ++ qs) (each_part round ps)

  module _ (round : List NormalLoop) where
    each_branch : (bs : List Branch) → normal_branches n ls round (branches bs) ≡ branches (map (normal_branch n ls round) bs)
    each_branch [] = refl
    each_branch (b ∷ bs) = ap (P.branch (normal_branch n ls round b).test (normal_branch n ls round b).body) (each_branch bs)

    pub body-run : (s : GuardedStmt) → normal_part n ls round (part_of (variants.Run s)) ≡ P.Run (normal_statement n.symbols round (guarded_of s)) ∷ []
    body-run s = ap (normal_part n ls round) (part_of-run s)

    pub body-turns : (l : Loop) (ps : Seq Part) → normal_part n ls round (part_of (variants.Turns l ps))
        ≡ normal_turns n ls round (loop_of l) (normal_loop n.symbols round (loop_of l)) (flat_map (normal_part n ls (with_loop round (normal_loop n.symbols round (loop_of l)))) (map part_of ps))
    body-turns l ps =
        ap (normal_part n ls round) (part_of-turns l ps)
        ∙ ap (normal_turns n ls round (loop_of l) (normal_loop n.symbols round (loop_of l))) (each_part (with_loop round (normal_loop n.symbols round (loop_of l))) (map part_of ps))

    pub body-choice : (bs : Seq NestArm) (ps : Seq Part) → normal_part n ls round (part_of (variants.Choice bs ps))
        ≡ P.Choice (branches (map (normal_branch n ls round) (map branch_of bs))) (P.parts (flat_map (normal_part n ls round) (map part_of ps))) ∷ []
    body-choice bs ps =
        ap (normal_part n ls round) (part_of-choice bs ps)
        ∙ ap₂ (λ a b. P.Choice a (P.parts b) ∷ []) (each_branch (map branch_of bs)) (each_part round (map part_of ps))

    pub body-label : (k : ℕ) → normal_part n ls round (part_of (variants.Label k)) ≡ P.Label k ∷ []
    body-label k = ap (normal_part n ls round) (part_of-label k)

    pub body-jump : (k : ℕ) → normal_part n ls round (part_of (variants.Jump k)) ≡ P.Jump k ∷ []
    body-jump k = ap (normal_part n ls round) (part_of-jump k)

-- ---- one part more

pub kept : {A E : Type 0} {P Q : Type 0} (r : Result A E) → (P → Q) → OnOk r P → OnOk r Q
kept (Ok x) f h = f h
kept (Err e) f h = h

push-part : (made new : List Part) (x : Part) (q : P.Part) → part_of x ≡ q → new ≡ made ++ x ∷ [] → map part_of new ≡ map part_of made ++ q ∷ []
push-part made new x q e now =
    ap (map part_of) now ∙ map-append part_of made (x ∷ []) ∙ ap (λ (p : P.Part). map part_of made ++ p ∷ []) e

module _ (n : P.Nest) (ls : List NestedLoop) (round : List NormalLoop) (made new : List Part) where
  pub run-is : (s k : GuardedStmt) → guarded_of k ≡ normal_statement n.symbols round (guarded_of s) → new ≡ made ++ variants.Run k ∷ []
      → map part_of new ≡ map part_of made ++ normal_part n ls round (part_of (variants.Run s))
  run-is s k e now =
      push-part made new (variants.Run k) (P.Run (normal_statement n.symbols round (guarded_of s))) (part_of-run k ∙ ap P.Run e) now
      ∙ ap (λ (q : List P.Part). map part_of made ++ q) (sym (body-run n ls round s))

  pub choice-is : (bs cs : Seq NestArm) (ps qs : Seq Part) → map branch_of cs ≡ map (normal_branch n ls round) (map branch_of bs)
      → map part_of qs ≡ flat_map (normal_part n ls round) (map part_of ps) → new ≡ made ++ variants.Choice cs qs ∷ []
      → map part_of new ≡ map part_of made ++ normal_part n ls round (part_of (variants.Choice bs ps))
  choice-is bs cs ps qs e f now =
      push-part made new (variants.Choice cs qs) (P.Choice (branches (map (normal_branch n ls round) (map branch_of bs))) (P.parts (flat_map (normal_part n ls round) (map part_of ps))))
      (part_of-choice cs qs ∙ ap₂ (λ (x : List Branch) (y : List P.Part). P.Choice (branches x) (P.parts y)) e f) now
      ∙ ap (λ (q : List P.Part). map part_of made ++ q) (sym (body-choice n ls round bs ps))

  pub label-is : (k : ℕ) → new ≡ made ++ variants.Label k ∷ [] → map part_of new ≡ map part_of made ++ normal_part n ls round (part_of (variants.Label k))
  label-is k now = push-part made new (variants.Label k) (P.Label k) (part_of-label k) now ∙ ap (λ (q : List P.Part). map part_of made ++ q) (sym (body-label n ls round k))

  pub jump-is : (k : ℕ) → new ≡ made ++ variants.Jump k ∷ [] → map part_of new ≡ map part_of made ++ normal_part n ls round (part_of (variants.Jump k))
  jump-is k now = push-part made new (variants.Jump k) (P.Jump k) (part_of-jump k) now ∙ ap (λ (q : List P.Part). map part_of made ++ q) (sym (body-jump n ls round k))

  -- a loop without a form from 1 by 1 stays
  pub loop-stays : (o : Option NormalLoop) (l k : Loop) (ps : Seq Part) → o ≡ None → loop_of k ≡ loop_of l → new ≡ made ++ variants.Turns k ps ∷ []
      → map part_of new ≡ map part_of made ++ normal_turns n ls round (loop_of l) o (map part_of ps)
  loop-stays o l k ps e same now =
      push-part made new (variants.Turns k ps) (P.Turns (loop_of l) (P.parts (map part_of ps))) (part_of-turns k ps ∙ ap (λ (q : P.Loop). P.Turns q (P.parts (map part_of ps))) same) now
      ∙ ap (λ (q : Option NormalLoop). map part_of made ++ normal_turns n ls round (loop_of l) q (map part_of ps)) (sym e)

pub ruleset body_laws = (body-run, body-turns, body-choice, body-label, body-jump, part_equations, each_part)
