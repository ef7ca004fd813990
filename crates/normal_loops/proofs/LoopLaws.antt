-- The loops of a nest, part by part.
use Rattle.std.proofs.Common.{◌≡◌, ℕ, ◌<◌, ◌≤◌, Bool, true, false, ◌&&◌, is_some, Option, Some, None, ℤ, pos, ◌<ℤ◌, All, length, arith, List, [], ◌∷◌, ◌++◌, map, refl, sym, subst, ap, ap₂, ◌∙◌, append_assoc}
use Rattle.std.specs.List.{flat_map, list_all}
use Rattle.std.proofs.lemmas.List.{append-nil}
use Rattle.std.proofs.lemmas.List.Elements.{All-nil, All-push}
use Rattle.tree.specs.declared.lists.Seq.{Seq}
use Rattle.nest.specs.Plain as P
use Rattle.nest.specs.View.{Branch, branch_of, branches, loop_of, part_of}
use Rattle.nest.specs.declared.parts.GuardedStmt.{GuardedStmt}
use Rattle.nest.specs.declared.parts.Loop.{Loop}
use Rattle.nest.specs.declared.parts.NestArm.{NestArm, out-NestArm}
use Rattle.nest.specs.declared.parts.Part.{Part}
use Rattle.nest.specs.declared.parts.Part.TheVariants as variants
use Rattle.nest.proofs.Equations.{part_of-run, part_of-turns, part_of-choice, part_of-label, part_of-jump, branch_of-is}
use Rattle.last_values.specs.normal_forms.NormalLoops.{normal_loop}
use Rattle.last_values.specs.declared.normal_forms.loops.NormalLoop.{NormalLoop}
use Rattle.last_values.specs.Nested.{IsNested}
use Rattle.last_values.specs.declared.behind.NestedLoop.{NestedLoop}
use Rattle.normal_loops.specs.Loops.{with_loop, nested, nested_loops}
use Rattle.normal_loops.specs.Normal.{is_normal, are_normal, are_normal_branches}
use Rattle.normal_loops.specs.Loops.{nested_in_parts, nested_in_branches}
use Rattle.normal_loops.specs.Arms.{is_normal_branch, nested_in_branch}

module _ (symbols : List (List ℕ)) (round : List NormalLoop) where
  -- ---- forms from 1 by 1

  all_parts : (ps : List P.Part) → are_normal symbols round (P.parts ps) ≡ list_all (is_normal symbols round) ps
  all_parts [] = refl
  all_parts (p ∷ ps) = ap (λ b. is_normal symbols round p && b) (all_parts ps)

  all_branches : (bs : List Branch) → are_normal_branches symbols round (branches bs) ≡ list_all (is_normal_branch symbols round) bs
  all_branches [] = refl
  all_branches (b ∷ bs) = ap (λ x. is_normal_branch symbols round b && x) (all_branches bs)

  pub form-run : (s : GuardedStmt) → is_normal symbols round (part_of (variants.Run s)) ≡ true
  form-run s = ap (is_normal symbols round) (part_of-run s)

  pub form-choice : (bs : Seq NestArm) (ps : Seq Part) → is_normal symbols round (part_of (variants.Choice bs ps))
      ≡ (list_all (is_normal_branch symbols round) (map branch_of bs) && list_all (is_normal symbols round) (map part_of ps))
  form-choice bs ps = ap (is_normal symbols round) (part_of-choice bs ps) ∙ ap₂ (λ a b. a && b) (all_branches (map branch_of bs)) (all_parts (map part_of ps))

  pub form-label : (n : ℕ) → is_normal symbols round (part_of (variants.Label n)) ≡ true
  form-label n = ap (is_normal symbols round) (part_of-label n)

  pub form-jump : (n : ℕ) → is_normal symbols round (part_of (variants.Jump n)) ≡ true
  form-jump n = ap (is_normal symbols round) (part_of-jump n)

  pub form-arm : (a : NestArm) → is_normal_branch symbols round (branch_of a) ≡ list_all (is_normal symbols round) (map part_of (out-NestArm a).body)
  form-arm a = ap (is_normal_branch symbols round) (branch_of-is a) ∙ all_parts (map part_of (out-NestArm a).body)

  -- ---- the list of the loops

  each_part : (ps : List P.Part) → nested_in_parts symbols round (P.parts ps) ≡ flat_map (nested_loops symbols round) ps
  each_part [] = refl
  each_part (p ∷ ps) = ap (λ ls. nested_loops symbols round p ++ ls) (each_part ps)

  each_branch : (bs : List Branch) → nested_in_branches symbols round (branches bs) ≡ flat_map (nested_in_branch symbols round) bs
  each_branch [] = refl
  each_branch (b ∷ bs) = ap (λ ls. nested_in_branch symbols round b ++ ls) (each_branch bs)

  pub loop-run : (s : GuardedStmt) → nested_loops symbols round (part_of (variants.Run s)) ≡ []
  loop-run s = ap (nested_loops symbols round) (part_of-run s)

  pub loop-choice : (bs : Seq NestArm) (ps : Seq Part) → nested_loops symbols round (part_of (variants.Choice bs ps))
      ≡ flat_map (nested_in_branch symbols round) (map branch_of bs) ++ flat_map (nested_loops symbols round) (map part_of ps)
  loop-choice bs ps = ap (nested_loops symbols round) (part_of-choice bs ps) ∙ ap₂ (λ a b. a ++ b) (each_branch (map branch_of bs)) (each_part (map part_of ps))

  pub loop-label : (n : ℕ) → nested_loops symbols round (part_of (variants.Label n)) ≡ []
  loop-label n = ap (nested_loops symbols round) (part_of-label n)

  pub loop-jump : (n : ℕ) → nested_loops symbols round (part_of (variants.Jump n)) ≡ []
  loop-jump n = ap (nested_loops symbols round) (part_of-jump n)

  pub loop-arm : (a : NestArm) → nested_in_branch symbols round (branch_of a) ≡ flat_map (nested_loops symbols round) (map part_of (out-NestArm a).body)
  loop-arm a = ap (nested_in_branch symbols round) (branch_of-is a) ∙ each_part (map part_of (out-NestArm a).body)

module _ (symbols : List (List ℕ)) (round : List NormalLoop) (l : Loop) (ps : Seq Part) where
  abbrev form : Option NormalLoop
  form = normal_loop symbols round (loop_of l)

  abbrev with_form : Option NormalLoop → Bool
  with_form o = is_some o && list_all (is_normal symbols (with_loop round o)) (map part_of ps)

  form-is : is_normal symbols round (part_of (variants.Turns l ps)) ≡ with_form form
  form-is = ap (is_normal symbols round) (part_of-turns l ps) ∙ ap (λ b. is_some form && b) (all_parts symbols (with_loop round form) (map part_of ps))

  pub form-none : form ≡ None → is_normal symbols round (part_of (variants.Turns l ps)) ≡ false
  form-none e = form-is ∙ ap with_form e

  pub form-some : (r : NormalLoop) → form ≡ Some r
      → is_normal symbols round (part_of (variants.Turns l ps)) ≡ list_all (is_normal symbols (round ++ r ∷ [])) (map part_of ps)
  form-some r e = form-is ∙ ap with_form e

  pub loop-turns : nested_loops symbols round (part_of (variants.Turns l ps))
      ≡ nested round form ++ flat_map (nested_loops symbols (with_loop round form)) (map part_of ps)
  loop-turns = ap (nested_loops symbols round) (part_of-turns l ps) ∙ ap (λ ls. nested round form ++ ls) (each_part symbols (with_loop round form) (map part_of ps))

pub ruleset form_laws = (form-run, form-none, form-some, form-choice, form-label, form-jump, form-arm)

pub ruleset loop_laws = (loop-run, loop-turns, loop-choice, loop-label, loop-jump, loop-arm, append_assoc, append-nil)

-- ---- loops in at most six others

pub nested-none : (ls : List NestedLoop) → ls ≡ [] → All IsNested ls
nested-none ls e = subst (All IsNested) (sym e) (All-nil IsNested)

pub nested-more : (ls : List NestedLoop) (round : List NormalLoop) (r : NormalLoop) → All IsNested ls → length round < 7 → pos 0 <ℤ r.trip.by
    → All IsNested (ls ++ record { round = round; turns = r } ∷ [])
nested-more ls round r h deep divisor =
    All-push IsNested ls (record { round = round; turns = r }) h (record { deep = omega (arith, deep); divisor = divisor })

pub ruleset nested_laws = (nested-none, nested-more)
