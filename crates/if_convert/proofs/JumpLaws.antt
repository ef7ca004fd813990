-- How many jumps get masks, part by part.
use Rattle.std.proofs.Common.{◌≡◌, sym, ap, ◌∙◌, ℕ, suc, ◌+◌, ◌<◌, Bool, true, false, List, ◌∷◌, map, length, drop, get_or, drop-cons, add-one, arith}
use Rattle.tree.specs.declared.lists.Seq.{Seq}
use Rattle.nest.specs.Plain as P
use Rattle.nest.specs.View.{branch_of, part_of}
use Rattle.nest.specs.declared.parts.GuardedStmt.{GuardedStmt}
use Rattle.nest.specs.declared.parts.Loop.{Loop}
use Rattle.nest.specs.declared.parts.NestArm.{NestArm, out-NestArm}
use Rattle.nest.specs.declared.parts.Part.{Part}
use Rattle.nest.specs.declared.parts.Part.TheVariants as variants
use Rattle.nest.proofs.Equations.{part_of-run, part_of-turns, part_of-choice, part_of-label, part_of-jump, branch_of-is}
use Rattle.if_convert.specs.Arms.{jumps_in_arm, jumps_in_arms, jumps_in_list}
use Rattle.if_convert.specs.Jumps.{jumps_in, skips_behind, unless}

module _ (skips : Bool) where
  pub skip-run : (s : GuardedStmt) → skips_behind skips (part_of (variants.Run s)) ≡ skips
  skip-run s = ap (skips_behind skips) (part_of-run s)

  pub skip-turns : (l : Loop) (ps : Seq Part) → skips_behind skips (part_of (variants.Turns l ps)) ≡ skips
  skip-turns l ps = ap (skips_behind skips) (part_of-turns l ps)

  pub skip-choice : (bs : Seq NestArm) (ps : Seq Part) → skips_behind skips (part_of (variants.Choice bs ps)) ≡ skips
  skip-choice bs ps = ap (skips_behind skips) (part_of-choice bs ps)

  pub skip-label : (k : ℕ) → skips_behind skips (part_of (variants.Label k)) ≡ false
  skip-label k = ap (skips_behind skips) (part_of-label k)

  pub skip-jump : (k : ℕ) → skips_behind skips (part_of (variants.Jump k)) ≡ true
  skip-jump k = ap (skips_behind skips) (part_of-jump k)

  pub count-run : (s : GuardedStmt) → jumps_in skips (part_of (variants.Run s)) ≡ 0
  count-run s = ap (jumps_in skips) (part_of-run s)

  pub count-turns : (l : Loop) (ps : Seq Part) → jumps_in skips (part_of (variants.Turns l ps)) ≡ 0
  count-turns l ps = ap (jumps_in skips) (part_of-turns l ps)

  pub count-choice : (bs : Seq NestArm) (ps : Seq Part) → jumps_in skips (part_of (variants.Choice bs ps)) ≡ unless skips (jumps_in_arms (map branch_of bs) + jumps_in_list false (map part_of ps))
  count-choice bs ps = ap (jumps_in skips) (part_of-choice bs ps)

  pub count-label : (k : ℕ) → jumps_in skips (part_of (variants.Label k)) ≡ 0
  count-label k = ap (jumps_in skips) (part_of-label k)

  pub count-jump : (k : ℕ) → jumps_in skips (part_of (variants.Jump k)) ≡ unless skips 1
  count-jump k = ap (jumps_in skips) (part_of-jump k)

pub count-arm : (a : NestArm) → jumps_in_arm (branch_of a) ≡ jumps_in_list false (map part_of (out-NestArm a).body)
count-arm a = ap jumps_in_arm (branch_of-is a)

pub ruleset skip_laws = (skip-run, skip-turns, skip-choice, skip-label, skip-jump)

pub ruleset jump_laws = (count-run, count-turns, count-choice, count-label, count-jump, count-arm)

-- ---- one more

pub left-drop : {X Y : Type 0} (f : X → Y) (xs : List X) (i : ℕ) (x : X) → i < length xs → x ≡ get_or xs i x → map f (drop i xs) ≡ f x ∷ map f (drop (i + 1) xs)
left-drop f xs i x h e = ap (map f) (drop-cons xs i x h) ∙ ap (λ y. f y ∷ map f (drop (suc i) xs)) (sym e) ∙ ap (λ n. f x ∷ map f (drop n xs)) (sym (add-one i))

pub next-part : (xs : List Part) (i : ℕ) (x : Part) (s : Bool) (n k t : ℕ) → i < length xs → x ≡ get_or xs i x → n + jumps_in_list s (map part_of (drop i xs)) ≡ t → k ≡ n + jumps_in s (part_of x)
    → k + jumps_in_list (skips_behind s (part_of x)) (map part_of (drop (i + 1) xs)) ≡ t
next-part xs i x s n k t h e g f =
    let now : n + (jumps_in s (part_of x) + jumps_in_list (skips_behind s (part_of x)) (map part_of (drop (i + 1) xs))) ≡ t
    = ap (λ ps. n + jumps_in_list s ps) (sym (left-drop part_of xs i x h e)) ∙ g in
    omega (arith, now, f)

pub next-arm : (xs : List NestArm) (i : ℕ) (x : NestArm) (n k t : ℕ) → i < length xs → x ≡ get_or xs i x → n + jumps_in_arms (map branch_of (drop i xs)) ≡ t → k ≡ n + jumps_in_arm (branch_of x)
    → k + jumps_in_arms (map branch_of (drop (i + 1) xs)) ≡ t
next-arm xs i x n k t h e g f =
    let now : n + (jumps_in_arm (branch_of x) + jumps_in_arms (map branch_of (drop (i + 1) xs))) ≡ t
    = ap (λ bs. n + jumps_in_arms bs) (sym (left-drop branch_of xs i x h e)) ∙ g in
    omega (arith, now, f)
