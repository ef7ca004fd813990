use Rattle.std.proofs.Common.{rules, arith, refl, Bool, true, false, ap, ◌∙◌, sym, subst, ◌≡◌, ◌≢◌, ℕ, ◌+◌, ◌-◌, ◌<◌, ◌≤◌, ◌*◌, ◌^◌, ◌⊎◌, inl, inr, length, get_or}
use Rattle.std.specs.Prelude.{pos, ℤ, FitsSigned, unsigned_abs, All}
use Rattle.std.proofs.lemmas.Int.{ints, to_z-of_z}
use Rattle.std.proofs.lemmas.Bool.{cases_eq, cases_lt}
use Rattle.std.proofs.lemmas.List.{get_or_default}
use Rattle.std.proofs.lemmas.List.Elements.{All-get_or}
use mir.Syntax.{w64, w128}
use Rattle.dependence_tests.proofs.gcd_banerjee.LoopValues.{HasSeven, least_before_place, least_past}
use Rattle.dependence_tests.proofs.gcd_banerjee.Sums.{sum_within, wider}
use Rattle.dependence_tests.specs.gcd_banerjee.Extremes.{IsLoopsValue, IsReduced, turned}
use Rattle.dependence_tests.specs.gcd_banerjee.Least.{IsLeastOf, IsWithin, plus_least}
use Rattle.subscripts.specs.Iterations.{once}
use Rattle.subscripts.specs.Shapes.{AreDirsOf}
use Rattle.subscripts.specs.declared.affine.Dir.{Dir}
use Rattle.subscripts.specs.declared.affine.Dir.TheVariants.{Any}
use Rattle.subscripts.specs.declared.affine.Dirs.{Dirs}
use Rattle.subscripts.specs.declared.affine.Span.{Span}
use Rattle.subscripts.specs.declared.pairing.Pairing.{Pairing}
use Rattle.dependence_tests.proofs.gcd_banerjee.extremes.least_of_loops.Goals as goal

pub loop-k-init : goal.loop-k-init
loop-k-init c = record { start = λ e. refl; least = λ l. absurd (omega arith); within = omega arith }

-- where something is asked, the loop is round both
same_spans : (p : Pairing) (d : Dirs) (j : ℕ) (e f : Span) (g : Dir) → IsReduced p → AreDirsOf p d → HasSeven p d → j < 7
    → get_or d.at j g ≢ Any → get_or p.from_spans j e ≡ get_or p.to_spans j f
same_spans p d j e f g r h s l n =
    elim (cases_lt j p.common) [
      | inl k ↦ get_or_default p.from_spans j e once (omega arith) ∙ r.common_spans j k ∙ get_or_default p.to_spans j once f (omega arith)
      | inr k ↦ absurd (n (get_or_default d.at j g Any (omega arith) ∙ h.past_len j k))
    ]

small_turned : (o : Bool) (z : ℤ) → unsigned_abs z ≤ 2 ^ 42 → unsigned_abs (turned o z) ≤ 2 ^ 42
small_turned false z h = h
small_turned true z h = omega (arith, ints)

pub least_term-requires-clause-first : goal.least_term-requires-clause-first
least_term-requires-clause-first c =
    let a : FitsSigned w64 (get_or c.args.p.now.from.loops (c.loop-k.k - 1) (pos 0)) = search rules in
    let m : FitsSigned w128 c.from.result = search rules in
    let i : c.from.result ≡ get_or c.args.p.now.from.loops (c.loop-k.k - 1) (pos 0) = omega (arith, ints) in
    let f : FitsSigned w128 c.turned-first.result = search rules in
    let x = rw i at (simp to_z-of_z at c.turned-first.ensures) in
    simp to_z-of_z (rw x (small_turned c.args.opposite _ (All-get_or (λ z. unsigned_abs z ≤ 2 ^ 42) c.args.p.now.from.loops (c.loop-k.k - 1) (pos 0) (omega arith) c.requires.reduced.first)))

pub least_term-requires-clause-second : goal.least_term-requires-clause-second
least_term-requires-clause-second c =
    let a : FitsSigned w64 (get_or c.args.p.now.to.loops (c.loop-k.k - 1) (pos 0)) = search rules in
    let m : FitsSigned w128 c.from-in-loop-k.result = search rules in
    let i : c.from-in-loop-k.result ≡ get_or c.args.p.now.to.loops (c.loop-k.k - 1) (pos 0) = omega (arith, ints) in
    let f : FitsSigned w128 c.turned-second.result = search rules in
    let x = rw i at (simp to_z-of_z at c.turned-second.ensures) in
    simp to_z-of_z (rw x (small_turned c.args.opposite _ (All-get_or (λ z. unsigned_abs z ≤ 2 ^ 42) c.args.p.now.to.loops (c.loop-k.k - 1) (pos 0) (omega arith) c.requires.reduced.second)))

pub least_term-requires-clause-spans : goal.least_term-requires-clause-spans
least_term-requires-clause-spans c =
    let s : HasSeven c.args.p.now c.args.d.now = record { first = omega arith; second = omega arith; first_spans = omega arith; second_spans = omega arith; dirs = omega arith } in
    same_spans c.args.p.now c.args.d.now (c.loop-k.k - 1) _ _ _ c.requires.reduced c.requires.dirs s (omega arith)

pub plus-least-requires-clause-second : goal.plus-least-requires-clause-second
plus-least-requires-clause-second c = wider _ (2 ^ 125) c.loop-k.least (omega arith) c.loop-k.invariant.within

pub loop-k-preserved : goal.loop-k-preserved
loop-k-preserved c =
    let s : HasSeven c.args.p.now c.args.d.now = record { first = omega arith; second = omega arith; first_spans = omega arith; second_spans = omega arith; dirs = omega arith } in
    let a : FitsSigned w64 (get_or c.args.p.now.from.loops (c.loop-k.k - 1) (pos 0)) = search rules in
    let b : FitsSigned w64 (get_or c.args.p.now.to.loops (c.loop-k.k - 1) (pos 0)) = search rules in
    let m : FitsSigned w128 c.from.result = search rules in
    let i : c.from.result ≡ get_or c.args.p.now.from.loops (c.loop-k.k - 1) (pos 0) = omega (arith, ints) in
    let f : FitsSigned w128 c.turned-first.result = search rules in
    let n : FitsSigned w128 c.from-in-loop-k.result = search rules in
    let j : c.from-in-loop-k.result ≡ get_or c.args.p.now.to.loops (c.loop-k.k - 1) (pos 0) = omega (arith, ints) in
    let g : FitsSigned w128 c.turned-second.result = search rules in
    let x = rw i at (simp to_z-of_z at c.turned-first.ensures) in
    let y = rw j at (simp to_z-of_z at c.turned-second.ensures) in
    let h = rw (x, y) at (simp to_z-of_z at c.least_term.ensures.least) in
    let behind : IsLeastOf (IsLoopsValue c.args.p.now c.args.d.now c.args.opposite c.loop-k.k) c.loop-k.least =
    elim (cases_eq c.loop-k.k 7) [
      | inl e ↦ rw (e, c.loop-k.invariant.start e) (least_past c.args.p.now c.args.d.now c.args.opposite s)
      | inr n ↦ c.loop-k.invariant.least (omega arith)
    ] in
    let now : IsLeastOf (IsLoopsValue c.args.p.now c.args.d.now c.args.opposite (c.loop-k.k - 1)) (plus_least c.least_term.result c.loop-k.least) =
    least_before_place c.args.p.now c.args.d.now c.args.opposite c.loop-k.k (c.loop-k.k - 1) _ _ _ c.least_term.result c.loop-k.least s (omega arith) (omega arith) h behind in
    record {
      start = λ e. absurd (omega arith);
      least = λ l. rw c.plus-least.ensures now;
      within = rw c.plus-least.ensures (sum_within (2 ^ 110) ((7 - c.loop-k.k) * 2 ^ 110) ((7 - (c.loop-k.k - 1)) * 2 ^ 110) c.least_term.result c.loop-k.least (omega arith) c.least_term.ensures.within c.loop-k.invariant.within);
    }

pub returns-clause-least : goal.returns-clause-least
returns-clause-least c =
    let e : c.loop-k.k ≡ 0 = omega arith in
    subst (λ k. IsLeastOf (IsLoopsValue c.args.p.now c.args.d.now c.args.opposite k) c.loop-k.least) e (c.loop-k.invariant.least (omega arith))

pub returns-clause-within : goal.returns-clause-within
returns-clause-within c = wider _ (2 ^ 113) c.loop-k.least (omega arith) c.loop-k.invariant.within
