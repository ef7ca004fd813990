-- Steps that are counted.
use Rattle.std.proofs.Common.{◌≡◌, refl, sym, ap, ◌∙◌, ℕ, ◌+◌, ◌-◌, ◌<◌, true, false, List, Ok, Err, Option, Some, None, arith}
use Rattle.std.proofs.lemmas.Bool.{false_from_ne_true}
use Rattle.std.proofs.lemmas.Bool.Decides.{Decides-ltb}
use Rattle.std.specs.Prelude.{nat_lt}
use Rattle.tree.specs.Plain.{Declaration}
use Rattle.meaning.specs.Run.{State, Going, is_allowed}
use Rattle.machine.specs.Moments.{Seen}
use Rattle.machine.specs.declared.progress.Halt.TheVariants.{Limit}
use Rattle.meaning.specs.Texts.{without_cr}
use Rattle.std.specs.Prelude.{drop}
use Rattle.machine.specs.Moments.{Stands, CountsStep, steps_left}

-- the same moment after a step
stepped : (names : List Declaration) (limit : Option ℕ) (input : List ℕ) (m n : Seen) (s : State) → Stands names limit input m Going s
    → n.names ≡ m.names → n.store ≡ m.store → n.progress.at ≡ m.progress.at → n.progress.had_value ≡ m.progress.had_value
    → n.progress.left ≡ steps_left limit (s.steps + 1) → Stands names limit input n Going (record s { steps = s.steps + 1 })
stepped names limit input m n s h a st b c e = record {
  names_are = a ∙ h.names_are;
  store = h.store ∙ sym st;
  input_left = h.input_left ∙ ap (λ k. without_cr (drop k input)) (sym b);
  had_value = h.had_value ∙ sym c;
  steps = e;
  way_is = h.way_is;
}

pub step_unlimited : (m : Seen) → m.progress.left ≡ None → CountsStep m m (Ok tt)
unfolding CountsStep
step_unlimited m e names limit input s h = by limit h
  where
    by : (limit : Option ℕ) → Stands names limit input m Going s → (is_allowed limit s.steps ≡ true) × Stands names limit input m Going (record s { steps = s.steps + 1 })
    by None h = (refl, stepped names None input m m s h refl refl refl refl e)
    by (Some n) h = let bad : ◌≡◌ {A = Option ℕ} None (Some (n - s.steps)) = sym e ∙ h.steps in cc

pub step_missing : (m : Seen) → m.progress.left ≡ Some 0 → CountsStep m m (Err Limit)
unfolding CountsStep
step_missing m e = (refl, refl, λ names limit input s h. by names limit input s h)
  where
    by : (names : List Declaration) (limit : Option ℕ) (input : List ℕ) (s : State) → Stands names limit input m Going s → is_allowed limit s.steps ≡ false
    by names None input s h = let bad : ◌≡◌ {A = Option ℕ} (Some 0) None = sym e ∙ h.steps in cc
    by names (Some n) input s h =
        let same : Some 0 ≡ Some (n - s.steps) = sym e ∙ h.steps in
        let none : 0 ≡ n - s.steps = cc in
        false_from_ne_true (nat_lt s.steps n) (λ t. let l = (Decides-ltb s.steps n).0 t in omega arith)

pub step_taken : (m n : Seen) (k : ℕ) → m.progress.left ≡ Some k → 0 < k → n.names ≡ m.names → n.store ≡ m.store → n.progress.at ≡ m.progress.at
    → n.progress.had_value ≡ m.progress.had_value → n.progress.left ≡ Some (k - 1) → CountsStep m n (Ok tt)
unfolding CountsStep
step_taken m t k e p a st b c d names limit input s h = by limit h
  where
    by : (limit : Option ℕ) → Stands names limit input m Going s → (is_allowed limit s.steps ≡ true) × Stands names limit input t Going (record s { steps = s.steps + 1 })
    by None h = let bad : ◌≡◌ {A = Option ℕ} (Some k) None = sym e ∙ h.steps in cc
    by (Some n) h =
        let same : Some k ≡ Some (n - s.steps) = sym e ∙ h.steps in
        let count : k ≡ n - s.steps = cc in
        let fewer : k - 1 ≡ n - (s.steps + 1) = omega arith in
        ((Decides-ltb s.steps n).1 (omega arith), stepped names (Some n) input m t s h a st b c (d ∙ ap (λ j. let o : Option ℕ = Some j in o) fewer))

pub ruleset step_laws = (step_unlimited, step_missing, step_taken)
