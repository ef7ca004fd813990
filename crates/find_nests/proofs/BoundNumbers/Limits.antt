-- A loop whose forms keep the limits, by its numbers.
use mathlib.Core.Path.{ap₂}
use Rattle.std.proofs.Common.{◌≡◌, refl, sym, ap, ◌∙◌, ℕ, suc, ◌+◌, ℤ, pos, ◌+ℤ◌, ◌-ℤ◌, ◌*ℤ◌, Bool, true, false, not, List, [], ◌∷◌, ◌++◌, length, Option, Some, None, arith}
use Rattle.std.specs.Prelude.{◌↔◌, nat_abs, int_div}
use Rattle.std.specs.Option.{option_map}
use Rattle.tree.specs.Plain.{Expression}
use Rattle.linear_forms.specs.Linear.{Form, number_at}
use Rattle.nest_reasons.specs.Increments.{step_of}
use Rattle.find_nests.specs.Loops.{SourceLoop, SurroundedLoop}
use Rattle.find_nests.specs.Reasons.{loop_leaves_limits, outers}
use Rattle.find_nests.specs.bound_limits.Composed.{Outer, composed_bound}
use Rattle.find_nests.specs.bound_limits.Limits.{all_keep_limits}
use Rattle.find_nests.specs.bound_limits.Loops.{leaves_with}
use Rattle.find_nests.specs.bound_limits.Numbers.{Counted, counted, Quantity, ForAll, IsWorth, HasForm, with_trip, dividend_of, EndHasForm, KeepsLimits}
use Rattle.find_nests.proofs.BoundLimits.WalkLaws.{step_size}
use Rattle.find_nests.proofs.BoundNumbers.Weights.{zeros, zeros_length}
use Rattle.find_nests.proofs.BoundNumbers.Alike.{Ends}
use Rattle.find_nests.proofs.BoundNumbers.Rounds.{within_is, bound_ends, outers_end}
use Rattle.find_nests.proofs.BoundNumbers.Forms.{kept_have, have_kept}

pub not_false : (a : Bool) → not a ≡ false → a ≡ true
not_false true h = refl
not_false false h = let no : ⊥ = cc in absurd no

-- ---- numbers that are the same in all iterations

has_same : (n m : ℕ) (q r : Quantity) → ForAll n m (λ xs js. q xs js ≡ r xs js) → HasForm n m q → HasForm n m r
has_same n m q r e h = record { form = h.form; is = λ xs js a b. sym (e xs js a b) ∙ h.is xs js a b; kept = h.kept }

end_has_same : (n m : ℕ) (step : ℤ) (q q' r r' : Quantity) → ForAll n m (λ xs js. q xs js ≡ q' xs js) → ForAll n m (λ xs js. r xs js ≡ r' xs js)
    → EndHasForm n m step q r → EndHasForm n m step q' r'
end_has_same n m step q q' r r' e g h = record {
  known = λ d always.
      has_same n m (λ xs js. q xs js +ℤ step *ℤ int_div d (pos (nat_abs step))) (λ xs js. q' xs js +ℤ step *ℤ int_div d (pos (nat_abs step)))
      (λ xs js a b. ap (λ z. z +ℤ step *ℤ int_div d (pos (nat_abs step))) (e xs js a b))
      (h.known d (λ xs js a b. g xs js a b ∙ always xs js a b));
  undivided = λ varies u.
      has_same n m (λ xs js. q xs js +ℤ step *ℤ r xs js) (λ xs js. q' xs js +ℤ step *ℤ r' xs js)
      (λ xs js a b. ap₂ (λ y z. y +ℤ step *ℤ z) (e xs js a b) (g xs js a b))
      (h.undivided (λ d always. varies d (λ xs js a b. sym (g xs js a b) ∙ always xs js a b)) u);
  divided = λ varies u.
      has_same (suc n) m (with_trip (λ t xs js. q xs js +ℤ step *ℤ t)) (with_trip (λ t xs js. q' xs js +ℤ step *ℤ t)) by_trip
      (h.divided (λ d always. varies d (λ xs js a b. sym (g xs js a b) ∙ always xs js a b)) u);
}
  where
    by_trip : ForAll (suc n) m (λ xs js. with_trip (λ t xs js. q xs js +ℤ step *ℤ t) xs js ≡ with_trip (λ t xs js. q' xs js +ℤ step *ℤ t) xs js)
    by_trip [] js a b = refl
    by_trip (t ∷ xs) js a b = ap (λ z. z +ℤ step *ℤ t) (e xs js (omega (arith, a)) b)

-- ---- a loop of the source

-- the variables of the loops round it have numbers
abbrev pub AreCounted : List (List ℕ) → List SourceLoop → Type 0
AreCounted symbols around = ForAll (length symbols) (length around) (λ xs js. (vs : List Counted) × (counted symbols xs [] around js ≡ Some vs))

module _ (symbols : List (List ℕ)) (p : SurroundedLoop) (are : AreCounted symbols p.around) where
  abbrev os : List Outer
  os = outers symbols [] p.around

  abbrev n : ℕ
  n = length symbols

  abbrev m : ℕ
  m = length p.around

  -- a bound with a form is worth its numbers
  worth : (e : Expression) (f : Form) → composed_bound symbols os e ≡ Some f → IsWorth symbols p.around e (λ xs js. number_at f (xs ++ js))
  worth e f g xs js a b =
      let c = are xs js a b in
      within_is symbols xs js a p.around c.0 e c.1 ∙ ap (option_map (λ (f : Form). number_at f (xs ++ js))) g

  -- what is worth numbers has a form, with the same
  record Formed (e : Expression) (q : Quantity) : Type 0 where
    form : Form
    is : composed_bound symbols os e ≡ Some form
    same : ForAll n m (λ xs js. q xs js ≡ number_at form (xs ++ js))

  formed : (e : Expression) (q : Quantity) → IsWorth symbols p.around e q → Formed e q
  formed e q h = by (composed_bound symbols os e) refl
    where
      number : (xs js : List ℤ) → length xs ≡ n → length js ≡ m → option_map (λ (f : Form). number_at f (xs ++ js)) (composed_bound symbols os e) ≡ Some (q xs js)
      number xs js a b = (let c = are xs js a b in sym (within_is symbols xs js a p.around c.0 e c.1) ∙ h xs js a b)

      by : (o : Option Form) → composed_bound symbols os e ≡ o → Formed e q
      by None g =
          let none = sym (ap (option_map (λ (f : Form). number_at f (zeros n ++ zeros m))) g) ∙ number (zeros n) (zeros m) (zeros_length n) (zeros_length m) in
          let no : ⊥ = cc in
          absurd no
      by (Some f) g = record {
        form = f;
        is = g;
        same = λ xs js a b. let e = sym (ap (option_map (λ (f : Form). number_at f (xs ++ js))) g) ∙ number xs js a b in cc;
      }

  ends : (e : Expression) (f : Form) → composed_bound symbols os e ≡ Some f → Ends (n + m) f
  ends e f g = bound_ends symbols (n + m) os e f (omega arith) (outers_end symbols (n + m) [] p.around (omega arith) tt) g

  record AreKept (s : Option ℤ) (a b : Option Form) : Type 0 where
    step : ℤ
    first : Form
    last : Form
    step_is : s ≡ Some step
    first_is : a ≡ Some first
    last_is : b ≡ Some last
    kept : all_keep_limits n step first last ≡ true

  are_kept : (s : Option ℤ) (a b : Option Form) → leaves_with n s a b ≡ false → AreKept s a b
  are_kept (Some z) (Some f) (Some g) h =
      record { step = z; first = f; last = g; step_is = refl; first_is = refl; last_is = refl; kept = not_false (all_keep_limits n z f g) h }
  are_kept (Some z) (Some f) None h = let no : ⊥ = cc in absurd no
  are_kept (Some z) None b h = let no : ⊥ = cc in absurd no
  are_kept None a b h = let no : ⊥ = cc in absurd no

  keeps : loop_leaves_limits symbols p ≡ false → KeepsLimits symbols p
  keeps h =
      let l = p.loop.loop in
      let k = are_kept (step_of l.step) (composed_bound symbols os l.first) (composed_bound symbols os l.last) h in
      let f = kept_have n m k.step k.first k.last (ends l.first k.first k.first_is) (ends l.last k.last k.last_is) (step_size l.step k.step (sym k.step_is)) k.kept in
      record {
        step = k.step;
        first = λ xs js. number_at k.first (xs ++ js);
        last = λ xs js. number_at k.last (xs ++ js);
        step_is = k.step_is;
        first_is = worth l.first k.first k.first_is;
        last_is = worth l.last k.last k.last_is;
        lower = f.lower;
        before = f.before;
        top = f.top;
        end = f.end;
      }

  stays : KeepsLimits symbols p → loop_leaves_limits symbols p ≡ false
  stays k =
      let l = p.loop.loop in
      let f = formed l.first k.first k.first_is in
      let g = formed l.last k.last k.last_is in
      let tops : ForAll n m (λ xs js. dividend_of k.step (k.first xs js) (k.last xs js) ≡ dividend_of k.step (number_at f.form (xs ++ js)) (number_at g.form (xs ++ js)))
      = λ xs js a b. ap₂ (λ y z. dividend_of k.step y z) (f.same xs js a b) (g.same xs js a b) in
      let kept = have_kept n m k.step f.form g.form (ends l.first f.form f.is) (ends l.last g.form g.is) (step_size l.step k.step (sym k.step_is)) (record {
        lower = has_same n m k.first (λ xs js. number_at f.form (xs ++ js)) f.same k.lower;
        before = has_same n m (λ xs js. k.first xs js -ℤ k.step) (λ xs js. number_at f.form (xs ++ js) -ℤ k.step) (λ xs js a b. ap (λ z. z -ℤ k.step) (f.same xs js a b)) k.before;
        top = has_same n m (λ xs js. dividend_of k.step (k.first xs js) (k.last xs js)) (λ xs js. dividend_of k.step (number_at f.form (xs ++ js)) (number_at g.form (xs ++ js))) tops k.top;
        end = end_has_same n m k.step k.first (λ xs js. number_at f.form (xs ++ js)) (λ xs js. dividend_of k.step (k.first xs js) (k.last xs js))
            (λ xs js. dividend_of k.step (number_at f.form (xs ++ js)) (number_at g.form (xs ++ js))) f.same tops k.end;
      }) in
      ap (λ s. leaves_with n s (composed_bound symbols os l.first) (composed_bound symbols os l.last)) k.step_is
      ∙ ap (λ a. leaves_with n (Some k.step) a (composed_bound symbols os l.last)) f.is
      ∙ ap (λ b. leaves_with n (Some k.step) (Some f.form) b) g.is
      ∙ ap not kept

  pub keeps_by_meaning : (loop_leaves_limits symbols p ≡ false) ↔ KeepsLimits symbols p
  keeps_by_meaning = (keeps, stays)
