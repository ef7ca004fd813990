-- Different positions have different cells, where no number is selected twice.
use Rattle.std.proofs.Common.{◌≡◌, ◌≢◌, refl, sym, ap, ◌∙◌, subst, ◌⊎◌, inl, inr, ℕ, zero, suc, ◌+◌, ◌*◌, ◌/◌, ◌<◌, ℤ, pos, negsuc, neg_ℤ, ◌+ℤ◌, ◌-ℤ◌, ◌*ℤ◌, Bool, true, false, List, [], ◌∷◌, map, length, Result, Ok, Option, Some, arith, Contains}
use Rattle.std.proofs.Math.IntN.{+ℤ_comm, +ℤ-neg_ℤ_cancel, pos-*ℤ-negsuc}
use Rattle.std.proofs.Math.Nat.{mul-div_cancel}
use Rattle.std.proofs.lemmas.List.Elements.{Contains-append_cases}
use Rattle.std.specs.List.{flat_map}
use mathlib.Core.Path.{ap₂}
use Rattle.tree.specs.Operators.{as_truth}
use Rattle.tree.specs.Plain.{Expression, Reference}
use Rattle.tree.specs.Steps.{◌>>=◌}
use Rattle.tree.specs.declared.ops.Fault.{Fault}
use Rattle.tree.specs.declared.ops.Value.{Value}
use Rattle.meaning.specs.ArrayStatements.{axes_named, storable}
use Rattle.meaning.specs.ArrayValues.{counted, positions}
use Rattle.meaning.specs.Dialect.{Dialect}
use Rattle.meaning.specs.Sections.{Axis, Fixed, Along, extents_of, steps_from}
use Rattle.meaning.specs.Store.{Store, Cell, numbers_from}
use Rattle.meaning_laws.specs.arrays.Assignments.{cell_selected, assigned_if, element_assigned, elements_assigned}
use Rattle.meaning_laws.specs.arrays.Elements.{subscripts_at, cell_at_position, element_of}
use Rattle.meaning_laws.specs.arrays.OneToOne.{AreDifferent, SelectOnce, TripletSelectsOnce, DimensionSelectsOnce, PositionsAreOneToOne, NoCellTwice}
use Rattle.meaning_laws.proofs.arrays.Assignments.{writes_are_effects}
use Rattle.meaning_laws.proofs.arrays.Forms.{whose_effect, of_write}
use Rattle.meaning_laws.proofs.arrays.Members.{here, there, nowhere, cases_of, of_map}
use Rattle.meaning_laws.proofs.arrays.Sections.{number_of_triplet}
use Rattle.meaning_laws.proofs.arrays.Stages.{bound, same_answer}

-- ---- numbers

pub length_steps : (z k : ℤ) (n : ℕ) → length (steps_from z k n) ≡ n
length_steps z k zero = refl
length_steps z k (suc n) = ap (λ m. suc m) (length_steps (z +ℤ k) k n)

all_numbers : (z : ℤ) (n : ℕ) → numbers_from z n ≡ steps_from z (pos 1) n
all_numbers z zero = refl
all_numbers z (suc n) = ap (λ zs. z ∷ zs) (all_numbers (z +ℤ pos 1) n)

same_behind : (z a b : ℤ) → z +ℤ a ≡ z +ℤ b → a ≡ b
same_behind z a b e = sym (+ℤ-neg_ℤ_cancel a z) ∙ (ap (λ y. y -ℤ z) (+ℤ_comm a z ∙ (e ∙ +ℤ_comm z b)) ∙ +ℤ-neg_ℤ_cancel b z)

same_multiple : (i j n : ℕ) → i * suc n ≡ j * suc n → i ≡ j
same_multiple i j n e = sym (mul-div_cancel i {n = suc n} (omega arith)) ∙ (ap (λ m. m / suc n) e ∙ mul-div_cancel j {n = suc n} (omega arith))

size_of_negative : ℤ → ℕ
size_of_negative (pos n) = n
size_of_negative (negsuc n) = suc n

negated : (a b : ℕ) → neg_ℤ (pos a) ≡ neg_ℤ (pos b) → a ≡ b
unfolding size_of_negative
negated a b e = sym (is a) ∙ (ap size_of_negative e ∙ is b)
  where
    is : (n : ℕ) → size_of_negative (neg_ℤ (pos n)) ≡ n
    is zero = refl
    is (suc n) = refl

same_strides : (k : ℤ) → k ≢ pos 0 → (i j : ℕ) → pos i *ℤ k ≡ pos j *ℤ k → i ≡ j
same_strides (pos zero) apart i j e = absurd (apart refl)
same_strides (pos (suc n)) apart i j e = same_multiple i j n cc
same_strides (negsuc n) apart i j e = same_multiple i j n (negated (i * suc n) (j * suc n) (sym (pos-*ℤ-negsuc i n) ∙ (e ∙ pos-*ℤ-negsuc j n)))

pub triplet_selects_once : TripletSelectsOnce
triplet_selects_once z k n apart i j a b e =
    let l = length_steps z k n in
    let p : i < n = omega (arith, a, l) in
    let q : j < n = omega (arith, b, l) in
    same_strides k apart i j (same_behind z (pos i *ℤ k) (pos j *ℤ k) (sym (number_of_triplet z k i n p) ∙ (e ∙ number_of_triplet z k j n q)))

pub dimension_selects_once : DimensionSelectsOnce
dimension_selects_once z n = subst AreDifferent (sym (all_numbers z n)) (triplet_selects_once z (pos 1) n (λ e. cc))

-- ---- positions

-- a member of what each of a list gives
pub of_flat_map : {A B : Type 0} (f : A → List B) (xs : List A) (z : B) → Contains (flat_map f xs) z → (x : A) × Contains xs x × Contains (f x) z
of_flat_map f [] z c = absurd (nowhere z c)
of_flat_map {A} f (y ∷ ys) z c = by (Contains-append_cases (f y) (flat_map f ys) z c) (of_flat_map f ys z)
  where
    by : Contains (f y) z ⊎ Contains (flat_map f ys) z → (Contains (flat_map f ys) z → (x : A) × Contains ys x × Contains (f x) z) → (x : A) × Contains (y ∷ ys) x × Contains (f x) z
    by (inl h) more = (y, here y ys, h)
    by (inr h) more = let x = more h in (x.0, there y ys x.0 x.1, x.2)

of_counted : (k n i : ℕ) → Contains (counted k n) i → i < k + n
of_counted k zero i c = absurd (nowhere i c)
of_counted k (suc n) i c = by (cases_of k (counted (k + 1) n) i c) (of_counted (k + 1) n i)
  where
    by : (k ≡ i) ⊎ Contains (counted (k + 1) n) i → (Contains (counted (k + 1) n) i → i < k + 1 + n) → i < k + suc n
    by (inl e) more = omega (arith, e)
    by (inr h) more = let m = more h in omega (arith, m)

-- a position of one dimension more
record Behind (n : ℕ) (ns is : List ℕ) : Type 0 where
  i : ℕ
  rest : List ℕ
  below : i < n
  among : Contains (positions ns) rest
  are : i ∷ rest ≡ is

behind : (n : ℕ) (ns is : List ℕ) → Contains (positions (n ∷ ns)) is → Behind n ns is
behind n ns is c =
    let r = of_flat_map (λ rest. map (λ i. i ∷ rest) (counted 0 n)) (positions ns) is c in
    let m = of_map (λ i. i ∷ r.0) (counted 0 n) is r.2 in
    let b = of_counted 0 n m.0 m.1 in
    record { i = m.0; rest = r.0; below = omega (arith, b); among = r.1; are = m.2 }

no_position : (is : List ℕ) → Contains (positions []) is → [] ≡ is
no_position is c = by (cases_of [] [] is c)
  where
    by : ([] ≡ is) ⊎ Contains [] is → [] ≡ is
    by (inl e) = e
    by (inr h) = absurd (nowhere is h)

first_of : List ℤ → ℤ
first_of [] = pos 0
first_of (z ∷ zs) = z

rest_of : List ℤ → List ℤ
rest_of [] = []
rest_of (z ∷ zs) = zs

one_to_one : (axes : List Axis) (is js : List ℕ) → SelectOnce axes → Contains (positions (extents_of axes)) is → Contains (positions (extents_of axes)) js → subscripts_at axes is ≡ subscripts_at axes js → is ≡ js
unfolding first_of rest_of
one_to_one [] is js once a b e = sym (no_position is a) ∙ no_position js b
one_to_one (Fixed z ∷ axes) is js once a b e = one_to_one axes is js once a b (ap rest_of e)
one_to_one (Along zs ∷ axes) is js once a b e =
    let p = behind (length zs) (extents_of axes) is a in
    let q = behind (length zs) (extents_of axes) js b in
    let at : subscripts_at (Along zs ∷ axes) (p.i ∷ p.rest) ≡ subscripts_at (Along zs ∷ axes) (q.i ∷ q.rest) = ap (subscripts_at (Along zs ∷ axes)) p.are ∙ (e ∙ sym (ap (subscripts_at (Along zs ∷ axes)) q.are)) in
    sym p.are ∙ (ap₂ (λ i rest. i ∷ rest) (once.0 p.i q.i p.below q.below (ap first_of at)) (one_to_one axes p.rest q.rest once.1 p.among q.among (ap rest_of at)) ∙ q.are)

pub positions_are_one_to_one : PositionsAreOneToOne
positions_are_one_to_one x axes is js once a b e = one_to_one axes is js once a b (ap (λ (c : Cell). c.subscripts) e)

-- ---- writes

written_there : (c c' : Cell) (v v' : Value) → ◌≡◌ {A = Option (Cell × Value)} (Some (c, v)) (Some (c', v')) → c ≡ c'
written_there c c' v v' e = let same : ◌≡◌ {A = Cell × Value} (c, v) (c', v') = cc in ap (λ (w : Cell × Value). w.0) same

module _ (d : Dialect) (mask right : Expression) (left : Reference) (axes : List Axis) (s : Store) (known : axes_named d left s ≡ Ok axes) where
  -- an element is stored in its own cell
  own_cell : (is : List ℕ) (c : Cell) (v : Value) → (element_assigned d mask left right is).effect s ≡ Ok (Some (c, v)) → cell_at_position left.name axes is ≡ c
  own_cell is c v e =
      let x = bound (element_of d mask is s) (λ x. do b ← as_truth x; assigned_if d b left right is s) (Some (c, v)) e in
      let b = bound (as_truth x.0) (λ b. assigned_if d b left right is s) (Some (c, v)) x.2 in
      by b.0 b.2
    where
      by : (b : Bool) → assigned_if d b left right is s ≡ Ok (Some (c, v)) → cell_at_position left.name axes is ≡ c
      by false e = absurd cc
      by true e =
          let c' = bound (cell_selected d left is s) (λ c. do x ← element_of d right is s; v ← storable d x; Ok (Some (c, v))) (Some (c, v)) e in
          let x = bound (element_of d right is s) (λ x. do v ← storable d x; Ok (Some (c'.0, v))) (Some (c, v)) c'.2 in
          let v' = bound (storable d x.0) (λ v. Ok (Some (c'.0, v))) (Some (c, v)) x.2 in
          let here : cell_at_position left.name axes is ≡ c'.0 = same_answer _ _ (sym (ap (λ (r : Result (List Axis) Fault). do axes ← r; Ok (cell_at_position left.name axes is)) known) ∙ c'.1) in
          here ∙ written_there c'.0 c v'.0 v (same_answer (Some (c'.0, v'.0)) (Some (c, v)) v'.2)

pub no_cell_twice : NoCellTwice
no_cell_twice d mask right left axes s ws once known w c v u i k =
    let o = writes_are_effects d mask right left axes s ws known w in
    let iss = positions (extents_of axes) in
    let js = elements_assigned d mask left right axes in
    let x = whose_effect s js o.0 o.1 (Some (c, v)) (of_write o.0 (c, v) (subst (λ zs. Contains zs (c, v)) (sym o.2) i)) in
    let y = whose_effect s js o.0 o.1 (Some (c, u)) (of_write o.0 (c, u) (subst (λ zs. Contains zs (c, u)) (sym o.2) k)) in
    let p = of_map (element_assigned d mask left right) iss x.0 x.1 in
    let q = of_map (element_assigned d mask left right) iss y.0 y.1 in
    by c v u p.0 q.0 p.1 q.1 (ap (λ j. j.effect s) p.2 ∙ x.2) (ap (λ j. j.effect s) q.2 ∙ y.2)
  where
    values : (c : Cell) (v u : Value) → ◌≡◌ {A = Option (Cell × Value)} (Some (c, v)) (Some (c, u)) → v ≡ u
    values c v u e = let same : ◌≡◌ {A = Cell × Value} (c, v) (c, u) = cc in ap (λ (w : Cell × Value). w.1) same

    by : (c : Cell) (v u : Value) (is js : List ℕ) → Contains (positions (extents_of axes)) is → Contains (positions (extents_of axes)) js
        → (element_assigned d mask left right is).effect s ≡ Ok (Some (c, v)) → (element_assigned d mask left right js).effect s ≡ Ok (Some (c, u)) → v ≡ u
    by c v u is js a b e f =
        let same = positions_are_one_to_one left.name axes is js once a b (own_cell d mask right left axes s known is c v e ∙ sym (own_cell d mask right left axes s known js c u f)) in
        values c v u (same_answer (Some (c, v)) (Some (c, u)) (sym e ∙ (ap (λ ks. (element_assigned d mask left right ks).effect s) same ∙ f)))
