-- Stores in which the variables of loops have the numbers of their forms.
use mathlib.Core.Path.{ap₂}
use Rattle.std.proofs.Common.{◌≡◌, refl, sym, ap, ◌∙◌, subst, ℕ, suc, ◌≤◌, ◌<◌, ◌^◌, ℤ, pos, negsuc, ◌+ℤ◌, ◌-ℤ◌}
use Rattle.std.proofs.Common.{◌*ℤ◌, Bool, true, false, cond, ◌&&◌, List, [], ◌∷◌, ◌++◌, length, Ok, Option, Some}
use Rattle.std.proofs.Common.{None, arith}
use Rattle.std.specs.Prelude.{◌==◌, nat_abs}
use Rattle.std.specs.Str.{bytes_eq}
use Rattle.std.specs.Cmp.Lexicographic.{pointwise}
use Rattle.std.specs.Ordering.{int_eq}
use Rattle.std.proofs.lemmas.Bool.{eqb-true, eq-eqb}
use Rattle.std.proofs.lemmas.Bool.Decides.{Decides-ltb}
use Rattle.std.proofs.lemmas.Int.{ints}
use Rattle.std.proofs.lemmas.Slice.Eq.{bytes_eq-Decides}
use Rattle.std.proofs.Math.Nat.{pow-le-pow_right}
use Rattle.std.proofs.Math.IntN.{*ℤ-one, *ℤ-zero, one}
use Rattle.tree.specs.declared.ops.Value.{Value}
use Rattle.tree.specs.declared.ops.Value.TheVariants.{Int}
use Rattle.meaning.specs.Store.{Store, Cell, put, cell_in}
use Rattle.meaning.specs.Value.{is_in_range}
use Rattle.rewrite.proofs.Replacing.{bytes_eq-false, either_false}
use Rattle.linear_forms.specs.Laws.{AreSized}
use Rattle.linear_forms.specs.Linear.{HaveValues, number_at}
use Rattle.linear_forms.proofs.Ring.{spread_left}
use Rattle.nest_order.specs.runs.Guarded.{variable_cell}
use Rattle.nest_order.proofs.runs.Results.{true_false}
use Rattle.nest.specs.Plain.{Loop}
use Rattle.last_values.specs.normal_forms.NormalLoops.{variables_of}
use Rattle.last_values.specs.normal_forms.Numbers.{values_from, variable_numbers, LoopNumbers}
use Rattle.last_values.specs.declared.normal_forms.loops.NormalLoop.{NormalLoop}
use Rattle.last_values.proofs.NormalForms.LoopNumbers.{normal_loop_has_numbers}
use Rattle.nest.specs.statement_loops.Names.{is_among}
use Rattle.pass_laws.proofs.LastRuns.Pieces.{Agree, IsLoop, Number, with_iteration}

-- ---- ranges

power : (m k : ℕ) → m ≤ k → 2 ^ m ≤ 2 ^ k
power m k h = let two : 0 < 2 = omega arith in pow-le-pow_right two h

pub range_size : (bits : ℕ) → bits ≤ 63 → (z : ℤ) → is_in_range bits (Int z) ≡ true → nat_abs z ≤ 2 ^ 63
range_size bits high (pos k) h = let less : k < 2 ^ bits = (Decides-ltb k (2 ^ bits)).0 h in let most = power bits 63 high in omega (arith, less, most)
range_size bits high (negsuc k) h = let less : k < 2 ^ bits = (Decides-ltb k (2 ^ bits)).0 h in let most = power bits 63 high in omega (arith, less, most)

-- ---- names with values

pub have_both : (ys zs : List (List ℕ)) (s : Store) (xs ws : List ℤ) → HaveValues ys s xs → HaveValues zs s ws → HaveValues (ys ++ zs) s (xs ++ ws)
have_both [] zs s [] ws h k = k
have_both [] zs s (x ∷ xs) ws h k = absurd h
have_both (y ∷ ys) zs s [] ws h k = absurd h
have_both (y ∷ ys) zs s (x ∷ xs) ws h k = (h.0, h.1, have_both ys zs s xs ws h.2 k)

pub both_sized : (xs ws : List ℤ) → AreSized xs → AreSized ws → AreSized (xs ++ ws)
both_sized [] ws h k = k
both_sized (x ∷ xs) ws h k = (h.0, both_sized xs ws h.1 k)

pub put_elsewhere : (c d : Cell) (v : Value) (s : Store) → bytes_eq c.name d.name ≡ false → (put c v s).held d ≡ s.held d
put_elsewhere c d v s h = ap (λ b. cond (b && pointwise int_eq c.subscripts d.subscripts) v (s.held d)) h

pub apart_turned : (x y : List ℕ) → bytes_eq x y ≡ false → bytes_eq y x ≡ false
apart_turned x y h = bytes_eq-false y x (λ e. true_false (sym (ap (λ z. bytes_eq z y) (sym e) ∙ (bytes_eq-Decides y y).1 refl) ∙ h))

pub have_put : (ys : List (List ℕ)) (xs : List ℤ) (c : Cell) (v : Value) (s : Store) → is_among ys c.name ≡ false → HaveValues ys s xs → HaveValues ys (put c v s) xs
have_put [] [] c v s h k = tt
have_put [] (x ∷ xs) c v s h k = absurd k
have_put (y ∷ ys) [] c v s h k = absurd k
have_put (y ∷ ys) (x ∷ xs) c v s h k =
    let parts = either_false (bytes_eq y c.name) (is_among ys c.name) h in
    (k.0, put_elsewhere c (variable_cell y) v s (apart_turned y c.name parts.0) ∙ k.1, have_put ys xs c v s parts.1 k.2)

-- a name that has one cell is a scalar
pub scalar_bounds : (b : Option (List (ℤ × ℤ))) (x : List ℕ) (c : Cell) → cell_in b x [] ≡ Ok c → b ≡ Some []
scalar_bounds None x c h = cc
scalar_bounds (Some []) x c h = refl
scalar_bounds (Some (b ∷ bs)) x c h = cc

module _ (symbols : List (List ℕ)) (values : ℕ → ℤ) (bounds : List ℕ → Option (List (ℤ × ℤ))) where
  abbrev n : ℕ
  n = length symbols

  abbrev pub numbers : (ℕ → ℤ) → List NormalLoop → List ℤ
  numbers at round = variable_numbers n at values round

  -- in these loops at these iterations
  pub record There (round : List NormalLoop) (at : ℕ → ℤ) (s : Store) : Type 0 where
    pub here : HaveValues (variables_of round) s (numbers at round)
    pub known : HaveValues symbols s (values_from n 0 values)
    pub bounds_are : (y : List ℕ) → s.bounds y ≡ bounds y

  -- the numbers of the variables are known by the iterations of these loops, whatever those of loops in them are
  pub record IsSetting (round : List NormalLoop) (at : ℕ → ℤ) : Type 0 where
    pub fixed : (its : ℕ → ℤ) → Agree (length round) at its → numbers its round ≡ numbers at round
    pub sized : AreSized (numbers at round)

  pub there_put : (round : List NormalLoop) (at : ℕ → ℤ) (c : Cell) (v : Value) (s : Store) → is_among (variables_of round) c.name ≡ false → is_among symbols c.name ≡ false → There round at s → There round at (put c v s)
  there_put round at c v s h k t = record {
    here = have_put (variables_of round) (numbers at round) c v s h t.here;
    known = have_put symbols (values_from n 0 values) c v s k t.known;
    bounds_are = t.bounds_are;
  }

  -- ---- one loop more

  numbers_more : (its : ℕ → ℤ) (round : List NormalLoop) (r : NormalLoop) → numbers its (round ++ r ∷ []) ≡ numbers its round ++ Number n values its r.value ∷ []
  numbers_more its [] r = refl
  numbers_more its (q ∷ qs) r = ap (λ ws. Number n values its q.value ∷ ws) (numbers_more its qs r)

  length_more : (round : List NormalLoop) (r : NormalLoop) → length (round ++ r ∷ []) ≡ suc (length round)
  length_more [] r = refl
  length_more (q ∷ qs) r = ap suc (length_more qs r)

  here_more : (its : ℕ → ℤ) (round : List NormalLoop) (r : NormalLoop) (s : Store) → HaveValues (variables_of round) s (numbers its round)
      → s.bounds r.variable ≡ Some [] → s.held (variable_cell r.variable) ≡ Int (Number n values its r.value) → HaveValues (variables_of (round ++ r ∷ [])) s (numbers its (round ++ r ∷ []))
  here_more its [] r s h b v = (b, v, tt)
  here_more its (q ∷ qs) r s h b v = (h.0, h.1, here_more its qs r s h.2 b v)

  here_front : (its : ℕ → ℤ) (round : List NormalLoop) (r : NormalLoop) (s : Store) → HaveValues (variables_of (round ++ r ∷ [])) s (numbers its (round ++ r ∷ []))
      → HaveValues (variables_of round) s (numbers its round) × (s.held (variable_cell r.variable) ≡ Int (Number n values its r.value))
  here_front its [] r s h = (tt, h.1)
  here_front its (q ∷ qs) r s h = let p = here_front its qs r s h.2 in ((h.0, h.1, p.0), p.1)

  abbrev pub turn_of : ℕ → (ℕ → ℤ) → ℕ → ℕ → ℤ
  turn_of d at i = with_iteration d (pos i) at

  place_other : (d k : ℕ) → k < d → (k == d) ≡ false
  place_other d k l = by (k == d) refl
    where
      by : (b : Bool) → (k == d) ≡ b → b ≡ false
      by true e = let same = eqb-true k d e in absurd (omega (arith, same, l))
      by false e = refl

  turn_before : (d : ℕ) (at : ℕ → ℤ) (i : ℕ) → Agree d at (turn_of d at i)
  turn_before d at i k l = ap (λ b. cond b (pos i) (at k)) (place_other d k l)

  turn_here : (d : ℕ) (at : ℕ → ℤ) (i : ℕ) → turn_of d at i d ≡ pos i
  turn_here d at i = ap (λ b. cond b (pos i) (at d)) (eq-eqb d d refl)

  module _ (round : List NormalLoop) (l : Loop) (r : NormalLoop) (h : IsLoop symbols round l r) (at : ℕ → ℤ) (setting : IsSetting round at) where
    abbrev pub places : List ℤ
    places = numbers at round ++ values_from n 0 values

    abbrev pub lower : ℤ
    lower = number_at h.lower places

    abbrev pub upper : ℤ
    upper = number_at h.upper places

    -- in turn i
    abbrev pub value_at : ℕ → ℤ
    value_at i = lower +ℤ l.step *ℤ (pos i -ℤ pos 1)

    pub loop_numbers : (its : ℕ → ℤ) → Agree (length round) at its → LoopNumbers n (length round) its values r lower upper l.step
    loop_numbers its agree =
        subst (λ ws. LoopNumbers n (length round) its values r (number_at h.lower (ws ++ values_from n 0 values)) (number_at h.upper (ws ++ values_from n 0 values)) l.step) (setting.fixed its agree)
        (normal_loop_has_numbers symbols round l r h.lower h.upper its values h.is h.lower_is h.upper_is)

    pub number_in_turn : (i : ℕ) (its : ℕ → ℤ) → Agree (length round) at its → its (length round) ≡ pos i → Number n values its r.value ≡ value_at i
    number_in_turn i its agree e = (loop_numbers its agree).value ∙ ap (λ z. lower +ℤ l.step *ℤ (z -ℤ pos 1)) e

    agree_less : (i : ℕ) (its : ℕ → ℤ) → Agree (length (round ++ r ∷ [])) (turn_of (length round) at i) its → Agree (length round) at its
    agree_less i its agree k m = let e = length_more round r in agree k (omega (arith, m, e)) ∙ turn_before (length round) at i k m

    agree_here : (i : ℕ) (its : ℕ → ℤ) → Agree (length (round ++ r ∷ [])) (turn_of (length round) at i) its → its (length round) ≡ pos i
    agree_here i its agree = let e = length_more round r in agree (length round) (omega (arith, e)) ∙ turn_here (length round) at i

    pub setting_more : (i : ℕ) → nat_abs (value_at i) ≤ 2 ^ 63 → IsSetting (round ++ r ∷ []) (turn_of (length round) at i)
    setting_more i size = record {
      fixed = λ its agree. numbers_more its round r
          ∙ (ap₂ (λ ws z. ws ++ z ∷ []) (setting.fixed its (agree_less i its agree) ∙ sym (setting.fixed (turn_of (length round) at i) (turn_before (length round) at i)))
          (number_in_turn i its (agree_less i its agree) (agree_here i its agree) ∙ sym (here i))
          ∙ sym (numbers_more (turn_of (length round) at i) round r));
      sized = subst AreSized (sym (numbers_more (turn_of (length round) at i) round r))
          (both_sized (numbers (turn_of (length round) at i) round) (Number n values (turn_of (length round) at i) r.value ∷ [])
          (subst AreSized (sym (setting.fixed (turn_of (length round) at i) (turn_before (length round) at i))) setting.sized)
          (subst (λ z. nat_abs z ≤ 2 ^ 63) (sym (here i)) size, tt));
    }
      where
        here : (i : ℕ) → Number n values (turn_of (length round) at i) r.value ≡ value_at i
        here i = number_in_turn i (turn_of (length round) at i) (turn_before (length round) at i) (turn_here (length round) at i)

    pub there_more : (i : ℕ) (s : Store) → There round at s → s.bounds l.variable ≡ Some [] → s.held (variable_cell l.variable) ≡ Int (value_at i) → There (round ++ r ∷ []) (turn_of (length round) at i) s
    there_more i s t b v = record {
      here = here_more (turn_of (length round) at i) round r s
          (subst (HaveValues (variables_of round) s) (sym (setting.fixed (turn_of (length round) at i) (turn_before (length round) at i))) t.here)
          (ap s.bounds h.variable ∙ b)
          (ap (λ y. s.held (variable_cell y)) h.variable ∙ (v ∙ ap Int (sym (number_in_turn i (turn_of (length round) at i) (turn_before (length round) at i) (turn_here (length round) at i)))));
      known = t.known;
      bounds_are = t.bounds_are;
    }

    pub there_less : (i : ℕ) (s : Store) → There (round ++ r ∷ []) (turn_of (length round) at i) s → There round at s × (s.held (variable_cell l.variable) ≡ Int (value_at i))
    there_less i s t =
        let p = here_front (turn_of (length round) at i) round r s t.here in (
          record { here = subst (HaveValues (variables_of round) s) (setting.fixed (turn_of (length round) at i) (turn_before (length round) at i)) p.0; known = t.known; bounds_are = t.bounds_are },
          ap (λ y. s.held (variable_cell y)) (sym h.variable) ∙ (p.1 ∙ ap Int (number_in_turn i (turn_of (length round) at i) (turn_before (length round) at i) (turn_here (length round) at i))),
        )

    -- ---- from turn to turn

    pub value_begins : value_at 1 ≡ lower
    value_begins = ap (λ z. lower +ℤ z) (nothing l.step) ∙ alone lower
      where
        nothing : (d : ℤ) → d *ℤ (pos 1 -ℤ pos 1) ≡ pos 0
        nothing d = *ℤ-zero d

        alone : (z : ℤ) → z +ℤ pos 0 ≡ z
        alone z = omega (arith, ints)

    less_one : (i : ℕ) → pos (suc i) -ℤ pos 1 ≡ pos i
    less_one i = omega (arith, ints)

    pub value_behind : (i : ℕ) → value_at (suc i) ≡ lower +ℤ l.step *ℤ pos i
    value_behind i = ap (λ z. lower +ℤ l.step *ℤ z) (less_one i)

    pub value_grows : (i : ℕ) → value_at i +ℤ l.step ≡ value_at (suc i)
    unfolding one
    value_grows i =
        ap (λ z. value_at i +ℤ z) (sym (*ℤ-one l.step)) ∙ (grouped lower (l.step *ℤ (pos i -ℤ pos 1)) (l.step *ℤ pos 1)
        ∙ (ap (λ z. lower +ℤ z) (sym (spread_left l.step (pos i -ℤ pos 1) (pos 1))) ∙ ap (λ z. lower +ℤ l.step *ℤ z) (next i)))
      where
        grouped : (p q r : ℤ) → (p +ℤ q) +ℤ r ≡ p +ℤ (q +ℤ r)
        grouped p q r = omega (arith, ints)

        next : (i : ℕ) → (pos i -ℤ pos 1) +ℤ pos 1 ≡ pos (suc i) -ℤ pos 1
        next i = omega (arith, ints)
