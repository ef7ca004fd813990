-- A linear form in a counter counts the variable of a loop.
use Rattle.std.proofs.Common.{◌≡◌, refl, sym, ap, ◌∙◌, ℕ, suc, ◌^◌, ◌≤◌, ℤ, pos, ◌+ℤ◌, ◌-ℤ◌, ◌*ℤ◌, true, false, cond, not, ◌&&◌, ◌||◌, List, [], ◌∷◌, Ok, Some, arith}
use Rattle.std.specs.Str.{bytes_eq}
use Rattle.std.specs.Cmp.Lexicographic.{pointwise}
use Rattle.std.specs.Ordering.{int_eq}
use Rattle.std.proofs.lemmas.Int.{ints}
use Rattle.std.proofs.lemmas.Slice.Eq.{bytes_eq-Decides}
use Rattle.std.proofs.Math.Bool.{or-true}
use Rattle.std.proofs.Math.IntN.{*ℤ-one, one}
use Rattle.tree.specs.declared.ops.Value.{Value}
use Rattle.tree.specs.declared.ops.Value.TheVariants.{Int}
use Rattle.meaning.specs.Store.{Store, Cell, put}
use Rattle.meaning.specs.Value.{is_in_range}
use Rattle.meaning.specs.Names.{is_among}
use Rattle.meaning.specs.Reads.{names_in}
use Rattle.rewrite.specs.Following.{sequential}
use Rattle.rewrite.specs.Replacing.{Replacing, is_own, is_fixed}
use Rattle.rewrite.proofs.Replacing.{either_false, both_true, not_true, differ, bytes_eq-false}
use Rattle.linear_forms.specs.Linear.{Form, weighted, HaveValues, is_limited}
use Rattle.linear_forms.specs.Expressed.{expressed, variables}
use Rattle.linear_forms.proofs.Ring.{spread_left}
use Rattle.linear_forms.specs.Laws.{AreSized}
use Rattle.linear_forms.proofs.AffineTexts.{names_have_values}
use Rattle.linear_forms.proofs.Expressed.{expressed_is_number, each_where}
use Rattle.pass_laws.proofs.NormalLoop.Turns.{alone}
use Rattle.pass_laws.proofs.NormalLoop.OneLoop.{IsCounter}

-- names keep their values where a cell of another name has changed
other_values : (ys : List (List ℕ)) (xs : List ℤ) (c : Cell) (v : Value) (u : Store) → is_among ys c.name ≡ false → HaveValues ys u xs → HaveValues ys (put c v u) xs
other_values [] [] c v u h k = tt
other_values [] (x ∷ xs) c v u h k = absurd k
other_values (y ∷ ys) [] c v u h k = absurd k
other_values (y ∷ ys) (x ∷ xs) c v u h k =
    let parts = either_false (bytes_eq c.name y) (is_among ys c.name) h in
    (k.0, ap (λ b. cond (b && pointwise int_eq c.subscripts []) v (u.held (record { name = y; subscripts = [] }))) parts.0 ∙ k.1, other_values ys xs c v u parts.1 k.2)

module _ (bits : ℕ) (v w : List ℕ) (others : List (List ℕ)) (d : ℤ) (cs : List ℤ) (k : ℤ) where
  abbrev form : Form
  form = record { coefficients = d ∷ cs; constant = k }

  -- d * w and the other terms stand for v
  abbrev pub counted : Replacing
  counted = record { variable = v; by = expressed (variables (w ∷ others)) form; news = λ x. bytes_eq x w; fixed = is_among others }

  -- the first value is a, by the values of the other names
  pub record Frame (a : ℤ) (s u : Store) : Type 0 where
    pub numbers : List ℤ
    pub values : HaveValues others u numbers
    pub sized : AreSized numbers
    pub first : weighted cs numbers +ℤ (k +ℤ d) ≡ a
    pub variable : s.bounds v ≡ Some []
    pub counter : u.bounds w ≡ Some []

  abbrev pub value : ℤ → ℕ → ℤ
  value a m = d *ℤ pos m +ℤ (a -ℤ d)

  begins : (a : ℤ) → d +ℤ (a -ℤ d) ≡ a
  begins a = omega (arith, ints)

  grows : (p a : ℤ) → (p +ℤ (a -ℤ d)) +ℤ d ≡ (p +ℤ d) +ℤ (a -ℤ d)
  grows p a = omega (arith, ints)

  one_more : (m : ℕ) → pos m +ℤ pos 1 ≡ pos (suc m)
  one_more m = omega (arith, ints)

  reached : (p q a : ℤ) → q +ℤ (k +ℤ d) ≡ a → (p +ℤ q) +ℤ k ≡ p +ℤ (a -ℤ d)
  reached p q a h = omega (arith, ints, h)

  module _ (apart : is_among others w ≡ false) (loops : ℕ) (few : loops ≤ 7) (limited : is_limited loops form ≡ true) (narrow : (m : ℕ) → is_in_range bits (Int (pos m)) ≡ true → m ≤ 2 ^ 63) where
    pub linear_form_counts : IsCounter bits counted w d value Frame
    unfolding one
    linear_form_counts = record {
      own = ap (λ b. bytes_eq w v || b) ((bytes_eq-Decides w w).1 refl) ∙ or-true (bytes_eq w v);
      first = λ a. ap (λ z. z +ℤ (a -ℤ d)) (*ℤ-one d) ∙ begins a;
      later = λ a m. grows (d *ℤ pos m) a ∙ ap (λ z. z +ℤ (a -ℤ d)) (ap (λ z. d *ℤ pos m +ℤ z) (sym (*ℤ-one d)) ∙ (sym (spread_left d (pos m) (pos 1)) ∙ ap (λ z. d *ℤ z) (one_more m)));
      scalars = λ a s u f. (f.variable, f.counter);
      changed = λ a c x s u h f.
          let free = both_true (not (is_own counted c.name)) (not (is_fixed counted c.name)) h in
          let fixed = (either_false (is_among (names_in counted.by) c.name) (is_among others c.name) (not_true (is_fixed counted c.name) free.1)).1 in
          record { numbers = f.numbers; values = other_values others f.numbers c x u fixed f.values; sized = f.sized; first = f.first; variable = f.variable; counter = f.counter };
      turned = λ a x y s u f. record { numbers = f.numbers; values = other_values others f.numbers (alone bits w) y u apart f.values; sized = f.sized; first = f.first; variable = f.variable; counter = f.counter };
      by_value = λ a m s u f small h.
          expressed_is_number (sequential bits) u loops few (variables (w ∷ others)) form (pos m ∷ f.numbers) limited
          (each_where (sequential bits) u (d ∷ cs) (variables (w ∷ others)) (pos m ∷ f.numbers) (names_have_values (sequential bits) (w ∷ others) u (pos m ∷ f.numbers) (f.counter, h, f.values)))
          (narrow m small, f.sized)
          ∙ ap (λ z. Ok (Int z)) (reached (d *ℤ pos m) (weighted cs f.numbers) a f.first);
    }
