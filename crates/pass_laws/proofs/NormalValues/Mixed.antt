-- A store with the cells of some names as one store has them, and those of all others as another one has them.
use mathlib.Core.Path.{ap₂}
use Rattle.std.proofs.Common.{◌≡◌, refl, sym, ap, ◌∙◌, ◌⊎◌, inl, inr, ℕ, ◌^◌, ◌≤◌, ℤ, Bool, true, false, cond, ◌||◌}
use Rattle.std.proofs.Common.{List, [], ◌∷◌, ◌++◌, Ok, Some, Contains}
use Rattle.std.specs.Prelude.{nat_abs}
use Rattle.std.specs.List.{AllByRecursion}
use Rattle.std.specs.Str.{bytes_eq}
use Rattle.std.proofs.lemmas.List.Elements.{recursion_from_All}
use Rattle.std.proofs.lemmas.Slice.Eq.{bytes_eq-Decides}
use Rattle.meaning_laws.proofs.arrays.Members.{nowhere, cases_of, each_member}
use Rattle.tree.specs.Operators.{as_number}
use Rattle.tree.specs.Steps.{◌>>=◌}
use Rattle.tree.specs.declared.ops.Value.{Value}
use Rattle.tree.specs.declared.ops.Value.TheVariants.{Int}
use Rattle.tree.specs.Plain.{Expression, Subscript, Only, Section, Subscripts, no_subscripts, subscript}
use Rattle.meaning.specs.Names.{is_among}
use Rattle.meaning.specs.Reads.{names_in, names_in_subscript, names_in_subscripts}
use Rattle.meaning.specs.Store.{Store, Cell}
use Rattle.meaning.specs.Value.{value_of, subscript_value, subscript_values}
use Rattle.meaning.proofs.CellFrame.{first_part, second_part}
use Rattle.rewrite.specs.Following.{sequential}
use Rattle.rewrite.specs.Replacing.{ValueStandsFor}
use Rattle.rewrite.proofs.Replacing.{either_false, bytes_eq-false}
use Rattle.rewrite.proofs.Values.{cell_in-named}
use Rattle.linear_forms.specs.Laws.{HoldsSized}
use Rattle.linear_forms.specs.Linear.{HaveValues}
use Rattle.nest_order.specs.orders.Lists.{Distinct, Each}
use Rattle.nest_order.proofs.runs.Alike.{Alike, value_alike}
use Rattle.pass_laws.proofs.NormalValues.Replaced.{alone}

-- ---- names among names

pub among : (names : List (List ℕ)) (x : List ℕ) → Contains names x → is_among names x ≡ true
among [] x m = absurd (nowhere x m)
among (y ∷ ys) x m = by (bytes_eq x y) refl (cases_of y ys x m) (among ys x)
  where
    by : (b : Bool) → bytes_eq x y ≡ b → (y ≡ x) ⊎ Contains ys x → (Contains ys x → is_among ys x ≡ true) → (b || is_among ys x) ≡ true
    by true e c more = refl
    by false e (inl q) more = let same = (bytes_eq-Decides x y).1 (sym q) in absurd (let both = sym e ∙ same in cc)
    by false e (inr k) more = more k

-- none of the names is one of these
abbrev pub AreOther : List (List ℕ) → List (List ℕ) → Type 0
AreOther xs ys = AllByRecursion (λ y. is_among xs y ≡ false) ys

pub others_of : (x : List ℕ) (xs ys : List (List ℕ)) → AreOther (x ∷ xs) ys → AreOther xs ys
others_of x xs [] h = tt
others_of x xs (y ∷ ys) h = ((either_false (bytes_eq y x) (is_among xs y) h.0).1, others_of x xs ys h.1)

one_more : (x : List ℕ) (xs zs ys : List (List ℕ)) → Each (λ z. ¬ (x ≡ z)) (zs ++ ys) → AreOther xs ys → AreOther (x ∷ xs) ys
one_more x xs [] [] h k = tt
one_more x xs [] (y ∷ ys) h k = (ap (λ b. b || is_among xs y) (bytes_eq-false y x (λ e. h.0 (sym e))) ∙ k.0, one_more x xs [] ys h.1 k.1)
one_more x xs (z ∷ zs) ys h k = one_more x xs zs ys h.1 k

pub distinct_are_other : (xs ys : List (List ℕ)) → Distinct (xs ++ ys) → AreOther xs ys
distinct_are_other [] ys h = none ys
  where
    none : (ys : List (List ℕ)) → AreOther [] ys
    none [] = tt
    none (y ∷ ys) = (refl, none ys)
distinct_are_other (x ∷ xs) ys h = one_more x xs xs ys h.0 (distinct_are_other xs ys h.1)

-- ---- subscripts by the names in them

module _ (bits : ℕ) (s t : Store) where
  subscript_alike : (p : Subscript) → AllByRecursion (Alike bits s t) (names_in_subscript p) → subscript_value (sequential bits) p s ≡ subscript_value (sequential bits) p t
  subscript_alike (Only e) h = ap (λ r. do x ← r; as_number x) (value_alike bits s t e h)
  subscript_alike (Section a b c) h = refl

  subscripts_alike : (ps : Subscripts) → AllByRecursion (Alike bits s t) (names_in_subscripts ps) → subscript_values (sequential bits) ps s ≡ subscript_values (sequential bits) ps t
  subscripts_alike no_subscripts h = refl
  subscripts_alike (subscript p ps) h =
      ap₂ (λ r q. do i ← r; is ← q; Ok (i ∷ is)) (subscript_alike p (first_part (Alike bits s t) (names_in_subscript p) (names_in_subscripts ps) h))
      (subscripts_alike ps (second_part (Alike bits s t) (names_in_subscript p) (names_in_subscripts ps) h))

-- ---- the store

module _ (s t : Store) where
  -- the names xs are as in s
  abbrev pub mixed : List (List ℕ) → Store
  mixed xs = record { bounds = λ y. cond (is_among xs y) (s.bounds y) (t.bounds y); held = λ c. cond (is_among xs c.name) (s.held c) (t.held c) }

  same : (x : List ℕ) → bytes_eq x x ≡ true
  same x = (bytes_eq-Decides x x).1 refl

  pub mixed_stands : (bits : ℕ) (x : List ℕ) (xs : List (List ℕ)) (by : Expression) (v : Value) → s.bounds x ≡ Some [] → s.held (record { name = x; subscripts = [] }) ≡ v
      → value_of (sequential bits) by (mixed xs) ≡ Ok v → ValueStandsFor (alone x by) bits (mixed (x ∷ xs)) (mixed xs)
  mixed_stands bits x xs by v b h k = record {
    bounds = λ y n. ap (λ c. cond (c || is_among xs y) (s.bounds y) (t.bounds y)) (either_false (bytes_eq y x) false n).0;
    held = λ d n. ap (λ c. cond (c || is_among xs d.name) (s.held d) (t.held d)) (either_false (bytes_eq d.name x) false n).0;
    scalar = ap (λ c. cond (c || is_among xs x) (s.bounds x) (t.bounds x)) (same x) ∙ b;
    value = k ∙ ap Ok (sym (ap (λ c. cond (c || is_among xs x) (s.held (record { name = x; subscripts = [] })) (t.held (record { name = x; subscripts = [] }))) (same x) ∙ h));
  }

  pub mixed_values : (xs names : List (List ℕ)) (zs : List ℤ) → AreOther xs names → HaveValues names t zs → HaveValues names (mixed xs) zs
  mixed_values xs [] [] h k = tt
  mixed_values xs [] (z ∷ zs) h k = absurd k
  mixed_values xs (y ∷ ys) [] h k = absurd k
  mixed_values xs (y ∷ ys) (z ∷ zs) h k = (
    ap (λ c. cond c (s.bounds y) (t.bounds y)) h.0 ∙ k.0,
    ap (λ c. cond c (s.held (record { name = y; subscripts = [] })) (t.held (record { name = y; subscripts = [] }))) h.0 ∙ k.1,
    mixed_values xs ys zs h.1 k.2,
  )

  pub mixed_sized : (xs : List (List ℕ)) → HoldsSized s → HoldsSized t → HoldsSized (mixed xs)
  mixed_sized xs h k c z e = by (is_among xs c.name) e
    where
      by : (b : Bool) → cond b (s.held c) (t.held c) ≡ Int z → nat_abs z ≤ 2 ^ 63
      by true g = h c z g
      by false g = k c z g

  -- ---- what has a value in s

  module _ (apart : List ℕ → Bool) (xs : List (List ℕ)) (bounds : (y : List ℕ) → apart y ≡ false → s.bounds y ≡ t.bounds y) (held : (c : Cell) → apart c.name ≡ false → s.held c ≡ t.held c) where
    abbrev Suit : List (List ℕ) → Type 0
    Suit ys = (y : List ℕ) → Contains ys y → apart y ≡ true → Contains xs y

    bounds_mixed : (y : List ℕ) → (apart y ≡ true → Contains xs y) → s.bounds y ≡ (mixed xs).bounds y
    bounds_mixed y h = by (is_among xs y) refl (apart y) refl
      where
        by : (b : Bool) → is_among xs y ≡ b → (a : Bool) → apart y ≡ a → s.bounds y ≡ cond b (s.bounds y) (t.bounds y)
        by true e a g = refl
        by false e true g = let in_xs = among xs y (h g) in let both = sym e ∙ in_xs in absurd cc
        by false e false g = bounds y g

    held_mixed : (y : List ℕ) → (apart y ≡ true → Contains xs y) → (c : Cell) → c.name ≡ y → s.held c ≡ (mixed xs).held c
    held_mixed y h c n = by (is_among xs c.name) refl (apart c.name) refl
      where
        by : (b : Bool) → is_among xs c.name ≡ b → (a : Bool) → apart c.name ≡ a → s.held c ≡ cond b (s.held c) (t.held c)
        by true e a g = refl
        by false e true g = let in_xs = ap (is_among xs) n ∙ among xs y (h (sym (ap apart n) ∙ g)) in let both = sym e ∙ in_xs in absurd cc
        by false e false g = held c g

    all_alike : (bits : ℕ) (ys : List (List ℕ)) → Suit ys → AllByRecursion (Alike bits s (mixed xs)) ys
    all_alike bits ys h =
        recursion_from_All (Alike bits s (mixed xs)) ys (each_member (Alike bits s (mixed xs)) ys (λ y m. (
          bounds_mixed y (h y m),
          λ is c e. held_mixed y (h y m) c (cell_in-named (s.bounds y) y is c e),
        )))

    pub value_mixed : (bits : ℕ) (e : Expression) → Suit (names_in e) → value_of (sequential bits) e s ≡ value_of (sequential bits) e (mixed xs)
    value_mixed bits e h = value_alike bits s (mixed xs) e (all_alike bits (names_in e) h)

    pub subscripts_mixed : (bits : ℕ) (ps : Subscripts) → Suit (names_in_subscripts ps) → subscript_values (sequential bits) ps s ≡ subscript_values (sequential bits) ps (mixed xs)
    subscripts_mixed bits ps h = subscripts_alike bits s (mixed xs) ps (all_alike bits (names_in_subscripts ps) h)
