-- The symbols of a nest that is found.
use Rattle.std.proofs.Common.{◌≡◌, refl, sym, ap, ◌∙◌, subst, inl, inr, ℕ, Bool, true, false, cond, ◌||◌, not, List, []}
use Rattle.std.proofs.Common.{◌∷◌, map, filter, Option, Some, Contains}
use Rattle.std.specs.Cmp.Lexicographic.{slice_cmp}
use Rattle.std.specs.List.{AllByRecursion, list_any}
use Rattle.std.specs.Option.{IsSomeAnd}
use Rattle.std.specs.Ordering.{nat_cmp, is_eq}
use Rattle.std.specs.Str.{bytes_eq}
use Rattle.std.specs.declared.cmp.Ordering.TheVariants.{Less}
use Rattle.std.proofs.lemmas.Map.Text.{is_eq-slice_cmp}
use Rattle.std.proofs.lemmas.Slice.Eq.{bytes_eq-Decides}
use Rattle.meaning.specs.Names.{IsInByteOrder, is_among}
use Rattle.meaning.specs.Typed90.{IsIntegerScalar}
use Rattle.meaning.specs.Typed.{declared, rank_of_extent}
use Rattle.rewrite.specs.Names.{is_way, names_standing, without_repeats}
use Rattle.rewrite.specs.declared.uses.Use.{Use}
use Rattle.rewrite.specs.declared.uses.Way.TheVariants.{Writes}
use Rattle.tree.specs.Plain.{Extent, Given, Later, Declaration}
use Rattle.tree.specs.declared.ops.Kind.{Kind}
use Rattle.tree.specs.declared.ops.Kind.TheVariants.{Integer, Logical}
use Rattle.linear_forms.specs.CanonicalLaws.{AreDistinct}
use Rattle.nest_order.specs.orders.Lists.{In}
use Rattle.nest_reasons.specs.Symbols.{is_integer, is_scalar_extent}
use Rattle.meaning_laws.proofs.profiles.Lists.{here, there}
use Rattle.meaning_laws.proofs.profiles.Names.{names}

neither : (a b : Bool) → (a || b) ≡ false → (a ≡ false) × (b ≡ false)
neither true b h = let no : ⊥ = cc in absurd no
neither false b h = (refl, h)

pub not_yes : (b : Bool) → not b ≡ true → b ≡ false
not_yes true h = let no : ⊥ = cc in absurd no
not_yes false h = refl

pub apart : (x y : List ℕ) → bytes_eq x y ≡ false → ¬ (x ≡ y)
apart x y h e = let yes = (bytes_eq-Decides x y).1 e in let no : ⊥ = cc in no

module _ (z : List ℕ) where
  abbrev Free : List (List ℕ) → Type 0
  Free xs = list_any (bytes_eq z) xs ≡ false

  joined_free : (x : List ℕ) (xs : List (List ℕ)) → bytes_eq z x ≡ false → Free xs → Free (x ∷ xs)
  joined_free x xs h k = ap (λ b. b || list_any (bytes_eq z) xs) h ∙ k

  unfiltered : (x : List ℕ) (ys : List (List ℕ)) → bytes_eq z x ≡ false → Free (filter (λ y. not (bytes_eq y x)) ys) → Free ys
  unfiltered x [] h k = refl
  unfiltered x (y ∷ ys) h k = by (bytes_eq y x) refl (λ g. unfiltered x ys h g) k
    where
      by : (b : Bool) → bytes_eq y x ≡ b → (Free (filter (λ y. not (bytes_eq y x)) ys) → Free ys)
          → Free (cond (not b) (y ∷ filter (λ y. not (bytes_eq y x)) ys) (filter (λ y. not (bytes_eq y x)) ys)) → Free (y ∷ ys)
      by true e more g = joined_free y ys (ap (bytes_eq z) ((bytes_eq-Decides y x).0 e) ∙ h) (more g)
      by false e more g =
          let p = neither (bytes_eq z y) (list_any (bytes_eq z) (filter (λ y. not (bytes_eq y x)) ys)) g in
          joined_free y ys p.0 (more p.1)

  pub repeated : (xs : List (List ℕ)) → Free (without_repeats xs) → Free xs
  repeated [] h = refl
  repeated (x ∷ xs) h =
      let p = neither (bytes_eq z x) (list_any (bytes_eq z) (filter (λ y. not (bytes_eq y x)) (without_repeats xs))) h in
      joined_free x xs p.0 (repeated xs (unfiltered x (without_repeats xs) p.0 p.1))

  pub standing_free : (us : List Use) → Free (names_standing Writes us) → (u : Use) → In u us → u.way ≡ Writes → ¬ (z ≡ u.name)
  standing_free [] h u i w = absurd i
  standing_free (v ∷ us) h u (inl e) w =
      let here : is_way v.way Writes ≡ true = ap (λ (u : Use). is_way u.way Writes) (sym e) ∙ ap (λ w. is_way w Writes) w in
      let g : Free (v.name ∷ names_standing Writes us) = subst (λ b. Free (map (λ (u : Use). u.name) (cond b (v ∷ filter (λ (u : Use). is_way u.way Writes) us) (filter (λ (u : Use). is_way u.way Writes) us)))) here h in
      subst (λ (u : Use). ¬ (z ≡ u.name)) (sym e) (apart z v.name (neither (bytes_eq z v.name) (list_any (bytes_eq z) (names_standing Writes us)) g).0)
  standing_free (v ∷ us) h u (inr i) w = by (is_way v.way Writes) h (λ g. standing_free us g u i w)
    where
      by : (b : Bool) → Free (map (λ (u : Use). u.name) (cond b (v ∷ filter (λ (u : Use). is_way u.way Writes) us) (filter (λ (u : Use). is_way u.way Writes) us)))
          → (Free (names_standing Writes us) → ¬ (z ≡ u.name)) → ¬ (z ≡ u.name)
      by true g more = more (neither (bytes_eq z v.name) (list_any (bytes_eq z) (names_standing Writes us)) g).1
      by false g more = more g

-- the declaration of a symbol
pub record IsChosen (test : Declaration → Bool) (ds : List Declaration) (y : List ℕ) : Type 0 where
  pub declaration : Declaration
  pub among : Contains ds declaration
  pub name : y ≡ declaration.name
  pub passes : test declaration ≡ true

pub chosen : (test : Declaration → Bool) (ds : List Declaration) (y : List ℕ) → In y (map (λ (d : Declaration). d.name) (filter test ds)) → IsChosen test ds y
chosen test [] y i = absurd i
chosen test (d ∷ ds) y i = by (test d) refl (λ j. later (chosen test ds y j)) i
  where
    later : IsChosen test ds y → IsChosen test (d ∷ ds) y
    later c = record { declaration = c.declaration; among = there d ds c.declaration c.among; name = c.name; passes = c.passes }

    by : (b : Bool) → test d ≡ b → (In y (map (λ (d : Declaration). d.name) (filter test ds)) → IsChosen test (d ∷ ds) y)
        → In y (map (λ (d : Declaration). d.name) (cond b (d ∷ filter test ds) (filter test ds))) → IsChosen test (d ∷ ds) y
    by true e more (inl n) = record { declaration = d; among = here d ds; name = n; passes = e }
    by true e more (inr j) = more j
    by false e more j = more j

less_apart : (x y : List ℕ) → slice_cmp nat_cmp x y ≡ Less → bytes_eq x y ≡ false
less_apart x y h = sym (is_eq-slice_cmp x y) ∙ ap is_eq h

absent : (test : Declaration → Bool) (x : List ℕ) (ds : List Declaration) → AllByRecursion (λ y. slice_cmp nat_cmp x y ≡ Less) (names ds)
    → is_among (map (λ (d : Declaration). d.name) (filter test ds)) x ≡ false
absent test x [] h = refl
absent test x (d ∷ ds) h = by (test d) (absent test x ds h.1)
  where
    by : (b : Bool) → is_among (map (λ (d : Declaration). d.name) (filter test ds)) x ≡ false
        → is_among (map (λ (d : Declaration). d.name) (cond b (d ∷ filter test ds) (filter test ds))) x ≡ false
    by true k = ap (λ b. b || is_among (map (λ (d : Declaration). d.name) (filter test ds)) x) (less_apart x d.name h.0) ∙ k
    by false k = k

pub chosen_once : (test : Declaration → Bool) (ds : List Declaration) → IsInByteOrder (names ds) → AreDistinct (map (λ (d : Declaration). d.name) (filter test ds))
chosen_once test [] h = tt
chosen_once test (d ∷ ds) h = by (test d) (chosen_once test ds h.1)
  where
    by : (b : Bool) → AreDistinct (map (λ (d : Declaration). d.name) (filter test ds))
        → AreDistinct (map (λ (d : Declaration). d.name) (cond b (d ∷ filter test ds) (filter test ds)))
    by true k = (absent test d.name ds h.0, k)
    by false k = k

-- an INTEGER scalar
pub record IsSymbolIn (es : List Declaration) (y : List ℕ) : Type 0 where
  pub declaration : Declaration
  pub found : declared es y ≡ Some declaration
  pub kind : declaration.kind ≡ Integer
  pub scalar : declaration.extent ≡ Given []

pub symbol_integer : (es : List Declaration) (y : List ℕ) → IsSymbolIn es y → IsIntegerScalar es y
symbol_integer es y h =
    subst (λ (o : Option Declaration). IsSomeAnd o (λ (d : Declaration). (d.kind ≡ Integer) × (rank_of_extent d.extent ≡ 0))) (sym h.found)
    (h.kind, ap rank_of_extent h.scalar)

pub integer_is : (k : Kind) → is_integer k ≡ true → k ≡ Integer
integer_is Integer h = refl
integer_is Logical h = let no : ⊥ = cc in absurd no

pub scalar_is : (x : Extent) → is_scalar_extent x ≡ true → x ≡ Given []
scalar_is (Given []) h = refl
scalar_is (Given (b ∷ bs)) h = let no : ⊥ = cc in absurd no
scalar_is (Later n) h = let no : ⊥ = cc in absurd no
