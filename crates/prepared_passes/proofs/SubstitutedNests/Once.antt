-- No induction is listed twice: declarations have names of their own.
use Rattle.std.proofs.Common.{◌≡◌, inl, inr, refl, sym, ap, ◌∙◌, ℕ, Bool, true, false, cond, List, [], ◌∷◌, map, Option, Some, None}
use Rattle.std.specs.Cmp.Lexicographic.{slice_cmp}
use Rattle.std.specs.List.{AllByRecursion, cons_option, filter_map}
use Rattle.std.specs.Ordering.{is_eq, nat_cmp}
use Rattle.std.specs.Str.{bytes_eq}
use Rattle.std.specs.declared.cmp.Ordering.TheVariants.{Less}
use Rattle.std.proofs.lemmas.Map.Text.{is_eq-slice_cmp}
use Rattle.std.proofs.lemmas.Slice.Eq.{bytes_eq-Decides}
use Rattle.tree.specs.Plain.{Declaration}
use Rattle.meaning.specs.Names.{IsInByteOrder}
use Rattle.nest.specs.Bodies.{Standing}
use Rattle.nest.specs.declared.parts.Trip.{Trip}
use Rattle.nest_order.proofs.orders.Lists.{Each-In, Each-from}
use Rattle.nest_order.specs.orders.Lists.{Each, In}
use Rattle.inductions.specs.Found.{induction_declared}
use Rattle.inductions.specs.Putting.{found}
use Rattle.inductions.specs.declared.found.Induction.{Induction}
use Rattle.inductions.proofs.Listed.{IsListed, listed}

abbrev names : List Declaration → List (List ℕ)
names es = map (λ (e : Declaration). e.name) es

-- each name once
abbrev pub AreOnce : List Induction → Type 0
AreOnce [] = Unit {0}
AreOnce (d ∷ ds) = Each (λ (e : Induction). ¬ (d.name ≡ e.name)) ds × AreOnce ds

less_apart : (x y : List ℕ) → slice_cmp nat_cmp x y ≡ Less → ¬ (x ≡ y)
less_apart x y h e =
    let no : bytes_eq x y ≡ false = sym (is_eq-slice_cmp x y) ∙ ap is_eq h in
    let yes : bytes_eq x y ≡ true = (bytes_eq-Decides x y).1 e in
    let bad : true ≡ false = sym yes ∙ no in
    let none : ⊥ = cc in
    none

none_later : (x : List ℕ) (es : List Declaration) → AllByRecursion (λ y. slice_cmp nat_cmp x y ≡ Less) (names es) → (e : Declaration) → In e es → ¬ (x ≡ e.name)
none_later x [] h e i = absurd i
none_later x (c ∷ es) h e (inl q) = λ p. less_apart x c.name h.0 (p ∙ ap (λ (d : Declaration). d.name) q)
none_later x (c ∷ es) h e (inr i) = none_later x es h.1 e i

module _ (symbols : List (List ℕ)) (t : Trip) (ss : List Standing) where
  abbrev F : Declaration → Option Induction
  F = induction_declared symbols t ss

  -- the name of a declaration before all these isn't that of one of their inductions
  later : (e : Declaration) (es : List Declaration) → AllByRecursion (λ y. slice_cmp nat_cmp e.name y ≡ Less) (names es) → (d : Induction) → d.name ≡ e.name
      → Each (λ (c : Induction). ¬ (d.name ≡ c.name)) (filter_map (induction_declared symbols t ss) es)
  later e es h d same = Each-from (λ (c : Induction). ¬ (d.name ≡ c.name)) (filter_map F es)
      (λ c i p. (let r = listed symbols t ss es c i in none_later e.name es h r.declaration r.among (sym same ∙ (p ∙ r.name))))

  named : (e : Declaration) (d : Induction) → induction_declared symbols t ss e ≡ Some d → d.name ≡ e.name
  named e d q = by (listed symbols t ss (e ∷ []) d (first (F e) q))
    where
      first : (o : Option Induction) → o ≡ Some d → In d (cons_option o [])
      first None g = let no : ⊥ = cc in absurd no
      first (Some c) g = let same : c ≡ d = cc in inl (sym same)

      by : IsListed symbols t ss (e ∷ []) d → d.name ≡ e.name
      by r = of r.among r.name
        where
          of : In r.declaration (e ∷ []) → d.name ≡ r.declaration.name → d.name ≡ e.name
          of (inl f) g = g ∙ ap (λ (c : Declaration). c.name) f
          of (inr f) g = absurd f

  pub once_each : (es : List Declaration) → IsInByteOrder (map (λ (e : Declaration). e.name) es) → AreOnce (filter_map (induction_declared symbols t ss) es)
  once_each [] h = tt
  once_each (e ∷ es) h = by (F e) refl (once_each es h.1)
    where
      by : (o : Option Induction) → F e ≡ o → AreOnce (filter_map F es) → AreOnce (cons_option o (filter_map F es))
      by None q more = more
      by (Some d) q more = (later e es h.0 d (named e d q), more)

  is_found : (ds : List Induction) → AreOnce ds → (d : Induction) → In d ds → found ds d.name ≡ Some d
  is_found [] h d i = absurd i
  is_found (c ∷ ds) h d (inl e) =
      ap (λ b. cond b (Some c) (found ds d.name)) ((bytes_eq-Decides c.name d.name).1 (ap (λ (j : Induction). j.name) (sym e))) ∙ ap Some (sym e)
  is_found (c ∷ ds) h d (inr i) = by (bytes_eq c.name d.name) refl (is_found ds h.1 d i)
    where
      by : (b : Bool) → bytes_eq c.name d.name ≡ b → found ds d.name ≡ Some d → cond b (Some c) (found ds d.name) ≡ Some d
      by true e more = absurd (Each-In (λ (j : Induction). ¬ (c.name ≡ j.name)) ds h.0 d i ((bytes_eq-Decides c.name d.name).0 e))
      by false e more = more

  -- each of them is found by its name
  pub once_found : (es : List Declaration) → IsInByteOrder (map (λ (e : Declaration). e.name) es) → (d : Induction) → In d (filter_map (induction_declared symbols t ss) es)
      → found (filter_map (induction_declared symbols t ss) es) d.name ≡ Some d
  once_found es h d i = is_found (filter_map F es) (once_each es h) d i
