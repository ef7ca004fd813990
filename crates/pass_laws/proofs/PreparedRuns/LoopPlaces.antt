-- Each loop of a nest stands at one depth.
use Rattle.std.proofs.Common.{◌≡◌, refl, sym, ap, ap₂, ◌∙◌, subst, ◌⊎◌, inl, inr, ℕ, zero, suc, ◌<◌, List, [], ◌∷◌}
use Rattle.std.proofs.Common.{◌++◌, get_or, length, map, Some, arith}
use Rattle.std.specs.Prelude.{slice_get}
use Rattle.std.proofs.lemmas.List.{length-append, map-append}
use Rattle.emission.specs.emission_pieces.Nests.{loops_at, standing_at}
use Rattle.nest_order.proofs.orders.Lists.{Each-In, In-append, In-left, In-right}
use Rattle.nest_order.proofs.orders.Membership.{map-In}
use Rattle.nest_order.specs.orders.Lists.{Distinct, In}
use Rattle.nest_order.specs.shapes.Shapes.{ArePlain, IsPlain, numbers_of}
use Rattle.nest.specs.Bodies.{Standing, loops_in_parts, loops_of, nest_loops, nest_statements, statements_in}
use Rattle.nest.specs.Bodies.{statements_in_parts}
use Rattle.nest.specs.Plain.{Choice, Jump, Label, Loop, Nest, Part, Parts, Run, Turns, no_parts, part}
use Rattle.array_form.specs.holds.Statements.{no_statement}

-- the number of each loop with how many loops stand round it
abbrev mutual
  places : ℕ → (p : Part) → List (ℕ × ℕ)
  places d (Run s) = []
  places d (Turns l ps) = (l.number, d) ∷ places_in (suc d) ps
  places d (Choice bs ps) = []
  places d (Label n) = []
  places d (Jump n) = []

  places_in : ℕ → (ps : Parts) → List (ℕ × ℕ)
  places_in d no_parts = []
  places_in d (part p ps) = places d p ++ places_in d ps

abbrev numbers_there : List (ℕ × ℕ) → List ℕ
numbers_there ts = map (λ (t : ℕ × ℕ). t.0) ts

mutual
  numbers_are : (d : ℕ) (p : Part) → IsPlain p → numbers_there (places d p) ≡ numbers_of (loops_of p)
  numbers_are d (Run s) h = refl
  numbers_are d (Turns l ps) h = ap (λ (ks : List ℕ). l.number ∷ ks) (numbers_are_in (suc d) ps h.1)
  numbers_are d (Choice bs ps) h = absurd h
  numbers_are d (Label n) h = absurd h
  numbers_are d (Jump n) h = absurd h

  numbers_are_in : (d : ℕ) (ps : Parts) → ArePlain ps → numbers_there (places_in d ps) ≡ numbers_of (loops_in_parts ps)
  numbers_are_in d no_parts h = refl
  numbers_are_in d (part p ps) h =
      map-append (λ (t : ℕ × ℕ). t.0) (places d p) (places_in d ps)
      ∙ (ap₂ (λ (xs ys : List ℕ). xs ++ ys) (numbers_are d p h.0) (numbers_are_in d ps h.1) ∙ sym (map-append (λ (l : Loop). l.number) (loops_of p) (loops_in_parts ps)))

one_place : (ts : List (ℕ × ℕ)) (k i j : ℕ) → Distinct (numbers_there ts) → In (k, i) ts → In (k, j) ts → i ≡ j
one_place [] k i j d g h = absurd g
one_place (t ∷ ts) k i j d (inl e) (inl f) = let a = ap (λ (t : ℕ × ℕ). t.1) e in let b = ap (λ (t : ℕ × ℕ). t.1) f in a ∙ sym b
one_place (t ∷ ts) k i j d (inl e) (inr h) =
    absurd (Each-In (λ (y : ℕ). ¬ (t.0 ≡ y)) (numbers_there ts) d.0 k (map-In (λ (t : ℕ × ℕ). t.0) (k, j) ts h) (sym (ap (λ (t : ℕ × ℕ). t.0) e)))
one_place (t ∷ ts) k i j d (inr g) (inl f) =
    absurd (Each-In (λ (y : ℕ). ¬ (t.0 ≡ y)) (numbers_there ts) d.0 k (map-In (λ (t : ℕ × ℕ). t.0) (k, i) ts g) (sym (ap (λ (t : ℕ × ℕ). t.0) f)))
one_place (t ∷ ts) k i j d (inr g) (inr h) = one_place ts k i j d.1 g h

-- the last one, or one before it
at_end : (ls : List Loop) (m l : Loop) (i : ℕ) → slice_get (ls ++ m ∷ []) i ≡ Some l → (slice_get ls i ≡ Some l) ⊎ ((i ≡ length ls) × (l ≡ m))
at_end [] m l zero e = inr (refl, cc)
at_end [] m l (suc i) e = let no : ⊥ = cc in absurd no
at_end (k ∷ ls) m l zero e = inl e
at_end (k ∷ ls) m l (suc i) e = by (at_end ls m l i e)
  where
    by : (slice_get ls i ≡ Some l) ⊎ ((i ≡ length ls) × (l ≡ m)) → (slice_get ls i ≡ Some l) ⊎ ((suc i ≡ suc (length ls)) × (l ≡ m))
    by (inl f) = inl f
    by (inr f) = inr (ap suc f.0, f.1)

one_longer : (ls : List Loop) (l : Loop) → length (ls ++ l ∷ []) ≡ suc (length ls)
one_longer ls l = let e = length-append ls (l ∷ []) in omega (arith, e)

in_either : (ls : List Loop) (p : Part) (ps : Parts) (x : Standing) (i : ℕ) (l : Loop)
    → (In x (statements_in ls p) → (slice_get ls i ≡ Some l) ⊎ In (l.number, i) (places (length ls) p))
    → (In x (statements_in_parts ls ps) → (slice_get ls i ≡ Some l) ⊎ In (l.number, i) (places_in (length ls) ps))
    → In x (statements_in ls p) ⊎ In x (statements_in_parts ls ps) → (slice_get ls i ≡ Some l) ⊎ In (l.number, i) (places (length ls) p ++ places_in (length ls) ps)
in_either ls p ps x i l f g h = by h
  where
    left : (slice_get ls i ≡ Some l) ⊎ In (l.number, i) (places (length ls) p) → (slice_get ls i ≡ Some l) ⊎ In (l.number, i) (places (length ls) p ++ places_in (length ls) ps)
    left (inl e) = inl e
    left (inr j) = inr (In-left (l.number, i) (places (length ls) p) (places_in (length ls) ps) j)

    right : (slice_get ls i ≡ Some l) ⊎ In (l.number, i) (places_in (length ls) ps) → (slice_get ls i ≡ Some l) ⊎ In (l.number, i) (places (length ls) p ++ places_in (length ls) ps)
    right (inl e) = inl e
    right (inr j) = inr (In-right (l.number, i) (places (length ls) p) (places_in (length ls) ps) j)

    by : In x (statements_in ls p) ⊎ In x (statements_in_parts ls ps) → (slice_get ls i ≡ Some l) ⊎ In (l.number, i) (places (length ls) p ++ places_in (length ls) ps)
    by (inl j) = left (f j)
    by (inr j) = right (g j)

mutual
  place_is : (ls : List Loop) (p : Part) → IsPlain p → (x : Standing) → In x (statements_in ls p) → (i : ℕ) (l : Loop) → slice_get x.loops i ≡ Some l
      → (slice_get ls i ≡ Some l) ⊎ In (l.number, i) (places (length ls) p)
  place_is ls (Run s) h x (inl e) i l f = inl (subst (λ (y : Standing). slice_get y.loops i ≡ Some l) e f)
  place_is ls (Run s) h x (inr g) i l f = absurd g
  place_is ls (Turns m ps) h x g i l f = by (place_is_in (ls ++ m ∷ []) ps h.1 x g i l f)
    where
      first : (slice_get ls i ≡ Some l) ⊎ ((i ≡ length ls) × (l ≡ m)) → (slice_get ls i ≡ Some l) ⊎ In (l.number, i) ((m.number, length ls) ∷ places_in (suc (length ls)) ps)
      first (inl e) = inl e
      first (inr e) = inr (inl (ap₂ (λ (a b : ℕ). (a, b)) (ap (λ (l : Loop). l.number) e.1) e.0))

      by : (slice_get (ls ++ m ∷ []) i ≡ Some l) ⊎ In (l.number, i) (places_in (length (ls ++ m ∷ [])) ps)
          → (slice_get ls i ≡ Some l) ⊎ In (l.number, i) ((m.number, length ls) ∷ places_in (suc (length ls)) ps)
      by (inl e) = first (at_end ls m l i e)
      by (inr j) = inr (inr (subst (λ (d : ℕ). In (l.number, i) (places_in d ps)) (one_longer ls m) j))
  place_is ls (Choice bs ps) h x g i l f = absurd h
  place_is ls (Label n) h x g i l f = absurd h
  place_is ls (Jump n) h x g i l f = absurd h

  place_is_in : (ls : List Loop) (ps : Parts) → ArePlain ps → (x : Standing) → In x (statements_in_parts ls ps) → (i : ℕ) (l : Loop) → slice_get x.loops i ≡ Some l
      → (slice_get ls i ≡ Some l) ⊎ In (l.number, i) (places_in (length ls) ps)
  place_is_in ls no_parts h x g i l f = absurd g
  place_is_in ls (part p ps) h x g i l f =
      in_either ls p ps x i l (λ j. place_is ls p h.0 x j i l f) (λ j. place_is_in ls ps h.1 x j i l f) (In-append x (statements_in ls p) (statements_in_parts ls ps) g)

pub element : {X : Type 0} (xs : List X) (k : ℕ) (d : X) → k < length xs → In (get_or xs k d) xs
element [] k d g = absurd (omega arith)
element (x ∷ xs) zero d g = inl refl
element (x ∷ xs) (suc k) d g = inr (element xs k d (omega arith))

pub one_depth : (m : Nest) → IsPlain m.body → Distinct (numbers_of (nest_loops m)) → (s t i j : ℕ) (l k : Loop) → s < length (nest_statements m) → t < length (nest_statements m)
    → slice_get (loops_at m s) i ≡ Some l → slice_get (loops_at m t) j ≡ Some k → l.number ≡ k.number → i ≡ j
one_depth m plain once s t i j l k a b e f same =
    one_place (places 0 m.body) l.number i j (subst Distinct (sym (numbers_are 0 m.body plain)) once)
    (there (place_is [] m.body plain (standing_at m s) (element (nest_statements m) s no_statement a) i l e))
    (subst (λ (n : ℕ). In (n, j) (places 0 m.body)) (sym same) (behind (place_is [] m.body plain (standing_at m t) (element (nest_statements m) t no_statement b) j k f)))
  where
    there : (slice_get [] i ≡ Some l) ⊎ In (l.number, i) (places 0 m.body) → In (l.number, i) (places 0 m.body)
    there (inl g) = let no : ⊥ = cc in absurd no
    there (inr g) = g

    behind : (slice_get [] j ≡ Some k) ⊎ In (k.number, j) (places 0 m.body) → In (k.number, j) (places 0 m.body)
    behind (inl g) = let no : ⊥ = cc in absurd no
    behind (inr g) = g
