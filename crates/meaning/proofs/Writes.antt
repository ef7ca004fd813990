-- What an array assignment stores is in the range of INTEGER.
use Rattle.std.proofs.Common.{◌≡◌, refl, subst, ℕ, Bool, true, false, cond, List, [], ◌∷◌, map, Result, Ok, Err}
use Rattle.std.specs.List.{AllByRecursion, zip}
use Rattle.tree.specs.Steps.{◌>>=◌}
use Rattle.tree.specs.Plain.{Expression, Reference}
use Rattle.tree.specs.declared.ops.Value.{Value}
use Rattle.tree.specs.declared.ops.Fault.{Fault}
use Rattle.tree.specs.declared.ops.Fault.TheVariants.{Overflow}
use Rattle.meaning.specs.Store.{Store, Cell}
use Rattle.meaning.specs.Dialect.{Dialect}
use Rattle.meaning.specs.ArrayValues.{each, positions, conform}
use Rattle.meaning.specs.Sections.{extents_of, cells_along}
use Rattle.meaning.specs.Value.{is_in_range, array_of}
use Rattle.meaning.specs.ArrayStatements.{storable, writes_of, second, axes_named, where_true}

-- all elements of an answer have P, if there is an answer
record AllHave {A : Type 0} (P : A → Type 0) (r : Result (List A) Fault) : Type 0 where
  has : (xs : List A) → r ≡ Ok xs → AllByRecursion P xs

AllHave-behind : {A B : Type 0} (P : B → Type 0) (r : Result A Fault) (f : A → Result (List B) Fault) → ((x : A) → AllHave P (f x)) → AllHave P (r >>= f)
AllHave-behind P (Ok x) f h = h x
AllHave-behind P (Err g) f h = record { has = λ xs e. cc }

AllHave-ok : {A : Type 0} (P : A → Type 0) (xs : List A) → AllByRecursion P xs → AllHave P (Ok xs)
AllHave-ok P xs h = record { has = λ ys e. let same : xs ≡ ys = cc in subst (AllByRecursion P) same h }

module _ (lang : Dialect) where
  abbrev InRange : Value → Type 0
  InRange v = is_in_range lang.bits v ≡ true

  storable-is : (v w : Value) → storable lang v ≡ Ok w → is_in_range lang.bits w ≡ true
  storable-is v w e = by (is_in_range lang.bits v) refl e
    where
      by : (b : Bool) → is_in_range lang.bits v ≡ b → ◌≡◌ {A = Result Value Fault} (cond b (Ok v) (Err Overflow)) (Ok w) → is_in_range lang.bits w ≡ true
      by true p q = let same : v ≡ w = cc in cc
      by false p q = cc

  each-storable : (xs : List Value) → AllHave InRange (each (storable lang) xs)
  each-storable [] = AllHave-ok InRange [] tt
  each-storable (x ∷ xs) = by (storable lang x) (storable-is x) (each (storable lang) xs) (each-storable xs)
    where
      by : (q : Result Value Fault) → ((w : Value) → q ≡ Ok w → InRange w) → (r : Result (List Value) Fault) → AllHave InRange r → AllHave InRange (do v ← q; vs ← r; Ok (v ∷ vs))
      by (Ok v) h (Ok vs) k = AllHave-ok InRange (v ∷ vs) (h v refl, k.has vs refl)
      by (Ok v) h (Err f) k = record { has = λ xs e. cc }
      by (Err f) h r k = record { has = λ xs e. cc }

  abbrev Good : Cell × Value → Type 0
  Good w = is_in_range lang.bits w.1 ≡ true

  zipped : (cs : List Cell) (vs : List Value) → AllByRecursion InRange vs → AllByRecursion Good (zip cs vs)
  zipped [] vs h = tt
  zipped (c ∷ cs) [] h = tt
  zipped (c ∷ cs) (v ∷ vs) h = (h.0, zipped cs vs h.1)

  last : (cs : List Cell) (r : Result (List Value) Fault) → AllHave InRange r → AllHave Good (do vs ← r; Ok (zip cs vs))
  last cs (Ok vs) h = AllHave-ok Good (zip cs vs) (zipped cs vs (h.has vs refl))
  last cs (Err f) h = record { has = λ xs e. cc }

  abbrev behind : {A : Type 0} (r : Result A Fault) (f : A → Result (List (Cell × Value)) Fault) → ((x : A) → AllHave Good (f x)) → AllHave Good (r >>= f)
  behind r f h = AllHave-behind Good r f h

  pub writes-in_range : (m : Expression) (r : Reference) (e : Expression) (s : Store) (ws : List (Cell × Value)) → writes_of lang m r e s ≡ Ok ws
      → AllByRecursion (λ (w : Cell × Value). is_in_range lang.bits w.1 ≡ true) ws
  writes-in_range m r e s ws h =
      let good : AllHave Good (writes_of lang m r e s) =
      behind (array_of lang m s) _ (λ mask. behind (axes_named lang r s) _ (λ axes. behind (conform mask.extents (extents_of axes)) _ (λ ns. behind (array_of lang e s) _ (λ g.
      behind (conform ns g.extents) _ (λ ms. behind (where_true mask (zip (positions (extents_of axes)) (cells_along r.name axes))) _ (λ chosen. behind (each (λ (p : List ℕ × Cell). g.at p.0) chosen) _ (λ xs.
      last (map second chosen) (each (storable lang) xs) (each-storable xs)))))))) in
      good.has ws h
