-- What a slot that is put in another one's place gives.
use Rattle.std.proofs.Common.{◌≡◌, refl, sym, ap, ◌∙◌, subst, zero, suc, ℕ, ℤ, ◌<◌, Bool, true, false, cond, List, [], ◌∷◌, length, set, get_or, Some, None, MatchOption, Result, Ok, Err, arith}
use Rattle.std.specs.Prelude.{position}
use Rattle.std.specs.Str.{bytes_eq}
use Rattle.std.proofs.lemmas.List.{get_or-set_same, get_or_default}
use Rattle.std.proofs.lemmas.Slice.Eq.{bytes_eq-Decides}
use mathlib.Core.Path.{ap₂}
use Rattle.tree.specs.declared.ops.Kind.{Kind}
use Rattle.tree.specs.declared.ops.Fault.{Fault}
use Rattle.tree.specs.declared.ops.Fault.TheVariants.{Allocated}
use Rattle.meaning.specs.Store.{Store, Cell, nought, nought_like, allocated, with_bounds, bounds_in, stored_bounds}
use Rattle.meaning.specs.ArrayStatements.{free}
use Rattle.array_values.specs.declared.failure.Failure.{Failure}
use Rattle.array_values.specs.declared.failure.Failure.TheVariants as failure
use Rattle.array_values.specs.declared.storage.slots.Slot.{Slot}
use Rattle.array_values.specs.storage.Names.{own_names}
use Rattle.array_values.specs.storage.Slots.{store_among, bounds_among, held_among, kind_among, bounds_now, held_here, IsNamed, IsMissing, Has}
use Rattle.array_values.specs.storage.Bounds.{bounds_held, from_one}
use Rattle.array_values.specs.storage.Allocation.{OpensAs, Opens, ClosesAs, Closes, HoldsKind, Allocates, Deallocates}
use Rattle.array_values.proofs.storage.Searches.{searched}
use Rattle.array_values.proofs.storage.PlaceLaws.{store-bounds}
use Rattle.array_values.proofs.storage.Places.{store-is}

-- ---- the other names

-- w has the name of the slot at i, which isn't y
abbrev pub IsOther : List Slot → ℕ → Slot → List ℕ → Type 0
IsOther vs i w y = (v : Slot) → v ≡ get_or vs i v → (w.name ≡ v.name) × (bytes_eq v.name y ≡ false)

passed : {A : Type 0} (w v : Slot) (y : List ℕ) (a b r : A) → (w.name ≡ v.name) × (bytes_eq v.name y ≡ false) → cond (bytes_eq w.name y) a r ≡ cond (bytes_eq v.name y) b r
passed w v y a b r h = ap (λ t. cond t a r) (ap (λ n. bytes_eq n y) h.0 ∙ h.1) ∙ sym (ap (λ t. cond t b r) h.1)

other_bounds : (vs : List Slot) (i : ℕ) (w : Slot) (y : List ℕ) → IsOther vs i w y → bounds_among (set vs i w) y ≡ bounds_among vs y
other_bounds [] i w y h = refl
other_bounds (v ∷ vs) zero w y h = passed w v y (bounds_now w) (bounds_now v) (bounds_among vs y) (h v refl)
other_bounds (v ∷ vs) (suc i) w y h = ap (cond (bytes_eq v.name y) (bounds_now v)) (other_bounds vs i w y h)

other_held : (vs : List Slot) (i : ℕ) (w : Slot) (y : List ℕ) (is : List ℤ) → IsOther vs i w y → held_among (set vs i w) y is ≡ held_among vs y is
other_held [] i w y is h = refl
other_held (v ∷ vs) zero w y is h = passed w v y (held_here w is) (held_here v is) (held_among vs y is) (h v refl)
other_held (v ∷ vs) (suc i) w y is h = ap (cond (bytes_eq v.name y) (held_here v is)) (other_held vs i w y is h)

-- ---- names and kinds

names_kept : (vs : List Slot) (i : ℕ) (w : Slot) → ((v : Slot) → v ≡ get_or vs i v → w.name ≡ v.name) → own_names (set vs i w) ≡ own_names vs
names_kept [] i w h = refl
names_kept (v ∷ vs) zero w h = ap (λ n. n ∷ own_names vs) (h v refl)
names_kept (v ∷ vs) (suc i) w h = ap (λ ns. v.name ∷ ns) (names_kept vs i w h)

kinds_kept : (vs : List Slot) (i : ℕ) (w : Slot) → ((v : Slot) → v ≡ get_or vs i v → (w.name ≡ v.name) × (w.kind ≡ v.kind)) → (y : List ℕ) → kind_among (set vs i w) y ≡ kind_among vs y
kinds_kept [] i w h y = refl
kinds_kept (v ∷ vs) zero w h y = ap₂ (λ n (t : Kind). cond (bytes_eq n y) (Some t) (kind_among vs y)) (h v refl).0 (h v refl).1
kinds_kept (v ∷ vs) (suc i) w h y = ap (cond (bytes_eq v.name y) (Some v.kind)) (kinds_kept vs i w h y)

set_same : (vs : List Slot) (i : ℕ) (w : Slot) → i < length vs → w ≡ get_or vs i w → set vs i w ≡ vs
set_same [] i w l e = absurd (omega arith)
set_same (v ∷ vs) zero w l e = ap (λ v. v ∷ vs) e
set_same (v ∷ vs) (suc i) w l e = ap (λ vs. v ∷ vs) (set_same vs i w (omega arith) e)

-- ---- a slot in the place of that of the name x

module _ (vs : List Slot) (x : List ℕ) (i : ℕ) (h : Has vs x i) (r w : Slot) (e : r ≡ get_or vs i r) where
  own : (v : Slot) → v ≡ get_or vs i v → r ≡ v
  own v g = e ∙ get_or_default vs i r v h.within ∙ sym g

  named : (n : w.name ≡ r.name) (v : Slot) → v ≡ get_or vs i v → w.name ≡ v.name
  named n v g = n ∙ ap (λ (v : Slot). v.name) (own v g)

  pub slot_names : w.name ≡ r.name → own_names (set vs i w) ≡ own_names vs
  slot_names n = names_kept vs i w (named n)

  pub slot_kinds : w.name ≡ r.name → w.kind ≡ r.kind → (y : List ℕ) → kind_among (set vs i w) y ≡ kind_among vs y
  slot_kinds n k = kinds_kept vs i w (λ v g. (named n v g, k ∙ ap (λ (v : Slot). v.kind) (own v g)))

  has_new : w.name ≡ r.name → Has (set vs i w) x i
  has_new n =
      let first : position (bytes_eq x) (own_names (set vs i w)) ≡ Some i = ap (position (bytes_eq x)) (slot_names n) ∙ h.first in
      subst (λ o. MatchOption o (IsMissing (set vs i w) x) (Has (set vs i w) x)) first (searched x (set vs i w))

  is_new : w.name ≡ r.name → IsNamed (set vs i w) x i w
  is_new n = (has_new n).named w (sym (get_or-set_same vs i w w h.within))

  other : w.name ≡ r.name → (y : List ℕ) → bytes_eq x y ≡ false → IsOther vs i w y
  other n y f v g =
      let own' = own v g in
      let name : v.name ≡ x = (bytes_eq-Decides v.name x).0 (h.named v g).name in
      (named n v g, ap (λ n. bytes_eq n y) name ∙ f)

  same_name : (y : List ℕ) → bytes_eq x y ≡ true → x ≡ y
  same_name y t = (bytes_eq-Decides x y).0 t

  -- the store, by the bounds and the values of the new slot
  pub slot_store : w.name ≡ r.name → (s : Store)
      → ((y : List ℕ) → s.bounds y ≡ cond (bytes_eq x y) (bounds_now w) (bounds_among vs y))
      → ((c : Cell) → s.held c ≡ cond (bytes_eq x c.name) (held_here w c.subscripts) (held_among vs c.name c.subscripts))
      → store_among (set vs i w) ≡ s
  slot_store n s b k = store-is (set vs i w) (set vs i w) s (λ y. at y (bytes_eq x y) refl ∙ sym (b y)) (λ c. held c (bytes_eq x c.name) refl ∙ sym (k c))
    where
      at : (y : List ℕ) (t : Bool) → bytes_eq x y ≡ t → bounds_among (set vs i w) y ≡ cond (bytes_eq x y) (bounds_now w) (bounds_among vs y)
      at y true t = subst (λ y. bounds_among (set vs i w) y ≡ bounds_now w) (same_name y t) (is_new n).bounds ∙ sym (ap (λ t. cond t (bounds_now w) (bounds_among vs y)) t)
      at y false t = other_bounds vs i w y (other n y t) ∙ sym (ap (λ t. cond t (bounds_now w) (bounds_among vs y)) t)

      held : (c : Cell) (t : Bool) → bytes_eq x c.name ≡ t → held_among (set vs i w) c.name c.subscripts ≡ cond (bytes_eq x c.name) (held_here w c.subscripts) (held_among vs c.name c.subscripts)
      held c true t = subst (λ y. held_among (set vs i w) y c.subscripts ≡ held_here w c.subscripts) (same_name c.name t) ((is_new n).held c.subscripts) ∙ sym (ap (λ t. cond t (held_here w c.subscripts) (held_among vs c.name c.subscripts)) t)
      held c false t = other_held vs i w c.name c.subscripts (other n c.name t) ∙ sym (ap (λ t. cond t (held_here w c.subscripts) (held_among vs c.name c.subscripts)) t)

  -- ALLOCATE
  pub allocates : (k : Kind) (ns : List ℤ) → kind_among vs x ≡ Some k → OpensAs r w (from_one ns) → Allocates k x ns vs (set vs i w) (Ok tt)
  unfolding store_among
  allocates k ns g o =
      let found = h.named r e in
      let kind : r.kind ≡ k = (let both : Some r.kind ≡ Some k = sym found.kind ∙ g in cc) in (
        ap (λ b. free b ns) (found.bounds ∙ ap (λ t. cond t (Some (bounds_held r.bounds)) None) o.was),
        λ all. slot_store o.name (allocated x (from_one ns) (store_among vs))
            (λ y. ap (λ b. cond (bytes_eq x y) b (bounds_among vs y)) (sym (ap₂ (λ t (bs : List (ℤ × ℤ)). cond t (Some bs) None) o.there o.bounds)))
            (λ c. at c (bytes_eq x c.name) refl kind all),
      )
    where
      at : (c : Cell) (t : Bool) → bytes_eq x c.name ≡ t → r.kind ≡ k → HoldsKind k x vs
          → cond (bytes_eq x c.name) (nought_like (held_among vs c.name c.subscripts)) (held_among vs c.name c.subscripts) ≡ cond (bytes_eq x c.name) (held_here w c.subscripts) (held_among vs c.name c.subscripts)
      at c true t kind all =
          let own : nought_like (held_among vs c.name c.subscripts) ≡ nought k = subst (λ y. nought_like (held_among vs y c.subscripts) ≡ nought k) (same_name c.name t) (all c.subscripts) in
          ap (λ v. cond (bytes_eq x c.name) v (held_among vs c.name c.subscripts)) (own ∙ ap nought (sym kind) ∙ sym (o.values c.subscripts))
      at c false t kind all =
          ap (λ t. cond t (nought_like (held_among vs c.name c.subscripts)) (held_among vs c.name c.subscripts)) t
          ∙ sym (ap (λ t. cond t (held_here w c.subscripts) (held_among vs c.name c.subscripts)) t)

  pub allocated_twice : (k : Kind) (ns : List ℤ) → r.there ≡ true → free ((store_among vs).bounds x) ns ≡ Err Allocated
  unfolding store_among
  allocated_twice k ns t = ap (λ b. free b ns) ((h.named r e).bounds ∙ ap (λ t. cond t (Some (bounds_held r.bounds)) None) t)

  -- DEALLOCATE
  pub deallocates : ClosesAs r w → Deallocates x vs (set vs i w) (Ok tt)
  unfolding store_among
  deallocates o = (
    (bounds_held r.bounds, ap bounds_in ((h.named r e).bounds ∙ ap (λ t. cond t (Some (bounds_held r.bounds)) None) o.was)),
    slot_store o.name (with_bounds x None (store_among vs))
        (λ y. ap (λ b. cond (bytes_eq x y) b (bounds_among vs y)) (sym (ap (λ t. cond t (Some (bounds_held w.bounds)) None) o.there)))
        (λ c. at c (bytes_eq x c.name) refl),
  )
    where
      at : (c : Cell) (t : Bool) → bytes_eq x c.name ≡ t → held_among vs c.name c.subscripts ≡ cond (bytes_eq x c.name) (held_here w c.subscripts) (held_among vs c.name c.subscripts)
      at c true t =
          subst (λ y. held_among vs y c.subscripts ≡ held_here r c.subscripts) (same_name c.name t) ((h.named r e).held c.subscripts)
          ∙ sym (o.values c.subscripts)
          ∙ sym (ap (λ t. cond t (held_here w c.subscripts) (held_among vs c.name c.subscripts)) t)
      at c false t = sym (ap (λ t. cond t (held_here w c.subscripts) (held_among vs c.name c.subscripts)) t)

  pub not_allocated : r.there ≡ false → stored_bounds x (store_among vs) ≡ Err Allocated
  unfolding store_among
  not_allocated t = ap bounds_in ((h.named r e).bounds ∙ ap (λ t. cond t (Some (bounds_held r.bounds)) None) t)

  same_slots : w ≡ r → set vs i w ≡ vs
  same_slots g = ap (set vs i) g ∙ set_same vs i r h.within e

  pub closed : (q : Result (Unit {0}) Fault) → Closes r w q → Deallocates x vs (set vs i w) q
  closed (Ok tt) o = deallocates o
  closed (Err f) o = (not_allocated o.1 ∙ ap (λ f. let q : Result (List (ℤ × ℤ)) Fault = Err f in q) (sym o.0), same_slots o.2)

  pub closed_parts : (q : Result (Unit {0}) Fault) → Closes r w q → (w.name ≡ r.name) × (w.kind ≡ r.kind)
  closed_parts (Ok tt) o = (o.name, o.kind)
  closed_parts (Err f) o = (ap (λ (v : Slot). v.name) o.2, ap (λ (v : Slot). v.kind) o.2)

  pub opened : (k : Kind) (ns : List ℤ) → kind_among vs x ≡ Some k → (q : Result (Unit {0}) Failure) → Opens r w (from_one ns) q → Allocates k x ns vs (set vs i w) q
  opened k ns g (Ok tt) o = allocates k ns g o
  opened k ns g (Err (failure.Fault f)) o = (allocated_twice k ns o.1 ∙ ap (λ f. let q : Result (List (ℤ × ℤ)) Fault = Err f in q) (sym o.0), same_slots o.2)
  opened k ns g (Err failure.Memory) o = (same_slots o.0, o.1)

  pub opened_parts : (bs : List (ℤ × ℤ)) (q : Result (Unit {0}) Failure) → Opens r w bs q → (w.name ≡ r.name) × (w.kind ≡ r.kind)
  opened_parts bs (Ok tt) o = (o.name, o.kind)
  opened_parts bs (Err (failure.Fault f)) o = (ap (λ (v : Slot). v.name) o.2, ap (λ (v : Slot). v.kind) o.2)
  opened_parts bs (Err failure.Memory) o = (ap (λ (v : Slot). v.name) o.0, ap (λ (v : Slot). v.kind) o.0)

pub unknown_bounds : (vs : List Slot) (x : List ℕ) → bounds_among vs x ≡ None → stored_bounds x (store_among vs) ≡ Err Allocated
unknown_bounds vs x e = ap bounds_in (store-bounds vs x ∙ e)
