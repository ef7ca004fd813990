-- Each place has one cell, and a value that is put there is the cell's.
use Rattle.std.proofs.Common.{◌≡◌, refl, sym, ap, ◌∙◌, subst, zero, suc, ℕ, ℤ, ◌+◌, ◌*◌, ◌<◌, ◌-ℤ◌, ◌≤ℤ◌, Bool, true, false, cond, List, [], ◌∷◌, length, set, get_or, Option, Some, None, arith}
use Rattle.std.specs.Prelude.{int_le, ◌&&◌, nat_abs}
use Rattle.std.specs.Option.{option_map}
use Rattle.std.specs.Str.{bytes_eq}
use Rattle.std.proofs.Math.Path.{fun_ext}
use Rattle.std.proofs.lemmas.Float.{T_from_true}
use Rattle.std.proofs.lemmas.Int.{ints}
use Rattle.std.proofs.lemmas.List.{get_or-set_same, get_or-set_other, get_or_default, length-set}
use Rattle.std.proofs.lemmas.Slice.Eq.{bytes_eq-Decides}
use Rattle.std.proofs.lemmas.Bool.{false≢true}
use mathlib.Core.Path.{ap₂}
use Rattle.tree.specs.declared.ops.Value.{Value}
use Rattle.tree.specs.declared.ops.Kind.{Kind}
use Rattle.meaning.specs.Store.{Store, Cell, put, same_cell, size_of, nought}
use Rattle.meaning.proofs.Exchanges.{same_cell-same, same_cell-refl}
use Rattle.machine.specs.Storage.{offset, joined, value_at}
use Rattle.array_values.specs.storage.Bounds.{bounds_held}
use Rattle.array_values.specs.declared.storage.bounds.Bounds.{Bounds as Held}
use Rattle.machine.proofs.StoreLaws.{number_inside, both_true}
use Rattle.array_values.specs.declared.storage.slots.Slot.{Slot}
use Rattle.array_values.specs.declared.storage.slots.Place.{Place}
use Rattle.array_values.specs.storage.Slots.{store_among, bounds_among, held_among, place_among, kind_among, bounds_now, held_here, behind, Stores, SamePlaces, IsWithin}
use Rattle.array_values.specs.storage.Names.{own_names}

-- ---- one element at a place

one_place : (w a b r q : ℕ) → a < w → b < w → a + w * r ≡ b + w * q → (a ≡ b) × (r ≡ q)
one_place w a b zero zero l m e = (omega arith, refl)
one_place w a b zero (suc q) l m e = let s : w * suc q ≡ w + w * q = grind arith in absurd (omega arith)
one_place w a b (suc r) zero l m e = let s : w * suc r ≡ w + w * r = grind arith in absurd (omega arith)
one_place w a b (suc r) (suc q) l m e =
    let s : w * suc q ≡ w + w * q = grind arith in
    let t : w * suc r ≡ w + w * r = grind arith in
    let h = one_place w a b r q l m (omega arith) in
    (h.0, omega (arith, h.1))

-- what a place in a dimension tells
pub record IsJoined (b : ℤ × ℤ) (i : ℤ) (o : Option ℕ) (k : ℕ) : Type 0 where
  pub rest : ℕ
  pub some : o ≡ Some rest
  pub low : b.0 ≤ℤ i
  pub inside : nat_abs (i -ℤ b.0) < size_of b
  pub is : k ≡ nat_abs (i -ℤ b.0) + size_of b * rest

joined_is : (b : ℤ × ℤ) (i : ℤ) (o : Option ℕ) (k : ℕ) → joined b i o ≡ Some k → IsJoined b i o k
joined_is b i None k e = cc
joined_is b i (Some r) k e = by (int_le b.0 i && int_le i b.1) refl e
  where
    by : (t : Bool) → (int_le b.0 i && int_le i b.1) ≡ t → cond t (Some (nat_abs (i -ℤ b.0) + size_of b * r)) None ≡ Some k → IsJoined b i (Some r) k
    by true t q =
        let both = both_true (int_le b.0 i) (int_le i b.1) t in
        record { rest = r; some = refl; low = record { le = T_from_true _ both.0 }; inside = number_inside b i t; is = sym cc }
    by false t q = cc

one_offset : (bs : List (ℤ × ℤ)) (is js : List ℤ) (k : ℕ) → offset bs is ≡ Some k → offset bs js ≡ Some k → is ≡ js
one_offset [] [] [] k e h = refl
one_offset [] (i ∷ is) js k e h = cc
one_offset [] [] (j ∷ js) k e h = cc
one_offset (b ∷ bs) [] js k e h = cc
one_offset (b ∷ bs) (i ∷ is) [] k e h = cc
one_offset (b ∷ bs) (i ∷ is) (j ∷ js) k e h =
    let p = joined_is b i (offset bs is) k e in
    let q = joined_is b j (offset bs js) k h in
    let one = one_place (size_of b) (nat_abs (i -ℤ b.0)) (nat_abs (j -ℤ b.0)) p.rest q.rest p.inside q.inside (sym p.is ∙ q.is) in
    let first : i ≡ j = (let same = one.0 in let l = p.low in let m = q.low in omega (arith, ints)) in
    let more : is ≡ js = one_offset bs is js p.rest p.some (q.some ∙ ap (λ n. let o : Option ℕ = Some n in o) (sym one.1)) in
    cc

-- ---- places of a list of slots, first slot by first slot

at_first : ℕ → Place
at_first k = record { slot = 0; at = k }

-- the place is among the first slot's values
first_is : (o : Option ℕ) (p : Place) → option_map (λ (k : ℕ). let p : Place = record { slot = 0; at = k } in p) o ≡ Some p → (o ≡ Some p.at) × (p.slot ≡ 0)
first_is None p e = cc
first_is (Some k) p e =
    let same : k ≡ p.at = ap (λ (o : Option Place). elim o as (λ _. ℕ) [ None ↦ k | Some q ↦ q.at ]) e in
    let slot : 0 ≡ p.slot = ap (λ (o : Option Place). elim o as (λ _. ℕ) [ None ↦ 0 | Some q ↦ q.slot ]) e in
    (ap (λ n. let o : Option ℕ = Some n in o) same, sym slot)

-- the place is behind the first slot
later_is : (o : Option Place) (p : Place) → option_map behind o ≡ Some p → (q : Place) × (o ≡ Some q) × (p.slot ≡ q.slot + 1) × (p.at ≡ q.at)
later_is None p e = cc
later_is (Some q) p e =
    let at : q.at ≡ p.at = ap (λ (o : Option Place). elim o as (λ _. ℕ) [ None ↦ q.at | Some r ↦ r.at ]) e in
    let slot : q.slot + 1 ≡ p.slot = ap (λ (o : Option Place). elim o as (λ _. ℕ) [ None ↦ q.slot + 1 | Some r ↦ r.slot ]) e in
    (q, refl, sym slot, sym at)

same_place : (p q : Place) → p.slot ≡ q.slot → p.at ≡ q.at → p ≡ q
same_place p q e h = ap₂ (λ i k. let p : Place = record { slot = i; at = k } in p) e h

-- ---- one cell at a place

pub one_cell : (vs : List Slot) (x y : List ℕ) (is js : List ℤ) (p : Place) → place_among vs x is ≡ Some p → place_among vs y js ≡ Some p → (x ≡ y) × (is ≡ js)
one_cell [] x y is js p e h = cc
one_cell (v ∷ vs) x y is js p e h = by (bytes_eq v.name x) (bytes_eq v.name y) refl refl e h (λ q. one_cell vs x y is js q)
  where
    by : (t u : Bool) → bytes_eq v.name x ≡ t → bytes_eq v.name y ≡ u
        → cond t (option_map (λ (k : ℕ). let p : Place = record { slot = 0; at = k } in p) (offset (bounds_held v.bounds) is)) (option_map behind (place_among vs x is)) ≡ Some p
        → cond u (option_map (λ (k : ℕ). let p : Place = record { slot = 0; at = k } in p) (offset (bounds_held v.bounds) js)) (option_map behind (place_among vs y js)) ≡ Some p
        → ((q : Place) → place_among vs x is ≡ Some q → place_among vs y js ≡ Some q → (x ≡ y) × (is ≡ js))
        → (x ≡ y) × (is ≡ js)
    by true true a b e h rest =
        let p' = first_is (offset (bounds_held v.bounds) is) p e in
        let q' = first_is (offset (bounds_held v.bounds) js) p h in
        (sym ((bytes_eq-Decides v.name x).0 a) ∙ (bytes_eq-Decides v.name y).0 b, one_offset (bounds_held v.bounds) is js p.at p'.0 q'.0)
    by true false a b e h rest =
        let p' = first_is (offset (bounds_held v.bounds) is) p e in
        let q' = later_is (place_among vs y js) p h in
        let one = p'.1 in let two = q'.2 in absurd (omega arith)
    by false true a b e h rest =
        let p' = later_is (place_among vs x is) p e in
        let q' = first_is (offset (bounds_held v.bounds) js) p h in
        let one = p'.2 in let two = q'.1 in absurd (omega arith)
    by false false a b e h rest =
        let p' = later_is (place_among vs x is) p e in
        let q' = later_is (place_among vs y js) p h in
        let slots : q'.0.slot ≡ p'.0.slot = (let one = p'.2 in let two = q'.2 in omega arith) in
        let same : q'.0 ≡ p'.0 = same_place q'.0 p'.0 slots (sym q'.3 ∙ p'.3) in
        rest p'.0 p'.1 (q'.1 ∙ ap (λ n. let o : Option Place = Some n in o) same)

-- ---- what is held at a place

pub held_at : (vs : List Slot) (x : List ℕ) (is : List ℤ) (p : Place) → place_among vs x is ≡ Some p → (v : Slot) → v ≡ get_or vs p.slot v
    → (d : Value) → p.at < length v.values.items → held_among vs x is ≡ get_or v.values.items p.at d
held_at [] x is p e v g d l = cc
held_at (w ∷ vs) x is p e v g d l = by (bytes_eq w.name x) refl e (λ q. held_at vs x is q)
  where
    first : (i : ℕ) → i ≡ 0 → v ≡ get_or (w ∷ vs) i v → v ≡ w
    first zero e g = g
    first (suc i) e g = absurd (omega arith)

    next : (i j : ℕ) → i ≡ j + 1 → v ≡ get_or (w ∷ vs) i v → v ≡ get_or vs j v
    next zero j e g = absurd (omega arith)
    next (suc i) j e g = g ∙ ap (λ k. get_or vs k v) (let same : i ≡ j = omega arith in same)

    by : (t : Bool) → bytes_eq w.name x ≡ t
        → cond t (option_map (λ (k : ℕ). let p : Place = record { slot = 0; at = k } in p) (offset (bounds_held w.bounds) is)) (option_map behind (place_among vs x is)) ≡ Some p
        → ((q : Place) → place_among vs x is ≡ Some q → (v : Slot) → v ≡ get_or vs q.slot v → (d : Value) → q.at < length v.values.items → held_among vs x is ≡ get_or v.values.items q.at d)
        → cond t (held_here w is) (held_among vs x is) ≡ get_or v.values.items p.at d
    by true a e rest =
        let p' = first_is (offset (bounds_held w.bounds) is) p e in
        let own : v ≡ w = first p.slot p'.1 g in
        ap (value_at w.values.items (nought w.kind)) p'.0
        ∙ ap (λ (u : Slot). get_or u.values.items p.at (nought w.kind)) (sym own)
        ∙ get_or_default v.values.items p.at (nought w.kind) d l
    by false a e rest =
        let p' = later_is (place_among vs x is) p e in
        rest p'.0 p'.1 v (next p.slot p'.0.slot p'.2 g) d (let same = p'.3 in omega arith)
        ∙ ap (λ k. get_or v.values.items k d) (sym p'.3)

-- ---- a value that is put

module _ (k : ℕ) (x : Value) (w : Slot) where
  bounds_same : (v : Slot) → Stores v w k x → bounds_now w ≡ bounds_now v
  bounds_same v h = ap₂ (λ t (bs : Held). cond t (Some (bounds_held bs)) None) h.there h.bounds

  pub bounds_kept : (vs : List Slot) (i : ℕ) → ((v : Slot) → v ≡ get_or vs i v → Stores v w k x) → (y : List ℕ) → bounds_among (set vs i w) y ≡ bounds_among vs y
  bounds_kept [] i h y = refl
  bounds_kept (v ∷ vs) zero h y = ap₂ (λ n b. cond (bytes_eq n y) b (bounds_among vs y)) (h v refl).name (bounds_same v (h v refl))
  bounds_kept (v ∷ vs) (suc i) h y = ap (cond (bytes_eq v.name y) (bounds_now v)) (bounds_kept vs i h y)

  pub places_kept : (vs : List Slot) (i : ℕ) → ((v : Slot) → v ≡ get_or vs i v → Stores v w k x) → (y : List ℕ) (is : List ℤ) → place_among (set vs i w) y is ≡ place_among vs y is
  places_kept [] i h y is = refl
  places_kept (v ∷ vs) zero h y is = ap₂ (λ n (bs : Held). cond (bytes_eq n y) (option_map (λ (k : ℕ). let p : Place = record { slot = 0; at = k } in p) (offset (bounds_held bs) is)) (option_map behind (place_among vs y is))) (h v refl).name (h v refl).bounds
  places_kept (v ∷ vs) (suc i) h y is = ap (λ o. cond (bytes_eq v.name y) (option_map (λ (k : ℕ). let p : Place = record { slot = 0; at = k } in p) (offset (bounds_held v.bounds) is)) (option_map behind o)) (places_kept vs i h y is)

  value_set : (v : Slot) (h : Stores v w k x) (is : List ℤ) → held_here w is ≡ value_at (set v.values.items k x) (nought v.kind) (offset (bounds_held v.bounds) is)
  value_set v h is =
      ap (λ (vs : List Value). value_at vs (nought w.kind) (offset (bounds_held w.bounds) is)) h.values
      ∙ ap₂ (λ (t : Kind) (bs : Held). value_at (set v.values.items k x) (nought t) (offset (bounds_held bs) is)) h.kind h.bounds

  -- the cell whose value stands there
  pub held_new : (vs : List Slot) (i : ℕ) → ((v : Slot) → v ≡ get_or vs i v → Stores v w k x × (k < length v.values.items)) → (y : List ℕ) (is : List ℤ) (p : Place)
      → place_among vs y is ≡ Some p → p.slot ≡ i → p.at ≡ k → held_among (set vs i w) y is ≡ x
  held_new [] i h y is p e s a = cc
  held_new (v ∷ vs) zero h y is p e s a = by (bytes_eq v.name y) refl e
    where
      own : Stores v w k x × (k < length v.values.items)
      own = h v refl

      by : (t : Bool) → bytes_eq v.name y ≡ t
          → cond t (option_map (λ (k : ℕ). let p : Place = record { slot = 0; at = k } in p) (offset (bounds_held v.bounds) is)) (option_map behind (place_among vs y is)) ≡ Some p
          → cond (bytes_eq w.name y) (held_here w is) (held_among vs y is) ≡ x
      by true t e =
          let p' = first_is (offset (bounds_held v.bounds) is) p e in
          ap (λ b. cond b (held_here w is) (held_among vs y is)) (ap (λ n. bytes_eq n y) own.0.name ∙ t)
          ∙ value_set v own.0 is
          ∙ ap (value_at (set v.values.items k x) (nought v.kind)) (p'.0 ∙ ap (λ n. let o : Option ℕ = Some n in o) a)
          ∙ get_or-set_same v.values.items k x (nought v.kind) own.1
      by false t e = let p' = later_is (place_among vs y is) p e in let l = p'.2 in absurd (omega arith)
  held_new (v ∷ vs) (suc i) h y is p e s a = by (bytes_eq v.name y) refl e (λ q. held_new vs i h y is q)
    where
      by : (t : Bool) → bytes_eq v.name y ≡ t
          → cond t (option_map (λ (k : ℕ). let p : Place = record { slot = 0; at = k } in p) (offset (bounds_held v.bounds) is)) (option_map behind (place_among vs y is)) ≡ Some p
          → ((q : Place) → place_among vs y is ≡ Some q → q.slot ≡ i → q.at ≡ k → held_among (set vs i w) y is ≡ x)
          → cond t (held_here v is) (held_among (set vs i w) y is) ≡ x
      by true t e rest = let p' = first_is (offset (bounds_held v.bounds) is) p e in let l = p'.1 in absurd (omega arith)
      by false t e rest =
          let p' = later_is (place_among vs y is) p e in
          rest p'.0 p'.1 (let l = p'.2 in omega arith) (sym p'.3 ∙ a)

  -- another cell
  pub held_other : (vs : List Slot) (i : ℕ) → ((v : Slot) → v ≡ get_or vs i v → Stores v w k x) → (y : List ℕ) (is : List ℤ)
      → ((p : Place) → place_among vs y is ≡ Some p → p.slot ≡ i → p.at ≡ k → ⊥) → held_among (set vs i w) y is ≡ held_among vs y is
  held_other [] i h y is n = refl
  held_other (v ∷ vs) zero h y is n = by (bytes_eq v.name y) refl n
    where
      at : (o : Option ℕ) → ((j : ℕ) → o ≡ Some j → j ≡ k → ⊥) → value_at (set v.values.items k x) (nought v.kind) o ≡ value_at v.values.items (nought v.kind) o
      at None n = refl
      at (Some j) n = get_or-set_other v.values.items k j x (nought v.kind) (λ q. n j refl q)

      by : (t : Bool) → bytes_eq v.name y ≡ t
          → ((p : Place) → cond t (option_map (λ (k : ℕ). let p : Place = record { slot = 0; at = k } in p) (offset (bounds_held v.bounds) is)) (option_map behind (place_among vs y is)) ≡ Some p → p.slot ≡ 0 → p.at ≡ k → ⊥)
          → cond (bytes_eq w.name y) (held_here w is) (held_among vs y is) ≡ cond t (held_here v is) (held_among vs y is)
      by true t n =
          ap (λ b. cond b (held_here w is) (held_among vs y is)) (ap (λ n. bytes_eq n y) (h v refl).name ∙ t)
          ∙ value_set v (h v refl) is
          ∙ at (offset (bounds_held v.bounds) is) (λ j e q. n (record { slot = 0; at = j }) (ap (option_map (λ (k : ℕ). let p : Place = record { slot = 0; at = k } in p)) e) refl q)
      by false t n = ap (λ b. cond b (held_here w is) (held_among vs y is)) (ap (λ n. bytes_eq n y) (h v refl).name ∙ t)
  held_other (v ∷ vs) (suc i) h y is n = by (bytes_eq v.name y) refl n (λ m. held_other vs i h y is m)
    where
      by : (t : Bool) → bytes_eq v.name y ≡ t
          → ((p : Place) → cond t (option_map (λ (k : ℕ). let p : Place = record { slot = 0; at = k } in p) (offset (bounds_held v.bounds) is)) (option_map behind (place_among vs y is)) ≡ Some p → p.slot ≡ suc i → p.at ≡ k → ⊥)
          → (((p : Place) → place_among vs y is ≡ Some p → p.slot ≡ i → p.at ≡ k → ⊥) → held_among (set vs i w) y is ≡ held_among vs y is)
          → cond t (held_here v is) (held_among (set vs i w) y is) ≡ cond t (held_here v is) (held_among vs y is)
      by true t n rest = refl
      by false t n rest = rest (λ p e s a. n (behind p) (ap (option_map behind) e) (omega arith) a)

pub same_slot : (vs : List Slot) (i : ℕ) (v w : Slot) → i < length vs → v ≡ get_or vs i v → w ≡ get_or vs i w → w ≡ v
same_slot vs i v w l e h = h ∙ get_or_default vs i w v l ∙ sym e

pub stores_at : (vs : List Slot) (i k : ℕ) (x : Value) (r w : Slot) → i < length vs → r ≡ get_or vs i r → Stores r w k x → (v : Slot) → v ≡ get_or vs i v → Stores v w k x
stores_at vs i k x r w l h s v e = subst (λ (v : Slot). Stores v w k x) (same_slot vs i v r l e h) s

renamed : (c d : Cell) → c.name ≡ d.name → c.subscripts ≡ d.subscripts → c ≡ d
renamed c d e h = ap₂ (λ x is. let c : Cell = record { name = x; subscripts = is } in c) e h

pub store-is : (vs ws : List Slot) (s : Store) → ((y : List ℕ) → bounds_among ws y ≡ s.bounds y) → ((d : Cell) → held_among ws d.name d.subscripts ≡ s.held d) → store_among ws ≡ s
unfolding store_among
store-is vs ws s b h = ap₂ (λ (f : List ℕ → Option (List (ℤ × ℤ))) (g : Cell → Value). let s : Store = record { bounds = f; held = g } in s) (fun_ext b) (fun_ext h)

pub put_is : (vs : List Slot) (c : Cell) (p : Place) (x : Value) (w : Slot) → place_among vs c.name c.subscripts ≡ Some p
    → ((v : Slot) → v ≡ get_or vs p.slot v → Stores v w p.at x × (p.at < length v.values.items))
    → store_among (set vs p.slot w) ≡ put c x (store_among vs)
unfolding store_among
put_is vs c p x w e h = store-is vs (set vs p.slot w) (put c x (store_among vs)) (bounds_kept p.at x w vs p.slot (λ v g. (h v g).0)) (λ d. at d (same_cell c d) refl)
  where
    at : (d : Cell) (t : Bool) → same_cell c d ≡ t → held_among (set vs p.slot w) d.name d.subscripts ≡ cond t x (held_among vs d.name d.subscripts)
    at d true s = subst (λ (d : Cell). held_among (set vs p.slot w) d.name d.subscripts ≡ x) (same_cell-same c d s) (held_new p.at x w vs p.slot h c.name c.subscripts p e refl refl)
    at d false s = held_other p.at x w vs p.slot (λ v g. (h v g).0) d.name d.subscripts (λ q f i k.
        let same : q ≡ p = same_place q p i k in
        let one = one_cell vs c.name d.name c.subscripts d.subscripts p e (f ∙ ap (λ n. let o : Option Place = Some n in o) same) in
        let both : c ≡ d = renamed c d one.0 one.1 in
        false≢true (sym s ∙ ap (same_cell c) (sym both) ∙ same_cell-refl c))

pub same_places : (vs : List Slot) (p : Place) (x : Value) (w : Slot) → p.slot < length vs
    → ((v : Slot) → v ≡ get_or vs p.slot v → Stores v w p.at x) → SamePlaces vs (set vs p.slot w)
same_places vs p x w l h = record {
  names = names_kept vs p.slot h;
  kinds = kinds_kept vs p.slot h;
  places = places_kept p.at x w vs p.slot h;
  bounds = bounds_kept p.at x w vs p.slot h;
  within = λ q g. record {
    slot = (let a = g.slot in let b : length (set vs p.slot w) ≡ length vs = length-set vs p.slot w in omega arith);
    at = λ v e. all_within vs p.slot h q g v e;
  };
}
  where
    names_kept : (vs : List Slot) (i : ℕ) → ((v : Slot) → v ≡ get_or vs i v → Stores v w p.at x) → own_names (set vs i w) ≡ own_names vs
    names_kept [] i h = refl
    names_kept (v ∷ vs) zero h = ap (λ n. n ∷ own_names vs) (h v refl).name
    names_kept (v ∷ vs) (suc i) h = ap (λ ns. v.name ∷ ns) (names_kept vs i h)

    kinds_kept : (vs : List Slot) (i : ℕ) → ((v : Slot) → v ≡ get_or vs i v → Stores v w p.at x) → (y : List ℕ) → kind_among (set vs i w) y ≡ kind_among vs y
    kinds_kept [] i h y = refl
    kinds_kept (v ∷ vs) zero h y = ap₂ (λ n (t : Kind). cond (bytes_eq n y) (Some t) (kind_among vs y)) (h v refl).name (h v refl).kind
    kinds_kept (v ∷ vs) (suc i) h y = ap (cond (bytes_eq v.name y) (Some v.kind)) (kinds_kept vs i h y)

    values_within : (us : List Slot) (i : ℕ) → ((v : Slot) → v ≡ get_or us i v → Stores v w p.at x) → (j k : ℕ) → j < length us
        → ((v : Slot) → v ≡ get_or us j v → k < length v.values.items) → (v : Slot) → v ≡ get_or (set us i w) j v → k < length v.values.items
    values_within [] i h j k l g v e = absurd (omega arith)
    values_within (u ∷ us) zero h zero k l g v e =
        let a = g u refl in
        let b : length w.values.items ≡ length u.values.items = ap length (h u refl).values ∙ length-set u.values.items p.at x in
        let c : length v.values.items ≡ length w.values.items = ap (λ (v : Slot). length v.values.items) e in
        omega arith
    values_within (u ∷ us) zero h (suc j) k l g v e = g v e
    values_within (u ∷ us) (suc i) h zero k l g v e = g v e
    values_within (u ∷ us) (suc i) h (suc j) k l g v e = values_within us i h j k (omega arith) g v e

    all_within : (us : List Slot) (i : ℕ) → ((v : Slot) → v ≡ get_or us i v → Stores v w p.at x) → (q : Place) → IsWithin us q → (v : Slot) → v ≡ get_or (set us i w) q.slot v → q.at < length v.values.items
    all_within us i h q g v e = values_within us i h q.slot q.at g.slot g.at v e
