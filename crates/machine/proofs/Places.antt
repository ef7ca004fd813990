-- Each place has one cell, and a value that is put there is the cell's.
use Rattle.std.proofs.Common.{◌≡◌, refl, sym, ap, ◌∙◌, zero, suc, ℕ, ℤ, ◌+◌, ◌*◌, ◌<◌, ◌-ℤ◌, ◌≤ℤ◌, Bool, true, false, cond, List, [], ◌∷◌, length, set, get_or, Option, Some, None, arith}
use Rattle.std.specs.Prelude.{int_le, ◌&&◌, nat_abs}
use Rattle.std.specs.Option.{option_map}
use Rattle.std.specs.Str.{bytes_eq}
use Rattle.std.proofs.Math.Path.{fun_ext}
use Rattle.std.proofs.lemmas.Float.{T_from_true}
use Rattle.std.proofs.lemmas.Int.{ints}
use Rattle.std.proofs.lemmas.List.{get_or-set_same, get_or-set_other, get_or_default}
use Rattle.std.proofs.lemmas.Slice.Eq.{bytes_eq-Decides}
use Rattle.tree.specs.Plain.{Declaration}
use Rattle.tree.specs.declared.ops.Value.{Value}
use Rattle.meaning.specs.Store.{Store, Cell, put, same_cell, size_of, opening_bounds, opening_value}
use Rattle.meaning.proofs.Exchanges.{same_cell-same, same_cell-refl}
use Rattle.std.proofs.lemmas.Bool.{false≢true}
use mathlib.Core.Path.{ap₂}
use Rattle.meaning.specs.Typed.{dimensions}
use Rattle.machine.specs.Storage.{store_of, place, offset, joined, value_at, values_of}
use Rattle.machine.proofs.StoreLaws.{store-held, number_inside, offset_below, both_true}

-- ---- one element at a place

one_place : (w a b r q : ℕ) → a < w → b < w → a + w * r ≡ b + w * q → (a ≡ b) × (r ≡ q)
one_place w a b zero zero l m e = (omega arith, refl)
one_place w a b zero (suc q) l m e = let s : w * suc q ≡ w + w * q = grind arith in absurd (omega arith)
one_place w a b (suc r) zero l m e = let s : w * suc r ≡ w + w * r = grind arith in absurd (omega arith)
one_place w a b (suc r) (suc q) l m e =
    let s : w * suc q ≡ w + w * q = grind arith in
    let t : w * suc r ≡ w + w * r = grind arith in
    let h = one_place w a b r q l m (omega arith) in
    (h.0, omega (arith, h.1))

-- what a place in a dimension tells
pub record IsJoined (b : ℤ × ℤ) (i : ℤ) (o : Option ℕ) (k : ℕ) : Type 0 where
  pub rest : ℕ
  pub some : o ≡ Some rest
  pub low : b.0 ≤ℤ i
  pub inside : nat_abs (i -ℤ b.0) < size_of b
  pub is : k ≡ nat_abs (i -ℤ b.0) + size_of b * rest

joined_is : (b : ℤ × ℤ) (i : ℤ) (o : Option ℕ) (k : ℕ) → joined b i o ≡ Some k → IsJoined b i o k
joined_is b i None k e = cc
joined_is b i (Some r) k e = by (int_le b.0 i && int_le i b.1) refl e
  where
    by : (t : Bool) → (int_le b.0 i && int_le i b.1) ≡ t → cond t (Some (nat_abs (i -ℤ b.0) + size_of b * r)) None ≡ Some k → IsJoined b i (Some r) k
    by true t q =
        let both = both_true (int_le b.0 i) (int_le i b.1) t in
        record { rest = r; some = refl; low = record { le = T_from_true _ both.0 }; inside = number_inside b i t; is = sym cc }
    by false t q = cc

one_offset : (bs : List (ℤ × ℤ)) (is js : List ℤ) (k : ℕ) → offset bs is ≡ Some k → offset bs js ≡ Some k → is ≡ js
one_offset [] [] [] k e h = refl
one_offset [] (i ∷ is) js k e h = cc
one_offset [] [] (j ∷ js) k e h = cc
one_offset (b ∷ bs) [] js k e h = cc
one_offset (b ∷ bs) (i ∷ is) [] k e h = cc
one_offset (b ∷ bs) (i ∷ is) (j ∷ js) k e h =
    let p = joined_is b i (offset bs is) k e in
    let q = joined_is b j (offset bs js) k h in
    let one = one_place (size_of b) (nat_abs (i -ℤ b.0)) (nat_abs (j -ℤ b.0)) p.rest q.rest p.inside q.inside (sym p.is ∙ q.is) in
    let first : i ≡ j = (let same = one.0 in let l = p.low in let m = q.low in omega (arith, ints)) in
    let more : is ≡ js = one_offset bs is js p.rest p.some (q.some ∙ ap (λ n. let o : Option ℕ = Some n in o) (sym one.1)) in
    cc

-- ---- one cell at a place

-- where a name's cell is: among its own values, or among those of the names after it
place_step : (t : Bool) (m k : ℕ) (o p : Option ℕ) → cond t o (option_map (λ n. m + n) p) ≡ Some k
    → (n : ℕ) × (cond t (o ≡ Some k) (p ≡ Some n)) × cond t (n ≡ k) (k ≡ m + n)
place_step true m k o p e = (k, e, refl)
place_step false m k o None e = cc
place_step false m k o (Some n) e = (n, refl, sym cc)

one_cell : (ds : List Declaration) (x y : List ℕ) (is js : List ℤ) (k : ℕ) → place ds x is ≡ Some k → place ds y js ≡ Some k → (x ≡ y) × (is ≡ js)
one_cell [] x y is js k e h = cc
one_cell (d ∷ ds) x y is js k e h = by (bytes_eq d.name x) (bytes_eq d.name y) refl refl
    (place_step (bytes_eq d.name x) (values_of d) k (offset (dimensions d.extent) is) (place ds x is) e)
    (place_step (bytes_eq d.name y) (values_of d) k (offset (dimensions d.extent) js) (place ds y js) h)
    (λ n. one_cell ds x y is js n)
  where
    by : (t u : Bool) → bytes_eq d.name x ≡ t → bytes_eq d.name y ≡ u
        → (n : ℕ) × (cond t (offset (dimensions d.extent) is ≡ Some k) (place ds x is ≡ Some n)) × cond t (n ≡ k) (k ≡ values_of d + n)
        → (n : ℕ) × (cond u (offset (dimensions d.extent) js ≡ Some k) (place ds y js ≡ Some n)) × cond u (n ≡ k) (k ≡ values_of d + n)
        → ((n : ℕ) → place ds x is ≡ Some n → place ds y js ≡ Some n → (x ≡ y) × (is ≡ js))
        → (x ≡ y) × (is ≡ js)
    by true true e h p q later = (sym ((bytes_eq-Decides d.name x).0 e) ∙ (bytes_eq-Decides d.name y).0 h, one_offset (dimensions d.extent) is js k p.1 q.1)
    by true false e h p q later = let l = offset_below (dimensions d.extent) is k p.1 in absurd (omega (arith, q.2))
    by false true e h p q later = let l = offset_below (dimensions d.extent) js k q.1 in absurd (omega (arith, p.2))
    by false false e h p q later = later p.0 p.1 (q.1 ∙ ap (λ n. let o : Option ℕ = Some n in o) (omega (arith, p.2, q.2)))

-- ---- a value that is put

renamed : (c d : Cell) → c.name ≡ d.name → c.subscripts ≡ d.subscripts → c ≡ d
renamed c d e h = ap₂ (λ x is. let c : Cell = record { name = x; subscripts = is } in c) e h

pub put_is : (ds : List Declaration) (vs : List Value) (c : Cell) (k : ℕ) (v : Value) → place ds c.name c.subscripts ≡ Some k → k < length vs → store_of ds (set vs k v) ≡ put c v (store_of ds vs)
unfolding store_of
put_is ds vs c k v e l = ap (λ (f : Cell → Value). let s : Store = record { bounds = opening_bounds ds; held = f } in s) (fun_ext (λ d. at d (same_cell c d) refl))
  where
    other : (d : Cell) (o : Option ℕ) → place ds d.name d.subscripts ≡ o → same_cell c d ≡ false
        → value_at (set vs k v) (opening_value ds d.name) o ≡ value_at vs (opening_value ds d.name) o
    other d None p s = refl
    other d (Some j) p s = get_or-set_other vs k j v (opening_value ds d.name) (λ q.
        let one = one_cell ds c.name d.name c.subscripts d.subscripts k e (p ∙ ap (λ n. let o : Option ℕ = Some n in o) q) in
        let same : c ≡ d = renamed c d one.0 one.1 in
        false≢true (sym s ∙ ap (same_cell c) (sym same) ∙ same_cell-refl c))

    at : (d : Cell) (t : Bool) → same_cell c d ≡ t → value_at (set vs k v) (opening_value ds d.name) (place ds d.name d.subscripts) ≡ cond t v (value_at vs (opening_value ds d.name) (place ds d.name d.subscripts))
    at d true s = ap (λ (c : Cell). value_at (set vs k v) (opening_value ds d.name) (place ds c.name c.subscripts)) (sym (same_cell-same c d s))
        ∙ ap (value_at (set vs k v) (opening_value ds d.name)) e ∙ get_or-set_same vs k v (opening_value ds d.name) l
    at d false s = other d (place ds d.name d.subscripts) refl s

-- the cell at a place holds the value there
pub held_at : (ds : List Declaration) (vs : List Value) (c : Cell) (k : ℕ) (d : Value) → place ds c.name c.subscripts ≡ Some k → k < length vs
    → (store_of ds vs).held c ≡ get_or vs k d
held_at ds vs c k d e l = store-held ds vs c ∙ ap (value_at vs (opening_value ds c.name)) e ∙ get_or_default vs k (opening_value ds c.name) d l
