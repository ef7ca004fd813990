-- What one turn gives, and what the list of all of them gives.
use Rattle.std.proofs.Common.{◌≡◌, refl, sym, ap, ◌∙◌, subst, inl, inr, ℕ, zero, suc, ◌+◌, ◌*◌, ℤ, pos, ◌+ℤ◌, ◌-ℤ◌, Bool, true, false, cond, List, [], ◌∷◌, ◌++◌, map, length, Result, Ok, Err, None, arith, Contains}
use Rattle.std.specs.Int.{int_max, int_min}
use Rattle.std.specs.List.{All}
use Rattle.std.proofs.Math.IntN.{pos-+ℤ-pos, +ℤ_comm}
use Rattle.std.proofs.lemmas.List.Elements.{All-contains_itself, recursion_from_All}
use Rattle.tree.specs.Steps.{◌>>=◌}
use Rattle.tree.specs.Operators.{apply, call, number, fits, as_numbers, reduced}
use Rattle.tree.specs.Plain.{Expression, Reduce, no_expressions, expression, Subscripts, Program, Given, Declaration, no_statements, Reference}
use Rattle.tree.specs.declared.functions.Fun.TheVariants.{Max, Min}
use Rattle.tree.specs.declared.functions.Red.{Red}
use Rattle.tree.specs.declared.functions.Red.TheVariants.{Sum, MaxVal, MinVal}
use Rattle.tree.specs.declared.ops.Kind.TheVariants.{Integer}
use Rattle.tree.specs.declared.ops.Op.TheVariants.{Add, Sub}
use Rattle.tree.specs.declared.ops.Value.{Value}
use Rattle.tree.specs.declared.ops.Value.TheVariants.{Int, Truth}
use Rattle.tree.specs.declared.ops.Fault.{Fault}
use Rattle.tree.specs.declared.ops.Fault.TheVariants.{Overflow}
use Rattle.meaning.specs.ArrayValues.{Elements, each, settled, in_whole, counted, positions, place_of, value_at_index}
use Rattle.meaning.specs.Dialect.{Dialect}
use Rattle.meaning.specs.Reads.{names_in, names_in_subscripts}
use Rattle.meaning.specs.Sections.{not_negative}
use Rattle.meaning.specs.Store.{Store, Cell, Agree, names_of, nought_like, numbers_from, cell_at}
use Rattle.meaning.specs.Value.{value_of, values_of, number_of, array_of, bound_to, joined_values, with_arrays, subscript_values, cell_named, named}
use Rattle.meaning.proofs.AgreeingValues.{value_from_names, subscript_values-agree}
use Rattle.nest_order.specs.orders.Lists.{In}
use Rattle.nest_order.proofs.runs.Results.{both_ok, after_ok, ok_same}
use Rattle.reductions.specs.declared.gathering.Gathering.{Gathering}
use Rattle.reductions.specs.declared.gathering.Gathering.TheVariants.{Adds, Takes, Greatest, Least}
use Rattle.reductions.specs.Gathering.{two, in_turn, of_all, listed}
use Rattle.reduction_laws.proofs.gathering.Numbers.{step, red_of, numbered_by, max_turned, min_turned}

-- ---- numbers

numbers : (z : ℤ) (v : Value) → number z ≡ Ok v → v ≡ Int z
numbers z v e = by (fits 127 z) e
  where
    by : (b : Bool) → ◌≡◌ {A = Result Value Fault} (cond b (Ok (Int z)) (Err Overflow)) (Ok v) → v ≡ Int z
    by true e = sym (ok_same {F = Fault} (Int z) v e)
    by false e = cc

-- what a turn makes of x's value and e's
abbrev pub made_of : Gathering → Value → Value → Result Value Fault
made_of (Adds false) h y = apply Add h y
made_of (Adds true) h y = apply Add y h
made_of Takes h y = apply Sub h y
made_of (Greatest false) h y = call Max (h ∷ y ∷ [])
made_of (Greatest true) h y = call Max (y ∷ h ∷ [])
made_of (Least false) h y = call Min (h ∷ y ∷ [])
made_of (Least true) h y = call Min (y ∷ h ∷ [])

-- they are numbers
pub record Made (g : Gathering) (h y v : Value) : Type 0 where
  pub before : ℤ
  pub operand : ℤ
  pub was : h ≡ Int before
  pub value : y ≡ Int operand
  pub is : v ≡ Int (step g before operand)

pub made : (g : Gathering) (h y v : Value) → made_of g h y ≡ Ok v → Made g h y v
made (Adds false) (Int a) (Int z) v e = record { before = a; operand = z; was = refl; value = refl; is = numbers (a +ℤ z) v e ∙ refl }
made (Adds false) (Int a) (Truth q) v e = cc
made (Adds false) (Truth p) (Int z) v e = cc
made (Adds false) (Truth p) (Truth q) v e = cc
made (Adds true) (Int a) (Int z) v e = record { before = a; operand = z; was = refl; value = refl; is = numbers (z +ℤ a) v e ∙ ap Int (+ℤ_comm z a) }
made (Adds true) (Int a) (Truth q) v e = cc
made (Adds true) (Truth p) (Int z) v e = cc
made (Adds true) (Truth p) (Truth q) v e = cc
made Takes (Int a) (Int z) v e = record { before = a; operand = z; was = refl; value = refl; is = numbers (a -ℤ z) v e ∙ refl }
made Takes (Int a) (Truth q) v e = cc
made Takes (Truth p) (Int z) v e = cc
made Takes (Truth p) (Truth q) v e = cc
made (Greatest false) (Int a) (Int z) v e = record { before = a; operand = z; was = refl; value = refl; is = numbers (int_max a z) v e ∙ refl }
made (Greatest false) (Int a) (Truth q) v e = cc
made (Greatest false) (Truth p) (Int z) v e = cc
made (Greatest false) (Truth p) (Truth q) v e = cc
made (Greatest true) (Int a) (Int z) v e = record { before = a; operand = z; was = refl; value = refl; is = numbers (int_max z a) v e ∙ ap Int (max_turned z a) }
made (Greatest true) (Int a) (Truth q) v e = cc
made (Greatest true) (Truth p) (Int z) v e = cc
made (Greatest true) (Truth p) (Truth q) v e = cc
made (Least false) (Int a) (Int z) v e = record { before = a; operand = z; was = refl; value = refl; is = numbers (int_min a z) v e ∙ refl }
made (Least false) (Int a) (Truth q) v e = cc
made (Least false) (Truth p) (Int z) v e = cc
made (Least false) (Truth p) (Truth q) v e = cc
made (Least true) (Int a) (Int z) v e = record { before = a; operand = z; was = refl; value = refl; is = numbers (int_min z a) v e ∙ ap Int (min_turned z a) }
made (Least true) (Int a) (Truth q) v e = cc
made (Least true) (Truth p) (Int z) v e = cc
made (Least true) (Truth p) (Truth q) v e = cc

module _ (lang : Dialect) where
  two_values : (a b : Expression) (s : Store) (vs : List Value) → values_of lang (two a b) s ≡ Ok vs
      → (v : Value) × (w : Value) × (value_of lang a s ≡ Ok v) × (value_of lang b s ≡ Ok w) × (vs ≡ v ∷ w ∷ [])
  two_values a b s vs e =
      let p = both_ok (value_of lang a s) (λ x. do xs ← (do y ← value_of lang b s; Ok (y ∷ [])); Ok (x ∷ xs)) vs e in
      let q = both_ok (do y ← value_of lang b s; Ok (y ∷ [])) (λ xs. Ok (p.0 ∷ xs)) vs p.2 in
      let r = both_ok (value_of lang b s) (λ y. Ok (y ∷ [])) q.0 q.1 in
      let m : r.0 ∷ [] ≡ q.0 = ok_same {F = Fault} (r.0 ∷ []) q.0 r.2 in
      let n : p.0 ∷ q.0 ≡ vs = ok_same {F = Fault} (p.0 ∷ q.0) vs q.2 in
      (p.0, r.0, p.1, r.1, sym n ∙ ap (λ xs. p.0 ∷ xs) (sym m))

  pub give_two : (a b : Expression) (s : Store) (v w : Value) → value_of lang a s ≡ Ok v → value_of lang b s ≡ Ok w → values_of lang (two a b) s ≡ Ok (v ∷ w ∷ [])
  give_two a b s v w e f = rw (e, f) refl

  -- the value of x in a turn is h
  module _ (x e : Expression) (s : Store) (h v : Value) (known : value_of lang x s ≡ Ok h) where
    of_two : (k : Value → Value → Result Value Fault) → (do a ← value_of lang x s; b ← value_of lang e s; k a b) ≡ Ok v → (y : Value) × (value_of lang e s ≡ Ok y) × (k h y ≡ Ok v)
    of_two k q =
        let p = both_ok (value_of lang x s) (λ a. do b ← value_of lang e s; k a b) v q in
        let r = both_ok (value_of lang e s) (k p.0) v p.2 in
        let m : p.0 ≡ h = ok_same {F = Fault} p.0 h (sym p.1 ∙ known) in
        (r.0, r.1, ap (λ a. k a r.0) (sym m) ∙ r.2)

    of_turned : (k : Value → Value → Result Value Fault) → (do b ← value_of lang e s; a ← value_of lang x s; k b a) ≡ Ok v → (y : Value) × (value_of lang e s ≡ Ok y) × (k y h ≡ Ok v)
    of_turned k q =
        let p = both_ok (value_of lang e s) (λ b. do a ← value_of lang x s; k b a) v q in
        let r = both_ok (value_of lang x s) (k p.0) v p.2 in
        let m : r.0 ≡ h = ok_same {F = Fault} r.0 h (sym r.1 ∙ known) in
        (p.0, p.1, ap (λ a. k p.0 a) (sym m) ∙ r.2)

    of_call : (k : List Value → Result Value Fault) → (do vs ← values_of lang (two x e) s; k vs) ≡ Ok v → (y : Value) × (value_of lang e s ≡ Ok y) × (k (h ∷ y ∷ []) ≡ Ok v)
    of_call k q =
        let p = both_ok (values_of lang (two x e) s) k v q in
        let r = two_values x e s p.0 p.1 in
        let m : r.0 ≡ h = ok_same {F = Fault} r.0 h (sym r.2 ∙ known) in
        (r.1, r.3, ap (λ a. k (a ∷ r.1 ∷ [])) (sym m) ∙ (ap k (sym r.4) ∙ p.2))

    of_turned_call : (k : List Value → Result Value Fault) → (do vs ← values_of lang (two e x) s; k vs) ≡ Ok v → (y : Value) × (value_of lang e s ≡ Ok y) × (k (y ∷ h ∷ []) ≡ Ok v)
    of_turned_call k q =
        let p = both_ok (values_of lang (two e x) s) k v q in
        let r = two_values e x s p.0 p.1 in
        let m : r.1 ≡ h = ok_same {F = Fault} r.1 h (sym r.3 ∙ known) in
        (r.0, r.2, ap (λ a. k (r.0 ∷ a ∷ [])) (sym m) ∙ (ap k (sym r.4) ∙ p.2))

    pub in_turn_gives : (g : Gathering) → value_of lang (in_turn g x e) s ≡ Ok v → (y : Value) × (value_of lang e s ≡ Ok y) × (made_of g h y ≡ Ok v)
    in_turn_gives (Adds false) q = of_two (apply Add) q
    in_turn_gives (Adds true) q = of_turned (apply Add) q
    in_turn_gives Takes q = of_two (apply Sub) q
    in_turn_gives (Greatest false) q = of_call (call Max) q
    in_turn_gives (Greatest true) q = of_turned_call (call Max) q
    in_turn_gives (Least false) q = of_call (call Min) q
    in_turn_gives (Least true) q = of_turned_call (call Min) q

  -- all at once
  pub of_all_gives : (g : Gathering) (x f : Expression) (s : Store) (a n : ℤ) → value_of lang x s ≡ Ok (Int a) → value_of lang (Reduce (red_of g) f) s ≡ Ok (Int n)
      → fits 127 (step g a n) ≡ true → value_of lang (of_all g x f) s ≡ Ok (Int (step g a n))
  of_all_gives (Adds t) x f s a n e h r =
      after_ok (value_of lang x s) (λ v. do w ← value_of lang (Reduce Sum f) s; apply Add v w) (Int a) e
      ∙ (after_ok (value_of lang (Reduce Sum f) s) (apply Add (Int a)) (Int n) h ∙ numbered_by (a +ℤ n) r)
  of_all_gives Takes x f s a n e h r =
      after_ok (value_of lang x s) (λ v. do w ← value_of lang (Reduce Sum f) s; apply Sub v w) (Int a) e
      ∙ (after_ok (value_of lang (Reduce Sum f) s) (apply Sub (Int a)) (Int n) h ∙ numbered_by (a -ℤ n) r)
  of_all_gives (Greatest t) x f s a n e h r =
      after_ok (values_of lang (two x (Reduce MaxVal f)) s) (call Max) (Int a ∷ Int n ∷ []) (give_two x (Reduce MaxVal f) s (Int a) (Int n) e h) ∙ numbered_by (int_max a n) r
  of_all_gives (Least t) x f s a n e h r =
      after_ok (values_of lang (two x (Reduce MinVal f)) s) (call Min) (Int a ∷ Int n ∷ []) (give_two x (Reduce MinVal f) s (Int a) (Int n) e h) ∙ numbered_by (int_min a n) r

-- ---- an array whose elements are known, in whole

each_from : (n : ℕ) (ws vs : List Value) (k : ℕ) → ((j : ℕ) → value_at_index ws (k + j) ≡ value_at_index vs j)
    → each (λ is. value_at_index ws (place_of (n ∷ []) is)) (map (λ i. i ∷ []) (counted k (length vs)) ++ []) ≡ Ok vs
each_from n ws [] k h = refl
each_from n ws (v ∷ vs) k h =
    let at : k + n * 0 ≡ k + 0 = omega arith in
    let first : value_at_index ws (k + n * 0) ≡ Ok v = ap (value_at_index ws) at ∙ h 0 in
    let next : (j : ℕ) → value_at_index ws (k + 1 + j) ≡ value_at_index vs j = λ j. ap (value_at_index ws) (let q : k + 1 + j ≡ k + suc j = omega arith in q) ∙ h (suc j) in
    let rest : List (List ℕ) = map (λ i. i ∷ []) (counted (k + 1) (length vs)) ++ [] in
    let f : List ℕ → Result Value Fault = λ is. value_at_index ws (place_of (n ∷ []) is) in
    after_ok (f (k ∷ [])) (λ y. do ys ← each f rest; Ok (y ∷ ys)) v first
    ∙ ap (λ (r : Result (List Value) Fault). do ys ← r; Ok (v ∷ ys)) (each_from n ws vs (k + 1) next)

pub whole_of_list : (vs : List Value) → in_whole (settled (record { extents = length vs ∷ []; values = vs })) ≡ Ok (record { extents = length vs ∷ []; values = vs })
whole_of_list vs = ap (λ (r : Result (List Value) Fault). do ws ← r; Ok (let a : Rattle.meaning.specs.ArrayValues.Array = record { extents = length vs ∷ []; values = ws } in a)) (each_from (length vs) vs vs 0 (λ j. ap (value_at_index vs) (let q : 0 + j ≡ j = omega arith in q)))

pub as_numbers-map : (zs : List ℤ) → as_numbers (map Int zs) ≡ Ok zs
as_numbers-map [] = refl
as_numbers-map (z ∷ zs) = ap (λ (r : Result (List ℤ) Fault). do ys ← r; Ok (z ∷ ys)) (as_numbers-map zs)

pub reduce_known : (lang : Dialect) (r : Red) (f : Expression) (s : Store) (zs : List ℤ) → lang.arrays ≡ true
    → array_of lang f s ≡ Ok (settled (record { extents = length (map Int zs) ∷ []; values = map Int zs })) → value_of lang (Reduce r f) s ≡ reduced lang.bits r zs
reduce_known lang r f s zs a e =
    let k : Elements Value → Result Value Fault = λ g. (do v ← in_whole g; ys ← as_numbers v.values; reduced lang.bits r ys) in
    ap (λ b. with_arrays b (do g ← array_of lang f s; k g)) a
    ∙ (after_ok (array_of lang f s) k (settled (record { extents = length (map Int zs) ∷ []; values = map Int zs })) e
    ∙ (after_ok (in_whole (settled (record { extents = length (map Int zs) ∷ []; values = map Int zs }))) (λ v. do ys ← as_numbers v.values; reduced lang.bits r ys) (record { extents = length (map Int zs) ∷ []; values = map Int zs }) (whole_of_list (map Int zs))
    ∙ after_ok (as_numbers (map Int zs)) (reduced lang.bits r) zs (as_numbers-map zs)))

-- ---- the list of e's values

pub one_more : (i : ℕ) → pos i +ℤ pos 1 ≡ pos (suc i)
one_more i = pos-+ℤ-pos i 1 ∙ ap pos (let e : i + 1 ≡ suc i = omega arith in e)

-- e has these values, one after another, from the k-th turn on
abbrev pub ValuesFrom : Dialect → List ℕ → Expression → Store → ℕ → List ℤ → Type 0
ValuesFrom lang i e s k [] = Unit {0}
ValuesFrom lang i e s k (z ∷ zs) = (fits lang.bits (pos k) ≡ true) × (value_of lang e (bound_to i (pos k) s) ≡ Ok (Int z)) × ValuesFrom lang i e s (suc k) zs

module _ (lang : Dialect) (i : List ℕ) (e : Expression) (s : Store) where
  abbrev at_number : ℤ → Result (List Value) Fault
  at_number z = cond (fits lang.bits z) (values_of lang (expression e no_expressions) (bound_to i z s)) (Err Overflow)

  one : (k : ℕ) (z : ℤ) → fits lang.bits (pos k) ≡ true → value_of lang e (bound_to i (pos k) s) ≡ Ok (Int z) → at_number (pos k) ≡ Ok (Int z ∷ [])
  one k z f g = rw (f, g) refl

  each_value : (k : ℕ) (zs : List ℤ) → ValuesFrom lang i e s k zs → each at_number (numbers_from (pos k) (length zs)) ≡ Ok (map (λ z. Int z ∷ []) zs)
  each_value k [] h = refl
  each_value k (z ∷ zs) h =
      after_ok (at_number (pos k)) (λ y. do ys ← each at_number (numbers_from (pos k +ℤ pos 1) (length zs)); Ok (y ∷ ys)) (Int z ∷ []) (one k z h.0 h.1)
      ∙ ap (λ (r : Result (List (List Value)) Fault). do ys ← r; Ok ((Int z ∷ []) ∷ ys)) (ap (λ m. each at_number (numbers_from m (length zs))) (one_more k) ∙ each_value (suc k) zs h.2)

  all_joined : (zs : List ℤ) → joined_values (map (λ z. Int z ∷ []) zs) ≡ map Int zs
  all_joined [] = refl
  all_joined (z ∷ zs) = ap (λ vs. Int z ∷ vs) (all_joined zs)

  pub listed_gives : (t : Expression) (top : ℤ) (zs : List ℤ) → number_of lang t s ≡ Ok top → not_negative (top -ℤ pos 1 +ℤ pos 1) ≡ length zs → ValuesFrom lang i e s 1 zs
      → array_of lang (listed i t e) s ≡ Ok (settled (record { extents = length (map Int zs) ∷ []; values = map Int zs }))
  listed_gives t top zs f n h =
      let many : ℤ → Result (List Value) Fault = λ u. (do vss ← each at_number (numbers_from (pos 1) (not_negative (u -ℤ pos 1 +ℤ pos 1))); Ok (joined_values vss)) in
      let whole : List Value → Result (Elements Value) Fault = λ vs. Ok (settled (record { extents = length vs ∷ []; values = vs })) in
      let vss : each at_number (numbers_from (pos 1) (not_negative (top -ℤ pos 1 +ℤ pos 1))) ≡ Ok (map (λ z. Int z ∷ []) zs) = ap (λ k. each at_number (numbers_from (pos 1) k)) n ∙ each_value 1 zs h in
      let all : many top ≡ Ok (map Int zs) = after_ok (each at_number (numbers_from (pos 1) (not_negative (top -ℤ pos 1 +ℤ pos 1)))) (λ v. Ok (joined_values v)) (map (λ z. Int z ∷ []) zs) vss ∙ ap Ok (all_joined zs) in
      after_ok (do u ← number_of lang t s; many u) whole (map Int zs) (after_ok (number_of lang t s) many top f ∙ all)

-- ---- what doesn't name x

-- a program with these names
abbrev declaring : List (List ℕ) → Program
declaring xs = record { name = None; declarations = map (λ (x : List ℕ). let d : Declaration = record { name = x; kind = Integer; extent = Given [] } in d) xs; body = no_statements }

declared_names : (xs : List (List ℕ)) → names_of (declaring xs) ≡ xs
declared_names [] = refl
declared_names (x ∷ xs) = ap (λ ys. x ∷ ys) (declared_names xs)

pub Contains-In : (xs : List (List ℕ)) (x : List ℕ) → Contains xs x → In x xs
Contains-In [] x h = absurd (let k = h.1 in omega (arith, k))
Contains-In (y ∷ ys) x (zero, lt, e) = inl (sym e)
Contains-In (y ∷ ys) x (suc k, lt, e) = inr (Contains-In ys x (k, omega (arith, lt), e))

-- the same but for cells of names that don't stand in the list
pub record SameFor (xs : List (List ℕ)) (s t : Store) : Type 0 where
  pub bounds : (y : List ℕ) → s.bounds y ≡ t.bounds y
  pub held : (c : Cell) → In c.name xs → s.held c ≡ t.held c

agrees : (xs : List (List ℕ)) (s t : Store) → SameFor xs s t → Agree (declaring xs) s t
agrees xs s t h = record {
  bounds = λ y i. h.bounds y;
  held = λ c i here. h.held c (inside c i);
  kinds = λ c i. ap nought_like (h.held c (inside c i));
}
  where
    inside : (c : Cell) → Contains (names_of (declaring xs)) c.name → In c.name xs
    inside c i = Contains-In xs c.name (subst (λ ys. Contains ys c.name) (declared_names xs) i)

all_declared : (xs : List (List ℕ)) → All (Contains (names_of (declaring xs))) xs
all_declared xs = subst (λ ys. All (Contains ys) xs) (sym (declared_names xs)) (All-contains_itself xs)

pub value_same : (lang : Dialect) (e : Expression) (s t : Store) → SameFor (names_in e) s t → value_of lang e s ≡ value_of lang e t
value_same lang e s t h = value_from_names lang (declaring (names_in e)) e s t (agrees (names_in e) s t h) (all_declared (names_in e))

pub subscripts_same : (lang : Dialect) (ps : Subscripts) (s t : Store) → SameFor (names_in_subscripts ps) s t → subscript_values lang ps s ≡ subscript_values lang ps t
subscripts_same lang ps s t h =
    let xs = names_in_subscripts ps in
    subscript_values-agree lang (declaring (names_in_subscripts ps)) ps (recursion_from_All (Contains (names_of (declaring (names_in_subscripts ps)))) (names_in_subscripts ps) (all_declared xs)) s t (agrees xs s t h)

pub place_same : (lang : Dialect) (r : Reference) (s t : Store) → SameFor (names_in_subscripts r.subscripts) s t → cell_named lang r s ≡ cell_named lang r t
place_same lang r s t h =
    ap (λ (q : Result (List ℤ) Fault). do is ← q; cell_at r.name is s) (subscripts_same lang r.subscripts s t h)
    ∙ ap (λ b. do is ← subscript_values lang r.subscripts t; Rattle.meaning.specs.Store.cell_in b r.name is) (h.bounds r.name)

-- a name has the value in its cell
pub named_value : (lang : Dialect) (r : Reference) (s : Store) (c : Cell) → cell_named lang r s ≡ Ok c → value_of lang (named r) s ≡ Ok (s.held c)
named_value lang r s c e =
    let p = both_ok (subscript_values lang r.subscripts s) (λ is. cell_at r.name is s) c e in
    after_ok (subscript_values lang r.subscripts s) (λ is. do d ← cell_at r.name is s; Ok (s.held d)) p.0 p.1 ∙ after_ok (cell_at r.name p.0 s) (λ d. Ok (s.held d)) c p.2
