-- The variables of a nest's loops.
use Rattle.std.proofs.Common.{◌≡◌, refl, sym, ap, ◌∙◌, subst, ◌⊎◌, inl, inr, ℕ, suc, ◌≤◌, ℤ, pos, Bool, true, false, cond, ◌||◌, List, [], ◌∷◌, ◌++◌, map, length, Ok, Err, Option, Some, None, append_assoc, append-nil, arith, Contains}
use Rattle.tree.specs.declared.ops.Value.{Value}
use Rattle.tree.specs.declared.ops.Value.TheVariants.{Int}
use Rattle.tree.specs.declared.ops.Fault.TheVariants.{Bounds}
use Rattle.tree.specs.Plain.{Program}
use Rattle.meaning.specs.Store.{Store, Cell, Agree, names_of, nought_like, put, same_cell, cell_at, cell_in}
use Rattle.meaning.specs.Value.{bound_to}
use Rattle.meaning.proofs.Exchanges.{same_cell-same, same_cell-refl, unread}
use Rattle.nest_order.specs.orders.Lists.{In}
use Rattle.nest_order.specs.orders.Shapes.{loops_of_shape, Within}
use Rattle.nest_order.proofs.orders.Membership.{In-map, map-In}
use Rattle.nest_order.specs.runs.Alone.{inside}
use Rattle.nest_order.specs.runs.Guarded.{at_iterations, variable_cell}
use Rattle.nest_order.specs.runs.Nests.{AreAt, Near, RunNest, is_one_of, is_nest_variable, variable_of}
use Rattle.nest_order.proofs.runs.Results.{true_false}

either_true : (p q : Bool) → (p || q) ≡ true → (p ≡ true) ⊎ (q ≡ true)
either_true true q e = inl refl
either_true false q e = inr e

or_right : (p q : Bool) → q ≡ true → (p || q) ≡ true
or_right true q e = refl
or_right false q e = e

pub one_of-In : (ds : List Cell) (c : Cell) → is_one_of ds c ≡ true → In c ds
one_of-In [] c e = cc
one_of-In (d ∷ ds) c e = by (either_true (same_cell d c) (is_one_of ds c) e) (one_of-In ds c)
  where
    by : (same_cell d c ≡ true) ⊎ (is_one_of ds c ≡ true) → (is_one_of ds c ≡ true → In c ds) → (c ≡ d) ⊎ In c ds
    by (inl f) more = inl (sym (same_cell-same d c f))
    by (inr f) more = inr (more f)

pub In-one_of : (ds : List Cell) (c : Cell) → In c ds → is_one_of ds c ≡ true
In-one_of [] c i = absurd i
In-one_of (d ∷ ds) c (inl e) = ap (λ b. b || is_one_of ds c) (subst (λ z. same_cell d z ≡ true) (sym e) (same_cell-refl d))
In-one_of (d ∷ ds) c (inr i) = or_right (same_cell d c) (is_one_of ds c) (In-one_of ds c i)

pub put_there : (c : Cell) (v : Value) (s : Store) → (put c v s).held c ≡ v
put_there c v s = ap (λ b. cond b v (s.held c)) (same_cell-refl c)

-- a scalar's one cell
pub place_of : (x : List ℕ) (s : Store) → s.bounds x ≡ Some [] → cell_at x [] s ≡ Ok (variable_cell x)
place_of x s e = ap (λ b. cell_in b x []) e

pub scalar_place : (b : Option (List (ℤ × ℤ))) (x : List ℕ) (is : List ℤ) (c : Cell) → b ≡ Some [] → cell_in b x is ≡ Ok c → c ≡ variable_cell x
scalar_place None x is c f e = cc
scalar_place (Some []) x [] c f e = cc
scalar_place (Some []) x (i ∷ is) c f e = cc
scalar_place (Some (b ∷ bs)) x is c f e = absurd (some_same (ap size f))
  where
    size : Option (List (ℤ × ℤ)) → Bool
    size (Some (b ∷ bs)) = true
    size _ = false

    some_same : true ≡ false → ⊥
    some_same e = cc

pub cell_name : (b : Option (List (ℤ × ℤ))) (x : List ℕ) (is : List ℤ) (c : Cell) → cell_in b x is ≡ Ok c → (c.name ≡ x) × (is ≡ c.subscripts)
cell_name None x is c e = cc
cell_name (Some bs) x is c e = by (Rattle.meaning.specs.Store.is_within bs is) e
  where
    by : (b : Bool) → cond b (Ok (record { name = x; subscripts = is })) (Err Bounds) ≡ Ok c → (c.name ≡ x) × (is ≡ c.subscripts)
    by true e = let same : ◌≡◌ {A = Cell} (record { name = x; subscripts = is }) c = cc in (sym (ap (λ (d : Cell). d.name) same), ap (λ (d : Cell). d.subscripts) same)
    by false e = cc

pub Within-length : (trip : ℕ → List ℕ → ℕ) (before ls is : List ℕ) → Within trip before ls is → length ls ≡ length is
Within-length trip before [] [] w = refl
Within-length trip before [] (i ∷ is) w = absurd w
Within-length trip before (l ∷ ls) [] w = absurd w
Within-length trip before (l ∷ ls) (i ∷ is) w = ap suc (Within-length trip (before ++ i ∷ []) ls is w.2)

pub Within-more : (trip : ℕ → List ℕ → ℕ) (before ls is : List ℕ) (l i : ℕ) → Within trip before ls is → 1 ≤ i → i ≤ trip l (before ++ is) → Within trip before (ls ++ l ∷ []) (is ++ i ∷ [])
Within-more trip before [] [] l i w a b = (a, subst (λ zs. i ≤ trip l zs) (append-nil before) b, tt)
Within-more trip before [] (j ∷ is) l i w a b = absurd w
Within-more trip before (m ∷ ls) [] l i w a b = absurd w
Within-more trip before (m ∷ ls) (j ∷ is) l i w a b = (w.0, w.1, Within-more trip (before ++ j ∷ []) ls is l i w.2 a (subst (λ zs. i ≤ trip l zs) (sym (append_assoc before (j ∷ []) is)) b))

pub Within-both : (trip : ℕ → List ℕ → ℕ) (before ls ms is js : List ℕ) → Within trip before ls is → Within trip (before ++ is) ms js → Within trip before (ls ++ ms) (is ++ js)
Within-both trip before [] ms [] js w v = subst (λ zs. Within trip zs ms js) (append-nil before) v
Within-both trip before [] ms (i ∷ is) js w v = absurd w
Within-both trip before (l ∷ ls) ms [] js w v = absurd w
Within-both trip before (l ∷ ls) ms (i ∷ is) js w v = (w.0, w.1, Within-both trip (before ++ i ∷ []) ls ms is js w.2 (subst (λ zs. Within trip zs ms js) (sym (append_assoc before (i ∷ []) is)) v))

module _ (n : RunNest) where
  abbrev pub var : ℕ → Cell
  var = variable_of n

  pub variable_is : (l : ℕ) → In l (loops_of_shape n.shape) → is_nest_variable n (var l) ≡ true
  variable_is l i = In-one_of (map var (loops_of_shape n.shape)) (var l) (map-In var l (loops_of_shape n.shape) i)

  pub variable_from : (c : Cell) → is_nest_variable n c ≡ true → (l : ℕ) × In l (loops_of_shape n.shape) × (c ≡ var l)
  variable_from c e = let o = In-map var c (loops_of_shape n.shape) (one_of-In (map var (loops_of_shape n.shape)) c e) in (o.it, o.inside, o.is)

  -- ---- the iterations that they hold

  pub AreAt-more : (ls is : List ℕ) (l i : ℕ) (s : Store) → AreAt n ls is s → s.held (var l) ≡ Int (pos i) → AreAt n (ls ++ l ∷ []) (is ++ i ∷ []) s
  AreAt-more [] [] l i s h e = (e, tt)
  AreAt-more [] (j ∷ is) l i s h e = absurd h
  AreAt-more (k ∷ ls) [] l i s h e = absurd h
  AreAt-more (k ∷ ls) (j ∷ is) l i s h e = (h.0, AreAt-more ls is l i s h.1 e)

  pub AreAt-last : (ls is : List ℕ) (l i : ℕ) (s : Store) → AreAt n (ls ++ l ∷ []) (is ++ i ∷ []) s → AreAt n ls is s × (s.held (var l) ≡ Int (pos i))
  AreAt-last [] [] l i s h = (tt, h.0)
  AreAt-last [] (j ∷ []) l i s h = absurd h.1
  AreAt-last [] (j ∷ (k ∷ is)) l i s h = absurd h.1
  AreAt-last (k ∷ []) [] l i s h = absurd h.1
  AreAt-last (k ∷ (m ∷ ls)) [] l i s h = absurd h.1
  AreAt-last (k ∷ ls) (j ∷ is) l i s h = let r = AreAt-last ls is l i s h.1 in ((h.0, r.0), r.1)

  -- a write elsewhere
  pub AreAt-put : (ls is : List ℕ) (c : Cell) (v : Value) (s : Store) → ¬ (In c (map var ls)) → AreAt n ls is s → AreAt n ls is (put c v s)
  AreAt-put [] [] c v s apart h = tt
  AreAt-put [] (i ∷ is) c v s apart h = absurd h
  AreAt-put (l ∷ ls) [] c v s apart h = absurd h
  AreAt-put (l ∷ ls) (i ∷ is) c v s apart h = (sym (unread c (var l) v s (λ e. apart (inl e))) ∙ h.0, AreAt-put ls is c v s (λ j. apart (inr j)) h.1)

  pub bounds_there : (xs : List (List ℕ)) (is : List ℕ) (t : Store) (x : List ℕ) → (at_iterations xs is t).bounds x ≡ t.bounds x
  bounds_there [] [] t x = refl
  bounds_there [] (i ∷ is) t x = refl
  bounds_there (y ∷ ys) [] t x = refl
  bounds_there (y ∷ ys) (i ∷ is) t x = bounds_there ys is (bound_to y (pos i) t) x

  -- where the variables hold the iterations already
  pub held_there : (ls is : List ℕ) (s t : Store) (c : Cell) → AreAt n ls is s → (t.held c ≡ s.held c) ⊎ In c (map var ls) → (at_iterations (map n.variable_at ls) is t).held c ≡ s.held c
  held_there [] [] s t c h (inl e) = e
  held_there [] [] s t c h (inr i) = absurd i
  held_there [] (i ∷ is) s t c h k = absurd h
  held_there (l ∷ ls) [] s t c h k = absurd h
  held_there (l ∷ ls) (i ∷ is) s t c h k = held_there ls is s (bound_to (n.variable_at l) (pos i) t) c h.1 (by (same_cell (var l) c) refl k)
    where
      by : (b : Bool) → same_cell (var l) c ≡ b → (t.held c ≡ s.held c) ⊎ ((c ≡ var l) ⊎ In c (map var ls)) → (cond b (Int (pos i)) (t.held c) ≡ s.held c) ⊎ In c (map var ls)
      by true f k = inl (sym h.0 ∙ ap s.held (same_cell-same (var l) c f))
      by false f (inl e) = inl e
      by false f (inr (inl e)) = absurd (true_false (sym (same_cell-refl (var l)) ∙ (ap (same_cell (var l)) (sym e) ∙ f)))
      by false f (inr (inr i)) = inr i

  -- two stores at the same iterations
  pub held_both : (ls is : List ℕ) (s t : Store) (c : Cell) → length ls ≡ length is → (t.held c ≡ s.held c) ⊎ In c (map var ls)
      → (at_iterations (map n.variable_at ls) is t).held c ≡ (at_iterations (map n.variable_at ls) is s).held c
  held_both [] [] s t c len (inl e) = e
  held_both [] [] s t c len (inr i) = absurd i
  held_both [] (i ∷ is) s t c len k = absurd (omega arith)
  held_both (l ∷ ls) [] s t c len k = absurd (omega arith)
  held_both (l ∷ ls) (i ∷ is) s t c len k = held_both ls is (bound_to (n.variable_at l) (pos i) s) (bound_to (n.variable_at l) (pos i) t) c (omega arith) (by (same_cell (var l) c) refl k)
    where
      by : (b : Bool) → same_cell (var l) c ≡ b → (t.held c ≡ s.held c) ⊎ ((c ≡ var l) ⊎ In c (map var ls)) → (cond b (Int (pos i)) (t.held c) ≡ cond b (Int (pos i)) (s.held c)) ⊎ In c (map var ls)
      by true f k = inl refl
      by false f (inl e) = inl e
      by false f (inr (inl e)) = absurd (true_false (sym (same_cell-refl (var l)) ∙ (ap (same_cell (var l)) (sym e) ∙ f)))
      by false f (inr (inr i)) = inr i

  -- ---- stores that are near

  pub Near-same : (s : Store) → Near n s s
  Near-same s = record { bounds = λ x. refl; held = λ c e. refl }

  pub Near-put : (c : Cell) (v : Value) (t s : Store) → Near n t s → Near n (put c v t) (put c v s)
  Near-put c v t s h = record { bounds = h.bounds; held = λ d e. ap (cond (same_cell c d) v) (h.held d e) }

  pub Near-variable : (c : Cell) (v : Value) (t s : Store) → is_nest_variable n c ≡ true → Near n t s → Near n t (put c v s)
  Near-variable c v t s y h = record { bounds = h.bounds; held = λ d e. h.held d e ∙ unread c d v s (λ f. true_false (sym y ∙ (ap (is_nest_variable n) f ∙ e))) }

  pub near_stores_agree : (p : Program) (s t : Store) → ((l : ℕ) → In l (loops_of_shape n.shape) → ¬ Contains (names_of p) (n.variable_at l)) → Near n s t → Agree p s t
  near_stores_agree p s t free near = record {
    bounds = λ x i. near.bounds x;
    held = λ c i is. near.held c (by c i (is_nest_variable n c) refl);
    kinds = λ c i. ap nought_like (near.held c (by c i (is_nest_variable n c) refl));
  }
    where
      by : (c : Cell) → Contains (names_of p) c.name → (b : Bool) → is_nest_variable n c ≡ b → is_nest_variable n c ≡ false
      by c i true e = let v = variable_from c e in absurd (free v.0 v.1 (subst (Contains (names_of p)) (ap (λ (d : Cell). d.name) v.2) i))
      by c i false e = e
