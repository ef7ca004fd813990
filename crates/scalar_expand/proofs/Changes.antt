-- How stores stay beside each other as cells get other values.
use Rattle.std.proofs.Common.{◌≡◌, refl, sym, ap, ◌∙◌, ◌⊎◌, inl, inr, subst, ℕ, ℤ, pos, Bool, true, false, cond, List, [], ◌∷◌, ◌++◌, Option, Some, None}
use Rattle.std.specs.List.{AllByRecursion}
use Rattle.std.specs.Str.{bytes_eq}
use Rattle.std.proofs.lemmas.Slice.Eq.{bytes_eq-Decides}
use Rattle.tree.specs.declared.ops.Value.{Value}
use Rattle.tree.specs.declared.ops.Value.TheVariants.{Int}
use Rattle.meaning.specs.Store.{Store, Cell, put, same_cell, is_within}
use Rattle.meaning.specs.Value.{is_in_range}
use Rattle.meaning.proofs.Exchanges.{unread}
use Rattle.nest.specs.Plain.{Loop}
use Rattle.nest_order.specs.orders.Lists.{In}
use Rattle.nest_order.proofs.runs.Variables.{put_there}
use Rattle.nest_steps.specs.Rounds.{Hold}
use Rattle.nest_steps.specs.Statements.{cell_of}
use Rattle.nest_steps.proofs.Rounds.{hold_less, hold_put}
use Rattle.scalar_expand.specs.Expanded.{named_private}
use Rattle.scalar_expand.specs.Stores.{AreApart, AreBeside, AreSo, AreTurned, Begun, IsElement, IsPassed, arrays, element_cell, numbers}
use Rattle.scalar_expand.specs.declared.privates.Private.{Private}
use Rattle.scalar_expand.specs.declared.privates.RoundLoop.{RoundLoop}

-- ---- names

pub none_some : (p : Private) → ◌≡◌ {A = Option Private} None (Some p) → ⊥
none_some p e = cc

pub some_same : (p q : Private) → ◌≡◌ {A = Option Private} (Some p) (Some q) → p ≡ q
some_same p q e = cc

pub found : (ps : List Private) (z : List ℕ) (p : Private) → named_private ps z ≡ Some p → In p ps × (p.name ≡ z)
found [] z p e = absurd (none_some p e)
found (q ∷ ps) z p e = by (bytes_eq q.name z) refl e (λ g. found ps z p g)
  where
    by : (b : Bool) → bytes_eq q.name z ≡ b → cond b (Some q) (named_private ps z) ≡ Some p → (named_private ps z ≡ Some p → In p ps × (p.name ≡ z)) → In p (q ∷ ps) × (p.name ≡ z)
    by true f g r = let same : q ≡ p = some_same q p g in (inl (sym same), subst (λ (r : Private). r.name ≡ z) same ((bytes_eq-Decides q.name z).0 f))
    by false f g r = let more = r g in (inr more.0, more.1)

pub array_in : (ps : List Private) (p : Private) → In p ps → In p.array (arrays ps)
array_in [] p i = i
array_in (q ∷ ps) p (inl e) = inl (ap (λ (r : Private). r.array) e)
array_in (q ∷ ps) p (inr i) = inr (array_in ps p i)

pub apart_names : (x y : List ℕ) → ¬ (x ≡ y) → bytes_eq x y ≡ false
apart_names x y n = by (bytes_eq x y) refl
  where
    by : (b : Bool) → bytes_eq x y ≡ b → b ≡ false
    by true e = absurd (n ((bytes_eq-Decides x y).0 e))
    by false e = refl

-- ---- cells

pub other_name : (c d : Cell) (v : Value) (s : Store) → ¬ (c.name ≡ d.name) → (put c v s).held d ≡ s.held d
other_name c d v s n = sym (unread c d v s (λ e. n (ap (λ (x : Cell). x.name) e)))

turned_put : (c : Cell) (v : Value) (ls : List RoundLoop) (is : List ℕ) (u : Store) → ((l : RoundLoop) → In l ls → ¬ (c.name ≡ l.variable)) → AreTurned ls is u → AreTurned ls is (put c v u)
turned_put c v [] [] u n h = h
turned_put c v [] (i ∷ is) u n h = h
turned_put c v (l ∷ ls) [] u n h = h
turned_put c v (l ∷ ls) (i ∷ is) u n h =
    (h.0, other_name c (cell_of l.variable) v u (n l (inl refl)) ∙ h.1, turned_put c v ls is u (λ k j. n k (inr j)) h.2)

pub apart_loops : (x : List ℕ) (ls : List Loop) → ((l : Loop) → In l ls → ¬ (x ≡ l.variable)) → AllByRecursion (λ (o : Loop). bytes_eq x o.variable ≡ false) ls
apart_loops x [] n = tt
apart_loops x (l ∷ ls) n = (apart_names x l.variable (n l (inl refl)), apart_loops x ls (λ k i. n k (inr i)))

-- one loop more
hold_more : (l : Loop) (i : ℕ) (ls : List Loop) (is : List ℕ) (s : Store) → s.held (cell_of l.variable) ≡ Int (pos i) → Hold ls is s → Hold (ls ++ l ∷ []) (is ++ i ∷ []) s
hold_more l i [] [] s e h = (e, tt)
hold_more l i [] (j ∷ is) s e h = absurd h
hold_more l i (o ∷ ls) [] s e h = absurd h
hold_more l i (o ∷ ls) (j ∷ is) s e h = (h.0, hold_more l i ls is s e h.1)

module _ (bits : ℕ) (ps : List Private) (limits : Private → List (ℤ × ℤ)) (lasts : Private → List ℕ) (symbols : List (List ℕ)) (value : List ℕ → ℤ) (IsCounter : List ℕ → Type 0) (IsOwn : Private → Type 0)
    (names : AreApart bits ps limits lasts symbols value IsCounter IsOwn) where
  abbrev So : List Loop → List ℕ → List Begun → List Begun → (Private → Type 0) → Store → Store → Type 0
  So = AreSo bits ps limits lasts symbols value IsCounter IsOwn

  abbrev Element : Begun → Store → Store → Type 0
  Element = IsElement bits ps limits lasts symbols value IsCounter IsOwn

  abbrev Passed : Begun → Store → Store → Type 0
  Passed = IsPassed bits ps limits lasts symbols value IsCounter IsOwn

  -- the loops at hand count by counters
  abbrev pub Counted : List Loop → Type 0
  Counted ls = (l : Loop) → In l ls → IsCounter l.variable

  no_counter : (p : Private) → In p ps → (z : List ℕ) → IsCounter z → ¬ (p.name ≡ z)
  no_counter p i z c e = none_some p (sym (names.counters z c).0 ∙ (ap (named_private ps) (sym e) ∙ names.named p i))

  array_no_counter : (p : Private) → In p ps → (z : List ℕ) → IsCounter z → ¬ (p.array ≡ z)
  array_no_counter p i z c e = (names.counters z c).1 (subst (λ y. In y (arrays ps)) e (array_in ps p i))

  named_apart : (p : Private) → In p ps → (z : List ℕ) → named_private ps z ≡ None → ¬ (p.name ≡ z)
  named_apart p i z n e = none_some p (sym n ∙ (ap (named_private ps) (sym e) ∙ names.named p i))

  -- two private scalars of one name
  pub one_name : (p q : Private) → In p ps → In q ps → p.name ≡ q.name → p ≡ q
  one_name p q i j e = some_same p q (sym (names.named p i) ∙ (ap (named_private ps) e ∙ names.named q j))

  -- ---- a cell that both have

  module _ (c : Cell) (v : Value) (none : named_private ps c.name ≡ None) (no_array : ¬ In c.name (arrays ps)) (free : ¬ In c.name symbols) where
    beside_put : (s u : Store) → AreBeside bits ps limits lasts symbols value IsCounter IsOwn s u → AreBeside bits ps limits lasts symbols value IsCounter IsOwn (put c v s) (put c v u)
    beside_put s u h = record {
      bounds = h.bounds;
      held = λ d n a. ap (cond (same_cell c d) v) (h.held d n a);
      scalars = h.scalars;
      arrays = h.arrays;
      own = h.own;
      counters = h.counters;
      fixed = λ z i. ((h.fixed z i).0, other_name c (cell_of z) v s (λ e. free (subst (λ y. In y symbols) (sym e) i)) ∙ (h.fixed z i).1);
    }

    element_put : (b : Begun) (s u : Store) → ((l : RoundLoop) → In l b.0.loops → ¬ (c.name ≡ l.variable)) → Element b s u → Element b (put c v s) (put c v u)
    element_put b s u n h = record {
      among = h.among;
      same =
          other_name c (element_cell b.0 b.1) v u (λ e. no_array (subst (λ y. In y (arrays ps)) (sym e) (array_in ps b.0 h.among)))
          ∙ (h.same ∙ sym (other_name c (cell_of b.0.name) v s (λ e. named_apart b.0 h.among c.name none (sym e))));
      turned = turned_put c v b.0.loops b.1 u n h.turned;
      within = h.within;
      range = ap (is_in_range bits) (other_name c (cell_of b.0.name) v s (λ e. named_apart b.0 h.among c.name none (sym e))) ∙ h.range;
    }

    passed_put : (b : Begun) (s u : Store) → Passed b s u → Passed b (put c v s) (put c v u)
    passed_put b s u h = record {
      among = h.among;
      same = λ f r. (
        other_name c (element_cell b.0 (lasts b.0)) v u (λ e. no_array (subst (λ y. In y (arrays ps)) (sym e) (array_in ps b.0 h.among)))
            ∙ ((h.same f r).0 ∙ sym (other_name c (cell_of b.0.name) v s (λ e. named_apart b.0 h.among c.name none (sym e)))),
        ap (is_in_range bits) (other_name c (cell_of b.0.name) v s (λ e. named_apart b.0 h.among c.name none (sym e))) ∙ (h.same f r).1,
      );
    }

    kept_put : (p : Private) → In p ps → (s u : Store) → u.held (cell_of p.name) ≡ s.held (cell_of p.name) → (put c v u).held (cell_of p.name) ≡ (put c v s).held (cell_of p.name)
    kept_put p i s u h = ap (cond (same_cell c (cell_of p.name)) v) h

    -- of no loop
    pub other_put : ¬ IsCounter c.name → (ls : List Loop) → Counted ls → (is : List ℕ) (B E : List Begun) (K : Private → Type 0) (s u : Store) → So ls is B E K s u → So ls is B E K (put c v s) (put c v u)
    other_put nc ls counted is B E K s u h = record {
      beside = beside_put s u h.beside;
      turned = hold_put c v ls is s (apart_loops c.name ls (λ l i e. nc (subst IsCounter (sym e) (counted l i)))) h.turned;
      elements = λ b i. let e = h.elements b i in element_put b s u (λ l j g. nc (subst IsCounter (sym g) (names.loops b.0 e.among l j))) e;
      passed = λ b i. passed_put b s u (h.passed b i);
      kept = λ p i k. kept_put p i s u (h.kept p i k);
    }

  -- ---- the variable of a loop

  pub entered : (ls : List Loop) (l : Loop) (is : List ℕ) (i : ℕ) (B E : List Begun) (K : Private → Type 0) (s u : Store) → IsCounter l.variable → ((o : Loop) → In o ls → ¬ (l.variable ≡ o.variable))
      → ((b : Begun) → In b B → (k : RoundLoop) → In k b.0.loops → ¬ (l.variable ≡ k.variable))
      → So ls is B E K s u → So (ls ++ l ∷ []) (is ++ i ∷ []) B E K (put (cell_of l.variable) (Int (pos i)) s) (put (cell_of l.variable) (Int (pos i)) u)
  entered ls l is i B E K s u counter own others h =
      let none = (names.counters l.variable counter).0 in
      let no_array = (names.counters l.variable counter).1 in
      let free : ¬ In l.variable symbols = λ j. (names.free l.variable j).2 counter in
      record {
        beside = beside_put (cell_of l.variable) (Int (pos i)) none no_array free s u h.beside;
        turned = hold_more l i ls is (put (cell_of l.variable) (Int (pos i)) s) (put_there (cell_of l.variable) (Int (pos i)) s) (hold_put (cell_of l.variable) (Int (pos i)) ls is s (apart_loops l.variable ls own) h.turned);
        elements = λ b j. element_put (cell_of l.variable) (Int (pos i)) none no_array free b s u (others b j) (h.elements b j);
        passed = λ b j. passed_put (cell_of l.variable) (Int (pos i)) none no_array free b s u (h.passed b j);
        kept = λ p j k. kept_put (cell_of l.variable) (Int (pos i)) none no_array free p j s u (h.kept p j k);
      }

  pub left_behind : (ls : List Loop) (l : Loop) (is : List ℕ) (i : ℕ) (B E : List Begun) (K : Private → Type 0) (s u : Store) → So (ls ++ l ∷ []) (is ++ i ∷ []) B E K s u → So ls is B E K s u
  left_behind ls l is i B E K s u h = record { beside = h.beside; turned = (hold_less l i ls is s h.turned).0; elements = h.elements; passed = h.passed; kept = h.kept }

  -- ---- a private scalar and its element

  pub given : (ls : List Loop) → Counted ls → (is : List ℕ) (B E : List Begun) (K J : Private → Type 0) (p : Private) (js : List ℕ) (v : Value) (s u : Store) → In p ps
      → AreTurned p.loops js u → is_within (limits p) (numbers js) ≡ true → is_in_range bits v ≡ true → ((b : Begun) → In b B → b.0 ≡ p → b.1 ≡ js) → ((b : Begun) → In b E → ¬ (b.0 ≡ p))
      → ((q : Private) → In q ps → J q → K q × (IsOwn q × (¬ (q ≡ p))))
      → So ls is B E K s u → So ls is ((p, js) ∷ B) E J (put (cell_of p.name) v s) (put (element_cell p js) v u)
  given ls counted is B E K J p js v s u i at within range once apart less h = record {
    beside = record {
      bounds = h.beside.bounds;
      held = λ d n a.
          other_name (element_cell p js) d v u (λ e. a (subst (λ y. In y (arrays ps)) e (array_in ps p i)))
          ∙ (h.beside.held d n a ∙ sym (other_name (cell_of p.name) d v s (named_apart p i d.name n)));
      scalars = h.beside.scalars;
      arrays = h.beside.arrays;
      own = h.beside.own;
      counters = h.beside.counters;
      fixed = λ z j. ((h.beside.fixed z j).0, other_name (cell_of p.name) (cell_of z) v s (named_apart p i z (names.free z j).0) ∙ (h.beside.fixed z j).1);
    };
    turned = hold_put (cell_of p.name) v ls is s (apart_loops p.name ls (λ l j. no_counter p i l.variable (counted l j))) h.turned;
    elements = each;
    passed = λ b j. (let e = h.passed b j in record {
      among = e.among;
      same = λ f r. (
        other_name (element_cell p js) (element_cell b.0 (lasts b.0)) v u (λ g. apart b j (sym (names.apart p b.0 i e.among g)))
            ∙ ((e.same f r).0 ∙ sym (other_name (cell_of p.name) (cell_of b.0.name) v s (λ g. apart b j (one_name b.0 p e.among i (sym g))))),
        ap (is_in_range bits) (other_name (cell_of p.name) (cell_of b.0.name) v s (λ g. apart b j (one_name b.0 p e.among i (sym g)))) ∙ (e.same f r).1,
      );
    });
    kept = λ q j k.
        let l = less q j k in
        other_name (element_cell p js) (cell_of q.name) v u (names.own p q i j l.1.0)
        ∙ (h.kept q j l.0 ∙ sym (other_name (cell_of p.name) (cell_of q.name) v s (λ e. l.1.1 (one_name q p j i (sym e)))));
  }
    where
      own_one : Element (p, js) (put (cell_of p.name) v s) (put (element_cell p js) v u)
      own_one = record {
        among = i;
        same = put_there (element_cell p js) v u ∙ sym (put_there (cell_of p.name) v s);
        turned = turned_put (element_cell p js) v p.loops js u (λ l j. array_no_counter p i l.variable (names.loops p i l j)) at;
        within = within;
        range = ap (is_in_range bits) (put_there (cell_of p.name) v s) ∙ range;
      }

      another : (b : Begun) → In b B → ¬ (b.0 ≡ p) → Element b (put (cell_of p.name) v s) (put (element_cell p js) v u)
      another b j n = let e = h.elements b j in record {
        among = e.among;
        same =
            other_name (element_cell p js) (element_cell b.0 b.1) v u (λ f. n (sym (names.apart p b.0 i e.among f)))
            ∙ (e.same ∙ sym (other_name (cell_of p.name) (cell_of b.0.name) v s (λ f. n (one_name b.0 p e.among i (sym f)))));
        turned = turned_put (element_cell p js) v b.0.loops b.1 u (λ l k. array_no_counter p i l.variable (names.loops b.0 e.among l k)) e.turned;
        within = e.within;
        range = ap (is_in_range bits) (other_name (cell_of p.name) (cell_of b.0.name) v s (λ f. n (one_name b.0 p e.among i (sym f)))) ∙ e.range;
      }

      either : (b : Begun) → In b B → (q : Bool) → bytes_eq b.0.name p.name ≡ q → Element b (put (cell_of p.name) v s) (put (element_cell p js) v u)
      either b j true e =
          let same : b.0 ≡ p = one_name b.0 p (h.elements b j).among i ((bytes_eq-Decides b.0.name p.name).0 e) in
          let whole : (p, js) ≡ b = (λ k. (sym same k, sym (once b j same) k)) in
          subst (λ (b : Begun). Element b (put (cell_of p.name) v s) (put (element_cell p js) v u)) whole own_one
      either b j false e = another b j (λ f. (let bad : true ≡ false = sym ((bytes_eq-Decides b.0.name p.name).1 (ap (λ (r : Private). r.name) f)) ∙ e in cc))

      each : (b : Begun) → In b ((p, js) ∷ B) → Element b (put (cell_of p.name) v s) (put (element_cell p js) v u)
      each b (inl e) = subst (λ (b : Begun). Element b (put (cell_of p.name) v s) (put (element_cell p js) v u)) (sym e) own_one
      each b (inr j) = either b j (bytes_eq b.0.name p.name) refl

  -- ---- a copy

  pub copied_back : (ls : List Loop) (is : List ℕ) (B E : List Begun) (K J : Private → Type 0) (p : Private) (v : Value) (s u : Store) → In p ps → IsOwn p → v ≡ s.held (cell_of p.name)
      → ((q : Private) → In q ps → J q → K q ⊎ (q ≡ p)) → So ls is B E K s u → So ls is B E J s (put (cell_of p.name) v u)
  copied_back ls is B E K J p v s u i own same more h = record {
    beside = record {
      bounds = h.beside.bounds;
      held = λ d n a. other_name (cell_of p.name) d v u (named_apart p i d.name n) ∙ h.beside.held d n a;
      scalars = h.beside.scalars;
      arrays = h.beside.arrays;
      own = h.beside.own;
      counters = h.beside.counters;
      fixed = h.beside.fixed;
    };
    turned = h.turned;
    elements = λ b j. let e = h.elements b j in record {
      among = e.among;
      same = other_name (cell_of p.name) (element_cell b.0 b.1) v u (λ f. names.own b.0 p e.among i own (sym f)) ∙ e.same;
      turned = turned_put (cell_of p.name) v b.0.loops b.1 u (λ l k. no_counter p i l.variable (names.loops b.0 e.among l k)) e.turned;
      within = e.within;
      range = e.range;
    };
    passed = λ b j. (let e = h.passed b j in record {
      among = e.among;
      same = λ f r. (other_name (cell_of p.name) (element_cell b.0 (lasts b.0)) v u (λ g. names.own b.0 p e.among i own (sym g)) ∙ (e.same f r).0, (e.same f r).1);
    });
    kept = λ q j k. by q j (more q j k) (bytes_eq p.name q.name) refl;
  }
    where
      by : (q : Private) → In q ps → K q ⊎ (q ≡ p) → (b : Bool) → bytes_eq p.name q.name ≡ b → (put (cell_of p.name) v u).held (cell_of q.name) ≡ s.held (cell_of q.name)
      by q j k true e =
          subst (λ y. (put (cell_of p.name) v u).held (cell_of y) ≡ s.held (cell_of y)) ((bytes_eq-Decides p.name q.name).0 e) (put_there (cell_of p.name) v u ∙ same)
      by q j (inl k) false e = other_name (cell_of p.name) (cell_of q.name) v u (λ f. (let bad : true ≡ false = sym ((bytes_eq-Decides p.name q.name).1 f) ∙ e in cc)) ∙ h.kept q j k
      by q j (inr f) false e = let bad : true ≡ false = sym ((bytes_eq-Decides p.name q.name).1 (ap (λ (r : Private). r.name) (sym f))) ∙ e in cc
