-- Constructors over loops: they have the values of all iterations, the first loop running fastest.
use Rattle.std.proofs.Common.{◌≡◌, refl, sym, ap, ◌∙◌, ℕ, zero, suc, ◌+◌, ◌*◌, ◌^◌, ◌≤◌, ◌<◌, ℤ, pos, ◌+ℤ◌, ◌-ℤ◌, ◌*ℤ◌, Bool, true, false, cond, List, [], ◌∷◌, ◌++◌, map, length, flat_map, Result, Ok, Err, arith, Contains}
use Rattle.std.specs.Str.{bytes_eq}
use Rattle.std.proofs.lemmas.Bool.{le-leb, lt-ltb}
use Rattle.std.proofs.lemmas.Int.{ints}
use Rattle.std.proofs.lemmas.Slice.Eq.{bytes_eq-Decides}
use Rattle.std.proofs.Math.IntN.{zero-*ℤ, +ℤ_idl}
use mathlib.Core.Path.{ap₂}
use Rattle.tree.specs.Operators.{fits, as_numbers}
use Rattle.tree.specs.Plain.{Expression, Number, Constructor, Reshape, no_expressions, expression, expressions}
use Rattle.tree.specs.Steps.{◌>>=◌}
use Rattle.tree.specs.declared.ops.Fault.{Fault}
use Rattle.tree.specs.declared.ops.Fault.TheVariants.{Overflow, Shape}
use Rattle.tree.specs.declared.ops.Value.{Value}
use Rattle.tree.specs.declared.ops.Value.TheVariants.{Int}
use Rattle.meaning.specs.ArrayValues.{Array, Elements, each, counted, positions, size, settled, in_whole, reshaped}
use Rattle.meaning.specs.Dialect.{Dialect}
use Rattle.meaning.specs.Sections.{not_negative}
use Rattle.meaning.specs.Store.{Store, Cell, numbers_from}
use Rattle.meaning.specs.Value.{value_of, values_of, array_of, under, for_numbers, joined_values, numbered, bound_to}
use Rattle.meaning.proofs.ArrayLaws.{settled-whole}
use Rattle.meaning.proofs.Exchanges.{put-put}
use Rattle.meaning_laws.proofs.arrays.Members.{here, there}
use Rattle.meaning_laws.proofs.arrays.Sections.{value_there, number_of_positions, length_map}
use Rattle.linear_forms.specs.Linear.{Form, weighted, number_at}
use Rattle.array_form.specs.forms.Forms.{form_trip_text, loops_over, constructed}
use Rattle.array_form.specs.forms.Instances.{at_iterations, count_of, counts_of}
use Rattle.array_form.specs.forms.Laws.{Turns, AreKnown}
use Rattle.array_form.specs.forms.Loops.{FormLoop, FormSurroundings, form_variables_of, form_names_of, is_among, coefficient, without}
use Rattle.array_form.specs.forms.Trips.{divided}
use Rattle.array_form.proofs.forms.Bounds.{trip_known}
use Rattle.array_form.proofs.forms.Coefficients.{replaced, replaced_sized, replaced_have, number_replaced, as_long}
use Rattle.array_form.proofs.forms.Iterations.{variable_cell}
use Rattle.array_form.proofs.forms.Positions.{AreFrom}
use Rattle.meaning.proofs.Widths.{fits_more}

-- ---- arrays of which each element is known

pub record Full (g : Elements Value) (ns : List ℕ) (h : List ℕ → Value) : Type 0 where
  pub extents : g.extents ≡ ns
  pub at : (is : List ℕ) → Contains (positions ns) is → g.at is ≡ Ok (h is)

pub each_known : {A B : Type 0} (g : A → Result B Fault) (h : A → B) (ys : List A) → ((y : A) → Contains ys y → g y ≡ Ok (h y)) → each g ys ≡ Ok (map h ys)
each_known g h [] k = refl
each_known g h (y ∷ ys) k = ap₂ (λ r q. do z ← r; zs ← q; Ok (z ∷ zs)) (k y (here y ys)) (each_known g h ys (λ x c. k x (there y ys x c)))

abbrev pub filled : List ℕ → (List ℕ → Value) → Array
filled ns h = record { extents = ns; values = map h (positions ns) }

pub whole_full : (g : Elements Value) (ns : List ℕ) (h : List ℕ → Value) → Full g ns h → in_whole g ≡ Ok (filled ns h)
whole_full g ns h f =
    ap (λ ms. let r : Result Array Fault = (do vs ← each g.at (positions ms); Ok (record { extents = ms; values = vs })) in r) f.extents
    ∙ ap (λ (r : Result (List Value) Fault). let q : Result Array Fault = (do vs ← r; Ok (record { extents = ns; values = vs })) in q) (each_known g.at h (positions ns) f.at)

pub settled_full : (ns : List ℕ) (h : List ℕ → Value) → Full (settled (filled ns h)) ns h
settled_full ns h = record { extents = refl; at = λ is c. value_there ns h is c }

-- ---- lists

map_map : {A B C : Type 0} (f : B → C) (g : A → B) (ys : List A) → map f (map g ys) ≡ map (λ y. f (g y)) ys
map_map f g [] = refl
map_map f g (y ∷ ys) = ap (λ zs. f (g y) ∷ zs) (map_map f g ys)

flat_append : {A B : Type 0} (f : A → List B) (xs ys : List A) → flat_map f (xs ++ ys) ≡ flat_map f xs ++ flat_map f ys
flat_append f [] ys = refl
flat_append f (x ∷ xs) ys = ap (λ zs. f x ++ zs) (flat_append f xs ys) ∙ grouped (f x) (flat_map f xs) (flat_map f ys)
  where
    grouped : {B : Type 0} (as' bs cs : List B) → as' ++ (bs ++ cs) ≡ (as' ++ bs) ++ cs
    grouped [] bs cs = refl
    grouped (a ∷ as') bs cs = ap (λ zs. a ∷ zs) (grouped as' bs cs)

flat_of_map : {A B C : Type 0} (f : B → List C) (g : A → B) (ys : List A) → flat_map f (map g ys) ≡ flat_map (λ y. f (g y)) ys
flat_of_map f g [] = refl
flat_of_map f g (y ∷ ys) = ap (λ zs. f (g y) ++ zs) (flat_of_map f g ys)

flat_flat : {A B C : Type 0} (f : B → List C) (g : A → List B) (ys : List A) → flat_map f (flat_map g ys) ≡ flat_map (λ y. flat_map f (g y)) ys
flat_flat f g [] = refl
flat_flat f g (y ∷ ys) = flat_append f (g y) (flat_map g ys) ∙ ap (λ zs. flat_map f (g y) ++ zs) (flat_flat f g ys)

flat_same : {A B : Type 0} (f g : A → List B) (ys : List A) → ((y : A) → f y ≡ g y) → flat_map f ys ≡ flat_map g ys
flat_same f g [] h = refl
flat_same f g (y ∷ ys) h = ap₂ (λ as' bs. as' ++ bs) (h y) (flat_same f g ys h)

flat_single : {A B : Type 0} (h : A → B) (ys : List A) → flat_map (λ y. h y ∷ []) ys ≡ map h ys
flat_single h [] = refl
flat_single h (y ∷ ys) = ap (λ zs. h y ∷ zs) (flat_single h ys)

joined_flat : {A : Type 0} (h : A → List Value) (ys : List A) → joined_values (map h ys) ≡ flat_map h ys
joined_flat h [] = refl
joined_flat h (y ∷ ys) = ap (λ zs. h y ++ zs) (joined_flat h ys)

-- ---- a store with one more variable bound

commutes : (x : List ℕ) (z : ℤ) (ls : List FormLoop) (is : List ℕ) (s : Store) → is_among (form_variables_of ls) x ≡ false → bound_to x z (at_iterations ls is s) ≡ at_iterations ls is (bound_to x z s)
commutes x z [] is s h = refl
commutes x z (l ∷ ls) [] s h = refl
commutes x z (l ∷ ls) (i ∷ is) s h = by (bytes_eq l.variable x) refl h (commutes x z ls is (bound_to l.variable (pos i) s))
  where
    by : (b : Bool) → bytes_eq l.variable x ≡ b → cond b true (is_among (form_variables_of ls) x) ≡ false
        → (is_among (form_variables_of ls) x ≡ false → bound_to x z (at_iterations ls is (bound_to l.variable (pos i) s)) ≡ at_iterations ls is (bound_to x z (bound_to l.variable (pos i) s)))
        → bound_to x z (at_iterations ls is (bound_to l.variable (pos i) s)) ≡ at_iterations ls is (bound_to l.variable (pos i) (bound_to x z s))
    by true e h more = absurd cc
    by false e h more = more h ∙ ap (at_iterations ls is) (put-put (variable_cell x) (variable_cell l.variable) (Int z) (Int (pos i)) s (λ q.
        let same : l.variable ≡ x = sym (ap (λ (c : Cell). c.name) q) in let bad : false ≡ true = sym e ∙ (bytes_eq-Decides l.variable x).1 same in absurd cc))

-- ---- trips that don't depend on a name

without_nought : (names : List (List ℕ)) (x : List ℕ) (cs xs : List ℤ) → coefficient names x cs ≡ pos 0 → weighted (without names x cs) xs ≡ weighted cs xs
without_nought [] x cs xs h = refl
without_nought (y ∷ ys) x [] xs h = refl
without_nought (y ∷ ys) x (c ∷ cs) [] h = by (bytes_eq y x)
  where
    by : (b : Bool) → weighted (cond b (pos 0 ∷ cs) (c ∷ without ys x cs)) [] ≡ pos 0
    by true = refl
    by false = refl
without_nought (y ∷ ys) x (c ∷ cs) (v ∷ xs) h = by (bytes_eq y x) h (without_nought ys x cs xs)
  where
    by : (b : Bool) → cond b c (coefficient ys x cs) ≡ pos 0 → (coefficient ys x cs ≡ pos 0 → weighted (without ys x cs) xs ≡ weighted cs xs)
        → weighted (cond b (pos 0 ∷ cs) (c ∷ without ys x cs)) (v ∷ xs) ≡ c *ℤ v +ℤ weighted cs xs
    by true h more = ap (λ w. w *ℤ v +ℤ weighted cs xs) (sym h)
    by false h more = ap (λ w. c *ℤ v +ℤ w) (more h)

same_number : (names : List (List ℕ)) (x : List ℕ) (z : ℤ) (f : Form) (xs : List ℤ) → is_among names x ≡ true → length xs ≡ length names → coefficient names x f.coefficients ≡ pos 0 → number_at f (replaced names x z xs) ≡ number_at f xs
same_number names x z f xs m l h =
    number_replaced names x z f xs m l
    ∙ (ap (λ c. c *ℤ z +ℤ (weighted (without names x f.coefficients) xs +ℤ f.constant)) h
    ∙ (ap (λ w. w +ℤ (weighted (without names x f.coefficients) xs +ℤ f.constant)) (zero-*ℤ z) ∙ (+ℤ_idl (weighted (without names x f.coefficients) xs +ℤ f.constant)
    ∙ ap (λ w. w +ℤ f.constant) (without_nought names x f.coefficients xs h))))

module _ (d : Dialect) (a : FormSurroundings) where
  -- one loop more at an iteration
  bound_known : (s : Store) (xs : List ℤ) → AreKnown a s xs → (x : List ℕ) (i : ℕ) → i ≤ 2147483646 → AreKnown a (bound_to x (pos i) s) (replaced (form_names_of a) x (pos i) xs)
  bound_known s xs k x i h = record {
    few = k.few;
    distinct = k.distinct;
    values = replaced_have (form_names_of a) x (pos i) s xs k.distinct k.values;
    sized = replaced_sized (form_names_of a) x (pos i) xs (omega (arith, h)) k.sized;
  }

  -- no trip of these loops has the variable of another one
  abbrev pub Apart : FormLoop → List FormLoop → Type 0
  Apart l [] = Unit {0}
  Apart l (m ∷ ms) = ((is_among (form_names_of a) m.variable ≡ true) × (coefficient (form_names_of a) m.variable l.trip.form.coefficients ≡ pos 0)) × Apart l ms

  same_count : (s : Store) (xs : List ℤ) → AreKnown a s xs → (l m : FormLoop) (i : ℕ) → is_among (form_names_of a) m.variable ≡ true → coefficient (form_names_of a) m.variable l.trip.form.coefficients ≡ pos 0
      → count_of (replaced (form_names_of a) m.variable (pos i) xs) l ≡ count_of xs l
  same_count s xs k l m i h e = ap (λ z. not_negative (divided l.trip.divisor z)) (same_number (form_names_of a) m.variable (pos i) l.trip.form xs h (as_long (form_names_of a) s xs k.values) e)

  still_turns : (s : Store) (xs : List ℤ) → AreKnown a s xs → (l m : FormLoop) (i : ℕ) → is_among (form_names_of a) m.variable ≡ true → coefficient (form_names_of a) m.variable l.trip.form.coefficients ≡ pos 0
      → Turns a xs l → Turns a (replaced (form_names_of a) m.variable (pos i) xs) l
  still_turns s xs k l m i h e t =
      let same = same_count s xs k l m i h e in
      let low = t.least in
      let high = t.most in
      record { trip = record { limits = t.limits; short = t.short; divisor = t.divisor; most = omega (arith, high, same) }; least = omega (arith, low, same) }

  -- numbers that a loop variable can hold
  abbrev AreSmall : List ℕ → Type 0
  AreSmall [] = Unit {0}
  AreSmall (i ∷ is) = (i ≤ 2147483646) × AreSmall is

  trip_there : (ls : List FormLoop) (is : List ℕ) (s : Store) (xs : List ℤ) → AreKnown a s xs → AreSmall is → (l : FormLoop) → Turns a xs l → Apart l ls
      → value_of d (form_trip_text (form_names_of a) l.trip) (at_iterations ls is s) ≡ Ok (Int (pos (count_of xs l)))
  trip_there [] is s xs k h l t apart = trip_known d a s xs k.few k.values k.sized l t
  trip_there (m ∷ ls) [] s xs k h l t apart = trip_known d a s xs k.few k.values k.sized l t
  trip_there (m ∷ ls) (i ∷ is) s xs k h l t apart =
      trip_there ls is (bound_to m.variable (pos i) s) (replaced (form_names_of a) m.variable (pos i) xs) (bound_known s xs k m.variable i h.0) h.1 l (still_turns s xs k l m i apart.0.0 apart.0.1 t) apart.1
      ∙ ap (λ n. Ok (Int (pos n))) (same_count s xs k l m i apart.0.0 apart.0.1)

  -- ---- loops under which something is listed

  abbrev pub collect : List ℕ → (List ℕ → List Value) → List Value
  collect [] h = h []
  collect (n ∷ ns) h = collect ns (λ is. flat_map (λ i. h (i ∷ is)) (counted 0 n))

  numbers_counted : (k n : ℕ) → numbers_from (pos (suc k)) n ≡ map (λ i. pos (suc i)) (counted k n)
  numbers_counted k zero = refl
  numbers_counted k (suc n) = ap (λ zs. pos (suc k) ∷ zs) (ap (λ z. numbers_from z n) (let e : pos (suc k) +ℤ pos 1 ≡ pos (suc (k + 1)) = omega (arith, ints) in e) ∙ numbers_counted (k + 1) n)

  so_many : (n : ℕ) → not_negative (pos n -ℤ pos 1 +ℤ pos 1) ≡ n
  so_many n = ap not_negative (let e : pos n -ℤ pos 1 +ℤ pos 1 ≡ pos n = omega (arith, ints) in e)

  -- f at each number of a loop
  turned : (x : List ℕ) (f : Store → Result (List Value) Fault) (t : Store) (h : ℕ → List Value) (k n : ℕ) → 31 ≤ d.bits → k + n ≤ 2147483646
      → ((i : ℕ) → i < k + n → f (bound_to x (pos (suc i)) t) ≡ Ok (h i))
      → each (λ z. cond (fits d.bits z) (f (bound_to x z t)) (Err Overflow)) (map (λ i. pos (suc i)) (counted k n)) ≡ Ok (map h (counted k n))
  turned x f t h k zero bits small known = refl
  turned x f t h k (suc n) bits small known = ap₂ (λ (r : Result (List Value) Fault) (q : Result (List (List Value)) Fault). do y ← r; ys ← q; Ok (y ∷ ys))
      (ap (λ b. cond b (f (bound_to x (pos (suc k)) t)) (Err Overflow)) (fits_more 31 d.bits bits (pos (suc k)) (lt-ltb (suc k) (2 ^ 31) (omega (arith, small)))) ∙ known k (omega arith))
      (turned x f t h (k + 1) n bits (omega (arith, small)) (λ i l. known i (omega (arith, l))))

  -- distinct loops, of which none depends on a later one
  abbrev pub AreSeparate : List FormLoop → Type 0
  AreSeparate [] = Unit {0}
  AreSeparate (l ∷ ls) = (is_among (form_variables_of ls) l.variable ≡ false) × Apart l ls × AreSeparate ls

  small_next : (xs : List ℤ) (ls : List FormLoop) (is : List ℕ) → ((l : FormLoop) → Contains ls l → count_of xs l ≤ 2147483646) → AreFrom 0 (counts_of xs ls) is → AreSmall (map suc is)
  small_next xs [] [] h f = tt
  small_next xs [] (i ∷ is) h f = absurd f
  small_next xs (l ∷ ls) [] h f = absurd f
  small_next xs (l ∷ ls) (i ∷ is) h f = let high = h l (here l ls) in let low = f.0.1 in (omega (arith, high, low), small_next xs ls is (λ m c. h m (there l ls m c)) f.1)

  under_known : (ls : List FormLoop) (s : Store) (xs : List ℤ) → AreKnown a s xs → 31 ≤ d.bits → ((l : FormLoop) → Contains ls l → Turns a xs l) → AreSeparate ls
      → (f : Store → Result (List Value) Fault) (h : List ℕ → List Value) → ((is : List ℕ) → AreFrom 0 (counts_of xs ls) is → f (at_iterations ls (map suc is) s) ≡ Ok (h is))
      → under d (loops_over (form_names_of a) ls) f s ≡ Ok (collect (counts_of xs ls) h)
  under_known [] s xs k bits turns separate f h known = known [] tt
  under_known (l ∷ ls) s xs k bits turns separate f h known =
      under_known ls s xs k bits (λ m c. turns m (there l ls m c)) separate.2
      (λ t. (do lo ← numbered (value_of d (Number (pos 1)) t); u ← numbered (value_of d (form_trip_text (form_names_of a) l.trip) t); for_numbers d.bits l.variable lo u f t))
      (λ is. flat_map (λ i. h (i ∷ is)) (counted 0 (count_of xs l)))
      (λ is from.
      let n = count_of xs l in
      let t = at_iterations ls (map suc is) s in
      let turn = turns l (here l ls) in
      let most = turn.most in
      let trip = trip_there ls (map suc is) s xs k (small_next xs ls is (λ m c. (turns m (there l ls m c)).most) from) l turn separate.1 in
      ap (λ (r : Result Value Fault). do u ← numbered r; for_numbers d.bits l.variable (pos 1) u f t) trip
      ∙ (ap (λ zs. let r : Result (List Value) Fault = (do vss ← each (λ z. cond (fits d.bits z) (f (bound_to l.variable z t)) (Err Overflow)) zs; Ok (joined_values vss)) in r)
      (ap (λ m. numbers_from (pos 1) m) (so_many n) ∙ numbers_counted 0 n)
      ∙ (ap (λ (r : Result (List (List Value)) Fault). let q : Result (List Value) Fault = (do vss ← r; Ok (joined_values vss)) in q)
      (turned l.variable f t (λ i. h (i ∷ is)) 0 n bits (omega (arith, most)) (λ i low.
      ap f (commutes l.variable (pos (suc i)) ls (map suc is) s separate.0) ∙ known (i ∷ is) ((omega arith, low), from)))
      ∙ ap Ok (joined_flat (λ i. h (i ∷ is)) (counted 0 n)))))

  collect_flat : (ns : List ℕ) (h : List ℕ → List Value) → collect ns h ≡ flat_map h (positions ns)
  collect_flat [] h = sym (appended (h []))
    where
      appended : (vs : List Value) → vs ++ [] ≡ vs
      appended [] = refl
      appended (v ∷ vs) = ap (λ ws. v ∷ ws) (appended vs)
  collect_flat (n ∷ ns) h =
      collect_flat ns (λ is. flat_map (λ i. h (i ∷ is)) (counted 0 n))
      ∙ (flat_same (λ is. flat_map (λ i. h (i ∷ is)) (counted 0 n)) (λ is. flat_map h (map (λ i. i ∷ is) (counted 0 n))) (positions ns) (λ is. sym (flat_of_map h (λ i. i ∷ is) (counted 0 n)))
      ∙ sym (flat_flat h (λ is. map (λ i. i ∷ is) (counted 0 n)) (positions ns)))

  -- ---- the constructor of an expression over loops

  module _ (ls : List FormLoop) (s : Store) (xs : List ℤ) (k : AreKnown a s xs) (bits : 31 ≤ d.bits) (turns : (l : FormLoop) → Contains ls l → Turns a xs l) (separate : AreSeparate ls)
      (e : Expression) (h : List ℕ → Value) (known : (is : List ℕ) → AreFrom 0 (counts_of xs ls) is → value_of d e (at_iterations ls (map suc is) s) ≡ Ok (h is)) where
    listed : under d (loops_over (form_names_of a) ls) (values_of d (expression e no_expressions)) s ≡ Ok (map h (positions (counts_of xs ls)))
    listed =
        under_known ls s xs k bits turns separate (values_of d (expression e no_expressions)) (λ is. h is ∷ []) (λ is from. ap (λ (r : Result Value Fault). let q : Result (List Value) Fault = (do v ← r; Ok (v ∷ [])) in q) (known is from))
        ∙ ap Ok (collect_flat (counts_of xs ls) (λ is. h is ∷ []) ∙ flat_single h (positions (counts_of xs ls)))

    abbrev all_values : List Value
    all_values = map h (positions (counts_of xs ls))

    abbrev row : Elements Value
    row = settled (record { extents = length all_values ∷ []; values = all_values })

    number_of_values : length all_values ≡ size (counts_of xs ls)
    number_of_values = length_map h (positions (counts_of xs ls)) ∙ number_of_positions (counts_of xs ls)

    row_known : array_of d (Constructor (expression e no_expressions) (loops_over (form_names_of a) ls)) s ≡ Ok row
    row_known = ap (λ (r : Result (List Value) Fault). let q : Result (Elements Value) Fault = (do vs ← r; Ok (settled (record { extents = length vs ∷ []; values = vs }))) in q) listed

    -- the row in whole, and shaped to the trips
    row_whole : in_whole row ≡ Ok (record { extents = length all_values ∷ []; values = all_values })
    row_whole = settled-whole (length all_values ∷ []) all_values (let e : length all_values ≡ length all_values * 1 = omega arith in e)

    trip_values : (ms : List FormLoop) → ((l : FormLoop) → Contains ms l → Contains ls l) → values_of d (expressions (map (λ (l : FormLoop). form_trip_text (form_names_of a) l.trip) ms)) s ≡ Ok (map (λ (l : FormLoop). Int (pos (count_of xs l))) ms)
    trip_values [] c = refl
    trip_values (m ∷ ms) c = ap₂ (λ (r : Result Value Fault) (q : Result (List Value) Fault). do y ← r; ys ← q; Ok (y ∷ ys))
        (trip_known d a s xs k.few k.values k.sized m (turns m (c m (here m ms)))) (trip_values ms (λ l g. c l (there m ms l g)))

    trip_numbers : (ms : List FormLoop) → as_numbers (map (λ (l : FormLoop). Int (pos (count_of xs l))) ms) ≡ Ok (map (λ (l : FormLoop). pos (count_of xs l)) ms)
    trip_numbers [] = refl
    trip_numbers (m ∷ ms) = ap (λ (r : Result (List ℤ) Fault). let q : Result (List ℤ) Fault = (do zs ← r; Ok (pos (count_of xs m) ∷ zs)) in q) (trip_numbers ms)

    trip_counts : (ms : List FormLoop) → map not_negative (map (λ (l : FormLoop). pos (count_of xs l)) ms) ≡ counts_of xs ms
    trip_counts [] = refl
    trip_counts (m ∷ ms) = ap (λ ns. count_of xs m ∷ ns) (trip_counts ms)

    filled_known : reshaped (counts_of xs ls) (record { extents = length all_values ∷ []; values = all_values }) ≡ Ok (settled (filled (counts_of xs ls) h))
    filled_known = ap (λ b. let r : Result (Elements Value) Fault = cond b (Ok (settled (filled (counts_of xs ls) h))) (Err Shape) in r) (le-leb (size (counts_of xs ls)) (length all_values) (let n = number_of_values in omega (arith, n)))

    reshaped_known : array_of d (Reshape (Constructor (expression e no_expressions) (loops_over (form_names_of a) ls)) (expressions (map (λ (l : FormLoop). form_trip_text (form_names_of a) l.trip) ls))) s ≡ Ok (settled (filled (counts_of xs ls) h))
    reshaped_known =
        ap₂ (λ (r : Result (Elements Value) Fault) (q : Result (List Value) Fault). do g ← r; v ← in_whole g; ys ← q; zs ← as_numbers ys; reshaped (map not_negative zs) v) row_known (trip_values ls (λ l g. g))
        ∙ (ap₂ (λ (r : Result Array Fault) (q : Result (List ℤ) Fault). do v ← r; zs ← q; reshaped (map not_negative zs) v) row_whole (trip_numbers ls)
        ∙ (ap (λ ns. reshaped ns (record { extents = length all_values ∷ []; values = all_values })) (trip_counts ls) ∙ filled_known))

  -- the array that is constructed, with its elements
  pub record Made (F : Expression) (s : Store) (ns : List ℕ) (h : List ℕ → Value) : Type 0 where
    pub array : Elements Value
    pub known : array_of d F s ≡ Ok array
    pub full : Full array ns h

  pub constructed_full : (ls : List FormLoop) (s : Store) (xs : List ℤ) → AreKnown a s xs → 31 ≤ d.bits → ((l : FormLoop) → Contains ls l → Turns a xs l) → AreSeparate ls
      → (e : Expression) (h : List ℕ → Value) → ((is : List ℕ) → AreFrom 0 (counts_of xs ls) is → value_of d e (at_iterations ls (map suc is) s) ≡ Ok (h is))
      → Made (constructed (form_names_of a) ls e) s (counts_of xs ls) h
  constructed_full [] s xs k bits turns separate e h known =
      record { array = settled (filled [] h); known = reshaped_known [] s xs k bits turns separate e h known; full = settled_full [] h }
  constructed_full (l ∷ []) s xs k bits turns separate e h known =
      let values = all_values (l ∷ []) s xs k bits turns separate e h known in
      let n : length values ≡ count_of xs l * 1 = number_of_values (l ∷ []) s xs k bits turns separate e h known in
      let same : length values ∷ [] ≡ count_of xs l ∷ [] = ap (λ (m : ℕ). m ∷ []) (omega (arith, n)) in
      record {
        array = settled (filled (count_of xs l ∷ []) h);
        known = row_known (l ∷ []) s xs k bits turns separate e h known ∙ ap (λ ms. Ok (settled (record { extents = ms; values = values }))) same;
        full = settled_full (count_of xs l ∷ []) h;
      }
  constructed_full (l ∷ m ∷ ls) s xs k bits turns separate e h known =
      record { array = settled (filled (counts_of xs (l ∷ m ∷ ls)) h); known = reshaped_known (l ∷ m ∷ ls) s xs k bits turns separate e h known; full = settled_full (counts_of xs (l ∷ m ∷ ls)) h }
