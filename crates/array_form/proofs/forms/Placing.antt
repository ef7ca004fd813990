-- References whose loops are some of all loops, or these in another order: SPREAD, TRANSPOSE and constructors.
use Rattle.std.proofs.Common.{◌≡◌, refl, sym, ap, ◌∙◌, subst, ◌⊎◌, inl, inr, ℕ, suc, ◌+◌, ◌-◌, ◌≤◌, ℤ, Bool, true, false, cond, ◌&&◌, List, [], ◌∷◌, ◌++◌, map, length, take, drop, filter, Result, Ok, Err, arith, Contains}
use Rattle.std.specs.Str.{bytes_eq}
use Rattle.std.proofs.lemmas.List.Elements.{Contains-append_left, Contains-append_right, Contains-append_cases}
use Rattle.std.proofs.lemmas.Slice.Eq.{bytes_eq-Decides}
use mathlib.Core.Path.{ap₂}
use Rattle.tree.specs.Plain.{Expression, Spread, Transpose}
use Rattle.tree.specs.Steps.{◌>>=◌}
use Rattle.tree.specs.declared.ops.Fault.{Fault}
use Rattle.tree.specs.declared.ops.Value.{Value}
use Rattle.tree.specs.declared.ops.Value.TheVariants.{Truth}
use Rattle.meaning.specs.ArrayValues.{Array, Elements, settled, in_whole, spread, transposed, without_dimension}
use Rattle.meaning.specs.Dialect.{Dialect}
use Rattle.meaning.specs.Sections.{not_negative}
use Rattle.meaning.specs.Store.{Store}
use Rattle.meaning.specs.Value.{value_of, array_of, is_scalar, numbered, evaluated}
use Rattle.meaning_laws.proofs.arrays.Members.{here, there, nowhere, cases_of}
use Rattle.array_form.specs.forms.Following.{has_no_loop}
use Rattle.array_form.specs.forms.Forms.{form_trip_text, spread_over, placed_expression, constructed}
use Rattle.array_form.specs.forms.Instances.{at_iterations, count_of, counts_of}
use Rattle.array_form.specs.forms.Laws.{AreKnown, AreTurning}
use Rattle.array_form.specs.forms.Loops.{FormLoop, FormSurroundings, form_variables_of, form_names_of, is_among, loops_among, same_loops}
use Rattle.array_form.specs.forms.Loops.{is_part_of, is_exchange_of}
use Rattle.array_form.specs.forms.Trips.{AreDistinct}
use Rattle.array_form.proofs.forms.Axes.{Fit, Within, places, NoFault, from_there, same_lists}
use Rattle.array_form.proofs.forms.Bounds.{trip_known}
use Rattle.array_form.proofs.forms.Constructing.{Full, filled, whole_full, settled_full, Apart, AreSeparate, constructed_full}
use Rattle.array_form.proofs.forms.Iterations.{iterations, at_those}
use Rattle.array_form.proofs.forms.Orders.{of_filter, filter_among, loop_of}
use Rattle.array_form.proofs.forms.Positions.{AreFrom, positions_from, from_positions, iteration_of, iterations_are}
use Rattle.array_form.proofs.forms.Values.{fitting, bounded_by, same_length, next, before}

-- ---- lists

take_front : {A : Type 0} (xs ys : List A) → take (length xs) (xs ++ ys) ≡ xs
take_front [] ys = refl
take_front (x ∷ xs) ys = ap (λ zs. x ∷ zs) (take_front xs ys)

drop_front : {A : Type 0} (xs ys : List A) → drop (length xs) (xs ++ ys) ≡ ys
drop_front [] ys = refl
drop_front (x ∷ xs) ys = drop_front xs ys

drop_one : {A : Type 0} (xs : List A) (y : A) (ys : List A) → drop (suc (length xs)) (xs ++ y ∷ ys) ≡ ys
drop_one [] y ys = refl
drop_one (x ∷ xs) y ys = drop_one xs y ys

map_both : {A B : Type 0} (f : A → B) (xs ys : List A) → map f (xs ++ ys) ≡ map f xs ++ map f ys
map_both f [] ys = refl
map_both f (x ∷ xs) ys = ap (λ zs. f x ∷ zs) (map_both f xs ys)

map_long : {A B : Type 0} (f : A → B) (xs : List A) → length (map f xs) ≡ length xs
map_long f [] = refl
map_long f (x ∷ xs) = ap (λ n. suc n) (map_long f xs)

regrouped : {A : Type 0} (xs : List A) (y : A) (ys : List A) → (xs ++ y ∷ []) ++ ys ≡ xs ++ y ∷ ys
regrouped [] y ys = refl
regrouped (x ∷ xs) y ys = ap (λ zs. x ∷ zs) (regrouped xs y ys)

one_longer : {A : Type 0} (xs : List A) (y : A) → length (xs ++ y ∷ []) ≡ suc (length xs)
one_longer [] y = refl
one_longer (x ∷ xs) y = ap (λ n. suc n) (one_longer xs y)

-- distinct loops stay so where some behind are left out
distinct_part : (P Q : List FormLoop) (t : FormLoop → Bool) → AreDistinct (form_variables_of (P ++ Q)) → AreDistinct (form_variables_of (P ++ filter t Q))
distinct_part [] Q t d = by Q d
  where
    by : (Q : List FormLoop) → AreDistinct (form_variables_of Q) → AreDistinct (form_variables_of (filter t Q))
    by [] d = tt
    by (l ∷ Q) d = of (t l) (by Q d.1)
      where
        of : (b : Bool) → AreDistinct (form_variables_of (filter t Q)) → AreDistinct (form_variables_of (cond b (l ∷ filter t Q) (filter t Q)))
        of true more = (filter_among t Q l.variable d.0, more)
        of false more = more
distinct_part (l ∷ P) Q t d = (behind P d.0, distinct_part P Q t d.1)
  where
    behind : (P : List FormLoop) → is_among (form_variables_of (P ++ Q)) l.variable ≡ false → is_among (form_variables_of (P ++ filter t Q)) l.variable ≡ false
    behind [] h = filter_among t Q l.variable h
    behind (m ∷ P) h = of (bytes_eq m.variable l.variable) h (behind P)
      where
        of : (b : Bool) → cond b true (is_among (form_variables_of (P ++ Q)) l.variable) ≡ false → (is_among (form_variables_of (P ++ Q)) l.variable ≡ false → is_among (form_variables_of (P ++ filter t Q)) l.variable ≡ false)
            → cond b true (is_among (form_variables_of (P ++ filter t Q)) l.variable) ≡ false
        of true h more = absurd cc
        of false h more = more h

abbrev pub value_in : Result Value Fault → Value
value_in (Ok v) = v
value_in (Err f) = Truth false

in_value : (r : Result Value Fault) (v : Value) → r ≡ Ok v → r ≡ Ok (value_in r)
in_value (Ok w) v h = refl
in_value (Err f) v h = absurd cc

module _ (d : Dialect) (bits : 31 ≤ d.bits) (a : FormSurroundings) (D : List FormLoop) (s : Store) (xs : List ℤ) (k : AreKnown a s xs) (t : AreTurning a D xs) where
  pub fit : Fit d a s xs k.few k.values k.sized k.distinct D
  fit = fitting d a D s xs k t

  abbrev In : List FormLoop → (List ℕ → ℕ) → Type 0
  In ls ι = Within d a s xs k.few k.values k.sized k.distinct ls ι

  abbrev spots : (List ℕ → ℕ) → List FormLoop → List ℕ
  spots ι ls = places d a s xs k.few k.values k.sized k.distinct ι ls

  abbrev Part : List FormLoop → Type 0
  Part ls = (l : FormLoop) → Contains ls l → Contains D l

  -- F has at the position of each instance, along the loops ls, the value V of the instance
  pub record Over (ls : List FormLoop) (F : Expression) (V : (List ℕ → ℕ) → Value) : Type 0 where
    pub array : Elements Value
    pub known : array_of d F s ≡ Ok array
    pub extents : array.extents ≡ counts_of xs ls
    pub scalar : is_scalar F s.bounds ≡ false
    pub at : (ι : List ℕ → ℕ) → In D ι → array.at (spots ι ls) ≡ Ok (V ι)

  -- positions along some of the loops
  record Along (ls : List FormLoop) (is : List ℕ) : Type 0 where
    within : In D (iteration_of ls (map suc is))
    turned : iterations (iteration_of ls (map suc is)) ls ≡ map suc is
    places_are : spots (iteration_of ls (map suc is)) ls ≡ is

  other_one : (ls : List FormLoop) (js : List ℕ) (x : List ℕ) → is_among (form_variables_of ls) x ≡ false → iteration_of ls js x ≡ 1
  other_one [] js x h = refl
  other_one (l ∷ ls) [] x h = refl
  other_one (l ∷ ls) (j ∷ js) x h = by (bytes_eq l.variable x) h (other_one ls js x)
    where
      by : (b : Bool) → cond b true (is_among (form_variables_of ls) x) ≡ false → (is_among (form_variables_of ls) x ≡ false → iteration_of ls js x ≡ 1) → cond b j (iteration_of ls js x) ≡ 1
      by true h more = absurd cc
      by false h more = more h

  along : (ls : List FormLoop) → Part ls → AreDistinct (form_variables_of ls) → (is : List ℕ) → AreFrom 0 (counts_of xs ls) is → Along ls is
  along ls part distinct is from =
      let ι = iteration_of ls (map suc is) in
      let are = iterations_are 1 ls (counts_of xs ls) (map suc is) distinct (same_length xs ls) (next (counts_of xs ls) is from) in
      record { within = λ l h. by l h (is_among (form_variables_of ls) l.variable) refl; turned = are; places_are = before (λ (l : FormLoop). ι l.variable) ls is are }
    where
      by : (l : FormLoop) → Contains D l → (b : Bool) → is_among (form_variables_of ls) l.variable ≡ b → (1 ≤ iteration_of ls (map suc is) l.variable) × (iteration_of ls (map suc is) l.variable ≤ count_of xs l)
      by l h false e = let one = other_one ls (map suc is) l.variable e in let low = (t.turns l h).least in (omega (arith, one), omega (arith, one, low))
      by l h true e =
          let m = loop_of ls l.variable e in
          let same = fit.one m.0 l (part m.0 m.1) h m.2 in
          let b = bounded_by xs 1 ls (map suc is) (iteration_of ls (map suc is))
          (iterations_are 1 ls (counts_of xs ls) (map suc is) distinct (same_length xs ls) (next (counts_of xs ls) is from)) (next (counts_of xs ls) is from) m.0 m.1 in
          let low = b.0 in
          let high = b.1 in
          subst (λ (n : FormLoop). (1 ≤ iteration_of ls (map suc is) n.variable) × (iteration_of ls (map suc is) n.variable ≤ count_of xs n)) same (low, omega (arith, high))

  to_from : (ι : List ℕ → ℕ) → In D ι → (ls : List FormLoop) → Part ls → AreFrom 0 (counts_of xs ls) (spots ι ls)
  to_from ι w ls part = from_there d a s xs k.few k.values k.sized k.distinct ls ι (λ l h. w l (part l h))

  -- so each element is known, whatever instance it is taken from
  abbrev of_position : List FormLoop → ((List ℕ → ℕ) → Value) → List ℕ → Value
  of_position ls V is = V (iteration_of ls (map suc is))

  full_of : (ls : List FormLoop) (F : Expression) (V : (List ℕ → ℕ) → Value) → Part ls → AreDistinct (form_variables_of ls) → (o : Over ls F V) → Full o.array (counts_of xs ls) (of_position ls V)
  full_of ls F V part distinct o = record {
    extents = o.extents;
    at = λ is c. let r = along ls part distinct is (positions_from (counts_of xs ls) is c) in ap o.array.at (sym r.places_are) ∙ o.at (iteration_of ls (map suc is)) r.within;
  }

  whole_of : (ls : List FormLoop) (F : Expression) (V : (List ℕ → ℕ) → Value) → Part ls → AreDistinct (form_variables_of ls) → (o : Over ls F V) → in_whole o.array ≡ Ok (filled (counts_of xs ls) (of_position ls V))
  whole_of ls F V part distinct o = whole_full o.array (counts_of xs ls) (of_position ls V) (full_of ls F V part distinct o)

  -- the element that stands for an instance in the whole array
  in_filled : (ls : List FormLoop) (F : Expression) (V : (List ℕ → ℕ) → Value) → Part ls → AreDistinct (form_variables_of ls) → (o : Over ls F V) → (ι : List ℕ → ℕ) → In D ι
      → (settled (filled (counts_of xs ls) (of_position ls V))).at (spots ι ls) ≡ Ok (V ι)
  in_filled ls F V part distinct o ι w =
      let c = from_positions (counts_of xs ls) (spots ι ls) (to_from ι w ls part) in
      (settled_full (counts_of xs ls) (of_position ls V)).at (spots ι ls) c
      ∙ (sym ((full_of ls F V part distinct o).at (spots ι ls) c) ∙ o.at ι w)

  -- ---- SPREAD

  spread_step : (P R : List FormLoop) (l : FormLoop) (E : Expression) (V : (List ℕ → ℕ) → Value) → Contains D l → Part (P ++ R) → AreDistinct (form_variables_of (P ++ R)) → Over (P ++ R) E V
      → Over (P ++ l ∷ R) (Spread E (suc (length P)) (form_trip_text (form_names_of a) l.trip)) V
  spread_step P R l E V there_l part distinct o =
      let whole = filled (counts_of xs (P ++ R)) (of_position (P ++ R) V) in
      record {
        array = spread (suc (length P)) (count_of xs l) whole;
        known = ap₂ (λ (r : Result Array Fault) (q : Result Value Fault). do v ← r; z ← numbered q; Ok (spread (suc (length P)) (not_negative z) v))
            (ap (λ b. evaluated b (value_of d E s) (array_of d E s)) o.scalar ∙ (ap (λ (r : Result (Elements Value) Fault). do g ← r; in_whole g) o.known ∙ whole_of (P ++ R) E V part distinct o))
            (trip_known d a s xs k.few k.values k.sized l (t.turns l there_l));
        extents = extended (suc (length P) - 1) (omega arith);
        scalar = refl;
        at = λ ι w. ap (λ is. (settled whole).at is) (places_left ι) ∙ in_filled (P ++ R) E V part distinct o ι w;
      }
    where
      extended : (n : ℕ) → n ≡ length P → take n (counts_of xs (P ++ R)) ++ count_of xs l ∷ drop n (counts_of xs (P ++ R)) ≡ counts_of xs (P ++ l ∷ R)
      extended n e =
          let long : n ≡ length (counts_of xs P) = e ∙ sym (map_long (count_of xs) P) in
          ap (λ ns. take n ns ++ count_of xs l ∷ drop n ns) (map_both (count_of xs) P R)
          ∙ (ap (λ m. take m (counts_of xs P ++ counts_of xs R) ++ count_of xs l ∷ drop m (counts_of xs P ++ counts_of xs R)) long
          ∙ (ap₂ (λ (as' bs : List ℕ). as' ++ count_of xs l ∷ bs) (take_front (counts_of xs P) (counts_of xs R)) (drop_front (counts_of xs P) (counts_of xs R))
          ∙ sym (map_both (count_of xs) P (l ∷ R))))

      left_out : (ι : List ℕ → ℕ) (n : ℕ) → n ≡ length P → take n (spots ι (P ++ l ∷ R)) ++ drop (suc (length P)) (spots ι (P ++ l ∷ R)) ≡ spots ι (P ++ R)
      left_out ι n e =
          let f : FormLoop → ℕ = λ m. ι m.variable - 1 in
          let long : length (map f P) ≡ length P = map_long f P in
          ap (λ ns. take n ns ++ drop (suc (length P)) ns) (map_both f P (l ∷ R))
          ∙ (ap (λ m. take m (map f P ++ f l ∷ map f R) ++ drop (suc (length P)) (map f P ++ f l ∷ map f R)) (e ∙ sym long)
          ∙ (ap (λ m. take (length (map f P)) (map f P ++ f l ∷ map f R) ++ drop (suc m) (map f P ++ f l ∷ map f R)) (sym long)
          ∙ (ap₂ (λ (as' bs : List ℕ). as' ++ bs) (take_front (map f P) (f l ∷ map f R)) (drop_one (map f P) (f l) (map f R)) ∙ sym (map_both f P R))))

      places_left : (ι : List ℕ → ℕ) → without_dimension (suc (length P)) (spots ι (P ++ l ∷ R)) ≡ spots ι (P ++ R)
      places_left ι = left_out ι (suc (length P) - 1) (omega arith)

  in_both : (P Q : List FormLoop) → Part (P ++ Q) → (u : FormLoop → Bool) → Part (P ++ filter u Q)
  in_both P Q part u m h = by (Contains-append_cases P (filter u Q) m h)
    where
      by : Contains P m ⊎ Contains (filter u Q) m → Contains D m
      by (inl g) = part m (Contains-append_left P Q m g)
      by (inr g) = part m (Contains-append_right P Q m (of_filter u Q m g).0)

  spread_all : (hs P Q : List FormLoop) (j : ℕ) (E : Expression) (V : (List ℕ → ℕ) → Value) → j ≡ suc (length P) → Part (P ++ Q) → AreDistinct (form_variables_of (P ++ Q)) → Over (P ++ loops_among Q (form_variables_of hs)) E V
      → Over (P ++ Q) (spread_over (form_names_of a) hs j Q E) V
  spread_all hs P [] j E V e part distinct o = o
  spread_all hs P (l ∷ Q) j E V e part distinct o =
      let long = one_longer P l in
      let there_l = part l (Contains-append_right P (l ∷ Q) l (here l Q)) in
      subst (λ ls. Over ls (spread_over (form_names_of a) hs (j + 1) Q (next_text (is_among (form_variables_of hs) l.variable))) V) (regrouped P l Q)
      (spread_all hs (P ++ l ∷ []) Q (j + 1) (next_text (is_among (form_variables_of hs) l.variable)) V (omega (arith, e, long)) (subst Part (sym (regrouped P l Q)) part) (subst (λ ls. AreDistinct (form_variables_of ls)) (sym (regrouped P l Q)) distinct)
      (subst (λ ls. Over ls (next_text (is_among (form_variables_of hs) l.variable)) V) (sym (regrouped P l (loops_among Q (form_variables_of hs))))
      (by there_l (is_among (form_variables_of hs) l.variable) refl)))
    where
      u : FormLoop → Bool
      u m = is_among (form_variables_of hs) m.variable

      next_text : Bool → Expression
      next_text b = cond b E (Spread E j (form_trip_text (form_names_of a) l.trip))

      left_over : Part (P ++ loops_among Q (form_variables_of hs))
      left_over m h = by_cases (Contains-append_cases P (loops_among Q (form_variables_of hs)) m h)
        where
          by_cases : Contains P m ⊎ Contains (loops_among Q (form_variables_of hs)) m → Contains D m
          by_cases (inl g) = part m (Contains-append_left P (l ∷ Q) m g)
          by_cases (inr g) = part m (Contains-append_right P (l ∷ Q) m (there l Q m (of_filter (λ (n : FormLoop). is_among (form_variables_of hs) n.variable) Q m g).0))

      by : Contains D l → (b : Bool) → is_among (form_variables_of hs) l.variable ≡ b → Over (P ++ l ∷ loops_among Q (form_variables_of hs)) (next_text b) V
      by there_l true f = subst (λ ls. Over (P ++ ls) E V) (ap (λ b. cond b (l ∷ loops_among Q (form_variables_of hs)) (loops_among Q (form_variables_of hs))) f) o
      by there_l false f =
          subst (λ n. Over (P ++ l ∷ loops_among Q (form_variables_of hs)) (Spread E n (form_trip_text (form_names_of a) l.trip)) V) (sym e)
          (spread_step P (loops_among Q (form_variables_of hs)) l E V there_l left_over
          (subst (λ ls. AreDistinct (form_variables_of (P ++ ls))) (ap (λ b. cond b (l ∷ loops_among Q (form_variables_of hs)) (loops_among Q (form_variables_of hs))) f) (distinct_part P (l ∷ Q) (λ (n : FormLoop). is_among (form_variables_of hs) n.variable) distinct))
          (subst (λ ls. Over (P ++ ls) E V) (ap (λ b. cond b (l ∷ loops_among Q (form_variables_of hs)) (loops_among Q (form_variables_of hs))) f) o))

  -- ---- TRANSPOSE

  exchange_step : (l m : FormLoop) (E : Expression) (V : (List ℕ → ℕ) → Value) → Part (m ∷ l ∷ []) → AreDistinct (form_variables_of (m ∷ l ∷ [])) → Over (m ∷ l ∷ []) E V → Over (l ∷ m ∷ []) (Transpose E) V
  exchange_step l m E V part distinct o = record {
    array = transposed (filled (counts_of xs (m ∷ l ∷ [])) (of_position (m ∷ l ∷ []) V));
    known = ap (λ (r : Result (Elements Value) Fault). let q : Result (Elements Value) Fault = (do g ← r; v ← in_whole g; Ok (transposed v)) in q) o.known
        ∙ ap (λ (r : Result Array Fault). let q : Result (Elements Value) Fault = (do v ← r; Ok (transposed v)) in q) (whole_of (m ∷ l ∷ []) E V part distinct o);
    extents = refl;
    scalar = refl;
    at = λ ι w. in_filled (m ∷ l ∷ []) E V part distinct o ι w;
  }

  -- ---- constructors

  -- the value of e in an instance
  abbrev pub value_there : Expression → (List ℕ → ℕ) → Value
  value_there e ι = value_in (value_of d e (at_those ι D s))

  pub has_value : (e : Expression) → NoFault d a s xs k.few k.values k.sized k.distinct D e → (ι : List ℕ → ℕ) → In D ι → value_of d e (at_those ι D s) ≡ Ok (value_there e ι)
  has_value e safe ι w = in_value (value_of d e (at_those ι D s)) (safe ι w).0 (safe ι w).1

  separate : (ls : List FormLoop) → Part ls → AreDistinct (form_variables_of ls) → AreSeparate d a ls
  separate [] part distinct = tt
  separate (l ∷ ls) part distinct = (distinct.0, apart ls (λ m h. part m (there l ls m h)) distinct.0, separate ls (λ m h. part m (there l ls m h)) distinct.1)
    where
      apart : (ms : List FormLoop) → Part ms → is_among (form_variables_of ms) l.variable ≡ false → Apart d a l ms
      apart [] p h = tt
      apart (m ∷ ms) p h = by (bytes_eq m.variable l.variable) refl h (apart ms (λ n g. p n (there m ms n g)))
        where
          by : (b : Bool) → bytes_eq m.variable l.variable ≡ b → cond b true (is_among (form_variables_of ms) l.variable) ≡ false → (is_among (form_variables_of ms) l.variable ≡ false → Apart d a l ms) → Apart d a l (m ∷ ms)
          by true e h more = absurd cc
          by false e h more =
              ((fit.among m (p m (here m ms)), t.apart l m (part l (here l ls)) (p m (here m ms)) (λ q. let bad : false ≡ true = sym e ∙ (bytes_eq-Decides m.variable l.variable).1 (sym q) in absurd cc)), more h)

  pub constructed_over : (ls : List FormLoop) → Part ls → AreDistinct (form_variables_of ls) → (e : Expression) → NoFault d a s xs k.few k.values k.sized k.distinct D e
      → ((ι : List ℕ → ℕ) → value_of d e (at_those ι ls s) ≡ value_of d e (at_those ι D s)) → has_no_loop ls ≡ false → Over ls (constructed (form_names_of a) ls e) (value_there e)
  constructed_over ls part distinct e safe same some =
      let made = constructed_full d a ls s xs k bits (λ l h. t.turns l (part l h)) (separate ls part distinct) e (of_position ls (value_there e)) (λ is from.
      let r = along ls part distinct is from in
      ap (λ js. value_of d e (at_iterations ls js s)) (sym r.turned) ∙ (same (iteration_of ls (map suc is)) ∙ has_value e safe (iteration_of ls (map suc is)) r.within)) in
      record {
        array = made.array;
        known = made.known;
        extents = made.full.extents;
        scalar = no_scalar ls some;
        at = λ ι w.
            let c = from_positions (counts_of xs ls) (spots ι ls) (to_from ι w ls part) in
            let r = along ls part distinct (spots ι ls) (to_from ι w ls part) in
            made.full.at (spots ι ls) c ∙ ap Ok (ap value_in (sym (same (iteration_of ls (map suc (spots ι ls)))) ∙ (ap (λ js. value_of d e (at_iterations ls js s)) (r.turned ∙ after ι w ls part) ∙ same ι)));
      }
    where
      no_scalar : (ls : List FormLoop) → has_no_loop ls ≡ false → is_scalar (constructed (form_names_of a) ls e) s.bounds ≡ false
      no_scalar [] h = absurd cc
      no_scalar (l ∷ []) h = refl
      no_scalar (l ∷ m ∷ ls) h = refl

      after : (ι : List ℕ → ℕ) → In D ι → (ms : List FormLoop) → Part ms → map suc (spots ι ms) ≡ iterations ι ms
      after ι w [] p = refl
      after ι w (l ∷ ms) p = let low = (w l (p l (here l ms))).0 in ap₂ (λ (x : ℕ) (ys : List ℕ). x ∷ ys) (omega (arith, low)) (after ι w ms (λ m g. p m (there l ms m g)))

  -- ---- a reference in its place

  all_D : Part D
  all_D l h = h

  pub placed_over : (hs : List FormLoop) (plain e : Expression) → Part hs → NoFault d a s xs k.few k.values k.sized k.distinct D e → has_no_loop D ≡ false → Over hs plain (value_there e) → Over D (placed_expression a D hs plain e) (value_there e)
  placed_over hs plain e part safe some o = first (same_loops D hs) refl
    where
      same : (ls ms : List FormLoop) → same_loops ls ms ≡ true → Part ls → Part ms → ls ≡ ms
      same ls ms h p q = same_lists d a s xs k.few k.values k.sized k.distinct D fit ls ms h p q

      whole : Over D (constructed (form_names_of a) D e) (value_there e)
      whole = constructed_over D all_D t.once e safe (λ ι. refl) some

      exchanged : (E : List FormLoop) → D ≡ E → is_exchange_of E hs ≡ true → Over D (Transpose plain) (value_there e)
      exchanged [] p h = absurd cc
      exchanged (l ∷ []) p h = absurd cc
      exchanged (l ∷ m ∷ []) p h =
          let turned = same (m ∷ l ∷ []) hs h (λ n g. subst (λ ls. Contains ls n) (sym p) (other_way l m n g)) part in
          subst (λ ls. Over ls (Transpose plain) (value_there e)) (sym p) (exchange_step l m plain (value_there e) (λ n g. subst (λ ls. Contains ls n) (sym p) (other_way l m n g))
          (other_distinct l m (subst (λ ls. AreDistinct (form_variables_of ls)) p t.once)) (subst (λ ls. Over ls plain (value_there e)) (sym turned) o))
        where
          other_way : (l m n : FormLoop) → Contains (m ∷ l ∷ []) n → Contains (l ∷ m ∷ []) n
          other_way l m n g = of (cases_of m (l ∷ []) n g)
            where
              of : (m ≡ n) ⊎ Contains (l ∷ []) n → Contains (l ∷ m ∷ []) n
              of (inl q) = subst (Contains (l ∷ m ∷ [])) q (there l (m ∷ []) m (here m []))
              of (inr c) = again (cases_of l [] n c)
                where
                  again : (l ≡ n) ⊎ Contains [] n → Contains (l ∷ m ∷ []) n
                  again (inl q) = subst (Contains (l ∷ m ∷ [])) q (here l (m ∷ []))
                  again (inr c) = absurd (nowhere n c)

          other_distinct : (l m : FormLoop) → AreDistinct (form_variables_of (l ∷ m ∷ [])) → AreDistinct (form_variables_of (m ∷ l ∷ []))
          other_distinct l m d' = (of (bytes_eq l.variable m.variable) refl d'.0, (refl, tt))
            where
              of : (b : Bool) → bytes_eq l.variable m.variable ≡ b → cond (bytes_eq m.variable l.variable) true false ≡ false → cond b true false ≡ false
              of false e h = refl
              of true e h = absurd (let bad : true ≡ false = sym (ap (λ b. cond b true false) ((bytes_eq-Decides m.variable l.variable).1 (sym ((bytes_eq-Decides l.variable m.variable).0 e)))) ∙ h in cc)
      exchanged (l ∷ m ∷ n ∷ E) p h = absurd cc

      third : (b : Bool) → is_exchange_of D hs ≡ b → Over D (cond b (Transpose plain) (constructed (form_names_of a) D e)) (value_there e)
      third true h = exchanged D refl h
      third false h = whole

      second : (b : Bool) → (a.may_spread && is_part_of D hs) ≡ b → Over D (cond b (spread_over (form_names_of a) hs 1 D plain) (cond (is_exchange_of D hs) (Transpose plain) (constructed (form_names_of a) D e))) (value_there e)
      second true h =
          let part_of = both_of a.may_spread (is_part_of D hs) h in
          let left = same (loops_among D (form_variables_of hs)) hs part_of (λ l g. (of_filter (λ (m : FormLoop). is_among (form_variables_of hs) m.variable) D l g).0) part in
          spread_all hs [] D 1 plain (value_there e) refl all_D t.once (subst (λ ls. Over ls plain (value_there e)) (sym left) o)
        where
          both_of : (p q : Bool) → (p && q) ≡ true → q ≡ true
          both_of true q h = h
          both_of false q h = absurd cc
      second false h = third (is_exchange_of D hs) refl

      first : (b : Bool) → same_loops D hs ≡ b
          → Over D (cond b plain (cond (a.may_spread && is_part_of D hs) (spread_over (form_names_of a) hs 1 D plain) (cond (is_exchange_of D hs) (Transpose plain) (constructed (form_names_of a) D e)))) (value_there e)
      first true h = subst (λ ls. Over ls plain (value_there e)) (sym (same D hs h all_D part)) o
      first false h = second (a.may_spread && is_part_of D hs) refl
