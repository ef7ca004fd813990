-- The turns of the inner loops of a statement that may stand in array form: none of them varies with another inner one.
use Rattle.std.proofs.Common.{◌≡◌, refl, sym, ap, ap₂, ◌∙◌, subst, ◌⊎◌, inl, inr, ℕ, zero, suc, ◌+◌, ◌<◌, ◌≤◌, nat_le}
use Rattle.std.proofs.Common.{nat_abs, ℤ, pos, negsuc, int_div, Bool, true, false, cond, not, ◌&&◌, ◌||◌, List, [], ◌∷◌}
use Rattle.std.proofs.Common.{◌++◌, map, take, length, get_or, Option, Some, None, append_assoc, arith}
use Rattle.std.specs.Prelude.{IsSomeAnd}
use Rattle.std.specs.List.{list_any}
use Rattle.std.specs.Ordering.{int_eq}
use Rattle.std.specs.Str.{bytes_eq}
use Rattle.std.proofs.lemmas.Bool.{cases_lt}
use Rattle.std.proofs.lemmas.Bool.Decides.{Decides-int_eq}
use Rattle.std.proofs.lemmas.List.{length-append, length-map}
use Rattle.std.proofs.lemmas.Slice.Eq.{bytes_eq-Decides}
use Rattle.array_form.specs.forms.Instances.{count_of, counts_of}
use Rattle.array_form.specs.forms.Laws as laws
use Rattle.array_form.specs.forms.Loops as forms
use Rattle.array_form.specs.forms.Trips as trips
use Rattle.array_form.specs.forms.Statements.{depends_on, is_triangle}
use Rattle.meaning.specs.Sections.{not_negative}
use Rattle.emission.specs.graph_orders.Nests.{turns_in, turns_of_loop, turns_of_trip}
use Rattle.linear_forms.specs.Linear.{is_limited, number_at}
use Rattle.array_form.specs.lone.Instances.{AreRectangular}
use Rattle.nest_order.specs.facts.Facts.{values_from}
use Rattle.nest_order.specs.facts.Facts as facts
use Rattle.dependence_graph.specs.nest_graph.Instances.{turns_at}
use Rattle.dependence_graph.specs.nest_graph.Ready.{HaveTrips, IsTripIn}
use Rattle.nest_order.specs.orders.Lists.{In, Each}
use Rattle.nest_order.proofs.orders.Lists.{In-right}
use Rattle.nest_order.proofs.orders.Membership.{In-map, map-In}
use Rattle.nest_order.specs.shapes.Shapes.{loop_numbered, numbers_of}
use Rattle.nest.specs.declared.parts.Trip.{Trip}
use Rattle.nest.specs.Bodies.{nest_loops}
use Rattle.nest.specs.Plain.{Loop, Nest}
use Rattle.array_form.specs.holds.Surroundings.{counted_loop, counted_of, form_of_affine, known_trip, surroundings_of}
use Rattle.subscripts.specs.Forms.{value_at}
use Rattle.emission.specs.emission_forms.Written.{HaveTripTexts, IsTripText}
use Rattle.emission.proofs.EmissionForms.FormsGiven.{IsKnownTrip, divided_is, known_of_text}
use Rattle.emission.proofs.EmissionForms.FormsLimits.{coefficient_at, limited_form, number_of_form, one_place, short_form}
use Rattle.emission.proofs.EmissionForms.FormsLimits.{value_by_front}
use Rattle.emission.proofs.EmissionForms.Surroundings.{variables_counted}

-- ---- lists

any_none : {X : Type 0} (p : X → Bool) (xs : List X) (x : X) → list_any p xs ≡ false → In x xs → p x ≡ false
any_none p [] x h i = absurd i
any_none p (y ∷ xs) x h (inl e) = ap p e ∙ (neither (p y) (list_any p xs) h).0
  where
    neither : (b c : Bool) → (b || c) ≡ false → (b ≡ false) × (c ≡ false)
    neither true c h = cc
    neither false c h = (refl, h)
any_none p (y ∷ xs) x h (inr i) = any_none p xs x (neither (p y) (list_any p xs) h) i
  where
    neither : (b c : Bool) → (b || c) ≡ false → c ≡ false
    neither true c h = cc
    neither false c h = h

pub map-append : {X Y : Type 0} (f : X → Y) (xs ys : List X) → map f (xs ++ ys) ≡ map f xs ++ map f ys
map-append f [] ys = refl
map-append f (x ∷ xs) ys = ap (λ zs. f x ∷ zs) (map-append f xs ys)

in_front : (ys zs : List (List ℕ)) (k : ℕ) → k < length ys → In (get_or (ys ++ zs) k []) ys
in_front [] zs k h = absurd (omega arith)
in_front (y ∷ ys) zs zero h = inl refl
in_front (y ∷ ys) zs (suc k) h = inr (in_front ys zs k (omega arith))

in_middle : (xs ys zs : List (List ℕ)) (k : ℕ) → length xs ≤ k → k < length xs + length ys → In (get_or (xs ++ (ys ++ zs)) k []) ys
in_middle [] ys zs k h g = in_front ys zs k (omega arith)
in_middle (x ∷ xs) ys zs zero h g = absurd (omega arith)
in_middle (x ∷ xs) ys zs (suc k) h g = in_middle xs ys zs k (omega arith) (omega arith)

at_place : (xs zs : List (List ℕ)) (y : List ℕ) → get_or (xs ++ y ∷ zs) (length xs) [] ≡ y
at_place [] zs y = refl
at_place (x ∷ xs) zs y = at_place xs zs y

pub front_get : (m : ℕ) (xs ys : List ℤ) (k : ℕ) → k < m → m ≤ length xs → get_or (take m xs ++ ys) k (pos 0) ≡ get_or xs k (pos 0)
front_get zero xs ys k h g = absurd (omega arith)
front_get (suc m) [] ys k h g = absurd (omega arith)
front_get (suc m) (x ∷ xs) ys zero h g = refl
front_get (suc m) (x ∷ xs) ys (suc k) h g = front_get m xs ys k (omega arith) (omega arith)

-- ---- trips of loops from the outside in

abbrev pub trip_in : Loop → Trip
trip_in l = known_trip l.trip

abbrev pub HaveKnown : List (List ℕ) → ℕ → List Loop → Type 0
HaveKnown symbols depth [] = Unit {0}
HaveKnown symbols depth (l ∷ ls) = (l.trip ≡ Some (trip_in l)) × IsKnownTrip depth symbols (trip_in l) × HaveKnown symbols (suc depth) ls

pub some_trip : (o : Option Trip) (P : Trip → Type 0) → IsSomeAnd o P → (o ≡ Some (known_trip o)) × P (known_trip o)
some_trip None P h = absurd h
some_trip (Some t) P h = (refl, h)

one_longer : (xs : List (List ℕ)) (x : List ℕ) → length (xs ++ x ∷ []) ≡ suc (length xs)
one_longer xs x = let e = length-append xs (x ∷ []) in omega arith

pub have_known : (symbols round : List (List ℕ)) (ls : List Loop) → HaveTrips (length round) ls → HaveTripTexts symbols round ls → HaveKnown symbols (length round) ls
have_known symbols round [] h g = tt
have_known symbols round (l ∷ ls) h g =
    let size = one_longer round l.variable in
    let a = some_trip l.trip (IsTripIn (length round)) h.0 in
    let b = some_trip l.trip (IsTripText round symbols l.last) g.0 in
    let more = have_known symbols (round ++ l.variable ∷ []) ls (subst (λ d. HaveTrips d ls) (sym size) h.1) g.1 in
    (a.0, known_of_text round symbols l.last (trip_in l) a.1 b.1, subst (λ d. HaveKnown symbols d ls) size more)

pub texts_behind : (symbols round : List (List ℕ)) (outs ins : List Loop) → HaveTripTexts symbols round (outs ++ ins) → HaveTripTexts symbols (round ++ map (λ (l : Loop). l.variable) outs) ins
texts_behind symbols round [] ins h = subst (λ xs. HaveTripTexts symbols xs ins) (sym (Rattle.std.proofs.Common.append-nil round)) h
texts_behind symbols round (l ∷ outs) ins h =
    subst (λ xs. HaveTripTexts symbols xs ins) (append_assoc round (l.variable ∷ []) (map (λ (m : Loop). m.variable) outs)) (texts_behind symbols (round ++ l.variable ∷ []) outs ins h.1)

pub trips_behind : (depth : ℕ) (outs ins : List Loop) → HaveTrips depth (outs ++ ins) → HaveTrips (depth + length outs) ins
trips_behind depth [] ins h = subst (λ d. HaveTrips d ins) (let e : depth ≡ depth + 0 = omega arith in e) h
trips_behind depth (l ∷ outs) ins h = subst (λ d. HaveTrips d ins) (let e : suc depth + length outs ≡ depth + suc (length outs) = omega arith in e) (trips_behind (suc depth) outs ins h.1)

-- ---- the loops `outs` round the loops `ins`, all of them round one statement

either_so : (b c : Bool) → (not b && not c) ≡ false → (b ≡ true) ⊎ (c ≡ true)
either_so true c h = inl refl
either_so false true h = inr refl
either_so false false h = cc

pub counted_small : (z : ℤ) → not_negative z ≤ 2147483646 → facts.counted z ≡ not_negative z
counted_small (pos k) h = ap (λ b. cond b k 0) (small k h)
  where
    small : (k : ℕ) → k ≤ 2147483646 → nat_le k 2147483646 ≡ true
    small k h = grind arith
counted_small (negsuc k) h = refl

module _ (n : Nest) (outs ins : List Loop) where
  abbrev pub round_both : ℕ
  round_both = length (outs ++ ins)

  abbrev pub around : forms.FormSurroundings
  around = surroundings_of n (outs ++ ins)

  abbrev pub formed_loop : Loop → forms.FormLoop
  formed_loop l = counted_of (length (outs ++ ins)) (counted_loop l)

  -- its trip has no inner loop
  pub record IsFree (l : Loop) : Type 0 where
    pub known : l.trip ≡ Some (trip_in l)
    pub depth : ℕ
    pub deep : depth ≤ length (outs ++ ins)
    pub trip : IsKnownTrip depth n.symbols (trip_in l)
    pub free : (k : ℕ) → length outs ≤ k → get_or (trip_in l).top.loops k (pos 0) ≡ pos 0

  module _ (few : length (outs ++ ins) ≤ 7) (distinct : trips.AreDistinct (forms.form_names_of around)) (square : is_triangle around (map formed_loop ins) ≡ false) where
    names_are : forms.form_names_of around ≡ map (λ (l : Loop). l.variable) outs ++ (map (λ (l : Loop). l.variable) ins ++ n.symbols)
    names_are =
        ap (λ xs. xs ++ n.symbols) (variables_counted (length (outs ++ ins)) (outs ++ ins) ∙ map-append (λ (l : Loop). l.variable) outs ins)
        ∙ append_assoc (map (λ (l : Loop). l.variable) outs) (map (λ (l : Loop). l.variable) ins) n.symbols

    names_long : length (forms.form_names_of around) ≡ length outs + (length ins + length n.symbols)
    names_long =
        let a = ap (λ (xs : List (List ℕ)). length xs) names_are in
        let b = length-append (map (λ (l : Loop). l.variable) outs) (map (λ (l : Loop). l.variable) ins ++ n.symbols) in
        let c = length-append (map (λ (l : Loop). l.variable) ins) n.symbols in
        let d = length-map outs (λ (l : Loop). l.variable) in
        let e = length-map ins (λ (l : Loop). l.variable) in omega arith

    own_place : (front back : List Loop) (l : Loop) → ins ≡ front ++ l ∷ back → get_or (forms.form_names_of around) (length outs + length front) [] ≡ l.variable
    own_place front back l e =
        let xs = map (λ (m : Loop). m.variable) outs in
        let ys = map (λ (m : Loop). m.variable) front in
        let zs = map (λ (m : Loop). m.variable) back in
        let parts : forms.form_names_of around ≡ (xs ++ ys) ++ l.variable ∷ (zs ++ n.symbols) =
        names_are
        ∙ (ap (λ us. xs ++ (us ++ n.symbols)) (ap (map (λ (m : Loop). m.variable)) e ∙ map-append (λ (m : Loop). m.variable) front (l ∷ back))
        ∙ (ap (λ us. xs ++ us) (append_assoc ys (l.variable ∷ zs) n.symbols) ∙ sym (append_assoc xs ys (l.variable ∷ (zs ++ n.symbols))))) in
        let size : length outs + length front ≡ length (xs ++ ys) = let a = length-append xs ys in let b = length-map outs (λ (m : Loop). m.variable) in let c = length-map front (λ (m : Loop). m.variable) in omega arith in
        ap (λ k. get_or (forms.form_names_of around) k []) size ∙ (ap (λ us. get_or us (length (xs ++ ys)) []) parts ∙ at_place (xs ++ ys) (zs ++ n.symbols) l.variable)

    free_by : (front back : List Loop) (l m : Loop) (k : ℕ) → ins ≡ front ++ l ∷ back → IsKnownTrip (length outs + length front) n.symbols (trip_in l) → k < length outs + length front → get_or (forms.form_names_of around) k [] ≡ m.variable
        → (bytes_eq l.variable m.variable ≡ true) ⊎ (int_eq (forms.coefficient (forms.form_names_of around) m.variable (formed_loop l).trip.form.coefficients) (pos 0) ≡ true)
        → get_or (trip_in l).top.loops k (pos 0) ≡ pos 0
    free_by front back l m k e h near is (inl same) =
        let size : length ins ≡ length front + suc (length back) = ap (λ (ls : List Loop). length ls) e ∙ length-append front (l ∷ back) in
        let long = names_long in
        let one = one_place (forms.form_names_of around) k (length outs + length front) distinct (omega arith) (omega arith) (is ∙ (sym ((bytes_eq-Decides l.variable m.variable).0 same) ∙ sym (own_place front back l e))) in
        absurd (omega arith)
    free_by front back l m k e h near is (inr none) =
        let size : length ins ≡ length front + suc (length back) = ap (λ (ls : List Loop). length ls) e ∙ length-append front (l ∷ back) in
        let long = names_long in
        let both = length-append outs ins in
        let seven = h.seven in
        let cs = (formed_loop l).trip.form.coefficients in
        sym (front_get (length (outs ++ ins)) (trip_in l).top.loops (Rattle.array_form.specs.holds.Surroundings.coefficients_from 0 (trip_in l).top.syms) k (omega arith) (omega arith))
        ∙ (sym (coefficient_at (forms.form_names_of around) cs k distinct (omega arith))
        ∙ (ap (λ x. forms.coefficient (forms.form_names_of around) x cs) is ∙ (Decides-int_eq (forms.coefficient (forms.form_names_of around) m.variable cs) (pos 0)).0 none))

    free_at : (front back : List Loop) (l : Loop) → ins ≡ front ++ l ∷ back → IsKnownTrip (length outs + length front) n.symbols (trip_in l) → (k : ℕ) → length outs ≤ k
        → (k < length outs + length front) ⊎ (length outs + length front ≤ k) → get_or (trip_in l).top.loops k (pos 0) ≡ pos 0
    free_at front back l e h k g (inr far) = h.top.past_depth k far
    free_at front back l e h k g (inl near) =
        let size : length ins ≡ length front + suc (length back) = ap (λ (ls : List Loop). length ls) e ∙ length-append front (l ∷ back) in
        let outer_size = length-map outs (λ (m : Loop). m.variable) in
        let inner_size = length-map ins (λ (m : Loop). m.variable) in
        let there : In (get_or (forms.form_names_of around) k []) (map (λ (m : Loop). m.variable) ins)
        = subst (λ xs. In (get_or xs k []) (map (λ (m : Loop). m.variable) ins)) (sym names_are)
        (in_middle (map (λ (m : Loop). m.variable) outs) (map (λ (m : Loop). m.variable) ins) n.symbols k (omega arith) (omega arith)) in
        let o = In-map (λ (m : Loop). m.variable) (get_or (forms.form_names_of around) k []) ins there in
        let own : In l ins = subst (λ ls. In l ls) (sym e) (In-right l front (l ∷ back) (inl refl)) in
        let row = any_none (λ (x : forms.FormLoop). list_any (depends_on around x) (map formed_loop ins)) (map formed_loop ins) (formed_loop l) square (map-In formed_loop l ins own) in
        let pair = any_none (depends_on around (formed_loop l)) (map formed_loop ins) (formed_loop o.it) row (map-In formed_loop o.it ins o.inside) in
        free_by front back l o.it k e h near o.is
        (either_so (bytes_eq l.variable o.it.variable) (int_eq (forms.coefficient (forms.form_names_of around) o.it.variable (formed_loop l).trip.form.coefficients) (pos 0)) pair)

    pub all_free : (front ls : List Loop) → ins ≡ front ++ ls → HaveKnown n.symbols (length outs + length front) ls → Each IsFree ls
    all_free front [] e h = tt
    all_free front (l ∷ ls) e h =
        let size : length ins ≡ length front + suc (length ls) = ap (λ (ms : List Loop). length ms) e ∙ length-append front (l ∷ ls) in
        let both = length-append outs ins in
        let more = length-append front (l ∷ []) in (
          record { known = h.0; depth = length outs + length front; deep = omega arith; trip = h.1; free = λ k g. free_at front ls l e h.1 k g (cases_lt k (length outs + length front)) },
          all_free (front ++ l ∷ []) ls (e ∙ sym (append_assoc front (l ∷ []) ls)) (subst (λ d. HaveKnown n.symbols d ls) (let q : suc (length outs + length front) ≡ length outs + length (front ++ l ∷ []) = omega arith in q) h.2),
        )

  -- ---- their turns, where the outer loops are at these iterations

  module _ (v : ℕ → ℤ) (before : List ℕ) (as_many : length before ≡ length outs) where
    abbrev pub turns_there : Loop → ℤ
    turns_there l = turns_at (trip_in l) v (map pos before)

    free_front : (l : Loop) → IsFree l → (us : List ℤ) → value_at (trip_in l).top v (map pos before ++ us) ≡ value_at (trip_in l).top v (map pos before)
    free_front l h us = value_by_front (trip_in l).top v (map pos before) us (λ k g. h.free k (let e = length-map before pos in omega arith))

    pub turns_anywhere : (l : Loop) → IsFree l → (is : List ℕ) → turns_at (trip_in l) v (map pos (before ++ is)) ≡ turns_there l
    turns_anywhere l h is = ap (λ z. int_div z (trip_in l).by) (ap (value_at (trip_in l).top v) (map-append pos before is) ∙ free_front l h (map pos is))

    pub turns_are : (l : Loop) → IsFree l → loop_numbered (nest_loops n) l.number ≡ Some l → (is : List ℕ) → turns_in n v l.number (before ++ is) ≡ facts.counted (turns_there l)
    turns_are l h e is = ap (λ o. turns_of_loop o v (before ++ is)) e ∙ (ap (λ o. turns_of_trip o v (before ++ is)) h.known ∙ ap facts.counted (turns_anywhere l h is))

    module _ (zs : List ℤ) (as_many_inner : length zs ≡ length ins) (few : length (outs ++ ins) ≤ 7) where
      abbrev pub numbers_there : List ℤ
      numbers_there = map pos before ++ (zs ++ values_from v 0 n.symbols)

      pub count_is : (l : Loop) → IsFree l → count_of numbers_there (formed_loop l) ≡ not_negative (turns_there l)
      count_is l h =
          let t = trip_in l in
          let long : length (map pos before ++ zs) ≡ length (outs ++ ins) = let e = length-append (map pos before) zs in let f = length-map before pos in let g = length-append outs ins in omega arith in
          let number : number_at (form_of_affine (length (outs ++ ins)) t.top) numbers_there ≡ value_at t.top v (map pos before) =
          ap (number_at (form_of_affine (length (outs ++ ins)) t.top)) (sym (append_assoc (map pos before) zs (values_from v 0 n.symbols)))
          ∙ (number_of_form (length (outs ++ ins)) h.depth t.top n.symbols v (map pos before ++ zs) h.deep few h.trip.seven h.trip.eight h.trip.top h.trip.short long
          ∙ free_front l h zs) in
          ap not_negative (ap₂ trips.divided (ap nat_abs h.trip.by_is) number ∙ (divided_is h.trip.by (value_at t.top v (map pos before)) ∙ ap (int_div (value_at t.top v (map pos before))) (sym h.trip.by_is)))

      pub limits_there : (l : Loop) → IsFree l → (is_limited (length around.loops) (formed_loop l).trip.form ≡ true) × (1 ≤ (formed_loop l).trip.divisor)
      limits_there l h = (
        subst (λ m. is_limited m (formed_loop l).trip.form ≡ true) (sym (length-map (outs ++ ins) formed_loop))
            (limited_form (length (outs ++ ins)) h.depth (trip_in l).top (let e = h.trip.seven in omega arith) (let e = h.trip.eight in omega arith) h.trip.top),
        subst (λ z. 1 ≤ nat_abs z) (sym h.trip.by_is) h.trip.least,
      )

      pub has_trip : (l : Loop) → IsFree l → not_negative (turns_there l) ≤ 2147483646 → laws.HasTrip around numbers_there (formed_loop l)
      has_trip l h small = record {
        limits = (limits_there l h).0;
        short = (let a = short_form (length (outs ++ ins)) (length n.symbols) (trip_in l).top h.trip.short in
            let b = length-append (forms.form_variables_of around.loops) n.symbols in
            let c = ap (λ (xs : List (List ℕ)). length xs) (variables_counted (length (outs ++ ins)) (outs ++ ins)) in
            let d = length-map (outs ++ ins) (λ (m : Loop). m.variable) in omega arith);
        divisor = (limits_there l h).1;
        most = subst (λ m. m ≤ 2147483646) (sym (count_is l h)) small;
      }

      pub rectangular : (ls : List Loop) → Each IsFree ls → ((l : Loop) → In l ls → loop_numbered (nest_loops n) l.number ≡ Some l) → ((l : Loop) → In l ls → not_negative (turns_there l) ≤ 2147483646) → (is : List ℕ)
          → AreRectangular (turns_in n v) (numbers_of ls) (before ++ is) (counts_of numbers_there (map formed_loop ls))
      rectangular [] h numbered small is = tt
      rectangular (l ∷ ls) h numbered small is = (
        turns_are l h.0 (numbered l (inl refl)) is ∙ (counted_small (turns_there l) (small l (inl refl)) ∙ sym (count_is l h.0)),
        λ i. subst (λ js. AreRectangular (turns_in n v) (numbers_of ls) js (counts_of numbers_there (map formed_loop ls))) (sym (append_assoc before is (i ∷ [])))
            (rectangular ls h.1 (λ m j. numbered m (inr j)) (λ m j. small m (inr j)) (is ++ i ∷ [])),
      )
