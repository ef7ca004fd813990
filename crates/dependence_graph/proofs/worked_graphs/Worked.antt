-- The only right listings of worked nests.
use Rattle.std.proofs.Common.{◌≡◌, ◌⊎◌, inl, inr, ℕ, zero, suc, refl, sym, ap, ap₂, ◌∙◌, subst, arith, Some, List, [], ◌∷◌, get_or, map}
use Rattle.std.specs.Prelude.{ℤ, pos, negsuc, ◌*ℤ◌, ◌<ℤ◌, codes, int_div, slice_get}
use Rattle.std.proofs.lemmas.Int.{ints}
use Rattle.tree.specs.Plain.{Binary, Expression, Reference}
use Rattle.tree.specs.declared.ops.Op.TheVariants.{Add, Sub}
use Rattle.subscripts.specs.Cuts.{IsNoLater}
use Rattle.subscripts.specs.declared.verdict.Test.TheVariants.{Crossing, Strong, Trip, WeakZero}
use Rattle.components.specs.Lists.{IsMember, Pairwise}
use Rattle.dependence_graph.specs.declared.graphs.Dep.{Dep}
use Rattle.dependence_graph.specs.declared.graphs.Dep.TheVariants.{Anti, Flow, Output}
use Rattle.dependence_graph.specs.declared.graphs.Dropped.{Dropped}
use Rattle.dependence_graph.specs.declared.graphs.Edge.{Edge}
use Rattle.dependence_graph.specs.declared.graphs.Graph.{Graph}
use Rattle.dependence_graph.specs.declared.graphs.Place.{Place}
use Rattle.linear_forms.specs.Linear.{constant_form}
use Rattle.nest.specs.Bodies.{Standing, nest_statements}
use Rattle.dependence_graph.specs.nest_graph.Arcs.{Couple}
use Rattle.dependence_graph.specs.nest_graph.Graph.{AreDependent, IsCouple, IsGraphOf, all_drops, all_edges}
use Rattle.dependence_graph.specs.nest_graph.Pair.{kind_between}
use Rattle.dependence_graph.specs.nest_graph.References.{references_of}
use Rattle.dependence_graph.specs.nest_graph.Tested.{IsReferenceAt}
use Rattle.dependence_graph.specs.worked_graphs.Listed.{HasOnly, at, drop, edge}
use Rattle.dependence_graph.specs.worked_graphs.Nests.{crossing, element, elementwise, first_element, i, number, one_turn, past_the_trip, recurrence, value}
use Rattle.dependence_graph.proofs.worked_graphs.Couples.{AreMeeting, IsFirstMeeting, drops, drops_once, met_at}
use Rattle.dependence_graph.proofs.worked_graphs.Keys.{IsEarlier, Key, graph_keys, in_all, key}
use Rattle.dependence_graph.proofs.worked_graphs.OneLoop.{IsEnd, line, nest, standing}

-- ---- the couples of a statement with two references

cons_parts : {A : Type 0} (x y : A) (xs ys : List A) → x ∷ xs ≡ y ∷ ys → (x ≡ y) × (xs ≡ ys)
cons_parts x y xs ys e = (cc, cc)

-- one couple, or three
abbrev IsOne : List Couple → Key → Type 0
IsOne cs k = (c : Couple) × (cs ≡ c ∷ []) × (key c ≡ k)

abbrev AreThree : List Couple → Key → Key → Key → Type 0
AreThree cs k l m = (c : Couple) × (d : Couple) × (e : Couple) × (cs ≡ c ∷ d ∷ e ∷ []) × (key c ≡ k) × (key d ≡ l) × (key e ≡ m)

none_of : (cs : List Couple) → map key cs ≡ [] → cs ≡ []
none_of [] h = refl
none_of (c ∷ cs) h = cc

one_of : (cs : List Couple) (k : Key) (ks : List Key) → map key cs ≡ k ∷ ks → (c : Couple) × (rest : List Couple) × (cs ≡ c ∷ rest) × (key c ≡ k) × (map key rest ≡ ks)
one_of [] k ks h = cc
one_of (c ∷ cs) k ks h = let p = cons_parts (key c) k (map key cs) ks h in (c, cs, refl, p.0, p.1)

is_one : (cs : List Couple) (k : Key) → map key cs ≡ k ∷ [] → IsOne cs k
is_one cs k h = let a = one_of cs k [] h in (a.0, a.2 ∙ ap (λ (ds : List Couple). a.0 ∷ ds) (none_of a.1 a.4), a.3)

are_three : (cs : List Couple) (k l m : Key) → map key cs ≡ k ∷ l ∷ m ∷ [] → AreThree cs k l m
are_three cs k l m h =
    let a = one_of cs k (l ∷ m ∷ []) h in let b = one_of a.1 l (m ∷ []) a.4 in let c = is_one b.1 m b.4 in
    (a.0, b.0, c.0, a.2 ∙ ap (λ (ds : List Couple). a.0 ∷ ds) (b.2 ∙ ap (λ (ds : List Couple). b.0 ∷ ds) c.1), a.3, b.3, c.2)

module _ (last : ℕ) (whole : int_div (pos last) (pos 1) ≡ pos last) (left : Reference) (right : Expression) (r u : Reference)
    (references : references_of (standing last whole left right) ≡ r ∷ u ∷ []) where
  -- the two references
  abbrev IsPlaceOf : Place → Reference → Type 0
  IsPlaceOf p x = ((p ≡ at 0) × (x ≡ r)) ⊎ ((p ≡ at 1) × (x ≡ u))

  place_by : (k m : ℕ) (s : Standing) (x : Reference) → slice_get (nest_statements (nest last whole left right)) k ≡ Some s → slice_get (references_of s) m ≡ Some x
      → IsPlaceOf (record { stmt = k; at = m }) x
  place_by (suc k) m s x e h = cc
  place_by zero m s x e h =
      let same : s ≡ standing last whole left right = cc in
      by m (subst (λ (rs : List Reference). slice_get rs m ≡ Some x) references (subst (λ (z : Standing). slice_get (references_of z) m ≡ Some x) same h))
    where
      by : (m : ℕ) → slice_get (r ∷ u ∷ []) m ≡ Some x → IsPlaceOf (at m) x
      by zero g = inl (refl, cc)
      by (suc zero) g = inr (refl, cc)
      by (suc (suc m)) g = cc

  place_of : (p : Place) (s : Standing) (x : Reference) → IsReferenceAt (nest last whole left right) p s x → IsPlaceOf p x
  place_of p s x h = place_by p.stmt p.at s x h.statement h.reference

  no_kind : (k : Dep) → kind_between 1 1 ≡ Some k → ⊥
  no_kind k e = cc

  pair_up : (p q x y : Place) → p ≡ x → q ≡ y → ◌≡◌ {A = Place × Place} (p, q) (x, y)
  pair_up p q x y e f = ap₂ (λ (z w : Place). (z, w)) e f

  -- both can't be read
  not_both_read : (c : Couple) → IsCouple (nest last whole left right) c → c.from ≡ at 1 → c.to ≡ at 1 → ⊥
  not_both_read c h e f = no_kind c.kind (ap₂ (λ (p q : Place). kind_between p.at q.at) (sym e) (sym f) ∙ h.kind)

  first_there : slice_get (references_of (standing last whole left right)) 0 ≡ Some r
  first_there = ap (λ (rs : List Reference). slice_get rs 0) references

  second_there : slice_get (references_of (standing last whole left right)) 1 ≡ Some u
  second_there = ap (λ (rs : List Reference). slice_get rs 1) references

  dependent : (p q : ℕ) (x y : Reference) → slice_get (references_of (standing last whole left right)) p ≡ Some x
      → slice_get (references_of (standing last whole left right)) q ≡ Some y → x.name ≡ y.name → (p ≡ 0) ⊎ (q ≡ 0) → AreDependent (nest last whole left right) (at p) (at q)
  dependent p q x y e f names w = record {
    refs = record {
      first = standing last whole left right;
      second = standing last whole left right;
      first_reference = x;
      second_reference = y;
      first_is = record { statement = refl; reference = e };
      second_is = record { statement = refl; reference = f };
      same_name = names;
    };
    one_written = w;
  }

  pub one_couple : (r.name ≡ u.name → ⊥) → (g : Graph) → (h : IsGraphOf (nest last whole left right) g) → IsOne h.couples (at 0, at 0)
  one_couple differ g h = is_one h.couples (at 0, at 0) (graph_keys (nest last whole left right) g h ((at 0, at 0) ∷ []) (tt, tt) covered covering)
    where
      covered : (c : Couple) → IsCouple (nest last whole left right) c → IsMember (key c) ((at 0, at 0) ∷ [])
      covered c k =
          elim (place_of c.from k.refs.first k.refs.first_reference k.refs.first_is) [
            | inl a ↦ elim (place_of c.to k.refs.second k.refs.second_reference k.refs.second_is) [
              | inl b ↦ inl (pair_up c.from c.to (at 0) (at 0) a.0 b.0)
              | inr b ↦ absurd (differ (sym (ap (λ (z : Reference). z.name) a.1) ∙ k.refs.same_name ∙ ap (λ (z : Reference). z.name) b.1))
            ]
            | inr a ↦ elim (place_of c.to k.refs.second k.refs.second_reference k.refs.second_is) [
              | inl b ↦ absurd (differ (sym (ap (λ (z : Reference). z.name) b.1) ∙ sym k.refs.same_name ∙ ap (λ (z : Reference). z.name) a.1))
              | inr b ↦ absurd (not_both_read c k a.0 b.0)
            ]
          ]

      covering : (k : Key) → IsMember k ((at 0, at 0) ∷ []) → AreDependent (nest last whole left right) k.0 k.1
      covering k i =
          elim i [
            | inl e ↦ subst (λ (z : Key). AreDependent (nest last whole left right) z.0 z.1) (sym e) (dependent 0 0 r r first_there first_there refl (inl refl))
            | inr e ↦ absurd e
          ]

  abbrev three : List Key
  three = (at 0, at 0) ∷ (at 0, at 1) ∷ (at 1, at 0) ∷ []

  pub three_couples : r.name ≡ u.name → (g : Graph) → (h : IsGraphOf (nest last whole left right) g) → AreThree h.couples (at 0, at 0) (at 0, at 1) (at 1, at 0)
  three_couples names g h = are_three h.couples (at 0, at 0) (at 0, at 1) (at 1, at 0) (graph_keys (nest last whole left right) g h three order covered covering)
    where
      first_second : IsEarlier (at 0, at 0) (at 0, at 1)
      first_second = inr (refl, inr (refl, omega arith))

      first_third : IsEarlier (at 0, at 0) (at 1, at 0)
      first_third = inl (inr (refl, omega arith))

      second_third : IsEarlier (at 0, at 1) (at 1, at 0)
      second_third = inl (inr (refl, omega arith))

      order : Pairwise IsEarlier three
      order = ((first_second, (first_third, tt)), ((second_third, tt), (tt, tt)))

      covered : (c : Couple) → IsCouple (nest last whole left right) c → IsMember (key c) three
      covered c k =
          elim (place_of c.from k.refs.first k.refs.first_reference k.refs.first_is) [
            | inl a ↦ elim (place_of c.to k.refs.second k.refs.second_reference k.refs.second_is) [
              | inl b ↦ inl (pair_up c.from c.to (at 0) (at 0) a.0 b.0)
              | inr b ↦ inr (inl (pair_up c.from c.to (at 0) (at 1) a.0 b.0))
            ]
            | inr a ↦ elim (place_of c.to k.refs.second k.refs.second_reference k.refs.second_is) [
              | inl b ↦ inr (inr (inl (pair_up c.from c.to (at 1) (at 0) a.0 b.0)))
              | inr b ↦ absurd (not_both_read c k a.0 b.0)
            ]
          ]

      at_key : (k l : Key) → k ≡ l → AreDependent (nest last whole left right) l.0 l.1 → AreDependent (nest last whole left right) k.0 k.1
      at_key k l e d = subst (λ (z : Key). AreDependent (nest last whole left right) z.0 z.1) (sym e) d

      covering : (k : Key) → IsMember k three → AreDependent (nest last whole left right) k.0 k.1
      covering k i =
          elim i [
            | inl e ↦ at_key k (at 0, at 0) e (dependent 0 0 r r first_there first_there refl (inl refl))
            | inr j ↦ elim j [
              | inl e ↦ at_key k (at 0, at 1) e (dependent 0 1 r u first_there second_there names (inl refl))
              | inr l ↦ elim l [
                | inl e ↦ at_key k (at 1, at 0) e (dependent 1 0 u r second_there first_there (sym names) (inr refl))
                | inr e ↦ absurd e
              ]
            ]
          ]

-- ---- their lines

pub same_three : (c d e c' d' e' : Couple) → c ≡ c' → d ≡ d' → e ≡ e' → c ∷ d ∷ e ∷ [] ≡ c' ∷ d' ∷ e' ∷ []
same_three c d e c' d' e' f g h = ap₂ (λ (x : Couple) (xs : List Couple). x ∷ xs) f (ap₂ (λ (x y : Couple). x ∷ y ∷ []) g h)

pub edges_by : (cs ds : List Couple) (es : List Edge) → es ≡ all_edges cs → cs ≡ ds → es ≡ all_edges ds
edges_by cs ds es e f = e ∙ ap all_edges f

pub drops_by : (cs ds : List Couple) (es : List Dropped) → es ≡ all_drops cs → cs ≡ ds → es ≡ all_drops ds
drops_by cs ds es e f = e ∙ ap all_drops f

pub left_one : (b : ℤ) → pos 1 ≡ pos 0 → b ≡ pos 0 → ⊥
left_one b e f = omega (arith, ints)

right_one : (a : ℤ) → a ≡ pos 0 → pos 1 ≡ pos 0 → ⊥
right_one a e f = omega (arith, ints)

-- no later than the pair that is the least
no_later_than : (k l i j : ℤ) → IsNoLater (k ∷ l ∷ []) (i ∷ j ∷ []) → (k <ℤ i) ⊎ ((k ≡ i) × ((l <ℤ j) ⊎ (l ≡ j)))
no_later_than k l i j h = elim h [ inl e ↦ inl e | inr e ↦ elim e.1 [ inl f ↦ inr (e.0, inl f) | inr f ↦ inr (e.0, inr f.0) ] ]

zero_times : (z : ℤ) → pos 0 *ℤ z ≡ pos 0
zero_times z = omega (arith, ints)

pub elementwise_differ : codes "A" ≡ codes "B" → ⊥
elementwise_differ e = no (ap (λ (xs : List ℕ). get_or xs 0 0) e)
  where
    no : ◌≡◌ {A = ℕ} 65 66 → ⊥
    no f = omega arith

-- ---- A(I) = B(I) + 1

elementwise_first : IsEnd (references_of (standing 100 refl (element "A" i) (Binary Add (value "B" i) (number 1)))) 0 (element "A" i) (pos 1) (pos 0)
elementwise_first = record {
  index = i;
  found = line (pos 1) (pos 0);
  there = refl;
  subs = refl;
  form = refl;
  line = record { front = refl; past = λ k. refl; value = λ n. refl };
}

elementwise_own : (x y : ℤ) → AreMeeting 100 refl (element "A" i) (Binary Add (value "B" i) (number 1)) 0 0 (element "A" i) (element "A" i) (pos 1) (pos 0) (pos 1) (pos 0) elementwise_first elementwise_first Output refl x y → ⊥
elementwise_own x y m = (let e = m.equal in let f = m.before in let l = m.low in let k = m.high in omega (arith, ints))

pub elementwise_listed : HasOnly elementwise ([]) (drop (at 0) (at 0) Output "A" Strong ∷ [])
elementwise_listed g h =
    let t = one_couple 100 refl (element "A" i) (Binary Add (value "B" i) (number 1)) (element "A" i) (element "B" i) refl elementwise_differ g h in
    let each : (c : Couple) → IsMember c (t.0 ∷ []) → IsCouple elementwise c =
    λ c j. in_all (IsCouple elementwise) h.couples c h.each (subst (λ (cs : List Couple). IsMember c cs) (sym t.1) j) in
    let own = drops 100 refl (element "A" i) (Binary Add (value "B" i) (number 1)) 0 0 (element "A" i) (element "A" i) (pos 1) (pos 0) (pos 1) (pos 0) elementwise_first elementwise_first Output refl (left_one (pos 1)) Strong refl (omega (arith, ints)) elementwise_own t.0 (each t.0 (inl refl)) t.2 in
    let all = t.1 ∙ ap (λ (c : Couple). c ∷ []) own in
    (edges_by h.couples _ g.edges h.edges all, drops_by h.couples _ g.dropped h.dropped all)

-- ---- A(I+1) = A(I)

recurrence_first : IsEnd (references_of (standing 100 refl (element "A" (Binary Add i (number 1))) (value "A" i))) 0 (element "A" (Binary Add i (number 1))) (pos 1) (pos 1)
recurrence_first = record {
  index = Binary Add i (number 1);
  found = line (pos 1) (pos 1);
  there = refl;
  subs = refl;
  form = refl;
  line = record { front = refl; past = λ k. refl; value = λ n. refl };
}

recurrence_second : IsEnd (references_of (standing 100 refl (element "A" (Binary Add i (number 1))) (value "A" i))) 1 (element "A" i) (pos 1) (pos 0)
recurrence_second = record {
  index = i;
  found = line (pos 1) (pos 0);
  there = refl;
  subs = refl;
  form = refl;
  line = record { front = refl; past = λ k. refl; value = λ n. refl };
}

recurrence_own : (x y : ℤ) → AreMeeting 100 refl (element "A" (Binary Add i (number 1))) (value "A" i) 0 0 (element "A" (Binary Add i (number 1))) (element "A" (Binary Add i (number 1))) (pos 1) (pos 1) (pos 1) (pos 1) recurrence_first recurrence_first Output refl x y → ⊥
recurrence_own x y m = (let e = m.equal in let f = m.before in let l = m.low in let k = m.high in omega (arith, ints))

recurrence_flow : IsFirstMeeting 100 refl (element "A" (Binary Add i (number 1))) (value "A" i) 0 1 (element "A" (Binary Add i (number 1))) (element "A" i) (pos 1) (pos 1) (pos 1) (pos 0) recurrence_first recurrence_second Flow refl (pos 1) (pos 2)
recurrence_flow = record {
  meeting = record { low = omega (arith, ints); before = omega (arith, ints); high = omega (arith, ints); equal = refl };
  least = λ k l m h.
      let e = m.equal in let f = m.before in let b = m.low in let t = m.high in
      elim (no_later_than k l (pos 1) (pos 2) h) [
        | inl g ↦ absurd (omega (arith, ints))
        | inr g ↦ (let s = g.0 in (s, elim g.1 [ inl w ↦ absurd (omega (arith, ints)) | inr w ↦ w ]))
      ];
}

recurrence_anti : (x y : ℤ) → AreMeeting 100 refl (element "A" (Binary Add i (number 1))) (value "A" i) 1 0 (element "A" i) (element "A" (Binary Add i (number 1))) (pos 1) (pos 0) (pos 1) (pos 1) recurrence_second recurrence_first Anti refl x y → ⊥
recurrence_anti x y m = (let e = m.equal in let f = m.before in let l = m.low in let k = m.high in omega (arith, ints))

pub recurrence_listed : HasOnly recurrence (edge (at 0) (at 1) Flow "A" Strong (pos 1) (pos 2) ∷ []) (drop (at 0) (at 0) Output "A" Strong ∷ drop (at 1) (at 0) Anti "A" Strong ∷ [])
recurrence_listed g h =
    let t = three_couples 100 refl (element "A" (Binary Add i (number 1))) (value "A" i) (element "A" (Binary Add i (number 1))) (element "A" i) refl refl g h in
    let each : (c : Couple) → IsMember c (t.0 ∷ t.1 ∷ t.2 ∷ []) → IsCouple recurrence c =
    λ c j. in_all (IsCouple recurrence) h.couples c h.each (subst (λ (cs : List Couple). IsMember c cs) (sym t.3) j) in
    let own = drops 100 refl (element "A" (Binary Add i (number 1))) (value "A" i) 0 0 (element "A" (Binary Add i (number 1))) (element "A" (Binary Add i (number 1))) (pos 1) (pos 1) (pos 1) (pos 1) recurrence_first recurrence_first Output refl (left_one (pos 1)) Strong refl (omega (arith, ints)) recurrence_own t.0 (each t.0 (inl refl)) t.4 in
    let flow = met_at 100 refl (element "A" (Binary Add i (number 1))) (value "A" i) 0 1 (element "A" (Binary Add i (number 1))) (element "A" i) (pos 1) (pos 1) (pos 1) (pos 0) recurrence_first recurrence_second Flow refl (left_one (pos 1)) Strong refl (pos 1) (pos 2) refl recurrence_flow t.1 (each t.1 (inr (inl refl))) t.5 in
    let anti = drops 100 refl (element "A" (Binary Add i (number 1))) (value "A" i) 1 0 (element "A" i) (element "A" (Binary Add i (number 1))) (pos 1) (pos 0) (pos 1) (pos 1) recurrence_second recurrence_first Anti refl (left_one (pos 1)) Strong refl (omega (arith, ints)) recurrence_anti t.2 (each t.2 (inr (inr (inl refl)))) t.6 in
    let all = t.3 ∙ same_three t.0 t.1 t.2 _ _ _ own flow anti in
    (edges_by h.couples _ g.edges h.edges all, drops_by h.couples _ g.dropped h.dropped all)

-- ---- A(I+50) = A(I)

past_the_trip_first : IsEnd (references_of (standing 50 refl (element "A" (Binary Add i (number 50))) (value "A" i))) 0 (element "A" (Binary Add i (number 50))) (pos 1) (pos 50)
past_the_trip_first = record {
  index = Binary Add i (number 50);
  found = line (pos 1) (pos 50);
  there = refl;
  subs = refl;
  form = refl;
  line = record { front = refl; past = λ k. refl; value = λ n. refl };
}

past_the_trip_second : IsEnd (references_of (standing 50 refl (element "A" (Binary Add i (number 50))) (value "A" i))) 1 (element "A" i) (pos 1) (pos 0)
past_the_trip_second = record {
  index = i;
  found = line (pos 1) (pos 0);
  there = refl;
  subs = refl;
  form = refl;
  line = record { front = refl; past = λ k. refl; value = λ n. refl };
}

past_the_trip_own : (x y : ℤ) → AreMeeting 50 refl (element "A" (Binary Add i (number 50))) (value "A" i) 0 0 (element "A" (Binary Add i (number 50))) (element "A" (Binary Add i (number 50))) (pos 1) (pos 50) (pos 1) (pos 50) past_the_trip_first past_the_trip_first Output refl x y → ⊥
past_the_trip_own x y m = (let e = m.equal in let f = m.before in let l = m.low in let k = m.high in omega (arith, ints))

past_the_trip_flow : (x y : ℤ) → AreMeeting 50 refl (element "A" (Binary Add i (number 50))) (value "A" i) 0 1 (element "A" (Binary Add i (number 50))) (element "A" i) (pos 1) (pos 50) (pos 1) (pos 0) past_the_trip_first past_the_trip_second Flow refl x y → ⊥
past_the_trip_flow x y m = (let e = m.equal in let f = m.before in let l = m.low in let k = m.high in omega (arith, ints))

past_the_trip_anti : (x y : ℤ) → AreMeeting 50 refl (element "A" (Binary Add i (number 50))) (value "A" i) 1 0 (element "A" i) (element "A" (Binary Add i (number 50))) (pos 1) (pos 0) (pos 1) (pos 50) past_the_trip_second past_the_trip_first Anti refl x y → ⊥
past_the_trip_anti x y m = (let e = m.equal in let f = m.before in let l = m.low in let k = m.high in omega (arith, ints))

pub past_the_trip_listed : HasOnly past_the_trip ([]) (drop (at 0) (at 0) Output "A" Strong ∷ drop (at 0) (at 1) Flow "A" Strong ∷ drop (at 1) (at 0) Anti "A" Strong ∷ [])
past_the_trip_listed g h =
    let t = three_couples 50 refl (element "A" (Binary Add i (number 50))) (value "A" i) (element "A" (Binary Add i (number 50))) (element "A" i) refl refl g h in
    let each : (c : Couple) → IsMember c (t.0 ∷ t.1 ∷ t.2 ∷ []) → IsCouple past_the_trip c =
    λ c j. in_all (IsCouple past_the_trip) h.couples c h.each (subst (λ (cs : List Couple). IsMember c cs) (sym t.3) j) in
    let own = drops 50 refl (element "A" (Binary Add i (number 50))) (value "A" i) 0 0 (element "A" (Binary Add i (number 50))) (element "A" (Binary Add i (number 50))) (pos 1) (pos 50) (pos 1) (pos 50) past_the_trip_first past_the_trip_first Output refl (left_one (pos 1)) Strong refl (omega (arith, ints)) past_the_trip_own t.0 (each t.0 (inl refl)) t.4 in
    let flow = drops 50 refl (element "A" (Binary Add i (number 50))) (value "A" i) 0 1 (element "A" (Binary Add i (number 50))) (element "A" i) (pos 1) (pos 50) (pos 1) (pos 0) past_the_trip_first past_the_trip_second Flow refl (left_one (pos 1)) Strong refl (omega (arith, ints)) past_the_trip_flow t.1 (each t.1 (inr (inl refl))) t.5 in
    let anti = drops 50 refl (element "A" (Binary Add i (number 50))) (value "A" i) 1 0 (element "A" i) (element "A" (Binary Add i (number 50))) (pos 1) (pos 0) (pos 1) (pos 50) past_the_trip_second past_the_trip_first Anti refl (left_one (pos 1)) Strong refl (omega (arith, ints)) past_the_trip_anti t.2 (each t.2 (inr (inr (inl refl)))) t.6 in
    let all = t.3 ∙ same_three t.0 t.1 t.2 _ _ _ own flow anti in
    (edges_by h.couples _ g.edges h.edges all, drops_by h.couples _ g.dropped h.dropped all)

-- ---- A(I) = A(101-I)

crossing_first : IsEnd (references_of (standing 100 refl (element "A" i) (value "A" (Binary Sub (number 101) i)))) 0 (element "A" i) (pos 1) (pos 0)
crossing_first = record {
  index = i;
  found = line (pos 1) (pos 0);
  there = refl;
  subs = refl;
  form = refl;
  line = record { front = refl; past = λ k. refl; value = λ n. refl };
}

crossing_second : IsEnd (references_of (standing 100 refl (element "A" i) (value "A" (Binary Sub (number 101) i)))) 1 (element "A" (Binary Sub (number 101) i)) (negsuc 0) (pos 101)
crossing_second = record {
  index = Binary Sub (number 101) i;
  found = line (negsuc 0) (pos 101);
  there = refl;
  subs = refl;
  form = refl;
  line = record { front = refl; past = λ k. refl; value = λ n. refl };
}

crossing_own : (x y : ℤ) → AreMeeting 100 refl (element "A" i) (value "A" (Binary Sub (number 101) i)) 0 0 (element "A" i) (element "A" i) (pos 1) (pos 0) (pos 1) (pos 0) crossing_first crossing_first Output refl x y → ⊥
crossing_own x y m = (let e = m.equal in let f = m.before in let l = m.low in let k = m.high in omega (arith, ints))

crossing_flow : IsFirstMeeting 100 refl (element "A" i) (value "A" (Binary Sub (number 101) i)) 0 1 (element "A" i) (element "A" (Binary Sub (number 101) i)) (pos 1) (pos 0) (negsuc 0) (pos 101) crossing_first crossing_second Flow refl (pos 1) (pos 100)
crossing_flow = record {
  meeting = record { low = omega (arith, ints); before = omega (arith, ints); high = omega (arith, ints); equal = refl };
  least = λ k l m h.
      let e = m.equal in let f = m.before in let b = m.low in let t = m.high in
      elim (no_later_than k l (pos 1) (pos 100) h) [
        | inl g ↦ absurd (omega (arith, ints))
        | inr g ↦ (let s = g.0 in (s, elim g.1 [ inl w ↦ absurd (omega (arith, ints)) | inr w ↦ w ]))
      ];
}

crossing_anti : IsFirstMeeting 100 refl (element "A" i) (value "A" (Binary Sub (number 101) i)) 1 0 (element "A" (Binary Sub (number 101) i)) (element "A" i) (negsuc 0) (pos 101) (pos 1) (pos 0) crossing_second crossing_first Anti refl (pos 1) (pos 100)
crossing_anti = record {
  meeting = record { low = omega (arith, ints); before = omega (arith, ints); high = omega (arith, ints); equal = refl };
  least = λ k l m h.
      let e = m.equal in let f = m.before in let b = m.low in let t = m.high in
      elim (no_later_than k l (pos 1) (pos 100) h) [
        | inl g ↦ absurd (omega (arith, ints))
        | inr g ↦ (let s = g.0 in (s, elim g.1 [ inl w ↦ absurd (omega (arith, ints)) | inr w ↦ w ]))
      ];
}

pub crossing_listed : HasOnly crossing (edge (at 0) (at 1) Flow "A" Crossing (pos 1) (pos 100) ∷ edge (at 1) (at 0) Anti "A" Crossing (pos 1) (pos 100) ∷ []) (drop (at 0) (at 0) Output "A" Strong ∷ [])
crossing_listed g h =
    let t = three_couples 100 refl (element "A" i) (value "A" (Binary Sub (number 101) i)) (element "A" i) (element "A" (Binary Sub (number 101) i)) refl refl g h in
    let each : (c : Couple) → IsMember c (t.0 ∷ t.1 ∷ t.2 ∷ []) → IsCouple crossing c =
    λ c j. in_all (IsCouple crossing) h.couples c h.each (subst (λ (cs : List Couple). IsMember c cs) (sym t.3) j) in
    let own = drops 100 refl (element "A" i) (value "A" (Binary Sub (number 101) i)) 0 0 (element "A" i) (element "A" i) (pos 1) (pos 0) (pos 1) (pos 0) crossing_first crossing_first Output refl (left_one (pos 1)) Strong refl (omega (arith, ints)) crossing_own t.0 (each t.0 (inl refl)) t.4 in
    let flow = met_at 100 refl (element "A" i) (value "A" (Binary Sub (number 101) i)) 0 1 (element "A" i) (element "A" (Binary Sub (number 101) i)) (pos 1) (pos 0) (negsuc 0) (pos 101) crossing_first crossing_second Flow refl (left_one (negsuc 0)) Crossing refl (pos 1) (pos 100) refl crossing_flow t.1 (each t.1 (inr (inl refl))) t.5 in
    let anti = met_at 100 refl (element "A" i) (value "A" (Binary Sub (number 101) i)) 1 0 (element "A" (Binary Sub (number 101) i)) (element "A" i) (negsuc 0) (pos 101) (pos 1) (pos 0) crossing_second crossing_first Anti refl (right_one (negsuc 0)) Crossing refl (pos 1) (pos 100) refl crossing_anti t.2 (each t.2 (inr (inr (inl refl)))) t.6 in
    let all = t.3 ∙ same_three t.0 t.1 t.2 _ _ _ own flow anti in
    (edges_by h.couples _ g.edges h.edges all, drops_by h.couples _ g.dropped h.dropped all)

-- ---- A(I) = A(1)

first_element_first : IsEnd (references_of (standing 100 refl (element "A" i) (value "A" (number 1)))) 0 (element "A" i) (pos 1) (pos 0)
first_element_first = record {
  index = i;
  found = line (pos 1) (pos 0);
  there = refl;
  subs = refl;
  form = refl;
  line = record { front = refl; past = λ k. refl; value = λ n. refl };
}

first_element_second : IsEnd (references_of (standing 100 refl (element "A" i) (value "A" (number 1)))) 1 (element "A" (number 1)) (pos 0) (pos 1)
first_element_second = record {
  index = number 1;
  found = constant_form (pos 1);
  there = refl;
  subs = refl;
  form = refl;
  line = record { front = refl; past = λ k. refl; value = λ n. (let z = zero_times n in omega (arith, ints, z)) };
}

first_element_own : (x y : ℤ) → AreMeeting 100 refl (element "A" i) (value "A" (number 1)) 0 0 (element "A" i) (element "A" i) (pos 1) (pos 0) (pos 1) (pos 0) first_element_first first_element_first Output refl x y → ⊥
first_element_own x y m = (let e = m.equal in let f = m.before in let l = m.low in let k = m.high in omega (arith, ints))

first_element_flow : IsFirstMeeting 100 refl (element "A" i) (value "A" (number 1)) 0 1 (element "A" i) (element "A" (number 1)) (pos 1) (pos 0) (pos 0) (pos 1) first_element_first first_element_second Flow refl (pos 1) (pos 2)
first_element_flow = record {
  meeting = record { low = omega (arith, ints); before = omega (arith, ints); high = omega (arith, ints); equal = refl };
  least = λ k l m h.
      let e = m.equal in let f = m.before in let b = m.low in let t = m.high in
      elim (no_later_than k l (pos 1) (pos 2) h) [
        | inl g ↦ absurd (omega (arith, ints))
        | inr g ↦ (let s = g.0 in (s, elim g.1 [ inl w ↦ absurd (omega (arith, ints)) | inr w ↦ w ]))
      ];
}

first_element_anti : (x y : ℤ) → AreMeeting 100 refl (element "A" i) (value "A" (number 1)) 1 0 (element "A" (number 1)) (element "A" i) (pos 0) (pos 1) (pos 1) (pos 0) first_element_second first_element_first Anti refl x y → ⊥
first_element_anti x y m = (let e = m.equal in let f = m.before in let l = m.low in let k = m.high in omega (arith, ints))

pub first_element_listed : HasOnly first_element (edge (at 0) (at 1) Flow "A" WeakZero (pos 1) (pos 2) ∷ []) (drop (at 0) (at 0) Output "A" Strong ∷ drop (at 1) (at 0) Anti "A" WeakZero ∷ [])
first_element_listed g h =
    let t = three_couples 100 refl (element "A" i) (value "A" (number 1)) (element "A" i) (element "A" (number 1)) refl refl g h in
    let each : (c : Couple) → IsMember c (t.0 ∷ t.1 ∷ t.2 ∷ []) → IsCouple first_element c =
    λ c j. in_all (IsCouple first_element) h.couples c h.each (subst (λ (cs : List Couple). IsMember c cs) (sym t.3) j) in
    let own = drops 100 refl (element "A" i) (value "A" (number 1)) 0 0 (element "A" i) (element "A" i) (pos 1) (pos 0) (pos 1) (pos 0) first_element_first first_element_first Output refl (left_one (pos 1)) Strong refl (omega (arith, ints)) first_element_own t.0 (each t.0 (inl refl)) t.4 in
    let flow = met_at 100 refl (element "A" i) (value "A" (number 1)) 0 1 (element "A" i) (element "A" (number 1)) (pos 1) (pos 0) (pos 0) (pos 1) first_element_first first_element_second Flow refl (left_one (pos 0)) WeakZero (inr refl) (pos 1) (pos 2) refl first_element_flow t.1 (each t.1 (inr (inl refl))) t.5 in
    let anti = drops 100 refl (element "A" i) (value "A" (number 1)) 1 0 (element "A" (number 1)) (element "A" i) (pos 0) (pos 1) (pos 1) (pos 0) first_element_second first_element_first Anti refl (right_one (pos 0)) WeakZero (inl refl) (omega (arith, ints)) first_element_anti t.2 (each t.2 (inr (inr (inl refl)))) t.6 in
    let all = t.3 ∙ same_three t.0 t.1 t.2 _ _ _ own flow anti in
    (edges_by h.couples _ g.edges h.edges all, drops_by h.couples _ g.dropped h.dropped all)

-- ---- A(I) = A(I), once

one_turn_first : IsEnd (references_of (standing 1 refl (element "A" i) (value "A" i))) 0 (element "A" i) (pos 1) (pos 0)
one_turn_first = record {
  index = i;
  found = line (pos 1) (pos 0);
  there = refl;
  subs = refl;
  form = refl;
  line = record { front = refl; past = λ k. refl; value = λ n. refl };
}

one_turn_second : IsEnd (references_of (standing 1 refl (element "A" i) (value "A" i))) 1 (element "A" i) (pos 1) (pos 0)
one_turn_second = record {
  index = i;
  found = line (pos 1) (pos 0);
  there = refl;
  subs = refl;
  form = refl;
  line = record { front = refl; past = λ k. refl; value = λ n. refl };
}

one_turn_own : (x y : ℤ) → AreMeeting 1 refl (element "A" i) (value "A" i) 0 0 (element "A" i) (element "A" i) (pos 1) (pos 0) (pos 1) (pos 0) one_turn_first one_turn_first Output refl x y → ⊥
one_turn_own x y m = (let e = m.equal in let f = m.before in let l = m.low in let k = m.high in omega (arith, ints))

one_turn_flow : (x y : ℤ) → AreMeeting 1 refl (element "A" i) (value "A" i) 0 1 (element "A" i) (element "A" i) (pos 1) (pos 0) (pos 1) (pos 0) one_turn_first one_turn_second Flow refl x y → ⊥
one_turn_flow x y m = (let e = m.equal in let f = m.before in let l = m.low in let k = m.high in omega (arith, ints))

one_turn_anti : (x y : ℤ) → AreMeeting 1 refl (element "A" i) (value "A" i) 1 0 (element "A" i) (element "A" i) (pos 1) (pos 0) (pos 1) (pos 0) one_turn_second one_turn_first Anti refl x y → ⊥
one_turn_anti x y m = (let e = m.equal in let f = m.before in let l = m.low in let k = m.high in omega (arith, ints))

pub one_turn_listed : HasOnly one_turn ([]) (drop (at 0) (at 0) Output "A" Trip ∷ drop (at 0) (at 1) Flow "A" Trip ∷ drop (at 1) (at 0) Anti "A" Trip ∷ [])
one_turn_listed g h =
    let t = three_couples 1 refl (element "A" i) (value "A" i) (element "A" i) (element "A" i) refl refl g h in
    let each : (c : Couple) → IsMember c (t.0 ∷ t.1 ∷ t.2 ∷ []) → IsCouple one_turn c =
    λ c j. in_all (IsCouple one_turn) h.couples c h.each (subst (λ (cs : List Couple). IsMember c cs) (sym t.3) j) in
    let own = drops_once 1 refl (element "A" i) (value "A" i) 0 0 (element "A" i) (element "A" i) (pos 1) (pos 0) (pos 1) (pos 0) one_turn_first one_turn_first Output refl (left_one (pos 1)) refl one_turn_own t.0 (each t.0 (inl refl)) t.4 in
    let flow = drops_once 1 refl (element "A" i) (value "A" i) 0 1 (element "A" i) (element "A" i) (pos 1) (pos 0) (pos 1) (pos 0) one_turn_first one_turn_second Flow refl (left_one (pos 1)) refl one_turn_flow t.1 (each t.1 (inr (inl refl))) t.5 in
    let anti = drops_once 1 refl (element "A" i) (value "A" i) 1 0 (element "A" i) (element "A" i) (pos 1) (pos 0) (pos 1) (pos 0) one_turn_second one_turn_first Anti refl (left_one (pos 1)) refl one_turn_anti t.2 (each t.2 (inr (inr (inl refl)))) t.6 in
    let all = t.3 ∙ same_three t.0 t.1 t.2 _ _ _ own flow anti in
    (edges_by h.couples _ g.edges h.edges all, drops_by h.couples _ g.dropped h.dropped all)
