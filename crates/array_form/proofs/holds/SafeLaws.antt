-- Statements that name cells within the declared bounds, as the program asks what was noted of them.
use Rattle.std.proofs.Common.{◌≡◌, refl, sym, ap, ◌∙◌, subst, ℕ, zero, suc, ◌<◌, ◌==◌, Bool, true, false, ◌&&◌, ◌||◌, not, List, [], ◌∷◌, map, length, get_or, Option, Some, None, arith}
use mathlib.Core.Path.{ap₂}
use Rattle.std.specs.Prelude.{All, is_none, is_some}
use Rattle.std.specs.List.{list_all, list_any}
use Rattle.std.specs.Cmp.Lexicographic.{pointwise}
use Rattle.std.proofs.lemmas.List.{length-map}
use Rattle.std.proofs.lemmas.List.Elements.{All-cons, All-nil}
use Rattle.subscripts.specs.declared.affine.Affine.{Affine}
use Rattle.linear_forms.specs.Affines.{IsAffineOf, IsFound}
use Rattle.linear_forms.specs.Linear.{Form}
use Rattle.tree.specs.Plain.{Expression}
use Rattle.tree.specs.View.{bounds_of}
use Rattle.tree.specs.declared.programs.Dim.{Dim}
use Rattle.nest.specs.Bodies.{Standing, nest_statements}
use Rattle.nest.specs.Plain.{Loop, Nest}
use Rattle.array_form.specs.forms.Loops.{FormTrip}
use Rattle.array_form.specs.holds.Bounds as plain
use Rattle.array_form.specs.holds.Bounds.{is_in_box, is_met, is_safe, is_safe_subscript, is_same, is_sized, lies_within, loop_numbers_round, meets, subscripts_of, trips_round}
use Rattle.array_form.specs.holds.Boxes.{trips_of}
use Rattle.array_form.specs.holds.Noted.{AreBounded, AreNoted, HasSmallForm, IsBounded, IsNoted}
use Rattle.array_form.specs.holds.Surroundings.{counted_loop, form_trip_of}
use Rattle.array_form.specs.declared.holds.loops.CountedLoop.{CountedLoop}
use Rattle.array_form.specs.declared.holds.noted.Bounded.{Bounded}
use Rattle.array_form.specs.declared.holds.noted.Noted.{Noted}

-- ---- an equal one among subscripts

abbrev equals : Form → Dim → plain.Bounded → Bool
equals f b q = is_same f q.form && lies_within (bounds_of b) q.bounds

pub none_equal : (n : ℕ) (f : Form) (qs : List plain.Bounded) (bs : List Bounded) (b : Dim) → bs ≡ [] → AreBounded n qs bs
    → false ≡ list_any (λ (q : plain.Bounded). is_same f q.form && lies_within (bounds_of b) q.bounds) qs
none_equal n f [] bs b e h = refl
none_equal n f (q ∷ qs) bs b e h = absurd (subst (AreBounded n (q ∷ qs)) e h)

-- the parts of a list that isn't empty
pub record Front (n : ℕ) (qs : List plain.Bounded) (first : Bounded) (rest : List Bounded) : Type 0 where
  pub q : plain.Bounded
  pub others : List plain.Bounded
  pub are : qs ≡ q ∷ others
  pub is : IsBounded n q first
  pub later : AreBounded n others rest

pub front : (n : ℕ) (qs : List plain.Bounded) (bs rest : List Bounded) (first : Bounded) → bs ≡ first ∷ rest → AreBounded n qs bs → Front n qs first rest
front n [] bs rest first e h = absurd (subst (AreBounded n []) e h)
front n (q ∷ qs) bs rest first e h = let k = subst (AreBounded n (q ∷ qs)) e h in record { q = q; others = qs; are = refl; is = k.0; later = k.1 }

pub equal_then : (n : ℕ) (f : Form) (qs : List plain.Bounded) (first : Bounded) (rest : List Bounded) (b : Dim) (r : Bool) (h : Front n qs first rest)
    → r ≡ (is_same f h.q.form && lies_within (bounds_of b) h.q.bounds) → r ≡ true → r ≡ list_any (λ (q : plain.Bounded). is_same f q.form && lies_within (bounds_of b) q.bounds) qs
equal_then n f qs first rest b r h is t =
    t ∙ sym (ap (list_any (equals f b)) h.are ∙ ap (λ c. c || list_any (equals f b) h.others) (sym is ∙ t))

pub equal_else : (n : ℕ) (f : Form) (qs : List plain.Bounded) (first : Bounded) (rest : List Bounded) (b : Dim) (r s : Bool) (h : Front n qs first rest)
    → r ≡ (is_same f h.q.form && lies_within (bounds_of b) h.q.bounds) → r ≡ false → s ≡ list_any (λ (q : plain.Bounded). is_same f q.form && lies_within (bounds_of b) q.bounds) h.others
    → s ≡ list_any (λ (q : plain.Bounded). is_same f q.form && lies_within (bounds_of b) q.bounds) qs
equal_else n f qs first rest b r s h is not_so more =
    more ∙ sym (ap (list_any (equals f b)) h.are ∙ ap (λ c. c || list_any (equals f b) h.others) (sym is ∙ not_so))

-- ---- a statement that meets it

same_long : (ks ls : List ℕ) → pointwise (λ i j. i == j) ks ls ≡ true → length ks ≡ length ls
same_long [] [] h = refl
same_long [] (l ∷ ls) h = cc
same_long (k ∷ ks) [] h = cc
same_long (k ∷ ks) (l ∷ ls) h = by (k == l) (pointwise (λ i j. i == j) ks ls) h (same_long ks ls)
  where
    by : (b c : Bool) → (b && c) ≡ true → (c ≡ true → length ks ≡ length ls) → length (k ∷ ks) ≡ length (l ∷ ls)
    by true c g more = ap suc (more g)
    by false c g more = cc

unguarded_is : (o : Option Expression) → is_none o ≡ not (is_some o)
unguarded_is None = refl
unguarded_is (Some e) = refl

module _ (n : Nest) (y : Standing) (s : Noted) (loops : List ℕ) (f : Form) (b : Dim) (h : IsNoted n y s) where
  abbrev whole : Bool
  whole = meets n loops f (bounds_of b) y

  abbrev numbers_equal : Bool
  numbers_equal = pointwise (λ i j. i == j) (loop_numbers_round y) loops

  abbrev has_equal : Bool
  has_equal = list_any (λ (q : plain.Bounded). is_same f q.form && lies_within (bounds_of b) q.bounds) (subscripts_of n y)

  whole_is : meets n loops f (bounds_of b) y ≡ (not s.guarded && (pointwise (λ i j. i == j) s.loops loops && has_equal))
  whole_is = ap₂ (λ g ks. g && (pointwise (λ i j. i == j) ks loops && has_equal)) (unguarded_is y.statement.guard ∙ ap not (sym h.guarded)) (sym h.loops)

  pub guarded_no : s.guarded ≡ true → false ≡ meets n loops f (bounds_of b) y
  guarded_no g = sym (whole_is ∙ ap (λ c. not c && (pointwise (λ i j. i == j) s.loops loops && has_equal)) g)

  pub other_loops : (r : Bool) → s.guarded ≡ false → r ≡ pointwise (λ i j. i == j) s.loops loops → r ≡ false → r ≡ meets n loops f (bounds_of b) y
  other_loops r g is not_so =
      not_so ∙ sym (whole_is ∙ (ap (λ c. not c && (pointwise (λ i j. i == j) s.loops loops && has_equal)) g ∙ ap (λ c. c && has_equal) (sym is ∙ not_so)))

  pub same_loops : (r t : Bool) → s.guarded ≡ false → r ≡ pointwise (λ i j. i == j) s.loops loops → r ≡ true
      → t ≡ list_any (λ (q : plain.Bounded). is_same f q.form && lies_within (bounds_of b) q.bounds) (subscripts_of n y) → t ≡ meets n loops f (bounds_of b) y
  same_loops r t g is so answer =
      answer ∙ sym (whole_is ∙ (ap (λ c. not c && (pointwise (λ i j. i == j) s.loops loops && has_equal)) g ∙ ap (λ c. c && has_equal) (sym is ∙ so)))

  -- its subscripts are forms under as many loops
  pub as_deep : (r : Bool) → r ≡ pointwise (λ i j. i == j) s.loops loops → r ≡ true → AreBounded (length loops) (subscripts_of n y) s.subscripts
  as_deep r is so =
      let long : length (loop_numbers_round y) ≡ length loops = same_long (loop_numbers_round y) loops (ap (λ ks. pointwise (λ i j. i == j) ks loops) (sym h.loops) ∙ (sym is ∙ so)) in
      subst (λ d. AreBounded d (subscripts_of n y) s.subscripts) (sym (length-map y.loops (λ (l : Loop). l.number)) ∙ long) h.subscripts

-- ---- one among the statements

pub record FrontNoted (n : Nest) (ys : List Standing) (first : Noted) (rest : List Noted) : Type 0 where
  pub y : Standing
  pub others : List Standing
  pub are : ys ≡ y ∷ others
  pub is : IsNoted n y first
  pub later : AreNoted n others rest

pub front_noted : (n : Nest) (ys : List Standing) (ss rest : List Noted) (first : Noted) → ss ≡ first ∷ rest → AreNoted n ys ss → FrontNoted n ys first rest
front_noted n [] ss rest first e h = absurd (subst (AreNoted n []) e h)
front_noted n (y ∷ ys) ss rest first e h = let k = subst (AreNoted n (y ∷ ys)) e h in record { y = y; others = ys; are = refl; is = k.0; later = k.1 }

pub none_meets : (n : Nest) (ys : List Standing) (ss : List Noted) (p : Standing → Bool) → ss ≡ [] → AreNoted n ys ss → false ≡ list_any p ys
none_meets n [] ss p e h = refl
none_meets n (y ∷ ys) ss p e h = absurd (subst (AreNoted n (y ∷ ys)) e h)

pub meets_then : (n : Nest) (ys : List Standing) (first : Noted) (rest : List Noted) (p : Standing → Bool) (r : Bool) (h : FrontNoted n ys first rest) → r ≡ p h.y → r ≡ true → r ≡ list_any p ys
meets_then n ys first rest p r h is t = t ∙ sym (ap (list_any p) h.are ∙ ap (λ c. c || list_any p h.others) (sym is ∙ t))

pub meets_else : (n : Nest) (ys : List Standing) (first : Noted) (rest : List Noted) (p : Standing → Bool) (r s : Bool) (h : FrontNoted n ys first rest) → r ≡ p h.y → r ≡ false → s ≡ list_any p h.others → s ≡ list_any p ys
meets_else n ys first rest p r s h is not_so more = more ∙ sym (ap (list_any p) h.are ∙ ap (λ c. c || list_any p h.others) (sym is ∙ not_so))

-- ---- safe subscripts

pub bound_form : (n : ℕ) (q : plain.Bounded) (b : Bounded) (a : Affine) → b.form ≡ Some a → IsBounded n q b → (f : Form) × (q.form ≡ Some f) × IsAffineOf n f a
bound_form n q b a e h = by q.form refl (subst (IsFound n q.form) e h.form)
  where
    by : (o : Option Form) → q.form ≡ o → IsFound n o (Some a) → (f : Form) × (q.form ≡ Some f) × IsAffineOf n f a
    by None g k = absurd k
    by (Some f) g k = (f, g, k)

pub not_linear : (n : Nest) (x : Standing) (d : ℕ) (q : plain.Bounded) (b : Bounded) → b.form ≡ None → IsBounded d q b → false ≡ is_safe_subscript n x q
not_linear n x d q b e h = by q.form refl (subst (IsFound d q.form) e h.form)
  where
    by : (o : Option Form) → q.form ≡ o → IsFound d o None → false ≡ is_safe_subscript n x q
    by None g k = sym (ap (λ o. elim o [ None ↦ false | Some f ↦ is_in_box (trips_round x) f q.bounds || is_met n (loop_numbers_round x) f q.bounds ]) g)
    by (Some f) g k = absurd k

module _ (n : Nest) (x : Standing) (q : plain.Bounded) (d : Dim) (f : Form) (form : q.form ≡ Some f) (bounds : q.bounds ≡ bounds_of d) where
  safe_is : is_safe_subscript n x q ≡ (is_in_box (trips_round x) f (bounds_of d) || is_met n (loop_numbers_round x) f (bounds_of d))
  safe_is = ap₂ (λ o b. elim o [ None ↦ false | Some g ↦ is_in_box (trips_round x) g b || is_met n (loop_numbers_round x) g b ]) form bounds

  pub in_box : (ts : List FormTrip) (r : Bool) → ts ≡ trips_round x → r ≡ is_in_box ts f (bounds_of d) → r ≡ true → r ≡ is_safe_subscript n x q
  in_box ts r e is t = t ∙ sym (safe_is ∙ ap (λ c. c || is_met n (loop_numbers_round x) f (bounds_of d)) (ap (λ us. is_in_box us f (bounds_of d)) (sym e) ∙ (sym is ∙ t)))

  pub by_fellow : (ts : List FormTrip) (ks : List ℕ) (r s : Bool) → ts ≡ trips_round x → ks ≡ loop_numbers_round x → r ≡ is_in_box ts f (bounds_of d) → r ≡ false
      → s ≡ list_any (meets n ks f (bounds_of d)) (nest_statements n) → s ≡ is_safe_subscript n x q
  by_fellow ts ks r s e k is not_so answer =
      answer ∙ (ap (λ js. list_any (meets n js f (bounds_of d)) (nest_statements n)) k
      ∙ sym (safe_is ∙ ap (λ c. c || is_met n (loop_numbers_round x) f (bounds_of d)) (ap (λ us. is_in_box us f (bounds_of d)) (sym e) ∙ (sym is ∙ not_so))))

-- ---- all of them

pub none_unsafe : (n : Nest) (x : Standing) (d : ℕ) (qs : List plain.Bounded) (bs : List Bounded) → bs ≡ [] → AreBounded d qs bs → true ≡ list_all (is_safe_subscript n x) qs
none_unsafe n x d [] bs e h = refl
none_unsafe n x d (q ∷ qs) bs e h = absurd (subst (AreBounded d (q ∷ qs)) e h)

pub safe_then : (n : Nest) (x : Standing) (d : ℕ) (qs : List plain.Bounded) (first : Bounded) (rest : List Bounded) (r s : Bool) (h : Front d qs first rest) → r ≡ is_safe_subscript n x h.q → r ≡ true
    → s ≡ list_all (is_safe_subscript n x) h.others → s ≡ list_all (is_safe_subscript n x) qs
safe_then n x d qs first rest r s h is t more =
    more ∙ sym (ap (list_all (is_safe_subscript n x)) h.are ∙ ap (λ c. c && list_all (is_safe_subscript n x) h.others) (sym is ∙ t))

pub safe_else : (n : Nest) (x : Standing) (d : ℕ) (qs : List plain.Bounded) (first : Bounded) (rest : List Bounded) (r : Bool) (h : Front d qs first rest) → r ≡ is_safe_subscript n x h.q → r ≡ false
    → r ≡ list_all (is_safe_subscript n x) qs
safe_else n x d qs first rest r h is not_so =
    not_so ∙ sym (ap (list_all (is_safe_subscript n x)) h.are ∙ ap (λ c. c && list_all (is_safe_subscript n x) h.others) (sym is ∙ not_so))

pub whole_safe : (n : Nest) (x : Standing) (s : Noted) (r : Bool) → IsNoted n x s → s.sized ≡ true → r ≡ list_all (is_safe_subscript n x) (subscripts_of n x) → r ≡ is_safe n x
whole_safe n x s r h t is = is ∙ sym (ap (λ c. c && list_all (is_safe_subscript n x) (subscripts_of n x)) (sym h.sized ∙ t))

pub whole_unsafe : (n : Nest) (x : Standing) (s : Noted) → IsNoted n x s → s.sized ≡ false → s.sized ≡ is_safe n x
whole_unsafe n x s h not_so = not_so ∙ sym (ap (λ c. c && list_all (is_safe_subscript n x) (subscripts_of n x)) (sym h.sized ∙ not_so))

pub not_looked_at : (n : Nest) (x : Standing) (s : Noted) → IsNoted n x s → s.guarded ≡ false → true ≡ (is_none x.statement.guard || is_safe n x)
not_looked_at n x s h f = sym (ap (λ b. b || is_safe n x) (unguarded_is x.statement.guard ∙ ap not (sym h.guarded ∙ f)))

pub guard_there : (n : Nest) (x : Standing) (s : Noted) (r : Bool) → IsNoted n x s → s.guarded ≡ true → r ≡ is_safe n x → r ≡ (is_none x.statement.guard || is_safe n x)
guard_there n x s r h t is = is ∙ sym (ap (λ b. b || is_safe n x) (unguarded_is x.statement.guard ∙ ap not (sym h.guarded ∙ t)))

pub rest_small : (bs rest : List Bounded) (first : Bounded) → bs ≡ first ∷ rest → All HasSmallForm bs → All HasSmallForm rest
rest_small bs rest first e h = λ k d g. subst (All HasSmallForm) e h (suc k) d (omega arith)

-- ---- what is asked

pub small_forms : (d : ℕ) (qs : List plain.Bounded) (bs : List Bounded) → AreBounded d qs bs → All HasSmallForm bs
small_forms d qs [] h = All-nil HasSmallForm
small_forms d [] (b ∷ bs) h = absurd h
small_forms d (q ∷ qs) (b ∷ bs) h = All-cons HasSmallForm b bs h.0.small (small_forms d qs bs h.1)

pub trips_are : (ls : List Loop) (cs : List CountedLoop) → cs ≡ map counted_loop ls → trips_of (length cs) cs ≡ map (λ l. form_trip_of (length ls) (counted_loop l).trip) ls
trips_are ls cs e = ap (λ ds. trips_of (length ds) ds) e ∙ (ap (λ k. trips_of k (map counted_loop ls)) (length-map ls counted_loop) ∙ twice (length ls) ls)
  where
    twice : (k : ℕ) (ms : List Loop) → trips_of k (map counted_loop ms) ≡ map (λ l. form_trip_of k (counted_loop l).trip) ms
    twice k [] = refl
    twice k (m ∷ ms) = ap (λ ts. form_trip_of k (counted_loop m).trip ∷ ts) (twice k ms)

-- the statement in a place
pub noted_at : (n : Nest) (ys : List Standing) (ss : List Noted) (k : ℕ) (d : Standing) (s : Noted) → AreNoted n ys ss → k < length ss → s ≡ get_or ss k s → IsNoted n (get_or ys k d) s
noted_at n ys [] k d s h g e = absurd (omega arith)
noted_at n [] (t ∷ ss) k d s h g e = absurd h
noted_at n (y ∷ ys) (t ∷ ss) zero d s h g e = subst (IsNoted n y) (sym e) h.0
noted_at n (y ∷ ys) (t ∷ ss) (suc k) d s h g e = noted_at n ys ss k d s h.1 (omega arith) e
