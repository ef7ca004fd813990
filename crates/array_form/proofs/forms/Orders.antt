-- The loops of a statement in the order of its left subscripts.
use Rattle.std.proofs.Common.{◌≡◌, ◌≢◌, refl, sym, ap, ◌∙◌, subst, ◌⊎◌, inl, inr, ℕ, zero, suc, ◌+◌, ◌-◌, ◌≤◌, ◌==◌, Bool, true, false, cond, ◌&&◌, ◌||◌, List, [], ◌∷◌, ◌++◌, drop, length, filter, arith, Contains, Some, None, nat_le, not, pos}
use Rattle.std.specs.List.{list_all, list_any}
use Rattle.std.specs.Ordering.{int_eq}
use Rattle.std.proofs.lemmas.Bool.Decides.{Decides-int_eq}
use Rattle.std.specs.Str.{bytes_eq}
use Rattle.std.proofs.lemmas.Bool.{eqb-true, le-leb}
use Rattle.std.proofs.lemmas.List.Elements.{Contains-append_left, Contains-append_right, Contains-append_cases}
use Rattle.std.proofs.lemmas.Slice.Eq.{bytes_eq-Decides}
use mathlib.Core.Path.{ap₂}
use Rattle.tree.specs.Plain.{Reference, Subscripts, no_subscripts, subscript}
use Rattle.meaning.specs.Reads.{names_in_subscript}
use Rattle.meaning_laws.proofs.arrays.Members.{here, there, nowhere, cases_of}
use Rattle.linear_forms.proofs.Sizes.{both}
use Rattle.array_form.specs.forms.Loops.{FormLoop, FormSurroundings, form_variables_of, form_names_of, is_among, loops_among}
use Rattle.array_form.specs.forms.Loops.{loops_in_order, one_each, coefficient}
use Rattle.array_form.specs.forms.Trips.{AreDistinct}
use Rattle.array_form.specs.forms.Statements.{HoldCause, loops_from, subscript_occurrences, is_linear_subscript, are_formed, has_form, depends_on, is_triangle, unguarded_hold, loops_assigned}
use Rattle.array_form.proofs.forms.Names.{among}
use Rattle.array_form.proofs.forms.Values.{variable_in}

-- ---- members of a filtered list

pub in_filter : (t : FormLoop → Bool) (ls : List FormLoop) (m : FormLoop) → Contains ls m → t m ≡ true → Contains (filter t ls) m
in_filter t [] m h e = absurd (nowhere m h)
in_filter t (l ∷ ls) m h e = by (t l) refl (cases_of l ls m h) (λ k. in_filter t ls m k e)
  where
    by : (b : Bool) → t l ≡ b → (l ≡ m) ⊎ Contains ls m → (Contains ls m → Contains (filter t ls) m) → Contains (cond b (l ∷ filter t ls) (filter t ls)) m
    by true p (inl q) more = subst (Contains (l ∷ filter t ls)) q (here l (filter t ls))
    by true p (inr k) more = there l (filter t ls) m (more k)
    by false p (inl q) more = absurd (let bad : false ≡ true = sym p ∙ (ap t q ∙ e) in cc)
    by false p (inr k) more = more k

pub of_filter : (t : FormLoop → Bool) (ls : List FormLoop) (m : FormLoop) → Contains (filter t ls) m → Contains ls m × (t m ≡ true)
of_filter t [] m h = absurd (nowhere m h)
of_filter t (l ∷ ls) m h = by (t l) refl h (of_filter t ls m)
  where
    further : (Contains (filter t ls) m → Contains ls m × (t m ≡ true)) → Contains (filter t ls) m → Contains (l ∷ ls) m × (t m ≡ true)
    further more k = let r = more k in (there l ls m r.0, r.1)

    by : (b : Bool) → t l ≡ b → Contains (cond b (l ∷ filter t ls) (filter t ls)) m → (Contains (filter t ls) m → Contains ls m × (t m ≡ true)) → Contains (l ∷ ls) m × (t m ≡ true)
    by false p h more = further more h
    by true p h more = one (cases_of l (filter t ls) m h)
      where
        one : (l ≡ m) ⊎ Contains (filter t ls) m → Contains (l ∷ ls) m × (t m ≡ true)
        one (inl e) = (subst (Contains (l ∷ ls)) e (here l ls), ap t (sym e) ∙ p)
        one (inr k) = further more k

abbrev pub stands_in_names : List (List ℕ) → FormLoop → Bool
stands_in_names names l = is_among names l.variable

pub loop_of : (ls : List FormLoop) (x : List ℕ) → is_among (form_variables_of ls) x ≡ true → (l : FormLoop) × Contains ls l × (l.variable ≡ x)
loop_of [] x h = absurd cc
loop_of (l ∷ ls) x h = by (bytes_eq l.variable x) refl h (loop_of ls x)
  where
    by : (b : Bool) → bytes_eq l.variable x ≡ b → cond b true (is_among (form_variables_of ls) x) ≡ true → (is_among (form_variables_of ls) x ≡ true → (m : FormLoop) × Contains ls m × (m.variable ≡ x)) → (m : FormLoop) × Contains (l ∷ ls) m × (m.variable ≡ x)
    by true e h more = (l, here l ls, (bytes_eq-Decides l.variable x).0 e)
    by false e h more = let r = more h in (r.0, there l ls r.0 r.1, r.2)

unless : (b : Bool) → (b ≡ true → ⊥) → b ≡ false
unless true h = absurd (h refl)
unless false h = refl

-- ---- distinct loops

pub filter_among : (t : FormLoop → Bool) (ls : List FormLoop) (x : List ℕ) → is_among (form_variables_of ls) x ≡ false → is_among (form_variables_of (filter t ls)) x ≡ false
filter_among t ls x h = unless (is_among (form_variables_of (filter t ls)) x) (λ e.
    let l = loop_of (filter t ls) x e in
    let m = of_filter t ls l.0 l.1 in
    let found = among (form_variables_of ls) l.0.variable (variable_in ls l.0 m.0) in
    let bad : false ≡ true = sym h ∙ (ap (is_among (form_variables_of ls)) (sym l.2) ∙ found) in absurd cc)

pub filter_distinct : (t : FormLoop → Bool) (ls : List FormLoop) → AreDistinct (form_variables_of ls) → AreDistinct (form_variables_of (filter t ls))
filter_distinct t [] d = tt
filter_distinct t (l ∷ ls) d = by (t l) (filter_distinct t ls d.1)
  where
    by : (b : Bool) → AreDistinct (form_variables_of (filter t ls)) → AreDistinct (form_variables_of (cond b (l ∷ filter t ls) (filter t ls)))
    by true more = (filter_among t ls l.variable d.0, more)
    by false more = more

variables_append : (ls ms : List FormLoop) → form_variables_of (ls ++ ms) ≡ form_variables_of ls ++ form_variables_of ms
variables_append [] ms = refl
variables_append (l ∷ ls) ms = ap (λ xs. l.variable ∷ xs) (variables_append ls ms)

among_none : (ys zs : List (List ℕ)) (x : List ℕ) → is_among ys x ≡ false → is_among zs x ≡ false → is_among (ys ++ zs) x ≡ false
among_none [] zs x h k = k
among_none (y ∷ ys) zs x h k = by (bytes_eq y x) h (among_none ys zs x)
  where
    by : (b : Bool) → cond b true (is_among ys x) ≡ false → (is_among ys x ≡ false → is_among zs x ≡ false → is_among (ys ++ zs) x ≡ false) → cond b true (is_among (ys ++ zs) x) ≡ false
    by true h more = absurd cc
    by false h more = more h k

distinct_append : (ys zs : List (List ℕ)) → AreDistinct ys → AreDistinct zs → ((x : List ℕ) → Contains ys x → is_among zs x ≡ false) → AreDistinct (ys ++ zs)
distinct_append [] zs d e h = e
distinct_append (y ∷ ys) zs d e h = (among_none ys zs y d.0 (h y (here y ys)), distinct_append ys zs d.1 e (λ x k. h x (there y ys x k)))

pub distinct_front : (ys zs : List (List ℕ)) → AreDistinct (ys ++ zs) → AreDistinct ys
distinct_front [] zs d = tt
distinct_front (y ∷ ys) zs d = (unless (is_among ys y) (λ e. let bad : false ≡ true = sym d.0 ∙ front ys e in absurd cc), distinct_front ys zs d.1)
  where
    front : (ws : List (List ℕ)) → is_among ws y ≡ true → is_among (ws ++ zs) y ≡ true
    front [] h = absurd cc
    front (w ∷ ws) h = by (bytes_eq w y) h (front ws)
      where
        by : (b : Bool) → cond b true (is_among ws y) ≡ true → (is_among ws y ≡ true → is_among (ws ++ zs) y ≡ true) → cond b true (is_among (ws ++ zs) y) ≡ true
        by true h more = refl
        by false h more = more h

pub distinct_drop : (n : ℕ) (ls : List FormLoop) → AreDistinct (form_variables_of ls) → AreDistinct (form_variables_of (drop n ls))
distinct_drop zero ls d = d
distinct_drop (suc n) [] d = tt
distinct_drop (suc n) (l ∷ ls) d = distinct_drop n ls d.1

pub of_drop : (n : ℕ) (ls : List FormLoop) (m : FormLoop) → Contains (drop n ls) m → Contains ls m
of_drop zero ls m h = h
of_drop (suc n) [] m h = h
of_drop (suc n) (l ∷ ls) m h = there l ls m (of_drop n ls m h)

-- ---- loops in the order of subscripts

module _ (mine : List FormLoop) where
  pub all_of_mine : (ps : Subscripts) (m : FormLoop) → Contains (loops_in_order mine ps) m → Contains mine m
  all_of_mine no_subscripts m h = absurd (nowhere m h)
  all_of_mine (subscript p ps) m h = by (Contains-append_cases (loops_among mine (names_in_subscript p)) (loops_in_order mine ps) m h) (all_of_mine ps m)
    where
      by : Contains (loops_among mine (names_in_subscript p)) m ⊎ Contains (loops_in_order mine ps) m → (Contains (loops_in_order mine ps) m → Contains mine m) → Contains mine m
      by (inl k) more = (of_filter (stands_in_names (names_in_subscript p)) mine m k).0
      by (inr k) more = more k

  -- a loop that stands in a subscript is among them
  pub in_order : (ps : Subscripts) (m : FormLoop) → Contains mine m → 1 ≤ subscript_occurrences m.variable ps → Contains (loops_in_order mine ps) m
  in_order no_subscripts m h k = absurd (omega (arith, k))
  in_order (subscript p ps) m h k = by (is_among (names_in_subscript p) m.variable) refl k (in_order ps m h)
    where
      by : (b : Bool) → is_among (names_in_subscript p) m.variable ≡ b → 1 ≤ cond b 1 0 + subscript_occurrences m.variable ps → (1 ≤ subscript_occurrences m.variable ps → Contains (loops_in_order mine ps) m)
          → Contains (loops_among mine (names_in_subscript p) ++ loops_in_order mine ps) m
      by true e k more = Contains-append_left (loops_among mine (names_in_subscript p)) (loops_in_order mine ps) m (in_filter (stands_in_names (names_in_subscript p)) mine m h e)
      by false e k more = Contains-append_right (loops_among mine (names_in_subscript p)) (loops_in_order mine ps) m (more (omega (arith, k)))

  -- one that stands in none isn't
  no_occurrence : (ps : Subscripts) (x : List ℕ) → subscript_occurrences x ps ≡ 0 → is_among (form_variables_of (loops_in_order mine ps)) x ≡ false
  no_occurrence no_subscripts x h = refl
  no_occurrence (subscript p ps) x h =
      ap (λ ys. is_among ys x) (variables_append (loops_among mine (names_in_subscript p)) (loops_in_order mine ps))
      ∙ among_none (form_variables_of (loops_among mine (names_in_subscript p))) (form_variables_of (loops_in_order mine ps)) x (by (is_among (names_in_subscript p) x) refl h) (no_occurrence ps x (later (is_among (names_in_subscript p) x) h))
    where
      later : (b : Bool) → cond b 1 0 + subscript_occurrences x ps ≡ 0 → subscript_occurrences x ps ≡ 0
      later true h = absurd (omega (arith, h))
      later false h = omega (arith, h)

      by : (b : Bool) → is_among (names_in_subscript p) x ≡ b → cond b 1 0 + subscript_occurrences x ps ≡ 0 → is_among (form_variables_of (loops_among mine (names_in_subscript p))) x ≡ false
      by true e h = absurd (omega (arith, h))
      by false e h = unless (is_among (form_variables_of (loops_among mine (names_in_subscript p))) x) (λ f.
          let l = loop_of (loops_among mine (names_in_subscript p)) x f in
          let m = of_filter (stands_in_names (names_in_subscript p)) mine l.0 l.1 in
          let bad : false ≡ true = sym e ∙ (ap (is_among (names_in_subscript p)) (sym l.2) ∙ m.1) in absurd cc)

  pub order_distinct : AreDistinct (form_variables_of mine) → (ps : Subscripts) → ((l : FormLoop) → Contains mine l → subscript_occurrences l.variable ps ≤ 1) → AreDistinct (form_variables_of (loops_in_order mine ps))
  order_distinct d no_subscripts h = tt
  order_distinct d (subscript p ps) h =
      subst AreDistinct (sym (variables_append (loops_among mine (names_in_subscript p)) (loops_in_order mine ps)))
      (distinct_append (form_variables_of (loops_among mine (names_in_subscript p))) (form_variables_of (loops_in_order mine ps)) (filter_distinct (stands_in_names (names_in_subscript p)) mine d)
      (order_distinct d ps (λ l k. let all = h l k in fewer (is_among (names_in_subscript p) l.variable) (subscript_occurrences l.variable ps) all)) apart)
    where
      fewer : (b : Bool) (n : ℕ) → cond b 1 0 + n ≤ 1 → n ≤ 1
      fewer true n k = omega (arith, k)
      fewer false n k = omega (arith, k)

      apart : (x : List ℕ) → Contains (form_variables_of (loops_among mine (names_in_subscript p))) x → is_among (form_variables_of (loops_in_order mine ps)) x ≡ false
      apart x k =
          let l = loop_of (loops_among mine (names_in_subscript p)) x (among (form_variables_of (loops_among mine (names_in_subscript p))) x k) in
          let m = of_filter (stands_in_names (names_in_subscript p)) mine l.0 l.1 in
          let all = h l.0 m.0 in
          let one : ◌≡◌ {A = ℕ} (cond (is_among (names_in_subscript p) l.0.variable) 1 0) 1 = ap (λ b. cond b 1 0) m.1 in
          no_occurrence ps x (subst (λ y. subscript_occurrences y ps ≡ 0) l.2 (omega (arith, all, one)))

-- ---- the same loops in another order, by the texts that have one of them

module _ (D mine : List FormLoop) (d : AreDistinct (form_variables_of D)) (into : (l : FormLoop) → Contains D l → Contains mine l) (onto : (l : FormLoop) → Contains mine l → Contains D l) where
  abbrev in_mine : List (List ℕ) → List FormLoop
  in_mine names = loops_among mine names

  same_part : (names : List (List ℕ)) → length (loops_among mine names) ≤ 1 → loops_among D names ≡ loops_among mine names
  same_part names few = by (loops_among D names) refl (loops_among mine names) refl few
    where
      moved : (l : FormLoop) → Contains (loops_among D names) l → Contains (loops_among mine names) l
      moved l h = let r = of_filter (stands_in_names names) D l h in in_filter (stands_in_names names) mine l (into l r.0) r.1

      back : (l : FormLoop) → Contains (loops_among mine names) l → Contains (loops_among D names) l
      back l h = let r = of_filter (stands_in_names names) mine l h in in_filter (stands_in_names names) D l (onto l r.0) r.1

      sole : (m l : FormLoop) → Contains (m ∷ []) l → m ≡ l
      sole m l h = of (cases_of m [] l h)
        where
          of : (m ≡ l) ⊎ Contains [] l → m ≡ l
          of (inl e) = e
          of (inr k) = absurd (nowhere l k)

      by : (ls : List FormLoop) → loops_among D names ≡ ls → (ms : List FormLoop) → loops_among mine names ≡ ms → length ms ≤ 1 → ls ≡ ms
      by [] e [] f k = refl
      by (l ∷ ls) e [] f k = absurd (nowhere l (subst (λ xs. Contains xs l) f (moved l (subst (λ xs. Contains xs l) (sym e) (here l ls)))))
      by [] e (m ∷ ms) f k = absurd (nowhere m (subst (λ xs. Contains xs m) e (back m (subst (λ xs. Contains xs m) (sym f) (here m ms)))))
      by (l ∷ []) e (m ∷ []) f k = ap (λ (x : FormLoop). x ∷ []) (sym (sole m l (subst (λ xs. Contains xs l) f (moved l (subst (λ xs. Contains xs l) (sym e) (here l []))))))
      by (l ∷ j ∷ ls) e (m ∷ []) f k =
          let one = sole m l (subst (λ xs. Contains xs l) f (moved l (subst (λ xs. Contains xs l) (sym e) (here l (j ∷ ls))))) in
          let two = sole m j (subst (λ xs. Contains xs j) f (moved j (subst (λ xs. Contains xs j) (sym e) (there l (j ∷ ls) j (here j ls))))) in
          let apart : AreDistinct (form_variables_of (l ∷ j ∷ ls)) = subst (λ xs. AreDistinct (form_variables_of xs)) e (filter_distinct (stands_in_names names) D d) in
          let found : is_among (form_variables_of (j ∷ ls)) l.variable ≡ true = among (form_variables_of (j ∷ ls)) l.variable (subst (λ (x : FormLoop). Contains (form_variables_of (j ∷ ls)) x.variable) (sym two ∙ one) (here j.variable (form_variables_of ls))) in
          absurd (let bad : false ≡ true = sym apart.0 ∙ found in cc)
      by ls e (m ∷ n ∷ ms) f k = absurd (omega (arith, k))

  -- each subscript has one of them at most
  abbrev pub OneEach : Subscripts → Type 0
  OneEach no_subscripts = Unit {0}
  OneEach (subscript p ps) = (length (loops_among mine (names_in_subscript p)) ≤ 1) × OneEach ps

  pub same_order : (ps : Subscripts) → OneEach ps → loops_in_order D ps ≡ loops_in_order mine ps
  same_order no_subscripts h = refl
  same_order (subscript p ps) h = ap₂ (λ (xs ys : List FormLoop). xs ++ ys) (same_part (names_in_subscript p) h.0) (same_order ps h.1)

  pub one_each_of : (ps : Subscripts) → OneEach ps → one_each D ps ≡ true
  one_each_of no_subscripts h = refl
  one_each_of (subscript p ps) h =
      let few = h.0 in
      ap₂ (λ (x y : Bool). x && y) (ap (λ (xs : List FormLoop). nat_le (length xs) 1) (same_part (names_in_subscript p) h.0) ∙ le-leb (length (loops_among mine (names_in_subscript p))) 1 few) (one_each_of ps h.1)

-- ---- what no hold says

formed_few : (a : FormSurroundings) (mine : List FormLoop) (ps : Subscripts) (D : List FormLoop) (d : AreDistinct (form_variables_of D)) (into : (l : FormLoop) → Contains D l → Contains mine l) (onto : (l : FormLoop) → Contains mine l → Contains D l)
    → are_formed a mine ps ≡ true → OneEach D mine d into onto ps
formed_few a mine no_subscripts D d into onto h = tt
formed_few a mine (subscript p ps) D d into onto h =
    let parts = both ((length (loops_among mine (names_in_subscript p)) == 0) || ((length (loops_among mine (names_in_subscript p)) == 1) && is_linear_subscript a p)) (are_formed a mine ps) h in
    (few (length (loops_among mine (names_in_subscript p))) (is_linear_subscript a p) parts.0, formed_few a mine ps D d into onto parts.1)
  where
    few : (n : ℕ) (b : Bool) → ((n == 0) || ((n == 1) && b)) ≡ true → n ≤ 1
    few n b h = by (n == 0) refl (n == 1) refl h
      where
        by : (p : Bool) → (n == 0) ≡ p → (q : Bool) → (n == 1) ≡ q → (p || (q && b)) ≡ true → n ≤ 1
        by true e q f h = let none = eqb-true n 0 e in omega (arith, none)
        by false e true f h = let one = eqb-true n 1 f in omega (arith, one)
        by false e false f h = absurd cc

each_once : (ps : Subscripts) (mine : List FormLoop) → list_all (λ (l : FormLoop). subscript_occurrences l.variable ps == 1) mine ≡ true → (l : FormLoop) → Contains mine l → subscript_occurrences l.variable ps ≡ 1
each_once ps [] h l c = absurd (nowhere l c)
each_once ps (m ∷ mine) h l c = by (both (subscript_occurrences m.variable ps == 1) (list_all (λ (l : FormLoop). subscript_occurrences l.variable ps == 1) mine) h) (cases_of m mine l c) (λ k. each_once ps mine k l)
  where
    by : ((subscript_occurrences m.variable ps == 1) ≡ true) × (list_all (λ (l : FormLoop). subscript_occurrences l.variable ps == 1) mine ≡ true) → (m ≡ l) ⊎ Contains mine l
        → (list_all (λ (l : FormLoop). subscript_occurrences l.variable ps == 1) mine ≡ true → Contains mine l → subscript_occurrences l.variable ps ≡ 1) → subscript_occurrences l.variable ps ≡ 1
    by p (inl e) more = subst (λ (k : FormLoop). subscript_occurrences k.variable ps ≡ 1) e (eqb-true (subscript_occurrences m.variable ps) 1 p.0)
    by p (inr k) more = more p.1 k

-- D has the same loops, each once, and the left subscripts have each of them in one subscript of its own
pub record Ordered (mine : List FormLoop) (ps : Subscripts) (D : List FormLoop) : Type 0 where
  pub distinct : AreDistinct (form_variables_of D)
  pub into : (l : FormLoop) → Contains D l → Contains mine l
  pub onto : (l : FormLoop) → Contains mine l → Contains D l
  pub same : loops_in_order D ps ≡ D
  pub ones : one_each D ps ≡ true

no_hold_form : (a : FormSurroundings) (k : ℕ) (left : Reference) → unguarded_hold a k left ≡ None → has_form a (loops_from a k) left.subscripts ≡ true
no_hold_form a k left h = by (has_form a (loops_from a k) left.subscripts) refl
  where
    by : (b : Bool) → has_form a (loops_from a k) left.subscripts ≡ b → b ≡ true
    by true e = refl
    by false e = absurd (let bad : Some HoldCause.FormHold ≡ None = ap (λ b. cond (not b) (Some HoldCause.FormHold) (cond (is_triangle a (loops_from a k)) (Some HoldCause.TriangleHold) None)) (sym e) ∙ h in cc)

pub ordered_loops : (a : FormSurroundings) (k : ℕ) (left : Reference) → AreDistinct (form_names_of a) → unguarded_hold a k left ≡ None → Ordered (loops_from a k) left.subscripts (loops_assigned a k left)
ordered_loops a k left d h =
    let ps = left.subscripts in
    let mine = loops_from a k in
    let D = loops_in_order mine ps in
    let form = both (list_all (λ (l : FormLoop). subscript_occurrences l.variable ps == 1) mine) (are_formed a mine ps) (no_hold_form a k left h) in
    let once = each_once ps mine form.0 in
    let distinct : AreDistinct (form_variables_of D) = order_distinct mine (distinct_drop (k - 1) a.loops (distinct_front (form_variables_of a.loops) a.symbols d)) ps (λ l c. let e = once l c in omega (arith, e)) in
    let into : (l : FormLoop) → Contains D l → Contains mine l = all_of_mine mine ps in
    let onto : (l : FormLoop) → Contains mine l → Contains D l = λ l c. let e = once l c in in_order mine ps l c (omega (arith, e)) in
    let few = formed_few a mine ps D distinct into onto form.1 in
    record { distinct = distinct; into = into; onto = onto; same = same_order D mine distinct into onto ps few; ones = one_each_of D mine distinct into onto ps few }

-- ---- no trip has the variable of another loop

no_depending : (a : FormSurroundings) (l : FormLoop) (ms : List FormLoop) → list_any (depends_on a l) ms ≡ false → (m : FormLoop) → Contains ms m → l.variable ≢ m.variable → coefficient (form_names_of a) m.variable l.trip.form.coefficients ≡ pos 0
no_depending a l [] h m c n = absurd (nowhere m c)
no_depending a l (j ∷ ms) h m c n = by (neither (depends_on a l j) (list_any (depends_on a l) ms) h) (cases_of j ms m c) (λ g k. no_depending a l ms g m k n)
  where
    neither : (p q : Bool) → (p || q) ≡ false → (p ≡ false) × (q ≡ false)
    neither true q h = absurd cc
    neither false q h = (refl, h)

    itself : (j : FormLoop) → l.variable ≢ j.variable → depends_on a l j ≡ false → coefficient (form_names_of a) j.variable l.trip.form.coefficients ≡ pos 0
    itself j n e = of (bytes_eq l.variable j.variable) refl (int_eq (coefficient (form_names_of a) j.variable l.trip.form.coefficients) (pos 0)) refl e
      where
        of : (p : Bool) → bytes_eq l.variable j.variable ≡ p → (q : Bool) → int_eq (coefficient (form_names_of a) j.variable l.trip.form.coefficients) (pos 0) ≡ q → (not p && not q) ≡ false
            → coefficient (form_names_of a) j.variable l.trip.form.coefficients ≡ pos 0
        of true f q g h = absurd (n ((bytes_eq-Decides l.variable j.variable).0 f))
        of false f true g h = (Decides-int_eq (coefficient (form_names_of a) j.variable l.trip.form.coefficients) (pos 0)).0 g
        of false f false g h = absurd cc

    by : (depends_on a l j ≡ false) × (list_any (depends_on a l) ms ≡ false) → (j ≡ m) ⊎ Contains ms m → (list_any (depends_on a l) ms ≡ false → Contains ms m → coefficient (form_names_of a) m.variable l.trip.form.coefficients ≡ pos 0)
        → coefficient (form_names_of a) m.variable l.trip.form.coefficients ≡ pos 0
    by p (inl e) more = subst (λ (i : FormLoop). coefficient (form_names_of a) i.variable l.trip.form.coefficients ≡ pos 0) e (itself j (λ q. n (q ∙ ap (λ (i : FormLoop). i.variable) e)) p.0)
    by p (inr g) more = more p.1 g

none_depends : (a : FormSurroundings) (ls ms : List FormLoop) → list_any (λ (l : FormLoop). list_any (depends_on a l) ms) ls ≡ false → (l : FormLoop) → Contains ls l → list_any (depends_on a l) ms ≡ false
none_depends a [] ms h l c = absurd (nowhere l c)
none_depends a (j ∷ ls) ms h l c = by (list_any (depends_on a j) ms) refl h (cases_of j ls l c) (λ g k. none_depends a ls ms g l k)
  where
    by : (p : Bool) → list_any (depends_on a j) ms ≡ p → (p || list_any (λ (l : FormLoop). list_any (depends_on a l) ms) ls) ≡ false → (j ≡ l) ⊎ Contains ls l
        → (list_any (λ (l : FormLoop). list_any (depends_on a l) ms) ls ≡ false → Contains ls l → list_any (depends_on a l) ms ≡ false) → list_any (depends_on a l) ms ≡ false
    by true e h c more = absurd cc
    by false e h (inl q) more = subst (λ (i : FormLoop). list_any (depends_on a i) ms ≡ false) q e
    by false e h (inr g) more = more h g

pub no_triangle : (a : FormSurroundings) (k : ℕ) (left : Reference) → unguarded_hold a k left ≡ None → (l m : FormLoop) → Contains (loops_from a k) l → Contains (loops_from a k) m → l.variable ≢ m.variable
    → coefficient (form_names_of a) m.variable l.trip.form.coefficients ≡ pos 0
no_triangle a k left h l m p q n = no_depending a l (loops_from a k) (none_depends a (loops_from a k) (loops_from a k) (by (is_triangle a (loops_from a k)) refl) l p) m q n
  where
    by : (b : Bool) → is_triangle a (loops_from a k) ≡ b → b ≡ false
    by false e = refl
    by true e = absurd (let bad : Some HoldCause.TriangleHold ≡ None = ap₂ (λ b c. cond (not b) (Some HoldCause.FormHold) (cond c (Some HoldCause.TriangleHold) None)) (sym (no_hold_form a k left h)) (sym e) ∙ h in cc)
