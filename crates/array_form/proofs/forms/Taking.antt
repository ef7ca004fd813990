-- Every form has, position by position, the values of its expression.
use Rattle.std.proofs.Common.{◌≡◌, refl, sym, ap, ◌∙◌, subst, ◌⊎◌, inl, inr, ℕ, suc, ◌-◌, ◌≤◌, ◌<◌, ℤ, pos, Bool, true, false, cond, ◌&&◌, ◌||◌, not, List, [], ◌∷◌, ◌++◌, map, Result, Ok, Err, Option, Some, None, arith, Contains}
use Rattle.std.specs.Str.{bytes_eq}
use Rattle.std.proofs.lemmas.Slice.Eq.{bytes_eq-Decides}
use mathlib.Core.Path.{ap₂}
use Rattle.tree.specs.Operators.{apply, call, as_number}
use Rattle.tree.specs.Plain.{Expression, Number, Logic, Named, Unary, Binary, Apply, Constructor, Spread, Transpose, Reshape, Reduce, Expressions, no_expressions, expression, Subscript, Only, Section, Subscripts, no_subscripts, subscript}
use Rattle.tree.specs.Steps.{◌>>=◌}
use Rattle.tree.specs.declared.ops.Fault.{Fault}
use Rattle.tree.specs.declared.ops.Fault.TheVariants.{Allocated}
use Rattle.tree.specs.declared.ops.Value.{Value}
use Rattle.meaning.specs.ArrayStatements.{axes_named}
use Rattle.meaning.specs.ArrayValues.{Elements, settled, positions}
use Rattle.meaning.specs.Dialect.{Dialect}
use Rattle.meaning.specs.Reads.{names_in, names_in_subscripts, names_in_subscript}
use Rattle.meaning.specs.Sections.{extents_of, cells_along}
use Rattle.meaning.specs.Store.{Store, cell_in, cell_at, is_within}
use Rattle.meaning.specs.Value.{value_of, values_of, subscript_value, subscript_values, selectors, bound_to}
use Rattle.meaning_laws.proofs.arrays.Members.{here, there, nowhere, cases_of}
use Rattle.meaning_laws.proofs.arrays.Sections.{section_of, element_of_section}
use Rattle.meaning_laws.proofs.arrays.Stages.{bound, same_answer}
use Rattle.linear_forms.specs.Linear.{Form, HaveValues, form_of}
use Rattle.linear_forms.proofs.Sizes.{both}
use Rattle.array_form.specs.forms.Following.{has_no_loop, is_moved, is_regular, are_regular, are_regular_subscripts}
use Rattle.array_form.specs.forms.Forms.{placed_expression, constructed, name_form, form, forms, subscript_forms}
use Rattle.array_form.specs.forms.Instances.{at_iterations, count_of, counts_of}
use Rattle.array_form.specs.forms.Laws.{AreKnown, AreTurning, FormHasInstanceValues}
use Rattle.array_form.specs.forms.Loops.{FormLoop, FormSurroundings, form_variables_of, form_names_of, is_among, loops_among}
use Rattle.array_form.specs.forms.Loops.{loops_in_order, one_each}
use Rattle.array_form.specs.forms.Trips.{AreDistinct}
use Rattle.array_form.proofs.forms.Axes as axes
use Rattle.array_form.proofs.forms.Axes.{Fit, Within, NoFault, Takes, Vectors, places, stays}
use Rattle.array_form.proofs.forms.Forming.{unary, binary, HasEach, no_arguments, one_argument, applied, none_append}
use Rattle.array_form.proofs.forms.Iterations.{iterations, at_those, bounds_at, value_part}
use Rattle.array_form.proofs.forms.Names.{among, among_is}
use Rattle.array_form.proofs.forms.Orders.{in_filter, of_filter, filter_distinct, all_of_mine}
use Rattle.array_form.proofs.forms.Placing.{fit, Over, value_there, has_value, constructed_over, placed_over}
use Rattle.array_form.proofs.forms.Values.{by_position}

scalar_name : (names : List (List ℕ)) (s : Store) (xs : List ℤ) (x : List ℕ) → HaveValues names s xs → is_among names x ≡ true → s.bounds x ≡ Some []
scalar_name [] s xs x h e = absurd cc
scalar_name (y ∷ ys) s [] x h e = absurd h
scalar_name (y ∷ ys) s (v ∷ xs) x h e = by (bytes_eq y x) refl e (scalar_name ys s xs x h.2)
  where
    by : (b : Bool) → bytes_eq y x ≡ b → cond b true (is_among ys x) ≡ true → (is_among ys x ≡ true → s.bounds x ≡ Some []) → s.bounds x ≡ Some []
    by true p e more = ap s.bounds (sym ((bytes_eq-Decides y x).0 p)) ∙ h.0
    by false p e more = more e

none_in_order : (D : List FormLoop) (ps : Subscripts) → has_no_loop (loops_in_order D ps) ≡ has_no_loop (loops_among D (names_in_subscripts ps))
none_in_order D no_subscripts = sym (nothing D)
  where
    nothing : (ls : List FormLoop) → has_no_loop (loops_among ls []) ≡ true
    nothing [] = refl
    nothing (l ∷ ls) = nothing ls
none_in_order D (subscript p ps) = of_both (loops_among D (names_in_subscript p)) (loops_in_order D ps) ∙ (ap (λ b. has_no_loop (loops_among D (names_in_subscript p)) && b) (none_in_order D ps) ∙ sym (none_append D (names_in_subscript p) (names_in_subscripts ps)))
  where
    of_both : (ls ms : List FormLoop) → has_no_loop (ls ++ ms) ≡ (has_no_loop ls && has_no_loop ms)
    of_both [] ms = refl
    of_both (l ∷ ls) ms = refl

first_loop : (ls : List FormLoop) → has_no_loop ls ≡ false → (l : FormLoop) × Contains ls l
first_loop [] h = absurd cc
first_loop (l ∷ ls) h = (l, here l ls)

no_member : (ls : List FormLoop) → has_no_loop ls ≡ true → (l : FormLoop) → Contains ls l → ⊥
no_member [] h l c = nowhere l c
no_member (m ∷ ls) h l c = absurd cc

module _ (d : Dialect) (bits : 31 ≤ d.bits) (a : FormSurroundings) (D : List FormLoop) (s : Store) (xs : List ℤ) (k : AreKnown a s xs) (t : AreTurning a D xs) where
  abbrev fits : Fit d a s xs k.few k.values k.sized k.distinct D
  fits = fit d bits a D s xs k t

  abbrev In : (List ℕ → ℕ) → Type 0
  In ι = Within d a s xs k.few k.values k.sized k.distinct D ι

  abbrev spots : (List ℕ → ℕ) → List FormLoop → List ℕ
  spots ι ls = places d a s xs k.few k.values k.sized k.distinct ι ls

  abbrev Safe : Expression → Type 0
  Safe e = NoFault d a s xs k.few k.values k.sized k.distinct D e

  abbrev Has : Expression → Expression → Type 0
  Has e F = Takes d a s xs k.few k.values k.sized k.distinct D e F

  abbrev OverThese : List FormLoop → Expression → ((List ℕ → ℕ) → Value) → Type 0
  OverThese ls F V = Over d bits a D s xs k t ls F V

  abbrev pub Vecs : Subscripts → Type 0
  Vecs ps = Vectors d a s xs k.few k.values k.sized k.distinct D ps

  abbrev value : Expression → (List ℕ → ℕ) → Value
  value e = value_there d bits a D s xs k t e

  abbrev no_loops_in : Expression → Bool
  no_loops_in e = has_no_loop (loops_among D (names_in e))

  from_over : (e F : Expression) → Safe e → no_loops_in e ≡ false → OverThese D F (value e) → Has e F
  from_over e F safe some o = record {
    array = o.array;
    known = o.known;
    extents = o.extents ∙ ap (λ b. cond b [] (counts_of xs D)) (sym some);
    scalar = o.scalar ∙ sym some;
    at = λ ι w. o.at ι w ∙ sym (has_value d bits a D s xs k t e safe ι w);
  }

  some_D : (names : List (List ℕ)) → has_no_loop (loops_among D names) ≡ false → has_no_loop D ≡ false
  some_D names h = by (has_no_loop D) refl
    where
      by : (b : Bool) → has_no_loop D ≡ b → b ≡ false
      by false e = refl
      by true e = let l = first_loop (loops_among D names) h in absurd (no_member D e l.0 (of_filter (λ (m : FormLoop). is_among names m.variable) D l.0 l.1).0)

  -- ---- an element whose subscripts have one loop each at most

  module _ (x : List ℕ) (e : Expression) (ps : Subscripts) (bs : List (ℤ × ℤ)) (bounds : s.bounds x ≡ Some bs) (one : one_each D (subscript (Only e) ps) ≡ true)
      (moves : are_regular_subscripts a D (subscript (Only e) ps) ≡ true) (vectors : Vectors d a s xs k.few k.values k.sized k.distinct D (subscript (Only e) ps)) (safe : Safe (Named x (subscript (Only e) ps))) where
    abbrev whole : Subscripts
    whole = subscript (Only e) ps

    abbrev formed : Subscripts
    formed = subscript_forms a D whole

    abbrev ls : List FormLoop
    ls = loops_in_order D whole

    abbrev picked : axes.SelectsAll d a s xs k.few k.values k.sized k.distinct D whole formed bs ls
    picked = axes.picks d a s xs k.few k.values k.sized k.distinct D fits x e ps bs bounds one moves vectors safe

    there' : axes_named d (record { name = x; subscripts = formed }) s ≡ Ok picked.axes
    there' = axes.axes_there d a s xs k.few k.values k.sized k.distinct D fits x e ps bs bounds one moves vectors safe

    -- the array is no loop variable
    has_some : no_loops_in (Named x whole) ≡ false → has_no_loop ls ≡ false
    has_some h = by (has_no_loop ls) refl
      where
        by : (b : Bool) → has_no_loop ls ≡ b → b ≡ false
        by false p = refl
        by true p =
            let ι : List ℕ → ℕ = λ y. 1 in
            let l = first_loop (loops_among D (names_in (Named x whole))) h in
            let m = of_filter (λ (n : FormLoop). is_among (names_in (Named x whole)) n.variable) D l.0 l.1 in
            let none : has_no_loop (loops_among D (names_in_subscripts whole)) ≡ true = sym (none_in_order D whole) ∙ p in
            let el = axes.element d a s xs k.few k.values k.sized k.distinct D fits x e ps bs bounds one moves vectors safe ι (axes.firsts d a s xs k.few k.values k.sized k.distinct D fits) in
            let i = bound (subscript_value d (Only e) (at_those ι D s)) (λ i. do is ← subscript_values d ps (at_those ι D s); Ok (i ∷ is)) el.numbers el.known in
            let is = bound (subscript_values d ps (at_those ι D s)) (λ is. Ok (i.0 ∷ is)) el.numbers i.2 in
            either_name l.0 m.0 i.0 is.0 none (cases_of x (names_in_subscripts whole) l.0.variable (among_is (names_in (Named x whole)) l.0.variable m.1)) (ap (is_within bs) (same_answer (i.0 ∷ is.0) el.numbers is.2) ∙ el.within)
          where
            empty : (z : ℤ) (zs : List ℤ) (cs : List (ℤ × ℤ)) → [] ≡ cs → is_within cs (z ∷ zs) ≡ true → true ≡ false
            empty z zs [] q w = absurd (let bad : false ≡ true = w in cc)
            empty z zs (c ∷ cs) q w = absurd cc

            either_name : (l : FormLoop) → Contains D l → (z : ℤ) (zs : List ℤ) → has_no_loop (loops_among D (names_in_subscripts whole)) ≡ true → (x ≡ l.variable) ⊎ Contains (names_in_subscripts whole) l.variable → is_within bs (z ∷ zs) ≡ true → true ≡ false
            either_name l c z zs none (inl q) w =
                let known : ◌≡◌ {A = Option (List (ℤ × ℤ))} (Some bs) (Some []) = sym bounds ∙ (ap s.bounds q ∙ scalar_name (form_names_of a) s xs l.variable k.values (fits.among l c)) in
                let same : bs ≡ [] = cc in
                empty z zs bs (sym same) w
            either_name l c z zs none (inr g) w = absurd (no_member (loops_among D (names_in_subscripts whole)) none l (in_filter (λ (n : FormLoop). is_among (names_in_subscripts whole) n.variable) D l c (among (names_in_subscripts whole) l.variable g)))

    element_over : no_loops_in (Named x whole) ≡ false → OverThese ls (Named x formed) (value (Named x whole))
    element_over some = record {
      array = settled (record { extents = extents_of picked.axes; values = map s.held (cells_along x picked.axes) });
      known = section_of s.held x formed picked.axes (selectors d formed s) (s.bounds x) there';
      extents = picked.extents;
      scalar = picked.indices ∙ has_some some;
      at = λ ι w.
          sym (ap (λ (r : Result (Elements Value) Fault). do g ← r; g.at (spots ι ls)) (section_of s.held x formed picked.axes (selectors d formed s) (s.bounds x) there'))
          ∙ (element_of_section d x formed s picked.axes (spots ι ls) there' (subst (λ ns. Contains (positions ns) (spots ι ls)) (sym picked.extents) (axes.contained d a s xs k.few k.values k.sized k.distinct ls ι (λ l h. w l (all_of_mine D whole l h))))
          ∙ (ap (λ zs. Ok (s.held (record { name = x; subscripts = zs }))) (sym (axes.cell_there d a s xs k.few k.values k.sized k.distinct D fits x e ps bs bounds one moves vectors safe ι w))
          ∙ (ap Ok (axes.unchanged d a s xs k.few k.values k.sized k.distinct D fits x e ps bs bounds one moves vectors safe ι w) ∙ (sym (safe ι w).1 ∙ has_value d bits a D s xs k t (Named x whole) safe ι w))));
    }

  -- ---- a reference

  reference_over : (x : List ℕ) (ps : Subscripts) → no_loops_in (Named x ps) ≡ false → (not (one_each D ps) || are_regular_subscripts a D ps) ≡ true → (are_regular_subscripts a D ps ≡ true → Vecs ps) → Safe (Named x ps) → OverThese D (form a D (Named x ps)) (value (Named x ps))
  reference_over x no_subscripts some h vectors safe = by (loops_among D (x ∷ [])) refl some
    where
      among_these : (ls : List FormLoop) → loops_among D (x ∷ []) ≡ ls → (l : FormLoop) → Contains ls l → Contains D l
      among_these ls e l c = (of_filter (λ (m : FormLoop). is_among (x ∷ []) m.variable) D l (subst (λ ms. Contains ms l) (sym e) c)).0

      by : (ls : List FormLoop) → loops_among D (x ∷ []) ≡ ls → has_no_loop ls ≡ false → OverThese D (name_form a D ls x no_subscripts no_subscripts) (value (Named x no_subscripts))
      by [] e h = absurd cc
      by (l ∷ ls) e h =
          placed_over d bits a D s xs k t (l ∷ ls) (constructed (form_names_of a) (l ∷ ls) (Named x no_subscripts)) (Named x no_subscripts) (among_these (l ∷ ls) e) safe (some_D (x ∷ []) some)
          (constructed_over d bits a D s xs k t (l ∷ ls) (among_these (l ∷ ls) e) (subst (λ ms. AreDistinct (form_variables_of ms)) e (filter_distinct (λ (m : FormLoop). is_among (x ∷ []) m.variable) D t.once)) (Named x no_subscripts) safe
          (λ ι. ap (λ ms. value_of d (Named x no_subscripts) (at_those ι ms s)) (sym e) ∙ sym (value_part ι d D (Named x no_subscripts) s)) refl)
  reference_over x (subscript p ps) some h vectors safe =
      subst (λ F. OverThese D F (value (Named x whole))) (sym (by_loops (loops_among D (names_in (Named x whole))) some)) (by (one_each D whole) refl h)
    where
      whole : Subscripts
      whole = subscript p ps

      by_loops : (ls : List FormLoop) → has_no_loop ls ≡ false → name_form a D ls x (subscript p ps) (subscript_forms a D (subscript p ps))
          ≡ cond (one_each D (subscript p ps)) (placed_expression a D (loops_in_order D (subscript p ps)) (Named x (subscript_forms a D (subscript p ps))) (Named x (subscript p ps))) (constructed (form_names_of a) D (Named x (subscript p ps)))
      by_loops [] h = absurd cc
      by_loops (l ∷ ls) h = refl

      by : (b : Bool) → one_each D (subscript p ps) ≡ b → (not b || are_regular_subscripts a D (subscript p ps)) ≡ true
          → OverThese D (cond b (placed_expression a D (loops_in_order D (subscript p ps)) (Named x (subscript_forms a D (subscript p ps))) (Named x (subscript p ps))) (constructed (form_names_of a) D (Named x (subscript p ps)))) (value (Named x (subscript p ps)))
      by false e h = constructed_over d bits a D s xs k t D (λ l c. c) t.once (Named x (subscript p ps)) safe (λ ι. refl) (some_D (names_in (Named x (subscript p ps))) some)
      by true e h =
          placed_over d bits a D s xs k t (loops_in_order D (subscript p ps)) (Named x (subscript_forms a D (subscript p ps))) (Named x (subscript p ps)) (all_of_mine D (subscript p ps)) safe (some_D (names_in (Named x (subscript p ps))) some) (plain p refl e h)
        where
          plain : (q : Subscript) → p ≡ q → one_each D (subscript p ps) ≡ true → are_regular_subscripts a D (subscript p ps) ≡ true → OverThese (loops_in_order D (subscript p ps)) (Named x (subscript_forms a D (subscript p ps))) (value (Named x (subscript p ps)))
          plain (Section i j n) e o m = absurd (let bad : false ≡ true = ap (λ r. are_regular_subscripts a D (subscript r ps)) (sym e) ∙ m in cc)
          plain (Only i) e o m =
              subst (λ (r : Subscript). OverThese (loops_in_order D (subscript r ps)) (Named x (subscript_forms a D (subscript r ps))) (value (Named x (subscript r ps)))) (sym e)
              (at_element i (subst (λ (r : Subscript). no_loops_in (Named x (subscript r ps)) ≡ false) e some) (ap (λ r. one_each D (subscript r ps)) (sym e) ∙ o) (ap (λ r. are_regular_subscripts a D (subscript r ps)) (sym e) ∙ m) (subst (λ (r : Subscript). Vecs (subscript r ps)) e (vectors m))
              (subst (λ (r : Subscript). Safe (Named x (subscript r ps))) e safe))
            where
              at_element : (i : Expression) → no_loops_in (Named x (subscript (Only i) ps)) ≡ false → one_each D (subscript (Only i) ps) ≡ true → are_regular_subscripts a D (subscript (Only i) ps) ≡ true → Vecs (subscript (Only i) ps) → Safe (Named x (subscript (Only i) ps))
                  → OverThese (loops_in_order D (subscript (Only i) ps)) (Named x (subscript_forms a D (subscript (Only i) ps))) (value (Named x (subscript (Only i) ps)))
              at_element i some o m vs safe = by_bounds (s.bounds x) refl
                where
                  by_bounds : (b : Option (List (ℤ × ℤ))) → s.bounds x ≡ b → OverThese (loops_in_order D (subscript (Only i) ps)) (Named x (subscript_forms a D (subscript (Only i) ps))) (value (Named x (subscript (Only i) ps)))
                  by_bounds (Some bs) b = element_over x i ps bs b o m vs safe some
                  by_bounds None b =
                      let ι : List ℕ → ℕ = λ y. 1 in
                      let u = at_those ι D s in
                      let v = safe ι (axes.firsts d a s xs k.few k.values k.sized k.distinct D fits) in
                      let zs = bound (subscript_values d (subscript (Only i) ps) u) (λ is. do c ← cell_at x is u; Ok (u.held c)) v.0 v.1 in
                      let none : u.bounds x ≡ None = ap (λ (f : List ℕ → Option (List (ℤ × ℤ))). f x) (bounds_at ι D s) ∙ b in
                      let bad : ◌≡◌ {A = Result Value Fault} (Err Allocated) (Ok v.0) = ap (λ o. do c ← cell_in o x zs.0; Ok (u.held c)) (sym none) ∙ zs.2 in
                      absurd cc

  or_cases : (p q : Bool) → (p || q) ≡ true → (p ≡ true) ⊎ ((p ≡ false) × (q ≡ true))
  or_cases true q h = inl refl
  or_cases false q h = inr (refl, h)

  still : (e : Expression) → no_loops_in e ≡ true → Safe e → Has e e
  still e none safe = stays d a s xs k.few k.values k.sized k.distinct D fits e none safe

  reference : (x : List ℕ) (ps : Subscripts) → (no_loops_in (Named x ps) || (not (one_each D ps) || are_regular_subscripts a D ps)) ≡ true → (are_regular_subscripts a D ps ≡ true → Vecs ps) → Safe (Named x ps) → Has (Named x ps) (form a D (Named x ps))
  reference x ps h vectors safe = by (or_cases (no_loops_in (Named x ps)) ((not (one_each D ps) || are_regular_subscripts a D ps)) h)
    where
      without_loops : (ls : List FormLoop) → has_no_loop ls ≡ true → name_form a D ls x ps (subscript_forms a D ps) ≡ Named x ps
      without_loops [] e = refl
      without_loops (l ∷ ls) e = absurd cc

      by : (no_loops_in (Named x ps) ≡ true) ⊎ ((no_loops_in (Named x ps) ≡ false) × ((not (one_each D ps) || are_regular_subscripts a D ps) ≡ true)) → Has (Named x ps) (form a D (Named x ps))
      by (inl none) = subst (Has (Named x ps)) (sym (without_loops (loops_among D (names_in (Named x ps))) none)) (still (Named x ps) none safe)
      by (inr some) = from_over (Named x ps) (form a D (Named x ps)) safe some.0 (reference_over x ps some.0 some.1 vectors safe)

  -- a subscript of one loop by its form
  vector : (l : FormLoop) → Contains D l → (e : Expression) → loops_among D (names_in e) ≡ l ∷ [] → Takes d a s xs k.few k.values k.sized k.distinct (l ∷ []) e (form a (l ∷ []) e) → axes.IsVector d a s xs k.few k.values k.sized k.distinct l e (form a (l ∷ []) e)
  vector l c e only_one h = record {
    array = h.array;
    known = h.known;
    extents = h.extents ∙ ap (λ b. cond b [] (count_of xs l ∷ [])) some;
    scalar = h.scalar ∙ some;
    at = λ i low. ap (λ j. h.array.at (j ∷ [])) (let same : i ≡ suc i - 1 = omega arith in same) ∙ h.at (λ y. suc i) (λ m g. within i low m (sole m g));
  }
    where
      stands : is_among (names_in e) l.variable ≡ true
      stands = (of_filter (λ (m : FormLoop). is_among (names_in e) m.variable) D l (subst (λ ms. Contains ms l) (sym only_one) (here l []))).1

      some : has_no_loop (loops_among (l ∷ []) (names_in e)) ≡ false
      some = ap (λ b. has_no_loop (cond b (l ∷ []) [])) stands

      sole : (m : FormLoop) → Contains (l ∷ []) m → l ≡ m
      sole m g = of (cases_of l [] m g)
        where
          of : (l ≡ m) ⊎ Contains [] m → l ≡ m
          of (inl q) = q
          of (inr n) = absurd (nowhere m n)

      within : (i : ℕ) → i < count_of xs l → (m : FormLoop) → l ≡ m → (1 ≤ suc i) × (suc i ≤ count_of xs m)
      within i low m q = (omega arith, subst (λ (n : FormLoop). suc i ≤ count_of xs n) q (omega (arith, low)))

  -- one loop alone
  one_turning : (l : FormLoop) → Contains D l → AreTurning a (l ∷ []) xs
  one_turning l c = record {
    loops = λ m g. t.loops m (to_D m g);
    once = (refl, tt);
    turns = λ m g. t.turns m (to_D m g);
    apart = λ m n g h ne. t.apart m n (to_D m g) (to_D n h) ne;
  }
    where
      to_D : (m : FormLoop) → Contains (l ∷ []) m → Contains D m
      to_D m g = of (cases_of l [] m g)
        where
          of : (l ≡ m) ⊎ Contains [] m → Contains D m
          of (inl q) = subst (Contains D) q c
          of (inr n) = absurd (nowhere m n)

  -- at each iteration of its loop it has a value
  one_safe : (l : FormLoop) → Contains D l → (e : Expression) → loops_among D (names_in e) ≡ l ∷ [] → Safe e → NoFault d a s xs k.few k.values k.sized k.distinct (l ∷ []) e
  one_safe l c e only_one safe ι w =
      let b = w l (here l []) in
      let κ = axes.only d a s xs k.few k.values k.sized k.distinct l (ι l.variable) in
      let v = safe κ (axes.only_within d a s xs k.few k.values k.sized k.distinct D fits l c (ι l.variable) b.0 b.1) in (
        v.0,
        ap (λ i. value_of d e (bound_to l.variable (pos i) s)) (sym (axes.only_itself d a s xs k.few k.values k.sized k.distinct l (ι l.variable)))
            ∙ (sym (value_part κ d D e s ∙ ap (λ ms. value_of d e (at_those κ ms s)) only_one) ∙ v.1),
      )

-- ---- all of it

nothing : (ls : List FormLoop) → has_no_loop (loops_among ls []) ≡ true
nothing [] = refl
nothing (l ∷ ls) = nothing ls

module _ (d : Dialect) (bits : 31 ≤ d.bits) (a : FormSurroundings) (s : Store) (xs : List ℤ) (k : AreKnown a s xs) where
  abbrev InD : List FormLoop → (List ℕ → ℕ) → Type 0
  InD D ι = Within d a s xs k.few k.values k.sized k.distinct D ι

  abbrev SafeD : List FormLoop → Expression → Type 0
  SafeD D e = NoFault d a s xs k.few k.values k.sized k.distinct D e

  abbrev HasD : List FormLoop → Expression → Expression → Type 0
  HasD D e F = Takes d a s xs k.few k.values k.sized k.distinct D e F

  abbrev SafeEach : List FormLoop → Expressions → Type 0
  SafeEach D es = (ι : List ℕ → ℕ) → InD D ι → (vs : List Value) × (values_of d es (at_those ι D s) ≡ Ok vs)

  abbrev SafeSubscripts : List FormLoop → Subscripts → Type 0
  SafeSubscripts D ps = (ι : List ℕ → ℕ) → InD D ι → (zs : List ℤ) × (subscript_values d ps (at_those ι D s) ≡ Ok zs)

  abbrev fitD : (D : List FormLoop) → AreTurning a D xs → Fit d a s xs k.few k.values k.sized k.distinct D
  fitD D t = fit d bits a D s xs k t

  -- a subscript's vector, where it needs one
  vector_for : (D : List FormLoop) (t : AreTurning a D xs) (e : Expression) (hs : List FormLoop) → loops_among D (names_in e) ≡ hs → (o : Option Form) → is_moved a hs o (is_regular a hs e) ≡ true
      → ((l : FormLoop) → hs ≡ l ∷ [] → is_regular a hs e ≡ true → HasD (l ∷ []) e (form a (l ∷ []) e)) → axes.VectorFor d a s xs k.few k.values k.sized k.distinct hs e o
  vector_for D t e [] p o h f = tt
  vector_for D t e (l ∷ []) p (Some g) h f = tt
  vector_for D t e (l ∷ []) p None h f = vector d bits a D s xs k t l (of_filter (λ (m : FormLoop). is_among (names_in e) m.variable) D l (subst (λ ms. Contains ms l) (sym p) (here l []))).0 e p (f l refl h)
  vector_for D t e (l ∷ m ∷ hs) p o h f = tt

  mutual
    pub takes : (e : Expression) (D : List FormLoop) (t : AreTurning a D xs) → is_regular a D e ≡ true → SafeD D e → HasD D e (form a D e)
    takes (Number n) D t h safe = still d bits a D s xs k t (Number n) (nothing D) safe
    takes (Logic b) D t h safe = still d bits a D s xs k t (Logic b) (nothing D) safe
    takes (Named x ps) D t h safe = reference d bits a D s xs k t x ps h
        (λ regular. vectors ps D t regular (λ ι w. let v = safe ι w in let zs = bound (subscript_values d ps (at_those ι D s)) (λ is. do c ← cell_at x is (at_those ι D s); Ok ((at_those ι D s).held c)) v.0 v.1 in (zs.0, zs.1))) safe
    takes (Unary o e) D t h safe = unary d a s xs k.few k.values k.sized k.distinct D (fitD D t) o e (form a D e) (takes e D t h (λ ι w. let v = safe ι w in let x = bound (value_of d e (at_those ι D s)) (λ x. apply o x x) v.0 v.1 in (x.0, x.1)))
    takes (Binary o e f) D t h safe =
        let parts = both (is_regular a D e) (is_regular a D f) h in
        binary d a s xs k.few k.values k.sized k.distinct D (fitD D t) o e f (form a D e) (form a D f)
        (takes e D t parts.0 (λ ι w. let v = safe ι w in let x = bound (value_of d e (at_those ι D s)) (λ x. do y ← value_of d f (at_those ι D s); apply o x y) v.0 v.1 in (x.0, x.1)))
        (takes f D t parts.1 (λ ι w.
        let v = safe ι w in
        let x = bound (value_of d e (at_those ι D s)) (λ x. do y ← value_of d f (at_those ι D s); apply o x y) v.0 v.1 in
        let y = bound (value_of d f (at_those ι D s)) (λ y. apply o x.0 y) v.0 x.2 in (y.0, y.1)))
    takes (Apply f es) D t h safe = applied d a s xs k.few k.values k.sized k.distinct D (fitD D t) f es (forms a D es)
        (takes_each es D t true h (λ ι w. let v = safe ι w in let x = bound (values_of d es (at_those ι D s)) (λ ys. call f ys) v.0 v.1 in (x.0, x.1)))
    takes (Reduce r e) D t h safe = still d bits a D s xs k t (Reduce r e) h safe
    takes (Constructor es ls) D t h safe = absurd cc
    takes (Spread e n f) D t h safe = absurd cc
    takes (Transpose e) D t h safe = absurd cc
    takes (Reshape e es) D t h safe = absurd cc

    takes_each : (es : Expressions) (D : List FormLoop) (t : AreTurning a D xs) (b : Bool) → are_regular a D es ≡ true → SafeEach D es → HasEach d a s xs k.few k.values k.sized k.distinct D (fitD D t) es (forms a D es) b
    takes_each no_expressions D t b h safe = no_arguments d a s xs k.few k.values k.sized k.distinct D (fitD D t) b
    takes_each (expression e es) D t b h safe =
        let parts = both (is_regular a D e) (are_regular a D es) h in
        one_argument d a s xs k.few k.values k.sized k.distinct D (fitD D t) e (form a D e) es (forms a D es) b
        (takes e D t parts.0 (λ ι w. let v = safe ι w in let x = bound (value_of d e (at_those ι D s)) (λ x. do ys ← values_of d es (at_those ι D s); Ok (x ∷ ys)) v.0 v.1 in (x.0, x.1)))
        (takes_each es D t (b && has_no_loop (loops_among D (names_in e))) parts.1 (λ ι w.
        let v = safe ι w in
        let x = bound (value_of d e (at_those ι D s)) (λ x. do ys ← values_of d es (at_those ι D s); Ok (x ∷ ys)) v.0 v.1 in
        let ys = bound (values_of d es (at_those ι D s)) (λ ys. Ok (x.0 ∷ ys)) v.0 x.2 in (ys.0, ys.1)))

    vectors : (ps : Subscripts) (D : List FormLoop) (t : AreTurning a D xs) → are_regular_subscripts a D ps ≡ true → SafeSubscripts D ps → Vectors d a s xs k.few k.values k.sized k.distinct D ps
    vectors no_subscripts D t h safe = tt
    vectors (subscript (Section i j n) ps) D t h safe = tt
    vectors (subscript (Only e) ps) D t h safe =
        let hs = loops_among D (names_in e) in
        let o = form_of (form_variables_of a.loops) a.symbols e in
        let parts = both (is_moved a hs o (is_regular a hs e)) (are_regular_subscripts a D ps) h in
        let one : SafeD D e = λ ι w.
        let v = safe ι w in
        let i = bound (subscript_value d (Only e) (at_those ι D s)) (λ i. do is ← subscript_values d ps (at_those ι D s); Ok (i ∷ is)) v.0 v.1 in
        let x = bound (value_of d e (at_those ι D s)) (λ x. as_number x) i.0 i.1 in (x.0, x.1) in (
          vector_for D t e hs refl o parts.0 (λ l p regular.
              let c = (of_filter (λ (m : FormLoop). is_among (names_in e) m.variable) D l (subst (λ ms. Contains ms l) (sym p) (here l []))).0 in
              takes e (l ∷ []) (one_turning d bits a D s xs k t l c) (ap (λ ms. is_regular a ms e) (sym p) ∙ regular) (one_safe d bits a D s xs k t l c e p one)),
          vectors ps D t parts.1 (λ ι w.
              let v = safe ι w in
              let i = bound (subscript_value d (Only e) (at_those ι D s)) (λ i. do is ← subscript_values d ps (at_those ι D s); Ok (i ∷ is)) v.0 v.1 in
              let is = bound (subscript_values d ps (at_those ι D s)) (λ is. Ok (i.0 ∷ is)) v.0 i.2 in (is.0, is.1)),
        )

-- ---- the law

pub form_has_instance_values : FormHasInstanceValues
form_has_instance_values lang a D e s xs bits k t regular has =
    let h = takes lang bits a s xs k e D t regular safe in
    record {
      array = h.array;
      known = h.known;
      extents = h.extents;
      at = λ is c.
          let b = by_position lang a D s xs k t is c in
          ap h.array.at (sym b.places_are) ∙ (h.at b.ι b.within ∙ ap (λ js. value_of lang e (at_iterations D js s)) b.iterations_are);
    }
  where
    after : (ι : List ℕ → ℕ) → Within lang a s xs k.few k.values k.sized k.distinct D ι → (ls : List FormLoop) → ((l : FormLoop) → Contains ls l → Contains D l) → map suc (map (λ (l : FormLoop). ι l.variable - 1) ls) ≡ iterations ι ls
    after ι w [] h = refl
    after ι w (l ∷ ls) h =
        let low = (w l (h l (here l ls))).0 in
        ap₂ (λ (x : ℕ) (ys : List ℕ). x ∷ ys) (omega (arith, low)) (after ι w ls (λ m g. h m (there l ls m g)))

    safe : NoFault lang a s xs k.few k.values k.sized k.distinct D e
    safe ι w =
        let is = map (λ (l : FormLoop). ι l.variable - 1) D in
        let v = has is (axes.contained lang a s xs k.few k.values k.sized k.distinct D ι w) in
        (v.0, ap (λ js. value_of lang e (at_iterations D js s)) (sym (after ι w D (λ l g. g))) ∙ v.1)
