-- The loops that are made of a nest have the nest's counters as variables, and these are no names of a source.
use Rattle.std.proofs.Common.{◌≡◌, refl, sym, ap, ap₂, ◌∙◌, ℕ, ◌+◌, ◌≤◌, Bool, true, false, cond}
use Rattle.std.proofs.Common.{◌&&◌, ◌||◌, List, [], ◌∷◌, ◌++◌, map, length, length-append, Option, Some, None, arith}
use Rattle.std.specs.Prelude.{is_some, codes, decimal, neg_ℤ, negsuc}
use Rattle.std.specs.Str.{bytes_eq}
use Rattle.std.proofs.lemmas.List.{append-nil, map-append}
use Rattle.std.proofs.lemmas.Slice.Eq.{bytes_eq-Decides}
use Rattle.last_values.specs.Behind.{stands_behind}
use Rattle.last_values.specs.InPlace.{assigned_part, end_part, first_text, own_trip_text}
use Rattle.last_values.specs.PartsInPlace.{only_where_part, parts_before, parts_behind}
use Rattle.last_values.specs.declared.behind.NestedLoop.{NestedLoop}
use Rattle.linear_forms.proofs.Sizes.{both}
use Rattle.normal_loops.specs.Bodies.{normal_branches, normal_part, normal_parts, normal_turns, placed_loop}
use Rattle.normal_loops.specs.Counting.{counting}
use Rattle.normal_loops.specs.Loops.{nested, nested_in_branches}
use Rattle.normal_loops.specs.Normal.{are_normal, are_normal_branches, is_normal}
use Rattle.normal_loops.specs.Loops.{nested_in_parts, nested_loops, with_loop}
use Rattle.nest_order.specs.orders.Shapes.{loops_of_shape}
use Rattle.nest.specs.Bodies.{loops_in_branches, loops_in_parts, loops_of, nest_loops}
use Rattle.nest.specs.Plain.{Branches, Choice, Jump, Label, Loop, Nest, Part, Parts, Run, Turns, branch}
use Rattle.nest.specs.Plain.{no_branches, no_parts, part, parts}
use Rattle.last_values.specs.normal_forms.NormalLoops.{counter_name, forms_by_first, forms_by_trip, forms_of, is_known, is_positive}
use Rattle.last_values.specs.normal_forms.NormalLoops.{bound_form, is_suitable, loop_form, normal_loop, plus_multiple, plus_number}
use Rattle.last_values.specs.normal_forms.NormalLoops.{trip_by, trip_form, with_forms}
use Rattle.last_values.specs.normal_forms.Combinations.{times}
use Rattle.last_values.specs.normal_forms.Texts.{at_least_one}
use Rattle.last_values.specs.declared.normal_forms.loops.NormalLoop.{NormalLoop}
use Rattle.pass_laws.specs.normal_runs.Sources.{counters_in}
use Rattle.pass_laws.proofs.ReadyNests.Lists.{loops_joined}
use Rattle.pass_laws.proofs.ReadyNests.LoopForms.{after_below, after_end, after_first, after_top, after_trip, after_value}
use Rattle.pass_laws.proofs.ReadyNests.LoopForms.{from_first, step}
use Rattle.pass_laws.proofs.ReadyNests.Made.{IsMadeOf}
use Rattle.nest.specs.statement_loops.Names.{is_among}

abbrev pub variables : List Loop → List (List ℕ)
variables ls = map (λ (l : Loop). l.variable) ls

abbrev names_for : List Loop → List (List ℕ)
names_for ls = map (λ (l : Loop). counter_name l.number) ls

abbrev counters : List NestedLoop → List (List ℕ)
counters ls = map (λ (l : NestedLoop). l.turns.counter) ls

-- ---- a loop's counter is named by its number

module _ (symbols : List (List ℕ)) (round : List NormalLoop) (l : Loop) (r : NormalLoop) where
  abbrev n : ℕ
  n = length symbols

  by_forms : from_first symbols round l ≡ Some r → r.counter ≡ counter_name l.number
  by_forms h =
      let s1 = step (bound_form symbols round l.first []) (after_first symbols round l) r h in
      let s2 = step (plus_number n s1.result (neg_ℤ l.step)) (after_below symbols round l s1.result) r s1.then in
      let s3 = step (plus_multiple n s2.result l.step (loop_form (length round))) (after_value symbols round l s1.result s2.result) r s2.then in
      let s4 = step (bound_form symbols round l.last (times (negsuc 0) s2.result ∷ [])) (after_top symbols round l s1.result s2.result s3.result) r s3.then in
      let s5 = step (trip_by n l.step s4.result) (after_trip symbols round l s1.result s2.result s3.result) r s4.then in
      let s6 = step (plus_multiple (n + 1) s1.result l.step (trip_form n s5.result)) (after_end symbols round l s1.result s2.result s3.result s5.result) r s5.then in
      let is : NormalLoop = with_forms l s1.result s2.result s3.result s5.result s6.result in
      same is s6.then
    where
      same : (q : NormalLoop) → ◌≡◌ {A = Option NormalLoop} (Some q) (Some r) → r.counter ≡ q.counter
      same q e = let f : q ≡ r = cc in ap (λ (x : NormalLoop). x.counter) (sym f)

  pub counter_is : normal_loop symbols round l ≡ Some r → r.counter ≡ counter_name l.number
  unfolding normal_loop forms_of forms_by_first forms_by_trip
  counter_is h = by (is_suitable l.step round) h
    where
      by : (b : Bool) → cond b (from_first symbols round l) None ≡ Some r → r.counter ≡ counter_name l.number
      by true k = by_forms k
      by false k = let no : ⊥ = cc in absurd no

counting_variable : (symbols : List (List ℕ)) (round : List NormalLoop) (l : Loop) (r : NormalLoop) → (counting symbols round l r).variable ≡ r.counter
unfolding counting
counting_variable symbols round l r = refl

-- ---- the loops that are made

module _ (symbols : List (List ℕ)) (line : ℕ) (round : List NormalLoop) (r : NormalLoop) where
  none_before : loops_in_parts (parts (parts_before symbols line round r)) ≡ []
  unfolding parts_before
  none_before = by (is_positive r.trip)
    where
      by : (b : Bool) → loops_in_parts (parts (cond b [] (assigned_part line r.variable (first_text symbols round r) ∷ []))) ≡ []
      by true = refl
      by false = refl

  none_behind : loops_in_parts (parts (parts_behind symbols line round r)) ≡ []
  unfolding parts_behind
  none_behind = by (is_positive r.trip) (is_known r.trip)
    where
      by : (b c : Bool) → loops_in_parts (parts (cond b (end_part symbols line round r ∷ []) (cond c [] (only_where_part (at_least_one (own_trip_text symbols round r)) (end_part symbols line round r ∷ []) ∷ [])))) ≡ []
      by true c = refl
      by false true = refl
      by false false = refl

module _ (n : Nest) (all : List NestedLoop) where
  placed_loops : (round : List NormalLoop) (r : NormalLoop) (p : Part) → loops_in_parts (parts (placed_loop n all round r p)) ≡ loops_of p
  placed_loops round r p = by (stands_behind (length n.symbols) all n.body r.variable)
    where
      by : (b : Bool) → loops_in_parts (parts (cond b (p ∷ []) (parts_before n.symbols n.line round r ++ p ∷ parts_behind n.symbols n.line round r))) ≡ loops_of p
      by true = append-nil (loops_of p)
      by false =
          loops_joined (parts_before n.symbols n.line round r) (p ∷ parts_behind n.symbols n.line round r)
          ∙ ap₂ (λ (xs ys : List Loop). xs ++ (loops_of p ++ ys)) (none_before n.symbols n.line round r) (none_behind n.symbols n.line round r)
          ∙ append-nil (loops_of p)

  turned : (round : List NormalLoop) (l : Loop) (ps : Parts) (o : Option NormalLoop) → normal_loop n.symbols round l ≡ o
      → ((rs : List NormalLoop) → are_normal n.symbols rs ps ≡ true → variables (loops_in_parts (parts (normal_parts n all rs ps))) ≡ names_for (loops_in_parts ps))
      → (is_some o && are_normal n.symbols (with_loop round o) ps) ≡ true
      → variables (loops_in_parts (parts (normal_turns n all round l o (normal_parts n all (with_loop round o) ps)))) ≡ counter_name l.number ∷ names_for (loops_in_parts ps)
  turned round l ps None e more h = let no : ⊥ = cc in absurd no
  turned round l ps (Some r) e more h =
      let qs = normal_parts n all (round ++ r ∷ []) ps in
      ap variables (placed_loops round r (Turns (counting n.symbols round l r) (parts qs)))
      ∙ ap₂ (λ (x : List ℕ) (xs : List (List ℕ)). x ∷ xs) (counting_variable n.symbols round l r ∙ counter_is n.symbols round l r e) (more (round ++ r ∷ []) h)

  mutual
    made : (round : List NormalLoop) (p : Part) → is_normal n.symbols round p ≡ true → variables (loops_in_parts (parts (normal_part n all round p))) ≡ names_for (loops_of p)
    made round (Run s) h = refl
    made round (Turns l ps) h = turned round l ps (normal_loop n.symbols round l) refl (λ rs k. made_parts rs ps k) h
    made round (Choice bs ps) h =
        let b = both (are_normal_branches n.symbols round bs) (are_normal n.symbols round ps) h in
        ap variables (append-nil (loops_in_branches (normal_branches n all round bs) ++ loops_in_parts (parts (normal_parts n all round ps))))
        ∙ map-append (λ (l : Loop). l.variable) (loops_in_branches (normal_branches n all round bs)) (loops_in_parts (parts (normal_parts n all round ps)))
        ∙ ap₂ (λ (xs ys : List (List ℕ)). xs ++ ys) (made_branches round bs b.0) (made_parts round ps b.1)
        ∙ sym (map-append (λ (l : Loop). counter_name l.number) (loops_in_branches bs) (loops_in_parts ps))
    made round (Label k) h = refl
    made round (Jump k) h = refl

    made_parts : (round : List NormalLoop) (ps : Parts) → are_normal n.symbols round ps ≡ true → variables (loops_in_parts (parts (normal_parts n all round ps))) ≡ names_for (loops_in_parts ps)
    made_parts round no_parts h = refl
    made_parts round (part p ps) h =
        let b = both (is_normal n.symbols round p) (are_normal n.symbols round ps) h in
        ap variables (loops_joined (normal_part n all round p) (normal_parts n all round ps))
        ∙ map-append (λ (l : Loop). l.variable) (loops_in_parts (parts (normal_part n all round p))) (loops_in_parts (parts (normal_parts n all round ps)))
        ∙ ap₂ (λ (xs ys : List (List ℕ)). xs ++ ys) (made round p b.0) (made_parts round ps b.1)
        ∙ sym (map-append (λ (l : Loop). counter_name l.number) (loops_of p) (loops_in_parts ps))

    made_branches : (round : List NormalLoop) (bs : Branches) → are_normal_branches n.symbols round bs ≡ true → variables (loops_in_branches (normal_branches n all round bs)) ≡ names_for (loops_in_branches bs)
    made_branches round no_branches h = refl
    made_branches round (branch test ps bs) h =
        let b = both (are_normal n.symbols round ps) (are_normal_branches n.symbols round bs) h in
        map-append (λ (l : Loop). l.variable) (loops_in_parts (parts (normal_parts n all round ps))) (loops_in_branches (normal_branches n all round bs))
        ∙ ap₂ (λ (xs ys : List (List ℕ)). xs ++ ys) (made_parts round ps b.0) (made_branches round bs b.1)
        ∙ sym (map-append (λ (l : Loop). counter_name l.number) (loops_in_parts ps) (loops_in_branches bs))

-- ---- the counters

module _ (symbols : List (List ℕ)) where
  counted_turns : (round : List NormalLoop) (l : Loop) (ps : Parts) (o : Option NormalLoop) → normal_loop symbols round l ≡ o
      → ((rs : List NormalLoop) → are_normal symbols rs ps ≡ true → counters (nested_in_parts symbols rs ps) ≡ names_for (loops_in_parts ps))
      → (is_some o && are_normal symbols (with_loop round o) ps) ≡ true
      → counters (nested round o ++ nested_in_parts symbols (with_loop round o) ps) ≡ counter_name l.number ∷ names_for (loops_in_parts ps)
  counted_turns round l ps None e more h = let no : ⊥ = cc in absurd no
  counted_turns round l ps (Some r) e more h =
      ap₂ (λ (x : List ℕ) (xs : List (List ℕ)). x ∷ xs) (counter_is symbols round l r e) (more (round ++ r ∷ []) h)

  mutual
    counted : (round : List NormalLoop) (p : Part) → is_normal symbols round p ≡ true → counters (nested_loops symbols round p) ≡ names_for (loops_of p)
    counted round (Run s) h = refl
    counted round (Turns l ps) h = counted_turns round l ps (normal_loop symbols round l) refl (λ rs k. counted_parts rs ps k) h
    counted round (Choice bs ps) h =
        let b = both (are_normal_branches symbols round bs) (are_normal symbols round ps) h in
        map-append (λ (l : NestedLoop). l.turns.counter) (nested_in_branches symbols round bs) (nested_in_parts symbols round ps)
        ∙ ap₂ (λ (xs ys : List (List ℕ)). xs ++ ys) (counted_branches round bs b.0) (counted_parts round ps b.1)
        ∙ sym (map-append (λ (l : Loop). counter_name l.number) (loops_in_branches bs) (loops_in_parts ps))
    counted round (Label k) h = refl
    counted round (Jump k) h = refl

    counted_parts : (round : List NormalLoop) (ps : Parts) → are_normal symbols round ps ≡ true → counters (nested_in_parts symbols round ps) ≡ names_for (loops_in_parts ps)
    counted_parts round no_parts h = refl
    counted_parts round (part p ps) h =
        let b = both (is_normal symbols round p) (are_normal symbols round ps) h in
        map-append (λ (l : NestedLoop). l.turns.counter) (nested_loops symbols round p) (nested_in_parts symbols round ps)
        ∙ ap₂ (λ (xs ys : List (List ℕ)). xs ++ ys) (counted round p b.0) (counted_parts round ps b.1)
        ∙ sym (map-append (λ (l : Loop). counter_name l.number) (loops_of p) (loops_in_parts ps))

    counted_branches : (round : List NormalLoop) (bs : Branches) → are_normal_branches symbols round bs ≡ true → counters (nested_in_branches symbols round bs) ≡ names_for (loops_in_branches bs)
    counted_branches round no_branches h = refl
    counted_branches round (branch test ps bs) h =
        let b = both (are_normal symbols round ps) (are_normal_branches symbols round bs) h in
        map-append (λ (l : NestedLoop). l.turns.counter) (nested_in_parts symbols round ps) (nested_in_branches symbols round bs)
        ∙ ap₂ (λ (xs ys : List (List ℕ)). xs ++ ys) (counted_parts round ps b.0) (counted_branches round bs b.1)
        ∙ sym (map-append (λ (l : Loop). counter_name l.number) (loops_in_parts ps) (loops_in_branches bs))

counters_named : (n m : Nest) → IsMadeOf n m → counters_in n ≡ names_for (nest_loops n)
counters_named n m is = counted n.symbols [] n.body is.normal

pub variables_are_counters : (n m : Nest) → IsMadeOf n m → variables (nest_loops m) ≡ counters_in n
variables_are_counters n m is =
    ap variables (sym (append-nil (nest_loops m)))
    ∙ ap (λ (ps : List Part). variables (loops_in_parts (parts ps))) (sym is.body)
    ∙ made n is.loops [] n.body is.normal
    ∙ sym (counters_named n m is)

-- ---- they are longer than a name of a source

long_counter : (k : ℕ) → 8 ≤ length (counter_name k)
long_counter k = let long = length-append (codes "FV_LOOP_") (decimal k) in omega (arith, long)

none_short : (ls : List Loop) (x : List ℕ) → length x ≤ 6 → is_among (names_for ls) x ≡ false
none_short [] x h = refl
none_short (l ∷ ls) x h = by (bytes_eq (counter_name l.number) x) refl (none_short ls x h)
  where
    by : (b : Bool) → bytes_eq (counter_name l.number) x ≡ b → is_among (names_for ls) x ≡ false → (b || is_among (names_for ls) x) ≡ false
    by true e rest =
        let same : counter_name l.number ≡ x = (bytes_eq-Decides (counter_name l.number) x).0 e in
        let as_long : length (counter_name l.number) ≡ length x = ap (λ (y : List ℕ). length y) same in
        let long = long_counter l.number in
        absurd (omega (arith, long, as_long, h))
    by false e rest = rest

pub no_counter : (n m : Nest) → IsMadeOf n m → (x : List ℕ) → length x ≤ 6 → is_among (counters_in n) x ≡ false
no_counter n m is x h = ap (λ (xs : List (List ℕ)). is_among xs x) (counters_named n m is) ∙ none_short (nest_loops n) x h
