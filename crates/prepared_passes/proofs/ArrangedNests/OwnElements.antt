-- Equal linear forms name one element.
use Rattle.std.proofs.Common.{◌≡◌, refl, sym, ap, ◌∙◌, subst, inl, inr, ℕ, zero, suc, ◌+ℤ◌, ◌*ℤ◌, ℤ, pos, negsuc, neg_ℤ, Bool, true, false, ◌||◌, not, Option, Some, None, List, [], ◌∷◌, drop, arith}
use Rattle.std.specs.Prelude.{slice_get}
use Rattle.std.specs.Str.{bytes_eq}
use Rattle.std.specs.Ordering.{int_eq}
use Rattle.std.proofs.lemmas.Bool.Decides.{Decides-int_eq}
use Rattle.std.proofs.lemmas.Int.{ints}
use Rattle.std.proofs.lemmas.Slice.Eq.{bytes_eq-Decides}
use Rattle.tree.specs.Plain.{Expression, Only, Reference, Section, Subscripts, no_subscripts, subscript}
use Rattle.linear_forms.specs.Linear.{Form, form_of, multiple, number_at, sum, weighted}
use Rattle.linear_forms.proofs.LinearLaws.{minus, number_at-multiple, number_at-sum}
use Rattle.nest_order.specs.orders.Lists.{In}
use Rattle.nest.specs.Bodies.{Standing, nest_statements}
use Rattle.nest.specs.Plain.{Nest}
use Rattle.nest_order.specs.facts.Facts.{number_by, places_of}
use Rattle.nest_order.specs.runs.Stores.{IsNestText}
use Rattle.nest_order.specs.runs.Touched.{MayHave, MayHaveEach, MayName, nth_of}
use Rattle.nest_order.specs.runs.Nests as runs
use Rattle.nest_order.specs.shapes.Shapes.{IsPlain, guarded_of}
use Rattle.dependence_graph.specs.nest_graph.References as graph
use Rattle.dependence_graph.specs.nest_graph.Ready.{IsReady}
use Rattle.emission.specs.graph_orders.Nests.{run_nest}
use Rattle.emission.proofs.GraphOrders.Lists.{in_there, nth_same}
use Rattle.emission.proofs.GraphOrders.Tables.{references_there, standing_there, variables_there}
use Rattle.interchange.specs.Reads.{all_zero, is_no_difference, read_own_elements, reads_own_element, reads_what_is_written, same_form, same_forms}
use Rattle.interchange_laws.specs.runs.Nests.{ReadsWhatItWrites}
use Rattle.prepared_passes.proofs.ArrangedNests.Vectors.{all_in, and_both}

true_false : true ≡ false → ⊥
true_false e = cc

-- ---- a form that is 0 is worth 0

weightless : (cs xs : List ℤ) → all_zero cs ≡ true → weighted cs xs ≡ pos 0
weightless [] xs e = refl
weightless (c ∷ cs) [] e = refl
weightless (c ∷ cs) (x ∷ xs) e =
    let h = and_both (int_eq c (pos 0)) (all_zero cs) e in
    let first : c ≡ pos 0 = (Decides-int_eq c (pos 0)).0 h.0 in
    let rest : weighted cs xs ≡ pos 0 = weightless cs xs h.1 in
    ap (λ z. z *ℤ x +ℤ weighted cs xs) first ∙ (ap (λ z. pos 0 *ℤ x +ℤ z) rest ∙ nothing x)
  where
    nothing : (x : ℤ) → pos 0 *ℤ x +ℤ pos 0 ≡ pos 0
    nothing x = omega (arith, ints)

worth_nothing : (f : Form) (xs : List ℤ) → is_no_difference f ≡ true → number_at f xs ≡ pos 0
worth_nothing f xs e =
    let h = and_both (all_zero f.coefficients) (int_eq f.constant (pos 0)) e in
    ap (λ z. z +ℤ f.constant) (weightless f.coefficients xs h.0) ∙ ap (λ z. pos 0 +ℤ z) ((Decides-int_eq f.constant (pos 0)).0 h.1)

one_number : (f g : Form) (xs : List ℤ) → is_no_difference (sum f (multiple (negsuc 0) g)) ≡ true → number_at f xs ≡ number_at g xs
one_number f g xs e = equal (number_at f xs) (number_at g xs) both
  where
    both : number_at f xs +ℤ neg_ℤ (number_at g xs) ≡ pos 0
    both =
        ap (λ z. number_at f xs +ℤ z) (sym (number_at-multiple (negsuc 0) g xs ∙ minus (number_at g xs)))
        ∙ (sym (number_at-sum f (multiple (negsuc 0) g) xs) ∙ worth_nothing (sum f (multiple (negsuc 0) g)) xs e)

    equal : (a b : ℤ) → a +ℤ neg_ℤ b ≡ pos 0 → a ≡ b
    equal a b h = omega (arith, ints, h)

-- ---- subscripts

module _ (r : runs.RunNest) (symbols : List (List ℕ)) (vars : List (List ℕ)) (s : ℕ) (v : ℕ → ℤ) (is : List ℕ)
    (linear : (e : Expression) → r.linear s e ≡ number_by symbols (form_of vars symbols e)) where
  same_value : (o p : Option Form) (z : ℤ) → same_form o p ≡ true → MayHave r v is (number_by symbols o) z → MayHave r v is (number_by symbols p) z
  same_value None p z e h = absurd (true_false (sym e))
  same_value (Some f) None z e h = absurd (true_false (sym e))
  same_value (Some f) (Some g) z e h = h ∙ one_number f g (places_of v symbols is) e

  same_values : (ps qs : Subscripts) (zs : List ℤ) → same_forms vars symbols ps qs ≡ true → MayHaveEach r v s is ps zs → MayHaveEach r v s is qs zs
  same_values no_subscripts no_subscripts zs e h = h
  same_values no_subscripts (subscript q qs) zs e h = absurd (true_false (sym e))
  same_values (subscript p ps) no_subscripts zs e h = absurd (true_false (sym e))
  same_values (subscript (Section a b c) ps) (subscript q qs) zs e h = absurd (true_false (sym e))
  same_values (subscript (Only d) ps) (subscript (Section a b c) qs) zs e h =
      absurd (true_false (sym (none_second (form_of vars symbols d) (and_both (same_form (form_of vars symbols d) None) (same_forms vars symbols ps qs) e).0)))
    where
      none_second : (o : Option Form) → same_form o None ≡ true → false ≡ true
      none_second None e = e
      none_second (Some f) e = e
  same_values (subscript (Only d) ps) (subscript (Only k) qs) [] e h = absurd h
  same_values (subscript (Only d) ps) (subscript (Only k) qs) (z ∷ zs) e h =
      let a = and_both (same_form (form_of vars symbols d) (form_of vars symbols k)) (same_forms vars symbols ps qs) e in (
        subst (λ o. MayHave r v is o z) (sym (linear k)) (same_value (form_of vars symbols d) (form_of vars symbols k) z a.0 (subst (λ o. MayHave r v is o z) (linear d) h.0)),
        same_values ps qs zs a.1 h.1,
      )

-- ---- the nest

behind_first : {X : Type 0} (xs : List X) (q : ℕ) (x : X) → nth_of xs (suc q) ≡ Some x → In x (drop 1 xs)
behind_first [] q x e = absurd (none_some x e)
  where
    none_some : {A : Type 0} (a : A) → ◌≡◌ {A = Option A} None (Some a) → ⊥
    none_some a e = cc
behind_first (y ∷ ys) q x e = nth_in ys q x e
  where
    none_some : {A : Type 0} (a : A) → ◌≡◌ {A = Option A} None (Some a) → ⊥
    none_some a e = cc

    some_same : {A : Type 0} (a b : A) → ◌≡◌ {A = Option A} (Some a) (Some b) → a ≡ b
    some_same a b e = cc

    nth_in : {X : Type 0} (xs : List X) (q : ℕ) (x : X) → nth_of xs q ≡ Some x → In x xs
    nth_in [] q x e = absurd (none_some x e)
    nth_in (z ∷ zs) zero x e = inl (sym (some_same z x e))
    nth_in (z ∷ zs) (suc q) x e = inr (nth_in zs q x e)

pub reads_what_it_writes : (n : Nest) → IsPlain n.body → IsNestText (run_nest n) → IsReady n → read_own_elements n ≡ true → ReadsWhatItWrites (run_nest n)
reads_what_it_writes n plain text ready own s q r v is c inside at name may =
    let there = standing_there n plain s inside in
    let x : Standing = there.0 in
    let vars = graph.variables_round x in
    let listed : In r (drop 1 (graph.references_of x)) =
    behind_first (graph.references_of x) q r (ap (λ rs. nth_of rs (suc q)) (sym (references_there n plain text ready s x there.1)) ∙ at) in
    let reads : reads_own_element n.symbols x ≡ true = all_in (reads_own_element n.symbols) (nest_statements n) own x (in_x x s there.1) in
    let one : reads_what_is_written vars n.symbols x.statement.left r ≡ true =
    all_in (reads_what_is_written vars n.symbols x.statement.left) (drop 1 (graph.references_of x)) reads r listed in
    let left : ((run_nest n).statement_at s).left ≡ x.statement.left = ap (λ o. (guarded_of o).left) (nth_same (nest_statements n) s ∙ there.1) in
    let named : bytes_eq r.name x.statement.left.name ≡ true = (bytes_eq-Decides r.name x.statement.left.name).1 (name ∙ ap (λ (y : Reference). y.name) left) in
    let forms : same_forms vars n.symbols r.subscripts x.statement.left.subscripts ≡ true = by (bytes_eq r.name x.statement.left.name) named one in
    let linear : (e : Expression) → (run_nest n).linear s e ≡ number_by n.symbols (form_of vars n.symbols e) =
    λ e. ap (λ zs. number_by n.symbols (form_of zs n.symbols e)) (variables_there n plain ready s x there.1) in
    subst (λ y. MayName (run_nest n) v s is y c) (sym left)
    (record {
      name = may.name ∙ (name ∙ ap (λ (y : Reference). y.name) left);
      subscripts = same_values (run_nest n) n.symbols vars s v is linear r.subscripts x.statement.left.subscripts c.subscripts forms may.subscripts;
    })
  where
    in_x : (x : Standing) (s : ℕ) → slice_get (nest_statements n) s ≡ Some x → In x (nest_statements n)
    in_x x s e = in_there (nest_statements n) s x e

    by : {b : Bool} (a : Bool) → a ≡ true → not a || b ≡ true → b ≡ true
    by true e h = h
    by false e h = absurd (true_false (sym e))
