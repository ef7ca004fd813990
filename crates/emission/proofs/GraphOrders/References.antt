-- The references of a statement: where it names the variables of its own loops alone, all loop variables of the nest
-- are left out with these.
use Rattle.std.proofs.Common.{◌≡◌, refl, sym, ap, ap₂, ◌∙◌, subst, inl, inr, ℕ, Bool, true, false, not, cond, ◌||◌}
use Rattle.std.proofs.Common.{List, [], ◌∷◌, ◌++◌, map, filter, Option, Some, None}
use Rattle.std.specs.Str.{bytes_eq}
use Rattle.std.proofs.lemmas.List.Elements.{filter-append}
use Rattle.std.proofs.lemmas.Slice.Eq.{bytes_eq-Decides}
use Rattle.tree.specs.Plain.{Expression, Number, Logic, Named, Unary, Binary, Apply, Constructor, Spread, Transpose}
use Rattle.tree.specs.Plain.{Reshape, Reduce, Expressions, no_expressions, expression, Subscript, Only, Section}
use Rattle.tree.specs.Plain.{Subscripts, no_subscripts, subscript, Reference}
use Rattle.meaning.specs.Reads.{names_in, names_in_each, names_in_subscript, names_in_subscripts}
use Rattle.meaning.specs.Store.{Cell}
use Rattle.dependence_graph.specs.nest_graph.References as graph
use Rattle.dependence_graph.specs.nest_graph.References.{is_among}
use Rattle.nest_order.specs.orders.Lists.{In}
use Rattle.nest_order.specs.orders.Shapes.{loops_of_shape, statements}
use Rattle.nest_order.proofs.orders.Common.{statement_stands}
use Rattle.nest_order.proofs.orders.Lists.{In-left, In-right}
use Rattle.nest_order.proofs.orders.Membership.{In-map, map-In}
use Rattle.nest_order.specs.runs.Guarded.{GuardedAssignment, names_of, names_of_guard, variable_cell}
use Rattle.nest_order.specs.runs.Nests.{RunNest, is_nest_variable}
use Rattle.nest_order.specs.runs.Stores.{IsNestText}
use Rattle.nest_order.specs.runs.Touched.{ArePlain, EachIsPlain, IsPlain, IsPlainAssignment, IsPlainGuard, IsPlainSubscript}
use Rattle.nest_order.specs.runs.Touched.{has_no_subscripts, touched_in, references_in_each, touched_in_guard}
use Rattle.nest_order.specs.runs.Touched.{touched_in_subscript, touched_in_subscripts, references_of, references_read}
use Rattle.nest_order.proofs.runs.Alone.{stands_loops}
use Rattle.nest_order.proofs.runs.Variables.{variable_from, variable_is}
use Rattle.nest.specs.Bodies.{Standing}

-- ---- names among others

among_in : (xs : List (List ℕ)) (x : List ℕ) → is_among xs x ≡ true → In x xs
among_in [] x e = cc
among_in (y ∷ xs) x e = by (bytes_eq y x) refl e (among_in xs x)
  where
    by : (b : Bool) → bytes_eq y x ≡ b → (b || is_among xs x) ≡ true → (is_among xs x ≡ true → In x xs) → In x (y ∷ xs)
    by true f g more = inl (sym ((bytes_eq-Decides y x).0 f))
    by false f g more = inr (more g)

in_among : (xs : List (List ℕ)) (x : List ℕ) → In x xs → is_among xs x ≡ true
in_among [] x i = absurd i
in_among (y ∷ xs) x (inl e) = ap (λ b. b || is_among xs x) ((bytes_eq-Decides y x).1 (sym e))
in_among (y ∷ xs) x (inr i) = by (bytes_eq y x) (in_among xs x i)
  where
    by : (b : Bool) → is_among xs x ≡ true → (b || is_among xs x) ≡ true
    by true f = refl
    by false f = f

same_truth : (a b : Bool) → (a ≡ true → b ≡ true) → (b ≡ true → a ≡ true) → a ≡ b
same_truth true b f g = sym (f refl)
same_truth false true f g = g refl
same_truth false false f g = refl

-- ---- those that are left out

left_out : (b c : Bool) (r : Reference) (rs : List Reference) → b ≡ c → cond (not b) (r ∷ rs) rs ≡ cond c [] (r ∷ []) ++ rs
left_out true true r rs e = refl
left_out true false r rs e = cc
left_out false true r rs e = cc
left_out false false r rs e = refl

module _ (test : List ℕ → Bool) (vars : List (List ℕ)) where
  abbrev kept : List Reference → List Reference
  kept rs = filter (λ r. not (cond (has_no_subscripts r.subscripts) (test r.name) false)) rs

  abbrev Agrees : List (List ℕ) → Type 0
  Agrees names = (x : List ℕ) → In x names → test x ≡ is_among vars x

  kept_both : (xs ys : List Reference) → kept (xs ++ ys) ≡ kept xs ++ kept ys
  kept_both xs ys = filter-append (λ r. not (cond (has_no_subscripts r.subscripts) (test r.name) false)) xs ys

  agree_left : (xs ys : List (List ℕ)) → Agrees (xs ++ ys) → Agrees xs
  agree_left xs ys h x i = h x (In-left x xs ys i)

  agree_right : (xs ys : List (List ℕ)) → Agrees (xs ++ ys) → Agrees ys
  agree_right xs ys h x i = h x (In-right x xs ys i)

  kept_own : (x : List ℕ) (ps : Subscripts) (rs : List Reference) → test x ≡ is_among vars x
      → kept (record { name = x; subscripts = ps } ∷ rs) ≡ graph.own_reference vars x ps ++ kept rs
  kept_own x no_subscripts rs h =
      left_out (test x) (is_among vars x) (record { name = x; subscripts = no_subscripts }) (kept rs) h
  kept_own x (subscript p ps) rs h = refl

  both : (rs ss : List Reference) (ts us : List Reference) → kept rs ≡ ts → kept ss ≡ us → kept (rs ++ ss) ≡ ts ++ us
  both rs ss ts us e f = kept_both rs ss ∙ ap₂ (λ x y. x ++ y) e f

  mutual
    kept_in : (e : Expression) → IsPlain e → Agrees (names_in e) → kept (touched_in e) ≡ graph.references_in vars e
    kept_in (Number k) p h = refl
    kept_in (Logic b) p h = refl
    kept_in (Named x ps) p h =
        kept_own x ps (touched_in_subscripts ps) (h x (inl refl))
        ∙ ap (λ rs. graph.own_reference vars x ps ++ rs) (kept_in_subscripts ps p (λ y i. h y (inr i)))
    kept_in (Unary o a) p h = kept_in a p h
    kept_in (Binary o a b) p h =
        both (touched_in a) (touched_in b) (graph.references_in vars a) (graph.references_in vars b)
        (kept_in a p.0 (agree_left (names_in a) (names_in b) h)) (kept_in b p.1 (agree_right (names_in a) (names_in b) h))
    kept_in (Apply f es) p h = kept_in_each es p h
    kept_in (Constructor es ls) p h = absurd p
    kept_in (Spread a k e) p h = absurd p
    kept_in (Transpose a) p h = absurd p
    kept_in (Reshape a es) p h = absurd p
    kept_in (Reduce r a) p h = absurd p

    kept_in_each : (es : Expressions) → EachIsPlain es → Agrees (names_in_each es)
        → kept (references_in_each es) ≡ graph.references_in_all vars es
    kept_in_each no_expressions p h = refl
    kept_in_each (expression e es) p h =
        both (touched_in e) (references_in_each es) (graph.references_in vars e) (graph.references_in_all vars es)
        (kept_in e p.0 (agree_left (names_in e) (names_in_each es) h))
        (kept_in_each es p.1 (agree_right (names_in e) (names_in_each es) h))

    kept_in_subscripts : (ps : Subscripts) → ArePlain ps → Agrees (names_in_subscripts ps)
        → kept (touched_in_subscripts ps) ≡ graph.references_in_subscripts vars ps
    kept_in_subscripts no_subscripts p h = refl
    kept_in_subscripts (subscript q ps) p h =
        both (touched_in_subscript q) (touched_in_subscripts ps) (graph.references_in_subscript vars q)
        (graph.references_in_subscripts vars ps)
        (kept_in_subscript q p.0 (agree_left (names_in_subscript q) (names_in_subscripts ps) h))
        (kept_in_subscripts ps p.1 (agree_right (names_in_subscript q) (names_in_subscripts ps) h))

    kept_in_subscript : (q : Subscript) → IsPlainSubscript q → Agrees (names_in_subscript q)
        → kept (touched_in_subscript q) ≡ graph.references_in_subscript vars q
    kept_in_subscript (Only e) p h = kept_in e p h
    kept_in_subscript (Section a b c) p h = absurd p

  kept_in_guard : (o : Option Expression) → IsPlainGuard o → Agrees (names_of_guard o)
      → kept (touched_in_guard o) ≡ graph.references_in_guard vars o
  kept_in_guard None p h = refl
  kept_in_guard (Some e) p h = kept_in e p h

  abbrev read_by : GuardedAssignment → List Reference
  read_by g =
      graph.references_in_guard vars g.guard
      ++ (graph.references_in_subscripts vars g.left.subscripts ++ graph.references_in vars g.right)

  kept_read : (g : GuardedAssignment) → IsPlainAssignment g → Agrees (names_of g) → kept (references_read g) ≡ read_by g
  kept_read g p h =
      let of_left = g.left.name ∷ names_in_subscripts g.left.subscripts in
      let guard = agree_left (names_of_guard g.guard) (names_in g.right ++ of_left) h in
      let rest = agree_right (names_of_guard g.guard) (names_in g.right ++ of_left) h in
      let right = agree_left (names_in g.right) of_left rest in
      let left = agree_right (names_in g.right) of_left rest in
      both (touched_in_guard g.guard) (touched_in_subscripts g.left.subscripts ++ touched_in g.right)
      (graph.references_in_guard vars g.guard)
      (graph.references_in_subscripts vars g.left.subscripts ++ graph.references_in vars g.right)
      (kept_in_guard g.guard p.0 guard)
      (both (touched_in_subscripts g.left.subscripts) (touched_in g.right)
      (graph.references_in_subscripts vars g.left.subscripts) (graph.references_in vars g.right)
      (kept_in_subscripts g.left.subscripts p.2 (λ x i. left x (inr i))) (kept_in g.right p.1 right))

-- ---- those of a statement of a nest

module _ (r : RunNest) (text : IsNestText r) (k : ℕ) (inside : In k (statements r.shape)) (vars : List (List ℕ))
    (same : map r.variable_at (r.loops_of k) ≡ vars) where
  loop_there : (l : ℕ) → In l (r.loops_of k) → In l (loops_of_shape r.shape)
  loop_there l i =
      let h = statement_stands r.shape k inside in
      stands_loops r.shape k h.0 h.1 l (subst (In l) (text.nest.fits k h.0 h.1) i)

  agrees : (x : List ℕ) → In x (names_of (r.statement_at k)) → is_nest_variable r (variable_cell x) ≡ is_among vars x
  agrees x i = same_truth (is_nest_variable r (variable_cell x)) (is_among vars x) there back
    where
      there : is_nest_variable r (variable_cell x) ≡ true → is_among vars x ≡ true
      there t =
          let v = variable_from r (variable_cell x) t in
          let name : x ≡ r.variable_at v.0 = ap (λ (c : Cell). c.name) v.2 in
          let own = text.own k v.0 inside v.1 (subst (λ y. In y (names_of (r.statement_at k))) name i) in
          in_among vars x (subst (In x) same (subst (λ y. In y (map r.variable_at (r.loops_of k))) (sym name)
          (map-In r.variable_at v.0 (r.loops_of k) own)))

      back : is_among vars x ≡ true → is_nest_variable r (variable_cell x) ≡ true
      back t =
          let o = In-map r.variable_at x (r.loops_of k) (subst (In x) (sym same) (among_in vars x t)) in
          subst (λ y. is_nest_variable r (variable_cell y) ≡ true) (sym o.is) (variable_is r o.it (loop_there o.it o.inside))

  references_by :
      references_of r k
      ≡ (r.statement_at k).left ∷ read_by (λ x. is_nest_variable r (variable_cell x)) vars (r.statement_at k)
  references_by =
      ap (λ rs. (r.statement_at k).left ∷ rs)
      (kept_read (λ x. is_nest_variable r (variable_cell x)) vars (r.statement_at k) (text.plain k inside) agrees)

pub references_same : (r : RunNest) → IsNestText r → (k : ℕ) → In k (statements r.shape) → (x : Standing)
    → map r.variable_at (r.loops_of k) ≡ graph.variables_round x
    → r.statement_at k ≡ record { guard = x.statement.guard; left = x.statement.left; right = x.statement.right }
    → references_of r k ≡ graph.references_of x
references_same r text k inside x same is =
    references_by r text k inside (graph.variables_round x) same
    ∙ ap (λ (g : GuardedAssignment). g.left ∷ read_by (λ y. is_nest_variable r (variable_cell y)) (graph.variables_round x) g) is
