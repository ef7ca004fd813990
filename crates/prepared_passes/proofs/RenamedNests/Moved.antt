-- Two stores, in the second of which the values of some scalars have other names, by the place in the text.
use Rattle.std.proofs.Common.{◌≡◌, ◌⊎◌, inl, inr, refl, sym, ap, ap₂, ◌∙◌, subst, ℕ, ◌+◌, ℤ, Bool, true, false, cond, List, [], ◌∷◌, ◌++◌, Result, Ok, Err, Option, Some, None}
use Rattle.std.specs.List.{AllByRecursion}
use Rattle.std.specs.Option.{option_map}
use Rattle.std.specs.Str.{bytes_eq}
use Rattle.tree.specs.Operators.{apply, as_number, as_truth, call}
use Rattle.tree.specs.Plain.{Apply, Assignment, Binary, Constructor, Expression, Expressions, Logic, Named, Number, Only, Reduce, Reference, Reshape}
use Rattle.tree.specs.Plain.{Section, Spread, Subscript, Subscripts, Transpose, Unary, expression, no_expressions, no_statements, no_subscripts, statement, subscript}
use Rattle.tree.specs.Steps.{◌>>=◌}
use Rattle.tree.specs.declared.ops.Fault.{Fault}
use Rattle.tree.specs.declared.ops.Fault.TheVariants.{Bounds}
use Rattle.tree.specs.declared.ops.Value.{Value}
use Rattle.meaning.proofs.Exchanges.{same_cell-refl, same_cell-same}
use Rattle.meaning.specs.Dialect.{Dialect}
use Rattle.meaning.specs.Reads.{names_in, names_in_each, names_in_subscript, names_in_subscripts}
use Rattle.meaning.specs.Run.{does}
use Rattle.meaning.specs.Store.{Cell, Store, cell_at, cell_in, is_within, put, same_cell}
use Rattle.meaning.specs.Value.{cell_named, subscript_value, subscript_values, truth_of, value_of, values_of}
use Rattle.nest.specs.Blocks.{guarded_statement}
use Rattle.nest.specs.Plain.{Guarded, Loop}
use Rattle.nest_order.proofs.orders.Lists.{In-left, In-right}
use Rattle.nest_order.proofs.runs.Results.{both_ok}
use Rattle.nest_order.proofs.runs.Variables.{cell_name}
use Rattle.nest_order.specs.orders.Lists.{In}
use Rattle.nest_order.specs.runs.Guarded.{names_of_guard}
use Rattle.nest_steps.proofs.Acts.{Lands, Leads-assignment, Leads-chooses, Leads-from}
use Rattle.nest_steps.proofs.Rounds.{hold_put}
use Rattle.nest_steps.specs.Leading.{Leads}
use Rattle.nest_steps.specs.Rounds.{InLoops}
use Rattle.rewrite.specs.Following.{sequential}
use Rattle.rewrite.specs.Making.{Making, made, made_expressions, made_subscript, made_subscripts}
use Rattle.scalar_rename.specs.Renamed.{bare_name, named_or, with_left_name}
use Rattle.statement_passes.specs.Texts.{with_nodes}

-- names: the name of a variable's value where so many statements stand before; Made: names that only the second run has
module _ (bits : ℕ) (names : ℕ → List ℕ → List ℕ) (Made : List ℕ → Type 0) where
  abbrev lang : Dialect
  lang = sequential bits

  -- elements keep their names
  abbrev name_at : ℕ → List ℕ → List ℤ → List ℕ
  name_at k x [] = names k x
  name_at k x (i ∷ is) = x

  abbrev pub moved : ℕ → Cell → Cell
  moved k c = record { name = name_at k c.name c.subscripts; subscripts = c.subscripts }

  abbrev bare : List ℕ → Cell
  bare x = record { name = x; subscripts = [] }

  pub record AreNamed (k : ℕ) (s u : Store) : Type 0 where
    pub bounds : (x : List ℕ) → u.bounds x ≡ s.bounds x
    pub scalars : (j : ℕ) (x : List ℕ) → (names j x ≡ x) ⊎ ((s.bounds x ≡ Some []) × (s.bounds (names j x) ≡ Some []))
    pub held : (c : Cell) → ¬ Made c.name → u.held (moved k c) ≡ s.held c

  abbrev pub making : ℕ → Making
  making k = record { expression = λ first e. named_or (option_map (names k) (bare_name e)) e; left = λ l. l }

  abbrev pub Others : List (List ℕ) → Type 0
  Others xs = (x : List ℕ) → In x xs → ¬ Made x

  front : (xs ys : List (List ℕ)) → Others (xs ++ ys) → Others xs
  front xs ys h x i = h x (In-left x xs ys i)

  rest : (xs ys : List (List ℕ)) → Others (xs ++ ys) → Others ys
  rest xs ys h x i = h x (In-right x xs ys i)

  -- ---- values

  abbrev fetched : Option (List (ℤ × ℤ)) → List ℕ → List ℤ → Store → Result Value Fault
  fetched o x is s = do
    c ← cell_in o x is
    Ok (s.held c)

  fetched_same : (o : Option (List (ℤ × ℤ))) (x : List ℕ) (is : List ℤ) (s u : Store) → u.held (record { name = x; subscripts = is }) ≡ s.held (record { name = x; subscripts = is })
      → fetched o x is u ≡ fetched o x is s
  fetched_same None x is s u h = refl
  fetched_same (Some bs) x is s u h = by (is_within bs is)
    where
      by : (b : Bool) → (do c ← cond b (Ok (record { name = x; subscripts = is })) (Err Bounds); Ok (u.held c)) ≡ (do c ← cond b (Ok (record { name = x; subscripts = is })) (Err Bounds); Ok (s.held c))
      by true = ap Ok h
      by false = refl

  bare_same : (k : ℕ) (s u : Store) → AreNamed k s u → (x : List ℕ) → ¬ Made x → fetched (u.bounds (names k x)) (names k x) [] u ≡ fetched (s.bounds x) x [] s
  bare_same k s u a x n = by (a.scalars k x)
    where
      by : (names k x ≡ x) ⊎ ((s.bounds x ≡ Some []) × (s.bounds (names k x) ≡ Some [])) → fetched (u.bounds (names k x)) (names k x) [] u ≡ fetched (s.bounds x) x [] s
      by (inl e) =
          ap (λ y. fetched (u.bounds y) y [] u) e
          ∙ (ap (λ o. fetched o x [] u) (a.bounds x)
          ∙ fetched_same (s.bounds x) x [] s u (ap (λ y. u.held (bare y)) (sym e) ∙ a.held (bare x) n))
      by (inr b) =
          ap (λ o. fetched o (names k x) [] u) (a.bounds (names k x) ∙ b.1)
          ∙ (ap Ok (a.held (bare x) n) ∙ ap (λ o. fetched o x [] s) (sym b.0))

  -- an element, once its subscripts have values
  element_same : (k : ℕ) (s u : Store) → AreNamed k s u → (x : List ℕ) → ¬ Made x → (r : Result ℤ Fault) (t : Result (List ℤ) Fault)
      → (do is ← (do i ← r; js ← t; Ok (i ∷ js)); c ← cell_at x is u; Ok (u.held c)) ≡ (do is ← (do i ← r; js ← t; Ok (i ∷ js)); c ← cell_at x is s; Ok (s.held c))
  element_same k s u a x n (Err f) t = refl
  element_same k s u a x n (Ok i) (Err f) = refl
  element_same k s u a x n (Ok i) (Ok js) =
      ap (λ o. fetched o x (i ∷ js) u) (a.bounds x) ∙ fetched_same (s.bounds x) x (i ∷ js) s u (a.held (record { name = x; subscripts = i ∷ js }) n)

  module _ (k : ℕ) (s u : Store) (a : AreNamed k s u) where
    abbrev new : Expression → Expression
    new = made (making k)

    mutual
      pub value_same : (e : Expression) → Others (names_in e) → value_of lang (new e) u ≡ value_of lang e s
      value_same (Number n) h = refl
      value_same (Logic b) h = refl
      value_same (Named x no_subscripts) h = bare_same k s u a x (h x (inl refl))
      value_same (Named x (subscript q qs)) h =
          ap₂ (λ (r : Result ℤ Fault) (t : Result (List ℤ) Fault). do is ← (do i ← r; js ← t; Ok (i ∷ js)); c ← cell_at x is u; Ok (u.held c))
          (subscript_same q (λ y i. h y (inr (In-left y (names_in_subscript q) (names_in_subscripts qs) i))))
          (subscripts_same qs (λ y i. h y (inr (In-right y (names_in_subscript q) (names_in_subscripts qs) i))))
          ∙ element_same k s u a x (h x (inl refl)) (subscript_value lang q s) (subscript_values lang qs s)
      value_same (Unary o b) h = ap (λ r. do x ← r; apply o x x) (value_same b h)
      value_same (Binary o b c) h = ap₂ (λ r q. do x ← r; y ← q; apply o x y) (value_same b (front (names_in b) (names_in c) h)) (value_same c (rest (names_in b) (names_in c) h))
      value_same (Apply f es) h = ap (λ r. do xs ← r; call f xs) (values_same es h)
      value_same (Constructor es ls) h = refl
      value_same (Spread b n e) h = refl
      value_same (Transpose b) h = refl
      value_same (Reshape b es) h = refl
      value_same (Reduce r b) h = refl

      values_same : (es : Expressions) → Others (names_in_each es) → values_of lang (made_expressions (making k) es) u ≡ values_of lang es s
      values_same no_expressions h = refl
      values_same (expression e es) h = ap₂ (λ r q. do x ← r; xs ← q; Ok (x ∷ xs)) (value_same e (front (names_in e) (names_in_each es) h)) (values_same es (rest (names_in e) (names_in_each es) h))

      subscripts_same : (ps : Subscripts) → Others (names_in_subscripts ps) → subscript_values lang (made_subscripts (making k) ps) u ≡ subscript_values lang ps s
      subscripts_same no_subscripts h = refl
      subscripts_same (subscript p ps) h =
          ap₂ (λ r q. do i ← r; is ← q; Ok (i ∷ is)) (subscript_same p (front (names_in_subscript p) (names_in_subscripts ps) h)) (subscripts_same ps (rest (names_in_subscript p) (names_in_subscripts ps) h))

      subscript_same : (p : Subscript) → Others (names_in_subscript p) → subscript_value lang (made_subscript (making k) p) u ≡ subscript_value lang p s
      subscript_same (Only e) h = ap (λ r. do x ← r; as_number x) (value_same e h)
      subscript_same (Section b c d) h = refl

    pub truth_same : (e : Expression) → Others (names_in e) → truth_of lang (new e) u ≡ truth_of lang e s
    truth_same e h = ap (λ r. do x ← r; as_truth x) (value_same e h)

  -- ---- left sides

  -- no element of a scalar is there
  no_element : (o : Option (List (ℤ × ℤ))) (x : List ℕ) (i : ℤ) (is : List ℤ) (c : Cell) → o ≡ Some [] → cell_in o x (i ∷ is) ≡ Ok c → ⊥
  no_element o x i is c e h = let f : cell_in (Some []) x (i ∷ is) ≡ Ok c = sym (ap (λ b. cell_in b x (i ∷ is)) e) ∙ h in cc

  cell_is : (o : Option (List (ℤ × ℤ))) (x : List ℕ) (is : List ℤ) (c : Cell) → cell_in o x is ≡ Ok c → c ≡ record { name = x; subscripts = is }
  cell_is o x is c h = let n = cell_name o x is c h in ap₂ (λ (y : List ℕ) (js : List ℤ). let d : Cell = record { name = y; subscripts = js } in d) n.0 (sym n.1)

  abbrev left_of : ℕ → ℕ → Reference → Reference
  left_of k k' r = record { name = names k' r.name; subscripts = made_subscripts (making k) r.subscripts }

  module _ (k k' : ℕ) (s u : Store) (a : AreNamed k s u) (x : List ℕ) where
    here : (is : List ℤ) (c : Cell) → cell_in (s.bounds x) x is ≡ Ok c → cell_in (u.bounds (names k' x)) (names k' x) is ≡ Ok (moved k' c)
    here is c h = by is h (a.scalars k' x)
      where
        by : (is : List ℤ) → cell_in (s.bounds x) x is ≡ Ok c → (names k' x ≡ x) ⊎ ((s.bounds x ≡ Some []) × (s.bounds (names k' x) ≡ Some []))
            → cell_in (u.bounds (names k' x)) (names k' x) is ≡ Ok (moved k' c)
        by [] h (inl e) =
            let is_bare = cell_is (s.bounds x) x [] c h in
            ap (λ y. cell_in (u.bounds y) y []) e ∙ (ap (λ o. cell_in o x []) (a.bounds x) ∙ (h ∙ ap Ok (is_bare ∙ (ap bare (sym e) ∙ ap (moved k') (sym is_bare)))))
        by [] h (inr b) =
            let is_bare = cell_is (s.bounds x) x [] c h in
            ap (λ o. cell_in o (names k' x) []) (a.bounds (names k' x) ∙ b.1) ∙ ap (λ (d : Cell). Ok (moved k' d)) (sym is_bare)
        by (i ∷ is) h (inl e) =
            let element = cell_is (s.bounds x) x (i ∷ is) c h in
            ap (λ y. cell_in (u.bounds y) y (i ∷ is)) e ∙ (ap (λ o. cell_in o x (i ∷ is)) (a.bounds x) ∙ (h ∙ ap Ok (element ∙ ap (moved k') (sym element))))
        by (i ∷ is) h (inr b) = absurd (no_element (s.bounds x) x i is c b.0 h)

  pub left_same : (k k' : ℕ) (s u : Store) → AreNamed k s u → (r : Reference) → Others (names_in_subscripts r.subscripts) → (c : Cell) → cell_named lang r s ≡ Ok c
      → cell_named lang (left_of k k' r) u ≡ Ok (moved k' c)
  left_same k k' s u a r h c e =
      let p = both_ok (subscript_values lang r.subscripts s) (λ is. cell_at r.name is s) c e in
      ap (λ (q : Result (List ℤ) Fault). do is ← q; cell_in (u.bounds (names k' r.name)) (names k' r.name) is) (subscripts_same k s u a r.subscripts h ∙ p.1)
      ∙ here k k' s u a r.name p.0 c p.2

  -- ---- changes

  module _ (once : (k : ℕ) (x z : List ℕ) → ¬ Made x → ¬ Made z → names k x ≡ names k z → x ≡ z) where
    moved_once : (k : ℕ) (c d : Cell) → ¬ Made c.name → ¬ Made d.name → moved k c ≡ moved k d → c ≡ d
    moved_once k c d n m e =
        let subs : c.subscripts ≡ d.subscripts = ap (λ (q : Cell). q.subscripts) e in
        ap₂ (λ (x : List ℕ) (is : List ℤ). let q : Cell = record { name = x; subscripts = is } in q) (by c.subscripts d.subscripts subs (ap (λ (q : Cell). q.name) e)) subs
      where
        by : (is js : List ℤ) → is ≡ js → name_at k c.name is ≡ name_at k d.name js → c.name ≡ d.name
        by [] [] f g = once k c.name d.name n m g
        by [] (j ∷ js) f g = cc
        by (i ∷ is) [] f g = cc
        by (i ∷ is) (j ∷ js) f g = g

    pub put_moved : (k k' : ℕ) (c : Cell) (v : Value) (s u : Store) → AreNamed k s u → ¬ Made c.name → ((d : Cell) → ¬ Made d.name → ¬ (d ≡ c) → moved k' d ≡ moved k d)
        → AreNamed k' (put c v s) (put (moved k' c) v u)
    put_moved k k' c v s u a n same = record {
      bounds = a.bounds;
      scalars = a.scalars;
      held = λ d m. by d m (same_cell c d) refl (same_cell (moved k' c) (moved k' d)) refl;
    }
      where
        by : (d : Cell) → ¬ Made d.name → (b : Bool) → same_cell c d ≡ b → (b' : Bool) → same_cell (moved k' c) (moved k' d) ≡ b' → (put (moved k' c) v u).held (moved k' d) ≡ (put c v s).held d
        by d m true e true f = ap (λ b. cond b v (u.held (moved k' d))) f ∙ ap (λ b. cond b v (s.held d)) (sym e)
        by d m false e false f =
            ap (λ b. cond b v (u.held (moved k' d))) f
            ∙ (ap (λ (q : Cell). u.held q) (same d m (λ q. (let bad : true ≡ false = sym (same_cell-refl c) ∙ (ap (same_cell c) (sym q) ∙ e) in cc)))
            ∙ (a.held d m ∙ ap (λ b. cond b v (s.held d)) (sym e)))
        by d m true e false f = let bad : true ≡ false = sym (same_cell-refl (moved k' c)) ∙ (ap (λ (q : Cell). same_cell (moved k' c) (moved k' q)) (same_cell-same c d e) ∙ f) in cc
        by d m false e true f =
            let same' = moved_once k' c d n m (same_cell-same (moved k' c) (moved k' d) f) in
            let bad : true ≡ false = sym (same_cell-refl c) ∙ (ap (same_cell c) same' ∙ e) in cc

    -- where no value gets another name
    pub names_stay : (k k' : ℕ) (s u : Store) → ((x : List ℕ) → ¬ Made x → names k' x ≡ names k x) → AreNamed k s u → AreNamed k' s u
    names_stay k k' s u same a = record {
      bounds = a.bounds;
      scalars = a.scalars;
      held = λ d m. ap (λ y. u.held (record { name = y; subscripts = d.subscripts })) (by d.name m d.subscripts) ∙ a.held d m;
    }
      where
        by : (x : List ℕ) → ¬ Made x → (is : List ℤ) → name_at k' x is ≡ name_at k x is
        by x m [] = same x m
        by x m (i ∷ is) = refl

    -- ---- statements

    abbrev pub renamed : ℕ → Guarded → Guarded
    renamed k g = with_left_name (with_nodes (making k) g) (names (k + 1) g.left.name)

    -- no made name stands in it, it counts no loop, and no other value than that which it assigns, always, gets a name
    pub record Fits (ls : List Loop) (k : ℕ) (g : Guarded) : Type 0 where
      pub guard : Others (names_of_guard g.guard)
      pub right : Others (names_in g.right)
      pub target : ¬ Made g.left.name
      pub left : Others (names_in_subscripts g.left.subscripts)
      pub own : AllByRecursion (λ (o : Loop). bytes_eq g.left.name o.variable ≡ false) ls
      pub also_own : AllByRecursion (λ (o : Loop). bytes_eq (names (k + 1) g.left.name) o.variable ≡ false) ls
      pub moves : (x : List ℕ) → ¬ Made x → (names (k + 1) x ≡ names k x) ⊎ ((g.guard ≡ None) × (g.left.name ≡ x))

    module _ (counters : List ℕ → Bool) (ls : List Loop) (is : List ℕ) (k : ℕ) (g : Guarded) (h : Fits ls k g) where
      abbrev At : ℕ → Store → Store → Type 0
      At j = InLoops bits counters (λ ts j. AreNamed j) ls is j

      others_stay : (s u : Store) → AreNamed k s u → (c : Cell) → cell_named lang g.left s ≡ Ok c → (d : Cell) → ¬ Made d.name → ¬ (d ≡ c) → moved (k + 1) d ≡ moved k d
      others_stay s u a c e d m differs = ap (λ y. let q : Cell = record { name = y; subscripts = d.subscripts } in q) (by d.subscripts refl (h.moves d.name m))
        where
          p : (js : List ℤ) × (subscript_values lang g.left.subscripts s ≡ Ok js) × (cell_at g.left.name js s ≡ Ok c)
          p = both_ok (subscript_values lang g.left.subscripts s) (λ js. cell_at g.left.name js s) c e

          scalar : (j : ℕ) → (s.bounds d.name ≡ Some [] → ⊥) → names j d.name ≡ d.name
          scalar j none = either (a.scalars j d.name)
            where
              either : (names j d.name ≡ d.name) ⊎ ((s.bounds d.name ≡ Some []) × (s.bounds (names j d.name) ≡ Some [])) → names j d.name ≡ d.name
              either (inl f) = f
              either (inr b) = absurd (none b.0)

          -- it is another cell of that name
          element : (js : List ℤ) → cell_at g.left.name js s ≡ Ok c → d.subscripts ≡ [] → g.left.name ≡ d.name → s.bounds d.name ≡ Some [] → ⊥
          element [] f empty same b =
              let is_it = cell_is (s.bounds g.left.name) g.left.name [] c f in
              differs (ap₂ (λ (x : List ℕ) (js : List ℤ). let q : Cell = record { name = x; subscripts = js } in q) (sym same) empty ∙ sym is_it)
          element (j ∷ js) f empty same b = no_element (s.bounds g.left.name) g.left.name j js c (ap (λ x. s.bounds x) same ∙ b) f

          by : (js : List ℤ) → d.subscripts ≡ js → (names (k + 1) d.name ≡ names k d.name) ⊎ ((g.guard ≡ None) × (g.left.name ≡ d.name)) → name_at (k + 1) d.name js ≡ name_at k d.name js
          by (j ∷ js) f q = refl
          by [] f (inl q) = q
          by [] f (inr q) = scalar (k + 1) (element p.0 p.2 f q.1) ∙ sym (scalar k (element p.0 p.2 f q.1))

      name_of : (s : Store) (c : Cell) → cell_named lang g.left s ≡ Ok c → c.name ≡ g.left.name
      name_of s c e =
          let p = both_ok (subscript_values lang g.left.subscripts s) (λ js. cell_at g.left.name js s) c e in
          (cell_name (s.bounds g.left.name) g.left.name p.0 c p.2).0

      moved_own : (x : List ℕ) (js : List ℤ) → x ≡ g.left.name → AllByRecursion (λ (o : Loop). bytes_eq (name_at (k + 1) x js) o.variable ≡ false) ls
      moved_own x [] e = subst (λ y. AllByRecursion (λ (o : Loop). bytes_eq (names (k + 1) y) o.variable ≡ false) ls) (sym e) h.also_own
      moved_own x (j ∷ js) e = subst (λ y. AllByRecursion (λ (o : Loop). bytes_eq y o.variable ≡ false) ls) (sym e) h.own

      lands : (s u : Store) → At k s u → (v : Value) → value_of lang g.right s ≡ Ok v → (c : Cell) → cell_named lang g.left s ≡ Ok c → Lands bits (At (k + 1)) s u (left_of k (k + 1) g.left) c v
      lands s u a v f c e = record {
        cell = moved (k + 1) c;
        named = left_same k (k + 1) s u a.stores g.left h.left c e;
        put = λ range. record {
          stores = put_moved k (k + 1) c v s u a.stores (subst (λ y. ¬ Made y) (sym (name_of s c e)) h.target) (others_stay s u a.stores c e);
          scalars = a.scalars;
          first = hold_put c v ls is s (subst (λ y. AllByRecursion (λ (o : Loop). bytes_eq y o.variable ≡ false) ls) (sym (name_of s c e)) h.own) a.first;
          second = hold_put (moved (k + 1) c) v ls is u (moved_own c.name c.subscripts (name_of s c e)) a.second;
        };
      }

      assigned : Leads (At k) (At (k + 1)) (does lang None (Assignment g.line None g.left g.right)) (does lang None (Assignment g.line None (left_of k (k + 1) g.left) (made (making k) g.right)))
      assigned = Leads-assignment bits (At k) (At (k + 1)) g.line g.line None None g.left (left_of k (k + 1) g.left) g.right (made (making k) g.right)
          (λ s u a v f. value_same k s u a.stores g.right h.right ∙ f) lands

      pub statement_leads : Leads (At k) (At (k + 1)) (does lang None (guarded_statement g)) (does lang None (guarded_statement (renamed k g)))
      statement_leads = by g.guard refl h.guard
        where
          by : (o : Option Expression) → g.guard ≡ o → Others (names_of_guard o)
              → Leads (At k) (At (k + 1)) (does lang None (guarded_statement (record g { guard = o }))) (does lang None (guarded_statement (renamed k (record g { guard = o }))))
          by None e n = assigned
          by (Some t) e n =
              Leads-chooses bits (At k) (At (k + 1)) g.line g.line t (made (making k) t) (statement (Assignment g.line None g.left g.right) no_statements)
              (statement (Assignment g.line None (left_of k (k + 1) g.left) (made (making k) g.right)) no_statements)
              (λ s u a x f. truth_same k s u a.stores t n ∙ f)
              (Leads-from (At k) (λ s u. At k s u × (truth_of lang t s ≡ Ok true)) (At (k + 1)) _ _ (λ s u a. a.0) assigned)
              (λ s u a f. record { stores = names_stay k (k + 1) s u same a.stores; scalars = a.scalars; first = a.first; second = a.second })
            where
              same : (x : List ℕ) → ¬ Made x → names (k + 1) x ≡ names k x
              same x m = either (h.moves x m)
                where
                  either : (names (k + 1) x ≡ names k x) ⊎ ((g.guard ≡ None) × (g.left.name ≡ x)) → names (k + 1) x ≡ names k x
                  either (inl q) = q
                  either (inr q) = let bad : ◌≡◌ {A = Option Expression} None (Some t) = sym q.0 ∙ e in cc
