-- What was made stands in the guarded statements of the split nest as elements: those of the nest, which stay, and those
-- of copies.
use Rattle.std.proofs.Common.{◌≡◌, ◌⊎◌, inl, inr, refl, sym, ap, ap₂, ◌∙◌, subst, ℕ, ◌+◌, ◌≤◌, ◌<◌, Bool, true, false, ◌||◌, List, [], ◌∷◌, ◌++◌, length, Option, Some, None, Contains}
use Rattle.std.specs.List.{list_any}
use Rattle.std.specs.Prelude.{IsSome}
use Rattle.std.specs.Option.{option_map}
use Rattle.std.specs.Str.{bytes_eq}
use Rattle.std.proofs.lemmas.Slice.Eq.{bytes_eq-Decides}
use Rattle.array_form.specs.holds.Bounds.{is_made}
use Rattle.dependence_graph.specs.declared.graphs.Place.{Place}
use Rattle.last_values.specs.normal_forms.NormalLoops.{counter_name}
use Rattle.linear_forms.specs.Canonical.{canonising}
use Rattle.meaning.specs.Reads.{names_in, names_in_subscripts}
use Rattle.meaning.specs.Typed.{declared}
use Rattle.nest.specs.Bodies.{Standing, nest_loops, nest_statements}
use Rattle.nest.specs.Plain.{Guarded, Loop, Made, Nest}
use Rattle.nest_order.proofs.orders.Lists.{In-append, In-left, In-right}
use Rattle.nest_order.proofs.orders.Membership.{In-map}
use Rattle.nest_order.specs.orders.Lists.{In}
use Rattle.nest_order.specs.runs.Guarded.{names_of, names_of_guard}
use Rattle.nest_order.specs.runs.Touched.{IsPlainGuard, touched_in, touched_in_guard, touched_in_subscripts}
use Rattle.pass_laws.proofs.NormalFacts.Tables.{all_in}
use Rattle.pass_laws.specs.prepared_nests.Loops.{IsPreparedLoop}
use Rattle.pass_laws.specs.prepared_nests.Made.{IsPreparedMade}
use Rattle.pass_laws.specs.prepared_nests.Nests.{IsPrepared}
use Rattle.pass_laws.specs.prepared_nests.Statements.{IsPreparedStatement, assignment, made_names}
use Rattle.prepared_passes.proofs.ArrangedNests.Names.{found_in}
use Rattle.prepared_passes.proofs.ExpandedNests.GuardedNames.{name_in, name_in_subscripts}
use Rattle.prepared_passes.proofs.ExpandedNests.Walks.{round_in}
use Rattle.prepared_passes.specs.expansion.Left.{references_touched}
use Rattle.rewrite.specs.Making.{made, made_subscripts}
use Rattle.tree.specs.Names.{IsSourceName}
use Rattle.tree.specs.Plain.{Declaration, Expression, Named, Reference, Subscripts}
use Rattle.node_splitting.specs.Arrays.{copy_name, copy_element}
use Rattle.node_splitting.specs.Counts.{variables_from_outside}
use Rattle.node_splitting.specs.Reads.{but_whole, split_in}
use Rattle.node_splitting.specs.Split.{last_from, made_arrays, may_in, reads_at, with_copy_arrays}
use Rattle.prepared_passes.specs.splitting.Elements.{HasElements, IsElementIn, SplitNestHasElements}
use Rattle.prepared_passes.specs.splitting.Splits.{IsKnown, MayBeSplit}
use Rattle.prepared_passes.proofs.SplitNests.Canonical.{IsMadeOf, of_statement as of_text, subscripts_stay}
use Rattle.prepared_passes.proofs.SplitNests.Kept.{IsFromStatement, each, from_statement, has}
use Rattle.prepared_passes.proofs.SplitNests.Names.{copy_long, copy_no_counter}
use Rattle.prepared_passes.proofs.SplitNests.Occurrences.{StoodIn, raw_guard, raw_stood, variables_stay}
use Rattle.prepared_passes.proofs.SplitNests.Places.{split_nest_has_copies}
use Rattle.prepared_passes.proofs.SplitNests.Private.{variable_of_element}
use Rattle.prepared_passes.proofs.SplitNests.Standings.{comes_from}
use Rattle.prepared_passes.proofs.SplitNests.Texts.{split_is}

-- ---- what is made

pub made_named : (ms : List Made) (y : List ℕ) → list_any (λ (c : Made). bytes_eq c.name y) ms ≡ true → (c : Made) × In c ms × (c.name ≡ y)
made_named [] y e = cc
made_named (c ∷ ms) y e = by (bytes_eq c.name y) refl e (λ f. made_named ms y f)
  where
    by : (b : Bool) → bytes_eq c.name y ≡ b → (b || list_any (λ (c : Made). bytes_eq c.name y) ms) ≡ true
        → (list_any (λ (c : Made). bytes_eq c.name y) ms ≡ true → (d : Made) × In d ms × (d.name ≡ y)) → (d : Made) × In d (c ∷ ms) × (d.name ≡ y)
    by true f g r = (c, inl refl, (bytes_eq-Decides c.name y).0 f)
    by false f g r = let h = r g in (h.0, inr h.1, h.2)

named_made : (ms : List Made) (c : Made) (y : List ℕ) → In c ms → c.name ≡ y → list_any (λ (d : Made). bytes_eq d.name y) ms ≡ true
named_made [] c y i e = absurd i
named_made (d ∷ ms) c y (inl f) e = ap (λ b. b || list_any (λ (d : Made). bytes_eq d.name y) ms) ((bytes_eq-Decides d.name y).1 (ap (λ (a : Made). a.name) (sym f) ∙ e))
named_made (d ∷ ms) c y (inr i) e = by (bytes_eq d.name y) (named_made ms c y i e)
  where
    by : (b : Bool) → list_any (λ (d : Made). bytes_eq d.name y) ms ≡ true → (b || list_any (λ (d : Made). bytes_eq d.name y) ms) ≡ true
    by true h = refl
    by false h = h

-- ---- names of references

reference_named : (g : Guarded) → IsPlainGuard g.guard → (names : (r : Reference) → In r (touched_in g.right) → In r.name (names_in g.right))
    → ((r : Reference) → In r (touched_in_subscripts g.left.subscripts) → In r.name (names_in_subscripts g.left.subscripts))
    → (r : Reference) → In r (references_touched g) → In r.name (names_of (assignment g))
reference_named g plain right left r (inl e) =
    In-right r.name (names_of_guard g.guard) (names_in g.right ++ (g.left.name ∷ names_in_subscripts g.left.subscripts))
    (In-right r.name (names_in g.right) (g.left.name ∷ names_in_subscripts g.left.subscripts) (inl (ap (λ (z : Reference). z.name) e)))
reference_named g plain right left r (inr i) = by (In-append r (touched_in_guard g.guard) (touched_in_subscripts g.left.subscripts ++ touched_in g.right) i)
  where
    condition : (o : Option Expression) → IsPlainGuard o → In r (touched_in_guard o) → In r.name (names_of_guard o)
    condition None p j = absurd j
    condition (Some e) p j = name_in e p r j

    rest : In r (touched_in_subscripts g.left.subscripts) ⊎ In r (touched_in g.right) → In r.name (names_of (assignment g))
    rest (inl j) =
        In-right r.name (names_of_guard g.guard) (names_in g.right ++ (g.left.name ∷ names_in_subscripts g.left.subscripts))
        (In-right r.name (names_in g.right) (g.left.name ∷ names_in_subscripts g.left.subscripts) (inr (left r j)))
    rest (inr j) =
        In-right r.name (names_of_guard g.guard) (names_in g.right ++ (g.left.name ∷ names_in_subscripts g.left.subscripts))
        (In-left r.name (names_in g.right) (g.left.name ∷ names_in_subscripts g.left.subscripts) (right r j))

    by : In r (touched_in_guard g.guard) ⊎ In r (touched_in_subscripts g.left.subscripts ++ touched_in g.right) → In r.name (names_of (assignment g))
    by (inl j) = In-left r.name (names_of_guard g.guard) (names_in g.right ++ (g.left.name ∷ names_in_subscripts g.left.subscripts)) (condition g.guard plain j)
    by (inr j) = rest (In-append r (touched_in_subscripts g.left.subscripts) (touched_in g.right) j)

-- ---- one statement

module _ (es : List Declaration) (around : List (List ℕ)) (deepest : ℕ) (may : Place → Bool) (m : Nest) (h : IsPrepared es around deepest m) (can : MayBeSplit es may m) (before : HasElements m)
    (y : Standing) (f : IsFromStatement may m y) (guarded : ¬ (y.statement.guard ≡ None)) where
  abbrev vs : List (List ℕ)
  vs = variables_from_outside f.from.loops

  abbrev allowed : ℕ → Bool
  allowed = may_in may (length m.symbols) f.from.loops (length f.pre)

  abbrev first : ℕ
  first = last_from may m 0 m.copies f.pre

  abbrev rs : List Reference
  rs = reads_at may (length m.symbols) f.from.loops (length f.pre) f.from.statement

  pub inside : In f.from (nest_statements m)
  inside = subst (λ (zs : List Standing). In f.from zs) (sym f.parted) (In-right f.from f.pre (f.from ∷ f.post) (inl refl))

  pub guarded_before : ¬ (f.from.statement.guard ≡ None)
  guarded_before none =
      guarded (ap (λ (z : Standing). z.statement.guard) f.text.same
      ∙ ap (option_map (made (canonising vs m.symbols))) (raw_guard vs allowed (copy_element vs) f.from.statement m f.from.loops first f.text.raw f.text.is ∙ none))

  -- ---- names

  was : IsPreparedStatement es m deepest f.from
  was = all_in (IsPreparedStatement es m deepest) (nest_statements m) h.parts.statements f.from inside

  known : (r : Reference) → In r (references_touched f.from.statement) → IsKnown m r.name
  known r i =
      can.known f.from inside r.name
      (reference_named f.from.statement was.plain.0 (λ z j. name_in f.from.statement.right was.plain.1 z j) (λ z j. name_in_subscripts f.from.statement.left.subscripts was.plain.2 z j) r i)

  no_copy : (x : List ℕ) → IsKnown m x → (c : Made) → In c (made_arrays may m) → ¬ (c.name ≡ x)
  no_copy x k c i e = by (declared m.declarations x) refl k
    where
      number : ℕ
      number = ((split_nest_has_copies may m can.few).numbered c i).0

      is : x ≡ copy_name ((split_nest_has_copies may m can.few).numbered c i).0
      is = sym e ∙ ((split_nest_has_copies may m can.few).numbered c i).3

      by : (o : Option Declaration) → declared m.declarations x ≡ o → IsKnown m x → ⊥
      by (Some d) g k = copy_long ((split_nest_has_copies may m can.few).numbered c i).0 (subst IsSourceName is (can.source x d g))
      by None g (inl w) = let none : IsSome {T = Declaration} None = subst (λ (o : Option Declaration). IsSome o) g w in let no : ⊥ = cc in no
      by None g (inr (inl w)) = can.unmade c i (subst (λ z. Contains (made_names m) z) (sym e) w)
      by None g (inr (inr w)) = copy_no_counter ((split_nest_has_copies may m can.few).numbered c i).0 w.0 (sym is ∙ w.2)

  counted : (v : List ℕ) → In v vs → (n : ℕ) × (v ≡ counter_name n)
  counted v i =
      let o = In-map (λ (l : Loop). l.variable) v f.from.loops i in
      (o.it.number, o.is ∙ by o.it (round_in [] m.body h.plain f.from inside o.it o.inside))
    where
      by : (l : Loop) → In l [] ⊎ In l (nest_loops m) → l.variable ≡ counter_name l.number
      by l (inl j) = absurd j
      by l (inr j) = (found_in (IsPreparedLoop es m.symbols) l [] m.body h.plain h.parts.loops j).1.variable

  uncounted : (c : Made) → In c (m.made ++ made_arrays may m) → (n : ℕ) → ¬ (c.name ≡ counter_name n)
  uncounted c i n e = by (In-append c m.made (made_arrays may m) i)
    where
      by : In c m.made ⊎ In c (made_arrays may m) → ⊥
      by (inl j) = (all_in (IsPreparedMade es m.symbols deepest) m.made h.parts.made c j).counter n e
      by (inr j) = let q = (split_nest_has_copies may m can.few).numbered c j in copy_no_counter q.0 n (sym q.3 ∙ e)

  -- ---- a reference to what is made

  -- one that stood in the statement
  pub record IsOld (r : Reference) : Type 0 where
    pub among : In r (references_touched f.from.statement)
    pub made : is_made m r.name ≡ true
    pub element : IsElementIn f.from.loops r

  -- or an element of a copy of it
  pub record IsNew (r : Reference) : Type 0 where
    pub number : ℕ
    pub least : first ≤ number
    pub below : number < first + length rs
    pub is : r ≡ copy_element vs number

  module _ (r : Reference) (i : In r (references_touched y.statement)) (e : is_made (with_copy_arrays may m (made_arrays may m)) r.name ≡ true) where
    -- a reference of the statement by this name
    old : (z : Reference) → In z (references_touched f.from.statement) → z.name ≡ r.name → (is_made m z.name ≡ true) × IsElementIn f.from.loops z
    old z j same =
        let c = made_named (m.made ++ made_arrays may m) r.name e in
        by c.0 (c.2 ∙ sym same) (In-append c.0 m.made (made_arrays may m) c.1)
      where
        by : (c : Made) → c.name ≡ z.name → In c m.made ⊎ In c (made_arrays may m) → (is_made m z.name ≡ true) × IsElementIn f.from.loops z
        by c is (inl k) = let t = named_made m.made c z.name k is in (t, before f.from inside guarded_before z j t)
        by c is (inr k) = absurd (no_copy z.name (known z j) c k is)

    old_here : (z : Reference) → In z (references_touched f.from.statement) → r.name ≡ z.name → (IsElementIn f.from.loops z → r.subscripts ≡ z.subscripts) → IsOld r
    old_here z j name stay =
        let o = old z j (sym name) in
        let is : z ≡ r = ap₂ (λ x (qs : Subscripts). record { name = x; subscripts = qs }) (sym name) (sym (stay o.1)) in
        record {
          among = subst (λ (x : Reference). In x (references_touched f.from.statement)) is j;
          made = subst (λ (x : Reference). is_made m x.name ≡ true) is o.0;
          element = subst (IsElementIn f.from.loops) is o.1;
        }

    text : IsMadeOf vs m.symbols (references_touched f.text.raw) r
    text = of_text vs m.symbols f.text.raw r (subst (λ (z : Standing). In r (references_touched z.statement)) f.text.same i)

    pub which : IsOld r ⊎ IsNew r
    which = by (raw_stood vs allowed (copy_element vs) f.from.statement m f.from.loops first f.text.raw f.text.is text.first text.inside)
      where
        stay : (z : Reference) → IsElementIn f.from.loops z → made_subscripts (canonising vs m.symbols) z.subscripts ≡ z.subscripts
        stay z o = ap (made_subscripts (canonising vs m.symbols)) o.is ∙ (subscripts_stay vs m.symbols o.variables ∙ sym o.is)

        split_stay : (z : Reference) (q c : ℕ) → IsElementIn f.from.loops z → split_in vs (but_whole vs allowed f.from.statement) (copy_element vs) q c z.subscripts ≡ z.subscripts
        split_stay z q c o =
            ap (split_in vs (but_whole vs allowed f.from.statement) (copy_element vs) q c) o.is
            ∙ (variables_stay vs (but_whole vs allowed f.from.statement) (copy_element vs) o.variables o.among q c ∙ sym o.is)

        by : StoodIn vs allowed (copy_element vs) f.from.statement first text.first → IsOld r ⊎ IsNew r
        by (inl j) = inl (old_here text.first j text.name (λ o. text.subscripts ∙ stay text.first o))
        by (inr (inl s)) =
            inl (old_here s.first s.inside (text.name ∙ s.name)
            (λ o. text.subscripts ∙ (ap (made_subscripts (canonising vs m.symbols)) (s.subscripts ∙ split_stay s.first s.place s.from o) ∙ stay s.first o)))
        by (inr (inr n)) = new n.among
          where
            new : In text.first (touched_in (Named (copy_element vs n.number).name (copy_element vs n.number).subscripts)) → IsOld r ⊎ IsNew r
            new (inl q) =
                inr (record {
                  number = n.number;
                  least = n.least;
                  below = n.below;
                  is = ap₂ (λ x (qs : Subscripts). record { name = x; subscripts = qs }) (text.name ∙ ap (λ (z : Reference). z.name) q)
                      (text.subscripts ∙ (ap (λ (z : Reference). made_subscripts (canonising vs m.symbols) z.subscripts) q ∙ subscripts_stay vs m.symbols vs));
                })
            new (inr q) =
                let w = variable_of_element vs text.first q in
                let k = counted w.0 w.1 in
                let c = made_named (m.made ++ made_arrays may m) r.name e in
                absurd (uncounted c.0 c.1 k.0 (c.2 ∙ (text.name ∙ (ap (λ (z : Reference). z.name) w.2 ∙ k.1))))

    loops_same : y.loops ≡ f.from.loops
    loops_same = ap (λ (z : Standing). z.loops) f.text.same

    pub element_here : IsElementIn y.loops r
    element_here = subst (λ ls. IsElementIn ls r) (sym loops_same) (by which)
      where
        by : IsOld r ⊎ IsNew r → IsElementIn f.from.loops r
        by (inl o) = o.element
        by (inr n) = record { variables = vs; is = ap (λ (z : Reference). z.subscripts) n.is; among = λ x j. j }

-- ---- the nest

pub split_nest_has_elements : SplitNestHasElements
split_nest_has_elements p around deepest may m k h can split before =
    subst HasElements (sym (split_is may m k split))
    (λ y i guarded r j e.
    element_here p.declarations around deepest may m h can before y
    (from_statement may m y (comes_from (each may m) 0 (nest_statements m) y (subst (λ (zs : List Standing). In y zs) (has may m can.loop h.plain).statements i))) guarded r j e)
