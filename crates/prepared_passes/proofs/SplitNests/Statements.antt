-- The statements of a split nest, but for their text.
use Rattle.std.proofs.Common.{◌≡◌, ◌⊎◌, inl, inr, refl, sym, ap, ◌∙◌, subst, ℕ, suc, ◌+◌, ◌≤◌, ◌<◌, ◌^◌, Bool, true, false, List, [], ◌∷◌, ◌++◌, map, reverse, length, Option, Some, None, Contains, arith}
use Rattle.std.specs.Option.{IsSomeAnd}
use Rattle.std.specs.Prelude.{All, IsSome, cond, is_some, slice_index_or, unwrap_or}
use Rattle.std.specs.Str.{bytes_eq}
use Rattle.std.proofs.lemmas.List.{length-map, length-reverse}
use Rattle.std.proofs.lemmas.List.Elements.{All-append, All-cons, All-nil}
use Rattle.std.proofs.lemmas.Slice.Eq.{bytes_eq-Decides}
use Rattle.dependence_graph.specs.declared.graphs.Place.{Place}
use Rattle.dependence_graph.specs.nest_graph.References.{is_among}
use Rattle.last_values.specs.normal_forms.NormalLoops.{counter_name}
use Rattle.meaning.specs.Depths.{depth_of}
use Rattle.meaning.specs.Reads.{names_in, names_in_subscripts}
use Rattle.meaning.specs.Typed.{declared, number_of_subscripts, rank_of_extent}
use Rattle.meaning.specs.Typed90.{HasKind, SuitsDimensions}
use Rattle.meaning.specs.Value.{named}
use Rattle.nest.specs.Bodies.{Standing, nest_loops, nest_statements}
use Rattle.nest.specs.Plain.{Guarded, Loop, Made, Nest}
use Rattle.nest.specs.declared.parts.Trip.{Trip}
use Rattle.nest_order.proofs.orders.Lists.{In-append, In-left, In-right}
use Rattle.nest_order.proofs.orders.Membership.{In-map, map-In}
use Rattle.nest_order.specs.orders.Lists.{In}
use Rattle.nest_order.specs.runs.Guarded.{names_of, names_of_guard}
use Rattle.nest_order.specs.runs.Touched.{ArePlain}
use Rattle.nest_order.specs.shapes.Shapes.{numbers_of}
use Rattle.pass_laws.proofs.NormalFacts.MadeStatements.{counter_same}
use Rattle.pass_laws.proofs.NormalFacts.Tables.{all_in, each_asked, each_from}
use Rattle.pass_laws.proofs.PreparedNests.Lists.{Contains-In, In-Contains, within_32}
use Rattle.pass_laws.proofs.PreparedNests.Walks.{walked}
use Rattle.pass_laws.proofs.ReadyNests.Lists.{Each-All}
use Rattle.pass_laws.specs.normal_facts.Laws.{IsCounter}
use Rattle.pass_laws.specs.prepared_nests.Loops.{IsPreparedLoop}
use Rattle.pass_laws.specs.prepared_nests.Made.{IsPreparedMade, extent_for}
use Rattle.pass_laws.specs.prepared_nests.Nests.{IsPrepared, IsPreparedSymbol}
use Rattle.pass_laws.specs.prepared_nests.Statements.{IsOwn, IsPreparedStatement, assignment, expressions_of, guard_or_none, made_names}
use Rattle.prepared_passes.proofs.ExpandedNests.Elements.{counter_scalar, each_subscript, element_deep, element_names, element_scalar}
use Rattle.prepared_passes.proofs.ExpandedNests.Round.{as_many_texts}
use Rattle.prepared_passes.proofs.ExpandedNests.Walks.{round_in}
use Rattle.prepared_passes.proofs.SymbolsAnew.Comes.{IsStatementBut}
use Rattle.scalar_expand.specs.Privates.{round_loop}
use Rattle.scalar_expand.specs.Texts.{extent_texts}
use Rattle.scalar_expand.specs.declared.privates.RoundLoop.{RoundLoop}
use Rattle.tree.specs.Names.{IsSourceName}
use Rattle.tree.specs.Plain.{Declaration, Expression, Named, Only, Reference, Subscript, Subscripts, no_subscripts, subscript, subscripts}
use Rattle.tree.specs.declared.ops.Kind.{Kind}
use Rattle.node_splitting.specs.Arrays.{array, arrays, copy_name, copy_element, extents_over, kind_among, kind_in_nest, made_kind_or_integer, texts_over}
use Rattle.node_splitting.specs.Counts.{first_in_left, first_in_right, is_counter, variables_from_outside}
use Rattle.node_splitting.specs.Reads.{read_as_expression, but_whole, read_copied, reads_in_left, reads_in_right, split_statement}
use Rattle.node_splitting.specs.Split.{arrays_from, firsts, firsts_from, last_from, made_arrays, may_in}
use Rattle.prepared_passes.specs.splitting.Splits.{IsKnown, MayBeSplit}
use Rattle.prepared_passes.proofs.SplitNests.Reading.{among_true}
use Rattle.prepared_passes.proofs.SplitNests.Typing.{AreGoodIn, Became, BecameIn, Fits, IsElementOf, IsGood, became, became_in, good_passes, name_rank, named_became, AreGood}
use Rattle.prepared_passes.proofs.SplitNests.Limits.{element_is, few_extents}
use Rattle.prepared_passes.proofs.SplitNests.Names.{copy_long, copy_no_counter}
use Rattle.prepared_passes.proofs.SplitNests.Places.{array_there, first_is, reads, same_length}
use Rattle.prepared_passes.proofs.SplitNests.Reading.{AreAt, all_read, all_read_in, extents_there, first_at, second_at, read_names_in, read_names}
use Rattle.prepared_passes.proofs.SplitNests.Standings.{IsCopy}

-- ---- kinds

declared_kind : (ds : List Declaration) (as' : List Made) (x : List ℕ) (d : Declaration) → declared ds x ≡ Some d → kind_among ds as' x ≡ d.kind
declared_kind [] as' x d e = cc
declared_kind (c ∷ ds) as' x d e = by (bytes_eq c.name x) e (λ f. declared_kind ds as' x d f)
  where
    by : (b : Bool) → cond b (Some c) (declared ds x) ≡ Some d → (declared ds x ≡ Some d → kind_among ds as' x ≡ d.kind)
        → cond b c.kind (kind_among ds as' x) ≡ d.kind
    by true f g = let same : c ≡ d = cc in ap (λ (z : Declaration). z.kind) same
    by false f g = g f

undeclared_kind : (ds : List Declaration) (as' : List Made) (x : List ℕ) → declared ds x ≡ None → kind_among ds as' x ≡ made_kind_or_integer as' x
undeclared_kind [] as' x e = refl
undeclared_kind (c ∷ ds) as' x e = by (bytes_eq c.name x) e (λ f. undeclared_kind ds as' x f)
  where
    by : (b : Bool) → cond b (Some c) (declared ds x) ≡ None → (declared ds x ≡ None → kind_among ds as' x ≡ made_kind_or_integer as' x)
        → cond b c.kind (kind_among ds as' x) ≡ made_kind_or_integer as' x
    by true f g = cc
    by false f g = g f

record IsMadeOf (as' : List Made) (x : List ℕ) : Type 0 where
  made : Made
  inside : In made as'
  name : made.name ≡ x
  kind : made_kind_or_integer as' x ≡ made.kind

made_of : (as' : List Made) (x : List ℕ) → In x (map (λ (a : Made). a.name) as') → IsMadeOf as' x
made_of [] x i = absurd i
made_of (a ∷ as') x i = by (bytes_eq a.name x) refl i (λ j. made_of as' x j)
  where
    no : bytes_eq a.name x ≡ false → x ≡ a.name → ⊥
    no e f = let yes : bytes_eq a.name x ≡ true = (bytes_eq-Decides a.name x).1 (sym f) in let bad : true ≡ false = sym yes ∙ e in cc

    by : (b : Bool) → bytes_eq a.name x ≡ b → In x (map (λ (c : Made). c.name) (a ∷ as')) → (In x (map (λ (c : Made). c.name) as') → IsMadeOf as' x) → IsMadeOf (a ∷ as') x
    by true e j g = record {
      made = a;
      inside = inl refl;
      name = (bytes_eq-Decides a.name x).0 e;
      kind = ap (λ b. cond b a.kind (made_kind_or_integer as' x)) e;
    }
    by false e (inl f) g = absurd (no e f)
    by false e (inr j) g =
        let h = g j in
        record { made = h.made; inside = inr h.inside; name = h.name; kind = ap (λ b. cond b a.kind (made_kind_or_integer as' x)) e ∙ h.kind }

rank_is : (es : List Expression) → rank_of_extent (extent_for es) ≡ length es
rank_is [] = refl
rank_is (e ∷ es) = refl

all_of : {A : Type 0} (P : A → Type 0) (xs : List A) → ((x : A) → In x xs → P x) → All P xs
all_of P xs f = Each-All P xs (each_from P xs f)

-- ---- statements

module _ (es : List Declaration) (around : List (List ℕ)) (deepest : ℕ) (may : Place → Bool) (m : Nest) (h : IsPrepared es around deepest m) (can : MayBeSplit es may m)
    (s : Standing) (pre post : List Standing) (parted : nest_statements m ≡ pre ++ s ∷ post) where
  abbrev g : Guarded
  g = s.statement

  abbrev ls : List Loop
  ls = s.loops

  abbrev names : List (List ℕ)
  names = variables_from_outside s.loops

  abbrev allowed : ℕ → Bool
  allowed = may_in may (length m.symbols) s.loops (length pre)

  abbrev chosen : ℕ → Bool
  chosen = but_whole names allowed s.statement

  abbrev from : ℕ
  from = slice_index_or (firsts may m) (length pre) 0

  abbrev rs : List Reference
  rs = reads may m (length pre) s

  abbrev Own : List ℕ → Type 0
  Own = IsOwn s.loops

  abbrev Stands : List ℕ → Type 0
  Stands x = In x (names_of (assignment s.statement))

  inside : In s (nest_statements m)
  inside = subst (λ (zs : List Standing). In s zs) (sym parted) (In-right s pre (s ∷ post) (inl refl))

  was : IsPreparedStatement es m deepest s
  was = all_in (IsPreparedStatement es m deepest) (nest_statements m) h.parts.statements s inside

  owned : (x : List ℕ) → Stands x → Own x
  owned x i = all_in (IsOwn s.loops) (names_of (assignment s.statement)) was.names x i

  pub from_is : from ≡ last_from may m 0 m.copies pre
  from_is = ap (λ ss. slice_index_or (firsts_from may m 0 m.copies ss) (length pre) 0) parted ∙ first_is may m 0 m.copies pre post s

  pub there : (a : Made) → In a (arrays m s.loops from rs) → In a (made_arrays may m)
  there a i =
      subst (λ ss. In a (arrays_from may m 0 m.copies ss)) (sym parted)
      (array_there may m 0 m.copies pre post s (length pre) (same_length pre) a (subst (λ c. In a (arrays m s.loops c rs)) from_is i))

  -- ---- loops

  record IsLoopHere (o : Loop) : Type 0 where
    variable : o.variable ≡ counter_name o.number
    small : o.number ≤ 4294967295
    counter : IsSomeAnd (declared es o.variable) IsCounter

  loop_here : (o : Loop) → In o s.loops → IsLoopHere o
  loop_here o i = by (round_in [] m.body h.plain s inside o i)
    where
      by : In o [] ⊎ In o (nest_loops m) → IsLoopHere o
      by (inl j) = absurd j
      by (inr j) =
          let r = each_asked (IsPreparedLoop es m.symbols) (nest_loops m) [] m.body h.plain (walked (IsPreparedLoop es m.symbols) [] m.body h.parts.loops) o j in
          record { variable = r.asked.variable; small = within_32 o.number r.asked.number; counter = r.asked.counter }

  variable_own : (o : Loop) → In o s.loops → Own o.variable
  variable_own o i k small e =
      let l = loop_here o i in
      let same : o.number ≡ k = counter_same o.number k l.small (within_32 k small) (sym l.variable ∙ e) in
      In-Contains k (numbers_of s.loops) (subst (λ n. In n (numbers_of s.loops)) same (map-In (λ (q : Loop). q.number) o s.loops i))

  copy_own : (j : ℕ) → Own (copy_name j)
  copy_own j k small e = absurd (copy_no_counter j k e)

  -- ---- the kind of what is read

  has_kind : (x : List ℕ) (ss : Subscripts) (k : Kind) (d : Declaration) → declared es x ≡ Some d → HasKind es (Named x ss) k → k ≡ d.kind
  has_kind x ss k d e t = (subst (λ (o : Option Declaration). IsSomeAnd o (λ (c : Declaration). (k ≡ c.kind) × SuitsDimensions ss (rank_of_extent c.extent))) e t.0).0

  no_counter : (x : List ℕ) (ss : Subscripts) (k : Kind) (i : ℕ) → i < 2 ^ 32 → x ≡ counter_name i → Stands x → HasKind es (Named x ss) k → is_counter names x ss ≡ false → ⊥
  no_counter x ss k i small e st t none =
      let o = In-map (λ (q : Loop). q.number) i s.loops (Contains-In i (numbers_of s.loops) (owned x st i small e)) in
      let l = loop_here o.it o.inside in
      let is : x ≡ o.it.variable = e ∙ (ap counter_name o.is ∙ sym l.variable) in
      by ss t none is l.counter (subst (λ y. In y names) (sym is) (map-In (λ (q : Loop). q.variable) o.it s.loops o.inside))
    where
      suits : (c : Option Declaration) (q : Subscript) (qs : Subscripts) → IsSomeAnd c IsCounter → IsSomeAnd c (λ (d : Declaration). (k ≡ d.kind) × (number_of_subscripts (subscript q qs) ≡ rank_of_extent d.extent)) → ⊥
      suits None q qs a b = absurd a
      suits (Some d) q qs a b = let none : rank_of_extent d.extent ≡ 0 = ap rank_of_extent a.scalar in let some : 1 + number_of_subscripts qs ≡ rank_of_extent d.extent = b.1 in omega (arith, none, some)

      by : (ss : Subscripts) → HasKind es (Named x ss) k → is_counter names x ss ≡ false → {y : List ℕ} → x ≡ y → IsSomeAnd (declared es y) IsCounter → In x names → ⊥
      by no_subscripts t none is c j = let yes : is_among names x ≡ true = among_true names x j in let bad : true ≡ false = sym yes ∙ none in cc
      by (subscript q qs) t none is c j = suits (declared es x) q qs (subst (λ z. IsSomeAnd (declared es z) IsCounter) (sym is) c) t.0

  kind_is : (x : List ℕ) (ss : Subscripts) (k : Kind) → Stands x → HasKind es (Named x ss) k → is_counter names x ss ≡ false → kind_in_nest m x ≡ k
  kind_is x ss k st t none = by (declared m.declarations x) refl (can.known s inside x st)
    where
      prepared_kind : (a : Made) → In a m.made → a.name ≡ x → a.kind ≡ k
      prepared_kind a i e =
          kind (declared es a.name) (all_in (IsPreparedMade es m.symbols deepest) m.made h.parts.made a i).declaration
          (subst (λ z. IsSomeAnd (declared es z) (λ (c : Declaration). (k ≡ c.kind) × SuitsDimensions ss (rank_of_extent c.extent))) (sym e) t.0)
        where
          kind : (o : Option Declaration) → IsSomeAnd o (λ (d : Declaration). (d.kind ≡ a.kind) × (d.extent ≡ extent_for a.extents))
              → IsSomeAnd o (λ (c : Declaration). (k ≡ c.kind) × SuitsDimensions ss (rank_of_extent c.extent)) → a.kind ≡ k
          kind None p q = absurd p
          kind (Some d) p q = sym p.0 ∙ sym q.0

      by : (o : Option Declaration) → declared m.declarations x ≡ o → IsKnown m x → kind_in_nest m x ≡ k
      by (Some d) e w = declared_kind m.declarations m.made x d e ∙ sym (has_kind x ss k d (can.among x d e) t)
      by None e (inl w) = let none : IsSome {T = Declaration} None = subst (λ (o : Option Declaration). IsSome o) e w in cc
      by None e (inr (inl c)) =
          let o = made_of m.made x (Contains-In x (made_names m) c) in
          undeclared_kind m.declarations m.made x e ∙ (o.kind ∙ prepared_kind o.made o.inside o.name)
      by None e (inr (inr c)) = absurd (no_counter x ss k c.0 c.1 c.2 st t none)

  -- ---- elements

  abbrev bare : RoundLoop → Expression
  bare l = Named l.variable no_subscripts

  round_of : (l : RoundLoop) → In l (map round_loop s.loops) → (o : Loop) × In o s.loops × (l ≡ round_loop o)
  round_of l i = let o = In-map round_loop l s.loops i in (o.it, o.inside, o.is)

  module _ (j : ℕ) (r : Reference) (made : In (array m s.loops j r) (made_arrays may m)) (exts : List Trip) (are : extents_over (length m.symbols) s.loops ≡ Some exts)
      (k : Kind) (kind : kind_in_nest m r.name ≡ k) where
    array_declared : IsSomeAnd (declared es (copy_name j)) (λ (d : Declaration). (d.kind ≡ k) × (rank_of_extent d.extent ≡ length (map round_loop s.loops)))
    array_declared = by (declared es (copy_name j)) (can.declared (array m s.loops j r) made)
      where
        many : length (texts_over m.symbols (extents_over (length m.symbols) s.loops)) ≡ length (map round_loop s.loops)
        many =
            let one : length (texts_over m.symbols (extents_over (length m.symbols) s.loops)) ≡ length (reverse (extent_texts m.symbols exts)) = ap (λ o. length (texts_over m.symbols o)) are in
            let two = length-reverse (extent_texts m.symbols exts) in
            let three = as_many_texts m.symbols [] exts in
            let four = (few_extents (length m.symbols) s.loops exts are).1 in
            let five = length-map s.loops round_loop in
            omega (arith, one, two, three, four, five)

        by : (o : Option Declaration) → IsSomeAnd o (λ (d : Declaration). (d.kind ≡ kind_in_nest m r.name) × (d.extent ≡ extent_for (texts_over m.symbols (extents_over (length m.symbols) s.loops))))
            → IsSomeAnd o (λ (d : Declaration). (d.kind ≡ k) × (rank_of_extent d.extent ≡ length (map round_loop s.loops)))
        by None p = absurd p
        by (Some d) p = (p.0 ∙ kind, ap rank_of_extent p.1 ∙ (rank_is (texts_over m.symbols (extents_over (length m.symbols) s.loops)) ∙ many))

    element_fits : IsElementOf es Own (copy_element names j) k
    element_fits =
        subst (λ (q : Reference). IsElementOf es Own q k) (element_is s.loops exts j) (record {
          scalar = element_scalar es bare (copy_name j) k (map round_loop s.loops) array_declared (λ l i. counter_scalar es l.variable (counter_there l i));
          shallow = element_deep es bare 0 (map round_loop s.loops) (λ l i. omega arith);
          plain = each_subscript (λ (l : RoundLoop). Only (Named l.variable no_subscripts)) (λ (qs : List Subscript). ArePlain (subscripts qs)) (map round_loop s.loops) tt (λ l i qs p. (tt, p));
          own = own;
        })
      where
        counter_there : (l : RoundLoop) → In l (map round_loop s.loops) → IsSomeAnd (declared es l.variable) IsCounter
        counter_there l i = let o = round_of l i in subst (λ (q : RoundLoop). IsSomeAnd (declared es q.variable) IsCounter) (sym o.2) (loop_here o.0 o.1).counter

        one : (l : RoundLoop) → In l (map round_loop s.loops) → (y : List ℕ) → In y (l.variable ∷ []) → Own y
        one l i y (inl e) = let o = round_of l i in subst Own (sym (e ∙ ap (λ (q : RoundLoop). q.variable) o.2)) (variable_own o.0 o.1)
        one l i y (inr q) = absurd q

        own : (y : List ℕ) → In y (copy_name j ∷ names_in_subscripts (subscripts (reverse (map (λ (l : RoundLoop). Only (Named l.variable no_subscripts)) (map round_loop s.loops))))) → Own y
        own y (inl e) = subst Own (sym e) (copy_own j)
        own y (inr i) = element_names es bare Own (map round_loop s.loops) one y i

  abbrev exts_of : List Trip
  exts_of = unwrap_or (extents_over (length m.symbols) s.loops) []

  extents_some : (r : Reference) → In r rs → extents_over (length m.symbols) s.loops ≡ Some exts_of
  extents_some r i = by (extents_over (length m.symbols) s.loops) (extents_there may (length m.symbols) s.loops (length pre) s.statement r i)
    where
      by : (o : Option (List Trip)) → is_some o ≡ true → o ≡ Some (unwrap_or o [])
      by None e = cc
      by (Some ts) e = refl

  pub read_stands : (r : Reference) → In r rs → Stands r.name
  read_stands r i = in_statement (In-append r (reads_in_left names allowed s.statement) (reads_in_right names allowed s.statement) i)
    where
      in_statement : In r (reads_in_left names allowed s.statement) ⊎ In r (reads_in_right names allowed s.statement) → Stands r.name
      in_statement (inl j) =
          In-right r.name (names_of_guard g.guard) _ (In-right r.name (names_in g.right) (g.left.name ∷ names_in_subscripts g.left.subscripts)
          (inr (read_names_in names chosen (first_in_left names g) g.left.subscripts r j r.name (inl refl))))
      in_statement (inr j) =
          In-right r.name (names_of_guard g.guard) _ (In-left r.name (names_in g.right) (g.left.name ∷ names_in_subscripts g.left.subscripts)
          (read_names names chosen (first_in_right names g) g.right r j r.name (inl refl)))

  one_fits : (j : ℕ) (r : Reference) → In r rs → In (array m s.loops j r) (arrays m s.loops from rs) → Fits es names chosen (copy_element names) Own j r
  one_fits j r i a k t none =
      element_fits j r (there (array m s.loops j r) a) exts_of (extents_some r i) k (kind_is r.name r.subscripts k (read_stands r i) t.0 none)

  all_fit : AreAt (Fits es names chosen (copy_element names) Own) from rs
  all_fit = each from rs (λ j r i a. one_fits j r i a)
    where
      each : (c : ℕ) (qs : List Reference) → ((j : ℕ) (r : Reference) → In r qs → In (array m s.loops j r) (arrays m s.loops c qs) → Fits es names chosen (copy_element names) Own j r)
          → AreAt (Fits es names chosen (copy_element names) Own) c qs
      each c [] f = tt
      each c (q ∷ qs) f = (f c q (inl refl) (inl refl), each (suc c) qs (λ j r i a. f j r (inr i) (inr a)))

  -- ---- what is read

  deep_in : (e : Expression) → In e (expressions_of s.statement) → depth_of e ≤ deepest
  deep_in e i = all_in (λ (a : Expression). depth_of a ≤ deepest) (expressions_of s.statement) was.deep e i

  left_deep : depth_of (named g.left) ≤ deepest
  left_deep = deep_in (named g.left) (In-right (named g.left) (guard_or_none g.guard) (named g.left ∷ g.right ∷ []) (inl refl))

  right_deep : depth_of g.right ≤ deepest
  right_deep = deep_in g.right (In-right g.right (guard_or_none g.guard) (named g.left ∷ g.right ∷ []) (inr (inl refl)))

  in_left : (x : List ℕ) → In x (names_in_subscripts g.left.subscripts) → Stands x
  in_left x i = In-right x (names_of_guard g.guard) _ (In-right x (names_in g.right) (g.left.name ∷ names_in_subscripts g.left.subscripts) (inr i))

  in_right : (x : List ℕ) → In x (names_in g.right) → Stands x
  in_right x i = In-right x (names_of_guard g.guard) _ (In-left x (names_in g.right) (g.left.name ∷ names_in_subscripts g.left.subscripts) i)

  pub record IsReadHere (r : Reference) : Type 0 where
    pub good : IsGood es Stands deepest (read_as_expression r)
    pub counts_none : is_counter names r.name r.subscripts ≡ false

  pub read_here : (r : Reference) → In r rs → IsReadHere r
  read_here r i = by (In-append r (reads_in_left names allowed s.statement) (reads_in_right names allowed s.statement) i)
    where
      by : In r (reads_in_left names allowed s.statement) ⊎ In r (reads_in_right names allowed s.statement) → IsReadHere r
      by (inl j) =
          let q = all_read_in names chosen (IsGood es Stands deepest) (AreGood es Stands deepest) (AreGoodIn es Stands deepest) (good_passes es Stands deepest)
          (first_in_left names g) g.left.subscripts (record { kinds = was.left.0.1; rank = name_rank es g.left.name g.left.subscripts was.left.1; plain = was.plain.2; names = in_left; deep = left_deep }) r j in
          record { good = q.good; counts_none = q.counts_none }
      by (inr j) =
          let q = all_read names chosen (IsGood es Stands deepest) (AreGood es Stands deepest) (AreGoodIn es Stands deepest) (good_passes es Stands deepest)
          (first_in_right names g) g.right (record { kind = was.kind; scalar = was.right; plain = was.plain.1; names = in_right; deep = right_deep }) r j in
          record { good = q.good; counts_none = q.counts_none }

  -- ---- the copies, and the statement that reads them

  module _ (made : List (List ℕ)) (old : (x : List ℕ) → Contains (made_names m) x → Contains made x) (new : (a : Made) → In a (made_arrays may m) → Contains made a.name) where
    abbrev IsThere : Guarded → Type 0
    IsThere x = IsStatementBut es made (λ z. ¬ Contains m.symbols z) (deepest + 1) (record { loops = s.loops; statement = x })

    guard_names : (x : List ℕ) → In x (names_of_guard g.guard) → Own x
    guard_names x i = owned x (In-left x (names_of_guard g.guard) _ i)

    three : (xs ys zs : List (List ℕ)) (P : List ℕ → Type 0) → ((x : List ℕ) → In x xs → P x) → ((x : List ℕ) → In x ys → P x) → ((x : List ℕ) → In x zs → P x) → (x : List ℕ) → In x (xs ++ (ys ++ zs)) → P x
    three xs ys zs P a b c x i = by (In-append x xs (ys ++ zs) i)
      where
        more : In x ys ⊎ In x zs → P x
        more (inl j) = b x j
        more (inr j) = c x j

        by : In x xs ⊎ In x (ys ++ zs) → P x
        by (inl j) = a x j
        by (inr j) = more (In-append x ys zs j)

    deeper : (e : Expression) → depth_of e ≤ deepest → depth_of e ≤ deepest + 1
    deeper e d = omega (arith, d)

    guard_deep : All (λ (e : Expression). depth_of e ≤ deepest + 1) (guard_or_none g.guard)
    guard_deep = all_of (λ (e : Expression). depth_of e ≤ deepest + 1) (guard_or_none g.guard) (λ e i. deeper e (deep_in e (In-left e (guard_or_none g.guard) (named g.left ∷ g.right ∷ []) i)))

    shallow : (l r : Expression) → depth_of l ≤ deepest + 1 → depth_of r ≤ deepest + 1 → All (λ (e : Expression). depth_of e ≤ deepest + 1) (guard_or_none g.guard ++ l ∷ r ∷ [])
    shallow l r a b =
        All-append (λ (e : Expression). depth_of e ≤ deepest + 1) (guard_or_none g.guard) (l ∷ r ∷ []) guard_deep
        (All-cons (λ (e : Expression). depth_of e ≤ deepest + 1) l (r ∷ []) a (All-cons (λ (e : Expression). depth_of e ≤ deepest + 1) r [] b (All-nil (λ (e : Expression). depth_of e ≤ deepest + 1))))

    pub copy_there : (x : Guarded) → IsCopy m s.loops (copy_element names) s.statement from rs x → IsThere x
    copy_there x c =
        let r = read_here c.read c.among in
        let e = one_fits c.number c.read c.among c.there r.good.kind r.good.scalar r.counts_none in
        subst IsThere (sym c.is) (record {
          line = was.line;
          plain = (was.plain.0, r.good.plain, e.plain);
          names = all_of Own (names_of (assignment (read_copied (copy_element names) g c.number c.read)))
              (three (names_of_guard g.guard) (names_in (read_as_expression c.read)) (names_in (read_as_expression (copy_element names c.number))) Own guard_names (λ y i. owned y (r.good.names y i)) e.own);
          target = inr (new (array m s.loops c.number c.read) (there (array m s.loops c.number c.read) c.there));
          free = λ y. copy_long c.number (all_in (IsPreparedSymbol es) m.symbols h.parts.symbols (copy_name c.number) (Contains-In (copy_name c.number) m.symbols y)).name;
          kind = r.good.kind;
          left = e.scalar;
          right = r.good.scalar;
          guard = was.guard;
          deep = shallow (read_as_expression (copy_element names c.number)) (read_as_expression c.read) (let d = e.shallow in omega (arith, d)) (deeper (read_as_expression c.read) r.good.deep);
        })

    abbrev result : Guarded
    result = split_statement names allowed s.statement (copy_element names) from

    left_became : BecameIn es names chosen (copy_element names) Own g.left.subscripts result.left.subscripts
    left_became =
        became_in es names chosen (copy_element names) Own (first_in_left names g) from g.left.subscripts was.plain.2 was.left.0.1 (name_rank es g.left.name g.left.subscripts was.left.1)
        (λ y i. owned y (in_left y i)) (first_at (Fits es names chosen (copy_element names) Own) from (reads_in_left names allowed s.statement) (reads_in_right names allowed s.statement) all_fit)

    right_became : Became es names chosen (copy_element names) Own g.right was.kind result.right
    right_became =
        became es names chosen (copy_element names) Own (first_in_right names g) (from + length (reads_in_left names allowed s.statement)) g.right was.kind was.plain.1 was.right
        (λ y i. owned y (in_right y i)) (second_at (Fits es names chosen (copy_element names) Own) from (reads_in_left names allowed s.statement) (reads_in_right names allowed s.statement) all_fit)

    left_whole : Became es names chosen (copy_element names) Own (Named g.left.name g.left.subscripts) was.kind (Named g.left.name result.left.subscripts)
    left_whole =
        named_became es names chosen (copy_element names) Own g.left.name g.left.subscripts result.left.subscripts was.kind was.left.0 was.left.1
        (owned g.left.name (In-right g.left.name (names_of_guard g.guard) _ (In-right g.left.name (names_in g.right) (g.left.name ∷ names_in_subscripts g.left.subscripts) (inl refl)))) left_became

    pub split_there : IsThere (split_statement names allowed s.statement (copy_element names) from)
    split_there = record {
      line = was.line;
      plain = (was.plain.0, right_became.plain, left_became.plain);
      names = all_of Own (names_of (assignment result))
          (three (names_of_guard g.guard) (names_in result.right) (g.left.name ∷ names_in_subscripts result.left.subscripts) Own guard_names right_became.own left_whole.own);
      target = kept was.target;
      free = was.free;
      kind = was.kind;
      left = left_whole.scalar;
      right = right_became.scalar;
      guard = was.guard;
      deep = shallow (named result.left) result.right (let d = left_whole.deep in let l = left_deep in omega (arith, d, l)) (let d = right_became.deep in let l = right_deep in omega (arith, d, l));
    }
      where
        kept : IsSourceName g.left.name ⊎ Contains (made_names m) g.left.name → IsSourceName g.left.name ⊎ Contains made g.left.name
        kept (inl t) = inl t
        kept (inr c) = inr (old g.left.name c)
