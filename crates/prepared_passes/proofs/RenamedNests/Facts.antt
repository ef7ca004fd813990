-- What is known of the renamed scalars of a prepared nest, and of the names that are made for them.
use Rattle.std.proofs.Common.{◌≡◌, ◌⊎◌, inl, inr, refl, sym, ap, ◌∙◌, subst, ℕ, ◌≤◌, ◌==◌, Bool, true, false, not, ◌&&◌, ◌||◌, List, [], ◌∷◌, length, Option, Some, None, Contains, arith}
use Rattle.std.specs.List.{AllByRecursion, list_all}
use Rattle.std.specs.Option.{IfSome, IsSomeAnd}
use Rattle.std.specs.Prelude.{nat_le}
use Rattle.std.specs.Str.{bytes_eq}
use Rattle.std.proofs.lemmas.Bool.{leb-true}
use Rattle.std.proofs.lemmas.Slice.Eq.{bytes_eq-Decides}
use Rattle.last_values.specs.normal_forms.NormalLoops.{counter_name}
use Rattle.meaning.specs.Dialect.{fortran77}
use Rattle.tree.specs.declared.width.Width.{Width}
use Rattle.meaning.specs.Holding.{HasBounds, HoldsProgram}
use Rattle.meaning.specs.Store.{Store}
use Rattle.meaning.specs.Typed.{declared}
use Rattle.meaning_laws.proofs.profiles.Names.{once as declared_once}
use Rattle.nest.specs.Bodies.{Standing, nest_loops, nest_statements}
use Rattle.nest.specs.Plain as plain
use Rattle.nest.specs.Plain.{Loop, Nest}
use Rattle.nest.specs.statement_loops.Names.{is_among}
use Rattle.nest_order.proofs.orders.Membership.{In-map}
use Rattle.nest_order.specs.orders.Lists.{In}
use Rattle.pass_laws.proofs.NormalFacts.MadeStatements.{counter_long, counter_same}
use Rattle.pass_laws.proofs.NormalFacts.Tables.{all_in, each_asked}
use Rattle.pass_laws.specs.normal_facts.Laws.{IsCounter}
use Rattle.pass_laws.proofs.PreparedNests.Lists.{Contains-In, In-Contains}
use Rattle.pass_laws.proofs.PreparedNests.Trips.{BearsNumber, bears_number}
use Rattle.pass_laws.proofs.PreparedNests.Walks.{walked}
use Rattle.pass_laws.specs.prepared_nests.Loops.{IsPreparedLoop}
use Rattle.pass_laws.specs.prepared_nests.Made.{IsPreparedMade}
use Rattle.pass_laws.specs.prepared_nests.Nests.{IsPrepared, IsPreparedSymbol}
use Rattle.pass_laws.specs.prepared_nests.Statements.{IsPreparedStatement, made_names}
use Rattle.rewrite.proofs.Replacing.{bytes_eq-false}
use Rattle.scalar_expand.specs.Privates.{has_no_guard, is_source}
use Rattle.scalar_rename.specs.Ranges.{begins_range, owner_at, range_name, webs_of}
use Rattle.scalar_rename.specs.declared.ranges.Web.{Web}
use Rattle.statement_passes.specs.MadeNames.{kind_if_scalar}
use Rattle.tree.specs.Names.{IsSourceName}
use Rattle.tree.specs.Plain.{Declaration, Expression, Extent, Given, Later, Program}
use Rattle.tree.specs.declared.ops.Kind.{Kind}
use Rattle.prepared_passes.proofs.RenamedNests.Bodies.{Apart}
use Rattle.prepared_passes.proofs.RenamedNests.Names.{one_scalar, range_long, range_no_counter}
use Rattle.prepared_passes.proofs.RenamedNests.Walks.{Still}
use Rattle.prepared_passes.proofs.RenamedNests.Webs.{Begins, Found, IsRange, find, made_is, names_of, none_begins, owner_anywhere, range_made, some_begins, source, two, web_is}
use Rattle.prepared_passes.specs.renaming.Laws.{IsMadeFor}
use Rattle.prepared_passes.specs.renaming.Renamed.{MayBeRenamed, names_made}
use Rattle.tree.specs.Widths.{bits_of}

scalar_is : (d : Declaration) (k : Kind) → kind_if_scalar d ≡ Some k → (d.kind ≡ k) × (d.extent ≡ Given [])
scalar_is d k e = by d.extent refl e
  where
    kinds : (j : Kind) → Some j ≡ Some k → j ≡ k
    kinds j f = cc

    by : (x : Extent) → d.extent ≡ x → kind_if_scalar (record d { extent = x }) ≡ Some k → (d.kind ≡ k) × (d.extent ≡ Given [])
    by (Given []) f g = (kinds d.kind g, f)
    by (Given (b ∷ bs)) f g = cc
    by (Later n) f g = cc

short_of : (x : List ℕ) → is_source x ≡ true → length x ≤ 6
short_of x h = leb-true (length x) 6 (by (nat_le (length x) 6) (list_all (λ c. not (c == 95)) x) h)
  where
    by : (a b : Bool) → (a && b) ≡ true → a ≡ true
    by true b e = refl
    by false b e = cc

both_true : (a b : Bool) → (a && b) ≡ true → (a ≡ true) × (b ≡ true)
both_true true b e = (refl, e)
both_true false b e = cc

no_guard : (o : Option Expression) → has_no_guard o ≡ true → o ≡ None
no_guard None e = refl
no_guard (Some e) f = cc

pub among_in : (ys : List (List ℕ)) (x : List ℕ) → is_among ys x ≡ true → In x ys
among_in [] x e = cc
among_in (y ∷ ys) x e = by (λ g. among_in ys x g) (bytes_eq y x) refl e
  where
    by : (is_among ys x ≡ true → In x ys) → (b : Bool) → bytes_eq y x ≡ b → (b || is_among ys x) ≡ true → In x (y ∷ ys)
    by more true f g = inl (sym ((bytes_eq-Decides y x).0 f))
    by more false f g = inr (more g)

pub among_true : (ys : List (List ℕ)) (x : List ℕ) → In x ys → is_among ys x ≡ true
among_true [] x i = absurd i
among_true (y ∷ ys) x (inl e) = ap (λ b. b || is_among ys x) ((bytes_eq-Decides y x).1 (sym e))
among_true (y ∷ ys) x (inr i) = by (bytes_eq y x) (among_true ys x i)
  where
    by : (b : Bool) → is_among ys x ≡ true → (b || is_among ys x) ≡ true
    by true f = refl
    by false f = f

module _ (width : Width) (es : List Declaration) (around : List (List ℕ)) (deepest : ℕ) (m : Nest) (h : IsPrepared es around deepest m) (may : MayBeRenamed es m) where
  abbrev Made : List ℕ → Type 0
  Made = IsMadeFor m

  abbrev names : ℕ → List ℕ → List ℕ
  names = names_of m

  -- ---- webs

  pub web_there : (w : Web) → In w (webs_of m) → IsSomeAnd (declared es w.name) (λ (d : Declaration). (d.kind ≡ w.kind) × (d.extent ≡ Given []))
  web_there w i =
      let v = web_is m w i in
      let d = v.declaration in
      let own : declared m.declarations d.name ≡ Some d = declared_once m.declarations d may.ordered (In-Contains d m.declarations v.among) in
      let there : declared es w.name ≡ Some d = ap (declared es) v.named ∙ may.among d.name d own in
      subst (λ (o : Option Declaration). IsSomeAnd o (λ (e : Declaration). (e.kind ≡ w.kind) × (e.extent ≡ Given []))) (sym there) (scalar_is d w.kind v.kind)

  pub made_long : (x : List ℕ) → IsMadeFor m x → ¬ IsSourceName x
  made_long x made s =
      let r = made_is m.number (webs_of m) made.0 made.1 in
      range_long m.number r.web.name r.range (subst IsSourceName (sym made.2 ∙ ap (λ (a : plain.Made). a.name) r.is) s)

  pub made_no_counter : (x : List ℕ) → IsMadeFor m x → (k : ℕ) → ¬ (x ≡ counter_name k)
  made_no_counter x made k e =
      let r = made_is m.number (webs_of m) made.0 made.1 in
      range_no_counter m.number r.web.name r.range k (sym (sym made.2 ∙ ap (λ (a : plain.Made). a.name) r.is) ∙ e)

  -- the name of a value: its own, or that of a range
  pub record IsNamed (x y : List ℕ) : Type 0 where
    pub web : Web
    pub inside : In web (webs_of m)
    pub named : web.name ≡ x
    pub range : ℕ
    pub is : y ≡ range_name m.number x range
    pub entry : plain.Made
    pub there : In entry (names_made m)
    pub entry_name : entry.name ≡ y
    pub entry_kind : entry.kind ≡ web.kind

  pub is_made : (x y : List ℕ) → IsNamed x y → IsMadeFor m y
  is_made x y q = (q.entry, q.there, q.entry_name)

  pub own_or_range : (k : ℕ) (x : List ℕ) → (names_of m k x ≡ x) ⊎ IsNamed x (names_of m k x)
  own_or_range k x = by (find (webs_of m) x)
    where
      by : Found (webs_of m) x ⊎ ((k : ℕ) → names_of m k x ≡ x) → (names_of m k x ≡ x) ⊎ IsNamed x (names_of m k x)
      by (inr f) = inl (f k)
      by (inl f) = one (owner_anywhere m f.web (web_is m f.web f.inside) k)
        where
          one : (owner_at f.web k ≡ f.web.name) ⊎ IsRange m.number f.web.name f.web.ranges (owner_at f.web k) → (names_of m k x ≡ x) ⊎ IsNamed x (names_of m k x)
          one (inl e) = inl (f.at k ∙ (e ∙ f.named))
          one (inr r) =
              let p = range_made m f.web (web_is m f.web f.inside) f.inside (owner_at f.web k) r in
              inr (record {
                web = f.web;
                inside = f.inside;
                named = f.named;
                range = r.range;
                is = f.at k ∙ (r.is ∙ ap (λ y. range_name m.number y r.range) f.named);
                entry = p.0;
                there = p.1;
                entry_name = p.2 ∙ sym (f.at k);
                entry_kind = p.3;
              })

  pub once : (k : ℕ) (x z : List ℕ) → ¬ IsMadeFor m x → ¬ IsMadeFor m z → names_of m k x ≡ names_of m k z → x ≡ z
  once k x z n o e = by (own_or_range k x) (own_or_range k z)
    where
      source_of : (y y' : List ℕ) (q : IsNamed y y') → is_source y ≡ true
      source_of y y' q = subst (λ (t : List ℕ). is_source t ≡ true) q.named (source m q.web (web_is m q.web q.inside))

      by : (names_of m k x ≡ x) ⊎ IsNamed x (names_of m k x) → (names_of m k z ≡ z) ⊎ IsNamed z (names_of m k z) → x ≡ z
      by (inl f) (inl g) = sym f ∙ (e ∙ g)
      by (inl f) (inr q) = absurd (n (subst (IsMadeFor m) (sym e ∙ f) (is_made z (names_of m k z) q)))
      by (inr q) (inl g) = absurd (o (subst (IsMadeFor m) (e ∙ g) (is_made x (names_of m k x) q)))
      by (inr q) (inr r) = one_scalar m.number x z q.range r.range (source_of x (names_of m k x) q) (source_of z (names_of m k z) r) (sym q.is ∙ (e ∙ r.is))

  -- ---- stores

  pub bounds_of : (p : Program) (s : Store) → p.declarations ≡ es → HoldsProgram (fortran77 width) p s → (x : List ℕ) → IsSomeAnd (declared es x) (λ (d : Declaration). d.extent ≡ Given []) → s.bounds x ≡ Some []
  bounds_of p s same holds x there = by (declared es x) there (subst (λ ds. IfSome (declared ds x) (λ (d : Declaration). HasBounds d.extent (s.bounds x))) same (holds.bounds x))
    where
      by : (o : Option Declaration) → IsSomeAnd o (λ (d : Declaration). d.extent ≡ Given []) → IfSome o (λ (d : Declaration). HasBounds d.extent (s.bounds x)) → s.bounds x ≡ Some []
      by None g b = absurd g
      by (Some d) g b = subst (λ (e : Extent). HasBounds e (s.bounds x)) g b

  scalar_there : (x : List ℕ) (k : Kind) → IsSomeAnd (declared es x) (λ (d : Declaration). (d.kind ≡ k) × (d.extent ≡ Given [])) → IsSomeAnd (declared es x) (λ (d : Declaration). d.extent ≡ Given [])
  scalar_there x k g = by (declared es x) g
    where
      by : (o : Option Declaration) → IsSomeAnd o (λ (d : Declaration). (d.kind ≡ k) × (d.extent ≡ Given [])) → IsSomeAnd o (λ (d : Declaration). d.extent ≡ Given [])
      by None g = absurd g
      by (Some d) g = g.1

  pub scalars : (p : Program) (s : Store) → p.declarations ≡ es → HoldsProgram (fortran77 width) p s → (j : ℕ) (x : List ℕ)
      → (names_of m j x ≡ x) ⊎ ((s.bounds x ≡ Some []) × (s.bounds (names_of m j x) ≡ Some []))
  scalars p s same holds j x = by (own_or_range j x)
    where
      by : (names_of m j x ≡ x) ⊎ IsNamed x (names_of m j x) → (names_of m j x ≡ x) ⊎ ((s.bounds x ≡ Some []) × (s.bounds (names_of m j x) ≡ Some []))
      by (inl e) = inl e
      by (inr q) =
          let own = subst (λ y. IsSomeAnd (declared es y) (λ (d : Declaration). (d.kind ≡ q.web.kind) × (d.extent ≡ Given []))) q.named (web_there q.web q.inside) in
          let new = subst (λ y. IsSomeAnd (declared es y) (λ (d : Declaration). (d.kind ≡ q.entry.kind) × (d.extent ≡ Given []))) q.entry_name (may.declared q.entry q.there) in
          inr (bounds_of p s same holds x (scalar_there x q.web.kind own), bounds_of p s same holds (names_of m j x) (scalar_there (names_of m j x) q.entry.kind new))

  -- ---- counters and symbols

  pub bearing : (l : Loop) → In l (nest_loops m) → BearsNumber l
  bearing l i =
      let r = each_asked (IsPreparedLoop es m.symbols) (nest_loops m) [] m.body h.plain (walked (IsPreparedLoop es m.symbols) [] m.body h.parts.loops) l i in
      bears_number es m.symbols r.round l r.asked

  pub counter_scalar : (l : Loop) → In l (nest_loops m) → IsSomeAnd (declared es l.variable) (λ (d : Declaration). d.extent ≡ Given [])
  counter_scalar l i =
      let r = each_asked (IsPreparedLoop es m.symbols) (nest_loops m) [] m.body h.plain (walked (IsPreparedLoop es m.symbols) [] m.body h.parts.loops) l i in
      by (declared es l.variable) r.asked.counter
    where
      by : (o : Option Declaration) → IsSomeAnd o IsCounter → IsSomeAnd o (λ (d : Declaration). d.extent ≡ Given [])
      by None g = absurd g
      by (Some d) g = g.scalar

  pub web_short : (w : Web) → In w (webs_of m) → length w.name ≤ 6
  web_short w i = short_of w.name (source m w (web_is m w i))

  pub still_counter : (x : List ℕ) (k : ℕ) → x ≡ counter_name k → Still (bits_of width) (names_of m) (IsMadeFor m) once x
  still_counter x k e = (λ j. by j (own_or_range j x), λ made. made_no_counter x made k e)
    where
      by : (j : ℕ) → (names_of m j x ≡ x) ⊎ IsNamed x (names_of m j x) → names_of m j x ≡ x
      by j (inl f) = f
      by j (inr q) = absurd (counter_long x k (subst (λ (y : List ℕ). length y ≤ 6) q.named (web_short q.web q.inside)) e)

  -- some statement gives a renamed scalar a value
  pub written : (w : Web) → In w (webs_of m) → (s : Standing) × In s (nest_statements m) × (begins_range w.name s.statement ≡ true)
  written w i = by (some_begins w.name (nest_statements m))
    where
      by : Begins w.name (nest_statements m) ⊎ ((s : Standing) → In s (nest_statements m) → begins_range w.name s.statement ≡ false) → (s : Standing) × In s (nest_statements m) × (begins_range w.name s.statement ≡ true)
      by (inl b) = (b.standing, b.inside, b.begins)
      by (inr f) =
          let none = none_begins w.name (nest_statements m) f in
          let some = two m w (web_is m w i) in
          absurd (omega (arith, none, some))

  pub target_of : (w : Web) → In w (webs_of m) → (s : Standing) × In s (nest_statements m) × (s.statement.left.name ≡ w.name)
  target_of w i =
      let t = written w i in
      (t.0, t.1, (bytes_eq-Decides t.0.statement.left.name w.name).0 (both_true (bytes_eq t.0.statement.left.name w.name) (has_no_guard t.0.statement.guard) t.2).0)

  pub symbol_apart : (w : Web) → In w (webs_of m) → ¬ In w.name m.symbols
  symbol_apart w i j =
      let t = target_of w i in
      let st = all_in (IsPreparedStatement es m deepest) (nest_statements m) h.parts.statements t.0 t.1 in
      st.free (subst (λ y. Contains m.symbols y) (sym t.2) (In-Contains w.name m.symbols j))

  pub symbol_source : (x : List ℕ) → In x m.symbols → IsSourceName x
  symbol_source x i = (all_in (IsPreparedSymbol es) m.symbols h.parts.symbols x i).name

  pub still_symbol : (x : List ℕ) → In x m.symbols → Still (bits_of width) (names_of m) (IsMadeFor m) once x
  still_symbol x i = (λ j. by j (own_or_range j x), λ made. made_long x made (symbol_source x i))
    where
      by : (j : ℕ) → (names_of m j x ≡ x) ⊎ IsNamed x (names_of m j x) → names_of m j x ≡ x
      by j (inl f) = f
      by j (inr q) = absurd (symbol_apart q.web q.inside (subst (λ y. In y m.symbols) (sym q.named) i))

  -- ---- targets

  pub counts_none : (s : Standing) → In s (nest_statements m) → (k : ℕ) → ¬ (s.statement.left.name ≡ counter_name k)
  counts_none s i k = by (all_in (IsPreparedStatement es m deepest) (nest_statements m) h.parts.statements s i).target
    where
      by : IsSourceName s.statement.left.name ⊎ Contains (made_names m) s.statement.left.name → ¬ (s.statement.left.name ≡ counter_name k)
      by (inl source) e = counter_long s.statement.left.name k source.within e
      by (inr c) e =
          let o = In-map (λ (a : plain.Made). a.name) s.statement.left.name m.made (Contains-In s.statement.left.name (made_names m) c) in
          (all_in (IsPreparedMade es m.symbols deepest) m.made h.parts.made o.it o.inside).counter k (sym o.is ∙ e)

  -- none of these loops counts by such a name
  pub no_variable : (x : List ℕ) → ((k : ℕ) → ¬ (x ≡ counter_name k)) → (ls : List Loop) → ((o : Loop) → In o ls → BearsNumber o) → AllByRecursion (λ (o : Loop). bytes_eq x o.variable ≡ false) ls
  no_variable x none [] f = tt
  no_variable x none (l ∷ ls) f = (bytes_eq-false x l.variable (λ e. none l.number (e ∙ (f l (inl refl)).0)), no_variable x none ls (λ o i. f o (inr i)))

  pub names_count_none : (s : Standing) → In s (nest_statements m) → (j k : ℕ) → ¬ (names_of m j s.statement.left.name ≡ counter_name k)
  names_count_none s i j k e = by (own_or_range j s.statement.left.name)
    where
      by : (names_of m j s.statement.left.name ≡ s.statement.left.name) ⊎ IsNamed s.statement.left.name (names_of m j s.statement.left.name) → ⊥
      by (inl f) = counts_none s i k (sym f ∙ e)
      by (inr q) = made_no_counter (names_of m j s.statement.left.name) (is_made s.statement.left.name (names_of m j s.statement.left.name) q) k e

  pub other_variables : (l : Loop) (ls os : List Loop) → In l os → BearsNumber l → ((o : Loop) → In o ls → BearsNumber o) → Apart ls os → AllByRecursion (λ (o : Loop). bytes_eq l.variable o.variable ≡ false) ls
  other_variables l [] os i b f apart = tt
  other_variables l (o ∷ ls) os i b f apart = (
    bytes_eq-false l.variable o.variable (λ e. apart o l (inl refl) i (sym (counter_same l.number o.number b.1 (f o (inl refl)).1 (sym b.0 ∙ (e ∙ (f o (inl refl)).0))))),
    other_variables l ls os i b (λ q j. f q (inr j)) (λ q r j k. apart q r (inr j) k),
  )
