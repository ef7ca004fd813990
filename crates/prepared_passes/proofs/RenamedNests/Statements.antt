-- The statements of a renamed nest are prepared.
use Rattle.std.proofs.Common.{◌≡◌, ◌⊎◌, inl, inr, refl, sym, ap, ◌∙◌, subst, ℕ, ◌+◌, ◌≤◌, All, Contains, List, [], ◌∷◌, ◌++◌, length, Option, Some, None, arith}
use Rattle.std.specs.Option.{IfSome, IsSomeAnd, option_map}
use Rattle.std.proofs.lemmas.List.Elements.{All-append, All-cons, All-head, All-nil}
use Rattle.linear_forms.specs.Canonical.{canonising}
use Rattle.meaning.specs.Depths.{depth_of}
use Rattle.meaning.specs.Reads.{names_in, names_in_subscripts}
use Rattle.meaning.specs.Typed.{declared, number_of_subscripts, rank_of_extent}
use Rattle.meaning.specs.Typed90.{IsScalar}
use Rattle.meaning.specs.Value.{named}
use Rattle.nest.specs.Bodies.{Standing, nest_loops, nest_statements}
use Rattle.nest.specs.Plain.{Guarded, Loop, Nest}
use Rattle.nest_order.proofs.orders.Lists.{In-append, In-left, In-right}
use Rattle.nest_order.proofs.orders.Membership.{In-map}
use Rattle.nest_order.specs.orders.Lists.{In}
use Rattle.nest_order.specs.runs.Guarded.{names_of, names_of_guard}
use Rattle.nest_order.specs.runs.Touched.{ArePlain, IsPlainGuard}
use Rattle.pass_laws.proofs.NormalFacts.MadeStatements.{counter_long}
use Rattle.pass_laws.proofs.NormalFacts.Tables.{all_in, each_from}
use Rattle.pass_laws.proofs.ReadyNests.Lists.{Each-All}
use Rattle.pass_laws.proofs.PreparedNests.Lists.{Contains-In}
use Rattle.pass_laws.specs.prepared_nests.Loops.{variables_of_loops}
use Rattle.pass_laws.specs.prepared_nests.Nests.{IsPrepared}
use Rattle.pass_laws.specs.prepared_nests.Statements.{IsCanonical, IsOwn, IsPreparedStatement, assignment, expressions_of, guard_or_none, made_names}
use Rattle.rewrite.specs.Making.{made, made_subscripts}
use Rattle.scalar_rename.specs.Ranges.{webs_of}
use Rattle.scalar_rename.specs.Renamed.{renamed_statement}
use Rattle.tree.specs.Names.{IsSourceName}
use Rattle.tree.specs.Plain.{Declaration, Expression, Given, Named, Subscript, Subscripts, no_subscripts, subscript}
use Rattle.tree.specs.declared.ops.Kind.{Kind}
use Rattle.tree.specs.declared.ops.Kind.TheVariants.{Logical}
use Rattle.last_values.specs.normal_forms.NormalLoops.{counter_name}
use Rattle.prepared_passes.proofs.RenamedNests.Bodies.{round_part}
use Rattle.prepared_passes.proofs.RenamedNests.Facts.{IsNamed, bearing, is_made, made_long, made_no_counter, own_or_range, symbol_apart, symbol_source, web_short, web_there}
use Rattle.prepared_passes.proofs.RenamedNests.NewKinds.{Became, IsNamedSo, IsScalarOf, became, scalar_became}
use Rattle.prepared_passes.proofs.RenamedNests.Settled.{by_names, keeps, keeps_in, stays_plain, stays_plain_in, unchanged}
use Rattle.prepared_passes.proofs.RenamedNests.Webs.{names_of as names_at_place}
use Rattle.prepared_passes.specs.renaming.Laws.{IsMadeFor}
use Rattle.prepared_passes.specs.renaming.Renamed.{MayBeRenamed}
use Rattle.tree.specs.declared.width.Width.{Width}

all_of : {A : Type 0} (P : A → Type 0) (xs : List A) → ((x : A) → In x xs → P x) → All P xs
all_of P xs f = Each-All P xs (each_from P xs f)

module _ (width : Width) (es : List Declaration) (around : List (List ℕ)) (deepest : ℕ) (m : Nest) (h : IsPrepared es around deepest m) (may : MayBeRenamed es m)
    (n : Nest) (symbols : n.symbols ≡ m.symbols) (old : (x : List ℕ) → Contains (made_names m) x → Contains (made_names n) x) (new : (x : List ℕ) → IsMadeFor m x → Contains (made_names n) x) where
  abbrev at : ℕ → List ℕ → List ℕ
  at = names_at_place m

  pub record Is (x : Standing) : Type 0 where
    pub prepared : IsPreparedStatement es n deepest x
    pub outside : ¬ Contains around x.statement.left.name

  module _ (s : Standing) (j : In s (nest_statements m)) (k : ℕ) where
    abbrev g : Guarded
    g = s.statement

    abbrev loops : List (List ℕ)
    loops = variables_of_loops s.loops

    abbrev Own : List ℕ → Type 0
    Own = IsOwn s.loops

    abbrev Stands : List ℕ → Type 0
    Stands x = In x (names_of (assignment s.statement))

    was : IsPreparedStatement es m deepest s
    was = all_in (IsPreparedStatement es m deepest) (nest_statements m) h.parts.statements s j

    owned : (x : List ℕ) → Stands x → Own x
    owned x i = all_in (IsOwn s.loops) (names_of (assignment s.statement)) was.names x i

    made_own : (y : List ℕ) → IsMadeFor m y → Own y
    made_own y made i small e = absurd (made_no_counter width es around deepest m h may y made i e)

    named_so : (i : ℕ) (x : List ℕ) → (names_at_place m i x ≡ x) ⊎ IsNamedSo es (IsOwn s.loops) x (names_at_place m i x)
    named_so i x = by (own_or_range width es around deepest m h may i x)
      where
        by : (names_at_place m i x ≡ x) ⊎ IsNamed width es around deepest m h may x (names_at_place m i x) → (names_at_place m i x ≡ x) ⊎ IsNamedSo es (IsOwn s.loops) x (names_at_place m i x)
        by (inl e) = inl e
        by (inr q) =
            inr (record {
              kind = q.web.kind;
              old = subst (IsScalarOf es q.web.kind) q.named (web_there width es around deepest m h may q.web q.inside);
              new = subst (λ c. IsScalarOf es c (names_at_place m i x)) q.entry_kind (subst (IsScalarOf es q.entry.kind) q.entry_name (may.declared q.entry q.there));
              own = made_own (names_at_place m i x) (is_made width es around deepest m h may x (names_at_place m i x) q);
            })

    inside : (o : Loop) → In o s.loops → In o (nest_loops m)
    inside o i = by (round_part [] m.body h.plain s j o i)
      where
        by : In o [] ⊎ In o (nest_loops m) → In o (nest_loops m)
        by (inl q) = absurd q
        by (inr q) = q

    no_place : (i : ℕ) (x : List ℕ) → IsNamed width es around deepest m h may x (names_at_place m i x) → (¬ In x (loops ++ m.symbols)) × (¬ In (names_at_place m i x) (loops ++ m.symbols))
    no_place i x q = (
      λ c. first (In-append x loops m.symbols c),
      λ c. second (In-append (names_at_place m i x) loops m.symbols c),
    )
      where
        counter : (y : List ℕ) → In y loops → (l : Loop) × (y ≡ counter_name l.number)
        counter y c =
            let o = In-map (λ (l : Loop). l.variable) y s.loops c in
            (o.it, o.is ∙ (bearing width es around deepest m h may o.it (inside o.it o.inside)).0)

        first : In x loops ⊎ In x m.symbols → ⊥
        first (inl c) = let o = counter x c in counter_long x o.0.number (subst (λ (y : List ℕ). length y ≤ 6) q.named (web_short width es around deepest m h may q.web q.inside)) o.1
        first (inr c) = symbol_apart width es around deepest m h may q.web q.inside (subst (λ y. In y m.symbols) (sym q.named) c)

        second : In (names_at_place m i x) loops ⊎ In (names_at_place m i x) m.symbols → ⊥
        second (inl c) = let o = counter (names_at_place m i x) c in made_no_counter width es around deepest m h may (names_at_place m i x) (is_made width es around deepest m h may x (names_at_place m i x) q) o.0.number o.1
        second (inr c) = made_long width es around deepest m h may (names_at_place m i x) (is_made width es around deepest m h may x (names_at_place m i x) q) (symbol_source width es around deepest m h may (names_at_place m i x) c)

    apart : (x : List ℕ) → (names_at_place m k x ≡ x) ⊎ ((¬ In x (loops ++ m.symbols)) × (¬ In (names_at_place m k x) (loops ++ m.symbols)))
    apart x = by (own_or_range width es around deepest m h may k x)
      where
        by : (names_at_place m k x ≡ x) ⊎ IsNamed width es around deepest m h may x (names_at_place m k x) → (names_at_place m k x ≡ x) ⊎ ((¬ In x (loops ++ m.symbols)) × (¬ In (names_at_place m k x) (loops ++ m.symbols)))
        by (inl e) = inl e
        by (inr q) = inr (no_place k x q)

    abbrev make : Expression → Expression
    make = made (by_names (names_at_place m k))

    abbrev make_in : Subscripts → Subscripts
    make_in = made_subscripts (by_names (names_at_place m k))

    in_right_side : (x : List ℕ) → In x (names_in g.right) → Stands x
    in_right_side x i = In-right x (names_of_guard g.guard) (names_in g.right ++ (g.left.name ∷ names_in_subscripts g.left.subscripts)) (In-left x (names_in g.right) (g.left.name ∷ names_in_subscripts g.left.subscripts) i)

    in_left_side : (x : List ℕ) → In x (g.left.name ∷ names_in_subscripts g.left.subscripts) → Stands x
    in_left_side x i = In-right x (names_of_guard g.guard) (names_in g.right ++ (g.left.name ∷ names_in_subscripts g.left.subscripts)) (In-right x (names_in g.right) (g.left.name ∷ names_in_subscripts g.left.subscripts) i)

    in_the_guard : (x : List ℕ) → In x (names_of_guard g.guard) → Stands x
    in_the_guard x i = In-left x (names_of_guard g.guard) (names_in g.right ++ (g.left.name ∷ names_in_subscripts g.left.subscripts)) i

    -- ---- how deep

    same_deep : (a b : ℕ) → a ≡ b → b ≤ deepest → a ≤ deepest
    same_deep a b e l = subst (λ c. c ≤ deepest) (sym e) l

    left_deep : depth_of (named g.left) ≤ deepest
    left_deep = all_in (λ (e : Expression). depth_of e ≤ deepest) (expressions_of g) was.deep (named g.left) (In-right (named g.left) (guard_or_none g.guard) (named g.left ∷ g.right ∷ []) (inl refl))

    right_deep : depth_of g.right ≤ deepest
    right_deep = all_in (λ (e : Expression). depth_of e ≤ deepest) (expressions_of g) was.deep g.right (In-right g.right (guard_or_none g.guard) (named g.left ∷ g.right ∷ []) (inr (inl refl)))

    -- ---- the left side

    abbrev target : List ℕ
    target = names_at_place m (k + 1) g.left.name

    record IsLeft (x : List ℕ) (ss : Subscripts) : Type 0 where
      plain : ArePlain ss
      scalar : IsScalar es (Named x ss) was.kind
      deep : depth_of (Named x ss) ≤ deepest
      own : (y : List ℕ) → In y (x ∷ names_in_subscripts ss) → Own y
      settled : made_subscripts (canonising loops m.symbols) ss ≡ ss

    -- what is renamed has no subscripts
    no_element : (x : List ℕ) (q : Subscript) (qs : Subscripts) (c d : Kind) → IsScalarOf es c x → IsScalar es (Named x (subscript q qs)) d → ⊥
    no_element x q qs c d a b = by (declared es x) a b.0.0
      where
        by : (o : Option Declaration) → IsSomeAnd o (λ (e : Declaration). (e.kind ≡ c) × (e.extent ≡ Given [])) → IsSomeAnd o (λ (e : Declaration). (d ≡ e.kind) × ((1 + number_of_subscripts qs) ≡ rank_of_extent e.extent)) → ⊥
        by None u v = u
        by (Some e) u v = let none : rank_of_extent e.extent ≡ 0 = ap rank_of_extent u.1 in let some = v.1 in omega (arith, none, some)

    left_is : IsLeft target (make_in g.left.subscripts)
    left_is = by g.left.subscripts was.left was.plain.2 was.canonical.left in_left_side left_deep
      where
        by : (ss : Subscripts) → IsScalar es (Named g.left.name ss) was.kind → ArePlain ss → made_subscripts (canonising loops m.symbols) ss ≡ ss → ((x : List ℕ) → In x (g.left.name ∷ names_in_subscripts ss) → Stands x)
            → depth_of (Named g.left.name ss) ≤ deepest → IsLeft target (make_in ss)
        by no_subscripts scalar plain settled st deep =
            let b = scalar_became es (IsOwn s.loops) Stands (names_at_place m (k + 1)) (named_so (k + 1)) owned g.left.name was.kind (st g.left.name (inl refl)) scalar.0 in
            record { plain = tt; scalar = (b.kind, b.rank ∙ scalar.1); deep = same_deep (depth_of (Named target no_subscripts)) (depth_of (Named g.left.name no_subscripts)) b.deep deep; own = b.own; settled = refl }
        by (subscript q qs) scalar plain settled st deep = one (named_so (k + 1) g.left.name)
          where
            b : Became es (IsOwn s.loops) Stands (names_at_place m k) (named_so k) owned (Named g.left.name (subscript q qs)) was.kind (make (Named g.left.name (subscript q qs)))
            b = became es (IsOwn s.loops) Stands (names_at_place m k) (named_so k) owned (Named g.left.name (subscript q qs)) was.kind plain scalar.0 st

            kept : IsLeft g.left.name (make_in (subscript q qs))
            kept = record {
              plain = stays_plain_in loops m.symbols (names_at_place m k) apart (subscript q qs) plain;
              scalar = (b.kind, b.rank ∙ scalar.1);
              deep = same_deep (depth_of (make (Named g.left.name (subscript q qs)))) (depth_of (Named g.left.name (subscript q qs))) b.deep deep;
              own = b.own;
              settled = keeps_in loops m.symbols (names_at_place m k) apart (subscript q qs) plain settled;
            }

            one : (target ≡ g.left.name) ⊎ IsNamedSo es (IsOwn s.loops) g.left.name target → IsLeft target (make_in (subscript q qs))
            one (inl e) = subst (λ y. IsLeft y (make_in (subscript q qs))) (sym e) kept
            one (inr u) = absurd (no_element g.left.name q qs u.kind was.kind u.old scalar)

    -- what is assigned
    record IsTarget (y : List ℕ) : Type 0 where
      known : IsSourceName y ⊎ Contains (made_names n) y
      free : ¬ Contains n.symbols y
      outside : ¬ Contains around y

    target_is : IsTarget target
    target_is = by (own_or_range width es around deepest m h may (k + 1) g.left.name)
      where
        kept : IsTarget g.left.name
        kept = record {
          known = either was.target;
          free = λ c. was.free (subst (λ ss. Contains ss g.left.name) symbols c);
          outside = all_in (λ (x : Standing). ¬ Contains around x.statement.left.name) (nest_statements m) h.parts.outside s j;
        }
          where
            either : IsSourceName g.left.name ⊎ Contains (made_names m) g.left.name → IsSourceName g.left.name ⊎ Contains (made_names n) g.left.name
            either (inl t) = inl t
            either (inr c) = inr (old g.left.name c)

        by : (target ≡ g.left.name) ⊎ IsNamed width es around deepest m h may g.left.name target → IsTarget target
        by (inl e) = subst IsTarget (sym e) kept
        by (inr q) =
            let made = is_made width es around deepest m h may g.left.name target q in
            record {
              known = inr (new target made);
              free = λ c. made_long width es around deepest m h may target made (symbol_source width es around deepest m h may target (Contains-In target m.symbols (subst (λ ss. Contains ss target) symbols c)));
              outside = λ c. made_long width es around deepest m h may target made (all_in IsSourceName around h.parts.source target (Contains-In target around c));
            }

    -- ---- the right side and the guard

    right : Became es (IsOwn s.loops) Stands (names_at_place m k) (named_so k) owned g.right was.kind (make g.right)
    right = became es (IsOwn s.loops) Stands (names_at_place m k) (named_so k) owned g.right was.kind was.plain.1 was.right.0 in_right_side

    right_settled : (made (canonising loops m.symbols) g.right ≡ g.right) ⊎ All (Contains (loops ++ m.symbols)) (names_in g.right)
        → (made (canonising loops m.symbols) (make g.right) ≡ make g.right) ⊎ All (Contains (loops ++ m.symbols)) (names_in (make g.right))
    right_settled (inl e) = inl (keeps loops m.symbols (names_at_place m k) apart g.right was.plain.1 e)
    right_settled (inr a) =
        inr (subst (λ (e : Expression). All (Contains (loops ++ m.symbols)) (names_in e))
        (sym (unchanged loops m.symbols (names_at_place m k) apart g.right was.plain.1 (λ z i. none z (Contains-In z (loops ++ m.symbols) (all_in (Contains (loops ++ m.symbols)) (names_in g.right) a z i))))) a)
      where
        none : (z : List ℕ) → In z (loops ++ m.symbols) → names_at_place m k z ≡ z
        none z i = by (apart z)
          where
            by : (names_at_place m k z ≡ z) ⊎ ((¬ In z (loops ++ m.symbols)) × (¬ In (names_at_place m k z) (loops ++ m.symbols))) → names_at_place m k z ≡ z
            by (inl e) = e
            by (inr q) = absurd (q.0 i)

    record IsGuard (o : Option Expression) : Type 0 where
      plain : IsPlainGuard o
      scalar : IfSome o (λ (e : Expression). IsScalar es e Logical)
      own : (y : List ℕ) → In y (names_of_guard o) → Own y
      deep : All (λ (e : Expression). depth_of e ≤ deepest) (guard_or_none o)
      settled : option_map (made (canonising loops m.symbols)) o ≡ o

    guard_is : IsGuard (option_map make g.guard)
    guard_is = by g.guard was.plain.0 was.guard in_the_guard was.deep was.canonical.guard
      where
        by : (o : Option Expression) → IsPlainGuard o → IfSome o (λ (e : Expression). IsScalar es e Logical) → ((x : List ℕ) → In x (names_of_guard o) → Stands x)
            → All (λ (e : Expression). depth_of e ≤ deepest) (guard_or_none o ++ named g.left ∷ g.right ∷ []) → option_map (made (canonising loops m.symbols)) o ≡ o → IsGuard (option_map make o)
        by None plain scalar st deep settled = record { plain = tt; scalar = tt; own = λ y i. absurd i; deep = All-nil (λ (e : Expression). depth_of e ≤ deepest); settled = refl }
        by (Some e) plain scalar st deep settled =
            let c = became es (IsOwn s.loops) Stands (names_at_place m k) (named_so k) owned e Logical plain scalar.0 st in
            let first = All-head (λ (e : Expression). depth_of e ≤ deepest) e (named g.left ∷ g.right ∷ []) deep in
            let same : made (canonising loops m.symbols) e ≡ e = inner (made (canonising loops m.symbols) e) e settled in
            record {
              plain = stays_plain loops m.symbols (names_at_place m k) apart e plain;
              scalar = (c.kind, c.rank ∙ scalar.1);
              own = c.own;
              deep = All-cons (λ (e : Expression). depth_of e ≤ deepest) (make e) [] (same_deep (depth_of (make e)) (depth_of e) c.deep first) (All-nil (λ (e : Expression). depth_of e ≤ deepest));
              settled = ap (λ (x : Expression). Some x) (keeps loops m.symbols (names_at_place m k) apart e plain same);
            }
          where
            inner : (a b : Expression) → Some a ≡ Some b → a ≡ b
            inner a b e = cc

    -- ---- all of it

    pub statement_is : Is (record { loops = s.loops; statement = renamed_statement (webs_of m) k s.statement })
    statement_is =
        record {
          prepared = record {
            line = was.line;
            plain = (guard_is.plain, stays_plain loops m.symbols (names_at_place m k) apart g.right was.plain.1, left_is.plain);
            names = all_of (IsOwn s.loops) (names_of_guard (option_map make g.guard) ++ (names_in (make g.right) ++ (target ∷ names_in_subscripts (make_in g.left.subscripts))))
                (λ y i. own_name y (In-append y (names_of_guard (option_map make g.guard)) (names_in (make g.right) ++ (target ∷ names_in_subscripts (make_in g.left.subscripts))) i));
            target = target_is.known;
            free = target_is.free;
            kind = was.kind;
            left = left_is.scalar;
            right = (right.kind, right.rank ∙ was.right.1);
            guard = guard_is.scalar;
            deep = All-append (λ (e : Expression). depth_of e ≤ deepest) (guard_or_none (option_map make g.guard)) (Named target (make_in g.left.subscripts) ∷ make g.right ∷ []) guard_is.deep
                (All-cons (λ (e : Expression). depth_of e ≤ deepest) (Named target (make_in g.left.subscripts)) (make g.right ∷ []) left_is.deep
                (All-cons (λ (e : Expression). depth_of e ≤ deepest) (make g.right) [] (same_deep (depth_of (make g.right)) (depth_of g.right) right.deep right_deep) (All-nil (λ (e : Expression). depth_of e ≤ deepest))));
            canonical = subst (λ ss. IsCanonical loops ss (renamed_statement (webs_of m) k s.statement)) (sym symbols)
                (record { guard = guard_is.settled; left = left_is.settled; right = right_settled was.canonical.right });
          };
          outside = target_is.outside;
        }
      where
        own_name : (y : List ℕ) → (In y (names_of_guard (option_map make g.guard)) ⊎ In y (names_in (make g.right) ++ (target ∷ names_in_subscripts (make_in g.left.subscripts)))) → IsOwn s.loops y
        own_name y (inl i) = guard_is.own y i
        own_name y (inr i) = more (In-append y (names_in (make g.right)) (target ∷ names_in_subscripts (make_in g.left.subscripts)) i)
          where
            more : In y (names_in (make g.right)) ⊎ In y (target ∷ names_in_subscripts (make_in g.left.subscripts)) → IsOwn s.loops y
            more (inl q) = right.own y q
            more (inr q) = left_is.own y q
