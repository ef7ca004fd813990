-- The statements of an expanded nest are prepared.
use Rattle.std.proofs.Common.{◌≡◌, ◌⊎◌, inl, inr, refl, sym, ap, ◌∙◌, subst, ℕ, ◌+◌, ◌≤◌, true, false, All, Contains, List, [], ◌∷◌, ◌++◌, Option, Some, None, arith}
use Rattle.std.specs.Option.{IfSome, IsSomeAnd, option_map}
use Rattle.std.proofs.lemmas.List.Elements.{All-append, All-cons, All-head, All-nil, All-tail}
use Rattle.last_values.specs.Occurrences.{stands_in_statement}
use Rattle.last_values.specs.Scalars.{scalar}
use Rattle.linear_forms.specs.Canonical.{canonising}
use Rattle.meaning.specs.Depths.{depth_of}
use Rattle.meaning.specs.Reads.{names_in, names_in_subscripts}
use Rattle.meaning.specs.Typed.{declared, rank_of_extent}
use Rattle.meaning.specs.Typed90.{IsScalar}
use Rattle.meaning.specs.Value.{named}
use Rattle.nest.specs.Bodies.{Standing, nest_loops, nest_statements}
use Rattle.nest.specs.Plain.{Guarded, Loop, Nest}
use Rattle.nest_order.proofs.orders.Lists.{In-append, In-left, In-right}
use Rattle.nest_order.proofs.orders.Membership.{In-map}
use Rattle.nest_order.specs.orders.Lists.{In}
use Rattle.nest_order.specs.runs.Guarded.{names_of, names_of_guard}
use Rattle.nest_order.specs.runs.Touched.{ArePlain, IsPlainGuard}
use Rattle.nest_rewrite.specs.Statements.{rewritten_statement}
use Rattle.pass_laws.proofs.NormalFacts.Tables.{all_in, each_from}
use Rattle.pass_laws.proofs.ReadyNests.Lists.{Each-All}
use Rattle.pass_laws.specs.normal_facts.Laws.{IsCounter}
use Rattle.pass_laws.specs.prepared_nests.Loops.{variables_of_loops}
use Rattle.pass_laws.specs.prepared_nests.Nests.{IsPrepared}
use Rattle.pass_laws.specs.prepared_nests.Statements.{IsCanonical, IsOwn, IsPreparedStatement, assignment, guard_or_none, made_names}
use Rattle.pass_laws.proofs.PreparedNests.Lists.{Contains-In}
use Rattle.pass_laws.proofs.PreparedNests.Normal.MadeNames.{function_is_source}
use Rattle.rewrite.specs.Making.{made, made_subscripts}
use Rattle.tree.specs.Functions.{name_of_function}
use Rattle.tree.specs.Names.{IsSourceName}
use Rattle.tree.specs.Plain.{Declaration, Expression, Given, Named, Reference, Subscripts, no_subscripts, subscript}
use Rattle.tree.specs.declared.ops.Kind.TheVariants.{Logical}
use Rattle.scalar_expand.specs.Expanded.{as_expression, copied, element, element_or, expanding, named_private, reference_to}
use Rattle.scalar_expand.specs.Laws.{own_of}
use Rattle.scalar_expand.specs.Privates.{is_source, private_scalars}
use Rattle.scalar_expand.specs.Stores.{arrays}
use Rattle.scalar_expand.specs.declared.privates.Private.{Private}
use Rattle.scalar_expand.specs.declared.privates.RoundLoop.{RoundLoop}
use Rattle.scalar_expand.proofs.Changes.{array_in, found}
use Rattle.scalar_expand.proofs.PrivateLaws.{in_guard, in_left, in_right, numbers_of, numbers_round}
use Rattle.scalar_expand.proofs.Theorems.{in_declared}
use Rattle.prepared_passes.specs.expansion.Laws.{MayBeExpanded}
use Rattle.prepared_passes.specs.expansion.Prepared.{AreDeclaredFor}
use Rattle.prepared_passes.proofs.ExpandedNests.ElementKinds.{AreNames, Became, IsElementFor, became, element_is, element_own, element_shallow, not_private, scalar_became}
use Rattle.prepared_passes.proofs.ExpandedNests.Names.{Named-so, array_is, array_long, counter_apart, declared_in, not_counter, own_apart, source_is, start, statement_at, symbol_apart, unnamed}
use Rattle.prepared_passes.proofs.ExpandedNests.Round.{array_no_counter, array_there, counter_of, counter_there, kind_of_private, own_variable, round_loop_is, same_round}
use Rattle.prepared_passes.proofs.ExpandedNests.Settled.{element_plain, element_settled, expand_plain, expand_plain_in, keeps, keeps_in, subscripts_settled, unchanged}
use Rattle.prepared_passes.proofs.ExpandedNests.Walks.{round_in}

all_of : {A : Type 0} (P : A → Type 0) (xs : List A) → ((x : A) → In x xs → P x) → All P xs
all_of P xs f = Each-All P xs (each_from P xs f)

module _ (es fs : List Declaration) (around : List (List ℕ)) (deepest : ℕ) (m : Nest) (h : IsPrepared es around deepest m) (may : MayBeExpanded es m) (d : AreDeclaredFor es fs m) where
  abbrev ps : List Private
  ps = private_scalars m

  abbrev expand : Expression → Expression
  expand = made (expanding (private_scalars m))

  -- ---- names of arrays

  pub array_not_source : (p : Private) → In p (private_scalars m) → ¬ IsSourceName p.array
  array_not_source p i n = by (array_is es around deepest m h may p i)
    where
      by : Named-so es around deepest m h may p → ⊥
      by (inl (s, e)) = array_long p.name m.number (subst IsSourceName e n)
      by (inr (s, e)) = let bad : true ≡ false = sym (source_is p.array n) ∙ (ap is_source e ∙ s) in cc

  -- neither private scalars nor arrays count loops or are symbols
  pub names_apart : (ls : List Loop) → ((o : Loop) → In o ls → In o (nest_loops m)) → (z : List ℕ) (p : Private) → named_private (private_scalars m) z ≡ Some p
      → (¬ In z (variables_of_loops ls ++ m.symbols)) × (¬ In p.array (variables_of_loops ls ++ m.symbols))
  names_apart ls inside z p e = (
    λ i. first (In-append z (variables_of_loops ls) m.symbols i),
    λ i. second (In-append p.array (variables_of_loops ls) m.symbols i),
  )
    where
      none : named_private (private_scalars m) z ≡ None → ⊥
      none f = let bad : ◌≡◌ {A = Option Private} None (Some p) = sym f ∙ e in cc

      among : In p.array (arrays (private_scalars m))
      among = array_in (private_scalars m) p (found (private_scalars m) z p e).0

      counter : (y : List ℕ) → In y (variables_of_loops ls) → (named_private (private_scalars m) y ≡ None) × (¬ In y (arrays (private_scalars m)))
      counter y i =
          let o = In-map (λ (l : Loop). l.variable) y ls i in
          counter_apart es around deepest m h may y o.it.number (o.is ∙ (counter_of es around deepest m h may o.it (inside o.it o.inside)).0)

      first : In z (variables_of_loops ls) ⊎ In z m.symbols → ⊥
      first (inl i) = none (counter z i).0
      first (inr i) = none (symbol_apart es around deepest m h may z i).0

      second : In p.array (variables_of_loops ls) ⊎ In p.array m.symbols → ⊥
      second (inl i) = (counter p.array i).1 among
      second (inr i) = (symbol_apart es around deepest m h may p.array i).1 among

  -- the element of a private scalar in loops of these numbers
  pub element_for : (ls : List Loop) (p : Private) → In p (private_scalars m) → numbers_round p.loops ≡ numbers_of ls → IsElementFor es fs (IsOwn ls) p
  element_for ls p i same = record {
    scalar = kind_of_private es around deepest m h may p i;
    array = array_there es around deepest m h may fs d p i;
    counters = λ l j. (let o = round_loop_is es around deepest m h may p i l j in
        subst (λ (x : RoundLoop). IsSomeAnd (declared fs x.variable) IsCounter) (sym o.2) (counter_there es around deepest m h may fs d o.0 o.1));
    own = λ l j. own_variable es around deepest m h may ls p i same l j;
    array_own = λ k small e. absurd (array_no_counter es around deepest m h may p i k e);
  }

  -- ---- a nest with these symbols, in which made names stay

  module _ (n : Nest) (symbols : n.symbols ≡ m.symbols) (stay : (x : List ℕ) → Contains (made_names m) x → named_private (private_scalars m) x ≡ None → Contains (made_names n) x)
      (new : (p : Private) → In p (private_scalars m) → Contains (made_names n) p.array) where
    -- prepared, and outside of the loops round the nest
    pub record Is (x : Standing) : Type 0 where
      pub prepared : IsPreparedStatement fs n (deepest + 1) x
      pub outside : ¬ Contains around x.statement.left.name

    not_around : (p : Private) → In p (private_scalars m) → ¬ Contains around p.array
    not_around p i c = array_not_source p i (all_in IsSourceName around h.parts.source p.array (Contains-In p.array around c))

    no_symbol : (p : Private) → In p (private_scalars m) → ¬ Contains n.symbols p.array
    no_symbol p i c = (symbol_apart es around deepest m h may p.array (Contains-In p.array m.symbols (subst (λ ss. Contains ss p.array) symbols c))).1 (array_in (private_scalars m) p i)

    -- ---- a statement of the nest

    module _ (s : Standing) (j : In s (nest_statements m)) where
      abbrev g : Guarded
      g = s.statement

      abbrev loops : List (List ℕ)
      loops = variables_of_loops s.loops

      abbrev Stands : List ℕ → Type 0
      Stands x = In x (names_of (assignment s.statement))

      was : IsPreparedStatement es m deepest s
      was = statement_at es around deepest m h may s j

      stands_is : (x : List ℕ) → Stands x → stands_in_statement x s.statement ≡ true
      stands_is x i = by (In-append x (names_of_guard g.guard) (names_in g.right ++ (g.left.name ∷ names_in_subscripts g.left.subscripts)) i)
        where
          more : In x (names_in g.right) ⊎ In x (g.left.name ∷ names_in_subscripts g.left.subscripts) → stands_in_statement x s.statement ≡ true
          more (inl k) = in_right g x k
          more (inr k) = in_left g x k

          by : In x (names_of_guard g.guard) ⊎ In x (names_in g.right ++ (g.left.name ∷ names_in_subscripts g.left.subscripts)) → stands_in_statement x s.statement ≡ true
          by (inl k) = in_guard g x k
          by (inr k) = more (In-append x (names_in g.right) (g.left.name ∷ names_in_subscripts g.left.subscripts) k)

      names : AreNames es fs (private_scalars m) (IsOwn s.loops) Stands
      names = record {
        private = λ x p e st. (let f = found (private_scalars m) x p e in
            (element_for s.loops p f.0 (same_round es around deepest m h may p f.0 s j (subst (λ y. stands_in_statement y s.statement ≡ true) (sym f.1) (stands_is x st))), f.1));
        other = λ x c e st f. d.kept x c (unnamed es around deepest m h may s j x (stands_is x st) e) f;
        functions = λ f none. d.free (name_of_function f) (function_is_source f).plain none;
        own = λ x st. all_in (IsOwn s.loops) (names_of (assignment s.statement)) was.names x st;
      }

      inside : (o : Loop) → In o s.loops → In o (nest_loops m)
      inside o i = by (round_in [] m.body h.plain s j o i)
        where
          by : In o [] ⊎ In o (nest_loops m) → In o (nest_loops m)
          by (inl k) = absurd k
          by (inr k) = k

      apart : (z : List ℕ) (p : Private) → named_private (private_scalars m) z ≡ Some p → (¬ In z (loops ++ m.symbols)) × (¬ In p.array (loops ++ m.symbols))
      apart = names_apart s.loops inside

      in_right_side : (x : List ℕ) → In x (names_in g.right) → Stands x
      in_right_side x i = In-right x (names_of_guard g.guard) (names_in g.right ++ (g.left.name ∷ names_in_subscripts g.left.subscripts)) (In-left x (names_in g.right) (g.left.name ∷ names_in_subscripts g.left.subscripts) i)

      in_left_side : (x : List ℕ) → In x (g.left.name ∷ names_in_subscripts g.left.subscripts) → Stands x
      in_left_side x i = In-right x (names_of_guard g.guard) (names_in g.right ++ (g.left.name ∷ names_in_subscripts g.left.subscripts)) (In-right x (names_in g.right) (g.left.name ∷ names_in_subscripts g.left.subscripts) i)

      in_the_guard : (x : List ℕ) → In x (names_of_guard g.guard) → Stands x
      in_the_guard x i = In-left x (names_of_guard g.guard) (names_in g.right ++ (g.left.name ∷ names_in_subscripts g.left.subscripts)) i

      -- ---- the left side

      record IsLeft (f : Reference) : Type 0 where
        plain : ArePlain f.subscripts
        scalar : IsScalar fs (named f) was.kind
        deep : depth_of (named f) ≤ deepest + 1
        own : (y : List ℕ) → In y (f.name ∷ names_in_subscripts f.subscripts) → IsOwn s.loops y
        settled : made_subscripts (canonising loops m.symbols) f.subscripts ≡ f.subscripts
        target : IsSourceName f.name ⊎ Contains (made_names n) f.name
        free : ¬ Contains n.symbols f.name
        outside : ¬ Contains around f.name

      target_there : named_private (private_scalars m) g.left.name ≡ None → IsSourceName g.left.name ⊎ Contains (made_names m) g.left.name → IsSourceName g.left.name ⊎ Contains (made_names n) g.left.name
      target_there none (inl t) = inl t
      target_there none (inr c) = inr (stay g.left.name c none)

      free_there : ¬ Contains n.symbols g.left.name
      free_there c = was.free (subst (λ ss. Contains ss g.left.name) symbols c)

      outside_there : ¬ Contains around g.left.name
      outside_there = all_in (λ (x : Standing). ¬ Contains around x.statement.left.name) (nest_statements m) h.parts.outside s j

      left_deep : depth_of (named g.left) ≤ deepest
      left_deep = by g.guard was.deep
        where
          by : (o : Option Expression) → All (λ (e : Expression). depth_of e ≤ deepest) (guard_or_none o ++ named g.left ∷ g.right ∷ []) → depth_of (named g.left) ≤ deepest
          by None a = All-head (λ (e : Expression). depth_of e ≤ deepest) (named g.left) (g.right ∷ []) a
          by (Some e) a = All-head (λ (e : Expression). depth_of e ≤ deepest) (named g.left) (g.right ∷ []) (All-tail (λ (e : Expression). depth_of e ≤ deepest) e (named g.left ∷ g.right ∷ []) a)

      right_deep : depth_of g.right ≤ deepest
      right_deep = by g.guard was.deep
        where
          by : (o : Option Expression) → All (λ (e : Expression). depth_of e ≤ deepest) (guard_or_none o ++ named g.left ∷ g.right ∷ []) → depth_of g.right ≤ deepest
          by None a = All-head (λ (e : Expression). depth_of e ≤ deepest) g.right [] (All-tail (λ (e : Expression). depth_of e ≤ deepest) (named g.left) (g.right ∷ []) a)
          by (Some e) a = All-head (λ (e : Expression). depth_of e ≤ deepest) g.right []
              (All-tail (λ (e : Expression). depth_of e ≤ deepest) (named g.left) (g.right ∷ []) (All-tail (λ (e : Expression). depth_of e ≤ deepest) e (named g.left ∷ g.right ∷ []) a))

      one_deeper : (a b : ℕ) → a ≤ b + 1 → b ≤ deepest → a ≤ deepest + 1
      one_deeper a b p q = omega (arith, p, q)

      abbrev f : Reference
      f = reference_to (private_scalars m) g.left.name (made_subscripts (expanding (private_scalars m)) g.left.subscripts)

      left_is : IsLeft (reference_to (private_scalars m) g.left.name (made_subscripts (expanding (private_scalars m)) g.left.subscripts))
      left_is = by g.left.subscripts was.left was.plain.2 was.canonical.left (λ x i. in_left_side x i) left_deep
        where
          by : (ss : Subscripts) → IsScalar es (Named g.left.name ss) was.kind → ArePlain ss → made_subscripts (canonising loops m.symbols) ss ≡ ss → ((x : List ℕ) → In x (g.left.name ∷ names_in_subscripts ss) → Stands x)
              → depth_of (Named g.left.name ss) ≤ deepest → IsLeft (reference_to (private_scalars m) g.left.name (made_subscripts (expanding (private_scalars m)) ss))
          by no_subscripts scalar plain settled st deep = one (named_private (private_scalars m) g.left.name) refl
            where
              b : Became es fs (private_scalars m) (IsOwn s.loops) Stands names (Named g.left.name no_subscripts) was.kind (as_expression (element_or (named_private (private_scalars m) g.left.name) (record { name = g.left.name; subscripts = no_subscripts })))
              b = scalar_became es fs (private_scalars m) (IsOwn s.loops) Stands names g.left.name was.kind (st g.left.name (inl refl)) scalar.0

              one : (o : Option Private) → named_private (private_scalars m) g.left.name ≡ o → IsLeft (element_or o (record { name = g.left.name; subscripts = no_subscripts }))
              one None e =
                  let c = subst (λ o. Became es fs (private_scalars m) (IsOwn s.loops) Stands names (Named g.left.name no_subscripts) was.kind (as_expression (element_or o (record { name = g.left.name; subscripts = no_subscripts })))) e b in
                  record {
                    plain = tt;
                    scalar = (c.kind, c.rank ∙ scalar.1);
                    deep = omega arith;
                    own = c.own;
                    settled = refl;
                    target = target_there e was.target;
                    free = free_there;
                    outside = outside_there;
                  }
              one (Some p) e =
                  let i = (found (private_scalars m) g.left.name p e).0 in
                  let c = subst (λ o. Became es fs (private_scalars m) (IsOwn s.loops) Stands names (Named g.left.name no_subscripts) was.kind (as_expression (element_or o (record { name = g.left.name; subscripts = no_subscripts })))) e b in
                  record {
                    plain = element_plain loops m.symbols (private_scalars m) apart p;
                    scalar = (c.kind, c.rank ∙ scalar.1);
                    deep = one_deeper (depth_of (as_expression (element p))) 0 c.deep (omega arith);
                    own = c.own;
                    settled = subscripts_settled loops m.symbols (private_scalars m) apart p;
                    target = inr (new p i);
                    free = no_symbol p i;
                    outside = not_around p i;
                  }
          by (subscript q qs) scalar plain settled st deep =
              let c = became es fs (private_scalars m) (IsOwn s.loops) Stands names (Named g.left.name (subscript q qs)) was.kind plain scalar.0 st in
              record {
                plain = expand_plain_in loops m.symbols (private_scalars m) apart (subscript q qs) plain;
                scalar = (c.kind, c.rank ∙ scalar.1);
                deep = one_deeper (depth_of (expand (Named g.left.name (subscript q qs)))) (depth_of (Named g.left.name (subscript q qs))) c.deep deep;
                own = c.own;
                settled = keeps_in loops m.symbols (private_scalars m) apart (subscript q qs) plain settled;
                target = target_there none was.target;
                free = free_there;
                outside = outside_there;
              }
            where
              none : named_private (private_scalars m) g.left.name ≡ None
              none = not_private es fs (private_scalars m) (IsOwn s.loops) Stands names g.left.name qs was.kind (st g.left.name (inl refl)) scalar.0.0

      -- ---- the right side and the guard

      right : Became es fs (private_scalars m) (IsOwn s.loops) Stands names g.right was.kind (expand g.right)
      right = became es fs (private_scalars m) (IsOwn s.loops) Stands names g.right was.kind was.plain.1 was.right.0 in_right_side

      right_settled : (made (canonising loops m.symbols) g.right ≡ g.right) ⊎ All (Contains (loops ++ m.symbols)) (names_in g.right)
          → (made (canonising loops m.symbols) (expand g.right) ≡ expand g.right) ⊎ All (Contains (loops ++ m.symbols)) (names_in (expand g.right))
      right_settled (inl e) = inl (keeps loops m.symbols (private_scalars m) apart g.right was.plain.1 e)
      right_settled (inr a) =
          inr (subst (λ (e : Expression). All (Contains (loops ++ m.symbols)) (names_in e))
          (sym (unchanged loops m.symbols (private_scalars m) apart g.right was.plain.1 (λ z i. none z (Contains-In z (loops ++ m.symbols) (all_in (Contains (loops ++ m.symbols)) (names_in g.right) a z i))))) a)
        where
          none : (z : List ℕ) → In z (loops ++ m.symbols) → named_private (private_scalars m) z ≡ None
          none z i = by (named_private (private_scalars m) z) refl
            where
              by : (o : Option Private) → named_private (private_scalars m) z ≡ o → named_private (private_scalars m) z ≡ None
              by None e = e
              by (Some p) e = absurd ((apart z p e).0 i)

      record IsGuard (o o' : Option Expression) : Type 0 where
        plain : IsPlainGuard o'
        scalar : IfSome o' (λ (e : Expression). IsScalar fs e Logical)
        own : (y : List ℕ) → In y (names_of_guard o') → IsOwn s.loops y
        deep : All (λ (e : Expression). depth_of e ≤ deepest + 1) (guard_or_none o')
        settled : option_map (made (canonising loops m.symbols)) o' ≡ o'

      guard_is : IsGuard g.guard (option_map expand g.guard)
      guard_is = by g.guard was.plain.0 was.guard (λ x i. in_the_guard x i) was.deep was.canonical.guard
        where
          by : (o : Option Expression) → IsPlainGuard o → IfSome o (λ (e : Expression). IsScalar es e Logical) → ((x : List ℕ) → In x (names_of_guard o) → Stands x)
              → All (λ (e : Expression). depth_of e ≤ deepest) (guard_or_none o ++ named g.left ∷ g.right ∷ []) → option_map (made (canonising loops m.symbols)) o ≡ o → IsGuard o (option_map expand o)
          by None plain scalar st deep settled = record { plain = tt; scalar = tt; own = λ y i. absurd i; deep = All-nil (λ (e : Expression). depth_of e ≤ deepest + 1); settled = refl }
          by (Some e) plain scalar st deep settled =
              let c = became es fs (private_scalars m) (IsOwn s.loops) Stands names e Logical plain scalar.0 st in
              let first = All-head (λ (e : Expression). depth_of e ≤ deepest) e (named g.left ∷ g.right ∷ []) deep in
              let same : made (canonising loops m.symbols) e ≡ e = inner (made (canonising loops m.symbols) e) e settled in
              record {
                plain = expand_plain loops m.symbols (private_scalars m) apart e plain;
                scalar = (c.kind, c.rank ∙ scalar.1);
                own = c.own;
                deep = All-cons (λ (e : Expression). depth_of e ≤ deepest + 1) (expand e) [] (one_deeper (depth_of (expand e)) (depth_of e) c.deep first) (All-nil (λ (e : Expression). depth_of e ≤ deepest + 1));
                settled = ap (λ (x : Expression). Some x) (keeps loops m.symbols (private_scalars m) apart e plain same);
              }
            where
              inner : (a b : Expression) → Some a ≡ Some b → a ≡ b
              inner a b e = cc

      -- ---- all of it

      pub expanded_is : Is (record { loops = s.loops; statement = rewritten_statement (expanding (private_scalars m)) s.statement })
      expanded_is =
          record {
            prepared = record {
              line = was.line;
              plain = (guard_is.plain, expand_plain loops m.symbols (private_scalars m) apart g.right was.plain.1, left_is.plain);
              names = all_of (IsOwn s.loops) (names_of_guard (option_map expand g.guard) ++ (names_in (expand g.right) ++ (f.name ∷ names_in_subscripts f.subscripts)))
                  (λ y i. owned y (In-append y (names_of_guard (option_map expand g.guard)) (names_in (expand g.right) ++ (f.name ∷ names_in_subscripts f.subscripts)) i));
              target = left_is.target;
              free = left_is.free;
              kind = was.kind;
              left = left_is.scalar;
              right = (right.kind, right.rank ∙ was.right.1);
              guard = guard_is.scalar;
              deep = All-append (λ (e : Expression). depth_of e ≤ deepest + 1) (guard_or_none (option_map expand g.guard)) (named f ∷ expand g.right ∷ []) guard_is.deep
                  (All-cons (λ (e : Expression). depth_of e ≤ deepest + 1) (named f) (expand g.right ∷ []) left_is.deep
                  (All-cons (λ (e : Expression). depth_of e ≤ deepest + 1) (expand g.right) [] (one_deeper (depth_of (expand g.right)) (depth_of g.right) right.deep right_deep) (All-nil (λ (e : Expression). depth_of e ≤ deepest + 1))));
              canonical = subst (λ ss. IsCanonical loops ss (rewritten_statement (expanding (private_scalars m)) s.statement)) (sym symbols)
                  (record { guard = guard_is.settled; left = left_is.settled; right = right_settled was.canonical.right });
            };
            outside = left_is.outside;
          }
        where
          owned : (y : List ℕ) → (In y (names_of_guard (option_map expand g.guard)) ⊎ In y (names_in (expand g.right) ++ (f.name ∷ names_in_subscripts f.subscripts))) → IsOwn s.loops y
          owned y (inl k) = guard_is.own y k
          owned y (inr k) = more (In-append y (names_in (expand g.right)) (f.name ∷ names_in_subscripts f.subscripts) k)
            where
              more : In y (names_in (expand g.right)) ⊎ In y (f.name ∷ names_in_subscripts f.subscripts) → IsOwn s.loops y
              more (inl q) = right.own y q
              more (inr q) = left_is.own y q

    -- ---- a copy at the end of a turn

    -- of a declared private scalar, in the loops of its statements
    pub copy_is : (ls : List Loop) → ((o : Loop) → In o ls → In o (nest_loops m)) → (p : Private) → In p (own_of m) → numbers_round p.loops ≡ numbers_of ls → Is (record { loops = ls; statement = copied m.line p })
    copy_is ls inside p own same =
        let i = in_declared (private_scalars m) m.declarations p own in
        let f = element_for ls p i same in
        let is = element_is es fs (IsOwn ls) p f in
        let st = start es around deepest m h may p i in
        let was = statement_at es around deepest m h may st.standing st.inside in
        let apart = names_apart ls inside in
        let loops : List (List ℕ) = variables_of_loops ls in
        let shallow = element_shallow es fs (IsOwn ls) p f in
        record {
          prepared = record {
            line = h.parts.line;
            plain = (tt, element_plain loops m.symbols (private_scalars m) apart p, tt);
            names = all_of (IsOwn ls) (names_in (as_expression (element p)) ++ (p.name ∷ [])) (owned f);
            target = inl source;
            free = λ c. was.free (subst (λ x. Contains m.symbols x) (sym st.target) (subst (λ ss. Contains ss p.name) symbols c));
            kind = p.kind;
            left = scalar_there i;
            right = is;
            guard = tt;
            deep = All-cons (λ (e : Expression). depth_of e ≤ deepest + 1) (Named p.name no_subscripts) (as_expression (element p) ∷ []) (omega arith)
                (All-cons (λ (e : Expression). depth_of e ≤ deepest + 1) (as_expression (element p)) [] (omega (arith, shallow)) (All-nil (λ (e : Expression). depth_of e ≤ deepest + 1)));
            canonical = record { guard = refl; left = refl; right = inl (subst (λ ss. made (canonising loops ss) (as_expression (element p)) ≡ as_expression (element p)) (sym symbols) (element_settled loops m.symbols (private_scalars m) apart p)) };
          };
          outside = λ c. all_in (λ (x : Standing). ¬ Contains around x.statement.left.name) (nest_statements m) h.parts.outside st.standing st.inside (subst (λ x. Contains around x) (sym st.target) c);
        }
      where
        source : IsSourceName p.name
        source = let q = declared_in es around deepest m h may m.declarations p own in may.source p.name q.0 q.1

        owned : IsElementFor es fs (IsOwn ls) p → (y : List ℕ) → In y (names_in (as_expression (element p)) ++ (p.name ∷ [])) → IsOwn ls y
        owned f y i = by (In-append y (names_in (as_expression (element p))) (p.name ∷ []) i)
          where
            by : In y (names_in (as_expression (element p))) ⊎ In y (p.name ∷ []) → IsOwn ls y
            by (inl k) = element_own es fs (IsOwn ls) p f y k
            by (inr (inl e)) = λ k small g. absurd (not_counter es around deepest m h may p (in_declared (private_scalars m) m.declarations p own) k (sym e ∙ g))
            by (inr (inr k)) = absurd k

        scalar_there : In p (private_scalars m) → IsScalar fs (Named p.name no_subscripts) p.kind
        scalar_there i = by (declared es p.name) refl (kind_of_private es around deepest m h may p i)
          where
            no_array : ¬ In p.name (arrays (private_scalars m))
            no_array k = let o = In-map (λ (q : Private). q.array) p.name (private_scalars m) k in own_apart es around deepest m h may o.it p o.inside i own (sym o.is)

            scalar : (o : Option Declaration) → IsSomeAnd o (λ (c : Declaration). (c.kind ≡ p.kind) × (c.extent ≡ Given [])) → IsSomeAnd o (λ (c : Declaration). (p.kind ≡ c.kind) × Unit {0})
            scalar None g = absurd g
            scalar (Some c) g = (sym g.0, tt)

            rank : (o : Option Declaration) → IsSomeAnd o (λ (c : Declaration). (c.kind ≡ p.kind) × (c.extent ≡ Given [])) → ◌≡◌ {A = ℕ} (elim o [ None ↦ 0 | Some c ↦ rank_of_extent c.extent ]) 0
            rank None g = absurd g
            rank (Some c) g = ap rank_of_extent g.1

            by : (o : Option Declaration) → declared es p.name ≡ o → IsSomeAnd o (λ (c : Declaration). (c.kind ≡ p.kind) × (c.extent ≡ Given [])) → IsScalar fs (Named p.name no_subscripts) p.kind
            by None e g = absurd g
            by (Some c) e g =
                let there = subst (λ (o : Option Declaration). IsSomeAnd o (λ (c : Declaration). (c.kind ≡ p.kind) × (c.extent ≡ Given []))) (sym (d.kept p.name c no_array e)) g in
                ((scalar (declared fs p.name) there, tt), rank (declared fs p.name) there)
