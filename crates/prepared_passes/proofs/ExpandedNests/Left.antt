-- No private scalar is left as a scalar in the expanded nest but in its copies.
use Rattle.std.proofs.Common.{◌≡◌, ◌⊎◌, inl, inr, refl, sym, ap, ◌∙◌, subst, ℕ, pos, false, All, List, [], ◌∷◌, ◌++◌, map, reverse, length, Option, Some, None, arith}
use Rattle.std.specs.Option.{option_map}
use Rattle.last_values.specs.Scalars.{scalar}
use Rattle.meaning.specs.Typed.{number_of_subscripts}
use Rattle.meaning.specs.Value.{named}
use Rattle.nest.specs.Bodies.{Standing, nest_loops, nest_statements, statements_in, statements_in_parts}
use Rattle.nest.specs.Plain.{Choice, Guarded, Jump, Label, Loop, Nest, Part, Parts, Run, Turns, no_parts, part}
use Rattle.nest_order.proofs.orders.Lists.{In-append, In-left}
use Rattle.nest_order.specs.orders.Lists.{In}
use Rattle.nest_order.specs.runs.Touched.{ArePlain as ArePlainSubscripts, EachIsPlain, IsPlain as IsPlainExpression, IsPlainGuard, touched_in, references_in_each, touched_in_guard, touched_in_subscripts}
use Rattle.nest_order.specs.shapes.Shapes.{ArePlain, IsPlain}
use Rattle.nest_rewrite.specs.Statements.{rewritten_statement}
use Rattle.pass_laws.proofs.NormalFacts.Tables.{all_in}
use Rattle.pass_laws.specs.prepared_nests.Nests.{IsPrepared}
use Rattle.pass_laws.specs.prepared_nests.Statements.{IsPreparedStatement}
use Rattle.rewrite.specs.Making.{made, made_expressions, made_left, made_subscripts}
use Rattle.tree.specs.Plain.{Apply, Binary, Constructor, Declaration, Expression, Expressions, Logic, Named, Number, Only, Reduce, Reference, Reshape, Section, Spread, Subscript, Subscripts, Transpose}
use Rattle.tree.specs.Plain.{Unary, expression, no_expressions, no_subscripts, subscript, subscripts}
use Rattle.scalar_expand.specs.Expanded.{as_expression, copied, element, element_or, expanded, expanding, has_known_end, named_private, loop_subscript}
use Rattle.scalar_expand.specs.Laws.{own_of}
use Rattle.scalar_expand.specs.Numbers.{ends_of, limits_of, trip_at}
use Rattle.scalar_expand.specs.Privates.{private_scalars, round_loop}
use Rattle.scalar_expand.specs.declared.privates.Private.{Private}
use Rattle.scalar_expand.specs.declared.privates.RoundLoop.{RoundLoop}
use Rattle.scalar_expand.proofs.Changes.{found}
use Rattle.scalar_expand.proofs.Theorems.{in_declared, nest_flow}
use Rattle.prepared_passes.specs.expansion.Laws.{MayBeExpanded, counters_of, value_among}
use Rattle.prepared_passes.specs.expansion.Left.{ExpandedNestHasNoPrivateScalars, IsCopyOf, references_touched}
use Rattle.prepared_passes.proofs.ExpandedNests.Bodies.{part_is}
use Rattle.prepared_passes.proofs.ExpandedNests.Elements.{as_many}
use Rattle.prepared_passes.proofs.ExpandedNests.Expandable.{prepared_nest_is_expandable}
use Rattle.prepared_passes.proofs.ExpandedNests.Names.{named_is, not_counter, one_name}
use Rattle.prepared_passes.proofs.ExpandedNests.References.{variables_onto}
use Rattle.prepared_passes.proofs.ExpandedNests.Round.{begins, counter_of, round_loop_is}
use Rattle.prepared_passes.proofs.ExpandedNests.Standings.{body_is}
use Rattle.tree.specs.Widths.{bits_of}
use Rattle.tree.specs.declared.width.Width.TheVariants.{Plain}

-- ---- a loop round a part stands round its statements

mutual
  stays_round : (o : Loop) (ls : List Loop) (q : Part) → IsPlain q → In o ls → (s : Standing) → In s (statements_in ls q) → In o s.loops
  stays_round o ls (Run g) plain i s (inl e) = subst (λ (x : Standing). In o x.loops) (sym e) i
  stays_round o ls (Run g) plain i s (inr j) = absurd j
  stays_round o ls (Turns l qs) plain i s j = stay_round o (ls ++ l ∷ []) qs plain.1 (In-left o ls (l ∷ []) i) s j
  stays_round o ls (Choice bs qs) plain i s j = absurd plain
  stays_round o ls (Label k) plain i s j = absurd plain
  stays_round o ls (Jump k) plain i s j = absurd plain

  stay_round : (o : Loop) (ls : List Loop) (qs : Parts) → ArePlain qs → In o ls → (s : Standing) → In s (statements_in_parts ls qs) → In o s.loops
  stay_round o ls no_parts plain i s j = absurd j
  stay_round o ls (part q qs) plain i s j = by (In-append s (statements_in ls q) (statements_in_parts ls qs) j) (λ k. stays_round o ls q plain.0 i s k) (λ k. stay_round o ls qs plain.1 i s k)
    where
      by : In s (statements_in ls q) ⊎ In s (statements_in_parts ls qs) → (In s (statements_in ls q) → In o s.loops) → (In s (statements_in_parts ls qs) → In o s.loops) → In o s.loops
      by (inl k) f g = f k
      by (inr k) f g = g k

-- ---- where scalars have become elements

module _ (ps : List Private) (x : List ℕ) (is_one : ¬ (named_private ps x ≡ None)) (looped : (q : Private) → In q ps → ¬ (q.loops ≡ []))
    (apart : (q : Private) → In q ps → (l : RoundLoop) → In l q.loops → ¬ (x ≡ l.variable)) where
  no_loops : (ls : List RoundLoop) → length ls ≡ 0 → ls ≡ []
  no_loops [] e = refl
  no_loops (l ∷ ls) e = absurd (omega (arith, e))

  name_same : (r q : Reference) → r ≡ q → r.name ≡ q.name
  name_same r q e = ap (λ (y : Reference). y.name) e

  no_element : (q : Private) → In q ps → ¬ In (scalar x) (touched_in (as_expression (element q)))
  no_element q i (inl e) =
      let many : number_of_subscripts (subscripts (reverse (map loop_subscript q.loops))) ≡ length q.loops = as_many loop_subscript q.loops in
      let none : 0 ≡ number_of_subscripts (subscripts (reverse (map loop_subscript q.loops))) = ap (λ (r : Reference). number_of_subscripts r.subscripts) e in
      looped q i (no_loops q.loops (sym many ∙ sym none))
  no_element q i (inr j) = by (variables_onto ps q.loops [] (scalar x) j)
    where
      by : ((l : RoundLoop) × In l q.loops × (x ≡ l.variable)) ⊎ In (scalar x) (touched_in_subscripts (subscripts [])) → ⊥
      by (inl r) = apart q i r.0 r.1 r.2
      by (inr k) = absurd k

  in_neither : (rs us : List Reference) (r : Reference) → ¬ In r rs → ¬ In r us → ¬ In r (rs ++ us)
  in_neither rs us r f g i = by (In-append r rs us i)
    where
      by : In r rs ⊎ In r us → ⊥
      by (inl j) = f j
      by (inr j) = g j

  no_subscript : (y : List ℕ) (s : Subscript) (ss : Subscripts) → ¬ (scalar x ≡ record { name = y; subscripts = subscript s ss })
  no_subscript y s ss e =
      let none : 0 ≡ number_of_subscripts (subscript s ss) = ap (λ (r : Reference). number_of_subscripts r.subscripts) e in
      absurd (omega (arith, none))

  mutual
    not_in : (e : Expression) → IsPlainExpression e → ¬ In (scalar x) (touched_in (made (expanding ps) e))
    not_in (Number n) plain i = i
    not_in (Logic b) plain i = i
    not_in (Named y no_subscripts) plain i = by (named_private ps y) refl i
      where
        by : (o : Option Private) → named_private ps y ≡ o → In (scalar x) (touched_in (as_expression (element_or o (record { name = y; subscripts = no_subscripts })))) → ⊥
        by None e (inl f) = is_one (ap (named_private ps) (name_same (scalar x) (record { name = y; subscripts = no_subscripts }) f) ∙ e)
        by None e (inr j) = j
        by (Some q) e j = no_element q (found ps y q e).0 j
    not_in (Named y (subscript (Only a) qs)) plain (inl f) = no_subscript y (Only (made (expanding ps) a)) (made_subscripts (expanding ps) qs) f
    not_in (Named y (subscript (Only a) qs)) plain (inr j) = not_in_subscripts (subscript (Only a) qs) plain j
    not_in (Named y (subscript (Section a b c) qs)) plain i = absurd plain.0
    not_in (Unary o a) plain i = not_in a plain i
    not_in (Binary o a b) plain i = in_neither (touched_in (made (expanding ps) a)) (touched_in (made (expanding ps) b)) (scalar x) (λ j. not_in a plain.0 j) (λ j. not_in b plain.1 j) i
    not_in (Apply f es) plain i = not_in_each es plain i
    not_in (Constructor es ls) plain i = absurd plain
    not_in (Spread a d n) plain i = absurd plain
    not_in (Transpose a) plain i = absurd plain
    not_in (Reshape a es) plain i = absurd plain
    not_in (Reduce r a) plain i = absurd plain

    not_in_each : (es : Expressions) → EachIsPlain es → ¬ In (scalar x) (references_in_each (made_expressions (expanding ps) es))
    not_in_each no_expressions plain i = i
    not_in_each (expression e es) plain i =
        in_neither (touched_in (made (expanding ps) e)) (references_in_each (made_expressions (expanding ps) es)) (scalar x) (λ j. not_in e plain.0 j) (λ j. not_in_each es plain.1 j) i

    not_in_subscripts : (qs : Subscripts) → ArePlainSubscripts qs → ¬ In (scalar x) (touched_in_subscripts (made_subscripts (expanding ps) qs))
    not_in_subscripts no_subscripts plain i = i
    not_in_subscripts (subscript (Only e) qs) plain i =
        in_neither (touched_in (made (expanding ps) e)) (touched_in_subscripts (made_subscripts (expanding ps) qs)) (scalar x) (λ j. not_in e plain.0 j) (λ j. not_in_subscripts qs plain.1 j) i
    not_in_subscripts (subscript (Section a b c) qs) plain i = absurd plain.0

  not_in_guard : (o : Option Expression) → IsPlainGuard o → ¬ In (scalar x) (touched_in_guard (option_map (made (expanding ps)) o))
  not_in_guard None plain i = i
  not_in_guard (Some e) plain i = not_in e plain i

  -- a left side becomes what it would as an expression
  left_stands : (y : List ℕ) (qs : Subscripts)
      → (scalar x ≡ made_left (expanding ps) (record { name = y; subscripts = qs })) ⊎ In (scalar x) (touched_in_subscripts (made_left (expanding ps) (record { name = y; subscripts = qs })).subscripts)
      → In (scalar x) (touched_in (made (expanding ps) (Named y qs)))
  left_stands y no_subscripts (inl e) = inl e
  left_stands y no_subscripts (inr j) = inr j
  left_stands y (subscript q qs) (inl e) = inl e
  left_stands y (subscript q qs) (inr j) = inr j

  not_left : (g : Guarded) → IsPlainGuard g.guard → ArePlainSubscripts g.left.subscripts → IsPlainExpression g.right
      → ¬ In (scalar x) (references_touched (rewritten_statement (expanding ps) g))
  not_left g guard left right (inl e) = not_in (named g.left) left (left_stands g.left.name g.left.subscripts (inl e))
  not_left g guard left right (inr i) =
      in_neither (touched_in_guard (option_map (made (expanding ps)) g.guard)) (touched_in_subscripts (made_left (expanding ps) g.left).subscripts ++ touched_in (made (expanding ps) g.right)) (scalar x)
      (λ j. not_in_guard g.guard guard j)
      (in_neither (touched_in_subscripts (made_left (expanding ps) g.left).subscripts) (touched_in (made (expanding ps) g.right)) (scalar x)
      (λ j. not_in (named g.left) left (left_stands g.left.name g.left.subscripts (inr j))) (λ j. not_in g.right right j)) i

-- ---- the nest

module _ (es : List Declaration) (around : List (List ℕ)) (deepest : ℕ) (m : Nest) (loop : Loop) (body : Parts) (h : IsPrepared es around deepest m) (turns : m.body ≡ Turns loop body) (may : MayBeExpanded es m)
    (p : Private) (i : In p (private_scalars m)) where
  has_loops : (q : Private) → In q (private_scalars m) → ¬ (q.loops ≡ [])
  has_loops q j none =
      let b = begins es around deepest m h may q j in
      let inside : In b.0 (statements_in_parts (loop ∷ []) body) = subst (λ (z : Part). In b.0 (statements_in [] z)) turns b.1 in
      let plain : IsPlain (Turns loop body) = subst IsPlain turns h.plain in
      empty b.0.loops (sym b.2.loops ∙ none) (stay_round loop (loop ∷ []) body plain.1 (inl refl) b.0 inside)
    where
      empty : (ls : List Loop) → map round_loop ls ≡ [] → In loop ls → ⊥
      empty [] e k = k
      empty (l ∷ ls) e k = cc

  counts_none : (q : Private) → In q (private_scalars m) → (l : RoundLoop) → In l q.loops → ¬ (p.name ≡ l.variable)
  counts_none q j l k e =
      let o = round_loop_is es around deepest m h may q j l k in
      let c = counter_of es around deepest m h may o.0 o.1 in
      not_counter es around deepest m h may p i o.0.number (e ∙ (ap (λ (z : RoundLoop). z.variable) o.2 ∙ c.0))

  is_private : ¬ (named_private (private_scalars m) p.name ≡ None)
  is_private e = let bad : ◌≡◌ {A = Option Private} (Some p) None = sym (named_is es around deepest m h may p i) ∙ e in cc

  abbrev IsLeft : Standing → Type 0
  IsLeft s = In (scalar p.name) (references_touched s.statement) → IsCopyOf m p s

  rewritten : (s : Standing) → In s (nest_statements m) → IsLeft (record { loops = s.loops; statement = rewritten_statement (expanding (private_scalars m)) s.statement })
  rewritten s j k =
      let st = all_in (IsPreparedStatement es m deepest) (nest_statements m) h.parts.statements s j in
      absurd (not_left (private_scalars m) p.name is_private has_loops counts_none s.statement st.plain.0 st.plain.2 st.plain.1 k)

  a_copy : (ls : List Loop) → ((o : Loop) → In o ls → In o (nest_loops m)) → (q : Private) → In q (own_of m) → has_known_end q ≡ false → q.loops ≡ map round_loop ls
      → IsLeft (record { loops = ls; statement = copied m.line q })
  a_copy ls inside q own known same k = by (its k)
    where
      j : In q (private_scalars m)
      j = in_declared (private_scalars m) m.declarations q own

      its : In (scalar p.name) (references_touched (copied m.line q)) → p.name ≡ q.name
      its (inl e) = ap (λ (r : Reference). r.name) e
      its (inr o) = absurd (no_element (private_scalars m) p.name is_private has_loops counts_none q j o)

      by : p.name ≡ q.name → IsCopyOf m p (record { loops = ls; statement = copied m.line q })
      by e =
          let is = one_name es around deepest m h may p q i j e in
          record {
            statement = ap (copied m.line) (sym is);
            loops = sym same ∙ ap (λ (r : Private). r.loops) (sym is);
            unknown = ap has_known_end is ∙ known;
          }

  each_left : (s : Standing) → In s (nest_statements (expanded m)) → IsLeft s
  each_left s j =
      let f = nest_flow (bits_of Plain) m (limits_of (length m.symbols) (λ k. pos 0) (pos 1)) (ends_of (length m.symbols) (λ k. pos 0)) (counters_of m) (value_among m.symbols 0 (λ k. pos 0)) (trip_at (length m.symbols) (λ k. pos 0))
      (prepared_nest_is_expandable (bits_of Plain) es around deepest m loop body (λ k. pos 0) h turns may) in
      all_in IsLeft (nest_statements (expanded m))
      (subst (λ (ss : List Standing). All IsLeft ss) (sym (body_is m))
      (part_is m (λ z. In z (counters_of m)) (bits_of Plain) (value_among m.symbols 0 (λ k. pos 0)) (trip_at (length m.symbols) (λ k. pos 0)) IsLeft rewritten a_copy
      [] m.body [] [] f.0 f.1 h.plain (λ x y. y) (λ o y. absurd y) (λ o y. y) f.2)) s j

pub expanded_nest_has_no_private_scalars : ExpandedNestHasNoPrivateScalars
expanded_nest_has_no_private_scalars es around deepest m loop body h turns may p i s j = each_left es around deepest m loop body h turns may p i s j
