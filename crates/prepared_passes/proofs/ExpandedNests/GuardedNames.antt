-- Which names of an expanded nest's statements were made: those of elements, and those of scalars that stay.
use Rattle.std.proofs.Common.{◌≡◌, ◌⊎◌, inl, inr, refl, sym, ap, ◌∙◌, subst, ℕ, true, List, [], ◌∷◌, ◌++◌, Option, Some, None, IfSome}
use Rattle.std.specs.Option.{IsSomeAnd}
use Rattle.tree.specs.Plain.{Apply, Binary, Constructor, Declaration, Expression, Expressions, Given, Logic, Named, Number, Only, Reduce, Reference, Reshape, Section, Spread, Subscripts, Transpose, Unary, expression, no_expressions, no_subscripts, subscript}
use Rattle.tree.specs.declared.ops.Kind.TheVariants.{Logical}
use Rattle.last_values.specs.Occurrences.{stands_in_statement}
use Rattle.last_values.specs.normal_forms.NormalLoops.{counter_name}
use Rattle.meaning.specs.Reads.{names_in, names_in_each, names_in_subscripts}
use Rattle.meaning.specs.Typed.{declared}
use Rattle.meaning.specs.Typed90.{IsScalar}
use Rattle.meaning.specs.Value.{named}
use Rattle.nest.specs.Bodies.{Standing, nest_statements}
use Rattle.nest.specs.Plain.{Guarded, Loop, Made, Nest}
use Rattle.nest_order.proofs.orders.Lists.{In-append, In-left, In-right}
use Rattle.nest_order.proofs.orders.Membership.{In-map}
use Rattle.nest_order.specs.orders.Lists.{In}
use Rattle.nest_order.specs.runs.Guarded.{names_of_guard}
use Rattle.nest_order.specs.runs.Touched.{ArePlain, EachIsPlain, IsPlain, IsPlainGuard, touched_in, references_in_each, touched_in_guard, touched_in_subscripts}
use Rattle.pass_laws.proofs.NormalFacts.Tables.{all_in}
use Rattle.pass_laws.proofs.PreparedNests.Ready.{round_statement}
use Rattle.pass_laws.proofs.PreparedNests.Walks.{Follow}
use Rattle.pass_laws.specs.prepared_nests.Loops.{IsPreparedLoop}
use Rattle.pass_laws.specs.prepared_nests.Nests.{IsPrepared}
use Rattle.pass_laws.specs.prepared_nests.Statements.{IsPreparedStatement}
use Rattle.scalar_expand.proofs.Changes.{array_in, found}
use Rattle.scalar_expand.proofs.PrivateLaws.{in_guard, in_left, in_right}
use Rattle.scalar_expand.specs.Expanded.{made_before, made_now, named_private}
use Rattle.scalar_expand.specs.Privates.{private_scalars, round_loop}
use Rattle.scalar_expand.specs.Stores.{arrays}
use Rattle.scalar_expand.specs.declared.privates.Private.{Private}
use Rattle.scalar_expand.specs.declared.privates.RoundLoop.{RoundLoop}
use Rattle.prepared_passes.specs.expansion.Laws.{MayBeExpanded}
use Rattle.prepared_passes.proofs.ExpandedNests.MadeArrays.{IsOfPrivate, made_is}
use Rattle.prepared_passes.proofs.ExpandedNests.Names.{is_scalar, start, unnamed}
use Rattle.prepared_passes.proofs.ExpandedNests.References.{IsNamedAs, Suits, all_of, each_suits, read_by, scalar_has_none}

-- ---- names of references

either : {A B C : Type 0} → (A → C) → (B → C) → A ⊎ B → C
either f g (inl x) = f x
either f g (inr y) = g y

mutual
  pub name_in : (e : Expression) → IsPlain e → (r : Reference) → In r (touched_in e) → In r.name (names_in e)
  name_in (Number n) plain r i = absurd i
  name_in (Logic b) plain r i = absurd i
  name_in (Named x qs) plain r (inl e) = inl (ap (λ (q : Reference). q.name) e)
  name_in (Named x qs) plain r (inr j) = inr (name_in_subscripts qs plain r j)
  name_in (Unary o a) plain r i = name_in a plain r i
  name_in (Binary o a b) plain r i =
      either (λ j. In-left r.name (names_in a) (names_in b) (name_in a plain.0 r j)) (λ j. In-right r.name (names_in a) (names_in b) (name_in b plain.1 r j))
      (In-append r (touched_in a) (touched_in b) i)
  name_in (Apply f es) plain r i = name_in_each es plain r i
  name_in (Constructor es ls) plain r i = absurd plain
  name_in (Spread a d n) plain r i = absurd plain
  name_in (Transpose a) plain r i = absurd plain
  name_in (Reshape a es) plain r i = absurd plain
  name_in (Reduce o a) plain r i = absurd plain

  pub name_in_each : (es : Expressions) → EachIsPlain es → (r : Reference) → In r (references_in_each es) → In r.name (names_in_each es)
  name_in_each no_expressions plain r i = absurd i
  name_in_each (expression e es) plain r i =
      either (λ j. In-left r.name (names_in e) (names_in_each es) (name_in e plain.0 r j)) (λ j. In-right r.name (names_in e) (names_in_each es) (name_in_each es plain.1 r j))
      (In-append r (touched_in e) (references_in_each es) i)

  pub name_in_subscripts : (qs : Subscripts) → ArePlain qs → (r : Reference) → In r (touched_in_subscripts qs) → In r.name (names_in_subscripts qs)
  name_in_subscripts no_subscripts plain r i = absurd i
  name_in_subscripts (subscript (Only e) qs) plain r i =
      either (λ j. In-left r.name (names_in e) (names_in_subscripts qs) (name_in e plain.0 r j)) (λ j. In-right r.name (names_in e) (names_in_subscripts qs) (name_in_subscripts qs plain.1 r j))
      (In-append r (touched_in e) (touched_in_subscripts qs) i)
  name_in_subscripts (subscript (Section a b c) qs) plain r i = absurd plain.0

-- ---- statements

-- what stands where in a statement
parted : (ps : List Private) (g : Guarded) (r : Reference) → In r (all_of ps g)
    → In r (touched_in_guard g.guard) ⊎ In r (touched_in (named g.left)) ⊎ In r (touched_in g.right)
parted ps g r i =
    either (λ j. inl j) (λ j. inr (In-append r (touched_in (named g.left)) (touched_in g.right) j))
    (In-append r (touched_in_guard g.guard) (touched_in (named g.left) ++ touched_in g.right) i)

pub stands : (ps : List Private) (g : Guarded) → IsPlainGuard g.guard → IsPlain g.right → ArePlain g.left.subscripts → (r : Reference) → In r (all_of ps g)
    → stands_in_statement r.name g ≡ true
stands ps g guard right left r i = by (parted ps g r i)
  where
    in_condition : (o : Option Expression) → IsPlainGuard o → In r (touched_in_guard o) → In r.name (names_of_guard o)
    in_condition None plain j = absurd j
    in_condition (Some e) plain j = name_in e plain r j

    by : In r (touched_in_guard g.guard) ⊎ In r (touched_in (named g.left)) ⊎ In r (touched_in g.right) → stands_in_statement r.name g ≡ true
    by (inl j) = in_guard g r.name (in_condition g.guard guard j)
    by (inr (inl j)) = in_left g r.name (name_in (named g.left) left r j)
    by (inr (inr j)) = in_right g r.name (name_in g.right right r j)

-- all that is read, and the left side, are references of the statement
pub read_in_all : (ps : List Private) (g : Guarded) (r : Reference) → In r (g.left ∷ read_by ps g) → In r (all_of ps g)
read_in_all ps g r (inl e) =
    In-right r (touched_in_guard g.guard) (touched_in (named g.left) ++ touched_in g.right)
    (In-left r (touched_in (named g.left)) (touched_in g.right) (inl e))
read_in_all ps g r (inr i) = by (In-append r (touched_in_guard g.guard) (touched_in_subscripts g.left.subscripts ++ touched_in g.right) i)
  where
    rest : In r (touched_in_subscripts g.left.subscripts) ⊎ In r (touched_in g.right) → In r (touched_in (named g.left) ++ touched_in g.right)
    rest (inl j) = In-left r (touched_in (named g.left)) (touched_in g.right) (inr j)
    rest (inr j) = In-right r (touched_in (named g.left)) (touched_in g.right) j

    by : In r (touched_in_guard g.guard) ⊎ In r (touched_in_subscripts g.left.subscripts ++ touched_in g.right) → In r (all_of ps g)
    by (inl j) = In-left r (touched_in_guard g.guard) (touched_in (named g.left) ++ touched_in g.right) j
    by (inr j) =
        In-right r (touched_in_guard g.guard) (touched_in (named g.left) ++ touched_in g.right)
        (rest (In-append r (touched_in_subscripts g.left.subscripts) (touched_in g.right) j))

pub all_suit : (ps : List Private) (es : List Declaration) (m : Nest) (deepest : ℕ) (y : Standing) → IsPreparedStatement es m deepest y → (r : Reference)
    → In r (all_of ps y.statement) → Suits es r
all_suit ps es m deepest y st r i = by (parted ps y.statement r i)
  where
    in_condition : (o : Option Expression) → IsPlainGuard o → IfSome o (λ (e : Expression). IsScalar es e Logical) → In r (touched_in_guard o) → Suits es r
    in_condition None plain h j = absurd j
    in_condition (Some e) plain h j = each_suits es e Logical plain h.0 r j

    by : In r (touched_in_guard y.statement.guard) ⊎ In r (touched_in (named y.statement.left)) ⊎ In r (touched_in y.statement.right) → Suits es r
    by (inl j) = in_condition y.statement.guard st.plain.0 st.guard j
    by (inr (inl j)) = each_suits es (named y.statement.left) st.kind st.plain.2 st.left.0 r j
    by (inr (inr j)) = each_suits es y.statement.right st.kind st.plain.1 st.right.0 r j

-- ---- loops

in_follow : (Asked : List Loop → Loop → Type 0) (before ls : List Loop) → Follow Asked before ls → (o : Loop) → In o ls → (round : List Loop) × Asked round o
in_follow Asked before [] h o i = absurd i
in_follow Asked before (l ∷ ls) h o (inl e) = (before, subst (Asked before) (sym e) h.0)
in_follow Asked before (l ∷ ls) h o (inr i) = in_follow Asked (before ++ l ∷ []) ls h.1 o i

module _ (es : List Declaration) (around : List (List ℕ)) (deepest : ℕ) (m : Nest) (h : IsPrepared es around deepest m) (may : MayBeExpanded es m) where
  -- a loop round a private scalar counts by the name that its number gives
  pub counts_by : (q : Private) → In q (private_scalars m) → (l : RoundLoop) → In l q.loops → (k : ℕ) × (l.variable ≡ counter_name k)
  counts_by q i l j =
      let s = start es around deepest m h may q i in
      let o = In-map round_loop l s.standing.loops (subst (In l) s.loops j) in
      let r = in_follow (IsPreparedLoop es m.symbols) [] s.standing.loops (round_statement es around deepest m h s.standing s.inside).follow o.it o.inside in
      (o.it.number, ap (λ (k : RoundLoop). k.variable) o.is ∙ r.1.variable)

  -- what a name in a statement was made as is a scalar that stays
  pub names_scalar : (z : Standing) → In z (nest_statements m) → (r : Reference) → IsNamedAs (private_scalars m) (all_of (private_scalars m) z.statement) r → (c : Made)
      → In c (made_before m.symbols (private_scalars m) m.made ++ made_now m.symbols (private_scalars m)) → c.name ≡ r.name
      → In c m.made × (named_private (private_scalars m) c.name ≡ None)
  names_scalar z i r n c j same = by (made_is m.symbols (private_scalars m) (λ y q e. (found (private_scalars m) y q e).0) m.made c j)
    where
      st : IsPreparedStatement es m deepest z
      st = all_in (IsPreparedStatement es m deepest) (nest_statements m) h.parts.statements z i

      here : stands_in_statement r.name z.statement ≡ true
      here = subst (λ y. stands_in_statement y z.statement ≡ true) n.name (stands (private_scalars m) z.statement st.plain.0 st.plain.1 st.plain.2 n.first n.inside)

      none : named_private (private_scalars m) r.name ≡ None
      none = on (named_private (private_scalars m) r.name) refl
        where
          on : (o : Option Private) → named_private (private_scalars m) r.name ≡ o → named_private (private_scalars m) r.name ≡ None
          on None e = e
          on (Some t) e =
              let f = found (private_scalars m) r.name t e in
              let scalar = subst (λ y. IsSomeAnd (declared es y) (λ (d : Declaration). d.extent ≡ Given [])) (f.1 ∙ sym n.name) (is_scalar es around deepest m h may t f.0) in
              n.other (scalar_has_none es n.first scalar (all_suit (private_scalars m) es m deepest z st n.first n.inside))

      by : (In c m.made × (named_private (private_scalars m) c.name ≡ None)) ⊎ IsOfPrivate m.symbols (private_scalars m) c
          → In c m.made × (named_private (private_scalars m) c.name ≡ None)
      by (inl k) = k
      by (inr (q, k, e)) =
          let array : q.array ≡ r.name = sym (ap (λ (a : Made). a.name) e) ∙ same in
          absurd (unnamed es around deepest m h may z i r.name here none (subst (λ y. In y (arrays (private_scalars m))) array (array_in (private_scalars m) q k)))
