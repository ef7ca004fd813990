-- What is known of each name says whether the names of a tree are known.
use Rattle.std.proofs.Common.{◌≡◌, ◌⊎◌, inl, inr, ℕ, ◌+◌, ◌==◌, Bool, true, false, not, ◌&&◌, ◌||◌, refl, sym, ap, ◌∙◌}
use Rattle.std.proofs.Common.{subst, arith, Option, None, Some, Decides, List, is_some}
use Rattle.std.proofs.lemmas.Bool.{ne_eqb}
use Rattle.std.proofs.lemmas.Bool.Decides.{Decides-eqb, Decides-and, Decides-or}
use Rattle.tree.specs.Plain.{Expression, Number, Logic, Named, Unary, Binary, Apply, Constructor, Spread, Transpose}
use Rattle.tree.specs.Plain.{Reshape, Reduce}
use Rattle.tree.specs.Plain.{Expressions, no_expressions, expression, Subscript, Only, Section, Subscripts}
use Rattle.tree.specs.Plain.{no_subscripts, subscript, Loops, no_loops, loop, Reference, Declaration}
use Rattle.tree.specs.Plain.{Item, Single, Constant, ImpliedDo, Items, no_items, item}
use Rattle.tree.specs.Functions.{intrinsic_named}
use Rattle.meaning.specs.Typed.{number_of_subscripts, declared, rank_of_extent}
use Rattle.f90_grammar.specs.Items.{Direction, Input, Output}
use Rattle.f90_grammar.specs.Reading.{function_by}
use Rattle.f90_grammar.specs.Declared.{IsKnown, use90_of}
use Rattle.f90_names.specs.declared.kinds.declarations.names.Declared.{Declared}
use Rattle.f90_names.specs.kinds.declarations.Names.{Tells}
use Rattle.f90_names.specs.kinds.Known.{KnowsNames, KnowsAll, KnowsSubscripts, KnowsSubscript, KnowsLoops, KnowsReference}
use Rattle.f90_names.specs.kinds.Known.{KnowsSingle, KnowsItem, KnowsItems}
use Rattle.f90_names.specs.kinds.FoundNames.{is_known, is_known_or_function, knows, knows_all, knows_subscripts}
use Rattle.f90_names.specs.kinds.FoundNames.{knows_subscript, knows_loops, knows_reference, knows_single, knows_item}
use Rattle.f90_names.specs.kinds.FoundNames.{knows_items}
use Rattle.f90_names.proofs.kinds.KnownLaws.{FitsUse, function_undeclared, function_declared}

counted : (n r s : ℕ) → r ≡ s → Decides (n == 0 || n == r) ((n ≡ 0) ⊎ (n ≡ s))
counted n r s e = subst (λ i. Decides (n == 0 || n == r) ((n ≡ 0) ⊎ (n ≡ i))) e
    (Decides-or (n == 0) (n == r) (Decides-eqb n 0) (Decides-eqb n r))

known-is : (o : Option Declared) (d : Option Declaration) (n : ℕ) → Tells o d → Decides (is_known o n) (FitsUse d n)
known-is None None n t = (λ e. absurd (cc), λ h. absurd h)
known-is None (Some d) n t = absurd t
known-is (Some k) None n t = absurd t
known-is (Some k) (Some d) n t = counted n k.rank (rank_of_extent d.extent) t.rank

one_more : (n : ℕ) → (1 + n == 0) ≡ false
one_more n = ne_eqb (1 + n) 0 (λ e. absurd (omega arith))

none_alone : (o : Option Declared) (x : List ℕ) → is_known_or_function o x 0 ≡ is_known o 0
none_alone None x = refl
none_alone (Some k) x = refl

module _ (ds : List Declaration) (known : List ℕ → Option Declared)
    (tells : (x : List ℕ) → Tells (known x) (declared ds x)) where
  pub name-known : (x : List ℕ) (n : ℕ) → Decides (is_known (known x) n) (IsKnown ds (use90_of x n))
  name-known x n = known-is (known x) (declared ds x) n (tells x)

  -- with subscripts
  listed-known : (x : List ℕ) (m : ℕ) → Decides (is_known_or_function (known x) x (1 + m))
      ((is_some (function_by ds x) ≡ true) ⊎ IsKnown ds (use90_of x (1 + m)))
  listed-known x m = by (known x) (declared ds x) (tells x) (function_undeclared ds x) (function_declared ds x)
    where
      by : (o : Option Declared) (d : Option Declaration) → Tells o d
          → (d ≡ None → function_by ds x ≡ intrinsic_named x)
          → ((e : Declaration) → d ≡ Some e → function_by ds x ≡ None)
          → Decides (is_known_or_function o x (1 + m)) ((is_some (function_by ds x) ≡ true) ⊎ FitsUse d (1 + m))
      by None None t u v = (
        λ e. inl (ap is_some (u refl) ∙ sym (ap (λ (b : Bool). not b && is_some (intrinsic_named x)) (one_more m)) ∙ e),
        λ h. elim h [
          | inl i ↦ ap (λ (b : Bool). not b && is_some (intrinsic_named x)) (one_more m)
              ∙ sym (ap is_some (u refl)) ∙ i
          | inr i ↦ absurd i
        ],
      )
      by None (Some d) t u v = absurd t
      by (Some k) None t u v = absurd t
      by (Some k) (Some d) t u v =
          let c = counted (1 + m) k.rank (rank_of_extent d.extent) t.rank in
          (λ e. inr (c.0 e), λ h. elim h [ inl i ↦ absurd (let j = ap is_some (v d refl) in cc) | inr i ↦ c.1 i ])

  three : (a b c : Expression) → Decides (knows known a) (KnowsNames ds a) → Decides (knows known b) (KnowsNames ds b)
      → Decides (knows known c) (KnowsNames ds c)
      → Decides (knows known a && (knows known b && knows known c))
      (KnowsNames ds a × KnowsNames ds b × KnowsNames ds c)
  three a b c f g h =
      let d = Decides-and (knows known a) (knows known b && knows known c) f
      (Decides-and (knows known b) (knows known c) g h) in
      (λ e. let k = d.0 e in (k.0, k.1.0, k.1.1), λ k. d.1 (k.0, (k.1, k.2)))

  mutual
    pub names-known : (e : Expression) → Decides (knows known e) (KnowsNames ds e)
    names-known (Number n) = (λ e. tt, λ h. refl)
    names-known (Logic b) = (λ e. tt, λ h. refl)
    names-known (Named x no_subscripts) =
        let d = Decides-and (is_known_or_function (known x) x 0) true
        (subst (λ b. Decides b (IsKnown ds (use90_of x 0))) (sym (none_alone (known x) x)) (name-known x 0))
        (subscripts-known no_subscripts) in
        (λ e. (d.0 e).0, λ h. d.1 (h, tt))
    names-known (Named x (subscript p ps)) =
        Decides-and (is_known_or_function (known x) x (1 + number_of_subscripts ps))
        (knows_subscripts known (subscript p ps)) (listed-known x (number_of_subscripts ps))
        (subscripts-known (subscript p ps))
    names-known (Unary o a) = names-known a
    names-known (Binary o a b) = Decides-and (knows known a) (knows known b) (names-known a) (names-known b)
    names-known (Apply f es) = all-known es
    names-known (Constructor es ls) = Decides-and (knows_all known es) (knows_loops known ls) (all-known es)
        (loops-known ls)
    names-known (Spread a d n) = Decides-and (knows known a) (knows known n) (names-known a) (names-known n)
    names-known (Transpose a) = names-known a
    names-known (Reshape a es) = Decides-and (knows known a) (knows_all known es) (names-known a) (all-known es)
    names-known (Reduce r a) = names-known a

    pub all-known : (es : Expressions) → Decides (knows_all known es) (KnowsAll ds es)
    all-known no_expressions = (λ e. tt, λ h. refl)
    all-known (expression e es) = Decides-and (knows known e) (knows_all known es) (names-known e) (all-known es)

    subscripts-known : (ps : Subscripts) → Decides (knows_subscripts known ps) (KnowsSubscripts ds ps)
    subscripts-known no_subscripts = (λ e. tt, λ h. refl)
    subscripts-known (subscript p ps) = Decides-and (knows_subscript known p) (knows_subscripts known ps)
        (subscript-known p) (subscripts-known ps)

    subscript-known : (p : Subscript) → Decides (knows_subscript known p) (KnowsSubscript ds p)
    subscript-known (Only e) = names-known e
    subscript-known (Section a b c) = three a b c (names-known a) (names-known b) (names-known c)

    loops-known : (ls : Loops) → Decides (knows_loops known ls) (KnowsLoops ds ls)
    loops-known no_loops = (λ e. tt, λ h. refl)
    loops-known (loop x a b ls) =
        let d = Decides-and (is_known (known x) 0 && (knows known a && knows known b)) (knows_loops known ls)
        (Decides-and (is_known (known x) 0) (knows known a && knows known b) (name-known x 0)
        (Decides-and (knows known a) (knows known b) (names-known a) (names-known b))) (loops-known ls) in
        (λ e. let h = d.0 e in (h.0.0, h.0.1.0, h.0.1.1, h.1), λ h. d.1 ((h.0, (h.1, h.2)), h.3))

  pub reference-is_known : (r : Reference) → Decides (knows_reference known r) (KnowsReference ds r)
  reference-is_known r =
      Decides-and (is_known (known r.name) (number_of_subscripts r.subscripts)) (knows_subscripts known r.subscripts)
      (name-known r.name (number_of_subscripts r.subscripts)) (subscripts-known r.subscripts)

  refused : Decides false ⊥
  refused = (λ e. absurd (cc), λ h. absurd h)

  single-is_known : (d : Direction) (e : Expression) → Decides (knows_single known d e) (KnowsSingle ds d e)
  single-is_known Output e = names-known e
  single-is_known Input (Named x ps) = reference-is_known (record { name = x; subscripts = ps })
  single-is_known Input (Number n) = refused
  single-is_known Input (Logic b) = refused
  single-is_known Input (Unary o a) = refused
  single-is_known Input (Binary o a b) = refused
  single-is_known Input (Apply f es) = refused
  single-is_known Input (Constructor es ls) = refused
  single-is_known Input (Spread a d n) = refused
  single-is_known Input (Transpose a) = refused
  single-is_known Input (Reshape a es) = refused
  single-is_known Input (Reduce r a) = refused

  mutual
    item-known : (d : Direction) (i : Item) → Decides (knows_item known d i) (KnowsItem ds d i)
    item-known d (Single e) = single-is_known d e
    item-known d (Constant t) = (λ e. tt, λ h. refl)
    item-known d (ImpliedDo is x a b c) =
        let f = Decides-and (knows_items known d is) (knows known a && (knows known b && knows known c))
        (items-known d is) (Decides-and (knows known a) (knows known b && knows known c) (names-known a)
        (Decides-and (knows known b) (knows known c) (names-known b) (names-known c))) in
        (λ e. let k = f.0 e in (k.0, k.1.0, k.1.1.0, k.1.1.1), λ k. f.1 (k.0, (k.1, (k.2, k.3))))

    pub items-known : (d : Direction) (is : Items) → Decides (knows_items known d is) (KnowsItems ds d is)
    items-known d no_items = (λ e. tt, λ h. refl)
    items-known d (item i is) = Decides-and (knows_item known d i) (knows_items known d is) (item-known d i)
        (items-known d is)
