-- What is found of the parts of a statement says whether they suit.
use Rattle.std.proofs.Common.{◌≡◌, ◌⊎◌, inl, inr, ℕ, ◌+◌, ◌≤◌, ◌==◌, Bool, true, false, ◌&&◌, ◌||◌, refl, sym, ap, ◌∙◌}
use Rattle.std.proofs.Common.{subst, arith, Option, None, Some, Decides, nat_le, List}
use Rattle.std.proofs.lemmas.Bool.Decides.{Decides-eqb, Decides-and, Decides-or}
use Rattle.std.specs.Option.{IsSomeAnd}
use Rattle.tree.specs.Plain.{Expression, Number, Logic, Named, Unary, Binary, Apply, Constructor, Spread, Transpose}
use Rattle.tree.specs.Plain.{Reshape, Reduce}
use Rattle.tree.specs.Plain.{Expressions, Subscripts, no_subscripts, subscript, Declaration, Reference, Extent}
use Rattle.tree.specs.Plain.{Given, Later, Item, Single, Constant, ImpliedDo, Items, no_items, item}
use Rattle.tree.specs.declared.ops.Kind.{Kind}
use Rattle.tree.specs.declared.ops.Kind.TheVariants.{Integer, Logical}
use Rattle.meaning.specs.Value.{named}
use Rattle.meaning.specs.Typed.{number_of_arguments, number_of_subscripts, rank_of_extent, declared}
use Rattle.meaning.specs.Typed90.{SuitsDimensions, rank_of, rank_of_subscripts, IsIntegerScalar, IsScalar, HasKind}
use Rattle.meaning.specs.Extents.{IsAllocatable}
use Rattle.f90_grammar.specs.Items.{Direction, Input, Output}
use Rattle.f90_grammar.specs.Suited.{SuitsAssignment, SuitsMask, AreNumbers, SuitsList, SuitsItem, SuitsItems}
use Rattle.f90_grammar.specs.Suited.{SuitsAllocation}
use Rattle.f90_names.specs.declared.kinds.declarations.names.Declared.{Declared}
use Rattle.f90_names.specs.kinds.declarations.Names.{Tells}
use Rattle.f90_names.specs.declared.kinds.nodes.Ranked.{Ranked}
use Rattle.f90_names.specs.kinds.Found.{ranked, same_kind, is_scalar, kind_in, is_some_kind, suits_sides, suits_mask}
use Rattle.f90_names.specs.kinds.Found.{mask_and_sides, allocates, is_single, is_later_of, is_later, are_numbers, suits_alone}
use Rattle.f90_names.specs.kinds.Found.{suits_item, suits_items, are_scalars, is_integer_scalar}
use Rattle.f90_names.proofs.kinds.Exact.{Exact, none_some, Decides-leb, Decides-found, Decides-rank, Decides-scalar, found_is}
use Rattle.f90_names.proofs.kinds.Exact.{found_has}
use Rattle.f90_names.proofs.kinds.KindLaws.{kind-is, scalars-are, integer-is}

-- the one kind of a variable is the kind that is declared
declared_kind : (ds : List Declaration) (x : List ℕ) (ps : Subscripts) (k : Kind) → HasKind ds (Named x ps) k
    → IsSomeAnd (declared ds x) (λ (d : Declaration). k ≡ d.kind)
declared_kind ds x ps k h = by (declared ds x) h.0
  where
    by : (o : Option Declaration) → IsSomeAnd o (λ (d : Declaration). (k ≡ d.kind)
        × SuitsDimensions ps (rank_of_extent d.extent)) → IsSomeAnd o (λ (d : Declaration). k ≡ d.kind)
    by None h = h
    by (Some d) h = h.0

-- what suits by the declared kind suits by the kind of the left side
at_kind : (o : Option Declaration) (k : Kind) (P : Kind → Type 0) → IsSomeAnd o (λ (d : Declaration). k ≡ d.kind) → P k
    → IsSomeAnd o (λ (d : Declaration). P d.kind)
at_kind None k P h p = h
at_kind (Some d) k P h p = subst P h p

some_kind : (o : Option Declaration) (P : Kind → Type 0) → IsSomeAnd o (λ (d : Declaration). P d.kind) → (k : Kind)
    × P k
some_kind None P h = absurd h
some_kind (Some d) P h = (d.kind, h)

sides-are : (P Q : Kind → Type 0) (m n : ℕ) (x y : Option Ranked) → Exact P m x → Exact Q n y
    → Decides (suits_sides x y) ((k : Kind) × (P k × Q k) × ((n ≡ 0) ⊎ (n ≡ m)))
sides-are P Q m n None y f g = (λ e. absurd (cc), λ h. absurd (none_some (ranked h.0 m) (f.whole h.0 h.1.0)))
sides-are P Q m n (Some l) None f g = (λ e. absurd (cc), λ h. absurd (none_some (ranked h.0 n) (g.whole h.0 h.1.1)))
sides-are P Q m n (Some l) (Some r) f g = (
  λ e. let h = d.0 e in
      (l.kind, (found_has P m l l.kind f refl, h.0), h.1),
  λ h. d.1
      (subst Q (sym (found_is P m l h.0 f h.1.0)) h.1.1, h.2),
)
  where
    d : Decides (same_kind r.kind l.kind && (r.rank == 0 || r.rank == l.rank)) (Q l.kind × ((n ≡ 0) ⊎ (n ≡ m)))
    d = Decides-and (same_kind r.kind l.kind) (r.rank == 0 || r.rank == l.rank) (Decides-found Q n r l.kind g)
        (Decides-rank P m l (r.rank == 0 || r.rank == l.rank) (λ i. (n ≡ 0) ⊎ (n ≡ i)) f
        (Decides-rank Q n r (r.rank == 0 || r.rank == l.rank) (λ i. (i ≡ 0) ⊎ (i ≡ l.rank)) g
        (Decides-or (r.rank == 0) (r.rank == l.rank) (Decides-eqb r.rank 0) (Decides-eqb r.rank l.rank))))

mask-is : (P Q : Kind → Type 0) (m n : ℕ) (x y : Option Ranked) (k : Kind) → Exact P m x → Exact Q n y → Q k
    → Decides (suits_mask x y) (P Logical × (1 ≤ n) × (m ≡ n))
mask-is P Q m n None y k f g q = (λ e. absurd (cc), λ h. absurd (none_some (ranked Logical m) (f.whole Logical h.0)))
mask-is P Q m n (Some a) None k f g q = absurd (none_some (ranked k n) (g.whole k q))
mask-is P Q m n (Some a) (Some l) k f g q = (λ e. let h = d.0 e in (h.0, h.1.0, h.1.1), λ h. d.1 (h.0, (h.1, h.2)))
  where
    d : Decides (same_kind a.kind Logical && (nat_le 1 l.rank && a.rank == l.rank)) (P Logical × ((1 ≤ n) × (m ≡ n)))
    d = Decides-and (same_kind a.kind Logical) (nat_le 1 l.rank && a.rank == l.rank) (Decides-found P m a Logical f)
        (Decides-and (nat_le 1 l.rank) (a.rank == l.rank) (Decides-rank Q n l (nat_le 1 l.rank) (λ i. 1 ≤ i) g
        (Decides-leb 1 l.rank))
        (Decides-rank P m a (a.rank == l.rank) (λ i. i ≡ n) f
        (Decides-rank Q n l (a.rank == l.rank) (λ i. a.rank ≡ i) g (Decides-eqb a.rank l.rank))))

any-is : (P : Kind → Type 0) (m : ℕ) (x : Option Ranked) → Exact P m x
    → Decides (is_some_kind x) (P Integer ⊎ P Logical)
any-is P m None f = (
  λ e. absurd (cc),
  λ h. elim h [
    | inl p ↦ absurd (none_some (ranked Integer m) (f.whole Integer p))
    | inr p ↦ absurd (none_some (ranked Logical m) (f.whole Logical p))
  ],
)
any-is P m (Some a) f = (λ e. by a.kind (found_has P m a a.kind f refl), λ h. refl)
  where
    by : (k : Kind) → P k → P Integer ⊎ P Logical
    by Integer p = inl p
    by Logical p = inr p

single-is : (P : Kind → Type 0) (m : ℕ) (x : Option Ranked) (n : ℕ) → Exact P m x
    → Decides (is_single n x) ((P Integer ⊎ P Logical) × ((n ≡ 0) ⊎ (m ≡ 0)))
single-is P m None n f = (λ e. absurd (cc), λ h. absurd (let e = (any-is P m None f).1 h.0 in cc))
single-is P m (Some a) n f =
    let some = (any-is P m (Some a) f).0 refl in
    let d = Decides-or (n == 0) (a.rank == 0) (Decides-eqb n 0)
    (Decides-rank P m a (a.rank == 0) (λ i. i ≡ 0) f (Decides-eqb a.rank 0)) in
    (λ e. (some, d.0 e), λ h. d.1 h.1)

later-is : (o : Option Declared) (d : Option Declaration) → Tells o d
    → Decides (is_later o) (IsSomeAnd d (λ (e : Declaration). IsAllocatable e.extent))
later-is None None t = (λ e. absurd (cc), λ h. absurd h)
later-is None (Some d) t = absurd t
later-is (Some k) None t = absurd t
later-is (Some k) (Some d) t = by d.extent k.is_allocatable t.allocatable
  where
    by : (x : Extent) (b : Bool) → b ≡ elim x [ Given bs ↦ false | Later n ↦ true ] → Decides b (IsAllocatable x)
    by (Given bs) b e = (λ f. absurd (cc), λ h. absurd h)
    by (Later n) b e = (λ f. tt, λ h. e)

later_of-is : (o : Option Declared) (d : Option Declaration) (n : ℕ) → Tells o d
    → Decides (is_later_of o n) (IsSomeAnd d (λ (e : Declaration). e.extent ≡ Later n))
later_of-is None None n t = (λ e. absurd (cc), λ h. absurd h)
later_of-is None (Some d) n t = absurd t
later_of-is (Some k) None n t = absurd t
later_of-is (Some k) (Some d) n t = by d.extent k.is_allocatable k.rank t.allocatable t.rank
  where
    by : (x : Extent) (b : Bool) (r : ℕ) → b ≡ elim x [ Given bs ↦ false | Later n ↦ true ] → r ≡ rank_of_extent x
        → Decides (b && r == n) (x ≡ Later n)
    by (Given bs) true r e f = absurd (cc)
    by (Given bs) false r e f = (λ g. absurd (cc), λ h. absurd (cc))
    by (Later m) true r e f = (
      λ g. let s = (Decides-eqb r n).0 g in ap Later (sym f ∙ s),
      λ h. let s : m ≡ n = cc in
          (Decides-eqb r n).1 (f ∙ s),
    )
    by (Later m) false r e f = absurd (cc)

module _ (ds : List Declaration) (known : List ℕ → Option Declared)
    (tells : (x : List ℕ) → Tells (known x) (declared ds x)) where
  pub assignment-is : (left : Reference) (right : Expression)
      → Decides (suits_sides (kind_in known (named left)) (kind_in known right)) (SuitsAssignment ds left right)
  assignment-is left right = (
    λ e. let h = d.0 e in (
      at_kind (declared ds left.name) h.0 (λ k. HasKind ds (named left) k × HasKind ds right k)
          (declared_kind ds left.name left.subscripts h.0 h.1.0) h.1,
      h.2,
    ),
    λ h. let k = some_kind (declared ds left.name) (λ k. HasKind ds (named left) k × HasKind ds right k) h.0 in
        d.1 (k.0, k.1, h.1),
  )
    where
      d : Decides (suits_sides (kind_in known (named left)) (kind_in known right))
          ((k : Kind) × (HasKind ds (named left) k × HasKind ds right k)
          × ((rank_of ds right ≡ 0) ⊎ (rank_of ds right ≡ rank_of ds (named left))))
      d = sides-are (HasKind ds (named left)) (HasKind ds right) (rank_of ds (named left)) (rank_of ds right)
          (kind_in known (named left)) (kind_in known right) (kind-is ds known tells (named left))
          (kind-is ds known tells right)

  -- of a left side that suits
  pub mask_for-is : (mask : Expression) (left : Reference) (right : Expression) → SuitsAssignment ds left right
      → Decides (suits_mask (kind_in known mask) (kind_in known (named left))) (SuitsMask ds mask left)
  mask_for-is mask left right h =
      let k = some_kind (declared ds left.name) (λ k. HasKind ds (named left) k × HasKind ds right k) h.0 in
      mask-is (HasKind ds mask) (HasKind ds (named left)) (rank_of ds mask) (rank_of ds (named left))
      (kind_in known mask) (kind_in known (named left)) k.0 (kind-is ds known tells mask)
      (kind-is ds known tells (named left)) k.1.0

  pub masked-is : (mask : Expression) (left : Reference) (right : Expression)
      → Decides (mask_and_sides (kind_in known mask) (kind_in known (named left)) (kind_in known right))
      (SuitsMask ds mask left × SuitsAssignment ds left right)
  masked-is mask left right = both (suits_mask (kind_in known mask) (kind_in known (named left)))
      (suits_sides (kind_in known (named left)) (kind_in known right)) (assignment-is left right)
      (mask_for-is mask left right)
    where
      both : (m s : Bool) → Decides s (SuitsAssignment ds left right)
          → (SuitsAssignment ds left right → Decides m (SuitsMask ds mask left))
          → Decides (m && s) (SuitsMask ds mask left × SuitsAssignment ds left right)
      both true s d f = (λ e. ((f (d.0 e)).0 refl, d.0 e), λ h. d.1 h.1)
      both false s d f = (λ e. absurd (cc), λ h. absurd (let e = (f h.1).1 h.0 in cc))

  pub scalar-is : (e : Expression) (k : Kind) → Decides (is_scalar (kind_in known e) k) (IsScalar ds e k)
  scalar-is e k = Decides-scalar (HasKind ds e) (rank_of ds e) (kind_in known e) k (kind-is ds known tells e)

  pub numbers-are : (a b c : Expression) → Decides (are_numbers known a b c) (AreNumbers ds a b c)
  numbers-are a b c =
      let d = Decides-and (is_scalar (kind_in known a) Integer)
      (is_scalar (kind_in known b) Integer && is_scalar (kind_in known c) Integer) (scalar-is a Integer)
      (Decides-and (is_scalar (kind_in known b) Integer) (is_scalar (kind_in known c) Integer) (scalar-is b Integer)
      (scalar-is c Integer)) in
      (λ e. let h = d.0 e in (h.0, h.1.0, h.1.1), λ h. d.1 (h.0, (h.1, h.2)))

  refused : (e : Expression) → Decides false ⊥
  refused e = (λ h. absurd (cc), λ h. absurd h)

  pub alone-suits : (d : Direction) (e : Expression) → Decides (suits_alone known d e) (SuitsList ds d e)
  alone-suits Output e = any-is (HasKind ds e) (rank_of ds e) (kind_in known e) (kind-is ds known tells e)
  alone-suits Input (Named x no_subscripts) =
      let d = single-is (HasKind ds (Named x no_subscripts)) (rank_of ds (Named x no_subscripts))
      (kind_in known (Named x no_subscripts)) 0 (kind-is ds known tells (Named x no_subscripts)) in
      (λ e. ((d.0 e).0, refl), λ h. d.1 (h.0, inl refl))
  alone-suits Input (Named x (subscript p ps)) =
      let n : ℕ = number_of_subscripts (subscript p ps) in
      let d = single-is (HasKind ds (Named x (subscript p ps))) (rank_of_subscripts ds (subscript p ps))
      (kind_in known (Named x (subscript p ps))) n (kind-is ds known tells (Named x (subscript p ps))) in (
        λ e. ((d.0 e).0, elim (d.0 e).1 [ inl z ↦ absurd (none_counted (number_of_subscripts ps) z) | inr z ↦ z ]),
        λ h.
            d.1 (h.0, inr h.1),
      )
    where
      none_counted : (m : ℕ) → 1 + m ≡ 0 → ⊥
      none_counted m e = absurd (omega arith)
  alone-suits Input (Number n) = refused (Number n)
  alone-suits Input (Logic b) = refused (Logic b)
  alone-suits Input (Unary o a) = refused (Unary o a)
  alone-suits Input (Binary o a b) = refused (Binary o a b)
  alone-suits Input (Apply f es) = refused (Apply f es)
  alone-suits Input (Constructor es ls) = refused (Constructor es ls)
  alone-suits Input (Spread a d n) = refused (Spread a d n)
  alone-suits Input (Transpose a) = refused (Transpose a)
  alone-suits Input (Reshape a es) = refused (Reshape a es)
  alone-suits Input (Reduce r a) = refused (Reduce r a)

  mutual
    pub item-suits : (d : Direction) (i : Item) → Decides (suits_item known d i) (SuitsItem ds d i)
    item-suits d (Single e) = alone-suits d e
    item-suits d (Constant t) = (λ e. tt, λ h. refl)
    item-suits d (ImpliedDo is x a b c) = Decides-and (suits_items known d is) (are_numbers known a b c)
        (items-suit d is) (numbers-are a b c)

    pub items-suit : (d : Direction) (is : Items) → Decides (suits_items known d is) (SuitsItems ds d is)
    items-suit d no_items = (λ e. tt, λ h. refl)
    items-suit d (item i is) = Decides-and (suits_item known d i) (suits_items known d is) (item-suits d i)
        (items-suit d is)

  pub allocation-is : (x : List ℕ) (es : Expressions) → Decides (allocates known x es) (SuitsAllocation ds x es)
  allocation-is x es =
      Decides-and (is_later_of (known x) (number_of_arguments es)) (are_scalars known Integer es)
      (later_of-is (known x) (declared ds x) (number_of_arguments es) (tells x))
      (scalars-are ds known tells Integer es)

  pub deallocation-is : (x : List ℕ) → Decides (is_later (known x))
      (IsSomeAnd (declared ds x) (λ (d : Declaration). IsAllocatable d.extent))
  deallocation-is x = later-is (known x) (declared ds x) (tells x)

  pub integer_scalar-is : (x : List ℕ) → Decides (is_integer_scalar (known x)) (IsIntegerScalar ds x)
  integer_scalar-is x = integer-is (known x) (declared ds x) (tells x)
