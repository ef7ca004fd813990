-- The names of private scalars and of their arrays in a prepared nest.
use Rattle.std.proofs.Common.{◌≡◌, ◌⊎◌, inl, inr, refl, sym, ap, ap₂, ◌∙◌, subst, ℕ, ◌+◌, Bool, true, false, not, ◌&&◌, cond, codes, List, [], ◌∷◌, ◌++◌, map, length, length-append, Option, Some, None, Contains, arith}
use Rattle.std.specs.Option.{IsSomeAnd}
use Rattle.std.specs.Prelude.{decimal, nat_le, ◌==◌}
use Rattle.std.specs.List.{list_all}
use Rattle.std.specs.Str.{bytes_eq}
use Rattle.std.proofs.lemmas.Bool.{eq-eqb, eqb-true, le-leb, leb-true}
use Rattle.std.proofs.lemmas.Slice.Eq.{bytes_eq-Decides}
use Rattle.tree.specs.Names.{IsSourceName}
use Rattle.tree.specs.Plain.{Declaration, Expression, Given, Named, Subscripts, no_subscripts, subscript}
use Rattle.tree.specs.declared.ops.Kind.{Kind}
use Rattle.meaning.specs.Typed.{declared, number_of_subscripts, rank_of_extent}
use Rattle.meaning.specs.Typed90.{HasKind, SuitsDimensions}
use Rattle.nest.specs.Bodies.{Standing, nest_statements}
use Rattle.nest.specs.Plain.{Made, Nest}
use Rattle.nest_order.specs.orders.Lists.{In}
use Rattle.nest_order.proofs.orders.Membership.{In-map}
use Rattle.last_values.specs.Occurrences.{stands_in_statement}
use Rattle.last_values.specs.Scalars.{scalar}
use Rattle.last_values.specs.normal_forms.NormalLoops.{counter_name}
use Rattle.pass_laws.proofs.NormalFacts.MadeStatements.{counter_long}
use Rattle.pass_laws.proofs.NormalFacts.Tables.{all_in}
use Rattle.pass_laws.specs.prepared_nests.Made.{IsPreparedMade, extent_for}
use Rattle.pass_laws.specs.prepared_nests.Nests.{IsPrepared, IsPreparedSymbol}
use Rattle.pass_laws.specs.prepared_nests.Statements.{IsPreparedStatement, made_names}
use Rattle.pass_laws.proofs.PreparedNests.Lists.{Contains-In, In-Contains}
use Rattle.scalar_expand.specs.Expanded.{declared_privates, named_private}
use Rattle.scalar_expand.specs.Privates.{expanded_name, declared_kind, is_source, kind_of_scalar, made_kind, kind_if_bare, names_written, number_behind, private_or_none, private_among, private_scalar, private_scalars, round_loop, scalar_kind}
use Rattle.scalar_expand.specs.Stores.{arrays}
use Rattle.scalar_expand.specs.declared.privates.Private.{Private}
use Rattle.scalar_expand.proofs.Changes.{found}
use Rattle.scalar_expand.proofs.PrivateLaws.{first_begins, has_first, in_middle}
use Rattle.scalar_expand.proofs.Theorems.{in_privates}
use Rattle.prepared_passes.specs.expansion.Laws.{MayBeExpanded}

-- ---- lists

cancelled : (xs ys s : List ℕ) → xs ++ s ≡ ys ++ s → xs ≡ ys
cancelled [] [] s e = refl
cancelled [] (y ∷ ys) s e =
    let same : length s ≡ length ((y ∷ ys) ++ s) = ap (λ (zs : List ℕ). length zs) e in
    let more = length-append (y ∷ ys) s in
    absurd (omega (arith, same, more))
cancelled (x ∷ xs) [] s e =
    let same : length ((x ∷ xs) ++ s) ≡ length s = ap (λ (zs : List ℕ). length zs) e in
    let more = length-append (x ∷ xs) s in
    absurd (omega (arith, same, more))
cancelled (x ∷ xs) (y ∷ ys) s e =
    let head : x ≡ y = cc in
    let tail : xs ++ s ≡ ys ++ s = cc in
    ap₂ (λ (z : ℕ) (zs : List ℕ). z ∷ zs) head (cancelled xs ys s tail)

pub front_cancelled : (xs ys zs : List ℕ) → xs ++ ys ≡ xs ++ zs → ys ≡ zs
front_cancelled [] ys zs e = e
front_cancelled (x ∷ xs) ys zs e = let rest : xs ++ ys ≡ xs ++ zs = cc in front_cancelled xs ys zs rest

-- the fourth byte of a name
abbrev pub fourth : List ℕ → ℕ
fourth (a ∷ b ∷ c ∷ d ∷ xs) = d
fourth _ = 0

pub fourth_exp : (x s : List ℕ) → fourth ((codes "FV_EXP_" ++ x) ++ s) ≡ 69
fourth_exp x s = ap (λ (f : List ℕ). fourth ((f ++ x) ++ s)) (let e : codes "FV_EXP_" ≡ 70 ∷ 86 ∷ 95 ∷ 69 ∷ 88 ∷ 80 ∷ 95 ∷ [] = refl in e)

pub fourth_loop : (k : ℕ) → fourth (counter_name k) ≡ 76
fourth_loop k = ap (λ (f : List ℕ). fourth (f ++ decimal k)) (let e : codes "FV_LOOP_" ≡ 70 ∷ 86 ∷ 95 ∷ 76 ∷ 79 ∷ 79 ∷ 80 ∷ 95 ∷ [] = refl in e)

some_same : (p q : Private) → Some p ≡ Some q → p ≡ q
some_same p q e = cc

not_none : (ps : List Private) (p : Private) → In p ps → named_private ps p.name ≡ None → ⊥
not_none [] p i e = i
not_none (q ∷ ps) p (inl f) e = let bad : Some q ≡ None = sym (ap (λ b. cond b (Some q) (named_private ps p.name)) ((bytes_eq-Decides q.name p.name).1 (ap (λ (r : Private). r.name) (sym f)))) ∙ e in cc
not_none (q ∷ ps) p (inr i) e = by (bytes_eq q.name p.name) e (λ f. not_none ps p i f)
  where
    by : (b : Bool) → cond b (Some q) (named_private ps p.name) ≡ None → (named_private ps p.name ≡ None → ⊥) → ⊥
    by true f r = cc
    by false f r = r f

-- ---- names of the source

plain_name : (x : List ℕ) → list_all (λ c. not (c == 95)) x ≡ true → ¬ (In 95 x)
plain_name [] h i = i
plain_name (c ∷ x) h (inl e) = let bad : not (c == 95) ≡ false = ap not (eq-eqb c 95 (sym e)) in no (not (c == 95)) bad h
  where
    no : (b : Bool) → b ≡ false → (b && list_all (λ c. not (c == 95)) x) ≡ true → ⊥
    no true f h = cc
    no false f h = cc
plain_name (c ∷ x) h (inr i) = plain_name x (rest (not (c == 95)) h) i
  where
    rest : (b : Bool) → (b && list_all (λ c. not (c == 95)) x) ≡ true → list_all (λ c. not (c == 95)) x ≡ true
    rest true h = h
    rest false h = cc

all_plain : (x : List ℕ) → ¬ (In 95 x) → list_all (λ c. not (c == 95)) x ≡ true
all_plain [] h = refl
all_plain (c ∷ x) h = by (c == 95) refl (all_plain x (λ i. h (inr i)))
  where
    by : (b : Bool) → (c == 95) ≡ b → list_all (λ c. not (c == 95)) x ≡ true → (not b && list_all (λ c. not (c == 95)) x) ≡ true
    by true e r = absurd (h (inl (sym (eqb-true c 95 e))))
    by false e r = r

pub source_is : (x : List ℕ) → IsSourceName x → is_source x ≡ true
source_is x n = ap₂ (λ a b. a && b) (le-leb (length x) 6 n.within) (all_plain x (λ i. n.plain (In-Contains 95 x i)))

pub is_source_name : (x : List ℕ) → is_source x ≡ true → IsSourceName x
is_source_name x e = by (nat_le (length x) 6) refl e
  where
    by : (b : Bool) → nat_le (length x) 6 ≡ b → (b && list_all (λ c. not (c == 95)) x) ≡ true → IsSourceName x
    by true f g = record { within = leb-true (length x) 6 f; plain = λ c. plain_name x g (Contains-In 95 x c) }
    by false f g = cc

-- an array's name is longer
pub array_long : (x : List ℕ) (n : ℕ) → ¬ IsSourceName ((codes "FV_EXP_" ++ x) ++ number_behind n)
array_long x n h =
    let short = h.within in
    let long = length-append (codes "FV_EXP_" ++ x) (number_behind n) in
    let front = length-append (codes "FV_EXP_") x in
    omega (arith, short, long, front)

-- ---- scalars of the program

kind_scalar : (d : Declaration) (k : Kind) → kind_of_scalar d.extent d.kind ≡ Some k → d.extent ≡ Given []
kind_scalar d k e = by d.extent e
  where
    by : (x : Rattle.tree.specs.Plain.Extent) → kind_of_scalar x d.kind ≡ Some k → x ≡ Given []
    by (Given []) f = refl
    by (Given (b ∷ bs)) f = cc
    by (Rattle.tree.specs.Plain.Later n) f = cc

-- it is declared here as a scalar, or made
pub found_kind : (ds : List Declaration) (other : Option Kind) (x : List ℕ) (k : Kind) → declared_kind ds other x ≡ Some k
    → ((d : Declaration) × (declared ds x ≡ Some d) × (d.extent ≡ Given [])) ⊎ ((declared ds x ≡ None) × (other ≡ Some k))
found_kind [] other x k e = inr (refl, e)
found_kind (d ∷ ds) other x k e = by (bytes_eq d.name x) refl e (λ f. found_kind ds other x k f)
  where
    more : ((c : Declaration) × (declared ds x ≡ Some c) × (c.extent ≡ Given [])) ⊎ ((declared ds x ≡ None) × (other ≡ Some k)) → bytes_eq d.name x ≡ false
        → ((c : Declaration) × (declared (d ∷ ds) x ≡ Some c) × (c.extent ≡ Given [])) ⊎ ((declared (d ∷ ds) x ≡ None) × (other ≡ Some k))
    more (inl (c, f, g)) h = inl (c, ap (λ b. cond b (Some d) (declared ds x)) h ∙ f, g)
    more (inr (f, g)) h = inr (ap (λ b. cond b (Some d) (declared ds x)) h ∙ f, g)

    by : (b : Bool) → bytes_eq d.name x ≡ b → cond b (kind_of_scalar d.extent d.kind) (declared_kind ds other x) ≡ Some k
        → (declared_kind ds other x ≡ Some k → ((c : Declaration) × (declared ds x ≡ Some c) × (c.extent ≡ Given [])) ⊎ ((declared ds x ≡ None) × (other ≡ Some k)))
        → ((c : Declaration) × (declared (d ∷ ds) x ≡ Some c) × (c.extent ≡ Given [])) ⊎ ((declared (d ∷ ds) x ≡ None) × (other ≡ Some k))
    by true h f r = inl (d, ap (λ b. cond b (Some d) (declared ds x)) h, kind_scalar d k f)
    by false h f r = more (r f) h

record IsMadeScalar (as' : List Made) (x : List ℕ) : Type 0 where
  made : Made
  inside : In made as'
  name : made.name ≡ x
  scalar : made.extents ≡ []

found_made : (as' : List Made) (x : List ℕ) (k : Kind) → made_kind as' x ≡ Some k → IsMadeScalar as' x
found_made [] x k e = cc
found_made (a ∷ as') x k e = by (bytes_eq a.name x) refl e (λ f. found_made as' x k f)
  where
    none : (es : List Expression) → kind_if_bare es a.kind ≡ Some k → es ≡ []
    none [] f = refl
    none (y ∷ es) f = cc

    by : (b : Bool) → bytes_eq a.name x ≡ b → cond b (kind_if_bare a.extents a.kind) (made_kind as' x) ≡ Some k → (made_kind as' x ≡ Some k → IsMadeScalar as' x) → IsMadeScalar (a ∷ as') x
    by true h f r = record { made = a; inside = inl refl; name = (bytes_eq-Decides a.name x).0 h; scalar = none a.extents f }
    by false h f r = let m = r f in record { made = m.made; inside = inr m.inside; name = m.name; scalar = m.scalar }

-- a scalar has no subscripts
bare : (es : List Declaration) (x : List ℕ) (qs : Subscripts) (k : Kind) → IsSomeAnd (declared es x) (λ (d : Declaration). d.extent ≡ Given []) → HasKind es (Named x qs) k → qs ≡ no_subscripts
bare es x no_subscripts k d h = refl
bare es x (subscript q qs) k d h = by (declared es x) d h.0
  where
    by : (o : Option Declaration) → IsSomeAnd o (λ (d : Declaration). d.extent ≡ Given []) → IsSomeAnd o (λ (d : Declaration). (k ≡ d.kind) × SuitsDimensions (subscript q qs) (rank_of_extent d.extent))
        → subscript q qs ≡ no_subscripts
    by None d h = absurd d
    by (Some c) d h = let none : 1 + number_of_subscripts qs ≡ 0 = h.1 ∙ ap rank_of_extent d in absurd (omega (arith, none))

module _ (es : List Declaration) (around : List (List ℕ)) (deepest : ℕ) (m : Nest) (h : IsPrepared es around deepest m) (may : MayBeExpanded es m) where
  abbrev ps : List Private
  ps = private_scalars m

  abbrev pub statement_at : (s : Standing) → In s (nest_statements m) → IsPreparedStatement es m deepest s
  statement_at s i = all_in (IsPreparedStatement es m deepest) (nest_statements m) h.parts.statements s i

  -- ---- where a private scalar begins

  pub record Start (p : Private) : Type 0 where
    pub standing : Standing
    pub inside : In standing (nest_statements m)
    pub target : standing.statement.left.name ≡ p.name
    pub stands : stands_in_statement p.name standing.statement ≡ true
    pub loops : p.loops ≡ map round_loop standing.loops
    pub array : p.array ≡ expanded_name m.number p.name
    pub kind : scalar_kind m p.name ≡ Some p.kind

  pub known : (p : Private) → In p (private_scalars m) → private_scalar m p.name ≡ Some p
  known p i = in_privates m (names_written [] (nest_statements m)) p i

  pub start : (p : Private) → In p (private_scalars m) → Start p
  start p i =
      let f = has_first m p.name p (nest_statements m) (known p i) in
      let o = first_begins m p.name p f.before f.standing f.behind (ap (private_among m p.name) (sym f.splits) ∙ known p i) f.none f.stands in
      record {
        standing = f.standing;
        inside = subst (In f.standing) (sym f.splits) (in_middle f.before f.standing f.behind);
        target = o.0.left;
        stands = f.stands;
        loops = o.1.loops;
        array = o.1.array;
        kind = o.1.kind;
      }

  pub one_name : (p q : Private) → In p (private_scalars m) → In q (private_scalars m) → p.name ≡ q.name → p ≡ q
  one_name p q i j e = some_same p q (sym (known p i) ∙ (ap (private_scalar m) e ∙ known q j))

  pub named_is : (p : Private) → In p (private_scalars m) → named_private (private_scalars m) p.name ≡ Some p
  named_is p i = by (named_private ps p.name) refl
    where
      by : (o : Option Private) → named_private (private_scalars m) p.name ≡ o → named_private (private_scalars m) p.name ≡ Some p
      by None e = absurd (not_none (private_scalars m) p i e)
      by (Some r) e = let f = found (private_scalars m) p.name r e in e ∙ ap (λ (q : Private). Some q) (one_name r p f.0 i f.1)

  -- ---- what it isn't

  pub not_symbol : (p : Private) → In p (private_scalars m) → ¬ In p.name m.symbols
  not_symbol p i j =
      let s = start p i in
      (statement_at s.standing s.inside).free (In-Contains s.standing.statement.left.name m.symbols (subst (λ x. In x m.symbols) (sym s.target) j))

  pub made_counts_none : (x : List ℕ) (k : ℕ) → Contains (made_names m) x → ¬ (x ≡ counter_name k)
  made_counts_none x k c e =
      let r = In-map (λ (a : Made). a.name) x m.made (Contains-In x (made_names m) c) in
      (all_in (IsPreparedMade es m.symbols deepest) m.made h.parts.made r.it r.inside).counter k (sym r.is ∙ e)

  pub target_counts_none : (x : List ℕ) (k : ℕ) → IsSourceName x ⊎ Contains (made_names m) x → ¬ (x ≡ counter_name k)
  target_counts_none x k (inl n) e = counter_long x k n.within e
  target_counts_none x k (inr c) e = made_counts_none x k c e

  pub not_counter : (p : Private) → In p (private_scalars m) → (k : ℕ) → ¬ (p.name ≡ counter_name k)
  not_counter p i k e =
      let s = start p i in
      target_counts_none s.standing.statement.left.name k (statement_at s.standing s.inside).target (s.target ∙ e)

  -- ---- arrays

  -- an array of a new name, or in the place of what a pass has made
  abbrev pub Named-so : Private → Type 0
  Named-so p = (IsSourceName p.name × (p.array ≡ (codes "FV_EXP_" ++ p.name) ++ number_behind m.number)) ⊎ ((is_source p.name ≡ false) × (p.array ≡ p.name))

  pub array_is : (p : Private) → In p (private_scalars m) → Named-so p
  array_is p i = by (is_source p.name) refl (start p i).array
    where
      by : (b : Bool) → is_source p.name ≡ b → p.array ≡ cond b ((codes "FV_EXP_" ++ p.name) ++ number_behind m.number) p.name → Named-so p
      by true e f = inl (is_source_name p.name e, f)
      by false e f = inr (e, f)

  array_no_counter : (p : Private) → In p (private_scalars m) → (k : ℕ) → ¬ (p.array ≡ counter_name k)
  array_no_counter p i k e = by (array_is p i)
    where
      by : Named-so p → ⊥
      by (inl (n, f)) = let bad : 69 ≡ 76 = sym (fourth_exp p.name (number_behind m.number)) ∙ (ap fourth (sym f ∙ e) ∙ fourth_loop k) in absurd (omega (arith, bad))
      by (inr (n, f)) = not_counter p i k (sym f ∙ e)

  array_no_symbol : (p : Private) → In p (private_scalars m) → ¬ In p.array m.symbols
  array_no_symbol p i j = by (array_is p i)
    where
      by : Named-so p → ⊥
      by (inl (n, f)) =
          let short = (all_in (IsPreparedSymbol es) m.symbols h.parts.symbols p.array j).name.within in
          let same : length p.array ≡ length ((codes "FV_EXP_" ++ p.name) ++ number_behind m.number) = ap (λ (x : List ℕ). length x) f in
          let long = length-append (codes "FV_EXP_" ++ p.name) (number_behind m.number) in
          let front = length-append (codes "FV_EXP_") p.name in
          omega (arith, short, same, long, front)
      by (inr (n, f)) = not_symbol p i (subst (λ x. In x m.symbols) f j)

  -- a source scalar's array is named as no private scalar
  pub array_fresh : (p q : Private) → In p (private_scalars m) → In q (private_scalars m) → IsSourceName p.name → ¬ (p.array ≡ q.name)
  array_fresh p q i j n e =
      let s = start q j in
      let none = may.fresh p i n s.standing s.inside in
      let bad : true ≡ false = sym s.stands ∙ (ap (λ x. stands_in_statement x s.standing.statement) (sym e) ∙ none) in
      cc

  pub apart : (p q : Private) → In p (private_scalars m) → In q (private_scalars m) → p.array ≡ q.array → p ≡ q
  apart p q i j e = by (array_is p i) (array_is q j)
    where
      by : Named-so p → Named-so q → p ≡ q
      by (inl (n, f)) (inl (o, g)) =
          one_name p q i j (front_cancelled (codes "FV_EXP_") p.name q.name (cancelled (codes "FV_EXP_" ++ p.name) (codes "FV_EXP_" ++ q.name) (number_behind m.number) (sym f ∙ (e ∙ g))))
      by (inl (n, f)) (inr (o, g)) = absurd (array_fresh p q i j n (e ∙ g))
      by (inr (n, f)) (inl (o, g)) = absurd (array_fresh q p j i o (sym e ∙ f))
      by (inr (n, f)) (inr (o, g)) = one_name p q i j (sym f ∙ (e ∙ g))

  -- ---- names that are none of these

  -- neither private nor an array's
  abbrev pub Is-apart : List ℕ → Type 0
  Is-apart z = (named_private (private_scalars m) z ≡ None) × (¬ In z (arrays (private_scalars m)))

  no_private : (z : List ℕ) → ((p : Private) → In p (private_scalars m) → ¬ (p.name ≡ z)) → named_private (private_scalars m) z ≡ None
  no_private z none = by (named_private ps z) refl
    where
      by : (o : Option Private) → named_private (private_scalars m) z ≡ o → named_private (private_scalars m) z ≡ None
      by None e = e
      by (Some p) e = let f = found (private_scalars m) z p e in absurd (none p f.0 f.1)

  no_array : (z : List ℕ) → ((p : Private) → In p (private_scalars m) → ¬ (p.array ≡ z)) → ¬ In z (arrays (private_scalars m))
  no_array z none i = let o = In-map (λ (p : Private). p.array) z (private_scalars m) i in none o.it o.inside (sym o.is)

  pub counter_apart : (z : List ℕ) (k : ℕ) → z ≡ counter_name k → Is-apart z
  counter_apart z k e = (no_private z (λ p i f. not_counter p i k (f ∙ e)), no_array z (λ p i f. array_no_counter p i k (f ∙ e)))

  pub symbol_apart : (z : List ℕ) → In z m.symbols → Is-apart z
  symbol_apart z j = (
    no_private z (λ p i f. not_symbol p i (subst (λ x. In x m.symbols) (sym f) j)),
    no_array z (λ p i f. array_no_symbol p i (subst (λ x. In x m.symbols) (sym f) j)),
  )

  pub symbol_no_counter : (z : List ℕ) (k : ℕ) → In z m.symbols → ¬ (z ≡ counter_name k)
  symbol_no_counter z k j e = counter_long z k (all_in (IsPreparedSymbol es) m.symbols h.parts.symbols z j).name.within e

  -- what stands in a statement and isn't private is no array
  pub unnamed : (s : Standing) → In s (nest_statements m) → (z : List ℕ) → stands_in_statement z s.statement ≡ true → named_private (private_scalars m) z ≡ None → ¬ In z (arrays (private_scalars m))
  unnamed s j z st none = no_array z each
    where
      each : (p : Private) → In p (private_scalars m) → ¬ (p.array ≡ z)
      each p i e = by (array_is p i)
        where
          by : Named-so p → ⊥
          by (inl (n, f)) = let bad : true ≡ false = sym st ∙ (ap (λ x. stands_in_statement x s.statement) (sym e) ∙ may.fresh p i n s j) in cc
          by (inr (n, f)) = let bad : Some p ≡ None = sym (named_is p i) ∙ (ap (named_private (private_scalars m)) (sym f ∙ e) ∙ none) in cc

  -- ---- scalars

  pub is_scalar : (p : Private) → In p (private_scalars m) → IsSomeAnd (declared es p.name) (λ (d : Declaration). d.extent ≡ Given [])
  is_scalar p i = by (found_kind m.declarations (made_kind m.made p.name) p.name p.kind (start p i).kind)
    where
      of_made : IsMadeScalar m.made p.name → IsSomeAnd (declared es p.name) (λ (d : Declaration). d.extent ≡ Given [])
      of_made r = subst (λ x. IsSomeAnd (declared es x) (λ (d : Declaration). d.extent ≡ Given [])) r.name (one (declared es r.made.name) (all_in (IsPreparedMade es m.symbols deepest) m.made h.parts.made r.made r.inside).declaration)
        where
          one : (o : Option Declaration) → IsSomeAnd o (λ (d : Declaration). (d.kind ≡ r.made.kind) × (d.extent ≡ extent_for r.made.extents)) → IsSomeAnd o (λ (d : Declaration). d.extent ≡ Given [])
          one None g = absurd g
          one (Some d) g = g.1 ∙ ap extent_for r.scalar

      by : ((d : Declaration) × (declared m.declarations p.name ≡ Some d) × (d.extent ≡ Given [])) ⊎ ((declared m.declarations p.name ≡ None) × (made_kind m.made p.name ≡ Some p.kind))
          → IsSomeAnd (declared es p.name) (λ (d : Declaration). d.extent ≡ Given [])
      by (inl (d, f, g)) = subst (λ (o : Option Declaration). IsSomeAnd o (λ (d : Declaration). d.extent ≡ Given [])) (sym (may.among p.name d f)) g
      by (inr (f, g)) = of_made (found_made m.made p.name p.kind g)

  pub whole : (s : Standing) → In s (nest_statements m) → (p : Private) → named_private (private_scalars m) s.statement.left.name ≡ Some p → s.statement.left ≡ scalar s.statement.left.name
  whole s j p e =
      let f = found (private_scalars m) s.statement.left.name p e in
      let d = subst (λ x. IsSomeAnd (declared es x) (λ (d : Declaration). d.extent ≡ Given [])) f.1 (is_scalar p f.0) in
      let st = statement_at s j in
      ap (λ (qs : Subscripts). (let r : Rattle.tree.specs.Plain.Reference = record { name = s.statement.left.name; subscripts = qs } in r)) (bare es s.statement.left.name s.statement.left.subscripts st.kind d st.left.0)

  -- ---- those that the program declares

  pub declared_in : (ds : List Declaration) (q : Private) → In q (declared_privates (private_scalars m) ds) → (d : Declaration) × (declared ds q.name ≡ Some d)
  declared_in [] q i = absurd i
  declared_in (d ∷ ds) q i = by (named_private ps d.name) refl i (λ j. declared_in ds q j)
    where
      more : (b : Bool) → bytes_eq d.name q.name ≡ b → (c : Declaration) × (declared ds q.name ≡ Some c) → (c : Declaration) × (declared (d ∷ ds) q.name ≡ Some c)
      more true e r = (d, ap (λ b. cond b (Some d) (declared ds q.name)) e)
      more false e r = (r.0, ap (λ b. cond b (Some d) (declared ds q.name)) e ∙ r.1)

      by : (o : Option Private) → named_private (private_scalars m) d.name ≡ o → In q (private_or_none o ++ declared_privates (private_scalars m) ds)
          → (In q (declared_privates (private_scalars m) ds) → (c : Declaration) × (declared ds q.name ≡ Some c)) → (c : Declaration) × (declared (d ∷ ds) q.name ≡ Some c)
      by None e j r = more (bytes_eq d.name q.name) refl (r j)
      by (Some p) e (inl f) r =
          let g = found (private_scalars m) d.name p e in
          (d, ap (λ b. cond b (Some d) (declared ds q.name)) ((bytes_eq-Decides d.name q.name).1 (sym g.1 ∙ ap (λ (r : Private). r.name) (sym f))))
      by (Some p) e (inr j) r = more (bytes_eq d.name q.name) refl (r j)

  pub own_apart : (p q : Private) → In p (private_scalars m) → In q (private_scalars m) → In q (declared_privates (private_scalars m) m.declarations) → ¬ (p.array ≡ q.name)
  own_apart p q i j own e = by (array_is p i)
    where
      by : Named-so p → ⊥
      by (inl (n, f)) = array_fresh p q i j n e
      by (inr (n, f)) =
          let d = declared_in m.declarations q own in
          let bad : true ≡ false = sym (source_is q.name (may.source q.name d.0 d.1)) ∙ (ap is_source (sym e ∙ f) ∙ n) in
          cc

  -- no name of the source is that of an array
  pub source_no_array : (y : List ℕ) → IsSourceName y → ¬ In y (arrays (private_scalars m))
  source_no_array y source i =
      let o = In-map (λ (p : Private). p.array) y (private_scalars m) i in
      by o.it o.is (array_is o.it o.inside)
    where
      by : (p : Private) → y ≡ p.array → Named-so p → ⊥
      by p is (inl (n, f)) = array_long p.name m.number (subst IsSourceName (is ∙ f) source)
      by p is (inr (n, f)) = let no : true ≡ false = sym (source_is y source) ∙ (ap is_source (is ∙ f) ∙ n) in cc
