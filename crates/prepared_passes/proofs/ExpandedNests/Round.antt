-- The loops round the statements in which private scalars stand, and the kinds of these.
use Rattle.std.proofs.Common.{◌≡◌, ◌⊎◌, inl, inr, refl, sym, ap, ◌∙◌, subst, ℕ, suc, ◌+◌, ◌≤◌, Bool, true, false, cond, List, [], ◌∷◌, ◌++◌, map, length, Option, Some, None, arith}
use Rattle.std.specs.Option.{IsSomeAnd}
use Rattle.std.specs.Str.{bytes_eq}
use Rattle.std.proofs.lemmas.List.{length-append, length-map, length-reverse}
use Rattle.std.proofs.lemmas.Slice.Eq.{bytes_eq-Decides}
use Rattle.last_values.specs.Occurrences.{stands_in_statement}
use Rattle.last_values.specs.normal_forms.NormalLoops.{counter_name}
use Rattle.last_values.specs.normal_forms.Steps.{◌>>=◌}
use Rattle.meaning.specs.Typed.{declared, rank_of_extent}
use Rattle.nest.specs.Bodies.{Standing, nest_loops, nest_statements}
use Rattle.nest.specs.Plain.{Loop, Made, Nest}
use Rattle.nest.specs.declared.parts.Trip.{Trip}
use Rattle.nest_order.specs.orders.Lists.{In}
use Rattle.nest_order.proofs.orders.Membership.{In-map}
use Rattle.pass_laws.proofs.NormalFacts.MadeStatements.{counter_same}
use Rattle.pass_laws.proofs.NormalFacts.Tables.{all_in, each_asked}
use Rattle.pass_laws.specs.normal_facts.Laws.{IsCounter}
use Rattle.pass_laws.specs.prepared_nests.Loops.{IsPreparedLoop}
use Rattle.pass_laws.specs.prepared_nests.Made.{IsPreparedMade, extent_for}
use Rattle.pass_laws.specs.prepared_nests.Nests.{IsPrepared}
use Rattle.pass_laws.specs.prepared_nests.Statements.{IsOwn}
use Rattle.pass_laws.proofs.PreparedNests.Lists.{In-Contains, within_32}
use Rattle.pass_laws.proofs.PreparedNests.Walks.{walked}
use Rattle.nest_order.specs.shapes.Shapes as shapes
use Rattle.tree.specs.Plain.{Declaration, Expression, Extent, Given, Later}
use Rattle.tree.specs.declared.ops.Kind.{Kind}
use Rattle.scalar_expand.specs.Expanded.{array_of}
use Rattle.scalar_expand.specs.Extents.{extent_under, extents_under}
use Rattle.scalar_expand.specs.Privates.{declared_kind, kind_if_bare, kind_of_scalar, made_kind, private_among, private_scalars, round_loop, trips_of}
use Rattle.scalar_expand.specs.Texts.{made_extent_text, extent_texts, texts_with}
use Rattle.scalar_expand.specs.declared.privates.Private.{Private}
use Rattle.scalar_expand.specs.declared.privates.RoundLoop.{RoundLoop}
use Rattle.scalar_expand.proofs.Changes.{array_in}
use Rattle.scalar_expand.proofs.Covers.{extents_found}
use Rattle.scalar_expand.proofs.PrivateLaws.{Over, Stands, StandsInNone, first_begins, further_stays, has_first, in_middle, numbers_of, numbers_round}
use Rattle.prepared_passes.specs.expansion.Laws.{MayBeExpanded}
use Rattle.prepared_passes.specs.expansion.Prepared.{AreDeclaredFor}
use Rattle.prepared_passes.proofs.ExpandedNests.Names.{counter_apart, known, start}
use Rattle.prepared_passes.proofs.ExpandedNests.Walks.{round_in}

-- ---- lists

record Splits (s : Standing) (xs : List Standing) : Type 0 where
  before : List Standing
  behind : List Standing
  is : xs ≡ before ++ s ∷ behind

splits : (s : Standing) (xs : List Standing) → In s xs → Splits s xs
splits s [] i = absurd i
splits s (x ∷ xs) (inl e) = record { before = []; behind = xs; is = ap (λ (y : Standing). y ∷ xs) (sym e) }
splits s (x ∷ xs) (inr i) = let r = splits s xs i in record { before = x ∷ r.before; behind = r.behind; is = ap (λ ys. x ∷ ys) r.is }

decide : (x : List ℕ) (ss : List Standing) → StandsInNone x ss ⊎ ((b : Standing) × (In b ss) × Stands x b)
decide x [] = inl (λ s i. absurd i)
decide x (s ∷ ss) = by (stands_in_statement x s.statement) refl (decide x ss)
  where
    by : (b : Bool) → stands_in_statement x s.statement ≡ b → StandsInNone x ss ⊎ ((b : Standing) × (In b ss) × Stands x b) → StandsInNone x (s ∷ ss) ⊎ ((b : Standing) × (In b (s ∷ ss)) × Stands x b)
    by true e r = inr (s, inl refl, e)
    by false e (inr r) = inr (r.0, inr r.1, r.2)
    by false e (inl r) = inl none
      where
        none : StandsInNone x (s ∷ ss)
        none t (inl f) = ap (λ (y : Standing). stands_in_statement x y.statement) f ∙ e
        none t (inr i) = r t i

pub round_numbers : (ls : List Loop) → numbers_round (map round_loop ls) ≡ numbers_of ls
round_numbers [] = refl
round_numbers (l ∷ ls) = ap (λ ks. l.number ∷ ks) (round_numbers ls)

-- ---- extents

pub as_many_extents : (n : ℕ) (ts us es : List Trip) → extents_under n ts us ≡ Some es → length es ≡ length ts + length us
unfolding extent_under
as_many_extents n ts [] es e = let same : ts ≡ es = cc in let many : length ts ≡ length es = ap (λ (xs : List Trip). length xs) same in omega (arith, many)
as_many_extents n ts (t ∷ us) es e = by (extent_under n ts t) e (λ x f. as_many_extents n (ts ++ x ∷ []) us es f)
  where
    by : (o : Option Trip) → (o >>= λ x. extents_under n (ts ++ x ∷ []) us) ≡ Some es → ((x : Trip) → extents_under n (ts ++ x ∷ []) us ≡ Some es → length es ≡ length (ts ++ x ∷ []) + length us) → length es ≡ length ts + suc (length us)
    by None f r = cc
    by (Some x) f r = let a = r x f in let b = length-append ts (x ∷ []) in omega (arith, a, b)

pub as_many_texts : (symbols : List (List ℕ)) (texts : List Expression) (ts : List Trip) → length (texts_with symbols texts ts) ≡ length texts + length ts
as_many_texts symbols texts [] = omega arith
as_many_texts symbols texts (t ∷ ts) =
    let a = as_many_texts symbols (texts ++ made_extent_text symbols texts t ∷ []) ts in
    let b = length-append texts (made_extent_text symbols texts t ∷ []) in
    omega (arith, a, b)

rank_is : (es : List Expression) → rank_of_extent (extent_for es) ≡ length es
rank_is [] = refl
rank_is (e ∷ es) = refl

-- ---- kinds

pub declared_kind_is : (ds : List Declaration) (other : Option Kind) (x : List ℕ) (k : Kind) → declared_kind ds other x ≡ Some k
    → ((d : Declaration) × (declared ds x ≡ Some d) × (d.kind ≡ k) × (d.extent ≡ Given [])) ⊎ (other ≡ Some k)
declared_kind_is [] other x k e = inr e
declared_kind_is (d ∷ ds) other x k e = by (bytes_eq d.name x) refl e (λ f. declared_kind_is ds other x k f)
  where
    scalar : (g : Extent) → kind_of_scalar g d.kind ≡ Some k → (d.kind ≡ k) × (g ≡ Given [])
    scalar (Given []) f = (some_kind d.kind k f, refl)
      where
        some_kind : (a b : Kind) → Some a ≡ Some b → a ≡ b
        some_kind a b e = cc
    scalar (Given (b ∷ bs)) f = cc
    scalar (Later n) f = cc

    more : bytes_eq d.name x ≡ false → ((c : Declaration) × (declared ds x ≡ Some c) × (c.kind ≡ k) × (c.extent ≡ Given [])) ⊎ (other ≡ Some k)
        → ((c : Declaration) × (declared (d ∷ ds) x ≡ Some c) × (c.kind ≡ k) × (c.extent ≡ Given [])) ⊎ (other ≡ Some k)
    more f (inl r) = inl (r.0, ap (λ b. cond b (Some d) (declared ds x)) f ∙ r.1, r.2, r.3)
    more f (inr r) = inr r

    by : (b : Bool) → bytes_eq d.name x ≡ b → cond b (kind_of_scalar d.extent d.kind) (declared_kind ds other x) ≡ Some k
        → (declared_kind ds other x ≡ Some k → ((c : Declaration) × (declared ds x ≡ Some c) × (c.kind ≡ k) × (c.extent ≡ Given [])) ⊎ (other ≡ Some k))
        → ((c : Declaration) × (declared (d ∷ ds) x ≡ Some c) × (c.kind ≡ k) × (c.extent ≡ Given [])) ⊎ (other ≡ Some k)
    by true f g r = let s = scalar d.extent g in inl (d, ap (λ b. cond b (Some d) (declared ds x)) f, s.0, s.1)
    by false f g r = more f (r g)

pub record IsMadeOfKind (as' : List Made) (x : List ℕ) (k : Kind) : Type 0 where
  pub made : Made
  pub inside : In made as'
  pub name : made.name ≡ x
  pub kind : made.kind ≡ k
  pub scalar : made.extents ≡ []

pub made_kind_is : (as' : List Made) (x : List ℕ) (k : Kind) → made_kind as' x ≡ Some k → IsMadeOfKind as' x k
made_kind_is [] x k e = cc
made_kind_is (a ∷ as') x k e = by (bytes_eq a.name x) refl e (λ f. made_kind_is as' x k f)
  where
    none : (es : List Expression) → kind_if_bare es a.kind ≡ Some k → (a.kind ≡ k) × (es ≡ [])
    none [] f = (same a.kind k f, refl)
      where
        same : (a b : Kind) → Some a ≡ Some b → a ≡ b
        same a b e = cc
    none (y ∷ es) f = cc

    by : (b : Bool) → bytes_eq a.name x ≡ b → cond b (kind_if_bare a.extents a.kind) (made_kind as' x) ≡ Some k → (made_kind as' x ≡ Some k → IsMadeOfKind as' x k) → IsMadeOfKind (a ∷ as') x k
    by true h f r = let s = none a.extents f in record { made = a; inside = inl refl; name = (bytes_eq-Decides a.name x).0 h; kind = s.0; scalar = s.1 }
    by false h f r = let m = r f in record { made = m.made; inside = inr m.inside; name = m.name; kind = m.kind; scalar = m.scalar }

-- ---- the private scalars of a prepared nest

module _ (es : List Declaration) (around : List (List ℕ)) (deepest : ℕ) (m : Nest) (h : IsPrepared es around deepest m) (may : MayBeExpanded es m) where
  pub kind_of_private : (p : Private) → In p (private_scalars m) → IsSomeAnd (declared es p.name) (λ (d : Declaration). (d.kind ≡ p.kind) × (d.extent ≡ Given []))
  kind_of_private p i = by (declared_kind_is m.declarations (made_kind m.made p.name) p.name p.kind (start es around deepest m h may p i).kind)
    where
      by : ((d : Declaration) × (declared m.declarations p.name ≡ Some d) × (d.kind ≡ p.kind) × (d.extent ≡ Given [])) ⊎ (made_kind m.made p.name ≡ Some p.kind)
          → IsSomeAnd (declared es p.name) (λ (d : Declaration). (d.kind ≡ p.kind) × (d.extent ≡ Given []))
      by (inl r) = subst (λ (o : Option Declaration). IsSomeAnd o (λ (d : Declaration). (d.kind ≡ p.kind) × (d.extent ≡ Given []))) (sym (may.among p.name r.0 r.1)) (r.2, r.3)
      by (inr e) =
          let r = made_kind_is m.made p.name p.kind e in
          subst (λ x. IsSomeAnd (declared es x) (λ (d : Declaration). (d.kind ≡ p.kind) × (d.extent ≡ Given []))) r.name
          (one r (declared es r.made.name) (all_in (IsPreparedMade es m.symbols deepest) m.made h.parts.made r.made r.inside).declaration)
        where
          one : (r : IsMadeOfKind m.made p.name p.kind) (o : Option Declaration) → IsSomeAnd o (λ (d : Declaration). (d.kind ≡ r.made.kind) × (d.extent ≡ extent_for r.made.extents)) → IsSomeAnd o (λ (d : Declaration). (d.kind ≡ p.kind) × (d.extent ≡ Given []))
          one r None g = absurd g
          one r (Some d) g = (g.0 ∙ r.kind, g.1 ∙ ap extent_for r.scalar)

  -- wherever it stands the loops have the same numbers
  pub same_round : (p : Private) → In p (private_scalars m) → (s : Standing) → In s (nest_statements m) → stands_in_statement p.name s.statement ≡ true → numbers_round p.loops ≡ numbers_of s.loops
  same_round p i s j st = by (splits s (nest_statements m) j)
    where
      by : Splits s (nest_statements m) → numbers_round p.loops ≡ numbers_of s.loops
      by r = either (decide p.name r.before)
        where
          there : private_among m p.name (r.before ++ s ∷ r.behind) ≡ Some p
          there = ap (private_among m p.name) (sym r.is) ∙ known es around deepest m h may p i

          either : StandsInNone p.name r.before ⊎ ((b : Standing) × (In b r.before) × Stands p.name b) → numbers_round p.loops ≡ numbers_of s.loops
          either (inl none) = ap numbers_round (first_begins m p.name p r.before s r.behind there none st).1.loops ∙ round_numbers s.loops
          either (inr b) = further_stays m p.name p r.before s r.behind there b.0 b.1 b.2 st

  pub begins : (p : Private) → In p (private_scalars m) → (s : Standing) × (In s (nest_statements m)) × Over m p.name (map round_loop s.loops) p
  begins p i =
      let f = has_first m p.name p (nest_statements m) (known es around deepest m h may p i) in
      let o = first_begins m p.name p f.before f.standing f.behind (ap (private_among m p.name) (sym f.splits) ∙ known es around deepest m h may p i) f.none f.stands in
      (f.standing, subst (In f.standing) (sym f.splits) (in_middle f.before f.standing f.behind), o.1)

  -- its loops are loops of the nest
  pub round_loop_is : (p : Private) → In p (private_scalars m) → (l : RoundLoop) → In l p.loops → (o : Loop) × (In o (nest_loops m)) × (l ≡ round_loop o)
  round_loop_is p i l j =
      let b = begins p i in
      let o = In-map round_loop l b.0.loops (subst (In l) b.2.loops j) in
      (o.it, inside o.it (round_in [] m.body h.plain b.0 b.1 o.it o.inside), o.is)
    where
      inside : (o : Loop) → In o [] ⊎ In o (nest_loops m) → In o (nest_loops m)
      inside o (inl k) = absurd k
      inside o (inr k) = k

  pub counter_of : (o : Loop) → In o (nest_loops m) → (o.variable ≡ counter_name o.number) × (o.number ≤ 4294967295) × IsSomeAnd (declared es o.variable) IsCounter
  counter_of o i =
      let r = each_asked (IsPreparedLoop es m.symbols) (nest_loops m) [] m.body h.plain (walked (IsPreparedLoop es m.symbols) [] m.body h.parts.loops) o i in
      (r.asked.variable, within_32 o.number r.asked.number, r.asked.counter)

  -- so its variables count loops round the statements in which it stands
  pub own_variable : (ls : List Loop) (p : Private) → In p (private_scalars m) → numbers_round p.loops ≡ numbers_of ls → (l : RoundLoop) → In l p.loops → IsOwn ls l.variable
  own_variable ls p i same l j k small e =
      let o = round_loop_is p i l j in
      let c = counter_of o.0 o.1 in
      let named : counter_name o.0.number ≡ counter_name k = sym c.0 ∙ (sym (ap (λ (x : RoundLoop). x.variable) o.2) ∙ e) in
      let number : o.0.number ≡ k = counter_same o.0.number k c.1 (within_32 k small) named in
      In-Contains k (shapes.numbers_of ls) (subst (λ (ns : List ℕ). In k ns) same (subst (λ n. In n (numbers_round p.loops)) (ap (λ (x : RoundLoop). x.number) o.2 ∙ number) (number_in p.loops l j)))
    where
      number_in : (ks : List RoundLoop) (l : RoundLoop) → In l ks → In l.number (numbers_round ks)
      number_in [] l i = i
      number_in (k ∷ ks) l (inl e) = inl (ap (λ (x : RoundLoop). x.number) e)
      number_in (k ∷ ks) l (inr i) = inr (number_in ks l i)

  pub as_many_loops : (p : Private) → In p (private_scalars m) → length p.extents ≡ length p.loops
  as_many_loops p i =
      let b = begins p i in
      let f = extents_found (length m.symbols) (λ k. Rattle.std.specs.Prelude.pos 0) (trips_of (map round_loop b.0.loops)) p.extents b.2.extents in
      let many = as_many_extents (length m.symbols) [] (trips_of (map round_loop b.0.loops)) p.extents f.under in
      let trips = length-map (map round_loop b.0.loops) (λ (l : RoundLoop). l.trip) in
      let same : length p.loops ≡ length (map round_loop b.0.loops) = ap (λ (ls : List RoundLoop). length ls) b.2.loops in
      omega (arith, many, trips, same)

  pub array_rank : (p : Private) → In p (private_scalars m) → rank_of_extent (extent_for (array_of m.symbols p).extents) ≡ length p.loops
  array_rank p i =
      let a = length-reverse (extent_texts m.symbols p.extents) in
      let b = as_many_texts m.symbols [] p.extents in
      let c = as_many_loops p i in
      let d = rank_is (array_of m.symbols p).extents in
      omega (arith, a, b, c, d)

  pub array_no_counter : (p : Private) → In p (private_scalars m) → (k : ℕ) → ¬ (p.array ≡ counter_name k)
  array_no_counter p i k e = (counter_apart es around deepest m h may p.array k e).1 (array_in (private_scalars m) p i)

  module _ (fs : List Declaration) (d : AreDeclaredFor es fs m) where
    pub counter_there : (o : Loop) → In o (nest_loops m) → IsSomeAnd (declared fs o.variable) IsCounter
    counter_there o i = by (declared es o.variable) refl (counter_of o i).2
      where
        by : (q : Option Declaration) → declared es o.variable ≡ q → IsSomeAnd q IsCounter → IsSomeAnd (declared fs o.variable) IsCounter
        by None e g = absurd g
        by (Some c) e g = subst (λ (q : Option Declaration). IsSomeAnd q IsCounter) (sym (d.kept o.variable c (counter_apart es around deepest m h may o.variable o.number (counter_of o i).0).1 e)) g

    pub array_there : (p : Private) → In p (private_scalars m) → IsSomeAnd (declared fs p.array) (λ (c : Declaration). (c.kind ≡ p.kind) × (rank_of_extent c.extent ≡ length p.loops))
    array_there p i = by (declared fs p.array) (d.arrays p i)
      where
        by : (o : Option Declaration) → IsSomeAnd o (λ (c : Declaration). (c.kind ≡ p.kind) × (c.extent ≡ extent_for (array_of m.symbols p).extents)) → IsSomeAnd o (λ (c : Declaration). (c.kind ≡ p.kind) × (rank_of_extent c.extent ≡ length p.loops))
        by None g = absurd g
        by (Some c) g = (g.0, ap rank_of_extent g.1 ∙ array_rank p i)
