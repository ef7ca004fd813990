-- The instances of a statement that doesn't depend on itself within its outer loops may store all at once.
use Rattle.std.proofs.Common.{◌≡◌, refl, sym, ap, ap₂, ◌∙◌, subst, ◌⊎◌, inl, inr, ℕ, suc, ◌+◌, ◌<◌, List, [], ◌∷◌, ◌++◌, map, length, Ok, Option, Some, None, Contains, append-nil, arith}
use Rattle.std.proofs.lemmas.List.Elements.{All-contains, All-from_recursion}
use Rattle.tree.specs.declared.ops.Value.{Value}
use Rattle.tree.specs.declared.ops.Fault.{Fault}
use Rattle.meaning.specs.Store.{Store, Cell, put}
use Rattle.meaning_laws.specs.arrays.Forms.{StoreApart}
use Rattle.meaning_laws.specs.arrays.Instances.{NoneReadsWritten, after, cell_of}
use Rattle.meaning_laws.specs.arrays.Instances as arrays
use Rattle.nest_order.specs.orders.Graphs.{Arc, Place}
use Rattle.nest_order.specs.orders.Lists.{In, Pairwise, Distinct}
use Rattle.nest_order.specs.orders.Nests.{IsInstance, Precedes, common}
use Rattle.nest_order.specs.orders.Shapes.{Shape, Single, Loop, Shapes, no_shapes, shape, statements, loops_of_shape, loops_of_shapes, Stands, StandsIn, Instance, instances, Within, Fits, LessAt, SameUpTo, common_of}
use Rattle.nest_order.proofs.orders.Common.{statement_stands}
use Rattle.nest_order.proofs.orders.Covering.{meets_by_arc}
use Rattle.nest_order.proofs.orders.Lists.{Each-In, Each-from, In-left, In-right}
use Rattle.nest_order.proofs.orders.Membership.{In-map, Pairwise-map, instance_stands}
use Rattle.nest_order.proofs.orders.Once.{Pairwise-left, Pairwise-right}
use Rattle.nest_order.proofs.orders.Sequence.{PrecedesFrom, sequence}
use Rattle.nest_order.specs.runs.Alone.{HasNoOwnEdge, InnerInstancesAreApart, chain, inner_instances, inside}
use Rattle.nest_order.specs.runs.Blocks.{written}
use Rattle.nest_order.specs.runs.Guarded.{effect, sequential}
use Rattle.nest_order.specs.runs.Nests.{RunNest, effect_of, reads_of}
use Rattle.nest_order.specs.runs.Stores.{HoldsNest, IsNestIn, Setting}
use Rattle.nest_order.specs.runs.Touched.{AreEdgesOf, MayMeet, Touches, references_of}
use Rattle.nest_order.specs.runs.Laws.{as_instance}
use Rattle.nest_order.proofs.runs.Results.{each_of, ok_same}
use Rattle.nest_order.proofs.runs.Variables.{Within-length, Within-both}
use Rattle.nest_order.proofs.runs.Holding.{instance_inside}
use Rattle.nest_order.proofs.runs.Touching.{ReadBy, WrittenBy, reading, writing}

contained : {X : Type 0} (xs : List X) (x : X) → Contains xs x → In x xs
contained xs x h = All-contains (λ z. In z xs) xs x (All-from_recursion (λ z. In z xs) xs (each_of (λ z. In z xs) xs (λ z i. i))) h

-- two elements of a list: one and the same, or related one way or the other
pair_of : {X : Type 0} (R : X → X → Type 0) (xs : List X) → Pairwise R xs → (x y : X) → In x xs → In y xs → (x ≡ y) ⊎ (R x y ⊎ R y x)
pair_of R [] p x y i j = absurd i
pair_of R (z ∷ xs) p x y (inl e) (inl f) = inl (e ∙ sym f)
pair_of R (z ∷ xs) p x y (inl e) (inr j) = inr (inl (subst (λ k. R k y) (sym e) (Each-In (R z) xs p.0 y j)))
pair_of R (z ∷ xs) p x y (inr i) (inl f) = inr (inr (subst (λ k. R k x) (sym f) (Each-In (R z) xs p.0 x i)))
pair_of R (z ∷ xs) p x y (inr i) (inr j) = pair_of R xs p.1 x y i j

-- ---- lists of iterations that begin alike

deeper : List ℕ → ℕ → ℕ
deeper [] k = k
deeper (i ∷ front) k = suc (deeper front k)

deeper-is : (front : List ℕ) (k : ℕ) → deeper front k ≡ length front + k
unfolding deeper
deeper-is [] k = omega arith
deeper-is (i ∷ front) k = let e = deeper-is front k in omega arith

less_behind : (front : List ℕ) (k : ℕ) (is js : List ℕ) → LessAt k is js → LessAt (deeper front k) (front ++ is) (front ++ js)
unfolding deeper
less_behind [] k is js h = h
less_behind (i ∷ front) k is js h = (refl, less_behind front k is js h)

same_behind : (front is js : List ℕ) → SameUpTo (length front) (front ++ is) (front ++ js)
same_behind [] is js = tt
same_behind (i ∷ front) is js = (refl, same_behind front is js)

-- ---- a statement by itself

module _ (s : ℕ) where
  pub chain_stands : (ls : List ℕ) (r : ℕ) (ms : List ℕ) → Stands (chain ls s) r ms → (r ≡ s) × (ms ≡ ls)
  chain_stands [] r [] h = (sym h, refl)
  chain_stands [] r (m ∷ ms) h = absurd h
  chain_stands (l ∷ ls) r [] h = absurd h
  chain_stands (l ∷ ls) r (m ∷ ms) h = by h.1 (λ g. chain_stands ls r ms g)
    where
      by : Stands (chain ls s) r ms ⊎ ⊥ → (Stands (chain ls s) r ms → (r ≡ s) × (ms ≡ ls)) → (r ≡ s) × (m ∷ ms ≡ l ∷ ls)
      by (inl g) more = let a = more g in (a.0, ap₂ (λ k ks. k ∷ ks) (sym h.0) a.1)
      by (inr g) more = absurd g

  chain_loops : (ls : List ℕ) → loops_of_shape (chain ls s) ≡ ls
  chain_loops [] = refl
  chain_loops (l ∷ ls) = ap (λ ks. l ∷ ks) (append-nil (loops_of_shape (chain ls s)) ∙ chain_loops ls)

  chain_statements : (ls : List ℕ) → statements (chain ls s) ≡ s ∷ []
  chain_statements [] = refl
  chain_statements (l ∷ ls) = append-nil (statements (chain ls s)) ∙ chain_statements ls

-- no loop stands twice round a statement
mutual
  pub stands_loops : (t : Shape) (s : ℕ) (ls : List ℕ) → Stands t s ls → (m : ℕ) → In m ls → In m (loops_of_shape t)
  stands_loops (Single r) s [] h m i = absurd i
  stands_loops (Single r) s (l ∷ ls) h m i = absurd h
  stands_loops (Loop k ts) s [] h m i = absurd h
  stands_loops (Loop k ts) s (l ∷ ls) h m (inl e) = inl (e ∙ sym h.0)
  stands_loops (Loop k ts) s (l ∷ ls) h m (inr i) = inr (stands_loops_in ts s ls h.1 m i)

  stands_loops_in : (ts : Shapes) (s : ℕ) (ls : List ℕ) → StandsIn ts s ls → (m : ℕ) → In m ls → In m (loops_of_shapes ts)
  stands_loops_in no_shapes s ls h m i = absurd h
  stands_loops_in (shape t ts) s ls (inl h) m i = In-left m (loops_of_shape t) (loops_of_shapes ts) (stands_loops t s ls h m i)
  stands_loops_in (shape t ts) s ls (inr h) m i = In-right m (loops_of_shape t) (loops_of_shapes ts) (stands_loops_in ts s ls h m i)

mutual
  pub stands_once : (t : Shape) (s : ℕ) (ls : List ℕ) → Stands t s ls → Distinct (loops_of_shape t) → Distinct ls
  stands_once (Single r) s [] h d = tt
  stands_once (Single r) s (l ∷ ls) h d = absurd h
  stands_once (Loop k ts) s [] h d = absurd h
  stands_once (Loop k ts) s (l ∷ ls) h d = (
    Each-from (λ m. ¬ (l ≡ m)) ls (λ m i e. Each-In (λ m. ¬ (k ≡ m)) (loops_of_shapes ts) d.0 m (stands_loops_in ts s ls h.1 m i) (h.0 ∙ e)),
    stands_once_in ts s ls h.1 d.1,
  )

  stands_once_in : (ts : Shapes) (s : ℕ) (ls : List ℕ) → StandsIn ts s ls → Distinct (loops_of_shapes ts) → Distinct ls
  stands_once_in no_shapes s ls h d = absurd h
  stands_once_in (shape t ts) s ls (inl h) d = stands_once t s ls h (Pairwise-left (λ x y. ¬ (x ≡ y)) (loops_of_shape t) (loops_of_shapes ts) d)
  stands_once_in (shape t ts) s ls (inr h) d = stands_once_in ts s ls h (Pairwise-right (λ x y. ¬ (x ≡ y)) (loops_of_shape t) (loops_of_shapes ts) d)

module _ (bits : ℕ) (n : RunNest) (w : Setting) (ok : IsNestIn bits n w) where
  abbrev turns : ℕ → List ℕ → ℕ
  turns = n.turns_of w.values

  abbrev IsIt : Instance → Type 0
  IsIt = IsInstance n.loops_of turns n.shape

  abbrev Reads : Instance → Cell → Type 0
  Reads = ReadBy bits n w ok

  abbrev Writes : Instance → Cell → Type 0
  Writes = WrittenBy bits n w ok

  -- the later one touches nothing that the earlier one may write
  abbrev Apart : Instance → Instance → Type 0
  Apart x y = (c : Cell) → Writes x c → (Reads y c → ⊥) × (Writes y c → ⊥)

  -- ---- what follows of instances that are apart

  none_reads : (xs : List Instance) (before : List Cell) (t : Store) → Pairwise Apart xs → ((x : Instance) → In x xs → IsIt x) → ((c : Cell) → In c before → (x : Instance) → In x xs → Reads x c → ⊥) → HoldsNest bits n w t
      → NoneReadsWritten before (map (as_instance n (sequential bits)) xs) t
  none_reads [] before t apart are known holds = tt
  none_reads (x ∷ xs) before t apart are known holds = (
    (λ c i j. known c (contained before c i) x (inl refl) (reading bits n w ok x t c (are x (inl refl)) holds (contained (reads_of n (sequential bits) x t) c j))),
    (λ o e. by (λ written u k holds'. none_reads xs written u apart.1 (λ y i. are y (inr i)) k holds') o e),
  )
    where
      by : ((written : List Cell) (u : Store) → ((c : Cell) → In c written → (y : Instance) → In y xs → Reads y c → ⊥) → HoldsNest bits n w u → NoneReadsWritten written (map (as_instance n (sequential bits)) xs) u) → (o : Option (Cell × Value)) → effect_of n (sequential bits) x t ≡ Ok o → NoneReadsWritten (cell_of o ++ before) (map (as_instance n (sequential bits)) xs) (after o t)
      by more None e = more before t (λ c i y j. known c i y (inr j)) holds
      by more (Some p) e = more (p.0 ∷ before) (put p.0 p.1 t) (λ c i y j. next c i y j) (instance_inside bits n w ok x (are x (inl refl)) t p.0 p.1 holds e)
        where
          writes : Writes x p.0
          writes = writing bits n w ok x t p.0 p.1 (are x (inl refl)) holds e

          next : (c : Cell) → (c ≡ p.0) ⊎ In c before → (y : Instance) → In y xs → Reads y c → ⊥
          next c (inl f) y j r = (Each-In (Apart x) xs apart.0 y j c (subst (Writes x) (sym f) writes)).0 r
          next c (inr i) y j r = known c i y (inr j) r

  store_apart : (xs : List Instance) (t : Store) → Pairwise Apart xs → ((x : Instance) → In x xs → IsIt x) → HoldsNest bits n w t → StoreApart t (map (as_instance n (sequential bits)) xs)
  store_apart xs t apart are holds x y c v u i j e f =
      let a = In-map (as_instance n (sequential bits)) x xs (contained (map (as_instance n (sequential bits)) xs) x i) in
      let b = In-map (as_instance n (sequential bits)) y xs (contained (map (as_instance n (sequential bits)) xs) y j) in
      let e' : effect_of n (sequential bits) a.it t ≡ Ok (Some (c, v)) = subst (λ (z : arrays.Instance). z.effect t ≡ Ok (Some (c, v))) a.is e in
      let f' : effect_of n (sequential bits) b.it t ≡ Ok (Some (c, u)) = subst (λ (z : arrays.Instance). z.effect t ≡ Ok (Some (c, u))) b.is f in
      by a.it b.it a.inside b.inside e' f' (pair_of Apart xs apart a.it b.it a.inside b.inside)
    where
      second : Option (Cell × Value) → Value → Value
      second None d = d
      second (Some p) d = p.1

      by : (p q : Instance) → In p xs → In q xs → effect_of n (sequential bits) p t ≡ Ok (Some (c, v)) → effect_of n (sequential bits) q t ≡ Ok (Some (c, u)) → (p ≡ q) ⊎ (Apart p q ⊎ Apart q p) → v ≡ u
      by p q i j e f (inl g) =
          let h : Some (c, v) ≡ Some (c, u) = ok_same {F = Fault} (Some (c, v)) (Some (c, u)) (sym e ∙ (ap (λ z. effect_of n (sequential bits) z t) g ∙ f)) in
          same h
        where
          same : ◌≡◌ {A = Option (Cell × Value)} (Some (c, v)) (Some (c, u)) → v ≡ u
          same h = ap (λ o. second o v) h
      by p q i j e f (inr (inl g)) = absurd ((g c (writing bits n w ok p t c v (are p i) holds e)).1 (writing bits n w ok q t c u (are q j) holds f))
      by p q i j e f (inr (inr g)) = absurd ((g c (writing bits n w ok q t c u (are q j) holds f)).1 (writing bits n w ok p t c v (are p i) holds e))

  -- ---- instances of a statement without an edge on itself

  module _ (arcs : List Arc) (complete : AreEdgesOf n arcs) (s : ℕ) (in_nest : In s (statements n.shape)) (outer inner before : List ℕ) (fits : n.loops_of s ≡ outer ++ inner)
      (none : HasNoOwnEdge arcs (length outer) s) (within : Within turns [] outer before) where
    fits_chain : Fits n.loops_of outer (chain inner s)
    fits_chain r ms h = let a = chain_stands s inner r ms h in ap n.loops_of a.0 ∙ (fits ∙ ap (λ ks. outer ++ ks) (sym a.1))

    once : Distinct inner
    once =
        let k = statement_stands n.shape s in_nest in
        let e : k.0 ≡ outer ++ inner = sym (ok.text.nest.fits s k.0 k.1) ∙ fits in
        Pairwise-right (λ x y. ¬ (x ≡ y)) outer inner (subst Distinct e (stands_once n.shape s k.0 k.1 ok.text.nest.single))

    in_sequence : Pairwise (PrecedesFrom n.loops_of (length outer)) (instances turns (chain inner s) before)
    in_sequence = sequence n.loops_of turns (chain inner s) (length outer) outer before refl fits_chain (subst Distinct (sym (chain_loops s inner)) once)
        (subst (Pairwise (λ a b. a < b)) (sym (chain_statements s inner)) (tt, tt))

    pub record Ours (x : Instance) : Type 0 where
      pub statement : x.statement ≡ s
      pub is_it : IsIt (inside before x)

    ours : (x : Instance) → In x (instances turns (chain inner s) before) → Ours x
    ours x i =
        let h = instance_stands turns (chain inner s) before x i in
        let a = chain_stands s inner x.statement h.loops h.stands in
        let v : Within turns before inner x.iterations = subst (λ ls. Within turns before ls x.iterations) a.1 h.within in
        let both = Within-both turns [] outer inner before x.iterations within v in
        record {
          statement = a.0;
          is_it = (subst (λ r. In r (statements n.shape)) (sym a.0) in_nest, subst (λ ls. Within turns [] ls (before ++ x.iterations)) (sym (ap n.loops_of a.0 ∙ fits)) both);
        }

    precedes : (x y : Instance) → Ours x → Ours y → PrecedesFrom n.loops_of (length outer) x y → Precedes (common n.loops_of) (inside before x) (inside before y)
    precedes x y p q (inl h) =
        let e = deeper-is before h.0 in
        let f = Within-length turns [] outer before within in
        let a : length outer + h.0 < common_of (n.loops_of x.statement) (n.loops_of y.statement) = h.1 in
        inl (deeper before h.0, (let b : deeper before h.0 < common_of (n.loops_of x.statement) (n.loops_of y.statement) = omega arith in b), less_behind before h.0 x.iterations y.iterations h.2)
    precedes x y p q (inr h) =
        let a : x.statement < y.statement = h.1 in
        let e = p.statement in
        let f = q.statement in
        absurd (omega arith)

    same_outer : (x y : Instance) → SameUpTo (length outer) (before ++ x.iterations) (before ++ y.iterations)
    same_outer x y = subst (λ k. SameUpTo k (before ++ x.iterations) (before ++ y.iterations)) (sym (Within-length turns [] outer before within)) (same_behind before x.iterations y.iterations)

    meet_never : (x y : Instance) → Ours x → Ours y → PrecedesFrom n.loops_of (length outer) x y → (meet : MayMeet n w.values (inside before x) (inside before y)) → meet.0 ≡ 0 → ⊥
    meet_never x y p q h meet first =
        let a = meets_by_arc n.loops_of n.turns_of (λ r. length (references_of n r)) (Touches n) n.shape arcs complete (length outer) w.values (inside before x) (inside before y) p.is_it q.is_it (same_outer x y) (precedes x y p q h) meet in
        none a.0 a.1 (a.2 ∙ from p.statement first) (ap (λ (z : Place). z.statement) a.3 ∙ q.statement) a.4
      where
        from : {j k r m : ℕ} → j ≡ k → r ≡ m → ◌≡◌ {A = Place} (record { statement = j; reference = r }) (record { statement = k; reference = m })
        from e f = λ i. record { statement = e i; reference = f i }

    apart : (x y : Instance) → Ours x → Ours y → PrecedesFrom n.loops_of (length outer) x y → Apart (inside before x) (inside before y)
    apart x y p q h c u = (read, (λ v. meet_never x y p q h (0, 0, c, inl refl, u.0, v.0, u.1, v.1) refl))
      where
        read : Reads (inside before y) c → ⊥
        read (inl r) = meet_never x y p q h (0, r.0, c, inl refl, u.0, r.2, u.1, r.3) refl
        read (inr l) = u.2 l.0 l.1 l.2

    all_apart : Pairwise Apart (map (inside before) (instances turns (chain inner s) before))
    all_apart = Pairwise-map (PrecedesFrom n.loops_of (length outer)) Apart (inside before) (instances turns (chain inner s) before) (λ x y i j h. apart x y (ours x i) (ours y j) h) in_sequence

    all_ours : (z : Instance) → In z (map (inside before) (instances turns (chain inner s) before)) → IsIt z
    all_ours z i = let o = In-map (inside before) z (instances turns (chain inner s) before) i in subst IsIt (sym o.is) (ours o.it o.inside).is_it

    pub inner_apart : (t : Store) → HoldsNest bits n w t → NoneReadsWritten [] (inner_instances bits n w before inner s) t × StoreApart t (inner_instances bits n w before inner s)
    inner_apart t holds = (
      none_reads (map (inside before) (instances turns (chain inner s) before)) [] t all_apart all_ours (λ c i. absurd i) holds,
      store_apart (map (inside before) (instances turns (chain inner s) before)) t all_apart all_ours holds,
    )

pub inner_instances_are_apart : InnerInstancesAreApart
inner_instances_are_apart bits n w arcs s outer inner before t ok complete in_nest fits none within holds = inner_apart bits n w ok arcs complete s in_nest outer inner before fits none within t holds
