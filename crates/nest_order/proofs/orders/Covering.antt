-- In a complete graph an edge asks for the sequential order of two instances that touch a common cell.
use Rattle.std.proofs.Common.{◌≡◌, refl, sym, ap, subst, ◌⊎◌, inl, inr, ℕ, zero, suc, ◌+◌, ◌<◌, ◌≤◌, List, [], ◌∷◌, ◌++◌, map, length, arith}
use Rattle.nest_order.specs.orders.Graphs.{Any, Arc, Candidate, Covers, Direction, Greater, HasLevel, IsComplete, IsInstanceAt, Just, Less, MayBegin, Meet, Place, Related, Same, Sign, StandsFor, edge_of, level_after}
use Rattle.nest_order.specs.orders.Lists.{Each, In}
use Rattle.nest_order.specs.orders.Nests.{Carried, Depends, DependsAt, Independent, IsEdge, LeadsInNest, Level, Precedes, Remains}
use Rattle.nest_order.specs.orders.Shapes.{Instance, LessAt, SameUpTo, Shape, Within, common_of}
use Rattle.nest_order.proofs.orders.Lists.{Each-from}
use Rattle.nest_order.proofs.orders.Membership.{In-map, map-In}
use Rattle.nest_order.proofs.orders.Emission.{split_order}
use Rattle.nest_order.proofs.orders.Sequence.{common_left, common_right}

abbrev direction_by : {i j : ℕ} → (i < j) ⊎ ((i ≡ j) ⊎ (j < i)) → Direction
direction_by (inl h) = Less
direction_by (inr (inl h)) = Same
direction_by (inr (inr h)) = Greater

abbrev vector : ℕ → List ℕ → List ℕ → List Direction
vector zero is js = []
vector (suc c) (i ∷ is) (j ∷ js) = direction_by (split_order i j) ∷ vector c is js
vector (suc c) _ _ = []

-- both have as many iterations
abbrev Long : ℕ → List ℕ → Type 0
Long c is = c ≤ length is

vector-length : (c : ℕ) (is js : List ℕ) → Long c is → Long c js → length (vector c is js) ≡ c
vector-length zero is js a b = refl
vector-length (suc c) [] js a b = absurd (omega arith)
vector-length (suc c) (i ∷ is) [] a b = absurd (omega arith)
vector-length (suc c) (i ∷ is) (j ∷ js) a b = ap suc (vector-length c is js (omega arith) (omega arith))

related_by : (i j : ℕ) (is js : List ℕ) (ds : List Direction) (h : (i < j) ⊎ ((i ≡ j) ⊎ (j < i))) → Related ds is js → Related (direction_by h ∷ ds) (i ∷ is) (j ∷ js)
related_by i j is js ds (inl h) r = (h, r)
related_by i j is js ds (inr (inl h)) r = (h, r)
related_by i j is js ds (inr (inr h)) r = (h, r)

vector-related : (c : ℕ) (is js : List ℕ) → Long c is → Long c js → Related (vector c is js) is js
vector-related zero is js a b = tt
vector-related (suc c) [] js a b = absurd (omega arith)
vector-related (suc c) (i ∷ is) [] a b = absurd (omega arith)
vector-related (suc c) (i ∷ is) (j ∷ js) a b = related_by i j is js (vector c is js) (split_order i j) (vector-related c is js (omega arith) (omega arith))

-- where the first instance precedes the second
begins_by : (i j s r : ℕ) (ds : List Direction) (h : (i < j) ⊎ ((i ≡ j) ⊎ (j < i))) → i ≡ j → MayBegin ds s r → MayBegin (direction_by h ∷ ds) s r
begins_by i j s r ds (inl h) e m = tt
begins_by i j s r ds (inr (inl h)) e m = m
begins_by i j s r ds (inr (inr h)) e m = absurd (omega arith)

less_begins : (i j s r : ℕ) (ds : List Direction) (h : (i < j) ⊎ ((i ≡ j) ⊎ (j < i))) → i < j → MayBegin (direction_by h ∷ ds) s r
less_begins i j s r ds (inl h) e = tt
less_begins i j s r ds (inr (inl h)) e = absurd (omega arith)
less_begins i j s r ds (inr (inr h)) e = absurd (omega arith)

carried_begins : (c m : ℕ) (is js : List ℕ) (s r : ℕ) → m < c → LessAt m is js → MayBegin (vector c is js) s r
carried_begins zero m is js s r a h = absurd (omega arith)
carried_begins (suc c) zero [] js s r a h = absurd h
carried_begins (suc c) (suc m) [] js s r a h = absurd h
carried_begins (suc c) zero (i ∷ is) [] s r a h = absurd h
carried_begins (suc c) (suc m) (i ∷ is) [] s r a h = absurd h
carried_begins (suc c) zero (i ∷ is) (j ∷ js) s r a h = less_begins i j s r (vector c is js) (split_order i j) h
carried_begins (suc c) (suc m) (i ∷ is) (j ∷ js) s r a h = begins_by i j s r (vector c is js) (split_order i j) h.0 (carried_begins c m is js s r (omega arith) h.1)

independent_begins : (c : ℕ) (is js : List ℕ) (s r : ℕ) → SameUpTo c is js → s < r → MayBegin (vector c is js) s r
independent_begins zero is js s r h less = less
independent_begins (suc c) [] js s r h less = absurd h
independent_begins (suc c) (i ∷ is) [] s r h less = absurd h
independent_begins (suc c) (i ∷ is) (j ∷ js) s r h less = begins_by i j s r (vector c is js) (split_order i j) h.0 (independent_begins c is js s r h.1 less)

-- an arc that stands for the vector asks for the order
abbrev DependsAfter : ℕ → List ℕ → List ℕ → Level → Type 0
DependsAfter c is js (Carried m) = LessAt m is js
DependsAfter c is js Independent = SameUpTo c is js

-- by the level of the signs: the iterations are the same before it and less there, or the same in all of the c loops
abbrev ByLevel : ℕ → ℕ → List ℕ → List ℕ → Level → Type 0
ByLevel n c is js (Carried m) = (k : ℕ) × (m ≡ n + k) × LessAt k is js
ByLevel n c is js Independent = SameUpTo c is js

by_level : (n c : ℕ) (is js : List ℕ) (signs : List Sign) (ds : List Direction) → length ds ≡ c → HasLevel signs → Covers signs ds → Related ds is js → ByLevel n c is js (level_after n signs)
by_level n c is js [] [] len p v r = subst (λ k. SameUpTo k is js) len tt
by_level n c is js [] (d ∷ ds) len p v r = absurd v
by_level n c is js (Any ∷ signs) ds len p v r = absurd p
by_level n c is js (Just Greater ∷ signs) ds len p v r = absurd p
by_level n c is js (Just Less ∷ signs) [] len p v r = absurd v
by_level n c is js (Just Less ∷ signs) (d ∷ ds) len p v r = (0, omega arith, first is js (subst (λ e. Related (e ∷ ds) is js) (sym v.0) r))
  where
    first : (is js : List ℕ) → Related (Less ∷ ds) is js → LessAt 0 is js
    first [] js r = absurd r
    first (i ∷ is) [] r = absurd r
    first (i ∷ is) (j ∷ js) r = r.0
by_level n c is js (Just Same ∷ signs) [] len p v r = absurd v
by_level n zero is js (Just Same ∷ signs) (d ∷ ds) len p v r = absurd (let e : suc (length ds) ≡ 0 = len in omega arith)
by_level n (suc c) [] js (Just Same ∷ signs) (d ∷ ds) len p v r = absurd (subst (λ e. Related (e ∷ ds) [] js) (sym v.0) r)
by_level n (suc c) (i ∷ is) [] (Just Same ∷ signs) (d ∷ ds) len p v r = absurd (subst (λ e. Related (e ∷ ds) (i ∷ is) []) (sym v.0) r)
by_level n (suc c) (i ∷ is) (j ∷ js) (Just Same ∷ signs) (d ∷ ds) len p v r =
    let q : Related (Same ∷ ds) (i ∷ is) (j ∷ js) = subst (λ e. Related (e ∷ ds) (i ∷ is) (j ∷ js)) (sym v.0) r in
    more (level_after (suc n) signs) q.0 (by_level (suc n) c is js signs ds (let e : suc (length ds) ≡ suc c = len in omega arith) p v.1 q.1)
  where
    more : (level : Level) → i ≡ j → ByLevel (suc n) c is js level → ByLevel n (suc c) (i ∷ is) (j ∷ js) level
    more (Carried m) e h = (suc h.0, (let g : m ≡ suc n + h.0 = h.1 in omega arith), (e, h.2))
    more Independent e h = (e, h)

abbrev ByEdge : ℕ → ℕ → ℕ → Level → Type 0
ByEdge s r c (Carried m) = m < c
ByEdge s r c Independent = s < r

module _ {V X : Type 0} (loops_of : ℕ → List ℕ) (trip : V → ℕ → List ℕ → ℕ) (references : ℕ → ℕ) (Touches : V → ℕ → Instance → X → Type 0) (t : Shape) where
  abbrev common : ℕ → ℕ → ℕ
  common s r = common_of (loops_of s) (loops_of r)

  within-length : (trip : ℕ → List ℕ → ℕ) (before ls is : List ℕ) → Within trip before ls is → length is ≡ length ls
  within-length trip before [] [] w = refl
  within-length trip before [] (i ∷ is) w = absurd w
  within-length trip before (l ∷ ls) [] w = absurd w
  within-length trip before (l ∷ ls) (i ∷ is) w = ap suc (within-length trip (before ++ i ∷ []) ls is w.2)

  abbrev candidate : ℕ → ℕ → Instance → Instance → Candidate
  candidate p q x y = record {
    from = record { statement = x.statement; reference = p };
    to = record { statement = y.statement; reference = q };
    vector = vector (common x.statement y.statement) x.iterations y.iterations;
  }

  begins : (x y : Instance) → Precedes common x y → MayBegin (vector (common x.statement y.statement) x.iterations y.iterations) x.statement y.statement
  begins x y (inl h) = carried_begins (common x.statement y.statement) h.0 x.iterations y.iterations x.statement y.statement h.1 h.2
  begins x y (inr h) = independent_begins (common x.statement y.statement) x.iterations y.iterations x.statement y.statement h.0 h.1

  depends_at : (x y : Instance) (level : Level) → ByLevel 0 (common x.statement y.statement) x.iterations y.iterations level → DependsAt common level x y
  depends_at x y (Carried m) h = let e : m ≡ 0 + h.0 = h.1 in subst (λ k. LessAt k x.iterations y.iterations) (let f : h.0 ≡ m = omega arith in f) h.2
  depends_at x y Independent h = h

  -- an edge from the one reference to the other asks for the order
  pub record Arced (arcs : List Arc) (p q : ℕ) (x y : Instance) : Type 0 where
    pub arc : Arc
    pub listed : In arc arcs
    pub from : arc.from ≡ record { statement = x.statement; reference = p }
    pub to : arc.to ≡ record { statement = y.statement; reference = q }
    pub asks : DependsAt common (level_after 0 arc.signs) x y

  pub complete_arc : (arcs : List Arc) → IsComplete loops_of common trip references Touches t arcs → (v : V) (x y : Instance) → IsInstanceAt loops_of common trip references Touches t v x → IsInstanceAt loops_of common trip references Touches t v y
      → Precedes common x y → (meet : Meet loops_of common trip references Touches t v x y) → Arced arcs meet.0 meet.1 x y
  complete_arc arcs complete v x y a b before meet =
      let n = common x.statement y.statement in
      let le : n ≤ length (loops_of x.statement) = common_left (loops_of x.statement) (loops_of y.statement) in
      let re : n ≤ length (loops_of y.statement) = common_right (loops_of x.statement) (loops_of y.statement) in
      let lx = within-length (trip v) [] (loops_of x.statement) x.iterations a.1 in
      let ly = within-length (trip v) [] (loops_of y.statement) y.iterations b.1 in
      let long_x : n ≤ length x.iterations = omega arith in
      let long_y : n ≤ length y.iterations = omega arith in
      let c = candidate meet.0 meet.1 x y in
      let len = vector-length n x.iterations y.iterations long_x long_y in
      let related = vector-related n x.iterations y.iterations long_x long_y in
      by len related (complete.covered c ((a.0, meet.4), (b.0, meet.5), meet.3, len, begins x y before)
      (record { values = v; first = x; second = y; cell = meet.2; first_is = (a, refl); second_is = (b, refl); related = related; touched = (meet.6, meet.7) }))
    where
      by : length (vector (common x.statement y.statement) x.iterations y.iterations) ≡ common x.statement y.statement
          → Related (vector (common x.statement y.statement) x.iterations y.iterations) x.iterations y.iterations
          → (a : Arc) × In a arcs × StandsFor a (candidate meet.0 meet.1 x y) → Arced arcs meet.0 meet.1 x y
      by len related h = record {
        arc = h.0;
        listed = h.1;
        from = h.2.0;
        to = h.2.1;
        asks = depends_at x y (level_after 0 h.0.signs) (by_level 0 (common x.statement y.statement) x.iterations y.iterations h.0.signs (vector (common x.statement y.statement) x.iterations y.iterations) len (complete.level h.0 h.1) h.2.2 related);
      }

  pub complete_covers : (arcs : List Arc) → IsComplete loops_of common trip references Touches t arcs → (v : V) (x y : Instance) → IsInstanceAt loops_of common trip references Touches t v x → IsInstanceAt loops_of common trip references Touches t v y
      → Precedes common x y → Meet loops_of common trip references Touches t v x y → Depends common (map edge_of arcs) x y
  complete_covers arcs complete v x y a b before meet =
      let r = complete_arc arcs complete v x y a b before meet in
      (edge_of r.arc, map-In edge_of r.arc arcs r.listed, (ap (λ (p : Place). p.statement) r.from, ap (λ (p : Place). p.statement) r.to, r.asks))

  -- ---- the edges are what emission asks of them

  may_lead : (n : ℕ) (s r c : ℕ) (signs : List Sign) (ds : List Direction) → n + length ds ≡ c → HasLevel signs → Covers signs ds → MayBegin ds s r → ByEdge s r c (level_after n signs)
  may_lead n s r c [] [] len p v b = b
  may_lead n s r c [] (d ∷ ds) len p v b = absurd v
  may_lead n s r c (Any ∷ signs) ds len p v b = absurd p
  may_lead n s r c (Just Greater ∷ signs) ds len p v b = absurd p
  may_lead n s r c (Just Less ∷ signs) [] len p v b = absurd v
  may_lead n s r c (Just Less ∷ signs) (d ∷ ds) len p v b = let e : n + suc (length ds) ≡ c = len in omega arith
  may_lead n s r c (Just Same ∷ signs) [] len p v b = absurd v
  may_lead n s r c (Just Same ∷ signs) (d ∷ ds) len p v b =
      may_lead (suc n) s r c signs ds (let e : n + suc (length ds) ≡ c = len in omega arith) p v.1 (subst (λ e. MayBegin (e ∷ ds) s r) (sym v.0) b)

  pub edges_may_be : (arcs : List Arc) → IsComplete loops_of common trip references Touches t arcs → Each (IsEdge loops_of) (map edge_of arcs)
  edges_may_be arcs complete = Each-from (IsEdge loops_of) (map edge_of arcs) (λ e i.
      let o = In-map edge_of e arcs i in
      let s = complete.stands o.it o.inside in
      let from : s.0.from.statement ≡ o.it.from.statement = ap (λ (p : Place). p.statement) (sym s.2.0) in
      let to : s.0.to.statement ≡ o.it.to.statement = ap (λ (p : Place). p.statement) (sym s.2.1) in
      subst (IsEdge loops_of) (sym o.is)
      (same o.it.from.statement o.it.to.statement (level_after 0 o.it.signs)
      (subst (λ k. ByEdge k o.it.to.statement (common k o.it.to.statement) (level_after 0 o.it.signs)) from
      (subst (λ k. ByEdge s.0.from.statement k (common s.0.from.statement k) (level_after 0 o.it.signs)) to
      (may_lead 0 s.0.from.statement s.0.to.statement (common s.0.from.statement s.0.to.statement) o.it.signs s.0.vector (let e : length s.0.vector ≡ common s.0.from.statement s.0.to.statement = s.1.3 in omega arith) (complete.level o.it o.inside) s.2.2 s.1.4)))))
    where
      same : (s r : ℕ) (level : Level) → ByEdge s r (common s r) level → LeadsInNest loops_of s r level
      same s r (Carried m) h = h
      same s r Independent h = h

  -- ---- instances at the same iterations of the first d loops

  -- where they meet, an edge that none of these loops carries leads from the one reference to the other
  pub meets_by_arc : (arcs : List Arc) → IsComplete loops_of common trip references Touches t arcs → (d : ℕ) (v : V) (x y : Instance)
      → IsInstanceAt loops_of common trip references Touches t v x → IsInstanceAt loops_of common trip references Touches t v y
      → SameUpTo d x.iterations y.iterations → Precedes common x y → (meet : Meet loops_of common trip references Touches t v x y)
      → (a : Arc) × In a arcs × (a.from ≡ record { statement = x.statement; reference = meet.0 }) × (a.to ≡ record { statement = y.statement; reference = meet.1 }) × Remains d (level_after 0 a.signs)
  meets_by_arc arcs complete d v x y a b same before meet =
      let arc = complete_arc arcs complete v x y a b before meet in
      (arc.arc, arc.listed, arc.from, arc.to, reached (level_after 0 arc.arc.signs) arc.asks)
    where
      deep : (d m : ℕ) (is js : List ℕ) → SameUpTo d is js → LessAt m is js → d ≤ m
      deep zero m is js h l = omega arith
      deep (suc d) m [] js h l = absurd h
      deep (suc d) m (i ∷ is) [] h l = absurd h
      deep (suc d) zero (i ∷ is) (j ∷ js) h l = absurd (let e : i ≡ j = h.0 in let f : i < j = l in omega arith)
      deep (suc d) (suc m) (i ∷ is) (j ∷ js) h l = let k = deep d m is js h.1 l.1 in omega arith

      reached : (level : Level) → DependsAt common level x y → Remains d level
      reached (Carried m) h = deep d m x.iterations y.iterations same h
      reached Independent h = tt
