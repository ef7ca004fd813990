-- Two instances that touch a common cell are related as an arc between these references says.
use Rattle.std.proofs.Common.{◌≡◌, refl, sym, ap, subst, ◌⊎◌, inl, inr, ℕ, zero, suc, ◌<◌, ◌≤◌, List, [], ◌∷◌, ◌++◌, length, arith}
use Rattle.nest_order.specs.orders.Graphs.{Any, Arc, Candidate, Covers, Direction, Greater, IsComplete, IsInstanceAt, Just, Less, MayBegin, Meet, Related, Same, Sign, StandsFor}
use Rattle.nest_order.specs.orders.Lists.{In}
use Rattle.nest_order.specs.orders.Nests.{Precedes, common}
use Rattle.nest_order.specs.orders.Shapes.{Instance, LessAt, SameUpTo, Shape, Within}
use Rattle.nest_order.proofs.orders.Emission.{split_order}
use Rattle.nest_order.proofs.orders.Sequence.{common_left, common_right}
use Rattle.interchange_laws.specs.orders.Vectors.{AreSigned, IsSigned}

abbrev direction_by : {i j : ℕ} → (i < j) ⊎ ((i ≡ j) ⊎ (j < i)) → Direction
direction_by (inl h) = Less
direction_by (inr (inl h)) = Same
direction_by (inr (inr h)) = Greater

abbrev vector : ℕ → List ℕ → List ℕ → List Direction
vector zero is js = []
vector (suc c) (i ∷ is) (j ∷ js) = direction_by (split_order i j) ∷ vector c is js
vector (suc c) _ _ = []

-- both have as many iterations
abbrev Long : ℕ → List ℕ → Type 0
Long c is = c ≤ length is

vector-length : (c : ℕ) (is js : List ℕ) → Long c is → Long c js → length (vector c is js) ≡ c
vector-length zero is js a b = refl
vector-length (suc c) [] js a b = absurd (omega arith)
vector-length (suc c) (i ∷ is) [] a b = absurd (omega arith)
vector-length (suc c) (i ∷ is) (j ∷ js) a b = ap suc (vector-length c is js (omega arith) (omega arith))

related_by : (i j : ℕ) (is js : List ℕ) (ds : List Direction) (h : (i < j) ⊎ ((i ≡ j) ⊎ (j < i))) → Related ds is js → Related (direction_by h ∷ ds) (i ∷ is) (j ∷ js)
related_by i j is js ds (inl h) r = (h, r)
related_by i j is js ds (inr (inl h)) r = (h, r)
related_by i j is js ds (inr (inr h)) r = (h, r)

vector-related : (c : ℕ) (is js : List ℕ) → Long c is → Long c js → Related (vector c is js) is js
vector-related zero is js a b = tt
vector-related (suc c) [] js a b = absurd (omega arith)
vector-related (suc c) (i ∷ is) [] a b = absurd (omega arith)
vector-related (suc c) (i ∷ is) (j ∷ js) a b = related_by i j is js (vector c is js) (split_order i j) (vector-related c is js (omega arith) (omega arith))

-- where the first instance precedes the second
begins_by : (i j s r : ℕ) (ds : List Direction) (h : (i < j) ⊎ ((i ≡ j) ⊎ (j < i))) → i ≡ j → MayBegin ds s r → MayBegin (direction_by h ∷ ds) s r
begins_by i j s r ds (inl h) e m = tt
begins_by i j s r ds (inr (inl h)) e m = m
begins_by i j s r ds (inr (inr h)) e m = absurd (omega arith)

less_begins : (i j s r : ℕ) (ds : List Direction) (h : (i < j) ⊎ ((i ≡ j) ⊎ (j < i))) → i < j → MayBegin (direction_by h ∷ ds) s r
less_begins i j s r ds (inl h) e = tt
less_begins i j s r ds (inr (inl h)) e = absurd (omega arith)
less_begins i j s r ds (inr (inr h)) e = absurd (omega arith)

carried_begins : (c m : ℕ) (is js : List ℕ) (s r : ℕ) → m < c → LessAt m is js → MayBegin (vector c is js) s r
carried_begins zero m is js s r a h = absurd (omega arith)
carried_begins (suc c) zero [] js s r a h = absurd h
carried_begins (suc c) (suc m) [] js s r a h = absurd h
carried_begins (suc c) zero (i ∷ is) [] s r a h = absurd h
carried_begins (suc c) (suc m) (i ∷ is) [] s r a h = absurd h
carried_begins (suc c) zero (i ∷ is) (j ∷ js) s r a h = less_begins i j s r (vector c is js) (split_order i j) h
carried_begins (suc c) (suc m) (i ∷ is) (j ∷ js) s r a h = begins_by i j s r (vector c is js) (split_order i j) h.0 (carried_begins c m is js s r (omega arith) h.1)

independent_begins : (c : ℕ) (is js : List ℕ) (s r : ℕ) → SameUpTo c is js → s < r → MayBegin (vector c is js) s r
independent_begins zero is js s r h less = less
independent_begins (suc c) [] js s r h less = absurd h
independent_begins (suc c) (i ∷ is) [] s r h less = absurd h
independent_begins (suc c) (i ∷ is) (j ∷ js) s r h less = begins_by i j s r (vector c is js) (split_order i j) h.0 (independent_begins c is js s r h.1 less)

pub within-length : (trip : ℕ → List ℕ → ℕ) (before ls is : List ℕ) → Within trip before ls is → length is ≡ length ls
within-length trip before [] [] w = refl
within-length trip before [] (i ∷ is) w = absurd w
within-length trip before (l ∷ ls) [] w = absurd w
within-length trip before (l ∷ ls) (i ∷ is) w = ap suc (within-length trip (before ++ i ∷ []) ls is w.2)

begins : (loops_of : ℕ → List ℕ) (x y : Instance) → Precedes (common loops_of) x y → MayBegin (vector (common loops_of x.statement y.statement) x.iterations y.iterations) x.statement y.statement
begins loops_of x y (inl h) = carried_begins (common loops_of x.statement y.statement) h.0 x.iterations y.iterations x.statement y.statement h.1 h.2
begins loops_of x y (inr h) = independent_begins (common loops_of x.statement y.statement) x.iterations y.iterations x.statement y.statement h.0 h.1

covered : (ds : List Sign) (es : List Direction) (is js : List ℕ) → Covers ds es → Related es is js → AreSigned ds is js
covered [] es is js c r = tt
covered (Any ∷ ds) [] is js c r = absurd c
covered (Just d ∷ ds) [] is js c r = absurd c
covered (d ∷ ds) (Less ∷ es) [] js c r = absurd r
covered (d ∷ ds) (Same ∷ es) [] js c r = absurd r
covered (d ∷ ds) (Greater ∷ es) [] js c r = absurd r
covered (d ∷ ds) (Less ∷ es) (i ∷ is) [] c r = absurd r
covered (d ∷ ds) (Same ∷ es) (i ∷ is) [] c r = absurd r
covered (d ∷ ds) (Greater ∷ es) (i ∷ is) [] c r = absurd r
covered (Any ∷ ds) (Less ∷ es) (i ∷ is) (j ∷ js) c r = (tt, covered ds es is js c r.1)
covered (Any ∷ ds) (Same ∷ es) (i ∷ is) (j ∷ js) c r = (tt, covered ds es is js c r.1)
covered (Any ∷ ds) (Greater ∷ es) (i ∷ is) (j ∷ js) c r = (tt, covered ds es is js c r.1)
covered (Just d ∷ ds) (Less ∷ es) (i ∷ is) (j ∷ js) c r = (subst (λ e. IsSigned (Just e) i j) (sym c.0) r.0, covered ds es is js c.1 r.1)
covered (Just d ∷ ds) (Same ∷ es) (i ∷ is) (j ∷ js) c r = (subst (λ e. IsSigned (Just e) i j) (sym c.0) r.0, covered ds es is js c.1 r.1)
covered (Just d ∷ ds) (Greater ∷ es) (i ∷ is) (j ∷ js) c r = (subst (λ e. IsSigned (Just e) i j) (sym c.0) r.0, covered ds es is js c.1 r.1)

abbrev pub candidate : (ℕ → List ℕ) → ℕ → ℕ → Instance → Instance → Candidate
candidate loops_of p q x y = record {
  from = record { statement = x.statement; reference = p };
  to = record { statement = y.statement; reference = q };
  vector = vector (common loops_of x.statement y.statement) x.iterations y.iterations;
}

pub record Joined (arcs : List Arc) (p q : ℕ) (x y : Instance) : Type 0 where
  pub arc : Arc
  pub listed : In arc arcs
  pub from : arc.from ≡ record { statement = x.statement; reference = p }
  pub to : arc.to ≡ record { statement = y.statement; reference = q }
  pub signed : AreSigned arc.signs x.iterations y.iterations

module _ {V X : Type 0} (loops_of : ℕ → List ℕ) (trip : V → ℕ → List ℕ → ℕ) (references : ℕ → ℕ) (Touches : V → ℕ → Instance → X → Type 0) (t : Shape) where
  pub meeting_is_joined : (arcs : List Arc) → IsComplete loops_of (common loops_of) trip references Touches t arcs → (v : V) (x y : Instance)
      → IsInstanceAt loops_of (common loops_of) trip references Touches t v x → IsInstanceAt loops_of (common loops_of) trip references Touches t v y
      → Precedes (common loops_of) x y → (meet : Meet loops_of (common loops_of) trip references Touches t v x y) → Joined arcs meet.0 meet.1 x y
  meeting_is_joined arcs complete v x y a b before meet =
      let n = common loops_of x.statement y.statement in
      let le : n ≤ length (loops_of x.statement) = common_left (loops_of x.statement) (loops_of y.statement) in
      let re : n ≤ length (loops_of y.statement) = common_right (loops_of x.statement) (loops_of y.statement) in
      let lx = within-length (trip v) [] (loops_of x.statement) x.iterations a.1 in
      let ly = within-length (trip v) [] (loops_of y.statement) y.iterations b.1 in
      let long_x : n ≤ length x.iterations = omega arith in
      let long_y : n ≤ length y.iterations = omega arith in
      let c = candidate loops_of meet.0 meet.1 x y in
      let len = vector-length n x.iterations y.iterations long_x long_y in
      let related = vector-related n x.iterations y.iterations long_x long_y in
      by related (complete.covered c ((a.0, meet.4), (b.0, meet.5), meet.3, len, begins loops_of x y before)
      (record { values = v; first = x; second = y; cell = meet.2; first_is = (a, refl); second_is = (b, refl); related = related; touched = (meet.6, meet.7) }))
    where
      by : Related (vector (common loops_of x.statement y.statement) x.iterations y.iterations) x.iterations y.iterations
          → (a : Arc) × In a arcs × StandsFor a (candidate loops_of meet.0 meet.1 x y) → Joined arcs meet.0 meet.1 x y
      by related h = record {
        arc = h.0;
        listed = h.1;
        from = h.2.0;
        to = h.2.1;
        signed = covered h.0.signs (vector (common loops_of x.statement y.statement) x.iterations y.iterations) x.iterations y.iterations h.2.2 related;
      }
