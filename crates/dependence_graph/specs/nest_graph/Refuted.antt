-- Where two references can't meet, by the tests of Goff, Kennedy and Tseng (1991).
use Rattle.std.specs.Prelude.{◌≡◌, ◌⊎◌, ℕ, ℤ, pos, ◌+ℤ◌, ◌-ℤ◌, ◌*ℤ◌, ◌<ℤ◌, ◌≤ℤ◌, unsigned_abs, Option, None}
use Rattle.std.specs.Prelude.{IsSomeAnd, IfSome, All, List, [], ◌++◌, length, take, slice_get, slice_index_or}
use Rattle.std.specs.List.{AllZip}
use Prim.Native.Nat.{◌∣◌}
use Rattle.subscripts.specs.Forms.{AreRelated}
use Rattle.subscripts.specs.Iterations.{IsRelated}
use Rattle.subscripts.specs.declared.affine.Dir.{Dir}
use Rattle.subscripts.specs.declared.affine.Dir.TheVariants.{Lt, Gt, Any}
use Rattle.linear_forms.specs.Linear.{number_at}
use Rattle.nest.specs.Bodies.{Standing}
use Rattle.dependence_graph.specs.nest_graph.Indices.{Contains, First, Index, IsPairAt, IsSivIn, IsZiv, Second, Shared}
use Rattle.dependence_graph.specs.nest_graph.Indices.{SubscriptPair, first_of, second_of, subscript_pairs}
use Rattle.dependence_graph.specs.nest_graph.Indices.{symbol_difference}
use Rattle.dependence_graph.specs.nest_graph.Tested.{Both}
use Rattle.dependence_graph.specs.nest_graph.Touched.{symbol_values_from}
use Rattle.dependence_graph.specs.nest_graph.Trips.{HasConstantTrip, lasts_of}

-- the class in which the tests are exact: each pair of subscripts has one index variable or none, and all trips are
-- constants
pub record IsExactClass (b : Both) : Type 0 where
  pub subscripts : All (λ o. IsSomeAnd o (λ p. IsZiv b p ⊎ ((i : Index) × IsSivIn b p i))) (subscript_pairs b)
  pub first_trips : All HasConstantTrip b.first.loops
  pub second_trips : All HasConstantTrip b.second.loops

-- ---- loops that end early

-- the last iterations of the loops round a statement, as far as they are known
abbrev pub lasts_round : Standing → List (Option ℤ)
lasts_round s = lasts_of [] s.loops

abbrev pub last_at : Standing → ℕ → Option ℤ
last_at s k = slice_index_or (lasts_round s) k None

abbrev pub EndsBefore : ℤ → Option ℤ → Type 0
EndsBefore n last = IsSomeAnd last (λ m. m <ℤ n)

-- the two iterations differ
abbrev pub IsCarrying : Dir → Type 0
IsCarrying d = (d ≡ Lt) ⊎ (d ≡ Gt)

-- a loop has no iteration, or a single one where the vector asks for two
abbrev pub HasNoTrip : Both → List Dir → Type 0
HasNoTrip b v =
    (k : ℕ)
    × (EndsBefore (pos 1) (last_at b.first k)
    ⊎ (EndsBefore (pos 1) (last_at b.second k)
    ⊎ (IsCarrying (slice_index_or v k Any) × EndsBefore (pos 2) (last_at b.first k))))

-- ---- iterations

abbrev pub IsWithin : Option ℤ → ℤ → Type 0
IsWithin last i = (pos 1 ≤ℤ i) × IfSome last (λ n. i ≤ℤ n)

-- iterations of the loops round each reference, related as the vector says
pub record IsInVector (b : Both) (v : List Dir) (x y : List ℤ) : Type 0 where
  pub first : AllZip IsWithin (lasts_round b.first) x
  pub second : AllZip IsWithin (lasts_round b.second) y
  pub related : AreRelated v x y

-- the first side of a pair less the second, where the symbols have these values
abbrev pub pair_difference : Both → SubscriptPair → (ℕ → ℤ) → List ℤ → List ℤ → ℤ
pair_difference b p values x y =
    number_at p.first (x ++ symbol_values_from values 0 b.symbols)
    -ℤ number_at p.second (y ++ symbol_values_from values 0 b.symbols)

abbrev pub AreEqual : Both → SubscriptPair → List ℤ → List ℤ → Type 0
AreEqual b p x y = (values : ℕ → ℤ) × (pair_difference b p values x y ≡ pos 0)

abbrev pub AreNeverEqual : Both → List Dir → SubscriptPair → Type 0
AreNeverEqual b v p = (x y : List ℤ) → IsInVector b v x y → AreEqual b p x y → ⊥

-- ---- the tests of one pair

-- d divides the coefficients of all loops, and how much more of each symbol the first side has
pub record DividesAll (d : ℕ) (b : Both) (p : SubscriptPair) : Type 0 where
  pub first : All (λ a. d ∣ unsigned_abs a) (take (length b.first.loops) p.first.coefficients)
  pub second : All (λ a. d ∣ unsigned_abs a) (take (length b.second.loops) p.second.coefficients)
  pub symbols : (k : ℕ) → d ∣ unsigned_abs (symbol_difference b p k)

pub record HasGcd (b : Both) (p : SubscriptPair) (g : ℕ) : Type 0 where
  pub divides : DividesAll g b p
  pub greatest : (d : ℕ) → DividesAll d b p → d ∣ g

-- the GCD test: it doesn't divide the difference of the constants
abbrev pub IsRefutedByGcd : Both → SubscriptPair → Type 0
IsRefutedByGcd b p = (g : ℕ) × (HasGcd b p g × (g ∣ unsigned_abs (p.second.constant -ℤ p.first.constant) → ⊥))

-- Banerjee's: the first side is above the second at all iterations, or below it
abbrev pub IsOneSided : Both → List Dir → SubscriptPair → Type 0
IsOneSided b v p =
    ((values : ℕ → ℤ) (x y : List ℤ) → IsInVector b v x y → pos 0 <ℤ pair_difference b p values x y)
    ⊎ ((values : ℕ → ℤ) (x y : List ℤ) → IsInVector b v x y → pair_difference b p values x y <ℤ pos 0)

pub record IsRefutedByPair (b : Both) (v : List Dir) : Type 0 where
  pub at : ℕ
  pub pair : SubscriptPair
  pub is_at : IsPairAt b at pair
  pub refuted : IsRefutedByGcd b pair ⊎ IsOneSided b v pair

-- ---- one loop

-- the loop whose variable it is, how far that goes, and its direction, if it stands round both
abbrev pub HasConstantLoop : Both → Index → Type 0
HasConstantLoop b (Shared k) = IsSomeAnd (slice_get b.first.loops k) HasConstantTrip
HasConstantLoop b (First k) = IsSomeAnd (slice_get b.first.loops k) HasConstantTrip
HasConstantLoop b (Second k) = IsSomeAnd (slice_get b.second.loops k) HasConstantTrip

abbrev pub last_of_index : Both → Index → Option ℤ
last_of_index b (Shared k) = last_at b.first k
last_of_index b (First k) = last_at b.first k
last_of_index b (Second k) = last_at b.second k

abbrev pub direction_of : List Dir → Index → Dir
direction_of v (Shared k) = slice_index_or v k Any
direction_of v (First k) = Any
direction_of v (Second k) = Any

-- iterations of the loop, related as the vector says
pub record IsInLoop (b : Both) (v : List Dir) (i : Index) (x y : ℤ) : Type 0 where
  pub first : IsWithin (last_of_index b i) x
  pub second : IsWithin (last_of_index b i) y
  pub related : IsRelated (direction_of v i) x y

-- both sides of a pair without another index variable are equal there
abbrev pub SolvesAt : SubscriptPair → Index → ℤ → ℤ → Type 0
SolvesAt p i x y = first_of p i *ℤ x +ℤ p.first.constant ≡ second_of p i *ℤ y +ℤ p.second.constant

-- a loop with a constant trip whose variable stands alone in each pair that contains it, where none of its iterations
-- make the sides of all these equal
pub record IsRefutedByOneLoop (b : Both) (v : List Dir) : Type 0 where
  pub index : Index
  pub constant : HasConstantLoop b index
  pub at : ℕ
  pub pair : SubscriptPair
  pub is_at : IsPairAt b at pair
  pub contained : Contains b pair index
  pub alone : (k : ℕ) (p : SubscriptPair) → IsPairAt b k p → Contains b p index → IsSivIn b p index
  pub none : (x y : ℤ) → IsInLoop b v index x y
      → ((k : ℕ) (p : SubscriptPair) → IsPairAt b k p → Contains b p index → SolvesAt p index x y) → ⊥

abbrev pub IsRefuted : Both → List Dir → Type 0
IsRefuted b v = HasNoTrip b v ⊎ (IsRefutedByPair b v ⊎ IsRefutedByOneLoop b v)
