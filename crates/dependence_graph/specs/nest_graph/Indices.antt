-- The subscripts of two references, place by place, and their index variables (Allen and Kennedy, "Optimizing Compilers
-- for Modern Architectures", section 3.2).
use Rattle.std.specs.Prelude.{◌≡◌, ◌⊎◌, ℕ, ◌+◌, ◌<◌, ◌≤◌, ℤ, pos, ◌-ℤ◌, Option, Some, None}
use Rattle.std.specs.Prelude.{List, [], ◌∷◌, length, slice_get, slice_index_or}
use Rattle.subscripts.specs.declared.verdict.Test.{Test}
use Rattle.subscripts.specs.declared.verdict.Test.TheVariants.{Ziv, Strong, WeakZero, Crossing, Siv, Miv, Unknown}
use Rattle.tree.specs.Plain.{Only, Section, Subscript, Subscripts, no_subscripts, subscript}
use Rattle.linear_forms.specs.Linear.{Form, form_of}
use Rattle.dependence_graph.specs.nest_graph.References.{variables_round}
use Rattle.dependence_graph.specs.nest_graph.Tested.{Both, common_of}

-- ---- pairs of subscripts

-- two subscripts in one place, both linear in the variables of the loops round the reference and in the symbols
pub record SubscriptPair : Type 0 where
  pub first : Form
  pub second : Form

-- the form of a subscript, where it is linear
abbrev pub linear_subscript_form : List (List ℕ) → List (List ℕ) → Subscript → Option Form
linear_subscript_form loops symbols (Only e) = form_of loops symbols e
linear_subscript_form loops symbols (Section a b s) = None

abbrev pub paired_forms : Option Form → Option Form → Option SubscriptPair
paired_forms None g = None
paired_forms (Some f) None = None
paired_forms (Some f) (Some g) = Some (record { first = f; second = g })

abbrev pub pairs_in : Both → Subscripts → Subscripts → List (Option SubscriptPair)
pairs_in b no_subscripts ts = []
pairs_in b (subscript s ss) no_subscripts = []
pairs_in b (subscript s ss) (subscript t ts) =
    paired_forms (linear_subscript_form (variables_round b.first) b.symbols s)
    (linear_subscript_form (variables_round b.second) b.symbols t)
    ∷ pairs_in b ss ts

-- none where one of the two isn't linear
abbrev pub subscript_pairs : Both → List (Option SubscriptPair)
subscript_pairs b = pairs_in b b.first_reference.subscripts b.second_reference.subscripts

-- ---- index variables

-- the variable of a loop, by the loop's place from the outside in: of one round both references, or of one further in
-- that stands round the first or the second alone
pub data Index : Type 0 where
  Shared : ℕ → Index
  First : ℕ → Index
  Second : ℕ → Index

abbrev pub IsIndex : Both → Index → Type 0
IsIndex b (Shared k) = k < common_of b.first.loops b.second.loops
IsIndex b (First k) = (common_of b.first.loops b.second.loops ≤ k) × (k < length b.first.loops)
IsIndex b (Second k) = (common_of b.first.loops b.second.loops ≤ k) × (k < length b.second.loops)

abbrev pub coefficient_at : Form → ℕ → ℤ
coefficient_at f k = slice_index_or f.coefficients k (pos 0)

-- its coefficient on each side; 0 on a side that its loop doesn't stand round
abbrev pub first_of : SubscriptPair → Index → ℤ
first_of p (Shared k) = coefficient_at p.first k
first_of p (First k) = coefficient_at p.first k
first_of p (Second k) = pos 0

abbrev pub second_of : SubscriptPair → Index → ℤ
second_of p (Shared k) = coefficient_at p.second k
second_of p (First k) = pos 0
second_of p (Second k) = coefficient_at p.second k

-- the pair contains it
pub record Contains (b : Both) (p : SubscriptPair) (i : Index) : Type 0 where
  pub index : IsIndex b i
  pub some : first_of p i ≡ pos 0 → second_of p i ≡ pos 0 → ⊥

-- how much more of a symbol the first side has, whose coefficients stand behind those of the loops
abbrev pub symbol_difference : Both → SubscriptPair → ℕ → ℤ
symbol_difference b p k =
    coefficient_at p.first (length b.first.loops + k) -ℤ coefficient_at p.second (length b.second.loops + k)

-- ---- classes

-- the symbols cancel
abbrev pub Cancels : Both → SubscriptPair → Type 0
Cancels b p = (k : ℕ) → symbol_difference b p k ≡ pos 0

-- no index variable
pub record IsZiv (b : Both) (p : SubscriptPair) : Type 0 where
  pub cancels : Cancels b p
  pub none : (i : Index) → Contains b p i → ⊥

-- a single one
pub record IsSivIn (b : Both) (p : SubscriptPair) (i : Index) : Type 0 where
  pub cancels : Cancels b p
  pub contained : Contains b p i
  pub alone : (j : Index) → Contains b p j → j ≡ i

-- a single one, with such coefficients
abbrev pub IsSivWhere : (ℤ → ℤ → Type 0) → Both → SubscriptPair → Type 0
IsSivWhere P b p = (i : Index) × (IsSivIn b p i × P (first_of p i) (second_of p i))

abbrev pub IsWeakZero : ℤ → ℤ → Type 0
IsWeakZero a c = (a ≡ pos 0) ⊎ (c ≡ pos 0)

abbrev pub IsWeakCrossing : ℤ → ℤ → Type 0
IsWeakCrossing a c = a ≡ pos 0 -ℤ c

pub record IsGeneral (a c : ℤ) : Type 0 where
  pub not_strong : a ≡ c → ⊥
  pub not_zero : IsWeakZero a c → ⊥
  pub not_crossing : IsWeakCrossing a c → ⊥

-- several, where symbols that don't cancel are as index variables
pub record IsMiv (b : Both) (p : SubscriptPair) : Type 0 where
  pub not_ziv : IsZiv b p → ⊥
  pub not_siv : (i : Index) → IsSivIn b p i → ⊥

-- a class has the name of its test
abbrev pub HasClass : Both → Option SubscriptPair → Test → Type 0
HasClass b None w = w ≡ Unknown
HasClass b (Some p) Ziv = IsZiv b p
HasClass b (Some p) Strong = IsSivWhere (λ a c. a ≡ c) b p
HasClass b (Some p) WeakZero = IsSivWhere IsWeakZero b p
HasClass b (Some p) Crossing = IsSivWhere IsWeakCrossing b p
HasClass b (Some p) Siv = IsSivWhere IsGeneral b p
HasClass b (Some p) Miv = IsMiv b p
HasClass b (Some p) w = ⊥

-- ---- coupled pairs

-- the linear pair in this place
abbrev pub IsPairAt : Both → ℕ → SubscriptPair → Type 0
IsPairAt b k p = slice_get (subscript_pairs b) k ≡ Some (Some p)

-- the pairs in two places contain one index variable
pub record AreCoupled (b : Both) (k m : ℕ) : Type 0 where
  pub first : SubscriptPair
  pub second : SubscriptPair
  pub first_is : IsPairAt b k first
  pub second_is : IsPairAt b m second
  pub index : Index
  pub in_first : Contains b first index
  pub in_second : Contains b second index

-- coupled with no other
abbrev pub IsSeparable : Both → ℕ → Type 0
IsSeparable b k = (m : ℕ) → AreCoupled b k m → m ≡ k

-- from one place by these, one after the other, to another, each coupled with the next
abbrev pub IsChain : Both → ℕ → List ℕ → ℕ → Type 0
IsChain b k [] m = k ≡ m
IsChain b k (j ∷ js) m = AreCoupled b k j × IsChain b j js m

-- what holds of each pair in the group of the one in this place, those with which it is coupled, also through others
abbrev pub EachGrouped : Both → ℕ → (SubscriptPair → Type 0) → Type 0
EachGrouped b k P =
    (m : ℕ) (p : SubscriptPair) (between : List ℕ) → IsChain b k between m → IsPairAt b m p → P p
