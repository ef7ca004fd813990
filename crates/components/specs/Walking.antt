-- The state of a walk over the pairs of a graph: a path of blocks, in each of which all numbers reach one another.
use Rattle.std.specs.Prelude.{◌≡◌, ◌↔◌, ◌⊎◌, ◌<◌, ◌≤◌, ◌+◌, ◌-◌, ℕ, suc, Bool, true, false, Option, Some, None}
use Rattle.std.specs.Prelude.{List, [], ◌∷◌, ◌++◌, length, take, slice_index_or}
use Rattle.components.specs.Lists.{IsMember, Pairwise}
use Rattle.components.specs.Reachability.{Reaches}
use Rattle.components.specs.declared.walk.NodeState.{NodeState}
use Rattle.components.specs.declared.walk.NodeState.TheVariants.{New, At, Done}
use Rattle.components.specs.declared.walk.Walk.{Walk}
use Rattle.components.specs.Labels.{at}
use Rattle.components.specs.Targets.{row, leads}

-- what is known of a number
abbrev pub mark : List NodeState → ℕ → NodeState
mark marks v = slice_index_or marks v New

-- a block begins behind place j, and no later than at place i
abbrev pub Between : List (ℕ × ℕ) → ℕ → ℕ → Type 0
Between starts j i = (b : ℕ × ℕ) × IsMember b starts × (j < b.0) × (b.0 ≤ i)

-- x, to which a pair leads from place i, has its class, or stands on the path, in the same block or behind it, or is to
-- be looked at with its block
abbrev pub IsMet : List NodeState → List ℕ → List ℕ → List (ℕ × ℕ) → ℕ → ℕ → Type 0
IsMet marks path work starts i x =
    ((d : ℕ) × (mark marks x ≡ Done d))
    ⊎ (((j : ℕ) × (j < length path) × (at path j ≡ x) × (Between starts j i → ⊥))
    ⊎ ((k : ℕ) × (k < length work) × (at work k ≡ x) × ((b : ℕ × ℕ) → IsMember b starts → b.0 ≤ i → b.1 ≤ k)))

-- Each block of the path begins at a place of the path and a place of what is to be looked at. Those in `more` are
-- looked at next.
pub record IsWalk (n : ℕ) (pairs : List (ℕ × ℕ)) (more : List ℕ) (marks : List NodeState) (path work : List ℕ)
    (starts : List (ℕ × ℕ)) (count : ℕ) : Type 0 where
  pub size : length marks ≡ n
  pub placed : (i : ℕ) → i < length path → mark marks (at path i) ≡ At i
  pub on_path : (v i : ℕ) → mark marks v ≡ At i → (i < length path) × (at path i ≡ v)
  -- classes
  pub numbered : (v c : ℕ) → mark marks v ≡ Done c → c < count
  pub met : (c : ℕ) → c < count → (v : ℕ) × (mark marks v ≡ Done c)
  pub together : (a b c : ℕ) → mark marks a ≡ Done c → mark marks b ≡ Done c → Reaches pairs a b
  pub closed : (a b c : ℕ) → IsMember (a, b) pairs → mark marks a ≡ Done c → (d : ℕ) × (mark marks b ≡ Done d) × (d ≤ c)
  -- the path
  pub onward : (i j : ℕ) → i ≤ j → j < length path → Reaches pairs (at path i) (at path j)
  pub joined : (i j : ℕ) → i ≤ j → j < length path → (Between starts i j → ⊥) → Reaches pairs (at path j) (at path i)
  -- blocks
  pub rising : Pairwise (λ b c. b.0 < c.0) starts
  pub inside : (b : ℕ × ℕ) → IsMember b starts → (b.0 < length path) × (b.1 ≤ length work)
  pub first : 0 < length path → (t : ℕ) × IsMember (0, t) starts
  -- pairs
  pub sources : (k : ℕ) → k < length work
      → (i : ℕ) × (i < length path) × IsMember (at path i, at work k) pairs
      × ((b : ℕ × ℕ) → IsMember b starts → (b.1 ≤ k) ↔ (b.0 ≤ i))
  pub gone : (i x : ℕ) → i < length path → IsMember (at path i, x) pairs
      → IsMet marks path work starts i x ⊎ IsMember x more
  pub ahead : (i x : ℕ) → i < length path → IsMember x more → Reaches pairs (at path i) x

-- the numbers that are not met yet, each with its weight
abbrev pub weight : (ℕ → ℕ) → List NodeState → ℕ
weight f [] = 0
weight f (New ∷ marks) = f 0 + weight (λ v. f (suc v)) marks
weight f (At i ∷ marks) = weight (λ v. f (suc v)) marks
weight f (Done c ∷ marks) = weight (λ v. f (suc v)) marks

abbrev pub cost : List (List ℕ) → ℕ → ℕ
cost rows v = length (row rows v) + 2

-- each number of the path has a mark
abbrev pub AreListed : Walk → Type 0
AreListed w = (i : ℕ) → i < length w.path.items → at w.path.items i < length w.marks.items

-- the same of a walk over a table
abbrev pub IsWalking : List (List ℕ) → List ℕ → Walk → Type 0
IsWalking rows more w =
    IsWalk (length rows) (leads rows) more w.marks.items w.path.items w.work.items w.starts.items w.count
    × (weight (λ v. 1) w.marks.items + length w.path.items + w.count ≤ length rows)

-- what is still to be done
abbrev pub left : List (List ℕ) → Walk → ℕ
left rows w = weight (cost rows) w.marks.items + length w.work.items + length w.starts.items

-- a part of the walk: what is met stays so
pub record GoesOn (rows : List (List ℕ)) (old new : Walk) : Type 0 where
  pub is : IsWalking rows [] new
  pub keeps : (v : ℕ) → mark new.marks.items v ≡ New → mark old.marks.items v ≡ New
  pub less : left rows new ≤ left rows old

-- ---- what parts of the walk do

-- the starts up to a place
pub record DropsAfter (place : ℕ) (old new : List (ℕ × ℕ)) : Type 0 where
  pub rising : Pairwise (λ b c. b.0 < c.0) new
  pub from : (b : ℕ × ℕ) → IsMember b new → IsMember b old × (b.0 ≤ place)
  pub kept : (b : ℕ × ℕ) → IsMember b old → b.0 ≤ place → IsMember b new
  pub fewer : length new ≤ length old

-- what stands on the path from a place on has its class now
pub record IsClosed (old : List NodeState) (path : List ℕ) (start class : ℕ) (new : List NodeState) : Type 0 where
  pub size : length new ≡ length old
  pub gets : (i : ℕ) → start ≤ i → i < length path → mark new (at path i) ≡ Done class
  pub others : (v : ℕ) → ((i : ℕ) → start ≤ i → i < length path → at path i ≡ v → ⊥) → mark new v ≡ mark old v
  pub lighter : (f : ℕ → ℕ) → weight f new ≤ weight f old

abbrev pub without_last : List (ℕ × ℕ) → List (ℕ × ℕ)
without_last starts = take (length starts - 1) starts

-- the last block has left the path
pub record Leaves (start : ℕ) (old new : Walk) : Type 0 where
  pub path : new.path.items ≡ take start old.path.items
  pub marks : IsClosed old.marks.items old.path.items start old.count new.marks.items
  pub starts : new.starts.items ≡ without_last old.starts.items
  pub work : new.work.items ≡ old.work.items
  pub count : new.count ≡ old.count + 1

abbrev pub IsLast : Option (ℕ × ℕ) → List (ℕ × ℕ) → Type 0
IsLast None starts = starts ≡ []
IsLast (Some b) starts = starts ≡ without_last starts ++ b ∷ []

-- one step, or where there is none to do the end
abbrev pub Steps : List (List ℕ) → Walk → Walk → Bool → Type 0
Steps rows old new some =
    GoesOn rows old new × (some ≡ true → left rows new < left rows old) × (some ≡ false → new.path.items ≡ [])

abbrev pub RunsOut : List (List ℕ) → Walk → Walk → Type 0
RunsOut rows old new = GoesOn rows old new × (new.path.items ≡ [])

abbrev pub label_of : NodeState → ℕ
label_of New = 0
label_of (At i) = 0
label_of (Done c) = c
