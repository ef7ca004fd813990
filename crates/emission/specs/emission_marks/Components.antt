-- The components of a dependence graph, level by level, and the statements that are alone (Allen and Kennedy,
-- "Optimizing Compilers for Modern Architectures", section 2.4).
use Rattle.std.specs.Prelude.{◌≡◌, ◌⊎◌, ⊤, ℕ, zero, suc, ◌+◌, ◌≤◌, true, false, All, List, [], ◌∷◌, length}
use Rattle.dependence_graph.specs.declared.graphs.Edge.{Edge}
use Rattle.dependence_graph.specs.declared.graphs.Hold.{Hold}
use Rattle.nest.specs.Plain.{Nest}
use Rattle.emission.specs.emission_pieces.Levels.{is_hold_of, is_own, leads}
use Rattle.emission.specs.emission_pieces.Nests.{loops_at}

module _ (edges : List Edge) where
  -- by edges at work at the level k, over the statements qs to r; all of them but s have the property
  abbrev pub IsWalk : ℕ → (ℕ → Type 0) → ℕ → List ℕ → ℕ → Type 0
  IsWalk k Has s [] r = s ≡ r
  IsWalk k Has s (q ∷ qs) r = (leads edges k s q ≡ true) × Has q × IsWalk k Has q qs r

  abbrev pub ReachesInLevel : ℕ → (ℕ → Type 0) → ℕ → ℕ → Type 0
  ReachesInLevel k Has s r = (qs : List ℕ) × IsWalk k Has s qs r

  -- r stands in the component of s at the level k: at the level 1 with all statements that lead to it and to which it
  -- leads, at each further level with those of its component before that still do
  abbrev pub IsWith : ℕ → ℕ → ℕ → Type 0
  IsWith zero s r = ⊤
  IsWith (suc k) s r = ReachesInLevel (suc k) (IsWith k s) s r × ReachesInLevel (suc k) (IsWith k s) r s

module _ (n : Nest) (edges : List Edge) (holds : List Hold) where
  -- its component at the level k is itself, no flow or output dependence on itself is at work there, and no hold of it
  -- is listed there
  pub record IsAloneAt (s k : ℕ) : Type 0 where
    pub first : 1 ≤ k
    pub last : k ≤ length (loops_at n s)
    pub alone : (r : ℕ) → IsWith edges k s r → r ≡ s
    pub free : All (λ (e : Edge). is_own k s e ≡ false) edges
    pub held : All (λ (h : Hold). is_hold_of k s h ≡ false) holds

  pub record IsLeastAlone (s k : ℕ) : Type 0 where
    pub alone : IsAloneAt s k
    pub least : (j : ℕ) → IsAloneAt s j → k ≤ j

  pub record IsNeverAlone (s k : ℕ) : Type 0 where
    pub behind : k ≡ length (loops_at n s) + 1
    pub never : (j : ℕ) → IsAloneAt s j → ⊥

  -- the least level at which the statement is alone, or the one behind its last loop
  abbrev pub IsLevel : ℕ → ℕ → Type 0
  IsLevel s k = IsLeastAlone s k ⊎ IsNeverAlone s k
