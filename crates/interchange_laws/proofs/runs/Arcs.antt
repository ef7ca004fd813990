-- The arcs of a chain of loops have an entry for each loop.
use Rattle.std.proofs.Common.{◌≡◌, refl, sym, ap, ◌∙◌, subst, ℕ, suc, ◌<◌, List, [], ◌∷◌, length}
use Rattle.nest_order.specs.orders.Graphs.{Any, Arc, Candidate, Covers, Direction, IsComplete, Just, MayBegin, Place, Same, Sign}
use Rattle.nest_order.specs.orders.Lists.{In}
use Rattle.nest_order.specs.orders.Nests.{IsNest, common}
use Rattle.nest_order.specs.orders.Shapes.{Shape, common_of, statements}
use Rattle.nest_order.proofs.orders.Common.{statement_stands}
use Rattle.interchange_laws.specs.orders.Laws.{IsChainArc}
use Rattle.interchange_laws.specs.orders.Moves.{chain_of}
use Rattle.interchange_laws.specs.orders.Vectors.{AllSame}
use Rattle.interchange_laws.proofs.orders.Chains.{HasLoop, common_all, stands_in_chain}

covers_length : (ss : List Sign) (ds : List Direction) → Covers ss ds → length ss ≡ length ds
covers_length [] [] h = refl
covers_length [] (d ∷ ds) h = absurd h
covers_length (Any ∷ ss) [] h = absurd h
covers_length (Just e ∷ ss) [] h = absurd h
covers_length (Any ∷ ss) (d ∷ ds) h = ap suc (covers_length ss ds h)
covers_length (Just e ∷ ss) (d ∷ ds) h = ap suc (covers_length ss ds h.1)

just : (d e : Direction) → ◌≡◌ {A = Sign} (Just d) (Just e) → d ≡ e
just d e f = cc

any_just : (e : Direction) → ◌≡◌ {A = Sign} Any (Just e) → ⊥
any_just e f = cc

same_begins : (ss : List Sign) (ds : List Direction) (s r : ℕ) → Covers ss ds → AllSame ss → MayBegin ds s r → s < r
same_begins [] [] s r c h m = m
same_begins [] (d ∷ ds) s r c h m = absurd c
same_begins (Any ∷ ss) ds s r c h m = absurd (any_just Same h.0)
same_begins (Just e ∷ ss) [] s r c h m = absurd c
same_begins (Just e ∷ ss) (d ∷ ds) s r c h m = same_begins ss ds s r c.1 h.1 (subst (λ z. MayBegin (z ∷ ds) s r) (sym c.0 ∙ just e Same h.0) m)

module _ {V X : Type 0} (loops_of : ℕ → List ℕ) (trip : V → ℕ → List ℕ → ℕ) (references : ℕ → ℕ) (Touches : V → ℕ → Rattle.nest_order.specs.orders.Shapes.Instance → X → Type 0)
    (ls ss : List ℕ) (has : HasLoop ls) (t : Shape) (is : t ≡ chain_of ls ss) (nest : IsNest loops_of t) where
  pub loops_are : (s : ℕ) → In s (statements t) → loops_of s ≡ ls
  loops_are s i =
      let h = statement_stands t s i in
      nest.fits s h.0 h.1 ∙ sym (stands_in_chain ls ss s h.0 has (subst (λ z. Rattle.nest_order.specs.orders.Shapes.Stands z s h.0) is h.1))

  pub chain_arc : (arcs : List Arc) → IsComplete loops_of (common loops_of) trip references Touches t arcs → (a : Arc) → In a arcs → IsChainArc (length ls) a
  chain_arc arcs complete a i =
      let h = complete.stands a i in
      let c : Candidate = h.0 in
      let e : common_of (loops_of c.from.statement) (loops_of c.to.statement) ≡ common_of ls ls =
      ap (λ zs. common_of zs (loops_of c.to.statement)) (loops_are c.from.statement h.1.0.0) ∙ ap (common_of ls) (loops_are c.to.statement h.1.1.0) in
      record {
        long = covers_length a.signs c.vector h.2.2 ∙ (h.1.3 ∙ (e ∙ common_all ls));
        forward = λ same. subst (λ k. k < a.to.statement) (ap (λ (p : Place). p.statement) (sym h.2.0)) (subst (λ k. c.from.statement < k) (ap (λ (p : Place). p.statement) (sym h.2.1)) (same_begins a.signs c.vector c.from.statement c.to.statement h.2.2 same h.1.4));
      }
