-- Two runs beside each other, from moment to moment (Benton, Simple Relational Correctness Proofs, POPL 2004).
use Rattle.std.specs.Prelude.{◌≡◌, ℕ}
use Rattle.meaning.specs.Run.{State, Act, Going}
use Rattle.meaning.specs.Store.{Store}
use Rattle.rewrite.specs.Following.{IsSound}

-- the first run has gone on, and the second one with it: what the stores are to each other afterwards; all else is the
-- same but the number of steps
pub record Led (after : Store → Store → Type 0) (s t : State) : Type 0 where
  pub stores : after s.store t.store
  pub rest : t ≡ record s { store = t.store; steps = t.steps }
  pub going : s.way ≡ Going

-- from stores that are so to each other, where the first act meets no fault both go on, to stores that are so
pub record Leads (before after : Store → Store → Type 0) (f g : Act) : Type 0 where
  pub at : (s : State) (u : Store) (n : ℕ) → s.way ≡ Going → before s.store u → IsSound (f s).way
      → Led after (f s) (g (record s { store = u; steps = n }))
