-- A loop leads on where what the stores are to each other fits from turn to turn.
use Rattle.std.proofs.Common.{arith, ◌≡◌, refl, ap, ◌∙◌, ℕ, suc, pos, true, false, Bool, ◌&&◌, cond, List, [], ◌∷◌, ◌++◌}
use Rattle.std.specs.List.{AllByRecursion}
use Rattle.std.specs.Str.{bytes_eq}
use Rattle.std.specs.Cmp.Lexicographic.{pointwise}
use Rattle.std.specs.Ordering.{int_eq}
use Rattle.std.proofs.lemmas.Slice.Eq.{bytes_eq-Decides}
use Rattle.tree.specs.declared.ops.Value.{Value}
use Rattle.tree.specs.declared.ops.Value.TheVariants.{Int}
use Rattle.meaning.specs.Store.{Store, Cell, put}
use Rattle.nest.specs.Plain.{Loop, Guarded}
use Rattle.nest_steps.specs.Statements.{cell_of}
use Rattle.nest_steps.specs.Mapped.{LoopLeads, set}
use Rattle.nest_steps.proofs.Loops.{Counts}
use Rattle.nest_steps.specs.Rounds.{Hold, InLoops, IsSteady, Turning}

other_held : (c : Cell) (w : Value) (s : Store) (x : List ℕ) → bytes_eq c.name x ≡ false → (put c w s).held (cell_of x) ≡ s.held (cell_of x)
other_held c w s x e = ap (λ b. cond (b && pointwise int_eq c.subscripts []) w (s.held (cell_of x))) e

own_held : (x : List ℕ) (w : Value) (s : Store) → (put (cell_of x) w s).held (cell_of x) ≡ w
own_held x w s = ap (λ b. cond (b && true) w (s.held (cell_of x))) ((bytes_eq-Decides x x).1 refl)

-- a cell of no variable is changed
pub hold_put : (c : Cell) (w : Value) (ls : List Loop) (is : List ℕ) (s : Store) → AllByRecursion (λ (o : Loop). bytes_eq c.name o.variable ≡ false) ls → Hold ls is s → Hold ls is (put c w s)
hold_put c w [] [] s a h = tt
hold_put c w [] (i ∷ is) s a h = absurd h
hold_put c w (l ∷ ls) [] s a h = absurd h
hold_put c w (l ∷ ls) (i ∷ is) s a h = (other_held c w s l.variable a.0 ∙ h.0, hold_put c w ls is s a.1 h.1)

-- one loop more
hold_more : (l : Loop) (i : ℕ) (ls : List Loop) (is : List ℕ) (s : Store) → s.held (cell_of l.variable) ≡ Int (pos i) → Hold ls is s → Hold (ls ++ l ∷ []) (is ++ i ∷ []) s
hold_more l i [] [] s e h = (e, tt)
hold_more l i [] (j ∷ is) s e h = absurd h
hold_more l i (o ∷ ls) [] s e h = absurd h
hold_more l i (o ∷ ls) (j ∷ is) s e h = (h.0, hold_more l i ls is s e h.1)

none_left : (ls : List Loop) (l : Loop) (s : Store) → Hold (ls ++ l ∷ []) [] s → ⊥
none_left [] l s h = h
none_left (o ∷ ls) l s h = h

none_over : (is : List ℕ) (i : ℕ) (s : Store) → Hold [] (is ++ i ∷ []) s → ⊥
none_over [] i s h = h
none_over (j ∷ is) i s h = h

pub hold_less : (l : Loop) (i : ℕ) (ls : List Loop) (is : List ℕ) (s : Store) → Hold (ls ++ l ∷ []) (is ++ i ∷ []) s → Hold ls is s × (s.held (cell_of l.variable) ≡ Int (pos i))
hold_less l i [] [] s h = (tt, h.0)
hold_less l i [] (j ∷ is) s h = absurd (none_over is i s h.1)
hold_less l i (o ∷ ls) [] s h = absurd (none_left ls l s h.1)
hold_less l i (o ∷ ls) (j ∷ is) s h = let r = hold_less l i ls is s h.1 in ((h.0, r.0), r.1)

module _ (each : List Loop → ℕ → Guarded → List Guarded) (bits line : ℕ) (counters : List ℕ → Bool) (like : List ℕ → ℕ → Store → Store → Type 0) (fit : Counts bits) (steady : IsSteady bits counters like)
    (Known : List ℕ → Loop → ℕ → Type 0) where
  abbrev pub At : List Loop → List ℕ → ℕ → Store → Store → Type 0
  At = InLoops bits counters like

  pub loop_turns : (ls : List Loop) (l : Loop) (is : List ℕ) (k m : ℕ) → Turning bits counters like Known ls l is k m → LoopLeads each bits line Known At ls l is k m
  loop_turns ls l is k m t = record {
    first = t.first;
    step = t.step;
    scalars = λ s u a. a.scalars l.variable t.counter;
    same = t.same;
    turns_are = t.turns_are;
    begins = λ s u a. record {
      stores = steady (is ++ 1 ∷ []) k s u l.variable (Int (pos 1)) (fit 1 (omega arith)).1 t.counter (t.begins s u a.stores);
      scalars = a.scalars;
      first = hold_more l 1 ls is (set each bits line Known At l 1 s) (own_held l.variable (Int (pos 1)) s) (hold_put (cell_of l.variable) (Int (pos 1)) ls is s t.own a.first);
      second = hold_more l 1 ls is (set each bits line Known At l 1 u) (own_held l.variable (Int (pos 1)) u) (hold_put (cell_of l.variable) (Int (pos 1)) ls is u t.own a.second);
    };
    scalars_in = λ i s u a. a.scalars l.variable t.counter;
    variable = λ i s u a. ((hold_less l i ls is s a.first).1, (hold_less l i ls is u a.second).1);
    next = λ i small s u a. record {
      stores = steady (is ++ suc i ∷ []) k s u l.variable (Int (pos (suc i))) (fit (suc i) small).1 t.counter (t.next i small s u a.stores);
      scalars = a.scalars;
      first = hold_more l (suc i) ls is (set each bits line Known At l (suc i) s) (own_held l.variable (Int (pos (suc i))) s) (hold_put (cell_of l.variable) (Int (pos (suc i))) ls is s t.own (hold_less l i ls is s a.first).0);
      second = hold_more l (suc i) ls is (set each bits line Known At l (suc i) u) (own_held l.variable (Int (pos (suc i))) u) (hold_put (cell_of l.variable) (Int (pos (suc i))) ls is u t.own (hold_less l i ls is u a.second).0);
    };
    ends = λ n known s u a. record {
      stores = t.ends n known s u a.stores;
      scalars = a.scalars;
      first = (hold_less l (suc n) ls is s a.first).0;
      second = (hold_less l (suc n) ls is u a.second).0;
    };
  }
