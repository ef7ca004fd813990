-- A chain of loops as a shape.
use Rattle.std.proofs.Common.{◌≡◌, refl, sym, ap, ◌∙◌, subst, inl, inr, ℕ, suc, ◌+◌, Bool, true, false, ◌&&◌, Option, Some, None, List, [], ◌∷◌, ◌++◌, map, pos, append-nil, append_assoc, arith}
use Rattle.std.specs.List.{range_with_len}
use Rattle.nest.specs.Bodies.{Standing, loops_in_parts, loops_of, statements_in_parts, statements_of}
use Rattle.nest.specs.Plain.{Guarded, Loop, Part, Parts, no_parts, part, Run, Turns, Choice, Label, Jump}
use Rattle.nest_order.specs.orders.Lists.{In}
use Rattle.nest_order.specs.orders.Shapes.{Loop as Loop', Shape, Shapes, Single, loops_of_shape, loops_of_shapes, no_shapes, shape, statements, statements_in as numbers_in}
use Rattle.nest_order.proofs.orders.Lists.{In-left, In-right}
use Rattle.nest_order.specs.runs.Blocks.{Layout, guarded_statement, nest_block, nest_statement}
use Rattle.nest_order.specs.runs.Nests.{RunNest}
use Rattle.nest_order.specs.shapes.Shapes.{IsPlain, ArePlain, IsNormal, numbers_of, shape_of, shapes_of, sizes_of}
use Rattle.tree.specs.Plain.{Do, Number, statement}
use Rattle.interchange.specs.Chains.{are_statements, in_loops}
use Rattle.interchange_laws.specs.orders.Moves.{chain_of as shape_chain, inner, singles}

true_false : true ≡ false → ⊥
true_false e = cc

none_some : {A : Type 0} (x : A) → ◌≡◌ {A = Option A} None (Some x) → ⊥
none_some x e = cc

some_same : {A : Type 0} (x y : A) → ◌≡◌ {A = Option A} (Some x) (Some y) → x ≡ y
some_same x y e = cc

and_both : (a b : Bool) → a && b ≡ true → (a ≡ true) × (b ≡ true)
and_both true b e = (refl, e)
and_both false b e = absurd (true_false (sym e))

-- ---- its shape, its loops and its statements

shapes_of_statements : (k : ℕ) (ps : Parts) → are_statements ps ≡ true → shapes_of k ps ≡ singles (range_with_len k (sizes_of ps))
shapes_of_statements k no_parts e = refl
shapes_of_statements k (part (Run s) ps) e =
    ap (shape (Single k)) (shapes_of_statements (k + 1) ps e) ∙ ap (λ n. singles (range_with_len k n)) (let f : suc (sizes_of ps) ≡ 1 + sizes_of ps = omega arith in f)
shapes_of_statements k (part (Turns l qs) ps) e = absurd (true_false (sym e))
shapes_of_statements k (part (Choice bs qs) ps) e = absurd (true_false (sym e))
shapes_of_statements k (part (Label n) ps) e = absurd (true_false (sym e))
shapes_of_statements k (part (Jump n) ps) e = absurd (true_false (sym e))

shapes_in_loops : (ls : List Loop) (ps : Parts) → are_statements ps ≡ true → shapes_of 0 (in_loops ls ps) ≡ inner (numbers_of ls) (range_with_len 0 (sizes_of ps))
shapes_in_loops [] ps e = shapes_of_statements 0 ps e
shapes_in_loops (l ∷ ls) ps e = ap (λ ts. shape (Loop' l.number ts) no_shapes) (shapes_in_loops ls ps e)

pub shape_of_chain : (l : Loop) (ls : List Loop) (ps : Parts) → are_statements ps ≡ true → shape_of 0 (Turns l (in_loops ls ps)) ≡ shape_chain (numbers_of (l ∷ ls)) (range_with_len 0 (sizes_of ps))
shape_of_chain l ls ps e = ap (Loop' l.number) (shapes_in_loops ls ps e)

no_loops_in : (ps : Parts) → are_statements ps ≡ true → loops_in_parts ps ≡ []
no_loops_in no_parts e = refl
no_loops_in (part (Run s) ps) e = no_loops_in ps e
no_loops_in (part (Turns l qs) ps) e = absurd (true_false (sym e))
no_loops_in (part (Choice bs qs) ps) e = absurd (true_false (sym e))
no_loops_in (part (Label n) ps) e = absurd (true_false (sym e))
no_loops_in (part (Jump n) ps) e = absurd (true_false (sym e))

loops_in_loops : (ls : List Loop) (ps : Parts) → are_statements ps ≡ true → loops_in_parts (in_loops ls ps) ≡ ls
loops_in_loops [] ps e = no_loops_in ps e
loops_in_loops (l ∷ ls) ps e = ap (λ zs. l ∷ zs) (append-nil (loops_in_parts (in_loops ls ps)) ∙ loops_in_loops ls ps e)

pub loops_of_chain : (l : Loop) (ls : List Loop) (ps : Parts) → are_statements ps ≡ true → loops_of (Turns l (in_loops ls ps)) ≡ l ∷ ls
loops_of_chain l ls ps e = ap (λ zs. l ∷ zs) (loops_in_loops ls ps e)

abbrev pub guarded_in : Part → List Guarded
guarded_in (Run s) = s ∷ []
guarded_in (Turns l ps) = []
guarded_in (Choice bs ps) = []
guarded_in (Label n) = []
guarded_in (Jump n) = []

abbrev pub all_guarded : Parts → List Guarded
all_guarded no_parts = []
all_guarded (part p ps) = guarded_in p ++ all_guarded ps

abbrev pub standing_under : List Loop → Guarded → Standing
standing_under ls g = record { loops = ls; statement = g }

statements_under : (round : List Loop) (ps : Parts) → are_statements ps ≡ true → statements_in_parts round ps ≡ map (standing_under round) (all_guarded ps)
statements_under round no_parts e = refl
statements_under round (part (Run s) ps) e = ap (λ zs. standing_under round s ∷ zs) (statements_under round ps e)
statements_under round (part (Turns l qs) ps) e = absurd (true_false (sym e))
statements_under round (part (Choice bs qs) ps) e = absurd (true_false (sym e))
statements_under round (part (Label n) ps) e = absurd (true_false (sym e))
statements_under round (part (Jump n) ps) e = absurd (true_false (sym e))

statements_in_loops : (round ls : List Loop) (ps : Parts) → are_statements ps ≡ true → statements_in_parts round (in_loops ls ps) ≡ map (standing_under (round ++ ls)) (all_guarded ps)
statements_in_loops round [] ps e = statements_under round ps e ∙ ap (λ zs. map (standing_under zs) (all_guarded ps)) (sym (append-nil round))
statements_in_loops round (l ∷ ls) ps e =
    append-nil (statements_in_parts (round ++ l ∷ []) (in_loops ls ps))
    ∙ (statements_in_loops (round ++ l ∷ []) ls ps e ∙ ap (λ zs. map (standing_under zs) (all_guarded ps)) (append_assoc round (l ∷ []) ls))

pub statements_of_chain : (l : Loop) (ls : List Loop) (ps : Parts) → are_statements ps ≡ true → statements_of (Turns l (in_loops ls ps)) ≡ map (standing_under (l ∷ ls)) (all_guarded ps)
statements_of_chain l ls ps e = statements_in_loops (l ∷ []) ls ps e

plain_statements : (ps : Parts) → are_statements ps ≡ true → ArePlain ps
plain_statements no_parts e = tt
plain_statements (part (Run s) ps) e = (tt, plain_statements ps e)
plain_statements (part (Turns l qs) ps) e = absurd (true_false (sym e))
plain_statements (part (Choice bs qs) ps) e = absurd (true_false (sym e))
plain_statements (part (Label n) ps) e = absurd (true_false (sym e))
plain_statements (part (Jump n) ps) e = absurd (true_false (sym e))

plain_in_loops : (ls : List Loop) (ps : Parts) → are_statements ps ≡ true → ((l : Loop) → In l ls → IsNormal l) → ArePlain (in_loops ls ps)
plain_in_loops [] ps e h = plain_statements ps e
plain_in_loops (l ∷ ls) ps e h = ((h l (inl refl), plain_in_loops ls ps e (λ m i. h m (inr i))), tt)

pub chain_plain : (l : Loop) (ls : List Loop) (ps : Parts) → are_statements ps ≡ true → ((m : Loop) → In m (l ∷ ls) → IsNormal m) → IsPlain (Turns l (in_loops ls ps))
chain_plain l ls ps e h = (h l (inl refl), plain_in_loops ls ps e (λ m i. h m (inr i)))

normal_in_loops : (ls : List Loop) (ps : Parts) → ArePlain (in_loops ls ps) → (m : Loop) → In m ls → IsNormal m
normal_in_loops [] ps h m i = absurd i
normal_in_loops (l ∷ ls) ps h m (inl e) = subst IsNormal (sym e) h.0.0
normal_in_loops (l ∷ ls) ps h m (inr i) = normal_in_loops ls ps h.0.1 m i

pub loops_are_normal : (l : Loop) (ls : List Loop) (ps : Parts) → IsPlain (Turns l (in_loops ls ps)) → (m : Loop) → In m (l ∷ ls) → IsNormal m
loops_are_normal l ls ps h m (inl e) = subst IsNormal (sym e) h.0
loops_are_normal l ls ps h m (inr i) = normal_in_loops ls ps h.1 m i

-- ---- nests with the same statements and loops stand for the same statements

module _ (n o : RunNest) (z : Layout) where
  mutual
    pub same_written : (round : List ℕ) (t : Shape) → ((l : ℕ) → In l (loops_of_shape t) → (n.variable_at l ≡ o.variable_at l) × (n.trip_at l ≡ o.trip_at l))
        → ((s : ℕ) → In s (statements t) → n.statement_at s ≡ o.statement_at s) → nest_statement n z round t ≡ nest_statement o z round t
    same_written round (Single s) ls ss = ap (λ g. guarded_statement (z.line_at s) (z.mark_at s) g) (ss s (inl refl))
    same_written round (Loop' l ts) ls ss =
        ap (λ x. Do (z.loop_line l) x (Number (pos 1)) (n.trip_at l) (Number (pos 1)) (nest_block n z (round ++ l ∷ []) ts)) (ls l (inl refl)).0
        ∙ (ap (λ e. Do (z.loop_line l) (o.variable_at l) (Number (pos 1)) e (Number (pos 1)) (nest_block n z (round ++ l ∷ []) ts)) (ls l (inl refl)).1
        ∙ ap (Do (z.loop_line l) (o.variable_at l) (Number (pos 1)) (o.trip_at l) (Number (pos 1))) (same_block (round ++ l ∷ []) ts (λ m i. ls m (inr i)) ss))

    pub same_block : (round : List ℕ) (ts : Shapes) → ((l : ℕ) → In l (loops_of_shapes ts) → (n.variable_at l ≡ o.variable_at l) × (n.trip_at l ≡ o.trip_at l))
        → ((s : ℕ) → In s (numbers_in ts) → n.statement_at s ≡ o.statement_at s) → nest_block n z round ts ≡ nest_block o z round ts
    same_block round no_shapes ls ss = refl
    same_block round (shape t ts) ls ss =
        ap (λ c. statement c (nest_block n z round ts)) (same_written round t (λ m i. ls m (In-left m (loops_of_shape t) (loops_of_shapes ts) i)) (λ s i. ss s (In-left s (statements t) (numbers_in ts) i)))
        ∙ ap (statement (nest_statement o z round t)) (same_block round ts (λ m i. ls m (In-right m (loops_of_shape t) (loops_of_shapes ts) i)) (λ s i. ss s (In-right s (statements t) (numbers_in ts) i)))
