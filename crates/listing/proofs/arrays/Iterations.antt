-- In a nest whose loops have moved each instance is one of the nest before, by the same iterations in another order.
use Rattle.std.proofs.Common.{◌≡◌, inl, inr, refl, sym, ap, ap₂, ◌∙◌, subst, ℕ, ◌+◌, ◌≤◌, ℤ, pos, true, List, [], ◌∷◌, ◌++◌, map}
use Rattle.std.proofs.Common.{Option, Some, None}
use Rattle.std.specs.Prelude.{IsSome}
use Rattle.array_form.specs.lone.Cells.{AreLinear}
use Rattle.prepared_passes.proofs.ArrangedNests.MovedChains.{IsMovedChain}
use Rattle.prepared_passes.proofs.ArrangedNests.Trips.{same_turns}
use Rattle.dependence_graph.specs.nest_graph.Instances.{turns_at}
use Rattle.emission.specs.graph_orders.Nests.{turns_in, turns_of_loop, turns_of_trip}
use Rattle.prepared_passes.proofs.ExpandedNests.Variables.{Pairs}
use Rattle.interchange.specs.Arranged.{is_loop_free}
use Rattle.nest.specs.Bodies.{nest_loops}
use Rattle.nest.specs.Plain.{Loop, Nest}
use Rattle.nest.specs.declared.parts.Trip.{Trip}
use Rattle.nest_order.proofs.orders.Membership.{map-In}
use Rattle.nest_order.specs.facts.Facts.{counted}
use Rattle.nest_order.specs.orders.Lists.{Distinct, In}
use Rattle.nest_order.specs.orders.Shapes.{Within}
use Rattle.nest_order.specs.runs.Nests as runs
use Rattle.nest_order.specs.runs.Touched.{MayHave, MayHaveEach}
use Rattle.nest_order.specs.shapes.Shapes.{numbers_of}
use Rattle.nest_rewrite.specs.Rewritten.{rewritten_loop}
use Rattle.pass_laws.proofs.NormalFacts.Tables.{loop_there}
use Rattle.pass_laws.specs.prepared_nests.Loops.{variables_of_loops}
use Rattle.scalar_expand.specs.declared.privates.RoundLoop.{RoundLoop}
use Rattle.tree.specs.Plain.{Only, Section, Subscripts, no_subscripts, subscript}
use Rattle.listing.proofs.arrays.Moved.{loops_made, making, new, new_loops, old, old_loops, there}

-- ---- names with iterations

pub both : (P Q : List ℕ → ℕ → Type 0) (xs : List (List ℕ)) (is : List ℕ) → Pairs P xs is → Pairs Q xs is
    → Pairs (λ x i. P x i × Q x i) xs is
both P Q [] [] h k = tt
both P Q [] (i ∷ is) h k = absurd h
both P Q (x ∷ xs) [] h k = absurd h
both P Q (x ∷ xs) (i ∷ is) h k = ((h.0, k.0), both P Q xs is h.1 k.1)

pick : (P : List ℕ → ℕ → Type 0) (xs : List (List ℕ)) (is : List ℕ) → Pairs P xs is → (x : List ℕ) → In x xs → (i : ℕ) × P x i
pick P [] is h x j = absurd j
pick P (z ∷ xs) [] h x j = absurd h
pick P (z ∷ xs) (i ∷ is) h x (inl e) = (i, subst (λ w. P w i) (sym e) h.0)
pick P (z ∷ xs) (i ∷ is) h x (inr j) = pick P xs is h.1 x j

-- the iterations of these loops
pub record HaveBoth (P Q : List ℕ → ℕ → Type 0) (ls : List RoundLoop) : Type 0 where
  pub iterations : List ℕ
  pub first : Pairs P (map (λ (l : RoundLoop). l.variable) ls) iterations
  pub second : Pairs Q (map (λ (l : RoundLoop). l.variable) ls) iterations

pub of_loops : (P Q : List ℕ → ℕ → Type 0) (xs : List (List ℕ)) (is : List ℕ) → Pairs (λ x i. P x i × Q x i) xs is
    → (ls : List RoundLoop) → ((l : RoundLoop) → In l ls → In l.variable xs) → HaveBoth P Q ls
of_loops P Q xs is h [] f = record { iterations = []; first = tt; second = tt }
of_loops P Q xs is h (l ∷ ls) f =
    let one = pick (λ x i. P x i × Q x i) xs is h l.variable (f l (inl refl)) in
    let rest = of_loops P Q xs is h ls (λ k i. f k (inr i)) in
    record { iterations = one.0 ∷ rest.iterations; first = (one.1.0, rest.first); second = (one.1.1, rest.second) }

-- ---- linear subscripts have one value

module _ (n : runs.RunNest) (v : ℕ → ℤ) (s : ℕ) (is : List ℕ) where
  one_value : (o : Option ((ℕ → ℤ) → List ℕ → ℤ)) (z w : ℤ) → IsSome o → MayHave n v is o z → MayHave n v is o w → z ≡ w
  one_value None z w l h k = let no : ⊥ = cc in absurd no
  one_value (Some f) z w l h k = h ∙ sym k

  pub one_each : (qs : Subscripts) (zs ws : List ℤ) → AreLinear n s qs → MayHaveEach n v s is qs zs
      → MayHaveEach n v s is qs ws → zs ≡ ws
  one_each no_subscripts [] [] l h k = refl
  one_each no_subscripts [] (w ∷ ws) l h k = absurd k
  one_each no_subscripts (z ∷ zs) ws l h k = absurd h
  one_each (subscript (Section a b c) qs) zs ws l h k = absurd l
  one_each (subscript (Only e) qs) [] ws l h k = absurd h
  one_each (subscript (Only e) qs) (z ∷ zs) [] l h k = absurd k
  one_each (subscript (Only e) qs) (z ∷ zs) (w ∷ ws) l h k =
      ap₂ (λ (y : ℤ) (ys : List ℤ). y ∷ ys) (one_value (n.linear s e) z w l.0 h.0 k.0) (one_each qs zs ws l.1 h.1 k.1)

-- ---- loops turn as often as before

module _ (n k : Nest) (c : IsMovedChain n k) (v : ℕ → ℤ) (once : Distinct (numbers_of (nest_loops n)))
    (once_there : Distinct (numbers_of (nest_loops (there n k c)))) where
  abbrev IsTurn : Loop → Trip → Type 0
  IsTurn l t = (l.trip ≡ Some t) × (is_loop_free t ≡ true)

  turns_before : (l : Loop) → In l (old n k c) → (t : Trip) → IsTurn l t → (done : List ℕ)
      → turns_in n v l.number done ≡ counted (turns_at t v [])
  turns_before l i t h done =
      ap (λ (o : Option Loop). turns_of_loop o v done) (loop_there (nest_loops n) l once (subst (In l) (sym (old_loops n k c)) i))
      ∙ (ap (λ (o : Option Trip). turns_of_trip o v done) h.0 ∙ ap counted (same_turns t v (map pos done) h.1))

  turns_behind : (l : Loop) → In l (new n k c) → (t : Trip) → IsTurn l t → (done : List ℕ)
      → turns_in (there n k c) v l.number done ≡ counted (turns_at t v [])
  turns_behind l i t h done =
      ap (λ (o : Option Loop). turns_of_loop o v done)
      (loop_there (nest_loops (there n k c)) (rewritten_loop (making n k c) l) once_there
      (subst (In (rewritten_loop (making n k c) l)) (sym (new_loops n k c))
      (map-In (rewritten_loop (making n k c)) l (new n k c) i)))
      ∙ (ap (λ (o : Option Trip). turns_of_trip o v done) h.0 ∙ ap counted (same_turns t v (map pos done) h.1))

  turns_same : (l : Loop) → In l (old n k c) → (done before : List ℕ)
      → turns_in (there n k c) v l.number before ≡ turns_in n v l.number done
  turns_same l i done before =
      let t = c.free l i in
      turns_behind l (c.all l i) t.0 (t.1, t.2) before ∙ sym (turns_before l i t.0 (t.1, t.2) done)

  module _ (P : List ℕ → ℕ → Type 0) (js : List ℕ) where
    -- an iteration of the loop
    record IsAt (l : Loop) : Type 0 where
      iteration : ℕ
      here : P l.variable iteration
      least : 1 ≤ iteration
      before : List ℕ
      most : iteration ≤ turns_in (there n k c) v l.number before

    pub record AreBefore (ls : List Loop) : Type 0 where
      pub iterations : List ℕ
      pub here : Pairs P (variables_of_loops ls) iterations
      pub within : (done : List ℕ) → Within (turns_in n v) done (numbers_of ls) iterations

    each_before : (at : (l : Loop) → In l (new n k c) → IsAt l) (ls : List Loop) → ((l : Loop) → In l ls → In l (old n k c))
        → AreBefore ls
    each_before at [] f = record { iterations = []; here = tt; within = λ done. tt }
    each_before at (l ∷ ls) f =
        let i = f l (inl refl) in
        let one = at l (c.all l i) in
        let rest = each_before at ls (λ o j. f o (inr j)) in
        record {
          iterations = one.iteration ∷ rest.iterations;
          here = (one.here, rest.here);
          within = λ done. (
            one.least,
            subst (λ (u : ℕ). one.iteration ≤ u) (turns_same l i done one.before) one.most,
            rest.within (done ++ one.iteration ∷ []),
          );
        }

    -- of the loops in the order that they have now
    made_loops_at : (ls : List Loop) (done is : List ℕ) → Pairs P (variables_of_loops (loops_made (making n k c) ls)) is
        → Within (turns_in (there n k c) v) done (numbers_of (loops_made (making n k c) ls)) is → (l : Loop) → In l ls → IsAt l
    made_loops_at [] done is h w l i = absurd i
    made_loops_at (x ∷ ls) done [] h w l i = absurd h
    made_loops_at (x ∷ ls) done (j ∷ is) h w l (inl e) =
        subst IsAt (sym e) (record { iteration = j; here = h.0; least = w.0; before = done; most = w.1 })
    made_loops_at (x ∷ ls) done (j ∷ is) h w l (inr i) = made_loops_at ls (done ++ j ∷ []) is h.1 w.2 l i

    pub are_before : Pairs P (variables_of_loops (loops_made (making n k c) (new n k c))) js
        → Within (turns_in (there n k c) v) [] (numbers_of (loops_made (making n k c) (new n k c))) js
        → AreBefore (old n k c)
    are_before h w = each_before (made_loops_at (new n k c) [] js h w) (old n k c) (λ l i. i)
