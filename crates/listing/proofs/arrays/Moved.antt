-- A nest whose loops have moved, statement by statement.
use Rattle.std.proofs.Common.{◌≡◌, inl, inr, refl, sym, ap, ◌∙◌, ℕ, zero, suc, ◌<◌, true, false, List, [], ◌∷◌, length, map}
use Rattle.std.proofs.Common.{Some, arith}
use Rattle.std.proofs.lemmas.List.{length-map}
use Rattle.prepared_passes.proofs.ArrangedNests.MovedChains.{IsMovedChain}
use Rattle.prepared_passes.proofs.ArrangedNests.Shapes.{all_guarded, loops_of_chain, standing_under, statements_of_chain}
use Rattle.interchange.specs.Chains.{are_statements, in_loops}
use Rattle.linear_forms.specs.Canonical.{canonising}
use Rattle.nest.specs.Bodies.{Standing, nest_loops, nest_statements}
use Rattle.nest.specs.Plain.{Choice, Guarded, Jump, Label, Loop, Nest, Part, Parts, Run, Turns, no_parts, part}
use Rattle.nest_order.specs.orders.Lists.{In}
use Rattle.nest_order.specs.runs.Touched.{nth_of}
use Rattle.nest_rewrite.specs.Rewritten.{rewritten_loop, rewritten_parts}
use Rattle.nest_rewrite.specs.Statements.{rewritten_statement}
use Rattle.pass_laws.specs.prepared_nests.Loops.{variables_of_loops}
use Rattle.rewrite.specs.Making.{Making}

true_false : true ≡ false → ⊥
true_false e = cc

-- ---- a chain in canonical text

module _ (m : Making) where
  abbrev pub loops_made : List Loop → List Loop
  loops_made ls = map (rewritten_loop m) ls

  made_in_loops : (ls : List Loop) (ps : Parts)
      → rewritten_parts m (in_loops ls ps) ≡ in_loops (loops_made ls) (rewritten_parts m ps)
  made_in_loops [] ps = refl
  made_in_loops (l ∷ ls) ps = ap (λ qs. part (Turns (rewritten_loop m l) qs) no_parts) (made_in_loops ls ps)

  statements_made : (ps : Parts) → are_statements ps ≡ true → are_statements (rewritten_parts m ps) ≡ true
  statements_made no_parts e = refl
  statements_made (part (Run s) ps) e = statements_made ps e
  statements_made (part (Turns l qs) ps) e = absurd (true_false (sym e))
  statements_made (part (Choice bs qs) ps) e = absurd (true_false (sym e))
  statements_made (part (Label n) ps) e = absurd (true_false (sym e))
  statements_made (part (Jump n) ps) e = absurd (true_false (sym e))

  guarded_made : (ps : Parts) → are_statements ps ≡ true
      → all_guarded (rewritten_parts m ps) ≡ map (rewritten_statement m) (all_guarded ps)
  guarded_made no_parts e = refl
  guarded_made (part (Run s) ps) e = ap (λ gs. rewritten_statement m s ∷ gs) (guarded_made ps e)
  guarded_made (part (Turns l qs) ps) e = absurd (true_false (sym e))
  guarded_made (part (Choice bs qs) ps) e = absurd (true_false (sym e))
  guarded_made (part (Label n) ps) e = absurd (true_false (sym e))
  guarded_made (part (Jump n) ps) e = absurd (true_false (sym e))

  pub variables_made : (ls : List Loop) → variables_of_loops (loops_made ls) ≡ variables_of_loops ls
  variables_made [] = refl
  variables_made (l ∷ ls) = ap (λ xs. l.variable ∷ xs) (variables_made ls)

-- ---- places

pub nth_map : {X Y : Type 0} (f : X → Y) (xs : List X) (s : ℕ) (x : X) → nth_of xs s ≡ Some x
    → nth_of (map f xs) s ≡ Some (f x)
nth_map f [] s x e = let no : ⊥ = cc in absurd no
nth_map f (y ∷ xs) zero x e = let same : y ≡ x = cc in ap (λ z. Some (f z)) same
nth_map f (y ∷ xs) (suc s) x e = nth_map f xs s x e

pub record IsThere (X : Type 0) (xs : List X) (s : ℕ) : Type 0 where
  pub it : X
  pub is : nth_of xs s ≡ Some it
  pub inside : In it xs

later : {X : Type 0} (x : X) (xs : List X) (s : ℕ) → IsThere X xs s → IsThere X (x ∷ xs) (suc s)
later x xs s h = record { it = h.it; is = h.is; inside = inr h.inside }

pub there_at : {X : Type 0} (xs : List X) (s : ℕ) → s < length xs → IsThere X xs s
there_at [] s h = absurd (omega (arith, h))
there_at (x ∷ xs) zero h = record { it = x; is = refl; inside = inl refl }
there_at (x ∷ xs) (suc s) h = later x xs s (there_at xs s (omega (arith, h)))

-- ---- the nest

module _ (n k : Nest) (c : IsMovedChain n k) where
  abbrev pub old : List Loop
  old = c.first ∷ c.rest

  abbrev pub new : List Loop
  new = c.outer ∷ c.inner

  abbrev pub making : Making
  making = canonising (variables_of_loops (c.outer ∷ c.inner)) n.symbols

  abbrev pub body : Parts
  body = rewritten_parts making c.body

  abbrev pub moved : Part
  moved = Turns (rewritten_loop making c.outer) (in_loops (loops_made making c.inner) body)

  abbrev pub there : Nest
  there = record n { body = moved }

  pub nest_is : k ≡ there
  nest_is = c.nest ∙ ap (λ qs. record n { body = Turns (rewritten_loop making c.outer) qs }) (made_in_loops making c.inner c.body)

  plain_body : are_statements body ≡ true
  plain_body = statements_made making c.body c.plain

  pub old_loops : nest_loops n ≡ old
  old_loops = ap (λ p. nest_loops (record n { body = p })) c.was ∙ loops_of_chain c.first c.rest c.body c.plain

  pub old_statements : nest_statements n ≡ map (standing_under old) (all_guarded c.body)
  old_statements =
      ap (λ p. nest_statements (record n { body = p })) c.was ∙ statements_of_chain c.first c.rest c.body c.plain

  pub new_loops : nest_loops there ≡ loops_made making new
  new_loops = loops_of_chain (rewritten_loop making c.outer) (loops_made making c.inner) body plain_body

  pub new_statements : nest_statements there
      ≡ map (standing_under (loops_made making new)) (map (rewritten_statement making) (all_guarded c.body))
  new_statements =
      statements_of_chain (rewritten_loop making c.outer) (loops_made making c.inner) body plain_body
      ∙ ap (map (standing_under (loops_made making new))) (guarded_made making c.body c.plain)

  -- the statement in a place, before and after
  pub record IsInBoth (s : ℕ) : Type 0 where
    pub guarded : Guarded
    pub inside : In guarded (all_guarded c.body)
    pub was : nth_of (nest_statements n) s ≡ Some (standing_under old guarded)
    pub is : nth_of (nest_statements there) s
        ≡ Some (standing_under (loops_made making new) (rewritten_statement making guarded))

  as_many : length (nest_statements there) ≡ length (all_guarded c.body)
  as_many =
      ap (λ (xs : List Standing). length xs) new_statements
      ∙ (length-map (map (rewritten_statement making) (all_guarded c.body)) (standing_under (loops_made making new))
      ∙ length-map (all_guarded c.body) (rewritten_statement making))

  pub in_both : (s : ℕ) → s < length (nest_statements there) → IsInBoth s
  in_both s less =
      let same = as_many in
      let g = there_at (all_guarded c.body) s (omega (arith, less, same)) in
      record {
        guarded = g.it;
        inside = g.inside;
        was =
            ap (λ xs. nth_of xs s) old_statements
            ∙ nth_map (standing_under old) (all_guarded c.body) s g.it g.is;
        is =
            ap (λ xs. nth_of xs s) new_statements
            ∙ nth_map (standing_under (loops_made making new)) (map (rewritten_statement making) (all_guarded c.body)) s
            (rewritten_statement making g.it)
            (nth_map (rewritten_statement making) (all_guarded c.body) s g.it g.is);
      }
