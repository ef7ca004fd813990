-- The loops of a source's statements, and the loop of a class.
use Rattle.std.proofs.Common.{◌≡◌, inl, inr, sym, ap, subst, ◌∙◌, ℕ, suc, ◌-◌, ◌<◌, ◌≤◌, List, [], ◌∷◌, length, get_or, Some, arith}
use Rattle.std.specs.Prelude.{slice_get}
use Rattle.std.specs.Option.{option_map}
use Rattle.std.proofs.lemmas.Option.{slice_get-map}
use Rattle.components.specs.Lists.{IsMember}
use Rattle.emission.specs.emission_pieces.Emission.{IsLoopOf}
use Rattle.emission.specs.emission_pieces.Nests.{loops_at, standing_at}
use Rattle.nest.specs.Bodies as bodies
use Rattle.nest.specs.Bodies.{nest_statements}
use Rattle.nest.specs.Plain.{Nest}
use Rattle.nest.specs.View.{loop_of}
use Rattle.nest.specs.declared.parts.Loop.{Loop as Loop'}
use Rattle.array_form.specs.holds.Statements.{no_statement}
use Rattle.nest.specs.statement_loops.Standings.{standing_of}
use Rattle.nest.specs.declared.statement_loops.standings.Standing.{Standing}
use Rattle.emission.specs.nest_emission.Given.{HasLoop, HasLoopForms, IsListedNest, nest_in}
use Rattle.emission.specs.declared.nest_emission.source.ListedNest.{ListedNest}
use Rattle.emission.proofs.nest_emission.Lists.{get_in}

module _ (source : ListedNest) (h : IsListedNest source) where
  pub forms_at : (s : ℕ) → s < length (nest_statements (nest_in source)) → HasLoopForms (standing_at (nest_in source) s)
  forms_at s inside = h.forms s no_statement inside

  pub loop_is : (k : ℕ) (c : List ℕ) (i s : ℕ) (x : Standing) (turns : Loop') → i < length c → s ≡ get_or c i 0 → standing_of x ≡ standing_at (nest_in source) s
      → Some turns ≡ slice_get x.loops (k - 1) → IsLoopOf (nest_in source) source.edges.now source.holds.now k c (loop_of turns)
  loop_is k c i s x turns inside is e f = record {
    statement = s;
    among = subst (λ z. IsMember z c) (sym is) (get_in c i 0 inside);
    loop =
        ap (λ (y : bodies.Standing). slice_get y.loops (k - 1)) (sym e)
        ∙ (slice_get-map loop_of x.loops (k - 1) ∙ ap (option_map loop_of) (sym f));
  }

in_place : (xs : List ℕ) (x : ℕ) → IsMember x xs → (i : ℕ) × (i < length xs) × (x ≡ get_or xs i 0)
in_place [] x i = absurd i
in_place (y ∷ xs) x (inl e) = (0, omega arith, e)
in_place (y ∷ xs) x (inr i) = let k = in_place xs x i in (suc k.0, (let h : k.0 < length xs = k.1 in omega arith), k.2)

-- where no member has the loop, the class has none
pub no_loop : (n : Nest) (k : ℕ) (c : List ℕ) → ((i : ℕ) → i < length c → length (loops_at n (get_or c i 0)) < k) → HasLoop n k c → ⊥
no_loop n k c none h =
    let at = in_place c h.0 h.1 in
    let few : length (loops_at n (get_or c at.0 0)) < k = none at.0 at.1 in
    let deep : k ≤ length (loops_at n (get_or c at.0 0)) = subst (λ s. k ≤ length (loops_at n s)) at.2 h.2 in
    omega arith
