-- What a chain is.
use Rattle.std.proofs.Common.{◌≡◌, refl, sym, ap, ◌∙◌, subst, Bool, true, false, cond, Option, Some, None, ◌∷◌}
use Rattle.nest.specs.Plain.{Loop, Part, Parts, no_parts, part, Run, Turns, Choice, Label, Jump}
use Rattle.interchange.specs.Chains.{Chain, are_statements, chain_in, chain_of, if_alone, in_loops, no_loops, chain_within}
use Rattle.interchange.specs.Laws.{ChainsAreLoops, IsChainOf}

none_some : {A : Type 0} (x : A) → ◌≡◌ {A = Option A} None (Some x) → ⊥
none_some x e = cc

some_same : {A : Type 0} (x y : A) → ◌≡◌ {A = Option A} (Some x) (Some y) → x ≡ y
some_same x y e = cc

record InLoops (ps : Parts) (c : Chain) : Type 0 where
  is : ps ≡ in_loops c.loops c.body
  body : are_statements c.body ≡ true

within_is : (l : Loop) (o : Option Chain) (c : Chain) → chain_within l o ≡ Some c → (d : Chain) × (o ≡ Some d) × (c ≡ record { loops = l ∷ d.loops; body = d.body })
within_is l None c e = absurd (none_some c e)
within_is l (Some d) c e = (d, refl, sym (some_same (record { loops = l ∷ d.loops; body = d.body }) c e))

lone_is : (p : Part) (c : Chain) → IsChainOf p c → InLoops (part p no_parts) c
lone_is p c h = record { is = ap (λ z. part z no_parts) h.is ∙ ap (λ ls. in_loops ls c.body) (sym h.loops_are); body = h.body }

mutual
  chain_is : (p : Part) (c : Chain) → chain_of p ≡ Some c → IsChainOf p c
  chain_is (Run s) c e = absurd (none_some c e)
  chain_is (Turns l ps) c e =
      let h = within_is l (chain_in ps) c e in
      let d = chain_in_is ps h.0 h.1 in
      subst (IsChainOf (Turns l ps)) (sym h.2) (record { first = l; rest = h.0.loops; loops_are = refl; is = ap (Turns l) d.is; body = d.body })
  chain_is (Choice bs ps) c e = absurd (none_some c e)
  chain_is (Label n) c e = absurd (none_some c e)
  chain_is (Jump n) c e = absurd (none_some c e)

  chain_in_is : (ps : Parts) (c : Chain) → chain_in ps ≡ Some c → InLoops ps c
  chain_in_is no_parts c e = absurd (none_some c e)
  chain_in_is (part p ps) c e = by (are_statements (part p ps)) refl e (chain_is p)
    where
      alone : (ps : Parts) → if_alone ps (chain_of p) ≡ Some c → ((d : Chain) → chain_of p ≡ Some d → IsChainOf p d) → InLoops (part p ps) c
      alone no_parts e more = lone_is p c (more c e)
      alone (part q qs) e more = absurd (none_some c e)

      by : (b : Bool) → are_statements (part p ps) ≡ b → cond b (Some (no_loops (part p ps))) (if_alone ps (chain_of p)) ≡ Some c → ((d : Chain) → chain_of p ≡ Some d → IsChainOf p d) → InLoops (part p ps) c
      by true f e more = subst (InLoops (part p ps)) (some_same (no_loops (part p ps)) c e) (record { is = refl; body = f })
      by false f e more = alone ps e more

pub chains_are_loops : ChainsAreLoops
chains_are_loops = chain_is
