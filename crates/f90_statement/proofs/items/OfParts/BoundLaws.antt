-- Bounds in their words.
use Rattle.std.proofs.Common.{◌≡◌, List, [], ◌∷◌, ◌++◌, refl, ap, sym, ◌∙◌, append_assoc, Option, Some, None}
use Rattle.f90_grammar.specs.Phrases.{Phrase90, IsExpression90, written90}
use Rattle.f90_grammar.specs.Items.{IsStep90, written_step90, written_bounds90}
use Rattle.f90_grammar.specs.Words as words
use Rattle.f90_grammar.specs.Words.{Word90}
use Rattle.f90_laws.specs.unique.Unique.{EndsExpression}
use Rattle.f90_expressions.specs.Reading.{IsMadeOf, Begins}
use Rattle.f90_expressions.specs.declared.nodes.Expression.{Expression}
use Rattle.f90_statement.specs.declared.items.parts.bounds.Bounds.{Bounds}
use Rattle.f90_statement.specs.items.parts.Bounds.{AreBounds, AreBoundsOf, IsStepOf, EndsBounds, BeginsWithBounds, BeginsWithStep, bounds_before}

-- the bounds and what follows, part by part
pub bounds_are : (a b : Phrase90) (c : Option Phrase90) (r : List Word90)
    → written_bounds90 a b c ++ r ≡ written90 a ++ (words.Comma ∷ (written90 b ++ (written_step90 c ++ r)))
bounds_are a b c r =
    append_assoc (written90 a) (words.Comma ∷ (written90 b ++ written_step90 c)) r
    ∙ ap (λ (q : List Word90). written90 a ++ words.Comma ∷ q) (append_assoc (written90 b) (written_step90 c) r)

pub ends : (r : List Word90) → EndsBounds r → EndsExpression r
ends [] h = tt
ends (words.Operator o ∷ ws) h = absurd h
ends (w ∷ ws) h = tt

pub step_ends : (c : Option Phrase90) (r : List Word90) → EndsBounds r → EndsExpression (written_step90 c ++ r)
step_ends None r h = ends r h
step_ends (Some p) r h = tt

pub no_comma : {P : Type 0} (r s : List Word90) → EndsBounds r → r ≡ words.Comma ∷ s → P
no_comma [] s h e = absurd (cc)
no_comma (words.Comma ∷ ws) s h e = absurd h
no_comma (w ∷ ws) s h e = absurd (cc)

-- ---- the step

abbrev IsOnly : Expression → List Word90 → List Word90 → Type 0
IsOnly e ws r = (p : Phrase90) (rest : List Word90) → IsExpression90 p → EndsExpression rest → ws ≡ written90 p ++ rest → IsMadeOf e p × (r ≡ rest)

behind_comma : (us vs : List Word90) → words.Comma ∷ us ≡ words.Comma ∷ vs → us ≡ vs
behind_comma us vs e = cc

pub no_step_found : (ws : List Word90) → BeginsWithStep ws None ws
no_step_found ws = record { by = None; good = tt; is = tt; same = refl }

pub step_found : (z : Expression) (ws more rest : List Word90) → ws ≡ words.Comma ∷ more → Begins more z rest → BeginsWithStep ws (Some z) rest
step_found z ws more rest e h = record { by = Some h.phrase; good = h.good; is = h.is; same = e ∙ ap (λ (q : List Word90). words.Comma ∷ q) h.same }

pub no_step_only : (ws : List Word90) (c : Option Phrase90) (rest : List Word90) → ((q : List Word90) → ws ≡ words.Comma ∷ q → ⊥) → ws ≡ written_step90 c ++ rest
    → IsStepOf None c × (ws ≡ rest)
no_step_only ws None rest n e = (tt, e)
no_step_only ws (Some p) rest n e = absurd (n (written90 p ++ rest) e)

pub step_only : (z : Expression) (ws more r : List Word90) (c : Option Phrase90) (rest : List Word90) → ws ≡ words.Comma ∷ more → IsOnly z more r → IsStep90 c → EndsBounds rest
    → ws ≡ written_step90 c ++ rest → IsStepOf (Some z) c × (r ≡ rest)
step_only z ws more r None rest k o g h e = no_comma rest more h (sym e ∙ k)
step_only z ws more r (Some p) rest k o g h e = o p rest g (ends rest h) (behind_comma more (written90 p ++ rest) (sym k ∙ e))

pub step_lost : {P : Type 0} (ws more : List Word90) (c : Option Phrase90) (rest : List Word90) → ws ≡ words.Comma ∷ more
    → ((p : Phrase90) (us : List Word90) → IsExpression90 p → EndsExpression us → more ≡ written90 p ++ us → ⊥) → IsStep90 c → EndsBounds rest → ws ≡ written_step90 c ++ rest → P
step_lost ws more None rest k o g h e = no_comma rest more h (sym e ∙ k)
step_lost ws more (Some p) rest k o g h e = absurd (o p rest g (ends rest h) (behind_comma more (written90 p ++ rest) (sym k ∙ e)))

pub ruleset steps = (no_step_found, step_found, no_step_only, step_only)

-- ---- all

abbrev bounds_of : Expression → Expression → Option Expression → Bounds
bounds_of a b c = record { first = a; last = b; step = c }

pub bounds_found : (x y : Expression) (z : Option Expression) (ws w1 w2 w3 rest : List Word90) → Begins ws x w1 → w1 ≡ words.Comma ∷ w2 → Begins w2 y w3
    → BeginsWithStep w3 z rest → BeginsWithBounds ws (bounds_of x y z) rest
bounds_found x y z ws w1 w2 w3 rest f c g h = record {
  from = f.phrase;
  to = g.phrase;
  by = h.by;
  good = record { first = f.good; last = g.good; step = h.good };
  are = record { first = f.is; last = g.is; step = h.is };
  same = f.same ∙ ap (λ (q : List Word90). written90 f.phrase ++ q)
      (c ∙ ap (λ (q : List Word90). words.Comma ∷ q) (g.same ∙ ap (λ (q : List Word90). written90 g.phrase ++ q) h.same));
}

abbrev IsOnlyStep : Option Expression → List Word90 → List Word90 → Type 0
IsOnlyStep z ws r = (c : Option Phrase90) (rest : List Word90) → IsStep90 c → EndsBounds rest → ws ≡ written_step90 c ++ rest → IsStepOf z c × (r ≡ rest)

pub bounds_only : (x y : Expression) (z : Option Expression) (ws w1 w2 w3 w4 : List Word90) (a b : Phrase90) (c : Option Phrase90) (rest : List Word90) → IsOnly x ws w1
    → w1 ≡ words.Comma ∷ w2 → IsOnly y w2 w3 → IsOnlyStep z w3 w4 → AreBounds a b c → EndsBounds rest → ws ≡ bounds_before a b c rest
    → AreBoundsOf (bounds_of x y z) a b c × (w4 ≡ rest)
bounds_only x y z ws w1 w2 w3 w4 a b c rest o k p q g h e =
    let f = o a (words.Comma ∷ (written90 b ++ (written_step90 c ++ rest))) g.first tt e in
    let s = p b (written_step90 c ++ rest) g.last (step_ends c rest h) (behind_comma w2 (written90 b ++ (written_step90 c ++ rest)) (sym k ∙ f.1)) in
    let t = q c rest g.step h s.1 in
    (record { first = f.0; last = s.0; step = t.0 }, t.1)

pub ruleset bounds = (bounds_found, bounds_only, step_ends)
