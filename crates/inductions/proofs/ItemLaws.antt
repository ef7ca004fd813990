-- The induction that an expression is by itself, and statements that are added.
use Rattle.std.proofs.Common.{◌≡◌, ◌∙◌, sym, ap, cond, subst, false, List, [], ◌∷◌, ◌++◌, map, Bool, Result, Ok, Err, OnOk, None, ℕ}
use Rattle.std.proofs.lemmas.List.{map-append}
use Rattle.tree.specs.Plain as P
use Rattle.tree.specs.View.{expression_of, subscript_of}
use Rattle.tree.specs.declared.exprs.Expr.TheVariants as exprs
use Rattle.tree.specs.declared.exprs.Ref.{Ref, out-Ref}
use Rattle.tree.specs.declared.exprs.Sub.{Sub}
use Rattle.tree.proofs.Equations.{expression_of-item, reference_of-is}
use Rattle.nest.proofs.Equations.{part_of-run}
use Rattle.nest.specs.Plain as N
use Rattle.nest.specs.View.{guarded_of, part_of}
use Rattle.nest.specs.declared.parts.GuardedStmt.{GuardedStmt}
use Rattle.nest.specs.declared.parts.Part.{Part}
use Rattle.nest.specs.declared.parts.Part.TheVariants as variants
use Rattle.inductions.specs.Putting.{induction_in}
use Rattle.inductions.specs.declared.found.Induction.{Induction}

by-subs : (ds : List Induction) (x : List ℕ) (ss : List Sub) → (ss ≡ [] → ⊥) → induction_in ds (P.Named x (P.subscripts (map subscript_of ss))) ≡ None
by-subs ds x [] n = absurd (n refl')
  where
    refl' : ◌≡◌ {A = List Sub} [] []
    refl' = cc
by-subs ds x (s ∷ ss) n = cc

pub item-none : (ds : List Induction) (r : Ref) → ((out-Ref r).subs ≡ [] → ⊥) → induction_in ds (expression_of (exprs.Item r)) ≡ None
item-none ds r n =
    ap (induction_in ds) (expression_of-item r)
    ∙ (ap (λ (q : P.Reference). induction_in ds (P.Named q.name q.subscripts)) (reference_of-is r) ∙ by-subs ds (out-Ref r).name (out-Ref r).subs n)

pub ruleset item_laws = (item-none)

pub pushed-run : {A E : Type 0} (r : Result A E) (made new : List Part) (s : GuardedStmt) (g : N.Guarded) → guarded_of s ≡ g
    → OnOk r (new ≡ made ++ variants.Run s ∷ []) → OnOk r (map part_of new ≡ map part_of made ++ N.Run g ∷ [])
pushed-run (Ok x) made new s g same now =
    ap (map part_of) now ∙ map-append part_of made (variants.Run s ∷ [])
    ∙ ap (λ (p : N.Part). map part_of made ++ p ∷ []) (part_of-run s ∙ ap (λ (h : N.Guarded). N.Run h) same)
pushed-run (Err e) made new s g same now = now

pub pushed-unless : {A E : Type 0} (r : Result A E) (made new : List Part) (s : GuardedStmt) (g : N.Guarded) (b : Bool) → b ≡ false → guarded_of s ≡ g
    → OnOk r (new ≡ made ++ variants.Run s ∷ []) → OnOk r (map part_of new ≡ map part_of made ++ map N.Run (cond b [] (g ∷ [])))
pushed-unless r made new s g b e same now =
    subst (λ c. OnOk r (map part_of new ≡ map part_of made ++ map N.Run (cond c [] (g ∷ [])))) (sym e) (pushed-run r made new s g same now)
