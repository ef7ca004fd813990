-- Steps whose forms are within the limits.
use Rattle.std.proofs.Common.{◌≡◌, ℕ, ◌^◌, ◌<◌, ◌≤◌, ℤ, pos, neg_ℤ, ◌-ℤ◌, to_z, of_z, w64, Bool, true, false, ◌&&◌, cond, Option, Some, None, List, [], ◌∷◌, map, refl, sym, ap, ◌∙◌, subst, arith}
use Rattle.std.specs.Prelude.{is_none, is_some, nat_abs, nat_le}
use Rattle.std.specs.Option.{option_and_then, option_map}
use Rattle.std.proofs.lemmas.Bool.{le-leb, leb-true}
use Rattle.std.proofs.lemmas.Int.{fits_signed_from_abs, ints, to_z-of_z}
use Rattle.tree.specs.Plain as P
use Rattle.tree.specs.View.{expression_of, reference_of, subscript_of}
use Rattle.tree.specs.declared.exprs.Expr.{Expr}
use Rattle.tree.specs.declared.exprs.Ref.{Ref, out-Ref}
use Rattle.tree.specs.declared.exprs.Sub.{Sub}
use Rattle.tree.proofs.Equations.{reference_of-is}
use Rattle.linear_forms.specs.Linear.{is_limited, is_small}
use Rattle.nest.specs.Bodies.{Standing}
use Rattle.nest.specs.View.{guarded_of}
use Rattle.nest.specs.declared.parts.GuardedStmt.{GuardedStmt}
use Rattle.inductions.specs.Growing.{form_before, form_behind, is_bare_name, is_outermost, limited_step, step_at, step_in, growth_of}

abs-negative : (c : ℤ) → nat_abs (neg_ℤ c) ≡ nat_abs c
abs-negative c = omega (arith, ints)

-- both forms are within the limits where the step is
forms-limited : (c : ℤ) → (is_limited 1 (form_before c) && is_limited 1 (form_behind c)) ≡ is_small c
forms-limited c =
    ap (λ n. (((is_small c && true) && (nat_le n (2 ^ 40) && true)) && ((is_small c && true) && true))) (abs-negative c) ∙ by (is_small c)
  where
    by : (b : Bool) → (((b && true) && (b && true)) && ((b && true) && true)) ≡ b
    by true = refl
    by false = refl

pub limited-is : (c : ℤ) → limited_step c ≡ cond (is_small c) (Some c) None
limited-is c = ap (λ b. cond b (Some c) None) (forms-limited c)

pub limited-small : (c : ℤ) → nat_abs c ≤ 2 ^ 40 → limited_step c ≡ Some c
limited-small c h = limited-is c ∙ ap (λ b. cond b (Some c) None) (le-leb (nat_abs c) (2 ^ 40) h)

pub limited-large : (c : ℤ) → 2 ^ 40 < nat_abs c → limited_step c ≡ None
limited-large c h = limited-is c ∙ ap (λ b. cond b (Some c) None) (large (is_small c) refl)
  where
    large : (b : Bool) → is_small c ≡ b → is_small c ≡ false
    large true e = let l = leb-true (nat_abs c) (2 ^ 40) e in absurd (omega (arith, l, h))
    large false e = e

-- a step that is limited is the constant itself, and small
pub step-small : (c d : ℤ) → limited_step c ≡ Some d → nat_abs d ≤ 2 ^ 40
step-small c d e = by (is_small c) refl (sym (limited-is c) ∙ e)
  where
    by : (b : Bool) → is_small c ≡ b → cond b (Some c) None ≡ Some d → nat_abs d ≤ 2 ^ 40
    by true k q = let l = leb-true (nat_abs c) (2 ^ 40) k in let same : c ≡ d = cc in subst (λ z. nat_abs z ≤ 2 ^ 40) same l
    by false k q = absurd cc

-- and so is the one by which a statement lets a scalar grow
pub step-at-small : (x : List ℕ) (s : Standing) (d : ℤ) → step_at x s ≡ Some d → nat_abs d ≤ 2 ^ 40
step-at-small x s d h = outer (is_outermost s.loops) h
  where
    limited : (o : Option ℤ) → option_and_then limited_step o ≡ Some d → nat_abs d ≤ 2 ^ 40
    limited (Some c) g = step-small c d g
    limited None g = absurd cc

    bare : (q : Bool) → cond q (option_and_then limited_step (step_in x s.statement.right)) None ≡ Some d → nat_abs d ≤ 2 ^ 40
    bare true g = limited (step_in x s.statement.right) g
    bare false g = absurd cc

    outer : (q : Bool) → cond q (growth_of x s.statement) None ≡ Some d → nat_abs d ≤ 2 ^ 40
    outer true g = bare (is_none s.statement.guard && is_bare_name s.statement.left.subscripts) g
    outer false g = absurd cc

pub negative-limited : (o : Option ℤ) → option_and_then limited_step (option_map neg_ℤ o) ≡ option_map neg_ℤ (option_and_then limited_step o)
negative-limited None = refl
negative-limited (Some c) =
    limited-is (neg_ℤ c) ∙ ap (λ n. cond (nat_le n (2 ^ 40)) (Some (neg_ℤ c)) None) (abs-negative c) ∙ by (is_small c) ∙ ap (option_map neg_ℤ) (sym (limited-is c))
  where
    by : (b : Bool) → cond b (Some (neg_ℤ c)) None ≡ option_map neg_ℤ (cond b (Some c) None)
    by true = refl
    by false = refl

pub ruleset limit_laws = (limited-small, limited-large)

-- of the constant as the word that holds it
pub negative-step : (o : Option ℤ) (s : ℤ) → Some s ≡ option_and_then limited_step o → nat_abs s ≤ 2 ^ 40
    → Some (to_z w64 (of_z w64 (pos 0 -ℤ to_z w64 (of_z w64 s)))) ≡ option_and_then limited_step (option_map neg_ℤ o)
negative-step o s e h = ap Some (ap (λ z. to_z w64 (of_z w64 (pos 0 -ℤ z))) held ∙ turned ∙ zero-less s) ∙ ap (option_map neg_ℤ) e ∙ sym (negative-limited o)
  where
    held : to_z w64 (of_z w64 s) ≡ s
    held = to_z-of_z w64 s (fits_signed_from_abs w64 s (omega (arith, h)))

    zero-less : (z : ℤ) → pos 0 -ℤ z ≡ neg_ℤ z
    zero-less z = omega (arith, ints)

    turned : to_z w64 (of_z w64 (pos 0 -ℤ s)) ≡ pos 0 -ℤ s
    turned = to_z-of_z w64 (pos 0 -ℤ s) (fits_signed_from_abs w64 (pos 0 -ℤ s) (let n = ap nat_abs (zero-less s) ∙ abs-negative s in omega (arith, h, n)))

-- ---- statements

bare-subs : (ss : List Sub) → ss ≡ [] → is_bare_name (P.subscripts (map subscript_of ss)) ≡ true
bare-subs [] e = refl
bare-subs (s ∷ ss) e = cc

subscripted-subs : (ss : List Sub) → (ss ≡ [] → ⊥) → is_bare_name (P.subscripts (map subscript_of ss)) ≡ false
subscripted-subs [] n = absurd (n refl)
subscripted-subs (s ∷ ss) n = refl

bare-left : (r : Ref) → is_bare_name (reference_of r).subscripts ≡ is_bare_name (P.subscripts (map subscript_of (out-Ref r).subs))
bare-left r = ap (λ (q : P.Reference). is_bare_name q.subscripts) (reference_of-is r)

none-map : (o : Option Expr) (b : Bool) → is_some o ≡ b → is_none (option_map expression_of o) ≡ cond b false true
none-map (Some e) true h = refl
none-map (Some e) false h = cc
none-map None true h = cc
none-map None false h = refl

module _ (x : List ℕ) (s : GuardedStmt) where
  pub guarded-none : is_some s.guard ≡ true → growth_of x (guarded_of s) ≡ None
  guarded-none h =
      ap (λ b. cond (b && is_bare_name (reference_of s.left).subscripts) (option_and_then limited_step (step_in x (expression_of s.right))) None) (none-map s.guard true h)

  pub subscripted-none : ((out-Ref s.left).subs ≡ [] → ⊥) → growth_of x (guarded_of s) ≡ None
  subscripted-none n =
      ap (λ b. cond (is_none (option_map expression_of s.guard) && b) (option_and_then limited_step (step_in x (expression_of s.right))) None)
      (bare-left s.left ∙ subscripted-subs (out-Ref s.left).subs n) ∙ none (is_none (option_map expression_of s.guard))
    where
      none : (b : Bool) → cond (b && false) (option_and_then limited_step (step_in x (expression_of s.right))) None ≡ None
      none true = refl
      none false = refl

  pub bare-step : is_some s.guard ≡ false → (out-Ref s.left).subs ≡ [] → growth_of x (guarded_of s) ≡ option_and_then limited_step (step_in x (expression_of s.right))
  bare-step h e =
      ap (λ b. cond (b && is_bare_name (reference_of s.left).subscripts) (option_and_then limited_step (step_in x (expression_of s.right))) None) (none-map s.guard false h)
      ∙ ap (λ b. cond b (option_and_then limited_step (step_in x (expression_of s.right))) None) (bare-left s.left ∙ bare-subs (out-Ref s.left).subs e)

pub ruleset statement_laws = (guarded-none, subscripted-none, bare-step)
