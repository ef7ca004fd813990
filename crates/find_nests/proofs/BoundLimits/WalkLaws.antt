-- Loops in lists of statements and of arms.
use Rattle.std.proofs.Common.{◌≡◌, ℕ, zero, suc, ◌+◌, ◌-◌, ◌^◌, ◌≤◌, ℤ, pos, negsuc, nat_abs, nat_le, Bool, true, false, cond, not, ◌&&◌, Option, Some, None, subst, List, [], ◌∷◌, ◌++◌, ◌||◌, map, take, length, refl, sym, ap, ◌∙◌, arith, length-append}
use Rattle.std.proofs.lemmas.List.{map-append}
use Rattle.std.specs.List.{list_any}
use Rattle.std.specs.Ordering.{int_eq}
use Rattle.std.proofs.lemmas.Bool.{leb-true}
use Rattle.tree.specs.Plain.{Expression, Statement, block}
use Rattle.tree.specs.View.{expression_of, statement_of, block_of, arms, Tested}
use Rattle.tree.specs.declared.names.Name.{Name}
use Rattle.tree.specs.declared.exprs.Expr.{Expr}
use Rattle.tree.specs.declared.stmts.Stmt.TheVariants as stmts
use Rattle.tree.specs.declared.stmts.Block.{Block as Block', out-Block}
use Rattle.tree.proofs.Equations.{statement_equations, statement_of-do, block_of-is}
use Rattle.linear_forms.specs.Linear.{Form, constant_of}
use Rattle.nest_reasons.specs.Increments.{step_of, suitable_or_none}
use Rattle.find_nests.specs.bound_limits.Composed.{Outer, composed_bound}
use Rattle.find_nests.specs.bound_limits.Limits.{normal, all_keep_limits}
use Rattle.find_nests.specs.declared.bound_limits.around.Outer.{Outer as Outer'}
use Rattle.find_nests.specs.bound_limits.View.{outer_of, AreSmall, IsSized}
use Rattle.find_nests.specs.bound_limits.Loops.{leaves_with, leaves_limits, normal_or_zero, as_outer}
use Rattle.find_nests.specs.bound_limits.Walks.{any_leaves, any_leaves_arms, any_leaves_block}
use Rattle.find_nests.specs.bound_limits.Arms.{any_leaves_arm}

module _ (symbols : List (List ℕ)) (around : List Outer) where
  pub each_arm : (ts : List Tested) → any_leaves_arms symbols around (arms ts) ≡ list_any (any_leaves_arm symbols around) ts
  each_arm [] = refl
  each_arm (t ∷ ts) = ap (λ b. any_leaves_arm symbols around t || b) (each_arm ts)

  pub each_statement : (cs : List Statement) → any_leaves_block symbols around (block cs) ≡ list_any (any_leaves symbols around) cs
  each_statement [] = refl
  each_statement (c ∷ cs) = ap (λ b. any_leaves symbols around c || b) (each_statement cs)

  pub loops-block : (k : Block') → any_leaves_block symbols around (block_of k) ≡ list_any (any_leaves symbols around) (map statement_of (out-Block k).stmts)
  loops-block k = ap (any_leaves_block symbols around) (block_of-is k) ∙ each_statement (map statement_of (out-Block k).stmts)

-- ---- loops

module _ (symbols : List (List ℕ)) (around : List Outer) (line : ℕ) (x : Name) (a b c : Expr) (body : Block') where
  abbrev out : Bool
  out = leaves_limits symbols around (expression_of a) (expression_of b) (expression_of c)

  abbrev inner : Outer
  inner = as_outer symbols around x (expression_of a) (expression_of c)

  abbrev whole : Bool
  whole = any_leaves symbols around (statement_of (stmts.Do line x a b c body))

  whole-is : whole ≡ (out || any_leaves_block symbols (around ++ inner ∷ []) (block_of body))
  whole-is = ap (any_leaves symbols around) (statement_of-do line x a b c body)

  -- it leaves the limits itself
  pub do-out : out ≡ true → true ≡ whole
  do-out h = sym (whole-is ∙ ap (λ b. b || any_leaves_block symbols (around ++ inner ∷ []) (block_of body)) h)

  -- or one in it does
  pub do-in : (found : Bool) (outers : List Outer) → out ≡ false → outers ≡ around ++ inner ∷ [] → found ≡ any_leaves_block symbols outers (block_of body)
      → found ≡ whole
  do-in found outers h e is =
      is ∙ ap (λ rs. any_leaves_block symbols rs (block_of body)) e
      ∙ sym (whole-is ∙ ap (λ b. b || any_leaves_block symbols (around ++ inner ∷ []) (block_of body)) h)

-- one loop more round them
pub one_outer : (rs : List Outer') (r : Outer') (o : Outer) → outer_of r ≡ o → map outer_of (rs ++ r ∷ []) ≡ map outer_of rs ++ o ∷ []
one_outer rs r o e = map-append outer_of rs (r ∷ []) ∙ ap (λ q. map outer_of rs ++ q ∷ []) e

pub small_outer : (rs : List Outer) (o : Outer) → AreSmall rs → IsSized (2 ^ 41) o.form → AreSmall (rs ++ o ∷ [])
small_outer [] o h i = (i, tt)
small_outer (r ∷ rs) o h i = (h.0, small_outer rs o h.1 i)

-- the last one is taken away again
take-front : {A : Type 0} (xs : List A) (x : A) → take (length xs) (xs ++ x ∷ []) ≡ xs
take-front [] x = refl
take-front (y ∷ xs) x = ap (λ l. y ∷ l) (take-front xs x)

pub popped : {A : Type 0} (xs ys zs : List A) (x : A) (n : ℕ) → ys ≡ xs ++ x ∷ [] → n ≡ length ys → zs ≡ take (n - 1) ys → zs ≡ xs
popped xs ys zs x n e is h =
    let count : length ys ≡ length xs + 1 = ap length e ∙ length-append xs (x ∷ []) in
    let less : n - 1 ≡ length xs = omega (arith, is, count) in
    h ∙ ap (λ m. take m ys) less ∙ ap (take (length xs)) e ∙ take-front xs x

-- ---- one loop

module _ (symbols : List (List ℕ)) (around : List Outer) (a b c : Expression) where
  abbrev leaves : Bool
  leaves = leaves_limits symbols around a b c

  abbrev leaves_by : Option ℤ → Option Form → Option Form → Bool
  leaves_by z f l = leaves_with (length symbols) z f l

  leaves-is : (z : Option ℤ) (f l : Option Form) → z ≡ step_of c → f ≡ composed_bound symbols around a → l ≡ composed_bound symbols around b → leaves_by z f l ≡ leaves
  leaves-is z f l e g h =
      ap (λ z. leaves_by z f l) e ∙ ap (λ f. leaves_by (step_of c) f l) g ∙ ap (leaves_by (step_of c) (composed_bound symbols around a)) h

  pub no_step : None ≡ step_of c → leaves ≡ true
  no_step e = sym (leaves-is None (composed_bound symbols around a) (composed_bound symbols around b) e refl refl)

  pub no_first : (z : ℤ) → Some z ≡ step_of c → None ≡ composed_bound symbols around a → leaves ≡ true
  no_first z e g = sym (leaves-is (Some z) None (composed_bound symbols around b) e g refl)

  pub no_last : (z : ℤ) (f : Form) → Some z ≡ step_of c → Some f ≡ composed_bound symbols around a → None ≡ composed_bound symbols around b → leaves ≡ true
  no_last z f e g h = sym (leaves-is (Some z) (Some f) None e g h)

  pub by_limits : (z : ℤ) (f l : Form) (kept : Bool) → Some z ≡ step_of c → Some f ≡ composed_bound symbols around a → Some l ≡ composed_bound symbols around b
      → kept ≡ all_keep_limits (length symbols) z f l → leaves ≡ not kept
  by_limits z f l kept e g h k = sym (leaves-is (Some z) (Some f) (Some l) e g h) ∙ ap not (sym k)

  pub outer-is : (x : List ℕ) (z : ℤ) (f : Form) (r : Outer) (place : ℕ) → Some z ≡ step_of c → Some f ≡ composed_bound symbols around a
      → place ≡ length symbols + length around → r.variable ≡ x → r.form ≡ normal place z f → r ≡ as_outer symbols around x a c
  outer-is x z f r place e g p same form =
      ap (λ y. let q : Outer = record { variable = y; form = r.form } in q) same
      ∙ ap (λ (h : Form). let q : Outer = record { variable = x; form = h } in q)
      (form ∙ ap (λ n. normal n z f) p ∙ ap (λ z. normal_or_zero (length symbols + length around) z (Some f)) e
      ∙ ap (normal_or_zero (length symbols + length around) (step_of c)) g)

-- an increment that is suitable isn't 0, and has at most 31 bits
pub step_size : (e : Expression) (z : ℤ) → Some z ≡ step_of e → (1 ≤ nat_abs z) × (nat_abs z ≤ 2 ^ 31)
step_size e z h = by (constant_of e) h
  where
    not-zero : (y : ℤ) → int_eq y (pos 0) ≡ false → 1 ≤ nat_abs y
    not-zero (pos zero) n = let no : ⊥ = cc in absurd no
    not-zero (pos (suc m)) n = omega arith
    not-zero (negsuc m) n = omega arith

    sized : (y : ℤ) (p q : Bool) → int_eq y (pos 0) ≡ p → nat_le (nat_abs y) (2 ^ 31) ≡ q → Some z ≡ cond (not p && q) (Some y) None
        → (1 ≤ nat_abs z) × (nat_abs z ≤ 2 ^ 31)
    sized y true q n m h = let no : ⊥ = cc in absurd no
    sized y false false n m h = let no : ⊥ = cc in absurd no
    sized y false true n m h =
        let same : z ≡ y = cc in
        (subst (λ w. 1 ≤ nat_abs w) (sym same) (not-zero y n), subst (λ w. nat_abs w ≤ 2 ^ 31) (sym same) (leb-true (nat_abs y) (2 ^ 31) m))

    by : (o : Option ℤ) → Some z ≡ suitable_or_none o → (1 ≤ nat_abs z) × (nat_abs z ≤ 2 ^ 31)
    by None h = let no : ⊥ = cc in absurd no
    by (Some y) h = sized y (int_eq y (pos 0)) (nat_le (nat_abs y) (2 ^ 31)) refl refl h

pub ruleset loop_laws = (statement_equations, each_arm)

pub ruleset block_laws = (loops-block)
