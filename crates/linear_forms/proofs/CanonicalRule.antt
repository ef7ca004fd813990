-- That nodes become their canonical text keeps the laws of a rule.
use Rattle.std.proofs.Common.{◌≡◌, refl, sym, ap, ◌∙◌, subst, ℕ, suc, ◌^◌, ◌<◌, ◌≤◌, ℤ, pos, negsuc, Bool, true, false, cond, List, [], ◌∷◌, ◌++◌, map, length, Result, Ok, Err, Option, Some, None, append-nil, arith}
use Rattle.std.specs.Prelude.{IsTrue, IfOk, nat_abs, nat_le}
use Rattle.std.specs.List.{AllByRecursion}
use Rattle.std.proofs.lemmas.Bool.Decides.{Decides-ltb}
use Rattle.std.proofs.Math.Nat.{pow-le-pow_right}
use mathlib.Core.Path.{ap₂}
use Rattle.tree.specs.Operators.{fits}
use Rattle.tree.specs.Steps.{◌>>=◌}
use Rattle.tree.specs.View.{expression_of}
use Rattle.tree.specs.declared.exprs.Expr.{Expr}
use Rattle.tree.specs.declared.lists.Memory.{Memory}
use Rattle.tree.specs.declared.ops.Fault.{Fault}
use Rattle.tree.specs.declared.ops.Value.{Value}
use Rattle.tree.specs.declared.ops.Value.TheVariants.{Int, Truth}
use Rattle.tree.specs.Plain.{Expression, Number, Logic, Named, Unary, Binary, Apply, Constructor, Spread, Transpose, Reshape, Reduce, no_subscripts, Subscripts, Reference}
use Rattle.meaning.specs.Store.{Store, Cell, put, same_cell, cell_at, cell_in, cells_of, bounds_in}
use Rattle.meaning.specs.Value.{value_of, subscript_values, item_values, is_in_range}
use Rattle.rewrite.specs.Following.{sequential}
use Rattle.rewrite.specs.Names.{mentions}
use Rattle.rewrite.specs.Rule.{IsRule, HaveInCommon, Assigned, value_between}
use Rattle.subscripts.specs.declared.affine.Affine.{Affine}
use Rattle.linear_forms.specs.Canonical.{text_or, canonical_text, canonical_node, canonising}
use Rattle.linear_forms.specs.CanonicalLaws.{all_suit, SameSized}
use Rattle.linear_forms.specs.Laws.{HoldsSized}
use Rattle.linear_forms.specs.Linear.{Form, form_of, linear}
use Rattle.linear_forms.specs.Expressed.{expressed, variables}
use Rattle.linear_forms.specs.Affines.{IsAffineOf, IsFound}
use Rattle.linear_forms.specs.Texts.{text_of}
use Rattle.linear_forms.proofs.AffineTexts.{affine_has_text}
use Rattle.linear_forms.proofs.Parts.{parted, joined}
use Rattle.linear_forms.proofs.TextsKeep.{text_keeps_value, name_text}

-- ---- what was found

pub text-found : (loops symbols : List (List ℕ)) (e : Expression) (o : Option Form) (a : Affine) → IsFound (length loops) o (Some a) → text_or loops symbols o e ≡ text_of loops symbols [] a
text-found loops symbols e (Some f) a h = ap (λ (ts : List Expression). expressed ts f) (sym (append-nil (variables (loops ++ symbols)))) ∙ sym (affine_has_text loops symbols [] f a h)
text-found loops symbols e None a h = absurd h

pub text-missing : (loops symbols : List (List ℕ)) (e : Expression) (o : Option Form) → IsFound (length loops) o None → text_or loops symbols o e ≡ e
text-missing loops symbols e None h = refl
text-missing loops symbols e (Some f) h = absurd h

pub text-expressed : (loops symbols : List (List ℕ)) (e : Expression) (a : Affine) (r : Result Expr Memory) → IsFound (length loops) (form_of loops symbols e) (Some a)
    → IfOk r (λ x. expression_of x ≡ text_of loops symbols [] a) → IfOk r (λ x. expression_of x ≡ canonical_text loops symbols e)
text-expressed loops symbols e a (Ok x) h k = k ∙ sym (text-found loops symbols e (form_of loops symbols e) a h)
text-expressed loops symbols e a (Err m) h k = k

-- ---- numbers of 64 bits

small_power : (bits : ℕ) → bits ≤ 63 → 2 ^ bits ≤ 2 ^ 63
small_power bits h = let two : 0 < 2 = omega arith in pow-le-pow_right two h

in_range-size : (bits : ℕ) (z : ℤ) → bits ≤ 63 → fits bits z ≡ true → nat_abs z ≤ 2 ^ 63
in_range-size bits (pos k) few h = let p = small_power bits few in let l = (Decides-ltb k (2 ^ bits)).0 h in omega (arith, p, l)
in_range-size bits (negsuc k) few h = let p = small_power bits few in let l = (Decides-ltb k (2 ^ bits)).0 h in omega (arith, p, l)

module _ (bits : ℕ) (loops symbols : List (List ℕ)) where
  abbrev Like : Store → Store → Type 0
  Like = SameSized bits

  holds-sized : (s u : Store) → Like s u → HoldsSized u
  holds-sized s u a c z e = in_range-size bits z a.few (subst (λ (v : Value). is_in_range bits v ≡ true) e (a.within c))

  -- ---- values

  found-same : (s u : Store) → Like s u → (x : List ℕ) (is : List ℤ) → ◌≡◌ {A = Result Value Fault} (do c ← cell_at x is s; Ok (s.held c)) (do c ← cell_at x is u; Ok (u.held c))
  found-same s u a x is = ap (λ b. do c ← cell_in b x is; Ok (s.held c)) (a.bounds x) ∙ by (cell_at x is u)
    where
      by : (r : Result Cell Fault) → ◌≡◌ {A = Result Value Fault} (do c ← r; Ok (s.held c)) (do c ← r; Ok (u.held c))
      by (Ok c) = ap Ok (a.held c)
      by (Err f) = refl

  between-same : (e : Expression) (s u : Store) → Like s u → value_between (sequential bits) e s u ≡ value_of (sequential bits) e u
  between-same (Named x ps) s u a = by (subscript_values (sequential bits) ps u)
    where
      by : (r : Result (List ℤ) Fault) → ◌≡◌ {A = Result Value Fault} (do is ← r; c ← cell_at x is s; Ok (s.held c)) (do is ← r; c ← cell_at x is u; Ok (u.held c))
      by (Ok is) = found-same s u a x is
      by (Err f) = refl
  between-same (Number n) s u a = refl
  between-same (Logic b) s u a = refl
  between-same (Unary o b) s u a = refl
  between-same (Binary o b c) s u a = refl
  between-same (Apply f es) s u a = refl
  between-same (Constructor es ls) s u a = refl
  between-same (Spread b k c) s u a = refl
  between-same (Transpose b) s u a = refl
  between-same (Reshape b es) s u a = refl
  between-same (Reduce r b) s u a = refl

  text-keeps : (s u : Store) → Like s u → (e : Expression) (v : Value) (o : Option Form) → form_of loops symbols e ≡ o → value_of (sequential bits) e u ≡ Ok v
      → value_of (sequential bits) (text_or loops symbols o e) u ≡ Ok v
  text-keeps s u a e v (Some f) g h = text_keeps_value (sequential bits) loops symbols e f u v g (holds-sized s u a) h
  text-keeps s u a e v None g h = h

  value : (first e : Expression) (s u : Store) (v : Value) → IsTrue true → Like s u → value_between (sequential bits) e s u ≡ Ok v → value_of (sequential bits) (canonical_node loops symbols first e) u ≡ Ok v
  value first e s u v t a h = by (mentions loops first)
    where
      here : value_of (sequential bits) e u ≡ Ok v
      here = sym (between-same e s u a) ∙ h

      by : (b : Bool) → value_of (sequential bits) (cond b (canonical_text loops symbols e) e) u ≡ Ok v
      by true = text-keeps s u a e v (form_of loops symbols e) refl here
      by false = here

  -- ---- a name by itself stays

  name-stays : (x : List ℕ) (ps : Subscripts) → canonical_text loops symbols (Named x ps) ≡ Named x ps
  name-stays x ps = by (nat_le (length loops) 7)
    where
      within : (o : Option Form) → linear (length loops) (loops ++ symbols) (Named x ps) ≡ o → text_or loops symbols o (Named x ps) ≡ Named x ps
      within (Some f) e = name_text (length loops) (loops ++ symbols) x ps f e
      within None e = refl

      by : (b : Bool) → text_or loops symbols (cond b (linear (length loops) (loops ++ symbols) (Named x ps)) None) (Named x ps) ≡ Named x ps
      by true = within (linear (length loops) (loops ++ symbols) (Named x ps)) refl
      by false = refl

  pub name-node : (first : Expression) (x : List ℕ) (ps : Subscripts) → canonical_node loops symbols first (Named x ps) ≡ Named x ps
  name-node first x ps = by (mentions loops first)
    where
      by : (b : Bool) → cond b (canonical_text loops symbols (Named x ps)) (Named x ps) ≡ Named x ps
      by true = name-stays x ps
      by false = refl

  items-same : (x : List ℕ) (s u : Store) → Like s u → item_values (sequential bits) (Named x no_subscripts) s ≡ item_values (sequential bits) (Named x no_subscripts) u
  items-same x s u a =
      ap (λ b. do cs ← (do bs ← bounds_in b; Ok (cells_of x bs)); Ok (map s.held cs)) (a.bounds x) ∙ by (do bs ← bounds_in (u.bounds x); Ok (cells_of x bs))
    where
      each : (cs : List Cell) → map s.held cs ≡ map u.held cs
      each [] = refl
      each (c ∷ cs) = ap₂ (λ v vs. v ∷ vs) (a.held c) (each cs)

      by : (r : Result (List Cell) Fault) → ◌≡◌ {A = Result (List Value) Fault} (do cs ← r; Ok (map s.held cs)) (do cs ← r; Ok (map u.held cs))
      by (Ok cs) = ap Ok (each cs)
      by (Err f) = refl

  printed : (x : List ℕ) (s u : Store) (vs : List Value) → IsTrue true → Like s u → item_values (sequential bits) (Named x no_subscripts) s ≡ Ok vs
      → item_values (sequential bits) (canonical_node loops symbols (Named x no_subscripts) (Named x no_subscripts)) u ≡ Ok vs
  printed x s u vs t a h = ap (λ (e : Expression). item_values (sequential bits) e u) (name-node (Named x no_subscripts) x no_subscripts) ∙ (sym (items-same x s u a) ∙ h)

  -- ---- what is assigned

  changed : (c : Cell) (v : Value) (s u : Store) → IsTrue (is_in_range bits v) → Like s u → Like (put c v s) (put c v u)
  changed c v s u h a = record {
    bounds = a.bounds;
    held = λ d. ap (cond (same_cell c d) v) (a.held d);
    few = a.few;
    within = λ d. by d (same_cell c d);
  }
    where
      by : (d : Cell) (b : Bool) → IsTrue (is_in_range bits (cond b v (u.held d)))
      by d true = h
      by d false = a.within d

  assigned : (r : Reference) (s u : Store) (is : List ℤ) (c : Cell) → IsTrue true → Like s u → subscript_values (sequential bits) r.subscripts u ≡ Ok is → cell_at r.name is s ≡ Ok c
      → Assigned (sequential bits) Like s u c r
  assigned r s u is c t a h k = record {
    cell = c;
    named = joined (subscript_values (sequential bits) r.subscripts u) (λ is. cell_at r.name is u) is c h (ap (λ b. cell_in b r.name is) (sym (a.bounds r.name)) ∙ k);
    put = λ v q. changed c v s u q a;
  }

  variable : (x : List ℕ) (s u : Store) → IsTrue true → Like s u → HaveInCommon (sequential bits) Like s u x
  variable x s u t a = record { bounds = a.bounds x; held = λ c e. a.held c; put = λ c v e q. changed c v s u q a }

  pub canonising_is_rule : IsRule (sequential bits) (canonising loops symbols) all_suit Like
  canonising_is_rule = record { value = value; printed = printed; assigned = assigned; variable = variable }
