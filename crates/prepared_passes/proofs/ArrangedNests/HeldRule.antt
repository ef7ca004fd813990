-- Canonical text between stores that have all in common, each number of 64 bits.
use Rattle.std.proofs.Common.{◌≡◌, refl, sym, ap, ap₂, ◌∙◌, subst, ℕ, ◌^◌, ◌≤◌, ℤ, Bool, true, false, cond, List, [], ◌∷◌, map}
use Rattle.std.proofs.Common.{Result, Ok, Err, Option, Some, None}
use Rattle.std.specs.Prelude.{IsTrue, nat_abs}
use Rattle.tree.specs.declared.ops.Fault.{Fault}
use Rattle.tree.specs.declared.ops.Value.{Value}
use Rattle.tree.specs.declared.ops.Value.TheVariants.{Int}
use Rattle.tree.specs.Steps.{◌>>=◌}
use Rattle.tree.specs.Plain.{Expression, Number, Logic, Named, Unary, Binary, Apply, Constructor, Spread, Transpose}
use Rattle.tree.specs.Plain.{Reshape, Reduce, no_subscripts, Reference}
use Rattle.meaning.specs.Store.{Store, Cell, put, same_cell, cell_at, cell_in, cells_of, bounds_in}
use Rattle.meaning.specs.Value.{value_of, subscript_values, item_values, is_in_range}
use Rattle.rewrite.specs.Following.{sequential}
use Rattle.rewrite.specs.Names.{mentions}
use Rattle.rewrite.specs.Rule.{IsRule, HaveInCommon, Assigned, value_between}
use Rattle.linear_forms.specs.Canonical.{text_or, canonical_text, canonical_node, canonising}
use Rattle.linear_forms.specs.CanonicalLaws.{all_suit}
use Rattle.linear_forms.specs.Linear.{Form, form_of}
use Rattle.linear_forms.proofs.CanonicalRule.{name-node}
use Rattle.linear_forms.proofs.Parts.{joined}
use Rattle.linear_forms.proofs.TextsKeep.{text_keeps_value}
use Rattle.prepared_passes.specs.arrangement.Laws.{SameHeld}
use Rattle.prepared_passes.proofs.ArrangedNests.Trips.{sized}

module _ (bits : ℕ) (loops symbols : List (List ℕ)) where
  abbrev Like : Store → Store → Type 0
  Like = SameHeld bits

  -- ---- values

  found_same : (s u : Store) → Like s u → (x : List ℕ) (is : List ℤ) → ◌≡◌ {A = Result Value Fault} (do c ← cell_at x is s; Ok (s.held c)) (do c ← cell_at x is u; Ok (u.held c))
  found_same s u a x is = ap (λ b. do c ← cell_in b x is; Ok (s.held c)) (a.bounds x) ∙ by (cell_at x is u)
    where
      by : (r : Result Cell Fault) → ◌≡◌ {A = Result Value Fault} (do c ← r; Ok (s.held c)) (do c ← r; Ok (u.held c))
      by (Ok c) = ap Ok (a.held c)
      by (Err f) = refl

  between_same : (e : Expression) (s u : Store) → Like s u → value_between (sequential bits) e s u ≡ value_of (sequential bits) e u
  between_same (Named x ps) s u a = by (subscript_values (sequential bits) ps u)
    where
      by : (r : Result (List ℤ) Fault) → ◌≡◌ {A = Result Value Fault} (do is ← r; c ← cell_at x is s; Ok (s.held c)) (do is ← r; c ← cell_at x is u; Ok (u.held c))
      by (Ok is) = found_same s u a x is
      by (Err f) = refl
  between_same (Number n) s u a = refl
  between_same (Logic b) s u a = refl
  between_same (Unary o b) s u a = refl
  between_same (Binary o b c) s u a = refl
  between_same (Apply f es) s u a = refl
  between_same (Constructor es ls) s u a = refl
  between_same (Spread b k c) s u a = refl
  between_same (Transpose b) s u a = refl
  between_same (Reshape b es) s u a = refl
  between_same (Reduce r b) s u a = refl

  text_keeps : (s u : Store) → Like s u → (e : Expression) (v : Value) (o : Option Form) → form_of loops symbols e ≡ o → value_of (sequential bits) e u ≡ Ok v
      → value_of (sequential bits) (text_or loops symbols o e) u ≡ Ok v
  text_keeps s u a e v (Some f) g h = text_keeps_value (sequential bits) loops symbols e f u v g a.sized h
  text_keeps s u a e v None g h = h

  value : (first e : Expression) (s u : Store) (v : Value) → IsTrue true → Like s u → value_between (sequential bits) e s u ≡ Ok v → value_of (sequential bits) (canonical_node loops symbols first e) u ≡ Ok v
  value first e s u v t a h = by (mentions loops first)
    where
      here : value_of (sequential bits) e u ≡ Ok v
      here = sym (between_same e s u a) ∙ h

      by : (b : Bool) → value_of (sequential bits) (cond b (canonical_text loops symbols e) e) u ≡ Ok v
      by true = text_keeps s u a e v (form_of loops symbols e) refl here
      by false = here

  items_same : (x : List ℕ) (s u : Store) → Like s u → item_values (sequential bits) (Named x no_subscripts) s ≡ item_values (sequential bits) (Named x no_subscripts) u
  items_same x s u a =
      ap (λ b. do cs ← (do bs ← bounds_in b; Ok (cells_of x bs)); Ok (map s.held cs)) (a.bounds x) ∙ by (do bs ← bounds_in (u.bounds x); Ok (cells_of x bs))
    where
      each : (cs : List Cell) → map s.held cs ≡ map u.held cs
      each [] = refl
      each (c ∷ cs) = ap₂ (λ v vs. v ∷ vs) (a.held c) (each cs)

      by : (r : Result (List Cell) Fault) → ◌≡◌ {A = Result (List Value) Fault} (do cs ← r; Ok (map s.held cs)) (do cs ← r; Ok (map u.held cs))
      by (Ok cs) = ap Ok (each cs)
      by (Err f) = refl

  printed : (x : List ℕ) (s u : Store) (vs : List Value) → IsTrue true → Like s u → item_values (sequential bits) (Named x no_subscripts) s ≡ Ok vs
      → item_values (sequential bits) (canonical_node loops symbols (Named x no_subscripts) (Named x no_subscripts)) u ≡ Ok vs
  printed x s u vs t a h = ap (λ (e : Expression). item_values (sequential bits) e u) (name-node bits loops symbols (Named x no_subscripts) x no_subscripts) ∙ (sym (items_same x s u a) ∙ h)

  -- ---- what is assigned

  changed : (c : Cell) (v : Value) (s u : Store) → IsTrue (is_in_range bits v) → Like s u → Like (put c v s) (put c v u)
  changed c v s u h a = record {
    bounds = a.bounds;
    held = λ d. ap (cond (same_cell c d) v) (a.held d);
    few = a.few;
    sized = λ d z e. by d z (same_cell c d) e;
  }
    where
      by : (d : Cell) (z : ℤ) (b : Bool) → cond b v (u.held d) ≡ Int z → nat_abs z ≤ 2 ^ 63
      by d z true e = sized bits a.few z (subst (λ (w : Value). is_in_range bits w ≡ true) e h)
      by d z false e = a.sized d z e

  assigned : (r : Reference) (s u : Store) (is : List ℤ) (c : Cell) → IsTrue true → Like s u → subscript_values (sequential bits) r.subscripts u ≡ Ok is → cell_at r.name is s ≡ Ok c
      → Assigned (sequential bits) Like s u c r
  assigned r s u is c t a h k = record {
    cell = c;
    named = joined (subscript_values (sequential bits) r.subscripts u) (λ is. cell_at r.name is u) is c h (ap (λ b. cell_in b r.name is) (sym (a.bounds r.name)) ∙ k);
    put = λ v q. changed c v s u q a;
  }

  variable : (x : List ℕ) (s u : Store) → IsTrue true → Like s u → HaveInCommon (sequential bits) Like s u x
  variable x s u t a = record { bounds = a.bounds x; held = λ c e. a.held c; put = λ c v e q. changed c v s u q a }

  pub canonising_keeps_held : IsRule (sequential bits) (canonising loops symbols) all_suit Like
  canonising_keeps_held = record { value = value; printed = printed; assigned = assigned; variable = variable }
