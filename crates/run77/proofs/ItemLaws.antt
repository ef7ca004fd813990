-- Items of output lists: one value, or all values of a name.
use Rattle.std.proofs.Common.{◌≡◌, refl, sym, ap, ◌∙◌, subst, ℕ, ℤ, Bool, List, [], ◌∷◌, map, Bor, Result, Ok, Err}
use Rattle.std.proofs.Common.{Some, None}
use Rattle.std.specs.declared.boxed.Box.{Box}
use Rattle.std.specs.declared.alloc.Global.{Global}
use Rattle.std.specs.Prelude.{MatchResult, slice_get}
use Rattle.tree.specs.Steps.{◌>>=◌}
use Rattle.tree.specs.Plain as P
use Rattle.tree.specs.View.{expression_of, subscript_of}
use Rattle.tree.specs.declared.lists.Seq.{Seq}
use Rattle.tree.specs.declared.ops.Op.{Op}
use Rattle.tree.specs.declared.functions.Fun.{Fun}
use Rattle.tree.specs.declared.functions.Red.{Red}
use Rattle.tree.specs.declared.ops.Value.{Value}
use Rattle.tree.specs.declared.ops.Fault.{Fault}
use Rattle.tree.specs.declared.exprs.Expr.{Expr}
use Rattle.tree.specs.declared.exprs.Expr.TheVariants as exprs
use Rattle.tree.specs.declared.exprs.Sub.{Sub}
use Rattle.tree.specs.declared.exprs.Turn.{Turn}
use Rattle.tree.specs.declared.exprs.Ref.{Ref, out-Ref}
use Rattle.tree.proofs.Equations.{expression_of-int, expression_of-truth, expression_of-item, expression_of-un}
use Rattle.tree.proofs.Equations.{expression_of-bin, expression_of-call, expression_of-list, expression_of-spread}
use Rattle.tree.proofs.Equations.{expression_of-transpose, expression_of-reshape, expression_of-reduce, reference_of-is}
use Rattle.meaning.specs.Store.{Store, Cell, cell_at, stored_bounds, cells_of}
use Rattle.meaning.specs.Dialect.{fortran77}
use Rattle.meaning.specs.Value.{value_of, item_values, subscript_values}
use Rattle.machine.specs.declared.progress.Halt.{Halt}
use Rattle.machine.specs.declared.progress.Halt.TheVariants.{Fault as Fault'}
use Rattle.machine.specs.Moments.{located}
use Rattle.machine.specs.Stored.{all_values}
use Rattle.run77.specs.Printing.{one_value, IsOneValue, AreAllValues}

-- ---- items

pub one_int : (n : ℤ) → IsOneValue (expression_of (exprs.Int n))
unfolding IsOneValue
one_int n w s = subst (λ e. item_values (fortran77 w) e s ≡ one_value (value_of (fortran77 w) e s)) (sym (expression_of-int n)) refl

pub one_truth : (b : Bool) → IsOneValue (expression_of (exprs.Truth b))
unfolding IsOneValue
one_truth b w s = subst (λ e. item_values (fortran77 w) e s ≡ one_value (value_of (fortran77 w) e s)) (sym (expression_of-truth b)) refl

pub one_un : (o : Op) (a : Box Expr Global) → IsOneValue (expression_of (exprs.Un o a))
unfolding IsOneValue
one_un o a w s = subst (λ e. item_values (fortran77 w) e s ≡ one_value (value_of (fortran77 w) e s)) (sym (expression_of-un o a)) refl

pub one_bin : (o : Op) (a b : Box Expr Global) → IsOneValue (expression_of (exprs.Bin o a b))
unfolding IsOneValue
one_bin o a b w s = subst (λ e. item_values (fortran77 w) e s ≡ one_value (value_of (fortran77 w) e s)) (sym (expression_of-bin o a b)) refl

pub one_call : (f : Fun) (es : Seq Expr) → IsOneValue (expression_of (exprs.Call f es))
unfolding IsOneValue
one_call f es w s = subst (λ e. item_values (fortran77 w) e s ≡ one_value (value_of (fortran77 w) e s)) (sym (expression_of-call f es)) refl

pub one_list : (es : Seq Expr) (ls : Seq Turn) → IsOneValue (expression_of (exprs.List es ls))
unfolding IsOneValue
one_list es ls w s = subst (λ e. item_values (fortran77 w) e s ≡ one_value (value_of (fortran77 w) e s)) (sym (expression_of-list es ls)) refl

pub one_spread : (a : Box Expr Global) (d : ℕ) (n : Box Expr Global) → IsOneValue (expression_of (exprs.Spread a d n))
unfolding IsOneValue
one_spread a d n w s = subst (λ e. item_values (fortran77 w) e s ≡ one_value (value_of (fortran77 w) e s)) (sym (expression_of-spread a d n)) refl

pub one_transpose : (a : Box Expr Global) → IsOneValue (expression_of (exprs.Transpose a))
unfolding IsOneValue
one_transpose a w s = subst (λ e. item_values (fortran77 w) e s ≡ one_value (value_of (fortran77 w) e s)) (sym (expression_of-transpose a)) refl

pub one_reshape : (a : Box Expr Global) (es : Seq Expr) → IsOneValue (expression_of (exprs.Reshape a es))
unfolding IsOneValue
one_reshape a es w s = subst (λ e. item_values (fortran77 w) e s ≡ one_value (value_of (fortran77 w) e s)) (sym (expression_of-reshape a es)) refl

pub one_reduce : (r : Red) (a : Box Expr Global) → IsOneValue (expression_of (exprs.Reduce r a))
unfolding IsOneValue
one_reduce r a w s = subst (λ e. item_values (fortran77 w) e s ≡ one_value (value_of (fortran77 w) e s)) (sym (expression_of-reduce r a)) refl

element_value : (x : List ℕ) (p : P.Subscript) (ps : P.Subscripts) (s : Store) (q : Result (List ℤ) Fault)
    → ◌≡◌ {A = Result (List Value) Fault} (do cs ← (do is ← q; c ← cell_at x is s; Ok (c ∷ [])); Ok (map s.held cs)) (one_value (do is ← q; c ← cell_at x is s; Ok (s.held c)))
element_value x p ps s (Err f) = refl
element_value x p ps s (Ok is) = by (cell_at x is s)
  where
    by : (q : Result Cell Fault) → ◌≡◌ {A = Result (List Value) Fault} (do cs ← (do c ← q; Ok (c ∷ [])); Ok (map s.held cs)) (one_value (do c ← q; Ok (s.held c)))
    by (Ok c) = refl
    by (Err f) = refl

item_is : (r : Ref) → expression_of (exprs.Item r) ≡ P.Named (out-Ref r).name (P.subscripts (map subscript_of (out-Ref r).subs))
item_is r = expression_of-item r ∙ ap (λ (q : P.Reference). P.Named q.name q.subscripts) (reference_of-is r)

pub one_element : (r : Ref) (p : Sub) (ps : List Sub) → (out-Ref r).subs ≡ p ∷ ps → IsOneValue (expression_of (exprs.Item r))
unfolding IsOneValue
one_element r p ps e w s = subst (λ e. item_values (fortran77 w) e s ≡ one_value (value_of (fortran77 w) e s))
    (sym (item_is r ∙ ap (λ ss. P.Named (out-Ref r).name (P.subscripts (map subscript_of ss))) e))
    (element_value (out-Ref r).name (subscript_of p) (P.subscripts (map subscript_of ps)) s (subscript_values (fortran77 w) (P.subscript (subscript_of p) (P.subscripts (map subscript_of ps))) s))

whole_values : (x : List ℕ) (s : Store) (q : Result (List (ℤ × ℤ)) Fault)
    → ◌≡◌ {A = Result (List Value) Fault} (do cs ← (do bs ← q; Ok (cells_of x bs)); Ok (map s.held cs)) (do bs ← q; Ok (map s.held (cells_of x bs)))
whole_values x s (Ok bs) = refl
whole_values x s (Err f) = refl

pub whole_item : (r : Ref) → (out-Ref r).subs ≡ [] → AreAllValues (expression_of (exprs.Item r)) (out-Ref r).name
unfolding AreAllValues
whole_item r e w s = subst (λ q. item_values (fortran77 w) q s ≡ all_values (out-Ref r).name s)
    (sym (item_is r ∙ ap (λ ss. P.Named (out-Ref r).name (P.subscripts (map subscript_of ss))) e))
    (whole_values (out-Ref r).name s (stored_bounds (out-Ref r).name s))

pub whole_case : (e : Expr) (r : Ref) (ps : List Sub) → e ≡ exprs.Item r → ps ≡ (out-Ref r).subs → None ≡ slice_get ps 0 → AreAllValues (expression_of e) (out-Ref r).name
whole_case e r [] h k n = subst (λ e. AreAllValues (expression_of e) (out-Ref r).name) (sym h) (whole_item r (sym k))
whole_case e r (p ∷ ps) h k n = cc

pub element_case : (e : Expr) (r : Ref) (p : Sub) (ps : List Sub) → e ≡ exprs.Item r → ps ≡ (out-Ref r).subs → Some p ≡ slice_get ps 0 → IsOneValue (expression_of e)
element_case e r p [] h k n = cc
element_case e r p (q ∷ ps) h k n = subst (λ e. IsOneValue (expression_of e)) (sym h) (one_element r q ps (sym k))

-- a fault, or the values, of all elements
pub all_fault : (line : ℕ) (w : Result (List Value) Fault) (q : Result (Bor (List Value)) Fault) (h : Halt) → MatchResult q (λ v. w ≡ Ok v.now) (λ f. w ≡ Err f) → Err h ≡ located line q → Err h ≡ located line w
all_fault line w (Ok v) h m e = cc
all_fault line w (Err f) h m e = (let same : h ≡ Fault' f line = cc in ap (λ (h : Halt). let r : Result (List Value) Halt = Err h in r) same ∙ sym (ap (located line) m))

pub all_ok : (line : ℕ) (w : Result (List Value) Fault) (q : Result (Bor (List Value)) Fault) (v : Bor (List Value)) → MatchResult q (λ v. w ≡ Ok v.now) (λ f. w ≡ Err f) → Ok v ≡ located line q → Ok v.now ≡ located line w
all_ok line w (Ok u) v m e = (let same : v ≡ u = cc in ap (λ (v : Bor (List Value)). let r : Result (List Value) Halt = Ok v.now in r) same ∙ sym (ap (located line) m))
all_ok line w (Err f) v m e = cc

pub one_fault : (line : ℕ) (q : Result Value Fault) (h : Halt) → Err h ≡ located line q → Err h ≡ located line (one_value q)
one_fault line (Ok v) h e = cc
one_fault line (Err f) h e = (let same : h ≡ Fault' f line = cc in ap (λ (h : Halt). let r : Result (List Value) Halt = Err h in r) same)

pub one_ok : (line : ℕ) (q : Result Value Fault) (v : Value) → Ok v ≡ located line q → Ok (v ∷ []) ≡ located line (one_value q)
one_ok line (Ok u) v e = (let same : v ≡ u = cc in ap (λ (v : Value). let r : Result (List Value) Halt = Ok (v ∷ []) in r) same)
one_ok line (Err f) v e = cc

pub ruleset item_laws = (one_int, one_truth, one_un, one_bin, one_call, one_list, one_spread, one_transpose, one_reshape, one_reduce, one_element, whole_item)
