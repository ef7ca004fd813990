-- The value of each kind of expression, by those of its parts.
use Rattle.std.proofs.Common.{◌≡◌, ◌⊎◌, inl, inr, ◌∙◌, ap, refl, sym, ℕ, ◌+◌, ◌<◌, ◌++◌, append_assoc, drop, get_or, length, ℤ, ◌↔◌, Bool, true, false, cond, is_some, IsTrue, Result, Ok, Err, Option, Some, None, List, [], ◌∷◌, map}
use Rattle.std.specs.declared.boxed.Box.{Box}
use Rattle.std.specs.declared.alloc.Global.{Global}
use Rattle.tree.specs.Steps.{◌>>=◌}
use Rattle.tree.specs.Plain.{Reference, subscripts, expressions, Named}
use Rattle.tree.specs.View.{expression_of, subscript_of}
use Rattle.tree.specs.declared.ops.Op.{Op}
use Rattle.tree.specs.declared.functions.Fun.{Fun}
use Rattle.tree.specs.declared.ops.Value.{Value}
use Rattle.tree.specs.declared.ops.Value.TheVariants.{Int, Truth}
use Rattle.tree.specs.declared.ops.Fault.{Fault}
use Rattle.tree.specs.declared.ops.Fault.TheVariants.{Shape}
use Rattle.tree.specs.declared.functions.Red.{Red}
use Rattle.tree.specs.declared.exprs.Turn.{Turn}
use Rattle.tree.specs.declared.lists.Seq.{Seq}
use Rattle.tree.specs.declared.exprs.Expr.{Expr}
use Rattle.tree.specs.declared.exprs.Expr.TheVariants as exprs
use Rattle.tree.specs.declared.exprs.Ref.{Ref, out-Ref}
use Rattle.tree.specs.declared.exprs.Sub.{Sub}
use Rattle.tree.specs.declared.exprs.Sub.TheVariants as subs
use Rattle.tree.proofs.Equations.{expression_of-int, expression_of-truth, expression_of-item, expression_of-un, expression_of-bin, expression_of-call, expression_of-list, expression_of-spread, expression_of-transpose, expression_of-reshape, expression_of-reduce, subscript_of-one, subscript_of-part, reference_of-is}
use Rattle.meaning.specs.Store.{Store, Cell, cell_in}
use Rattle.meaning.specs.Value.{value_of, values_of, subscript_values, subscript_value, with_arrays}
use Rattle.meaning.specs.Dialect.{Dialect, fortran77}
use Rattle.tree.specs.declared.width.Width.{Width}
use Rattle.f77_names.specs.declared.constants.constants.Constants.{Constants}
use Rattle.f77_names.specs.constants.Constants.{value_in, value_or_nought, store_of}
use Rattle.f77_names.specs.constants.Steps.{applied, combined, called, preceded, numbered, fault_of, given}
use Rattle.f77_names.proofs.constants.SizeLaws.{left}

-- ---- in every dialect alike

no_arrays : {A : Type 0} (b : Bool) (r : Result A Fault) → b ≡ false → with_arrays b r ≡ Err Shape
no_arrays true r h = cc
no_arrays false r h = refl

pub value-int : (d : Dialect) (n : ℤ) (s : Store) → value_of d (expression_of (exprs.Int n)) s ≡ Ok (Int n)
value-int d n s = ap (λ e. value_of d e s) (expression_of-int n)

pub value-truth : (d : Dialect) (b : Bool) (s : Store) → value_of d (expression_of (exprs.Truth b)) s ≡ Ok (Truth b)
value-truth d b s = ap (λ e. value_of d e s) (expression_of-truth b)

pub value-un : (d : Dialect) (o : Op) (a : Box Expr Global) (s : Store) → value_of d (expression_of (exprs.Un o a)) s ≡ applied o (value_of d (expression_of a.value) s)
value-un d o a s = ap (λ e. value_of d e s) (expression_of-un o a)

pub value-bin : (d : Dialect) (o : Op) (a b : Box Expr Global) (s : Store) → value_of d (expression_of (exprs.Bin o a b)) s
    ≡ combined o (value_of d (expression_of a.value) s) (value_of d (expression_of b.value) s)
value-bin d o a b s = ap (λ e. value_of d e s) (expression_of-bin o a b)

pub value-call : (d : Dialect) (f : Fun) (es : Seq Expr) (s : Store) → value_of d (expression_of (exprs.Call f es)) s
    ≡ called f (values_of d (expressions (map expression_of es)) s)
value-call d f es s = ap (λ e. value_of d e s) (expression_of-call f es)

pub value-list : (d : Dialect) (es : Seq Expr) (ls : Seq Turn) (s : Store) → value_of d (expression_of (exprs.List es ls)) s ≡ Err Shape
value-list d es ls s = ap (λ e. value_of d e s) (expression_of-list es ls)

pub value-spread : (d : Dialect) (a : Box Expr Global) (k : ℕ) (n : Box Expr Global) (s : Store) → value_of d (expression_of (exprs.Spread a k n)) s ≡ Err Shape
value-spread d a k n s = ap (λ e. value_of d e s) (expression_of-spread a k n)

pub value-transpose : (d : Dialect) (a : Box Expr Global) (s : Store) → value_of d (expression_of (exprs.Transpose a)) s ≡ Err Shape
value-transpose d a s = ap (λ e. value_of d e s) (expression_of-transpose a)

pub value-reshape : (d : Dialect) (a : Box Expr Global) (es : Seq Expr) (s : Store) → value_of d (expression_of (exprs.Reshape a es)) s ≡ Err Shape
value-reshape d a es s = ap (λ e. value_of d e s) (expression_of-reshape a es)

pub value-reduce : (d : Dialect) (r : Red) (a : Box Expr Global) (s : Store) → d.arrays ≡ false → value_of d (expression_of (exprs.Reduce r a)) s ≡ Err Shape
value-reduce d r a s h = ap (λ e. value_of d e s) (expression_of-reduce r a) ∙ no_arrays d.arrays _ h

pub subscript-part : (d : Dialect) (a b c : Expr) (s : Store) → subscript_value d (subscript_of (subs.Part a b c)) s ≡ Err Shape
subscript-part d a b c s = ap (λ p. subscript_value d p s) (subscript_of-part a b c)

pub subscript-one : (d : Dialect) (e : Expr) (s : Store) → subscript_value d (subscript_of (subs.One e)) s ≡ numbered (value_of d (expression_of e) s)
subscript-one d e s = ap (λ p. subscript_value d p s) (subscript_of-one e)

-- ---- what the code finds, by the kind of the expression

abbrev value_at : Dialect → Store → Expr → Result Value Fault
value_at d s e = value_of d (expression_of e) s

pub int_found : (d : Dialect) (s : Store) (e : Expr) (n : ℤ) → e ≡ exprs.Int n → Ok (Int n) ≡ value_of d (expression_of e) s
int_found d s e n h = sym (ap (value_at d s) h ∙ value-int d n s)

pub truth_found : (d : Dialect) (s : Store) (e : Expr) (b : Bool) → e ≡ exprs.Truth b → Ok (Truth b) ≡ value_of d (expression_of e) s
truth_found d s e b h = sym (ap (value_at d s) h ∙ value-truth d b s)

pub un_found : (d : Dialect) (s : Store) (e x : Expr) (o : Op) (a : Box Expr Global) (v r : Result Value Fault) → e ≡ exprs.Un o a → x ≡ a.value
    → v ≡ value_of d (expression_of x) s → r ≡ applied o v → r ≡ value_of d (expression_of e) s
un_found d s e x o a v r h k g t = t ∙ ap (applied o) (g ∙ ap (value_at d s) k) ∙ sym (ap (value_at d s) h ∙ value-un d o a s)

pub bin_found : (d : Dialect) (s : Store) (e x y : Expr) (o : Op) (a b : Box Expr Global) (v w r : Result Value Fault) → e ≡ exprs.Bin o a b → x ≡ a.value → y ≡ b.value
    → v ≡ value_of d (expression_of x) s → w ≡ value_of d (expression_of y) s → r ≡ combined o v w → r ≡ value_of d (expression_of e) s
bin_found d s e x y o a b v w r h k l f g t =
    t ∙ ap (λ q. combined o q w) (f ∙ ap (value_at d s) k) ∙ ap (combined o (value_at d s a.value)) (g ∙ ap (value_at d s) l)
    ∙ sym (ap (value_at d s) h ∙ value-bin d o a b s)

pub call_found : (d : Dialect) (s : Store) (e : Expr) (f : Fun) (es : Seq Expr) (vs : Result (List Value) Fault) (r : Result Value Fault) → e ≡ exprs.Call f es
    → vs ≡ values_of d (expressions (map expression_of es)) s → r ≡ called f vs → r ≡ value_of d (expression_of e) s
call_found d s e f es vs r h g t = t ∙ ap (called f) g ∙ sym (ap (value_at d s) h ∙ value-call d f es s)

pub array_fails : (d : Dialect) (s : Store) (e : Expr)
    → ((es : Seq Expr) × (ls : Seq Turn) × (e ≡ exprs.List es ls)) ⊎ (((a : Box Expr Global) × (k : ℕ) × (n : Box Expr Global) × (e ≡ exprs.Spread a k n)) ⊎ ((a : Box Expr Global) × (e ≡ exprs.Transpose a)))
    → Err Shape ≡ value_of d (expression_of e) s
array_fails d s e (inl (es, ls, h)) = sym (ap (value_at d s) h ∙ value-list d es ls s)
array_fails d s e (inr (inl (a, k, n, h))) = sym (ap (value_at d s) h ∙ value-spread d a k n s)
array_fails d s e (inr (inr (a, h))) = sym (ap (value_at d s) h ∙ value-transpose d a s)

pub whole_fails : (d : Dialect) (s : Store) (e : Expr) → d.arrays ≡ false → ((a : Box Expr Global) × (es : Seq Expr) × (e ≡ exprs.Reshape a es)) ⊎ ((r : Red) × (a : Box Expr Global) × (e ≡ exprs.Reduce r a))
    → Err Shape ≡ value_of d (expression_of e) s
whole_fails d s e none (inl (a, es, h)) = sym (ap (value_at d s) h ∙ value-reshape d a es s)
whole_fails d s e none (inr (r, a, h)) = sym (ap (value_at d s) h ∙ value-reduce d r a s none)

abbrev fault_at : Dialect → Store → Sub → Option Fault
fault_at d s p = fault_of (subscript_value d (subscript_of p) s)

pub one_found : (d : Dialect) (s : Store) (p : Sub) (e : Expr) (v : Result Value Fault) (n : Result ℤ Fault) (r : Option Fault) → p ≡ subs.One e → v ≡ value_of d (expression_of e) s
    → n ≡ numbered v → r ≡ fault_of n → r ≡ fault_of (subscript_value d (subscript_of p) s)
one_found d s p e v n r h g k t =
    t ∙ ap (λ (q : Result ℤ Fault). fault_of q) (k ∙ ap numbered g ∙ sym (subscript-one d e s)) ∙ sym (ap (fault_at d s) h)

pub part_fails : (d : Dialect) (s : Store) (p : Sub) (a b c : Expr) → p ≡ subs.Part a b c → Some Shape ≡ fault_of (subscript_value d (subscript_of p) s)
part_fails d s p a b c h = sym (ap (fault_at d s) h ∙ ap (λ (q : Result ℤ Fault). fault_of q) (subscript-part d a b c s))

-- ---- names

-- a name without subscripts
bare_name : (c : Constants) (x : List ℕ) (v : Option Value) → value_in c x ≡ v
    → (cell_in (cond (is_some v) (Some []) None) x [] >>= (λ cell. let held : Result Value Fault = Ok (value_or_nought (value_in c cell.name)) in held)) ≡ given None true v
bare_name c x None e = refl
bare_name c x (Some w) e = ap (λ o. let held : Result Value Fault = Ok (value_or_nought o) in held) e

-- a name with subscripts
element : (f : Cell → Result Value Fault) (x : List ℕ) (r : Result ℤ Fault) (rs : Result (List ℤ) Fault) (v : Option Value)
    → ((r >>= (λ i. rs >>= (λ is. let all : Result (List ℤ) Fault = Ok (i ∷ is) in all))) >>= (λ is. cell_in (cond (is_some v) (Some []) None) x is >>= f))
    ≡ given (fault_of (r >>= (λ i. rs >>= (λ is. let all : Result (List ℤ) Fault = Ok (i ∷ is) in all)))) false v
element f x (Err fault) rs v = refl
element f x (Ok i) (Err fault) v = refl
element f x (Ok i) (Ok is) None = refl
element f x (Ok i) (Ok is) (Some w) = refl

name_value : (width : Width) (c : Constants) (x : List ℕ) (ss : List Sub) (bare : Bool) → (IsTrue bare ↔ (ss ≡ []))
    → value_of (fortran77 width) (Named x (subscripts (map subscript_of ss))) (store_of c)
    ≡ given (fault_of (subscript_values (fortran77 width) (subscripts (map subscript_of ss)) (store_of c))) bare (value_in c x)
name_value width c x [] true h = bare_name c x (value_in c x) refl
name_value width c x [] false h = let k = h.1 refl in cc
name_value width c x (s ∷ ss) true h = let k = h.0 refl in cc
name_value width c x (s ∷ ss) false h =
    element (λ cell. let held : Result Value Fault = Ok (value_or_nought (value_in c cell.name)) in held) x (subscript_value (fortran77 width) (subscript_of s) (store_of c))
    (subscript_values (fortran77 width) (subscripts (map subscript_of ss)) (store_of c)) (value_in c x)

pub value-item : (width : Width) (c : Constants) (r : Ref) (bare : Bool) → (IsTrue bare ↔ ((out-Ref r).subs ≡ []))
    → value_of (fortran77 width) (expression_of (exprs.Item r)) (store_of c)
    ≡ given (fault_of (subscript_values (fortran77 width) (subscripts (map subscript_of (out-Ref r).subs)) (store_of c))) bare (value_in c (out-Ref r).name)
value-item width c r bare h =
    ap (λ e. value_of (fortran77 width) e (store_of c)) (expression_of-item r)
    ∙ ap (λ (q : Reference). value_of (fortran77 width) (Named q.name q.subscripts) (store_of c)) (reference_of-is r)
    ∙ name_value width c (out-Ref r).name (out-Ref r).subs bare h

-- ---- one argument or subscript more

value_more : (all : Result (List Value) Fault) (vs ws : List Value) (v : Value) (r : Result Value Fault) (rs : Result (List Value) Fault)
    → all ≡ preceded vs (r >>= λ x. rs >>= λ xs. Ok (x ∷ xs)) → Ok v ≡ r → ws ≡ vs ++ v ∷ [] → all ≡ preceded ws rs
value_more all vs ws v r rs old e f = old ∙ ap (λ q. preceded vs (q >>= λ x. rs >>= λ xs. Ok (x ∷ xs))) (sym e) ∙ by rs ∙ ap (λ us. preceded us rs) (sym f)
  where
    by : (q : Result (List Value) Fault) → preceded vs (q >>= λ xs. Ok (v ∷ xs)) ≡ preceded (vs ++ v ∷ []) q
    by (Ok ys) = ap (λ us. let done : Result (List Value) Fault = Ok us in done) (sym (append_assoc vs (v ∷ []) ys))
    by (Err fault) = refl

pub values_more : (width : Width) (s : Store) (all : Result (List Value) Fault) (es : List Expr) (i : ℕ) (x : Expr) (vs ws : List Value) (v : Value)
    → all ≡ preceded vs (values_of (fortran77 width) (expressions (map expression_of (drop i es))) s) → i < length es → x ≡ get_or es i x
    → Ok v ≡ value_of (fortran77 width) (expression_of x) s → ws ≡ vs ++ v ∷ []
    → all ≡ preceded ws (values_of (fortran77 width) (expressions (map expression_of (drop (i + 1) es))) s)
values_more width s all es i x vs ws v old h k e f =
    value_more all vs ws v (value_of (fortran77 width) (expression_of x) s) (values_of (fortran77 width) (expressions (map expression_of (drop (i + 1) es))) s)
    (old ∙ ap (λ q. preceded vs (values_of (fortran77 width) (expressions (map expression_of q)) s)) (left es i x h k)) e f

fault_more : (r : Result ℤ Fault) (rs : Result (List ℤ) Fault) → is_some (fault_of r) ≡ false → fault_of (r >>= λ i. rs >>= λ is. let all : Result (List ℤ) Fault = Ok (i ∷ is) in all) ≡ fault_of rs
fault_more (Ok i) (Ok is) h = refl
fault_more (Ok i) (Err fault) h = refl
fault_more (Err fault) rs h = absurd cc

pub faults_more : (width : Width) (s : Store) (all fault : Option Fault) (ss : List Sub) (i : ℕ) (x : Sub)
    → all ≡ fault_of (subscript_values (fortran77 width) (subscripts (map subscript_of (drop i ss))) s) → i < length ss → x ≡ get_or ss i x
    → fault ≡ fault_of (subscript_value (fortran77 width) (subscript_of x) s) → false ≡ is_some fault
    → all ≡ fault_of (subscript_values (fortran77 width) (subscripts (map subscript_of (drop (i + 1) ss))) s)
faults_more width s all fault ss i x old h k e f =
    old ∙ ap (λ q. fault_of (subscript_values (fortran77 width) (subscripts (map subscript_of q)) s)) (left ss i x h k)
    ∙ fault_more (subscript_value (fortran77 width) (subscript_of x) s) (subscript_values (fortran77 width) (subscripts (map subscript_of (drop (i + 1) ss))) s) (ap is_some (sym e) ∙ sym f)

pub ruleset value_laws = (value-int, value-truth, value-un, value-bin, value-call, value-list, value-spread, value-transpose, value-reshape, value-reduce, subscript-one, subscript-part, value-item)
