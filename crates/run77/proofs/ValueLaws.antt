-- What the parts of an expression give it.
use Rattle.std.proofs.Common.{◌≡◌, refl, sym, ap, ◌∙◌, subst, ℕ, ℤ, ◌+◌, ◌<◌, ◌≤◌, Bool, true, false, cond, List, [], ◌∷◌, ◌++◌, map, drop, length, get_or, Result, Ok, Err, Option, Some, None, arith}
use Rattle.std.proofs.lemmas.List.{append-nil, at_drop_more, at_drop_all}
use Rattle.std.proofs.Common.{append_assoc, length-append, ltb-false}
use Rattle.std.specs.Prelude.{is_some, nat_lt}
use Rattle.std.specs.Option.{option_map}
use Rattle.std.specs.List.{fold}
use mathlib.Core.Path.{ap₂}
use Rattle.std.specs.declared.boxed.Box.{Box}
use Rattle.std.specs.declared.alloc.Global.{Global}
use Rattle.tree.specs.Steps.{◌>>=◌}
use Rattle.tree.specs.Operators.{apply, call, as_number}
use Rattle.tree.specs.Plain as P
use Rattle.tree.specs.View.{expression_of, subscript_of, reference_of}
use Rattle.tree.specs.declared.ops.Op.{Op}
use Rattle.tree.specs.declared.functions.Fun.{Fun}
use Rattle.tree.specs.declared.functions.Red.{Red}
use Rattle.tree.specs.declared.exprs.Turn.{Turn}
use Rattle.tree.specs.declared.ops.Value.{Value}
use Rattle.tree.specs.declared.ops.Value.TheVariants.{Int, Truth}
use Rattle.tree.specs.declared.ops.Fault.{Fault}
use Rattle.tree.specs.declared.ops.Fault.TheVariants.{Bounds, Allocated, Shape}
use Rattle.tree.specs.declared.lists.Seq.{Seq}
use Rattle.tree.specs.declared.exprs.Expr.{Expr}
use Rattle.tree.specs.declared.exprs.Expr.TheVariants as exprs
use Rattle.tree.specs.declared.exprs.Sub.{Sub}
use Rattle.tree.specs.declared.exprs.Sub.TheVariants as subs
use Rattle.tree.specs.declared.exprs.Ref.{Ref, out-Ref}
use Rattle.tree.proofs.Equations.{expression_of-int, expression_of-truth, expression_of-item, expression_of-un, expression_of-bin, expression_of-call, expression_of-list, expression_of-spread, expression_of-transpose, expression_of-reshape, expression_of-reduce, subscript_of-one, subscript_of-part, reference_of-is}
use Rattle.meaning.specs.Store.{Store, Cell, cell_at, cell_in, is_within, opening_bounds}
use Rattle.meaning.specs.Dialect.{fortran77}
use Rattle.tree.specs.declared.width.Width.TheVariants.{Plain}
use Rattle.meaning.specs.Value.{value_of, values_of, subscript_value, subscript_values, cell_named}
use Rattle.meaning.specs.Extents.{elements_of}
use Rattle.machine.specs.Storage.{store_of, place, offset, joined, total, with_more}
use Rattle.machine.specs.Stored.{Finds, IsOf, bounds_here}
use Rattle.run77.specs.Values.{call_of, offset_of}
use Rattle.machine.proofs.StoreLaws.{store-bounds, within_offset, offset_below}
use Rattle.machine.specs.declared.variables.Variable.{Variable}
use Rattle.tree.specs.declared.arguments.Arguments.{Arguments}
use Rattle.tree.specs.declared.arguments.Arguments.TheVariants.{Empty}
use Rattle.tree.specs.Arguments.{added, finished}
use Rattle.tree.proofs.Calls.{finished_is}

-- ---- expressions

pub int_value : (n : ℤ) (s : Store) → value_of (fortran77 Plain) (expression_of (exprs.Int n)) s ≡ Ok (Int n)
int_value n s = ap (λ e. value_of (fortran77 Plain) e s) (expression_of-int n)

pub truth_value : (b : Bool) (s : Store) → value_of (fortran77 Plain) (expression_of (exprs.Truth b)) s ≡ Ok (Truth b)
truth_value b s = ap (λ e. value_of (fortran77 Plain) e s) (expression_of-truth b)

pub un_value : (o : Op) (a : Box Expr Global) (s : Store) (x : Value) → Ok x ≡ value_of (fortran77 Plain) (expression_of a.value) s
    → value_of (fortran77 Plain) (expression_of (exprs.Un o a)) s ≡ apply o x x
un_value o a s x e = ap (λ e. value_of (fortran77 Plain) e s) (expression_of-un o a) ∙ ap (λ (r : Result Value Fault). do x ← r; apply o x x) (sym e)

pub un_fault : (o : Op) (a : Box Expr Global) (s : Store) (f : Fault) → Err f ≡ value_of (fortran77 Plain) (expression_of a.value) s
    → value_of (fortran77 Plain) (expression_of (exprs.Un o a)) s ≡ Err f
un_fault o a s f e = ap (λ e. value_of (fortran77 Plain) e s) (expression_of-un o a) ∙ ap (λ (r : Result Value Fault). do x ← r; apply o x x) (sym e)

pub bin_value : (o : Op) (a b : Box Expr Global) (s : Store) (x y : Value) → Ok x ≡ value_of (fortran77 Plain) (expression_of a.value) s → Ok y ≡ value_of (fortran77 Plain) (expression_of b.value) s
    → value_of (fortran77 Plain) (expression_of (exprs.Bin o a b)) s ≡ apply o x y
bin_value o a b s x y e h = ap (λ e. value_of (fortran77 Plain) e s) (expression_of-bin o a b) ∙ ap₂ (λ (r q : Result Value Fault). do x ← r; y ← q; apply o x y) (sym e) (sym h)

pub bin_first_fault : (o : Op) (a b : Box Expr Global) (s : Store) (f : Fault) → Err f ≡ value_of (fortran77 Plain) (expression_of a.value) s
    → value_of (fortran77 Plain) (expression_of (exprs.Bin o a b)) s ≡ Err f
bin_first_fault o a b s f e = ap (λ e. value_of (fortran77 Plain) e s) (expression_of-bin o a b) ∙ ap (λ (r : Result Value Fault). do x ← r; y ← value_of (fortran77 Plain) (expression_of b.value) s; apply o x y) (sym e)

pub bin_second_fault : (o : Op) (a b : Box Expr Global) (s : Store) (x : Value) (f : Fault) → Ok x ≡ value_of (fortran77 Plain) (expression_of a.value) s → Err f ≡ value_of (fortran77 Plain) (expression_of b.value) s
    → value_of (fortran77 Plain) (expression_of (exprs.Bin o a b)) s ≡ Err f
bin_second_fault o a b s x f e h = ap (λ e. value_of (fortran77 Plain) e s) (expression_of-bin o a b) ∙ ap₂ (λ (r q : Result Value Fault). do x ← r; y ← q; apply o x y) (sym e) (sym h)

pub call_value : (f : Fun) (es : Seq Expr) (s : Store)
    → value_of (fortran77 Plain) (expression_of (exprs.Call f es)) s ≡ call_of (fortran77 Plain) f (P.expressions (map expression_of es)) s
call_value f es s = ap (λ e. value_of (fortran77 Plain) e s) (expression_of-call f es)

-- ---- subscripts

pub subscript_value_is : (e : Expr) (s : Store) (x : Value) → Ok x ≡ value_of (fortran77 Plain) (expression_of e) s
    → subscript_value (fortran77 Plain) (subscript_of (subs.One e)) s ≡ as_number x
subscript_value_is e s x h = ap (λ p. subscript_value (fortran77 Plain) p s) (subscript_of-one e) ∙ ap (λ (r : Result Value Fault). do x ← r; as_number x) (sym h)

pub subscript_fault_is : (e : Expr) (s : Store) (f : Fault) → Err f ≡ value_of (fortran77 Plain) (expression_of e) s
    → subscript_value (fortran77 Plain) (subscript_of (subs.One e)) s ≡ Err f
subscript_fault_is e s f h = ap (λ p. subscript_value (fortran77 Plain) p s) (subscript_of-one e) ∙ ap (λ (r : Result Value Fault). do x ← r; as_number x) (sym h)

pub part_fault_is : (a b c : Expr) (s : Store) → subscript_value (fortran77 Plain) (subscript_of (subs.Part a b c)) s ≡ Err Shape
part_fault_is a b c s = ap (λ p. subscript_value (fortran77 Plain) p s) (subscript_of-part a b c)

-- ---- arrays are no values

pub list_value : (es : Seq Expr) (ls : Seq Turn) (s : Store) → value_of (fortran77 Plain) (expression_of (exprs.List es ls)) s ≡ Err Shape
list_value es ls s = ap (λ e. value_of (fortran77 Plain) e s) (expression_of-list es ls)

pub spread_value : (a : Box Expr Global) (d : ℕ) (n : Box Expr Global) (s : Store)
    → value_of (fortran77 Plain) (expression_of (exprs.Spread a d n)) s ≡ Err Shape
spread_value a d n s = ap (λ e. value_of (fortran77 Plain) e s) (expression_of-spread a d n)

pub transpose_value : (a : Box Expr Global) (s : Store) → value_of (fortran77 Plain) (expression_of (exprs.Transpose a)) s ≡ Err Shape
transpose_value a s = ap (λ e. value_of (fortran77 Plain) e s) (expression_of-transpose a)

pub reshape_value : (a : Box Expr Global) (es : Seq Expr) (s : Store)
    → value_of (fortran77 Plain) (expression_of (exprs.Reshape a es)) s ≡ Err Shape
reshape_value a es s = ap (λ e. value_of (fortran77 Plain) e s) (expression_of-reshape a es)

pub reduce_value : (r : Red) (a : Box Expr Global) (s : Store) → value_of (fortran77 Plain) (expression_of (exprs.Reduce r a)) s ≡ Err Shape
reduce_value r a s = ap (λ e. value_of (fortran77 Plain) e s) (expression_of-reduce r a)

pub ruleset value_laws = (int_value, truth_value, un_value, un_fault, bin_value, bin_first_fault, bin_second_fault, call_value, subscript_value_is, subscript_fault_is, part_fault_is)

-- a place that was found for subscripts
pub offset_found : (bs : List (ℤ × ℤ)) (ps : P.Subscripts) (s : Store) (k : ℕ) → Ok (Some k) ≡ offset_of (fortran77 Plain) bs ps s → k < elements_of bs
offset_found bs ps s k e = by (subscript_values (fortran77 Plain) ps s) e
  where
    by : (r : Result (List ℤ) Fault) → ◌≡◌ {A = Result (Option ℕ) Fault} (Ok (Some k)) (do is ← r; Ok (offset bs is)) → k < elements_of bs
    by (Ok is) e = offset_below bs is k cc
    by (Err f) e = cc

-- ---- the place of a cell

cell_of : (ds : List P.Declaration) (vs : List Value) (r : P.Reference) → cell_named (fortran77 Plain) r (store_of ds vs) ≡ (do is ← subscript_values (fortran77 Plain) r.subscripts (store_of ds vs); cell_in (opening_bounds ds r.name) r.name is)
cell_of ds vs r = ap (λ b. do is ← subscript_values (fortran77 Plain) r.subscripts (store_of ds vs); cell_in b r.name is) (store-bounds ds vs r.name)

pub place_fault : (ds : List P.Declaration) (vs : List Value) (r : Ref) (bs : List (ℤ × ℤ)) (f : Fault)
    → Err f ≡ offset_of (fortran77 Plain) bs (P.subscripts (map subscript_of (out-Ref r).subs)) (store_of ds vs) → cell_named (fortran77 Plain) (reference_of r) (store_of ds vs) ≡ Err f
place_fault ds vs r bs f e =
    ap (λ q. cell_named (fortran77 Plain) q (store_of ds vs)) (reference_of-is r)
    ∙ by (subscript_values (fortran77 Plain) (P.subscripts (map subscript_of (out-Ref r).subs)) (store_of ds vs)) e
  where
    by : (q : Result (List ℤ) Fault) → ◌≡◌ {A = Result (Option ℕ) Fault} (Err f) (do is ← q; Ok (offset bs is))
        → ◌≡◌ {A = Result Cell Fault} (do is ← q; cell_at (out-Ref r).name is (store_of ds vs)) (Err f)
    by (Ok is) e = cc
    by (Err g) e = cc

pub place_unknown : (ds : List P.Declaration) (vs : List Value) (r : Ref) (bs : List (ℤ × ℤ)) (o : Option ℕ) → opening_bounds ds (out-Ref r).name ≡ None
    → Ok o ≡ offset_of (fortran77 Plain) bs (P.subscripts (map subscript_of (out-Ref r).subs)) (store_of ds vs) → cell_named (fortran77 Plain) (reference_of r) (store_of ds vs) ≡ Err Allocated
place_unknown ds vs r bs o n e =
    ap (λ q. cell_named (fortran77 Plain) q (store_of ds vs)) (reference_of-is r)
    ∙ by (subscript_values (fortran77 Plain) (P.subscripts (map subscript_of (out-Ref r).subs)) (store_of ds vs)) e
  where
    by : (q : Result (List ℤ) Fault) → ◌≡◌ {A = Result (Option ℕ) Fault} (Ok o) (do is ← q; Ok (offset bs is))
        → ◌≡◌ {A = Result Cell Fault} (do is ← q; cell_at (out-Ref r).name is (store_of ds vs)) (Err Allocated)
    by (Ok is) e = ap (λ b. cell_in b (out-Ref r).name is) (store-bounds ds vs (out-Ref r).name ∙ n)
    by (Err g) e = cc

pub place_outside : (ds : List P.Declaration) (vs : List Value) (r : Ref) (v : Variable) → IsOf ds (out-Ref r).name v
    → Ok None ≡ offset_of (fortran77 Plain) (bounds_here v) (P.subscripts (map subscript_of (out-Ref r).subs)) (store_of ds vs) → cell_named (fortran77 Plain) (reference_of r) (store_of ds vs) ≡ Err Bounds
place_outside ds vs r v h e =
    ap (λ q. cell_named (fortran77 Plain) q (store_of ds vs)) (reference_of-is r)
    ∙ by (subscript_values (fortran77 Plain) (P.subscripts (map subscript_of (out-Ref r).subs)) (store_of ds vs)) e
  where
    by : (q : Result (List ℤ) Fault) → ◌≡◌ {A = Result (Option ℕ) Fault} (Ok None) (do is ← q; Ok (offset (bounds_here v) is))
        → ◌≡◌ {A = Result Cell Fault} (do is ← q; cell_at (out-Ref r).name is (store_of ds vs)) (Err Bounds)
    by (Ok is) e =
        let none : offset (bounds_here v) is ≡ None = cc in
        let out : is_within (bounds_here v) is ≡ false = within_offset (bounds_here v) is ∙ ap is_some none in
        ap (λ b. cell_in b (out-Ref r).name is) (store-bounds ds vs (out-Ref r).name ∙ h.bounds)
        ∙ ap (λ t. cond t (Ok (record { name = (out-Ref r).name; subscripts = is })) (Err Bounds)) out
    by (Err g) e = cc

pub place_found : (ds : List P.Declaration) (vs : List Value) (r : Ref) (v : Variable) (k : ℕ) → IsOf ds (out-Ref r).name v
    → Ok (Some k) ≡ offset_of (fortran77 Plain) (bounds_here v) (P.subscripts (map subscript_of (out-Ref r).subs)) (store_of ds vs)
    → Finds ds (cell_named (fortran77 Plain) (reference_of r) (store_of ds vs)) (Ok (v.start + k))
place_found ds vs r v k h e =
    subst (λ q. Finds ds (cell_named (fortran77 Plain) q (store_of ds vs)) (Ok (v.start + k))) (sym (reference_of-is r))
    (by (subscript_values (fortran77 Plain) (P.subscripts (map subscript_of (out-Ref r).subs)) (store_of ds vs)) e)
  where
    by : (q : Result (List ℤ) Fault) → ◌≡◌ {A = Result (Option ℕ) Fault} (Ok (Some k)) (do is ← q; Ok (offset (bounds_here v) is))
        → Finds ds (do is ← q; cell_at (out-Ref r).name is (store_of ds vs)) (Ok (v.start + k))
    by (Ok is) e =
        let some : offset (bounds_here v) is ≡ Some k = cc in
        let inside : is_within (bounds_here v) is ≡ true = within_offset (bounds_here v) is ∙ ap is_some some in
        let cell : cell_at (out-Ref r).name is (store_of ds vs) ≡ Ok (record { name = (out-Ref r).name; subscripts = is }) =
        ap (λ b. cell_in b (out-Ref r).name is) (store-bounds ds vs (out-Ref r).name ∙ h.bounds)
        ∙ ap (λ t. cond t (Ok (record { name = (out-Ref r).name; subscripts = is })) (Err Bounds)) inside in
        subst (λ q. Finds ds q (Ok (v.start + k))) (sym cell) (h.place is ∙ ap (option_map (λ j. v.start + j)) some)
    by (Err g) e = cc

pub place_within : (ds : List P.Declaration) (vs : List Value) (ps : P.Subscripts) (x : List ℕ) (v : Variable) (k : ℕ) → IsOf ds x v
    → Ok (Some k) ≡ offset_of (fortran77 Plain) (bounds_here v) ps (store_of ds vs) → v.start + k < total ds
place_within ds vs ps x v k h e = let below = offset_found (bounds_here v) ps (store_of ds vs) k e in omega (arith, h.fits)

finds_value : (ds : List P.Declaration) (s : Store) (q : Result Cell Fault) (k : ℕ) (x : Value) → Finds ds q (Ok k)
    → ((c : Cell) → place ds c.name c.subscripts ≡ Some k → s.held c ≡ x) → ◌≡◌ {A = Result Value Fault} (do c ← q; Ok (s.held c)) (Ok x)
finds_value ds s (Ok c) k x h e = ap (λ (v : Value). let r : Result Value Fault = Ok v in r) (e c h)
finds_value ds s (Err f) k x h e = absurd h

finds_fault : (ds : List P.Declaration) (vs : List Value) (q : Result Cell Fault) (f : Fault) → Finds ds q (Err f) → ◌≡◌ {A = Result Value Fault} (do c ← q; Ok ((store_of ds vs).held c)) (Err f)
finds_fault ds vs (Ok c) f h = absurd h
finds_fault ds vs (Err g) f h = cc

named_is : (r : P.Reference) (s : Store) → value_of (fortran77 Plain) (P.Named r.name r.subscripts) s ≡ (do c ← cell_named (fortran77 Plain) r s; Ok (s.held c))
named_is r s = by (subscript_values (fortran77 Plain) r.subscripts s)
  where
    by : (q : Result (List ℤ) Fault) → ◌≡◌ {A = Result Value Fault} (do is ← q; c ← cell_at r.name is s; Ok (s.held c)) (do c ← (do is ← q; cell_at r.name is s); Ok (s.held c))
    by (Ok is) = refl
    by (Err f) = refl

pub item_value : (ds : List P.Declaration) (s : Store) (r : Ref) (k : ℕ) (x : Value) → Finds ds (cell_named (fortran77 Plain) (reference_of r) s) (Ok k)
    → ((c : Cell) → place ds c.name c.subscripts ≡ Some k → s.held c ≡ x) → value_of (fortran77 Plain) (expression_of (exprs.Item r)) s ≡ Ok x
item_value ds s r k x h e =
    ap (λ e. value_of (fortran77 Plain) e s) (expression_of-item r)
    ∙ named_is (reference_of r) s ∙ finds_value ds s (cell_named (fortran77 Plain) (reference_of r) s) k x h e

pub item_fault : (ds : List P.Declaration) (vs : List Value) (r : Ref) (f : Fault) → Finds ds (cell_named (fortran77 Plain) (reference_of r) (store_of ds vs)) (Err f)
    → value_of (fortran77 Plain) (expression_of (exprs.Item r)) (store_of ds vs) ≡ Err f
item_fault ds vs r f h =
    ap (λ e. value_of (fortran77 Plain) e (store_of ds vs)) (expression_of-item r)
    ∙ named_is (reference_of r) (store_of ds vs) ∙ finds_fault ds vs (cell_named (fortran77 Plain) (reference_of r) (store_of ds vs)) f h

pub finds_same : (ds : List P.Declaration) (q : Result Cell Fault) (f : Fault) → q ≡ Err f → Finds ds q (Err f)
finds_same ds q f e = subst (λ (r : Result Cell Fault). Finds ds r (Err f)) (sym e) refl

-- ---- arguments, one at a time

taken_on : (f : Fun) (given : Arguments) (x : Value) (q : Result (List Value) Fault)
    → ◌≡◌ {A = Result Value Fault} (do xs ← (do xs ← q; Ok (x ∷ xs)); finished f (fold (added f) given xs)) (do xs ← q; finished f (fold (added f) (added f given x) xs))
taken_on f given x (Ok xs) = refl
taken_on f given x (Err e) = refl

-- the value of a call, where some arguments were taken and these are left
pub left_to_call : Fun → Arguments → List Expr → Store → Result Value Fault
left_to_call f given es s = do xs ← values_of (fortran77 Plain) (P.expressions (map expression_of es)) s; finished f (fold (added f) given xs)

called : (f : Fun) (q : Result (List Value) Fault) → ◌≡◌ {A = Result Value Fault} (do xs ← q; call f xs) (do xs ← q; finished f (fold (added f) Empty xs))
called f (Ok xs) = sym (finished_is f xs)
called f (Err e) = refl

pub call_begun : (f : Fun) (es : List Expr) (s : Store) → call_of (fortran77 Plain) f (P.expressions (map expression_of es)) s ≡ left_to_call f Empty es s
unfolding left_to_call
call_begun f es s = called f (values_of (fortran77 Plain) (P.expressions (map expression_of es)) s)

pub call_done : (f : Fun) (given : Arguments) (s : Store) → left_to_call f given [] s ≡ finished f given
unfolding left_to_call
call_done f given s = refl

pub call_fault : (f : Fun) (given : Arguments) (e : Expr) (es : List Expr) (s : Store) (g : Fault) → Err g ≡ value_of (fortran77 Plain) (expression_of e) s → left_to_call f given (e ∷ es) s ≡ Err g
unfolding left_to_call
call_fault f given e es s g h = ap (λ (r : Result Value Fault). do xs ← (do x ← r; xs ← values_of (fortran77 Plain) (P.expressions (map expression_of es)) s; Ok (x ∷ xs)); finished f (fold (added f) given xs)) (sym h)

pub call_more : (f : Fun) (given : Arguments) (e : Expr) (es : List Expr) (s : Store) (x : Value) → Ok x ≡ value_of (fortran77 Plain) (expression_of e) s
    → left_to_call f given (e ∷ es) s ≡ left_to_call f (added f given x) es s
unfolding left_to_call
call_more f given e es s x h =
    ap (λ (r : Result Value Fault). do xs ← (do x ← r; xs ← values_of (fortran77 Plain) (P.expressions (map expression_of es)) s; Ok (x ∷ xs)); finished f (fold (added f) given xs)) (sym h)
    ∙ taken_on f given x (values_of (fortran77 Plain) (P.expressions (map expression_of es)) s)

-- ---- subscripts, one at a time

offset_long : (bs : List (ℤ × ℤ)) (is : List ℤ) → length bs < length is → offset bs is ≡ None
offset_long [] [] h = absurd (omega arith)
offset_long [] (i ∷ is) h = refl
offset_long (b ∷ bs) [] h = refl
offset_long (b ∷ bs) (i ∷ is) h = ap (joined b i) (offset_long bs is (omega arith))

with_more_offset : (bs : List (ℤ × ℤ)) (is : List ℤ) (i : ℤ) (more : List ℤ) → length bs < 8 → offset bs (with_more is i ++ more) ≡ offset bs (is ++ i ∷ more)
with_more_offset bs is i more h = by (nat_lt (length is) 8) refl
  where
    by : (t : Bool) → nat_lt (length is) 8 ≡ t → offset bs (cond t (is ++ i ∷ []) is ++ more) ≡ offset bs (is ++ i ∷ more)
    by true e = ap (offset bs) (append_assoc is (i ∷ []) more)
    by false e =
        let l : 8 ≤ length is = ltb-false (length is) 8 e in
        offset_long bs (is ++ more) (let n = length-append is more in omega arith)
        ∙ sym (offset_long bs (is ++ i ∷ more) (let n = length-append is (i ∷ more) in omega arith))

-- the place of an element, where some subscripts are known and these are left
pub left_to_place : List (ℤ × ℤ) → List ℤ → List Sub → Store → Result (Option ℕ) Fault
left_to_place bs known ps s = do is ← subscript_values (fortran77 Plain) (P.subscripts (map subscript_of ps)) s; Ok (offset bs (known ++ is))

known_more : (bs : List (ℤ × ℤ)) (known : List ℤ) (i : ℤ) (q : Result (List ℤ) Fault) → length bs < 8
    → ◌≡◌ {A = Result (Option ℕ) Fault} (do is ← (do is ← q; Ok (i ∷ is)); Ok (offset bs (known ++ is))) (do is ← q; Ok (offset bs (with_more known i ++ is)))
known_more bs known i (Ok is) h = ap (λ (o : Option ℕ). let r : Result (Option ℕ) Fault = Ok o in r) (sym (with_more_offset bs known i is h))
known_more bs known i (Err f) h = refl

pub place_begun : (bs : List (ℤ × ℤ)) (ps : List Sub) (s : Store) → offset_of (fortran77 Plain) bs (P.subscripts (map subscript_of ps)) s ≡ left_to_place bs [] ps s
unfolding left_to_place
place_begun bs ps s = refl

pub place_done : (bs : List (ℤ × ℤ)) (known : List ℤ) (s : Store) → left_to_place bs known [] s ≡ Ok (offset bs known)
unfolding left_to_place
place_done bs known s = ap (λ (is : List ℤ). let r : Result (Option ℕ) Fault = Ok (offset bs is) in r) (append-nil known)

pub place_stopped : (bs : List (ℤ × ℤ)) (known : List ℤ) (p : Sub) (ps : List Sub) (s : Store) (f : Fault) → Err f ≡ subscript_value (fortran77 Plain) (subscript_of p) s → left_to_place bs known (p ∷ ps) s ≡ Err f
unfolding left_to_place
place_stopped bs known p ps s f h = ap (λ (r : Result ℤ Fault). do is ← (do i ← r; is ← subscript_values (fortran77 Plain) (P.subscripts (map subscript_of ps)) s; Ok (i ∷ is)); Ok (offset bs (known ++ is))) (sym h)

pub place_more : (bs : List (ℤ × ℤ)) (known : List ℤ) (p : Sub) (ps : List Sub) (s : Store) (i : ℤ) → length bs < 8 → Ok i ≡ subscript_value (fortran77 Plain) (subscript_of p) s
    → left_to_place bs known (p ∷ ps) s ≡ left_to_place bs (with_more known i) ps s
unfolding left_to_place
place_more bs known p ps s i l h =
    ap (λ (r : Result ℤ Fault). do is ← (do i ← r; is ← subscript_values (fortran77 Plain) (P.subscripts (map subscript_of ps)) s; Ok (i ∷ is)); Ok (offset bs (known ++ is))) (sym h)
    ∙ known_more bs known i (subscript_values (fortran77 Plain) (P.subscripts (map subscript_of ps)) s) l

-- the same over a list from a place in it on

module _ (whole : Result Value Fault) (f : Fun) (given : Arguments) (es : List Expr) (i : ℕ) (s : Store) (so_far : whole ≡ left_to_call f given (drop i es) s) where
  pub call_step_fault : (e : Expr) (g : Fault) → i < length es → e ≡ get_or es i e → Err g ≡ value_of (fortran77 Plain) (expression_of e) s → Err g ≡ whole
  call_step_fault e g l h v = sym (so_far ∙ at_drop_more (λ es. left_to_call f given es s) es i e l ∙ ap (λ d. left_to_call f given (d ∷ drop (i + 1) es) s) (sym h) ∙ call_fault f given e (drop (i + 1) es) s g v)

  pub call_step : (e : Expr) (x : Value) → i < length es → e ≡ get_or es i e → Ok x ≡ value_of (fortran77 Plain) (expression_of e) s → whole ≡ left_to_call f (added f given x) (drop (i + 1) es) s
  call_step e x l h v = so_far ∙ at_drop_more (λ es. left_to_call f given es s) es i e l ∙ ap (λ d. left_to_call f given (d ∷ drop (i + 1) es) s) (sym h) ∙ call_more f given e (drop (i + 1) es) s x v

  pub call_end : length es ≤ i → finished f given ≡ whole
  call_end l = sym (so_far ∙ at_drop_all (λ es. left_to_call f given es s) es i l ∙ call_done f given s)

module _ (whole : Result (Option ℕ) Fault) (bs : List (ℤ × ℤ)) (known : List ℤ) (ps : List Sub) (i : ℕ) (s : Store) (so_far : whole ≡ left_to_place bs known (drop i ps) s) where
  pub place_step_fault : (p : Sub) (g : Fault) → i < length ps → p ≡ get_or ps i p → Err g ≡ subscript_value (fortran77 Plain) (subscript_of p) s → Err g ≡ whole
  place_step_fault p g l h v = sym (so_far ∙ at_drop_more (λ ps. left_to_place bs known ps s) ps i p l ∙ ap (λ d. left_to_place bs known (d ∷ drop (i + 1) ps) s) (sym h) ∙ place_stopped bs known p (drop (i + 1) ps) s g v)

  pub place_step : (p : Sub) (n : ℤ) → length bs < 8 → i < length ps → p ≡ get_or ps i p → Ok n ≡ subscript_value (fortran77 Plain) (subscript_of p) s → whole ≡ left_to_place bs (with_more known n) (drop (i + 1) ps) s
  place_step p n few l h v = so_far ∙ at_drop_more (λ ps. left_to_place bs known ps s) ps i p l ∙ ap (λ d. left_to_place bs known (d ∷ drop (i + 1) ps) s) (sym h) ∙ place_more bs known p (drop (i + 1) ps) s n few v

  pub place_end : length ps ≤ i → Ok (offset bs known) ≡ whole
  place_end l = sym (so_far ∙ at_drop_all (λ ps. left_to_place bs known ps s) ps i l ∙ place_done bs known s)

pub ruleset place_laws = (place_fault, place_unknown, place_outside, place_found, place_within, finds_same)

pub ruleset left_laws = (call_begun, call_done, call_fault, call_more, place_begun, place_done, place_stopped, place_more)

pub ruleset item_laws = (item_fault, list_value, spread_value, transpose_value, reshape_value, reduce_value)
