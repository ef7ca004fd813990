-- What an expression gives, by what its parts have given.
use Rattle.std.proofs.Common.{◌≡◌, refl, sym, ap, ◌∙◌, subst, ℕ, ℤ, Bool, true, false, cond, List, [], ◌∷◌, ◌++◌, map, length, Result, Ok, Err, arith}
use Rattle.std.specs.declared.boxed.Box.{Box}
use Rattle.std.specs.declared.alloc.Global.{Global}
use Rattle.tree.specs.Steps.{◌>>=◌}
use Rattle.tree.specs.Operators.{apply, call, as_number, as_numbers}
use Rattle.tree.specs.Plain as P
use Rattle.std.proofs.lemmas.List.{map-append}
use Rattle.tree.proofs.Equations.{loop_of-is}
use Rattle.tree.specs.View.{expression_of, subscript_of, reference_of, loop_of, constructor_loops, ConstructorLoop}
use Rattle.tree.specs.declared.ops.Op.{Op}
use Rattle.tree.specs.declared.functions.Fun.{Fun}
use Rattle.tree.specs.declared.functions.Red.{Red}
use Rattle.tree.specs.declared.ops.Value.{Value}
use Rattle.tree.specs.declared.ops.Value.TheVariants.{Int, Truth}
use Rattle.tree.specs.declared.ops.Fault.{Fault}
use Rattle.tree.specs.declared.lists.Seq.{Seq}
use Rattle.tree.specs.declared.exprs.Turn.{Turn, out-Turn}
use Rattle.tree.specs.declared.exprs.Expr.{Expr}
use Rattle.tree.specs.declared.exprs.Expr.TheVariants as exprs
use Rattle.tree.specs.declared.exprs.Sub.{Sub}
use Rattle.tree.specs.declared.exprs.Sub.TheVariants as subs
use Rattle.tree.specs.declared.exprs.Ref.{Ref, out-Ref}
use Rattle.meaning.specs.ArrayValues.{Array, Elements, settled, scalar_array, in_whole, mapped, paired, spread, transposed, reshaped}
use Rattle.meaning.specs.Dialect.{fortran90}
use Rattle.tree.specs.declared.width.Width.{Width}
use Rattle.meaning.specs.Sections.{Selector, Triplet, not_negative}
use Rattle.meaning.specs.Store.{Store}
use Rattle.meaning.specs.Value.{value_of, values_of, array_of, arguments_of, subscript_values, subscript_value, selector, selectors, selector_of, evaluated, is_scalar, for_numbers, bound_to}
use Rattle.array_values.specs.declared.failure.Failure.{Failure}
use Rattle.array_values.specs.declared.failure.Failure.TheVariants as failure
use Rattle.array_values.specs.declared.known.Known.{Known}
use Rattle.array_values.specs.declared.prepared.Prepared.{Prepared}
use Rattle.array_values.specs.declared.sections.Selector.{Selector as Selector'}
use Rattle.array_values.specs.Answers.{Answers}
use Rattle.array_values.specs.Arrays.{array_in, elements_in, reduced_values, together_all}
use Rattle.array_values.specs.Selections.{selector_in}
use Rattle.array_values.proofs.Steps.{fails, goes, same}
use Rattle.array_values.specs.storage.Parts.{whole_array, part_array}
use Rattle.array_expressions.specs.declared.locals.Local.{Local}
use Rattle.array_expressions.specs.Locals.{bound_all}
use Rattle.array_expressions.specs.Appending.{Appends}
use Rattle.array_expressions.proofs.EvaluationLaws.{appends_same, appends_fault, appends_goes}
use Rattle.array_expressions.proofs.HeldLaws.{part_kept}
use Rattle.array_expressions.proofs.LocalLaws.{bound_append}
use Rattle.array_expressions.proofs.TurnLaws.{outer_first}
use Rattle.array_expressions.specs.Scopes.{element_of, held_at, call_of, number_at, reduction_of, selected_by, known_of, whole_of, constructed, listed, extents_at}
use Rattle.array_expressions.proofs.ValueLaws.{item_value, element_value, un_value, bin_value, call_value, reduce_value, one_value}
use Rattle.array_expressions.proofs.ArrayLaws.{selected_bare, selected_parts, selectors_some, int_array, truth_array, item_array, un_array, bin_array, call_array, list_array, spread_array, transpose_array, reshape_array, reduce_array, reduction_steps, one_selector, part_selector}
use Rattle.tree.specs.Widths.{bits_of}

-- ---- named contracts

abbrev pub GivesValue : (width : Width) → Store → Expr → Result Value Failure → Type 0
GivesValue width s e r = Answers (λ (v : Value). v) (value_of (fortran90 width) (expression_of e) s) r

abbrev pub GivesNumber : (width : Width) → Store → Expr → Result ℤ Failure → Type 0
GivesNumber width s e r = Answers (λ (z : ℤ). z) (number_at width (expression_of e) s) r

abbrev pub GivesArray : (width : Width) → Store → Expr → Result Prepared Failure → Type 0
GivesArray width s e r = Answers elements_in (array_of (fortran90 width) (expression_of e) s) r

abbrev pub GivesWhole : (width : Width) → Store → Expr → Result Known Failure → Type 0
GivesWhole width s e r = Answers array_in (whole_of width (expression_of e) s) r

abbrev pub GivesKnown : (width : Width) → Store → Expr → Result Known Failure → Type 0
GivesKnown width s e r = Answers array_in (known_of width (expression_of e) s) r

-- what is asked of parts
abbrev value_at : (width : Width) → Store → Expr → Result Value Fault
value_at width s e = value_of (fortran90 width) (expression_of e) s

abbrev values_at : (width : Width) → Store → List Expr → Result (List Value) Fault
values_at width s es = values_of (fortran90 width) (P.expressions (map expression_of es)) s

abbrev array_at : (width : Width) → Store → Expr → Result (Elements Value) Fault
array_at width s e = array_of (fortran90 width) (expression_of e) s

abbrev whole_at : (width : Width) → Store → Expr → Result Array Fault
whole_at width s e = whole_of width (expression_of e) s

abbrev known_at : (width : Width) → Store → Expr → Result Array Fault
known_at width s e = known_of width (expression_of e) s

abbrev integer_at : (width : Width) → Store → Expr → Result ℤ Fault
integer_at width s e = number_at width (expression_of e) s

abbrev numbers_at : (width : Width) → Store → List Sub → Result (List ℤ) Fault
numbers_at width s ps = subscript_values (fortran90 width) (P.subscripts (map subscript_of ps)) s

abbrev arguments_at : (width : Width) → Store → List Expr → Result (Elements (List Value)) Fault
arguments_at width s es = arguments_of (fortran90 width) (P.expressions (map expression_of es)) [] s

abbrev constructor_at : (width : Width) → Store → List Expr → List Turn → Result (List Value) Fault
constructor_at width s es ls = constructed width (P.expressions (map expression_of es)) (constructor_loops (map loop_of ls)) s

module _ (width : Width) (s : Store) where
  value_is : (e d : Expr) (q : Result Value Fault) (r : Result Value Failure) → e ≡ d → value_of (fortran90 width) (expression_of d) s ≡ q → Answers (λ (v : Value). v) q r → GivesValue width s e r
  value_is e d q r h k a = same (λ (v : Value). v) _ q r (ap (λ e. value_of (fortran90 width) (expression_of e) s) h ∙ k) a

  array_is : (e d : Expr) (q : Result (Elements Value) Fault) (r : Result Prepared Failure) → e ≡ d → array_of (fortran90 width) (expression_of d) s ≡ q → Answers elements_in q r → GivesArray width s e r
  array_is e d q r h k a = same elements_in _ q r (ap (λ e. array_of (fortran90 width) (expression_of e) s) h ∙ k) a

  -- a part, behind its box
  unboxed : (a : Box Expr Global) (d : Expr) (r : Result Value Failure) → d ≡ a.value → GivesValue width s d r → GivesValue width s a.value r
  unboxed a d r h g = subst (λ d. GivesValue width s d r) h g

  unboxed_whole : (a : Box Expr Global) (d : Expr) (r : Result Known Failure) → d ≡ a.value → GivesWhole width s d r → GivesWhole width s a.value r
  unboxed_whole a d r h g = subst (λ d. GivesWhole width s d r) h g

  unboxed_array : (a : Box Expr Global) (d : Expr) (r : Result Prepared Failure) → d ≡ a.value → GivesArray width s d r → GivesArray width s a.value r
  unboxed_array a d r h g = subst (λ d. GivesArray width s d r) h g

  -- ---- values

  module _ (e : Expr) where
    pub un_fails : (o : Op) (a : Box Expr Global) (d : Expr) (f : Failure) → e ≡ exprs.Un o a → d ≡ a.value → GivesValue width s d (Err f) → GivesValue width s e (Err f)
    un_fails o a d f h k g = value_is e (exprs.Un o a) _ (Err f) h (un_value width s o a) (fails (λ (v : Value). v) (λ (v : Value). v) (value_at width s a.value) (λ x. apply o x x) f (unboxed a d (Err f) k g))

    pub un_goes : (o : Op) (a : Box Expr Global) (d : Expr) (x : Value) (r : Result Value Failure) → e ≡ exprs.Un o a → d ≡ a.value → GivesValue width s d (Ok x)
        → Answers (λ (v : Value). v) (apply o x x) r → GivesValue width s e r
    un_goes o a d x r h k g t = value_is e (exprs.Un o a) _ r h (un_value width s o a) (goes (λ (v : Value). v) (value_at width s a.value) (λ x. apply o x x) x r (unboxed a d (Ok x) k g) t)

    pub bin_fails : (o : Op) (a b : Box Expr Global) (d : Expr) (f : Failure) → e ≡ exprs.Bin o a b → d ≡ a.value → GivesValue width s d (Err f) → GivesValue width s e (Err f)
    bin_fails o a b d f h k g = value_is e (exprs.Bin o a b) _ (Err f) h (bin_value width s o a b)
        (fails (λ (v : Value). v) (λ (v : Value). v) (value_at width s a.value) (λ x. (do y ← value_of (fortran90 width) (expression_of b.value) s; apply o x y)) f (unboxed a d (Err f) k g))

    bin_first : (o : Op) (a b : Box Expr Global) (d : Expr) (x : Value) (r : Result Value Failure) → e ≡ exprs.Bin o a b → d ≡ a.value → GivesValue width s d (Ok x)
        → Answers (λ (v : Value). v) (do y ← value_of (fortran90 width) (expression_of b.value) s; apply o x y) r → GivesValue width s e r
    bin_first o a b d x r h k g t = value_is e (exprs.Bin o a b) _ r h (bin_value width s o a b)
        (goes (λ (v : Value). v) (value_at width s a.value) (λ x. (do y ← value_of (fortran90 width) (expression_of b.value) s; apply o x y)) x r (unboxed a d (Ok x) k g) t)

    pub bin_fails_then : (o : Op) (a b : Box Expr Global) (d c : Expr) (x : Value) (f : Failure) → e ≡ exprs.Bin o a b → d ≡ a.value → c ≡ b.value → GivesValue width s d (Ok x) → GivesValue width s c (Err f) → GivesValue width s e (Err f)
    bin_fails_then o a b d c x f h k l g t = bin_first o a b d x (Err f) h k g (fails (λ (v : Value). v) (λ (v : Value). v) (value_at width s b.value) (apply o x) f (unboxed b c (Err f) l t))

    pub bin_goes : (o : Op) (a b : Box Expr Global) (d c : Expr) (x y : Value) (r : Result Value Failure) → e ≡ exprs.Bin o a b → d ≡ a.value → c ≡ b.value → GivesValue width s d (Ok x) → GivesValue width s c (Ok y)
        → Answers (λ (v : Value). v) (apply o x y) r → GivesValue width s e r
    bin_goes o a b d c x y r h k l g t u = bin_first o a b d x r h k g (goes (λ (v : Value). v) (value_at width s b.value) (apply o x) y r (unboxed b c (Ok y) l t) u)

    pub call_fails : (f : Fun) (es : Seq Expr) (x : Failure) → e ≡ exprs.Call f es → Answers (λ (vs : List Value). vs) (values_of (fortran90 width) (P.expressions (map expression_of es)) s) (Err x) → GivesValue width s e (Err x)
    call_fails f es x h g = value_is e (exprs.Call f es) _ (Err x) h (call_value width s f es) (fails (λ (vs : List Value). vs) (λ (v : Value). v) (values_at width s es) (call f) x g)

    pub call_goes : (f : Fun) (es : Seq Expr) (xs : List Value) (r : Result Value Failure) → e ≡ exprs.Call f es → values_of (fortran90 width) (P.expressions (map expression_of es)) s ≡ Ok xs
        → Answers (λ (v : Value). v) (call f xs) r → GivesValue width s e r
    call_goes f es xs r h g t = value_is e (exprs.Call f es) _ r h (call_value width s f es) (goes (λ (v : Value). v) (values_at width s es) (call f) xs r g t)

    item_is : (i : Ref) → e ≡ exprs.Item i → value_of (fortran90 width) (expression_of e) s ≡ (do is ← subscript_values (fortran90 width) (P.subscripts (map subscript_of (out-Ref i).subs)) s; held_at (out-Ref i).name is s)
    item_is i h = ap (λ e. value_of (fortran90 width) (expression_of e) s) h ∙ item_value width s i ∙ element_value width s i

    pub item_fails : (i : Ref) (x : Failure) → e ≡ exprs.Item i → Answers (λ (zs : List ℤ). zs) (subscript_values (fortran90 width) (P.subscripts (map subscript_of (out-Ref i).subs)) s) (Err x) → GivesValue width s e (Err x)
    item_fails i x h g = same (λ (v : Value). v) _ _ (Err x) (item_is i h) (fails (λ (zs : List ℤ). zs) (λ (v : Value). v) (numbers_at width s (out-Ref i).subs) (λ is. held_at (out-Ref i).name is s) x g)

    pub item_goes : (i : Ref) (is : List ℤ) (r : Result Value Failure) → e ≡ exprs.Item i → subscript_values (fortran90 width) (P.subscripts (map subscript_of (out-Ref i).subs)) s ≡ Ok is
        → Answers (λ (v : Value). v) (held_at (out-Ref i).name is s) r → GivesValue width s e r
    item_goes i is r h g t = same (λ (v : Value). v) _ _ r (item_is i h) (goes (λ (v : Value). v) (numbers_at width s (out-Ref i).subs) (λ is. held_at (out-Ref i).name is s) is r g t)

    reduce_is : (o : Red) (a : Box Expr Global) → e ≡ exprs.Reduce o a → value_of (fortran90 width) (expression_of e) s ≡ (do v ← whole_of width (expression_of a.value) s; reduced_values (bits_of width) o v.values)
    reduce_is o a h = ap (λ e. value_of (fortran90 width) (expression_of e) s) h ∙ reduce_value width s o a ∙ reduction_steps width s o (expression_of a.value)

    pub reduce_fails : (o : Red) (a : Box Expr Global) (d : Expr) (x : Failure) → e ≡ exprs.Reduce o a → d ≡ a.value → GivesWhole width s d (Err x) → GivesValue width s e (Err x)
    reduce_fails o a d x h k g = same (λ (v : Value). v) _ _ (Err x) (reduce_is o a h) (fails array_in (λ (v : Value). v) (whole_at width s a.value) (λ (v : Array). reduced_values (bits_of width) o v.values) x (unboxed_whole a d (Err x) k g))

    pub reduce_goes : (o : Red) (a : Box Expr Global) (d : Expr) (w : Known) (r : Result Value Failure) → e ≡ exprs.Reduce o a → d ≡ a.value → GivesWhole width s d (Ok w)
        → Answers (λ (v : Value). v) (reduced_values (bits_of width) o w.values) r → GivesValue width s e r
    reduce_goes o a d w r h k g t = same (λ (v : Value). v) _ _ r (reduce_is o a h) (goes (λ (v : Value). v) (whole_at width s a.value) (λ (v : Array). reduced_values (bits_of width) o v.values) (array_in w) r (unboxed_whole a d (Ok w) k g) t)

  -- ---- arrays

  module _ (e : Expr) where
    pub un_array_fails : (o : Op) (a : Box Expr Global) (d : Expr) (f : Failure) → e ≡ exprs.Un o a → d ≡ a.value → GivesArray width s d (Err f) → GivesArray width s e (Err f)
    un_array_fails o a d f h k g = array_is e (exprs.Un o a) _ (Err f) h (un_array width s o a) (fails elements_in elements_in (array_at width s a.value) (λ g. let r : Result (Elements Value) Fault = Ok (mapped (λ x. apply o x x) g) in r) f (unboxed_array a d (Err f) k g))

    pub un_array_goes : (o : Op) (a : Box Expr Global) (d : Expr) (p q : Prepared) → e ≡ exprs.Un o a → d ≡ a.value → GivesArray width s d (Ok p) → elements_in q ≡ mapped (λ x. apply o x x) (elements_in p) → GivesArray width s e (Ok q)
    un_array_goes o a d p q h k g t = array_is e (exprs.Un o a) _ (Ok q) h (un_array width s o a)
        (goes elements_in (array_at width s a.value) (λ g. let r : Result (Elements Value) Fault = Ok (mapped (λ x. apply o x x) g) in r) (elements_in p) (Ok q) (unboxed_array a d (Ok p) k g) (ap (λ (g : Elements Value). let r : Result (Elements Value) Fault = Ok g in r) (sym t)))

    pub bin_array_fails : (o : Op) (a b : Box Expr Global) (d : Expr) (f : Failure) → e ≡ exprs.Bin o a b → d ≡ a.value → GivesArray width s d (Err f) → GivesArray width s e (Err f)
    bin_array_fails o a b d f h k g = array_is e (exprs.Bin o a b) _ (Err f) h (bin_array width s o a b)
        (fails elements_in elements_in (array_at width s a.value) (λ g. (do h ← array_of (fortran90 width) (expression_of b.value) s; paired (apply o) g h)) f (unboxed_array a d (Err f) k g))

    bin_array_first : (o : Op) (a b : Box Expr Global) (d : Expr) (p : Prepared) (r : Result Prepared Failure) → e ≡ exprs.Bin o a b → d ≡ a.value → GivesArray width s d (Ok p)
        → Answers elements_in (do h ← array_of (fortran90 width) (expression_of b.value) s; paired (apply o) (elements_in p) h) r → GivesArray width s e r
    bin_array_first o a b d p r h k g t = array_is e (exprs.Bin o a b) _ r h (bin_array width s o a b)
        (goes elements_in (array_at width s a.value) (λ g. (do h ← array_of (fortran90 width) (expression_of b.value) s; paired (apply o) g h)) (elements_in p) r (unboxed_array a d (Ok p) k g) t)

    pub bin_array_fails_then : (o : Op) (a b : Box Expr Global) (d c : Expr) (p : Prepared) (f : Failure) → e ≡ exprs.Bin o a b → d ≡ a.value → c ≡ b.value → GivesArray width s d (Ok p) → GivesArray width s c (Err f) → GivesArray width s e (Err f)
    bin_array_fails_then o a b d c p f h k l g t = bin_array_first o a b d p (Err f) h k g (fails elements_in elements_in (array_at width s b.value) (paired (apply o) (elements_in p)) f (unboxed_array b c (Err f) l t))

    pub bin_array_goes : (o : Op) (a b : Box Expr Global) (d c : Expr) (p q : Prepared) (r : Result Prepared Failure) → e ≡ exprs.Bin o a b → d ≡ a.value → c ≡ b.value → GivesArray width s d (Ok p) → GivesArray width s c (Ok q)
        → Answers elements_in (paired (apply o) (elements_in p) (elements_in q)) r → GivesArray width s e r
    bin_array_goes o a b d c p q r h k l g t u = bin_array_first o a b d p r h k g (goes elements_in (array_at width s b.value) (paired (apply o) (elements_in p)) (elements_in q) r (unboxed_array b c (Ok q) l t) u)

    pub call_array_fails : (f : Fun) (es : Seq Expr) (x : Failure) → e ≡ exprs.Call f es
        → Answers (λ (ps : List Prepared). together_all [] (map elements_in ps)) (arguments_of (fortran90 width) (P.expressions (map expression_of es)) [] s) (Err x) → GivesArray width s e (Err x)
    call_array_fails f es x h g = array_is e (exprs.Call f es) _ (Err x) h (call_array width s f es)
        (fails (λ (ps : List Prepared). together_all [] (map elements_in ps)) elements_in (arguments_at width s es) (λ g. let r : Result (Elements Value) Fault = Ok (mapped (call f) g) in r) x g)

    pub call_array_goes : (f : Fun) (es : Seq Expr) (ps : List Prepared) (q : Prepared) → e ≡ exprs.Call f es → arguments_of (fortran90 width) (P.expressions (map expression_of es)) [] s ≡ Ok (together_all [] (map elements_in ps))
        → elements_in q ≡ mapped (call f) (together_all [] (map elements_in ps)) → GivesArray width s e (Ok q)
    call_array_goes f es ps q h g t = array_is e (exprs.Call f es) _ (Ok q) h (call_array width s f es)
        (goes elements_in (arguments_at width s es) (λ g. let r : Result (Elements Value) Fault = Ok (mapped (call f) g) in r) (together_all [] (map elements_in ps)) (Ok q) g (ap (λ (g : Elements Value). let r : Result (Elements Value) Fault = Ok g in r) (sym t)))

    pub item_array_fails : (i : Ref) (x : Failure) → e ≡ exprs.Item i → Answers array_in (selected_by width (reference_of i) s) (Err x) → GivesArray width s e (Err x)
    item_array_fails i x h g = array_is e (exprs.Item i) _ (Err x) h (item_array width s i) (fails array_in elements_in (selected_by width (reference_of i) s) (λ a. let r : Result (Elements Value) Fault = Ok (settled a) in r) x g)

    pub item_array_goes : (i : Ref) (w : Known) (q : Prepared) → e ≡ exprs.Item i → selected_by width (reference_of i) s ≡ Ok (array_in w) → elements_in q ≡ settled (array_in w) → GivesArray width s e (Ok q)
    item_array_goes i w q h g t = array_is e (exprs.Item i) _ (Ok q) h (item_array width s i)
        (goes elements_in (selected_by width (reference_of i) s) (λ a. let r : Result (Elements Value) Fault = Ok (settled a) in r) (array_in w) (Ok q) g (ap (λ (g : Elements Value). let r : Result (Elements Value) Fault = Ok g in r) (sym t)))

    pub list_array_fails : (es : Seq Expr) (ls : Seq Turn) (x : Failure) → e ≡ exprs.List es ls
        → Answers (λ (vs : List Value). vs) (constructed width (P.expressions (map expression_of es)) (constructor_loops (map loop_of ls)) s) (Err x) → GivesArray width s e (Err x)
    list_array_fails es ls x h g = array_is e (exprs.List es ls) _ (Err x) h (list_array width s es ls) (fails (λ (vs : List Value). vs) elements_in (constructor_at width s es ls) (λ vs. let r : Result (Elements Value) Fault = Ok (settled (listed vs)) in r) x g)

    pub list_array_goes : (es : Seq Expr) (ls : Seq Turn) (vs : List Value) (q : Prepared) → e ≡ exprs.List es ls
        → constructed width (P.expressions (map expression_of es)) (constructor_loops (map loop_of ls)) s ≡ Ok vs → elements_in q ≡ settled (listed vs) → GivesArray width s e (Ok q)
    list_array_goes es ls vs q h g t = array_is e (exprs.List es ls) _ (Ok q) h (list_array width s es ls)
        (goes elements_in (constructor_at width s es ls) (λ vs. let r : Result (Elements Value) Fault = Ok (settled (listed vs)) in r) vs (Ok q) g (ap (λ (g : Elements Value). let r : Result (Elements Value) Fault = Ok g in r) (sym t)))

    abbrev spread_rest : ℕ → Box Expr Global → Array → Result (Elements Value) Fault
    spread_rest d n v = do z ← number_at width (expression_of n.value) s; Ok (spread d (not_negative z) v)

    pub spread_fails : (a : Box Expr Global) (d : ℕ) (n : Box Expr Global) (b : Expr) (x : Failure) → e ≡ exprs.Spread a d n → b ≡ a.value → GivesKnown width s b (Err x) → GivesArray width s e (Err x)
    spread_fails a d n b x h k g = array_is e (exprs.Spread a d n) _ (Err x) h (spread_array width s a d n) (fails array_in elements_in (known_at width s a.value) (spread_rest d n) x (subst (λ b. GivesKnown width s b (Err x)) k g))

    spread_first : (a : Box Expr Global) (d : ℕ) (n : Box Expr Global) (b : Expr) (w : Known) (r : Result Prepared Failure) → e ≡ exprs.Spread a d n → b ≡ a.value → GivesKnown width s b (Ok w)
        → Answers elements_in (spread_rest d n (array_in w)) r → GivesArray width s e r
    spread_first a d n b w r h k g t = array_is e (exprs.Spread a d n) _ r h (spread_array width s a d n) (goes elements_in (known_at width s a.value) (spread_rest d n) (array_in w) r (subst (λ b. GivesKnown width s b (Ok w)) k g) t)

    pub spread_fails_then : (a : Box Expr Global) (d : ℕ) (n : Box Expr Global) (b c : Expr) (w : Known) (x : Failure) → e ≡ exprs.Spread a d n → b ≡ a.value → c ≡ n.value → GivesKnown width s b (Ok w) → GivesNumber width s c (Err x) → GivesArray width s e (Err x)
    spread_fails_then a d n b c w x h k l g t = spread_first a d n b w (Err x) h k g
        (fails (λ (z : ℤ). z) elements_in (integer_at width s n.value) (λ z. let r : Result (Elements Value) Fault = Ok (spread d (not_negative z) (array_in w)) in r) x (subst (λ c. GivesNumber width s c (Err x)) l t))

    pub spread_goes : (a : Box Expr Global) (d : ℕ) (n : Box Expr Global) (b c : Expr) (w : Known) (z : ℤ) (q : Prepared) → e ≡ exprs.Spread a d n → b ≡ a.value → c ≡ n.value → GivesKnown width s b (Ok w) → GivesNumber width s c (Ok z)
        → elements_in q ≡ spread d (not_negative z) (array_in w) → GivesArray width s e (Ok q)
    spread_goes a d n b c w z q h k l g t u = spread_first a d n b w (Ok q) h k g
        (goes elements_in (integer_at width s n.value) (λ z. let r : Result (Elements Value) Fault = Ok (spread d (not_negative z) (array_in w)) in r) z (Ok q) (subst (λ c. GivesNumber width s c (Ok z)) l t) (ap (λ (g : Elements Value). let r : Result (Elements Value) Fault = Ok g in r) (sym u)))

    pub transpose_fails : (a : Box Expr Global) (d : Expr) (x : Failure) → e ≡ exprs.Transpose a → d ≡ a.value → GivesWhole width s d (Err x) → GivesArray width s e (Err x)
    transpose_fails a d x h k g = array_is e (exprs.Transpose a) _ (Err x) h (transpose_array width s a) (fails array_in elements_in (whole_at width s a.value) (λ v. let r : Result (Elements Value) Fault = Ok (transposed v) in r) x (unboxed_whole a d (Err x) k g))

    pub transpose_goes : (a : Box Expr Global) (d : Expr) (w : Known) (q : Prepared) → e ≡ exprs.Transpose a → d ≡ a.value → GivesWhole width s d (Ok w) → elements_in q ≡ transposed (array_in w) → GivesArray width s e (Ok q)
    transpose_goes a d w q h k g t = array_is e (exprs.Transpose a) _ (Ok q) h (transpose_array width s a)
        (goes elements_in (whole_at width s a.value) (λ v. let r : Result (Elements Value) Fault = Ok (transposed v) in r) (array_in w) (Ok q) (unboxed_whole a d (Ok w) k g) (ap (λ (g : Elements Value). let r : Result (Elements Value) Fault = Ok g in r) (sym t)))

    abbrev reshape_rest : Seq Expr → Array → Result (Elements Value) Fault
    reshape_rest es v = do ns ← extents_at width (P.expressions (map expression_of es)) s; reshaped ns v

    pub reshape_fails : (a : Box Expr Global) (es : Seq Expr) (d : Expr) (x : Failure) → e ≡ exprs.Reshape a es → d ≡ a.value → GivesWhole width s d (Err x) → GivesArray width s e (Err x)
    reshape_fails a es d x h k g = array_is e (exprs.Reshape a es) _ (Err x) h (reshape_array width s a es) (fails array_in elements_in (whole_at width s a.value) (reshape_rest es) x (unboxed_whole a d (Err x) k g))

    reshape_first : (a : Box Expr Global) (es : Seq Expr) (d : Expr) (w : Known) (r : Result Prepared Failure) → e ≡ exprs.Reshape a es → d ≡ a.value → GivesWhole width s d (Ok w)
        → Answers elements_in (reshape_rest es (array_in w)) r → GivesArray width s e r
    reshape_first a es d w r h k g t = array_is e (exprs.Reshape a es) _ r h (reshape_array width s a es) (goes elements_in (whole_at width s a.value) (reshape_rest es) (array_in w) r (unboxed_whole a d (Ok w) k g) t)

    reshape_steps : (q : Result (List Value) Fault) (v : Array) → ◌≡◌ {A = Result (Elements Value) Fault} (do ns ← (do xs ← q; zs ← as_numbers xs; Ok (map not_negative zs)); reshaped ns v) (do xs ← q; zs ← as_numbers xs; reshaped (map not_negative zs) v)
    reshape_steps (Err f) v = refl
    reshape_steps (Ok xs) v = elim (as_numbers xs) as (λ p. ◌≡◌ {A = Result (Elements Value) Fault} (do ns ← (do zs ← p; Ok (map not_negative zs)); reshaped ns v) (do zs ← p; reshaped (map not_negative zs) v)) [ Ok zs ↦ refl | Err f ↦ refl ]

    pub reshape_fails_then : (a : Box Expr Global) (es : Seq Expr) (d : Expr) (w : Known) (x : Failure) → e ≡ exprs.Reshape a es → d ≡ a.value → GivesWhole width s d (Ok w)
        → Answers (λ (vs : List Value). vs) (values_of (fortran90 width) (P.expressions (map expression_of es)) s) (Err x) → GivesArray width s e (Err x)
    reshape_fails_then a es d w x h k g t = reshape_first a es d w (Err x) h k g
        (same elements_in _ _ (Err x) (reshape_steps (values_of (fortran90 width) (P.expressions (map expression_of es)) s) (array_in w))
        (fails (λ (vs : List Value). vs) elements_in (values_at width s es) (λ xs. (do zs ← as_numbers xs; reshaped (map not_negative zs) (array_in w))) x t))

    pub reshape_goes : (a : Box Expr Global) (es : Seq Expr) (d : Expr) (w : Known) (vs : List Value) (r : Result Prepared Failure) → e ≡ exprs.Reshape a es → d ≡ a.value → GivesWhole width s d (Ok w)
        → values_of (fortran90 width) (P.expressions (map expression_of es)) s ≡ Ok vs → Answers elements_in (do zs ← as_numbers vs; reshaped (map not_negative zs) (array_in w)) r → GivesArray width s e r
    reshape_goes a es d w vs r h k g t u = reshape_first a es d w r h k g
        (same elements_in _ _ r (reshape_steps (values_of (fortran90 width) (P.expressions (map expression_of es)) s) (array_in w))
        (goes elements_in (values_at width s es) (λ xs. (do zs ← as_numbers xs; reshaped (map not_negative zs) (array_in w))) vs r t u))

    reduce_array_is : (o : Red) (a : Box Expr Global) → e ≡ exprs.Reduce o a → array_of (fortran90 width) (expression_of e) s ≡ (do x ← (do v ← whole_of width (expression_of a.value) s; reduced_values (bits_of width) o v.values); Ok (settled (scalar_array x)))
    reduce_array_is o a h = ap (λ e. array_of (fortran90 width) (expression_of e) s) h ∙ reduce_array width s o a ∙ ap (λ (q : Result Value Fault). do x ← q; Ok (settled (scalar_array x))) (reduction_steps width s o (expression_of a.value))

    pub reduce_array_fails : (o : Red) (a : Box Expr Global) (d : Expr) (x : Failure) → e ≡ exprs.Reduce o a → d ≡ a.value → GivesWhole width s d (Err x) → GivesArray width s e (Err x)
    reduce_array_fails o a d x h k g = same elements_in _ _ (Err x) (reduce_array_is o a h)
        (fails (λ (v : Value). v) elements_in (do v ← whole_at width s a.value; reduced_values (bits_of width) o v.values) (λ x. let r : Result (Elements Value) Fault = Ok (settled (scalar_array x)) in r) x (fails array_in (λ (v : Value). v) (whole_at width s a.value) (λ (v : Array). reduced_values (bits_of width) o v.values) x (unboxed_whole a d (Err x) k g)))

    reduced_is : (o : Red) (a : Box Expr Global) (d : Expr) (w : Known) (q : Result Value Fault) → d ≡ a.value → GivesWhole width s d (Ok w) → q ≡ reduced_values (bits_of width) o w.values → (do v ← whole_of width (expression_of a.value) s; reduced_values (bits_of width) o v.values) ≡ q
    reduced_is o a d w q k g t = ap (λ (p : Result Array Fault). do v ← p; reduced_values (bits_of width) o v.values) (unboxed_whole a d (Ok w) k g) ∙ sym t

    pub reduce_array_fault : (o : Red) (a : Box Expr Global) (d : Expr) (w : Known) (f : Fault) → e ≡ exprs.Reduce o a → d ≡ a.value → GivesWhole width s d (Ok w) → Err f ≡ reduced_values (bits_of width) o w.values → GivesArray width s e (Err (failure.Fault f))
    reduce_array_fault o a d w f h k g t = reduce_array_is o a h ∙ ap (λ (q : Result Value Fault). do x ← q; Ok (settled (scalar_array x))) (reduced_is o a d w (Err f) k g t)

    pub reduce_array_goes : (o : Red) (a : Box Expr Global) (d : Expr) (w : Known) (v : Value) (q : Prepared) → e ≡ exprs.Reduce o a → d ≡ a.value → GivesWhole width s d (Ok w) → Ok v ≡ reduced_values (bits_of width) o w.values → elements_in q ≡ settled (scalar_array v) → GivesArray width s e (Ok q)
    reduce_array_goes o a d w v q h k g t u = reduce_array_is o a h ∙ ap (λ (q : Result Value Fault). do x ← q; Ok (settled (scalar_array x))) (reduced_is o a d w (Ok v) k g t) ∙ ap (λ (g : Elements Value). let r : Result (Elements Value) Fault = Ok g in r) (sym u)

    pub int_array_goes : (n : ℤ) (q : Prepared) → e ≡ exprs.Int n → elements_in q ≡ settled (scalar_array (Int n)) → GivesArray width s e (Ok q)
    int_array_goes n q h t = array_is e (exprs.Int n) _ (Ok q) h (int_array width s n) (ap (λ (g : Elements Value). let r : Result (Elements Value) Fault = Ok g in r) (sym t))

    pub truth_array_goes : (b : Bool) (q : Prepared) → e ≡ exprs.Truth b → elements_in q ≡ settled (scalar_array (Truth b)) → GivesArray width s e (Ok q)
    truth_array_goes b q h t = array_is e (exprs.Truth b) _ (Ok q) h (truth_array width s b) (ap (λ (g : Elements Value). let r : Result (Elements Value) Fault = Ok g in r) (sym t))

  -- ---- in whole

  pub whole_goes : (e : Expr) (p : Prepared) (r : Result Known Failure) → GivesArray width s e (Ok p) → Answers array_in (in_whole (elements_in p)) r → GivesWhole width s e r
  whole_goes e p r g t = goes array_in (array_at width s e) in_whole (elements_in p) r g t

  pub whole_fails : (e : Expr) (x : Failure) → GivesArray width s e (Err x) → GivesWhole width s e (Err x)
  whole_fails e x g = fails elements_in array_in (array_at width s e) in_whole x g

  pub number_goes : (e : Expr) (v : Value) (r : Result ℤ Failure) → GivesValue width s e (Ok v) → Answers (λ (z : ℤ). z) (as_number v) r → GivesNumber width s e r
  number_goes e v r g t = goes (λ (z : ℤ). z) (value_at width s e) as_number v r g t

  pub number_fails : (e : Expr) (x : Failure) → GivesValue width s e (Err x) → GivesNumber width s e (Err x)
  number_fails e x g = fails (λ (v : Value). v) (λ (z : ℤ). z) (value_at width s e) as_number x g

  pub known_scalar : (e : Expr) → is_scalar (expression_of e) s.bounds ≡ true → known_of width (expression_of e) s ≡ (do x ← value_of (fortran90 width) (expression_of e) s; Ok (scalar_array x))
  known_scalar e h = ap (λ b. evaluated b (value_of (fortran90 width) (expression_of e) s) (array_of (fortran90 width) (expression_of e) s)) h

  pub known_array : (e : Expr) → is_scalar (expression_of e) s.bounds ≡ false → known_of width (expression_of e) s ≡ whole_of width (expression_of e) s
  known_array e h = ap (λ b. evaluated b (value_of (fortran90 width) (expression_of e) s) (array_of (fortran90 width) (expression_of e) s)) h

  pub known_fails : (e : Expr) (x : Failure) → is_scalar (expression_of e) s.bounds ≡ true → GivesValue width s e (Err x) → GivesKnown width s e (Err x)
  known_fails e x h g = same array_in _ _ (Err x) (known_scalar e h) (fails (λ (v : Value). v) array_in (value_at width s e) (λ x. let r : Result Array Fault = Ok (scalar_array x) in r) x g)

  pub known_goes : (e : Expr) (v : Value) (w : Known) → is_scalar (expression_of e) s.bounds ≡ true → GivesValue width s e (Ok v) → array_in w ≡ scalar_array v → GivesKnown width s e (Ok w)
  known_goes e v w h g t = same array_in _ _ (Ok w) (known_scalar e h)
      (goes array_in (value_at width s e) (λ x. let r : Result Array Fault = Ok (scalar_array x) in r) v (Ok w) g (ap (λ (a : Array). let r : Result Array Fault = Ok a in r) (sym t)))

  pub known_whole : (e : Expr) (r : Result Known Failure) → is_scalar (expression_of e) s.bounds ≡ false → GivesWhole width s e r → GivesKnown width s e r
  known_whole e r h g = same array_in _ _ r (known_array e h) g

  -- ---- subscripts

  abbrev GivesSelector : Sub → Result Selector' Failure → Type 0
  GivesSelector p r = Answers selector_in (selector (fortran90 width) (subscript_of p) s) r

  selector_is : (p o : Sub) (q : Result Selector Fault) (r : Result Selector' Failure) → p ≡ o → selector (fortran90 width) (subscript_of o) s ≡ q → Answers selector_in q r → GivesSelector p r
  selector_is p o q r h k a = same selector_in _ q r (ap (λ p. selector (fortran90 width) (subscript_of p) s) h ∙ k) a

  abbrev one_rest : Array → Result Selector Fault
  one_rest v = do zs ← as_numbers v.values; Ok (selector_of v.extents zs)

  pub one_fails : (p : Sub) (e : Expr) (x : Failure) → p ≡ subs.One e → GivesKnown width s e (Err x) → GivesSelector p (Err x)
  one_fails p e x h g = selector_is p (subs.One e) _ (Err x) h (one_selector width s e) (fails array_in selector_in (known_at width s e) one_rest x g)

  pub one_fails_then : (p : Sub) (e : Expr) (w : Known) (x : Failure) → p ≡ subs.One e → GivesKnown width s e (Ok w) → Answers (λ (zs : List ℤ). zs) (as_numbers w.values) (Err x) → GivesSelector p (Err x)
  one_fails_then p e w x h g t = selector_is p (subs.One e) _ (Err x) h (one_selector width s e) (goes selector_in (known_at width s e) one_rest (array_in w) (Err x) g
      (fails (λ (zs : List ℤ). zs) selector_in (as_numbers w.values) (λ zs. let r : Result Selector Fault = Ok (selector_of w.extents zs) in r) x t))

  pub one_goes : (p : Sub) (e : Expr) (w : Known) (zs : List ℤ) (q : Selector') → p ≡ subs.One e → GivesKnown width s e (Ok w) → as_numbers w.values ≡ Ok zs → selector_in q ≡ selector_of w.extents zs → GivesSelector p (Ok q)
  one_goes p e w zs q h g t u = selector_is p (subs.One e) _ (Ok q) h (one_selector width s e) (goes selector_in (known_at width s e) one_rest (array_in w) (Ok q) g
      (goes selector_in (as_numbers w.values) (λ zs. let r : Result Selector Fault = Ok (selector_of w.extents zs) in r) zs (Ok q) t (ap (λ (z : Selector). let r : Result Selector Fault = Ok z in r) (sym u))))

  abbrev upper_rest : Expr → Expr → ℤ → Result Selector Fault
  upper_rest b c l = do u ← number_at width (expression_of b) s; k ← number_at width (expression_of c) s; Ok (Triplet l u k)

  abbrev stride_rest : Expr → ℤ → ℤ → Result Selector Fault
  stride_rest c l u = do k ← number_at width (expression_of c) s; Ok (Triplet l u k)

  pub lower_fails : (p : Sub) (a b c : Expr) (x : Failure) → p ≡ subs.Part a b c → GivesNumber width s a (Err x) → GivesSelector p (Err x)
  lower_fails p a b c x h g = selector_is p (subs.Part a b c) _ (Err x) h (part_selector width s a b c) (fails (λ (z : ℤ). z) selector_in (integer_at width s a) (upper_rest b c) x g)

  pub upper_fails : (p : Sub) (a b c : Expr) (l : ℤ) (x : Failure) → p ≡ subs.Part a b c → GivesNumber width s a (Ok l) → GivesNumber width s b (Err x) → GivesSelector p (Err x)
  upper_fails p a b c l x h g t = selector_is p (subs.Part a b c) _ (Err x) h (part_selector width s a b c)
      (goes selector_in (integer_at width s a) (upper_rest b c) l (Err x) g (fails (λ (z : ℤ). z) selector_in (integer_at width s b) (stride_rest c l) x t))

  pub stride_fails : (p : Sub) (a b c : Expr) (l u : ℤ) (x : Failure) → p ≡ subs.Part a b c → GivesNumber width s a (Ok l) → GivesNumber width s b (Ok u) → GivesNumber width s c (Err x) → GivesSelector p (Err x)
  stride_fails p a b c l u x h g t k = selector_is p (subs.Part a b c) _ (Err x) h (part_selector width s a b c)
      (goes selector_in (integer_at width s a) (upper_rest b c) l (Err x) g (goes selector_in (integer_at width s b) (stride_rest c l) u (Err x) t
      (fails (λ (z : ℤ). z) selector_in (integer_at width s c) (λ k. let r : Result Selector Fault = Ok (Triplet l u k) in r) x k)))

  pub part_is : (p : Sub) (a b c : Expr) (l u k : ℤ) → p ≡ subs.Part a b c → GivesNumber width s a (Ok l) → GivesNumber width s b (Ok u) → GivesNumber width s c (Ok k) → selector (fortran90 width) (subscript_of p) s ≡ Ok (Triplet l u k)
  part_is p a b c l u k h g t w =
      ap (λ p. selector (fortran90 width) (subscript_of p) s) h ∙ part_selector width s a b c
      ∙ ap (λ (q : Result ℤ Fault). do l ← q; upper_rest b c l) g ∙ ap (λ (q : Result ℤ Fault). do u ← q; stride_rest c l u) t ∙ ap (λ (q : Result ℤ Fault). do k ← q; Ok (Triplet l u k)) w

-- ---- what a reference selects, under the variables of loops

module _ (width : Width) (ls : List Local) (t : Store) (i : Ref) where
  pub bare_selects : (r : Result Known Failure) → (out-Ref i).subs ≡ [] → Answers array_in (whole_array (out-Ref i).name (bound_all ls t)) r → Answers array_in (selected_by width (reference_of i) (bound_all ls t)) r
  bare_selects r h a = same array_in _ _ r (selected_bare width (bound_all ls t) i h) a

  abbrev chosen_by : Result (List Selector) Fault
  chosen_by = selectors (fortran90 width) (P.subscripts (map subscript_of (out-Ref i).subs)) (bound_all ls t)

  pub selects_nothing : (x : Failure) → ((out-Ref i).subs ≡ [] → ⊥) → Answers (λ (zs : List Selector'). map selector_in zs) chosen_by (Err x) → Answers array_in (selected_by width (reference_of i) (bound_all ls t)) (Err x)
  selects_nothing x n a = same array_in _ _ (Err x) (selected_parts width (bound_all ls t) i n) (fails (λ (zs : List Selector'). map selector_in zs) array_in chosen_by (λ zs. part_array (out-Ref i).name zs (bound_all ls t)) x a)

  pub selects_part : (zs : List Selector) (r : Result Known Failure) → ((out-Ref i).subs ≡ [] → ⊥) → chosen_by ≡ Ok zs → Answers array_in (part_array (out-Ref i).name zs t) r → Answers array_in (selected_by width (reference_of i) (bound_all ls t)) r
  selects_part zs r n e a = same array_in _ _ r (selected_parts width (bound_all ls t) i n) (goes array_in chosen_by (λ zs. part_array (out-Ref i).name zs (bound_all ls t)) zs r e
      (same array_in _ _ r (part_kept ls t (out-Ref i).name zs (selectors_some width (bound_all ls t) (out-Ref i).subs zs n e)) a))

-- ---- turns

pub empty_list : {A : Type 0} (xs : List A) → length xs ≡ 0 → xs ≡ []
empty_list [] e = refl
empty_list (x ∷ xs) e = absurd (omega arith)

module _ (width : Width) (es : P.Expressions) (ts : List Turn) (s : Store) (old new : List Value) where
  pub no_turns : (r : Result (Unit {0}) Failure) → ts ≡ [] → Appends old new (values_of (fortran90 width) es s) r → Appends old new (constructed width es (constructor_loops (map loop_of ts)) s) r
  no_turns r h a = subst (λ ts. Appends old new (constructed width es (constructor_loops (map loop_of ts)) s) r) (sym h) a

  module _ (inner : List Turn) (l : Turn) (split : ts ≡ inner ++ l ∷ []) where
    abbrev runs_inner : ℤ → ℤ → Result (List Value) Fault
    runs_inner a b = for_numbers (bits_of width) (out-Turn l).var a b (constructed width es (constructor_loops (map loop_of inner))) s

    abbrev last_rest : ℤ → Result (List Value) Fault
    last_rest a = do b ← number_at width (expression_of (out-Turn l).last) s; runs_inner a b

    outermost : constructed width es (constructor_loops (map loop_of ts)) s ≡ (do a ← number_at width (expression_of (out-Turn l).first) s; last_rest a)
    outermost =
        ap (λ ts. constructed width es (constructor_loops (map loop_of ts)) s) split
        ∙ ap (λ ls. constructed width es (constructor_loops ls) s) (map-append loop_of inner (l ∷ []))
        ∙ outer_first width es (map loop_of inner) (loop_of l) s
        ∙ ap (λ (m : ConstructorLoop). do a ← number_at width m.first s; b ← number_at width m.last s; for_numbers (bits_of width) m.variable a b (λ t. constructed width es (constructor_loops (map loop_of inner)) t) s) (loop_of-is l)

    pub first_fails : (x : Failure) → GivesNumber width s (out-Turn l).first (Err x) → Appends old new (constructed width es (constructor_loops (map loop_of ts)) s) (Err x)
    first_fails x g = appends_same old new _ _ (Err x) outermost (appends_fault (λ (z : ℤ). z) old new (integer_at width s (out-Turn l).first) last_rest x g)

    pub last_fails : (a : ℤ) (x : Failure) → GivesNumber width s (out-Turn l).first (Ok a) → GivesNumber width s (out-Turn l).last (Err x) → Appends old new (constructed width es (constructor_loops (map loop_of ts)) s) (Err x)
    last_fails a x g t = appends_same old new _ _ (Err x) outermost (appends_goes old new (integer_at width s (out-Turn l).first) last_rest a (Err x) g (appends_fault (λ (z : ℤ). z) old new (integer_at width s (out-Turn l).last) (runs_inner a) x t))

    pub turns_go : (a b : ℤ) (r : Result (Unit {0}) Failure) → GivesNumber width s (out-Turn l).first (Ok a) → GivesNumber width s (out-Turn l).last (Ok b) → Appends old new (runs_inner a b) r
        → Appends old new (constructed width es (constructor_loops (map loop_of ts)) s) r
    turns_go a b r g t k = appends_same old new _ _ r outermost (appends_goes old new (integer_at width s (out-Turn l).first) last_rest a r g (appends_goes old new (integer_at width s (out-Turn l).last) (runs_inner a) b r t k))

-- the innermost variable is bound last
pub bound_last : (ls own : List Local) (l : Local) (s : Store) → own ≡ ls ++ l ∷ [] → bound_all own s ≡ bound_to l.name l.number (bound_all ls s)
bound_last ls own l s e = ap (λ ms. bound_all ms s) e ∙ bound_append ls (l ∷ []) s
