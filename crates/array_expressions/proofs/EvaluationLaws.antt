-- What an evaluation has given so far.
use Rattle.std.proofs.Common.{◌≡◌, refl, sym, ap, ◌∙◌, subst, zero, suc, ℕ, ℤ, pos, negsuc, ◌+ℤ◌, ◌-ℤ◌, ◌≤ℤ◌, ◌<ℤ◌, ◌+◌, ◌<◌, ◌≤◌, Bool, true, false, List, [], ◌∷◌, ◌++◌, map, drop, length, get_or, Result, Ok, Err, arith, append_assoc}
use Rattle.std.proofs.Common.{to_z, of_z}
use Rattle.std.specs.Int.{w128}
use Rattle.std.specs.Prelude.{◌^◌}
use Rattle.std.proofs.lemmas.Bool.Decides.{Decides-ltb}
use Rattle.std.proofs.lemmas.Int.{ints, to_z-of_z, fits_signed_from_abs}
use Rattle.std.proofs.lemmas.List.{append-nil, map-append, at_drop_more, at_drop_all}
use mathlib.Core.Path.{ap₂}
use Rattle.tree.specs.Steps.{◌>>=◌}
use Rattle.tree.specs.Operators.{fits}
use Rattle.tree.specs.Plain as P
use Rattle.tree.specs.View.{expression_of, subscript_of}
use Rattle.tree.specs.declared.exprs.Sub.{Sub}
use Rattle.tree.specs.declared.exprs.Expr.{Expr}
use Rattle.tree.specs.declared.ops.Value.{Value}
use Rattle.tree.specs.declared.ops.Fault.{Fault}
use Rattle.tree.specs.declared.ops.Fault.TheVariants.{Overflow}
use Rattle.meaning.specs.Dialect.{fortran90}
use Rattle.tree.specs.declared.width.Width.{Width}
use Rattle.meaning.specs.Store.{Store}
use Rattle.meaning.specs.ArrayValues.{Elements, conform}
use Rattle.meaning.specs.Sections.{Selector, not_negative}
use Rattle.meaning.specs.Value.{value_of, values_of, array_of, arguments_of, subscript_value, subscript_values, selector, selectors, for_numbers, bound_to}
use Rattle.array_values.specs.declared.failure.Failure.{Failure}
use Rattle.array_values.specs.declared.failure.Failure.TheVariants as failure
use Rattle.array_values.specs.Answers.{Answers}
use Rattle.array_values.specs.Positions.{wider}
use Rattle.array_values.specs.Arrays.{elements_in, extents_together, together_all}
use Rattle.array_values.specs.Selections.{selector_in}
use Rattle.array_values.specs.declared.prepared.Prepared.{Prepared}
use Rattle.array_values.specs.declared.sections.Selector.{Selector as Selector'}
use Rattle.array_values.proofs.Steps.{left_of, left_begun, list_fault, list_more, list_done}
use Rattle.array_expressions.specs.Appending.{Appends}
use Rattle.array_expressions.proofs.TurnLaws.{turn_more, turn_fault, turn_past, turn_none, count_more}
use Rattle.array_expressions.proofs.ValueLaws.{values_each, subscripts_each}
use Rattle.array_expressions.proofs.ArrayLaws.{args_left, args_begun, args_fault, args_unshaped, args_more, args_done, selectors_each}
use Rattle.tree.specs.Widths.{bits_of}
use Rattle.meaning.proofs.Widths.{fits_more, widest}

-- ---- values of expressions in turn

-- the values of some stand behind the old ones, and these expressions are left
pub record HaveValues (width : Width) (s : Store) (old now : List Value) (whole : Result (List Value) Fault) (es : List Expr) : Type 0 where
  pub done : List Value
  pub behind : now ≡ old ++ done
  pub rest : whole ≡ left_of (λ e. value_of (fortran90 width) (expression_of e) s) done es

-- ---- the numbers of a loop's variable in turn

-- the values up to the number z stand behind the old ones
pub record HaveNumbers (width : Width) (f : Store → Result (List Value) Fault) (s : Store) (old now : List Value) (x : List ℕ) (first z last : ℤ) : Type 0 where
  pub done : List Value
  pub behind : now ≡ old ++ done
  pub rest : for_numbers (bits_of width) x first last f s ≡ (do vs ← for_numbers (bits_of width) x z last f s; Ok (done ++ vs))

-- the same question
pub appends_same : (old new : List Value) (p q : Result (List Value) Fault) (r : Result (Unit {0}) Failure) → p ≡ q → Appends old new q r → Appends old new p r
appends_same old new p q r e h = subst (λ q. Appends old new q r) (sym e) h

-- a step before has failed
pub appends_fault : {A B : Type 0} (view : B → A) (old new : List Value) (q : Result A Fault) (k : A → Result (List Value) Fault) (e : Failure)
    → Answers view q (Err e) → Appends old new (q >>= k) (Err e)
appends_fault view old new q k (failure.Fault f) h = ap (λ r. r >>= k) h
appends_fault view old new q k failure.Memory h = tt

-- a step before has given this
pub appends_goes : {A : Type 0} (old new : List Value) (q : Result A Fault) (k : A → Result (List Value) Fault) (x : A) (r : Result (Unit {0}) Failure)
    → q ≡ Ok x → Appends old new (k x) r → Appends old new (q >>= k) r
appends_goes old new q k x r e h = subst (λ q. Appends old new (q >>= k) r) (sym e) h

-- the values stand behind none
pub appended_fails : (old new : List Value) (q : Result (List Value) Fault) (e : Failure) → Appends old new q (Err e) → Answers (λ (vs : List Value). vs) q (Err e)
appended_fails old new q (failure.Fault f) h = h
appended_fails old new q failure.Memory h = tt

pub appended_values : (old new : List Value) (q : Result (List Value) Fault) → old ≡ [] → Appends old new q (Ok tt) → q ≡ Ok new
appended_values old new q e h = h.1 ∙ ap (λ vs. let r : Result (List Value) Fault = Ok vs in r) (sym (h.2 ∙ ap (λ vs. vs ++ h.0) e))

-- a list's elements in turn, of which one has failed
pub listed_fails : {A B C D : Type 0} (f : A → Result B Fault) (view : D → List B) (one : C → B) (whole : Result (List B) Fault) (done : List B) (xs : List A) (i : ℕ)
    → whole ≡ left_of f done (drop i xs) → (p : A) (x : Failure) → i < length xs → p ≡ get_or xs i p → Answers one (f p) (Err x) → Answers view whole (Err x)
listed_fails f view one whole done xs i so_far p failure.Memory l k a = tt
listed_fails f view one whole done xs i so_far p (failure.Fault g) l k a = list_fault f whole done xs i so_far p g l (ap f (sym k) ∙ a)

module _ (width : Width) (s : Store) (old now : List Value) (whole : Result (List Value) Fault) (es : List Expr) (i : ℕ) (h : HaveValues width s old now whole (drop i es)) where
  pub values_fault : (e : Expr) (fail : Failure) (new : List Value) → i < length es → e ≡ get_or es i e
      → Answers (λ (v : Value). v) (value_of (fortran90 width) (expression_of e) s) (Err fail) → Appends old new whole (Err fail)
  values_fault e failure.Memory new l k a = tt
  values_fault e (failure.Fault f) new l k a =
      list_fault (λ e. value_of (fortran90 width) (expression_of e) s) whole h.done es i h.rest e f l (ap (λ e. value_of (fortran90 width) (expression_of e) s) (sym k) ∙ a)

  pub values_more : (e : Expr) (v : Value) (new : List Value) → i < length es → e ≡ get_or es i e
      → value_of (fortran90 width) (expression_of e) s ≡ Ok v → new ≡ now ++ v ∷ [] → HaveValues width s old new whole (drop (i + 1) es)
  values_more e v new l k a n = record {
    done = h.done ++ v ∷ [];
    behind = n ∙ ap (λ vs. vs ++ v ∷ []) h.behind ∙ append_assoc old h.done (v ∷ []);
    rest = list_more (λ e. value_of (fortran90 width) (expression_of e) s) whole h.done es i h.rest e v l (ap (λ e. value_of (fortran90 width) (expression_of e) s) (sym k) ∙ a);
  }

  pub values_end : length es ≤ i → Appends old now whole (Ok tt)
  values_end l = (h.done, list_done (λ e. value_of (fortran90 width) (expression_of e) s) whole h.done es i h.rest l, h.behind)

module _ (width : Width) (f : Store → Result (List Value) Fault) (s : Store) (old now : List Value) (x : List ℕ) (first z last : ℤ) (h : HaveNumbers width f s old now x first z last) where
  ends : (q : Result (List Value) Fault) → for_numbers (bits_of width) x z last f s ≡ q → for_numbers (bits_of width) x first last f s ≡ (do vs ← q; Ok (h.done ++ vs))
  ends q e = subst (λ q. for_numbers (bits_of width) x first last f s ≡ (do vs ← q; Ok (h.done ++ vs))) e h.rest

  pub numbers_past : (new : List Value) → z ≤ℤ last → fits (bits_of width) z ≡ false → Appends old new (for_numbers (bits_of width) x first last f s) (Err (failure.Fault Overflow))
  numbers_past new l t = ends (Err Overflow) (turn_past width x f s z last l t)

  pub numbers_fault : (now' new : List Value) (fail : Failure) → z ≤ℤ last → fits (bits_of width) z ≡ true → Appends now' new (f (bound_to x z s)) (Err fail) → Appends old new (for_numbers (bits_of width) x first last f s) (Err fail)
  numbers_fault now' new failure.Memory l t a = tt
  numbers_fault now' new (failure.Fault g) l t a = ends (Err g) (turn_fault width x f s z last g l t a)

  pub numbers_more : (new : List Value) → z ≤ℤ last → fits (bits_of width) z ≡ true → Appends now new (f (bound_to x z s)) (Ok tt) → HaveNumbers width f s old new x first (z +ℤ pos 1) last
  numbers_more new l t a = record {
    done = h.done ++ a.0;
    behind = a.2 ∙ ap (λ vs. vs ++ a.0) h.behind ∙ append_assoc old h.done a.0;
    rest = ends _ (turn_more width x f s z last a.0 l t a.1) ∙ by (for_numbers (bits_of width) x (z +ℤ pos 1) last f s);
  }
    where
      by : (q : Result (List Value) Fault) → ◌≡◌ {A = Result (List Value) Fault} (do vs ← (do more ← q; Ok (a.0 ++ more)); Ok (h.done ++ vs)) (do vs ← q; Ok ((h.done ++ a.0) ++ vs))
      by (Ok vs) = ap (λ vs. let r : Result (List Value) Fault = Ok vs in r) (sym (append_assoc h.done a.0 vs))
      by (Err g) = refl

  pub numbers_end : last <ℤ z → Appends old now (for_numbers (bits_of width) x first last f s) (Ok tt)
  numbers_end l = (h.done, ends (Ok []) (turn_none width x f s z last l) ∙ ap (λ vs. let r : Result (List Value) Fault = Ok vs in r) (append-nil h.done), h.behind)

pub numbers_begun : (width : Width) (f : Store → Result (List Value) Fault) (s : Store) (old : List Value) (x : List ℕ) (first last : ℤ) → HaveNumbers width f s old old x first first last
numbers_begun width f s old x first last = record { done = []; behind = sym (append-nil old); rest = by (for_numbers (bits_of width) x first last f s) }
  where
    by : (q : Result (List Value) Fault) → q ≡ (do vs ← q; Ok ([] ++ vs))
    by (Ok vs) = refl
    by (Err g) = refl

pub values_begun : (width : Width) (s : Store) (old : List Value) (es items : List Expr) → items ≡ es → HaveValues width s old old (values_of (fortran90 width) (P.expressions (map expression_of es)) s) items
values_begun width s old es items e = record {
  done = [];
  behind = sym (append-nil old);
  rest = subst (λ items. values_of (fortran90 width) (P.expressions (map expression_of es)) s ≡ left_of (λ e. value_of (fortran90 width) (expression_of e) s) [] items) (sym e)
      (values_each width s es ∙ left_begun (λ e. value_of (fortran90 width) (expression_of e) s) es);
}

pub subscripts_begun : (width : Width) (s : Store) (ps items : List Sub) (known : List ℤ) → items ≡ ps → known ≡ [] → subscript_values (fortran90 width) (P.subscripts (map subscript_of ps)) s ≡ left_of (λ p. subscript_value (fortran90 width) (subscript_of p) s) known items
subscripts_begun width s ps items known e k =
    subst (λ zs. subscript_values (fortran90 width) (P.subscripts (map subscript_of ps)) s ≡ left_of (λ p. subscript_value (fortran90 width) (subscript_of p) s) zs items) (sym k)
    (subst (λ items. subscript_values (fortran90 width) (P.subscripts (map subscript_of ps)) s ≡ left_of (λ p. subscript_value (fortran90 width) (subscript_of p) s) [] items) (sym e)
    (subscripts_each width s ps ∙ left_begun (λ p. subscript_value (fortran90 width) (subscript_of p) s) ps))

pub selectors_begun : (width : Width) (s : Store) (ps items : List Sub) (known : List Selector') → items ≡ ps → known ≡ [] → selectors (fortran90 width) (P.subscripts (map subscript_of ps)) s ≡ left_of (λ p. selector (fortran90 width) (subscript_of p) s) (map selector_in known) items
selectors_begun width s ps items known e k =
    subst (λ zs. selectors (fortran90 width) (P.subscripts (map subscript_of ps)) s ≡ left_of (λ p. selector (fortran90 width) (subscript_of p) s) (map selector_in zs) items) (sym k)
    (subst (λ items. selectors (fortran90 width) (P.subscripts (map subscript_of ps)) s ≡ left_of (λ p. selector (fortran90 width) (subscript_of p) s) [] items) (sym e)
    (selectors_each width s ps ∙ left_begun (λ p. selector (fortran90 width) (subscript_of p) s) ps))

pub selectors_more : (width : Width) (s : Store) (whole : Result (List Selector) Fault) (known new : List Selector') (ps : List Sub) (i : ℕ) → whole ≡ left_of (λ p. selector (fortran90 width) (subscript_of p) s) (map selector_in known) (drop i ps)
    → (p : Sub) (z : Selector') → i < length ps → p ≡ get_or ps i p → selector (fortran90 width) (subscript_of p) s ≡ Ok (selector_in z) → new ≡ known ++ z ∷ []
    → whole ≡ left_of (λ p. selector (fortran90 width) (subscript_of p) s) (map selector_in new) (drop (i + 1) ps)
selectors_more width s whole known new ps i so_far p z l k a n =
    list_more (λ p. selector (fortran90 width) (subscript_of p) s) whole (map selector_in known) ps i so_far p (selector_in z) l (ap (λ p. selector (fortran90 width) (subscript_of p) s) (sym k) ∙ a)
    ∙ ap (λ zs. left_of (λ p. selector (fortran90 width) (subscript_of p) s) zs (drop (i + 1) ps)) (sym (ap (map selector_in) n ∙ map-append selector_in known (z ∷ [])))

-- ---- arguments in turn

pub arguments_begun : (width : Width) (s : Store) (es items : List Expr) (parts : List Prepared) → items ≡ es → parts ≡ [] → arguments_of (fortran90 width) (P.expressions (map expression_of es)) [] s ≡ args_left width s (map elements_in parts) items
arguments_begun width s es items parts e k =
    subst (λ ps. arguments_of (fortran90 width) (P.expressions (map expression_of es)) [] s ≡ args_left width s (map elements_in ps) items) (sym k)
    (subst (λ items. arguments_of (fortran90 width) (P.expressions (map expression_of es)) [] s ≡ args_left width s [] items) (sym e) (args_begun width s es))

module _ (width : Width) (s : Store) (whole : Result (Elements (List Value)) Fault) (parts : List Prepared) (es : List Expr) (i : ℕ) (so_far : whole ≡ args_left width s (map elements_in parts) (drop i es))
    (e : Expr) (l : i < length es) (k : e ≡ get_or es i e) where
  next : whole ≡ args_left width s (map elements_in parts) (e ∷ drop (i + 1) es)
  next = so_far ∙ at_drop_more (args_left width s (map elements_in parts)) es i e l ∙ ap (λ d. args_left width s (map elements_in parts) (d ∷ drop (i + 1) es)) (sym k)

  pub argument_fails : (x : Failure) → Answers elements_in (array_of (fortran90 width) (expression_of e) s) (Err x) → Answers (λ (ps : List Prepared). together_all [] (map elements_in ps)) whole (Err x)
  argument_fails failure.Memory a = tt
  argument_fails (failure.Fault f) a = next ∙ args_fault width s (map elements_in parts) e (drop (i + 1) es) f a

  module _ (p : Prepared) (a : array_of (fortran90 width) (expression_of e) s ≡ Ok (elements_in p)) (ms ns : List ℕ) (m : ms ≡ extents_together [] (map elements_in parts)) (n : ns ≡ (elements_in p).extents) where
    pub argument_unshaped : (f : Fault) → conform ms ns ≡ Err f → whole ≡ Err f
    argument_unshaped f c = next ∙ args_unshaped width s (map elements_in parts) e (drop (i + 1) es) (elements_in p) f a (ap₂ (λ ms ns. conform ms ns) (sym m) (sym n) ∙ c)

    pub argument_more : (new : List Prepared) → conform ms ns ≡ Ok (wider ms ns) → new ≡ parts ++ p ∷ [] → whole ≡ args_left width s (map elements_in new) (drop (i + 1) es)
    argument_more new c b =
        next
        ∙ args_more width s (map elements_in parts) e (drop (i + 1) es) (elements_in p) a (ap₂ (λ ms ns. conform ms ns) (sym m) (sym n) ∙ c ∙ ap₂ (λ ms ns. let r : Result (List ℕ) Fault = Ok (wider ms ns) in r) m n)
        ∙ ap (λ gs. args_left width s gs (drop (i + 1) es)) (sym (ap (map elements_in) b ∙ map-append elements_in parts (p ∷ [])))

pub arguments_end : (width : Width) (s : Store) (whole : Result (Elements (List Value)) Fault) (parts : List Prepared) (es : List Expr) (i : ℕ) → whole ≡ args_left width s (map elements_in parts) (drop i es) → length es ≤ i → whole ≡ Ok (together_all [] (map elements_in parts))
arguments_end width s whole parts es i so_far l = so_far ∙ at_drop_all (args_left width s (map elements_in parts)) es i l ∙ args_done width s (map elements_in parts)

-- a turn less
pub fewer_turns : (width : Width) (x : List ℕ) (f : Store → Result (List Value) Fault) (s : Store) (z u : ℤ) → z ≤ℤ u → not_negative (u -ℤ (z +ℤ pos 1) +ℤ pos 1) < not_negative (u -ℤ z +ℤ pos 1)
fewer_turns width x f s z u l = (let e = count_more width x f s z u l in omega arith)

-- a number of INTEGER has a number after it
pub next_is : (width : Width) (z : ℤ) → fits (bits_of width) z ≡ true → to_z w128 (of_z w128 (z +ℤ pos 1)) ≡ z +ℤ pos 1
next_is width (pos n) t = (let h = (Decides-ltb n (2 ^ 63)).0 (fits_more (bits_of width) 63 (widest width) (pos n) t) in to_z-of_z w128 (pos n +ℤ pos 1) (fits_signed_from_abs w128 (pos n +ℤ pos 1) (omega (arith, ints))))
next_is width (negsuc n) t = (let h = (Decides-ltb n (2 ^ 63)).0 (fits_more (bits_of width) 63 (widest width) (negsuc n) t) in to_z-of_z w128 (negsuc n +ℤ pos 1) (fits_signed_from_abs w128 (negsuc n +ℤ pos 1) (omega (arith, ints))))
