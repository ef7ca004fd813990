-- Lists of trees in canonical text, one at a time.
use Rattle.std.proofs.Common.{◌≡◌, refl, sym, ap, ◌∙◌, ℕ, ◌+◌, ◌<◌, Bool, ◌||◌, List, [], ◌∷◌, ◌++◌, map, take, length, get_or, fold, Result, Ok, Err, Option, Some, None, append_assoc, append-nil}
use Rattle.std.specs.List.{flat_map}
use Rattle.std.proofs.lemmas.List.{map-append}
use mathlib.Core.Path.{ap₂}
use Rattle.tree.specs.Arguments.{added, finished}
use Rattle.tree.specs.Operators.{call}
use Rattle.tree.specs.Plain.{Expression, Apply, expressions}
use Rattle.tree.specs.Steps.{◌>>=◌}
use Rattle.tree.specs.declared.arguments.Arguments.{Arguments}
use Rattle.tree.specs.declared.arguments.Arguments.TheVariants.{Empty}
use Rattle.tree.specs.declared.functions.Fun.{Fun}
use Rattle.tree.specs.declared.ops.Fault.{Fault}
use Rattle.tree.specs.declared.ops.Value.{Value}
use Rattle.tree.proofs.Calls.{finished_is}
use Rattle.meaning.specs.Dialect.{fortran77}
use Rattle.tree.specs.declared.width.Width.TheVariants.{Plain}
use Rattle.meaning.specs.Value.{value_of, values_of}
use Rattle.rewrite.specs.declared.uses.Use.{Use}
use Rattle.rewrite.proofs.UseLaws.{one_more, more}
use Rattle.linear_forms.specs.Linear.{constant_value, known, no_store}
use Rattle.form_rules.specs.Written.{stands_in, with_constant, call_of}
use Rattle.form_rules.proofs.Writing.{stands_in_both}

-- one node more of a list, of which each becomes what it becomes
pub mapped_more : {A B C D : Type 0} (f : B → C) (view : A → B) (show : D → C) (list : List A) (i : ℕ) (x : A) (made new : List D) (y : D)
    → i < length list → x ≡ get_or list i x → map show made ≡ map f (map view (take i list)) → new ≡ made ++ y ∷ [] → show y ≡ f (view x)
    → map show new ≡ map f (map view (take (i + 1) list))
mapped_more f view show list i x made new y h e before pushed here =
    ap (map show) pushed ∙ map-append show made (y ∷ [])
    ∙ ap₂ (λ bs c. bs ++ c ∷ []) before here
    ∙ sym (map-append f (map view (take i list)) (view x ∷ []))
    ∙ ap (map f) (sym (map-append view (take i list) (x ∷ [])))
    ∙ ap (λ xs. map f (map view xs)) (sym (one_more list i x h e))

-- whether the variable of a loop stands in it
pub stands_more : {A B : Type 0} (loops symbols : List (List ℕ)) (f : B → List Use) (view : A → B) (list : List A) (i : ℕ) (x : A) (had now next : Bool)
    → i < length list → x ≡ get_or list i x → had ≡ stands_in loops (flat_map f (map view (take i list))) → next ≡ stands_in loops (f (view x)) → now ≡ (had || next)
    → now ≡ stands_in loops (flat_map f (map view (take (i + 1) list)))
stands_more loops symbols f view list i x had now next h e before here n =
    n ∙ stands_in_both loops symbols (flat_map f (map view (take i list))) (f (view x)) had next before here
    ∙ ap (stands_in loops) (more f view list i x [] (flat_map f (map view (take i list))) (flat_map f (map view (take i list)) ++ f (view x)) h e refl refl)

-- ---- arguments

taken_on : (f : Fun) (given : Arguments) (x : Value) (q : Result (List Value) Fault)
    → ◌≡◌ {A = Result Value Fault} (do xs ← (do xs ← q; Ok (x ∷ xs)); finished f (fold (added f) given xs)) (do xs ← q; finished f (fold (added f) (added f given x) xs))
taken_on f given x (Ok xs) = refl
taken_on f given x (Err e) = refl

-- the value of a call, where some arguments were taken and these are left
pub left_to_call : Fun → Option Arguments → List Expression → Option Value
left_to_call f None es = None
left_to_call f (Some given) es = known (do xs ← values_of (fortran77 Plain) (expressions es) no_store; finished f (fold (added f) given xs))

called : (f : Fun) (q : Result (List Value) Fault) → ◌≡◌ {A = Result Value Fault} (do xs ← q; call f xs) (do xs ← q; finished f (fold (added f) Empty xs))
called f (Ok xs) = sym (finished_is f xs)
called f (Err e) = refl

pub call_begun : (f : Fun) (es : List Expression) → left_to_call f (Some Empty) es ≡ constant_value (Apply f (expressions es))
unfolding left_to_call
call_begun f es = ap known (sym (called f (values_of (fortran77 Plain) (expressions es) no_store)))

pub call_ended : (f : Fun) (o : Option Arguments) → left_to_call f o [] ≡ call_of f o
unfolding left_to_call
call_ended f None = refl
call_ended f (Some given) = refl

pub call_more : (f : Fun) (o : Option Arguments) (e : Expression) (es : List Expression) → left_to_call f o (e ∷ es) ≡ left_to_call f (with_constant f o (constant_value e)) es
unfolding left_to_call
call_more f None e es = refl
call_more f (Some given) e es = by (value_of (fortran77 Plain) e no_store)
  where
    by : (r : Result Value Fault)
        → known (do xs ← (do x ← r; xs ← values_of (fortran77 Plain) (expressions es) no_store; Ok (x ∷ xs)); finished f (fold (added f) given xs)) ≡ left_to_call f (with_constant f (Some given) (known r)) es
    by (Ok x) = ap known (taken_on f given x (values_of (fortran77 Plain) (expressions es) no_store))
    by (Err e) = refl

-- what the function was given, by these arguments
pub record AreTaken (f : Fun) (es : List Expression) (o : Option Arguments) : Type 0 where
  pub left : (rest : List Expression) → left_to_call f (Some Empty) (es ++ rest) ≡ left_to_call f o rest

pub none_taken : (f : Fun) → AreTaken f [] (Some Empty)
none_taken f = record { left = λ rest. refl }

pub one_taken : (f : Fun) (es : List Expression) (o new : Option Arguments) (e : Expression) (c : Option Value) → AreTaken f es o → c ≡ constant_value e → new ≡ with_constant f o c → AreTaken f (es ++ e ∷ []) new
one_taken f es o new e c t h n = record {
  left = λ rest. ap (left_to_call f (Some Empty)) (append_assoc es (e ∷ []) rest) ∙ t.left (e ∷ rest) ∙ call_more f o e rest ∙ ap (λ o. left_to_call f o rest) (ap (with_constant f o) (sym h) ∙ sym n);
}

pub all_taken : (f : Fun) (es : List Expression) (o : Option Arguments) → AreTaken f es o → call_of f o ≡ constant_value (Apply f (expressions es))
all_taken f es o t = sym (call_ended f o) ∙ sym (t.left []) ∙ ap (left_to_call f (Some Empty)) (append-nil es) ∙ call_begun f es
