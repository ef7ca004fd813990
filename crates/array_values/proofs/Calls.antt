-- Functions of arrays, at a position: their arguments one at a time.
use Rattle.std.proofs.Common.{◌≡◌, refl, sym, ap, ◌∙◌, ℕ, ◌+◌, ◌<◌, ◌≤◌, List, [], ◌∷◌, map, drop, length, get_or, Result, Ok, Err}
use Rattle.std.proofs.lemmas.List.{at_drop_more, at_drop_all}
use Rattle.std.specs.List.{fold}
use Rattle.tree.specs.Steps.{◌>>=◌}
use Rattle.tree.specs.Operators.{call}
use Rattle.tree.specs.Arguments.{added, finished}
use Rattle.tree.specs.declared.arguments.Arguments.{Arguments}
use Rattle.tree.specs.declared.arguments.Arguments.TheVariants.{Empty}
use Rattle.tree.specs.declared.functions.Fun.{Fun}
use Rattle.tree.specs.declared.ops.Value.{Value}
use Rattle.tree.specs.declared.ops.Fault.{Fault}
use Rattle.tree.proofs.Calls.{finished_is}
use Rattle.array_values.specs.declared.prepared.Prepared.{Prepared}
use Rattle.array_values.specs.Arrays.{all_at, elements_in, called_at}

-- where some arguments were taken and these are left
pub left_to_call : Fun → Arguments → List Prepared → List ℕ → Result Value Fault
left_to_call f given ps is = do xs ← all_at (map elements_in ps) is; finished f (fold (added f) given xs)

called : (f : Fun) (q : Result (List Value) Fault) → ◌≡◌ {A = Result Value Fault} (do xs ← q; call f xs) (do xs ← q; finished f (fold (added f) Empty xs))
called f (Ok xs) = sym (finished_is f xs)
called f (Err e) = refl

taken_on : (f : Fun) (given : Arguments) (x : Value) (q : Result (List Value) Fault)
    → ◌≡◌ {A = Result Value Fault} (do xs ← (do xs ← q; Ok (x ∷ xs)); finished f (fold (added f) given xs)) (do xs ← q; finished f (fold (added f) (added f given x) xs))
taken_on f given x (Ok xs) = refl
taken_on f given x (Err e) = refl

pub call_begun : (f : Fun) (ps : List Prepared) (is : List ℕ) → called_at f (map elements_in ps) is ≡ left_to_call f Empty ps is
unfolding left_to_call
call_begun f ps is = called f (all_at (map elements_in ps) is)

pub call_done : (f : Fun) (given : Arguments) (is : List ℕ) → left_to_call f given [] is ≡ finished f given
unfolding left_to_call
call_done f given is = refl

call_fault : (f : Fun) (given : Arguments) (p : Prepared) (ps : List Prepared) (is : List ℕ) (g : Fault) → Err g ≡ (elements_in p).at is → left_to_call f given (p ∷ ps) is ≡ Err g
unfolding left_to_call
call_fault f given p ps is g h = ap (λ (r : Result Value Fault). do xs ← (do x ← r; xs ← all_at (map elements_in ps) is; Ok (x ∷ xs)); finished f (fold (added f) given xs)) (sym h)

call_more : (f : Fun) (given : Arguments) (p : Prepared) (ps : List Prepared) (is : List ℕ) (x : Value) → Ok x ≡ (elements_in p).at is
    → left_to_call f given (p ∷ ps) is ≡ left_to_call f (added f given x) ps is
unfolding left_to_call
call_more f given p ps is x h =
    ap (λ (r : Result Value Fault). do xs ← (do x ← r; xs ← all_at (map elements_in ps) is; Ok (x ∷ xs)); finished f (fold (added f) given xs)) (sym h)
    ∙ taken_on f given x (all_at (map elements_in ps) is)

module _ (whole : Result Value Fault) (f : Fun) (given : Arguments) (ps : List Prepared) (i : ℕ) (is : List ℕ) (so_far : whole ≡ left_to_call f given (drop i ps) is) where
  pub call_step_fault : (p : Prepared) (g : Fault) → i < length ps → p ≡ get_or ps i p → Err g ≡ (elements_in p).at is → Err g ≡ whole
  call_step_fault p g l h v = sym (so_far ∙ at_drop_more (λ ps. left_to_call f given ps is) ps i p l ∙ ap (λ d. left_to_call f given (d ∷ drop (i + 1) ps) is) (sym h) ∙ call_fault f given p (drop (i + 1) ps) is g v)

  pub call_step : (p : Prepared) (x : Value) → i < length ps → p ≡ get_or ps i p → Ok x ≡ (elements_in p).at is → whole ≡ left_to_call f (added f given x) (drop (i + 1) ps) is
  call_step p x l h v = so_far ∙ at_drop_more (λ ps. left_to_call f given ps is) ps i p l ∙ ap (λ d. left_to_call f given (d ∷ drop (i + 1) ps) is) (sym h) ∙ call_more f given p (drop (i + 1) ps) is x v

  pub call_end : length ps ≤ i → finished f given ≡ whole
  call_end l = sym (so_far ∙ at_drop_all (λ ps. left_to_call f given ps is) ps i l ∙ call_done f given is)
