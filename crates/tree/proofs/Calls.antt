-- Arguments that are taken one at a time.
use Rattle.std.proofs.Common.{◌≡◌, refl, ap, ◌∙◌, ℤ, List, [], ◌∷◌, Result, Ok, Err}
use Rattle.std.specs.Int.{int_max, int_min}
use Rattle.std.specs.List.{fold}
use Rattle.tree.specs.Steps.{◌>>=◌}
use Rattle.tree.specs.Operators.{call, exact_call, as_numbers, ranged}
use Rattle.tree.specs.declared.functions.Fun.{Fun}
use Rattle.tree.specs.declared.functions.Fun.TheVariants.{Abs, Mod, Max, Min}
use Rattle.tree.specs.declared.ops.Value.{Value}
use Rattle.tree.specs.declared.ops.Value.TheVariants.{Int, Truth}
use Rattle.tree.specs.declared.ops.Fault.{Fault}
use Rattle.tree.specs.declared.ops.Fault.TheVariants.{Shape}
use Rattle.tree.specs.declared.arguments.Arguments.{Arguments}
use Rattle.tree.specs.declared.arguments.Arguments.TheVariants.{Empty, More, Unsuited}
use Rattle.tree.specs.Arguments.{kept, added, finished, call_of_many}

stays_unsuited : (f : Fun) (vs : List Value) → fold (added f) Unsuited vs ≡ Unsuited
stays_unsuited f [] = refl
stays_unsuited f (Int c ∷ vs) = stays_unsuited f vs
stays_unsuited f (Truth b ∷ vs) = stays_unsuited f vs

-- a number and those after it
abbrev of_many : Fun → ℤ → List ℤ → Result ℤ Fault
of_many Abs m zs = Err Shape
of_many Mod m zs = Err Shape
of_many Max m zs = Ok (fold int_max m zs)
of_many Min m zs = Ok (fold int_min m zs)

many_begun : (f : Fun) (m : ℤ) → call_of_many f m ≡ ranged (of_many f m [])
many_begun Abs m = refl
many_begun Mod m = refl
many_begun Max m = refl
many_begun Min m = refl

one_more : (f : Fun) (m c : ℤ) (r : Result (List ℤ) Fault) → ranged (do zs ← r; of_many f (kept f m c) zs) ≡ ranged (do zs ← (do zs ← r; Ok (c ∷ zs)); of_many f m zs)
one_more f m c (Err e) = refl
one_more Abs m c (Ok zs) = refl
one_more Mod m c (Ok zs) = refl
one_more Max m c (Ok zs) = refl
one_more Min m c (Ok zs) = refl

many : (f : Fun) (m : ℤ) (vs : List Value) → finished f (fold (added f) (More m) vs) ≡ ranged (do zs ← as_numbers vs; of_many f m zs)
many f m [] = many_begun f m
many f m (Int c ∷ vs) = many f (kept f m c) vs ∙ one_more f m c (as_numbers vs)
many f m (Truth b ∷ vs) = ap (finished f) (stays_unsuited f vs)

first_three : (f : Fun) (a b c : ℤ) (r : Result (List ℤ) Fault)
    → ranged (do zs ← r; of_many f (kept f (kept f a b) c) zs) ≡ ranged (do zs ← (do zs ← (do zs ← (do zs ← r; Ok (c ∷ zs)); Ok (b ∷ zs)); Ok (a ∷ zs)); exact_call f zs)
first_three f a b c (Err e) = refl
first_three Abs a b c (Ok zs) = refl
first_three Mod a b c (Ok zs) = refl
first_three Max a b c (Ok zs) = refl
first_three Min a b c (Ok zs) = refl

nothing_called : (f : Fun) → ◌≡◌ {A = Result Value Fault} (Err Shape) (call f [])
nothing_called Abs = refl
nothing_called Mod = refl
nothing_called Max = refl
nothing_called Min = refl

-- the value at arguments that are taken one at a time
pub finished_is : (f : Fun) (vs : List Value) → finished f (fold (added f) Empty vs) ≡ call f vs
finished_is f [] = nothing_called f
finished_is f (Truth p ∷ vs) = ap (finished f) (stays_unsuited f vs)
finished_is f (Int a ∷ []) = refl
finished_is f (Int a ∷ Truth p ∷ vs) = ap (finished f) (stays_unsuited f vs)
finished_is f (Int a ∷ Int b ∷ []) = refl
finished_is f (Int a ∷ Int b ∷ Truth p ∷ vs) = ap (finished f) (stays_unsuited f vs)
finished_is f (Int a ∷ Int b ∷ Int c ∷ vs) = many f (kept f (kept f a b) c) vs ∙ first_three f a b c (as_numbers vs)

-- the same of arguments that are told to be those
pub finished_of : (f : Fun) (given : Arguments) (vs : List Value) → given ≡ fold (added f) Empty vs → finished f given ≡ call f vs
finished_of f given vs e = ap (finished f) e ∙ finished_is f vs

pub ruleset taken = (finished_of)
