-- Calls that the code makes of the parts of a list.
use Rattle.std.proofs.Common.{arith, ◌≡◌, ◌+◌, ℕ, List, [], ◌∷◌, ◌++◌, length, refl, ap, sym, ◌∙◌, Option, Some, map, length-append}
use mathlib.Core.Path.{ap₂}
use Rattle.std.specs.Prelude.{option_to_list}
use Rattle.std.specs.declared.boxed.Box.{Box}
use Rattle.std.specs.declared.alloc.Global.{Global}
use Rattle.tree.specs.declared.functions.Intrinsic.TheVariants as intrinsics
use Rattle.tree.specs.declared.functions.Fun.{Fun}
use Rattle.tree.specs.declared.functions.Red.{Red}
use Rattle.tree.specs.declared.lists.Seq.{Seq}
use Rattle.tree.specs.declared.exprs.Expr.{Expr}
use Rattle.tree.specs.declared.exprs.Expr.TheVariants as exprs
use Rattle.tree.specs.declared.exprs.Sub.{Sub}
use Rattle.tree.specs.Plain as tree
use Rattle.tree.specs.Plain.{Expression, Subscript, Expressions}
use Rattle.tree.specs.View.{expression_of, subscript_of}
use Rattle.tree.proofs.Equations.{expression_of-call, expression_of-reduce, expression_of-transpose, expression_of-reshape, expression_of-spread}
use Rattle.f90_grammar.specs.Phrases.{arguments90_of, natural_in, list_in}
use Rattle.reading.specs.Signs.{argument_of}
use Rattle.f90_trees.specs.Building.{called_held, held_dimension}

abbrev written : List ℕ → List Sub → Expression
written x subs = tree.Named x (tree.subscripts (map subscript_of subs))

-- ---- another number of arguments

pub reduced_other : (r : Red) (x : List ℕ) (subs : List Sub) → (length subs ≡ 1 → ⊥) → written x subs ≡ called_held (Some (intrinsics.Reduction r)) x (map subscript_of subs)
reduced_other r x [] n = refl
reduced_other r x (a ∷ []) n = absurd (n refl)
reduced_other r x (a ∷ (b ∷ subs)) n = refl

pub transposed_other : (x : List ℕ) (subs : List Sub) → (length subs ≡ 1 → ⊥) → written x subs ≡ called_held (Some intrinsics.Transpose) x (map subscript_of subs)
transposed_other x [] n = refl
transposed_other x (a ∷ []) n = absurd (n refl)
transposed_other x (a ∷ (b ∷ subs)) n = refl

pub reshaped_other : (x : List ℕ) (subs : List Sub) → (length subs ≡ 2 → ⊥) → written x subs ≡ called_held (Some intrinsics.Reshape) x (map subscript_of subs)
reshaped_other x [] n = refl
reshaped_other x (a ∷ []) n = refl
reshaped_other x (a ∷ (b ∷ [])) n = absurd (n refl)
reshaped_other x (a ∷ (b ∷ (c ∷ subs))) n = refl

pub spread_other : (x : List ℕ) (subs : List Sub) → (length subs ≡ 3 → ⊥) → written x subs ≡ called_held (Some intrinsics.Spread) x (map subscript_of subs)
spread_other x [] n = refl
spread_other x (a ∷ []) n = refl
spread_other x (a ∷ (b ∷ [])) n = refl
spread_other x (a ∷ (b ∷ (c ∷ []))) n = absurd (n refl)
spread_other x (a ∷ (b ∷ (c ∷ (d ∷ subs)))) n = refl

-- ---- so many parts, popped from the last one

none_left : (l : List Sub) → length l ≡ 0 → l ≡ []
none_left [] h = refl
none_left (s ∷ l) h = absurd (omega arith)

shorter : (l k : List Sub) (s : Sub) (n : ℕ) → l ≡ k ++ s ∷ [] → length l ≡ n + 1 → length k ≡ n
shorter l k s n e h = let q = ap (length {A = Sub}) e in let m = length-append k (s ∷ []) in omega arith

pub one_part : (l k : List Sub) (s : Sub) → l ≡ k ++ s ∷ [] → length l ≡ 1 → l ≡ s ∷ []
one_part l k s e h = e ∙ ap (λ (q : List Sub). q ++ s ∷ []) (none_left k (shorter l k s 0 e h))

pub two_parts : (l k m : List Sub) (t s : Sub) → l ≡ k ++ t ∷ [] → k ≡ m ++ s ∷ [] → length l ≡ 2 → l ≡ s ∷ (t ∷ [])
two_parts l k m t s e f h = e ∙ ap (λ (q : List Sub). q ++ t ∷ []) (one_part k m s f (shorter l k t 1 e h))

pub three_parts : (l k m n : List Sub) (u t s : Sub) → l ≡ k ++ u ∷ [] → k ≡ m ++ t ∷ [] → m ≡ n ++ s ∷ [] → length l ≡ 3 → l ≡ s ∷ (t ∷ (u ∷ []))
three_parts l k m n u t s e f g h = e ∙ ap (λ (q : List Sub). q ++ u ∷ []) (two_parts k m n t s f g (shorter l k u 2 e h))

pub popped : (l v w : List Sub) (o : Option Sub) (s : Sub) → v ≡ l → v ≡ w ++ option_to_list o → o ≡ Some s → l ≡ w ++ s ∷ []
popped l v w o s h e f = sym h ∙ (e ∙ ap (λ (q : Option Sub). w ++ option_to_list q) f)

-- ---- the calls

pub reduced_is : (r : Red) (x : List ℕ) (l : List Sub) (s : Sub) (e : Expr) (b : Box Expr Global) → l ≡ s ∷ [] → expression_of e ≡ argument_of (subscript_of s) → b.value ≡ e
    → expression_of (exprs.Reduce r b) ≡ called_held (Some (intrinsics.Reduction r)) x (map subscript_of l)
reduced_is r x l s e b h k v =
    expression_of-reduce r b
    ∙ (ap (tree.Reduce r) (ap expression_of v ∙ k) ∙ ap (λ (q : List Sub). called_held (Some (intrinsics.Reduction r)) x (map subscript_of q)) (sym h))

pub transposed_is : (x : List ℕ) (l : List Sub) (s : Sub) (e : Expr) (b : Box Expr Global) → l ≡ s ∷ [] → expression_of e ≡ argument_of (subscript_of s) → b.value ≡ e
    → expression_of (exprs.Transpose b) ≡ called_held (Some intrinsics.Transpose) x (map subscript_of l)
transposed_is x l s e b h k v =
    expression_of-transpose b
    ∙ (ap tree.Transpose (ap expression_of v ∙ k) ∙ ap (λ (q : List Sub). called_held (Some intrinsics.Transpose) x (map subscript_of q)) (sym h))

pub reshaped_is : (x : List ℕ) (l : List Sub) (s t : Sub) (e f : Expr) (b : Box Expr Global) (es : Seq Expr) → l ≡ s ∷ (t ∷ []) → expression_of e ≡ argument_of (subscript_of s) → b.value ≡ e
    → expression_of f ≡ argument_of (subscript_of t) → tree.expressions (map expression_of es) ≡ list_in (expression_of f)
    → expression_of (exprs.Reshape b es) ≡ called_held (Some intrinsics.Reshape) x (map subscript_of l)
reshaped_is x l s t e f b es h k v j w =
    expression_of-reshape b es
    ∙ (ap₂ tree.Reshape (ap expression_of v ∙ k) (w ∙ ap list_in j) ∙ ap (λ (q : List Sub). called_held (Some intrinsics.Reshape) x (map subscript_of q)) (sym h))

pub spread_is : (x : List ℕ) (l : List Sub) (s t u : Sub) (e f g : Expr) (a b : Box Expr Global) (d : ℕ) → l ≡ s ∷ (t ∷ (u ∷ []))
    → expression_of e ≡ argument_of (subscript_of s) → a.value ≡ e → expression_of f ≡ argument_of (subscript_of t) → d ≡ held_dimension (natural_in (expression_of f))
    → expression_of g ≡ argument_of (subscript_of u) → b.value ≡ g
    → expression_of (exprs.Spread a d b) ≡ called_held (Some intrinsics.Spread) x (map subscript_of l)
spread_is x l s t u e f g a b d h i v j w k y =
    expression_of-spread a d b
    ∙ (made (expression_of a.value) (argument_of (subscript_of s)) d (held_dimension (natural_in (argument_of (subscript_of t)))) (expression_of b.value) (argument_of (subscript_of u))
    (ap expression_of v ∙ i) (w ∙ ap (λ (z : Expression). held_dimension (natural_in z)) j) (ap expression_of y ∙ k)
    ∙ ap (λ (q : List Sub). called_held (Some intrinsics.Spread) x (map subscript_of q)) (sym h))
  where
    made : (p q : Expression) (m n : ℕ) (r z : Expression) → p ≡ q → m ≡ n → r ≡ z → tree.Spread p m r ≡ tree.Spread q n z
    made p q m n r z a b c = cc

pub elemental_is : (f : Fun) (x : List ℕ) (l : List Sub) (es : Seq Expr) → map expression_of es ≡ arguments90_of (map subscript_of l)
    → expression_of (exprs.Call f es) ≡ called_held (Some (intrinsics.Elemental f)) x (map subscript_of l)
elemental_is f x l es h = expression_of-call f es ∙ ap (λ (q : List Expression). tree.Apply f (tree.expressions q)) h
