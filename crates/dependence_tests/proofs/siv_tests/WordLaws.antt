-- The name of a test, and its class; and what a constant trip decides.
use Rattle.std.proofs.Common.{◌≡◌, subst, false, IsTrue, inl, inr}
use Rattle.std.specs.Prelude.{ℤ}
use Rattle.subscripts.specs.Classes.{Loop, HasOneLoop, first_of, second_of, span_of}
use Rattle.subscripts.specs.Refutations.{IsExact, IsRefutedByGcd, IsOneSided}
use Rattle.subscripts.specs.declared.affine.Dirs.{Dirs}
use Rattle.subscripts.specs.declared.affine.Span.{Span}
use Rattle.subscripts.specs.declared.pairing.Pairing.{Pairing}
use Rattle.subscripts.specs.declared.verdict.Test.{Test}
use Rattle.subscripts.specs.declared.verdict.Test.TheVariants.{Trip, Scalar, Ziv, Strong, WeakZero, Crossing, Siv, Delta, Gcd, Range, Miv, Unknown}
use Rattle.dependence_tests.specs.siv_tests.Ways.{IsRefuted}
use Rattle.dependence_tests.specs.siv_tests.Words.{IsSivWord, IsWordOf}

own_word : (p : Pairing) (l : Loop) (t : Test) → HasOneLoop p l → IsSivWord (first_of p l) (second_of p l) t → IsWordOf p t
own_word p l Strong h w = (l, (h, w))
own_word p l WeakZero h w = (l, (h, w))
own_word p l Crossing h w = (l, (h, w))
own_word p l Siv h w = (l, (h, w))
own_word p l Trip h w = absurd w
own_word p l Scalar h w = absurd w
own_word p l Ziv h w = absurd w
own_word p l Delta h w = absurd w
own_word p l Gcd h w = absurd w
own_word p l Range h w = absurd w
own_word p l Miv h w = absurd w
own_word p l Unknown h w = absurd w

pub word_from : (p : Pairing) (l : Loop) (t : Test) (a b : ℤ) → HasOneLoop p l → a ≡ first_of p l → b ≡ second_of p l → IsSivWord a b t → IsWordOf p t
word_from p l t a b h ea eb w =
    own_word p l t h (subst (λ (z : ℤ). IsSivWord (first_of p l) z t) eb (subst (λ (z : ℤ). IsSivWord z b t) ea w))

-- the one loop's trip isn't a constant
pub not_exact : (p : Pairing) (l : Loop) (s : Span) → HasOneLoop p l → s ≡ span_of p l → s.fixed ≡ false → IsExact p → ⊥
not_exact p l s h e f x =
    let same : x.0 ≡ l = h.alone x.0 x.1.0.matters in
    let fixed : IsTrue (span_of p l).fixed = subst (λ (z : Loop). IsTrue (span_of p z).fixed) same x.1.1 in
    let free : (span_of p l).fixed ≡ false = subst (λ (z : Span). z.fixed ≡ false) e f in
    cc

pub is_exact : (p : Pairing) (l : Loop) (s : Span) → HasOneLoop p l → s ≡ span_of p l → IsTrue s.fixed → IsExact p
is_exact p l s h e f = (l, (h, subst (λ (z : Span). IsTrue z.fixed) e f))

pub not_refuted : (p : Pairing) (d : Dirs) → (IsExact p → ⊥) → (IsRefutedByGcd p → ⊥) → (IsOneSided p d → ⊥) → IsRefuted p d → ⊥
not_refuted p d x g s r = elim r [ inl a ↦ g a | inr b ↦ elim b [ inl u ↦ s u | inr v ↦ x v.0 ] ]
