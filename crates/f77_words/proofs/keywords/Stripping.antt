-- Characters at the front of a text.
use Rattle.std.proofs.Common.{◌≡◌, ℕ, true, List, [], ◌∷◌, ◌++◌, refl, ap, ◌∙◌, arith}
use Rattle.std.specs.Prelude.{Some, None, ◌==◌}
use Rattle.std.proofs.lemmas.Bool.{cond_both, eqb-true}
use Rattle.std.proofs.lemmas.Bool.Decides.{nat_tests}
use Rattle.f77_grammar.specs.expressions.Squeezing.{Symbol77, Char}
use Rattle.f77_grammar.specs.expressions.Spelling.{chars77}
use Rattle.f77_expressions.specs.Lexing.{strip}

pub strip_same : (w : List ℕ) (text rest : List Symbol77) → strip w text ≡ Some rest → text ≡ chars77 w ++ rest
strip_same [] text rest e = cc
strip_same (w ∷ ws) [] rest e = cc
strip_same (w ∷ ws) (Char c ∷ ss) rest e =
    cond_both (w == c) (strip ws ss) None (λ o. o ≡ Some rest → Char c ∷ ss ≡ Char w ∷ (chars77 ws ++ rest))
    (λ k f. let m : w ≡ c = eqb-true w c k in let n = strip_same ws ss rest f in cc)
    (λ k f. cc) e
strip_same (w ∷ ws) (t ∷ ss) rest e = cc

same_test : (w : ℕ) → (w == w) ≡ true
same_test w = grind (arith, nat_tests)

pub strip_front : (w : List ℕ) (rest : List Symbol77) → strip w (chars77 w ++ rest) ≡ Some rest
strip_front [] rest = refl
strip_front (w ∷ ws) rest = rw (same_test w) (strip_front ws rest)

pub stripped : (w : List ℕ) (text rest : List Symbol77) → text ≡ chars77 w ++ rest → strip w text ≡ Some rest
stripped w text rest e = ap (strip w) e ∙ strip_front w rest
