-- No words are those of two expressions.
use Rattle.std.proofs.Common.{◌≡◌, ℕ, List, [], ◌∷◌, ◌++◌, refl, sym, ap, ◌∙◌, Option, Some, None, arith}
use Rattle.f90_grammar.specs.Words.{Word90}
use Rattle.f90_grammar.specs.Words as words
use Rattle.f90_grammar.specs.Phrases.{Phrase90, phrase_level90, written90, IsExpression90}
use Rattle.f90_laws.specs.unique.Unique.{EndsExpression, OnePhrase}
use Rattle.f90_laws.proofs.unique.Machine.{Wants, Has, Read, run}
use Rattle.f90_laws.proofs.unique.Complete.{Follows, reads}

ends_follow : (n : ℕ) (r : List Word90) → EndsExpression r → Follows n r
ends_follow n [] h = tt
ends_follow n (words.Operator o ∷ ws) h = λ j. absurd (cc)
ends_follow n (w ∷ ws) h = tt

abbrev answer : Phrase90 → List Word90 → Option Read
answer p r = Some (record { phrase = p; rest = r })

stops : (p : Phrase90) (r : List Word90) → EndsExpression r → run r (Has [] p) ≡ answer p r
stops p [] h = refl
stops p (words.Operator o ∷ ws) h = rw h refl
stops p (w ∷ ws) h = refl

is_read : (p : Phrase90) (r : List Word90) → IsExpression90 p → EndsExpression r → run (written90 p ++ r) (Wants []) ≡ answer p r
is_read p r h e = reads p [] r h (omega arith) (ends_follow (phrase_level90 p) r e) ∙ stops p r e

abbrev phrase_in : Phrase90 → Option Read → Phrase90
phrase_in p None = p
phrase_in p (Some a) = a.phrase

abbrev rest_in : List Word90 → Option Read → List Word90
rest_in r None = r
rest_in r (Some a) = a.rest

same_answer : (p q : Phrase90) (r s : List Word90) → answer p r ≡ answer q s → (p ≡ q) × (r ≡ s)
same_answer p q r s e = (ap (phrase_in p) e, ap (rest_in r) e)

pub one_phrase : OnePhrase
one_phrase p q r s h k a b e = same_answer p q r s
    (sym (is_read p r h a) ∙ rw e (is_read q s k b))
