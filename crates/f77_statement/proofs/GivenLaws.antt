-- What is given or not, where a function gives up.
use Rattle.std.proofs.Common.{◌≡◌, List, [], ◌∷◌, length, ap, refl, arith, Err}
use Rattle.std.proofs.lemmas.List.{length-map}
use Rattle.f77_grammar.specs.expressions.Words.{Word77}
use Rattle.reading.specs.declared.stops.Stop.{Stop}
use Rattle.reading.specs.declared.stops.Stop.TheVariants.{Syntax, Memory}
use Rattle.f77_expressions.specs.declared.tokens.Token.{Token}
use Rattle.f77_expressions.specs.Fronts.{GivesWords}
use Rattle.f77_expressions.specs.Tokens.{word_of}
use Rattle.f77_expressions.specs.Views.{words_of}
use Rattle.f77_statement.specs.Parts.{Given}

-- who gives up says nothing of what is made
pub given_err : {A B : Type 0} (P : A → Type 0) (Q : B → Type 0) (e : Stop) → Given (Err e) P → Given (Err e) Q
given_err P Q Syntax h = h
given_err P Q Memory h = tt

pub words_err : {B : Type 0} (Q : B → Type 0) (e : Stop) (ws : List Word77) → GivesWords (Err e) ws → Given (Err e) Q
words_err Q Syntax ws h = h
words_err Q Memory ws h = tt

-- no token is left
pub nothing_left : (tokens : List Token) → length tokens ≡ 0 → words_of tokens ≡ []
nothing_left [] h = refl
nothing_left (t ∷ ts) h = absurd (some_left t ts h) where
  some_left : (t : Token) (ts : List Token) → length (t ∷ ts) ≡ 0 → ⊥
  some_left t ts h = omega arith

pub none_left : (tokens : List Token) → words_of tokens ≡ [] → length tokens ≡ 0
none_left tokens e =
    let k : length (words_of tokens) ≡ 0 = ap length e in
    omega (arith, length-map tokens word_of)
