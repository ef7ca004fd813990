-- The words of a statement's characters are those of its symbols.
use Rattle.std.proofs.Common.{◌≡◌, ℕ, List, sym, ap, subst, ◌∙◌, Some, None, Ok, Err, Result}
use Rattle.std.specs.Prelude.{IfOk, Option}
use Rattle.f90_grammar.specs.Words.{Word90, Symbol90, AreWords90, HasWords}
use Rattle.f90_expressions.specs.declared.words.symbols.Symbol as code
use Rattle.reading.specs.declared.stops.Stop.{Stop}
use Rattle.reading.specs.declared.stops.Stop.TheVariants.{Syntax, Memory}
use Rattle.f90_expressions.specs.declared.words.tokens.Token.{Token}
use Rattle.f90_expressions.specs.words.Fronts.{GivesWords}
use Rattle.f90_expressions.specs.words.Scanning.{scan, Out}
use Rattle.f90_expressions.specs.words.Symbols.{symbols_of, EndsScan}
use Rattle.f90_expressions.specs.words.Tokens.{words_of}
use Rattle.f90_expressions.proofs.OfWords.ScanningLaws.{symbols_found, symbols_only}

none_some : {P : Type 0} (ss : List Symbol90) (o : Option (List Symbol90)) → o ≡ None → o ≡ Some ss → P
none_some ss o e f = absurd (cc)

the_same : (ss ts : List Symbol90) → Some ss ≡ Some ts → ss ≡ ts
the_same ss ts e = cc

pub no_symbols : (e : Stop) (chars : List ℕ) (ws : List Word90) → EndsScan (Err e) (scan chars Out) → HasWords chars ws → GivesWords (Err e) ws
no_symbols Syntax chars ws f h = none_some h.0 (scan chars Out) f (symbols_only h.1)
no_symbols Memory chars ws f h = tt

pub words_found : (chars : List ℕ) (items slice : List code.Symbol) (r : Result (List Token) Stop) → scan chars Out ≡ Some (symbols_of items) → slice ≡ items
    → IfOk r (λ (tokens : List Token). AreWords90 (symbols_of slice) (words_of tokens)) → IfOk r (λ (tokens : List Token). HasWords chars (words_of tokens))
words_found chars items slice (Ok tokens) e f h =
    (symbols_of items, symbols_found chars (symbols_of items) e, subst (λ (us : List code.Symbol). AreWords90 (symbols_of us) (words_of tokens)) f h)
words_found chars items slice (Err stop) e f h = tt

pub words_only : (chars : List ℕ) (items slice : List code.Symbol) (ws : List Word90) → scan chars Out ≡ Some (symbols_of items) → slice ≡ items
    → HasWords chars ws → AreWords90 (symbols_of slice) ws
words_only chars items slice ws e f h =
    let k : h.0 ≡ symbols_of items = the_same h.0 (symbols_of items) (sym (symbols_only h.1) ∙ e) in
    subst (λ (ss : List Symbol90). AreWords90 ss ws) (k ∙ ap symbols_of (sym f)) h.2
