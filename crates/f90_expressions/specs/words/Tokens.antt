-- The words that the code holds, as words of the grammar.
use Rattle.std.specs.Prelude.{List, map}
use Rattle.f90_grammar.specs.Words as words
use Rattle.f90_grammar.specs.Words.{Word90}
use Rattle.f90_expressions.specs.declared.words.tokens.Token.{Token}
use Rattle.f90_expressions.specs.declared.words.tokens.Token.TheVariants.{Digits, Truth, Name, Head, Operator, Open}
use Rattle.f90_expressions.specs.declared.words.tokens.Token.TheVariants.{Close}
use Rattle.f90_expressions.specs.declared.words.tokens.Token.TheVariants.{OpenList, CloseList, Comma, Equals, Colon}
use Rattle.f90_expressions.specs.declared.words.tokens.Token.TheVariants.{Colons, Constant}

abbrev pub word_of : Token → Word90
word_of (Digits t) = words.Digits t
word_of (Truth b) = words.Truth b
word_of (Name x) = words.Name x
word_of (Head x) = words.Head x
word_of (Operator o) = words.Operator o
word_of Open = words.Open
word_of Close = words.Close
word_of OpenList = words.OpenList
word_of CloseList = words.CloseList
word_of Comma = words.Comma
word_of Equals = words.Equals
word_of Colon = words.Colon
word_of Colons = words.Colons
word_of (Constant t) = words.Constant t

abbrev pub words_of : List Token → List Word90
words_of tokens = map word_of tokens
