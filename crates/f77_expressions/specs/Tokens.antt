-- The words that the code holds, as words of the grammar.
use Rattle.f77_grammar.specs.expressions.Words as words
use Rattle.f77_grammar.specs.expressions.Words.{Word77}
use Rattle.f77_expressions.specs.declared.tokens.Token.{Token}
use Rattle.f77_expressions.specs.declared.tokens.Token.TheVariants.{Number, Wide, Truth, Name, Head, Operator, Open}
use Rattle.f77_expressions.specs.declared.tokens.Token.TheVariants.{Close, Comma, Equals, Colon, Constant}

abbrev pub word_of : Token → Word77
word_of (Number n) = words.Number n
word_of Wide = words.Wide
word_of (Truth b) = words.Truth b
word_of (Name x) = words.Name x
word_of (Head x) = words.Head x
word_of (Operator o) = words.Operator o
word_of Open = words.Open
word_of Close = words.Close
word_of Comma = words.Comma
word_of Equals = words.Equals
word_of Colon = words.Colon
word_of (Constant t) = words.Constant t
