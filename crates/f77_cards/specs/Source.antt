-- A line and a cause of the code, as the definitions have them.
use Rattle.f77_cards.specs.declared.source.Line.{Line as SourceLine}
use Rattle.f77_cards.specs.declared.refusals.LineCause.{LineCause}
use Rattle.f77_cards.specs.declared.refusals.LineCause.TheVariants as source
use Rattle.f77_grammar.specs.Cards.{Line}
use Rattle.f77_grammar.specs.Cards as cards
use Rattle.f77_grammar.specs.Cards.LineCause.{BadByte, Tab, LineForm, ManyLines}

abbrev pub line_of : SourceLine → Line
line_of l = record { number = l.number; columns = l.columns }

abbrev pub cause_of : LineCause → cards.LineCause
cause_of source.BadByte = BadByte
cause_of source.Tab = Tab
cause_of source.LineForm = LineForm
cause_of source.ManyLines = ManyLines
