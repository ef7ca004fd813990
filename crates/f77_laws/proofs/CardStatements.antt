-- The statements that the cards of a source are read as are source statements, and few enough for a program.
use Rattle.std.proofs.Common.{ℕ, ◌+◌, ◌^◌, ◌<◌, List, [], ◌∷◌, Option, None, Some, sym, subst, arith}
use Rattle.std.specs.Option.{IfSome}
use Rattle.std.specs.List.{AllByRecursion}
use Rattle.f77_grammar.specs.Cards.{PlainCard}
use Rattle.f77_grammar.specs.Statement77.{Statement77, Labelled, EndDo}
use Rattle.f77_laws.specs.Source.{IsSourceLabel, IsLabelOf, IsSourceCard, AreRising}
use Rattle.f77_laws.proofs.LoopLabels.{labelled_rise, labelled_length, labelled_cards}
use Rattle.f77_laws.proofs.RisingLines.{rising_lines_are_few}
use Rattle.f77_laws.specs.SourceCards.{IsCard, AreRisingCards, ReadCardsAreSource}
use Rattle.f77_grammar.specs.Reading77.{IsReadFrom, AreReadFrom}
use Rattle.f77_laws.proofs.Cards.{read_source_has_cards}
use Rattle.f77_laws.proofs.Forms.{read_statement_is_source}

-- its label is one that can be written
written_label : (card : PlainCard) (x : Labelled) → IsCard card → IsReadFrom card x → IfSome x.label IsSourceLabel
written_label card x c h = subst (λ l. IfSome l IsSourceLabel) (sym h.label) c.label

label_of_its : (s : Statement77) (l : Option ℕ) → IfSome l IsSourceLabel → IfSome l (IsLabelOf s)
label_of_its EndDo None h = tt
label_of_its EndDo (Some n) h = omega (arith, h)
label_of_its s l h = h

source_card : (card : PlainCard) (x : Labelled) → IsCard card → IsReadFrom card x → IsSourceCard x
source_card card x c h = record {
  label = label_of_its x.statement x.label (written_label card x c h);
  line = (let a = c.first in let b = c.last in let e = h.line in (omega (arith, a, e), omega (arith, b, e)));
  statement = (read_statement_is_source card.chars x.statement c.characters h.reads).0;
}

-- of each statement, by its card
each_read : (P : PlainCard → Type 0) (Q : Labelled → Type 0) → ((card : PlainCard) (x : Labelled) → P card → IsReadFrom card x → Q x)
    → (cards : List PlainCard) (xs : List Labelled) → AllByRecursion P cards → AreReadFrom cards xs → AllByRecursion Q xs
each_read P Q f [] [] h r = tt
each_read P Q f [] (x ∷ xs) h r = absurd r
each_read P Q f (card ∷ cards) [] h r = absurd r
each_read P Q f (card ∷ cards) (x ∷ xs) h r = (f card x h.0 r.0, each_read P Q f cards xs h.1 r.1)

statements_rise : (cards : List PlainCard) (xs : List Labelled) → AreRisingCards cards → AreReadFrom cards xs → AreRising xs
statements_rise [] [] h r = tt
statements_rise [] (x ∷ xs) h r = absurd r
statements_rise (card ∷ cards) [] h r = absurd r
statements_rise (card ∷ cards) (x ∷ xs) h r = (
  each_read (λ (c : PlainCard). card.line < c.line) (λ (y : Labelled). x.line < y.line)
      (λ c y l k. let e = r.0.line in let g = k.line in omega (arith, l, e, g)) cards xs h.0 r.1,
  statements_rise cards xs h.1 r.1,
)

line_below : (card : PlainCard) (x : Labelled) → IsCard card → IsReadFrom card x → x.line < 2 ^ 20 + 1
line_below card x c h = let b = c.last in let e = h.line in omega (arith, b, e)

pub read_cards_are_source : ReadCardsAreSource
read_cards_are_source text cards xs h r =
    let k = read_source_has_cards text cards h in
    let rise = statements_rise cards xs k.rising r in
    let few = rising_lines_are_few xs (2 ^ 20 + 1) rise (each_read IsCard (λ (x : Labelled). x.line < 2 ^ 20 + 1) line_below cards xs k.each r) in
    let each = each_read IsCard IsSourceCard source_card cards xs k.each r in
    let labels = each_read IsCard (λ (x : Labelled). IfSome x.label IsSourceLabel) written_label cards xs k.each r in
    let same = labelled_length xs in record {
      written = record { statements = record { each = each; rising = rise }; few = omega (arith, few) };
      labels = labels;
      labelled = record {
        statements = record { each = labelled_cards xs each labels; rising = labelled_rise xs rise };
        few = omega (arith, few, same);
      };
    }
