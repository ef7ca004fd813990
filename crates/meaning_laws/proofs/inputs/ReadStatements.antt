-- The words that a READ takes.
use Rattle.std.proofs.Common.{◌≡◌, refl, sym, ap, ◌∙◌, subst, ℕ, true, false, List, ◌++◌, Ok}
use Rattle.meaning.specs.Run.{State, Act, Going, while_going, begins_line, is_empty, takes_word}
use Rattle.meaning.specs.Texts.{from_value, first_word, after_word}
use Rattle.meaning_laws.specs.inputs.ReadStatements.{FirstWordOfRead, ReadTakesWord}
use Rattle.meaning_laws.proofs.inputs.Words.{next_word_is_separated, word_is_whole, begins}

abbrev ready : State → State
ready s = record s { way = Going }

-- what holds of a moment that goes on
going_on : (P : State → Type 0) (s : State) → s.way ≡ Going → P (ready s) → P s
going_on P s e h = subst P (λ i. let t : State = record s { way = sym e i } in t) h

begun : (line : ℕ) (s : State) → is_empty s.input ≡ false → begins_line line (ready s) ≡ record s { had_value = false; way = Going }
unfolding while_going begins_line
begun line s e = rw e refl

pub first_word_of_read : FirstWordOfRead
first_word_of_read line s going e = going_on (λ t. is_empty t.input ≡ false → begins_line line t ≡ record t { had_value = false }) s going (begun line s) e

taken : (line : ℕ) (k : List ℕ → Act) (s : State) (rest : List ℕ) → from_value s.had_value s.input ≡ Ok rest → takes_word line k (ready s) ≡ k (first_word rest) (record s { input = after_word rest; had_value = true; way = Going })
unfolding while_going takes_word
taken line k s rest e = rw e refl

pub read_takes_word : ReadTakesWord
read_takes_word line k s before word more going text separated w ends =
    going_on (λ t. from_value t.had_value t.input ≡ Ok (word ++ more) → takes_word line k t ≡ k word (record t { input = more; had_value = true })) s going
    (λ e. taken line k s (word ++ more) e ∙ (let parts = word_is_whole word more w ends in ap (λ u. k u (record s { input = after_word (word ++ more); had_value = true; way = Going })) parts.0 ∙ ap (λ i. k word (record s { input = i; had_value = true; way = Going })) parts.1))
    ((next_word_is_separated s.had_value s.input (word ++ more)).1 (before, text, separated, begins word more w))
