-- Lines without comment lines fall into statements in one way.
use Rattle.std.proofs.Common.{◌≡◌, ℕ, List, [], ◌∷◌, ◌++◌, Bool, true, false, cond, refl, ap, sym, ◌∙◌, IsTrue}
use Rattle.std.specs.Prelude.{map, ◌&&◌, if◌then◌else◌}
use Rattle.std.specs.List.{list_all, flat_map}
use Rattle.std.proofs.lemmas.Bool.{and_parts, and_from, not-true, cond-true, cond-false, not_from_false}
use Rattle.std.proofs.lemmas.List.{append-nil}
use Rattle.f77_grammar.specs.Cards.{Line, StatementLines, PlainCard, AreCards, is_initial, is_continuation, is_statement, all_lines, card_in, statement_lines}

-- the continuation lines at the front
abbrev pub leading : List Line → List Line
leading [] = []
leading (l ∷ ls) = if is_initial l then [] else l ∷ leading ls

-- each initial line with the continuation lines right after it
abbrev pub grouped : List Line → List StatementLines
grouped [] = []
grouped (l ∷ ls) = if is_initial l then record { initial = l; continuations = leading ls } ∷ grouped ls else grouped ls

rejoined_by : (b : Bool) (l : Line) (ls : List Line) → ls ≡ leading ls ++ flat_map all_lines (grouped ls)
    → l ∷ ls ≡ cond b [] (l ∷ leading ls) ++ flat_map all_lines (cond b (record { initial = l; continuations = leading ls } ∷ grouped ls) (grouped ls))
rejoined_by true l ls e = ap (λ xs. l ∷ xs) e
rejoined_by false l ls e = ap (λ xs. l ∷ xs) e

pub rejoined : (ls : List Line) → ls ≡ leading ls ++ flat_map all_lines (grouped ls)
rejoined [] = refl
rejoined (l ∷ ls) = rejoined_by (is_initial l) l ls (rejoined ls)

all_leading_by : (b : Bool) (l : Line) (ls : List Line) → is_initial l ≡ b → IsTrue (list_all is_continuation ls) → IsTrue (list_all is_continuation (cond b [] (l ∷ ls)))
all_leading_by true l ls e h = refl
all_leading_by false l ls e h = and_from (is_continuation l) (list_all is_continuation ls) (not_from_false (is_initial l) e) h

pub all_leading : (ls : List Line) → IsTrue (list_all is_continuation (leading ls))
all_leading [] = refl
all_leading (l ∷ ls) = all_leading_by (is_initial l) l (leading ls) refl (all_leading ls)

grouped_each_by : (b : Bool) (l : Line) (ls : List Line) → is_initial l ≡ b → IsTrue (list_all is_statement (grouped ls))
    → IsTrue (list_all is_statement (cond b (record { initial = l; continuations = leading ls } ∷ grouped ls) (grouped ls)))
grouped_each_by true l ls e h =
    and_from (is_initial l && list_all is_continuation (leading ls)) (list_all is_statement (grouped ls))
    (and_from (is_initial l) (list_all is_continuation (leading ls)) e (all_leading ls)) h
grouped_each_by false l ls e h = h

pub grouped_each : (ls : List Line) → IsTrue (list_all is_statement (grouped ls))
grouped_each [] = refl
grouped_each (l ∷ ls) = grouped_each_by (is_initial l) l ls refl (grouped_each ls)

-- ---- at a first line of each kind

pub leading-initial : (l : Line) (ls : List Line) → IsTrue (is_initial l) → leading (l ∷ ls) ≡ []
leading-initial l ls e = cond-true (is_initial l) _ _ e

pub leading-continuation : (l : Line) (ls : List Line) → IsTrue (is_continuation l) → leading (l ∷ ls) ≡ l ∷ leading ls
leading-continuation l ls e = cond-false (is_initial l) _ _ (not-true (is_initial l) e)

pub grouped-initial : (l : Line) (ls : List Line) → IsTrue (is_initial l) → grouped (l ∷ ls) ≡ record { initial = l; continuations = leading ls } ∷ grouped ls
grouped-initial l ls e = cond-true (is_initial l) _ _ e

pub grouped-continuation : (l : Line) (ls : List Line) → IsTrue (is_continuation l) → grouped (l ∷ ls) ≡ grouped ls
grouped-continuation l ls e = cond-false (is_initial l) _ _ (not-true (is_initial l) e)

-- ---- statements one after another

leading-append : (cs ls : List Line) → IsTrue (list_all is_continuation cs) → leading (cs ++ ls) ≡ cs ++ leading ls
leading-append [] ls h = refl
leading-append (c ∷ cs) ls h =
    let p = and_parts (is_continuation c) (list_all is_continuation cs) h in
    leading-continuation c (cs ++ ls) p.0 ∙ ap (λ xs. c ∷ xs) (leading-append cs ls p.1)

grouped-append : (cs ls : List Line) → IsTrue (list_all is_continuation cs) → grouped (cs ++ ls) ≡ grouped ls
grouped-append [] ls h = refl
grouped-append (c ∷ cs) ls h =
    let p = and_parts (is_continuation c) (list_all is_continuation cs) h in
    grouped-continuation c (cs ++ ls) p.0 ∙ grouped-append cs ls p.1

pub leading-statements : (ss : List StatementLines) → IsTrue (list_all is_statement ss) → leading (flat_map all_lines ss) ≡ []
leading-statements [] h = refl
leading-statements (s ∷ ss) h =
    let p = and_parts (is_statement s) (list_all is_statement ss) h in
    let q = and_parts (is_initial s.initial) (list_all is_continuation s.continuations) p.0 in
    leading-initial s.initial (s.continuations ++ flat_map all_lines ss) q.0

pub grouped-statements : (ss : List StatementLines) → IsTrue (list_all is_statement ss) → grouped (flat_map all_lines ss) ≡ ss
grouped-statements [] h = refl
grouped-statements (s ∷ ss) h =
    let p = and_parts (is_statement s) (list_all is_statement ss) h in
    let q = and_parts (is_initial s.initial) (list_all is_continuation s.continuations) p.0 in
    let rest = flat_map all_lines ss in
    let none = leading-append s.continuations rest q.1 ∙ ap (λ ls. s.continuations ++ ls) (leading-statements ss p.1) ∙ append-nil s.continuations in
    let more = grouped-append s.continuations rest q.1 ∙ grouped-statements ss p.1 in
    grouped-initial s.initial (s.continuations ++ rest) q.0
    ∙ ap (λ ls. record { initial = s.initial; continuations = ls } ∷ grouped (s.continuations ++ rest)) none
    ∙ ap (λ (gs : List StatementLines). s ∷ gs) more

-- ---- the cards of a source

pub cards_are_grouped : (text : List ℕ) (cards : List PlainCard) → AreCards text cards → cards ≡ map card_in (grouped (statement_lines text))
cards_are_grouped text cards h = h.cards_are ∙ ap (map card_in) (sym (grouped-statements h.statements h.each) ∙ ap grouped (sym h.in_order))

pub no_leading : (text : List ℕ) (cards : List PlainCard) → AreCards text cards → leading (statement_lines text) ≡ []
no_leading text cards h = ap leading h.in_order ∙ leading-statements h.statements h.each

pub one_reading : (text : List ℕ) (a b : List PlainCard) → AreCards text a → AreCards text b → a ≡ b
one_reading text a b h k = cards_are_grouped text a h ∙ sym (cards_are_grouped text b k)

pub AreCards-grouped : (text : List ℕ) → leading (statement_lines text) ≡ [] → AreCards text (map card_in (grouped (statement_lines text)))
AreCards-grouped text none = record {
  statements = grouped (statement_lines text);
  each = grouped_each (statement_lines text);
  in_order = rejoined (statement_lines text) ∙ ap (λ ls. ls ++ flat_map all_lines (grouped (statement_lines text))) none;
  cards_are = refl;
}
