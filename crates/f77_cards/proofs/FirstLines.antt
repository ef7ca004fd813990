-- Where the first line of a text ends.
use Rattle.std.proofs.Common.{arith, ◌≡◌, ℕ, ◌+◌, ◌<◌, ◌≤◌, List, [], ◌∷◌, ◌++◌, length, get_or, take, drop, Bool, true, false, cond, refl, ap, sym, ◌∙◌, None, Some}
use Rattle.std.specs.Prelude.{position, not, nat_lt}
use Rattle.std.specs.List.{position_or_len}
use Rattle.std.specs.Str.Lines.{lines, strip_carriage_return}
use Rattle.std.proofs.lemmas.Bool.{eqb-true, ltb-false, not-true}
use Rattle.std.proofs.lemmas.List.{take-append-drop, drop_more, get_or-take, length-take-le}
use Rattle.std.proofs.lemmas.List.Quantifiers.{position-Some}
use Rattle.std.proofs.lemmas.List.Sums.{prefix_len_passes}
use Rattle.f77_grammar.proofs.FirstLine.{is_feed, LacksFeed, lines-feed, lines-last, lines-none}

LacksFeed-before : (text : List ℕ) (i : ℕ) → position is_feed text ≡ Some i → LacksFeed (take i text)
LacksFeed-before text i e = λ k d h.
    let p = position-Some is_feed text i d e in
    let below : k < i = omega (arith, h, length-take-le i text (omega (arith, p.0))) in
    ap is_feed (get_or-take i text k d below) ∙ p.2 k below

split_at_feed : (text : List ℕ) (i : ℕ) → position is_feed text ≡ Some i → text ≡ take i text ++ 10 ∷ drop (i + 1) text
split_at_feed text i e =
    let p = position-Some is_feed text i 0 e in
    sym (take-append-drop i text) ∙ ap (λ xs. take i text ++ xs) (drop_more text i 0 p.0 ∙ ap (λ x. x ∷ drop (i + 1) text) (eqb-true (get_or text i 0) 10 p.1))

LacksFeed-none_by : (b : Bool) (text : List ℕ) → nat_lt (position_or_len is_feed text) (length text) ≡ b → cond b (Some (position_or_len is_feed text)) None ≡ None → LacksFeed text
LacksFeed-none_by true text w e = cc
LacksFeed-none_by false text w e =
    let long : length text ≤ position_or_len is_feed text = ltb-false (position_or_len is_feed text) (length text) w in
    λ k d h. not-true (is_feed (get_or text k d)) (prefix_len_passes (λ x. not (is_feed x)) text k d (omega (arith, h, long)))

LacksFeed-none : (text : List ℕ) → position is_feed text ≡ None → LacksFeed text
LacksFeed-none text e = LacksFeed-none_by (nat_lt (position_or_len is_feed text) (length text)) text refl e

pub lines_at_feed : (text rest line : List ℕ) (i : ℕ) → position is_feed text ≡ Some i → line ≡ strip_carriage_return (take i text) → rest ≡ drop (i + 1) text → lines text ≡ line ∷ lines rest
lines_at_feed text rest line i e l r =
    ap lines (split_at_feed text i e) ∙ lines-feed (take i text) (drop (i + 1) text) (LacksFeed-before text i e)
    ∙ ap (λ x. x ∷ lines (drop (i + 1) text)) (sym l) ∙ ap (λ x. line ∷ lines x) (sym r)

pub whole_line : (text rest : List ℕ) → 0 < length text → position is_feed text ≡ None → rest ≡ [] → lines text ≡ text ∷ lines rest
whole_line text rest h e r = lines-last text h (LacksFeed-none text e) ∙ ap (λ ls. text ∷ ls) (sym (ap lines r ∙ lines-none))
