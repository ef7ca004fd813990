-- The words of a text, one after the other.
use Rattle.std.proofs.Common.{arith, ◌≡◌, ℕ, List, [], ◌∷◌, ◌++◌, refl, ap, sym, ◌∙◌, subst, append_assoc, append-nil, ◌<◌, length, length-append, true, false}
use Rattle.std.specs.Prelude.{Some, None, Err}
use Rattle.std.proofs.lemmas.List.{map_push, length-map, nil_from_length}
use Rattle.f77_grammar.specs.expressions.Squeezing.{Symbol77, Char}
use Rattle.f77_grammar.specs.expressions.Spelling.{AreWords77, Spelled77, SpelledBy77, IsName77}
use Rattle.f77_grammar.specs.expressions.Words.{Word77, Number, Wide, Truth, Name, Head, Operator, Open, Close, Comma, Equals, Colon, Constant}
use Rattle.tree.specs.declared.ops.Op.TheVariants.{Neg}
use Rattle.f77_expressions.specs.declared.tokens.Token.{Token}
use Rattle.f77_expressions.specs.Lexing.{Front, word}
use Rattle.f77_expressions.specs.declared.symbols.Symbol as code
use Rattle.f77_expressions.specs.Symbols.{symbol_of, symbols_of}
use Rattle.reading.specs.declared.stops.Stop.{Stop}
use Rattle.reading.specs.declared.stops.Stop.TheVariants.{Syntax, Memory}
use Rattle.f77_expressions.specs.Fronts.{FrontResult, GivesWords}
use Rattle.f77_expressions.specs.Tokens.{word_of}
use Rattle.f77_expressions.specs.Views.{words_of}
use Rattle.f77_expressions.proofs.LexingLaws.{begun, is_word}

-- the rest of some words
pub record Remains (done ws : List Word77) (rest : List Symbol77) : Type 0 where
  pub later : List Word77
  pub same : ws ≡ done ++ later
  pub words : AreWords77 rest later

-- the text has these words and then those of the rest, and no others
pub record HasRead (text : List Symbol77) (done : List Word77) (rest : List Symbol77) : Type 0 where
  pub on : (later : List Word77) → AreWords77 rest later → AreWords77 text (done ++ later)
  pub only : (ws : List Word77) → AreWords77 text ws → Remains done ws rest

pub has_none : (text : List Symbol77) → HasRead text [] text
has_none text = record { on = λ later h. h; only = λ ws h. record { later = ws; same = refl; words = h } }

the_same : (v w : Front) → Some v ≡ Some w → v ≡ w
the_same v w e = cc

none_some : {P : Type 0} (w : Front) → None ≡ Some w → P
none_some w e = cc

no_word : (rest : List Symbol77) (w : Front) → rest ≡ [] → word rest ≡ Some w → ⊥
no_word rest w e h = none_some w (ap word (sym e) ∙ h)

-- the words of a rest whose first word is known
next : (done : List Word77) (rest tail : List Symbol77) (w : Word77) (ws later : List Word77) → word rest ≡ Some (record { word = w; rest = tail })
    → ws ≡ done ++ later → AreWords77 rest later → Remains (done ++ w ∷ []) ws tail
next done rest tail w ws [] f e h = absurd (no_word rest _ h f)
next done rest tail w ws (v ∷ vs) f e h =
    let q = the_same _ _ (sym (begun rest v h.0 h.1) ∙ f) in
    let k : v ≡ w = ap (λ (x : Front). x.word) q in
    let r : h.0 ≡ tail = ap (λ (x : Front). x.rest) q in
    record {
      later = vs;
      same = e ∙ (ap (λ (x : Word77). done ++ x ∷ vs) k ∙ sym (append_assoc done (w ∷ []) vs));
      words = subst (λ (x : List Symbol77). AreWords77 x vs) r h.2;
    }

pub has_more : (text : List Symbol77) (done : List Word77) (rest tail : List Symbol77) (w : Word77) → HasRead text done rest → word rest ≡ Some (record { word = w; rest = tail })
    → HasRead text (done ++ w ∷ []) tail
has_more text done rest tail w h f = record {
  on = λ later k. subst (AreWords77 text) (sym (append_assoc done (w ∷ []) later)) (h.on (w ∷ later) (tail, is_word rest _ f, k));
  only = λ ws k. let r = h.only ws k in next done rest tail w ws r.later f r.same r.words;
}

pub has_token : (text : List Symbol77) (tokens : List Token) (rest tail : List Symbol77) (t : Token) → HasRead text (words_of tokens) rest → word rest ≡ Some (record { word = word_of t; rest = tail })
    → HasRead text (words_of (tokens ++ t ∷ [])) tail
has_token text tokens rest tail t h f = subst (λ (q : List Word77). HasRead text q tail) (sym (map_push word_of tokens t)) (has_more text (words_of tokens) rest tail (word_of t) h f)

pub has_all : (text : List Symbol77) (done : List Word77) (rest : List Symbol77) → rest ≡ [] → HasRead text done rest → AreWords77 text done
has_all text done rest e h = subst (AreWords77 text) (append-nil done) (h.on [] e)

ended : (done ws later : List Word77) (rest : List Symbol77) → rest ≡ [] → ws ≡ done ++ later → AreWords77 rest later → done ≡ ws
ended done ws [] rest e s h = sym (append-nil done) ∙ sym s
ended done ws (v ∷ vs) rest e s h = absurd (no_word rest _ e (begun rest v h.0 h.1))

pub has_only : (text : List Symbol77) (done : List Word77) (rest : List Symbol77) (ws : List Word77) → rest ≡ [] → HasRead text done rest → AreWords77 text ws → done ≡ ws
has_only text done rest ws e h k = let r = h.only ws k in ended done ws r.later rest e r.same r.words

stuck : (rest : List Symbol77) (later : List Word77) → (rest ≡ [] → ⊥) → word rest ≡ None → AreWords77 rest later → ⊥
stuck rest [] n f h = n h
stuck rest (v ∷ vs) n f h = none_some _ (sym f ∙ begun rest v h.0 h.1)

pub has_no_word : (text : List Symbol77) (done : List Word77) (rest : List Symbol77) (ws : List Word77) → (rest ≡ [] → ⊥) → HasRead text done rest → word rest ≡ None → AreWords77 text ws → ⊥
has_no_word text done rest ws n h f k = let r = h.only ws k in stuck rest r.later n f r.words

pub ruleset wording = (has_none, has_token)

-- ---- a word has some characters

some_chars : (w : Word77) (cs : List ℕ) → Spelled77 w cs → 0 < length cs
some_chars (Number n) [] h = absurd h.0
some_chars Wide [] h = absurd h.0
some_chars (Truth true) [] h = cc
some_chars (Truth false) [] h = cc
some_chars (Name x) [] h = let e : x ≡ [] = sym h.0 in absurd (subst IsName77 e h.1)
some_chars (Head []) [] h = absurd h.1
some_chars (Head (c ∷ x)) [] h = cc
some_chars (Operator Neg) [] h = absurd h
some_chars (Operator o) [] h = cc
some_chars Open [] h = cc
some_chars Close [] h = cc
some_chars Comma [] h = cc
some_chars Equals [] h = cc
some_chars Colon [] h = cc
some_chars (Constant t) [] h = absurd h
some_chars w (c ∷ cs) h = omega arith

some_symbols : (w : Word77) (front : List Symbol77) → SpelledBy77 w front → 0 < length front
some_symbols (Constant t) front h = let e = ap length h in omega arith
some_symbols w front h = let e = ap length h.1 in let k = some_chars w h.0 h.2 in omega (arith, length-map h.0 Char)

pub shorter : (rest tail : List code.Symbol) (w : Word77) → word (symbols_of rest) ≡ Some (record { word = w; rest = symbols_of tail }) → length tail < length rest
shorter rest tail w e =
    let b = is_word (symbols_of rest) (record { word = w; rest = symbols_of tail }) e in
    let l = some_symbols w b.front b.spelled in
    let s = ap length b.same in
    omega (arith, length-append b.front (symbols_of tail), length-map rest symbol_of, length-map tail symbol_of)

-- ---- where no word is found

pub gives_error : (e : Stop) (text : List Symbol77) (done : List Word77) (rest : List Symbol77) (ws : List Word77) → (rest ≡ [] → ⊥) → HasRead text done rest
    → FrontResult (Err e) (word rest) → AreWords77 text ws → GivesWords (Err e) ws
gives_error Syntax text done rest ws n h f k = has_no_word text done rest ws n h f k
gives_error Memory text done rest ws n h f k = tt

pub no_symbols : (rest : List code.Symbol) → length rest ≡ 0 → symbols_of rest ≡ []
no_symbols rest e = ap symbols_of (nil_from_length rest e)

pub some_left : (rest : List code.Symbol) → 0 < length rest → symbols_of rest ≡ [] → ⊥
some_left rest l e = let k = ap length e in omega (arith, length-map rest symbol_of)
