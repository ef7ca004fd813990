-- The words of a text, one after the other.
use Rattle.std.proofs.Common.{arith, ◌≡◌, ℕ, List, [], ◌∷◌, ◌++◌, refl, ap, sym, ◌∙◌, subst, append_assoc, append-nil, ◌<◌, ◌≤◌, length, length-append, true, false, inl, inr}
use Rattle.std.specs.Prelude.{Some, None, Err}
use Rattle.std.proofs.lemmas.List.{map_push, length-map, nil_from_length}
use Rattle.f90_grammar.specs.Words.{Symbol90, Char, Gap, Text, AreWords90, AreGaps, SpelledBy90, Spelled90, IsName90, chars90}
use Rattle.reading.specs.Characters.{IsDigits}
use Rattle.f90_grammar.specs.Words.{Word90, Digits, Truth, Name, Head, Operator, Constant}
use Rattle.tree.specs.declared.ops.Op.TheVariants.{Neg}
use Rattle.f90_expressions.specs.declared.words.tokens.Token.{Token}
use Rattle.f90_expressions.specs.declared.words.symbols.Symbol as code
use Rattle.reading.specs.declared.stops.Stop.{Stop}
use Rattle.reading.specs.declared.stops.Stop.TheVariants.{Syntax, Memory}
use Rattle.f90_expressions.specs.words.Lexing.{Front, skip, word}
use Rattle.f90_expressions.specs.words.Symbols.{symbol_of, symbols_of}
use Rattle.f90_expressions.specs.words.Fronts.{FrontResult, GivesWords}
use Rattle.f90_expressions.specs.words.Tokens.{word_of, words_of}
use Rattle.f90_expressions.proofs.OfWords.LexingLaws.{begun, is_word}

-- ---- gaps

record Gapped (text : List Symbol90) : Type 0 where
  gaps : List Symbol90
  same : text ≡ gaps ++ skip text
  are_gaps : AreGaps gaps

gapped : (text : List Symbol90) → Gapped text
gapped [] = record { gaps = []; same = refl; are_gaps = tt }
gapped (Gap ∷ ss) = let r = gapped ss in record { gaps = Gap ∷ r.gaps; same = ap (λ (us : List Symbol90). Gap ∷ us) r.same; are_gaps = r.are_gaps }
gapped (Char c ∷ ss) = record { gaps = []; same = refl; are_gaps = tt }
gapped (Text t ∷ ss) = record { gaps = []; same = refl; are_gaps = tt }

gaps_both : (xs ys : List Symbol90) → AreGaps xs → AreGaps ys → AreGaps (xs ++ ys)
gaps_both [] ys h k = k
gaps_both (Gap ∷ xs) ys h k = gaps_both xs ys h k
gaps_both (Char c ∷ xs) ys h k = absurd h
gaps_both (Text t ∷ xs) ys h k = absurd h

skip_gaps : (text : List Symbol90) → AreGaps text → skip text ≡ []
skip_gaps [] h = refl
skip_gaps (Gap ∷ ss) h = skip_gaps ss h
skip_gaps (Char c ∷ ss) h = absurd h
skip_gaps (Text t ∷ ss) h = absurd h

pub skip_skip : (text : List Symbol90) → skip (skip text) ≡ skip text
skip_skip [] = refl
skip_skip (Gap ∷ ss) = skip_skip ss
skip_skip (Char c ∷ ss) = refl
skip_skip (Text t ∷ ss) = refl

skip_le : (text : List Symbol90) → length (skip text) ≤ length text
skip_le [] = omega arith
skip_le (Gap ∷ ss) = omega (arith, skip_le ss)
skip_le (Char c ∷ ss) = omega arith
skip_le (Text t ∷ ss) = omega arith

-- words of a text are those of the text without the gaps before them
unskipped : (text : List Symbol90) (ws : List Word90) → AreWords90 (skip text) ws → AreWords90 text ws
unskipped text [] h =
    let g = gapped text in subst AreGaps (sym g.same) (gaps_both g.gaps (skip text) g.are_gaps h)
unskipped text (w ∷ ws) h =
    let g = gapped text in
    let b = h.1 in (
      h.0,
      record {
        gaps = g.gaps ++ b.gaps;
        front = b.front;
        same = g.same ∙ (ap (λ (us : List Symbol90). g.gaps ++ us) b.same ∙ sym (append_assoc g.gaps b.gaps (b.front ++ h.0)));
        are_gaps = gaps_both g.gaps b.gaps g.are_gaps b.are_gaps;
        spelled = b.spelled;
        whole = b.whole;
      },
      h.2,
    )

now_skipped : (text : List Symbol90) (ws : List Word90) → AreWords90 text ws → AreWords90 (skip text) ws
now_skipped text [] h = subst AreGaps (sym (skip_gaps text h)) tt
now_skipped text (w ∷ ws) h = (h.0, is_word (skip text) (record { word = w; rest = h.0 }) (begun text w h.0 h.1), h.2)

-- ---- some words, and those of a rest

pub record Remains (done ws : List Word90) (rest : List Symbol90) : Type 0 where
  pub later : List Word90
  pub same : ws ≡ done ++ later
  pub words : AreWords90 rest later

-- the text has these words and then those of the rest, and no others
pub record HasRead (text : List Symbol90) (done : List Word90) (rest : List Symbol90) : Type 0 where
  pub on : (later : List Word90) → AreWords90 rest later → AreWords90 text (done ++ later)
  pub only : (ws : List Word90) → AreWords90 text ws → Remains done ws rest
  pub skipped : skip rest ≡ rest

skip_read : (text : List Symbol90) (done : List Word90) (rest : List Symbol90) → ((later : List Word90) → AreWords90 rest later → AreWords90 text (done ++ later))
    → ((ws : List Word90) → AreWords90 text ws → Remains done ws rest) → HasRead text done (skip rest)
skip_read text done rest on only = record {
  on = λ later h. on later (unskipped rest later h);
  only = λ ws h. let r = only ws h in record { later = r.later; same = r.same; words = now_skipped rest r.later r.words };
  skipped = skip_skip rest;
}

pub has_none : (text rest : List Symbol90) → rest ≡ skip text → HasRead text [] rest
has_none text rest e =
    subst (HasRead text []) (sym e) (skip_read text [] text (λ later h. h) (λ ws h. record { later = ws; same = refl; words = h }))

the_same : (v w : Front) → Some v ≡ Some w → v ≡ w
the_same v w e = cc

none_some : {P : Type 0} (w : Front) → None ≡ Some w → P
none_some w e = absurd (cc)

-- the words of a rest whose first word is known
next : (done : List Word90) (rest tail : List Symbol90) (w : Word90) (ws later : List Word90) → skip rest ≡ rest → word rest ≡ Some (record { word = w; rest = tail })
    → ws ≡ done ++ later → AreWords90 rest later → Remains (done ++ w ∷ []) ws tail
next done rest tail w ws [] k f e h =
    let n : rest ≡ [] = sym k ∙ skip_gaps rest h in
    none_some (record { word = w; rest = tail }) (ap word (sym n) ∙ f)
next done rest tail w ws (v ∷ vs) k f e h =
    let q = the_same _ _ (sym (begun rest v h.0 h.1) ∙ (ap word k ∙ f)) in
    let a : v ≡ w = ap (λ (x : Front). x.word) q in
    let r : h.0 ≡ tail = ap (λ (x : Front). x.rest) q in
    record {
      later = vs;
      same = e ∙ (ap (λ (x : Word90). done ++ x ∷ vs) a ∙ sym (append_assoc done (w ∷ []) vs));
      words = subst (λ (x : List Symbol90). AreWords90 x vs) r h.2;
    }

has_more : (text : List Symbol90) (done : List Word90) (rest tail : List Symbol90) (w : Word90) → HasRead text done rest → word rest ≡ Some (record { word = w; rest = tail })
    → HasRead text (done ++ w ∷ []) (skip tail)
has_more text done rest tail w h f =
    skip_read text (done ++ w ∷ []) tail
    (λ later k. subst (AreWords90 text) (sym (append_assoc done (w ∷ []) later)) (h.on (w ∷ later) (tail, is_word rest (record { word = w; rest = tail }) f, k)))
    (λ ws k. let r = h.only ws k in next done rest tail w ws r.later h.skipped f r.same r.words)

pub has_token : (text : List Symbol90) (tokens : List Token) (rest tail left : List Symbol90) (t : Token) → HasRead text (words_of tokens) rest
    → word rest ≡ Some (record { word = word_of t; rest = tail }) → left ≡ skip tail → HasRead text (words_of (tokens ++ t ∷ [])) left
has_token text tokens rest tail left t h f e =
    subst (HasRead text (words_of (tokens ++ t ∷ []))) (sym e)
    (subst (λ (q : List Word90). HasRead text q (skip tail)) (sym (map_push word_of tokens t)) (has_more text (words_of tokens) rest tail (word_of t) h f))

pub has_all : (text : List Symbol90) (done : List Word90) (rest : List Symbol90) → rest ≡ [] → HasRead text done rest → AreWords90 text done
has_all text done rest e h = subst (AreWords90 text) (append-nil done) (h.on [] (subst AreGaps (sym e) tt))

ended : (done ws later : List Word90) (rest : List Symbol90) → rest ≡ [] → ws ≡ done ++ later → AreWords90 rest later → done ≡ ws
ended done ws [] rest e s h = sym (append-nil done) ∙ sym s
ended done ws (v ∷ vs) rest e s h =
    none_some (record { word = v; rest = h.0 }) (ap (λ (us : List Symbol90). word (skip us)) (sym e) ∙ begun rest v h.0 h.1)

pub has_only : (text : List Symbol90) (done : List Word90) (rest : List Symbol90) (ws : List Word90) → rest ≡ [] → HasRead text done rest → AreWords90 text ws → done ≡ ws
has_only text done rest ws e h k = let r = h.only ws k in ended done ws r.later rest e r.same r.words

stuck : (rest : List Symbol90) (later : List Word90) → (rest ≡ [] → ⊥) → skip rest ≡ rest → word rest ≡ None → AreWords90 rest later → ⊥
stuck rest [] n k f h = n (sym k ∙ skip_gaps rest h)
stuck rest (v ∷ vs) n k f h = none_some (record { word = v; rest = h.0 }) (sym f ∙ (ap word (sym k) ∙ begun rest v h.0 h.1))

has_no_word : (text : List Symbol90) (done : List Word90) (rest : List Symbol90) (ws : List Word90) → (rest ≡ [] → ⊥) → HasRead text done rest → word rest ≡ None → AreWords90 text ws → ⊥
has_no_word text done rest ws n h f k = let r = h.only ws k in stuck rest r.later n h.skipped f r.words

pub ruleset wording = (has_none, has_token)

-- ---- a word has some characters

some_chars : (w : Word90) (cs : List ℕ) → Spelled90 w cs → 0 < length cs
some_chars (Digits t) [] h = let e : t ≡ [] = sym h.0 in absurd (subst IsDigits e h.1)
some_chars (Truth true) [] h = absurd (cc)
some_chars (Truth false) [] h = absurd (cc)
some_chars (Name x) [] h = let e : x ≡ [] = sym h.0 in absurd (subst IsName90 e h.1)
some_chars (Head x) [] h = absurd h
some_chars (Operator Neg) [] h = absurd h
some_chars (Operator o) [] h = elim h [ inl e ↦ absurd (cc) | inr e ↦ absurd (cc) ]
some_chars (Constant t) [] h = absurd h
some_chars w [] h = absurd (cc)
some_chars w (c ∷ cs) h = omega arith

some_symbols : (w : Word90) (front : List Symbol90) → SpelledBy90 w front → 0 < length front
some_symbols (Constant t) front h = omega (arith, ap length h)
some_symbols (Head x) front h =
    omega (arith, ap length h.1, length-append (chars90 x) (h.0 ++ Char 40 ∷ []), length-append h.0 (Char 40 ∷ []))
some_symbols w front h = omega (arith, ap length h.1, some_chars w h.0 h.2, length-map h.0 Char)

shorter_tail : (rest tail : List Symbol90) (w : Word90) → word rest ≡ Some (record { word = w; rest = tail }) → length tail < length rest
shorter_tail rest tail w e =
    let b = is_word rest (record { word = w; rest = tail }) e in
    let l = some_symbols w b.front b.spelled in
    omega (arith, ap length b.same, length-append b.gaps (b.front ++ tail), length-append b.front tail)

pub shorter : (rest tail left : List code.Symbol) (w : Word90) → word (symbols_of rest) ≡ Some (record { word = w; rest = symbols_of tail })
    → symbols_of left ≡ skip (symbols_of tail) → length left < length rest
shorter rest tail left w e f =
    let l = shorter_tail (symbols_of rest) (symbols_of tail) w e in
    omega (arith, l, ap length f, skip_le (symbols_of tail), length-map rest symbol_of, length-map left symbol_of)

-- ---- where no word is found

pub gives_error : (e : Stop) (text : List Symbol90) (done : List Word90) (rest : List Symbol90) (ws : List Word90) → (rest ≡ [] → ⊥) → HasRead text done rest
    → FrontResult (Err e) (word rest) → AreWords90 text ws → GivesWords (Err e) ws
gives_error Syntax text done rest ws n h f k = absurd (has_no_word text done rest ws n h f k)
gives_error Memory text done rest ws n h f k = tt

pub no_symbols : (rest : List code.Symbol) → length rest ≡ 0 → symbols_of rest ≡ []
no_symbols rest e = ap symbols_of (nil_from_length rest e)

pub some_left : (rest : List code.Symbol) → 0 < length rest → symbols_of rest ≡ [] → ⊥
some_left rest l e = absurd (omega (arith, ap length e, length-map rest symbol_of))
