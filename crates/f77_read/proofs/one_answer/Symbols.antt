-- What stands at the front of a text: words, labels, names, conditions.
use Rattle.std.proofs.Common.{◌≡◌, ◌≤◌, ◌<◌, inl, inr, ℕ, zero, suc, List, [], ◌∷◌, ◌++◌, map, length, refl, ap, sym, ◌∙◌, subst, arith, true, false, Bool, nat_le, codes}
use Rattle.std.specs.Prelude.{◌⊎◌, Option, Some, None, IsTrue}
use Rattle.std.proofs.lemmas.List.{length-map}
use Rattle.std.proofs.lemmas.Bool.Decides.{nat_tests}
use Rattle.f77_grammar.specs.expressions.Squeezing.{Symbol77, Char, Text, Broken}
use Rattle.f77_grammar.specs.expressions.Spelling.{AreWords77, Begins77, Stops77, chars77}
use Rattle.reading.specs.Characters.{IsDigits, Pass, is_digit, is_letter}
use Rattle.f77_grammar.specs.expressions.Words.{Word77}
use Rattle.f77_grammar.specs.statements.Forms.{IsLabel77}
use Rattle.f77_grammar.specs.statements.Recognition.{Halves, cut_at_close, BeginsWithLetter, IsConditional}
use Rattle.f77_expressions.specs.Lexing as lexing
use Rattle.f77_expressions.specs.Lexing.{word, strip}
use Rattle.f77_expressions.specs.Symbols.{symbol_of, symbols_of}
use Rattle.f77_expressions.specs.declared.symbols.Symbol as code
use Rattle.f77_expressions.specs.declared.symbols.Symbol.TheVariants as variants
use Rattle.f77_expressions.proofs.LexingLaws.{begun, is_word}
use Rattle.f77_expressions.proofs.WordsLaws as words
use Rattle.f77_words.proofs.keywords.FrontLaws.{run_same}
use Rattle.f77_words.proofs.keywords.Stripping.{strip_same, stripped}

-- ---- the code's symbols

pub code_of : Symbol77 → code.Symbol
code_of (Char c) = variants.Char c
code_of (Text t) = variants.Text t
code_of Broken = variants.Broken

abbrev pub in_code : List Symbol77 → List code.Symbol
in_code text = map code_of text

symbol_back : (s : Symbol77) → symbol_of (code_of s) ≡ s
unfolding code_of
symbol_back (Char c) = refl
symbol_back (Text t) = refl
symbol_back Broken = refl

pub back : (text : List Symbol77) → symbols_of (in_code text) ≡ text
back [] = refl
back (s ∷ ss) = ap (λ q. q ∷ symbols_of (in_code ss)) (symbol_back s) ∙ ap (λ qs. s ∷ qs) (back ss)

pub as_long : (text : List Symbol77) → length (in_code text) ≡ length text
as_long text = length-map text code_of

-- ---- words

pub record HasWords (text : List Symbol77) : Type 0 where
  pub words : List Word77
  pub are : AreWords77 text words
  pub only : (vs : List Word77) → AreWords77 text vs → words ≡ vs

abbrev pub HasNoWords : List Symbol77 → Type 0
HasNoWords text = (vs : List Word77) → AreWords77 text vs → ⊥

abbrev pub WordsOf : List Symbol77 → Type 0
WordsOf text = HasWords text ⊎ HasNoWords text

no_front : (f : lexing.Front) → None ≡ Some f → ⊥
no_front f e = cc

one_front : (f g : lexing.Front) → Some f ≡ Some g → f ≡ g
one_front f g e = cc

nothing : HasWords []
nothing = record { words = []; are = refl; only = only }
  where
    only : (vs : List Word77) → AreWords77 [] vs → [] ≡ vs
    only [] h = refl
    only (v ∷ vs) h = absurd (no_front _ (begun [] v h.0 h.1))

module _ (text : List Symbol77) (some : text ≡ [] → ⊥) where
  wordless : word text ≡ None → HasNoWords text
  wordless e [] h = some h
  wordless e (v ∷ vs) h = no_front _ (sym e ∙ begun text v h.0 h.1)

  module _ (f : lexing.Front) (e : word text ≡ Some f) where
    same_front : (v : Word77) (rest : List Symbol77) → Begins77 text v rest → f ≡ record { word = v; rest = rest }
    same_front v rest h = one_front _ _ (sym e ∙ begun text v rest h)

    one_more : HasWords f.rest → HasWords text
    one_more k = record { words = f.word ∷ k.words; are = (f.rest, is_word text f e, k.are); only = only }
      where
        only : (vs : List Word77) → AreWords77 text vs → f.word ∷ k.words ≡ vs
        only [] h = absurd (some h)
        only (v ∷ vs) h =
            let q = same_front v h.0 h.1 in
            ap (λ w. w ∷ k.words) (ap (λ (x : lexing.Front). x.word) q)
            ∙ ap (λ ws. v ∷ ws) (k.only vs (subst (λ r. AreWords77 r vs) (sym (ap (λ (x : lexing.Front). x.rest) q)) h.2))

    no_more : HasNoWords f.rest → HasNoWords text
    no_more never [] h = some h
    no_more never (v ∷ vs) h = never vs (subst (λ r. AreWords77 r vs) (sym (ap (λ (x : lexing.Front). x.rest) (same_front v h.0 h.1))) h.2)

    shorter : length f.rest < length text
    shorter =
        let k : word (symbols_of (in_code text)) ≡ Some (record { word = f.word; rest = symbols_of (in_code f.rest) }) =
        ap word (back text) ∙ e ∙ ap (λ r. let o : Option lexing.Front = Some (record { word = f.word; rest = r }) in o) (sym (back f.rest)) in
        let l : length (in_code f.rest) < length (in_code text) = words.shorter (in_code text) (in_code f.rest) f.word k in
        omega (arith, as_long text, as_long f.rest)

    with_more : WordsOf f.rest → WordsOf text
    with_more (inl k) = inl (one_more k)
    with_more (inr never) = inr (no_more never)

  by_front : (o : Option lexing.Front) → word text ≡ o → ((rest : List Symbol77) → length rest < length text → WordsOf rest) → WordsOf text
  by_front None e on = inr (wordless e)
  by_front (Some f) e on = with_more f e (on f.rest (shorter f e))

some_symbol : (s : Symbol77) (ss : List Symbol77) → s ∷ ss ≡ [] → ⊥
some_symbol s ss e = cc

word_step : (text : List Symbol77) → ((rest : List Symbol77) → length rest < length text → WordsOf rest) → WordsOf text
word_step [] on = inl nothing
word_step (s ∷ ss) on = by_front (s ∷ ss) (some_symbol s ss) (word (s ∷ ss)) refl on

words_within : (n : ℕ) (text : List Symbol77) → length text ≤ n → WordsOf text
words_within zero text l = word_step text (λ rest k. absurd (omega arith))
words_within (suc n) text l = word_step text (λ rest k. words_within n rest (omega arith))

pub words_of : (text : List Symbol77) → WordsOf text
words_of text = words_within (length text) text (omega arith)

-- ---- characters that pass a test

pub record IsSplit (p : ℕ → Bool) (text : List Symbol77) : Type 0 where
  pub front : List ℕ
  pub rest : List Symbol77
  pub same : text ≡ chars77 front ++ rest
  pub passes : Pass p front
  pub stops : Stops77 p rest

pub split : (p : ℕ → Bool) (text : List Symbol77) → IsSplit p text
split p [] = record { front = []; rest = []; same = refl; passes = tt; stops = tt }
split p (Char c ∷ ss) = by (p c) refl (split p ss)
  where
    by : (b : Bool) → p c ≡ b → IsSplit p ss → IsSplit p (Char c ∷ ss)
    by true e k = record { front = c ∷ k.front; rest = k.rest; same = ap (λ q. Char c ∷ q) k.same; passes = (e, k.passes); stops = k.stops }
    by false e k = record { front = []; rest = Char c ∷ ss; same = refl; passes = tt; stops = e }
split p (Text t ∷ ss) = record { front = []; rest = Text t ∷ ss; same = refl; passes = tt; stops = tt }
split p (Broken ∷ ss) = record { front = []; rest = Broken ∷ ss; same = refl; passes = tt; stops = tt }

pub split_only : (p : ℕ → Bool) (text : List Symbol77) (k : IsSplit p text) (xs : List ℕ) (r : List Symbol77) → Pass p xs → Stops77 p r → text ≡ chars77 xs ++ r → (k.front ≡ xs) × (k.rest ≡ r)
split_only p text k xs r h s e = run_same p k.front xs k.rest r k.passes h k.stops s (sym k.same ∙ e)

pub at_most : (n m : ℕ) → (n ≤ m) ⊎ (m < n)
at_most n m = by (nat_le n m) refl
  where
    by : (b : Bool) → nat_le n m ≡ b → (n ≤ m) ⊎ (m < n)
    by true e = inl (grind (arith, nat_tests))
    by false e = inr (grind (arith, nat_tests))

-- ---- labels

pub record HasLabel (text : List Symbol77) : Type 0 where
  pub label : List ℕ
  pub rest : List Symbol77
  pub is_label : IsLabel77 label
  pub same : text ≡ chars77 label ++ rest
  pub whole : Stops77 is_digit rest

abbrev pub HasNoLabel : List Symbol77 → Type 0
HasNoLabel text = (l : List ℕ) (r : List Symbol77) → IsLabel77 l → Stops77 is_digit r → text ≡ chars77 l ++ r → ⊥

digits_pass : (l : List ℕ) → IsDigits l → Pass is_digit l
digits_pass [] h = absurd h
digits_pass (c ∷ cs) h = h

pub label_only : (text : List Symbol77) (k : HasLabel text) (l : List ℕ) (r : List Symbol77) → IsLabel77 l → Stops77 is_digit r → text ≡ chars77 l ++ r → (k.label ≡ l) × (k.rest ≡ r)
label_only text k l r h s e = run_same is_digit k.label l k.rest r (digits_pass k.label k.is_label.0) (digits_pass l h.0) k.whole s (sym k.same ∙ e)

digits_or_none : (xs : List ℕ) → Pass is_digit xs → IsDigits xs ⊎ (IsDigits xs → ⊥)
digits_or_none [] h = inr (λ k. k)
digits_or_none (c ∷ cs) h = inl h

pub label : (text : List Symbol77) → HasLabel text ⊎ HasNoLabel text
label text = by (split is_digit text)
  where
    by_length : (k : IsSplit is_digit text) → IsDigits k.front → (length k.front ≤ 5) ⊎ (5 < length k.front) → HasLabel text ⊎ HasNoLabel text
    by_length k d (inl l) = inl (record { label = k.front; rest = k.rest; is_label = (d, l); same = k.same; whole = k.stops })
    by_length k d (inr m) = inr (λ l r h s e.
        let q : length k.front ≡ length l = ap length (split_only is_digit text k l r (digits_pass l h.0) s e).0 in
        omega (arith, h.1))

    by_digits : (k : IsSplit is_digit text) → IsDigits k.front ⊎ (IsDigits k.front → ⊥) → HasLabel text ⊎ HasNoLabel text
    by_digits k (inl d) = by_length k d (at_most (length k.front) 5)
    by_digits k (inr lacks) = inr (λ l r h s e. lacks (subst IsDigits (sym (split_only is_digit text k l r (digits_pass l h.0) s e).0) h.0))

    by : IsSplit is_digit text → HasLabel text ⊎ HasNoLabel text
    by k = by_digits k (digits_or_none k.front k.passes)

-- ---- conditions

pub record HasCondition (text : List Symbol77) : Type 0 where
  pub condition : List Symbol77
  pub rest : List Symbol77
  pub is : IsConditional text condition rest
  pub only : (c r : List Symbol77) → IsConditional text c r → (condition ≡ c) × (rest ≡ r)

abbrev pub HasNoCondition : List Symbol77 → Type 0
HasNoCondition text = (c r : List Symbol77) → IsConditional text c r → ⊥

letter : (text : List Symbol77) → BeginsWithLetter text ⊎ (BeginsWithLetter text → ⊥)
letter [] = inr (λ h. h)
letter (Char c ∷ ss) = by (is_letter c) refl
  where
    by : (b : Bool) → is_letter c ≡ b → IsTrue (is_letter c) ⊎ (IsTrue (is_letter c) → ⊥)
    by true e = inl e
    by false e = inr (λ h. (let z : true ≡ false = sym h ∙ e in cc))
letter (Text t ∷ ss) = inr (λ h. h)
letter (Broken ∷ ss) = inr (λ h. h)

no_text : (q : List Symbol77) → None ≡ Some q → ⊥
no_text q e = cc

one_text : (a b : List Symbol77) → Some a ≡ Some b → a ≡ b
one_text a b e = cc

no_halves : (h : Halves) → None ≡ Some h → ⊥
no_halves h e = cc

one_halves : (h k : Halves) → Some h ≡ Some k → h ≡ k
one_halves h k e = cc

pub conditional : (text : List Symbol77) → HasCondition text ⊎ HasNoCondition text
conditional text = by_strip (strip (codes "IF(") text) refl
  where
    opened_is : (opened : List Symbol77) → strip (codes "IF(") text ≡ Some opened → (c r : List Symbol77) (k : IsConditional text c r) → opened ≡ k.opened
    opened_is opened e c r k = one_text _ _ (sym e ∙ stripped (codes "IF(") text k.opened k.begins)

    halves_are : (opened : List Symbol77) → strip (codes "IF(") text ≡ Some opened → (c r : List Symbol77) → IsConditional text c r → cut_at_close opened ≡ Some (record { inside = c; behind = r })
    halves_are opened e c r k = ap cut_at_close (opened_is opened e c r k) ∙ k.cut

    by_letter : (opened : List Symbol77) → strip (codes "IF(") text ≡ Some opened → (h : Halves) → cut_at_close opened ≡ Some h → BeginsWithLetter h.behind ⊎ (BeginsWithLetter h.behind → ⊥) → HasCondition text ⊎ HasNoCondition text
    by_letter opened e h f (inl l) = inl (record {
      condition = h.inside;
      rest = h.behind;
      is = record { opened = opened; begins = strip_same (codes "IF(") text opened e; cut = f; letter = l };
      only = λ c r k. let q = one_halves _ _ (sym f ∙ halves_are opened e c r k) in (ap (λ (x : Halves). x.inside) q, ap (λ (x : Halves). x.behind) q);
    })
    by_letter opened e h f (inr lacks) = inr (λ c r k. lacks (subst BeginsWithLetter (sym (ap (λ (x : Halves). x.behind) (one_halves _ _ (sym f ∙ halves_are opened e c r k)))) k.letter))

    by_cut : (opened : List Symbol77) → strip (codes "IF(") text ≡ Some opened → (o : Option Halves) → cut_at_close opened ≡ o → HasCondition text ⊎ HasNoCondition text
    by_cut opened e None f = inr (λ c r k. no_halves _ (sym f ∙ halves_are opened e c r k))
    by_cut opened e (Some h) f = by_letter opened e h f (letter h.behind)

    by_strip : (o : Option (List Symbol77)) → strip (codes "IF(") text ≡ o → HasCondition text ⊎ HasNoCondition text
    by_strip None e = inr (λ c r k. no_text _ (sym e ∙ stripped (codes "IF(") text k.opened k.begins))
    by_strip (Some opened) e = by_cut opened e (cut_at_close opened) refl
