-- Signs outside parentheses are searched symbol by symbol.
use Rattle.std.proofs.Common.{◌≡◌, ℕ, zero, suc, ◌+◌, ◌-◌, ◌<◌, ◌≤◌, Bool, true, false, List, [], drop, length, get_or, refl, sym, ap, ◌∙◌, arith, add-one, subst}
use Rattle.std.specs.Prelude.{◌||◌, ◌&&◌, if◌then◌else◌}
use Rattle.std.proofs.lemmas.List.{drop_all, length-map}
use Rattle.f77_grammar.specs.expressions.Squeezing.{Symbol77, Char, Text, Broken}
use Rattle.f77_grammar.specs.statements.Recognition.{Bracket, Opening, Closing, Neither, bracket_of, is_equals, has_equals_by, has_equals_outside}
use Rattle.f77_expressions.specs.declared.symbols.Symbol.{Symbol as Symbol'}
use Rattle.f77_expressions.specs.Symbols.{symbol_of, symbols_of}
use Rattle.f77_words.specs.keywords.Outside.{character_is, equals_of, comma_of, has_comma_by, has_comma_outside}
use Rattle.f77_words.proofs.keywords.Cutting.{symbols_at}

-- What has been found in front of the i-th symbol, where so many parentheses are open there
pub record IsSearchedTo (text : List Symbol77) (i opened : ℕ) (equals comma : Bool) : Type 0 where
  pub equals_same : has_equals_outside text 0 ≡ (equals || has_equals_outside (drop i text) opened)
  pub comma_same : has_comma_outside text 0 false ≡ (comma || has_comma_outside (drop i text) opened equals)

pub search_begun : (text : List Symbol77) → IsSearchedTo text 0 0 false false
search_begun text = record { equals_same = refl; comma_same = refl }

abbrev EqualsHere : (text : List Symbol77) (b : Bracket) (s : Symbol77) (ss : List Symbol77) (opened : ℕ) (equals : Bool) → Type 0
EqualsHere text b s ss opened equals = has_equals_outside text 0 ≡ (equals || has_equals_by b s (has_equals_outside ss) opened)

abbrev CommaHere : (text : List Symbol77) (b : Bracket) (s : Symbol77) (ss : List Symbol77) (opened : ℕ) (equals comma : Bool) → Type 0
CommaHere text b s ss opened equals comma = has_comma_outside text 0 false ≡ (comma || has_comma_by b s (has_comma_outside ss) opened equals)

equals_here : (xs : List Symbol') (i opened : ℕ) (equals comma : Bool) (x : Symbol') (b : Bracket) → i < length xs → x ≡ get_or xs i x → b ≡ bracket_of (symbol_of x)
    → IsSearchedTo (symbols_of xs) i opened equals comma → EqualsHere (symbols_of xs) b (symbol_of x) (drop (i + 1) (symbols_of xs)) opened equals
equals_here xs i opened equals comma x b h e f searched =
    searched.equals_same ∙ (ap (λ (q : List Symbol77). equals || has_equals_outside q opened) (symbols_at xs i x h e)
    ∙ ap (λ (q : Bracket). equals || has_equals_by q (symbol_of x) (has_equals_outside (drop (i + 1) (symbols_of xs))) opened) (sym f))

comma_here : (xs : List Symbol') (i opened : ℕ) (equals comma : Bool) (x : Symbol') (b : Bracket) → i < length xs → x ≡ get_or xs i x → b ≡ bracket_of (symbol_of x)
    → IsSearchedTo (symbols_of xs) i opened equals comma → CommaHere (symbols_of xs) b (symbol_of x) (drop (i + 1) (symbols_of xs)) opened equals comma
comma_here xs i opened equals comma x b h e f searched =
    searched.comma_same ∙ (ap (λ (q : List Symbol77). comma || has_comma_outside q opened equals) (symbols_at xs i x h e)
    ∙ ap (λ (q : Bracket). comma || has_comma_by q (symbol_of x) (has_comma_outside (drop (i + 1) (symbols_of xs))) opened equals) (sym f))

pub search_opening : (xs : List Symbol') (i opened : ℕ) (equals comma : Bool) (x : Symbol') → i < length xs → x ≡ get_or xs i x → Opening ≡ bracket_of (symbol_of x)
    → IsSearchedTo (symbols_of xs) i opened equals comma → IsSearchedTo (symbols_of xs) (i + 1) (opened + 1) equals comma
search_opening xs i opened equals comma x h e f searched = record {
  equals_same = rw (add-one opened) (equals_here xs i opened equals comma x Opening h e f searched);
  comma_same = rw (add-one opened) (comma_here xs i opened equals comma x Opening h e f searched);
}

equals_less : (text : List Symbol77) (s : Symbol77) (ss : List Symbol77) (opened : ℕ) (equals : Bool) → EqualsHere text Closing s ss opened equals → has_equals_outside text 0 ≡ (equals || has_equals_outside ss (opened - 1))
equals_less text s ss zero equals h = h
equals_less text s ss (suc n) equals h = let e : suc n - 1 ≡ n = omega arith in rw e h

comma_less : (text : List Symbol77) (s : Symbol77) (ss : List Symbol77) (opened : ℕ) (equals comma : Bool) → CommaHere text Closing s ss opened equals comma
    → has_comma_outside text 0 false ≡ (comma || has_comma_outside ss (opened - 1) equals)
comma_less text s ss zero equals comma h = h
comma_less text s ss (suc n) equals comma h = let e : suc n - 1 ≡ n = omega arith in rw e h

pub search_closing : (xs : List Symbol') (i opened : ℕ) (equals comma : Bool) (x : Symbol') → i < length xs → x ≡ get_or xs i x → Closing ≡ bracket_of (symbol_of x)
    → IsSearchedTo (symbols_of xs) i opened equals comma → IsSearchedTo (symbols_of xs) (i + 1) (opened - 1) equals comma
search_closing xs i opened equals comma x h e f searched = record {
  equals_same = equals_less (symbols_of xs) (symbol_of x) (drop (i + 1) (symbols_of xs)) opened equals (equals_here xs i opened equals comma x Closing h e f searched);
  comma_same = comma_less (symbols_of xs) (symbol_of x) (drop (i + 1) (symbols_of xs)) opened equals comma (comma_here xs i opened equals comma x Closing h e f searched);
}

equals_sign : (s : Symbol77) → is_equals s ≡ character_is 61 s
equals_sign (Char c) = refl
equals_sign (Text t) = refl
equals_sign Broken = refl

joined : (a b m : Bool) → (a || (if b then true else m)) ≡ ((a || b) || m)
joined true b m = refl
joined false true m = refl
joined false false m = refl

grouped : (a b m : Bool) → (a || (b || m)) ≡ ((a || b) || m)
grouped true b m = refl
grouped false b m = refl

pub search_outside : (xs : List Symbol') (i : ℕ) (equals comma : Bool) (x : Symbol') → i < length xs → x ≡ get_or xs i x → Neither ≡ bracket_of (symbol_of x)
    → IsSearchedTo (symbols_of xs) i 0 equals comma → IsSearchedTo (symbols_of xs) (i + 1) 0 (equals_of equals (symbol_of x)) (comma_of comma equals (symbol_of x))
search_outside xs i equals comma x h e f searched = record {
  equals_same = equals_here xs i 0 equals comma x Neither h e f searched
      ∙ (ap (λ (q : Bool). equals || (if q then true else has_equals_outside (drop (i + 1) (symbols_of xs)) 0)) (equals_sign (symbol_of x))
      ∙ joined equals (character_is 61 (symbol_of x)) (has_equals_outside (drop (i + 1) (symbols_of xs)) 0));
  comma_same = comma_here xs i 0 equals comma x Neither h e f searched
      ∙ grouped comma (equals && character_is 44 (symbol_of x)) (has_comma_outside (drop (i + 1) (symbols_of xs)) 0 (equals_of equals (symbol_of x)));
}

inside_equals : (text : List Symbol77) (s : Symbol77) (ss : List Symbol77) (opened : ℕ) (equals : Bool) → 0 < opened → EqualsHere text Neither s ss opened equals → has_equals_outside text 0 ≡ (equals || has_equals_outside ss opened)
inside_equals text s ss zero equals l h = absurd (omega arith)
inside_equals text s ss (suc n) equals l h = h

inside_comma : (text : List Symbol77) (s : Symbol77) (ss : List Symbol77) (opened : ℕ) (equals comma : Bool) → 0 < opened → CommaHere text Neither s ss opened equals comma
    → has_comma_outside text 0 false ≡ (comma || has_comma_outside ss opened equals)
inside_comma text s ss zero equals comma l h = absurd (omega arith)
inside_comma text s ss (suc n) equals comma l h = h

pub search_inside : (xs : List Symbol') (i opened : ℕ) (equals comma : Bool) (x : Symbol') → i < length xs → x ≡ get_or xs i x → Neither ≡ bracket_of (symbol_of x) → 0 < opened
    → IsSearchedTo (symbols_of xs) i opened equals comma → IsSearchedTo (symbols_of xs) (i + 1) opened equals comma
search_inside xs i opened equals comma x h e f l searched = record {
  equals_same = inside_equals (symbols_of xs) (symbol_of x) (drop (i + 1) (symbols_of xs)) opened equals l (equals_here xs i opened equals comma x Neither h e f searched);
  comma_same = inside_comma (symbols_of xs) (symbol_of x) (drop (i + 1) (symbols_of xs)) opened equals comma l (comma_here xs i opened equals comma x Neither h e f searched);
}

or_false : (a : Bool) → (a || false) ≡ a
or_false true = refl
or_false false = refl

at_end : (xs : List Symbol') (i : ℕ) → length xs ≤ i → drop i (symbols_of xs) ≡ []
at_end xs i h = let l : length (symbols_of xs) ≤ i = rw (length-map xs symbol_of) h in drop_all i (symbols_of xs) l

pub search_equals : (xs : List Symbol') (i opened : ℕ) (equals comma : Bool) → length xs ≤ i → IsSearchedTo (symbols_of xs) i opened equals comma → equals ≡ has_equals_outside (symbols_of xs) 0
search_equals xs i opened equals comma h searched =
    sym (searched.equals_same ∙ (ap (λ (q : List Symbol77). equals || has_equals_outside q opened) (at_end xs i h) ∙ or_false equals))

pub search_comma : (xs : List Symbol') (i opened : ℕ) (equals comma : Bool) → length xs ≤ i → IsSearchedTo (symbols_of xs) i opened equals comma → comma ≡ has_comma_outside (symbols_of xs) 0 false
search_comma xs i opened equals comma h searched =
    sym (searched.comma_same ∙ (ap (λ (q : List Symbol77). comma || has_comma_outside q opened equals) (at_end xs i h) ∙ or_false comma))

pub searched_as : {text : List Symbol77} {i n m : ℕ} {a b c d : Bool} → n ≡ m → a ≡ b → c ≡ d → IsSearchedTo text i m b d → IsSearchedTo text i n a c
searched_as {text = text} {i = i} {m = m} {a = a} {b = b} {c = c} e f g h =
    subst (λ (q : ℕ). IsSearchedTo text i q a c) (sym e) (subst (λ (q : Bool). IsSearchedTo text i m q c) (sym f) (subst (λ (q : Bool). IsSearchedTo text i m b q) (sym g) h))
