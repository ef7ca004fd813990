-- What stands before a word of the input.
use Rattle.std.proofs.Common.{◌≡◌, refl, sym, ap, ◌∙◌, subst, ℕ, ◌+◌, ◌≤◌, ◌==◌, ◌||◌, Bool, true, false, cond, List, [], ◌∷◌, ◌++◌, Result, Ok, Err, arith}
use Rattle.std.proofs.lemmas.Bool.Decides.{Decides-eqb}
use Rattle.std.proofs.lemmas.List.Sums.{sum_by-cons}
use Rattle.std.specs.List.{AllByRecursion}
use Rattle.tree.specs.declared.ops.Fault.{Fault}
use Rattle.tree.specs.declared.ops.Fault.TheVariants.{InputEnd, InputForm}
use Rattle.meaning.specs.Texts.{is_gap, is_separator, first_word, after_word, from_value}
use Rattle.meaning_laws.specs.inputs.Words.{commas_in, most_commas, AreSeparators, IsSeparation, IsWord, BeginsWord, EndsWord, NextWordIsSeparated, InputEndsInSeparation, SecondCommaIsFault, WordIsWhole}

-- ---- what a byte is

data Sort (c : ℕ) : Type 0 where
  Gap : is_gap c ≡ true → (c == 44) ≡ false → Sort c
  Comma : is_gap c ≡ false → (c == 44) ≡ true → Sort c
  Other : is_gap c ≡ false → (c == 44) ≡ false → Sort c

gap_is_no_comma : (c : ℕ) → is_gap c ≡ true → (c == 44) ≡ false
gap_is_no_comma c g = by (c == 44) refl
  where
    by : (b : Bool) → (c == 44) ≡ b → b ≡ false
    by false e = refl
    by true e = absurd (let no : false ≡ true = subst (λ n. is_gap n ≡ true) ((Decides-eqb c 44).0 e) g in cc)

sort : (c : ℕ) → Sort c
sort c = by (is_gap c) refl (c == 44) refl
  where
    by : (g : Bool) → is_gap c ≡ g → (t : Bool) → (c == 44) ≡ t → Sort c
    by true p t q = Gap p (gap_is_no_comma c p)
    by false p true q = Comma p q
    by false p false q = Other p q

separates : (c : ℕ) (g t : Bool) → is_gap c ≡ g → (c == 44) ≡ t → is_separator c ≡ (g || t)
separates c g t p q = ap (λ b. b || (c == 44)) p ∙ ap (λ b. g || b) q

counted : (c : ℕ) (t : Bool) (cs : List ℕ) → (c == 44) ≡ t → commas_in (c ∷ cs) ≡ cond t 1 0 + commas_in cs
counted c t cs q = sum_by-cons (λ x. cond (x == 44) 1 0) c cs ∙ ap (λ b. cond b 1 0 + commas_in cs) q

-- ---- the next value, by the first byte

module _ (comma : Bool) (c : ℕ) (cs : List ℕ) where
  abbrev step : Bool → Bool → Result (List ℕ) Fault
  step g t = cond g (from_value comma cs) (cond t (cond comma (from_value false cs) (Err InputForm)) (Ok (c ∷ cs)))

  stepped : (g t : Bool) → is_gap c ≡ g → (c == 44) ≡ t → from_value comma (c ∷ cs) ≡ step g t
  stepped g t p q = ap (λ b. step b (c == 44)) p ∙ ap (λ b. step g b) q

at_gap : (comma : Bool) (c : ℕ) (cs : List ℕ) → is_gap c ≡ true → from_value comma (c ∷ cs) ≡ from_value comma cs
at_gap comma c cs p = stepped comma c cs true (c == 44) p refl

at_comma : (comma : Bool) (c : ℕ) (cs : List ℕ) → is_gap c ≡ false → (c == 44) ≡ true → from_value comma (c ∷ cs) ≡ cond comma (from_value false cs) (Err InputForm)
at_comma comma c cs p q = stepped comma c cs false true p q

at_other : (comma : Bool) (c : ℕ) (cs : List ℕ) → is_gap c ≡ false → (c == 44) ≡ false → from_value comma (c ∷ cs) ≡ Ok (c ∷ cs)
at_other comma c cs p q = stepped comma c cs false false p q

-- ---- one byte more before what separates

gap_more : (comma : Bool) (c : ℕ) (cs : List ℕ) → is_gap c ≡ true → (c == 44) ≡ false → IsSeparation comma cs → IsSeparation comma (c ∷ cs)
gap_more comma c cs p q h = record { separators = (separates c true false p q, h.separators); commas = (let n = counted c false cs q in let m = h.commas in omega (arith, n, m)) }

comma_more : (c : ℕ) (cs : List ℕ) → is_gap c ≡ false → (c == 44) ≡ true → IsSeparation false cs → IsSeparation true (c ∷ cs)
comma_more c cs p q h = record { separators = (separates c false true p q, h.separators); commas = (let n = counted c true cs q in let m : commas_in cs ≤ 0 = h.commas in omega (arith, n, m)) }

gap_less : (comma : Bool) (c : ℕ) (cs : List ℕ) → (c == 44) ≡ false → IsSeparation comma (c ∷ cs) → IsSeparation comma cs
gap_less comma c cs q h = record { separators = h.separators.1; commas = (let n = counted c false cs q in let m = h.commas in omega (arith, n, m)) }

comma_less : (c : ℕ) (cs : List ℕ) → (c == 44) ≡ true → IsSeparation true (c ∷ cs) → IsSeparation false cs
comma_less c cs q h = record { separators = h.separators.1; commas = (let n = counted c true cs q in let m : commas_in (c ∷ cs) ≤ 1 = h.commas in let z : commas_in cs ≤ 0 = omega (arith, n, m) in z) }

no_comma : (c : ℕ) (cs : List ℕ) → (c == 44) ≡ true → ¬ IsSeparation false (c ∷ cs)
no_comma c cs q h = let n = counted c true cs q in let m : commas_in (c ∷ cs) ≤ 0 = h.commas in omega (arith, n, m)

no_separator : (c : ℕ) → is_gap c ≡ false → (c == 44) ≡ false → ¬ (is_separator c ≡ true)
no_separator c p q h = let e : true ≡ false = sym h ∙ separates c false false p q in cc

-- ---- a word is found

abbrev Found : Bool → List ℕ → List ℕ → Type 0
Found comma text rest = (before : List ℕ) × (text ≡ before ++ rest) × IsSeparation comma before × BeginsWord rest

nothing_before : (comma : Bool) → IsSeparation comma []
nothing_before true = record { separators = tt; commas = omega arith }
nothing_before false = record { separators = tt; commas = omega arith }

found : (comma : Bool) (text rest : List ℕ) → from_value comma text ≡ Ok rest → Found comma text rest
found comma [] rest e = absurd cc
found comma (c ∷ cs) rest e = by comma (sort c) e (found comma cs rest) (found false cs rest)
  where
    by : (comma : Bool) → Sort c → from_value comma (c ∷ cs) ≡ Ok rest → (from_value comma cs ≡ Ok rest → Found comma cs rest) → (from_value false cs ≡ Ok rest → Found false cs rest) → Found comma (c ∷ cs) rest
    by comma (Gap p q) e more later = let h = more (sym (at_gap comma c cs p) ∙ e) in (c ∷ h.0, ap (λ t. c ∷ t) h.1, gap_more comma c h.0 p q h.2, h.3)
    by true (Comma p q) e more later = let h = later (sym (at_comma true c cs p q) ∙ e) in (c ∷ h.0, ap (λ t. c ∷ t) h.1, comma_more c h.0 p q h.2, h.3)
    by false (Comma p q) e more later = absurd (let no : ◌≡◌ {A = Result (List ℕ) Fault} (Err InputForm) (Ok rest) = sym (at_comma false c cs p q) ∙ e in cc)
    by comma (Other p q) e more later =
        let is : c ∷ cs ≡ rest = (let s = sym (at_other comma c cs p q) ∙ e in cc) in
        ([], is, nothing_before comma, subst BeginsWord is (separates c false false p q))

behind : (comma : Bool) (before rest : List ℕ) → IsSeparation comma before → BeginsWord rest → from_value comma (before ++ rest) ≡ Ok rest
behind comma [] [] h b = absurd b
behind comma [] (c ∷ cs) h b = by (sort c)
  where
    by : Sort c → from_value comma (c ∷ cs) ≡ Ok (c ∷ cs)
    by (Gap p q) = absurd (let no : true ≡ false = sym (separates c true false p q) ∙ b in cc)
    by (Comma p q) = absurd (let no : true ≡ false = sym (separates c false true p q) ∙ b in cc)
    by (Other p q) = at_other comma c cs p q
behind comma (c ∷ before) rest h b = by comma (sort c) h (behind comma before rest) (behind false before rest)
  where
    by : (comma : Bool) → Sort c → IsSeparation comma (c ∷ before) → (IsSeparation comma before → BeginsWord rest → from_value comma (before ++ rest) ≡ Ok rest)
        → (IsSeparation false before → BeginsWord rest → from_value false (before ++ rest) ≡ Ok rest) → from_value comma (c ∷ before ++ rest) ≡ Ok rest
    by comma (Gap p q) h more later = at_gap comma c (before ++ rest) p ∙ more (gap_less comma c before q h) b
    by true (Comma p q) h more later = at_comma true c (before ++ rest) p q ∙ later (comma_less c before q h) b
    by false (Comma p q) h more later = absurd (no_comma c before q h)
    by comma (Other p q) h more later = absurd (no_separator c p q h.separators.0)

pub next_word_is_separated : NextWordIsSeparated
next_word_is_separated comma text rest = (found comma text rest, λ h. ap (from_value comma) h.1 ∙ behind comma h.0 rest h.2 h.3)

-- ---- no word is left

ended : (comma : Bool) (text : List ℕ) → from_value comma text ≡ Err InputEnd → IsSeparation comma text
ended comma [] e = nothing_before comma
ended comma (c ∷ cs) e = by comma (sort c) e (ended comma cs) (ended false cs)
  where
    by : (comma : Bool) → Sort c → from_value comma (c ∷ cs) ≡ Err InputEnd → (from_value comma cs ≡ Err InputEnd → IsSeparation comma cs) → (from_value false cs ≡ Err InputEnd → IsSeparation false cs) → IsSeparation comma (c ∷ cs)
    by comma (Gap p q) e more later = gap_more comma c cs p q (more (sym (at_gap comma c cs p) ∙ e))
    by true (Comma p q) e more later = comma_more c cs p q (later (sym (at_comma true c cs p q) ∙ e))
    by false (Comma p q) e more later = absurd (let no : ◌≡◌ {A = Result (List ℕ) Fault} (Err InputForm) (Err InputEnd) = sym (at_comma false c cs p q) ∙ e in cc)
    by comma (Other p q) e more later = absurd (let no : ◌≡◌ {A = Result (List ℕ) Fault} (Ok (c ∷ cs)) (Err InputEnd) = sym (at_other comma c cs p q) ∙ e in cc)

all_separates : (comma : Bool) (text : List ℕ) → IsSeparation comma text → from_value comma text ≡ Err InputEnd
all_separates comma [] h = refl
all_separates comma (c ∷ cs) h = by comma (sort c) h (all_separates comma cs) (all_separates false cs)
  where
    by : (comma : Bool) → Sort c → IsSeparation comma (c ∷ cs) → (IsSeparation comma cs → from_value comma cs ≡ Err InputEnd) → (IsSeparation false cs → from_value false cs ≡ Err InputEnd) → from_value comma (c ∷ cs) ≡ Err InputEnd
    by comma (Gap p q) h more later = at_gap comma c cs p ∙ more (gap_less comma c cs q h)
    by true (Comma p q) h more later = at_comma true c cs p q ∙ later (comma_less c cs q h)
    by false (Comma p q) h more later = absurd (no_comma c cs q h)
    by comma (Other p q) h more later = absurd (no_separator c p q h.separators.0)

pub input_ends_in_separation : InputEndsInSeparation
input_ends_in_separation comma text = (ended comma text, all_separates comma text)

-- ---- a comma too many

abbrev Excess : Bool → List ℕ → Type 0
Excess comma text = (before more : List ℕ) × (text ≡ before ++ 44 ∷ more) × AreSeparators before × (commas_in before ≡ most_commas comma)

excess : (comma : Bool) (text : List ℕ) → from_value comma text ≡ Err InputForm → Excess comma text
excess comma [] e = absurd cc
excess comma (c ∷ cs) e = by comma (sort c) e (excess comma cs) (excess false cs)
  where
    by : (comma : Bool) → Sort c → from_value comma (c ∷ cs) ≡ Err InputForm → (from_value comma cs ≡ Err InputForm → Excess comma cs) → (from_value false cs ≡ Err InputForm → Excess false cs) → Excess comma (c ∷ cs)
    by comma (Gap p q) e more later =
        let h = more (sym (at_gap comma c cs p) ∙ e) in
        (c ∷ h.0, h.1, ap (λ t. c ∷ t) h.2, (separates c true false p q, h.3), counted c false h.0 q ∙ (let z : 0 + commas_in h.0 ≡ commas_in h.0 = omega arith in z) ∙ h.4)
    by true (Comma p q) e more later =
        let h = later (sym (at_comma true c cs p q) ∙ e) in
        (c ∷ h.0, h.1, ap (λ t. c ∷ t) h.2, (separates c false true p q, h.3), counted c true h.0 q ∙ ap (λ n. 1 + n) h.4)
    by false (Comma p q) e more later = ([], cs, ap (λ n. n ∷ cs) ((Decides-eqb c 44).0 q), tt, refl)
    by comma (Other p q) e more later = absurd (let no : ◌≡◌ {A = Result (List ℕ) Fault} (Ok (c ∷ cs)) (Err InputForm) = sym (at_other comma c cs p q) ∙ e in cc)

too_many : (comma : Bool) (before more : List ℕ) → AreSeparators before → commas_in before ≡ most_commas comma → from_value comma (before ++ 44 ∷ more) ≡ Err InputForm
too_many true [] more h n = absurd cc
too_many false [] more h n = refl
too_many comma (c ∷ before) more h n = by comma (sort c) n (too_many comma before more h.1) (too_many false before more h.1)
  where
    by : (comma : Bool) → Sort c → commas_in (c ∷ before) ≡ most_commas comma → (commas_in before ≡ most_commas comma → from_value comma (before ++ 44 ∷ more) ≡ Err InputForm)
        → (commas_in before ≡ 0 → from_value false (before ++ 44 ∷ more) ≡ Err InputForm) → from_value comma (c ∷ before ++ 44 ∷ more) ≡ Err InputForm
    by comma (Gap p q) n rest later = at_gap comma c (before ++ 44 ∷ more) p ∙ rest (let k = counted c false before q in let z : commas_in before ≡ commas_in (c ∷ before) = omega (arith, k) in z ∙ n)
    by true (Comma p q) n rest later = at_comma true c (before ++ 44 ∷ more) p q ∙ later (let k = counted c true before q in let m : commas_in (c ∷ before) ≡ 1 = n in omega (arith, k, m))
    by false (Comma p q) n rest later = absurd (let k = counted c true before q in let m : commas_in (c ∷ before) ≡ 0 = n in omega (arith, k, m))
    by comma (Other p q) n rest later = absurd (no_separator c p q h.0)

pub second_comma_is_fault : SecondCommaIsFault
second_comma_is_fault comma text = (excess comma text, λ h. ap (from_value comma) h.2 ∙ too_many comma h.0 h.1 h.3 h.4)

-- ---- words

ends_here : (more : List ℕ) → EndsWord more → (first_word more ≡ []) × (after_word more ≡ more)
ends_here [] h = (refl, refl)
ends_here (c ∷ cs) h = (ap (λ b. cond b [] (c ∷ first_word cs)) h, ap (λ b. cond b (c ∷ cs) (after_word cs)) h)

goes_on : (word more : List ℕ) → AllByRecursion (λ b. is_separator b ≡ false) word → EndsWord more → (first_word (word ++ more) ≡ word) × (after_word (word ++ more) ≡ more)
goes_on [] more h e = ends_here more e
goes_on (c ∷ cs) more h e =
    let rest = goes_on cs more h.1 e in
    (ap (λ b. cond b [] (c ∷ first_word (cs ++ more))) h.0 ∙ ap (λ w. c ∷ w) rest.0, ap (λ b. cond b (c ∷ cs ++ more) (after_word (cs ++ more))) h.0 ∙ rest.1)

pub word_is_whole : WordIsWhole
word_is_whole [] more h e = absurd h
word_is_whole (c ∷ cs) more h e = goes_on (c ∷ cs) more h e

pub begins : (word more : List ℕ) → IsWord word → BeginsWord (word ++ more)
begins [] more h = absurd h
begins (c ∷ cs) more h = h.0
