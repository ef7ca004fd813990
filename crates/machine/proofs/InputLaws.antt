-- The bytes of the input without each CR before an LF.
use Rattle.std.proofs.Common.{◌≡◌, refl, sym, ap, ◌∙◌, ℕ, ◌+◌, ◌<◌, ◌≤◌, Bool, true, false, cond, List, [], ◌∷◌, ◌++◌, ◌-◌, take, drop, get_or, length, length-drop, append_assoc, Err, arith}
use Rattle.std.specs.Prelude.{◌==◌, ◌&&◌, ◌||◌}
use Rattle.std.proofs.lemmas.List.{drop_more, drop_all, take_more, get_or-drop}
use mathlib.Core.Path.{ap₂}
use Rattle.std.proofs.lemmas.Bool.Decides.{Decides-eqb}
use Rattle.tree.specs.declared.ops.Fault.TheVariants.{InputEnd}
use Rattle.meaning.specs.Texts.{is_gap, is_separator, without_cr, from_value, after_word, first_word}

pub cr_none : (xs : List ℕ) (i : ℕ) → length xs ≤ i → without_cr (drop i xs) ≡ []
cr_none xs i h = ap without_cr (drop_all i xs h)

lf_stays : (cs : List ℕ) → without_cr (10 ∷ cs) ≡ 10 ∷ without_cr cs
lf_stays [] = refl
lf_stays (c ∷ cs) = refl

pub cr_pair : (xs : List ℕ) (i : ℕ) → i + 1 < length xs → get_or xs i 0 ≡ 13 → get_or xs (i + 1) 0 ≡ 10 → without_cr (drop i xs) ≡ 10 ∷ without_cr (drop (i + 2) xs)
cr_pair xs i l e h =
    let first : drop i xs ≡ 13 ∷ drop (i + 1) xs = drop_more xs i 0 (omega arith) ∙ ap (λ c. c ∷ drop (i + 1) xs) e in
    let second : drop (i + 1) xs ≡ 10 ∷ drop (i + 2) xs = drop_more xs (i + 1) 0 l ∙ ap (λ c. c ∷ drop (i + 1 + 1) xs) h ∙ ap (λ k. 10 ∷ drop k xs) (let s : i + 1 + 1 ≡ i + 2 = omega arith in s) in
    ap without_cr (first ∙ ap (λ ds. 13 ∷ ds) second) ∙ lf_stays (drop (i + 2) xs)

one_stays : (c : ℕ) (cs : List ℕ) → ((c ≡ 13) → (d : ℕ) (ds : List ℕ) → cs ≡ d ∷ ds → d ≡ 10 → ⊥) → without_cr (c ∷ cs) ≡ c ∷ without_cr cs
one_stays c [] h = refl
one_stays c (d ∷ ds) h = by (c == 13) (d == 10) refl refl
  where
    by : (a b : Bool) → (c == 13) ≡ a → (d == 10) ≡ b → cond (a && b) (without_cr (d ∷ ds)) (c ∷ without_cr (d ∷ ds)) ≡ c ∷ without_cr (d ∷ ds)
    by true true e f = absurd (h ((Decides-eqb c 13).0 e) d ds refl ((Decides-eqb d 10).0 f))
    by true false e f = refl
    by false b e f = refl

pub cr_other : (xs : List ℕ) (i : ℕ) → i < length xs → (get_or xs i 0 ≡ 13 → i + 1 < length xs → get_or xs (i + 1) 0 ≡ 10 → ⊥) → without_cr (drop i xs) ≡ get_or xs i 0 ∷ without_cr (drop (i + 1) xs)
cr_other xs i l h = ap without_cr (drop_more xs i 0 l) ∙ one_stays (get_or xs i 0) (drop (i + 1) xs) (λ e d ds k f. h e (inside d ds k) (at d ds k f))
  where
    inside : (d : ℕ) (ds : List ℕ) → drop (i + 1) xs ≡ d ∷ ds → i + 1 < length xs
    inside d ds k = let n = ap length k in omega (arith, length-drop (i + 1) xs)

    at : (d : ℕ) (ds : List ℕ) → drop (i + 1) xs ≡ d ∷ ds → d ≡ 10 → get_or xs (i + 1) 0 ≡ 10
    at d ds k f = let e : drop (i + 1) xs ≡ get_or xs (i + 1) 0 ∷ drop (i + 1 + 1) xs = drop_more xs (i + 1) 0 (inside d ds k) in
        let same : ◌≡◌ {A = List ℕ} (d ∷ ds) (get_or xs (i + 1) 0 ∷ drop (i + 1 + 1) xs) = sym k ∙ e in
        let head : d ≡ get_or xs (i + 1) 0 = cc in sym head ∙ f

pub ruleset byte_laws = (cr_none, cr_pair, cr_other)

pub value_end : (comma : Bool) (cs : List ℕ) → cs ≡ [] → from_value comma cs ≡ Err InputEnd
value_end comma cs e = ap (from_value comma) e

pub ruleset value_laws = (value_end)

pub ruleset word_laws = (value_end)

pub ruleset line_laws = (value_end)

-- ---- words

no_separator : (c : ℕ) → is_gap c ≡ false → (c ≡ 44 → ⊥) → is_separator c ≡ false
no_separator c g h = by (c == 44) refl
  where
    by : (b : Bool) → (c == 44) ≡ b → (is_gap c || c == 44) ≡ false
    by true e = absurd (h ((Decides-eqb c 44).0 e))
    by false e = ap₂ (λ a b. a || b) g e

pub no_line_end : (c : ℕ) → is_gap c ≡ false → c ≡ 10 → ⊥
no_line_end c g e = (let t : is_gap 10 ≡ false = ap is_gap (sym e) ∙ g in cc)

pub word_goes_on : (xs : List ℕ) (start at next c : ℕ) → without_cr (drop at xs) ≡ c ∷ without_cr (drop next xs) → is_gap c ≡ false → (c ≡ 44 → ⊥)
    → after_word (without_cr (drop start xs)) ≡ after_word (without_cr (drop at xs)) → after_word (without_cr (drop start xs)) ≡ after_word (without_cr (drop next xs))
word_goes_on xs start at next c e g h k = k ∙ ap after_word e ∙ ap (λ b. cond b (c ∷ without_cr (drop next xs)) (after_word (without_cr (drop next xs)))) (no_separator c g h)

pub word_grows : (xs : List ℕ) (start at next c : ℕ) → without_cr (drop at xs) ≡ c ∷ without_cr (drop next xs) → is_gap c ≡ false → (c ≡ 44 → ⊥) → start ≤ at → at < length xs → next ≡ at + 1 → c ≡ get_or xs at 0
    → first_word (without_cr (drop start xs)) ≡ take (at - start) (drop start xs) ++ first_word (without_cr (drop at xs))
    → first_word (without_cr (drop start xs)) ≡ take (next - start) (drop start xs) ++ first_word (without_cr (drop next xs))
word_grows xs start at next c e g h l m n f k =
    let rest = first_word (without_cr (drop next xs)) in
    let inside : at - start < length (drop start xs) = omega (arith, length-drop start xs) in
    let one : take (at - start + 1) (drop start xs) ≡ take (at - start) (drop start xs) ++ c ∷ [] =
    take_more (drop start xs) (at - start) 0 inside ∙ ap (λ b. take (at - start) (drop start xs) ++ b ∷ []) (get_or-drop start xs (at - start) 0 ∙ ap (λ k. get_or xs k 0) (let p : start + (at - start) ≡ at = omega arith in p) ∙ sym f) in
    k ∙ ap (λ w. take (at - start) (drop start xs) ++ w) (ap first_word e ∙ ap (λ b. cond b [] (c ∷ rest)) (no_separator c g h))
    ∙ sym (append_assoc (take (at - start) (drop start xs)) (c ∷ []) rest)
    ∙ ap (λ w. w ++ rest) (sym one)
    ∙ ap (λ n. take n (drop start xs) ++ rest) (let p : at - start + 1 ≡ next - start = omega arith in p)
