-- A text is cut symbol by symbol.
use Rattle.std.proofs.Common.{◌≡◌, ℕ, zero, suc, ◌+◌, ◌-◌, ◌<◌, ◌≤◌, Option, Some, None, List, [], ◌∷◌, ◌++◌, take, drop, length, get_or, refl, sym, ap, ◌∙◌, arith, add-one, append_assoc, append-nil, subst, length-drop}
use Rattle.std.proofs.Math.ListN.{get_or-map}
use Rattle.std.proofs.Math.Seq.{take-suc, drop-cons}
use Rattle.std.proofs.lemmas.List.{drop_all, take_all, take-map, drop-map, length-map}
use Rattle.f77_grammar.specs.expressions.Squeezing.{Symbol77}
use Rattle.f77_grammar.specs.statements.Recognition.{Halves, Bracket, Opening, Closing, Neither, bracket_of, with_symbol, cut_by, cut_from, cut_at_close}
use Rattle.f77_expressions.specs.declared.symbols.Symbol.{Symbol as Symbol'}
use Rattle.f77_expressions.specs.Symbols.{symbol_of, symbols_of}

-- a cut with more text in front
abbrev pub prefixed : List Symbol77 → Option Halves → Option Halves
prefixed front None = None
prefixed front (Some h) = Some (record { inside = front ++ h.inside; behind = h.behind })

pub prefixed_push : (front : List Symbol77) (s : Symbol77) (o : Option Halves) → prefixed front (with_symbol s o) ≡ prefixed (front ++ s ∷ []) o
prefixed_push front s None = refl
prefixed_push front s (Some h) =
    ap (λ (q : List Symbol77). let w : Halves = record { inside = q; behind = h.behind } in Some w) (sym (append_assoc front (s ∷ []) h.inside))

pub prefixed_nothing : (o : Option Halves) → prefixed [] o ≡ o
prefixed_nothing None = refl
prefixed_nothing (Some h) = refl

-- ---- symbols of the code

pub symbols_at : (xs : List Symbol') (i : ℕ) (x : Symbol') → i < length xs → x ≡ get_or xs i x → drop i (symbols_of xs) ≡ symbol_of x ∷ drop (i + 1) (symbols_of xs)
symbols_at xs i x h e =
    let l : i < length (symbols_of xs) = rw (length-map xs symbol_of) h in
    let k : get_or (symbols_of xs) i (symbol_of x) ≡ symbol_of x = get_or-map symbol_of xs i x ∙ ap symbol_of (sym e) in
    rw (add-one, drop-cons (symbols_of xs) i (symbol_of x) l, k) refl

pub symbols_to : (xs : List Symbol') (i : ℕ) (x : Symbol') → i < length xs → x ≡ get_or xs i x → take (i + 1) (symbols_of xs) ≡ take i (symbols_of xs) ++ symbol_of x ∷ []
symbols_to xs i x h e =
    let l : i < length (symbols_of xs) = rw (length-map xs symbol_of) h in
    let k : get_or (symbols_of xs) i (symbol_of x) ≡ symbol_of x = get_or-map symbol_of xs i x ∙ ap symbol_of (sym e) in
    rw (add-one, take-suc (symbols_of xs) i (symbol_of x) l, k) refl

halves : {a b c d : List Symbol77} → a ≡ b → c ≡ d → Some (let h : Halves = record { inside = a; behind = c } in h) ≡ Some (let h : Halves = record { inside = b; behind = d } in h)
halves {b = b} {c = c} e f =
    ap (λ (q : List Symbol77). let h : Halves = record { inside = q; behind = c } in Some h) e ∙ ap (λ (q : List Symbol77). let h : Halves = record { inside = b; behind = q } in Some h) f

-- ---- the cut so far

-- the text in front of the i-th symbol belongs inside, and so many parentheses are open there
pub record IsCutTo (text : List Symbol77) (i opened : ℕ) : Type 0 where
  pub same : cut_at_close text ≡ prefixed (take i text) (cut_from (drop i text) opened)

pub cut_begun : (text : List Symbol77) → IsCutTo text 0 0
cut_begun text = record { same = sym (prefixed_nothing (cut_at_close text)) }

cut_here : (xs : List Symbol') (i opened : ℕ) (x : Symbol') (b : Bracket) → i < length xs → x ≡ get_or xs i x → b ≡ bracket_of (symbol_of x) → IsCutTo (symbols_of xs) i opened
    → cut_at_close (symbols_of xs) ≡ prefixed (take i (symbols_of xs)) (cut_by b (symbol_of x) (drop (i + 1) (symbols_of xs)) (cut_from (drop (i + 1) (symbols_of xs))) opened)
cut_here xs i opened x b h e f cut =
    cut.same ∙ (ap (λ (q : List Symbol77). prefixed (take i (symbols_of xs)) (cut_from q opened)) (symbols_at xs i x h e)
    ∙ ap (λ (q : Bracket). prefixed (take i (symbols_of xs)) (cut_by q (symbol_of x) (drop (i + 1) (symbols_of xs)) (cut_from (drop (i + 1) (symbols_of xs))) opened)) (sym f))

cut_push : (xs : List Symbol') (i opened : ℕ) (x : Symbol') → i < length xs → x ≡ get_or xs i x
    → cut_at_close (symbols_of xs) ≡ prefixed (take i (symbols_of xs)) (with_symbol (symbol_of x) (cut_from (drop (i + 1) (symbols_of xs)) opened)) → IsCutTo (symbols_of xs) (i + 1) opened
cut_push xs i opened x h e same = record {
  same = same ∙ (prefixed_push (take i (symbols_of xs)) (symbol_of x) (cut_from (drop (i + 1) (symbols_of xs)) opened)
      ∙ ap (λ (q : List Symbol77). prefixed q (cut_from (drop (i + 1) (symbols_of xs)) opened)) (sym (symbols_to xs i x h e)));
}

pub cut_opening : (xs : List Symbol') (i opened : ℕ) (x : Symbol') → i < length xs → x ≡ get_or xs i x → Opening ≡ bracket_of (symbol_of x) → IsCutTo (symbols_of xs) i opened
    → IsCutTo (symbols_of xs) (i + 1) (opened + 1)
cut_opening xs i opened x h e f cut = cut_push xs i (opened + 1) x h e (rw (add-one opened) (cut_here xs i opened x Opening h e f cut))

closing_here : (text : List Symbol77) (s : Symbol77) (front ss : List Symbol77) (opened : ℕ) → (opened ≡ 0 → ⊥) → cut_at_close text ≡ prefixed front (cut_by Closing s ss (cut_from ss) opened)
    → cut_at_close text ≡ prefixed front (with_symbol s (cut_from ss (opened - 1)))
closing_here text s front ss zero n h = absurd (n refl)
closing_here text s front ss (suc k) n h = let e : suc k - 1 ≡ k = omega arith in rw e h

pub cut_closing : (xs : List Symbol') (i opened : ℕ) (x : Symbol') → i < length xs → x ≡ get_or xs i x → Closing ≡ bracket_of (symbol_of x) → (opened ≡ 0 → ⊥) → IsCutTo (symbols_of xs) i opened
    → IsCutTo (symbols_of xs) (i + 1) (opened - 1)
cut_closing xs i opened x h e f n cut = cut_push xs i (opened - 1) x h e (closing_here (symbols_of xs) (symbol_of x) _ _ opened n (cut_here xs i opened x Closing h e f cut))

pub cut_neither : (xs : List Symbol') (i opened : ℕ) (x : Symbol') → i < length xs → x ≡ get_or xs i x → Neither ≡ bracket_of (symbol_of x) → IsCutTo (symbols_of xs) i opened
    → IsCutTo (symbols_of xs) (i + 1) opened
cut_neither xs i opened x h e f cut = cut_push xs i opened x h e (cut_here xs i opened x Neither h e f cut)

pub cut_found : (xs : List Symbol') (i opened : ℕ) (x : Symbol') → i < length xs → x ≡ get_or xs i x → Closing ≡ bracket_of (symbol_of x) → opened ≡ 0 → IsCutTo (symbols_of xs) i opened
    → Some (record { inside = symbols_of (take i xs); behind = symbols_of (take (length xs - (i + 1)) (drop (i + 1) xs)) }) ≡ cut_at_close (symbols_of xs)
cut_found xs i opened x h e f z cut =
    let here = cut_here xs i 0 x Closing h e f (subst (λ (n : ℕ). IsCutTo (symbols_of xs) i n) z cut) in
    let front : symbols_of (take i xs) ≡ take i (symbols_of xs) ++ [] = sym (take-map symbol_of i xs) ∙ sym (append-nil (take i (symbols_of xs))) in
    let l : length (drop (i + 1) xs) ≤ length xs - (i + 1) = omega (arith, length-drop (i + 1) xs) in
    let back : symbols_of (take (length xs - (i + 1)) (drop (i + 1) xs)) ≡ drop (i + 1) (symbols_of xs) =
    ap symbols_of (take_all (length xs - (i + 1)) (drop (i + 1) xs) l) ∙ sym (drop-map symbol_of (i + 1) xs) in
    halves front back ∙ sym here

pub cut_nowhere : (xs : List Symbol') (i opened : ℕ) → length xs ≤ i → IsCutTo (symbols_of xs) i opened → None ≡ cut_at_close (symbols_of xs)
cut_nowhere xs i opened h cut =
    let l : length (symbols_of xs) ≤ i = rw (length-map xs symbol_of) h in
    sym (cut.same ∙ ap (λ (q : List Symbol77). prefixed (take i (symbols_of xs)) (cut_from q opened)) (drop_all i (symbols_of xs) l))
