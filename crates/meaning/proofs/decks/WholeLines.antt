-- The lines of a text with their ends, from the pieces between its line feeds.
use Rattle.std.proofs.Common.{◌≡◌, ◌≢◌, ℕ, Bool, true, false, List, [], ◌∷◌, ◌++◌, length, refl, ap, sym, ◌∙◌, arith, cond}
use Rattle.std.specs.Prelude.{◌==◌}
use Rattle.std.specs.List.{AllByRecursion, onto_first as onto, slice_split}
use Rattle.std.proofs.lemmas.Bool.{ne_eqb, eq-eqb, cond-false}
use Rattle.std.proofs.lemmas.List.Splits.{slice_split_none, slice_split_at}
use Rattle.std.proofs.lemmas.List.Elements.{All-from_recursion}
use Rattle.meaning.specs.Deck.{whole_lines, onto_first}

abbrev pub pieces : ℕ → List ℕ → List (List ℕ)
pieces c text = slice_split (λ b. b == c) text

-- none of the bytes is c
abbrev pub Lacks : ℕ → List ℕ → Type 0
Lacks c text = AllByRecursion (λ b. b ≢ c) text

fails : (c : ℕ) (xs : List ℕ) → Lacks c xs → AllByRecursion (λ b. (b == c) ≡ false) xs
fails c [] h = tt
fails c (x ∷ xs) h = (ne_eqb x c h.0, fails c xs h.1)

pub pieces_none : (c : ℕ) (xs : List ℕ) → Lacks c xs → pieces c xs ≡ xs ∷ []
pieces_none c xs h = slice_split_none (λ b. b == c) xs (All-from_recursion (λ b. (b == c) ≡ false) xs (fails c xs h))

pub pieces_first : (c : ℕ) (xs ys : List ℕ) → Lacks c xs → pieces c (xs ++ c ∷ ys) ≡ xs ∷ pieces c ys
pieces_first c xs ys h = slice_split_at (λ b. b == c) xs c ys (All-from_recursion (λ b. (b == c) ≡ false) xs (fails c xs h)) (eq-eqb c c refl)

-- there is always a first piece
pub pieces_some : (c : ℕ) (text : List ℕ) → (t : List ℕ) × (ts : List (List ℕ)) × (pieces c text ≡ t ∷ ts)
pieces_some c [] = ([], [], refl)
pieces_some c (b ∷ bs) = by (b == c) (pieces_some c bs)
  where
    by : (q : Bool) → ((t : List ℕ) × (ts : List (List ℕ)) × (pieces c bs ≡ t ∷ ts))
        → (t : List ℕ) × (ts : List (List ℕ)) × (cond q ([] ∷ pieces c bs) (onto b (pieces c bs)) ≡ t ∷ ts)
    by true r = ([], pieces c bs, refl)
    by false r = (b ∷ r.0, r.1, ap (onto b) r.2)

abbrev pub with_line_feed : List ℕ → List ℕ
with_line_feed line = line ++ 10 ∷ []

pub whole_first : (line rest : List ℕ) → Lacks 10 line → whole_lines (line ++ 10 ∷ rest) ≡ with_line_feed line ∷ whole_lines rest
whole_first [] rest h = refl
whole_first (c ∷ cs) rest h =
    cond-false (c == 10) ((10 ∷ []) ∷ whole_lines (cs ++ 10 ∷ rest)) (onto_first c (whole_lines (cs ++ 10 ∷ rest))) (ne_eqb c 10 h.0)
    ∙ ap (onto_first c) (whole_first cs rest h.1)

-- the lines with their ends, from the pieces between line feeds
abbrev pub ended : List (List ℕ) → List (List ℕ)
ended [] = []
ended (x ∷ []) = cond (length x == 0) [] (x ∷ [])
ended (x ∷ y ∷ more) = with_line_feed x ∷ ended (y ∷ more)

lone : (c : ℕ) (p : List ℕ) → ended ((c ∷ p) ∷ []) ≡ (c ∷ p) ∷ []
lone c p = cond-false (length (c ∷ p) == 0) [] ((c ∷ p) ∷ []) (ne_eqb (length (c ∷ p)) 0 (λ e. omega arith))

ended-onto : (b : ℕ) (p : List ℕ) (ps : List (List ℕ)) → onto_first b (ended (p ∷ ps)) ≡ ended (onto b (p ∷ ps))
ended-onto b [] [] = sym (lone b [])
ended-onto b (c ∷ p) [] = ap (onto_first b) (lone c p) ∙ sym (lone b (c ∷ p))
ended-onto b p (q ∷ ps) = refl

ended-first : (p : List ℕ) (ps : List (List ℕ)) → (10 ∷ []) ∷ ended (p ∷ ps) ≡ ended ([] ∷ p ∷ ps)
ended-first p ps = refl

pub whole-ended : (bytes : List ℕ) → whole_lines bytes ≡ ended (pieces 10 bytes)
whole-ended [] = refl
whole-ended (b ∷ bs) = by (b == 10) (whole-ended bs) (pieces_some 10 bs)
  where
    by : (q : Bool) → whole_lines bs ≡ ended (pieces 10 bs) → ((t : List ℕ) × (ts : List (List ℕ)) × (pieces 10 bs ≡ t ∷ ts))
        → cond q ((10 ∷ []) ∷ whole_lines bs) (onto_first b (whole_lines bs)) ≡ ended (cond q ([] ∷ pieces 10 bs) (onto b (pieces 10 bs)))
    by true e r = ap (λ t. (10 ∷ []) ∷ t) (e ∙ ap ended r.2) ∙ ap (λ ps. ended ([] ∷ ps)) (sym r.2)
    by false e r = ap (onto_first b) (e ∙ ap ended r.2) ∙ ended-onto b r.0 r.1 ∙ ap (λ ps. ended (onto b ps)) (sym r.2)
