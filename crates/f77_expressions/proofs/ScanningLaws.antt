-- The function gives the symbols, and no others.
use Rattle.std.proofs.Common.{◌≡◌, ◌≤◌, ℕ, length, drop, Bool, true, false, List, [], ◌∷◌, ◌++◌, refl, ap, sym, ◌∙◌, subst, append_assoc, append-nil}
use Rattle.std.specs.Prelude.{◌==◌}
use Rattle.std.proofs.lemmas.Bool.{eqb-true}
use Rattle.std.proofs.lemmas.List.{drop_all}
use Rattle.f77_grammar.specs.expressions.Squeezing.{Symbol77, Char, Text, Broken, Squeezed, nothing, blank, character, constant, empty, endless}
use Rattle.reading.specs.Characters.{upper, doubled_one, doubled, IsEnded}
use Rattle.f77_expressions.specs.Scanning.{Mode, Out, In, Closing, closed, scan_out, scan_in, scan_closing, scan}

-- in a constant, its doubled text is taken in
taken_one : (b : Bool) (c : ℕ) (t rest : List ℕ) → (c == 39) ≡ b → scan (doubled_one b c ++ rest) (In t) ≡ scan rest (In (t ++ c ∷ []))
taken_one true c t rest e = rw e (rw e refl)
taken_one false c t rest e = rw e refl

taken : (t u rest : List ℕ) → scan (doubled u ++ rest) (In t) ≡ scan rest (In (t ++ u))
taken t [] rest = ap (λ (q : List ℕ). scan rest (In q)) (sym (append-nil t))
taken t (c ∷ u) rest =
    ap (λ (q : List ℕ). scan q (In t)) (append_assoc (doubled_one (c == 39) c) (doubled u) rest)
    ∙ (taken_one (c == 39) c t (doubled u ++ rest) refl
    ∙ (taken (t ++ c ∷ []) u rest ∙ ap (λ (q : List ℕ). scan rest (In q)) (append_assoc t (c ∷ []) u)))

ended : (t cs : List ℕ) → IsEnded cs → scan cs (Closing t) ≡ closed t ∷ scan cs Out
ended t [] h = refl
ended t (c ∷ cs) h = rw h refl

pub only : {cs : List ℕ} {ss : List Symbol77} → Squeezed cs ss → scan cs Out ≡ ss
only nothing = refl
only (blank h) = only h
only (character c b q h) = rw (q, b) (ap (λ (r : List Symbol77). Char (upper c) ∷ r) (only h))
only (constant c t {cs = cs} e h) =
    taken [] (c ∷ t) (39 ∷ cs) ∙ (ended (c ∷ t) cs e ∙ ap (λ (r : List Symbol77). Text (c ∷ t) ∷ r) (only h))
only (empty {cs = cs} e h) = ended [] cs e ∙ ap (λ (r : List Symbol77). Broken ∷ r) (only h)
only (endless t) = ap (λ (q : List ℕ). scan q (In [])) (sym (append-nil (doubled t))) ∙ taken [] t []

-- what has been read of a constant
abbrev before : Mode → List ℕ → List ℕ
before Out cs = cs
before (In t) cs = 39 ∷ (doubled t ++ cs)
before (Closing t) cs = 39 ∷ (doubled t ++ 39 ∷ cs)

pushed : (b : Bool) (t : List ℕ) (c : ℕ) (cs : List ℕ) → (c == 39) ≡ b → doubled (t ++ c ∷ []) ++ cs ≡ doubled t ++ (doubled_one b c ++ cs)
pushed b [] c cs e = rw e (ap (λ (q : List ℕ). q ++ cs) (append-nil (doubled_one b c)))
pushed b (d ∷ t) c cs e =
    append_assoc (doubled_one (d == 39) d) (doubled (t ++ c ∷ [])) cs
    ∙ (ap (λ (q : List ℕ). doubled_one (d == 39) d ++ q) (pushed b t c cs e) ∙ sym (append_assoc (doubled_one (d == 39) d) (doubled t) (doubled_one b c ++ cs)))

along : {a b : List ℕ} (ss : List Symbol77) → a ≡ b → Squeezed a ss → Squeezed b ss
along ss e h = subst (λ (q : List ℕ). Squeezed q ss) e h

closes : (t cs : List ℕ) (ss : List Symbol77) → IsEnded cs → Squeezed cs ss → Squeezed (39 ∷ (doubled t ++ 39 ∷ cs)) (closed t ∷ ss)
closes [] cs ss e h = empty e h
closes (c ∷ t) cs ss e h = constant c t e h

abbrev Each : List ℕ → Type 0
Each cs = ((m : Mode) → Squeezed (before m cs) (scan cs m))

out_by : (a b : Bool) (c : ℕ) (cs : List ℕ) → (c == 39) ≡ a → (c == 32) ≡ b → Each cs → Squeezed (c ∷ cs) (scan_out a b c (scan cs))
out_by true b c cs e f each = along _ (ap (λ (q : ℕ). q ∷ cs) (sym (eqb-true c 39 e))) (each (In []))
out_by false true c cs e f each = along _ (ap (λ (q : ℕ). q ∷ cs) (sym (eqb-true c 32 f))) (blank (each Out))
out_by false false c cs e f each = character c f e (each Out)

in_by : (a : Bool) (t : List ℕ) (c : ℕ) (cs : List ℕ) → (c == 39) ≡ a → Each cs → Squeezed (39 ∷ (doubled t ++ c ∷ cs)) (scan_in a t c (scan cs))
in_by true t c cs e each = along _ (ap (λ (q : ℕ). 39 ∷ (doubled t ++ q ∷ cs)) (sym (eqb-true c 39 e))) (each (Closing t))
in_by false t c cs e each = along _ (ap (λ (q : List ℕ). 39 ∷ q) (pushed false t c cs e)) (each (In (t ++ c ∷ [])))

closing_by : (a : Bool) (t : List ℕ) (c : ℕ) (cs : List ℕ) → (c == 39) ≡ a → Each cs → Squeezed (39 ∷ (doubled t ++ 39 ∷ (c ∷ cs))) (scan_closing a t c (scan cs))
closing_by true t c cs e each =
    along _ (ap (λ (q : List ℕ). 39 ∷ q) (pushed true t c cs e ∙ ap (λ (q : ℕ). doubled t ++ q ∷ (c ∷ cs)) (eqb-true c 39 e))) (each (In (t ++ c ∷ [])))
closing_by false t c cs e each = closes t (c ∷ cs) _ e (out_by false (c == 32) c cs e refl each)

each : (cs : List ℕ) → Each cs
each [] Out = nothing
each [] (In t) = along _ (ap (λ (q : List ℕ). 39 ∷ q) (sym (append-nil (doubled t)))) (endless t)
each [] (Closing t) = closes t [] [] tt nothing
each (c ∷ cs) Out = out_by (c == 39) (c == 32) c cs refl refl (each cs)
each (c ∷ cs) (In t) = in_by (c == 39) t c cs refl (each cs)
each (c ∷ cs) (Closing t) = closing_by (c == 39) t c cs refl (each cs)

pub squeezed : (cs : List ℕ) → Squeezed cs (scan cs Out)
squeezed cs = each cs Out

-- the scan at its end
pub scanned : (chars : List ℕ) (n : ℕ) (before after : List Symbol77) (m : Mode) → length chars ≤ n → scan chars Out ≡ before ++ scan (drop n chars) m
    → before ++ scan [] m ≡ after → scan chars Out ≡ after
scanned chars n before after m h e f = e ∙ (ap (λ (q : List ℕ). before ++ scan q m) (drop_all n chars h) ∙ f)

pub squeezed_as : (chars : List ℕ) (ss : List Symbol77) → scan chars Out ≡ ss → Squeezed chars ss
squeezed_as chars ss e = subst (Squeezed chars) e (squeezed chars)
