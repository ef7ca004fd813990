-- The scan finds the symbols, and no others.
use Rattle.std.proofs.Common.{arith, ◌≡◌, ℕ, length, drop, get_or, ◌<◌, ◌+◌, Bool, true, false, cond, Option, Some, None, List, [], ◌∷◌, ◌++◌, refl, ap, sym, ◌∙◌, subst, append_assoc, append-nil}
use Rattle.std.specs.Prelude.{◌==◌}
use Rattle.std.proofs.lemmas.Bool.{eqb-true, cond-false}
use Rattle.std.proofs.lemmas.List.{drop_more, map_push}
use Rattle.f90_grammar.specs.Words.{Symbol90, Char, Gap, Text, Symbols, IsInLine}
use Rattle.reading.specs.Characters.{upper, doubled, doubled_one, IsEnded}
use Rattle.f90_grammar.specs.Words.Symbols.{nothing, blank, line_end, character, constant}
use Rattle.f90_expressions.specs.declared.words.symbols.Symbol as code
use Rattle.f90_expressions.specs.words.Symbols.{symbol_of, symbols_of}
use Rattle.f90_expressions.specs.words.Scanning.{Mode, Out, In, Closing, shown, with_front, scan_out, closed, scan_closing, scan_one, scan_end, scan}

-- ---- symbols before the rest

pub front_none : (rest : Option (List Symbol90)) → with_front [] rest ≡ rest
front_none (Some r) = refl
front_none None = refl

front_more : (ss : List Symbol90) (s : Symbol90) (rest : Option (List Symbol90)) → with_front ss (with_front (s ∷ []) rest) ≡ with_front (ss ++ s ∷ []) rest
front_more ss s (Some r) = ap Some (sym (append_assoc ss (s ∷ []) r))
front_more ss s None = refl

pub front_push : (old new : List code.Symbol) (s : code.Symbol) (t : Symbol90) (rest : Option (List Symbol90)) → new ≡ old ++ s ∷ [] → symbol_of s ≡ t
    → with_front (symbols_of old) (with_front (t ∷ []) rest) ≡ with_front (symbols_of new) rest
front_push old new s t rest e f =
    ap (λ (x : Symbol90). with_front (symbols_of old) (with_front (x ∷ []) rest)) (sym f)
    ∙ (front_more (symbols_of old) (symbol_of s) rest
    ∙ ap (λ (ss : List Symbol90). with_front ss rest) (sym (ap symbols_of e ∙ map_push symbol_of old s)))

-- a character outside constants is one more symbol
pub out_more : (old new : List code.Symbol) (s : code.Symbol) (c : ℕ) (on : Mode → Option (List Symbol90)) → (c == 39) ≡ false → symbol_of s ≡ shown c
    → new ≡ old ++ s ∷ [] → with_front (symbols_of old) (scan_out c on) ≡ with_front (symbols_of new) (on Out)
out_more old new s c on h e f =
    ap (with_front (symbols_of old)) (cond-false (c == 39) (on (In [])) (with_front (shown c ∷ []) (on Out)) h)
    ∙ front_push old new s (shown c) (on Out) f e

-- a constant is closed
closed_is : (t : List ℕ) (rest : Option (List Symbol90)) → (length t == 0) ≡ false → closed t rest ≡ with_front (Text t ∷ []) rest
closed_is [] rest h = absurd (cc)
closed_is (c ∷ t) rest h = refl

closed_none : (t : List ℕ) (rest : Option (List Symbol90)) → (length t == 0) ≡ true → closed t rest ≡ None
closed_none [] rest h = refl
closed_none (c ∷ t) rest h = absurd (let e : length (c ∷ t) ≡ 0 = eqb-true (length (c ∷ t)) 0 h in omega (arith, e))

pub closing_more : (old new : List code.Symbol) (t : List ℕ) (c : ℕ) (on : Mode → Option (List Symbol90)) (last : List code.Symbol) (m : Mode)
    → (c == 39) ≡ false → (length t == 0) ≡ false → new ≡ old ++ code.TheVariants.Text t ∷ []
    → ((go : Mode → Option (List Symbol90)) → with_front (symbols_of new) (scan_out c go) ≡ with_front (symbols_of last) (go m))
    → with_front (symbols_of old) (scan_closing t c on) ≡ with_front (symbols_of last) (on m)
closing_more old new t c on last m h k e further =
    ap (with_front (symbols_of old)) (cond-false (c == 39) (on (In (t ++ c ∷ []))) (closed t (scan_out c on)) h ∙ closed_is t (scan_out c on) k)
    ∙ (front_push old new (code.TheVariants.Text t) (Text t) (scan_out c on) e refl ∙ further on)

pub closing_stops : (t : List ℕ) (c : ℕ) (on : Mode → Option (List Symbol90)) → (c == 39) ≡ false → (length t == 0) ≡ true → scan_closing t c on ≡ None
closing_stops t c on h k =
    cond-false (c == 39) (on (In (t ++ c ∷ []))) (closed t (scan_out c on)) h ∙ closed_none t (scan_out c on) k

pub closing_none : (t : List ℕ) (c : ℕ) (on : Mode → Option (List Symbol90)) → (c == 39) ≡ false
    → ((go : Mode → Option (List Symbol90)) → scan_out c go ≡ None) → scan_closing t c on ≡ None
closing_none t c on h e =
    cond-false (c == 39) (on (In (t ++ c ∷ []))) (closed t (scan_out c on)) h ∙ (ap (closed t) (e on) ∙ none t)
  where
    none : (t : List ℕ) → closed t None ≡ None
    none [] = refl
    none (d ∷ t) = refl

pub end_closed : (old new : List code.Symbol) (t : List ℕ) → (length t == 0) ≡ false → new ≡ old ++ code.TheVariants.Text t ∷ []
    → with_front (symbols_of old) (scan_end (Closing t)) ≡ Some (symbols_of new)
end_closed old new t k e =
    ap (with_front (symbols_of old)) (closed_is t (Some []) k)
    ∙ (front_push old new (code.TheVariants.Text t) (Text t) (Some []) e refl ∙ ap Some (append-nil (symbols_of new)))

pub end_stops : (old : List code.Symbol) (t : List ℕ) → (length t == 0) ≡ true → with_front (symbols_of old) (scan_end (Closing t)) ≡ None
end_stops old t k = ap (with_front (symbols_of old)) (closed_none t (Some []) k)

pub end_out : (old : List code.Symbol) → with_front (symbols_of old) (scan_end Out) ≡ Some (symbols_of old)
end_out old = ap Some (append-nil (symbols_of old))

pub ruleset fronts = (front_none, out_more, closing_more, closing_stops, closing_none, end_closed, end_stops, end_out)

-- ---- the scan of a list from a place on

pub scan_more : (chars : List ℕ) (i c : ℕ) (m : Mode) → i < length chars → c ≡ get_or chars i 0
    → scan (drop i chars) m ≡ scan_one m c (scan (drop (i + 1) chars))
scan_more chars i c m l at =
    ap (λ (us : List ℕ). scan us m) (drop_more chars i 0 l ∙ ap (λ (x : ℕ). x ∷ drop (i + 1) chars) (sym at))

-- ---- all symbols are found

inside_one : (b : Bool) (c : ℕ) (t rest : List ℕ) → (c == 39) ≡ b → (c == 10) ≡ false → scan (doubled_one b c ++ rest) (In t) ≡ scan rest (In (t ++ c ∷ []))
inside_one true c t rest e f = rw e refl
inside_one false c t rest e f = rw (e, f) refl

inside : (t u rest : List ℕ) → IsInLine u → scan (doubled u ++ rest) (In t) ≡ scan rest (In (t ++ u))
inside t [] rest h = ap (λ (q : List ℕ). scan rest (In q)) (sym (append-nil t))
inside t (c ∷ u) rest h =
    ap (λ (q : List ℕ). scan q (In t)) (append_assoc (doubled_one (c == 39) c) (doubled u) rest)
    ∙ (inside_one (c == 39) c t (doubled u ++ rest) refl h.0
    ∙ (inside (t ++ c ∷ []) u rest h.1 ∙ ap (λ (q : List ℕ). scan rest (In q)) (append_assoc t (c ∷ []) u)))

ended : (c : ℕ) (t cs : List ℕ) → IsEnded cs → scan cs (Closing (c ∷ t)) ≡ with_front (Text (c ∷ t) ∷ []) (scan cs Out)
ended c t [] h = refl
ended c t (d ∷ cs) h = rw h refl

pub symbols_only : {cs : List ℕ} {ss : List Symbol90} → Symbols cs ss → scan cs Out ≡ Some ss
symbols_only nothing = refl
symbols_only (blank h) = ap (with_front (Gap ∷ [])) (symbols_only h)
symbols_only (line_end h) = ap (with_front (Gap ∷ [])) (symbols_only h)
symbols_only (character c b e q h) = rw (q, b, e) (ap (with_front (Char (upper c) ∷ [])) (symbols_only h))
symbols_only (constant c t {cs = cs} l e h) =
    inside [] (c ∷ t) (39 ∷ cs) l ∙ (ended c t cs e ∙ ap (with_front (Text (c ∷ t) ∷ [])) (symbols_only h))

-- ---- what is found are symbols

-- what has been read of a constant
abbrev before : Mode → List ℕ → List ℕ
before Out cs = cs
before (In t) cs = 39 ∷ (doubled t ++ cs)
before (Closing t) cs = 39 ∷ (doubled t ++ 39 ∷ cs)

abbrev IsClean : Mode → Type 0
IsClean Out = Unit {0}
IsClean (In t) = IsInLine t
IsClean (Closing t) = IsInLine t

pushed : (b : Bool) (t : List ℕ) (c : ℕ) (cs : List ℕ) → (c == 39) ≡ b → doubled (t ++ c ∷ []) ++ cs ≡ doubled t ++ (doubled_one b c ++ cs)
pushed b [] c cs e = rw e (ap (λ (q : List ℕ). q ++ cs) (append-nil (doubled_one b c)))
pushed b (d ∷ t) c cs e =
    append_assoc (doubled_one (d == 39) d) (doubled (t ++ c ∷ [])) cs
    ∙ (ap (λ (q : List ℕ). doubled_one (d == 39) d ++ q) (pushed b t c cs e) ∙ sym (append_assoc (doubled_one (d == 39) d) (doubled t) (doubled_one b c ++ cs)))

line_more : (t : List ℕ) (c : ℕ) → IsInLine t → (c == 10) ≡ false → IsInLine (t ++ c ∷ [])
line_more [] c h e = (e, tt)
line_more (d ∷ t) c h e = (h.0, line_more t c h.1 e)

along : {a b : List ℕ} (ss : List Symbol90) → a ≡ b → Symbols a ss → Symbols b ss
along ss e h = subst (λ (q : List ℕ). Symbols q ss) e h

record Behind (front : List Symbol90) (rest : Option (List Symbol90)) (ss : List Symbol90) : Type 0 where
  pub more : List Symbol90
  pub is : rest ≡ Some more
  pub same : front ++ more ≡ ss

behind_front : (front : List Symbol90) (rest : Option (List Symbol90)) (ss : List Symbol90) → with_front front rest ≡ Some ss → Behind front rest ss
behind_front front None ss e = absurd (cc)
behind_front front (Some r) ss e = record { more = r; is = refl; same = cc }

abbrev Each : List ℕ → Type 0
Each cs = (m : Mode) (ss : List Symbol90) → IsClean m → scan cs m ≡ Some ss → Symbols (before m cs) ss

shown_by : (a b : Bool) (c : ℕ) (cs : List ℕ) (ss : List Symbol90) → (c == 32) ≡ a → (c == 10) ≡ b → (c == 39) ≡ false → Symbols cs ss
    → Symbols (c ∷ cs) (cond a Gap (cond b Gap (Char (upper c))) ∷ ss)
shown_by true b c cs ss e f g h = along _ (ap (λ (q : ℕ). q ∷ cs) (sym (eqb-true c 32 e))) (blank h)
shown_by false true c cs ss e f g h = along _ (ap (λ (q : ℕ). q ∷ cs) (sym (eqb-true c 10 f))) (line_end h)
shown_by false false c cs ss e f g h = character c e f g h

out_by : (a : Bool) (c : ℕ) (cs : List ℕ) (ss : List Symbol90) → (c == 39) ≡ a → Each cs
    → cond a (scan cs (In [])) (with_front (shown c ∷ []) (scan cs Out)) ≡ Some ss → Symbols (c ∷ cs) ss
out_by true c cs ss e each h = along ss (ap (λ (q : ℕ). q ∷ cs) (sym (eqb-true c 39 e))) (each (In []) ss tt h)
out_by false c cs ss e each h =
    let b = behind_front (shown c ∷ []) (scan cs Out) ss h in
    subst (Symbols (c ∷ cs)) b.same (shown_by (c == 32) (c == 10) c cs b.more refl refl e (each Out b.more tt b.is))

in_by : (a b : Bool) (t : List ℕ) (c : ℕ) (cs : List ℕ) (ss : List Symbol90) → (c == 39) ≡ a → (c == 10) ≡ b → IsInLine t → Each cs
    → cond a (scan cs (Closing t)) (cond b None (scan cs (In (t ++ c ∷ [])))) ≡ Some ss → Symbols (39 ∷ (doubled t ++ c ∷ cs)) ss
in_by true b t c cs ss e f l each h =
    along ss (ap (λ (q : ℕ). 39 ∷ (doubled t ++ q ∷ cs)) (sym (eqb-true c 39 e))) (each (Closing t) ss l h)
in_by false true t c cs ss e f l each h = absurd (cc)
in_by false false t c cs ss e f l each h =
    along ss (ap (λ (q : List ℕ). 39 ∷ q) (pushed false t c cs e)) (each (In (t ++ c ∷ [])) ss (line_more t c l f) h)

no_end : (c : ℕ) → (c == 39) ≡ true → (c == 10) ≡ false
no_end c e = let w : c ≡ 39 = eqb-true c 39 e in ap (λ (x : ℕ). x == 10) w

shut : (t : List ℕ) (c : ℕ) (cs : List ℕ) (ss : List Symbol90) → (c == 39) ≡ false → IsInLine t → closed t (scan_out c (scan cs)) ≡ Some ss → Each cs
    → Symbols (39 ∷ (doubled t ++ 39 ∷ (c ∷ cs))) ss
shut [] c cs ss e l h each = absurd (cc)
shut (d ∷ t) c cs ss e l h each =
    let b = behind_front (Text (d ∷ t) ∷ []) (scan_out c (scan cs)) ss h in
    subst (Symbols (39 ∷ (doubled (d ∷ t) ++ 39 ∷ (c ∷ cs)))) b.same
    (constant d t l e (out_by (c == 39) c cs b.more refl each b.is))

closing_by : (a : Bool) (t : List ℕ) (c : ℕ) (cs : List ℕ) (ss : List Symbol90) → (c == 39) ≡ a → IsInLine t → Each cs
    → cond a (scan cs (In (t ++ c ∷ []))) (closed t (scan_out c (scan cs))) ≡ Some ss → Symbols (39 ∷ (doubled t ++ 39 ∷ (c ∷ cs))) ss
closing_by true t c cs ss e l each h =
    along ss (ap (λ (q : List ℕ). 39 ∷ q) (pushed true t c cs e ∙ ap (λ (q : ℕ). doubled t ++ q ∷ (c ∷ cs)) (eqb-true c 39 e)))
    (each (In (t ++ c ∷ [])) ss (line_more t c l (no_end c e)) h)
closing_by false t c cs ss e l each h = shut t c cs ss e l h each

at_end : (m : Mode) (ss : List Symbol90) → IsClean m → scan_end m ≡ Some ss → Symbols (before m []) ss
at_end Out ss l h = let e : [] ≡ ss = cc in subst (Symbols []) e nothing
at_end (In t) ss l h = absurd (cc)
at_end (Closing []) ss l h = absurd (cc)
at_end (Closing (c ∷ t)) ss l h =
    let e : Text (c ∷ t) ∷ [] ≡ ss = cc in subst (Symbols (39 ∷ (doubled (c ∷ t) ++ 39 ∷ []))) e (constant c t l tt nothing)

each : (cs : List ℕ) → Each cs
each [] m ss l h = at_end m ss l h
each (c ∷ cs) Out ss l h = out_by (c == 39) c cs ss refl (each cs) h
each (c ∷ cs) (In t) ss l h = in_by (c == 39) (c == 10) t c cs ss refl refl l (each cs) h
each (c ∷ cs) (Closing t) ss l h = closing_by (c == 39) t c cs ss refl l (each cs) h

pub symbols_found : (cs : List ℕ) (ss : List Symbol90) → scan cs Out ≡ Some ss → Symbols cs ss
symbols_found cs ss h = each cs Out ss tt h
