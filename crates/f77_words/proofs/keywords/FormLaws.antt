-- Arithmetic IF, computed and assigned GO TO.
use Rattle.std.proofs.Common.{◌≡◌, ℕ, suc, Bool, true, false, List, [], ◌∷◌, ◌++◌, length, refl, ap, sym, ◌∙◌, subst, append_assoc, append-nil, IsTrue, arith, codes}
use Rattle.std.specs.Prelude.{◌==◌, not, Option, Some, None}
use Rattle.std.proofs.lemmas.List.{map-append}
use Rattle.std.proofs.lemmas.Bool.{eqb-true}
use Rattle.std.proofs.lemmas.Bool.Decides.{nat_tests}
use Rattle.f77_grammar.specs.expressions.Squeezing.{Symbol77, Char}
use Rattle.f77_grammar.specs.expressions.Spelling.{is_letter_or_digit, IsName77, chars77, Stops77}
use Rattle.reading.specs.Characters.{is_letter}
use Rattle.f77_grammar.specs.statements.Forms.{optional_comma}
use Rattle.f77_grammar.specs.statements.Recognition as recognition
use Rattle.f77_grammar.specs.statements.Recognition.{Halves, cut_at_close, AreMoreLabels, AreLabels, IsArithmeticIf, IsComputedGoTo, IsAssignedGoTo}
use Rattle.f77_expressions.specs.Lexing.{strip}
use Rattle.f77_expressions.specs.Symbols.{symbols_of}
use Rattle.f77_expressions.specs.declared.symbols.Symbol.{Symbol as Symbol'}
use Rattle.f77_words.specs.keywords.FormsLeftOut as forms
use Rattle.f77_words.specs.keywords.FormsLeftOut.{AreThreeLabels, without_comma_by, without_comma, AreEnclosed, IsFormLeftOut}
use Rattle.f77_words.specs.keywords.Fronts.{IsNamed, IsLabelList}
use Rattle.f77_words.proofs.keywords.Stripping.{strip_same, stripped}

-- ---- texts of the code without symbols

pub empty_is : (xs : List Symbol') (b : Bool) → b ≡ (length xs == 0) → b ≡ true → symbols_of xs ≡ []
empty_is [] b e h = refl
empty_is (x ∷ xs) b e h = let k : (suc (length xs) == 0) ≡ true = sym e ∙ h in let z : ⊥ = grind (arith, nat_tests) in absurd z

pub is_empty : (xs : List Symbol') (b : Bool) → b ≡ (length xs == 0) → symbols_of xs ≡ [] → b ≡ true
is_empty [] b e h = e
is_empty (x ∷ xs) b e h = let z : ⊥ = cc in absurd z

pub is_some : (xs : List Symbol') (b : Bool) → b ≡ (length xs == 0) → IsTrue (not b) → symbols_of xs ≡ [] → ⊥
is_some xs true e n h = let z : ⊥ = cc in z
is_some xs false e n h = let k : false ≡ true = is_empty xs false e h in let z : ⊥ = cc in z

-- ---- three labels

three_by : (first : List ℕ) (later : List (List ℕ)) (text : List Symbol77) → length later ≡ 2 → AreLabels first later text → AreThreeLabels text
three_by first [] text n h = absurd (omega arith)
three_by first (second ∷ []) text n h = absurd (omega arith)
three_by first (second ∷ (third ∷ [])) text n h = record { first = first; second = second; third = third; labels = h }
three_by first (second ∷ (third ∷ (fourth ∷ more))) text n h = absurd (omega arith)

pub three_found : (text rest : List Symbol77) (others : ℕ) → IsLabelList text others rest → others ≡ 2 → rest ≡ [] → AreThreeLabels text
three_found text rest others h n e =
    let same : h.list ≡ text = sym (h.same ∙ (ap (λ (q : List Symbol77). h.list ++ q) e ∙ append-nil h.list)) in
    three_by h.first h.later text (h.count ∙ n) (subst (AreLabels h.first h.later) same h.labels)

pub three_only : (text : List Symbol77) → AreThreeLabels text → IsLabelList text 2 []
three_only text h = record { first = h.first; later = h.second ∷ (h.third ∷ []); list = text; labels = h.labels; count = refl; same = sym (append-nil text); whole = tt }

-- ---- arithmetic IF

abbrev pub halves : List Symbol77 → List Symbol77 → Option Halves
halves a b = Some (record { inside = a; behind = b })

the_same : (a b : List Symbol77) → Some a ≡ Some b → a ≡ b
the_same a b e = cc

the_same_halves : (h k : Halves) → Some h ≡ Some k → h ≡ k
the_same_halves h k e = cc

pub arithmetic_found : (text opened a b : List Symbol77) → strip (codes "IF(") text ≡ Some opened → halves a b ≡ cut_at_close opened → (a ≡ [] → ⊥) → AreThreeLabels b → IsArithmeticIf text
arithmetic_found text opened a b s c n h = record {
  opened = opened;
  begins = strip_same (codes "IF(") text opened s;
  condition = a;
  rest = b;
  cut = sym c;
  something = n;
  first = h.first;
  second = h.second;
  third = h.third;
  labels = h.labels;
}

pub arithmetic_only : (text opened a b : List Symbol77) → strip (codes "IF(") text ≡ Some opened → halves a b ≡ cut_at_close opened → IsArithmeticIf text → AreThreeLabels b
arithmetic_only text opened a b s c h =
    let o : opened ≡ h.opened = the_same opened h.opened (sym s ∙ stripped (codes "IF(") text h.opened h.begins) in
    let k = the_same_halves (record { inside = h.condition; behind = h.rest }) (record { inside = a; behind = b }) (sym h.cut ∙ (ap cut_at_close (sym o) ∙ sym c)) in
    let r : h.rest ≡ b = ap (λ (q : Halves). q.behind) k in
    subst AreThreeLabels r (let t : AreThreeLabels h.rest = record { first = h.first; second = h.second; third = h.third; labels = h.labels } in t)

-- ---- labels up to a closing parenthesis

pub record IsEnclosed (text rest : List Symbol77) : Type 0 where
  pub first : List ℕ
  pub later : List (List ℕ)
  pub list : List Symbol77
  pub labels : AreLabels first later list
  pub same : text ≡ list ++ Char 41 ∷ rest

pub enclosed_list : (text rest : List Symbol77) (h : IsEnclosed text rest) → IsLabelList text (length h.later) (Char 41 ∷ rest)
enclosed_list text rest h = record { first = h.first; later = h.later; list = h.list; labels = h.labels; count = refl; same = h.same; whole = refl }

pub enclosed_found : (text enclosed rest : List Symbol77) (others : ℕ) → IsLabelList text others enclosed → strip (codes ")") enclosed ≡ Some rest → IsEnclosed text rest
enclosed_found text enclosed rest others h s = record {
  first = h.first;
  later = h.later;
  list = h.list;
  labels = h.labels;
  same = h.same ∙ ap (λ (q : List Symbol77). h.list ++ q) (strip_same (codes ")") enclosed rest s);
}

none_some : (q : List Symbol77) → None ≡ Some q → ⊥
none_some q e = cc

-- no parenthesis behind the labels
pub not_closed : (enclosed rest : List Symbol77) → strip (codes ")") enclosed ≡ None → enclosed ≡ Char 41 ∷ rest → ⊥
not_closed enclosed rest s e = none_some rest (sym s ∙ stripped (codes ")") enclosed rest e)

pub closed_same : (enclosed rest rest' : List Symbol77) → strip (codes ")") enclosed ≡ Some rest → enclosed ≡ Char 41 ∷ rest' → rest ≡ rest'
closed_same enclosed rest rest' s e = the_same rest rest' (sym s ∙ stripped (codes ")") enclosed rest' e)

-- ---- a comma that may be left out

abbrev char_at_first : List Symbol77 → ℕ
char_at_first (Char c ∷ ss) = c
char_at_first ss = 0

not_both : (c d : ℕ) → (c == d) ≡ false → c ≡ d → ⊥
not_both c d n e = let k : (d == d) ≡ false = subst (λ (q : ℕ). (q == d) ≡ false) e n in let m : (d == d) ≡ true = grind (arith, nat_tests) in let z : ⊥ = cc in z

-- a comma that is left out doesn't stand in front
abbrev pub IsTaken : Bool → List Symbol77 → Type 0
IsTaken comma text = comma ≡ false → (rest : List Symbol77) → text ≡ Char 44 ∷ rest → ⊥

pub record HasComma (rest : List Symbol77) : Type 0 where
  pub comma : Bool
  pub same : rest ≡ chars77 (optional_comma comma) ++ without_comma rest
  pub taken : IsTaken comma (without_comma rest)

other_char : (c : ℕ) (ss r : List Symbol77) → (44 == c) ≡ false → Char c ∷ ss ≡ Char 44 ∷ r → ⊥
other_char c ss r e k = not_both 44 c e (sym (ap char_at_first k))

has_comma_by : (b : Bool) (c : ℕ) (ss : List Symbol77) → (44 == c) ≡ b → HasComma (Char c ∷ ss)
has_comma_by true c ss e = let k : 44 ≡ c = eqb-true 44 c e in record { comma = true; same = rw e (ap (λ (q : ℕ). Char q ∷ ss) (sym k)); taken = λ f. let z : ⊥ = cc in absurd z }
has_comma_by false c ss e = record { comma = false; same = rw e refl; taken = λ f r k. other_char c ss r e (sym (ap (λ (b : Bool). without_comma_by b (Char c) ss) e) ∙ k) }

pub has_comma : (rest : List Symbol77) → HasComma rest
has_comma [] = record { comma = false; same = refl; taken = λ f r k. let z : ⊥ = cc in z }
has_comma (Char c ∷ ss) = has_comma_by (44 == c) c ss refl
has_comma (s ∷ ss) = record { comma = false; same = refl; taken = λ f r k. let z : ⊥ = cc in z }

no_comma_by : (b : Bool) (c : ℕ) (ss : List Symbol77) → (44 == c) ≡ b → ((r : List Symbol77) → Char c ∷ ss ≡ Char 44 ∷ r → ⊥) → without_comma_by b (Char c) ss ≡ Char c ∷ ss
no_comma_by true c ss e n = let k : 44 ≡ c = eqb-true 44 c e in absurd (n ss (ap (λ (q : ℕ). Char q ∷ ss) (sym k)))
no_comma_by false c ss e n = refl

no_comma : (text : List Symbol77) → ((r : List Symbol77) → text ≡ Char 44 ∷ r → ⊥) → without_comma text ≡ text
no_comma [] n = refl
no_comma (Char c ∷ ss) n = no_comma_by (44 == c) c ss refl n
no_comma (s ∷ ss) n = refl

pub without_of : (b : Bool) (text : List Symbol77) → IsTaken b text → without_comma (chars77 (optional_comma b) ++ text) ≡ text
without_of true text n = refl
without_of false text n = no_comma text (n refl)

-- ---- computed GO TO

pub computed_enclosed : (text list : List Symbol77) (h : IsComputedGoTo text) → strip (codes "GOTO(") text ≡ Some list → IsEnclosed list (chars77 (optional_comma h.comma) ++ h.index)
computed_enclosed text list h s = record {
  first = h.first;
  later = h.others;
  list = h.list;
  labels = h.labels;
  same = the_same list (h.list ++ (chars77 (codes ")" ++ optional_comma h.comma) ++ h.index)) (sym s ∙ stripped (codes "GOTO(") text _ h.written);
}

pub computed_found : (text list rest : List Symbol77) → strip (codes "GOTO(") text ≡ Some list → IsEnclosed list rest → (without_comma rest ≡ [] → ⊥) → IsComputedGoTo text
computed_found text list rest s e n =
    let c = has_comma rest in
    record {
      list = e.list;
      first = e.first;
      others = e.later;
      labels = e.labels;
      comma = c.comma;
      index = without_comma rest;
      written = strip_same (codes "GOTO(") text list s ∙ ap (λ (q : List Symbol77). chars77 (codes "GOTO(") ++ q) (e.same ∙ ap (λ (q : List Symbol77). e.list ++ Char 41 ∷ q) c.same);
      something = n;
      taken = c.taken;
    }

pub computed_index : (text rest : List Symbol77) (h : IsComputedGoTo text) → rest ≡ chars77 (optional_comma h.comma) ++ h.index → without_comma rest ≡ [] → ⊥
computed_index text rest h e n = h.something (sym (ap without_comma e ∙ without_of h.comma h.index h.taken) ∙ n)

-- ---- labels in parentheses

pub enclosed_of : (text list : List Symbol77) → strip (codes "(") text ≡ Some list → IsEnclosed list [] → AreEnclosed text
enclosed_of text list s e = record {
  first = e.first;
  later = e.later;
  list = e.list;
  labels = e.labels;
  same = strip_same (codes "(") text list s ∙ ap (λ (q : List Symbol77). Char 40 ∷ q) e.same;
}

pub of_enclosed : (text list : List Symbol77) → strip (codes "(") text ≡ Some list → AreEnclosed text → IsEnclosed list []
of_enclosed text list s h = record {
  first = h.first;
  later = h.later;
  list = h.list;
  labels = h.labels;
  same = the_same list (h.list ++ Char 41 ∷ []) (sym s ∙ stripped (codes "(") text _ h.same);
}

pub nothing_behind : (rest : List Symbol77) → rest ≡ [] → (text : List Symbol77) → IsEnclosed text rest → IsEnclosed text []
nothing_behind rest e text h = subst (IsEnclosed text) e h

-- ---- assigned GO TO

enclosed_no_comma : (list r : List Symbol77) → Char 40 ∷ (list ++ Char 41 ∷ []) ≡ Char 44 ∷ r → ⊥
enclosed_no_comma list r e = not_both 40 44 refl (ap char_at_first e)

-- what an assigned GO TO has behind its name
pub record HasName (assigned : List Symbol77) (text : List Symbol77) : Type 0 where
  pub rest : List Symbol77
  pub named : IsNamed assigned rest
  pub holds : (rest ≡ [] → ⊥) → AreEnclosed (without_comma rest)

spread : (name comma : List ℕ) (list : List Symbol77) → chars77 (name ++ (comma ++ codes "(")) ++ list ≡ chars77 name ++ (chars77 comma ++ Char 40 ∷ list)
spread name comma list =
    ap (λ (q : List Symbol77). q ++ list) (map-append Char name (comma ++ codes "(") ∙ ap (λ (q : List Symbol77). chars77 name ++ q) (map-append Char comma (codes "(")))
    ∙ (append_assoc (chars77 name) (chars77 comma ++ Char 40 ∷ []) list ∙ ap (λ (q : List Symbol77). chars77 name ++ q) (append_assoc (chars77 comma) (Char 40 ∷ []) list))

stops_at : (b : Bool) (list : List Symbol77) → Stops77 is_letter_or_digit (chars77 (optional_comma b) ++ Char 40 ∷ list)
stops_at true list = refl
stops_at false list = refl

pub assigned_name : (text assigned : List Symbol77) → strip (codes "GOTO") text ≡ Some assigned → IsAssignedGoTo text → HasName assigned text
assigned_name text assigned s (recognition.Alone name n e) = record {
  rest = [];
  named = record { name = name; is_name = n; same = the_same assigned (chars77 name) (sym s ∙ stripped (codes "GOTO") text (chars77 name) e) ∙ sym (append-nil (chars77 name)); whole = tt };
  holds = λ h. absurd (h refl);
}
assigned_name text assigned s (recognition.WithLabels name comma first others list n l e) =
    let rest = chars77 (optional_comma comma) ++ Char 40 ∷ (list ++ Char 41 ∷ []) in
    let f : assigned ≡ chars77 name ++ (chars77 (optional_comma comma) ++ Char 40 ∷ (list ++ Char 41 ∷ [])) =
    the_same assigned (chars77 (name ++ (optional_comma comma ++ codes "(")) ++ (list ++ Char 41 ∷ [])) (sym s ∙ stripped (codes "GOTO") text _ e) ∙ spread name (optional_comma comma) (list ++ Char 41 ∷ []) in
    record {
      rest = chars77 (optional_comma comma) ++ Char 40 ∷ (list ++ Char 41 ∷ []);
      named = record { name = name; is_name = n; same = f; whole = stops_at comma (list ++ Char 41 ∷ []) };
      holds = λ h. subst AreEnclosed (sym (without_of comma (Char 40 ∷ (list ++ Char 41 ∷ [])) (λ f r k. enclosed_no_comma list r k)))
          (record { first = first; later = others; list = list; labels = l; same = refl });
    }

pub assigned_alone : (text assigned rest : List Symbol77) → strip (codes "GOTO") text ≡ Some assigned → IsNamed assigned rest → rest ≡ [] → IsAssignedGoTo text
assigned_alone text assigned rest s h e =
    recognition.Alone h.name h.is_name
    (strip_same (codes "GOTO") text assigned s
    ∙ ap (λ (q : List Symbol77). chars77 (codes "GOTO") ++ q) (h.same ∙ (ap (λ (q : List Symbol77). chars77 h.name ++ q) e ∙ append-nil (chars77 h.name))))

pub assigned_with_labels : (text assigned rest : List Symbol77) → strip (codes "GOTO") text ≡ Some assigned → IsNamed assigned rest → AreEnclosed (without_comma rest) → IsAssignedGoTo text
assigned_with_labels text assigned rest s h e =
    let c = has_comma rest in
    let f : assigned ≡ chars77 h.name ++ (chars77 (optional_comma c.comma) ++ Char 40 ∷ (e.list ++ Char 41 ∷ [])) =
    h.same ∙ ap (λ (q : List Symbol77). chars77 h.name ++ q) (c.same ∙ ap (λ (q : List Symbol77). chars77 (optional_comma c.comma) ++ q) e.same) in
    recognition.WithLabels h.name c.comma e.first e.later e.list h.is_name e.labels
    (strip_same (codes "GOTO") text assigned s
    ∙ ap (λ (q : List Symbol77). chars77 (codes "GOTO") ++ q) (f ∙ sym (spread h.name (optional_comma c.comma) (e.list ++ Char 41 ∷ []))))

-- ---- a text has one of the forms

abbrev tail : List Symbol77 → List Symbol77
tail [] = []
tail (s ∷ ss) = ss

abbrev fifth : List Symbol77 → ℕ
fifth text = char_at_first (tail (tail (tail (tail text))))

pub not_arithmetic : (text rest : List Symbol77) → text ≡ Char 71 ∷ rest → IsArithmeticIf text → ⊥
not_arithmetic text rest e h = not_both 71 73 refl (ap char_at_first (sym e ∙ h.begins))

assigned_begins : (text : List Symbol77) → IsAssignedGoTo text → (rest : List Symbol77) × (text ≡ Char 71 ∷ rest)
assigned_begins text (recognition.Alone name n e) = (_, e)
assigned_begins text (recognition.WithLabels name comma first others list n l e) = (_, e)

name_fifth : (name : List ℕ) (rest : List Symbol77) → IsName77 name → IsTrue (is_letter (char_at_first (chars77 name ++ rest)))
name_fifth [] rest n = absurd n
name_fifth (c ∷ cs) rest n = n.0

no_parenthesis : (c : ℕ) → is_letter c ≡ true → 40 ≡ c → ⊥
no_parenthesis c h e = let k : is_letter 40 ≡ true = subst (λ (q : ℕ). is_letter q ≡ true) (sym e) h in let z : ⊥ = cc in z

computed_assigned : (text : List Symbol77) → IsComputedGoTo text → IsAssignedGoTo text → ⊥
computed_assigned text h (recognition.Alone name n e) =
    no_parenthesis _ (name_fifth name [] n) (ap fifth (sym h.written ∙ (e ∙ ap (λ (q : List Symbol77). chars77 (codes "GOTO") ++ q) (sym (append-nil (chars77 name))))))
computed_assigned text h (recognition.WithLabels name comma first others list n l e) =
    no_parenthesis _ (name_fifth name (chars77 (optional_comma comma) ++ Char 40 ∷ (list ++ Char 41 ∷ [])) n)
    (ap fifth (sym h.written ∙ (e ∙ ap (λ (q : List Symbol77). chars77 (codes "GOTO") ++ q) (spread name (optional_comma comma) (list ++ Char 41 ∷ [])))))

pub form_of_arithmetic : (text : List Symbol77) (n : ℕ) → IsArithmeticIf text → IsFormLeftOut text n → 32 ≡ n
form_of_arithmetic text n h (forms.ArithmeticIf k) = refl
form_of_arithmetic text n h (forms.ComputedGoTo k) = absurd (not_arithmetic text _ k.written h)
form_of_arithmetic text n h (forms.AssignedGoTo k) = let b = assigned_begins text k in absurd (not_arithmetic text b.0 b.1 h)

pub form_of_computed : (text : List Symbol77) (n : ℕ) → (IsArithmeticIf text → ⊥) → IsComputedGoTo text → IsFormLeftOut text n → 33 ≡ n
form_of_computed text n a h (forms.ArithmeticIf k) = absurd (a k)
form_of_computed text n a h (forms.ComputedGoTo k) = refl
form_of_computed text n a h (forms.AssignedGoTo k) = absurd (computed_assigned text h k)

pub form_of_assigned : (text : List Symbol77) (n : ℕ) → (IsArithmeticIf text → ⊥) → (IsComputedGoTo text → ⊥) → IsFormLeftOut text n → 34 ≡ n
form_of_assigned text n a b (forms.ArithmeticIf k) = absurd (a k)
form_of_assigned text n a b (forms.ComputedGoTo k) = absurd (b k)
form_of_assigned text n a b (forms.AssignedGoTo k) = refl

pub no_form : (text : List Symbol77) (n : ℕ) → (IsArithmeticIf text → ⊥) → (IsComputedGoTo text → ⊥) → (IsAssignedGoTo text → ⊥) → IsFormLeftOut text n → ⊥
no_form text n a b c (forms.ArithmeticIf k) = a k
no_form text n a b c (forms.ComputedGoTo k) = b k
no_form text n a b c (forms.AssignedGoTo k) = c k
