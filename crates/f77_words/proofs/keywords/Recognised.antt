-- How a statement is recognised follows from its form.
use Rattle.std.proofs.Common.{◌≡◌, ℕ, Bool, true, false, List, [], ◌∷◌, ◌++◌, refl, ap, sym, ◌∙◌, subst, append_assoc, append-nil, inl, inr, codes, IsTrue, arith}
use Rattle.std.specs.Prelude.{Option, Some, ◌||◌, ◌==◌, ◌⊎◌}
use Rattle.std.proofs.lemmas.List.{map-append}
use Rattle.std.proofs.lemmas.Bool.Decides.{nat_tests}
use Rattle.tree.specs.declared.ops.Kind.{Kind}
use Rattle.tree.specs.declared.ops.Kind.TheVariants.{Integer, Logical}
use Rattle.f77_grammar.specs.expressions.Squeezing.{Symbol77, Char}
use Rattle.f77_grammar.specs.expressions.Words as words
use Rattle.f77_grammar.specs.expressions.Words.{Word77}
use Rattle.f77_grammar.specs.expressions.Spelling.{is_letter_or_digit, IsName77, AreWords77, Begins77, chars77}
use Rattle.reading.specs.Characters.{is_letter, IsDigits}
use Rattle.reading.specs.Characters as characters
use Rattle.f77_grammar.specs.expressions.Phrases as phrases
use Rattle.f77_grammar.specs.expressions.Phrases.{Phrase77, Phrases77, written77, written_list}
use Rattle.f77_grammar.specs.statements.Controls.{Control, written_control}
use Rattle.f77_grammar.specs.statements.Items.{ItemPhrases77, IsReference77, written_items77}
use Rattle.f77_grammar.specs.statements.Forms as forms
use Rattle.f77_grammar.specs.statements.Forms.{Form77, EntityForm77, Definition, IsWritten77, IsInner77, IsLabel77, optional_comma, separated77, written_entity77, written_definition}
use Rattle.f77_grammar.specs.statements.Recognition.{Halves, cut_from, cut_at_close, has_equals_outside, BeginsWithLetter, IsConditional, IsOfKeyword}
use Rattle.f77_words.specs.keywords.Kinds.{IsOfAssignment, IsOfLoop, HasKeyword}
use Rattle.f77_words.specs.keywords.Outside.{has_comma_outside}
use Rattle.f77_words.proofs.keywords.Cutting.{prefixed}
use Rattle.f77_words.proofs.keywords.PlainFronts.{digits_plain}
use Rattle.f77_words.proofs.keywords.Marks.{Marks, made, none, marks}
use Rattle.f77_words.proofs.keywords.Neutral.{neutral, neutral_list, control_outside, neutral_items, neutral_entities, neutral_definitions, assigned, of_loop, of_assignment}
use Rattle.f77_words.proofs.keywords.Scanning.{equals_plain, comma_plain, equals_scan, comma_scan, cut_scan, or_false}

-- ---- whole texts of words

equals_whole : (text : List Symbol77) (ws : List Word77) (m : Marks) → AreWords77 text ws → marks none ws ≡ m → has_equals_outside text 0 ≡ m.equals
equals_whole text ws m h e =
    ap (λ (q : List Symbol77). has_equals_outside q 0) (sym (append-nil text))
    ∙ (equals_scan ws text [] none h ∙ (or_false (marks none ws).equals ∙ ap (λ (q : Marks). q.equals) e))

comma_whole : (text : List Symbol77) (ws : List Word77) (m : Marks) → AreWords77 text ws → marks none ws ≡ m → has_comma_outside text 0 false ≡ m.comma
comma_whole text ws m h e =
    ap (λ (q : List Symbol77). has_comma_outside q 0 false) (sym (append-nil text))
    ∙ (comma_scan ws text [] none h ∙ (or_false (marks none ws).comma ∙ ap (λ (q : Marks). q.comma) e))

-- ---- conditions

-- an expression is passed over on the way to the closing parenthesis
cut_behind : (p : Phrase77) (e tail : List Symbol77) → AreWords77 e (written77 p) → cut_from (e ++ tail) 0 ≡ prefixed e (cut_from tail 0)
cut_behind p e tail h =
    let on = cut_scan (written77 p) [] e tail none (subst (AreWords77 e) (sym (append-nil (written77 p))) h) (ap (λ (q : Marks). q.unpaired) (neutral p none)) in
    let whole : on.front ≡ e = sym (on.same ∙ (ap (λ (q : List Symbol77). on.front ++ q) on.words ∙ append-nil on.front)) in
    let level : (marks none (written77 p)).inside ≡ 0 = ap (λ (q : Marks). q.inside) (neutral p none) in
    on.cut ∙ (ap (λ (q : List Symbol77). prefixed on.front (cut_from (q ++ tail) (marks none (written77 p)).inside)) on.words
    ∙ (ap (λ (q : ℕ). prefixed on.front (cut_from tail q)) level ∙ ap (λ (q : List Symbol77). prefixed q (cut_from tail 0)) whole))

cut_condition : (p : Phrase77) (e rest : List Symbol77) → AreWords77 e (written77 p) → cut_at_close (e ++ Char 41 ∷ rest) ≡ Some (record { inside = e; behind = rest })
cut_condition p e rest h =
    cut_behind p e (Char 41 ∷ rest) h ∙ ap (λ (q : List Symbol77). let w : Halves = record { inside = q; behind = rest } in Some w) (append-nil e)

pub recognised_if : (p : Phrase77) (text : List Symbol77) (h : IsWritten77 (forms.If p) text) → IsConditional text h.0 (chars77 (codes "THEN"))
recognised_if p text h = record { opened = h.0 ++ chars77 (codes ")THEN"); begins = h.1; cut = cut_condition p h.0 (chars77 (codes "THEN")) h.2; letter = refl }

-- ---- the first characters

abbrev first : List Symbol77 → ℕ
first (Char c ∷ ss) = c
first ss = 0

abbrev tail : List Symbol77 → List Symbol77
tail [] = []
tail (s ∷ ss) = ss

different : (c d : ℕ) → (c == d) ≡ false → c ≡ d → ⊥
different c d n e = let k : (d == d) ≡ false = subst (λ (q : ℕ). (q == d) ≡ false) e n in let m : (d == d) ≡ true = grind (arith, nat_tests) in let z : ⊥ = cc in z

other_first : (c : ℕ) (text rest : List Symbol77) → (c == 73) ≡ false → text ≡ Char c ∷ rest → (a b : List Symbol77) → IsConditional text a b → ⊥
other_first c text rest n e a b h = different c 73 n (ap first (sym e ∙ h.begins))

other_second : (c d : ℕ) (text rest : List Symbol77) → (d == 70) ≡ false → text ≡ Char c ∷ (Char d ∷ rest) → (a b : List Symbol77) → IsConditional text a b → ⊥
other_second c d text rest n e a b h = different d 70 n (ap (λ (q : List Symbol77). first (tail q)) (sym e ∙ h.begins))

-- ---- assignments

inner_char : (c : ℕ) → IsTrue (is_letter_or_digit c) → c ≡ 40 → ⊥
inner_char c h e = let k : is_letter_or_digit 40 ≡ true = subst (λ (q : ℕ). is_letter_or_digit q ≡ true) e h in let z : ⊥ = cc in z

-- a name that isn't followed by a parenthesis
name_no_if : (x : List ℕ) (rest opened : List Symbol77) → IsName77 x → chars77 x ++ Char 61 ∷ rest ≡ Char 73 ∷ (Char 70 ∷ (Char 40 ∷ opened)) → ⊥
name_no_if [] rest opened n e = n
name_no_if (c ∷ []) rest opened n e = different 61 70 refl (ap (λ (q : List Symbol77). first (tail q)) e)
name_no_if (c ∷ (d ∷ [])) rest opened n e = different 61 40 refl (ap (λ (q : List Symbol77). first (tail (tail q))) e)
name_no_if (c ∷ (d ∷ (f ∷ x))) rest opened n e = inner_char f n.1.1.0 (ap (λ (q : List Symbol77). first (tail (tail q))) e)

head_of_if : (x : List ℕ) (rest opened : List Symbol77) → IsName77 x → chars77 x ++ Char 40 ∷ rest ≡ Char 73 ∷ (Char 70 ∷ (Char 40 ∷ opened)) → opened ≡ rest
head_of_if [] rest opened n e = absurd n
head_of_if (c ∷ []) rest opened n e = absurd (different 40 70 refl (ap (λ (q : List Symbol77). first (tail q)) e))
head_of_if (c ∷ (d ∷ [])) rest opened n e = sym (ap (λ (q : List Symbol77). tail (tail (tail q))) e)
head_of_if (c ∷ (d ∷ (f ∷ x))) rest opened n e = absurd (inner_char f n.1.1.0 (ap (λ (q : List Symbol77). first (tail (tail q))) e))

-- the text of a word
text_of_name : (x : List ℕ) (text rest : List Symbol77) → Begins77 text (words.Name x) rest → text ≡ chars77 x ++ rest
text_of_name x text rest b = b.same ∙ ap (λ (q : List Symbol77). q ++ rest) (b.spelled.1 ∙ ap chars77 b.spelled.2.0)

text_of_head : (x : List ℕ) (text rest : List Symbol77) → Begins77 text (words.Head x) rest → text ≡ chars77 x ++ Char 40 ∷ rest
text_of_head x text rest b =
    b.same ∙ (ap (λ (q : List Symbol77). q ++ rest) (b.spelled.1 ∙ (ap chars77 b.spelled.2.0 ∙ map-append Char x (codes "("))) ∙ append_assoc (chars77 x) (Char 40 ∷ []) rest)

text_of_equals : (text rest : List Symbol77) → Begins77 text words.Equals rest → text ≡ Char 61 ∷ rest
text_of_equals text rest b = b.same ∙ ap (λ (q : List Symbol77). q ++ rest) (b.spelled.1 ∙ ap chars77 b.spelled.2)

text_of_close : (text rest : List Symbol77) → Begins77 text words.Close rest → text ≡ Char 41 ∷ rest
text_of_close text rest b = b.same ∙ ap (λ (q : List Symbol77). q ++ rest) (b.spelled.1 ∙ ap chars77 b.spelled.2)

behind_same : (h k : Halves) → Some h ≡ Some k → h.behind ≡ k.behind
behind_same h k e = let f : h ≡ k = cc in ap (λ (q : Halves). q.behind) f

-- the parenthesis of the left side is followed by an equals sign, and by no letter
no_letter : (ps : Phrases77) (r : Phrase77) (text a b : List Symbol77) → AreWords77 text (written_list ps ++ (words.Close ∷ (words.Equals ∷ written77 r))) → cut_at_close text ≡ Some (record { inside = a; behind = b }) → BeginsWithLetter b → ⊥
no_letter ps r text a b h c l =
    let quiet : marks none (written_list ps) ≡ none = neutral_list ps none refl in
    let on = cut_scan (written_list ps) (words.Close ∷ (words.Equals ∷ written77 r)) text [] none h (ap (λ (q : Marks). q.unpaired) quiet) in
    let rest : on.rest ++ [] ≡ Char 41 ∷ (Char 61 ∷ on.words.2.0) =
    append-nil on.rest ∙ (text_of_close on.rest on.words.0 on.words.1 ∙ ap (λ (q : List Symbol77). Char 41 ∷ q) (text_of_equals on.words.0 on.words.2.0 on.words.2.1)) in
    let cut : cut_at_close text ≡ Some (record { inside = on.front ++ []; behind = Char 61 ∷ on.words.2.0 }) =
    ap cut_at_close (sym (append-nil text)) ∙ (on.cut
    ∙ (ap (λ (q : Marks). prefixed on.front (cut_from (on.rest ++ []) q.inside)) quiet
    ∙ ap (λ (q : List Symbol77). prefixed on.front (cut_from q 0)) rest)) in
    let same : b ≡ Char 61 ∷ on.words.2.0 = behind_same (record { inside = a; behind = b }) (record { inside = on.front ++ []; behind = Char 61 ∷ on.words.2.0 }) (sym c ∙ cut) in
    let k : is_letter 61 ≡ true = subst BeginsWithLetter same l in
    let z : ⊥ = cc in z

assignment_unconditional : (l r : Phrase77) (text : List Symbol77) → AreWords77 text (written77 l ++ (words.Equals ∷ written77 r)) → IsReference77 l → (a b : List Symbol77) → IsConditional text a b → ⊥
assignment_unconditional (phrases.Name x) r text h k a b c =
    let e : text ≡ chars77 x ++ Char 61 ∷ h.2.0 = text_of_name x text h.0 h.1 ∙ ap (λ (q : List Symbol77). chars77 x ++ q) (text_of_equals h.0 h.2.0 h.2.1) in
    name_no_if x h.2.0 c.opened h.1.spelled.2.1 (sym e ∙ c.begins)
assignment_unconditional (phrases.Listed x ps) r text h k a b c =
    let same : c.opened ≡ h.0 = head_of_if x h.0 c.opened h.1.spelled.2.1 (sym (text_of_head x text h.0 h.1) ∙ c.begins) in
    let later : AreWords77 h.0 (written_list ps ++ (words.Close ∷ (words.Equals ∷ written77 r))) =
    subst (AreWords77 h.0) (append_assoc (written_list ps) (words.Close ∷ []) (words.Equals ∷ written77 r)) h.2 in
    no_letter ps r h.0 a b later (ap cut_at_close (sym same) ∙ c.cut) c.letter
assignment_unconditional (phrases.Literal n) r text h k a b c = absurd k
assignment_unconditional phrases.WideLiteral r text h k a b c = absurd k
assignment_unconditional (phrases.Truth t) r text h k a b c = absurd k
assignment_unconditional (phrases.Paren p) r text h k a b c = absurd k
assignment_unconditional (phrases.Signed s p) r text h k a b c = absurd k
assignment_unconditional (phrases.Joined o p q) r text h k a b c = absurd k

pub recognised_assign : (l r : Phrase77) (text : List Symbol77) → IsWritten77 (forms.Assign l r) text → IsOfAssignment text
recognised_assign l r text h = record {
  unconditional = assignment_unconditional l r text h.0 h.1;
  equals = equals_whole text (written77 l ++ (words.Equals ∷ written77 r)) of_assignment h.0 (assigned l r);
  no_comma = comma_whole text (written77 l ++ (words.Equals ∷ written77 r)) of_assignment h.0 (assigned l r);
}

-- ---- logical IF

name_begins : (x : List ℕ) (rest : List Symbol77) → IsName77 x → BeginsWithLetter (chars77 x ++ rest)
name_begins [] rest n = absurd n
name_begins (c ∷ cs) rest n = n.0

reference_begins : (l : Phrase77) (ws : List Word77) (text : List Symbol77) → AreWords77 text (written77 l ++ ws) → IsReference77 l → BeginsWithLetter text
reference_begins (phrases.Name x) ws text h k = subst BeginsWithLetter (sym (text_of_name x text h.0 h.1)) (name_begins x h.0 h.1.spelled.2.1)
reference_begins (phrases.Listed x ps) ws text h k = subst BeginsWithLetter (sym (text_of_head x text h.0 h.1)) (name_begins x (Char 40 ∷ h.0) h.1.spelled.2.1)
reference_begins (phrases.Literal n) ws text h k = absurd k
reference_begins phrases.WideLiteral ws text h k = absurd k
reference_begins (phrases.Truth t) ws text h k = absurd k
reference_begins (phrases.Paren p) ws text h k = absurd k
reference_begins (phrases.Signed s p) ws text h k = absurd k
reference_begins (phrases.Joined o p q) ws text h k = absurd k

letter_at : (c : ℕ) (rest text : List Symbol77) → is_letter c ≡ true → text ≡ Char c ∷ rest → BeginsWithLetter text
letter_at c rest text l e = subst BeginsWithLetter (sym e) l

read_begins : (is : ItemPhrases77) (text : List Symbol77) → (forms.IsFollowed (codes "READ*,") (written_items77 is) text ⊎ forms.IsFollowed (codes "READ(*,*)") (written_items77 is) text) → BeginsWithLetter text
read_begins is text (inl h) = letter_at 82 _ text refl h.1
read_begins is text (inr h) = letter_at 82 _ text refl h.1

print_begins : (is : ItemPhrases77) (text : List Symbol77) → (forms.IsFollowed (codes "PRINT*,") (written_items77 is) text ⊎ forms.IsFollowed (codes "WRITE(*,*)") (written_items77 is) text) → BeginsWithLetter text
print_begins is text (inl h) = letter_at 80 _ text refl h.1
print_begins is text (inr h) = letter_at 87 _ text refl h.1

either_begins : (c d : ℕ) (a b text : List Symbol77) → is_letter c ≡ true → is_letter d ≡ true → ((text ≡ Char c ∷ a) ⊎ (text ≡ Char d ∷ b)) → BeginsWithLetter text
either_begins c d a b text l k (inl e) = letter_at c a text l e
either_begins c d a b text l k (inr e) = letter_at d b text k e

inner_begins : (f : Form77) (text : List Symbol77) → IsWritten77 f text → IsInner77 f → BeginsWithLetter text
inner_begins (forms.Assign l r) text h k = reference_begins l (words.Equals ∷ written77 r) text h.0 h.1
inner_begins (forms.Go label) text h k = letter_at 71 _ text refl h.0
inner_begins forms.Continue text h k = letter_at 67 _ text refl h
inner_begins forms.Stop text h k = letter_at 83 _ text refl h
inner_begins (forms.Read is) text h k = read_begins is text h.0
inner_begins forms.ReadNothing text h k = either_begins 82 82 _ _ text refl refl h
inner_begins (forms.Print is) text h k = print_begins is text h.0
inner_begins forms.PrintNothing text h k = either_begins 80 87 _ _ text refl refl h
inner_begins (forms.Program x) text h k = absurd k
inner_begins forms.ImplicitNone text h k = absurd k
inner_begins (forms.Declare t es) text h k = absurd k
inner_begins (forms.Dimension es) text h k = absurd k
inner_begins (forms.Constants ds) text h k = absurd k
inner_begins (forms.Test p f) text h k = absurd k
inner_begins (forms.If p) text h k = absurd k
inner_begins (forms.ElseIf p) text h k = absurd k
inner_begins forms.Else text h k = absurd k
inner_begins forms.EndIf text h k = absurd k
inner_begins (forms.Do label comma c) text h k = absurd k
inner_begins (forms.PlainDo c) text h k = absurd k
inner_begins forms.EndDo text h k = absurd k
inner_begins forms.End text h k = absurd k

pub recognised_test : (p : Phrase77) (f : Form77) (text : List Symbol77) (h : IsWritten77 (forms.Test p f) text) → IsConditional text h.0 h.1
recognised_test p f text h = record { opened = h.0 ++ Char 41 ∷ h.1; begins = h.2; cut = cut_condition p h.0 h.1 h.3; letter = inner_begins f h.1 h.5 h.6 }

-- ---- DO

spread : (label comma : List ℕ) (rest : List Symbol77) → chars77 (label ++ comma) ++ rest ≡ chars77 label ++ (chars77 comma ++ rest)
spread label comma rest = ap (λ (q : List Symbol77). q ++ rest) (map-append Char label comma) ∙ append_assoc (chars77 label) (chars77 comma) rest

equals_behind_comma : (b : Bool) (rest : List Symbol77) → has_equals_outside (chars77 (optional_comma b) ++ rest) 0 ≡ has_equals_outside rest 0
equals_behind_comma true rest = refl
equals_behind_comma false rest = refl

comma_behind_comma : (b : Bool) (rest : List Symbol77) → has_comma_outside (chars77 (optional_comma b) ++ rest) 0 false ≡ has_comma_outside rest 0 false
comma_behind_comma true rest = refl
comma_behind_comma false rest = refl

pub recognised_do : (label : List ℕ) (comma : Bool) (c : Control) (text : List Symbol77) → IsWritten77 (forms.Do label comma c) text → IsOfLoop text
recognised_do label comma c text h =
    let e : text ≡ Char 68 ∷ (Char 79 ∷ (chars77 label ++ (chars77 (optional_comma comma) ++ h.0.0))) =
    h.0.1 ∙ ap (λ (q : List Symbol77). Char 68 ∷ (Char 79 ∷ q)) (spread label (optional_comma comma) h.0.0) in
    record {
      unconditional = other_first 68 text _ refl e;
      equals = ap (λ (q : List Symbol77). has_equals_outside q 0) e
          ∙ (equals_plain (chars77 label) (chars77 (optional_comma comma) ++ h.0.0) 0 (digits_plain label h.1.0)
          ∙ (equals_behind_comma comma h.0.0 ∙ equals_whole h.0.0 (written_control c) of_loop h.0.2 (control_outside c)));
      comma = ap (λ (q : List Symbol77). has_comma_outside q 0 false) e
          ∙ (comma_plain (chars77 label) (chars77 (optional_comma comma) ++ h.0.0) 0 false (digits_plain label h.1.0)
          ∙ (comma_behind_comma comma h.0.0 ∙ comma_whole h.0.0 (written_control c) of_loop h.0.2 (control_outside c)));
    }

pub recognised_plain_do : (c : Control) (text : List Symbol77) → IsWritten77 (forms.PlainDo c) text → IsOfLoop text
recognised_plain_do c text h =
    let e : text ≡ Char 68 ∷ (Char 79 ∷ h.0.0) = h.0.1 in
    record {
      unconditional = other_first 68 text _ refl e;
      equals = ap (λ (q : List Symbol77). has_equals_outside q 0) e ∙ equals_whole h.0.0 (written_control c) of_loop h.0.2 (control_outside c);
      comma = ap (λ (q : List Symbol77). has_comma_outside q 0 false) e ∙ comma_whole h.0.0 (written_control c) of_loop h.0.2 (control_outside c);
    }

-- ---- keywords

-- a keyword, or characters like one
fixed_keyword : (front text : List Symbol77) → ((a b : List Symbol77) → IsConditional front a b → ⊥) → has_equals_outside front 0 ≡ false → text ≡ front → IsOfKeyword text
fixed_keyword front text n e s = subst IsOfKeyword (sym s) (record { unconditional = n; no_equals = e })

-- a keyword, and words without an equals sign outside parentheses
followed_keyword : (front : List ℕ) (ws : List Word77) (text : List Symbol77) → ((rest a b : List Symbol77) → IsConditional (chars77 front ++ rest) a b → ⊥)
    → ((rest : List Symbol77) → has_equals_outside (chars77 front ++ rest) 0 ≡ has_equals_outside rest 0) → marks none ws ≡ none → forms.IsFollowed front ws text → IsOfKeyword text
followed_keyword front ws text n p e h = fixed_keyword (chars77 front ++ h.0) text (n h.0) (p h.0 ∙ equals_whole h.0 ws none h.2 e) h.1

declaration : (k : Kind) (es : List EntityForm77) (text : List Symbol77) → forms.IsFollowed (characters.keyword_of k) (separated77 written_entity77 es) text → IsOfKeyword text
declaration Integer es text h = followed_keyword (codes "INTEGER") _ text (λ rest. other_second 73 78 _ _ refl refl) (λ rest. refl) (neutral_entities es) h
declaration Logical es text h = followed_keyword (codes "LOGICAL") _ text (λ rest. other_first 76 _ _ refl refl) (λ rest. refl) (neutral_entities es) h

reading : (is : ItemPhrases77) (text : List Symbol77) → (forms.IsFollowed (codes "READ*,") (written_items77 is) text ⊎ forms.IsFollowed (codes "READ(*,*)") (written_items77 is) text) → IsOfKeyword text
reading is text (inl h) = followed_keyword (codes "READ*,") _ text (λ rest. other_first 82 _ _ refl refl) (λ rest. refl) (neutral_items is none refl) h
reading is text (inr h) = followed_keyword (codes "READ(*,*)") _ text (λ rest. other_first 82 _ _ refl refl) (λ rest. refl) (neutral_items is none refl) h

printing : (is : ItemPhrases77) (text : List Symbol77) → (forms.IsFollowed (codes "PRINT*,") (written_items77 is) text ⊎ forms.IsFollowed (codes "WRITE(*,*)") (written_items77 is) text) → IsOfKeyword text
printing is text (inl h) = followed_keyword (codes "PRINT*,") _ text (λ rest. other_first 80 _ _ refl refl) (λ rest. refl) (neutral_items is none refl) h
printing is text (inr h) = followed_keyword (codes "WRITE(*,*)") _ text (λ rest. other_first 87 _ _ refl refl) (λ rest. refl) (neutral_items is none refl) h

reading_nothing : (text : List Symbol77) → ((text ≡ chars77 (codes "READ*")) ⊎ (text ≡ chars77 (codes "READ(*,*)"))) → IsOfKeyword text
reading_nothing text (inl e) = fixed_keyword (chars77 (codes "READ*")) text (other_first 82 _ _ refl refl) refl e
reading_nothing text (inr e) = fixed_keyword (chars77 (codes "READ(*,*)")) text (other_first 82 _ _ refl refl) refl e

printing_nothing : (text : List Symbol77) → ((text ≡ chars77 (codes "PRINT*")) ⊎ (text ≡ chars77 (codes "WRITE(*,*)"))) → IsOfKeyword text
printing_nothing text (inl e) = fixed_keyword (chars77 (codes "PRINT*")) text (other_first 80 _ _ refl refl) refl e
printing_nothing text (inr e) = fixed_keyword (chars77 (codes "WRITE(*,*)")) text (other_first 87 _ _ refl refl) refl e

jump : (label : List ℕ) (text : List Symbol77) → text ≡ chars77 (codes "GOTO" ++ label) → IsDigits label → IsOfKeyword text
jump label text e d =
    fixed_keyword (chars77 (codes "GOTO" ++ label)) text (other_first 71 _ _ refl refl)
    (ap (λ (q : List Symbol77). has_equals_outside q 0) (sym (append-nil (chars77 label))) ∙ equals_plain (chars77 label) [] 0 (digits_plain label d)) e

else_if : (p : Phrase77) (text e : List Symbol77) → text ≡ chars77 (codes "ELSEIF(") ++ (e ++ chars77 (codes ")THEN")) → AreWords77 e (written77 p) → IsOfKeyword text
else_if p text e s h =
    let m = made 1 false false false in
    fixed_keyword (chars77 (codes "ELSEIF(") ++ (e ++ chars77 (codes ")THEN"))) text (other_first 69 _ _ refl refl)
    (equals_scan (written77 p) e (chars77 (codes ")THEN")) m h
    ∙ ap (λ (q : Marks). q.equals || has_equals_outside (chars77 (codes ")THEN")) q.inside) (neutral p m)) s

pub recognised_keyword : (f : Form77) → HasKeyword f → (text : List Symbol77) → IsWritten77 f text → IsOfKeyword text
recognised_keyword (forms.Program x) k text h = followed_keyword (codes "PROGRAM") (words.Name x ∷ []) text (λ rest. other_first 80 _ _ refl refl) (λ rest. refl) refl h
recognised_keyword forms.ImplicitNone k text h = fixed_keyword (chars77 (codes "IMPLICITNONE")) text (other_second 73 77 _ _ refl refl) refl h
recognised_keyword (forms.Declare t es) k text h = declaration t es text h.0
recognised_keyword (forms.Dimension es) k text h = followed_keyword (codes "DIMENSION") _ text (λ rest. other_first 68 _ _ refl refl) (λ rest. refl) (neutral_entities es) h.0
recognised_keyword (forms.Constants ds) k text h = followed_keyword (codes "PARAMETER") (words.Open ∷ (separated77 written_definition ds ++ words.Close ∷ [])) text (λ rest. other_first 80 _ _ refl refl) (λ rest. refl) (neutral_definitions ds) h.0
recognised_keyword (forms.Go label) k text h = jump label text h.0 h.1.0
recognised_keyword (forms.ElseIf p) k text h = else_if p text h.0 h.1 h.2
recognised_keyword forms.Else k text h = fixed_keyword (chars77 (codes "ELSE")) text (other_first 69 _ _ refl refl) refl h
recognised_keyword forms.EndIf k text h = fixed_keyword (chars77 (codes "ENDIF")) text (other_first 69 _ _ refl refl) refl h
recognised_keyword forms.EndDo k text h = fixed_keyword (chars77 (codes "ENDDO")) text (other_first 69 _ _ refl refl) refl h
recognised_keyword forms.Continue k text h = fixed_keyword (chars77 (codes "CONTINUE")) text (other_first 67 _ _ refl refl) refl h
recognised_keyword forms.Stop k text h = fixed_keyword (chars77 (codes "STOP")) text (other_first 83 _ _ refl refl) refl h
recognised_keyword (forms.Read is) k text h = reading is text h.0
recognised_keyword forms.ReadNothing k text h = reading_nothing text h
recognised_keyword (forms.Print is) k text h = printing is text h.0
recognised_keyword forms.PrintNothing k text h = printing_nothing text h
recognised_keyword forms.End k text h = fixed_keyword (chars77 (codes "END")) text (other_first 69 _ _ refl refl) refl h
recognised_keyword (forms.Assign l r) k text h = absurd k
recognised_keyword (forms.Test p f) k text h = absurd k
recognised_keyword (forms.If p) k text h = absurd k
recognised_keyword (forms.Do label comma c) k text h = absurd k
recognised_keyword (forms.PlainDo c) k text h = absurd k
