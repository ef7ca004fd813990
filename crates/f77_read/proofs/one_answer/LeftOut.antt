-- A text has one word that is left out of the profile, or none.
use Rattle.std.proofs.Common.{◌≡◌, ◌≤◌, ◌<◌, inl, inr, ℕ, zero, suc, ◌+◌, List, [], ◌∷◌, ◌++◌, length, refl, ap, sym, ◌∙◌, subst, arith, true, false, Bool, codes, append-nil}
use Rattle.std.specs.Prelude.{◌⊎◌, Option, Some, None, ◌==◌}
use Rattle.std.proofs.lemmas.Bool.{eqb-true}
use Rattle.f77_grammar.specs.expressions.Squeezing.{Symbol77}
use Rattle.f77_grammar.specs.expressions.Spelling.{IsName77, is_letter_or_digit, chars77, value}
use Rattle.reading.specs.Characters.{Pass, is_letter}
use Rattle.f77_grammar.specs.statements.Recognition as recognition
use Rattle.f77_grammar.specs.statements.Recognition.{Halves, cut_at_close, has_equals_outside, words_left_out, IsConditional, IsOfKeyword, IsArithmeticIf, IsComputedGoTo, IsAssignedGoTo, BeginsImplicitNone, HasWord}
use Rattle.f77_grammar.specs.statements.Forms.{optional_comma}
use Rattle.f77_expressions.specs.Lexing.{strip}
use Rattle.f77_expressions.specs.Symbols.{symbols_of}
use Rattle.f77_words.specs.keywords.FormsLeftOut as forms
use Rattle.f77_words.specs.keywords.FormsLeftOut.{AreThreeLabels, AreEnclosed, IsFormLeftOut, without_comma}
use Rattle.f77_words.specs.keywords.Fronts.{IsLabelled, IsNamed, IsLabelList}
use Rattle.f77_words.specs.keywords.Listed.{listed}
use Rattle.f77_words.proofs.keywords.FormLaws.{three_found, three_only, arithmetic_found, arithmetic_only, IsEnclosed, enclosed_list, enclosed_found, not_closed, closed_same, computed_enclosed, computed_found, computed_index, enclosed_of, of_enclosed, nothing_behind, assigned_name, assigned_alone, assigned_with_labels, form_of_arithmetic, form_of_computed, form_of_assigned, no_form}
use Rattle.f77_words.proofs.keywords.LabelLists.{HasLabels, has_first, no_first, has_next, no_next, labels_found, labels_only, label_shorter}
use Rattle.f77_words.proofs.keywords.Stripping.{strip_same, stripped}
use Rattle.f77_words.proofs.keywords.WordLaws.{no_implicit_none, inner_shorter, inner_begun, inner_more, no_inner, IsInnerOf, listed_word_is, listed_word_only, has_keyword, form_is, form_of_keyword, of_keyword}
use Rattle.f77_read.proofs.one_answer.Fronts.{nothing}
use Rattle.f77_read.proofs.one_answer.Symbols.{in_code, back, as_long, IsSplit, split, split_only, at_most, HasLabel, HasNoLabel, label, HasCondition, HasNoCondition, conditional}

-- ---- lists of labels

labelled : (text : List Symbol77) (k : HasLabel text) → IsLabelled text (value k.label) k.rest
labelled text k = record { label = k.label; is_label = k.is_label; same = k.same; number_is = refl; whole = k.whole }

not_labelled : (text : List Symbol77) → HasNoLabel text → (n : ℕ) (r : List Symbol77) → IsLabelled text n r → ⊥
not_labelled text never n r h = never h.label r h.is_label h.whole h.same

pub record AreThere (text : List Symbol77) : Type 0 where
  pub others : ℕ
  pub rest : List Symbol77
  pub are : IsLabelList text others rest
  pub only : (n : ℕ) (r : List Symbol77) → IsLabelList text n r → (others ≡ n) × (rest ≡ r)

abbrev pub AreNowhere : List Symbol77 → Type 0
AreNowhere text = (n : ℕ) (r : List Symbol77) → IsLabelList text n r → ⊥

abbrev pub LabelsOf : List Symbol77 → Type 0
LabelsOf text = AreThere text ⊎ AreNowhere text

module _ (text : List Symbol77) where
  label_length : (rest : List Symbol77) (k : HasLabel rest) → length k.rest < length rest
  label_length rest k =
      let h : IsLabelled (symbols_of (in_code rest)) (value k.label) (symbols_of (in_code k.rest)) =
      subst (λ q. IsLabelled q (value k.label) (symbols_of (in_code k.rest))) (sym (back rest)) (subst (IsLabelled rest (value k.label)) (sym (back k.rest)) (labelled rest k)) in
      let l : length (in_code k.rest) < length (in_code rest) = label_shorter (in_code rest) (in_code k.rest) (value k.label) h in
      omega (arith, as_long rest, as_long k.rest)

  module _ (rest : List Symbol77) (count : ℕ) (has : HasLabels text rest count) (on : (r : List Symbol77) (n : ℕ) → length r < length rest → HasLabels text r n → LabelsOf text) where
    by_label : (tail : List Symbol77) → strip (codes ",") rest ≡ Some tail → HasLabel tail ⊎ HasNoLabel tail → LabelsOf text
    by_label tail e (inl k) =
        let a : length rest ≡ suc (length tail) = ap length (strip_same (codes ",") rest tail e) in
        let b = label_length tail k in
        on k.rest (count + 1) (omega arith) (has_next text rest tail k.rest count (value k.label) has e (labelled tail k))
    by_label tail e (inr never) = inr (no_next text rest tail count has e (not_labelled tail never))

    by_comma : (o : Option (List Symbol77)) → strip (codes ",") rest ≡ o → LabelsOf text
    by_comma None e = inl (record { others = count; rest = rest; are = labels_found text rest count has e; only = labels_only text rest count has e })
    by_comma (Some tail) e = by_label tail e (label tail)

  later_labels : (m : ℕ) (rest : List Symbol77) (count : ℕ) → length rest ≤ m → HasLabels text rest count → LabelsOf text
  later_labels zero rest count l has = by_comma rest count has (λ r n k h. absurd (omega arith)) (strip (codes ",") rest) refl
  later_labels (suc m) rest count l has = by_comma rest count has (λ r n k h. later_labels m r n (omega arith) h) (strip (codes ",") rest) refl

  by_first : HasLabel text ⊎ HasNoLabel text → LabelsOf text
  by_first (inl k) = later_labels (length k.rest) k.rest 0 (omega arith) (has_first text k.rest (value k.label) (labelled text k))
  by_first (inr never) = inr (no_first text (not_labelled text never))

pub labels : (text : List Symbol77) → LabelsOf text
labels text = by_first text (label text)

-- ---- what is so or not

abbrev pub Told : Type 0 → Type 0
Told P = P ⊎ (P → ⊥)

no_text : (q : List Symbol77) → None ≡ Some q → ⊥
no_text q e = cc

one_text : (a b : List Symbol77) → Some a ≡ Some b → a ≡ b
one_text a b e = cc

-- ---- arithmetic IF

three_labels : (text : List Symbol77) → Told (AreThreeLabels text)
three_labels text = by (labels text)
  where
    by_both : (k : AreThere text) → Told (k.others ≡ 2) → Told (k.rest ≡ []) → Told (AreThreeLabels text)
    by_both k (inl e) (inl n) = inl (three_found text k.rest k.others k.are e n)
    by_both k (inl e) (inr n) = inr (λ h. n (k.only 2 [] (three_only text h)).1)
    by_both k (inr n) _ = inr (λ h. n (k.only 2 [] (three_only text h)).0)

    two : (n : ℕ) → Told (n ≡ 2)
    two n = by_test (n == 2) refl
      where
        by_test : (b : Bool) → (n == 2) ≡ b → Told (n ≡ 2)
        by_test true e = inl (eqb-true n 2 e)
        by_test false e = inr (λ k. (let q : (n == 2) ≡ true = ap (λ m. m == 2) k in let z : true ≡ false = sym q ∙ e in cc))

    by : LabelsOf text → Told (AreThreeLabels text)
    by (inl k) = by_both k (two k.others) (nothing k.rest)
    by (inr never) = inr (λ h. never 2 [] (three_only text h))

no_halves : (h : Halves) → None ≡ Some h → ⊥
no_halves h e = cc

arithmetic : (text : List Symbol77) → Told (IsArithmeticIf text)
arithmetic text = by_strip (strip (codes "IF(") text) refl
  where
    cut_is : (opened : List Symbol77) → strip (codes "IF(") text ≡ Some opened → (h : IsArithmeticIf text) → cut_at_close opened ≡ Some (record { inside = h.condition; behind = h.rest })
    cut_is opened e h = ap cut_at_close (one_text _ _ (sym e ∙ stripped (codes "IF(") text h.opened h.begins)) ∙ h.cut

    by_labels : (opened : List Symbol77) → strip (codes "IF(") text ≡ Some opened → (k : Halves) → cut_at_close opened ≡ Some k → Told (k.inside ≡ []) → Told (AreThreeLabels k.behind) → Told (IsArithmeticIf text)
    by_labels opened e k f (inl empty) _ = inr (λ h. h.something (sym (ap (λ (q : Halves). q.inside) (one_half _ _ (sym f ∙ cut_is opened e h))) ∙ empty))
      where
        one_half : (h k : Halves) → Some h ≡ Some k → h ≡ k
        one_half h k e = cc
    by_labels opened e k f (inr some) (inl three) = inl (arithmetic_found text opened k.inside k.behind e (sym f) some three)
    by_labels opened e k f (inr some) (inr lacks) = inr (λ h. lacks (arithmetic_only text opened k.inside k.behind e (sym f) h))

    by_cut : (opened : List Symbol77) → strip (codes "IF(") text ≡ Some opened → (o : Option Halves) → cut_at_close opened ≡ o → Told (IsArithmeticIf text)
    by_cut opened e None f = inr (λ h. no_halves _ (sym f ∙ cut_is opened e h))
    by_cut opened e (Some k) f = by_labels opened e k f (nothing k.inside) (three_labels k.behind)

    by_strip : (o : Option (List Symbol77)) → strip (codes "IF(") text ≡ o → Told (IsArithmeticIf text)
    by_strip None e = inr (λ h. no_text _ (sym e ∙ stripped (codes "IF(") text h.opened h.begins))
    by_strip (Some opened) e = by_cut opened e (cut_at_close opened) refl

-- ---- labels in parentheses

pub record IsEnclosedThere (text : List Symbol77) : Type 0 where
  pub rest : List Symbol77
  pub is : IsEnclosed text rest
  pub only : (r : List Symbol77) → IsEnclosed text r → rest ≡ r

enclosed : (text : List Symbol77) → IsEnclosedThere text ⊎ ((r : List Symbol77) → IsEnclosed text r → ⊥)
enclosed text = by (labels text)
  where
    by_close : (k : AreThere text) (o : Option (List Symbol77)) → strip (codes ")") k.rest ≡ o → IsEnclosedThere text ⊎ ((r : List Symbol77) → IsEnclosed text r → ⊥)
    by_close k None e = inr (λ r h. not_closed k.rest r e (k.only _ _ (enclosed_list text r h)).1)
    by_close k (Some rest) e = inl (record {
      rest = rest;
      is = enclosed_found text k.rest rest k.others k.are e;
      only = λ r h. closed_same k.rest rest r e (k.only _ _ (enclosed_list text r h)).1;
    })

    by : LabelsOf text → IsEnclosedThere text ⊎ ((r : List Symbol77) → IsEnclosed text r → ⊥)
    by (inl k) = by_close k (strip (codes ")") k.rest) refl
    by (inr never) = inr (λ r h. never _ _ (enclosed_list text r h))

computed : (text : List Symbol77) → Told (IsComputedGoTo text)
computed text = by_strip (strip (codes "GOTO(") text) refl
  where
    by_index : (list : List Symbol77) → strip (codes "GOTO(") text ≡ Some list → (k : IsEnclosedThere list) → Told (without_comma k.rest ≡ []) → Told (IsComputedGoTo text)
    by_index list e k (inl n) = inr (λ h. computed_index text k.rest h (k.only _ (computed_enclosed text list h e)) n)
    by_index list e k (inr some) = inl (computed_found text list k.rest e k.is some)

    by_list : (list : List Symbol77) → strip (codes "GOTO(") text ≡ Some list → IsEnclosedThere list ⊎ ((r : List Symbol77) → IsEnclosed list r → ⊥) → Told (IsComputedGoTo text)
    by_list list e (inl k) = by_index list e k (nothing (without_comma k.rest))
    by_list list e (inr never) = inr (λ h. never _ (computed_enclosed text list h e))

    begins : (h : IsComputedGoTo text) → strip (codes "GOTO(") text ≡ Some (h.list ++ (chars77 (codes ")" ++ optional_comma h.comma) ++ h.index))
    begins h = stripped (codes "GOTO(") text _ h.written

    by_strip : (o : Option (List Symbol77)) → strip (codes "GOTO(") text ≡ o → Told (IsComputedGoTo text)
    by_strip None e = inr (λ h. no_text _ (sym e ∙ begins h))
    by_strip (Some list) e = by_list list e (enclosed list)

are_enclosed : (text : List Symbol77) → Told (AreEnclosed text)
are_enclosed text = by_strip (strip (codes "(") text) refl
  where
    by_end : (list : List Symbol77) → strip (codes "(") text ≡ Some list → (k : IsEnclosedThere list) → Told (k.rest ≡ []) → Told (AreEnclosed text)
    by_end list e k (inl n) = inl (enclosed_of text list e (nothing_behind k.rest n list k.is))
    by_end list e k (inr lacks) = inr (λ h. lacks (k.only [] (of_enclosed text list e h)))

    by_list : (list : List Symbol77) → strip (codes "(") text ≡ Some list → IsEnclosedThere list ⊎ ((r : List Symbol77) → IsEnclosed list r → ⊥) → Told (AreEnclosed text)
    by_list list e (inl k) = by_end list e k (nothing k.rest)
    by_list list e (inr never) = inr (λ h. never [] (of_enclosed text list e h))

    by_strip : (o : Option (List Symbol77)) → strip (codes "(") text ≡ o → Told (AreEnclosed text)
    by_strip None e = inr (λ h. no_text _ (sym e ∙ stripped (codes "(") text _ h.same))
    by_strip (Some list) e = by_list list e (enclosed list)

-- ---- names

pub record IsNamedThere (text : List Symbol77) : Type 0 where
  pub rest : List Symbol77
  pub is : IsNamed text rest
  pub only : (r : List Symbol77) → IsNamed text r → rest ≡ r

letter_passes : (c : ℕ) → is_letter c ≡ true → is_letter_or_digit c ≡ true
letter_passes c h = rw h refl

name_passes : (x : List ℕ) → IsName77 x → Pass is_letter_or_digit x
name_passes [] h = absurd h
name_passes (c ∷ cs) h = (letter_passes c h.0, h.1)

name_or_not : (x : List ℕ) → Pass is_letter_or_digit x → Told (IsName77 x)
name_or_not [] h = inr (λ k. k)
name_or_not (c ∷ cs) h = by (is_letter c) refl (at_most (length cs) 5)
  where
    by : (b : Bool) → is_letter c ≡ b → (length cs ≤ 5) ⊎ (5 < length cs) → Told (IsName77 (c ∷ cs))
    by true e (inl l) = inl (e, h.1, l)
    by true e (inr m) = inr (λ k. omega (arith, k.2, m))
    by false e _ = inr (λ k. (let z : true ≡ false = sym k.0 ∙ e in cc))

named : (text : List Symbol77) → IsNamedThere text ⊎ ((r : List Symbol77) → IsNamed text r → ⊥)
named text = by (split is_letter_or_digit text)
  where
    same_name : (k : IsSplit is_letter_or_digit text) (r : List Symbol77) (h : IsNamed text r) → (k.front ≡ h.name) × (k.rest ≡ r)
    same_name k r h = split_only is_letter_or_digit text k h.name r (name_passes h.name h.is_name) h.whole h.same

    by_name : (k : IsSplit is_letter_or_digit text) → Told (IsName77 k.front) → IsNamedThere text ⊎ ((r : List Symbol77) → IsNamed text r → ⊥)
    by_name k (inl n) = inl (record { rest = k.rest; is = record { name = k.front; is_name = n; same = k.same; whole = k.stops }; only = λ r h. (same_name k r h).1 })
    by_name k (inr lacks) = inr (λ r h. lacks (subst IsName77 (sym (same_name k r h).0) h.is_name))

    by : IsSplit is_letter_or_digit text → IsNamedThere text ⊎ ((r : List Symbol77) → IsNamed text r → ⊥)
    by k = by_name k (name_or_not k.front k.passes)

assigned : (text : List Symbol77) → Told (IsAssignedGoTo text)
assigned text = by_strip (strip (codes "GOTO") text) refl
  where
    by_rest : (list : List Symbol77) → strip (codes "GOTO") text ≡ Some list → (k : IsNamedThere list) → Told (k.rest ≡ []) → Told (AreEnclosed (without_comma k.rest)) → Told (IsAssignedGoTo text)
    by_rest list e k (inl n) _ = inl (assigned_alone text list k.rest e k.is n)
    by_rest list e k (inr some) (inl h) = inl (assigned_with_labels text list k.rest e k.is h)
    by_rest list e k (inr some) (inr lacks) = inr (λ h.
        let n = assigned_name text list e h in
        let r : k.rest ≡ n.rest = k.only n.rest n.named in
        lacks (subst (λ q. AreEnclosed (without_comma q)) (sym r) (n.holds (λ z. some (r ∙ z)))))

    by_name : (list : List Symbol77) → strip (codes "GOTO") text ≡ Some list → IsNamedThere list ⊎ ((r : List Symbol77) → IsNamed list r → ⊥) → Told (IsAssignedGoTo text)
    by_name list e (inl k) = by_rest list e k (nothing k.rest) (are_enclosed (without_comma k.rest))
    by_name list e (inr never) = inr (λ h. let n = assigned_name text list e h in never n.rest n.named)

    begins : IsAssignedGoTo text → (rest : List Symbol77) × (strip (codes "GOTO") text ≡ Some rest)
    begins (recognition.Alone name n e) = (chars77 name, stripped (codes "GOTO") text (chars77 name) e)
    begins (recognition.WithLabels name comma first others list n l e) = (_, stripped (codes "GOTO") text _ e)

    by_strip : (o : Option (List Symbol77)) → strip (codes "GOTO") text ≡ o → Told (IsAssignedGoTo text)
    by_strip None e = inr (λ h. let b = begins h in no_text b.0 (sym e ∙ b.1))
    by_strip (Some list) e = by_name list e (named list)

-- ---- one word or none

pub record HasOneWord (text : List Symbol77) : Type 0 where
  pub number : ℕ
  pub has : HasWord text number
  pub only : (n : ℕ) → HasWord text n → number ≡ n

abbrev pub WordOf : List Symbol77 → Type 0
WordOf text = HasOneWord text ⊎ ((n : ℕ) → HasWord text n → ⊥)

module _ (text : List Symbol77) (never : HasNoCondition text) where
  form_word : IsOfKeyword text → None ≡ listed words_left_out text → Told (IsArithmeticIf text) → Told (IsComputedGoTo text) → Told (IsAssignedGoTo text) → WordOf text
  form_word k e (inl a) _ _ = inl (record { number = 32; has = form_is k (forms.ArithmeticIf a); only = λ n h. form_of_arithmetic text n a (form_of_keyword text n e (has_keyword h never)) })
  form_word k e (inr a) (inl b) _ = inl (record { number = 33; has = form_is k (forms.ComputedGoTo b); only = λ n h. form_of_computed text n a b (form_of_keyword text n e (has_keyword h never)) })
  form_word k e (inr a) (inr b) (inl c) = inl (record { number = 34; has = form_is k (forms.AssignedGoTo c); only = λ n h. form_of_assigned text n a b (form_of_keyword text n e (has_keyword h never)) })
  form_word k e (inr a) (inr b) (inr c) = inr (λ n h. no_form text n a b c (form_of_keyword text n e (has_keyword h never)))

  one_number : (v w : ℕ) → Some v ≡ Some w → v ≡ w
  one_number v w e = cc

  by_list : IsOfKeyword text → (BeginsImplicitNone text → ⊥) → (o : Option ℕ) → o ≡ listed words_left_out text → WordOf text
  by_list k i (Some w) e = inl (record { number = w; has = listed_word_is text w k i e; only = λ n h. one_number w n (listed_word_only text w n e (has_keyword h never)) })
  by_list k i None e = form_word k e (arithmetic text) (computed text) (assigned text)

  opposite : (b : Bool) → b ≡ true → b ≡ false → ⊥
  opposite b t f = (let z : true ≡ false = sym t ∙ f in cc)

  by_equals : (b : Bool) → has_equals_outside text 0 ≡ b → WordOf text
  by_equals true e = inr (λ n h. opposite _ e (of_keyword h never).no_equals)
  by_equals false e = by_none (record { unconditional = never; no_equals = e }) (strip (codes "IMPLICITNONE") text) refl
    where
      by_none : IsOfKeyword text → (o : Option (List Symbol77)) → strip (codes "IMPLICITNONE") text ≡ o → WordOf text
      by_none k (Some rest) s = inr (λ n h. no_implicit_none h never (rest, strip_same (codes "IMPLICITNONE") text rest s))
      by_none k None s = by_list k (λ h. no_text _ (sym s ∙ stripped (codes "IMPLICITNONE") text h.0 h.1)) (listed words_left_out text) refl

pub then_or_not : (text : List Symbol77) → Told (text ≡ chars77 (codes "THEN"))
then_or_not text = by (strip (codes "THEN") text) refl
  where
    by_rest : (rest : List Symbol77) → strip (codes "THEN") text ≡ Some rest → Told (rest ≡ []) → Told (text ≡ chars77 (codes "THEN"))
    by_rest rest e (inl n) = inl (strip_same (codes "THEN") text rest e ∙ ap (λ q. chars77 (codes "THEN") ++ q) n ∙ append-nil (chars77 (codes "THEN")))
    by_rest rest e (inr lacks) = inr (λ k. lacks (one_text _ _ (sym e ∙ stripped (codes "THEN") text [] (k ∙ sym (append-nil (chars77 (codes "THEN")))))))

    by : (o : Option (List Symbol77)) → strip (codes "THEN") text ≡ o → Told (text ≡ chars77 (codes "THEN"))
    by None e = inr (λ k. no_text _ (sym e ∙ stripped (codes "THEN") text [] (k ∙ sym (append-nil (chars77 (codes "THEN"))))))
    by (Some rest) e = by_rest rest e (nothing rest)

module _ (text : List Symbol77) (k : HasCondition text) where
  inner : IsInnerOf text text
  inner = inner_begun text

  rest_length : length k.rest < length text
  rest_length =
      let h : IsConditional (symbols_of (in_code text)) k.condition (symbols_of (in_code k.rest)) =
      subst (λ q. IsConditional q k.condition (symbols_of (in_code k.rest))) (sym (back text)) (subst (IsConditional text k.condition) (sym (back k.rest)) k.is) in
      let l : length (in_code k.rest) < length (in_code text) = inner_shorter (in_code text) (in_code k.rest) k.condition h in
      omega (arith, as_long text, as_long k.rest)

  of_inner : (k.rest ≡ chars77 (codes "THEN") → ⊥) → WordOf k.rest → WordOf text
  of_inner n (inl w) =
      let i = inner_more text text k.condition k.rest inner k.is n in
      inl (record { number = w.number; has = i.up w.number w.has; only = λ m h. w.only m (i.down m h) })
  of_inner n (inr none) = (let i = inner_more text text k.condition k.rest inner k.is n in inr (λ m h. none m (i.down m h)))

  by_then : Told (k.rest ≡ chars77 (codes "THEN")) → WordOf k.rest → WordOf text
  by_then (inl e) w = inr (no_inner text text k.condition k.rest inner k.is e)
  by_then (inr n) w = of_inner n w

word_step : (text : List Symbol77) → HasCondition text ⊎ HasNoCondition text → ((r : List Symbol77) → length r < length text → WordOf r) → WordOf text
word_step text (inl k) on = by_then text k (then_or_not k.rest) (on k.rest (rest_length text k))
word_step text (inr never) on = by_equals text never (has_equals_outside text 0) refl

word_within : (n : ℕ) (text : List Symbol77) → length text ≤ n → WordOf text
word_within zero text l = word_step text (conditional text) (λ r k. absurd (omega arith))
word_within (suc n) text l = word_step text (conditional text) (λ r k. word_within n r (omega arith))

pub word_of : (text : List Symbol77) → WordOf text
word_of text = word_within (length text) text (omega arith)
