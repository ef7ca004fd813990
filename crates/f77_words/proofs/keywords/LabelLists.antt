-- Labels separated by commas.
use Rattle.std.proofs.Common.{◌≡◌, ℕ, suc, ◌+◌, ◌<◌, Bool, true, false, List, [], ◌∷◌, ◌++◌, length, refl, ap, sym, ◌∙◌, subst, append_assoc, arith, length-append, codes}
use Rattle.std.specs.Prelude.{◌==◌, Some, None}
use Rattle.std.proofs.lemmas.List.{length-map}
use Rattle.std.proofs.lemmas.Bool.Decides.{nat_tests}
use Rattle.f77_grammar.specs.expressions.Squeezing.{Symbol77, Char}
use Rattle.f77_grammar.specs.expressions.Spelling.{value, chars77, Stops77}
use Rattle.reading.specs.Characters.{is_digit}
use Rattle.f77_grammar.specs.statements.Recognition.{AreMoreLabels}
use Rattle.f77_expressions.specs.Lexing.{strip}
use Rattle.f77_expressions.specs.Symbols.{symbol_of, symbols_of}
use Rattle.f77_expressions.specs.declared.symbols.Symbol.{Symbol as Symbol'}
use Rattle.f77_words.specs.keywords.Fronts.{IsLabelled, IsLabelList, goes_on}
use Rattle.f77_words.proofs.keywords.FrontLaws.{run_same, digits_pass, some_digits}
use Rattle.f77_words.proofs.keywords.Stripping.{strip_same, stripped}

-- a text has one label at its front
labelled_same : (text a b : List Symbol77) (n m : ℕ) (h : IsLabelled text n a) (k : IsLabelled text m b) → a ≡ b
labelled_same text a b n m h k =
    (run_same is_digit h.label k.label a b (digits_pass h.label h.is_label.0) (digits_pass k.label k.is_label.0) h.whole k.whole (sym h.same ∙ k.same)).1

-- labels with a comma before each, so many, and what follows them
pub record IsMore (rest : List Symbol77) (others : ℕ) (final : List Symbol77) : Type 0 where
  pub more : List (List ℕ)
  pub list : List Symbol77
  pub labels : AreMoreLabels more list
  pub count : length more ≡ others
  pub same : rest ≡ list ++ final
  pub whole : Stops77 goes_on final

digit_goes_on : (c : ℕ) → goes_on c ≡ false → is_digit c ≡ false
digit_goes_on c h = grind (arith, nat_tests)

no_digit : (final : List Symbol77) → Stops77 goes_on final → Stops77 is_digit final
no_digit [] h = tt
no_digit (Char c ∷ ss) h = digit_goes_on c h
no_digit (s ∷ ss) h = tt

more_stops : (more : List (List ℕ)) (list final : List Symbol77) → AreMoreLabels more list → Stops77 goes_on final → Stops77 is_digit (list ++ final)
more_stops [] list final h s = subst (λ (q : List Symbol77). Stops77 is_digit (q ++ final)) (sym h) (no_digit final s)
more_stops (l ∷ ls) list final h s = subst (λ (q : List Symbol77). Stops77 is_digit (q ++ final)) (sym h.1) refl

-- what has been read: labels with so many others, and no digit follows
pub record HasLabels (text rest : List Symbol77) (count : ℕ) : Type 0 where
  pub ends : Stops77 is_digit rest
  pub on : (n : ℕ) (final : List Symbol77) → IsMore rest n final → IsLabelList text (count + n) final
  pub back : (n : ℕ) (final : List Symbol77) → IsLabelList text n final → (k : ℕ) × (n ≡ count + k) × IsMore rest k final

-- the first label of a list
first_label : (text : List Symbol77) (n : ℕ) (final : List Symbol77) (h : IsLabelList text n final) → IsLabelled text (value h.first) (h.labels.0 ++ final)
first_label text n final h = record {
  label = h.first;
  is_label = h.labels.2;
  same = h.same ∙ (ap (λ (q : List Symbol77). q ++ final) h.labels.1 ∙ append_assoc (chars77 h.first) h.labels.0 final);
  number_is = refl;
  whole = more_stops h.later h.labels.0 final h.labels.3 h.whole;
}

pub has_first : (text rest : List Symbol77) (number : ℕ) → IsLabelled text number rest → HasLabels text rest 0
has_first text rest number l = record {
  ends = l.whole;
  on = λ n final m. record {
    first = l.label;
    later = m.more;
    list = chars77 l.label ++ m.list;
    labels = (m.list, refl, l.is_label, m.labels);
    count = omega (arith, m.count);
    same = l.same ∙ (ap (λ (q : List Symbol77). chars77 l.label ++ q) m.same ∙ sym (append_assoc (chars77 l.label) m.list final));
    whole = m.whole;
  };
  back = λ n final h. (
    n,
    omega arith,
    record {
      more = h.later;
      list = h.labels.0;
      labels = h.labels.3;
      count = h.count;
      same = labelled_same text rest (h.labels.0 ++ final) number (value h.first) l (first_label text n final h);
      whole = h.whole;
    },
  );
}

pub no_first : (text : List Symbol77) → ((number : ℕ) (rest : List Symbol77) → IsLabelled text number rest → ⊥) → (n : ℕ) (final : List Symbol77) → IsLabelList text n final → ⊥
no_first text none n final h = none (value h.first) (h.labels.0 ++ final) (first_label text n final h)

-- ---- a comma behind a label

-- the label behind the comma, and what follows it
record HasNext (tail : List Symbol77) (k : ℕ) (final : List Symbol77) : Type 0 where
  later : List (List ℕ)
  list : List Symbol77
  labels : AreMoreLabels later list
  number : ℕ
  labelled : IsLabelled tail number (list ++ final)
  count : k ≡ length later + 1
  whole : Stops77 goes_on final

same_tail : (c d : Symbol77) (r s : List Symbol77) → c ∷ r ≡ d ∷ s → r ≡ s
same_tail c d r s e = cc

next_by : (more : List (List ℕ)) (rest tail list : List Symbol77) (k : ℕ) (final : List Symbol77) → rest ≡ Char 44 ∷ tail → AreMoreLabels more list → length more ≡ k → rest ≡ list ++ final → Stops77 goes_on final
    → HasNext tail k final
next_by [] rest tail list k final e h n s w =
    let f : final ≡ Char 44 ∷ tail = sym (ap (λ (q : List Symbol77). q ++ final) h) ∙ (sym s ∙ e) in
    let z : goes_on 44 ≡ false = subst (Stops77 goes_on) f w in let y : ⊥ = cc in absurd y
next_by (l ∷ ls) rest tail list k final e h n s w =
    let f : Char 44 ∷ tail ≡ Char 44 ∷ (chars77 l ++ (h.0 ++ final)) =
    sym e ∙ (s ∙ (ap (λ (q : List Symbol77). q ++ final) h.1 ∙ ap (λ (q : List Symbol77). Char 44 ∷ q) (append_assoc (chars77 l) h.0 final))) in
    record {
      later = ls;
      list = h.0;
      labels = h.3;
      number = value l;
      labelled = record { label = l; is_label = h.2; same = same_tail (Char 44) (Char 44) _ _ f; number_is = refl; whole = more_stops ls h.0 final h.3 w };
      count = omega (arith, n);
      whole = w;
    }

next_of : (rest tail : List Symbol77) (k : ℕ) (final : List Symbol77) → rest ≡ Char 44 ∷ tail → IsMore rest k final → HasNext tail k final
next_of rest tail k final e m = next_by m.more rest tail m.list k final e m.labels m.count m.same m.whole

pub has_next : (text rest tail behind : List Symbol77) (count number : ℕ) → HasLabels text rest count → strip (codes ",") rest ≡ Some tail → IsLabelled tail number behind → HasLabels text behind (count + 1)
has_next text rest tail behind count number h s l =
    let e : rest ≡ Char 44 ∷ tail = strip_same (codes ",") rest tail s in
    record {
      ends = l.whole;
      on = λ n final m.
          let c : count + (n + 1) ≡ count + 1 + n = omega arith in
          subst (λ (q : ℕ). IsLabelList text q final) c (h.on (n + 1) final (record {
            more = l.label ∷ m.more;
            list = Char 44 ∷ (chars77 l.label ++ m.list);
            labels = (m.list, refl, l.is_label, m.labels);
            count = omega (arith, m.count);
            same = e ∙ ap (λ (q : List Symbol77). Char 44 ∷ q) (l.same ∙ (ap (λ (q : List Symbol77). chars77 l.label ++ q) m.same ∙ sym (append_assoc (chars77 l.label) m.list final)));
            whole = m.whole;
          }));
      back = λ n final k.
          let b = h.back n final k in
          let x = next_of rest tail b.0 final e b.2 in (
            length x.later,
            omega (arith, b.1, x.count),
            record {
              more = x.later;
              list = x.list;
              labels = x.labels;
              count = refl;
              same = labelled_same tail behind (x.list ++ final) number x.number l x.labelled;
              whole = x.whole;
            },
          );
    }

pub no_next : (text rest tail : List Symbol77) (count : ℕ) → HasLabels text rest count → strip (codes ",") rest ≡ Some tail → ((number : ℕ) (behind : List Symbol77) → IsLabelled tail number behind → ⊥)
    → (n : ℕ) (final : List Symbol77) → IsLabelList text n final → ⊥
no_next text rest tail count h s none n final k =
    let b = h.back n final k in
    let x = next_of rest tail b.0 final (strip_same (codes ",") rest tail s) b.2 in none x.number (x.list ++ final) x.labelled

-- ---- no comma behind a label

comma_by : (b : Bool) (c : ℕ) (ss : List Symbol77) → (44 == c) ≡ b → strip (codes ",") (Char c ∷ ss) ≡ None → b ≡ false
comma_by true c ss e h = let f : strip (codes ",") (Char c ∷ ss) ≡ Some ss = rw e refl in let z : ⊥ = cc in absurd z
comma_by false c ss e h = refl

neither : (c : ℕ) → is_digit c ≡ false → (44 == c) ≡ false → goes_on c ≡ false
neither c h k = grind (arith, nat_tests)

list_ends : (rest : List Symbol77) → Stops77 is_digit rest → strip (codes ",") rest ≡ None → Stops77 goes_on rest
list_ends [] h s = tt
list_ends (Char c ∷ ss) h s = neither c h (comma_by (44 == c) c ss refl s)
list_ends (t ∷ ss) h s = tt

pub labels_found : (text rest : List Symbol77) (count : ℕ) → HasLabels text rest count → strip (codes ",") rest ≡ None → IsLabelList text count rest
labels_found text rest count h s =
    let e : count + 0 ≡ count = omega arith in
    subst (λ (q : ℕ). IsLabelList text q rest) e (h.on 0 rest (record { more = []; list = []; labels = refl; count = refl; same = refl; whole = list_ends rest h.ends s }))

none_some : (q : List Symbol77) → None ≡ Some q → ⊥
none_some q e = cc

only_by : (more : List (List ℕ)) (rest list : List Symbol77) (k : ℕ) (final : List Symbol77) → AreMoreLabels more list → length more ≡ k → rest ≡ list ++ final → strip (codes ",") rest ≡ None → (k ≡ 0) × (rest ≡ final)
only_by [] rest list k final h n s z = (sym n, s ∙ ap (λ (q : List Symbol77). q ++ final) h)
only_by (l ∷ ls) rest list k final h n s z =
    let f : rest ≡ Char 44 ∷ (chars77 l ++ (h.0 ++ final)) =
    s ∙ (ap (λ (q : List Symbol77). q ++ final) h.1 ∙ ap (λ (q : List Symbol77). Char 44 ∷ q) (append_assoc (chars77 l) h.0 final)) in
    absurd (none_some _ (sym z ∙ stripped (codes ",") rest (chars77 l ++ (h.0 ++ final)) f))

pub labels_only : (text rest : List Symbol77) (count : ℕ) → HasLabels text rest count → strip (codes ",") rest ≡ None → (n : ℕ) (final : List Symbol77) → IsLabelList text n final → (count ≡ n) × (rest ≡ final)
labels_only text rest count h s n final k =
    let b = h.back n final k in
    let o = only_by b.2.more rest b.2.list b.0 final b.2.labels b.2.count b.2.same s in
    (omega (arith, b.1, o.0), o.1)

-- ---- lengths

pub label_shorter : (xs ys : List Symbol') (number : ℕ) → IsLabelled (symbols_of xs) number (symbols_of ys) → length ys < length xs
label_shorter xs ys number h =
    let a : length xs ≡ length (symbols_of xs) = sym (length-map xs symbol_of) in
    let b : length ys ≡ length (symbols_of ys) = sym (length-map ys symbol_of) in
    let c : length (symbols_of xs) ≡ length (chars77 h.label) + length (symbols_of ys) = ap length h.same ∙ length-append (chars77 h.label) (symbols_of ys) in
    let d : length (chars77 h.label) ≡ length h.label = length-map h.label Char in
    let e : 0 < length h.label = some_digits h.label h.is_label.0 in
    omega arith

pub comma_shorter : (xs ys : List Symbol') → strip (codes ",") (symbols_of xs) ≡ Some (symbols_of ys) → length xs ≡ length ys + 1
comma_shorter xs ys s =
    let a : length xs ≡ length (symbols_of xs) = sym (length-map xs symbol_of) in
    let b : length ys ≡ length (symbols_of ys) = sym (length-map ys symbol_of) in
    let e : symbols_of xs ≡ Char 44 ∷ symbols_of ys = strip_same (codes ",") (symbols_of xs) (symbols_of ys) s in
    let c : length (symbols_of xs) ≡ suc (length (symbols_of ys)) = ap length e in
    omega arith
