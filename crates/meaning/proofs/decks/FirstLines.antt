-- The first line of a text.
use Rattle.std.proofs.Common.{◌≡◌, ◌≢◌, ◌<◌, ◌+◌, ◌-◌, ℕ, List, [], ◌∷◌, ◌++◌, length, take, drop, get_or, refl, ap, sym, ◌∙◌, subst, arith, Bool, true, false, cond, ◌||◌, ◌⊎◌, inl, inr, append-nil, append_assoc, length-append}
use Rattle.std.specs.Prelude.{◌==◌, slice_index}
use Rattle.std.specs.Str.{bytes_eq}
use Rattle.std.specs.Str.Lines.{lines_of_parts, strip_carriage_return}
use Rattle.std.proofs.lemmas.Bool.{cond-false, eqb-true, ne_eqb, or_cases, false_from_ne_true}
use Rattle.std.proofs.lemmas.Slice.Eq.{bytes_eq-Decides}
use Rattle.meaning.specs.Deck.{lines_of, whole_lines, is_line}
use Rattle.std.specs.List.{AllByRecursion}
use Rattle.std.proofs.lemmas.List.{append_cancel_right, drop_more, drop_all, take-append-drop}
use Rattle.meaning.proofs.decks.WholeLines.{Lacks, pieces_some, pieces_none, pieces_first, ended, whole-ended, whole_first}
use Rattle.meaning.specs.declared.decks.lines.DataLine.{DataLine}
use Rattle.meaning.specs.declared.decks.lines.DataLine.TheVariants.{Fortran77, Fortran90}
use Rattle.meaning.specs.decks.FirstLine.{IsFirstLine, characters}

-- ---- what is a data line

-- what is asked of the characters of such a line: no line feed, no carriage return at their end
pub record IsMark (m : List ℕ) : Type 0 where
  pub lacks : Lacks 10 m
  pub kept : strip_carriage_return m ≡ m
  pub stripped : strip_carriage_return (m ++ 13 ∷ []) ≡ m
  pub fed : is_line m (m ++ 10 ∷ []) ≡ true
  pub returned : is_line m ((m ++ 13 ∷ []) ++ 10 ∷ []) ≡ true

marks : (d : DataLine) → IsMark (characters d)
marks Fortran77 = record {
  lacks = (λ e. omega (arith, e), (λ e. omega (arith, e), (λ e. omega (arith, e), (λ e. omega (arith, e), (λ e. omega (arith, e), tt)))));
  kept = refl;
  stripped = refl;
  fed = refl;
  returned = refl;
}
marks Fortran90 = record {
  lacks = (λ e. omega (arith, e), (λ e. omega (arith, e), (λ e. omega (arith, e), (λ e. omega (arith, e), (λ e. omega (arith, e), tt)))));
  kept = refl;
  stripped = refl;
  fed = refl;
  returned = refl;
}

same_tests : (a b : Bool) → (a ≡ true → b ≡ true) → (b ≡ true → a ≡ true) → a ≡ b
same_tests true true f g = refl
same_tests true false f g = sym (f refl)
same_tests false true f g = g refl
same_tests false false f g = refl

equal : (xs ys : List ℕ) → bytes_eq xs ys ≡ true → xs ≡ ys
equal xs ys e = (bytes_eq-Decides xs ys).0 e

-- a list without line feeds isn't one that ends with one
no_feed : (xs ys : List ℕ) → Lacks 10 xs → xs ≡ ys ++ 10 ∷ [] → ⊥
no_feed xs ys h e = gone ys (subst (λ (t : List ℕ). Lacks 10 t) e h)
  where
    gone : (ys : List ℕ) → Lacks 10 (ys ++ 10 ∷ []) → ⊥
    gone [] k = k.0 refl
    gone (y ∷ ys) k = gone ys k.1

no_feeds : (xs ys : List ℕ) → Lacks 10 xs → xs ≡ ys ++ 13 ∷ 10 ∷ [] → ⊥
no_feeds xs ys h e = no_feed xs (ys ++ 13 ∷ []) h (e ∙ sym (append_assoc ys (13 ∷ []) (10 ∷ [])))

ends_13 : (x : List ℕ) → get_or x (length x - 1) 0 ≡ 13 → x ≡ take (length x - 1) x ++ 13 ∷ []
ends_13 [] e = absurd (let f : 0 ≡ 13 = e in omega (arith, f))
ends_13 (c ∷ cs) e =
    let l : length (c ∷ cs) - 1 < length (c ∷ cs) = omega arith in
    let d : drop (length (c ∷ cs) - 1) (c ∷ cs) ≡ get_or (c ∷ cs) (length (c ∷ cs) - 1) 0 ∷ drop (length (c ∷ cs) - 1 + 1) (c ∷ cs) = drop_more (c ∷ cs) (length (c ∷ cs) - 1) 0 l in
    let z : drop (length (c ∷ cs) - 1 + 1) (c ∷ cs) ≡ [] = drop_all (length (c ∷ cs) - 1 + 1) (c ∷ cs) (omega arith) in
    sym (take-append-drop (length (c ∷ cs) - 1) (c ∷ cs)) ∙ ap (λ t. take (length (c ∷ cs) - 1) (c ∷ cs) ++ t) (d ∙ ap (λ t. get_or (c ∷ cs) (length (c ∷ cs) - 1) 0 ∷ t) z ∙ ap (λ (b : ℕ). b ∷ []) e)

module _ (m : List ℕ) (is : IsMark m) where
  lone_data : (text : List ℕ) → Lacks 10 text → is_line m text ≡ bytes_eq text m
  lone_data text h =
      rw (
        false_from_ne_true (bytes_eq text (m ++ 10 ∷ [])) (λ e. no_feed text m h (equal text (m ++ 10 ∷ []) e)),
        false_from_ne_true (bytes_eq text (m ++ 13 ∷ 10 ∷ [])) (λ e. no_feeds text m h (equal text (m ++ 13 ∷ 10 ∷ []) e)),
      )
      (or_false (bytes_eq text m))
    where
      or_false : (b : Bool) → (b || false) ≡ b
      or_false true = refl
      or_false false = refl

  fed_data : (line : List ℕ) → Lacks 10 line → is_line m (line ++ 10 ∷ []) ≡ bytes_eq (strip_carriage_return line) m
  fed_data line h = same_tests _ _ there back
    where
      there : is_line m (line ++ 10 ∷ []) ≡ true → bytes_eq (strip_carriage_return line) m ≡ true
      there e = by (or_cases (bytes_eq (line ++ 10 ∷ []) m) _ e)
        where
          stripped : (x : List ℕ) → line ≡ x → strip_carriage_return x ≡ m → bytes_eq (strip_carriage_return line) m ≡ true
          stripped x q r = (bytes_eq-Decides (strip_carriage_return line) m).1 (ap strip_carriage_return q ∙ r)

          further : (bytes_eq (line ++ 10 ∷ []) (m ++ 10 ∷ []) ≡ true) ⊎ (bytes_eq (line ++ 10 ∷ []) (m ++ 13 ∷ 10 ∷ []) ≡ true)
              → bytes_eq (strip_carriage_return line) m ≡ true
          further (inl q) = stripped m (append_cancel_right line m (10 ∷ []) (equal _ _ q)) is.kept
          further (inr q) =
              stripped (m ++ 13 ∷ []) (append_cancel_right line (m ++ 13 ∷ []) (10 ∷ []) (equal _ _ q ∙ sym (append_assoc m (13 ∷ []) (10 ∷ [])))) is.stripped

          by : (bytes_eq (line ++ 10 ∷ []) m ≡ true)
              ⊎ ((bytes_eq (line ++ 10 ∷ []) (m ++ 10 ∷ []) || bytes_eq (line ++ 10 ∷ []) (m ++ 13 ∷ 10 ∷ [])) ≡ true)
              → bytes_eq (strip_carriage_return line) m ≡ true
          by (inl q) = absurd (no_feed m line is.lacks (sym (equal (line ++ 10 ∷ []) m q)))
          by (inr q) = further (or_cases (bytes_eq (line ++ 10 ∷ []) (m ++ 10 ∷ [])) _ q)

      feed : (x : List ℕ) → line ≡ x → is_line m (x ++ 10 ∷ []) ≡ true → is_line m (line ++ 10 ∷ []) ≡ true
      feed x q r = ap (λ t. is_line m (t ++ 10 ∷ [])) q ∙ r

      back : bytes_eq (strip_carriage_return line) m ≡ true → is_line m (line ++ 10 ∷ []) ≡ true
      back e = by (slice_index line (length line - 1) == 13) refl (equal _ _ e)
        where
          by : (b : Bool) → (slice_index line (length line - 1) == 13) ≡ b → cond b (take (length line - 1) line) line ≡ m → is_line m (line ++ 10 ∷ []) ≡ true
          by true q r = feed (m ++ 13 ∷ []) (ends_13 line (eqb-true (slice_index line (length line - 1)) 13 q) ∙ ap (λ t. t ++ 13 ∷ []) r) is.returned
          by false q r = feed m r is.fed

-- ---- first lines

abbrev pub Lacks10 : List ℕ → Type 0
Lacks10 = Lacks 10

lone_part : (text : List ℕ) → (text ≡ [] → ⊥) → cond (length text == 0) [] (text ∷ []) ≡ text ∷ []
lone_part [] some = absurd (some refl)
lone_part (c ∷ cs) some = cond-false (length (c ∷ cs) == 0) [] ((c ∷ cs) ∷ []) (ne_eqb (length (c ∷ cs)) 0 (λ e. omega arith))

some_bytes : (text : List ℕ) → (text ≡ [] → ⊥) → 0 < length text
some_bytes [] some = absurd (some refl)
some_bytes (c ∷ cs) some = omega arith

pub lone_line : (text : List ℕ) → (text ≡ [] → ⊥) → AllByRecursion (λ b. b ≢ 10) text → IsFirstLine text text []
lone_line text some h = record {
  lines = ap lines_of_parts (pieces_none 10 text h) ∙ lone_part text some;
  whole = text;
  text_is = sym (append-nil text);
  whole_lines_are = whole-ended text ∙ ap ended (pieces_none 10 text h) ∙ lone_part text some;
  is_data = λ d. lone_data (characters d) (marks d) text h;
  shorter = some_bytes text some;
}

pub cut_line : (text line rest : List ℕ) → AllByRecursion (λ b. b ≢ 10) line → text ≡ line ++ 10 ∷ rest → IsFirstLine text (strip_carriage_return line) rest
cut_line text line rest h e = record {
  lines =
      let r = pieces_some 10 rest in
      ap lines_of e ∙ ap lines_of_parts (pieces_first 10 line rest h) ∙ ap (λ ps. lines_of_parts (line ∷ ps)) r.2
      ∙ ap (λ ps. strip_carriage_return line ∷ lines_of_parts ps) (sym r.2);
  whole = line ++ 10 ∷ [];
  text_is = e ∙ sym (append_assoc line (10 ∷ []) rest);
  whole_lines_are = ap whole_lines e ∙ whole_first line rest h;
  is_data = λ d. fed_data (characters d) (marks d) line h;
  shorter = omega (arith, ap length e, length-append line (10 ∷ rest));
}
