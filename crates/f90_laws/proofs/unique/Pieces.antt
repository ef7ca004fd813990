-- What a line of a statement says: its characters, whether an ampersand stands before them and whether one stands behind.
use Rattle.std.proofs.Common.{◌≡◌, ℕ, ◌==◌, Bool, true, false, not, ◌&&◌, ◌||◌, cond, List, [], ◌∷◌, ◌++◌, refl, sym, ap, subst, ◌∙◌, append_assoc, append-nil}
use Rattle.std.specs.List.{list_all}
use Rattle.std.proofs.lemmas.Bool.{and_parts, or_parts, cond-true, cond-false, eqb-true}
use Rattle.f90_grammar.specs.FreeForm.{LinePiece, IsPiece, ampersand, written_piece, starts_with, ends_with, is_tail, is_nothing, is_open_behind, has_comment}
use Rattle.reading.specs.Characters.{is_blank}

-- ---- tests

and_false : (b : Bool) → (b && false) ≡ false
and_false true = refl
and_false false = refl

not_false : (b : Bool) → not b ≡ true → b ≡ false
not_false true h = absurd (cc)
not_false false h = refl

nothing : (xs : List ℕ) → is_nothing xs ≡ true → xs ≡ []
nothing [] h = refl
nothing (c ∷ cs) h = absurd (cc)

-- ---- the ampersand before the characters

abbrev rest_of : List ℕ → List ℕ
rest_of [] = []
rest_of (c ∷ cs) = cond (is_blank c) (rest_of cs) cs

abbrev unpulled : Bool → List ℕ → List ℕ
unpulled true line = rest_of line
unpulled false line = line

starts_blank : (xs ys : List ℕ) → list_all is_blank xs ≡ true → starts_with 38 (xs ++ 38 ∷ ys) ≡ true
starts_blank [] ys h = refl
starts_blank (c ∷ cs) ys h =
    let k = and_parts (is_blank c) (list_all is_blank cs) h in
    cond-true (is_blank c) (starts_with 38 (cs ++ 38 ∷ ys)) (c == 38) k.0 ∙ starts_blank cs ys k.1

rest_blank : (xs ys : List ℕ) → list_all is_blank xs ≡ true → rest_of (xs ++ 38 ∷ ys) ≡ ys
rest_blank [] ys h = refl
rest_blank (c ∷ cs) ys h =
    let k = and_parts (is_blank c) (list_all is_blank cs) h in
    cond-true (is_blank c) (rest_of (cs ++ 38 ∷ ys)) (cs ++ 38 ∷ ys) k.0 ∙ rest_blank cs ys k.1

-- ---- the ampersand behind the characters

not_all : (xs ys : List ℕ) → list_all is_blank (xs ++ 38 ∷ ys) ≡ false
not_all [] ys = refl
not_all (c ∷ cs) ys = ap (λ (b : Bool). is_blank c && b) (not_all cs ys) ∙ and_false (is_blank c)

ends_ampersand : (xs ys : List ℕ) → list_all is_blank ys ≡ true → ends_with 38 (xs ++ 38 ∷ ys) ≡ true
ends_ampersand [] ys h = cond-true (list_all is_blank ys) true (ends_with 38 ys) h
ends_ampersand (c ∷ cs) ys h =
    cond-false (list_all is_blank (cs ++ 38 ∷ ys)) (c == 38) (ends_with 38 (cs ++ 38 ∷ ys)) (not_all cs ys) ∙ ends_ampersand cs ys h

abbrev before_last : List ℕ → List ℕ
before_last [] = []
before_last (c ∷ cs) = cond (list_all is_blank cs) [] (c ∷ before_last cs)

before_ampersand : (xs ys : List ℕ) → list_all is_blank ys ≡ true → before_last (xs ++ 38 ∷ ys) ≡ xs
before_ampersand [] ys h = cond-true (list_all is_blank ys) [] (38 ∷ before_last ys) h
before_ampersand (c ∷ cs) ys h =
    cond-false (list_all is_blank (cs ++ 38 ∷ ys)) [] (c ∷ before_last (cs ++ 38 ∷ ys)) (not_all cs ys)
    ∙ ap (λ (us : List ℕ). c ∷ us) (before_ampersand cs ys h)

before_blanks : (ys : List ℕ) → list_all is_blank ys ≡ true → before_last ys ≡ []
before_blanks [] h = refl
before_blanks (c ∷ cs) h = cond-true (list_all is_blank cs) [] (c ∷ before_last cs) (and_parts (is_blank c) (list_all is_blank cs) h).1

-- ---- comments

abbrev turned : Bool → ℕ → Bool
turned o c = cond (c == 39) (not o) o

abbrev without_comment : Bool → List ℕ → List ℕ
without_comment o [] = []
without_comment o (c ∷ cs) = cond (not o && c == 33) [] (c ∷ without_comment (turned o c) cs)

uncommented : (o : Bool) (xs t : List ℕ) → has_comment o xs ≡ false → is_tail t ≡ true → (not (is_open_behind o xs) || is_nothing t) ≡ true
    → without_comment o (xs ++ t) ≡ xs
uncommented o [] [] h i k = refl
uncommented true [] (c ∷ cs) h i k = absurd (cc)
uncommented false [] (c ∷ cs) h i k = cond-true (c == 33) [] (c ∷ without_comment (turned false c) cs) i
uncommented o (x ∷ xs) t h i k =
    let r = or_parts (not o && x == 33) (has_comment (turned o x) xs) h in
    cond-false (not o && x == 33) [] (x ∷ without_comment (turned o x) (xs ++ t)) r.0
    ∙ ap (λ (us : List ℕ). x ∷ us) (uncommented (turned o x) xs t r.1 i k)

-- characters that neither begin a comment nor bound a constant
record IsQuiet (xs : List ℕ) : Type 0 where
  pub comment : (o : Bool) (ys : List ℕ) → has_comment o (xs ++ ys) ≡ has_comment o ys
  pub constant : (o : Bool) (ys : List ℕ) → is_open_behind o (xs ++ ys) ≡ is_open_behind o ys

quiet_blanks : (xs : List ℕ) → list_all is_blank xs ≡ true → IsQuiet xs
quiet_blanks [] h = record { comment = λ o ys. refl; constant = λ o ys. refl }
quiet_blanks (c ∷ cs) h =
    let k = and_parts (is_blank c) (list_all is_blank cs) h in
    let q = quiet_blanks cs k.1 in
    subst (λ (x : ℕ). IsQuiet (x ∷ cs)) (sym (eqb-true c 32 k.0)) (record {
      comment = λ o ys. blank_comment o (cs ++ ys) ∙ q.comment o ys;
      constant = λ o ys. q.constant o ys;
    })
  where
    blank_comment : (o : Bool) (ys : List ℕ) → has_comment o (32 ∷ ys) ≡ has_comment o ys
    blank_comment true ys = refl
    blank_comment false ys = refl

quiet_ampersand : (b : Bool) → IsQuiet (ampersand b)
quiet_ampersand false = record { comment = λ o ys. refl; constant = λ o ys. refl }
quiet_ampersand true = record { comment = λ o ys. by o ys; constant = λ o ys. refl }
  where
    by : (o : Bool) (ys : List ℕ) → has_comment o (38 ∷ ys) ≡ has_comment o ys
    by true ys = refl
    by false ys = refl

behind_comment : (o : Bool) (xs ys : List ℕ) → IsQuiet ys → has_comment o xs ≡ false → has_comment o (xs ++ ys) ≡ false
behind_comment o [] ys q h = ap (has_comment o) (sym (append-nil ys)) ∙ q.comment o []
behind_comment o (x ∷ xs) ys q h =
    let r = or_parts (not o && x == 33) (has_comment (turned o x) xs) h in
    ap (λ (b : Bool). b || has_comment (turned o x) (xs ++ ys)) r.0 ∙ behind_comment (turned o x) xs ys q r.1

behind_open : (o : Bool) (xs ys : List ℕ) → IsQuiet ys → is_open_behind o (xs ++ ys) ≡ is_open_behind o xs
behind_open o [] ys q = ap (is_open_behind o) (sym (append-nil ys)) ∙ q.constant o []
behind_open o (x ∷ xs) ys q = behind_open (turned o x) xs ys q

quiet_both : (xs ys : List ℕ) → IsQuiet xs → IsQuiet ys → IsQuiet (xs ++ ys)
quiet_both xs ys p q = record {
  comment = λ o us. ap (has_comment o) (append_assoc xs ys us) ∙ (p.comment o (ys ++ us) ∙ q.comment o us);
  constant = λ o us. ap (is_open_behind o) (append_assoc xs ys us) ∙ (p.constant o (ys ++ us) ∙ q.constant o us);
}

-- ---- a piece without its comment

module _ (before chars behind : List ℕ) (pulled continued single : Bool) where
  abbrev body : List ℕ
  body = chars ++ (ampersand (continued && not single) ++ behind)

  abbrev front : List ℕ
  front = before ++ (ampersand pulled ++ body)

record Says (line : List ℕ) (pulled continued : Bool) (chars : List ℕ) : Type 0 where
  pub is_continued : ends_with 38 line ≡ continued
  pub chars_are : cond continued (before_last (unpulled pulled line)) (unpulled pulled line) ≡ chars

abbrev front_of : LinePiece → List ℕ
front_of p = front p.before p.chars p.behind p.is_pulled p.is_continued p.is_single

written_front : (p : LinePiece) → written_piece p ≡ front_of p ++ p.comment
written_front p = simp append_assoc

front_taken : (o : Bool) (p : LinePiece) → IsPiece o p → without_comment o (written_piece p) ≡ front_of p
front_taken o p h =
    let bs = and_parts (list_all is_blank p.before) (list_all is_blank p.behind) h.blanks in
    let cs = and_parts (is_tail p.comment) (not (has_comment o p.chars)) h.comment in
    let lead = quiet_both p.before (ampersand p.is_pulled) (quiet_blanks p.before bs.0) (quiet_ampersand p.is_pulled) in
    let trail = quiet_both (ampersand (p.is_continued && not p.is_single)) p.behind (quiet_ampersand (p.is_continued && not p.is_single)) (quiet_blanks p.behind bs.1) in
    let tail_words = ampersand (p.is_continued && not p.is_single) ++ p.behind in
    let regroup : (p.before ++ ampersand p.is_pulled) ++ (p.chars ++ tail_words) ≡ front_of p
    = append_assoc p.before (ampersand p.is_pulled) (p.chars ++ tail_words) in
    let none : has_comment o (front_of p) ≡ false
    = ap (has_comment o) (sym regroup) ∙ (lead.comment o (p.chars ++ tail_words)
    ∙ behind_comment o p.chars tail_words trail (not_false (has_comment o p.chars) cs.1)) in
    let same : is_open_behind o (front_of p) ≡ is_open_behind o p.chars
    = ap (is_open_behind o) (sym regroup) ∙ (lead.constant o (p.chars ++ tail_words) ∙ behind_open o p.chars tail_words trail) in
    ap (without_comment o) (written_front p)
    ∙ uncommented o (front_of p) p.comment none cs.0 (ap (λ (b : Bool). not b || is_nothing p.comment) same ∙ h.in_constant)

-- ---- what it says

pulled_is : (pulled : Bool) (before line rest : List ℕ) → list_all is_blank before ≡ true → line ≡ before ++ (ampersand pulled ++ rest)
    → (pulled || (is_nothing before && not (starts_with 38 line))) ≡ true → starts_with 38 line ≡ pulled
pulled_is true before line rest b e h = ap (starts_with 38) e ∙ starts_blank before rest b
pulled_is false before line rest b e h = not_false (starts_with 38 line) (and_parts (is_nothing before) (not (starts_with 38 line)) h).1

unpulled_is : (pulled : Bool) (before rest : List ℕ) → list_all is_blank before ≡ true
    → (pulled ≡ false → before ≡ []) → unpulled pulled (before ++ (ampersand pulled ++ rest)) ≡ rest
unpulled_is true before rest b n = rest_blank before rest b
unpulled_is false before rest b n = ap (λ (us : List ℕ). us ++ rest) (n refl)

unled : (pulled : Bool) (before : List ℕ) (b : Bool) → (pulled || (is_nothing before && b)) ≡ true → pulled ≡ false → before ≡ []
unled true before b h e = absurd (cc)
unled false before b h e = nothing before (and_parts (is_nothing before) b h).0

says : (before chars behind : List ℕ) (pulled continued single : Bool) → list_all is_blank before ≡ true → list_all is_blank behind ≡ true
    → (pulled ≡ false → before ≡ [])
    → (continued || (is_nothing behind && not (ends_with 38 (before ++ (ampersand pulled ++ chars))))) ≡ true
    → (not single || (pulled && (continued && is_nothing chars))) ≡ true
    → Says (front before chars behind pulled continued single) pulled continued chars
says before chars behind pulled false single a b n f s =
    let k = and_parts (is_nothing behind) (not (ends_with 38 (before ++ (ampersand pulled ++ chars)))) f in
    let plain : chars ++ behind ≡ chars = ap (λ (us : List ℕ). chars ++ us) (nothing behind k.0) ∙ append-nil chars in
    record {
      is_continued = ap (λ (us : List ℕ). ends_with 38 (before ++ (ampersand pulled ++ us))) plain ∙ not_false (ends_with 38 (before ++ (ampersand pulled ++ chars))) k.1;
      chars_are = unpulled_is pulled before (chars ++ behind) a n ∙ plain;
    }
says before chars behind pulled true false a b n f s =
    let regroup : before ++ (ampersand pulled ++ (chars ++ 38 ∷ behind)) ≡ (before ++ (ampersand pulled ++ chars)) ++ 38 ∷ behind
    = simp append_assoc in
    record {
      is_continued = ap (ends_with 38) regroup ∙ ends_ampersand (before ++ (ampersand pulled ++ chars)) behind b;
      chars_are = ap before_last (unpulled_is pulled before (chars ++ 38 ∷ behind) a n) ∙ before_ampersand chars behind b;
    }
says before chars behind true true true a b n f s =
    let none = nothing chars s in
    record {
      is_continued = ap (λ (us : List ℕ). ends_with 38 (before ++ 38 ∷ (us ++ behind))) none ∙ ends_ampersand before behind b;
      chars_are = ap before_last (unpulled_is true before (chars ++ behind) a n)
          ∙ (ap (λ (us : List ℕ). before_last (us ++ behind)) none ∙ (before_blanks behind b ∙ sym none));
    }
says before chars behind false true true a b n f s = absurd (cc)

pub record SamePiece (p q : LinePiece) : Type 0 where
  pub pulled : p.is_pulled ≡ q.is_pulled
  pub chars : p.chars ≡ q.chars
  pub continued : p.is_continued ≡ q.is_continued

-- a line is one piece
pub piece_once : (o : Bool) (p q : LinePiece) → IsPiece o p → IsPiece o q → written_piece p ≡ written_piece q → SamePiece p q
piece_once o p q h k e =
    let a = pull p h in
    let b = pull q k in
    let pulled : p.is_pulled ≡ q.is_pulled = sym a ∙ (ap (starts_with 38) e ∙ b) in
    let f : front_of p ≡ front_of q = sym (front_taken o p h) ∙ (ap (without_comment o) e ∙ front_taken o q k) in
    let s = say p h in
    let t = say q k in
    let continued : p.is_continued ≡ q.is_continued = sym s.is_continued ∙ (ap (ends_with 38) f ∙ t.is_continued) in
    record {
      pulled = pulled;
      chars = sym s.chars_are ∙ (three p.is_continued q.is_continued p.is_pulled q.is_pulled (front_of p) (front_of q) continued pulled f ∙ t.chars_are);
      continued = continued;
    }
  where
    pull : (p : LinePiece) → IsPiece o p → starts_with 38 (written_piece p) ≡ p.is_pulled
    pull p h = pulled_is p.is_pulled p.before (written_piece p) _ (and_parts (list_all is_blank p.before) (list_all is_blank p.behind) h.blanks).0 refl h.leading

    say : (p : LinePiece) → IsPiece o p → Says (front_of p) p.is_pulled p.is_continued p.chars
    say p h =
        let bs = and_parts (list_all is_blank p.before) (list_all is_blank p.behind) h.blanks in
        says p.before p.chars p.behind p.is_pulled p.is_continued p.is_single bs.0 bs.1
        (unled p.is_pulled p.before (not (starts_with 38 (written_piece p))) h.leading) h.final h.single

    three : (c d a b : Bool) (x y : List ℕ) → c ≡ d → a ≡ b → x ≡ y
        → cond c (before_last (unpulled a x)) (unpulled a x) ≡ cond d (before_last (unpulled b y)) (unpulled b y)
    three c d a b x y e f g = rw (e, f, g) refl
