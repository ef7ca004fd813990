-- A line that is no comment is a part of a statement, and the one that is found.
use Rattle.std.proofs.Common.{arith, ◌≡◌, ℕ, ◌+◌, ◌-◌, ◌<◌, ◌≤◌, List, [], ◌∷◌, ◌++◌, length, take, drop, get_or, Bool, true, false, not, ◌&&◌, ◌||◌, refl, ap, sym, subst, ◌∙◌, append_assoc, append-nil, inl, inr}
use Rattle.std.specs.Prelude.{◌==◌}
use Rattle.std.specs.List.{list_all}
use Rattle.std.proofs.lemmas.Bool.{cond-true, cond-false, and_parts, and_from, or_parts, or_cases, or_left, or_right, eqb-true, not_from_false}
use Rattle.std.proofs.lemmas.List.{take_more, drop_more, take-append-drop, append-nil}
use Rattle.std.proofs.lemmas.List.Folds.{list_all-append}
use Rattle.f90_grammar.specs.FreeForm.{starts_with, ends_with, is_comment_line, is_open_behind, has_comment, LinePiece, ampersand, written_piece, is_tail, is_nothing, IsPiece}
use Rattle.reading.specs.Characters.{is_blank}
use Rattle.f90_lines.specs.Parts.{LinePart, part, turned, without_comment, after_blanks, before_last, IsEnd, ended, pulled_part, part_by, part_of}

clash : {P : Type 0} (b : Bool) → b ≡ true → b ≡ false → P
clash b h k = absurd (cc)

and_no : (b : Bool) → (b && false) ≡ false
and_no true = refl
and_no false = refl

-- ---- steps of the loops

-- at an exclamation mark outside constants
pub comment_at : (o : Bool) (line : List ℕ) (i c : ℕ) → i < length line → c ≡ get_or line i 0 → (not o && c == 33) ≡ true
    → take i line ++ without_comment o (drop i line) ≡ take i line
comment_at o line i c l at h =
    let d : drop i line ≡ c ∷ drop (i + 1) line = drop_more line i 0 l ∙ ap (λ (x : ℕ). x ∷ drop (i + 1) line) (sym at) in
    ap (λ (us : List ℕ). take i line ++ without_comment o us) d
    ∙ (ap (λ (us : List ℕ). take i line ++ us) (cond-true (not o && c == 33) [] (c ∷ without_comment (turned o c) (drop (i + 1) line)) h)
    ∙ append-nil (take i line))

pub comment_more : (o : Bool) (line : List ℕ) (i c : ℕ) → i < length line → c ≡ get_or line i 0 → (not o && c == 33) ≡ false
    → take i line ++ without_comment o (drop i line) ≡ take (i + 1) line ++ without_comment (turned o c) (drop (i + 1) line)
comment_more o line i c l at h =
    let d : drop i line ≡ c ∷ drop (i + 1) line = drop_more line i 0 l ∙ ap (λ (x : ℕ). x ∷ drop (i + 1) line) (sym at) in
    let rest = without_comment (turned o c) (drop (i + 1) line) in
    let t : take (i + 1) line ≡ take i line ++ c ∷ [] = take_more line i 0 l ∙ ap (λ (x : ℕ). take i line ++ x ∷ []) (sym at) in
    ap (λ (us : List ℕ). take i line ++ without_comment o us) d
    ∙ (ap (λ (us : List ℕ). take i line ++ us) (cond-false (not o && c == 33) [] (c ∷ rest) h)
    ∙ (sym (append_assoc (take i line) (c ∷ []) rest) ∙ ap (λ (us : List ℕ). us ++ rest) (sym t)))

-- ---- the last character that is no blank

not_all : (xs ys : List ℕ) (c : ℕ) → is_blank c ≡ false → list_all is_blank (xs ++ c ∷ ys) ≡ false
not_all [] ys c h = ap (λ (b : Bool). b && list_all is_blank ys) h
not_all (x ∷ xs) ys c h = ap (λ (b : Bool). is_blank x && b) (not_all xs ys c h) ∙ and_no (is_blank x)

ends_at : (xs ys : List ℕ) (c d : ℕ) → is_blank c ≡ false → list_all is_blank ys ≡ true → ends_with d (xs ++ c ∷ ys) ≡ (c == d)
ends_at [] ys c d h k = cond-true (list_all is_blank ys) (c == d) (ends_with d ys) k
ends_at (x ∷ xs) ys c d h k =
    cond-false (list_all is_blank (xs ++ c ∷ ys)) (x == d) (ends_with d (xs ++ c ∷ ys)) (not_all xs ys c h) ∙ ends_at xs ys c d h k

last_at : (xs ys : List ℕ) (c : ℕ) → is_blank c ≡ false → list_all is_blank ys ≡ true → before_last (xs ++ c ∷ ys) ≡ xs
last_at [] ys c h k = cond-true (list_all is_blank ys) [] (c ∷ before_last ys) k
last_at (x ∷ xs) ys c h k =
    cond-false (list_all is_blank (xs ++ c ∷ ys)) [] (x ∷ before_last (xs ++ c ∷ ys)) (not_all xs ys c h)
    ∙ ap (λ (us : List ℕ). x ∷ us) (last_at xs ys c h k)

blank_is : (c : ℕ) → is_blank c ≡ true → (c == 38) ≡ false
blank_is c h = let e : c ≡ 32 = eqb-true c 32 h in ap (λ (x : ℕ). x == 38) e

ends_nowhere : (text : List ℕ) → list_all is_blank text ≡ true → ends_with 38 text ≡ false
ends_nowhere [] h = refl
ends_nowhere (c ∷ cs) h =
    let p = and_parts (is_blank c) (list_all is_blank cs) h in
    cond-true (list_all is_blank cs) (c == 38) (ends_with 38 cs) p.1 ∙ blank_is c p.0

-- a text with its last character
cut_at : (text : List ℕ) (n : ℕ) → n < length text → text ≡ take n text ++ get_or text n 0 ∷ drop (n + 1) text
cut_at text n l = sym (take-append-drop n text) ∙ ap (λ (us : List ℕ). take n text ++ us) (drop_more text n 0 l)

pub ended_ampersand : (pulled : Bool) (text : List ℕ) (n : ℕ) → IsEnd text n → 0 < n → get_or text (n - 1) 0 ≡ 38
    → part pulled true (take (n - 1) text) ≡ ended pulled text
ended_ampersand pulled text n h l e =
    let m = n - 1 in
    let k : m + 1 ≡ n = omega (arith, l) in
    let b : list_all is_blank (drop (m + 1) text) ≡ true = ap (λ (x : ℕ). list_all is_blank (drop x text)) k ∙ h.blanks in
    let c : text ≡ take m text ++ 38 ∷ drop (m + 1) text
    = cut_at text m (omega (arith, l, h.within)) ∙ ap (λ (x : ℕ). take m text ++ x ∷ drop (m + 1) text) e in
    let t : ends_with 38 text ≡ true = ap (ends_with 38) c ∙ ends_at (take m text) (drop (m + 1) text) 38 38 refl b in
    let u : before_last text ≡ take m text = ap before_last c ∙ last_at (take m text) (drop (m + 1) text) 38 refl b in
    ap (part pulled true) (sym u) ∙ sym (cond-true (ends_with 38 text) (part pulled true (before_last text)) (part pulled false text) t)

ended_plain : (pulled : Bool) (text : List ℕ) → ends_with 38 text ≡ false → part pulled false text ≡ ended pulled text
ended_plain pulled text t = sym (cond-false (ends_with 38 text) (part pulled true (before_last text)) (part pulled false text) t)

pub ended_blank : (pulled : Bool) (text : List ℕ) (n : ℕ) → IsEnd text n → n ≤ 0 → part pulled false text ≡ ended pulled text
ended_blank pulled text n h l =
    let z : n ≡ 0 = omega (arith, l) in
    ended_plain pulled text (ends_nowhere text (ap (λ (x : ℕ). list_all is_blank (drop x text)) (sym z) ∙ h.blanks))

pub ended_other : (pulled : Bool) (text : List ℕ) (n : ℕ) → IsEnd text n → 0 < n → (get_or text (n - 1) 0 == 38) ≡ false
    → part pulled false text ≡ ended pulled text
ended_other pulled text n h l e =
    let m = n - 1 in
    let k : m + 1 ≡ n = omega (arith, l) in
    let b : list_all is_blank (drop (m + 1) text) ≡ true = ap (λ (x : ℕ). list_all is_blank (drop x text)) k ∙ h.blanks in
    ended_plain pulled text
    (ap (ends_with 38) (cut_at text m (omega (arith, l, h.within))) ∙ (ends_at (take m text) (drop (m + 1) text) (get_or text m 0) 38 (h.last l) b ∙ e))

-- ---- comment lines

abbrev pub comment_by : List ℕ → Bool
comment_by [] = true
comment_by (c ∷ cs) = c == 33

comment_step : (b : Bool) (c : ℕ) (cs : List ℕ) → is_blank c ≡ b → is_comment_line cs ≡ comment_by (after_blanks cs)
    → is_comment_line (c ∷ cs) ≡ comment_by (after_blanks (c ∷ cs))
comment_step true c cs e h = rw e h
comment_step false c cs e h = rw e refl

pub comment_line : (line : List ℕ) → is_comment_line line ≡ comment_by (after_blanks line)
comment_line [] = refl
comment_line (c ∷ cs) = comment_step (is_blank c) c cs refl (comment_line cs)

comment_by-first : (rest : List ℕ) → 0 < length rest → comment_by rest ≡ (get_or rest 0 0 == 33)
comment_by-first [] h = absurd (omega arith)
comment_by-first (c ∷ cs) h = refl

comment_by-none : (rest : List ℕ) → length rest ≡ 0 → comment_by rest ≡ true
comment_by-none [] h = refl
comment_by-none (c ∷ cs) h = absurd (omega arith)

pub comment_none : (line : List ℕ) → length (after_blanks line) ≡ 0 → is_comment_line line ≡ true
comment_none line h = comment_line line ∙ comment_by-none (after_blanks line) h

pub comment_some : (line : List ℕ) → 0 < length (after_blanks line) → is_comment_line line ≡ (get_or (after_blanks line) 0 0 == 33)
comment_some line h = comment_line line ∙ comment_by-first (after_blanks line) h

pub ruleset comment_lines = (comment_none, comment_some)

-- ---- characters that neither begin a comment nor bound a constant

abbrev is_quiet : ℕ → Bool
is_quiet c = is_blank c || c == 38

quiet_apostrophe : (c : ℕ) → is_quiet c ≡ true → (c == 39) ≡ false
quiet_apostrophe c h =
    elim (or_cases (is_blank c) (c == 38) h) [
      | inl e ↦ (let w : c ≡ 32 = eqb-true c 32 e in ap (λ (x : ℕ). x == 39) w)
      | inr e ↦ (let w : c ≡ 38 = eqb-true c 38 e in ap (λ (x : ℕ). x == 39) w)
    ]

quiet_mark : (c : ℕ) → is_quiet c ≡ true → (c == 33) ≡ false
quiet_mark c h =
    elim (or_cases (is_blank c) (c == 38) h) [
      | inl e ↦ (let w : c ≡ 32 = eqb-true c 32 e in ap (λ (x : ℕ). x == 33) w)
      | inr e ↦ (let w : c ≡ 38 = eqb-true c 38 e in ap (λ (x : ℕ). x == 33) w)
    ]

no_mark : (o : Bool) (c : ℕ) → (c == 33) ≡ false → (not o && c == 33) ≡ false
no_mark o c h = ap (λ (b : Bool). not o && b) h ∙ and_no (not o)

comment_past : (o : Bool) (xs ys : List ℕ) → list_all is_quiet xs ≡ true → has_comment o (xs ++ ys) ≡ has_comment o ys
comment_past o [] ys h = refl
comment_past o (c ∷ cs) ys h =
    let p = and_parts (is_quiet c) (list_all is_quiet cs) h in
    ap (λ (b : Bool). b || has_comment (turned o c) (cs ++ ys)) (no_mark o c (quiet_mark c p.0))
    ∙ (ap (λ (b : Bool). has_comment b (cs ++ ys)) (cond-false (c == 39) (not o) o (quiet_apostrophe c p.0)) ∙ comment_past o cs ys p.1)

open_past : (o : Bool) (xs ys : List ℕ) → list_all is_quiet xs ≡ true → is_open_behind o (xs ++ ys) ≡ is_open_behind o ys
open_past o [] ys h = refl
open_past o (c ∷ cs) ys h =
    let p = and_parts (is_quiet c) (list_all is_quiet cs) h in
    ap (λ (b : Bool). is_open_behind b (cs ++ ys)) (cond-false (c == 39) (not o) o (quiet_apostrophe c p.0)) ∙ open_past o cs ys p.1

open_before : (o : Bool) (xs ys : List ℕ) → list_all is_quiet ys ≡ true → is_open_behind o (xs ++ ys) ≡ is_open_behind o xs
open_before o [] ys h = ap (is_open_behind o) (sym (append-nil ys)) ∙ open_past o ys [] h
open_before o (c ∷ cs) ys h = open_before (turned o c) cs ys h

comment_front : (o : Bool) (xs ys : List ℕ) → has_comment o (xs ++ ys) ≡ false → has_comment o xs ≡ false
comment_front o [] ys h = refl
comment_front o (c ∷ cs) ys h =
    let p = or_parts (not o && c == 33) (has_comment (turned o c) (cs ++ ys)) h in
    ap (λ (b : Bool). b || has_comment (turned o c) cs) p.0 ∙ comment_front (turned o c) cs ys p.1

quiet_blanks : (xs : List ℕ) → list_all is_blank xs ≡ true → list_all is_quiet xs ≡ true
quiet_blanks [] h = refl
quiet_blanks (c ∷ cs) h =
    let p = and_parts (is_blank c) (list_all is_blank cs) h in
    and_from (is_quiet c) (list_all is_quiet cs) (or_left (is_blank c) (c == 38) p.0) (quiet_blanks cs p.1)

quiet_ampersand : (b : Bool) → list_all is_quiet (ampersand b) ≡ true
quiet_ampersand true = refl
quiet_ampersand false = refl

quiet_both : (xs ys : List ℕ) → list_all is_quiet xs ≡ true → list_all is_quiet ys ≡ true → list_all is_quiet (xs ++ ys) ≡ true
quiet_both xs ys h k = list_all-append is_quiet xs ys ∙ and_from (list_all is_quiet xs) (list_all is_quiet ys) h k

-- ---- a line without its comment

record Commented (o : Bool) (line : List ℕ) : Type 0 where
  pub comment : List ℕ
  pub same : line ≡ without_comment o line ++ comment
  pub tail : is_tail comment ≡ true
  pub none : has_comment o (without_comment o line) ≡ false
  pub closed : (not (is_open_behind o (without_comment o line)) || is_nothing comment) ≡ true

outside : (o b : Bool) → (not o && b) ≡ true → not o ≡ true
outside o b h = (and_parts (not o) b h).0

commented_by : (o b : Bool) (c : ℕ) (cs : List ℕ) → (not o && c == 33) ≡ b → Commented (turned o c) cs → Commented o (c ∷ cs)
commented_by o true c cs e r =
    let w : without_comment o (c ∷ cs) ≡ [] = cond-true (not o && c == 33) [] (c ∷ without_comment (turned o c) cs) e in
    record {
      comment = c ∷ cs;
      same = ap (λ (us : List ℕ). us ++ c ∷ cs) (sym w);
      tail = (and_parts (not o) (c == 33) e).1;
      none = ap (has_comment o) w;
      closed = ap (λ (us : List ℕ). not (is_open_behind o us) || false) w ∙ or_left (not o) false (outside o (c == 33) e);
    }
commented_by o false c cs e r =
    let rest = without_comment (turned o c) cs in
    let w : without_comment o (c ∷ cs) ≡ c ∷ rest = cond-false (not o && c == 33) [] (c ∷ rest) e in
    record {
      comment = r.comment;
      same = ap (λ (us : List ℕ). c ∷ us) r.same ∙ ap (λ (us : List ℕ). us ++ r.comment) (sym w);
      tail = r.tail;
      none = ap (has_comment o) w ∙ (ap (λ (b : Bool). b || has_comment (turned o c) rest) e ∙ r.none);
      closed = ap (λ (us : List ℕ). not (is_open_behind o us) || is_nothing r.comment) w ∙ r.closed;
    }

commented : (o : Bool) (line : List ℕ) → Commented o line
commented o [] = record { comment = []; same = refl; tail = refl; none = refl; closed = or_right (not o) true refl }
commented o (c ∷ cs) = commented_by o (not o && c == 33) c cs refl (commented (turned o c) cs)

-- ---- its first and its last character but blanks

data Leads (text : List ℕ) : Type 0 where
  blank : list_all is_blank text ≡ true → after_blanks text ≡ [] → Leads text
  led : (before : List ℕ) (c : ℕ) (cs : List ℕ) → text ≡ before ++ c ∷ cs → list_all is_blank before ≡ true → is_blank c ≡ false
      → after_blanks text ≡ c ∷ cs → Leads text

leads_by : (b : Bool) (c : ℕ) (cs : List ℕ) → is_blank c ≡ b → Leads cs → Leads (c ∷ cs)
leads_by true c cs e (blank h k) =
    blank (and_from (is_blank c) (list_all is_blank cs) e h) (cond-true (is_blank c) (after_blanks cs) (c ∷ cs) e ∙ k)
leads_by true c cs e (led before d ds s h n k) =
    led (c ∷ before) d ds (ap (λ (us : List ℕ). c ∷ us) s) (and_from (is_blank c) (list_all is_blank before) e h) n
    (cond-true (is_blank c) (after_blanks cs) (c ∷ cs) e ∙ k)
leads_by false c cs e l = led [] c cs refl refl e (cond-false (is_blank c) (after_blanks cs) (c ∷ cs) e)

leads : (text : List ℕ) → Leads text
leads [] = blank refl refl
leads (c ∷ cs) = leads_by (is_blank c) c cs refl (leads cs)

record Ends (text : List ℕ) : Type 0 where
  pub front : List ℕ
  pub last : ℕ
  pub blanks : List ℕ
  pub same : text ≡ front ++ last ∷ blanks
  pub shown : is_blank last ≡ false
  pub are_blanks : list_all is_blank blanks ≡ true

ends_by : (b : Bool) (c : ℕ) (cs : List ℕ) → list_all is_blank cs ≡ b → list_all is_blank (c ∷ cs) ≡ false
    → (list_all is_blank cs ≡ false → Ends cs) → Ends (c ∷ cs)
ends_by true c cs e h more = record {
  front = [];
  last = c;
  blanks = cs;
  same = refl;
  shown = by (is_blank c) (list_all is_blank cs) e h;
  are_blanks = e;
}
  where
    by : (a b : Bool) → b ≡ true → (a && b) ≡ false → a ≡ false
    by true b e h = absurd (cc)
    by false b e h = refl
ends_by false c cs e h more =
    let r = more e in
    record {
      front = c ∷ r.front;
      last = r.last;
      blanks = r.blanks;
      same = ap (λ (us : List ℕ). c ∷ us) r.same;
      shown = r.shown;
      are_blanks = r.are_blanks;
    }

ends : (text : List ℕ) → list_all is_blank text ≡ false → Ends text
ends [] h = absurd (cc)
ends (c ∷ cs) h = ends_by (list_all is_blank cs) c cs refl h (λ e. ends cs e)

starts_past : (xs ys : List ℕ) (d : ℕ) → list_all is_blank xs ≡ true → starts_with d (xs ++ ys) ≡ starts_with d ys
starts_past [] ys d h = refl
starts_past (c ∷ cs) ys d h =
    let p = and_parts (is_blank c) (list_all is_blank cs) h in
    cond-true (is_blank c) (starts_with d (cs ++ ys)) (c == d) p.0 ∙ starts_past cs ys d p.1

-- ---- the piece

pub record IsPartOf (o : Bool) (line : List ℕ) (p : LinePart) : Type 0 where
  pub piece : LinePiece
  pub is_piece : IsPiece o piece
  pub written : written_piece piece ≡ line
  pub seen : part piece.is_pulled piece.is_continued piece.chars ≡ p

-- the line is that of a statement, with these characters before its comment
module _ (o : Bool) (line front : List ℕ) (comment : List ℕ) (same : line ≡ front ++ comment) (tail : is_tail comment ≡ true)
    (none : has_comment o front ≡ false) (closed : (not (is_open_behind o front) || is_nothing comment) ≡ true)
    (is_line : is_comment_line line ≡ false) where
  -- characters behind blanks and an ampersand, and before others
  module _ (before chars behind : List ℕ) (pulled continued single : Bool)
      (cut : front ≡ before ++ (ampersand pulled ++ (chars ++ (ampersand (continued && not single) ++ behind))))
      (before_blanks : list_all is_blank before ≡ true) (behind_blanks : list_all is_blank behind ≡ true)
      (leading : (pulled || (is_nothing before && not (starts_with 38 line))) ≡ true)
      (final : (continued || (is_nothing behind && not (ends_with 38 (before ++ (ampersand pulled ++ chars))))) ≡ true)
      (singly : (not single || (pulled && (continued && is_nothing chars))) ≡ true) where
    abbrev ampersands : List ℕ
    ampersands = ampersand (continued && not single) ++ behind

    regrouped : front ≡ (before ++ ampersand pulled) ++ (chars ++ ampersands)
    regrouped = cut ∙ sym (append_assoc before (ampersand pulled) (chars ++ ampersands))

    quiet_front : list_all is_quiet (before ++ ampersand pulled) ≡ true
    quiet_front = quiet_both before (ampersand pulled) (quiet_blanks before before_blanks) (quiet_ampersand pulled)

    quiet_behind : list_all is_quiet ampersands ≡ true
    quiet_behind = quiet_both (ampersand (continued && not single)) behind (quiet_ampersand (continued && not single)) (quiet_blanks behind behind_blanks)

    uncommented : has_comment o chars ≡ false
    uncommented =
        comment_front o chars ampersands
        (sym (comment_past o (before ++ ampersand pulled) (chars ++ ampersands) quiet_front) ∙ (ap (has_comment o) (sym regrouped) ∙ none))

    opened : is_open_behind o front ≡ is_open_behind o chars
    opened =
        ap (is_open_behind o) regrouped
        ∙ (open_past o (before ++ ampersand pulled) (chars ++ ampersands) quiet_front ∙ open_before o chars ampersands quiet_behind)

    abbrev the_piece : LinePiece
    the_piece = record {
      before = before;
      is_pulled = pulled;
      chars = chars;
      is_continued = continued;
      is_single = single;
      behind = behind;
      comment = comment;
    }

    written : written_piece the_piece ≡ line
    written =
        sym (same ∙ (ap (λ (us : List ℕ). us ++ comment) cut
        ∙ (append_assoc before (ampersand pulled ++ (chars ++ ampersands)) comment
        ∙ ap (λ (us : List ℕ). before ++ us) (append_assoc (ampersand pulled) (chars ++ ampersands) comment
        ∙ ap (λ (us : List ℕ). ampersand pulled ++ us) (append_assoc chars ampersands comment
        ∙ ap (λ (us : List ℕ). chars ++ us) (append_assoc (ampersand (continued && not single)) behind comment))))))

    is_piece : IsPiece o the_piece
    is_piece = record {
      blanks = and_from (list_all is_blank before) (list_all is_blank behind) before_blanks behind_blanks;
      comment = and_from (is_tail comment) (not (has_comment o chars)) tail (not_from_false (has_comment o chars) uncommented);
      in_constant = ap (λ (b : Bool). not b || is_nothing comment) (sym opened) ∙ closed;
      leading = ap (λ (us : List ℕ). pulled || (is_nothing before && not (starts_with 38 us))) written ∙ leading;
      final = final;
      single = singly;
      is_line = ap is_comment_line written ∙ is_line;
    }

    found : IsPartOf o line (part pulled continued chars)
    found = record { piece = the_piece; is_piece = is_piece; written = written; seen = refl }

  -- by whether an ampersand ends the characters
  module _ (before text : List ℕ) (pulled : Bool) (cut : front ≡ before ++ (ampersand pulled ++ text)) (blanks : list_all is_blank before ≡ true)
      (leading : (pulled || (is_nothing before && not (starts_with 38 line))) ≡ true) (e : Ends text) where
    ended_by : (b : Bool) → (e.last == 38) ≡ b → IsPartOf o line (ended pulled text)
    ended_by true k =
        let w : e.last ≡ 38 = eqb-true e.last 38 k in
        let t : text ≡ e.front ++ 38 ∷ e.blanks = e.same ∙ ap (λ (x : ℕ). e.front ++ x ∷ e.blanks) w in
        let q : ends_with 38 text ≡ true = ap (ends_with 38) e.same ∙ (ends_at e.front e.blanks e.last 38 e.shown e.are_blanks ∙ k) in
        let u : before_last text ≡ e.front = ap before_last e.same ∙ last_at e.front e.blanks e.last e.shown e.are_blanks in
        let is : part pulled true e.front ≡ ended pulled text
        = ap (part pulled true) (sym u) ∙ sym (cond-true (ends_with 38 text) (part pulled true (before_last text)) (part pulled false text) q) in
        subst (IsPartOf o line) is
        (found before e.front e.blanks pulled true false (cut ∙ ap (λ (us : List ℕ). before ++ (ampersand pulled ++ us)) t) blanks e.are_blanks leading refl refl)
    ended_by false k =
        let q : ends_with 38 text ≡ false = ap (ends_with 38) e.same ∙ (ends_at e.front e.blanks e.last 38 e.shown e.are_blanks ∙ k) in
        let g : before ++ (ampersand pulled ++ text) ≡ (before ++ (ampersand pulled ++ e.front)) ++ e.last ∷ e.blanks
        = ap (λ (us : List ℕ). before ++ (ampersand pulled ++ us)) e.same
        ∙ (ap (λ (us : List ℕ). before ++ us) (sym (append_assoc (ampersand pulled) e.front (e.last ∷ e.blanks)))
        ∙ sym (append_assoc before (ampersand pulled ++ e.front) (e.last ∷ e.blanks))) in
        let r : ends_with 38 (before ++ (ampersand pulled ++ text)) ≡ false
        = ap (ends_with 38) g ∙ (ends_at (before ++ (ampersand pulled ++ e.front)) e.blanks e.last 38 e.shown e.are_blanks ∙ k) in
        subst (IsPartOf o line) (ended_plain pulled text q)
        (found before text [] pulled false false (cut ∙ ap (λ (us : List ℕ). before ++ (ampersand pulled ++ us)) (sym (append-nil text))) blanks refl leading
        (not_from_false (ends_with 38 (before ++ (ampersand pulled ++ text))) r) refl)

    ended_found : IsPartOf o line (ended pulled text)
    ended_found = ended_by (e.last == 38) refl

  -- behind a leading ampersand
  pulled_by : (b : Bool) (before cs : List ℕ) → front ≡ before ++ 38 ∷ cs → list_all is_blank before ≡ true → list_all is_blank cs ≡ b
      → IsPartOf o line (pulled_part cs)
  pulled_by true before cs cut blanks e =
      subst (IsPartOf o line) (sym (cond-true (list_all is_blank cs) (part true true []) (ended true cs) e))
      (found before [] cs true true true cut blanks e refl refl refl)
  pulled_by false before cs cut blanks e =
      subst (IsPartOf o line) (sym (cond-false (list_all is_blank cs) (part true true []) (ended true cs) e))
      (ended_found before cs true cut blanks refl (ends cs e))

  -- blanks alone are before the comment
  no_part : list_all is_blank front ≡ true → ⊥
  no_part h = by comment same tail
    where
      by : (comment : List ℕ) → line ≡ front ++ comment → is_tail comment ≡ true → ⊥
      by [] s t =
          let e : list_all is_blank line ≡ true = ap (list_all is_blank) (s ∙ append-nil front) ∙ h in
          clash (is_comment_line line) (or_left (list_all is_blank line) (starts_with 33 line) e) is_line
      by (c ∷ cs) s t =
          let w : c ≡ 33 = eqb-true c 33 t in
          let e : starts_with 33 line ≡ true
          = ap (starts_with 33) (s ∙ ap (λ (x : ℕ). front ++ x ∷ cs) w) ∙ starts_past front (33 ∷ cs) 33 h in
          clash (is_comment_line line) (or_right (list_all is_blank line) (starts_with 33 line) e) is_line

  led_by : (b : Bool) (before : List ℕ) (c : ℕ) (cs : List ℕ) → front ≡ before ++ c ∷ cs → list_all is_blank before ≡ true → is_blank c ≡ false
      → (c == 38) ≡ b → IsPartOf o line (part_by front (c ∷ cs))
  led_by true before c cs cut blanks shown e =
      let w : c ≡ 38 = eqb-true c 38 e in
      subst (IsPartOf o line) (sym (cond-true (c == 38) (pulled_part cs) (ended false front) e))
      (pulled_by (list_all is_blank cs) before cs (cut ∙ ap (λ (x : ℕ). before ++ x ∷ cs) w) blanks refl)
  led_by false before c cs cut blanks shown e =
      let whole : line ≡ before ++ c ∷ (cs ++ comment) = same ∙ (ap (λ (us : List ℕ). us ++ comment) cut ∙ append_assoc before (c ∷ cs) comment) in
      let first : starts_with 38 line ≡ false
      = ap (starts_with 38) whole ∙ (starts_past before (c ∷ (cs ++ comment)) 38 blanks
      ∙ (cond-false (is_blank c) (starts_with 38 (cs ++ comment)) (c == 38) shown ∙ e)) in
      subst (IsPartOf o line) (sym (cond-false (c == 38) (pulled_part cs) (ended false front) e))
      (ended_found [] front false refl refl (not_from_false (starts_with 38 line) first)
      (ends front (ap (list_all is_blank) cut ∙ not_all before cs c shown)))

  part_led : Leads front → IsPartOf o line (part_by front (after_blanks front))
  part_led (blank h k) = absurd (no_part h)
  part_led (led before c cs cut blanks shown k) =
      subst (λ (us : List ℕ). IsPartOf o line (part_by front us)) (sym k) (led_by (c == 38) before c cs cut blanks shown refl)

pub has_part : (o : Bool) (line : List ℕ) → is_comment_line line ≡ false → IsPartOf o line (part_of o line)
has_part o line h =
    let r = commented o line in
    part_led o line (without_comment o line) r.comment r.same r.tail r.none r.closed h (leads (without_comment o line))
