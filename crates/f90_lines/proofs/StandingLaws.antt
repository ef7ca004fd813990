-- Where a text stands behind its first lines, and why its lines are refused.
use Rattle.std.proofs.Common.{arith, ◌≡◌, ℕ, ◌+◌, ◌<◌, ◌≤◌, List, [], ◌∷◌, ◌++◌, length, Bool, true, false, not, ◌&&◌, ◌||◌, cond, refl, ap, sym, subst, ◌∙◌, append_assoc, append-nil, length-append, Option, Some, None}
use Rattle.std.specs.Prelude.{◌==◌, nat_lt, IfNone}
use Rattle.std.specs.List.{list_any}
use Rattle.std.specs.Str.Lines.{lines}
use Rattle.std.proofs.lemmas.Bool.{cond-true, cond-false, and_parts, or_from, le-ltb, lt-ltb, ltb-true, not-true}
use Rattle.tree.specs.Causes.{refusal_at}
use Rattle.tree.specs.declared.refusals.Cause.TheVariants.{BadByte90, LongLine, Continuation}
use Rattle.tree.specs.declared.refusals.Refusal.{Refusal}
use Rattle.reading.specs.refusal_order.Answered.{comes_before, IsAnswered}
use Rattle.f90_grammar.specs.FreeForm.{LinePiece, IsPiece, written_piece, is_comment_line}
use Rattle.f90_grammar.specs.LineCauses.{LineState, Between, Within, is_in_constant, behind_piece, LeadTo, is_bad_byte90, line_characters, HasLineCause}
use Rattle.f90_grammar.specs.LineCauses.LeadTo.{nothing, comment, piece}
use Rattle.f90_grammar.specs.LineCauses.HasLineCause.{HoldsBadByte, IsLong, EndsWithin}
use Rattle.f90_laws.proofs.unique.Pieces.{piece_once}
use Rattle.f90_lines.specs.Parts.{LinePart, part, part_of}
use Rattle.f90_lines.specs.Standings.{behind_part, behind_line, behind_lines, has_bad_byte, first_bad, is_long, first_long, initial_of}
use Rattle.f90_lines.proofs.PartLaws.{has_part}

clash : {P : Type 0} (b : Bool) → b ≡ true → b ≡ false → P
clash b h k = absurd (cc)

none_some : {P : Type 0} (n : ℕ) (o : Option ℕ) → o ≡ Some n → o ≡ None → P
none_some n o h k = absurd (cc)

the_same : (n m : ℕ) → Some n ≡ Some m → n ≡ m
the_same n m e = cc

-- ---- a piece is the part that is found

part_same : (a b c d : Bool) (x y : List ℕ) → a ≡ c → b ≡ d → x ≡ y → part a b x ≡ part c d y
part_same a b c d x y e f g = rw (e, f, g) refl

pub seen_once : (o : Bool) (p : LinePiece) → IsPiece o p → part p.is_pulled p.is_continued p.chars ≡ part_of o (written_piece p)
seen_once o p h =
    let r = has_part o (written_piece p) h.is_line in
    let s = piece_once o p r.piece h r.is_piece (sym r.written) in
    part_same p.is_pulled p.is_continued r.piece.is_pulled r.piece.is_continued p.chars r.piece.chars s.pulled s.continued s.chars ∙ r.seen

-- ---- line by line

pub behind_comment : (n : ℕ) (s : LineState) (l : List ℕ) → is_comment_line l ≡ true → behind_line n s l ≡ s
behind_comment n s l h = cond-true (is_comment_line l) s (behind_part n s (part_of (is_in_constant s) l)) h

pub behind_other : (n : ℕ) (s : LineState) (l : List ℕ) (p : LinePart) → is_comment_line l ≡ false → p ≡ part_of (is_in_constant s) l
    → behind_line n s l ≡ behind_part n s p
behind_other n s l p h e =
    cond-false (is_comment_line l) s (behind_part n s (part_of (is_in_constant s) l)) h ∙ ap (behind_part n s) (sym e)

behind_written : (n : ℕ) (s : LineState) (p : LinePiece) → IsPiece (is_in_constant s) p → behind_line n s (written_piece p) ≡ behind_piece n s p
behind_written n s p h =
    behind_other n s (written_piece p) (part p.is_pulled p.is_continued p.chars) h.is_line (seen_once (is_in_constant s) p h)

behind_last : (n : ℕ) (s : LineState) (ls : List (List ℕ)) (l : List ℕ) → behind_lines n s (ls ++ l ∷ [])
    ≡ behind_line (n + length ls + 1) (behind_lines n s ls) l
behind_last n s [] l = ap (λ (k : ℕ). behind_line k s l) (omega arith)
behind_last n s (k ∷ ks) l =
    behind_last (n + 1) (behind_line (n + 1) s k) ks l
    ∙ ap (λ (m : ℕ). behind_line m (behind_lines (n + 1) (behind_line (n + 1) s k) ks) l) (omega arith)

pub lead_behind : {ls : List (List ℕ)} {s : LineState} → LeadTo ls s → s ≡ behind_lines 0 Between ls
lead_behind nothing = refl
lead_behind (comment front line s c l) =
    let e = lead_behind l in
    sym (behind_last 0 Between front line ∙ (ap (λ (t : LineState). behind_line (0 + length front + 1) t line) (sym e)
    ∙ behind_comment (0 + length front + 1) s line c))
lead_behind (piece front p s i l) =
    let e = lead_behind l in
    let k : 0 + length front + 1 ≡ length front + 1 = omega arith in
    sym (behind_last 0 Between front (written_piece p) ∙ (ap (λ (t : LineState). behind_line (0 + length front + 1) t (written_piece p)) (sym e)
    ∙ (behind_written (0 + length front + 1) s p i ∙ ap (λ (m : ℕ). behind_piece m s p) k)))

lead_by : (b : Bool) (front : List (List ℕ)) (s : LineState) (l : List ℕ) → is_comment_line l ≡ b → LeadTo front s
    → LeadTo (front ++ l ∷ []) (behind_line (length front + 1) s l)
lead_by true front s l e h =
    subst (LeadTo (front ++ l ∷ [])) (sym (behind_comment (length front + 1) s l e)) (comment front l s e h)
lead_by false front s l e h =
    let r = has_part (is_in_constant s) l e in
    let n = length front + 1 in
    let k : behind_piece n s r.piece ≡ behind_line n s l = sym (behind_other n s l (part r.piece.is_pulled r.piece.is_continued r.piece.chars) e r.seen) in
    subst (λ (x : List ℕ). LeadTo (front ++ x ∷ []) (behind_line n s l)) r.written
    (subst (LeadTo (front ++ written_piece r.piece ∷ [])) k (piece front r.piece s r.is_piece h))

lead_on : (front ls : List (List ℕ)) (s : LineState) → LeadTo front s → LeadTo (front ++ ls) (behind_lines (length front) s ls)
lead_on front [] s h = subst (λ (us : List (List ℕ)). LeadTo us s) (sym (append-nil front)) h
lead_on front (l ∷ ls) s h =
    let n = length front in
    let t = behind_line (n + 1) s l in
    let g : length (front ++ l ∷ []) ≡ n + 1 = omega (arith, length-append front (l ∷ [])) in
    let r = lead_on (front ++ l ∷ []) ls t (lead_by (is_comment_line l) front s l refl h) in
    subst (λ (us : List (List ℕ)). LeadTo us (behind_lines (n + 1) t ls)) (append_assoc front (l ∷ []) ls)
    (subst (λ (k : ℕ). LeadTo ((front ++ l ∷ []) ++ ls) (behind_lines k t ls)) g r)

pub leads : (ls : List (List ℕ)) → LeadTo ls (behind_lines 0 Between ls)
leads ls = lead_on [] ls Between nothing

-- ---- the first line with a bad byte

record BadAt (n : ℕ) (s : LineState) (ls : List (List ℕ)) (k : ℕ) : Type 0 where
  pub front : List (List ℕ)
  pub line : List ℕ
  pub back : List (List ℕ)
  pub same : ls ≡ front ++ line ∷ back
  pub number : k ≡ n + length front + 1
  pub bad : has_bad_byte (behind_lines n s front) line ≡ true

bad_by : (b : Bool) (n : ℕ) (s : LineState) (l : List ℕ) (ls : List (List ℕ)) (k : ℕ) → has_bad_byte s l ≡ b
    → cond b (Some (n + 1)) (first_bad (n + 1) (behind_line (n + 1) s l) ls) ≡ Some k
    → (first_bad (n + 1) (behind_line (n + 1) s l) ls ≡ Some k → BadAt (n + 1) (behind_line (n + 1) s l) ls k) → BadAt n s (l ∷ ls) k
bad_by true n s l ls k e h more =
    let m : n + 1 ≡ k = the_same (n + 1) k h in
    record { front = []; line = l; back = ls; same = refl; number = omega (arith, m); bad = e }
bad_by false n s l ls k e h more =
    let r = more h in
    record {
      front = l ∷ r.front;
      line = r.line;
      back = r.back;
      same = ap (λ (us : List (List ℕ)). l ∷ us) r.same;
      number = omega (arith, r.number);
      bad = r.bad;
    }

bad_found : (n : ℕ) (s : LineState) (ls : List (List ℕ)) (k : ℕ) → first_bad n s ls ≡ Some k → BadAt n s ls k
bad_found n s [] k h = absurd (cc)
bad_found n s (l ∷ ls) k h = bad_by (has_bad_byte s l) n s l ls k refl h (λ e. bad_found (n + 1) (behind_line (n + 1) s l) ls k e)

-- a line that holds one is no earlier than the first
data Later (o : Option ℕ) (m : ℕ) : Type 0 where
  no_later : (k : ℕ) → o ≡ Some k → k ≤ m → Later o m

later_at : (o : Option ℕ) (k m : ℕ) → o ≡ Some k → k ≤ m → Later o m
later_at o k m e h = no_later k e h

later_by : (b : Bool) (n m : ℕ) (o : Option ℕ) → n ≤ m → Later o m → Later (cond b (Some n) o) m
later_by true n m o h r = no_later n refl h
later_by false n m o h r = r

bad_later : (n : ℕ) (s : LineState) (ls front : List (List ℕ)) (line : List ℕ) (back : List (List ℕ)) → ls ≡ front ++ line ∷ back
    → has_bad_byte (behind_lines n s front) line ≡ true → Later (first_bad n s ls) (n + length front + 1)
bad_later n s [] [] line back e h = absurd (cc)
bad_later n s [] (f ∷ fs) line back e h = absurd (cc)
bad_later n s (l ∷ ls) [] line back e h =
    let w : line ≡ l = cc in
    let k : has_bad_byte s l ≡ true = ap (has_bad_byte s) (sym w) ∙ h in
    later_at (first_bad n s (l ∷ ls)) (n + 1) (n + 0 + 1)
    (cond-true (has_bad_byte s l) (Some (n + 1)) (first_bad (n + 1) (behind_line (n + 1) s l) ls) k) (omega arith)
bad_later n s (l ∷ ls) (f ∷ fs) line back e h =
    let w : f ≡ l = cc in
    let t : ls ≡ fs ++ line ∷ back = cc in
    let g : has_bad_byte (behind_lines (n + 1) (behind_line (n + 1) s l) fs) line ≡ true
    = ap (λ (x : List ℕ). has_bad_byte (behind_lines (n + 1) (behind_line (n + 1) s x) fs) line) (sym w) ∙ h in
    let m : (n + 1) + length fs + 1 ≡ n + length (f ∷ fs) + 1 = omega arith in
    let r = subst (Later (first_bad (n + 1) (behind_line (n + 1) s l) ls)) m (bad_later (n + 1) (behind_line (n + 1) s l) ls fs line back t g) in
    later_by (has_bad_byte s l) (n + 1) (n + length (f ∷ fs) + 1) (first_bad (n + 1) (behind_line (n + 1) s l) ls) (omega arith) r

-- ---- the first line that is too long

record LongAt (n : ℕ) (ls : List (List ℕ)) (k : ℕ) : Type 0 where
  pub front : List (List ℕ)
  pub line : List ℕ
  pub back : List (List ℕ)
  pub same : ls ≡ front ++ line ∷ back
  pub number : k ≡ n + length front + 1
  pub long : is_long line ≡ true

long_by : (b : Bool) (n : ℕ) (l : List ℕ) (ls : List (List ℕ)) (k : ℕ) → is_long l ≡ b → cond b (Some (n + 1)) (first_long (n + 1) ls) ≡ Some k
    → (first_long (n + 1) ls ≡ Some k → LongAt (n + 1) ls k) → LongAt n (l ∷ ls) k
long_by true n l ls k e h more =
    let m : n + 1 ≡ k = the_same (n + 1) k h in
    record { front = []; line = l; back = ls; same = refl; number = omega (arith, m); long = e }
long_by false n l ls k e h more =
    let r = more h in
    record {
      front = l ∷ r.front;
      line = r.line;
      back = r.back;
      same = ap (λ (us : List (List ℕ)). l ∷ us) r.same;
      number = omega (arith, r.number);
      long = r.long;
    }

long_found : (n : ℕ) (ls : List (List ℕ)) (k : ℕ) → first_long n ls ≡ Some k → LongAt n ls k
long_found n [] k h = absurd (cc)
long_found n (l ∷ ls) k h = long_by (is_long l) n l ls k refl h (λ e. long_found (n + 1) ls k e)

long_later : (n : ℕ) (ls front : List (List ℕ)) (line : List ℕ) (back : List (List ℕ)) → ls ≡ front ++ line ∷ back
    → is_long line ≡ true → Later (first_long n ls) (n + length front + 1)
long_later n [] [] line back e h = absurd (cc)
long_later n [] (f ∷ fs) line back e h = absurd (cc)
long_later n (l ∷ ls) [] line back e h =
    let w : line ≡ l = cc in
    let k : is_long l ≡ true = ap is_long (sym w) ∙ h in
    later_at (first_long n (l ∷ ls)) (n + 1) (n + 0 + 1) (cond-true (is_long l) (Some (n + 1)) (first_long (n + 1) ls) k) (omega arith)
long_later n (l ∷ ls) (f ∷ fs) line back e h =
    let t : ls ≡ fs ++ line ∷ back = cc in
    let m : (n + 1) + length fs + 1 ≡ n + length (f ∷ fs) + 1 = omega arith in
    let r = subst (Later (first_long (n + 1) ls)) m (long_later (n + 1) ls fs line back t h) in
    later_by (is_long l) (n + 1) (n + length (f ∷ fs) + 1) (first_long (n + 1) ls) (omega arith) r

-- ---- which refusals hold

module _ (text : List ℕ) where
  bad_seen : (front back : List (List ℕ)) (p : LinePiece) (s : LineState) → lines text ≡ front ++ written_piece p ∷ back → LeadTo front s
      → IsPiece (is_in_constant s) p → list_any is_bad_byte90 p.chars ≡ true → Later (first_bad 0 Between (lines text)) (length front + 1)
  bad_seen front back p s e l i b =
      let c = seen_once (is_in_constant s) p i in
      let k : list_any is_bad_byte90 (part_of (is_in_constant s) (written_piece p)).chars ≡ true
      = ap (λ (q : LinePart). list_any is_bad_byte90 q.chars) (sym c) ∙ b in
      let g : has_bad_byte s (written_piece p) ≡ true
      = ap (λ (t : Bool). not t && list_any is_bad_byte90 (part_of (is_in_constant s) (written_piece p)).chars) i.is_line ∙ k in
      let h : has_bad_byte (behind_lines 0 Between front) (written_piece p) ≡ true
      = ap (λ (t : LineState). has_bad_byte t (written_piece p)) (sym (lead_behind l)) ∙ g in
      let m : 0 + length front + 1 ≡ length front + 1 = omega arith in
      subst (Later (first_bad 0 Between (lines text))) m (bad_later 0 Between (lines text) front (written_piece p) back e h)

  bad_cause : (k : ℕ) → first_bad 0 Between (lines text) ≡ Some k → HasLineCause text (refusal_at BadByte90 k)
  bad_cause k h =
      let r = bad_found 0 Between (lines text) k h in
      let s = behind_lines 0 Between r.front in
      let p = and_parts (not (is_comment_line r.line)) (list_any is_bad_byte90 (part_of (is_in_constant s) r.line).chars) r.bad in
      let q = has_part (is_in_constant s) r.line (not-true (is_comment_line r.line) p.0) in
      let e : lines text ≡ r.front ++ written_piece q.piece ∷ r.back = r.same ∙ ap (λ (x : List ℕ). r.front ++ x ∷ r.back) (sym q.written) in
      let b : list_any is_bad_byte90 q.piece.chars ≡ true = ap (λ (x : LinePart). list_any is_bad_byte90 x.chars) q.seen ∙ p.1 in
      let m : length r.front + 1 ≡ k = omega (arith, r.number) in
      subst (λ (n : ℕ). HasLineCause text (refusal_at BadByte90 n)) m (HoldsBadByte r.front r.back q.piece s e (leads r.front) q.is_piece b)

  long_seen : (front back : List (List ℕ)) (line : List ℕ) → lines text ≡ front ++ line ∷ back → line_characters < length line
      → Later (first_long 0 (lines text)) (length front + 1)
  long_seen front back line e h =
      let m : 0 + length front + 1 ≡ length front + 1 = omega arith in
      subst (Later (first_long 0 (lines text))) m (long_later 0 (lines text) front line back e (lt-ltb line_characters (length line) h))

  long_cause : (k : ℕ) → first_long 0 (lines text) ≡ Some k → HasLineCause text (refusal_at LongLine k)
  long_cause k h =
      let r = long_found 0 (lines text) k h in
      let m : length r.front + 1 ≡ k = omega (arith, r.number) in
      subst (λ (n : ℕ). HasLineCause text (refusal_at LongLine n)) m
      (IsLong r.front r.back r.line r.same (ltb-true line_characters (length r.line) r.long))

  record IsWithin (s : LineState) (k : ℕ) : Type 0 where
    pub opened : Bool
    pub same : s ≡ Within k opened

  within : (s : LineState) (k : ℕ) → initial_of s ≡ Some k → IsWithin s k
  within Between k h = absurd (cc)
  within (Within i o) k h = record { opened = o; same = ap (λ (x : ℕ). Within x o) (the_same i k h) }

  unended_cause : (k : ℕ) → initial_of (behind_lines 0 Between (lines text)) ≡ Some k → HasLineCause text (refusal_at Continuation k)
  unended_cause k h =
      let w = within (behind_lines 0 Between (lines text)) k h in
      EndsWithin k w.opened (subst (LeadTo (lines text)) w.same (leads (lines text)))

  unended_seen : (i : ℕ) (o : Bool) → LeadTo (lines text) (Within i o) → initial_of (behind_lines 0 Between (lines text)) ≡ Some i
  unended_seen i o l = ap initial_of (sym (lead_behind l))

  -- ---- the one that is answered

  later_none : {P : Type 0} (o : Option ℕ) (m : ℕ) → Later o m → o ≡ None → P
  later_none o m (no_later k e h) n = none_some k o e n

  later_least : (o : Option ℕ) (n m : ℕ) → Later o m → o ≡ Some n → n ≤ m
  later_least o n m (no_later k e h) f = let w : k ≡ n = the_same k n (sym e ∙ f) in omega (arith, w, h)

  not_before : (n m : ℕ) → n ≤ m → (nat_lt m n || ((m == n) && false)) ≡ false
  not_before n m h = or_from (nat_lt m n) ((m == n) && false) (le-ltb m n h) (no (m == n))
    where
      no : (b : Bool) → (b && false) ≡ false
      no true = refl
      no false = refl

  pub bad_answered : (k : ℕ) → first_bad 0 Between (lines text) ≡ Some k → IsAnswered (HasLineCause text) (refusal_at BadByte90 k)
  bad_answered k h = record { holds = bad_cause k h; first = λ other c. by other c }
    where
      by : (other : Refusal) → HasLineCause text other → comes_before other (refusal_at BadByte90 k) ≡ false
      by other (HoldsBadByte front back p s e l i b) =
          not_before k (length front + 1) (later_least (first_bad 0 Between (lines text)) k (length front + 1) (bad_seen front back p s e l i b) h)
      by other (IsLong front back line e b) = refl
      by other (EndsWithin i o l) = refl

  pub long_answered : (k : ℕ) → first_bad 0 Between (lines text) ≡ None → first_long 0 (lines text) ≡ Some k
      → IsAnswered (HasLineCause text) (refusal_at LongLine k)
  long_answered k n h = record { holds = long_cause k h; first = λ other c. by other c }
    where
      by : (other : Refusal) → HasLineCause text other → comes_before other (refusal_at LongLine k) ≡ false
      by other (HoldsBadByte front back p s e l i b) =
          later_none (first_bad 0 Between (lines text)) (length front + 1) (bad_seen front back p s e l i b) n
      by other (IsLong front back line e b) =
          not_before k (length front + 1) (later_least (first_long 0 (lines text)) k (length front + 1) (long_seen front back line e b) h)
      by other (EndsWithin i o l) = refl

  pub unended_answered : (k : ℕ) → first_bad 0 Between (lines text) ≡ None → first_long 0 (lines text) ≡ None
      → initial_of (behind_lines 0 Between (lines text)) ≡ Some k → IsAnswered (HasLineCause text) (refusal_at Continuation k)
  unended_answered k n m h = record { holds = unended_cause k h; first = λ other c. by other c }
    where
      by : (other : Refusal) → HasLineCause text other → comes_before other (refusal_at Continuation k) ≡ false
      by other (HoldsBadByte front back p s e l i b) =
          later_none (first_bad 0 Between (lines text)) (length front + 1) (bad_seen front back p s e l i b) n
      by other (IsLong front back line e b) =
          later_none (first_long 0 (lines text)) (length front + 1) (long_seen front back line e b) m
      by other (EndsWithin i o l) = let w : i ≡ k = the_same i k (sym (unended_seen i o l) ∙ h) in not_before k i (omega (arith, w))

  pub none_answered : first_bad 0 Between (lines text) ≡ None → first_long 0 (lines text) ≡ None
      → initial_of (behind_lines 0 Between (lines text)) ≡ None → (r : Refusal) → HasLineCause text r → ⊥
  none_answered n m h r (HoldsBadByte front back p s e l i b) =
      later_none (first_bad 0 Between (lines text)) (length front + 1) (bad_seen front back p s e l i b) n
  none_answered n m h r (IsLong front back line e b) =
      later_none (first_long 0 (lines text)) (length front + 1) (long_seen front back line e b) m
  none_answered n m h r (EndsWithin i o l) = none_some i (initial_of (behind_lines 0 Between (lines text))) (unended_seen i o l) h

  -- a text without such a cause ends between statements
  pub ends_between : ((r : Refusal) → HasLineCause text r → ⊥) → behind_lines 0 Between (lines text) ≡ Between
  ends_between h = by (behind_lines 0 Between (lines text)) (leads (lines text))
    where
      by : (s : LineState) → LeadTo (lines text) s → s ≡ Between
      by Between l = refl
      by (Within i o) l = absurd (h (refusal_at Continuation i) (EndsWithin i o l))

-- ---- what the code knows of answers

pub none_left : {X : Type 0} (o : Option X) → ((x : X) → o ≡ Some x → ⊥) → o ≡ None
none_left None n = refl
none_left (Some x) n = absurd (n x refl)

pub unrefused_by : (text : List ℕ) (o : Option Refusal) → ((x : Refusal) → o ≡ Some x → ⊥)
    → IfNone o ((r : Refusal) → HasLineCause text r → ⊥) → (r : Refusal) → HasLineCause text r → ⊥
unrefused_by text None n h = h
unrefused_by text (Some x) n h = absurd (n x refl)
