-- The scan of a text equals the scan of its words.
use Rattle.std.proofs.Common.{◌≡◌, ℕ, zero, suc, Bool, true, false, List, [], ◌∷◌, ◌++◌, refl, ap, sym, ◌∙◌, append_assoc}
use Rattle.std.specs.Prelude.{Option, Some, None, ◌||◌, ◌&&◌}
use Rattle.f77_grammar.specs.expressions.Squeezing.{Symbol77}
use Rattle.f77_grammar.specs.expressions.Words.{Word77}
use Rattle.f77_grammar.specs.expressions.Spelling.{AreWords77}
use Rattle.f77_grammar.specs.statements.Recognition.{Halves, with_symbol, cut_from, has_equals_outside}
use Rattle.f77_words.specs.keywords.Outside.{has_comma_outside}
use Rattle.f77_words.proofs.keywords.Cutting.{prefixed, prefixed_nothing}
use Rattle.f77_words.proofs.keywords.PlainFronts.{is_plain, are_plain, plain_is, both_true, has_mark}
use Rattle.f77_words.proofs.keywords.Marks.{Mark, Opening, Closing, Comma, Equals, Plain, sign_of, mark_of, Marks, made, marked, mark, marks}

-- ---- plain symbols are passed over

equals_one : (s : Symbol77) (ss : List Symbol77) (n : ℕ) → is_plain s ≡ true → has_equals_outside (s ∷ ss) n ≡ has_equals_outside ss n
equals_one s ss zero h = let p = plain_is s h in rw (p.bracket, p.no_equals) refl
equals_one s ss (suc n) h = let p = plain_is s h in rw p.bracket refl

pub equals_plain : (a ss : List Symbol77) (n : ℕ) → are_plain a ≡ true → has_equals_outside (a ++ ss) n ≡ has_equals_outside ss n
equals_plain [] ss n h = refl
equals_plain (s ∷ a) ss n h = let b = both_true (is_plain s) (are_plain a) h in equals_one s (a ++ ss) n b.0 ∙ equals_plain a ss n b.1

pub or_false : (b : Bool) → (b || false) ≡ b
or_false true = refl
or_false false = refl

and_false : (b : Bool) → (b && false) ≡ false
and_false true = refl
and_false false = refl

comma_one : (s : Symbol77) (ss : List Symbol77) (n : ℕ) (e : Bool) → is_plain s ≡ true → has_comma_outside (s ∷ ss) n e ≡ has_comma_outside ss n e
comma_one s ss zero e h = let p = plain_is s h in rw (p.bracket, p.no_comma, p.no_sign, and_false e, or_false e) refl
comma_one s ss (suc n) e h = let p = plain_is s h in rw p.bracket refl

pub comma_plain : (a ss : List Symbol77) (n : ℕ) (e : Bool) → are_plain a ≡ true → has_comma_outside (a ++ ss) n e ≡ has_comma_outside ss n e
comma_plain [] ss n e h = refl
comma_plain (s ∷ a) ss n e h = let b = both_true (is_plain s) (are_plain a) h in comma_one s (a ++ ss) n e b.0 ∙ comma_plain a ss n e b.1

cut_one : (s : Symbol77) (ss : List Symbol77) (n : ℕ) → is_plain s ≡ true → cut_from (s ∷ ss) n ≡ with_symbol s (cut_from ss n)
cut_one s ss n h = let p = plain_is s h in rw p.bracket refl

with_prefixed : (s : Symbol77) (a : List Symbol77) (o : Option Halves) → with_symbol s (prefixed a o) ≡ prefixed (s ∷ a) o
with_prefixed s a None = refl
with_prefixed s a (Some h) = refl

with_alone : (s : Symbol77) (o : Option Halves) → with_symbol s o ≡ prefixed (s ∷ []) o
with_alone s None = refl
with_alone s (Some h) = refl

prefixed_twice : (a b : List Symbol77) (o : Option Halves) → prefixed a (prefixed b o) ≡ prefixed (a ++ b) o
prefixed_twice a b None = refl
prefixed_twice a b (Some h) = ap (λ (q : List Symbol77). let w : Halves = record { inside = q; behind = h.behind } in Some w) (sym (append_assoc a b h.inside))

cut_plain : (a ss : List Symbol77) (n : ℕ) → are_plain a ≡ true → cut_from (a ++ ss) n ≡ prefixed a (cut_from ss n)
cut_plain [] ss n h = sym (prefixed_nothing (cut_from ss n))
cut_plain (s ∷ a) ss n h =
    let b = both_true (is_plain s) (are_plain a) h in
    cut_one s (a ++ ss) n b.0 ∙ (ap (with_symbol s) (cut_plain a ss n b.1) ∙ with_prefixed s a (cut_from ss n))

-- ---- the symbols that count

abbrev EqualsLeft : Marks → List Symbol77 → Bool
EqualsLeft m text = m.equals || has_equals_outside text m.inside

equals_mark : (k : Mark) (n : ℕ) (e c u : Bool) (ss : List Symbol77) → EqualsLeft (made n e c u) (sign_of k ++ ss) ≡ EqualsLeft (marked k (made n e c u)) ss
equals_mark Opening n e c u ss = refl
equals_mark Closing zero e c u ss = refl
equals_mark Closing (suc n) e c u ss = refl
equals_mark Comma zero true c u ss = refl
equals_mark Comma zero false c u ss = refl
equals_mark Comma (suc n) e c u ss = refl
equals_mark Equals zero true c u ss = refl
equals_mark Equals zero false c u ss = refl
equals_mark Equals (suc n) e c u ss = refl
equals_mark Plain n e c u ss = refl

abbrev CommaLeft : Marks → List Symbol77 → Bool
CommaLeft m text = m.comma || has_comma_outside text m.inside m.equals

comma_mark : (k : Mark) (n : ℕ) (e c u : Bool) (ss : List Symbol77) → CommaLeft (made n e c u) (sign_of k ++ ss) ≡ CommaLeft (marked k (made n e c u)) ss
comma_mark Opening n e c u ss = refl
comma_mark Closing zero e c u ss = refl
comma_mark Closing (suc n) e c u ss = refl
comma_mark Comma zero true true u ss = refl
comma_mark Comma zero true false u ss = refl
comma_mark Comma zero false c u ss = refl
comma_mark Comma (suc n) e c u ss = refl
comma_mark Equals zero true c u ss = refl
comma_mark Equals zero false c u ss = refl
comma_mark Equals (suc n) e c u ss = refl
comma_mark Plain n e c u ss = refl

cut_mark : (k : Mark) (n : ℕ) (e c u : Bool) (ss : List Symbol77) → (marked k (made n e c u)).unpaired ≡ false
    → cut_from (sign_of k ++ ss) n ≡ prefixed (sign_of k) (cut_from ss (marked k (made n e c u)).inside)
cut_mark Opening n e c u ss h = with_alone _ (cut_from ss (suc n))
cut_mark Closing zero e c u ss h = cc
cut_mark Closing (suc n) e c u ss h = with_alone _ (cut_from ss n)
cut_mark Comma zero true c u ss h = with_alone _ (cut_from ss zero)
cut_mark Comma zero false c u ss h = with_alone _ (cut_from ss zero)
cut_mark Comma (suc n) e c u ss h = with_alone _ (cut_from ss (suc n))
cut_mark Equals zero e c u ss h = with_alone _ (cut_from ss zero)
cut_mark Equals (suc n) e c u ss h = with_alone _ (cut_from ss (suc n))
cut_mark Plain n e c u ss h = sym (prefixed_nothing (cut_from ss n))

paired_before : (k : Mark) (n : ℕ) (e c u : Bool) → (marked k (made n e c u)).unpaired ≡ false → u ≡ false
paired_before Opening n e c u h = h
paired_before Closing zero e c u h = cc
paired_before Closing (suc n) e c u h = h
paired_before Comma zero true c u h = h
paired_before Comma zero false c u h = h
paired_before Comma (suc n) e c u h = h
paired_before Equals zero e c u h = h
paired_before Equals (suc n) e c u h = h
paired_before Plain n e c u h = h

-- no parenthesis closes none, as none does later
paired : (ws : List Word77) (m : Marks) → (marks m ws).unpaired ≡ false → m.unpaired ≡ false
paired [] m h = h
paired (w ∷ ws) m h = paired_before (mark_of w) m.inside m.equals m.comma m.unpaired (paired ws (mark m w) h)

-- ---- texts of words

-- the text behind a word, with another behind it
grouped : (text front plain sign rest tail : List Symbol77) → text ≡ front ++ rest → front ≡ plain ++ sign → text ++ tail ≡ plain ++ (sign ++ (rest ++ tail))
grouped text front plain sign rest tail e f =
    ap (λ (q : List Symbol77). q ++ tail) (e ∙ ap (λ (q : List Symbol77). q ++ rest) f)
    ∙ (append_assoc (plain ++ sign) rest tail ∙ append_assoc plain sign (rest ++ tail))

pub equals_scan : (ws : List Word77) (text tail : List Symbol77) (m : Marks) → AreWords77 text ws → EqualsLeft m (text ++ tail) ≡ EqualsLeft (marks m ws) tail
equals_scan [] text tail m h = ap (λ (q : List Symbol77). EqualsLeft m (q ++ tail)) h
equals_scan (w ∷ ws) text tail m h =
    let k = has_mark w h.1.front h.1.spelled in
    ap (EqualsLeft m) (grouped text h.1.front k.plain (sign_of (mark_of w)) h.0 tail h.1.same k.same)
    ∙ (ap (λ (q : Bool). m.equals || q) (equals_plain k.plain (sign_of (mark_of w) ++ (h.0 ++ tail)) m.inside k.are_plain)
    ∙ (equals_mark (mark_of w) m.inside m.equals m.comma m.unpaired (h.0 ++ tail) ∙ equals_scan ws h.0 tail (mark m w) h.2))

pub comma_scan : (ws : List Word77) (text tail : List Symbol77) (m : Marks) → AreWords77 text ws → CommaLeft m (text ++ tail) ≡ CommaLeft (marks m ws) tail
comma_scan [] text tail m h = ap (λ (q : List Symbol77). CommaLeft m (q ++ tail)) h
comma_scan (w ∷ ws) text tail m h =
    let k = has_mark w h.1.front h.1.spelled in
    ap (CommaLeft m) (grouped text h.1.front k.plain (sign_of (mark_of w)) h.0 tail h.1.same k.same)
    ∙ (ap (λ (q : Bool). m.comma || q) (comma_plain k.plain (sign_of (mark_of w) ++ (h.0 ++ tail)) m.inside m.equals k.are_plain)
    ∙ (comma_mark (mark_of w) m.inside m.equals m.comma m.unpaired (h.0 ++ tail) ∙ comma_scan ws h.0 tail (mark m w) h.2))

-- The text of the first words can be passed over: where n parentheses are open in front of it, k are behind it.
pub record IsPassed (text tail : List Symbol77) (later : List Word77) (n k : ℕ) : Type 0 where
  pub front : List Symbol77
  pub rest : List Symbol77
  pub same : text ≡ front ++ rest
  pub words : AreWords77 rest later
  pub cut : cut_from (text ++ tail) n ≡ prefixed front (cut_from (rest ++ tail) k)

pub cut_scan : (ws later : List Word77) (text tail : List Symbol77) (m : Marks) → AreWords77 text (ws ++ later) → (marks m ws).unpaired ≡ false → IsPassed text tail later m.inside (marks m ws).inside
cut_scan [] later text tail m h u = record { front = []; rest = text; same = refl; words = h; cut = sym (prefixed_nothing (cut_from (text ++ tail) m.inside)) }
cut_scan (w ∷ ws) later text tail m h u =
    let k = has_mark w h.1.front h.1.spelled in
    let on = cut_scan ws later h.0 tail (mark m w) h.2 u in
    let o : Option Halves = cut_from (h.0 ++ tail) (mark m w).inside in
    record {
      front = h.1.front ++ on.front;
      rest = on.rest;
      same = h.1.same ∙ (ap (λ (q : List Symbol77). h.1.front ++ q) on.same ∙ sym (append_assoc h.1.front on.front on.rest));
      words = on.words;
      cut = ap (λ (q : List Symbol77). cut_from q m.inside) (grouped text h.1.front k.plain (sign_of (mark_of w)) h.0 tail h.1.same k.same)
          ∙ (cut_plain k.plain (sign_of (mark_of w) ++ (h.0 ++ tail)) m.inside k.are_plain
          ∙ (ap (prefixed k.plain) (cut_mark (mark_of w) m.inside m.equals m.comma m.unpaired (h.0 ++ tail) (paired ws (mark m w) u))
          ∙ (prefixed_twice k.plain (sign_of (mark_of w)) o
          ∙ (ap (λ (q : List Symbol77). prefixed q o) (sym k.same)
          ∙ (ap (prefixed h.1.front) on.cut ∙ prefixed_twice h.1.front on.front (cut_from (on.rest ++ tail) (marks (mark m w) ws).inside))))));
    }
