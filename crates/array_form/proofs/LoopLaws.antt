-- Loops that stand in a text, one loop at a time, and as array forms have them.
use Rattle.std.proofs.Common.{◌≡◌, ℕ, suc, ◌+◌, ◌<◌, ◌≤◌, Bool, true, false, ◌&&◌, cond, List, [], ◌∷◌, ◌++◌, map, take, length, get_or, refl, sym, ap, subst, ◌∙◌, arith}
use mathlib.Core.Path.{ap₂}
use Rattle.std.specs.Prelude.{nat_le}
use Rattle.std.specs.List.{list_all}
use Rattle.std.specs.Cmp.Lexicographic.{pointwise}
use Rattle.std.specs.Str.{bytes_eq}
use Rattle.std.proofs.lemmas.Bool.{leb-true}
use Rattle.std.proofs.lemmas.List.{length-map, map-append}
use Rattle.std.proofs.lemmas.List.Elements.{All-filter, filter_more}
use Rattle.tree.specs.Plain.{Subscript, subscripts}
use Rattle.meaning.specs.Reads.{names_in_subscript}
use Rattle.array_form.specs.forms.Loops as forms
use Rattle.array_form.specs.holds.Surroundings.{counted_of}
use Rattle.array_form.specs.holds.View.{loop_names}
use Rattle.array_form.specs.declared.holds.loops.CountedLoop.{CountedLoop}
use Rattle.array_form.specs.declared.holds.loops.Surroundings.{Surroundings}
use Rattle.array_form.proofs.holds.AmongLaws.{among-is}
use Rattle.array_form.proofs.holds.TripLaws.{names_viewed}
use Rattle.array_form.specs.Loops.{AreLoopsOf, IsLoopOf, has_one, has_parts, in_order, is_exchanged, standing_in}

-- ---- one loop more

pub standing_more : (names : List (List ℕ)) (xs : List CountedLoop) (i : ℕ) (x : CountedLoop) (old new : List CountedLoop) (b : Bool)
    → i < length xs → x ≡ get_or xs i x → b ≡ forms.is_among names x.var → new ≡ old ++ cond b (x ∷ []) []
    → old ≡ standing_in (take i xs) names → new ≡ standing_in (take (i + 1) xs) names
standing_more names xs i x old new b h is e now before =
    now ∙ ap₂ (λ ls c. ls ++ cond c (x ∷ []) []) before e
    ∙ ap (λ (y : CountedLoop). standing_in (take i xs) names ++ cond (forms.is_among names y.var) (y ∷ []) []) is
    ∙ sym (filter_more (λ (l : CountedLoop). forms.is_among names l.var) xs i x h)

pub ruleset standing_laws = (among-is)

-- ---- as array forms have them

module _ (n : ℕ) where
  one_viewed : (b : Bool) (x : CountedLoop) (xs : List CountedLoop) → map (counted_of n) (cond b (x ∷ xs) xs) ≡ cond b (counted_of n x ∷ map (counted_of n) xs) (map (counted_of n) xs)
  one_viewed true x xs = refl
  one_viewed false x xs = refl

  pub standing_viewed : (ls : List CountedLoop) (names : List (List ℕ)) → map (counted_of n) (standing_in ls names) ≡ forms.loops_among (map (counted_of n) ls) names
  standing_viewed [] names = refl
  standing_viewed (l ∷ ls) names =
      one_viewed (forms.is_among names l.var) l (standing_in ls names)
      ∙ ap (λ ms. cond (forms.is_among names l.var) (counted_of n l ∷ ms) ms) (standing_viewed ls names)

  pub order_viewed : (ls : List CountedLoop) (ps : List Subscript) → map (counted_of n) (in_order ls ps) ≡ forms.loops_in_order (map (counted_of n) ls) (subscripts ps)
  order_viewed ls [] = refl
  order_viewed ls (p ∷ ps) =
      map-append (counted_of n) (standing_in ls (names_in_subscript p)) (in_order ls ps)
      ∙ ap₂ (λ xs ys. xs ++ ys) (standing_viewed ls (names_in_subscript p)) (order_viewed ls ps)

  pub same_viewed : (ls ms : List CountedLoop) → forms.same_loops (map (counted_of n) ls) (map (counted_of n) ms) ≡ pointwise bytes_eq (loop_names ls) (loop_names ms)
  same_viewed ls ms = ap₂ (pointwise bytes_eq) (names_viewed n ls) (names_viewed n ms)

  pub part_viewed : (ls ms : List CountedLoop) → forms.is_part_of (map (counted_of n) ls) (map (counted_of n) ms) ≡ has_parts ls ms
  part_viewed ls ms =
      ap (λ xs. forms.same_loops (forms.loops_among (map (counted_of n) ls) xs) (map (counted_of n) ms)) (names_viewed n ms)
      ∙ ap (λ xs. forms.same_loops xs (map (counted_of n) ms)) (sym (standing_viewed ls (loop_names ms)))
      ∙ same_viewed (standing_in ls (loop_names ms)) ms

  pub exchange_viewed : (ls ms : List CountedLoop) → forms.is_exchange_of (map (counted_of n) ls) (map (counted_of n) ms) ≡ is_exchanged ls ms
  exchange_viewed [] ms = refl
  exchange_viewed (l ∷ []) ms = refl
  exchange_viewed (l ∷ m ∷ []) ms = same_viewed (m ∷ l ∷ []) ms
  exchange_viewed (l ∷ m ∷ k ∷ ls) ms = refl

  one_counted : (ls : List CountedLoop) (p : Subscript) → nat_le (length (forms.loops_among (map (counted_of n) ls) (names_in_subscript p))) 1 ≡ has_one ls p
  one_counted ls p =
      ap (λ xs. nat_le (length xs) 1) (sym (standing_viewed ls (names_in_subscript p)))
      ∙ ap (λ k. nat_le k 1) (length-map (standing_in ls (names_in_subscript p)) (counted_of n))

  pub each_viewed : (ls : List CountedLoop) (ps : List Subscript) → forms.one_each (map (counted_of n) ls) (subscripts ps) ≡ list_all (has_one ls) ps
  each_viewed ls [] = refl
  each_viewed ls (p ∷ ps) = ap₂ (λ b c. b && c) (one_counted ls p) (each_viewed ls ps)

-- ---- they stay loops round the statement

pub standing_are : (a : Surroundings) (ls : List CountedLoop) (names : List (List ℕ)) → AreLoopsOf a ls → AreLoopsOf a (standing_in ls names)
standing_are a ls names h = All-filter (λ (l : CountedLoop). forms.is_among names l.var) (IsLoopOf a) ls h

-- ---- a subscript with more than one

pub too_many : (ls here : List CountedLoop) (p : Subscript) → here ≡ standing_in ls (names_in_subscript p) → 1 < length here → has_one ls p ≡ false
too_many ls here p e h = ap (λ xs. nat_le (length xs) 1) (sym e) ∙ by (nat_le (length here) 1) refl
  where
    by : (b : Bool) → nat_le (length here) 1 ≡ b → b ≡ false
    by true g = absurd (let k : length here ≤ 1 = leb-true (length here) 1 g in omega arith)
    by false g = refl

-- ---- the first and the others

pub head_loop : (a : Surroundings) (ls rest : List CountedLoop) (first : CountedLoop) → ls ≡ first ∷ rest → AreLoopsOf a ls → IsLoopOf a first
head_loop a ls rest first e h = subst (AreLoopsOf a) e h 0 first (omega arith)

pub tail_loops : (a : Surroundings) (ls rest : List CountedLoop) (first : CountedLoop) → ls ≡ first ∷ rest → AreLoopsOf a ls → AreLoopsOf a rest
tail_loops a ls rest first e h = λ k d g. subst (AreLoopsOf a) e h (suc k) d (omega arith)
