-- The loops of a program and their answers, beside each other.
use Rattle.std.proofs.Common.{◌≡◌, ◌⊎◌, inl, inr, refl, sym, ap, subst, ◌∙◌, ℕ, zero, suc, ◌+◌, ◌<◌, ◌≤◌, ℤ, Bool, true, false, cond, Option, Some, None, is_some, List, [], ◌∷◌, ◌++◌, append_assoc, length, drop, get_or, arith, nat_lt, add-one}
use Rattle.std.proofs.lemmas.List.{get_or-drop, length-drop}
use Rattle.components.specs.Lists.{IsMember}
use Rattle.std.proofs.lemmas.List.{append-nil}
use Rattle.std.proofs.lemmas.Bool.Decides.{Decides-ltb}
use Rattle.find_nests.proofs.Outermost.{looked_at-is}
use Rattle.find_nests.proofs.SearchLaws.{found-append}
use Rattle.find_nests.specs.Found.{Found, InNest, Kept, found_among, found_as, nest_of_loop, nests_with}
use Rattle.find_nests.specs.Loops.{Numbered, SourceLoop, as_statement}
use Rattle.find_nests.specs.LookedAt.{is_kept, reason_of}
use Rattle.find_nests.specs.Walk.{nests_among, outermost_in, outermost_in_arms, outermost_in_block}
use Rattle.find_nests.specs.declared.reasons.Reason.{Reason}
use Rattle.find_nests.specs.nest_parts.Numbers.{number_after, after_arms, after_block, next_loop_number}
use Rattle.index_split.specs.Answers.{AreAnswersTo, AreUsed, IsAnswerTo, cut_by, whole_or}
use Rattle.index_split.specs.Filled.{after_loop, answer_at, filled, filled_arms, filled_in, filled_loop, used, used_arms, used_block}
use Rattle.index_split.specs.Filled as walk
use Rattle.index_split.specs.Pieces.{all_bounds, are_assignments, loops_over}
use Rattle.index_split.specs.declared.answers.Answer.{Answer}
use Rattle.index_split.specs.declared.answers.Answer.TheVariants.{Cut, Outer, Whole}
use Rattle.index_split.specs.declared.pieces.Bounds.{Bounds}
use Rattle.nest.specs.Plain.{Nest}
use Rattle.split_laws.specs.Split.{AreArmsSplit, IsBlockSplit, IsInstead, IsSplit, SplitProgramIsSplit}
use Rattle.subscripts.specs.declared.affine.Affine.{Affine}
use Rattle.tree.specs.Plain.{Expression, Statement, Assignment, Where, If, Do, Label, GoTo, Stop, Read, Print, Allocate, Deallocate, Arms, no_arms, arm, Block, no_statements, statement, Program, Declaration, block}

-- ---- answers to nests

-- an answer to a nest is one of these
abbrev IsOfNest : Answer → Type 0
IsOfNest a = a ≡ Outer → ⊥

whole_isnt : (a : Answer) → a ≡ Whole → IsOfNest a
whole_isnt a e f = cc

cut_isnt : (symbols : List (List ℕ)) (step : ℤ) (first : Option Affine) (ends : List ℕ) → IsOfNest (cut_by symbols step first ends)
cut_isnt symbols step None ends f = cc
cut_isnt symbols step (Some a) ends f = by (all_bounds a step 0 ends) f
  where
    by : (o : Option (List Bounds)) → whole_or symbols step o ≡ Outer → ⊥
    by None g = cc
    by (Some bs) g = cc

are_used : (points : List ℕ) → AreUsed points ⊎ (AreUsed points → ⊥)
are_used [] = inr (λ u. let h = u.some in omega (arith, h))
are_used (x ∷ points) = by (nat_lt (length points) 16) refl
  where
    by : (b : Bool) → nat_lt (length points) 16 ≡ b → AreUsed (x ∷ points) ⊎ (AreUsed (x ∷ points) → ⊥)
    by true e = let h = (Decides-ltb (length points) 16).0 e in inl (record { some = omega arith; few = omega (arith, h) })
    by false e = inr (λ u. let h = u.few in no (sym ((Decides-ltb (length points) 16).1 (omega (arith, h))) ∙ e))
      where
        no : true ≡ false → ⊥
        no f = cc

module _ (p : Program) (number : ℕ) (l : Numbered) where
  pub answer_of_nest : (a : Answer) → IsAnswerTo (InNest (nest_of_loop p number l)) a → IsOfNest a
  answer_of_nest a h = by (are_used h.2.points)
    where
      by : AreUsed h.2.points ⊎ (AreUsed h.2.points → ⊥) → IsOfNest a
      by (inr u) = whole_isnt a (h.2.unused u)
      by (inl u) = first h.2.points refl u.some
        where
          first : (xs : List ℕ) → h.2.points ≡ xs → 1 ≤ length h.2.points → IsOfNest a
          first [] e some = absurd (let s = ap length e in omega (arith, s, some))
          first (x ∷ xs) e some =
              let g = (h.2.are.each x).0 (subst (λ (ys : List ℕ). IsMember x ys) (sym e) (inl refl)) in
              let c = h.2.used g.0 _ u g.1 refl in
              λ f. cut_isnt _ _ c.first _ (sym c.is ∙ f)

-- ---- the walk

module _ (p : Program) (answers : List Answer) where
  abbrev ds : List Declaration
  ds = p.declarations

  -- the first answer that is left
  first_left : (i : ℕ) (a : Answer) (as' : List Answer) → drop i answers ≡ a ∷ as' → (answer_at answers i ≡ a) × (walk.next answers i ≡ i + 1) × (drop (i + 1) answers ≡ as')
  first_left i a as' e =
      let size : length (drop i answers) ≡ suc (length as') = ap length e in
      let l = length-drop i answers in
      let h : i < length answers = omega (arith, size, l) in (
        sym (ap (λ (k : ℕ). get_or answers k Whole) (plus-zero i)) ∙ sym (get_or-drop i answers 0 Whole) ∙ ap (λ (bs : List Answer). get_or bs 0 Whole) e,
        ap (λ (b : Bool). cond b (i + 1) i) ((Decides-ltb i (length answers)).1 h),
        ap (λ (j : ℕ). drop j answers) (add-one i) ∙ rest i answers e,
      )
    where
      plus-zero : (k : ℕ) → k + 0 ≡ k
      plus-zero k = omega arith

      rest : (k : ℕ) (bs : List Answer) → drop k bs ≡ a ∷ as' → drop (suc k) bs ≡ as'
      rest zero [] f = cc
      rest zero (b ∷ bs) f = cc
      rest (suc k) [] f = cc
      rest (suc k) (b ∷ bs) f = rest k bs f

  -- what has become of a part, and the answers behind it
  record Goes (rest : List Found) (i : ℕ) (P : Type 0) : Type 0 where
    is : P
    left : AreAnswersTo rest (drop i answers)

  abbrev Left : List Found → ℕ → Type 0
  Left fs i = AreAnswersTo fs (drop i answers)

  -- those of a part come first
  apart : (n : ℕ) (xs ys : List Numbered) (rest : List Found) (i : ℕ) → Left (found_among p n (xs ++ ys) ++ rest) i
      → Left (found_among p n xs ++ (found_among p (nests_among ds n xs) ys ++ rest)) i
  apart n xs ys rest i h =
      subst (λ (fs : List Found). Left fs i)
      (ap (λ (fs : List Found). fs ++ rest) (found-append p n xs ys) ∙ append_assoc (found_among p n xs) (found_among p (nests_among ds n xs) ys) rest) h

  module _ (line : ℕ) (x : List ℕ) (a b c : Expression) (body : Block) where
    abbrev l : SourceLoop
    l = record { line = line; variable = x; first = a; last = b; step = c; body = body }

    instead_is : (r : Answer) (inside : Block) → (r ≡ Outer → ⊥) → IsInstead l r (filled_loop answers r line x a b c body inside)
    instead_is Outer inside h = absurd (h refl)
    instead_is Whole inside h = refl
    instead_is (Cut ps) inside h = by (are_assignments body) refl
      where
        by : (t : Bool) → are_assignments body ≡ t
            → ((are_assignments body ≡ true) × (cond t (loops_over ps line x body) (as_statement l ∷ []) ≡ loops_over ps line x body))
            ⊎ ((are_assignments body ≡ false) × (cond t (loops_over ps line x body) (as_statement l ∷ []) ≡ as_statement l ∷ []))
        by true e = inl (e, refl)
        by false e = inr (e, refl)

    after_is : (r : Answer) (m inside : ℕ) → (r ≡ Outer → ⊥) → after_loop answers r m inside ≡ m
    after_is Outer m inside h = absurd (h refl)
    after_is Whole m inside h = refl
    after_is (Cut ps) m inside h = refl

  by_reason : (i k n line : ℕ) (x : List ℕ) (a b c : Expression) (body : Block) (rest : List Found) (o : Option Reason)
      → reason_of ds (record { line = line; variable = x; first = a; last = b; step = c; body = body }) ≡ o → (left : List Answer) → drop i answers ≡ left
      → Left (found_among p n (outermost_in ds k (Do line x a b c body)) ++ rest) i
      → ((j : ℕ) → Left (found_among p n (outermost_in_block ds (next_loop_number k) body) ++ rest) j → Goes rest (used_block answers j body) (IsBlockSplit p body (filled_in answers j body)))
      → Goes rest (used answers i (Do line x a b c body)) (IsSplit p (Do line x a b c body) (filled answers i (Do line x a b c body)))
  by_reason i k n line x a b c body rest None e left f h go = nest left f (subst (AreAnswersTo (InNest m ∷ rest)) f (subst (λ (fs : List Found). Left fs i) found h))
    where
      l : SourceLoop
      l = record { line = line; variable = x; first = a; last = b; step = c; body = body }

      place : Numbered
      place = record { before = k; loop = l }

      m : Nest
      m = nest_of_loop p (next_loop_number n) place

      kept : is_kept ds l ≡ false
      kept = ap is_some e

      found : found_among p n (outermost_in ds k (Do line x a b c body)) ++ rest ≡ InNest m ∷ rest
      found =
          ap (λ (t : Bool). found_among p n (place ∷ cond t (outermost_in_block ds (next_loop_number k) body) []) ++ rest) kept
          ∙ ap (λ (o : Option Reason). (found_as p n place o ∷ found_among p (nests_with n o) []) ++ rest) e

      nest : (as' : List Answer) → drop i answers ≡ as' → AreAnswersTo (InNest m ∷ rest) as'
          → Goes rest (used answers i (Do line x a b c body)) (IsSplit p (Do line x a b c body) (filled answers i (Do line x a b c body)))
      nest [] g are = absurd are
      nest (r ∷ as') g are =
          let q = first_left i r as' g in
          let of' = answer_of_nest p (next_loop_number n) place r are.0 in
          let inside = block (filled_in answers (walk.next answers i) body) in
          record {
            is = inr (
              kept,
              record {
                place = place;
                loop = refl;
                nest = m;
                is = refl;
                answer = r;
                right = are.0;
                instead = subst (λ (u : Answer). IsInstead l r (filled_loop answers u line x a b c body inside)) (sym q.0) (instead_is line x a b c body r inside of');
              },
            );
            left = subst (λ (j : ℕ). Left rest j)
                (sym (ap (λ (u : Answer). after_loop answers u (walk.next answers i) (used_block answers (walk.next answers i) body)) q.0
                ∙ after_is line x a b c body r (walk.next answers i) (used_block answers (walk.next answers i) body) of' ∙ q.1))
                (subst (AreAnswersTo rest) (sym q.2) are.1);
          }
  by_reason i k n line x a b c body rest (Some r) e left f h go =
      outer left f (subst (AreAnswersTo (Kept line r ∷ (found_among p n (outermost_in_block ds (next_loop_number k) body) ++ rest))) f (subst (λ (fs : List Found). Left fs i) found h))
      go
    where
      l : SourceLoop
      l = record { line = line; variable = x; first = a; last = b; step = c; body = body }

      place : Numbered
      place = record { before = k; loop = l }

      kept : is_kept ds l ≡ true
      kept = ap is_some e

      found : found_among p n (outermost_in ds k (Do line x a b c body)) ++ rest ≡ Kept line r ∷ (found_among p n (outermost_in_block ds (next_loop_number k) body) ++ rest)
      found =
          ap (λ (t : Bool). found_among p n (place ∷ cond t (outermost_in_block ds (next_loop_number k) body) []) ++ rest) kept
          ∙ ap (λ (o : Option Reason). (found_as p n place o ∷ found_among p (nests_with n o) (outermost_in_block ds (next_loop_number k) body)) ++ rest) e

      outer : (as' : List Answer) → drop i answers ≡ as' → AreAnswersTo (Kept line r ∷ (found_among p n (outermost_in_block ds (next_loop_number k) body) ++ rest)) as'
          → ((j : ℕ) → Left (found_among p n (outermost_in_block ds (next_loop_number k) body) ++ rest) j → Goes rest (used_block answers j body) (IsBlockSplit p body (filled_in answers j body)))
          → Goes rest (used answers i (Do line x a b c body)) (IsSplit p (Do line x a b c body) (filled answers i (Do line x a b c body)))
      outer [] g are go = absurd are
      outer (u ∷ as') g are go =
          let q = first_left i u as' g in
          let is : answer_at answers i ≡ Outer = q.0 ∙ are.0 in
          let at = walk.next answers i in
          let f = go at (subst (λ (j : ℕ). Left (found_among p n (outermost_in_block ds (next_loop_number k) body) ++ rest) j) (sym q.1) (subst (AreAnswersTo (found_among p n (outermost_in_block ds (next_loop_number k) body) ++ rest)) (sym q.2) are.1)) in
          record {
            is = inl (kept, (filled_in answers at body, ap (λ (v : Answer). filled_loop answers v line x a b c body (block (filled_in answers at body))) is, f.is));
            left = subst (λ (j : ℕ). Left rest j) (sym (ap (λ (v : Answer). after_loop answers v at (used_block answers at body)) is)) f.left;
          }

  mutual
    goes : (i k n : ℕ) (s : Statement) (rest : List Found) → Left (found_among p n (outermost_in ds k s) ++ rest) i
        → Goes rest (used answers i s) (IsSplit p s (filled answers i s))
    goes i k n (Assignment line mark left right) rest h = record { is = refl; left = h }
    goes i k n (Where line mark mask left right) rest h = record { is = refl; left = h }
    goes i k n (If line arms other) rest h =
        let f = goes_arms i k n arms (found_among p (nests_among ds n (outermost_in_arms ds k arms)) (outermost_in_block ds (after_arms k arms) other) ++ rest)
        (apart n (outermost_in_arms ds k arms) (outermost_in_block ds (after_arms k arms) other) rest i h) in
        let g = goes_block (used_arms answers i arms) (after_arms k arms) (nests_among ds n (outermost_in_arms ds k arms)) other rest f.left in
        record { is = (filled_arms answers i arms, filled_in answers (used_arms answers i arms) other, refl, f.is, g.is); left = g.left }
    goes i k n (Do line x a b c body) rest h =
        let l : SourceLoop = record { line = line; variable = x; first = a; last = b; step = c; body = body } in
        by_reason i k n line x a b c body rest (reason_of ds l) refl (drop i answers) refl h (λ j g. goes_block j (next_loop_number k) n body rest g)
    goes i k n (Label m) rest h = record { is = refl; left = h }
    goes i k n (GoTo line m) rest h = record { is = refl; left = h }
    goes i k n (Stop line) rest h = record { is = refl; left = h }
    goes i k n (Read line is) rest h = record { is = refl; left = h }
    goes i k n (Print line is) rest h = record { is = refl; left = h }
    goes i k n (Allocate line x es) rest h = record { is = refl; left = h }
    goes i k n (Deallocate line x) rest h = record { is = refl; left = h }

    goes_arms : (i k n : ℕ) (arms : Arms) (rest : List Found) → Left (found_among p n (outermost_in_arms ds k arms) ++ rest) i
        → Goes rest (used_arms answers i arms) (AreArmsSplit p arms (filled_arms answers i arms))
    goes_arms i k n no_arms rest h = record { is = refl; left = h }
    goes_arms i k n (arm test body arms) rest h =
        let f = goes_block i k n body (found_among p (nests_among ds n (outermost_in_block ds k body)) (outermost_in_arms ds (after_block k body) arms) ++ rest)
        (apart n (outermost_in_block ds k body) (outermost_in_arms ds (after_block k body) arms) rest i h) in
        let g = goes_arms (used_block answers i body) (after_block k body) (nests_among ds n (outermost_in_block ds k body)) arms rest f.left in
        record { is = (filled_in answers i body, filled_arms answers (used_block answers i body) arms, refl, f.is, g.is); left = g.left }

    goes_block : (i k n : ℕ) (b : Block) (rest : List Found) → Left (found_among p n (outermost_in_block ds k b) ++ rest) i
        → Goes rest (used_block answers i b) (IsBlockSplit p b (filled_in answers i b))
    goes_block i k n no_statements rest h = record { is = refl; left = h }
    goes_block i k n (statement s cs) rest h =
        let f = goes i k n s (found_among p (nests_among ds n (outermost_in ds k s)) (outermost_in_block ds (number_after k s) cs) ++ rest)
        (apart n (outermost_in ds k s) (outermost_in_block ds (number_after k s) cs) rest i h) in
        let g = goes_block (used answers i s) (number_after k s) (nests_among ds n (outermost_in ds k s)) cs rest f.left in
        record { is = (filled answers i s, filled_in answers (used answers i s) cs, refl, f.is, g.is); left = g.left }

pub split_program_is_split : SplitProgramIsSplit
split_program_is_split p q h =
    let start : AreAnswersTo (found_among p 0 (outermost_in_block p.declarations 0 p.body) ++ []) (drop 0 h.answers)
    = subst (λ (fs : List Found). AreAnswersTo fs h.answers)
    (ap (found_among p 0) (looked_at-is p.declarations p.body) ∙ sym (append-nil (found_among p 0 (outermost_in_block p.declarations 0 p.body)))) h.are in
    (filled_in h.answers 0 p.body, h.is, (goes_block p h.answers 0 0 0 p.body [] start).is)
