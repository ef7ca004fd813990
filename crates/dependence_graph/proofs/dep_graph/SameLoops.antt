-- Loops of a nest whose numbers differ are known by their numbers.
use Rattle.std.proofs.Common.{◌≡◌, ◌⊎◌, inl, inr, ℕ, zero, suc, ◌+◌, ◌<◌, ◌≤◌, refl, sym, ap, ◌∙◌, subst, arith, Option, Some, None, Bool, true, false, cond, eqb, List, [], ◌∷◌, ◌++◌, length, map}
use Rattle.std.specs.Prelude.{slice_get}
use Rattle.std.proofs.lemmas.Bool.{eqb-true}
use Rattle.tree.specs.Plain.{Expression}
use Rattle.components.specs.Lists.{Distinct, Each, IsMember}
use Rattle.nest.specs.Plain.{Branches, Guarded, Loop, Nest, Part, Parts, Run, Turns, Choice, Label, Jump, branch, no_branches, no_parts, part}
use Rattle.nest.specs.Bodies.{Standing, loops_in_branches, loops_in_parts, loops_of, nest_loops, nest_statements, statements_in, statements_in_branches, statements_in_parts}
use Rattle.dependence_graph.specs.nest_graph.Tested.{common_of}
use Rattle.dependence_graph.proofs.loop_spans.TurnLaws.{HaveSameLoops}

pub in_front : {A : Type 0} (x : A) (xs ys : List A) → IsMember x xs → IsMember x (xs ++ ys)
in_front x [] ys h = absurd h
in_front x (z ∷ xs) ys h = elim h [ inl e ↦ inl e | inr r ↦ inr (in_front x xs ys r) ]

pub in_rest : {A : Type 0} (x : A) (xs ys : List A) → IsMember x ys → IsMember x (xs ++ ys)
in_rest x [] ys h = h
in_rest x (z ∷ xs) ys h = inr (in_rest x xs ys h)

pub in_either : {A : Type 0} (x : A) (xs ys : List A) → IsMember x (xs ++ ys) → IsMember x xs ⊎ IsMember x ys
in_either x [] ys h = inr h
in_either x (z ∷ xs) ys h = elim h [ inl e ↦ inl (inl e) | inr r ↦ elim (in_either x xs ys r) [ inl a ↦ inl (inr a) | inr b ↦ inr b ] ]

pub in_at : {A : Type 0} (xs : List A) (i : ℕ) (x : A) → slice_get xs i ≡ Some x → IsMember x xs
in_at [] i x e = cc
in_at (y ∷ xs) zero x e = let f : x ≡ y = cc in inl f
in_at (y ∷ xs) (suc i) x e = inr (in_at xs i x e)

-- ---- loops round a statement

wider : (l m : Loop) (ls more less : List Loop) → IsMember l (ls ++ m ∷ []) ⊎ IsMember l less → ((k : Loop) → IsMember k less → IsMember k more) → IsMember m more → IsMember l ls ⊎ IsMember l more
wider l m ls more less h f g =
    elim h [
      | inl a ↦ elim (in_either l ls (m ∷ []) a) [
        | inl b ↦ inl b
        | inr b ↦ elim b [ inl e ↦ inr (subst (λ (k : Loop). IsMember k more) (sym e) g) | inr c ↦ absurd c ]
      ]
      | inr a ↦ inr (f l a)
    ]

right_of : (l : Loop) (ls less more : List Loop) → IsMember l ls ⊎ IsMember l less → ((k : Loop) → IsMember k less → IsMember k more) → IsMember l ls ⊎ IsMember l more
right_of l ls less more h f = elim h [ inl a ↦ inl a | inr b ↦ inr (f l b) ]

mutual
  in_part : (ls : List Loop) (p : Part) (s : Standing) (l : Loop) → IsMember s (statements_in ls p) → IsMember l s.loops → IsMember l ls ⊎ IsMember l (loops_of p)
  in_part ls (Run c) s l h i =
      elim h [ inl e ↦ inl (subst (λ (z : Standing). IsMember l z.loops) e i) | inr a ↦ absurd a ]
  in_part ls (Turns m ps) s l h i =
      wider l m ls (m ∷ loops_in_parts ps) (loops_in_parts ps) (in_parts (ls ++ m ∷ []) ps s l h i) (λ k g. inr g) (inl refl)
  in_part ls (Choice bs ps) s l h i =
      elim (in_either s (statements_in_branches ls bs) (statements_in_parts ls ps) h) [
        | inl a ↦ right_of l ls (loops_in_branches bs) (loops_in_branches bs ++ loops_in_parts ps) (in_branches ls bs s l a i) (λ k g. in_front k (loops_in_branches bs) (loops_in_parts ps) g)
        | inr a ↦ right_of l ls (loops_in_parts ps) (loops_in_branches bs ++ loops_in_parts ps) (in_parts ls ps s l a i) (λ k g. in_rest k (loops_in_branches bs) (loops_in_parts ps) g)
      ]
  in_part ls (Label m) s l h i = absurd h
  in_part ls (Jump m) s l h i = absurd h

  in_parts : (ls : List Loop) (ps : Parts) (s : Standing) (l : Loop) → IsMember s (statements_in_parts ls ps) → IsMember l s.loops → IsMember l ls ⊎ IsMember l (loops_in_parts ps)
  in_parts ls no_parts s l h i = absurd h
  in_parts ls (part p ps) s l h i =
      elim (in_either s (statements_in ls p) (statements_in_parts ls ps) h) [
        | inl a ↦ right_of l ls (loops_of p) (loops_of p ++ loops_in_parts ps) (in_part ls p s l a i) (λ k g. in_front k (loops_of p) (loops_in_parts ps) g)
        | inr a ↦ right_of l ls (loops_in_parts ps) (loops_of p ++ loops_in_parts ps) (in_parts ls ps s l a i) (λ k g. in_rest k (loops_of p) (loops_in_parts ps) g)
      ]

  in_branches : (ls : List Loop) (bs : Branches) (s : Standing) (l : Loop) → IsMember s (statements_in_branches ls bs) → IsMember l s.loops → IsMember l ls ⊎ IsMember l (loops_in_branches bs)
  in_branches ls no_branches s l h i = absurd h
  in_branches ls (branch e ps bs) s l h i =
      elim (in_either s (statements_in_parts ls ps) (statements_in_branches ls bs) h) [
        | inl a ↦ right_of l ls (loops_in_parts ps) (loops_in_parts ps ++ loops_in_branches bs) (in_parts ls ps s l a i) (λ k g. in_front k (loops_in_parts ps) (loops_in_branches bs) g)
        | inr a ↦ right_of l ls (loops_in_branches bs) (loops_in_parts ps ++ loops_in_branches bs) (in_branches ls bs s l a i) (λ k g. in_rest k (loops_in_parts ps) (loops_in_branches bs) g)
      ]

in_nest : (n : Nest) (s : Standing) (l : Loop) → IsMember s (nest_statements n) → IsMember l s.loops → IsMember l (nest_loops n)
in_nest n s l h i = elim (in_part [] n.body s l h i) [ inl a ↦ absurd a | inr b ↦ b ]

-- ---- loops by their numbers

number_in : (l : Loop) (xs : List Loop) → IsMember l xs → IsMember l.number (map (λ (k : Loop). k.number) xs)
number_in l [] h = absurd h
number_in l (x ∷ xs) h = elim h [ inl e ↦ inl (ap (λ (k : Loop). k.number) e) | inr r ↦ inr (number_in l xs r) ]

not_in : (n m : ℕ) (ns : List ℕ) → Each (λ k. n ≡ k → ⊥) ns → IsMember m ns → n ≡ m → ⊥
not_in n m [] h i e = i
not_in n m (k ∷ ns) h i e = elim i [ inl f ↦ h.0 (e ∙ f) | inr r ↦ not_in n m ns h.1 r e ]

by_number : (l m : Loop) (xs : List Loop) → Distinct (map (λ (k : Loop). k.number) xs) → IsMember l xs → IsMember m xs → l.number ≡ m.number → l ≡ m
by_number l m [] d h i e = absurd h
by_number l m (x ∷ xs) d h i e =
    elim h [
      | inl a ↦ elim i [
        | inl b ↦ a ∙ sym b
        | inr b ↦ absurd (not_in x.number m.number (map (λ (k : Loop). k.number) xs) d.0 (number_in m xs b) (sym (ap (λ (k : Loop). k.number) a) ∙ e))
      ]
      | inr a ↦ elim i [
        | inl b ↦ absurd (not_in x.number l.number (map (λ (k : Loop). k.number) xs) d.0 (number_in l xs a) (sym (ap (λ (k : Loop). k.number) b) ∙ sym e))
        | inr b ↦ by_number l m xs d.1 a b e
      ]
    ]

-- two loops in one place of two chains, which have one number
record AreCommon (ls ms : List Loop) (k : ℕ) : Type 0 where
  first : Loop
  second : Loop
  is_first : slice_get ls k ≡ Some first
  is_second : slice_get ms k ≡ Some second
  same : first.number ≡ second.number

abbrev AreCommonWithin : List Loop → List Loop → Type 0
AreCommonWithin ls ms = (j : ℕ) → j < common_of ls ms → AreCommon ls ms j

common_at : (ls ms : List Loop) (k : ℕ) → k < common_of ls ms → AreCommon ls ms k
common_at [] ms k h = absurd (omega arith)
common_at (l ∷ ls) [] k h = absurd (omega arith)
common_at (l ∷ ls) (m ∷ ms) k h = by (eqb l.number m.number) refl (λ j i. common_at ls ms j i)
  where
    at : (j : ℕ) → l.number ≡ m.number → j < suc (common_of ls ms) → AreCommonWithin ls ms → AreCommon (l ∷ ls) (m ∷ ms) j
    at zero e i f = record { first = l; second = m; is_first = refl; is_second = refl; same = e }
    at (suc j) e i f = let r = f j (omega arith) in record { first = r.first; second = r.second; is_first = r.is_first; is_second = r.is_second; same = r.same }

    by : (b : Bool) → eqb l.number m.number ≡ b → AreCommonWithin ls ms → AreCommon (l ∷ ls) (m ∷ ms) k
    by true e f = at k (eqb-true l.number m.number e) (subst (λ c. k < cond c (suc (common_of ls ms)) 0) e h) f
    by false e f = absurd (zero_above (subst (λ c. k < cond c (suc (common_of ls ms)) 0) e h))
      where
        zero_above : k < 0 → ⊥
        zero_above g = omega arith

pub same_loops : (n : Nest) (s t : Standing) → Distinct (map (λ (l : Loop). l.number) (nest_loops n)) → IsMember s (nest_statements n) → IsMember t (nest_statements n) → HaveSameLoops s.loops t.loops
same_loops n s t d h i k l =
    let c = common_at s.loops t.loops k l in
    let e : c.first ≡ c.second = by_number c.first c.second (nest_loops n) d (in_nest n s c.first h (in_at s.loops k c.first c.is_first))
    (in_nest n t c.second i (in_at t.loops k c.second c.is_second)) c.same in
    c.is_first ∙ ap (λ (m : Loop). Some m) e ∙ sym c.is_second
