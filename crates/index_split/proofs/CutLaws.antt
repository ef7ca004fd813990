-- Nests that are considered, and their points.
use Rattle.std.proofs.Common.{◌≡◌, ◌≤◌, inl, inr, refl, sym, ap, subst, ◌∙◌, ℕ, ℤ, pos, int_div, Bool, true, false, ◌&&◌, cond, Option, Some, None, List, [], ◌∷◌, map, arith}
use Rattle.std.specs.Prelude.{◌↔◌, MatchOption}
use Rattle.std.specs.List.Sorted.{IsStrictlyIncreasing}
use Rattle.components.specs.Lists.{IsMember}
use Rattle.dependence_graph.specs.declared.nest_references.occurrences.Occurrence.{Occurrence}
use Rattle.dependence_graph.specs.nest_graph.Ready.{IsTripIn}
use Rattle.dependence_graph.specs.nest_graph.Spans.{ends_at, last_after, span_after}
use Rattle.dependence_graph.specs.nest_graph.Trips.{has_constant_top}
use Rattle.dependence_graph.specs.nest_references.Occurrences.{AreOccurrences}
use Rattle.nest.specs.Plain.{Choice, Guarded, Jump, Label, Loop, Nest, Part, Parts, Run, Turns, no_parts, part, parts}
use Rattle.nest.specs.declared.parts.Trip.{Trip}
use Rattle.subscripts.specs.declared.affine.Span.{Span}
use Rattle.index_split.specs.Cuts.{are_statements, is_statement, only_loop}
use Rattle.index_split.specs.Gathered.{Adds}
use Rattle.index_split.specs.Points.{AreCutPoints, IsConsidered, IsPointAmong, TurnsAlways}
use Rattle.index_split.proofs.Multiples.{same_number}

-- ---- trips

same_trip : (l : Loop) (a b : Trip) → l.trip ≡ Some a → l.trip ≡ Some b → a ≡ b
same_trip l a b e f = cc

abbrev IsTripOf : Loop → Option ℤ → Type 0
IsTripOf l o = MatchOption o ((n : ℕ) → TurnsAlways l n → ⊥) (λ z. (n : ℕ) → (z ≡ pos n) ↔ TurnsAlways l n)

pub constant_by : (l : Loop) (t : Trip) (s : Span) → l.trip ≡ Some t → IsTripIn 0 t → s ≡ span_after [] t → s.fixed ≡ true
    → MatchOption s.last ((n : ℕ) → TurnsAlways l n → ⊥) (λ z. (n : ℕ) → (z ≡ pos n) ↔ TurnsAlways l n)
constant_by l t s is form e fixed = by (has_constant_top t) refl e
  where
    right : has_constant_top t ≡ true → (n : ℕ) → (int_div t.top.constant t.by ≡ pos n) ↔ TurnsAlways l n
    right c n = (
      λ q. record { trip = t; is = is; linear = form; constant = c; number = q },
      λ h. ap (λ (u : Trip). int_div u.top.constant u.by) (same_trip l t h.trip is h.is) ∙ h.number,
    )

    no : s.fixed ≡ false → ⊥
    no f = cc

    by : (b : Bool) → has_constant_top t ≡ b → s ≡ cond b (record { last = Some (int_div t.top.constant t.by); fixed = true }) (ends_at (last_after [] t)) → IsTripOf l s.last
    by true c f = subst (IsTripOf l) (sym (ap (λ (x : Span). x.last) f)) (right c)
    by false c f = absurd (no (ap (λ (x : Span). x.fixed) f))

-- ---- nests that are considered

both : (b c : Bool) → b && c ≡ true → (b ≡ true) × (c ≡ true)
both true true e = (refl, refl)
both true false e = cc
both false c e = cc

all_run : (ps : Parts) → are_statements ps ≡ true → (ss : List Guarded) × (ps ≡ parts (map Run ss))
all_run no_parts e = ([], refl)
all_run (part p ps) e = let b = both (is_statement p) (are_statements ps) e in let r = all_run ps b.1 in one p b.0 r.0 r.1
  where
    one : (q : Part) → is_statement q ≡ true → (ss : List Guarded) → ps ≡ parts (map Run ss) → (rs : List Guarded) × (part q ps ≡ parts (map Run rs))
    one (Run s) f ss g = (s ∷ ss, ap (part (Run s)) g)
    one (Turns l qs) f ss g = cc
    one (Choice bs qs) f ss g = cc
    one (Label n) f ss g = cc
    one (Jump n) f ss g = cc

runs_all : (ss : List Guarded) → are_statements (parts (map Run ss)) ≡ true
runs_all [] = refl
runs_all (s ∷ ss) = runs_all ss

-- the only loop of a part, and what it stands round
pub record IsLoopRound (p : Part) (l : Loop) : Type 0 where
  pub statements : List Guarded
  pub is : p ≡ Turns l (parts (map Run statements))

loop_round : (p : Part) (l : Loop) → only_loop p ≡ Some l → IsLoopRound p l
loop_round (Run s) l e = cc
loop_round (Turns k ps) l e = by (are_statements ps) refl e
  where
    same : ◌≡◌ {A = Option Loop} (Some k) (Some l) → k ≡ l
    same f = cc

    by : (b : Bool) → are_statements ps ≡ b → cond b (Some k) None ≡ Some l → IsLoopRound (Turns k ps) l
    by true a f = let r = all_run ps a in record { statements = r.0; is = ap (Turns k) r.1 ∙ ap (λ (x : Loop). Turns x (parts (map Run r.0))) (same f) }
    by false a f = cc
loop_round (Choice bs ps) l e = cc
loop_round (Label n) l e = cc
loop_round (Jump n) l e = cc

only_loop_is : (n : Nest) (t : ℕ) (h : IsConsidered n t) → only_loop n.body ≡ Some h.loop
only_loop_is n t h = ap only_loop h.body ∙ ap (λ (b : Bool). cond b (Some h.loop) None) (runs_all h.statements)

no_some : (l : Loop) → ◌≡◌ {A = Option Loop} None (Some l) → ⊥
no_some l e = cc

same_loop : (o : Option Loop) (k l : Loop) → o ≡ Some k → o ≡ Some l → k ≡ l
same_loop o k l e f = cc

pub considered_once : (n : Nest) (t u : ℕ) → IsConsidered n t → IsConsidered n u → t ≡ u
considered_once n t u h k =
    let l : h.loop ≡ k.loop = same_loop (only_loop n.body) h.loop k.loop (only_loop_is n t h) (only_loop_is n u k) in
    let e : h.turns.trip ≡ k.turns.trip = same_trip h.loop h.turns.trip k.turns.trip h.turns.is (ap (λ (x : Loop). x.trip) l ∙ k.turns.is) in
    same_number t u (sym h.turns.number ∙ ap (λ (x : Trip). int_div x.top.constant x.by) e ∙ k.turns.number)

pub unconsidered : (n : Nest) → only_loop n.body ≡ None → (t : ℕ) → IsConsidered n t → ⊥
unconsidered n e t h = no_some h.loop (sym e ∙ only_loop_is n t h)

-- by its loop, whose trip may be constant
module _ (n : Nest) (l : Loop) (e : only_loop n.body ≡ Some l) where
  turns_of : (t : ℕ) (h : IsConsidered n t) → TurnsAlways l t
  turns_of t h = subst (λ (k : Loop). TurnsAlways k t) (same_loop (only_loop n.body) h.loop l (only_loop_is n t h) e) h.turns

  pub not_constant : ((t : ℕ) → TurnsAlways l t → ⊥) → (t : ℕ) → IsConsidered n t → ⊥
  not_constant never t h = never t (turns_of t h)

  pub considered_by : (z : ℤ) (o : Option ℕ) → ((t : ℕ) → (z ≡ pos t) ↔ TurnsAlways l t)
      → MatchOption o ((t : ℕ) → z ≡ pos t → 2 ≤ t → t ≤ 2147483646 → ⊥) (λ t. (z ≡ pos t) × (2 ≤ t) × (t ≤ 2147483646))
      → MatchOption o ((t : ℕ) → IsConsidered n t → ⊥) (IsConsidered n)
  considered_by z None is never = λ t h. never t ((is t).1 (turns_of t h)) h.some h.few
  considered_by z (Some t) is h =
      let r = loop_round n.body l e in
      record { loop = l; statements = r.statements; body = r.is; turns = (is t).0 h.0; some = h.1; few = h.2 }

-- ---- points

pub gathered : (os : List Occurrence) (t : ℕ) (list items ordered points : List ℕ) → Adds (IsPointAmong os os t) [] list → items ≡ list
    → ((x : ℕ) → IsMember x ordered ↔ IsMember x items) → points ≡ ordered → (x : ℕ) → IsMember x points ↔ IsPointAmong os os t x
gathered os t list items ordered points h e s f x = (
  λ i. elim ((h x).0 (subst (λ (xs : List ℕ). IsMember x xs) e ((s x).0 (subst (λ (xs : List ℕ). IsMember x xs) f i)))) [ inl n ↦ absurd n | inr p ↦ p ],
  λ p. subst (λ (xs : List ℕ). IsMember x xs) (sym f) ((s x).1 (subst (λ (xs : List ℕ). IsMember x xs) (sym e) ((h x).1 (inr p)))),
)

module _ (n : Nest) (os list : List Occurrence) (same : list ≡ os) (are : AreOccurrences n os) where
  pub no_points : ((t : ℕ) → IsConsidered n t → ⊥) → (points : List ℕ) → points ≡ [] → AreCutPoints n points
  no_points never points e = subst (AreCutPoints n) (sym e) (record {
    references = os;
    are = are;
    rising = λ k h. absurd (omega (arith, h));
    each = λ x. (λ i. absurd i, λ h. absurd (never h.0 h.1));
  })

  pub all_points : (t : ℕ) → IsConsidered n t → (points : List ℕ) → IsStrictlyIncreasing points
      → ((x : ℕ) → IsMember x points ↔ IsPointAmong list list t x) → AreCutPoints n points
  all_points t h points rising each = record {
    references = list;
    are = subst (AreOccurrences n) (sym same) are;
    rising = rising;
    each = λ x. (
      λ i. (t, h, (each x).0 i),
      λ p. (each x).1 (subst (λ (k : ℕ). IsPointAmong list list k x) (considered_once n p.0 t p.1 h) p.2),
    );
  }
