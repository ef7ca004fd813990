-- Statements with their marks.
use Rattle.std.proofs.Common.{◌≡◌, ◌+◌, ◌<◌, ℕ, zero, suc, List, [], ◌∷◌, ◌++◌, arith, drop, length, get_or, refl, ap, sym, subst, ◌∙◌, append_assoc, append-nil, Option, Some, None}
use Rattle.std.specs.Prelude.{reverse, option_to_list}
use Rattle.std.proofs.lemmas.List.{drop-map, reverse-append}
use Rattle.tree.specs.declared.stmts.Mark.{Mark}
use Rattle.f90_grammar.specs.Blocks as grammar
use Rattle.f90_grammar.specs.Forms.{Form90}
use Rattle.f90_grammar.specs.FreeForm.{FreeStatement}
use Rattle.f90_grammar.specs.Reading.{HaveForms, takes_mark, last_mark, if_taken}
use Rattle.f90_grammar.specs.Refusals.{IsFormOf90}
use Rattle.f90_lines.specs.Views.{statement_seen, statements_seen}
use Rattle.f90_lines.specs.declared.readings.Statement as written
use Rattle.f90_statement.specs.Views.{AreOf}
use Rattle.f90_statement.specs.declared.nodes.Statement.{Statement}
use Rattle.f90_blocks.specs.places.forms.Forms.{IsFormIn, HasForm}
use Rattle.f90_blocks.specs.places.forms.Places.{IsPlacedOf, IsPlacedNext, HavePlaces, HavePlacesSoFar}
use Rattle.f90_blocks.specs.declared.places.forms.placing.Placed.{Placed}
use Rattle.f90_blocks.proofs.places.OfForms.FormLaws.{left_at}

pub last_push : (pending : Option Mark) (ms : List Mark) (m : Mark) → last_mark pending (ms ++ m ∷ []) ≡ Some m
last_push pending [] m = refl
last_push pending (n ∷ ms) m = last_push (Some n) ms m

pub ruleset marks = (last_push)

-- ---- one statement more

are_more : (ks : List Placed) (ps : List grammar.Placed) (k : Placed) (p : grammar.Placed) → AreOf IsPlacedOf ks ps → IsPlacedOf k p
    → AreOf IsPlacedOf (ks ++ k ∷ []) (ps ++ p ∷ [])
are_more [] [] k p h g = (g, tt)
are_more [] (q ∷ ps) k p h g = absurd h
are_more (j ∷ ks) [] k p h g = absurd h
are_more (j ∷ ks) (q ∷ ps) k p h g = (h.0, are_more ks ps k p h.1 g)

pub one_more : (all more : List FreeStatement) (s : FreeStatement) (ks : List Placed) (pending next : Option Mark) (made : Statement) (k : Placed)
    → HavePlacesSoFar all (s ∷ more) ks pending → (g : HasForm s made) → IsPlacedNext s pending g.form k next → HavePlacesSoFar all more (ks ++ k ∷ []) next
one_more all more s ks pending next made k h g n =
    let p : grammar.Placed = grammar.placed_form s.line (if_taken (takes_mark g.form) (last_mark pending s.ahead)) g.form in
    record {
      placed = h.placed ++ p ∷ [];
      are = are_more ks h.placed k p h.are (record { line = n.line; mark = n.mark; is = n.is });
      on = λ rest m.
          subst (λ (q : List grammar.Placed). HaveForms None all q) (sym (append_assoc h.placed (p ∷ []) rest))
          (h.on (p ∷ rest) (refl, refl, g.of, subst (λ (o : Option Mark). HaveForms o more rest) n.behind m));
    }

pub begun : (all : List FreeStatement) → HavePlacesSoFar all all [] None
begun all = record { placed = []; are = tt; on = λ rest h. h }

pub ended : (all left : List FreeStatement) (ks : List Placed) (pending : Option Mark) → left ≡ [] → HavePlacesSoFar all left ks pending → HavePlaces all ks
ended all left ks pending e h = record {
  placed = h.placed;
  are = h.are;
  have = subst (λ (q : List grammar.Placed). HaveForms None all q) (append-nil h.placed)
      (h.on [] (subst (λ (l : List FreeStatement). HaveForms pending l []) (sym e) tt));
}

-- ---- a statement that has no form

abbrev HasNone : FreeStatement → Type 0
HasNone s = (f : Form90) → IsFormOf90 s f → ⊥

pub lost : (ss : List FreeStatement) (i : ℕ) (s : FreeStatement) (more : List FreeStatement) (pending : Option Mark) (ps : List grammar.Placed) → drop i ss ≡ s ∷ more
    → HasNone s → HaveForms pending ss ps → ⊥
lost [] zero s more pending ps e n h = cc
lost [] (suc i) s more pending ps e n h = cc
lost (t ∷ ss) i s more pending [] e n h = h
lost (t ∷ ss) zero s more pending (p ∷ ps) e n h = n p.form (subst (λ (q : FreeStatement). IsFormOf90 q p.form) (same e) h.2)
  where
    same : t ∷ ss ≡ s ∷ more → t ≡ s
    same q = cc
lost (t ∷ ss) (suc i) s more pending (p ∷ ps) e n h = lost ss i s more _ ps e n h.3

-- ---- the forms that are left

reversed : (new : List (Option Statement)) (q : Option Statement) → reverse (new ++ q ∷ []) ≡ q ∷ reverse new
reversed new q = reverse-append new (q ∷ [])

popped : (old new : List (Option Statement)) (o : Option (Option Statement)) (q : Option Statement) → old ≡ new ++ option_to_list o → o ≡ Some q
    → reverse old ≡ q ∷ reverse new
popped old new o q e f =
    ap reverse (e ∙ ap (λ (p : Option (Option Statement)). new ++ option_to_list p) f) ∙ reversed new q

pub forms_next : (old new : List (Option Statement)) (o : Option (Option Statement)) (q : Option Statement) (xs : List written.Statement) (i : ℕ) (x : written.Statement)
    → old ≡ new ++ option_to_list o → o ≡ Some q → i < length xs → get_or xs i x ≡ x → AreOf IsFormIn (reverse old) (statements_seen (drop i xs))
    → IsFormIn q (statement_seen x) × AreOf IsFormIn (reverse new) (statements_seen (drop (i + 1) xs))
forms_next old new o q xs i x e f l g h =
    subst (λ (qs : List (Option Statement)). AreOf IsFormIn qs (statement_seen x ∷ statements_seen (drop (i + 1) xs))) (popped old new o q e f)
    (subst (λ (ss : List FreeStatement). AreOf IsFormIn (reverse old) ss) (left_at xs i x l g) h)

pub next_place : (all : List FreeStatement) (xs : List written.Statement) (i : ℕ) (x : written.Statement) (ks : List Placed) (pending next : Option Mark) (made : Statement) (k : Placed)
    → i < length xs → get_or xs i x ≡ x → HavePlacesSoFar all (statements_seen (drop i xs)) ks pending → (g : HasForm (statement_seen x) made)
    → IsPlacedNext (statement_seen x) pending g.form k next → HavePlacesSoFar all (statements_seen (drop (i + 1) xs)) (ks ++ k ∷ []) next
next_place all xs i x ks pending next made k l g h m n =
    one_more all (statements_seen (drop (i + 1) xs)) (statement_seen x) ks pending next made k
    (subst (λ (ss : List FreeStatement). HavePlacesSoFar all ss ks pending) (left_at xs i x l g) h) m n

empty : (xs : List (Option Statement)) → length xs ≡ 0 → xs ≡ []
empty [] h = refl
empty (x ∷ xs) h = absurd (omega arith)

-- as many forms are left as statements
pub never_empty : (old : List (Option Statement)) (xs : List written.Statement) (i : ℕ) (x : written.Statement) → length old ≡ 0 → i < length xs → get_or xs i x ≡ x
    → AreOf IsFormIn (reverse old) (statements_seen (drop i xs)) → ⊥
never_empty old xs i x e l g h =
    subst (λ (qs : List (Option Statement)). AreOf IsFormIn (reverse qs) (statement_seen x ∷ statements_seen (drop (i + 1) xs))) (empty old e)
    (subst (λ (ss : List FreeStatement). AreOf IsFormIn (reverse old) ss) (left_at xs i x l g) h)

pub lost_at : (xs : List written.Statement) (i : ℕ) (x : written.Statement) (ps : List grammar.Placed) → i < length xs → get_or xs i x ≡ x → HasNone (statement_seen x)
    → HaveForms None (statements_seen xs) ps → ⊥
lost_at xs i x ps l g n h = lost (statements_seen xs) i (statement_seen x) (statements_seen (drop (i + 1) xs)) None ps (drop-map statement_seen i xs ∙ left_at xs i x l g) n h
