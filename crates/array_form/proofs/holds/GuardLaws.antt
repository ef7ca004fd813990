-- Whether loops stand in a guard.
use Rattle.std.proofs.Common.{◌≡◌, ℕ, Bool, true, false, ◌&&◌, ◌||◌, not, cond, List, [], ◌∷◌, map, drop, length, Option, Some, refl, sym, ap, ◌∙◌}
use Rattle.tree.specs.Plain.{Expression}
use Rattle.meaning.specs.Reads.{names_in}
use Rattle.array_form.specs.forms.Following.{has_no_loop}
use Rattle.array_form.specs.forms.Loops as forms
use Rattle.array_form.specs.forms.Statements.{stand_in_guard}
use Rattle.nest.specs.statement_loops.Names as texts
use Rattle.array_form.specs.holds.Surroundings.{counted_of}
use Rattle.array_form.specs.holds.Levels.{loops_from_place}
use Rattle.array_form.specs.declared.holds.loops.CountedLoop.{CountedLoop}
use Rattle.array_form.specs.declared.holds.loops.Surroundings.{Surroundings}
use Rattle.array_form.proofs.holds.AmongLaws.{among-is}

-- one loop more
stands_cons : (n : ℕ) (l : CountedLoop) (ls : List CountedLoop) (e : Expression)
    → stand_in_guard (map (counted_of n) (l ∷ ls)) (Some e) ≡ (forms.is_among (names_in e) l.var || stand_in_guard (map (counted_of n) ls) (Some e))
stands_cons n l ls e = by (forms.is_among (names_in e) l.var)
  where
    by : (b : Bool) → not (has_no_loop (cond b (counted_of n l ∷ forms.loops_among (map (counted_of n) ls) (names_in e)) (forms.loops_among (map (counted_of n) ls) (names_in e)))) ≡ (b || stand_in_guard (map (counted_of n) ls) (Some e))
    by true = refl
    by false = refl

pub none_there : (n : ℕ) (ls : List CountedLoop) (e : Expression) → ls ≡ [] → false ≡ stand_in_guard (map (counted_of n) ls) (Some e)
none_there n ls e h = sym (ap (λ ms. stand_in_guard (map (counted_of n) ms) (Some e)) h)

pub first_there : (n : ℕ) (ls rest : List CountedLoop) (l : CountedLoop) (e : Expression) (b : Bool) → ls ≡ l ∷ rest → b ≡ texts.is_among (names_in e) l.var → b ≡ true
    → b ≡ stand_in_guard (map (counted_of n) ls) (Some e)
first_there n ls rest l e b h is t =
    t ∙ sym (ap (λ ms. stand_in_guard (map (counted_of n) ms) (Some e)) h ∙ stands_cons n l rest e
    ∙ ap (λ c. c || stand_in_guard (map (counted_of n) rest) (Some e)) (sym (among-is (names_in e) l.var) ∙ sym is ∙ t))

pub later_there : (n : ℕ) (ls rest : List CountedLoop) (l : CountedLoop) (e : Expression) (b r : Bool) → ls ≡ l ∷ rest → b ≡ texts.is_among (names_in e) l.var → b ≡ false
    → r ≡ stand_in_guard (map (counted_of n) rest) (Some e) → r ≡ stand_in_guard (map (counted_of n) ls) (Some e)
later_there n ls rest l e b r h is f more =
    more ∙ sym (ap (λ ms. stand_in_guard (map (counted_of n) ms) (Some e)) h ∙ stands_cons n l rest e
    ∙ ap (λ c. c || stand_in_guard (map (counted_of n) rest) (Some e)) (sym (among-is (names_in e) l.var) ∙ sym is ∙ f))

pub ruleset standing_laws = (none_there, first_there, later_there)

pub outside_is : (a : Surroundings) (from : ℕ) (part : List CountedLoop) (guard : Option Expression) (safe b : Bool) → part ≡ drop from a.loops
    → ((n : ℕ) → b ≡ stand_in_guard (map (counted_of n) part) guard) → (b && not safe) ≡ (stand_in_guard (loops_from_place a from) guard && not safe)
outside_is a from part guard safe b p h =
    ap (λ c. c && not safe) (h (length a.loops) ∙ ap (λ ls. stand_in_guard (map (counted_of (length a.loops)) ls) guard) p)
