-- Whether a body is marked as listed doesn't hang on the numbers of its lines.
use Rattle.std.proofs.Common.{◌≡◌, refl, sym, ap, subst, ◌∙◌, ℕ, ◌<◌, Option, List, [], ◌∷◌, map, length, Contains}
use Rattle.meaning_laws.proofs.arrays.Members.{in_map, of_map}
use Rattle.components.specs.Lists.{Distinct}
use Rattle.emission.specs.emission_marks.Marks.{Marked, marked_in}
use Rattle.listing.specs.programs.Listing.{ListedNest}
use Rattle.nest.specs.Bodies.{nest_statements}
use Rattle.tree.specs.Plain.{Block}
use Rattle.translation.specs.program_marks.Marks.{AreOfNests, IsAtLevel, IsMarkedAsListed, IsOfNests, StandsMarked}
use Rattle.translation.specs.program_marks.Marks.{mark_numbers_of, without_line}

-- the same statement on another line
record HasLike (xs : List Marked) (x : Marked) : Type 0 where
  it : Marked
  among : Contains xs it
  like : without_line it ≡ without_line x

has_like : (xs ys : List Marked) → map without_line xs ≡ map without_line ys → (y : Marked) → Contains ys y
    → HasLike xs y
has_like xs ys same y c =
    let there = in_map without_line ys y c in
    let w =
    of_map without_line xs (without_line y) (subst (λ zs. Contains zs (without_line y)) (sym same) there) in
    record { it = w.0; among = w.1; like = w.2 }

at_level : (t : ListedNest) (s : ℕ) (x y : Marked) → without_line x ≡ without_line y → IsAtLevel t s x
    → IsAtLevel t s y
at_level t s x y e h = record { level = h.level; is_level = h.is_level; outer = h.outer; is = sym e ∙ h.is }

same_keys : (xs : List Marked) → map mark_numbers_of (map without_line xs) ≡ map mark_numbers_of xs
same_keys [] = refl
same_keys (x ∷ xs) = ap (λ ks. mark_numbers_of x ∷ ks) (same_keys xs)

module _ (ts : List ListedNest) (b c : Block) (same : map without_line (marked_in [] b) ≡ map without_line (marked_in [] c))
    (h : AreOfNests ts b) where
  only : (x : Marked) → Contains (marked_in [] c) x → IsOfNests ts x
  only x i =
      let w = has_like (marked_in [] b) (marked_in [] c) same x i in
      let o = h.only w.it w.among in
      record {
        nest = o.nest;
        among = o.among;
        statement = o.statement;
        there = o.there;
        at = at_level o.nest o.statement w.it x w.like o.at;
      }

  each : (t : ListedNest) (s : ℕ) → Contains ts t → s < length (nest_statements t.normal) → StandsMarked c t s
  each t s i lt =
      let e = h.each t s i lt in
      let w = has_like (marked_in [] c) (marked_in [] b) (sym same) e.it e.stands in
      record { it = w.it; stands = w.among; at = at_level t s e.it w.it (sym w.like) e.at }

  once : Distinct (map mark_numbers_of (marked_in [] c))
  once =
      subst Distinct
      (sym (same_keys (marked_in [] b)) ∙ ap (map mark_numbers_of) same ∙ same_keys (marked_in [] c)) h.once

  on_other_lines : AreOfNests ts c
  on_other_lines = record { only = only; each = each; once = once }

pub marked_on_other_lines : (ts : List ListedNest) (blocks : List (Option Block)) (b c : Block)
    → map without_line (marked_in [] b) ≡ map without_line (marked_in [] c) → IsMarkedAsListed ts blocks b
    → IsMarkedAsListed ts blocks c
marked_on_other_lines ts blocks b c same h =
    record { in_place = h.in_place; marks = on_other_lines ts b c same h.marks }
