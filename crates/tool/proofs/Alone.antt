-- A listed statement that is alone at a level is one array statement of the translation.
use Rattle.std.proofs.Common.{◌≡◌, ◌⊎◌, inl, inr, sym, ap, ◌∙◌, subst, ℕ, ◌<◌, ◌≤◌, cond, List, [], ◌∷◌, length, map, Contains}
use Rattle.std.proofs.lemmas.Bool.{le-leb}
use Rattle.components.specs.Lists.{Distinct, Each}
use Rattle.emission.specs.emission_marks.Components.{IsLevel}
use Rattle.emission.specs.emission_marks.Marks.{Marked, formed_at, kept_at, marked_at, marked_in}
use Rattle.emission.specs.emission_pieces.Nests.{loops_at}
use Rattle.listing.specs.programs.Causes.{listed_holds}
use Rattle.listing_laws.specs.reader.Lists.{Lists}
use Rattle.listing_laws.specs.told_nests.Graphs.{graph_told}
use Rattle.listing_laws.specs.told_nests.Nests.{Tells, ToldNest, by_entries, nests_listed}
use Rattle.meaning_laws.proofs.arrays.Members.{cases_of, in_map, nowhere}
use Rattle.nest.specs.Bodies.{nest_statements}
use Rattle.nest.specs.Plain.{Nest}
use Rattle.tree.specs.Plain.{Program}
use Rattle.translation.specs.program_marks.Marks.{StandsMarked, mark_numbers_of, within, without_line}
use Rattle.tool.specs.Marked.{IsMarkedBy}
use Rattle.tool.specs.Vectorises.{IsAlone, IsArrayStatement}

-- ---- lists

-- of numbers none of which is that of x, y hasn't that of x
apart : {A B : Type 0} (f : A → B) (b : B) (ys : List A) (y : A) → Each (λ c. ¬ (b ≡ c)) (map f ys) → Contains ys y → b ≡ f y → ⊥
apart f b [] y h c e = nowhere y c
apart f b (z ∷ ys) y h c e = by (cases_of z ys y c) (apart f b ys y h.1)
  where
    by : (z ≡ y) ⊎ Contains ys y → (Contains ys y → b ≡ f y → ⊥) → ⊥
    by (inl same) more = h.0 (e ∙ sym (ap f same))
    by (inr i) more = more i e

-- of those with different numbers, two with one number are one
one_of : {A B : Type 0} (f : A → B) (xs : List A) (x y : A) → Distinct (map f xs) → Contains xs x → Contains xs y → f x ≡ f y → x ≡ y
one_of f [] x y h c d e = absurd (nowhere x c)
one_of f (z ∷ xs) x y h c d e = by (cases_of z xs x c) (cases_of z xs y d) (one_of f xs x y h.1)
  where
    by : (z ≡ x) ⊎ Contains xs x → (z ≡ y) ⊎ Contains xs y → (Contains xs x → Contains xs y → f x ≡ f y → x ≡ y) → x ≡ y
    by (inl a) (inl b) more = sym a ∙ b
    by (inl a) (inr j) more = absurd (apart f (f z) xs y h.0 j (ap f a ∙ e))
    by (inr i) (inl b) more = absurd (apart f (f z) xs x h.0 i (ap f b ∙ sym e))
    by (inr i) (inr j) more = more i j e

-- ---- statements

formed : (n : Nest) (s k : ℕ) → k ≤ length (loops_at n s) → marked_at n s k ≡ formed_at n s k
formed n s k h = ap (λ b. cond b (formed_at n s k) (kept_at n s)) (le-leb k (length (loops_at n s)) h)

module _ (p q : Program) (lines : List (List ℕ)) (l : Lists p lines) (tells : Tells p lines l)
    (marked : IsMarkedBy p (map by_entries (nests_listed p lines l)) q) where
  pub one_array : (t : ToldNest) (s k : ℕ) → Contains (nests_listed p lines l) t → s < length (nest_statements t.last) → IsAlone t s k
      → IsArrayStatement t s q
  one_array t s k c inside alone =
      by (subst (λ hs. IsLevel t.last (graph_told t.entries).edges hs s stands.at.level) (sym (tells.holds t c)) stands.at.is_level)
    where
      stands : StandsMarked q.body (by_entries t) s
      stands = marked.marked.marks.each (by_entries t) s (in_map by_entries (nests_listed p lines l) t c) inside

      by : IsLevel t.last (graph_told t.entries).edges (listed_holds t.entries) s stands.at.level → IsArrayStatement t s q
      by (inl least) = record {
        level = stands.at.level;
        least = least;
        it = stands.it;
        stands = stands.stands;
        outer = stands.at.outer;
        is = stands.at.is ∙ ap (λ (x : Marked). without_line (within stands.at.outer x)) (formed t.last s stands.at.level least.alone.last);
        only = λ x i e. one_of mark_numbers_of (marked_in [] q.body) x stands.it marked.marked.marks.once i stands.stands e;
      }
      by (inr never) = absurd (never.never k alone)
