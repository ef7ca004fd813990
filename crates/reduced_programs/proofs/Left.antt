-- Declarations some of which are left, by their names.
use Rattle.std.proofs.Common.{◌≡◌, ◌⊎◌, inl, inr, ℕ, ◌+◌, ◌≤◌, Bool, true, false, cond, List, [], ◌∷◌, map, subst, arith, Contains}
use Rattle.std.specs.Prelude.{sum}
use Rattle.std.proofs.lemmas.List.Sums.{sum_by-cons}
use Rattle.std.specs.List.{AllByRecursion, filter}
use Rattle.std.specs.Cmp.Lexicographic.{slice_cmp}
use Rattle.std.specs.Ordering.{nat_cmp}
use Rattle.std.specs.declared.cmp.Ordering.TheVariants.{Less}
use Rattle.tree.specs.Plain.{Declaration}
use Rattle.tree.specs.Limits as limits
use Rattle.meaning.specs.Extents.{array_elements}
use Rattle.meaning.specs.Names.{IsInByteOrder}
use Rattle.meaning.specs.Profile90.{AreDeclarations, IsDeclaration}
use Rattle.meaning.specs.Typed.{dimensions}
use Rattle.meaning_laws.proofs.profiles.Lists.{cases_of, here, there}

of_first : (n : ℕ) (ns : List ℕ) → sum (n ∷ ns) ≡ n + sum ns
of_first n ns = sum_by-cons (λ m. m) n ns

added : (n a b s t : ℕ) → s ≡ n + a → t ≡ n + b → a ≤ b → s ≤ t
added n a b s t e f h = omega (arith, e, f, h)

over : (n a b t : ℕ) → t ≡ n + b → a ≤ b → a ≤ t
over n a b t f h = omega (arith, f, h)

within : (a b n : ℕ) → a ≤ b → b ≤ n → a ≤ n
within a b n h k = omega (arith, h, k)

no_more : (n : ℕ) → n ≤ n
no_more n = omega arith

abbrev names : List Declaration → List (List ℕ)
names ds = map (λ (d : Declaration). d.name) ds

abbrev before : List ℕ → List ℕ → Type 0
before x y = slice_cmp nat_cmp x y ≡ Less

abbrev elements : Declaration → ℕ
elements d = array_elements (dimensions d.extent)

module _ (test : List ℕ → Bool) where
  abbrev those : List Declaration → List Declaration
  those ds = filter (λ (d : Declaration). test d.name) ds

  all_left : (P : Declaration → Type 0) (ds : List Declaration) → AllByRecursion P ds → AllByRecursion P (those ds)
  all_left P [] h = tt
  all_left P (d ∷ ds) h = by (test d.name) (all_left P ds h.1)
    where
      by : (b : Bool) → AllByRecursion P (those ds) → AllByRecursion P (cond b (d ∷ those ds) (those ds))
      by true k = (h.0, k)
      by false k = k

  names_left : (P : List ℕ → Type 0) (ds : List Declaration) → AllByRecursion P (names ds) → AllByRecursion P (names (those ds))
  names_left P [] h = tt
  names_left P (d ∷ ds) h = by (test d.name) (names_left P ds h.1)
    where
      by : (b : Bool) → AllByRecursion P (names (those ds)) → AllByRecursion P (names (cond b (d ∷ those ds) (those ds)))
      by true k = (h.0, k)
      by false k = k

  ordered_left : (ds : List Declaration) → IsInByteOrder (names ds) → IsInByteOrder (names (those ds))
  ordered_left [] h = tt
  ordered_left (d ∷ ds) h = by (test d.name) (names_left (before d.name) ds h.0) (ordered_left ds h.1)
    where
      by : (b : Bool) → AllByRecursion (before d.name) (names (those ds)) → IsInByteOrder (names (those ds)) → IsInByteOrder (names (cond b (d ∷ those ds) (those ds)))
      by true k m = (k, m)
      by false k m = m

  elements_left : (ds : List Declaration) → sum (map elements (those ds)) ≤ sum (map elements ds)
  elements_left [] = no_more 0
  elements_left (d ∷ ds) = by (test d.name) (elements_left ds)
    where
      by : (b : Bool) → sum (map elements (those ds)) ≤ sum (map elements ds) → sum (map elements (cond b (d ∷ those ds) (those ds))) ≤ sum (map elements (d ∷ ds))
      by true k = added (elements d) (sum (map elements (those ds))) (sum (map elements ds)) _ _ (of_first (elements d) (map elements (those ds))) (of_first (elements d) (map elements ds)) k
      by false k = over (elements d) (sum (map elements (those ds))) (sum (map elements ds)) _ (of_first (elements d) (map elements ds)) k

  -- those that are left were there
  pub was_there : (ds : List Declaration) (e : Declaration) → Contains (those ds) e → Contains ds e
  was_there [] e c = c
  was_there (d ∷ ds) e c = by (test d.name) c (was_there ds e)
    where
      either : (d ≡ e) ⊎ Contains (those ds) e → (Contains (those ds) e → Contains ds e) → Contains (d ∷ ds) e
      either (inl g) more = subst (Contains (d ∷ ds)) g (here d ds)
      either (inr g) more = there d ds e (more g)

      by : (b : Bool) → Contains (cond b (d ∷ those ds) (those ds)) e → (Contains (those ds) e → Contains ds e) → Contains (d ∷ ds) e
      by true g more = either (cases_of d (those ds) e g) more
      by false g more = there d ds e (more g)

  pub are_left : (ds : List Declaration) → AreDeclarations ds → AreDeclarations (those ds)
  are_left ds h = record {
    each = all_left IsDeclaration ds h.each;
    ordered = ordered_left ds h.ordered;
    elements = within (sum (map elements (those ds))) (sum (map elements ds)) limits.most_array_elements (elements_left ds) h.elements;
  }
