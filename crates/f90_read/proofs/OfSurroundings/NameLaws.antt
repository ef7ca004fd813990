-- Names that are stored into, and DO variables.
use Rattle.std.proofs.Common.{arith, zero, suc, ◌≡◌, ◌<◌, ◌≤◌, ℕ, nat_eq, Bool, true, false, cond, not, ◌&&◌, ◌||◌, Option, Some, None, List, [], ◌∷◌, ◌++◌, length, get_or, ap, refl, sym, subst, ◌∙◌, ◌⊎◌, inl, inr}
use Rattle.std.specs.Prelude.{IsSomeAnd, Contains}
use Rattle.std.specs.List.{list_any, AllByRecursion}
use Rattle.std.specs.Str.{bytes_eq}
use Rattle.std.proofs.lemmas.Bool.{cases_Bool, eqb-true, eqb-false, true≢false}
use Rattle.std.proofs.lemmas.List.Folds.{list_any_at, list_any-append}
use Rattle.std.proofs.lemmas.Map.Views.{Contains-from_any}
use Rattle.std.proofs.lemmas.Slice.Eq.{bytes_eq-Decides}
use Rattle.tree.specs.declared.functions.Intrinsic.{Intrinsic}
use Rattle.tree.specs.declared.functions.Intrinsic.TheVariants.{Elemental, Reduction, Spread, Transpose, Reshape}
use Rattle.tree.specs.declared.ops.Kind.{Kind}
use Rattle.tree.specs.declared.ops.Kind.TheVariants.{Integer, Logical}
use Rattle.tree.specs.Plain as tree
use Rattle.tree.specs.Plain.{Declaration, Expression, Subscript}
use Rattle.meaning.specs.Names.{is_among}
use Rattle.meaning.specs.Typed.{declared, rank_of_extent}
use Rattle.meaning.specs.Typed90.{IsIntegerScalar, IsDoVariable}
use Rattle.reading.specs.Signs.{reference_in}
use Rattle.f90_grammar.specs.Items.{Input, IsReference90, IsVariable}
use Rattle.f90_grammar.specs.Phrases as phrases
use Rattle.f90_grammar.specs.Phrases.{Phrase90, tree_of, called, trees_of_parts}
use Rattle.f90_grammar.specs.Reading.{declares}
use Rattle.f90_grammar.specs.Surroundings.{KeepsVariables}
use Rattle.f90_names.specs.kinds.declarations.Names.{AreNamesOf, Tells, IsOf, found}
use Rattle.f90_names.specs.declared.kinds.declarations.names.Declared.{Declared}
use Rattle.f90_names.specs.declared.kinds.declarations.names.Names.{Names}
use Rattle.f90_read.specs.surroundings.Lists.{is_integer, is_scalar, scalar_in, stored_name, is_round, stores_round, is_wrong_variable}
use Rattle.f90_read.specs.surroundings.Misplaced.{AreProper}

-- ---- what tells that something doesn't hold

pub record Refutes (b : Bool) (P : Type 0) : Type 0 where
  pub holds : b ≡ false → P
  pub fails : b ≡ true → P → ⊥

pub never : {P : Type 0} → P → Refutes false P
never p = record { holds = λ e. p; fails = λ e q. true≢false (sym e) }

pub always : {P : Type 0} → (P → ⊥) → Refutes true P
always n = record { holds = λ e. absurd (true≢false e); fails = λ e q. n q }

pub either_way : {b : Bool} {P Q : Type 0} → Refutes b P → (P → Q) → (Q → P) → Refutes b Q
either_way r f g = record { holds = λ e. f (r.holds e); fails = λ e q. r.fails e (g q) }

pub both : (b c : Bool) {P Q : Type 0} → Refutes b P → (P → Refutes c Q) → Refutes (b || c) (P × Q)
both true c r s = always (λ h. r.fails refl h.0)
both false c r s = let p = r.holds refl in either_way (s p) (λ q. (p, q)) (λ h. h.1)

pub or_nothing : (b : Bool) {P : Type 0} → Refutes b P → Refutes (b || false) P
or_nothing true r = r
or_nothing false r = r

pub same_answer : {b c : Bool} {P : Type 0} → b ≡ c → Refutes c P → Refutes b P
same_answer e r = record { holds = λ f. r.holds (sym e ∙ f); fails = λ f p. r.fails (sym e ∙ f) p }

-- ---- names in lists

bytes_same : (x y : List ℕ) → bytes_eq x y ≡ true → x ≡ y
bytes_same x y h = (bytes_eq-Decides x y).0 h

among : (names : List (List ℕ)) (x : List ℕ) → Contains names x → is_among names x ≡ true
among names x h = list_any_at (bytes_eq x) names h.0 x h.1 ((bytes_eq-Decides x (get_or names h.0 x)).1 (sym h.2))

among_is : (names : List (List ℕ)) (x : List ℕ) → is_among names x ≡ true → Contains names x
among_is names x h = Contains-from_any bytes_same x names h

pub not_among : (names : List (List ℕ)) (x : List ℕ) → Refutes (is_among names x) (Contains names x → ⊥)
not_among names x = record { holds = λ e h. true≢false (sym (among names x h) ∙ e); fails = λ e n. n (among_is names x e) }

abbrev pub stored_in : List (List ℕ) → Option (List ℕ) → Bool
stored_in vs None = false
stored_in vs (Some x) = is_among vs x

module _ (vars : List (List ℕ)) where
  round_is : (lists : List (List ℕ)) (x : List ℕ) → is_round (is_among vars) lists x ≡ is_among (lists ++ vars) x
  round_is lists x = sym (list_any-append (bytes_eq x) lists vars)

  pub stores_is : (lists : List (List ℕ)) (o : Option (List ℕ)) → stores_round (is_among vars) o lists ≡ stored_in (lists ++ vars) o
  stores_is lists None = refl
  stores_is lists (Some x) = round_is lists x

-- ---- what is called

abbrev pub name_of : Expression → List ℕ
name_of e = (reference_in e).name

called_name : (g : Intrinsic) (x : List ℕ) (ss : List Subscript) → (name_of (called (Some g) x ss) ≡ x) ⊎ (name_of (called (Some g) x ss) ≡ [])
called_name (Elemental f) x ss = inr refl
called_name (Reduction r) x [] = inl refl
called_name (Reduction r) x (a ∷ []) = inr refl
called_name (Reduction r) x (a ∷ b ∷ ss) = inl refl
called_name Spread x [] = inl refl
called_name Spread x (a ∷ []) = inl refl
called_name Spread x (a ∷ b ∷ []) = inl refl
called_name Spread x (a ∷ b ∷ c ∷ []) = inr refl
called_name Spread x (a ∷ b ∷ c ∷ d ∷ ss) = inl refl
called_name Transpose x [] = inl refl
called_name Transpose x (a ∷ []) = inr refl
called_name Transpose x (a ∷ b ∷ ss) = inl refl
called_name Reshape x [] = inl refl
called_name Reshape x (a ∷ []) = inl refl
called_name Reshape x (a ∷ b ∷ []) = inr refl
called_name Reshape x (a ∷ b ∷ c ∷ ss) = inl refl

pub is_reference : (p : Phrase90) → IsVariable p → IsReference90 p
is_reference (phrases.Literal t) h = absurd h
is_reference (phrases.Truth b) h = absurd h
is_reference (phrases.Name x) h = tt
is_reference (phrases.Listed x ps) h = tt
is_reference (phrases.Paren p) h = absurd h
is_reference (phrases.Signed s p) h = absurd h
is_reference (phrases.Joined o a b) h = absurd h
is_reference (phrases.Values ps) h = absurd h
is_reference (phrases.Looped t) h = absurd h

-- ---- INTEGER scalars

scalar_by : (k : Kind) (r : ℕ) (d : Declaration) → k ≡ d.kind → r ≡ rank_of_extent d.extent
    → Refutes (not (is_integer k && nat_eq r 0)) ((d.kind ≡ Integer) × (rank_of_extent d.extent ≡ 0))
scalar_by Logical r d e f = always (λ h. absurd (by (e ∙ h.0)))
  where
    by : Logical ≡ Integer → ⊥
    by g = absurd (cc)
scalar_by Integer r d e f = by (nat_eq r 0) refl
  where
    by : (b : Bool) → nat_eq r 0 ≡ b → Refutes (not b) ((d.kind ≡ Integer) × (rank_of_extent d.extent ≡ 0))
    by true g = never (sym e, sym f ∙ eqb-true r 0 g)
    by false g = always (λ h. eqb-false r 0 g (f ∙ h.1))

scalar_told : (o : Option Declared) (q : Option Declaration) → Tells o q
    → Refutes (not (is_scalar o)) (IsSomeAnd q (λ d. (d.kind ≡ Integer) × (rank_of_extent d.extent ≡ 0)))
scalar_told None None t = always (λ h. h)
scalar_told None (Some d) t = absurd t
scalar_told (Some k) None t = absurd t
scalar_told (Some k) (Some d) t = scalar_by k.kind k.rank d t.kind t.rank

-- ---- DO variables are no functions

declared_told : (ds : List Declaration) (x : List ℕ) (d : Declaration) → declared ds x ≡ Some d → declares ds x ≡ true
declared_told [] x d e = absurd (cc)
declared_told (k ∷ ds) x d e = by (bytes_eq k.name x) e (declared_told ds x d)
  where
    by : (b : Bool) → cond b (Some k) (declared ds x) ≡ Some d → (declared ds x ≡ Some d → declares ds x ≡ true) → (b || declares ds x) ≡ true
    by true e f = refl
    by false e f = f e

module _ (function : List ℕ → Option Intrinsic) where
  abbrev pub IsPlain : List ℕ → Type 0
  IsPlain x = (function x ≡ None) × (x ≡ [] → ⊥)

  abbrev pub ArePlain : List (List ℕ) → Type 0
  ArePlain vs = AllByRecursion IsPlain vs

  plain_at : (vs : List (List ℕ)) (k : ℕ) (x : List ℕ) → ArePlain vs → k < length vs → get_or vs k x ≡ x → IsPlain x
  plain_at [] k x a l e = absurd (omega arith)
  plain_at (v ∷ vs) zero x a l e = subst IsPlain e a.0
  plain_at (v ∷ vs) (suc k) x a l e = plain_at vs k x a.1 (omega arith) e

  plain_in : (vs : List (List ℕ)) (x : List ℕ) → ArePlain vs → Contains vs x → IsPlain x
  plain_in vs x a h = plain_at vs h.0 x a h.1 h.2

module _ (names : Names) (ds : List Declaration) (function : List ℕ → Option Intrinsic) (of : AreNamesOf names ds) (proper : AreProper ds function) where
  pub scalar_is : (x : List ℕ) → Refutes (not (scalar_in names x)) (IsIntegerScalar ds x)
  scalar_is x = scalar_told (found names x) (declared ds x) (of x)

  pub scalar_plain : (x : List ℕ) → IsIntegerScalar ds x → IsPlain function x
  scalar_plain x h = by (declared ds x) refl h
    where
      by : (q : Option Declaration) → declared ds x ≡ q → IsSomeAnd q (λ d. (d.kind ≡ Integer) × (rank_of_extent d.extent ≡ 0)) → IsPlain function x
      by None e h = absurd h
      by (Some d) e h =
          let k = declared_told ds x d e in
          (proper.no_functions x k, λ n. true≢false (sym k ∙ (ap (declares ds) n ∙ proper.named)))

  -- ---- what is stored into

  pub stored : (p : Phrase90) (vs : List (List ℕ)) → IsReference90 p → ArePlain function vs
      → Refutes (stored_in vs (stored_name p)) (Contains vs (name_of (tree_of function p)) → ⊥)
  stored (phrases.Literal t) vs r a = absurd r
  stored (phrases.Truth b) vs r a = absurd r
  stored (phrases.Name x) vs r a = not_among vs x
  stored (phrases.Listed x ps) vs r a = by (function x) refl
    where
      no : (g : Intrinsic) → function x ≡ Some g → function x ≡ None → ⊥
      no g e f = absurd (cc)

      by : (o : Option Intrinsic) → function x ≡ o
          → Refutes (is_among vs x) (Contains vs (name_of (called o x (trees_of_parts function ps))) → ⊥)
      by None e = not_among vs x
      by (Some g) e = record {
        holds = λ q c. elim (called_name g x (trees_of_parts function ps)) [
          | inl n ↦ no g e (plain_in function vs x a (subst (Contains vs) n c)).0
          | inr n ↦ (plain_in function vs [] a (subst (Contains vs) n c)).1 refl
        ];
        fails = λ q h. no g e (plain_in function vs x a (among_is vs x q)).0;
      }
  stored (phrases.Paren p) vs r a = absurd r
  stored (phrases.Signed s p) vs r a = absurd r
  stored (phrases.Joined o b c) vs r a = absurd r
  stored (phrases.Values ps) vs r a = absurd r
  stored (phrases.Looped t) vs r a = absurd r

  -- what is read into
  pub keeps : (b : Bool) (e : Expression) (vs : List (List ℕ)) → ArePlain function vs → Refutes b (Contains vs (name_of e) → ⊥) → Refutes b (KeepsVariables Input e vs)
  keeps b e vs a r = by e r
    where
      nameless : Contains vs [] → ⊥
      nameless c = (plain_in function vs [] a c).1 refl

      by : (e : Expression) → Refutes b (Contains vs (name_of e) → ⊥) → Refutes b (KeepsVariables Input e vs)
      by (tree.Number n) r = either_way r (λ f. tt) (λ f. nameless)
      by (tree.Logic t) r = either_way r (λ f. tt) (λ f. nameless)
      by (tree.Named x ps) r = r
      by (tree.Unary o x) r = either_way r (λ f. tt) (λ f. nameless)
      by (tree.Binary o x y) r = either_way r (λ f. tt) (λ f. nameless)
      by (tree.Apply f es) r = either_way r (λ f. tt) (λ f. nameless)
      by (tree.Constructor es ls) r = either_way r (λ f. tt) (λ f. nameless)
      by (tree.Spread x d n) r = either_way r (λ f. tt) (λ f. nameless)
      by (tree.Transpose x) r = either_way r (λ f. tt) (λ f. nameless)
      by (tree.Reshape x es) r = either_way r (λ f. tt) (λ f. nameless)
      by (tree.Reduce o x) r = either_way r (λ f. tt) (λ f. nameless)

  -- ---- DO variables

  pub variable_is : (x : List ℕ) (vars lists : List (List ℕ)) → Refutes (is_wrong_variable (scalar_in names) (is_among vars) lists x) (IsDoVariable ds x (lists ++ vars))
  variable_is x vars lists =
      either_way (both (not (scalar_in names x)) _ (scalar_is x) (λ s. same_answer (round_is vars lists x) (not_among (lists ++ vars) x)))
      (λ h. record { integer = h.0; free = h.1 })
      (λ h. (h.integer, h.free))
