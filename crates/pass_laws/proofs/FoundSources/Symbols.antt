-- Neither the variable of a loop nor a name that stands written in its body is a symbol of the loop.
use Rattle.std.proofs.Common.{◌≡◌, refl, sym, ap, ◌∙◌, subst, ◌⊎◌, inl, inr, ℕ, Bool, true, false, cond, not, ◌&&◌}
use Rattle.std.proofs.Common.{◌||◌, List, [], ◌∷◌, map, filter}
use Rattle.std.specs.List.{list_any, AllByRecursion}
use Rattle.std.specs.Str.{bytes_eq}
use Rattle.std.proofs.lemmas.Slice.Eq.{bytes_eq-Decides}
use Rattle.tree.specs.Plain.{Block, Declaration}
use Rattle.meaning.specs.Dialect.{Dialect}
use Rattle.meaning.specs.Profile77.{IsDeclaration}
use Rattle.rewrite.specs.Names.{is_way, names_standing, names_written_in, uses_in_block, without_repeats}
use Rattle.rewrite.specs.declared.uses.Use.{Use}
use Rattle.rewrite.specs.declared.uses.Way.TheVariants.{Writes}
use Rattle.components.specs.Lists.{Each, IsMember}
use Rattle.components.proofs.ListLaws.{Each-from}
use Rattle.linear_forms.proofs.Sizes.{both}
use Rattle.nest_reasons.specs.Symbols.{is_integer_scalar, is_symbol, symbols_of}
use Rattle.nest.specs.statement_loops.Names.{is_among}
use Rattle.pass_laws.proofs.FoundSources.Counters.{IsShort}
use Rattle.pass_laws.proofs.FoundSources.Lists.{clash, differ}

or_right : (a b : Bool) → b ≡ true → (a || b) ≡ true
or_right true b h = refl
or_right false b h = h

not_true : (b : Bool) → not b ≡ true → b ≡ false
not_true true h = cc
not_true false h = refl

-- ---- names that stand written

module _ (x y : List ℕ) (other : bytes_eq x y ≡ false) where
  kept : (zs : List (List ℕ)) → list_any (bytes_eq x) zs ≡ true → list_any (bytes_eq x) (filter (λ z. not (bytes_eq z y)) zs) ≡ true
  kept [] h = h
  kept (v ∷ vs) h = by (bytes_eq x v) (bytes_eq v y) refl refl h (kept vs)
    where
      by : (a b : Bool) → bytes_eq x v ≡ a → bytes_eq v y ≡ b → (a || list_any (bytes_eq x) vs) ≡ true
          → (list_any (bytes_eq x) vs ≡ true → list_any (bytes_eq x) (filter (λ z. not (bytes_eq z y)) vs) ≡ true)
          → list_any (bytes_eq x) (cond (not b) (v ∷ filter (λ z. not (bytes_eq z y)) vs) (filter (λ z. not (bytes_eq z y)) vs)) ≡ true
      by true true e f k more =
          absurd (clash (bytes_eq x y) ((bytes_eq-Decides x y).1 ((bytes_eq-Decides x v).0 e ∙ (bytes_eq-Decides v y).0 f)) other)
      by true false e f k more = ap (λ b. b || list_any (bytes_eq x) (filter (λ z. not (bytes_eq z y)) vs)) e
      by false true e f k more = more k
      by false false e f k more = or_right (bytes_eq x v) (list_any (bytes_eq x) (filter (λ z. not (bytes_eq z y)) vs)) (more k)

listed : (x : List ℕ) (xs : List (List ℕ)) → list_any (bytes_eq x) xs ≡ true → list_any (bytes_eq x) (without_repeats xs) ≡ true
listed x [] h = h
listed x (y ∷ ys) h = by (bytes_eq x y) refl h (listed x ys)
  where
    by : (b : Bool) → bytes_eq x y ≡ b → (b || list_any (bytes_eq x) ys) ≡ true
        → (list_any (bytes_eq x) ys ≡ true → list_any (bytes_eq x) (without_repeats ys) ≡ true)
        → (b || list_any (bytes_eq x) (filter (λ z. not (bytes_eq z y)) (without_repeats ys))) ≡ true
    by true e k more = refl
    by false e k more = kept x y e (without_repeats ys) (more k)

standing : (us : List Use) (u : Use) → IsMember u us → is_way u.way Writes ≡ true → list_any (bytes_eq u.name) (names_standing Writes us) ≡ true
standing [] u i h = absurd i
standing (v ∷ vs) u i h = by (is_way v.way Writes) refl i (standing vs u)
  where
    by : (b : Bool) → is_way v.way Writes ≡ b → (u ≡ v) ⊎ IsMember u vs
        → (IsMember u vs → is_way u.way Writes ≡ true → list_any (bytes_eq u.name) (names_standing Writes vs) ≡ true)
        → list_any (bytes_eq u.name) (map (λ (w : Use). w.name)
        (cond b (v ∷ filter (λ (w : Use). is_way w.way Writes) vs) (filter (λ (w : Use). is_way w.way Writes) vs))) ≡ true
    by true e (inl s) more =
        ap (λ b. b || list_any (bytes_eq u.name) (names_standing Writes vs)) ((bytes_eq-Decides u.name v.name).1 (ap (λ (w : Use). w.name) s))
    by true e (inr j) more = or_right (bytes_eq u.name v.name) (list_any (bytes_eq u.name) (names_standing Writes vs)) (more j h)
    by false e (inl s) more = absurd (clash (is_way v.way Writes) (subst (λ (w : Use). is_way w.way Writes ≡ true) s h) e)
    by false e (inr j) more = more j h

-- ---- symbols

abbrev names_that : (Declaration → Bool) → List Declaration → List (List ℕ)
names_that test ds = map (λ (d : Declaration). d.name) (filter test ds)

unlisted : (test : Declaration → Bool) (y : List ℕ) → ((d : Declaration) → test d ≡ true → bytes_eq d.name y ≡ false) → (ds : List Declaration)
    → is_among (names_that test ds) y ≡ false
unlisted test y f [] = refl
unlisted test y f (d ∷ ds) = by (test d) refl (unlisted test y f ds)
  where
    by : (b : Bool) → test d ≡ b → is_among (names_that test ds) y ≡ false
        → is_among (map (λ (c : Declaration). c.name) (cond b (d ∷ filter test ds) (filter test ds))) y ≡ false
    by true e h = ap (λ b. b || is_among (names_that test ds) y) (f d e) ∙ h
    by false e h = h

module _ (ds : List Declaration) (x : List ℕ) (body : Block) where
  tested : (d : Declaration) → is_symbol x (names_written_in body) d ≡ true
      → (bytes_eq d.name x ≡ false) × (list_any (bytes_eq d.name) (names_written_in body) ≡ false)
  tested d e =
      let p = both (is_integer_scalar d) (not (bytes_eq d.name x) && not (list_any (bytes_eq d.name) (names_written_in body))) e in
      let q = both (not (bytes_eq d.name x)) (not (list_any (bytes_eq d.name) (names_written_in body))) p.1 in
      (not_true (bytes_eq d.name x) q.0, not_true (list_any (bytes_eq d.name) (names_written_in body)) q.1)

  pub variable_no_symbol : is_among (symbols_of ds x body) x ≡ false
  variable_no_symbol = unlisted (is_symbol x (names_written_in body)) x (λ d e. (tested d e).0) ds

  written_no_symbol : (y : List ℕ) → list_any (bytes_eq y) (names_written_in body) ≡ true → is_among (symbols_of ds x body) y ≡ false
  written_no_symbol y h =
      unlisted (is_symbol x (names_written_in body)) y
      (λ d e. differ d.name y (λ same. clash (list_any (bytes_eq d.name) (names_written_in body))
      (subst (λ z. list_any (bytes_eq z) (names_written_in body) ≡ true) (sym same) h) (tested d e).1))
      ds

-- what stands written is no symbol
abbrev pub IsApart : List (List ℕ) → Use → Type 0
IsApart symbols u = is_way u.way Writes ≡ true → is_among symbols u.name ≡ false

pub uses_apart : (ds : List Declaration) (x : List ℕ) (body : Block) → Each (IsApart (symbols_of ds x body)) (uses_in_block body)
uses_apart ds x body =
    Each-from (IsApart (symbols_of ds x body)) (uses_in_block body)
    (λ u i w. written_no_symbol ds x body u.name
    (listed u.name (names_standing Writes (uses_in_block body)) (standing (uses_in_block body) u i w)))

-- symbols are names of the program
pub short_names : (d : Dialect) (test : Declaration → Bool) (ds : List Declaration) → AllByRecursion (IsDeclaration d) ds
    → Each IsShort (map (λ (c : Declaration). c.name) (filter test ds))
short_names d test [] h = tt
short_names d test (c ∷ cs) h = by (test c) (short_names d test cs h.1)
  where
    by : (b : Bool) → Each IsShort (map (λ (e : Declaration). e.name) (filter test cs))
        → Each IsShort (map (λ (e : Declaration). e.name) (cond b (c ∷ filter test cs) (filter test cs)))
    by true more = (h.0.name.within, more)
    by false more = more
