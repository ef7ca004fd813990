-- What a name is declared as.
use Rattle.std.proofs.Common.{◌≡◌, ◌⊎◌, inl, inr, ℕ, Bool, true, false, cond, Some, None, List, [], ◌∷◌, map}
use Rattle.std.proofs.Common.{refl, sym, ap, subst, ◌∙◌, Contains}
use Rattle.std.specs.List.{AllByRecursion}
use Rattle.std.specs.Str.{bytes_eq}
use Rattle.std.specs.Cmp.Lexicographic.{slice_cmp}
use Rattle.std.specs.Ordering.{nat_cmp, is_eq}
use Rattle.std.specs.declared.cmp.Ordering.TheVariants.{Less}
use Rattle.std.proofs.lemmas.Slice.Eq.{bytes_eq-Decides}
use Rattle.std.proofs.lemmas.Map.Text.{is_eq-slice_cmp}
use Rattle.tree.specs.Plain.{Declaration}
use Rattle.meaning.specs.Names.{IsInByteOrder}
use Rattle.meaning.specs.Typed.{declared}
use Rattle.meaning_laws.proofs.profiles.Lists.{here, there, nowhere, cases_of, all_at, all_of_map}

abbrev pub names : List Declaration → List (List ℕ)
names ds = map (λ (e : Declaration). e.name) ds

-- what is found bears the name, and is declared
pub record IsFoundAs (ds : List Declaration) (x : List ℕ) (e : Declaration) : Type 0 where
  pub among : Contains ds e
  pub name : e.name ≡ x

pub found : (ds : List Declaration) (x : List ℕ) (e : Declaration) → declared ds x ≡ Some e → IsFoundAs ds x e
found [] x e h = absurd cc
found (d ∷ ds) x e h = by (bytes_eq d.name x) refl (found ds x e) h
  where
    by : (b : Bool) → bytes_eq d.name x ≡ b → (declared ds x ≡ Some e → IsFoundAs ds x e) → cond b (Some d) (declared ds x) ≡ Some e → IsFoundAs (d ∷ ds) x e
    by true q more h =
        let same : d ≡ e = cc in
        record { among = subst (Contains (d ∷ ds)) same (here d ds); name = sym (ap (λ (f : Declaration). f.name) same) ∙ (bytes_eq-Decides d.name x).0 q }
    by false q more h = let k = more h in record { among = there d ds e k.among; name = k.name }

pub not_declared : (ds : List Declaration) (x : List ℕ) (e : Declaration) → declared ds x ≡ None → Contains ds e → e.name ≡ x → ⊥
not_declared [] x e h c n = nowhere e c
not_declared (d ∷ ds) x e h c n = by (bytes_eq d.name x) refl (not_declared ds x e) h (cases_of d ds e c)
  where
    by : (b : Bool) → bytes_eq d.name x ≡ b → (declared ds x ≡ None → Contains ds e → e.name ≡ x → ⊥) → cond b (Some d) (declared ds x) ≡ None → (d ≡ e) ⊎ Contains ds e → ⊥
    by true q more h k = cc
    by false q more h (inl s) =
        let yes = (bytes_eq-Decides d.name x).1 (ap (λ (f : Declaration). f.name) s ∙ n) in
        cc
    by false q more h (inr k) = more h k n

-- in byte order no name stands twice
apart : (x y : List ℕ) → slice_cmp nat_cmp x y ≡ Less → bytes_eq x y ≡ false
apart x y h = sym (is_eq-slice_cmp x y) ∙ ap is_eq h

pub once : (ds : List Declaration) (e : Declaration) → IsInByteOrder (names ds) → Contains ds e → declared ds e.name ≡ Some e
once [] e o c = absurd (nowhere e c)
once (d ∷ ds) e o c = by (once ds e o.1) (cases_of d ds e c)
  where
    here_is : (b : Bool) → b ≡ true → cond b (Some d) (declared ds d.name) ≡ Some d
    here_is true q = refl
    here_is false q = absurd cc

    there_is : (b : Bool) → b ≡ false → declared ds e.name ≡ Some e → cond b (Some d) (declared ds e.name) ≡ Some e
    there_is true q h = absurd cc
    there_is false q h = h

    by : (Contains ds e → declared ds e.name ≡ Some e) → (d ≡ e) ⊎ Contains ds e → declared (d ∷ ds) e.name ≡ Some e
    by more (inl s) = subst (λ (f : Declaration). declared (d ∷ ds) f.name ≡ Some f) s (here_is (bytes_eq d.name d.name) ((bytes_eq-Decides d.name d.name).1 refl))
    by more (inr k) =
        there_is (bytes_eq d.name e.name)
        (apart d.name e.name (all_at (λ (f : Declaration). slice_cmp nat_cmp d.name f.name ≡ Less) ds e (all_of_map (λ (f : Declaration). f.name) (λ y. slice_cmp nat_cmp d.name y ≡ Less) ds o.0) k))
        (more k)

-- what holds of each declaration holds of the one that is found
pub each_found : (P : Declaration → Type 0) (ds : List Declaration) → AllByRecursion P ds → (x : List ℕ) (e : Declaration) → declared ds x ≡ Some e → P e
each_found P ds h x e f = all_at P ds e h (found ds x e f).among
