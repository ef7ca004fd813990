-- Stores that hold one program and another, and stores that agree.
use Rattle.std.proofs.Common.{◌≡◌, refl, sym, subst, ◌∙◌, ◌⊎◌, inl, inr, ℕ, Bool, true, false, cond, Option, Some, None, IfSome, List, [], ◌∷◌, map, Contains}
use Rattle.std.specs.Str.{bytes_eq}
use Rattle.std.proofs.lemmas.Slice.Eq.{bytes_eq-Decides}
use Rattle.tree.specs.OperationFaults.{kind_of}
use Rattle.tree.specs.Plain.{Declaration}
use Rattle.tree.specs.declared.ops.Value.{Value}
use Rattle.tree.specs.declared.ops.Value.TheVariants.{Int, Truth}
use Rattle.meaning.specs.Dialect.{Dialect}
use Rattle.meaning.specs.Store.{nought_like}
use Rattle.meaning.specs.Typed.{declared}
use Rattle.meaning.specs.Holding.{HasBounds, IsStorable}
use Rattle.meaning_laws.specs.profiles.Stores.{StoreHoldsFewer, HeldStoresAgree}
use Rattle.meaning_laws.proofs.profiles.Lists.{nowhere, cases_of}
use Rattle.meaning_laws.proofs.profiles.Programs.{kept_declaration}

-- ---- fewer names

fewer : (P : Declaration → Type 0) (o q : Option Declaration) → ((e : Declaration) → o ≡ Some e → q ≡ Some e) → IfSome q P → IfSome o P
fewer P None q f h = tt
fewer P (Some e) q f h = subst (λ r. IfSome r P) (f e refl) h

pub store_holds_fewer : StoreHoldsFewer
store_holds_fewer lang p es s a h = record {
  bounds = λ x. fewer (λ (e : Declaration). HasBounds e.extent (s.bounds x)) (declared p.declarations x) (declared es x) (kept_declaration p.declarations es a x) (h.bounds x);
  kinds = λ c. fewer (λ (e : Declaration). IsStorable lang e.kind (s.held c)) (declared p.declarations c.name) (declared es c.name) (kept_declaration p.declarations es a c.name) (h.kinds c);
}

-- ---- agreement

alike : (v w : Value) → kind_of v ≡ kind_of w → nought_like v ≡ nought_like w
alike (Int a) (Int b) e = refl
alike (Truth a) (Truth b) e = refl
alike (Int a) (Truth b) e = absurd cc
alike (Truth a) (Int b) e = absurd cc

both_kinds : (lang : Dialect) (ds : List Declaration) (x : List ℕ) (v w : Value) → Contains (map (λ (e : Declaration). e.name) ds) x
    → IfSome (declared ds x) (λ (e : Declaration). IsStorable lang e.kind v) → IfSome (declared ds x) (λ (e : Declaration). IsStorable lang e.kind w) → kind_of v ≡ kind_of w
both_kinds lang [] x v w c h g = absurd (nowhere x c)
both_kinds lang (d ∷ ds) x v w c h g = by (bytes_eq d.name x) refl (both_kinds lang ds x v w) (cases_of d.name (map (λ (e : Declaration). e.name) ds) x c) h g
  where
    by : (b : Bool) → bytes_eq d.name x ≡ b
        → (Contains (map (λ (e : Declaration). e.name) ds) x → IfSome (declared ds x) (λ (e : Declaration). IsStorable lang e.kind v) → IfSome (declared ds x) (λ (e : Declaration). IsStorable lang e.kind w) → kind_of v ≡ kind_of w)
        → (d.name ≡ x) ⊎ Contains (map (λ (e : Declaration). e.name) ds) x
        → IfSome (cond b (Some d) (declared ds x)) (λ (e : Declaration). IsStorable lang e.kind v) → IfSome (cond b (Some d) (declared ds x)) (λ (e : Declaration). IsStorable lang e.kind w) → kind_of v ≡ kind_of w
    by true q more k h g = h.kind ∙ sym g.kind
    by false q more (inl e) h g = absurd (let yes = (bytes_eq-Decides d.name x).1 e in cc)
    by false q more (inr k) h g = more k h g

pub held_stores_agree : HeldStoresAgree
held_stores_agree lang p s t h g b v = record {
  bounds = b;
  held = v;
  kinds = λ c among. alike (s.held c) (t.held c) (both_kinds lang p.declarations c.name (s.held c) (t.held c) among (h.kinds c) (g.kinds c));
}
