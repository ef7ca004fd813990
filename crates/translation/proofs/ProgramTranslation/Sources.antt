-- Names that are declared.
use Rattle.std.proofs.Common.{◌≡◌, ◌⊎◌, inl, inr, subst, List, [], ◌∷◌, map, Contains}
use Rattle.tree.specs.Plain.{Declaration}
use Rattle.meaning_laws.proofs.profiles.Lists.{here, there, nowhere, cases_of}

pub name_among : (ds : List Declaration) (d : Declaration) → Contains ds d → Contains (map (λ (e : Declaration). e.name) ds) d.name
name_among [] d c = absurd (nowhere d c)
name_among (e ∷ ds) d c = by (cases_of e ds d c) (name_among ds d)
  where
    by : (e ≡ d) ⊎ Contains ds d → (Contains ds d → Contains (map (λ (f : Declaration). f.name) ds) d.name) → Contains (map (λ (f : Declaration). f.name) (e ∷ ds)) d.name
    by (inl s) more = subst (λ (f : Declaration). Contains (map (λ (g : Declaration). g.name) (e ∷ ds)) f.name) s (here e.name (map (λ (f : Declaration). f.name) ds))
    by (inr i) more = there e.name (map (λ (f : Declaration). f.name) ds) d.name (more i)
