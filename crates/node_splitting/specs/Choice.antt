-- Which references may be read from copies, by the dependence graph (Allen and Kennedy, "Optimizing Compilers for
-- Modern Architectures", section 5.5, node splitting): an antidependence that holds a component together is cut where
-- what is read is copied before it is overwritten, unless it comes from within the component itself.
use Rattle.std.specs.Prelude.{◌≡◌, ℕ, ◌==◌, Bool, true, false, not, ◌&&◌, List, map}
use Rattle.std.specs.List.{filter, list_any}
use Rattle.components.specs.Lists.{IsMember}
use Rattle.components.specs.Reachability.{AreMutual}
use Rattle.dependence_graph.specs.declared.graphs.Dep.{Dep}
use Rattle.dependence_graph.specs.declared.graphs.Dep.TheVariants.{Flow, Anti, Output}
use Rattle.dependence_graph.specs.declared.graphs.Edge.{Edge}
use Rattle.dependence_graph.specs.declared.graphs.Place.{Place}

-- ---- what is said of a reference

-- in the outermost loop all edges count
abbrev pub pairs_of : List Edge → List (ℕ × ℕ)
pairs_of es = map (λ (e : Edge). (e.from.stmt, e.to.stmt)) es

-- two statements of one component of the outermost loop
abbrev pub AreInOneComponent : List Edge → ℕ → ℕ → Type 0
AreInOneComponent es a b = AreMutual (pairs_of es) a b

-- an antidependence leads from it to another statement of its component
pub record IsOverwritten (es : List Edge) (p : Place) : Type 0 where
  pub edge : Edge
  pub is : IsMember edge es
  pub kind : edge.kind ≡ Anti
  pub from : edge.from ≡ p
  pub other : ¬ (edge.to.stmt ≡ p.stmt)
  pub together : AreInOneComponent es p.stmt edge.to.stmt

-- a flow dependence leads to it from a statement of its component
pub record IsFed (es : List Edge) (p : Place) : Type 0 where
  pub edge : Edge
  pub is : IsMember edge es
  pub kind : edge.kind ≡ Flow
  pub to : edge.to ≡ p
  pub together : AreInOneComponent es edge.from.stmt p.stmt

pub record MayBeCopied (es : List Edge) (p : Place) : Type 0 where
  pub overwritten : IsOverwritten es p
  pub unfed : ¬ IsFed es p

-- ---- the same by the components of the graph

abbrev pub has : List ℕ → ℕ → Bool
has c a = list_any (λ b. b == a) c

abbrev pub are_together : List (List ℕ) → ℕ → ℕ → Bool
are_together classes a b = list_any (λ c. has c a && has c b) classes

abbrev pub is_anti : Dep → Bool
is_anti Flow = false
is_anti Anti = true
is_anti Output = false

abbrev pub is_flow : Dep → Bool
is_flow Flow = true
is_flow Anti = false
is_flow Output = false

abbrev pub overwrites : List (List ℕ) → Edge → Bool
overwrites classes e =
    is_anti e.kind && (not (e.to.stmt == e.from.stmt) && are_together classes e.from.stmt e.to.stmt)

abbrev pub feeds : List (List ℕ) → Edge → Bool
feeds classes e = is_flow e.kind && are_together classes e.from.stmt e.to.stmt

-- the references from which the first edges lead, and those to which the second ones do
abbrev pub overwritten_in : List (List ℕ) → List Edge → List Place
overwritten_in classes es = map (λ (e : Edge). e.from) (filter (overwrites classes) es)

abbrev pub fed_in : List (List ℕ) → List Edge → List Place
fed_in classes es = map (λ (e : Edge). e.to) (filter (feeds classes) es)

abbrev pub is_place : Place → Place → Bool
is_place p q = (q.stmt == p.stmt) && (q.at == p.at)

abbrev pub is_listed : List Place → Place → Bool
is_listed ps p = list_any (is_place p) ps
