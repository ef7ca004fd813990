-- The nests that answers list with a graph.
use Rattle.std.proofs.Common.{◌≡◌, ◌⊎◌, inl, inr, sym, subst, List, [], ◌∷◌, ◌++◌, Contains}
use Rattle.std.proofs.lemmas.List.Elements.{Contains-append_cases, Contains-append_left, Contains-append_right}
use Rattle.dependence_graph.specs.declared.graphs.Graph.{Graph}
use Rattle.emission.specs.emission_pieces.Pieces.{Pieces}
use Rattle.meaning_laws.proofs.profiles.Lists.{cases_of, here, nowhere, there}
use Rattle.nest.specs.Plain.{Nest}
use Rattle.listing.specs.programs.Listing.{ListedNest}
use Rattle.translation.specs.nest_blocks.Answers.{nests_by}
use Rattle.translation.specs.nest_blocks.LoopAnswers.{LoopAnswer, Kept, Translated, nest_by}

abbrev listed_as : Nest → Nest → Graph → ListedNest
listed_as n m g = record { found = n; normal = m; graph = g }

-- it is listed by one of the answers
pub record IsByAnswer (answers : List LoopAnswer) (t : ListedNest) : Type 0 where
  pub pieces : Pieces
  pub among : Contains answers (Translated t.found t.normal t.graph pieces)

by_one : (a : LoopAnswer) (rest : List LoopAnswer) (t : ListedNest) → Contains (nest_by a) t → IsByAnswer (a ∷ rest) t
by_one (Translated n m g ps) rest t c = by (cases_of (listed_as n m g) [] t c)
  where
    of_own : IsByAnswer (Translated n m g ps ∷ rest) (listed_as n m g)
    of_own = record { pieces = ps; among = here (Translated n m g ps) rest }

    by : (listed_as n m g ≡ t) ⊎ Contains [] t → IsByAnswer (Translated n m g ps ∷ rest) t
    by (inl e) = subst (IsByAnswer (Translated n m g ps ∷ rest)) e of_own
    by (inr d) = absurd (nowhere t d)
by_one (Kept line r) rest t c = absurd (nowhere t c)

pub by_answer : (answers : List LoopAnswer) (t : ListedNest) → Contains (nests_by answers) t → IsByAnswer answers t
by_answer [] t c = absurd (nowhere t c)
by_answer (a ∷ rest) t c = by (Contains-append_cases (nest_by a) (nests_by rest) t c) (by_answer rest t)
  where
    later : IsByAnswer rest t → IsByAnswer (a ∷ rest) t
    later h = record { pieces = h.pieces; among = there a rest (Translated t.found t.normal t.graph h.pieces) h.among }

    by : Contains (nest_by a) t ⊎ Contains (nests_by rest) t → (Contains (nests_by rest) t → IsByAnswer rest t)
        → IsByAnswer (a ∷ rest) t
    by (inl d) more = by_one a rest t d
    by (inr d) more = later (more d)

pub among_listed : (answers : List LoopAnswer) (n m : Nest) (g : Graph) (ps : Pieces)
    → Contains answers (Translated n m g ps) → Contains (nests_by answers) (record { found = n; normal = m; graph = g })
among_listed [] n m g ps c = absurd (nowhere (Translated n m g ps) c)
among_listed (a ∷ rest) n m g ps c = by (cases_of a rest (Translated n m g ps) c) (among_listed rest n m g ps)
  where
    by : (a ≡ Translated n m g ps) ⊎ Contains rest (Translated n m g ps)
        → (Contains rest (Translated n m g ps) → Contains (nests_by rest) (listed_as n m g))
        → Contains (nest_by a ++ nests_by rest) (listed_as n m g)
    by (inl e) more =
        Contains-append_left (nest_by a) (nests_by rest) (listed_as n m g)
        (subst (λ (b : LoopAnswer). Contains (nest_by b) (listed_as n m g)) (sym e) (here (listed_as n m g) []))
    by (inr d) more = Contains-append_right (nest_by a) (nests_by rest) (listed_as n m g) (more d)
