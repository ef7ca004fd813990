-- Direction vectors with `>` in the places of `*`.
use Rattle.std.proofs.Common.{◌≡◌, suc, List, [], ◌∷◌, length, map, refl, ap, subst, inl, inr}
use Rattle.std.specs.List.{AllZip}
use Rattle.components.specs.Lists.{Each}
use Rattle.subscripts.specs.declared.affine.Dir.{Dir}
use Rattle.subscripts.specs.declared.affine.Dir.TheVariants.{Lt, Eq, Gt, Any}
use Rattle.dependence_graph.specs.nest_graph.Vectors.{Allows, StandsFor}

abbrev pub plain : Dir → Dir
plain Lt = Lt
plain Eq = Eq
plain Gt = Gt
plain Any = Gt

abbrev Differs : Dir → Type 0
Differs Lt = Unit {0}
Differs Eq = Unit {0}
Differs Gt = Unit {0}
Differs Any = ⊥

plain_is : (d : Dir) → plain d ≡ Any → ⊥
plain_is Lt = λ e. subst Differs e tt
plain_is Eq = λ e. subst Differs e tt
plain_is Gt = λ e. subst Differs e tt
plain_is Any = λ e. subst Differs e tt

allowed : (d : Dir) → Allows d (plain d)
allowed Lt = inr refl
allowed Eq = inr refl
allowed Gt = inr refl
allowed Any = inl refl

abbrev pub filled : List Dir → List Dir
filled ds = map plain ds

pub filled_length : (ds : List Dir) → length (filled ds) ≡ length ds
filled_length [] = refl
filled_length (d ∷ ds) = ap suc (filled_length ds)

filled_plain : (ds : List Dir) → Each (λ e. e ≡ Any → ⊥) (filled ds)
filled_plain [] = tt
filled_plain (d ∷ ds) = (plain_is d, filled_plain ds)

filled_allowed : (ds : List Dir) → AllZip Allows ds (filled ds)
filled_allowed [] = tt
filled_allowed (d ∷ ds) = (allowed d, filled_allowed ds)

-- a vector stands for the one with `>` for `*`
pub filled_stands : (ds : List Dir) → StandsFor ds (filled ds)
filled_stands ds = record { plain = filled_plain ds; allowed = filled_allowed ds }
