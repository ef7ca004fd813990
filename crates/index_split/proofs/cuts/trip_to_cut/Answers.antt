use Rattle.std.proofs.Common.{◌≡◌, sym, subst, ℕ, ℤ, pos, rules, to_z, of_z}
use Rattle.std.specs.Prelude.{◌↔◌, FitsSigned}
use Rattle.std.proofs.lemmas.Int.{to_z-of_z}
use mir.Syntax.{w64}
use Rattle.index_split.specs.Points.{TurnsAlways}
use Rattle.nest.specs.View.{loop_of, nest_of}
use Rattle.index_split.proofs.CutLaws.{considered_by, not_constant, unconsidered}
use Rattle.index_split.proofs.cuts.trip_to_cut.Goals as goal

pub returns-in-None : goal.returns-in-None
returns-in-None c = unconsidered (nest_of c.args.nest.now) c.in-None.ensures

pub returns-in-None-constant_trip : goal.returns-in-None-constant_trip
returns-in-None-constant_trip c =
    not_constant (nest_of c.args.nest.now) (loop_of c.in-Some.turns.now) c.in-Some.ensures c.in-None-constant_trip.ensures

pub returns-in-Some-constant_trip : goal.returns-in-Some-constant_trip
returns-in-Some-constant_trip c =
    let trip = c.in-Some-constant_trip.trip in
    let l = loop_of c.in-Some.turns.now in
    let fits : FitsSigned w64 trip = search rules in
    considered_by (nest_of c.args.nest.now) l c.in-Some.ensures (to_z w64 (of_z w64 trip)) c.within.result
    (subst (λ (z : ℤ). (t : ℕ) → (z ≡ pos t) ↔ TurnsAlways l t) (sym (to_z-of_z w64 trip fits)) c.in-Some-constant_trip.ensures) c.within.ensures
