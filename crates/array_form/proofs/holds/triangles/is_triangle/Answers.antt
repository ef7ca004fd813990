use Rattle.std.proofs.Common.{take, drop, length, ◌-◌, sym, subst}
use Rattle.array_form.specs.holds.Levels.{AreWithin}
use Rattle.array_form.proofs.holds.TripLaws.{among_from, rest_is, triangle_found}
use Rattle.array_form.proofs.holds.triangles.is_triangle.Goals as goal

pub is_triangle_of-requires-clause-within : goal.is_triangle_of-requires-clause-within
is_triangle_of-requires-clause-within c =
    subst (AreWithin c.args.a.now) (sym (rest_is c.as_slice.result.now c.args.a.now.loops c.args.from c.as_slice.ensures)) (among_from c.args.a.now c.args.from c.requires.from)

pub returns : goal.returns
returns c =
    triangle_found c.args.a.now c.args.from (take (length c.as_slice.result.now - c.args.from) (drop c.args.from c.as_slice.result.now)) c.is_triangle_of.result
    (rest_is c.as_slice.result.now c.args.a.now.loops c.args.from c.as_slice.ensures) c.is_triangle_of.ensures
