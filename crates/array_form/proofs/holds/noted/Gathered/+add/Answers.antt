use Rattle.std.proofs.Common.{◌≡◌, ◌∷◌, rules}
use Rattle.nest.specs.View.{nest_of}
use Rattle.array_form.proofs.holds.NotedLaws.{gathered_more}
use Rattle.array_form.proofs.holds.noted.Gathered.+add.Goals as goal

pub returns : goal.returns
returns t c =
    let whole : c.args.items.now ≡ c.in-Some.first.now ∷ c.in-Some.rest.now = search rules in
    gathered_more (nest_of c.args.nest.now) c.args.loops.now c.args.items.now c.in-Some.rest.now c.in-Some.first.now c.args.self.now c.add_found.new.self c.add.new.self c.in_ok-found.found c.add.result whole
    c.in_ok-found.ensures c.in_ok-add_found.ensures c.add.ensures
