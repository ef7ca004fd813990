use Rattle.emission.proofs.nest_emission.CycleLaws.{class_given, steps_given}
use Rattle.emission.proofs.nest_emission.source.ListedNest.walks_in.Goals as goal

pub cycles-requires-clause-below : goal.cycles-requires-clause-below
cycles-requires-clause-below c =
    steps_given c.args.self.now c.requires.source c.args.class.now c.requires.inside c.args.level c.in_ok-steps.steps.items c.as_slice.result.now c.in_ok-steps.ensures c.as_slice.ensures.value

pub cycles-requires-clause-members : goal.cycles-requires-clause-members
cycles-requires-clause-members c =
    class_given c.args.self.now c.requires.source c.args.class.now c.requires.inside c.in_ok-classes.classes c.in_ok-classes.ensures
