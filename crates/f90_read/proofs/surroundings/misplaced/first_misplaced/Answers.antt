use Rattle.f90_read.proofs.OfSurroundings.FoundLaws.{first_unsuited}
use Rattle.f90_read.proofs.surroundings.misplaced.first_misplaced.Goals as goal

pub returns : goal.returns
returns c ps ds function a n p w =
    first_unsuited c.args.names.now ds function n p ps c.in_ok-misuse.misuse c.in_ok-jump.jump c.earlier.result c.earlier.ensures (c.in_ok-misuse.ensures ps a)
    (c.in_ok-jump.ensures ps a) w
