use Rattle.f77_laws.proofs.RisingLines as lines
use Rattle.f77_laws.proofs.laws.rising_lines_are_few.Goals as goal

pub returns : goal.returns
returns c = lines.rising_lines_are_few
