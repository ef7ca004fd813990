use Rattle.f90_read.proofs.TextLaws.{ok_read, program_read, refused_text, only_read, only_refused}
use Rattle.f90_read.proofs.texts.read90.Goals as goal

pub returns-clause-program : goal.returns-clause-program
returns-clause-program c = program_read c.args.text.now c.read_text.result c.read_text.ensures

pub returns-clause-ok : goal.returns-clause-ok
returns-clause-ok c = ok_read c.args.text.now c.read_text.result c.read_text.ensures

pub returns-clause-refused : goal.returns-clause-refused
returns-clause-refused c = λ r e. refused_text c.args.text.now c.read_text.result r c.read_text.ensures e

pub returns-clause-only_read : goal.returns-clause-only_read
returns-clause-only_read c = λ p h. only_read c.args.text.now c.read_text.result p c.read_text.ensures h

pub returns-clause-only_refused : goal.returns-clause-only_refused
returns-clause-only_refused c = λ r h. only_refused c.args.text.now c.read_text.result r c.read_text.ensures h
