use Rattle.std.proofs.Common.{◌≡◌, true, false, is_some, rules}
use Rattle.f90_names.proofs.kinds.OfDeclarations.EntryLaws.{known_again, known_more}
use Rattle.f90_names.proofs.kinds.declarations.names.Names.declare.Goals as goal

pub returns-then-is_some : goal.returns-then-is_some
returns-then-is_some c =
    let e : is_some c.find.result ≡ true = first_of (cc, search rules) in
    known_again c.args.self.now c.args.name c.args.declared (rw c.find.ensures at e)

pub returns : goal.returns
returns c =
    let e : is_some c.find.result ≡ false = first_of (cc, search rules) in
    known_more c.args.self.now c.add.new.self c.args.name c.args.declared (rw c.find.ensures at e) c.in_ok-add.ensures
