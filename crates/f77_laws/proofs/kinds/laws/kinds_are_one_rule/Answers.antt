use Rattle.f77_laws.proofs.kinds.Texts.{one_rule_of_kinds, same_kinds, one_rule_of_read}
use Rattle.f77_laws.proofs.kinds.laws.kinds_are_one_rule.Goals as goal

pub returns-clause-whole : goal.returns-clause-whole
returns-clause-whole c = one_rule_of_kinds

pub returns-clause-same : goal.returns-clause-same
returns-clause-same c = same_kinds

pub returns-clause-read : goal.returns-clause-read
returns-clause-read c = one_rule_of_read
