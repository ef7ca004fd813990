use Rattle.meaning_laws.proofs.profiles.StoreLaws.{store_holds_fewer, held_stores_agree}
use Rattle.meaning_laws.proofs.profiles.held_stores.Goals as goal

pub returns-clause-fewer : goal.returns-clause-fewer
returns-clause-fewer c = store_holds_fewer

pub returns-clause-agree : goal.returns-clause-agree
returns-clause-agree c = held_stores_agree
