use Rattle.closed_walks.proofs.Components.{lone_members_have_own_pairs, members_have_walks, walks_stay_in_components}
use Rattle.closed_walks.proofs.laws.walks_in_components.Goals as goal

pub returns-clause-stay : goal.returns-clause-stay
returns-clause-stay c = walks_stay_in_components

pub returns-clause-members : goal.returns-clause-members
returns-clause-members c = members_have_walks

pub returns-clause-lone : goal.returns-clause-lone
returns-clause-lone c = lone_members_have_own_pairs
