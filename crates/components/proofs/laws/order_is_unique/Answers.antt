use Rattle.components.proofs.Unique as unique
use Rattle.components.proofs.laws.order_is_unique.Goals as goal

pub returns : goal.returns
returns c = λ n pairs others cs ds same o p. unique.order_is_unique pairs others same n cs ds o p
