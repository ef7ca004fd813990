use Rattle.meaning_laws.proofs.arrays.Scalars.{scalar_is_its_element}
use Rattle.meaning_laws.proofs.arrays.Structure.{element_of_unary, element_of_operation, element_of_call}
use Rattle.meaning_laws.proofs.arrays.elements_by_structure.Goals as goal

pub returns-clause-scalar : goal.returns-clause-scalar
returns-clause-scalar c = scalar_is_its_element

pub returns-clause-unary : goal.returns-clause-unary
returns-clause-unary c = element_of_unary

pub returns-clause-operation : goal.returns-clause-operation
returns-clause-operation c = element_of_operation

pub returns-clause-call : goal.returns-clause-call
returns-clause-call c = element_of_call
