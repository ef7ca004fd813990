use Rattle.meaning_laws.proofs.arrays.Elements.{element_comes_from_cells_read}
use Rattle.meaning_laws.proofs.arrays.Sections.{cells_by_position, element_of_section, number_of_triplet}
use Rattle.meaning_laws.proofs.arrays.array_elements.Goals as goal

pub returns-clause-read : goal.returns-clause-read
returns-clause-read c = element_comes_from_cells_read

pub returns-clause-cells : goal.returns-clause-cells
returns-clause-cells c = cells_by_position

pub returns-clause-section : goal.returns-clause-section
returns-clause-section c = element_of_section

pub returns-clause-triplet : goal.returns-clause-triplet
returns-clause-triplet c = number_of_triplet
