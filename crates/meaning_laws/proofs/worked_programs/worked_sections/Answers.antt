use Rattle.meaning_laws.proofs.worked_programs.Sections as worked
use Rattle.meaning_laws.proofs.worked_programs.worked_sections.Goals as goal

pub returns : goal.returns
returns c = record {
  overlap_to_the_right = worked.overlap_to_the_right;
  overlap_to_the_left = worked.overlap_to_the_left;
  reversed_in_place = worked.reversed_in_place;
  strides_on_both_sides = worked.strides_on_both_sides;
  no_elements = worked.no_elements;
  rows_and_columns = worked.rows_and_columns;
  element_named_twice = worked.element_named_twice;
}
