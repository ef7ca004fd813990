use Rattle.meaning_laws.proofs.worked_programs.Allocations as worked
use Rattle.meaning_laws.proofs.worked_programs.worked_allocations.Goals as goal

pub returns : goal.returns
returns c = record {
  allocated_twice = worked.allocated_twice;
  allocated_again = worked.allocated_again;
  extents_come_first = worked.extents_come_first;
  negative_extent = worked.negative_extent;
  not_allocated = worked.not_allocated;
  used_before_allocate = worked.used_before_allocate;
  deallocated_twice = worked.deallocated_twice;
}
