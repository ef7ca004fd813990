-- What is known of the statements before a place.
use Rattle.std.specs.Prelude.{◌≡◌, not, List}
use Rattle.std.specs.List.{list_any, list_all}
use Rattle.f90_grammar.specs.Blocks.{Placed}
use Rattle.f90_grammar.specs.Order.{is_nothing90, is_title, is_executable90}
use Rattle.f90_blocks.specs.declared.structure.order.Passed.{Passed}

pub record IsPassed (s : Passed) (before : List Placed) : Type 0 where
  pub some : s.some ≡ not (is_nothing90 before)
  pub only_titles : s.only_titles ≡ list_all (λ (p : Placed). is_title p.form) before
  pub executable : s.executable ≡ list_any (λ (p : Placed). is_executable90 p.form) before
