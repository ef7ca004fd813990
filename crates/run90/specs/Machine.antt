-- The machine of a program, and the store that it has.
use Rattle.std.specs.Prelude.{◌≡◌, ◌++◌, Result, Ok, Err, Option, ℕ, List, map}
use Rattle.std.specs.Io.KnownBytes.{append_known}
use Rattle.tree.specs.declared.width.Width.{Width}
use Rattle.tree.specs.Plain.{Program}
use Rattle.tree.specs.View.{block_of, declaration_of}
use Rattle.meaning.specs.Store.{Store}
use Rattle.tree.specs.declared.lists.Memory.{Memory}
use Rattle.meaning.specs.declared.End.{End}
use Rattle.machine.specs.Endings.{ended}
use Rattle.array_values.specs.storage.Stored.{store_in}
use Rattle.array_expressions.specs.declared.transfers.unfinished.Unfinished.{Unfinished}
use Rattle.array_expressions.specs.declared.transfers.unfinished.Unfinished.TheVariants.{Left, Memory as Lacking}
use Rattle.run90.specs.declared.programs.Machine90.{Machine90}

-- the machine has the names and the statements of the program, and INTEGER is as wide
pub record IsMachineOf (w : Width) (p : Program) (m : Machine90) : Type 0 where
  pub names : map declaration_of m.decls ≡ p.declarations
  pub body : block_of m.body ≡ p.body
  pub width : m.width ≡ w

-- the store of the last run, or the opening store where there was none
abbrev pub store_left : Machine90 → Store
store_left m = store_in m.moment.storage

-- a sink has a front of a text
pub record HasFrontOf (text : List ℕ) (before now : Option (List ℕ)) : Type 0 where
  pub front : List ℕ
  pub rest : List ℕ
  pub whole : text ≡ front ++ rest
  pub taken : now ≡ append_known before front

-- how a run ended whose statements gave this answer
abbrev pub ending_of : Result (Unit {0}) Unfinished → Result End Memory
ending_of (Ok x) = Ok (ended (Ok x))
ending_of (Err (Left l)) = Ok (ended (Err l))
ending_of (Err Lacking) = Err (record {})
