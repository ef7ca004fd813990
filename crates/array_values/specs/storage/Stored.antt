-- The store of a program's names.
use Rattle.std.specs.Prelude.{List}
use Rattle.meaning.specs.Store.{Store}
use Rattle.array_values.specs.declared.storage.slots.Slot.{Slot}
use Rattle.array_values.specs.declared.storage.storage.Storage.{Storage}
use Rattle.array_values.specs.storage.Slots.{store_among}

abbrev pub slots_in : Storage → List Slot
slots_in s = s.slots.items

abbrev pub store_in : Storage → Store
store_in s = store_among s.slots.items
