-- The numbers of a list, however wide they are stored.
use Rattle.std.specs.Prelude.{ℕ, List}
use Rattle.number_list.specs.declared.list.Numbers.{Numbers}
use Rattle.number_list.specs.declared.list.Numbers.TheVariants.{Short, Long}

-- own: the numbers, of four bytes or of eight
abbrev pub numbers_of : Numbers → List ℕ
numbers_of (Short short) = short.items
numbers_of (Long long) = long.items
