-- The refusal of two books.
use Rattle.std.specs.Prelude.{◌≡◌, ℕ, List}
use Rattle.beet_two_books.specs.declared.agreeing.MapFault.{MapFault}
use Rattle.beet_two_books.specs.declared.agreeing.MapFault.TheVariants.{OutOfMemory as MemoryOut}
use Rattle.beet_errand.specs.Fetches.{Refuses}
use Rattle.beet_errand.specs.declared.answer.OwnRefusal.TheVariants.{OfWorlds}
use Rattle.beet_errand.specs.declared.answer.Refusal.TheVariants.{Own}
use Rattle.beet_errand.specs.declared.answer.Stop.{Stop}
use Rattle.beet_errand.specs.declared.answer.Stop.TheVariants.{OutOfMemory}
use Rattle.beet_book_differences.specs.Differences.{refused_text}

-- books are refused by this line for the fault; want of memory has none
abbrev pub IsLineOf : MapFault → List ℕ → Type 0
IsLineOf MemoryOut text = ⊥
IsLineOf fault text = text ≡ refused_text fault

-- two books are refused by the line of the fault, unless memory ran out
abbrev pub TellsRefusal : MapFault → Stop → Type 0
TellsRefusal MemoryOut stop = stop ≡ OutOfMemory
TellsRefusal fault stop = Refuses (Own OfWorlds) (refused_text fault) stop
