-- What the program keeps of an auction among five servers that is read whole.
use Rattle.beet_five_load.specs.FiveLoading.{FiveRead}
use Rattle.beet_five_load.specs.declared.whole.FiveWhole.{FiveWhole}

-- the auction that is read, by what the program keeps of it
abbrev pub read_of : FiveWhole → FiveRead
read_of whole = record { book = whole.book; words = whole.words }
