-- An entry of the code as a row of the contents. Assumes nothing.
use Rattle.deck.specs.Contents.{Row}
use Rattle.deck_entries.specs.declared.Entry.{Entry}

abbrev pub row_by : Entry → Row
row_by e = record { number = e.number; offset = e.offset; size = e.size; flag = e.flag; zero_byte = e.zero }
