-- The states of a reader of predicates.
use Rattle.find_words.specs.Reading.{State}
use Rattle.find_words.specs.declared.reading.Reader.{Reader}

abbrev pub state_of : Reader → State
state_of reader = record { due = reader.due; depth = reader.depth; built = reader.builder }
