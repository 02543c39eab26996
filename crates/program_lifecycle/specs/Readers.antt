-- The end of a reader.
use Rattle.std.specs.Prelude.{Bool, true, false}
use Rattle.event_pipe.specs.declared.reader.ReadEnd.{ReadEnd}
use Rattle.event_pipe.specs.declared.reader.ReadEnd.TheVariants as read_ends

abbrev pub lacked_memory : ReadEnd → Bool
lacked_memory read_ends.NoMemory = true
lacked_memory end = false
