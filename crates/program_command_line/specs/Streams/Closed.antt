-- Standard streams that may be closed when the program starts.
use Rattle.std.specs.Prelude.{ℕ, Bool, not, is_some, if◌then◌else◌}
use Rattle.line_io.specs.Source.{Supplied, Received}
use Rattle.program_command_line.specs.declared.streams.if_open.IfOpen.{IfOpen}
use Rattle.program_command_line.specs.declared.streams.closed.ClosedStreams.{ClosedStreams}

-- which streams were open
abbrev pub has_input : ClosedStreams → Bool
has_input closed = not (is_some closed.input)

abbrev pub has_output : ClosedStreams → Bool
has_output closed = not (is_some closed.output)

abbrev pub has_diag : ClosedStreams → Bool
has_diag closed = not (is_some closed.diag)

abbrev pub is_stream_open : {S : Type 0} → IfOpen S → Bool
is_stream_open s = s.is_open

-- how many calls were refused
abbrev pub refusals : {S : Type 0} → IfOpen S → ℕ
refusals s = s.refusals

-- of a stream that failed so often itself
abbrev pub with_refusals : {S : Type 0} → IfOpen S → ℕ → ℕ
with_refusals s faults = if s.is_open then faults else s.refusals

-- the faults of a source or a sink that may be closed: those of its stream, or the refused calls
abbrev pub supplied_by : {S : Type 0} → (S → Supplied) → IfOpen S → Supplied
supplied_by state s = record (state s.stream) { faults = with_refusals s (state s.stream).faults }

abbrev pub received_by : {S : Type 0} → (S → Received) → IfOpen S → Received
received_by state s = record (state s.stream) { faults = with_refusals s (state s.stream).faults }
