-- The events that may come.
use Rattle.std.specs.Prelude.{Bool, true, false, not, ◌&&◌, ◌||◌}
use Rattle.line_io.specs.Event.{Event, is_line}
use Rattle.line_io.specs.Event as events
use Rattle.protocol_tokens.specs.Quit.{is_quit}
use Rattle.adapter_core.specs.declared.ends.Ends.{Ends}

-- The event may come: Open is the first event and only the first, no event of a side follows that
-- side's end, no side is lost twice, and a line has at most `PEER_LINE` bytes and no line feed.
abbrev pub may : Ends → Event → Bool
may ends events.Open = not ends.opened
may ends (events.Iface line) = ends.opened && not ends.iface && is_line line
may ends events.IfaceLong = ends.opened && not ends.iface
may ends events.IfaceEnd = ends.opened && not ends.iface
may ends events.IfaceLost = ends.opened && not ends.iface && not ends.iface_lost
may ends (events.Engine line) = ends.opened && not ends.engine && is_line line
may ends events.EngineLong = ends.opened && not ends.engine
may ends events.EngineEnd = ends.opened && not ends.engine
may ends events.EngineLost = ends.opened && not ends.engine && not ends.engine_lost

abbrev pub ends_after : Ends → Event → Ends
ends_after ends events.Open = record ends { opened = true }
ends_after ends (events.Iface line) = record ends {
  iface = ends.iface || is_quit line;
  closed = ends.closed || is_quit line;
}
ends_after ends events.IfaceEnd = record ends { iface = true; closed = true }
ends_after ends events.IfaceLost = record ends { iface_lost = true; closed = true }
ends_after ends events.EngineEnd = record ends { engine = true }
ends_after ends events.EngineLost = record ends { engine_lost = true }
ends_after ends e = ends

abbrev pub is_open : Event → Bool
is_open events.Open = true
is_open e = false

abbrev pub at_start : Ends
at_start = record {
  opened = false;
  iface = false;
  engine = false;
  iface_lost = false;
  engine_lost = false;
  closed = false;
}

-- both sides have ended
abbrev pub are_both_ended : Ends → Bool
are_both_ended ends = ends.iface && ends.engine
