-- All laws of lawful traces.
use Rattle.policy_rules.specs.declared.setting_rules.settings.Settings.{Settings}
use Rattle.adapter_core.proofs.Alone.{apart_from_engine, desk_is_alone, replies_are_alone}
use Rattle.adapter_core.proofs.Ended.{silent_to_engine, silent_to_iface}
use Rattle.adapter_core.proofs.Refused.{nothing_changes}
use Rattle.adapter_core.proofs.Shown.{shown, once}
use Rattle.adapter_core.proofs.Unique.{unique}
use Rattle.trace_laws.specs.Laws.{HasLaws}
use Rattle.trace_laws.proofs.Asked.{last_stands, searches_have}
use Rattle.trace_laws.proofs.Dialogues.{stop_once}
use Rattle.trace_laws.proofs.EarlyAnswers.{come_in_time, refused_change_nothing}
use Rattle.trace_laws.proofs.EarlyWaiting.{early_wait}
use Rattle.trace_laws.proofs.FirstAndLast.{uci_first, quit_last}
use Rattle.trace_laws.proofs.Fences.{searches_fenced, stopped_unfenced}
use Rattle.trace_laws.proofs.Heard as heard
use Rattle.trace_laws.proofs.Places.{idle_gets_them, search_gets_stop, ponder_gets_hit, gone_gets_nothing, go_follows_position}
use Rattle.trace_laws.proofs.Losers.{losers_are}
use Rattle.trace_laws.proofs.PlainTexts.{features_plain}
use Rattle.trace_laws.proofs.Pongs.{pings_have_pongs, pongs_wait, none_is_held}
use Rattle.trace_laws.proofs.Reached.{exist, may_come, within_limits}
use Rattle.trace_laws.proofs.Resigning.{gone_owes, gone_gives_up, games_end_aloud, resigns_once}
use Rattle.trace_laws.proofs.Searched.{searches_are, moves_answer}
use Rattle.trace_laws.proofs.Shown.{show_once}
use Rattle.trace_laws.proofs.Steadily as steadily

pub hold : (o : Settings) → HasLaws o
hold o = record {
  one_dialogue = unique o;
  exists = exist o;
  may_come = may_come o;
  shown_in_time = shown o;
  shown_once = once o;
  refused_changes_nothing = nothing_changes o;
  desk_alone = desk_is_alone o;
  apart_from_engine = apart_from_engine o;
  replies_alone = replies_are_alone o;
  engine_on_wire = heard.engine_on_wire o;
  ends_on_wire = heard.ends_on_wire o;
  idle_gets_them = idle_gets_them o;
  search_gets_stop = search_gets_stop o;
  ponder_gets_hit = ponder_gets_hit o;
  gone_gets_nothing = gone_gets_nothing o;
  go_follows_position = go_follows_position o;
  silent_to_iface = silent_to_iface o;
  silent_to_engine = silent_to_engine o;
  stops_once = stop_once o;
  searches_show_once = show_once o;
  searches_serve = steadily.serve o;
  searches_fenced = searches_fenced o;
  stopped_unfenced = stopped_unfenced o;
  pings_have_pongs = pings_have_pongs o;
  pongs_wait = pongs_wait o;
  no_ping_held = none_is_held o;
  last_asked_stands = last_stands o;
  searches_have_settings = searches_have o;
  uci_first = uci_first o;
  quit_last = quit_last o;
  searches_are_the_desks = searches_are o;
  moves_answer_the_desk = moves_answer o;
  early_lines_wait = early_wait o;
  early_lines_in_time = come_in_time o;
  refused_early_lines = refused_change_nothing o;
  gone_owes_nothing = gone_owes o;
  gone_gives_up = gone_gives_up o;
  games_end_aloud = games_end_aloud o;
  resigns_once = resigns_once o;
  losers_are_the_engines = losers_are o;
  features_plain = features_plain o;
  within_limits = within_limits o;
}
