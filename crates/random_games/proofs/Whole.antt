-- The parts of a drill make a drill.
use Rattle.std.proofs.Common.{◌≡◌, ℕ, List, [], ◌∷◌, ◌++◌, refl, ap, subst, ◌∙◌}
use Rattle.line_io.specs.Event.{Open}
use Rattle.fen_text.specs.Written.{position_fen}
use Rattle.game_record.specs.Game.{current_position}
use Rattle.policy_rules.specs.SettingRules.Policy.{usual}
use Rattle.adapter_core.specs.Represents.{Represents}
use Rattle.random_games.specs.declared.round.Drill.{Drill}
use Rattle.random_games.specs.declared.tally.Tally.{Tally}
use Rattle.random_games.specs.Rounds.{Drill as AnyDrill, Rounds, first_drill, greeting_events, preparation, closing_events}
use Rattle.random_games.specs.Tally.{nothing, drill_report_line}
use Rattle.random_games.specs.Played.{Drills}
use Rattle.random_games.specs.Sent.{DrillSession, Sent}
use Rattle.random_games.specs.Stood.{stand_of, RoundsPlayed}
use Rattle.random_games.proofs.Sending.{Traced, traced, sent_both}

pub drilled : (number count : ℕ) (fresh greeted closed : DrillSession) (ready played : Drill) (line : List ℕ) → Represents usual fresh.core [] → fresh.tally ≡ nothing
    → Sent fresh greeted (Open ∷ greeting_events) → Sent greeted ready.session preparation → stand_of ready ≡ first_drill number → RoundsPlayed count ready played → Sent played.session closed closing_events
    → line ≡ drill_report_line number count closed.tally (position_fen (current_position played.game)) → Drills number count line
drilled number count fresh greeted closed ready played line stands none hello prepares stand r ends is =
    let rest = r.events ++ closing_events in
    let all = sent_both fresh greeted closed (Open ∷ greeting_events) (preparation ++ rest) hello (sent_both greeted ready.session closed preparation rest prepares (sent_both ready.session played.session closed r.events closing_events r.sent ends)) in
    let start : Traced fresh [] = record { trace = []; lawful = tt; stands = stands; events_are = refl; tally_is = none } in
    let t = traced fresh closed [] (Open ∷ (greeting_events ++ (preparation ++ rest))) start all in
    record {
      rounds = r.events;
      last = stand_of played;
      plays = subst (λ (s : AnyDrill). Rounds count s r.events (stand_of played)) stand r.rounds;
      trace = t.trace;
      lawful = t.lawful;
      events_are = t.events_are;
      line_is = is ∙ ap (λ (k : Tally). drill_report_line number count k (position_fen (current_position played.game))) t.tally_is;
    }
