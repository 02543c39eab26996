-- The change that one step of a core makes to its game.
use Rattle.std.proofs.Common.{◌≡◌, ◌∷◌, List, Bool, Result as Answer, Ok, Err, refl, sym, ap, subst}
use Rattle.line_io.specs.Event.{Event}
use Rattle.chess_board.specs.Position.{Position}
use Rattle.chess_board.specs.Play.{start_position}
use Rattle.fen_text.specs.declared.fault.FenFault.{FenFault}
use Rattle.fen_text.specs.Fen.{position_of}
use Rattle.cecp_lines.specs.Messages.{IfaceMsg}
use Rattle.cecp_lines.specs.Messages as says
use Rattle.game_record.specs.Game.{Game, ply_of}
use Rattle.policy_rules.specs.declared.setting_rules.settings.Settings.{Settings}
use Rattle.desk_rules.specs.declared.desk.Desk.{Desk}
use Rattle.desk_rules.specs.Desk.{Situation}
use Rattle.desk_rules.specs.Lines.{desk_at_position, change}
use Rattle.desk_rules.specs.Steps.{Effect, desk_after_effect}
use Rattle.desk_rules.specs.Steps as effects
use Rattle.adapter_core.specs.Trace.{Step, state, situation_of_state, effect}
use Rattle.adapter_core.specs.Parts.{CoreParts}
use Rattle.adapter_core.specs.Represents.{Represents}
use Rattle.script_replay.specs.Playing.{StepExtends}
use Rattle.session_export.specs.Following.{GameFollows, Stays, Begins, Plays, TakesBack, IsReached}

placed : (d : Desk) (r : Answer Position FenFault) → GameFollows d.game (desk_at_position d r).game
placed d (Ok p) = Begins p refl
placed d (Err fault) = Stays refl

changes : (boot : Bool) (d : Desk) (m : IfaceMsg) → GameFollows d.game (change boot d m).game
unfolding change
changes boot d says.New = Begins start_position refl
changes boot d says.Undo = TakesBack 1 refl
changes boot d says.Remove = TakesBack 2 refl
changes boot d (says.UserMove m) = Plays (ply_of m) refl
changes boot d (says.SetBoard text) = placed d (position_of text)
changes boot d m = Stays refl

effect_changes : (h : Situation) (d : Effect) → GameFollows h.desk.game (desk_after_effect h d).game
unfolding desk_after_effect
effect_changes h (effects.Accepts m) = changes _ h.desk m
effect_changes h (effects.Shows best hint) = Plays (ply_of best) refl
effect_changes h d = Stays refl

-- the game of a core is that of each trace for which it stands
pub game_stands : (o : Settings) (core : CoreParts) (t : List Step) → Represents o core t → core.desk.game ≡ (state o t).desk.game
game_stands o core t st = ap (λ (v : CoreParts). v.desk.game) st.0

module _ (old new : CoreParts) (e : Event) (step : Step) (adds : StepExtends old new e step) (r : IsReached old) where
  pub reached_on : IsReached new
  reached_on =
      let x = adds.extends r.settings r.trace r.lawful r.stands in
      record { settings = r.settings; trace = step ∷ r.trace; lawful = x.0; stands = x.1 }

  pub follows_on : GameFollows old.desk.game new.desk.game
  follows_on =
      let x = adds.extends r.settings r.trace r.lawful r.stands in
      let s = state r.settings r.trace in
      subst (λ (g : Game). GameFollows g new.desk.game) (sym (game_stands r.settings old r.trace r.stands))
      (subst (GameFollows s.desk.game) (sym (game_stands r.settings new (step ∷ r.trace) x.1)) (effect_changes (situation_of_state s) (effect s step.event)))
