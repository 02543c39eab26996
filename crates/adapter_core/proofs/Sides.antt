-- The changes that the effects of either side make to the parts that the interface commands.
use Rattle.std.proofs.Common.{◌≡◌, ℕ, List, [], Bool, true, false, cond, ◌&&◌, ◌||◌, Option, Some, None, Result, Ok, Err, refl, sym, ap, ◌∙◌}
use Rattle.chess_board.specs.declared.board.Move.{Move}
use Rattle.chess_board.specs.Place.{legal}
use Rattle.line_io.specs.Event.{Event}
use Rattle.line_io.specs.Event as events
use Rattle.cecp_lines.specs.Messages.{IfaceMsg}
use Rattle.cecp_lines.specs.Messages as says
use Rattle.cecp_lines.specs.Reading.{message_or_fault}
use Rattle.cecp_lines.specs.declared.iface.IfaceFault.{IfaceFault}
use Rattle.cecp_lines.specs.declared.iface.IfaceFault.TheVariants as faults
use Rattle.protocol_tokens.specs.declared.kinds.GoKind.{GoKind}
use Rattle.protocol_tokens.specs.declared.kinds.GoKind.TheVariants as kinds
use Rattle.uci_lines.specs.Orders.{Order}
use Rattle.uci_lines.specs.Info.{Info}
use Rattle.uci_lines.specs.Messages.{EngineMsg}
use Rattle.uci_lines.specs.Messages as hears
use Rattle.uci_lines.specs.Engine.{answer_text, engine_message}
use Rattle.game_record.specs.Game.{Game, current_position}
use Rattle.policy_rules.specs.ScoreRules.Scores.{Score}
use Rattle.search_epochs.specs.declared.words.EngineState.{EngineState}
use Rattle.search_epochs.specs.declared.words.EngineState.TheVariants as states
use Rattle.desk_rules.specs.declared.effect.Refusal.{Refusal}
use Rattle.desk_rules.specs.declared.desk.Desk.{Desk}
use Rattle.desk_rules.specs.Desk.{Situation, is_gone, is_boot, is_getting, current}
use Rattle.desk_rules.specs.Lines.{Verdict, Refused, Accepted, Early, line_verdict, desk_at_position, change}
use Rattle.desk_rules.specs.Steps.{Effect, Nothing, LongLine, Refuses, Accepts, Defers, Names, Declares, Boots, Readies, Shows, Forfeits, Dies, classify, line_effect, engine_says, answers, shows, search_reports, desk_after_effect, answers_pings, scores_after, is_death, over_where}
use Rattle.desk_rules.proofs.Firsts.{line_booted}
use Rattle.adapter_core.specs.declared.ends.Ends.{Ends}
use Rattle.adapter_core.specs.Ends.{ends_after}
use Rattle.protocol_tokens.specs.Quit.{is_quit}
use Rattle.adapter_core.specs.Alone.{Commanded, commanded_part, is_of_iface, is_move_answer}

-- DEEDS OF THE INTERFACE

abbrev pub IsIfaceAction : Effect → Type 0
IsIfaceAction Nothing = Unit {0}
IsIfaceAction LongLine = Unit {0}
IsIfaceAction (Refuses r line) = Unit {0}
IsIfaceAction (Accepts m) = Unit {0}
IsIfaceAction (Defers line) = Unit {0}
IsIfaceAction d = ⊥

line_iface : (v : Verdict) (line : List ℕ) → IsIfaceAction (line_effect v line)
line_iface (Refused r) line = tt
line_iface (Accepted m) line = tt
line_iface Early line = tt

unless_closed : (b : Bool) (d : Effect) → IsIfaceAction d → IsIfaceAction (cond b Nothing d)
unless_closed true d i = tt
unless_closed false d i = i

pub iface_effect : (h : Situation) (held : List Order) (e : Event) → is_of_iface e ≡ true → IsIfaceAction (classify h held e)
unfolding classify
iface_effect h held (events.Iface line) i = unless_closed h.closed _ (line_iface (line_verdict h held line (message_or_fault line)) line)
iface_effect h held events.IfaceLong i = unless_closed h.closed LongLine tt
iface_effect h held events.IfaceEnd i = tt
iface_effect h held events.IfaceLost i = tt
iface_effect h held e i = cc

pub no_death : (d : Effect) → IsIfaceAction d → is_death d ≡ false
no_death Dies i = absurd i
no_death d i = refl

pub no_answer : (d : Effect) → IsIfaceAction d → is_move_answer d ≡ false
no_answer (Shows best hint) i = absurd i
no_answer (Forfeits answer) i = absurd i
no_answer d i = refl

-- WHAT STAYS WHERE NO MOVE IS SHOWN

position_hint : (d : Desk) (r : _) → d.hint ≡ None → (desk_at_position d r).hint ≡ None
position_hint d (Ok p) e = refl
position_hint d (Err fault) e = e

change_hint : (boot : Bool) (d : Desk) (m : IfaceMsg) → d.hint ≡ None → (change boot d m).hint ≡ None
unfolding change
change_hint boot d says.New e = refl
change_hint boot d (says.UserMove m) e = refl
change_hint boot d says.Undo e = refl
change_hint boot d says.Remove e = refl
change_hint boot d (says.SetBoard text) e = position_hint d _ e
change_hint boot d m e = e

pub no_hint : (h : Situation) (d : Effect) → is_move_answer d ≡ false → h.desk.hint ≡ None → (desk_after_effect h d).hint ≡ None
unfolding desk_after_effect
no_hint h (Accepts m) n e = change_hint (is_boot h.engine) h.desk m e
no_hint h (Shows best hint) n e = cc
no_hint h d n e = e

no_score : (b : Bool) (xs : List Score) → xs ≡ [] → cond b [] xs ≡ []
no_score true xs e = refl
no_score false xs e = e

pub no_scores : (h : Situation) (d : Effect) (xs : List Score) → is_move_answer d ≡ false → xs ≡ [] → scores_after h d xs ≡ []
no_scores h (Accepts m) xs n e = no_score _ xs e
no_scores h (Shows best hint) xs n e = cc
no_scores h d xs n e = e

pub still_unbooted : (h : Situation) (d : Effect) → IsIfaceAction d → h.desk.booted ≡ false → (desk_after_effect h d).booted ≡ false
unfolding desk_after_effect
still_unbooted h (Accepts m) i e = line_booted (is_boot h.engine) h.desk m ∙ e
still_unbooted h Nothing i e = e
still_unbooted h LongLine i e = e
still_unbooted h (Refuses r line) i e = e
still_unbooted h (Defers line) i e = e
still_unbooted h d i e = absurd i

-- DEEDS OF THE ENGINE

-- the effect commands nothing
abbrev pub IsQuietAction : Effect → Type 0
IsQuietAction (Accepts m) = ⊥
IsQuietAction (Shows best hint) = ⊥
IsQuietAction (Forfeits answer) = ⊥
IsQuietAction Dies = ⊥
IsQuietAction d = Unit {0}

pub quiet_desk : (h : Situation) (d : Effect) → IsQuietAction d → commanded_part (desk_after_effect h d) ≡ commanded_part h.desk
unfolding desk_after_effect
quiet_desk h (Accepts m) q = absurd q
quiet_desk h (Shows best hint) q = absurd q
quiet_desk h (Forfeits answer) q = absurd q
quiet_desk h Dies q = absurd q
quiet_desk h d q = refl

quiet_where : (b : Bool) (d : Effect) → IsQuietAction d → IsQuietAction (cond b d Nothing)
quiet_where true d q = q
quiet_where false d q = tt

quiet_thinks : (k : Option GoKind) (facts : Info) → IsQuietAction (search_reports k facts)
quiet_thinks None facts = tt
quiet_thinks (Some k) facts = tt

quiet_shows : (g : Game) (line : List ℕ) (best hint : Option Move) → is_move_answer (shows g line best hint) ≡ false → IsQuietAction (shows g line best hint)
quiet_shows g line None hint n = cc
quiet_shows g line (Some m) hint n = by_legal (legal (current_position g) m) n where
  by_legal : (b : Bool) → is_move_answer (cond b (Shows m hint) (Forfeits (answer_text line))) ≡ false → IsQuietAction (cond b (Shows m hint) (Forfeits (answer_text line)))
  by_legal true n = cc
  by_legal false n = cc

quiet_answers : (x : EngineState) (g : Game) (line : List ℕ) (best hint : Option Move) → is_move_answer (answers x g line best hint) ≡ false → IsQuietAction (answers x g line best hint)
quiet_answers (states.Search kinds.Move false stopped) g line best hint n = quiet_shows g line best hint n
quiet_answers x g line best hint n = tt

quiet_says : (h : Situation) (line : List ℕ) (m : EngineMsg) → is_move_answer (engine_says h line m) ≡ false → IsQuietAction (engine_says h line m)
quiet_says h line (hears.Best best hint) n = quiet_answers h.engine h.desk.game line best hint n
quiet_says h line (hears.Name text) n = quiet_where (is_boot h.engine) (Names text) tt
quiet_says h line (hears.OptionLine name shape) n = quiet_where (is_boot h.engine) (Declares name shape) tt
quiet_says h line hears.UciOk n = quiet_where (is_boot h.engine) Boots tt
quiet_says h line hears.ReadyOk n = quiet_where (is_getting h.engine) Readies tt
quiet_says h line (hears.Info facts) n = quiet_thinks (current h.engine) facts
quiet_says h line hears.Nothing n = tt

quiet_open : (b : Bool) (d : Effect) → (is_move_answer d ≡ false → IsQuietAction d) → is_move_answer (cond b Nothing d) ≡ false → IsQuietAction (cond b Nothing d)
quiet_open true d f n = tt
quiet_open false d f n = f n

quiet_dies : (b : Bool) → is_death (cond b Nothing Dies) ≡ false → IsQuietAction (cond b Nothing Dies)
quiet_dies true n = tt
quiet_dies false n = cc

-- an event of the engine that answers no search and is not its end
pub engine_effect : (h : Situation) (held : List Order) (e : Event) → is_of_iface e ≡ false → is_move_answer (classify h held e) ≡ false → is_death (classify h held e) ≡ false → IsQuietAction (classify h held e)
unfolding classify
engine_effect h held events.Open i n m = tt
engine_effect h held (events.Engine line) i n m = quiet_open h.closed _ (quiet_says h line (engine_message line)) n
engine_effect h held events.EngineLong i n m = tt
engine_effect h held events.EngineEnd i n m = quiet_dies (is_gone h.engine) m
engine_effect h held events.EngineLost i n m = quiet_dies (is_gone h.engine) m
engine_effect h held e i n m = cc

-- THE ENDS

pub closed_same : (ends ends' : Ends) (e : Event) → ends.closed ≡ ends'.closed → (ends_after ends e).closed ≡ (ends_after ends' e).closed
closed_same ends ends' (events.Iface line) c = ap (λ (b : Bool). b || is_quit line) c
closed_same ends ends' events.IfaceEnd c = refl
closed_same ends ends' events.IfaceLost c = refl
closed_same ends ends' e c = c

pub closed_still : (ends : Ends) (e : Event) → is_of_iface e ≡ false → (ends_after ends e).closed ≡ ends.closed
closed_still ends (events.Iface line) i = cc
closed_still ends events.IfaceEnd i = cc
closed_still ends events.IfaceLost i = cc
closed_still ends e i = refl

pub or_no : (a b : Bool) → b ≡ false → (a || b) ≡ a
or_no true b e = refl
or_no false b e = e

-- pings that are held stay, where they are held only while a Move is owed
pub kept_pings : (closed owes : Bool) (ps : List ℕ) → (closed ≡ false → owes ≡ false → ps ≡ []) → cond (answers_pings closed owes) [] ps ≡ ps
kept_pings true owes ps f = refl
kept_pings false true ps f = refl
kept_pings false false ps f = sym (f refl refl)

-- the game is abandoned, if that is so
abbrev pub given_up : Bool → Commanded → Commanded
given_up b c = record c { mode = over_where b c.mode }

-- an engine that is there does not resign for being gone
pub no_resigner : (wants gone owes : Bool) → gone ≡ false → (wants && (gone && owes)) ≡ false
no_resigner true gone owes e = ap (λ (b : Bool). b && owes) e
no_resigner false gone owes e = refl

abbrev pub answered : Bool → Commanded → Commanded
answered b c = record c { pings = cond b [] c.pings }
