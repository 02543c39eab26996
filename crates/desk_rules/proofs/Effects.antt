-- The facts that each effect tells of the event and of what stood when it came.
use Rattle.std.proofs.Common.{◌≡◌, ℕ, List, Bool, true, false, cond, ◌&&◌, Option, Some, None, IfSome, Result, Ok, Err, refl, sym, ap, subst}
use Rattle.line_io.specs.Event.{Event, is_line}
use Rattle.line_io.specs.Event as events
use Rattle.chess_board.specs.declared.board.Move.{Move}
use Rattle.chess_board.specs.Place.{legal}
use Rattle.chess_board.specs.Position.{Position}
use Rattle.fen_text.specs.declared.fault.FenFault.{FenFault}
use Rattle.fen_text.specs.Fen.{position_of}
use Rattle.protocol_tokens.specs.declared.kinds.GoKind.{GoKind}
use Rattle.protocol_tokens.specs.declared.kinds.GoKind.TheVariants as kinds
use Rattle.cecp_lines.specs.Messages.{IfaceMsg}
use Rattle.cecp_lines.specs.Messages as says
use Rattle.cecp_lines.specs.Reading.{message_or_fault}
use Rattle.cecp_lines.specs.Replies.{IsWritable}
use Rattle.cecp_lines.specs.declared.iface.IfaceFault.{IfaceFault}
use Rattle.cecp_lines.specs.declared.iface.IfaceFault.TheVariants as faults
use Rattle.cecp_lines.specs.declared.reply.Reason.{Reason}
use Rattle.cecp_lines.specs.declared.reply.Reason.TheVariants as reasons
use Rattle.cecp_lines.proofs.Spellings.{reading_spells}
use Rattle.cecp_lines.proofs.Officers.{move_writable}
use Rattle.uci_lines.specs.Orders.{Order}
use Rattle.uci_lines.specs.Info.{Info}
use Rattle.uci_lines.specs.Messages.{EngineMsg}
use Rattle.uci_lines.specs.Messages as hears
use Rattle.uci_lines.specs.Engine.{answer_text, engine_message}
use Rattle.option_map.specs.declared.declared_options.fault.OptionFault.{OptionFault}
use Rattle.option_map.specs.declared.declared_options.fault.OptionFault.TheVariants.{UnknownOption, BadValue}
use Rattle.option_map.specs.WaitingOrders.Asked.{asked}
use Rattle.game_record.specs.Game.{Game, current_position}
use Rattle.search_epochs.specs.declared.words.EngineState.{EngineState}
use Rattle.search_epochs.specs.declared.words.EngineState.TheVariants as states
use Rattle.desk_rules.specs.declared.effect.Refusal.{Refusal}
use Rattle.desk_rules.specs.declared.effect.Refusal.TheVariants as refusals
use Rattle.desk_rules.specs.Desk.{Situation, table, is_full, is_boot, is_getting, is_gone, current}
use Rattle.desk_rules.specs.Early.{is_setting, may_wait}
use Rattle.desk_rules.specs.Lines.{line_verdict, verdict_on, is_early, early_verdict, refusal, or_else, reason_where, illegal_move, move_too_many, no_position, illegal_position, refused_option, needs_engine, lacks_moves, does_not_fit, asks, pings_too_often}
use Rattle.desk_rules.specs.Steps.{Effect, Nothing, LongLine, Names, Declares, Boots, Readies, Shows, Forfeits, Dies, classify, line_effect, engine_says, answers, shows, search_reports}
use Rattle.desk_rules.specs.Fits.{EffectFitsDesk, IsMoveWritable, IsOther, IsCurrentMove, IsSaid, IsLineEvent}

-- THE MOVE OF A REFUSED LINE

-- a move that a message names can be written
abbrev IsWritten : IfaceMsg → Type 0
IsWritten (says.UserMove m) = IsWritable m
IsWritten m = Unit {0}

-- a move that a line spells can be written
written : (line : List ℕ) (m : IfaceMsg) → message_or_fault line ≡ Ok m → IsWritten m
written line (says.UserMove m) r = move_writable line m (reading_spells line (says.UserMove m) r)
written line m r = tt

first_reports : (a b : Option Refusal) → IfSome a IsMoveWritable → IfSome b IsMoveWritable → IfSome (or_else a b) IsMoveWritable
first_reports None b f g = g
first_reports (Some r) b f g = f

reason_reports : (b : Bool) (r : Reason) → IfSome (reason_where b r) IsMoveWritable
reason_reports true r = tt
reason_reports false r = tt

illegal_reports : (b : Bool) (m : Move) → IsWritable m → IfSome (cond b None (Some (refusals.IllegalMove m))) IsMoveWritable
illegal_reports true m w = tt
illegal_reports false m w = w

long_reports : (b : Bool) (m : Move) → IsWritable m → IfSome (cond b (Some (refusals.GameTooLong m)) None) IsMoveWritable
long_reports true m w = w
long_reports false m w = tt

move_reports : (g : Game) (m : IfaceMsg) → IsWritten m → IfSome (illegal_move g m) IsMoveWritable
move_reports g (says.UserMove m) w = illegal_reports (legal (current_position g) m) m w
move_reports g m w = tt

many_reports : (g : Game) (m : IfaceMsg) → IsWritten m → IfSome (move_too_many g m) IsMoveWritable
many_reports g (says.UserMove m) w = long_reports (is_full g) m w
many_reports g m w = tt

no_position_reports : (r : Result Position FenFault) → IfSome (no_position r) IsMoveWritable
no_position_reports (Ok p) = tt
no_position_reports (Err fault) = tt

position_reports : (m : IfaceMsg) → IfSome (illegal_position m) IsMoveWritable
position_reports (says.SetBoard text) = no_position_reports (position_of text)
position_reports m = tt

option_reports : (r : Result (Option Order) OptionFault) → IfSome (refused_option r) IsMoveWritable
option_reports (Ok order) = tt
option_reports (Err UnknownOption) = tt
option_reports (Err BadValue) = tt

refusal_reports : (h : Situation) (held : List Order) (m : IfaceMsg) → IsWritten m → IfSome (refusal h held m) IsMoveWritable
unfolding refusal
refusal_reports h held m w =
    first_reports _ _ (reason_reports (needs_engine h.settings m && is_gone h.engine) reasons.EngineEnded)
    (first_reports _ _ (reason_reports _ reasons.NotAnalyzing)
    (first_reports _ _ (reason_reports (lacks_moves h.desk.game m) reasons.NoMoveToUndo)
    (first_reports _ _ (move_reports h.desk.game m w)
    (first_reports _ _ (many_reports h.desk.game m w)
    (first_reports _ _ (position_reports m)
    (first_reports _ _ (option_reports (asked (table h.desk) m))
    (first_reports _ _ (reason_reports (does_not_fit held (asks (is_gone h.engine) h.desk m)) reasons.TooManySettings)
    (reason_reports (pings_too_often h m) reasons.TooManyPings))))))))

-- LINES OF THE INTERFACE

some_reports : (o : Option Refusal) (r : Refusal) → o ≡ Some r → IfSome o IsMoveWritable → IsMoveWritable r
some_reports o r e f = let g : IfSome (Some r) IsMoveWritable = subst (λ (x : Option Refusal). IfSome x IsMoveWritable) e f in g

judged_fits : (h : Situation) (held : List Order) (line : List ℕ) (m : IfaceMsg) (r : Option Refusal) → h.closed ≡ false → is_line line ≡ true → message_or_fault line ≡ Ok m
    → refusal h held m ≡ r → EffectFitsDesk h held (line_effect (verdict_on m r) line)
judged_fits h held line m None c l reads e = record { line = line; is_line = l; reads = reads; is_open = c; passes = e }
judged_fits h held line m (Some r) c l reads e = record { is_open = c; refusal_writable = some_reports (refusal h held m) r e (refusal_reports h held m (written line m reads)); is_line = l }

-- the middle of three
third : (a b c : Bool) → (a && b && c) ≡ true → b ≡ true
third true true c e = refl
third true false c e = cc
third false b c e = cc

deferred_fits : (h : Situation) (held : List Order) (line : List ℕ) (b : Bool) → h.closed ≡ false → is_line line ≡ true → is_boot h.engine ≡ true → may_wait h.desk.early line ≡ b
    → EffectFitsDesk h held (line_effect (early_verdict b) line)
deferred_fits h held line true c l i e = record { is_open = c; in_boot = i; is_line = l; waits = e }
deferred_fits h held line false c l i e = record { is_open = c; refusal_writable = tt; is_line = l }

early_fits : (h : Situation) (held : List Order) (line : List ℕ) (m : IfaceMsg) (b : Bool) → h.closed ≡ false → is_line line ≡ true → message_or_fault line ≡ Ok m → is_early h m ≡ b
    → EffectFitsDesk h held (line_effect (cond b (early_verdict (may_wait h.desk.early line)) (verdict_on m (refusal h held m))) line)
early_fits h held line m true c l reads e = deferred_fits h held line (may_wait h.desk.early line) c l (third (is_setting m) (is_boot h.engine) h.settings.early_settings e) refl
early_fits h held line m false c l reads e = judged_fits h held line m (refusal h held m) c l reads refl

line_fits : (h : Situation) (held : List Order) (line : List ℕ) (r : Result IfaceMsg IfaceFault) → h.closed ≡ false → is_line line ≡ true → message_or_fault line ≡ r
    → EffectFitsDesk h held (line_effect (line_verdict h held line r) line)
unfolding line_verdict
line_fits h held line (Err faults.UnknownCommand) c l e = record { is_open = c; refusal_writable = tt; is_line = l }
line_fits h held line (Err faults.BadArgument) c l e = record { is_open = c; refusal_writable = tt; is_line = l }
line_fits h held line (Ok m) c l e = early_fits h held line m (is_early h m) c l e refl

-- LINES OF THE ENGINE

thinks_fits : (h : Situation) (held : List Order) (facts : Info) (k : Option GoKind) → h.closed ≡ false → current h.engine ≡ k → IsSaid (hears.Info facts) → EffectFitsDesk h held (search_reports k facts)
thinks_fits h held facts None c e s = tt
thinks_fits h held facts (Some k) c e s = (c, e, s)

shown_fits : (h : Situation) (held : List Order) (line : List ℕ) (m : Move) (hint : Option Move) (b : Bool) → h.closed ≡ false → IsCurrentMove h.engine → legal (current_position h.desk.game) m ≡ b
    → EffectFitsDesk h held (cond b (Shows m hint) (Forfeits (answer_text line)))
shown_fits h held line m hint true c e l = (c, e, l)
shown_fits h held line m hint false c e l = (c, e)

shows_fits : (h : Situation) (held : List Order) (line : List ℕ) (best hint : Option Move) → h.closed ≡ false → IsCurrentMove h.engine → EffectFitsDesk h held (shows h.desk.game line best hint)
shows_fits h held line None hint c e = (c, e)
shows_fits h held line (Some m) hint c e = shown_fits h held line m hint (legal (current_position h.desk.game) m) c e refl

other_search : (e f : EngineState) → e ≡ f → IsOther f → IsOther e
other_search e f p i = subst IsOther (sym p) i

answers_fits : (h : Situation) (held : List Order) (line : List ℕ) (e : EngineState) (best hint : Option Move) → h.closed ≡ false → h.engine ≡ e → EffectFitsDesk h held (answers e h.desk.game line best hint)
answers_fits h held line (states.Search kinds.Move false stopped) best hint c e = shows_fits h held line best hint c (ap current e)
answers_fits h held line (states.Search x true stopped) best hint c e = (c, other_search h.engine _ e tt)
answers_fits h held line (states.Search x y stopped) best hint c e = (c, other_search h.engine _ e tt)
answers_fits h held line x best hint c e = tt

-- an effect that comes only in one state
only_in : (h : Situation) (held : List Order) (b : Bool) (d : Effect) (x : Bool) → x ≡ b → (x ≡ true → EffectFitsDesk h held d) → EffectFitsDesk h held (cond b d Nothing)
only_in h held true d x e f = f e
only_in h held false d x e f = tt

says_fits : (h : Situation) (held : List Order) (line : List ℕ) (m : EngineMsg) → h.closed ≡ false → is_line line ≡ true → engine_message line ≡ m → EffectFitsDesk h held (engine_says h line m)
says_fits h held line hears.Nothing c l e = tt
says_fits h held line (hears.Name text) c l e = only_in h held (is_boot h.engine) (Names text) (is_boot h.engine) refl (λ b. (c, b))
says_fits h held line (hears.OptionLine name shape) c l e =
    only_in h held (is_boot h.engine) (Declares name shape) (is_boot h.engine) refl (λ b. (c, b, record { line = line; is_line = l; says = e }))
says_fits h held line hears.UciOk c l e = only_in h held (is_boot h.engine) Boots (is_boot h.engine) refl (λ b. (c, b))
says_fits h held line hears.ReadyOk c l e = only_in h held (is_getting h.engine) Readies (is_getting h.engine) refl (λ b. (c, b))
says_fits h held line (hears.Info facts) c l e = thinks_fits h held facts (current h.engine) c refl (record { line = line; is_line = l; says = e })
says_fits h held line (hears.Best best hint) c l e = answers_fits h held line h.engine best hint c refl

-- EVENTS

unless_closed : (h : Situation) (held : List Order) (b : Bool) (d : Effect) → h.closed ≡ b → (h.closed ≡ false → EffectFitsDesk h held d) → EffectFitsDesk h held (cond b Nothing d)
unless_closed h held true d e f = tt
unless_closed h held false d e f = f e

dies_fits : (h : Situation) (held : List Order) (b : Bool) → is_gone h.engine ≡ b → EffectFitsDesk h held (cond b Nothing Dies)
dies_fits h held true e = tt
dies_fits h held false e = e

pub comes_fits : (h : Situation) (held : List Order) (e : Event) → IsLineEvent e → EffectFitsDesk h held (classify h held e)
unfolding classify
comes_fits h held (events.Iface line) l =
    unless_closed h held h.closed (line_effect (line_verdict h held line (message_or_fault line)) line) refl (λ c. line_fits h held line (message_or_fault line) c l refl)
comes_fits h held events.IfaceLong l = unless_closed h held h.closed LongLine refl (λ c. tt)
comes_fits h held (events.Engine line) l =
    unless_closed h held h.closed (engine_says h line (engine_message line)) refl (λ c. says_fits h held line (engine_message line) c l refl)
comes_fits h held events.EngineEnd l = dies_fits h held (is_gone h.engine) refl
comes_fits h held events.EngineLost l = dies_fits h held (is_gone h.engine) refl
comes_fits h held e l = tt
