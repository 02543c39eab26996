-- A bridge refuses no line that a driver writes, and its game is then the engine's.
use Rattle.std.proofs.Common.{◌≡◌, ℕ, ◌<◌, ◌≤◌, List, [], ◌∷◌, ◌++◌, length, Bool, true, false, cond, ◌||◌, nat_le, Option, Some, None, Result, Ok, Err, refl, sym, ap, subst, ◌∙◌, arith}
use Rattle.std.specs.Prelude.{codes}
use Rattle.std.proofs.lemmas.Bool.Decides.{nat_tests}
use Rattle.line_io.specs.Event.{Event, Iface}
use Rattle.chess_board.specs.declared.board.Move.{Move}
use Rattle.chess_board.specs.Place.{legal}
use Rattle.chess_board.specs.Position.{Position}
use Rattle.chess_board.specs.Play.{start_position}
use Rattle.chess_board.specs.Text.{text_of_move}
use Rattle.chess_board.proofs.Legal.{legal-law}
use Rattle.chess_board.proofs.Texts.{legal-written}
use Rattle.fen_text.specs.declared.fault.FenFault.{FenFault}
use Rattle.fen_text.specs.Fen.{position_of}
use Rattle.game_record.specs.Game.{Ply, Game, game_from, current_position, ply_of, with_ply}
use Rattle.cecp_lines.specs.Messages.{IfaceMsg}
use Rattle.cecp_lines.specs.Messages as says
use Rattle.cecp_lines.specs.Reading.{message_or_fault}
use Rattle.protocol_tokens.specs.Quit.{is_quit}
use Rattle.cecp_lines.specs.Quit.{is_quit_message}
use Rattle.cecp_lines.proofs.Quits.{quit_first}
use Rattle.cecp_lines.specs.declared.iface.IfaceFault.{IfaceFault}
use Rattle.cecp_lines.proofs.Complete.{spells_reading}
use Rattle.policy_rules.specs.declared.setting_rules.settings.Settings.{Settings}
use Rattle.uci_lines.specs.Orders.{uci_order_text}
use Rattle.desk_rules.specs.declared.effect.Refusal.{Refusal}
use Rattle.desk_rules.specs.Desk.{Situation}
use Rattle.desk_rules.specs.Early.{may_wait}
use Rattle.desk_rules.specs.Lines.{desk_at_position, asks, change, early_verdict, is_early, verdict_on, refusal, line_verdict}
use Rattle.desk_rules.specs.Steps.{Nothing, classify, desk_after_effect, line_effect}
use Rattle.adapter_core.specs.Alone.{Alone, lone_after, lone_situation}
use Rattle.driver_state_machine.specs.Lines.{DownLine, XBoard, Protover, Quit, New, Force, Post, SetBoard, Played, St, Level, Time, Otim, Sd, Go, Analyze, OrderMoveNow, Exit, Ping, Accepted, Rejected}
use Rattle.cecp_driver.specs.EngineGame.{EngineCanTakeLine, CanPlay, IsNoQuit, game_set_by}
use Rattle.judge_and_driver_laws.specs.Driver.Wire.{IsCecp, IsMessage, text_without_feed}
use Rattle.judge_and_driver_laws.proofs.Driver.Spelled.{move_spelled}

-- WHAT A MESSAGE DOES

-- the game after a message, by why it is refused
abbrev judged_game : Situation → IfaceMsg → Option Refusal → List ℕ → Game
judged_game h m r line = (desk_after_effect h (line_effect (verdict_on m r) line)).game

-- neither a game, nor a position, nor a move
abbrev IsStill : IfaceMsg → Type 0
IsStill (says.Protover n) = Unit {0}
IsStill says.Quit = Unit {0}
IsStill says.Force = Unit {0}
IsStill says.Post = Unit {0}
IsStill (says.St ms) = Unit {0}
IsStill (says.Level moves base inc) = Unit {0}
IsStill (says.Time n) = Unit {0}
IsStill (says.Otim n) = Unit {0}
IsStill (says.Sd n) = Unit {0}
IsStill says.Go = Unit {0}
IsStill says.Analyze = Unit {0}
IsStill says.MoveNow = Unit {0}
IsStill says.Exit = Unit {0}
IsStill (says.Ping n) = Unit {0}
IsStill (says.Ignored text) = Unit {0}
IsStill m = ⊥

still_game : (h : Situation) (m : IfaceMsg) (r : Option Refusal) (line : List ℕ) → IsStill m → judged_game h m r line ≡ h.desk.game
unfolding desk_after_effect change
still_game h m (Some r) line s = refl
still_game h (says.Protover n) None line s = refl
still_game h says.Quit None line s = refl
still_game h says.Force None line s = refl
still_game h says.Post None line s = refl
still_game h (says.St ms) None line s = refl
still_game h (says.Level moves base inc) None line s = refl
still_game h (says.Time n) None line s = refl
still_game h (says.Otim n) None line s = refl
still_game h (says.Sd n) None line s = refl
still_game h says.Go None line s = refl
still_game h says.Analyze None line s = refl
still_game h says.MoveNow None line s = refl
still_game h says.Exit None line s = refl
still_game h (says.Ping n) None line s = refl
still_game h (says.Ignored text) None line s = refl
still_game h m None line s = absurd s

still_early : (h : Situation) (m : IfaceMsg) → IsStill m → is_early h m ≡ false
still_early h (says.Protover n) s = refl
still_early h says.Quit s = refl
still_early h says.Force s = refl
still_early h says.Post s = refl
still_early h (says.St ms) s = refl
still_early h (says.Level moves base inc) s = refl
still_early h (says.Time n) s = refl
still_early h (says.Otim n) s = refl
still_early h (says.Sd n) s = refl
still_early h says.Go s = refl
still_early h says.Analyze s = refl
still_early h says.MoveNow s = refl
still_early h says.Exit s = refl
still_early h (says.Ping n) s = refl
still_early h (says.Ignored text) s = refl
still_early h m s = absurd s

-- A LINE THAT A BRIDGE TAKES

module _ (o : Settings) (a : Alone) (still : a.ends.closed ≡ false) where
  abbrev h : Situation
  h = lone_situation o a

  abbrev game_after : List ℕ → Game
  game_after line = (lone_after o a (Iface line)).desk.game

  abbrev refused : IfaceMsg → Option Refusal
  refused m = refusal h [] m

  judged_after : (line : List ℕ) (m : IfaceMsg) → message_or_fault line ≡ Ok m → is_early h m ≡ false → game_after line ≡ judged_game h m (refused m) line
  unfolding classify line_verdict
  judged_after line m r e =
      ap (λ (b : Bool). (desk_after_effect h (cond b Nothing (line_effect (line_verdict h [] line (message_or_fault line)) line))).game) still
      ∙ ap (λ (x : Result IfaceMsg IfaceFault). (desk_after_effect h (line_effect (line_verdict h [] line x) line)).game) r
      ∙ ap (λ (b : Bool). (desk_after_effect h (line_effect (cond b (early_verdict (may_wait h.desk.early line)) (verdict_on m (refused m))) line)).game) e

  new_judged : (line : List ℕ) → judged_game h says.New (refused says.New) line ≡ game_from start_position
  unfolding desk_after_effect change refusal asks uci_order_text
  new_judged line = refl

  board_judged : (text line : List ℕ) (p : Position) → position_of text ≡ Ok p → judged_game h (says.SetBoard text) (refused (says.SetBoard text)) line ≡ game_from p
  unfolding desk_after_effect change refusal asks
  board_judged text line p e = rw e (ap (λ (x : Result Position FenFault). (desk_at_position a.desk x).game) e)

  move_judged : (m : Move) (line : List ℕ) → CanPlay a.desk.game (ply_of m) → judged_game h (says.UserMove m) (refused (says.UserMove m)) line ≡ with_ply a.desk.game (ply_of m)
  unfolding desk_after_effect change refusal asks
  move_judged m line c =
      let g = a.desk.game in
      let is : legal (current_position g) m ≡ true = (legal-law (current_position g) m.from.index m.to.index m.promotion).1 c.0 in
      let few : length g.moves < 12000 = c.1 in
      let room : nat_le 12000 (length g.moves) ≡ false = grind (arith, nat_tests) in
      rw (is, room) refl

  still_after : (line : List ℕ) (m : IfaceMsg) → message_or_fault line ≡ Ok m → IsStill m → game_after line ≡ a.desk.game
  still_after line m r s = judged_after line m r (still_early h m s) ∙ still_game h m (refused m) line s

  move_after : (line : List ℕ) (m : Move) → message_or_fault line ≡ Ok (says.UserMove m) → CanPlay a.desk.game (ply_of m) → game_after line ≡ with_ply a.desk.game (ply_of m)
  move_after line m r c = judged_after line (says.UserMove m) r refl ∙ move_judged m line c

  -- the line of a message that is still, by which message it is
  still_by : (line : List ℕ) (m n : IfaceMsg) → message_or_fault line ≡ Ok m → m ≡ n → IsStill n → game_after line ≡ a.desk.game
  still_by line m n r e s = still_after line n (r ∙ ap (λ (x : IfaceMsg). Ok x) e) s

  line_after : (l : DownLine) (m : IfaceMsg) → message_or_fault (text_without_feed l) ≡ Ok m → IsMessage l m → EngineCanTakeLine a.desk.game l → game_after (text_without_feed l) ≡ game_set_by a.desk.game l
  line_after New m r i f = judged_after (text_without_feed New) says.New (r ∙ ap (λ (x : IfaceMsg). Ok x) i) refl ∙ new_judged (text_without_feed New)
  line_after (SetBoard p) m r i f =
      let t = i.0 in
      judged_after (text_without_feed (SetBoard p)) (says.SetBoard t) (r ∙ ap (λ (x : IfaceMsg). Ok x) i.1.0) refl ∙ board_judged t (text_without_feed (SetBoard p)) p i.1.1
  line_after (Played has_usermove m) msg r i f =
      let move = i.0 in
      let line = text_without_feed (Played has_usermove m) in
      move_after line move (r ∙ ap (λ (x : IfaceMsg). Ok x) i.1.1) (subst (λ (x : Ply). CanPlay a.desk.game x) (sym i.1.0) f) ∙ ap (with_ply a.desk.game) i.1.0
  line_after XBoard m r i f = still_by (text_without_feed XBoard) m _ r i.1 tt
  line_after Protover m r i f = still_by (text_without_feed Protover) m _ r i tt
  line_after Quit m r i f = still_by (text_without_feed Quit) m _ r i tt
  line_after Force m r i f = still_by (text_without_feed Force) m _ r i tt
  line_after Post m r i f = still_by (text_without_feed Post) m _ r i tt
  line_after (St n) m r i f = still_by (text_without_feed (St n)) m _ r i tt
  line_after (Level k n s) m r i f = still_by (text_without_feed (Level k n s)) m _ r i tt
  line_after (Time n) m r i f = still_by (text_without_feed (Time n)) m _ r i tt
  line_after (Otim n) m r i f = still_by (text_without_feed (Otim n)) m _ r i tt
  line_after (Sd n) m r i f = still_by (text_without_feed (Sd n)) m _ r i tt
  line_after Go m r i f = still_by (text_without_feed Go) m _ r i tt
  line_after Analyze m r i f = still_by (text_without_feed Analyze) m _ r i tt
  line_after OrderMoveNow m r i f = still_by (text_without_feed OrderMoveNow) m _ r i tt
  line_after Exit m r i f = still_by (text_without_feed Exit) m _ r i tt
  line_after (Ping n) m r i f = still_by (text_without_feed (Ping n)) m _ r i tt
  line_after (Accepted name) m r i f = still_by (text_without_feed (Accepted name)) m _ r i.1 tt
  line_after (Rejected name) m r i f = still_by (text_without_feed (Rejected name)) m _ r i.1 tt

-- it is no `quit`
unquit : (l : DownLine) (m : IfaceMsg) → IsNoQuit l → IsMessage l m → is_quit_message (Ok m) ≡ false
unquit Quit m q i = absurd q
unquit XBoard m q i = ap (λ (x : IfaceMsg). is_quit_message (Ok x)) i.1
unquit (SetBoard p) m q i = ap (λ (x : IfaceMsg). is_quit_message (Ok x)) i.1.0
unquit (Played has_usermove k) m q i = ap (λ (x : IfaceMsg). is_quit_message (Ok x)) i.1.1
unquit (Accepted name) m q i = ap (λ (x : IfaceMsg). is_quit_message (Ok x)) i.1
unquit (Rejected name) m q i = ap (λ (x : IfaceMsg). is_quit_message (Ok x)) i.1
unquit l m q i = ap (λ (x : IfaceMsg). is_quit_message (Ok x)) i

-- a bridge that was not closed, and has this game
pub record Holds (a : Alone) (g : Game) : Type 0 where
  pub not_closed : a.ends.closed ≡ false
  pub game : a.desk.game ≡ g

still_open : (a : Alone) (line : List ℕ) (m : IfaceMsg) → a.ends.closed ≡ false → message_or_fault line ≡ Ok m → is_quit_message (Ok m) ≡ false → (a.ends.closed || is_quit line) ≡ false
still_open a line m e r q = ap (λ (b : Bool). b || is_quit line) e ∙ quit_first line ∙ ap is_quit_message r ∙ q

pub takes_line : (o : Settings) (a : Alone) (g : Game) (l : DownLine) (m : IfaceMsg) → Holds a g → IsCecp l m → EngineCanTakeLine g l → IsNoQuit l → Holds (lone_after o a (Iface (text_without_feed l))) (game_set_by g l)
takes_line o a g l m k c f q =
    let r = spells_reading (text_without_feed l) m c.spelled in
    record {
      not_closed = still_open a (text_without_feed l) m k.not_closed r (unquit l m q c.is);
      game = line_after o a k.not_closed l m r c.is (subst (λ (x : Game). EngineCanTakeLine x l) (sym k.game) f) ∙ ap (λ (x : Game). game_set_by x l) k.game;
    }

pub takes_move : (o : Settings) (a : Alone) (g : Game) (m : Move) → Holds a g → CanPlay g (ply_of m) → Holds (lone_after o a (Iface (codes "usermove " ++ text_of_move m))) (with_ply g (ply_of m))
takes_move o a g m k c =
    let line = codes "usermove " ++ text_of_move m in
    let r = spells_reading line (says.UserMove m) (move_spelled true m (legal-written (current_position g) m c.0)) in
    record {
      not_closed = still_open a line (says.UserMove m) k.not_closed r refl;
      game = move_after o a k.not_closed line m r (subst (λ (x : Game). CanPlay x (ply_of m)) (sym k.game) c) ∙ ap (λ (x : Game). with_ply x (ply_of m)) k.game;
    }
