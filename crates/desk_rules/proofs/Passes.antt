-- The facts of a message that is not refused.
use Rattle.std.proofs.Common.{◌≡◌, ℕ, ◌<◌, ◌≤◌, List, length, Bool, true, false, not, cond, ◌&&◌, ◌||◌, nat_le, nat_lt, Option, Some, None, refl, arith}
use Rattle.std.proofs.lemmas.Bool.Decides.{nat_tests}
use Rattle.chess_board.specs.Place.{legal}
use Rattle.chess_board.proofs.LegalMoves.{is_legal}
use Rattle.protocol_tokens.specs.declared.kinds.GoKind.{GoKind}
use Rattle.cecp_lines.specs.Messages.{IfaceMsg}
use Rattle.cecp_lines.specs.Messages as says
use Rattle.cecp_lines.specs.Reading.{CanBeRead}
use Rattle.cecp_lines.specs.declared.reply.Reason.{Reason}
use Rattle.cecp_lines.specs.declared.reply.Reason.TheVariants as reasons
use Rattle.cecp_lines.proofs.Spellings.{reading_spells}
use Rattle.uci_lines.specs.Orders.{Order}
use Rattle.game_record.specs.Game.{current_position}
use Rattle.option_map.specs.WaitingOrders.Asked.{asked}
use Rattle.search_epochs.specs.declared.words.Call.{Call}
use Rattle.search_epochs.specs.declared.words.Call.TheVariants as calls
use Rattle.search_epochs.specs.Tickets.{SearchServesCall}
use Rattle.desk_rules.specs.declared.effect.Refusal.{Refusal}
use Rattle.desk_rules.specs.declared.desk.Desk.{Desk}
use Rattle.desk_rules.specs.Desk.{Situation, table, analyses, is_gone, is_full, plies, call_of_desk, call_in, current}
use Rattle.desk_rules.specs.Lines.{asks, or_else, reason_where, needs_engine, needs_analysis, lacks_moves, illegal_move, move_too_many, illegal_position, refused_option, does_not_fit, pings_too_often, refusal}
use Rattle.desk_rules.specs.Fits.{IsAccepted, IsServed, CanChange, CanEnter}

-- the tests that it passed
pub record Passes (h : Situation) (held : List Order) (m : IfaceMsg) : Type 0 where
  pub moves : lacks_moves h.desk.game m ≡ false
  pub legal : illegal_move h.desk.game m ≡ None
  pub few : move_too_many h.desk.game m ≡ None
  pub position : illegal_position m ≡ None
  pub option : refused_option (asked (table h.desk) m) ≡ None
  pub fits : does_not_fit held (asks (is_gone h.engine) h.desk m) ≡ false
  pub pings : pings_too_often h m ≡ false

first_none : (a b : Option Refusal) → or_else a b ≡ None → a ≡ None
first_none None b e = refl
first_none (Some r) b e = cc

then_none : (a b : Option Refusal) → or_else a b ≡ None → b ≡ None
then_none None b e = e
then_none (Some r) b e = cc

not_where : (b : Bool) (r : Reason) → reason_where b r ≡ None → b ≡ false
not_where true r e = cc
not_where false r e = refl

record AllNone (a b c d e f g h i : Option Refusal) : Type 0 where
  third : c ≡ None
  fourth : d ≡ None
  fifth : e ≡ None
  sixth : f ≡ None
  seventh : g ≡ None
  eighth : h ≡ None
  ninth : i ≡ None

all_none : (a b c d e f g h i : Option Refusal) → or_else a (or_else b (or_else c (or_else d (or_else e (or_else f (or_else g (or_else h i))))))) ≡ None → AllNone a b c d e f g h i
all_none a b c d e f g h i x =
    let x2 = then_none a (or_else b (or_else c (or_else d (or_else e (or_else f (or_else g (or_else h i))))))) x in
    let x3 = then_none b (or_else c (or_else d (or_else e (or_else f (or_else g (or_else h i)))))) x2 in
    let x4 = then_none c (or_else d (or_else e (or_else f (or_else g (or_else h i))))) x3 in
    let x5 = then_none d (or_else e (or_else f (or_else g (or_else h i)))) x4 in
    let x6 = then_none e (or_else f (or_else g (or_else h i))) x5 in
    let x7 = then_none f (or_else g (or_else h i)) x6 in
    let x8 = then_none g (or_else h i) x7 in
    record {
      third = first_none c (or_else d (or_else e (or_else f (or_else g (or_else h i))))) x3;
      fourth = first_none d (or_else e (or_else f (or_else g (or_else h i)))) x4;
      fifth = first_none e (or_else f (or_else g (or_else h i))) x5;
      sixth = first_none f (or_else g (or_else h i)) x6;
      seventh = first_none g (or_else h i) x7;
      eighth = first_none h i x8;
      ninth = then_none h i x8;
    }

pub passes : (h : Situation) (held : List Order) (m : IfaceMsg) → refusal h held m ≡ None → Passes h held m
unfolding refusal
passes h held m e =
    let unfit = does_not_fit held (asks (is_gone h.engine) h.desk m) in
    let n = all_none (reason_where (needs_engine h.settings m && is_gone h.engine) reasons.EngineEnded) (reason_where (needs_analysis m && not (analyses h.desk.mode)) reasons.NotAnalyzing)
    (reason_where (lacks_moves h.desk.game m) reasons.NoMoveToUndo) (illegal_move h.desk.game m) (move_too_many h.desk.game m)
    (illegal_position m) (refused_option (asked (table h.desk) m)) (reason_where unfit reasons.TooManySettings) (reason_where (pings_too_often h m) reasons.TooManyPings) e in
    record {
      moves = not_where (lacks_moves h.desk.game m) reasons.NoMoveToUndo n.third;
      legal = n.fourth;
      few = n.fifth;
      position = n.sixth;
      option = n.seventh;
      fits = not_where unfit reasons.TooManySettings n.eighth;
      pings = not_where (pings_too_often h m) reasons.TooManyPings n.ninth;
    }

-- WHAT IT NEEDS OF THE DESK

legal_of : (b : Bool) (r : Refusal) → cond b None (Some r) ≡ None → b ≡ true
legal_of true r e = refl
legal_of false r e = cc

few_of : (b : Bool) (r : Refusal) → cond b (Some r) None ≡ None → b ≡ false
few_of true r e = cc
few_of false r e = refl

below : (n : ℕ) → nat_le 12000 n ≡ false → n < 12000
below n e = grind (arith, nat_tests)

least : (n k : ℕ) → nat_lt n k ≡ false → k ≤ n
least n k e = grind (arith, nat_tests)

pub can_enter : (h : Situation) (held : List Order) (m : IfaceMsg) → Passes h held m → CanEnter h.desk.game m
can_enter h held (says.UserMove m) p = is_legal (current_position h.desk.game) m (legal_of (legal (current_position h.desk.game) m) _ p.legal)
can_enter h held m p = tt

pub can_change : (h : Situation) (held : List Order) (m : IfaceMsg) → length h.desk.pings ≤ 64 → IsAccepted h held m → CanChange h.desk m
can_change h held (says.UserMove m) l a =
    let p = passes h held (says.UserMove m) a.passes in
    (can_enter h held (says.UserMove m) p, below (plies h.desk.game) (few_of (is_full h.desk.game) _ p.few))
can_change h held says.Undo l a = least (plies h.desk.game) 1 (passes h held says.Undo a.passes).moves
can_change h held says.Remove l a = least (plies h.desk.game) 2 (passes h held says.Remove a.passes).moves
can_change h held (says.Ping n) l a = omega arith
can_change h held m l a = tt

pub can_read : (h : Situation) (held : List Order) (m : IfaceMsg) → IsAccepted h held m → CanBeRead m
can_read h held m a = (a.line, reading_spells a.line m a.reads)

-- where a search is served, the game is not full
last_false : (a b c : Bool) → (a || b || c) ≡ false → c ≡ false
last_false true b c e = cc
last_false false true c e = cc
last_false false false c e = e

pub served_short : (b : Bool) (c : Call) (k : GoKind) → SearchServesCall k (cond b calls.Nothing c) → b ≡ false
served_short true c k s = cc (s.0)
served_short false c k s = refl

not_full : (closed gone : Bool) (d : Desk) (k : GoKind) → SearchServesCall k (call_of_desk closed gone d) → plies d.game < 12000
unfolding call_of_desk
not_full closed gone d k s = below (plies d.game) (last_false closed gone (is_full d.game) (served_short (closed || gone || is_full d.game) (call_in d d.mode) k s))

pub served_few : (h : Situation) (k : GoKind) → IsServed h → h.closed ≡ false → current h.engine ≡ Some k → plies h.desk.game < 12000
served_few h k s c e = not_full h.closed (is_gone h.engine) h.desk k (s c k e)
