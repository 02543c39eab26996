-- The room for the last thinking line.
use Rattle.std.proofs.Common.{◌≡◌, ℕ, ◌+◌, ◌≤◌, List, [], ◌∷◌, length, Option, Some, None, refl, sym, ap, subst, ◌∙◌, arith, length-append}
use Rattle.std.specs.Prelude.{IfSome}
use Rattle.std.specs.Option.{option_map, option_to_list}
use Rattle.line_io.specs.Out.{Text, empty, with}
use Rattle.chess_board.specs.Position.{Position}
use Rattle.cecp_lines.specs.declared.reply.Spelling.{Spelling}
use Rattle.cecp_lines.specs.Replies.{Reply, reply_text}
use Rattle.uci_lines.specs.Info.{Info as AnyInfo}
use Rattle.uci_lines.specs.Messages.{Info}
use Rattle.think_text.specs.declared.line.Pondered.{Pondered}
use Rattle.think_text.specs.Line.{thinking_line, text_with_line, ThinkingLineHasRoom}
use Rattle.think_text.specs.Last.{ThinkingLine, with_hint}
use Rattle.think_text.proofs.Short.{lines_short}
use Rattle.option_map.specs.FeatureLists.Features.{reply_line, reply_lines}
use Rattle.desk_rules.specs.Fits.{IsSaid}
use Rattle.desk_rules.proofs.Rooms.{line_le, lines-one, most_le}

-- a line without a hint may be kept
kept_by : (o : Option Reply) → ((t : Reply) → o ≡ Some t → length (reply_text t) ≤ 128 + 104857) → ThinkingLineHasRoom (empty 104985) o
kept_by None h = tt
kept_by (Some t) h = omega (arith, h t refl)

pub kept_room : (s : Spelling) (facts : AnyInfo) (p : Position) → IsSaid (Info facts) → ThinkingLineHasRoom (empty 104985) (thinking_line s facts p None)
kept_room s facts p said =
    kept_by (thinking_line s facts p None) (λ t e. let l = most_le s (length said.line) (line_le said.line said.is_line) in omega (arith, l, lines_short s said.line facts p None t tt said.says e))

-- what is written of the last line
abbrev pub IsShort : Option ThinkingLine → Option Pondered → Type 0
IsShort last hint = IfSome last (λ line. length (reply_text (with_hint hint line)) ≤ 104995)

pub last_le : (last : Option ThinkingLine) (hint : Option Pondered) → IsShort last hint → length (reply_lines (option_to_list (option_map (with_hint hint) last))) ≤ 104996
last_le None hint h = omega arith
last_le (Some line) hint h = omega (arith, h, ap length (lines-one (with_hint hint line)), length-append (reply_text (with_hint hint line)) (10 ∷ []))

pub last_feed : (old new : Text) (last : Option ThinkingLine) (hint : Option Pondered) → new ≡ text_with_line old (option_map (with_hint hint) last) → IsShort last hint → length old.text + 104996 ≤ old.room
    → length new.text + 1 ≤ new.room
last_feed old new None hint e h r = omega (arith, r, ap (λ (x : Text). length x.text) e, ap (λ (x : Text). x.room) e)
last_feed old new (Some line) hint e h r =
    omega (arith, h, r, ap (λ (x : Text). length x.text) e, ap (λ (x : Text). x.room) e, length-append old.text (reply_text (with_hint hint line)))
