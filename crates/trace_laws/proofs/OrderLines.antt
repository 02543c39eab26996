-- Each order to the engine is one line.
use Rattle.std.proofs.Common.{◌≡◌, ℕ, ◌+◌, ◌<◌, ◌≤◌, List, [], ◌∷◌, ◌++◌, length, not, Bool, true, false, cond, ltb, Option, Some, None, Result, Ok, Err, decimal, codes, refl, subst, arith}
use Rattle.std.specs.Prelude.{IfSome}
use Rattle.std.specs.List.{AllByRecursion, join_with_byte}
use Rattle.std.specs.Option.{option_map, option_to_list}
use Rattle.std.proofs.lemmas.Bool.Decides.{nat_tests}
use Rattle.line_io.specs.Event.{is_line}
use Rattle.line_io.specs.Lines.{is_feed}
use Rattle.chess_board.specs.Position.{Position}
use Rattle.fen_text.specs.Written.{position_fen, board_text, side_text, rights_text, en_passant_text}
use Rattle.fen_text.proofs.Cut.{Above}
use Rattle.fen_text.proofs.Boards.{word-board}
use Rattle.fen_text.proofs.Others.{word-side, word-rights, word-passant}
use Rattle.cecp_lines.specs.Messages.{IfaceMsg}
use Rattle.cecp_lines.specs.Messages as says
use Rattle.cecp_lines.specs.Reading.{message_or_fault}
use Rattle.uci_lines.specs.declared.orders.GoControl.{GoControl}
use Rattle.uci_lines.specs.declared.orders.GoControl.TheVariants.{Infinite, MoveTime, Clock}
use Rattle.uci_lines.specs.Orders.{Order, uci_order_text, optional_number, ponder_text, control_text, go_text}
use Rattle.uci_lines.specs.Orders as orders
use Rattle.game_record.specs.Game.{Ply, Game, ply_of}
use Rattle.game_record.specs.Line.{ply_text, spaced_plies, plies_and_hint, is_standard, game_start_text, game_position_text, game_moves_text}
use Rattle.game_record.proofs.Lines.{most_bytes}
use Rattle.clock_map.specs.declared.request.SearchRequest.{SearchRequest}
use Rattle.clock_map.specs.Search.{order_by_kind, time_of}
use Rattle.clock_map.specs.declared.clocks.Clocks.{Clocks}
use Rattle.chess_board.specs.declared.board.Side.{Side}
use Rattle.protocol_tokens.specs.declared.kinds.GoKind.{GoKind}
use Rattle.protocol_tokens.specs.declared.kinds.GoKind.TheVariants as kinds
use Rattle.option_map.specs.declared.declared_options.fault.OptionFault.{OptionFault}
use Rattle.policy_rules.specs.declared.setting_rules.settings.Settings.{Settings}
use Rattle.option_map.specs.DeclaredOptions.Settings.{OptionSetting}
use Rattle.option_map.specs.DeclaredOptions.Shown.{check_named}
use Rattle.option_map.specs.WaitingOrders.Asked.{asked}
use Rattle.option_map.specs.DeclaredOptions.Spelled.{OrderIsSpelled, AreDeclared}
use Rattle.option_map.proofs.DeclaredOptions.Values.{no_feed, IsPart}
use Rattle.option_map.proofs.WaitingOrders.Asking.{asked_spelled, switches_spelled}
use Rattle.option_map.proofs.WaitingOrders.Orders.{stay_spelled}
use Rattle.search_epochs.specs.declared.words.Call.{Call}
use Rattle.search_epochs.specs.Tickets.{kind_of}
use Rattle.desk_rules.specs.declared.desk.Desk.{Desk}
use Rattle.desk_rules.specs.Desk.{Situation, is_gone, table, analyses, on_move, plies, ponder_name, analyse_name}
use Rattle.desk_rules.specs.Lines.{switches, check_order, asks_for_mode, order_asked_by, asks_of, asks}
use Rattle.desk_rules.specs.Steps.{Effect, Accepts, Boots}
use Rattle.desk_rules.proofs.EarlyOrders.{early_spelled}
use Rattle.desk_rules.specs.Orders.{ponder_at_boot, analysis_at_boot, early_orders, asked_by_effect, orders_waiting, position_order, pondered, searched, search_request, search_orders}
use Rattle.desk_rules.specs.Fits.{EffectFitsDesk, DeskInvariant}
use Rattle.desk_rules.proofs.Searches.{searched_text}
use Rattle.desk_rules.proofs.Waits.{table_declared}
use Rattle.trace_laws.proofs.Pieces.{both_bare, joined, wide, none_part, number_part, numbered, squares_bare}
use Rattle.trace_laws.proofs.Games.{IsGame}

-- the text of the order is one line
abbrev pub IsOrdered : Order → Type 0
IsOrdered order = IsPart 131070 (uci_order_text order)

abbrev pub AreOrdered : List Order → Type 0
AreOrdered list = AllByRecursion IsOrdered list

-- SETTINGS

pub spelled_ordered : (list : List Order) → AllByRecursion (OrderIsSpelled 65700) list → AreOrdered list
spelled_ordered [] h = tt
spelled_ordered (order ∷ list) h = (record { line = h.0.is_line; short = omega (arith, h.0.short) }, spelled_ordered list h.1)

-- an order that sets something, if there is one
abbrev IsSetting : Option Order → Type 0
IsSetting o = IfSome o (OrderIsSpelled 65700)

new_spelled : OrderIsSpelled 65700 orders.NewGame
unfolding uci_order_text
new_spelled = record { fits = refl; is_line = refl; short = omega arith }

wider : (o : Order) → OrderIsSpelled 200 o → OrderIsSpelled 65700 o
wider o s = record { fits = s.fits; is_line = s.is_line; short = omega (arith, s.short) }

reports_setting : (os : List OptionSetting) (name : List ℕ) (on : Bool) → AreDeclared os → IsSetting (check_order os name on)
reports_setting os name on d = by (check_named name os) on refl where
  by : (o : Option (List ℕ)) (on : Bool) → check_named name os ≡ o → IsSetting (option_map (switches on) o)
  by None on e = tt
  by (Some spelled) true e = wider _ (switches_spelled os name spelled (codes "true") d e refl refl (omega arith))
  by (Some spelled) false e = wider _ (switches_spelled os name spelled (codes "false") d e refl refl (omega arith))

mode_setting : (os : List OptionSetting) (before after : Bool) → AreDeclared os → IsSetting (asks_for_mode os before after)
mode_setting os false true d = reports_setting os analyse_name true d
mode_setting os true false d = reports_setting os analyse_name false d
mode_setting os true true d = tt
mode_setting os false false d = tt

line_setting : (os : List OptionSetting) (line : List ℕ) (m : IfaceMsg) → AreDeclared os → is_line line ≡ true → message_or_fault line ≡ Ok m → IsSetting (order_asked_by (asked os m))
line_setting os line m d l r = by (asked os m) refl where
  by : (a : Result (Option Order) OptionFault) → asked os m ≡ a → IsSetting (order_asked_by a)
  by (Ok None) e = tt
  by (Ok (Some order)) e = asked_spelled os line m order d l r e
  by (Err fault) e = tt

desk_setting : (d : Desk) (line : List ℕ) (m : IfaceMsg) → AreDeclared (table d) → is_line line ≡ true → message_or_fault line ≡ Ok m → IsSetting (asks_of d m)
desk_setting d line says.New o l r = new_spelled
desk_setting d line says.Force o l r = mode_setting (table d) (analyses d.mode) false o
desk_setting d line says.Go o l r = mode_setting (table d) (analyses d.mode) false o
desk_setting d line says.PlayOther o l r = mode_setting (table d) (analyses d.mode) false o
desk_setting d line says.Analyze o l r = mode_setting (table d) (analyses d.mode) true o
desk_setting d line says.Exit o l r = mode_setting (table d) (analyses d.mode) false o
desk_setting d line says.Result o l r = mode_setting (table d) (analyses d.mode) false o
desk_setting d line says.Hard o l r = reports_setting (table d) ponder_name true o
desk_setting d line says.Easy o l r = reports_setting (table d) ponder_name false o
desk_setting d line m o l r = line_setting (table d) line m o l r

unless : (b : Bool) (o : Option Order) → IsSetting o → IsSetting (cond b None o)
unless true o h = tt
unless false o h = h

only_if : (b : Bool) (o : Option Order) → IsSetting o → IsSetting (cond b o None)
only_if true o h = h
only_if false o h = tt

one_spelled : (o : Option Order) → IsSetting o → AllByRecursion (OrderIsSpelled 65700) (option_to_list o)
one_spelled None h = tt
one_spelled (Some order) h = (h, tt)

both_spelled : (xs ys : List Order) → AllByRecursion (OrderIsSpelled 65700) xs → AllByRecursion (OrderIsSpelled 65700) ys → AllByRecursion (OrderIsSpelled 65700) (xs ++ ys)
both_spelled [] ys f g = g
both_spelled (x ∷ xs) ys f g = (f.0, both_spelled xs ys f.1 g)

three_spelled : (xs : List Order) (a b : Option Order) → AllByRecursion (OrderIsSpelled 65700) xs → IsSetting a → IsSetting b
    → AllByRecursion (OrderIsSpelled 65700) (xs ++ option_to_list a ++ option_to_list b)
three_spelled xs a b f g h = both_spelled (xs ++ option_to_list a) (option_to_list b) (both_spelled xs (option_to_list a) f (one_spelled a g)) (one_spelled b h)

-- the orders that an effect asks for
effect_spelled : (h : Situation) (held : List Order) (d : Effect) → DeskInvariant h.desk → EffectFitsDesk h held d → AllByRecursion (OrderIsSpelled 65700) (asked_by_effect h d)
unfolding asked_by_effect asks
effect_spelled h held (Accepts m) s f =
    one_spelled (asks (is_gone h.engine) h.desk m)
    (unless (is_gone h.engine) (asks_of h.desk m) (desk_setting h.desk f.line m (table_declared h.desk.booted h.desk.options s.options) f.is_line f.reads))
effect_spelled h held Boots s f =
    three_spelled (early_orders h.desk.options h.desk.early) (ponder_at_boot h.desk) (analysis_at_boot h.desk) (early_spelled h.desk.options h.desk.early s.options s.early.lines)
    (reports_setting h.desk.options ponder_name h.desk.pondering s.options)
    (only_if (analyses h.desk.mode) (check_order h.desk.options analyse_name true) (reports_setting h.desk.options analyse_name true s.options))
effect_spelled h held d s f = tt

-- the orders that wait after an effect
pub waiting_spelled : (h : Situation) (held : List Order) (d : Effect) → DeskInvariant h.desk → EffectFitsDesk h held d → AllByRecursion (OrderIsSpelled 65700) held → AllByRecursion (OrderIsSpelled 65700) (orders_waiting h held d)
waiting_spelled h held d s f a = stay_spelled 65700 held (asked_by_effect h d) a (effect_spelled h held d s f)

-- POSITIONS

word_bare : (w : List ℕ) → Above 32 w → no_feed w ≡ true
word_bare [] a = refl
word_bare (c ∷ cs) a = let h : 32 < c = a.0 in let b : not (is_feed c) ≡ true = grind (arith, nat_tests) in rw (b, word_bare cs a.1) refl

joined_bare : (w : List ℕ) (ws : List (List ℕ)) → AllByRecursion (λ t. no_feed t ≡ true) (w ∷ ws) → no_feed (join_with_byte 32 (w ∷ ws)) ≡ true
joined_bare w [] a = a.0
joined_bare w (v ∷ ws) a = both_bare w _ a.0 (both_bare (32 ∷ []) (join_with_byte 32 (v ∷ ws)) refl (joined_bare v ws a.1))

written_bare : (p : Position) → no_feed (position_fen p) ≡ true
unfolding position_fen
written_bare p =
    joined_bare (board_text p.pieces) (side_text p.side ∷ rights_text p.rights ∷ en_passant_text p.passant ∷ decimal p.half ∷ decimal p.full ∷ []) (
      word_bare (board_text p.pieces) (word-board p.pieces).1,
      (
        word_bare (side_text p.side) (word-side p.side).1,
        (
          word_bare (rights_text p.rights) (word-rights p.rights).1,
          (word_bare (en_passant_text p.passant) (word-passant p.passant).1, ((number_part p.half).line, ((number_part p.full).line, tt))),
        ),
      ),
    )

spaced_bare : (ms : List Ply) → no_feed (spaced_plies ms) ≡ true
spaced_bare [] = refl
spaced_bare (m ∷ ms) = both_bare (32 ∷ ply_text m) (spaced_plies ms) (both_bare (32 ∷ []) (ply_text m) refl (squares_bare m.from m.to m.promotion)) (spaced_bare ms)

start_bare : (b : Bool) (p : Position) → no_feed (cond b (codes "startpos") (codes "fen " ++ position_fen p)) ≡ true
start_bare true p = refl
start_bare false p = both_bare (codes "fen ") (position_fen p) refl (written_bare p)

moves_bare : (b : Bool) (ms : List Ply) → no_feed (cond b (codes " moves" ++ spaced_plies ms) []) ≡ true
moves_bare true ms = both_bare (codes " moves") (spaced_plies ms) refl (spaced_bare ms)
moves_bare false ms = refl

position_bare : (g : Game) (hint : Option Ply) → no_feed (game_position_text g hint) ≡ true
unfolding game_position_text
position_bare g hint =
    let moves = game_moves_text (plies_and_hint g.moves hint) in
    both_bare (codes "position ") (game_start_text g.start ++ moves) refl
    (both_bare (game_start_text g.start) moves (start_bare (is_standard g.start) g.start) (moves_bare (ltb 0 (length (plies_and_hint g.moves hint))) (plies_and_hint g.moves hint)))

position_ordered : (g : Game) (c : Call) → IsGame g → plies g ≤ 12000 → IsOrdered (position_order (searched g c))
position_ordered g c i few =
    let hint = option_map ply_of (pondered c) in
    subst (λ (t : List ℕ). IsPart 131070 t) (searched_text g c) (record { line = position_bare g hint; short = omega (arith, most_bytes g hint i.start.0 few) })

-- SEARCHES

optional_part : {n : ℕ} (prefix words : List ℕ) (k : Option ℕ) → no_feed words ≡ true → length words ≤ 20 → IsPart n prefix → IsPart (n + 84) (prefix ++ optional_number words k)
optional_part {n} prefix words None w s p = wide (n + 84) (prefix ++ []) (joined prefix [] p (none_part 0)) (omega arith)
optional_part {n} prefix words (Some k) w s p =
    let both : IsPart 84 (words ++ decimal k) = joined words (decimal k) (record { line = w; short = s }) (number_part k) in
    joined prefix (words ++ decimal k) p both

control_part : (control : GoControl) → IsPart 420 (control_text control)
control_part Infinite = record { line = refl; short = omega arith }
control_part (MoveTime time) = wide 420 (codes " movetime " ++ decimal time) (numbered [] (codes " movetime ") time refl (omega arith) (none_part 0)) (omega arith)
control_part (Clock w b i j m) =
    let one : IsPart 84 (codes " wtime " ++ decimal w) = numbered [] (codes " wtime ") w refl (omega arith) (none_part 0) in
    let two : IsPart 168 (codes " wtime " ++ decimal w ++ codes " btime " ++ decimal b) = numbered (codes " wtime " ++ decimal w) (codes " btime ") b refl (omega arith) one in
    let three : IsPart 252 (codes " wtime " ++ decimal w ++ codes " btime " ++ decimal b ++ codes " winc " ++ decimal i) =
    numbered (codes " wtime " ++ decimal w ++ codes " btime " ++ decimal b) (codes " winc ") i refl (omega arith) two in
    let four : IsPart 336 (codes " wtime " ++ decimal w ++ codes " btime " ++ decimal b ++ codes " winc " ++ decimal i ++ codes " binc " ++ decimal j) =
    numbered (codes " wtime " ++ decimal w ++ codes " btime " ++ decimal b ++ codes " winc " ++ decimal i) (codes " binc ") j refl (omega arith) three in
    optional_part (codes " wtime " ++ decimal w ++ codes " btime " ++ decimal b ++ codes " winc " ++ decimal i ++ codes " binc " ++ decimal j) (codes " movestogo ") m refl (omega arith) four

ponder_part : (ponder : Bool) → IsPart 10 (codes "go" ++ ponder_text ponder)
ponder_part false = record { line = refl; short = omega arith }
ponder_part true = record { line = refl; short = omega arith }

go_ordered : (ponder : Bool) (control : GoControl) (depth : Option ℕ) → IsOrdered (orders.Go ponder control depth)
unfolding uci_order_text
go_ordered ponder control depth =
    let prefix : IsPart 430 (codes "go" ++ ponder_text ponder ++ control_text control) = joined (codes "go" ++ ponder_text ponder) (control_text control) (ponder_part ponder) (control_part control) in
    wide 131070 (go_text ponder control depth) (optional_part (codes "go" ++ ponder_text ponder ++ control_text control) (codes " depth ") depth refl (omega arith) prefix) (omega arith)

clock_ordered : (k : GoKind) (r : SearchRequest) (c : Clocks) → IsOrdered (order_by_kind k r c)
clock_ordered kinds.Move r c = go_ordered false (time_of c.control c r.side r.plies r.settings.time_margin) _
clock_ordered kinds.Ponder r c = go_ordered true (time_of c.control c r.side r.plies r.settings.time_margin) _
clock_ordered kinds.Analyse r c = go_ordered false Infinite None

pub search_ordered : (o : Settings) (d : Desk) (c : Call) → IsGame d.game → plies d.game ≤ 12000 → AreOrdered (search_orders o d c)
search_ordered o d c i few = (
  position_ordered d.game c i few,
  (clock_ordered (kind_of c) (search_request o d.game c) d.clocks, tt),
)
