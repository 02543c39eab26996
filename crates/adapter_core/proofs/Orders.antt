-- The words of the orders that are written.
use Rattle.std.proofs.Common.{◌≡◌, ℕ, List, [], ◌∷◌, ◌++◌, map, Bool, true, false, refl, ap}
use Rattle.chess_board.specs.declared.board.Side.{Side}
use Rattle.chess_board.specs.declared.board.Side.TheVariants.{White, Black}
use Rattle.protocol_tokens.specs.declared.kinds.GoKind.{GoKind}
use Rattle.protocol_tokens.specs.declared.kinds.GoKind.TheVariants as kinds
use Rattle.cecp_lines.specs.Messages.{IfaceMsg}
use Rattle.cecp_lines.specs.Messages as says
use Rattle.uci_lines.specs.Orders.{Order}
use Rattle.uci_lines.specs.Orders as orders
use Rattle.clock_map.specs.declared.clocks.Clocks.{Clocks}
use Rattle.clock_map.specs.declared.clocks.Control.{Control}
use Rattle.clock_map.specs.declared.clocks.Control.TheVariants.{Session, Fixed}
use Rattle.clock_map.specs.declared.request.SearchRequest.{SearchRequest}
use Rattle.clock_map.specs.Search.{order_by_kind, time_of}
use Rattle.policy_rules.specs.declared.setting_rules.settings.Settings.{Settings}
use Rattle.search_epochs.specs.declared.words.Orders.{Orders}
use Rattle.search_epochs.specs.declared.words.Orders.TheVariants as chosen
use Rattle.search_epochs.specs.declared.words.Said.TheVariants as said
use Rattle.search_epochs.specs.Tickets.{Engine, Boot, Getting, Idle, Search, Gone, Word, Setup, IsReady, Position, Go, AllSetup, What, Says, Quiet, kind_of, leaves_boot, has_no_order}
use Rattle.search_epochs.specs.Dialogue.{words, is_batch_order, forget}
use Rattle.desk_rules.specs.declared.desk.Desk.{Desk}
use Rattle.desk_rules.specs.Desk.{Situation, is_boot}
use Rattle.desk_rules.specs.Steps.{Effect, Accepts, Boots, Readies, Shows, Forfeits, Answers, Dies, what_of, what_accepted, is_boots}
use Rattle.desk_rules.specs.Orders.{order_list, search_request, dialogue_word_of, go_kind_named}
use Rattle.desk_rules.specs.Fits.{EffectFitsDesk}
use Rattle.adapter_core.specs.Trace.{has_ready}
use Rattle.adapter_core.specs.Parts.{none_held}

-- WORDS

times_named : (c : Clocks) (control : Control) (side : Side) (q margin : ℕ) → go_kind_named false (time_of control c side q margin) ≡ kinds.Move
times_named c Session White q margin = refl
times_named c Session Black q margin = refl
times_named c (Fixed time) side q margin = refl

search_word : (k : GoKind) (r : SearchRequest) (c : Clocks) → dialogue_word_of (order_by_kind k r c) ≡ Go k
search_word kinds.Move r c = ap Go (times_named c c.control r.side r.plies r.settings.time_margin)
search_word kinds.Ponder r c = refl
search_word kinds.Analyse r c = refl

batch_words : (ws : List Order) → map dialogue_word_of (ws ++ orders.IsReady ∷ []) ≡ map dialogue_word_of ws ++ IsReady ∷ []
batch_words [] = refl
batch_words (w ∷ ws) = ap (λ xs. dialogue_word_of w ∷ xs) (batch_words ws)

-- the words of the chosen orders
pub words_are : (s : Settings) (ws : List Order) (d : Desk) (o : Orders) → map dialogue_word_of (order_list s ws d o) ≡ words (map dialogue_word_of ws) o
words_are s ws d chosen.None = refl
words_are s ws d chosen.Batch = batch_words ws
words_are s ws d (chosen.Begin c) = ap (λ w. Position ∷ w ∷ []) (search_word (kind_of c) (search_request s d.game c) d.clocks)
words_are s ws d chosen.Hit = refl
words_are s ws d chosen.Stop = refl

batch_ready : (ws : List Word) → AllSetup ws → has_ready (ws ++ IsReady ∷ []) ≡ true
batch_ready [] a = refl
batch_ready (Setup ∷ ws) a = batch_ready ws a
batch_ready x a = absurd a

-- `isready` is alone in the batch
pub ready_words : (ws : List Word) (o : Orders) → AllSetup ws → has_ready (words ws o) ≡ is_batch_order o
ready_words ws chosen.None a = refl
ready_words ws chosen.Batch a = batch_ready ws a
ready_words ws (chosen.Begin c) a = refl
ready_words ws chosen.Hit a = refl
ready_words ws chosen.Stop a = refl

pub no_words : (ws : List Order) → none_held ws ≡ has_no_order (map dialogue_word_of ws)
no_words [] = refl
no_words (w ∷ ws) = refl

-- BOOT

abbrev pub is_uciok : What → Bool
is_uciok (Says said.UciOk) = true
is_uciok w = false

not_boots : (e : Engine) (w : What) → is_uciok w ≡ false → false ≡ leaves_boot e w
not_boots Boot (Says said.UciOk) n = cc
not_boots e w n = refl

line_boots : (m : IfaceMsg) → is_uciok (what_accepted m) ≡ false
line_boots (says.UserMove m) = refl
line_boots says.MoveNow = refl
line_boots m = refl

in_boot : (epoch : ℕ) (e : Engine) → is_boot (forget epoch e) ≡ true → true ≡ leaves_boot e (Says said.UciOk)
in_boot epoch Boot b = refl
in_boot epoch Getting b = cc
in_boot epoch Idle b = cc
in_boot epoch Gone b = cc
in_boot epoch (Search k t s) b = cc

-- Boot is left exactly by its effect
pub boots_are : (epoch : ℕ) (e : Engine) (h : Situation) (held : List Order) (d : Effect) → h.engine ≡ forget epoch e → EffectFitsDesk h held d → is_boots d ≡ leaves_boot e (what_of d)
boots_are epoch e h held Boots same f = in_boot epoch e (rw (← same) (f.1))
boots_are epoch e h held (Accepts m) same f = not_boots e (what_accepted m) (line_boots m)
boots_are epoch e h held Readies same f = not_boots e (Says said.ReadyOk) refl
boots_are epoch e h held (Shows best hint) same f = not_boots e (Says said.Best) refl
boots_are epoch e h held (Forfeits answer) same f = not_boots e (Says said.Best) refl
boots_are epoch e h held Answers same f = not_boots e (Says said.Best) refl
boots_are epoch e h held Dies same f = not_boots e (Says said.Ended) refl
boots_are epoch e h held d same f = not_boots e Quiet refl
