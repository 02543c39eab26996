-- The text of a position is the line that a game writes.
use Rattle.std.proofs.Common.{◌≡◌, ℕ, List, [], ◌∷◌, ◌++◌, map, Bool, true, false, cond, Some, None, refl, sym, ap, ◌∙◌, arith, append-nil}
use Rattle.std.specs.Prelude.{codes, IfSome}
use Rattle.std.specs.List.{join_with_byte}
use Rattle.std.specs.Option.{option_map}
use Rattle.chess_board.specs.Position.{Position}
use Rattle.fen_text.specs.Written.{position_fen}
use Rattle.uci_lines.specs.Orders.{uci_order_text}
use Rattle.uci_lines.specs.Orders as orders
use Rattle.game_record.specs.Game.{Ply, Game, ply_of, current_position, with_ply, IsPlayablePly}
use Rattle.game_record.specs.Line.{ply_text, spaced_plies, is_standard, game_start_text, game_moves_text, game_position_text}
use Rattle.game_record.proofs.Lines.{reported_none}
use Rattle.search_epochs.specs.declared.words.Call.{Call}
use Rattle.search_epochs.specs.declared.words.Call.TheVariants as calls
use Rattle.desk_rules.specs.Orders.{position_order, pondered, searched}
use Rattle.desk_rules.specs.Fits.{CanSearch}

joined_moves : (m : Ply) (ms : List Ply) → join_with_byte 32 (map ply_text (m ∷ ms)) ≡ ply_text m ++ spaced_plies ms
joined_moves m [] = sym (append-nil (ply_text m))
joined_moves m (n ∷ ms) = ap (λ (t : List ℕ). ply_text m ++ (32 ∷ t)) (joined_moves n ms)

moves_same : (ms : List Ply) → orders.order_moves_text (join_with_byte 32 (map ply_text ms)) ≡ game_moves_text ms
moves_same [] = refl
moves_same (m ∷ ms) = ap orders.order_moves_text (joined_moves m ms) ∙ sym (reported_none (m ∷ ms) (omega arith)) ∙ ap game_moves_text (append-nil (m ∷ ms))

start_same : (p : Position) (b : Bool) → orders.order_start_text (cond b None (Some (position_fen p))) ≡ cond b (codes "startpos") (codes "fen " ++ position_fen p)
start_same p true = refl
start_same p false = refl

pub position_shown : (g : Game) → uci_order_text (position_order g) ≡ game_position_text g None
unfolding uci_order_text game_position_text
position_shown g =
    ap (λ (t : List ℕ). codes "position " ++ (t ++ orders.order_moves_text (join_with_byte 32 (map ply_text g.moves)))) (start_same g.start (is_standard g.start))
    ∙ ap (λ (t : List ℕ). codes "position " ++ (game_start_text g.start ++ t)) (moves_same g.moves ∙ ap game_moves_text (sym (append-nil g.moves)))

pub position_played : (g : Game) (m : Ply) → uci_order_text (position_order (with_ply g m)) ≡ game_position_text g (Some m)
unfolding uci_order_text game_position_text
position_played g m =
    ap (λ (t : List ℕ). codes "position " ++ (t ++ orders.order_moves_text (join_with_byte 32 (map ply_text (g.moves ++ m ∷ []))))) (start_same g.start (is_standard g.start))
    ∙ ap (λ (t : List ℕ). codes "position " ++ (game_start_text g.start ++ t)) (moves_same (g.moves ++ m ∷ []))

-- what a call searches
pub searched_text : (g : Game) (c : Call) → game_position_text g (option_map ply_of (pondered c)) ≡ uci_order_text (position_order (searched g c))
searched_text g calls.Nothing = sym (position_shown g)
searched_text g calls.Move = sym (position_shown g)
searched_text g (calls.Ponder h) = sym (position_played g (ply_of h))
searched_text g calls.Analyse = sym (position_shown g)

pub can_ponder : (g : Game) (c : Call) → CanSearch g c → IfSome (pondered c) (λ m. IsPlayablePly (current_position g) (ply_of m))
can_ponder g calls.Nothing h = tt
can_ponder g calls.Move h = tt
can_ponder g (calls.Ponder m) h = h
can_ponder g calls.Analyse h = tt
