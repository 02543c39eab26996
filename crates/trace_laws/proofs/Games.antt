-- The game of each lawful trace is one.
use Rattle.std.proofs.Common.{◌≡◌, ℕ, zero, suc, ◌-◌, length, List, [], ◌∷◌, ◌++◌, take, Result, Ok, Err, refl, sym, ap, ◌∙◌}
use Rattle.std.proofs.lemmas.List.{map-append}
use Rattle.chess_board.specs.declared.board.Move.{Move}
use Rattle.chess_board.specs.Position.{Position}
use Rattle.chess_board.specs.Play.{start_position}
use Rattle.chess_board.proofs.Start.{start-is}
use Rattle.chess_board.proofs.LegalMoves.{is_legal}
use Rattle.fen_text.specs.Fen.{position_of}
use Rattle.fen_text.specs.Written.{IsNormal}
use Rattle.fen_text.proofs.Normal.{read_normal}
use Rattle.fen_text.specs.declared.fault.FenFault.{FenFault}
use Rattle.cecp_lines.specs.Messages.{IfaceMsg}
use Rattle.cecp_lines.specs.Messages as says
use Rattle.uci_lines.specs.Orders.{Order}
use Rattle.game_record.specs.Game.{Ply, Game, ply_of, plies_of, IsPlayablePly, AreLegal, current_position, game_from, without_last}
use Rattle.game_record.proofs.Replays.{legal-append, legal-take}
use Rattle.policy_rules.specs.declared.setting_rules.settings.Settings.{Settings}
use Rattle.desk_rules.specs.declared.desk.Desk.{Desk}
use Rattle.desk_rules.specs.Desk.{Situation, is_boot}
use Rattle.desk_rules.specs.Desk as desks
use Rattle.desk_rules.specs.Lines.{change, desk_at_position}
use Rattle.desk_rules.specs.Steps.{Effect, Accepts, Shows, desk_after_effect}
use Rattle.desk_rules.specs.Fits.{EffectFitsDesk}
use Rattle.desk_rules.proofs.Passes.{passes, can_enter}
use Rattle.adapter_core.specs.Trace.{Step, LawfulTrace, state, situation_of_state, effect}
use Rattle.adapter_core.proofs.Traces.{lasts, fits}
use Rattle.trace_laws.proofs.Boards.{read_is}

-- A game from a position, each move legal in its turn.
pub record IsGame (g : Game) : Type 0 where
  pub start : IsNormal g.start
  pub moves : List Move
  pub moves_are : g.moves ≡ plies_of moves
  pub legal : AreLegal g.start g.moves

pub begun_is : (p : Position) → IsNormal p → IsGame (game_from p)
begun_is p q = record { start = q; moves = []; moves_are = refl; legal = tt }

pub played_is : (g : Game) (m : Move) → IsGame g → IsPlayablePly (current_position g) (ply_of m) → IsGame (desks.game_played g m)
played_is g m i l = record {
  start = i.start;
  moves = i.moves ++ m ∷ [];
  moves_are = ap (λ (ps : List Ply). ps ++ ply_of m ∷ []) i.moves_are ∙ sym (map-append ply_of i.moves (m ∷ []));
  legal = legal-append g.start g.moves (ply_of m) i.legal l;
}

take_map : (k : ℕ) (ms : List Move) → take k (plies_of ms) ≡ plies_of (take k ms)
take_map zero [] = refl
take_map (suc k) [] = refl
take_map zero (m ∷ ms) = refl
take_map (suc k) (m ∷ ms) = ap (λ (ps : List Ply). ply_of m ∷ ps) (take_map k ms)

undone_is : (g : Game) (n : ℕ) → IsGame g → IsGame (without_last g n)
undone_is g n i = record {
  start = i.start;
  moves = take (length g.moves - n) i.moves;
  moves_are = ap (take (length g.moves - n)) i.moves_are ∙ take_map (length g.moves - n) i.moves;
  legal = legal-take (length g.moves - n) g.start g.moves i.legal;
}

placed_is : (d : Desk) (text : List ℕ) (r : Result Position FenFault) → position_of text ≡ r → IsGame d.game → IsGame (desk_at_position d r).game
placed_is d text (Ok p) e i = begun_is p (read_is text p e, read_normal text p e)
placed_is d text (Err fault) e i = i

changed_is : (h : Situation) (held : List Order) (m : IfaceMsg) → EffectFitsDesk h held (Accepts m) → IsGame h.desk.game → IsGame (change (is_boot h.engine) h.desk m).game
unfolding change
changed_is h held says.New f i = begun_is start_position (start-is, refl)
changed_is h held (says.UserMove m) f i = played_is h.desk.game m i (can_enter h held (says.UserMove m) (passes h held (says.UserMove m) f.passes))
changed_is h held says.Undo f i = undone_is h.desk.game 1 i
changed_is h held says.Remove f i = undone_is h.desk.game 2 i
changed_is h held (says.SetBoard text) f i = placed_is h.desk text (position_of text) refl i
changed_is h held m f i = i

-- after an effect
pub effect_is : (h : Situation) (held : List Order) (d : Effect) → EffectFitsDesk h held d → IsGame h.desk.game → IsGame (desk_after_effect h d).game
unfolding desk_after_effect
effect_is h held (Accepts m) f i = changed_is h held m f i
effect_is h held (Shows best hint) f i = played_is h.desk.game best i (is_legal (current_position h.desk.game) best f.2)
effect_is h held d f i = i

-- after a lawful trace
pub game_is : (o : Settings) (trace : List Step) → LawfulTrace o trace → IsGame (state o trace).desk.game
game_is o [] l = begun_is start_position (start-is, refl)
game_is o (step ∷ trace) l =
    let s = state o trace in
    effect_is (situation_of_state s) s.held (effect s step.event) (fits s step (lasts o trace l.0) l.1) (game_is o trace l.0)
