-- The engine's report on its search.
use Rattle.std.specs.Prelude.{ℕ, Bool, List, Option}
use Rattle.protocol_tokens.specs.Tokens.{tokens}
use Rattle.chess_board.specs.declared.board.Move.{Move}
use Rattle.uci_lines.specs.declared.messages.Score.{Score}
use Rattle.uci_lines.specs.declared.messages.Info as code
use Rattle.uci_lines.specs.Moves.{longest_move_run}

-- the report of an engine on its search, with the moves of its pv
pub record Info : Type 0 where
  pub depth : Option ℕ
  pub time : Option ℕ
  pub nodes : Option ℕ
  pub multipv : Option ℕ
  pub number : Option ℕ
  pub score : Option Score
  pub bound : Bool
  pub current : Option Move
  pub pv : List Move

abbrev pub info_of : code.Info → Info
info_of i = record {
  depth = i.depth;
  time = i.time;
  nodes = i.nodes;
  multipv = i.multipv;
  number = i.number;
  score = i.score;
  bound = i.bound;
  current = i.current;
  pv = longest_move_run (tokens i.pv.now);
}
